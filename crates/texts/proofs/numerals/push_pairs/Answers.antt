use Rattle.std.proofs.Common.{◌≡◌, Some, ap, [], ◌∷◌, ◌++◌, vec_items, sym, ◌∙◌, append-nil, arith}
use Rattle.texts.proofs.Numbers.{one_pair, unchanged, pushed_after}
use Rattle.std.specs.Slice.Iter.{chunks_rest}
use Rattle.texts.specs.Digits.{then, pairs}
use Rattle.texts.proofs.numerals.push_pairs.Goals as goal

pub loop-digits-init : goal.loop-digits-init
loop-digits-init c =
    let same : c.args.word.now ≡ chunks_rest c.into_iter-digits-iterator.result = cc in
    (cc, [], sym (append-nil _), ap pairs same ∙ unchanged _)

pub loop-digits-preserved : goal.loop-digits-preserved
loop-digits-preserved c =
    let (two, xs, items, sofar) = c.loop-digits.invariant in
    let (size, (cut, _, _)) = c.in-Some.ensures.steps in
    let byte = c.in_ok-byte.byte in (
      size ∙ two,
      xs ++ byte ∷ [],
      pushed_after (vec_items c.args.bytes.now) (vec_items c.loop-digits.bytes) _ xs byte c.in_ok-push.ensures.items items,
      one_pair _ xs c.in-Some.digits.now _ (omega arith) (sofar ∙ ap (λ rest. then (pairs rest) (λ ys. Some (xs ++ ys))) cut) byte (sym c.pair_value.ensures ∙ c.in_ok-byte.ensures.ok_part),
    )
