use Rattle.std.proofs.Common.{rules, tests, ◌≡◌, ◌<◌, length, sym, ap, ◌∙◌, arith}
use Rattle.std.proofs.lemmas.Bool.{eqb-false}
use Rattle.std.specs.Slice.Iter.{iter_rest}
use Rattle.texts.specs.Digits.{written, narrow}
use Rattle.texts.proofs.Folding.{folded}
use Rattle.texts.proofs.Numbers.{numeral_some}
use Rattle.texts.proofs.numerals.numeral_value.Goals as goal

pub returns : goal.returns
returns c =
    let some : 0 < length c.args.digits.now = omega (arith, eqb-false _ 0 (sym c.if-is_empty.ensures)) in
    let (xs, o, q, a, (t, came, step), folds, ends) = c.try_fold.ensures.ran in
    let rest : iter_rest c.iter.result ≡ c.args.digits.now = c.iter.ensures.rest in
    folded _ _ c.args.base _ c.try_fold.result c.requires (λ n x w h k. search (rules, tests)) xs o c.iter.result t c.try_fold.new.self 0 (q, a) came step folds ends (omega arith)
    ∙ sym (ap narrow (numeral_some c.args.base _ some) ∙ ap (λ bs. narrow (written c.args.base 0 bs)) (sym rest))
