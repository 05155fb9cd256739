use Rattle.std.proofs.Common.{◌≡◌, ℕ, ◌<◌, get_or, rules, arith}
use Rattle.banks.specs.declared.loss.Loss.TheVariants.{Call, Pause}
use Rattle.banks.specs.Outlines.{Bits}
use Rattle.banks.specs.Kind.{Description, Described}
use Rattle.banks.proofs.FromFn.{made_at}
use Rattle.banks.proofs.Outlined.{bits_all, not_over_above, outline_is}
use Rattle.banks.proofs.outline.Outline.of.Goals as goal

pub returns : goal.returns
returns g c =
    let d : Description = g.B.Bank.kind.describe (g.B.Bank.meaning c.args.bank.now) in
    let D : Described d = g.met.B.Bank.shows.described (g.B.Bank.meaning c.args.bank.now) in
    let width : (a : ℕ) → a < 64 → get_or c.from_fn.result a 0 ≡ d.width a = λ a l. made_at _ (λ a w. w ≡ d.width a) _ (λ i y q k. search rules) c.from_fn.result 0 64 0 c.from_fn.ensures.items.each a (omega arith) (omega arith) in
    let touches : (a : ℕ) → a < 64 → Bits (get_or c.from_fn-2.result a 0) (d.touches a) = λ a l. made_at _ (λ a w. Bits w (d.touches a)) _ (λ i y q k. search rules) c.from_fn-2.result 0 64 0 c.from_fn-2.ensures.items.each a (omega arith) (omega arith) in
    let call : Bits c.mask.result (d.kept_over Call) = bits_all c.mask.result (d.kept_over Call) (λ i l. let told = c.mask.ensures.told i l in search rules) c.mask.ensures.others (not_over_above D Call) in
    let pause : Bits c.mask-2.result (d.kept_over Pause) = bits_all c.mask-2.result (d.kept_over Pause) (λ i l. let told = c.mask-2.ensures.told i l in search rules) c.mask-2.ensures.others (not_over_above D Pause) in
    outline_is D _ c.names.ensures c.from_fn.ensures.items.long width c.from_fn-2.ensures.items.long touches call pause
