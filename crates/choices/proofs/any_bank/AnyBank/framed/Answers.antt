use Rattle.std.proofs.Common.{sym, ap, ◌∙◌, subst, inl, inr}
use Rattle.banks.specs.declared.either.Either.TheVariants.{Second}
use Rattle.banks.specs.Frame.{over, frame}
use Rattle.banks.specs.Meanings.{table_of}
use Rattle.choices.specs.Banks.{plain, plain_meaning, frame_meaning, choice_meaning, NewFrame}
use Rattle.choices.proofs.any_bank.AnyBank.framed.Goals as goal

pub returns-in_ok-frame-in-First-clause-made : goal.returns-in_ok-frame-in-First-clause-made
returns-in_ok-frame-in-First-clause-made c =
    let made = c.in_ok-frame-in-First.frame in
    let e = c.in_ok-frame-in-First.ensures in
    subst (λ m. NewFrame m c.args.widths.now (inr (inl (frame_meaning plain plain_meaning made)))) (sym (ap choice_meaning c.in-First.is))
    (table_of made.slots, e.slots, ap (λ b. inr (inl (over plain (plain_meaning b) (table_of made.slots)))) e.bank)

pub returns-in_ok-frame-in-First-layers-clause-made : goal.returns-in_ok-frame-in-First-layers-clause-made
returns-in_ok-frame-in-First-layers-clause-made c =
    let made = c.in_ok-frame-in-First-layers.frame in
    let e = c.in_ok-frame-in-First-layers.ensures in
    subst (λ m. NewFrame m c.args.widths.now (inr (inr (frame_meaning (frame plain) (frame_meaning plain plain_meaning) made)))) (sym (ap choice_meaning c.in-Second.is ∙ ap (λ layers. choice_meaning (Second layers)) c.in-First-layers.is))
    (table_of made.slots, e.slots, ap (λ b. inr (inr (over (frame plain) (frame_meaning plain plain_meaning b) (table_of made.slots)))) e.bank)
