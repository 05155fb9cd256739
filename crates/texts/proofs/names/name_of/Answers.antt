use Rattle.std.proofs.Common.{sym, ◌∙◌}
use Rattle.texts.proofs.Naming.{name_utf8, ok_since}
use Rattle.texts.proofs.names.name_of.Goals as goal

pub returns-then-is_name-clause-test : goal.returns-then-is_name-clause-test
returns-then-is_name-clause-test c =
    let name = sym c.if-is_name.ensures in
    c.ok.ensures.variant ∙ ok_since c.from_utf8.result _ _ c.from_utf8.ensures.cases (λ e h. h.0 (name_utf8 c.args.word.now name)) ∙ sym name
