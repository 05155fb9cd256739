use Rattle.std.proofs.Common.{rules, ◌∙◌, sym, tests}
use Rattle.std.proofs.lemmas.Iterator.{YieldsList-from_slice}
use Rattle.std.proofs.lemmas.Iterator.Search.{all_from_yields_List}
use Rattle.texts.specs.Classes.{letter}
use Rattle.texts.proofs.Naming.{all_name}
use Rattle.texts.proofs.names.is_name.Goals as goal

pub returns-then-not-is_empty : goal.returns-then-not-is_empty
returns-then-not-is_empty c = all_from_yields_List letter _ _ c.all.result c.all.ensures.ran (YieldsList-from_slice c.args.word.now (cc)) (λ x b q k. search (rules, tests)) ∙ all_name c.args.word.now (sym c.if-not-is_empty.ensures)
