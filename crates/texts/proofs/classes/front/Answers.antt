use Rattle.std.proofs.Common.{rules, ◌∙◌}
use Rattle.std.proofs.lemmas.Iterator.{YieldsList-from_slice}
use Rattle.std.proofs.lemmas.Iterator.Consumers.{count_from_yields_List}
use Rattle.std.proofs.lemmas.Iterator.Search.{YieldsList-from_take_while}
use Rattle.std.proofs.lemmas.List.Folds.{length-prefix_len}
use Rattle.texts.proofs.classes.front.Goals as goal

pub returns-clause-count : goal.returns-clause-count
returns-clause-count g c class holds =
    count_from_yields_List _ _ c.count.ensures.ran (YieldsList-from_take_while _ class (YieldsList-from_slice c.args.bytes.now (cc)) c.take_while.ensures.closure c.take_while.ensures.done (λ x b q k. search (rules, holds)))
    ∙ length-prefix_len class c.args.bytes.now
