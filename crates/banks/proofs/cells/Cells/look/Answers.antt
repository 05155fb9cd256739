use Rattle.std.proofs.Common.{◌≡◌, sym, ◌∙◌, rules}
use Rattle.banks.specs.Words.{lowest}
use Rattle.banks.specs.Table.{word_of}
use Rattle.banks.proofs.CellTables.{by_option, look_there, look_none}
use Rattle.banks.proofs.cells.Cells.look.Goals as goal

pub returns : goal.returns
returns c = by_option c.cell.result _ _ c.map_or.ensures
    (λ e p. p ∙ look_none c.args.self.now.count c.args.self.now.cells c.args.a (sym c.cell.ensures ∙ e))
    (λ x e q. let r : c.map_or.result ≡ lowest (word_of x) x.width = search rules in r ∙ look_there c.args.self.now.count c.args.self.now.cells c.args.a x (sym c.cell.ensures ∙ e))
