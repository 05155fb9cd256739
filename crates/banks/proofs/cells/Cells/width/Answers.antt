use Rattle.std.proofs.Common.{◌≡◌, sym, ◌∙◌, rules}
use Rattle.banks.proofs.CellTables.{by_option, width_there, width_none}
use Rattle.banks.proofs.cells.Cells.width.Goals as goal

pub returns : goal.returns
returns c = by_option c.cell.result _ _ c.map_or.ensures
    (λ e p. p ∙ width_none c.args.self.now.count c.args.self.now.cells c.args.a (sym c.cell.ensures ∙ e))
    (λ x e q. let r : c.map_or.result ≡ x.width = search rules in r ∙ width_there c.args.self.now.count c.args.self.now.cells c.args.a x (sym c.cell.ensures ∙ e))
