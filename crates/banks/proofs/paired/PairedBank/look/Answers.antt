use Rattle.std.proofs.Common.{◌≡◌, ◌+◌, ◌-◌, length, ap₂, ◌∙◌, arith, rules}
use Rattle.banks.specs.Meanings.{bytes_of}
use Rattle.banks.specs.Paired.{number_in}
use Rattle.banks.proofs.CellBytes.{cells_within, number_part}
use Rattle.banks.proofs.paired.PairedBank.look.Goals as goal

pub returns : goal.returns
returns c =
    let s = c.first_cell-first.result in
    let n = c.cells_of.result in
    let many : length c.args.self.now.cells ≡ 16 = search rules in
    c.number_in.ensures ∙ number_part c.args.self.now.cells s (s + n - s) n (omega arith) (omega (arith, cells_within c.args.a))
    ∙ ap₂ (number_in (bytes_of c.args.self.now)) c.first_cell-first.ensures c.cells_of.ensures
