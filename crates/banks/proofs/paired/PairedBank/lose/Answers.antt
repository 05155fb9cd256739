use Rattle.std.proofs.Common.{◌≡◌, length, w64, sym, ap, ◌∙◌, rules}
use Rattle.std.specs.Int.{to_le_bytes}
use Rattle.banks.specs.Meanings.{bytes_of}
use Rattle.banks.specs.Paired.{cells_lost, lost_cells}
use Rattle.banks.proofs.CellBytes.{half_lost, all_lost}
use Rattle.banks.proofs.paired.PairedBank.lose.Goals as goal

pub returns-in-Call : goal.returns-in-Call
returns-in-Call c =
    let many : length c.args.self.now.cells ≡ 16 = search rules in
    let lower : c.copy_from_slice.new.self ≡ to_le_bytes w64 c.args.w = search rules in
    half_lost c.args.self.now.cells c.copy_from_slice.new.self c.args.w many lower
    ∙ ap (λ l. lost_cells (cells_lost l) (bytes_of c.args.self.now) c.args.w) (sym c.in-Call.is)

pub returns-in-Pause : goal.returns-in-Pause
returns-in-Pause c =
    let many : length c.args.self.now.cells ≡ 16 = search rules in
    let lower : c.copy_from_slice.new.self ≡ to_le_bytes w64 c.args.w = search rules in
    let upper : c.copy_from_slice-in-Pause.new.self ≡ to_le_bytes w64 c.args.w = search rules in
    all_lost c.args.self.now.cells c.copy_from_slice.new.self c.args.w many lower c.copy_from_slice-in-Pause.new.self upper
    ∙ ap (λ l. lost_cells (cells_lost l) (bytes_of c.args.self.now) c.args.w) (sym c.in-Pause.is)
