use Rattle.std.proofs.Common.{◌≡◌, ℕ, ◌+◌, ◌-◌, ◌<◌, ◌≤◌, length, get_or, take, w64, ap, ap₂, ◌∙◌, arith, rules}
use Rattle.std.specs.Int.{to_le_bytes}
use Rattle.std.proofs.lemmas.List.{get_or-take, length-take-le}
use Rattle.banks.specs.Meanings.{bytes_of}
use Rattle.banks.specs.Paired.{written_in}
use Rattle.banks.specs.Words.{byte_of}
use Rattle.banks.proofs.CellBytes.{cells_within, cells_few, le_byte, written_part}
use Rattle.banks.proofs.paired.PairedBank.put.Goals as goal

pub returns : goal.returns
returns c =
    let s = c.first_cell-first.result in
    let n = c.cells_of-n.result in
    let ys = c.copy_from_slice.new.self in
    let many : length c.args.self.now.cells ≡ 16 = search rules in
    let few : n ≤ 8 = omega (arith, cells_few c.args.a) in
    let is : ys ≡ take n (to_le_bytes w64 c.args.w) = search rules in
    let long : length ys ≡ s + n - s = ap length is ∙ length-take-le n (to_le_bytes w64 c.args.w) few ∙ omega arith in
    let bytes : (i : ℕ) → i < s + n - s → get_or ys i 0 ≡ byte_of c.args.w i = λ i h. ap (λ l. get_or l i 0) is ∙ get_or-take n (to_le_bytes w64 c.args.w) i 0 (omega arith) ∙ le_byte c.args.w i (omega arith) in
    written_part c.args.self.now.cells ys s (s + n - s) c.args.w long (omega (arith, cells_within c.args.a)) bytes
    ∙ ap₂ (λ (x y : ℕ). written_in (bytes_of c.args.self.now) x y c.args.w) c.first_cell-first.ensures (omega arith)
