use Rattle.std.proofs.Common.{◌≡◌, ℕ, replicate, ap, ◌∙◌, rules}
use mathlib.Core.Path.{fun_ext}
use Rattle.banks.specs.Meanings.{by_place, bytes_of}
use Rattle.banks.specs.Paired.{lost_cells}
use Rattle.banks.specs.Tables.{zeros}
use Rattle.banks.proofs.paired.Paired.new.Goals as goal

pub returns : goal.returns
returns c =
    let lost : bytes_of c.lose.new.self ≡ lost_cells 16 (by_place (replicate 16 0)) c.args.w = search rules in
    lost ∙ ap (λ (x : ℕ → ℕ). lost_cells 16 x c.args.w) (fun_ext (zeros 16))
