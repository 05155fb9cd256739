use Rattle.std.proofs.Common.{◌≡◌, ℕ, ◌+◌, ◌<◌, cond, ◌&&◌, leb, Ok, Err, Result, arith}
use Rattle.std.proofs.lemmas.Bool.Decides.{nat_tests}
use Rattle.numbers.specs.Reading.{number}
use Rattle.numbers.specs.declared.fault.NumberFault.{NumberFault}
use Rattle.numbers.specs.declared.read.Parsed.{Parsed}
use Rattle.forms.specs.declared.fault.FormFault.TheVariants.{Count}
use Rattle.forms.specs.Reading.{lifted, and_then}
use Rattle.forms.specs.Rules.{count_ok}
use Rattle.forms.proofs.read.Reader.row_count.Goals as goal

-- a count from 1 to 64 with which the rows are too many
over : (r : Result (Parsed ℕ) NumberFault) (used at : ℕ) (p : Parsed ℕ) → 512 < used + p.value
    → Ok p ≡ and_then (lifted r) (λ p. cond (leb 1 p.value && leb p.value 64) (Ok p) (Err (Count at)))
    → Err (Count at) ≡ and_then (lifted r) (λ p. cond (count_ok used p.value) (Ok p) (Err (Count at)))
over (Ok q) used at p h e = grind (arith, nat_tests)
over (Err x) used at p h e = absurd (grind arith)

pub returns-then-used-count-gt512 : goal.returns-then-used-count-gt512
returns-then-used-count-gt512 c =
    let r = c.args.self.now in
    (c.count_in.ensures.0, over (number r.bytes.now r.at) c.args.used r.at (record { value = c.in_ok-count.count; next = c.count_in.new.self.at }) (omega arith) c.in_ok-count.ensures.1)
