use Rattle.std.proofs.Common.{◌≡◌, ◌≤◌, length, drop}
use Rattle.forms.specs.Rules.{rows_ok}
use Rattle.forms.proofs.Checks.{rest_ok}
use Rattle.forms.proofs.form.fill.counted_ok.Given as goal

abbrev pub invariant-loop-count : goal.invariant-loop-count
invariant-loop-count l =
    (l.used ≤ 512)
    × (l.used ≤ length l.rows)
    × (rest_ok l.last l.used (drop l.count-index l.counts) l.rows ≡ rows_ok l.last l.counts l.rows)
