-- What a form, the view, stands for.
use Rattle.std.specs.Prelude.{◌≡◌, List, Result, MatchResult}
use Rattle.std.specs.Borrow.{Bor}
use Rattle.forms.specs.declared.fault.FormFault.{FormFault}
use Rattle.forms.specs.declared.form.Form.{Form}
use Rattle.forms.specs.declared.row.Head.{Head}
use Rattle.forms.specs.declared.row.Row.{Row}
use Rattle.forms.specs.Code.{Code, code_of}

-- The code of a form: what its head says of its rows.
abbrev pub code : Form → Code
code form = code_of form.rows.now form.head.now

-- A form that was filled borrows just the rows and the head that were lent; a refused one is as it was.
abbrev pub Holds : Result (Unit {0}) FormFault → Form → Form → Bor (List Row) → Bor Head → Type 0
Holds r old new rows head = MatchResult r (λ _. (new.rows ≡ rows) × (new.head ≡ head)) (λ _. new ≡ old)
