-- The refusal that each fault of a form is.
use Rattle.numbers.specs.Refusals.{at_place, number_refusal}
use Rattle.numbers.specs.declared.refusal.Refusal.{Refusal}
use Rattle.forms.specs.declared.fault.FormFault.{FormFault}
use Rattle.forms.specs.declared.fault.FormFault.TheVariants.{Number, Count, Range, Ending, LeftOver, NoPlace, NotAForm}

-- A number's fault is the refusal that it is below; the others name a byte, and the last names nothing.
abbrev pub form_refusal : FormFault → Refusal
form_refusal (Number fault) = number_refusal fault
form_refusal (Count at) = at_place 2 at
form_refusal (Range at) = at_place 3 at
form_refusal (Ending at) = at_place 4 at
form_refusal (LeftOver at) = at_place 5 at
form_refusal (NoPlace at) = at_place 6 at
form_refusal NotAForm = at_place 16 0
