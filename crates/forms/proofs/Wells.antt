-- Rows that were read keep the rules.
use Rattle.std.proofs.Common.{◌≡◌, ℕ, zero, suc, ◌+◌, ◌≤◌, Bool, true, false, eqb, ltb, leb, List, length, Some, None, Ok, Err, Option, Result, sym, refl, ap, arith}
use Rattle.std.proofs.lemmas.Bool.{and_from, cond_both, ltb-true}
use Rattle.std.proofs.lemmas.Bool.Decides.{nat_tests}
use Rattle.numbers.specs.Reading.{number}
use Rattle.numbers.specs.declared.fault.NumberFault.{NumberFault}
use Rattle.numbers.specs.declared.read.Parsed.{Parsed}
use Rattle.forms.specs.declared.fault.FormFault.{FormFault}
use Rattle.forms.specs.declared.limits.Limits.{Limits}
use Rattle.forms.specs.declared.row.Row.{Row}
use Rattle.forms.specs.Reading.{Reading, go_on, lifted, and_then, up_to, field_at, word_at, fields_at, row_at, rows_at}
use Rattle.forms.specs.Rows.{limits_of, within, within_word, fields_ok, row_ok, placed_ok}
use Rattle.forms.specs.Rules.{block_ok}
use Rattle.forms.proofs.Outcomes.{and_then_all, fields_all, go_on_all}

number_up_to : (r : Result (Parsed ℕ) NumberFault) (highest at : ℕ) (p : Parsed ℕ) → and_then (lifted r) (up_to highest at) ≡ Ok p → leb p.value highest ≡ true
number_up_to (Ok q) highest at p e = grind (arith, nat_tests)
number_up_to (Err f) highest at p e = absurd (grind arith)

-- a field that was read stays within its limit
pub field_within : (highest : Option ℕ) (bytes : List ℕ) (at : ℕ) (p : Parsed ℕ) → field_at highest bytes at ≡ Ok p → within highest p.value ≡ true
field_within None bytes at p e = let z : 0 ≡ p.value = grind arith in rw (sym z) refl
field_within (Some highest) bytes at p e = number_up_to (number bytes at) highest at p e

word_within : (there : Bool) (bytes : List ℕ) (at : ℕ) (p : Parsed ℕ) → word_at there bytes at ≡ Ok p → within_word there p.value ≡ true
word_within true bytes at p e = refl
word_within false bytes at p e = let z : 0 ≡ p.value = grind arith in rw (sym z) refl

-- the fields that were read stay within their limits
module _ (l : Limits) (kind : ℕ) (bytes : List ℕ) where
  Well : Parsed Row → Type 0
  Well p = (p.value.kind ≡ kind) × (fields_ok l p.value ≡ true)

  fields_well : (at : ℕ) (p : Parsed Row) → fields_at l kind bytes at ≡ Ok p → Well p
  unfolding Well
  fields_well at =
      fields_all Well l kind bytes at (λ o eo k ek d ed a ea b eb c ec t et f ef. (
        refl,
        and_from _ _ (and_from _ _ (and_from _ _ (and_from _ _ (and_from _ _ (and_from _ _ (and_from _ _
            (field_within l.o bytes at o eo)
            (field_within l.d bytes k.next d ed))
            (field_within l.a bytes d.next a ea))
            (field_within l.b bytes a.next b eb))
            (field_within l.k bytes o.next k ek))
            (word_within l.c bytes b.next c ec))
            (field_within l.t bytes c.next t et))
            (field_within l.f bytes t.next f ef),
      ))

-- a row that was read keeps the rules
row_well : (last : ℕ) (bytes : List ℕ) (at : ℕ) (p : Parsed Row) → row_at last bytes at ≡ Ok p → row_ok last p.value ≡ true
unfolding Well
row_well last bytes at =
    and_then_all (λ p. row_ok last p.value ≡ true) (field_at (Some 10) bytes at) _ (λ kind ek p e.
    let w = fields_well (limits_of kind.value last) kind.value bytes kind.next p e in
    rw w.0 (and_from _ _ (field_within (Some 10) bytes at kind ek) w.1))

-- what is known of rows that were read: `room` places, of which `place` were taken
pub record Good (count last room place : ℕ) (rows : List Row) : Type 0 where
  pub long : length rows ≡ count
  pub fits : place + count ≤ room
  pub good : block_ok last rows ≡ true

pub rows_good : (count last room : ℕ) (bytes : List ℕ) (at place : ℕ) → place ≤ room
    → (to : ℕ) → (rows_at count last room bytes at place).outcome ≡ Ok to → Good count last room place (rows_at count last room bytes at place).stored
rows_good zero last room bytes at place r = λ to e. record { long = refl; fits = omega arith; good = refl }
rows_good (suc left) last room bytes at place r =
    go_on_all (λ rows _. Good (suc left) last room place rows) (row_at last bytes at) _ (λ p ep to.
    let Q : Reading ℕ → Type 0 = λ s. s.outcome ≡ Ok to → Good (suc left) last room place s.stored in
    cond_both (placed_ok (eqb left 0) p.value) _ _ Q
    (λ t.
    cond_both (ltb place room) _ _ Q
    (λ h e.
    let l = ltb-true place room h in
    let g = rows_good left last room bytes p.next (place + 1) (omega arith) to e in
    record {
      long = ap suc g.long;
      fits = omega (arith, g.fits);
      good = and_from _ _ (and_from _ _ (row_well last bytes at p ep) (rw g.long t)) g.good;
    })
    (λ _ e. absurd (grind arith)))
    (λ _ e. absurd (grind arith)))

-- a reading goes on alike where what follows is alike
go_on_same : {X Y : Type 0} (r : Result X FormFault) (f g : X → Reading Y) → ((x : X) → f x ≡ g x) → go_on r f ≡ go_on r g
go_on_same (Ok x) f g each = each x
go_on_same (Err e) f g each = refl

-- rows are read alike behind others that are stored, if as much room is left
pub rows_moved : (count last room : ℕ) (bytes : List ℕ) (at place k : ℕ) → rows_at count last (k + room) bytes at (k + place) ≡ rows_at count last room bytes at place
rows_moved zero last room bytes at place k = refl
rows_moved (suc left) last room bytes at place k =
    let z : (k + place) + 1 ≡ k + (place + 1) = omega arith in
    let l : ltb (k + place) (k + room) ≡ ltb place room = grind (arith, nat_tests) in
    go_on_same (row_at last bytes at) _ _ (λ p. rw (l, z, rows_moved left last room bytes p.next (place + 1) k) refl)
