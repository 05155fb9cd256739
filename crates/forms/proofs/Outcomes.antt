-- What holds of all that can come out holds of what came out.
use Rattle.std.proofs.Common.{◌≡◌, ℕ, List, ◌∷◌, ◌++◌, Ok, Err, Result, refl, subst, arith}
use Rattle.numbers.specs.declared.read.Parsed.{Parsed}
use Rattle.forms.specs.declared.fault.FormFault.{FormFault}
use Rattle.forms.specs.declared.limits.Limits.{Limits}
use Rattle.forms.specs.declared.row.Row.{Row}
use Rattle.forms.specs.Reading.{Reading, and_then, before, field_at, word_at, fields_at, go_on, block_then}

module _ {X Y : Type 0} where
  -- what holds of all that can come out, holds of what came out
  pub and_then_all : (P : Y → Type 0) (r : Result X FormFault) (go : X → Result Y FormFault)
      → ((x : X) → r ≡ Ok x → (y : Y) → go x ≡ Ok y → P y) → (y : Y) → and_then r go ≡ Ok y → P y
  and_then_all P (Ok x) go each y e = each x refl y e
  and_then_all P (Err f) go each y e = absurd (grind arith)

  pub go_on_all : (P : List Row → Y → Type 0) (r : Result X FormFault) (go : X → Reading Y)
      → ((x : X) → r ≡ Ok x → (y : Y) → (go x).outcome ≡ Ok y → P (go x).stored y) → (y : Y) → (go_on r go).outcome ≡ Ok y → P (go_on r go).stored y
  go_on_all P (Ok x) go each y e = each x refl y e
  go_on_all P (Err f) go each y e = absurd (grind arith)

module _ {X : Type 0} where
  pub before_all : (P : Parsed (List X) → Type 0) (x : X) (r : Result (Parsed (List X)) FormFault)
      → ((q : Parsed (List X)) → r ≡ Ok q → P (record { value = x ∷ q.value; next = q.next })) → (p : Parsed (List X)) → before x r ≡ Ok p → P p
  before_all P x (Ok q) each p e = let s : record { value = x ∷ q.value; next = q.next } ≡ p = grind arith in subst P s (each q refl)
  before_all P x (Err f) each p e = absurd (grind arith)

pub block_then_all : (P : List Row → Parsed (List (List Row)) → Type 0) (rows : List Row) (r : Result ℕ FormFault) (go : ℕ → Reading (Parsed (List (List Row))))
    → ((next : ℕ) → r ≡ Ok next → (p : Parsed (List (List Row))) → before rows (go next).outcome ≡ Ok p → P (rows ++ (go next).stored) p)
    → (p : Parsed (List (List Row))) → (block_then rows r go).outcome ≡ Ok p → P (block_then rows r go).stored p
block_then_all P rows (Ok next) go each p e = each next refl p e
block_then_all P rows (Err f) go each p e = absurd (grind arith)

-- the fields of a row, one after the other
pub fields_all : (P : Parsed Row → Type 0) (l : Limits) (kind : ℕ) (bytes : List ℕ) (at : ℕ)
    → ((o : Parsed ℕ) → field_at l.o bytes at ≡ Ok o
    → (k : Parsed ℕ) → field_at l.k bytes o.next ≡ Ok k
    → (d : Parsed ℕ) → field_at l.d bytes k.next ≡ Ok d
    → (a : Parsed ℕ) → field_at l.a bytes d.next ≡ Ok a
    → (b : Parsed ℕ) → field_at l.b bytes a.next ≡ Ok b
    → (c : Parsed ℕ) → word_at l.c bytes b.next ≡ Ok c
    → (t : Parsed ℕ) → field_at l.t bytes c.next ≡ Ok t
    → (f : Parsed ℕ) → field_at l.f bytes t.next ≡ Ok f
    → P (record {
      value = record { kind = kind; o = o.value; d = d.value; a = a.value; b = b.value; k = k.value; c = c.value; t = t.value; f = f.value };
      next = f.next;
    }))
    → (p : Parsed Row) → fields_at l kind bytes at ≡ Ok p → P p
fields_all P l kind bytes at each =
    and_then_all P (field_at l.o bytes at) _ (λ o eo.
    and_then_all P (field_at l.k bytes o.next) _ (λ k ek.
    and_then_all P (field_at l.d bytes k.next) _ (λ d ed.
    and_then_all P (field_at l.a bytes d.next) _ (λ a ea.
    and_then_all P (field_at l.b bytes a.next) _ (λ b eb.
    and_then_all P (word_at l.c bytes b.next) _ (λ c ec.
    and_then_all P (field_at l.t bytes c.next) _ (λ t et.
    and_then_all P (field_at l.f bytes t.next) _ (λ f ef p e.
    let row : Row = record { kind = kind; o = o.value; d = d.value; a = a.value; b = b.value; k = k.value; c = c.value; t = t.value; f = f.value } in
    let same : record { value = row; next = f.next } ≡ p = grind arith in
    subst P same (each o eo k ek d ed a ea b eb c ec t et f ef)))))))))
