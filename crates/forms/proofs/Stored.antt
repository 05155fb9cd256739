-- One row more of a block.
use Rattle.std.proofs.Common.{◌≡◌, ℕ, ◌+◌, ◌-◌, ◌<◌, ◌≤◌, Bool, true, false, cond, eqb, ltb, List, [], ◌∷◌, length, set, Ok, Err, Result, sym, refl, ap, ◌∙◌, arith, length-set}
use Rattle.std.proofs.lemmas.Bool.{lt-ltb, le-ltb}
use Rattle.std.proofs.lemmas.Bool.Decides.{nat_tests}
use Rattle.numbers.specs.declared.read.Parsed.{Parsed}
use Rattle.forms.specs.declared.fault.FormFault.{FormFault}
use Rattle.forms.specs.declared.fault.FormFault.TheVariants.{Ending, NoPlace}
use Rattle.forms.specs.declared.read.Reader.{Reader}
use Rattle.forms.specs.declared.row.Row.{Row}
use Rattle.forms.specs.Buffers.{over}
use Rattle.forms.specs.Cursor.{Reads, placed_at, reached}
use Rattle.forms.specs.Reading.{Reading, bare, storing, go_on, row_at, rows_at}
use Rattle.forms.specs.Rows.{placed_ok}
use Rattle.forms.proofs.Buffers.{fuel}

-- what a reading leaves: what came out, and the buffer
abbrev pub left : {X : Type 0} → ℕ → Reading X → List Row → Result X FormFault × List Row
left place s rows = (s.outcome, over place s.stored rows)

module _ (count last : ℕ) (first : Reader) (lent : List Row) where
  -- what the whole leaves
  abbrev pub whole : Result ℕ FormFault × List Row
  whole = left 0 (rows_at count last (length lent) first.bytes.now first.at 0) lent

  -- a call left that: it answered, moved the reader and stored as the whole says
  pub record Gave (new : Reader) (said : Result (Unit {0}) FormFault) (kept : List Row) : Type 0 where
    pub result : Reads (λ bytes at. reached (rows_at count last (length lent) bytes at 0).outcome) first new said
    pub rows : kept ≡ over 0 (rows_at count last (length lent) first.bytes.now first.at 0).stored lent

  -- i rows of the block are stored: what is left to read leaves what the whole leaves
  pub record Stored (r : Reader) (i : ℕ) (rows : List Row) : Type 0 where
    pub same : r.bytes ≡ first.bytes
    pub sized : length rows ≡ length lent
    pub rest : left i (rows_at (count - i) last (length lent) first.bytes.now r.at i) rows ≡ whole

module _ {count last : ℕ} {first : Reader} {lent : List Row} {r : Reader} {i : ℕ} {rows : List Row} (s : Stored count last first lent r i rows) where
  gave : (new : Reader) (said : Result (Unit {0}) FormFault) (out : Result ℕ FormFault) → new.bytes ≡ r.bytes → placed_at new.at said ≡ reached out
      → whole count last first lent ≡ (out, rows) → Gave count last first lent new said rows
  gave new said out b p e = record {
    result = (b ∙ s.same, p ∙ sym (ap (λ (x : Result ℕ FormFault × List Row). reached x.0) e));
    rows = sym (ap (λ (x : Result ℕ FormFault × List Row). x.1) e);
  }

  then : Parsed Row → Reading ℕ
  then p =
      cond (placed_ok (eqb (count - (i + 1)) 0) p.value)
      (cond (ltb i (length lent))
      (storing (p.value ∷ []) (rows_at (count - (i + 1)) last (length lent) first.bytes.now p.next (i + 1)))
      (bare (Err (NoPlace r.at))))
      (bare (Err (Ending r.at)))

  step : i < count → whole count last first lent ≡ left i (go_on (row_at last first.bytes.now r.at) then) rows
  unfolding then
  step h = sym s.rest ∙ rw (fuel count i h) refl

  pub refused : i < count → (new : Reader) (e : FormFault) → Reads (row_at last) r new (Err e) → Gave count last first lent new (Err e) rows
  refused h new e q = gave new (Err e) (Err e) q.0 refl (step h ∙ rw (sym (rw s.same at q.1)) refl)

  -- a row was read
  module _ (h : i < count) (new : Reader) (x : Row) (q : Reads (row_at last) r new (Ok x)) where
    got : whole count last first lent ≡ left i (then (record { value = x; next = new.at })) rows
    got = step h ∙ rw (sym (rw s.same at q.1)) refl

    -- the last row of the block
    at_end : (b : Bool) → b ≡ placed_ok (eqb (i + 1) count) x → placed_ok (eqb (count - (i + 1)) 0) x ≡ b
    at_end b e = let l : eqb (i + 1) count ≡ eqb (count - (i + 1)) 0 = grind (arith, nat_tests) in sym (e ∙ ap (λ (y : Bool). placed_ok y x) l)

    pub misplaced : false ≡ placed_ok (eqb (i + 1) count) x → Gave count last first lent new (Err (Ending r.at)) rows
    unfolding then
    misplaced f = gave new (Err (Ending r.at)) (Err (Ending r.at)) q.0 refl (got ∙ rw (at_end false f) refl)

    pub full : true ≡ placed_ok (eqb (i + 1) count) x → length rows ≤ i → Gave count last first lent new (Err (NoPlace r.at)) rows
    unfolding then
    full f l = gave new (Err (NoPlace r.at)) (Err (NoPlace r.at)) q.0 refl (got ∙ rw (at_end true f, le-ltb i (length lent) (omega (arith, s.sized))) refl)

    pub again : true ≡ placed_ok (eqb (i + 1) count) x → i < length rows → Stored count last first lent new (i + 1) (set rows i x)
    unfolding then
    again f l = record {
      same = q.0 ∙ s.same;
      sized = length-set rows i x ∙ s.sized;
      rest = sym (got ∙ rw (at_end true f, lt-ltb i (length lent) (omega (arith, s.sized))) refl);
    }
