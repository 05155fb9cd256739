-- One parameter's name more.
use Rattle.std.proofs.Common.{◌≡◌, ℕ, ◌+◌, ◌-◌, ◌<◌, List, ◌++◌, length, drop, set, replicate, Some, Ok, Err, sym, refl, ◌∙◌, arith, length-set}
use Rattle.std.proofs.lemmas.List.{set-append_left}
use Rattle.forms.specs.declared.fault.FormFault.{FormFault}
use Rattle.forms.specs.declared.read.Reader.{Reader}
use Rattle.forms.specs.Buffers.{onto}
use Rattle.forms.specs.Cursor.{Reads}
use Rattle.forms.specs.Reading.{and_then, before, field_at, names_at}
use Rattle.forms.proofs.Buffers.{fuel, onto_before}

-- the names that are used, with the zeros behind them
abbrev pub names_of : ℕ → List ℕ → List ℕ
names_of params used = used ++ drop params (replicate 8 0)

-- i names are read: what is left to read, written after them, gives what the whole gives
pub record Named (params : ℕ) (first r : Reader) (i : ℕ) (used : List ℕ) : Type 0 where
  pub same : r.bytes ≡ first.bytes
  pub sized : length used ≡ params
  pub rest : onto i (names_of params used) (names_at (params - i) first.bytes.now r.at) ≡ onto 0 (replicate 8 0) (names_at params first.bytes.now first.at)

module _ {params : ℕ} {first r : Reader} {i : ℕ} {used : List ℕ} (s : Named params first r i used) where
  step : i < params → onto 0 (replicate 8 0) (names_at params first.bytes.now first.at)
      ≡ onto i (names_of params used) (and_then (field_at (Some 63) r.bytes.now r.at) (λ p. before p.value (names_at (params - (i + 1)) first.bytes.now p.next)))
  step h = sym s.rest ∙ rw (fuel params i h, s.same) refl

  pub refused : i < params → (new : Reader) (e : FormFault) → Reads (field_at (Some 63)) r new (Err e)
      → Reads (λ bytes at. onto 0 (replicate 8 0) (names_at params bytes at)) first new (Err e)
  refused h new e q = (q.0 ∙ s.same, sym (step h ∙ rw (sym q.1) refl))

  pub again : i < params → (new : Reader) (x : ℕ) → Reads (field_at (Some 63)) r new (Ok x) → Named params first new (i + 1) (set used i x)
  again h new x q =
      let l : i < length used = omega (arith, s.sized) in
      record {
        same = q.0 ∙ s.same;
        sized = length-set used i x ∙ s.sized;
        rest = sym (step h ∙ rw (sym q.1, ← set-append_left used (drop params (replicate 8 0)) i x l) (onto_before i (names_of params used) x (names_at (params - (i + 1)) first.bytes.now new.at)));
      }
