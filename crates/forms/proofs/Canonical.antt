-- Whatever reads as a form is what would be written for it.
use Rattle.std.proofs.Common.{◌≡◌, ℕ, zero, suc, ◌+◌, ◌-◌, ◌<◌, ◌≤◌, Bool, true, false, eqb, ltb, List, [], ◌∷◌, ◌++◌, length, get_or, drop, Some, None, Ok, Err, Option, Result, sym, refl, ap, ◌∙◌, subst, arith}
use Rattle.std.proofs.lemmas.List.{append_assoc, append-nil, take-append-drop, drop-drop, drop_all}
use Rattle.std.proofs.lemmas.Bool.{cond_both}
use Rattle.std.proofs.lemmas.Bool.Decides.{nat_tests}
use Rattle.numbers.specs.Reading.{number}
use Rattle.numbers.specs.Writing.{written}
use Rattle.numbers.specs.declared.fault.NumberFault.{NumberFault}
use Rattle.numbers.specs.declared.read.Parsed.{Parsed}
use Rattle.numbers.proofs.Canonical.{written_at}
use Rattle.forms.specs.declared.fault.FormFault.{FormFault}
use Rattle.forms.specs.declared.limits.Limits.{Limits}
use Rattle.forms.specs.declared.row.Row.{Row}
use Rattle.forms.specs.Code.{Code}
use Rattle.forms.specs.Reading.{Reading, lifted, and_then, up_to, field_at, word_at, fields_at, row_at, count_in, row_count_at, names_at, rows_at, blocks_at}
use Rattle.forms.specs.Rows.{limits_of, placed_ok}
use Rattle.forms.specs.Writing.{field_bytes, word_bytes, fields_bytes, row_bytes, rows_bytes, blocks_bytes, names_bytes, code_bytes, IsWritten}
use Rattle.forms.proofs.Outcomes.{and_then_all, fields_all, go_on_all, before_all, block_then_all}
use Rattle.forms.proofs.Sound.{names_many, blocks_many}
use Rattle.forms.proofs.Wells.{rows_good}

-- what stands in the bytes from one place up to another
record Spans (bytes : List ℕ) (at next : ℕ) (xs : List ℕ) : Type 0 where
  same : drop at bytes ≡ xs ++ drop next bytes

-- nothing stands between a place and itself
none_spans : (bytes : List ℕ) (at : ℕ) → Spans bytes at at []
none_spans bytes at = record { same = refl }

-- one stretch after another
spans_then : {bytes : List ℕ} {at mid next : ℕ} {xs ys : List ℕ} → Spans bytes at mid xs → Spans bytes mid next ys → Spans bytes at next (xs ++ ys)
spans_then {bytes} {at} {mid} {next} {xs} {ys} a b = record { same = a.same ∙ ap (λ (z : List ℕ). xs ++ z) b.same ∙ sym (append_assoc xs ys (drop next bytes)) }

-- a stretch from the start to the end is all there is
spans_all : (bytes : List ℕ) (next : ℕ) (xs : List ℕ) → Spans bytes 0 next xs → length bytes ≤ next → bytes ≡ xs
spans_all bytes next xs s h = s.same ∙ ap (λ (z : List ℕ). xs ++ z) (drop_all next bytes h) ∙ append-nil xs

-- a number of a form is a number
lifted_from : (r : Result (Parsed ℕ) NumberFault) (p : Parsed ℕ) → lifted r ≡ Ok p → r ≡ Ok p
lifted_from (Ok q) p e = grind arith
lifted_from (Err f) p e = absurd (grind arith)

module _ (bytes : List ℕ) (f : (i : ℕ) → get_or bytes i 0 < 256) where
  -- a number that was read stands there as it is written
  number_spans : (at : ℕ) (p : Parsed ℕ) → number bytes at ≡ Ok p → Spans bytes at p.next (written p.value)
  number_spans at p e =
      let w = written_at bytes at f p e in
      record {
        same = sym (take-append-drop (length (written p.value)) (drop at bytes))
            ∙ ap (λ (z : List ℕ). z ++ drop (length (written p.value)) (drop at bytes)) w.1
            ∙ ap (λ (z : List ℕ). written p.value ++ z) (drop-drop (length (written p.value)) at bytes ∙ ap (λ (i : ℕ). drop i bytes) (sym w.0));
      }

  -- the same of a number that was then tested
  tested_spans : (at : ℕ) (go : Parsed ℕ → Result (Parsed ℕ) FormFault) → ((q p : Parsed ℕ) → go q ≡ Ok p → q ≡ p)
      → (p : Parsed ℕ) → and_then (lifted (number bytes at)) go ≡ Ok p → Spans bytes at p.next (written p.value)
  tested_spans at go same =
      and_then_all (λ p. Spans bytes at p.next (written p.value)) (lifted (number bytes at)) go (λ q eq p e.
      subst (λ (p : Parsed ℕ). Spans bytes at p.next (written p.value)) (same q p e) (number_spans at q (lifted_from (number bytes at) q eq)))

  -- a field, and nothing for one that the kind lacks
  field_spans : (highest : Option ℕ) (at : ℕ) (p : Parsed ℕ) → field_at highest bytes at ≡ Ok p → Spans bytes at p.next (field_bytes highest p.value)
  field_spans None at = λ p e.
      let same : record { value = 0; next = at } ≡ p = grind arith in
      subst (λ (p : Parsed ℕ). Spans bytes at p.next []) same (none_spans bytes at)
  field_spans (Some highest) at = tested_spans at (up_to highest at) (λ q p e. grind (arith, nat_tests))

  -- a constant, where there is one
  word_spans : (there : Bool) (at : ℕ) (p : Parsed ℕ) → word_at there bytes at ≡ Ok p → Spans bytes at p.next (word_bytes there p.value)
  word_spans true at p e = number_spans at p (lifted_from (number bytes at) p e)
  word_spans false at p e =
      let same : record { value = 0; next = at } ≡ p = grind arith in
      subst (λ (p : Parsed ℕ). Spans bytes at p.next []) same (none_spans bytes at)

  -- the fields of a row, of a kind that was read
  fields_spans : (l : Limits) (kind at : ℕ) (p : Parsed Row) → fields_at l kind bytes at ≡ Ok p
      → (kind ≡ p.value.kind) × Spans bytes at p.next (fields_bytes l p.value)
  fields_spans l kind at =
      fields_all (λ p. (kind ≡ p.value.kind) × Spans bytes at p.next (fields_bytes l p.value)) l kind bytes at (λ o eo k ek d ed a ea b eb c ec t et f ef. (
        refl,
        spans_then (field_spans l.o at o eo)
            (spans_then (field_spans l.k o.next k ek)
            (spans_then (field_spans l.d k.next d ed)
            (spans_then (field_spans l.a d.next a ea)
            (spans_then (field_spans l.b a.next b eb)
            (spans_then (word_spans l.c b.next c ec)
            (spans_then (field_spans l.t c.next t et) (field_spans l.f t.next f ef))))))),
      ))

  -- a row: its kind, then its fields
  row_spans : (last at : ℕ) (p : Parsed Row) → row_at last bytes at ≡ Ok p → Spans bytes at p.next (row_bytes last p.value)
  row_spans last at =
      and_then_all (λ p. Spans bytes at p.next (row_bytes last p.value)) (field_at (Some 10) bytes at) _ (λ kind ek p e.
      let s = fields_spans (limits_of kind.value last) kind.value kind.next p e in
      subst (λ (k : ℕ). Spans bytes at p.next (written k ++ fields_bytes (limits_of k last) p.value)) s.0 (spans_then (field_spans (Some 10) at kind ek) s.1))

  -- the rows stored for a block
  rows_spans : (count last room at place to : ℕ) → (rows_at count last room bytes at place).outcome ≡ Ok to
      → Spans bytes at to (rows_bytes last (rows_at count last room bytes at place).stored)
  rows_spans zero last room at place = λ to e.
      let same : at ≡ to = grind arith in
      subst (λ (z : ℕ). Spans bytes at z []) same (none_spans bytes at)
  rows_spans (suc left) last room at place =
      go_on_all (λ rows to. Spans bytes at to (rows_bytes last rows)) (row_at last bytes at) _ (λ p ep to.
      let Q : Reading ℕ → Type 0 = λ s. s.outcome ≡ Ok to → Spans bytes at to (rows_bytes last s.stored) in
      cond_both (placed_ok (eqb left 0) p.value) _ _ Q
      (λ _.
      cond_both (ltb place room) _ _ Q
      (λ _ e. spans_then (row_spans last at p ep) (rows_spans left last room p.next (place + 1) to e))
      (λ _ e. absurd (grind arith)))
      (λ _ e. absurd (grind arith)))

  -- the parameters' names
  names_spans : (left at : ℕ) (p : Parsed (List ℕ)) → names_at left bytes at ≡ Ok p → Spans bytes at p.next (names_bytes p.value)
  names_spans zero at = λ p e.
      let same : record { value = []; next = at } ≡ p = grind arith in
      subst (λ (p : Parsed (List ℕ)). Spans bytes at p.next (names_bytes p.value)) same (none_spans bytes at)
  names_spans (suc left) at =
      let P : Parsed (List ℕ) → Type 0 = λ p. Spans bytes at p.next (names_bytes p.value) in
      and_then_all P (field_at (Some 63) bytes at) _ (λ x ex.
      before_all P x.value (names_at left bytes x.next) (λ q eq.
      spans_then (field_spans (Some 63) at x ex) (names_spans left x.next q eq)))

  -- one block before the others
  block_spans : (last at mid next to count : ℕ) (rows : List Row) (blocks : List (List Row)) → length rows ≡ count
      → Spans bytes at mid (written count) → Spans bytes mid next (rows_bytes last rows) → Spans bytes next to (blocks_bytes last blocks)
      → Spans bytes at to (blocks_bytes last (rows ∷ blocks))
  block_spans last at mid next to count rows blocks l c r s =
      spans_then (subst (λ (n : ℕ). Spans bytes at mid (written n)) (sym l) c) (spans_then r s)

  -- the blocks
  blocks_spans : (left last room at place : ℕ) → place ≤ room → (p : Parsed (List (List Row))) → (blocks_at left last room bytes at place).outcome ≡ Ok p
      → Spans bytes at p.next (blocks_bytes last p.value)
  blocks_spans zero last room at place r = λ p e.
      let same : record { value = []; next = at } ≡ p = grind arith in
      subst (λ (p : Parsed (List (List Row))). Spans bytes at p.next (blocks_bytes last p.value)) same (none_spans bytes at)
  blocks_spans (suc left) last room at place r =
      let P : Parsed (List (List Row)) → Type 0 = λ p. Spans bytes at p.next (blocks_bytes last p.value) in
      go_on_all (λ _. P) (row_count_at place bytes at) _ (λ count ec.
      block_then_all (λ _. P) (rows_at count.value last room bytes count.next place).stored (rows_at count.value last room bytes count.next place).outcome _ (λ next en.
      let g = rows_good count.value last room bytes count.next place r next en in
      before_all P (rows_at count.value last room bytes count.next place).stored (blocks_at left last room bytes next (place + count.value)).outcome (λ q eq.
      block_spans last at count.next next q.next count.value (rows_at count.value last room bytes count.next place).stored q.value g.long
      (tested_spans at _ (λ q p e. grind (arith, nat_tests)) count ec)
      (rows_spans count.value last room count.next place next en)
      (blocks_spans left last room next (place + count.value) g.fits q eq))))

  -- the parts that were read, put together
  parts_span : (one two three four n m : ℕ) (names : List ℕ) (blocks : List (List Row)) → length blocks ≡ n → length names ≡ m
      → Spans bytes 0 one (written n) → Spans bytes one two (written m) → Spans bytes two three (names_bytes names) → Spans bytes three four (blocks_bytes (n - 1) blocks)
      → Spans bytes 0 four (code_bytes (record { params = names; blocks = blocks }))
  parts_span one two three four n m names blocks ln lm a b c d = rw (ln, lm) (spans_then a (spans_then b (spans_then c d)))

  -- the bytes of a code that was read
  pub is_written : (room : ℕ) → IsWritten bytes room
  is_written room =
      let P : Code → Type 0 = λ code. bytes ≡ code_bytes code in
      go_on_all (λ _. P) (count_in 1 64 bytes 0) _ (λ n en.
      go_on_all (λ _. P) (count_in 0 8 bytes n.next) _ (λ m em.
      go_on_all (λ _. P) (names_at m.value bytes m.next) _ (λ names es.
      and_then_all P (blocks_at n.value (n.value - 1) room bytes names.next 0).outcome _ (λ p ep code e.
      let same : record { params = names.value; blocks = p.value } ≡ code = grind (arith, nat_tests) in
      let none : length bytes ≤ p.next = grind (arith, nat_tests) in
      subst P same (spans_all bytes p.next (code_bytes (record { params = names.value; blocks = p.value }))
      (parts_span n.next m.next names.next p.next n.value m.value names.value p.value
      (blocks_many n.value (n.value - 1) room bytes names.next p ep)
      (names_many m.value bytes m.next names es)
      (tested_spans 0 _ (λ q p e. grind (arith, nat_tests)) n en)
      (tested_spans n.next _ (λ q p e. grind (arith, nat_tests)) m em)
      (names_spans m.value m.next names es)
      (blocks_spans n.value (n.value - 1) room names.next 0 (omega arith) p ep))
      none)))))
