-- One block more.
use Rattle.std.proofs.Common.{◌≡◌, ℕ, ◌+◌, ◌-◌, ◌<◌, ◌≤◌, true, List, [], ◌++◌, length, drop, set, replicate, Ok, Err, Result, sym, refl, ap, ◌∙◌, arith, length-set, length-drop}
use Rattle.std.proofs.lemmas.List.{append-nil, drop_all, set-append_left}
use Rattle.std.proofs.lemmas.Bool.Decides.{nat_tests}
use borrow.Rule.Slice.PartMut.{put_mid}
use Rattle.numbers.specs.declared.read.Parsed.{Parsed}
use Rattle.forms.specs.declared.fault.FormFault.{FormFault}
use Rattle.forms.specs.declared.read.Reader.{Reader}
use Rattle.forms.specs.declared.row.Row.{Row}
use Rattle.forms.specs.Buffers.{over, onto, lengths}
use Rattle.forms.specs.Cursor.{Reads, placed_at, reached}
use Rattle.forms.specs.Reading.{Reading, before, go_on, row_count_at, rows_at, block_then, blocks_at}
use Rattle.forms.specs.Rules.{count_ok}
use Rattle.forms.proofs.Buffers.{fuel, onto_before, over_append, over_behind, length_over}
use Rattle.forms.proofs.Sound.{row_count_good}
use Rattle.forms.proofs.Wells.{rows_good, rows_moved}

-- the counts that are used, with the zeros behind them
abbrev pub counts_of : ℕ → List ℕ → List ℕ
counts_of blocks used = used ++ drop blocks (replicate 64 0)

-- what a reading of blocks leaves: their row counts and the place after them, and the buffer
abbrev pub leaves : ℕ → List ℕ → ℕ → Reading (Parsed (List (List Row))) → List Row → Result (Parsed (List ℕ)) FormFault × List Row
leaves b counts place s rows = (onto b counts (lengths s.outcome), over place s.stored rows)

module _ (blocks last : ℕ) (first : Reader) (lent : List Row) where
  -- what the whole leaves
  abbrev pub whole : Result (Parsed (List ℕ)) FormFault × List Row
  whole = leaves 0 (replicate 64 0) 0 (blocks_at blocks last (length lent) first.bytes.now first.at 0) lent

  -- a call left that: it answered, moved the reader and stored as the whole says
  pub record Gave (new : Reader) (said : Result (List ℕ) FormFault) (kept : List Row) : Type 0 where
    pub result : Reads (λ bytes at. onto 0 (replicate 64 0) (lengths (blocks_at blocks last (length lent) bytes at 0).outcome)) first new said
    pub rows : kept ≡ over 0 (blocks_at blocks last (length lent) first.bytes.now first.at 0).stored lent

  -- b blocks are read, with `place` rows: what is left to read leaves what the whole leaves
  pub record Blocked (r : Reader) (b place : ℕ) (used : List ℕ) (rows : List Row) : Type 0 where
    pub same : r.bytes ≡ first.bytes
    pub sized : length used ≡ blocks
    pub roomy : length rows ≡ length lent
    pub few : place ≤ 512
    pub taken : place ≤ length rows
    pub rest : leaves b (counts_of blocks used) place (blocks_at (blocks - b) last (length lent) first.bytes.now r.at place) rows ≡ whole

-- the rows that are counted so far are few
row_count_few : (used count : ℕ) → count_ok used count ≡ true → used + count ≤ 512
row_count_few used count h = grind (arith, nat_tests)

-- the lengths of lists come before each other as the lists do
lengths_before : (rows : List Row) (r : Result (Parsed (List (List Row))) FormFault) → lengths (before rows r) ≡ before (length rows) (lengths r)
lengths_before rows (Ok p) = refl
lengths_before rows (Err e) = refl

-- where a reading ended, from what is told of it
reached_ok : (r : Result ℕ FormFault) (next : ℕ) → placed_at next (Ok tt) ≡ reached r → r ≡ Ok next
reached_ok (Ok to) next e = grind arith
reached_ok (Err f) next e = absurd (grind arith)

reached_err : (r : Result ℕ FormFault) (next : ℕ) (e : FormFault) → placed_at next (Err e) ≡ reached r → r ≡ Err e
reached_err (Ok to) next e h = absurd (grind arith)
reached_err (Err f) next e h = grind arith

module _ {blocks last : ℕ} {first : Reader} {lent : List Row} {r : Reader} {b place : ℕ} {used : List ℕ} {rows : List Row}
    (s : Blocked blocks last first lent r b place used rows) where
  gave : (new : Reader) (said : Result (List ℕ) FormFault) (kept : List Row) → new.bytes ≡ first.bytes
      → whole blocks last first lent ≡ (placed_at new.at said, kept) → Gave blocks last first lent new said kept
  gave new said kept e w = record {
    result = (e, sym (ap (λ (x : Result (Parsed (List ℕ)) FormFault × List Row). x.0) w));
    rows = sym (ap (λ (x : Result (Parsed (List ℕ)) FormFault × List Row). x.1) w);
  }

  -- the rows of this block, and the blocks after it
  abbrev block : Parsed ℕ → Reading ℕ
  block count = rows_at count.value last (length lent) first.bytes.now count.next place

  then : Parsed ℕ → Reading (Parsed (List (List Row)))
  then count = block_then (block count).stored (block count).outcome (λ to. blocks_at (blocks - (b + 1)) last (length lent) first.bytes.now to (place + count.value))

  step : b < blocks → whole blocks last first lent ≡ leaves b (counts_of blocks used) place (go_on (row_count_at place first.bytes.now r.at) then) rows
  unfolding then
  step h = sym s.rest ∙ rw (fuel blocks b h) refl

  pub count_refused : b < blocks → (mid : Reader) (e : FormFault) → Reads (row_count_at place) r mid (Err e) → Gave blocks last first lent mid (Err e) rows
  count_refused h mid e q = gave mid (Err e) rows (q.0 ∙ s.same) (step h ∙ rw (sym (rw s.same at q.1)) refl)

  -- the count was read, and then rows into the places that are free
  module _ (h : b < blocks) (mid : Reader) (count : ℕ) (q : Reads (row_count_at place) r mid (Ok count)) (new : Reader) (free kept : List Row)
      (f : free ≡ drop place rows) (w : kept ≡ over 0 (rows_at count last (length free) mid.bytes.now mid.at 0).stored free) where
    abbrev here : Parsed ℕ
    here = record { value = count; next = mid.at }

    counted : Ok here ≡ row_count_at place first.bytes.now r.at
    counted = rw s.same at q.1

    moved : rows_at count last (length free) mid.bytes.now mid.at 0 ≡ block here
    moved =
        let l : place + length free ≡ length lent = omega (arith, ap length f, length-drop place rows, s.roomy, s.taken) in
        let z : place + 0 ≡ place = omega arith in
        sym (rows_moved count last (length free) mid.bytes.now mid.at 0 place) ∙ rw (l, z, q.0, s.same) refl

    got : whole blocks last first lent ≡ leaves b (counts_of blocks used) place (then here) rows
    got = step h ∙ rw (sym counted) refl

    -- the buffer with the places written
    stored : put_mid place (length rows - place) rows kept ≡ over place (block here).stored rows
    stored =
        let e : drop (length rows - place) (drop place rows) ≡ [] = drop_all (length rows - place) (drop place rows) (omega (arith, length-drop place rows)) in
        rw (e, append-nil kept, w, moved, f) (sym (over_behind place (block here).stored rows))

    pub rows_refused : (e : FormFault) → Reads (λ bytes at. reached (rows_at count last (length free) bytes at 0).outcome) mid new (Err e)
        → Gave blocks last first lent new (Err e) (put_mid place (length rows - place) rows kept)
    unfolding then
    rows_refused e t =
        let o : (block here).outcome ≡ Err e = sym (ap (λ (x : Reading ℕ). x.outcome) moved) ∙ reached_err (rows_at count last (length free) mid.bytes.now mid.at 0).outcome new.at e t.1 in
        gave new (Err e) _ (t.0 ∙ q.0 ∙ s.same) (got ∙ rw (o, stored) refl)

    pub again : Reads (λ bytes at. reached (rows_at count last (length free) bytes at 0).outcome) mid new (Ok tt)
        → Blocked blocks last first lent new (b + 1) (place + count) (set used b count) (put_mid place (length rows - place) rows kept)
    unfolding then
    again t =
        let o : (block here).outcome ≡ Ok new.at = sym (ap (λ (x : Reading ℕ). x.outcome) moved) ∙ reached_ok (rows_at count last (length free) mid.bytes.now mid.at 0).outcome new.at t.1 in
        let g = rows_good count last (length lent) first.bytes.now mid.at place (omega (arith, s.taken, s.roomy)) new.at o in
        let u : b < length used = omega (arith, s.sized) in
        let n : length (put_mid place (length rows - place) rows kept) ≡ length lent = ap length stored ∙ length_over place (block here).stored rows ∙ s.roomy in
        let go : ℕ → Reading (Parsed (List (List Row))) = λ (to : ℕ). blocks_at (blocks - (b + 1)) last (length lent) first.bytes.now to (place + count) in
        let m : whole blocks last first lent ≡ (onto b (counts_of blocks used) (lengths (before (block here).stored (go new.at).outcome)), over place ((block here).stored ++ (go new.at).stored) rows)
        = got ∙ rw o refl in
        record {
          same = t.0 ∙ q.0 ∙ s.same;
          sized = length-set used b count ∙ s.sized;
          roomy = n;
          few = row_count_few place count (row_count_good place r.bytes.now r.at (record { value = count; next = mid.at }) (sym q.1));
          taken = omega (arith, g.fits, n);
          rest = sym (m
              ∙ rw (
                lengths_before (block here).stored (go new.at).outcome,
                onto_before b (counts_of blocks used) (length (block here).stored) (lengths (go new.at).outcome),
                over_append place (block here).stored (go new.at).stored rows,
                g.long,
                sym stored,
                set-append_left used (drop blocks (replicate 64 0)) b count u,
              ) refl);
        }
