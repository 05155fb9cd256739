-- What was read makes a form, and the form has the code that was read.
use Rattle.std.proofs.Common.{◌≡◌, ℕ, zero, suc, ◌+◌, ◌-◌, ◌≤◌, true, cond, ◌&&◌, leb, List, [], ◌∷◌, ◌++◌, map, length, take, drop, replicate, Some, Ok, Err, sum, Result, refl, ap, ◌∙◌, subst, arith}
use Rattle.std.proofs.lemmas.List.{append_assoc, length-append, length-map, length-replicate, take_at, drop_at, drop-replicate}
use Rattle.std.proofs.lemmas.List.Sums.{sum_by-cons}
use Rattle.std.proofs.lemmas.Bool.{and_from, le-leb, leb-true, lt-ltb}
use Rattle.std.proofs.lemmas.Bool.Decides.{nat_tests}
use Rattle.numbers.specs.Reading.{number}
use Rattle.numbers.specs.declared.fault.NumberFault.{NumberFault}
use Rattle.numbers.specs.declared.read.Parsed.{Parsed}
use Rattle.forms.specs.declared.fault.FormFault.TheVariants.{Count}
use Rattle.forms.specs.declared.row.Head.{Head}
use Rattle.forms.specs.declared.row.Row.{Row}
use Rattle.forms.specs.Buffers.{over}
use Rattle.forms.specs.Code.{Code, cut, code_of, head_of}
use Rattle.forms.specs.Reading.{lifted, and_then, field_at, count_in, row_count_at, names_at, rows_at, blocks_at, reading, rows_after, head_after, Fills}
use Rattle.forms.specs.Rules.{count_ok, blocks_ok, all_below, head_ok, rows_ok, form_ok}
use Rattle.forms.proofs.Buffers.{length_over, over_start}
use Rattle.forms.proofs.Outcomes.{and_then_all, go_on_all, before_all, block_then_all}
use Rattle.forms.proofs.Wells.{Good, rows_good, field_within}

-- a row count that was read is within its limits
count_good : (r : Result (Parsed ℕ) NumberFault) (used at : ℕ) (p : Parsed ℕ)
    → and_then (lifted r) (λ p. cond (count_ok used p.value) (Ok p) (Err (Count at))) ≡ Ok p → count_ok used p.value ≡ true
count_good (Ok q) used at p e = grind (arith, nat_tests)
count_good (Err x) used at p e = absurd (grind arith)

pub row_count_good : (used : ℕ) (bytes : List ℕ) (at : ℕ) (p : Parsed ℕ) → row_count_at used bytes at ≡ Ok p → count_ok used p.value ≡ true
row_count_good used bytes at p e = count_good (number bytes at) used at p e

-- what is known of blocks that were read, with the rows stored for them
record Blocks (left last room place : ℕ) (stored : List Row) (blocks : List (List Row)) : Type 0 where
  many : length blocks ≡ left
  fits : place + length stored ≤ room
  total : sum (map length blocks) ≡ length stored
  good : blocks_ok last place blocks ≡ true
  back : (rest : List Row) → cut (map length blocks) (stored ++ rest) ≡ blocks

-- one block before the others
module _ (left last room place count : ℕ) (rows more : List Row) (blocks : List (List Row))
    (c : count_ok place count ≡ true) (g : Good count last room place rows) (s : Blocks left last room (place + count) more blocks) where
  lead_back : (rest : List Row) → cut (length rows ∷ map length blocks) ((rows ++ more) ++ rest) ≡ rows ∷ blocks
  lead_back rest =
      rw (append_assoc rows more rest, take_at rows (more ++ rest) (length rows) refl, drop_at rows (more ++ rest) (length rows) refl) (ap (λ (x : List (List Row)). rows ∷ x) (s.back rest))

  lead : Blocks (suc left) last room place (rows ++ more) (rows ∷ blocks)
  lead = record {
    many = ap suc s.many;
    fits = omega (arith, length-append rows more, g.long, s.fits);
    total = omega (arith, sum_by-cons (λ x. x) (length rows) (map length blocks), length-append rows more, s.total);
    good = rw g.long (and_from _ _ c (and_from _ _ g.good s.good));
    back = lead_back;
  }

blocks_sound : (left last room : ℕ) (bytes : List ℕ) (at place : ℕ) → place ≤ room
    → (p : Parsed (List (List Row))) → (blocks_at left last room bytes at place).outcome ≡ Ok p → Blocks left last room place (blocks_at left last room bytes at place).stored p.value
blocks_sound zero last room bytes at place r = λ p e.
    let z : ◌≡◌ {A = List (List Row)} [] p.value = grind arith in
    subst (λ (b : List (List Row)). Blocks 0 last room place [] b) z (record { many = refl; fits = omega arith; total = refl; good = refl; back = λ rest. refl })
blocks_sound (suc left) last room bytes at place r =
    let P : List Row → Parsed (List (List Row)) → Type 0 = λ stored p. Blocks (suc left) last room place stored p.value in
    go_on_all P (row_count_at place bytes at) _ (λ count ec.
    block_then_all P (rows_at count.value last room bytes count.next place).stored (rows_at count.value last room bytes count.next place).outcome _ (λ next en.
    let g = rows_good count.value last room bytes count.next place r next en in
    before_all (λ p. P ((rows_at count.value last room bytes count.next place).stored ++ (blocks_at left last room bytes next (place + count.value)).stored) p)
    (rows_at count.value last room bytes count.next place).stored (blocks_at left last room bytes next (place + count.value)).outcome (λ q eq.
    lead left last room place count.value (rows_at count.value last room bytes count.next place).stored (blocks_at left last room bytes next (place + count.value)).stored q.value
    (row_count_good place bytes at count ec) g (blocks_sound left last room bytes next (place + count.value) g.fits q eq))))

-- the names that were read
record Names (left : ℕ) (names : List ℕ) : Type 0 where
  many : length names ≡ left
  good : all_below 64 names ≡ true

names_sound : (left : ℕ) (bytes : List ℕ) (at : ℕ) (p : Parsed (List ℕ)) → names_at left bytes at ≡ Ok p → Names left p.value
names_sound zero bytes at = λ p e. let z : ◌≡◌ {A = List ℕ} [] p.value = grind arith in subst (Names 0) z (record { many = refl; good = refl })
names_sound (suc left) bytes at =
    and_then_all (λ p. Names (suc left) p.value) (field_at (Some 63) bytes at) _ (λ x ex.
    before_all (λ p. Names (suc left) p.value) x.value (names_at left bytes x.next) (λ q eq.
    let s = names_sound left bytes x.next q eq in
    record { many = ap suc s.many; good = and_from _ _ (lt-ltb x.value 64 (omega (arith, leb-true x.value 63 (field_within (Some 63) bytes at x ex)))) s.good }))

-- a count that was read is within its limits
count_in_good : (r : Result (Parsed ℕ) NumberFault) (low high at : ℕ) (p : Parsed ℕ)
    → and_then (lifted r) (λ p. cond (leb low p.value && leb p.value high) (Ok p) (Err (Count at))) ≡ Ok p → (low ≤ p.value) × (p.value ≤ high)
count_in_good (Ok q) low high at p e = (grind (arith, nat_tests), grind (arith, nat_tests))
count_in_good (Err x) low high at p e = absurd (grind arith)

pub count_in_within : (low high : ℕ) (bytes : List ℕ) (at : ℕ) (p : Parsed ℕ) → count_in low high bytes at ≡ Ok p → (low ≤ p.value) × (p.value ≤ high)
count_in_within low high bytes at p e = count_in_good (number bytes at) low high at p e

-- what a code has whose head keeps the rules
pub record Headed (code : Code) : Type 0 where
  pub some : 1 ≤ length code.blocks
  pub few : length code.blocks ≤ 64
  pub params : length code.params ≤ 8
  pub names : all_below 64 code.params ≡ true

-- what is known of a code that was read, with the rows stored for it
record Read (room : ℕ) (stored : List Row) (code : Code) : Type 0 where
  headed : Headed code
  fits : length stored ≤ room
  total : sum (map length code.blocks) ≡ length stored
  good : blocks_ok (length code.blocks - 1) 0 code.blocks ≡ true
  back : (rest : List Row) → cut (map length code.blocks) (stored ++ rest) ≡ code.blocks

-- the parts that were read, put together
module _ (room n m : ℕ) (stored : List Row) (blocks : List (List Row)) (params : List ℕ)
    (a : (1 ≤ n) × (n ≤ 64)) (b : (0 ≤ m) × (m ≤ 8)) (s : Blocks n (n - 1) room 0 stored blocks) (t : Names m params) where
  together : Read room stored (record { params = params; blocks = blocks })
  together = record {
    headed = record { some = omega (arith, s.many); few = omega (arith, s.many); params = omega (arith, t.many); names = t.good };
    fits = omega (arith, s.fits);
    total = s.total;
    good = rw s.many s.good;
    back = s.back;
  }

read_sound : (bytes : List ℕ) (room : ℕ) (code : Code) → (reading bytes room).outcome ≡ Ok code → Read room (reading bytes room).stored code
read_sound bytes room =
    go_on_all (Read room) (count_in 1 64 bytes 0) _ (λ n en.
    go_on_all (Read room) (count_in 0 8 bytes n.next) _ (λ m em.
    go_on_all (Read room) (names_at m.value bytes m.next) _ (λ names es.
    and_then_all (Read room (blocks_at n.value (n.value - 1) room bytes names.next 0).stored) (blocks_at n.value (n.value - 1) room bytes names.next 0).outcome _ (λ p ep code e.
    let same : record { params = names.value; blocks = p.value } ≡ code = grind (arith, nat_tests) in
    subst (Read room (blocks_at n.value (n.value - 1) room bytes names.next 0).stored) same
    (together room n.value m.value _ p.value names.value
    (count_in_within 1 64 bytes 0 n en) (count_in_within 0 8 bytes n.next m em)
    (blocks_sound n.value (n.value - 1) room bytes names.next 0 (omega arith) p ep)
    (names_sound m.value bytes m.next names es))))))

-- zeros are below 1
zeros : (n : ℕ) → all_below 1 (replicate n 0) ≡ true
zeros zero = refl
zeros (suc n) = zeros n

-- items written into zeros: the front is the items, and the rest stays 0
module _ (items : List ℕ) (n size : ℕ) (l : length items ≡ n) (h : n ≤ size) where
  spread : over 0 items (replicate size 0) ≡ items ++ drop (length items) (replicate size 0)
  spread = over_start items (replicate size 0) (omega (arith, length-replicate {A = ℕ} size 0))

  pub front : take n (over 0 items (replicate size 0)) ≡ items
  front = ap (take n) spread ∙ take_at items (drop (length items) (replicate size 0)) n l

  unused : all_below 1 (drop n (over 0 items (replicate size 0))) ≡ true
  unused =
      ap (λ (x : List ℕ). all_below 1 (drop n x)) spread
      ∙ ap (all_below 1) (drop_at items (drop (length items) (replicate size 0)) n l ∙ drop-replicate (length items) size 0)
      ∙ zeros (size - length items)

  sized : n ≤ length (over 0 items (replicate size 0))
  sized = omega (arith, length_over 0 items (replicate size 0), length-replicate {A = ℕ} size 0)

-- the head of such a code
module _ (code : Code) (s : Headed code) where
  counts : length (map length code.blocks) ≡ length code.blocks
  counts = length-map code.blocks length

  counts_front : take (length code.blocks) (over 0 (map length code.blocks) (replicate 64 0)) ≡ map length code.blocks
  counts_front = front (map length code.blocks) (length code.blocks) 64 counts s.few

  pub head_good : head_ok (head_of code) ≡ true
  head_good =
      and_from _ _ (and_from _ _ (le-leb 1 (length code.blocks) s.some) (and_from _ _ (le-leb (length code.blocks) 64 s.few) (le-leb (length code.params) 8 s.params)))
      (and_from _ _
      (and_from _ _ (le-leb (length code.blocks) _ (sized (map length code.blocks) (length code.blocks) 64 counts s.few)) (le-leb (length code.params) _ (sized code.params (length code.params) 8 refl s.params)))
      (and_from _ _
      (and_from _ _ (ap (all_below 64) (front code.params (length code.params) 8 refl s.params) ∙ s.names) (unused code.params (length code.params) 8 refl s.params))
      (unused (map length code.blocks) (length code.blocks) 64 counts s.few)))

module _ (room : ℕ) (rows stored : List Row) (code : Code) (s : Read room stored code) (r : length rows ≡ room) where
  written : over 0 stored rows ≡ stored ++ drop (length stored) rows
  written = over_start stored rows (omega (arith, s.fits))

  rows_good_there : rows_ok (length code.blocks - 1) (map length code.blocks) (stored ++ drop (length stored) rows) ≡ true
  rows_good_there =
      and_from _ _ (le-leb (sum (map length code.blocks)) (length (stored ++ drop (length stored) rows)) (omega (arith, s.total, length-append stored (drop (length stored) rows))))
      (rw (s.back (drop (length stored) rows)) s.good)

  form_good : form_ok (over 0 stored rows) (head_of code) ≡ true
  form_good = and_from _ _ (head_good code s.headed) (rw (counts_front code s.headed, written) rows_good_there)

  code_back : code_of (over 0 stored rows) (head_of code) ≡ code
  code_back =
      let p : take (length code.params) (over 0 code.params (replicate 8 0)) ≡ code.params = front code.params (length code.params) 8 refl s.headed.params in
      let b : cut (take (length code.blocks) (over 0 (map length code.blocks) (replicate 64 0))) (over 0 stored rows) ≡ code.blocks = rw (counts_front code s.headed, written) (s.back (drop (length stored) rows)) in
      ap (λ (x : List ℕ). record { params = x; blocks = (code_of (over 0 stored rows) (head_of code)).blocks }) p
      ∙ ap (λ (x : List (List Row)). record { params = code.params; blocks = x }) b

-- a form that was read is filled
pub fills : (bytes : List ℕ) (rows : List Row) (old : Head) → Fills bytes (length rows) (rows_after bytes rows) (head_after bytes rows old)
fills bytes rows old code e =
    let s = read_sound bytes (length rows) code e in
    rw e (rw (form_good (length rows) rows (reading bytes (length rows)).stored code s refl) refl, code_back (length rows) rows (reading bytes (length rows)).stored code s refl)

-- as many names and blocks as were counted
pub names_many : (left : ℕ) (bytes : List ℕ) (at : ℕ) (p : Parsed (List ℕ)) → names_at left bytes at ≡ Ok p → length p.value ≡ left
names_many left bytes at p e = (names_sound left bytes at p e).many

pub blocks_many : (left last room : ℕ) (bytes : List ℕ) (at : ℕ) (p : Parsed (List (List Row))) → (blocks_at left last room bytes at 0).outcome ≡ Ok p → length p.value ≡ left
blocks_many left last room bytes at p e = (blocks_sound left last room bytes at 0 (omega arith) p e).many
