-- The bytes of every code that keeps the rules are read as that code.
use Rattle.std.proofs.Common.{◌≡◌, ℕ, zero, suc, ◌+◌, ◌-◌, ◌^◌, ◌<◌, ◌≤◌, Bool, true, false, cond, ◌&&◌, ltb, leb, List, [], ◌∷◌, ◌++◌, length, get_or, take, drop, Some, None, Ok, Err, Option, Result, sym, refl, ap, ◌∙◌, subst, arith}
use Rattle.std.proofs.lemmas.List.{append_assoc, append-nil, drop-drop, drop_at, length-drop}
use Rattle.std.proofs.lemmas.Bool.{and_parts, eqb-true, leb-true, le-leb, ltb-true, lt-ltb, le-ltb}
use Rattle.numbers.specs.Reading.{number}
use Rattle.numbers.specs.Writing.{written}
use Rattle.numbers.specs.declared.read.Parsed.{Parsed}
use Rattle.numbers.proofs.Back.{reads_at}
use Rattle.forms.specs.declared.fault.FormFault.{FormFault}
use Rattle.forms.specs.declared.fault.FormFault.TheVariants.{Count}
use Rattle.forms.specs.declared.limits.Limits.{Limits}
use Rattle.forms.specs.declared.row.Row.{Row}
use Rattle.forms.specs.Code.{Code, rows_of, head_of}
use Rattle.forms.specs.Reading.{Reading, lifted, and_then, up_to, field_at, word_at, fields_at, row_at, count_in, before, names_at, storing, go_on, rows_at, block_then, blocks_at, closed}
use Rattle.forms.specs.Rows.{fields, kinds, limits_of, within, within_word, fields_ok, row_ok}
use Rattle.forms.specs.Rules.{count_ok, block_ok, blocks_ok, all_below, counts_ok, complete, entries_ok, head_ok}
use Rattle.forms.specs.Writing.{field_bytes, word_bytes, fields_bytes, row_bytes, rows_bytes, blocks_bytes, names_bytes, words_ok, all_words, Accepts}
use Rattle.forms.proofs.Sound.{front}

-- what is read is a value, and after it the rest stands
record Reads {X : Type 0} (bytes : List ℕ) (r : Result (Parsed X) FormFault) (value : X) (rest : List ℕ) : Type 0 where
  next : ℕ
  said : r ≡ Ok (record { value = value; next = next })
  left : drop next bytes ≡ rest

-- what holds of that holds of what is read
reads_to : {X : Type 0} {bytes rest : List ℕ} {r : Result (Parsed X) FormFault} {value : X} (P : Result (Parsed X) FormFault → Type 0) → Reads bytes r value rest
    → ((next : ℕ) → drop next bytes ≡ rest → P (Ok (record { value = value; next = next }))) → P r
reads_to P s each = subst P (sym s.said) (each s.next s.left)

-- the same of a reading that goes on with it
reads_on : {X Y : Type 0} {bytes rest : List ℕ} {r : Result (Parsed X) FormFault} {value : X} (y : Y) (go : Parsed X → Reading Y) → Reads bytes r value rest
    → ((next : ℕ) → drop next bytes ≡ rest → (go (record { value = value; next = next })).outcome ≡ Ok y) → (go_on r go).outcome ≡ Ok y
reads_on y go = reads_to (λ r. (go_on r go).outcome ≡ Ok y)

-- wherever the bytes of a value stand, the value is read
record Takes {X : Type 0} (bytes : List ℕ) (read : ℕ → Result (Parsed X) FormFault) (value : X) (xs : List ℕ) : Type 0 where
  reads : (at : ℕ) (rest : List ℕ) → drop at bytes ≡ xs ++ rest → Reads bytes (read at) value rest

-- no bytes
takes_none : {X : Type 0} (bytes : List ℕ) (value : X) → Takes bytes (λ at. Ok (record { value = value; next = at })) value []
takes_none bytes value = record { reads = λ at rest e. record { next = at; said = refl; left = e } }

module _ {X Y : Type 0} {bytes xs : List ℕ} {read : ℕ → Result (Parsed X) FormFault} {x : X} {y : Y} where
  -- one value after another
  takes_both : {ys : List ℕ} (after : Result (Parsed X) FormFault → Result (Parsed Y) FormFault) → Takes bytes read x xs
      → Takes bytes (λ at. after (Ok (record { value = x; next = at }))) y ys → Takes bytes (λ at. after (read at)) y (xs ++ ys)
  takes_both {ys} after s t = record {
    reads = λ at rest e.
        reads_to (λ r. Reads bytes (after r) y rest) (s.reads at (ys ++ rest) (e ∙ append_assoc xs ys rest)) (λ next l. t.reads next rest l);
  }

  -- nothing after it
  takes_last : (after : Result (Parsed X) FormFault → Result (Parsed Y) FormFault) → Takes bytes read x xs
      → ((at : ℕ) → after (Ok (record { value = x; next = at })) ≡ Ok (record { value = y; next = at })) → Takes bytes (λ at. after (read at)) y xs
  takes_last after s same = record {
    reads = λ at rest e.
        reads_to (λ r. Reads bytes (after r) y rest) (s.reads at rest e) (λ next l. record { next = next; said = same next; left = l });
  }

  -- the same of a reading that goes on with it
  takes_then : {ys : List ℕ} (go : Parsed X → Result (Parsed Y) FormFault) → Takes bytes read x xs
      → Takes bytes (λ at. go (record { value = x; next = at })) y ys → Takes bytes (λ at. and_then (read at) go) y (xs ++ ys)
  takes_then go = takes_both (λ r. and_then r go)

  -- with nothing after it
  takes_end : (go : Parsed X → Result (Parsed Y) FormFault) → Takes bytes read x xs
      → ((at : ℕ) → go (record { value = x; next = at }) ≡ Ok (record { value = y; next = at })) → Takes bytes (λ at. and_then (read at) go) y xs
  takes_end go = takes_last (λ r. and_then r go)

  -- or one that stores rows
  takes_on : {ys : List ℕ} (go : Parsed X → Reading (Parsed Y)) → Takes bytes read x xs
      → Takes bytes (λ at. (go (record { value = x; next = at })).outcome) y ys → Takes bytes (λ at. (go_on (read at) go).outcome) y (xs ++ ys)
  takes_on go = takes_both (λ r. (go_on r go).outcome)

-- an item before others
takes_before : {X : Type 0} {bytes bs : List ℕ} {read : ℕ → Result (Parsed (List X)) FormFault} {xs : List X} (x : X) → Takes bytes read xs bs
    → Takes bytes (λ at. before x (read at)) (x ∷ xs) bs
takes_before x s = takes_last (before x) s (λ at. refl)

-- the highest number of a field is a small one, which is below 2^64
low : Option ℕ → Bool
low None = true
low (Some highest) = leb highest 255

-- the same of each field of a row
low_limits : Limits → Bool
low_limits l = ((((((low l.o && low l.d) && low l.a) && low l.b) && low l.k) && low l.t) && low l.f)

-- and of each row of a table
all_low : List Limits → Bool
all_low [] = true
all_low (l ∷ ls) = low_limits l && all_low ls

-- what the table says at a place, or the default
low_at : (ls : List Limits) (i : ℕ) (l : Limits) → all_low ls ≡ true → low_limits l ≡ true → low_limits (get_or ls i l) ≡ true
unfolding all_low
low_at [] i l a d = d
low_at (x ∷ ls) zero l a d = (and_parts (low_limits x) (all_low ls) a).0
low_at (x ∷ ls) (suc i) l a d = low_at ls i l (and_parts (low_limits x) (all_low ls) a).1 d

-- every kind's fields
limits_low : (kind last : ℕ) → leb last 255 ≡ true → low_limits (limits_of kind last) ≡ true
unfolding low low_limits all_low
limits_low kind last h = low_at (kinds last) kind (fields None None None None None false None None) (rw h refl) refl

-- what seven tests that all hold say
all_seven : (a b c d e f g : Bool) → ((((((a && b) && c) && d) && e) && f) && g) ≡ true
    → (a ≡ true) × (b ≡ true) × (c ≡ true) × (d ≡ true) × (e ≡ true) × (f ≡ true) × (g ≡ true)
all_seven a b c d e f g h =
    let p = and_parts _ g h in
    let q = and_parts _ f p.0 in
    let r = and_parts _ e q.0 in
    let s = and_parts _ d r.0 in
    let t = and_parts _ c s.0 in
    let u = and_parts a b t.0 in
    (u.0, u.1, t.1, s.1, r.1, q.1, p.1)

-- a block has few rows
count_small : (used count : ℕ) → count_ok used count ≡ true → count < 2 ^ 64
count_small used count h =
    let p = and_parts (leb 1 count) (leb count 64 && leb (used + count) 512) h in
    omega (arith, leb-true count 64 (and_parts (leb count 64) (leb (used + count) 512) p.1).0)

-- rows that were stored, with the place after them
kept : Reading ℕ → Result (Parsed (List Row)) FormFault
kept s = and_then s.outcome (λ next. Ok (record { value = s.stored; next = next }))

-- one row stored before them
kept_storing : (r : Row) (rows : List Row) (out : Result ℕ FormFault) → kept (storing (r ∷ []) (record { stored = rows; outcome = out })) ≡ before r (kept (record { stored = rows; outcome = out }))
unfolding kept
kept_storing r rows (Ok next) = refl
kept_storing r rows (Err e) = refl

-- a row before the others, where it may stand and there is a place for it
kept_before : (b c : Bool) (r : Row) (s y z : Reading ℕ) → b ≡ true → c ≡ true → kept (cond b (cond c (storing (r ∷ []) s) y) z) ≡ before r (kept s)
kept_before b c r s y z eb ec = rw (eb, ec) (kept_storing r s.stored s.outcome)

-- a block's rows before the blocks after it
kept_then : (rows : List Row) (out : Result ℕ FormFault) (go : ℕ → Reading (Parsed (List (List Row))))
    → (block_then rows out go).outcome ≡ and_then (kept (record { stored = rows; outcome = out })) (λ p. before p.value (go p.next).outcome)
unfolding kept
kept_then rows (Ok next) go = refl
kept_then rows (Err e) go = refl

module _ (bytes : List ℕ) where
  -- a number that stands at a place is read
  number_takes : (n : ℕ) → n < 2 ^ 64 → Takes bytes (λ at. lifted (number bytes at)) n (written n)
  number_takes n h = record {
    reads = λ at rest e. record {
      next = at + length (written n);
      said = ap lifted (reads_at n h bytes at rest e);
      left = sym (drop-drop (length (written n)) at bytes) ∙ ap (drop (length (written n))) e ∙ drop_at (written n) rest (length (written n)) refl;
    };
  }

  -- and passes a test
  tested_takes : (n : ℕ) (test : ℕ → Parsed ℕ → Result (Parsed ℕ) FormFault) → ((at next : ℕ) → test at (record { value = n; next = next }) ≡ Ok (record { value = n; next = next }))
      → n < 2 ^ 64 → Takes bytes (λ at. and_then (lifted (number bytes at)) (test at)) n (written n)
  tested_takes n test passes h = record { reads = λ at. (takes_last (λ r. and_then r (test at)) (number_takes n h) (passes at)).reads at }

  -- a count within its limits
  count_takes : (least most n : ℕ) → leb least n ≡ true → leb n most ≡ true → n < 2 ^ 64 → Takes bytes (λ at. count_in least most bytes at) n (written n)
  count_takes least most n a b h = tested_takes n (λ at p. cond (leb least p.value && leb p.value most) (Ok p) (Err (Count at))) (λ at next. rw (a, b) refl) h

  -- a field within its limit
  field_takes : (highest : Option ℕ) (value : ℕ) → within highest value ≡ true → low highest ≡ true → Takes bytes (λ at. field_at highest bytes at) value (field_bytes highest value)
  unfolding low
  field_takes None value w s = rw (eqb-true value 0 w) (takes_none bytes 0)
  field_takes (Some highest) value w s = tested_takes value (up_to highest) (λ at next. rw w refl) (omega (arith, leb-true value highest w, leb-true highest 255 s))

  -- a constant that is a word
  word_takes : (there : Bool) (value : ℕ) → within_word there value ≡ true → value < 2 ^ 64 → Takes bytes (λ at. word_at there bytes at) value (word_bytes there value)
  word_takes true value w s = number_takes value s
  word_takes false value w s = rw (eqb-true value 0 w) (takes_none bytes 0)

  -- the fields of a row, in the order in which they are written
  fields_take : (l : Limits) (r : Row) → fields_ok l r ≡ true → low_limits l ≡ true → r.c < 2 ^ 64 → Takes bytes (λ at. fields_at l r.kind bytes at) r (fields_bytes l r)
  unfolding low_limits
  fields_take l r g s h =
      let v = and_parts _ _ g in
      let w = all_seven _ _ _ _ _ _ _ v.0 in
      let m = all_seven _ _ _ _ _ _ _ s in
      takes_then _ (field_takes l.o r.o w.0 m.0)
      (takes_then _ (field_takes l.k r.k w.4 m.4)
      (takes_then _ (field_takes l.d r.d w.1 m.1)
      (takes_then _ (field_takes l.a r.a w.2 m.2)
      (takes_then _ (field_takes l.b r.b w.3 m.3)
      (takes_then _ (word_takes l.c r.c w.5 h)
      (takes_then _ (field_takes l.t r.t w.6 m.5)
      (takes_end _ (field_takes l.f r.f v.1 m.6) (λ at. refl))))))))

  -- a row that keeps the rules
  row_takes : (last : ℕ) (r : Row) → leb last 255 ≡ true → row_ok last r ≡ true → r.c < 2 ^ 64 → Takes bytes (λ at. row_at last bytes at) r (row_bytes last r)
  unfolding low
  row_takes last r l g h =
      let p = and_parts (leb r.kind 10) _ g in
      takes_then _ (field_takes (Some 10) r.kind p.0 refl) (fields_take (limits_of r.kind last) r p.1 (limits_low r.kind last l) h)

  -- names below 64
  names_take : (names : List ℕ) → all_below 64 names ≡ true → Takes bytes (λ at. names_at (length names) bytes at) names (names_bytes names)
  unfolding low
  names_take [] g = takes_none bytes []
  names_take (x ∷ names) g =
      let p = and_parts (ltb x 64) (all_below 64 names) g in
      takes_then _ (field_takes (Some 63) x (le-leb x 63 (omega (arith, ltb-true x 64 p.0))) refl) (takes_before x (names_take names p.1))

  -- rows after what was read; a refusal names the place where the reading began
  kept_on : {X : Type 0} {read : ℕ → Result (Parsed X) FormFault} {x : X} {xs ys : List ℕ} {rows : List Row} (go : ℕ → Parsed X → Reading ℕ) → Takes bytes read x xs
      → ((from : ℕ) → Takes bytes (λ at. kept (go from (record { value = x; next = at }))) rows ys) → Takes bytes (λ at. kept (go_on (read at) (go at))) rows (xs ++ ys)
  kept_on go s each = record { reads = λ at. (takes_both (λ r. kept (go_on r (go at))) s (each at)).reads at }

  -- the rows of a block that keeps the rules, where there is room for them
  rows_take : (rows : List Row) (last room place : ℕ) → leb last 255 ≡ true → block_ok last rows ≡ true → words_ok rows ≡ true → place + length rows ≤ room
      → Takes bytes (λ at. kept (rows_at (length rows) last room bytes at place)) rows (rows_bytes last rows)
  unfolding kept
  rows_take [] last room place l g h r = takes_none bytes []
  rows_take (x ∷ rows) last room place l g h r =
      let p = and_parts _ (block_ok last rows) g in
      let q = and_parts (row_ok last x) _ p.0 in
      let w = and_parts (ltb x.c (2 ^ 64)) (words_ok rows) h in
      let s = takes_before x (rows_take rows last room (place + 1) l p.1 w.1 (omega arith)) in
      kept_on _ (row_takes last x l q.0 (ltb-true x.c (2 ^ 64) w.0))
      (λ from. record { reads = λ at rest e. rw (kept_before _ _ x _ _ _ q.1 (lt-ltb place room (omega arith))) (s.reads at rest e) })

  -- a block and those after it
  block_takes : (s : ℕ → Reading ℕ) (rows : List Row) (blocks : List (List Row)) (xs ys : List ℕ) (go : ℕ → Reading (Parsed (List (List Row))))
      → Takes bytes (λ at. kept (s at)) rows xs → Takes bytes (λ at. (go at).outcome) blocks ys → Takes bytes (λ at. (block_then (s at).stored (s at).outcome go).outcome) (rows ∷ blocks) (xs ++ ys)
  block_takes s rows blocks xs ys go t u = record {
    reads = λ at rest e.
        subst (λ r. Reads bytes r (rows ∷ blocks) rest) (sym (kept_then (s at).stored (s at).outcome go))
        ((takes_both (λ r. and_then r (λ p. before p.value (go p.next).outcome)) t (takes_before rows u)).reads at rest e);
  }

  -- blocks that keep the rules, where there is room for their rows
  blocks_take : (blocks : List (List Row)) (last room place : ℕ) → leb last 255 ≡ true → blocks_ok last place blocks ≡ true → all_words blocks ≡ true → place + rows_of blocks ≤ room
      → Takes bytes (λ at. (blocks_at (length blocks) last room bytes at place).outcome) blocks (blocks_bytes last blocks)
  blocks_take [] last room place l g w r = takes_none bytes []
  blocks_take (block ∷ blocks) last room place l g w r =
      let p = and_parts (count_ok place (length block)) _ g in
      let q = and_parts (block_ok last block) (blocks_ok last (place + length block) blocks) p.1 in
      let k = and_parts (words_ok block) (all_words blocks) w in
      takes_on _ (tested_takes (length block) _ (λ at next. rw p.0 refl) (count_small place (length block) p.0))
      (block_takes (λ at. rows_at (length block) last room bytes at place) block blocks (rows_bytes last block) (blocks_bytes last blocks) (λ next. blocks_at (length blocks) last room bytes next (place + length block))
      (rows_take block last room place l q.0 k.0 (omega arith)) (blocks_take blocks last room (place + length block) l q.1 k.1 (omega arith)))

  -- where nothing is left over, the code is what was read
  closes : (names : List ℕ) (blocks : List (List Row)) (next : ℕ) → drop next bytes ≡ [] → closed names bytes (record { value = blocks; next = next }) ≡ Ok (record { params = names; blocks = blocks })
  closes names blocks next e =
      let z : length bytes - next ≡ 0 = sym (length-drop next bytes) ∙ ap length e in
      rw (le-ltb next (length bytes) (omega arith)) refl

-- the head of a code that keeps the rules
module _ (code : Code) (g : head_ok (head_of code) ≡ true) where
  counted : (1 ≤ length code.blocks) × (length code.blocks ≤ 64) × (length code.params ≤ 8)
  counted =
      let p = (and_parts (counts_ok (head_of code)) (complete (head_of code) && entries_ok (head_of code)) g).0 in
      let q = and_parts (leb 1 (length code.blocks)) (leb (length code.blocks) 64 && leb (length code.params) 8) p in
      let r = and_parts (leb (length code.blocks) 64) (leb (length code.params) 8) q.1 in
      (leb-true 1 (length code.blocks) q.0, leb-true (length code.blocks) 64 r.0, leb-true (length code.params) 8 r.1)

  named : all_below 64 code.params ≡ true
  named =
      let p = (and_parts (complete (head_of code)) (entries_ok (head_of code)) (and_parts (counts_ok (head_of code)) (complete (head_of code) && entries_ok (head_of code)) g).1).1 in
      let q = (and_parts _ (all_below 1 (drop (length code.blocks) (head_of code).counts)) p).0 in
      let r = (and_parts (all_below 64 (take (length code.params) (head_of code).names)) (all_below 1 (drop (length code.params) (head_of code).names)) q).0 in
      sym (ap (all_below 64) (front code.params (length code.params) 8 refl counted.2)) ∙ r

-- the bytes of a code that keeps the rules
pub accepts_all : (bytes : List ℕ) (room : ℕ) → Accepts bytes room
accepts_all bytes room code g w e r =
    let p = and_parts (head_ok (head_of code)) (blocks_ok (length code.blocks - 1) 0 code.blocks) g in
    let c = counted code p.0 in
    reads_on code _ ((count_takes bytes 1 64 (length code.blocks) (le-leb 1 _ c.0) (le-leb _ 64 c.1) (omega arith)).reads 0 _ e) (λ one e1.
    reads_on code _ ((count_takes bytes 0 8 (length code.params) (le-leb 0 _ (omega arith)) (le-leb _ 8 c.2) (omega arith)).reads one _ e1) (λ two e2.
    reads_on code _ ((names_take bytes code.params (named code p.0)).reads two _ e2) (λ three e3.
    reads_to (λ x. and_then x (closed code.params bytes) ≡ Ok code)
    ((blocks_take bytes code.blocks (length code.blocks - 1) room 0 (le-leb _ 255 (omega arith)) p.1 w (omega arith)).reads three [] (e3 ∙ sym (append-nil (blocks_bytes (length code.blocks - 1) code.blocks)))) (λ four e4.
    closes bytes code.params code.blocks four e4))))
