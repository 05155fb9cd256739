-- A reading that came out, from its parts.
use Rattle.std.proofs.Common.{◌≡◌, ℕ, ◌-◌, ◌≤◌, List, map, length, replicate, Ok, Err, Result, Bor, sym, refl, ap, ◌∙◌, subst, arith}
use Rattle.std.proofs.lemmas.Bool.{le-ltb}
use Rattle.numbers.specs.declared.read.Parsed.{Parsed}
use Rattle.forms.specs.declared.fault.FormFault.{FormFault}
use Rattle.forms.specs.declared.read.Reader.{Reader}
use Rattle.forms.specs.declared.row.Head.{Head}
use Rattle.forms.specs.declared.row.Row.{Row}
use Rattle.forms.specs.Buffers.{over, onto, lengths}
use Rattle.forms.specs.Code.{Code}
use Rattle.forms.specs.Cursor.{Reads}
use Rattle.forms.specs.Reading.{Reading, and_then, go_on, count_in, names_at, blocks_at, closed, reading, rows_after, head_after, Fills}
use Rattle.forms.proofs.Sound.{names_many, blocks_many, fills}

module _ {X : Type 0} where
  onto_ok : (place : ℕ) (buffer : List X) (r : Result (Parsed (List X)) FormFault) (p : Parsed (List X)) → Ok p ≡ onto place buffer r
      → (q : Parsed (List X)) × (r ≡ Ok q) × (p ≡ record { value = over place q.value buffer; next = q.next })
  onto_ok place buffer (Ok q) p h = (q, refl, grind arith)
  onto_ok place buffer (Err f) p h = absurd (grind arith)

  lengths_ok : (r : Result (Parsed (List (List X))) FormFault) (p : Parsed (List ℕ)) → lengths r ≡ Ok p
      → (q : Parsed (List (List X))) × (r ≡ Ok q) × (p ≡ record { value = map length q.value; next = q.next })
  lengths_ok (Ok q) p h = (q, refl, grind arith)
  lengths_ok (Err f) p h = absurd (grind arith)

-- heads with equal parts
same_head : {b b' p p' : ℕ} {ns ns' cs cs' : List ℕ} → b ≡ b' → p ≡ p' → ns ≡ ns' → cs ≡ cs'
    → ◌≡◌ {A = Head} (record { blocks = b; params = p; names = ns; counts = cs }) (record { blocks = b'; params = p'; names = ns'; counts = cs' })
same_head eb ep en ec = cc

-- the bytes and the rows that were lent; the reader after each part; the part
module _ (lent : Bor (List ℕ)) (rows : List Row) (r₁ r₂ r₃ r₄ : Reader) (n m : ℕ) (names counts : List ℕ)
    (en : Reads (count_in 1 64) (record { bytes = lent; at = 0 }) r₁ (Ok n))
    (em : Reads (count_in 0 8) r₁ r₂ (Ok m))
    (es : Reads (λ bytes at. onto 0 (replicate 8 0) (names_at m bytes at)) r₂ r₃ (Ok names))
    (ec : Reads (λ bytes at. onto 0 (replicate 64 0) (lengths (blocks_at n (n - 1) (length rows) bytes at 0).outcome)) r₃ r₄ (Ok counts)) where
  -- the blocks, after names that end at a place
  abbrev blocks_from : ℕ → Reading (Parsed (List (List Row)))
  blocks_from at = blocks_at n (n - 1) (length rows) lent.now at 0

  then : Parsed (List ℕ) → Reading Code
  then names = record { stored = (blocks_from names.next).stored; outcome = and_then (blocks_from names.next).outcome (closed names.value lent.now) }

  counted : reading lent.now (length rows) ≡ go_on (names_at m lent.now r₂.at) then
  unfolding then
  counted = let k : Ok (record { value = m; next = r₂.at }) ≡ count_in 0 8 lent.now r₁.at = rw en.0 at em.1 in rw (sym en.1) (rw (sym k) refl)

  given : (q : Parsed (List ℕ)) × (names_at m lent.now r₂.at ≡ Ok q) × ◌≡◌ {A = Parsed (List ℕ)} (record { value = names; next = r₃.at }) (record { value = over 0 q.value (replicate 8 0); next = q.next })
  given = onto_ok 0 (replicate 8 0) (names_at m lent.now r₂.at) (record { value = names; next = r₃.at }) (rw (em.0 ∙ en.0) at es.1)

  named : reading lent.now (length rows) ≡ record { stored = (blocks_from r₃.at).stored; outcome = and_then (blocks_from r₃.at).outcome (closed given.0.value lent.now) }
  unfolding then
  named =
      let at : given.0.next ≡ r₃.at = sym (ap (λ (p : Parsed (List ℕ)). p.next) given.2) in
      counted ∙ rw given.1 (ap (λ (x : ℕ). record { stored = (blocks_from x).stored; outcome = and_then (blocks_from x).outcome (closed given.0.value lent.now) }) at)

  long : (q : Parsed (List ℕ)) × (lengths (blocks_from r₃.at).outcome ≡ Ok q) × ◌≡◌ {A = Parsed (List ℕ)} (record { value = counts; next = r₄.at }) (record { value = over 0 q.value (replicate 64 0); next = q.next })
  long = onto_ok 0 (replicate 64 0) (lengths (blocks_from r₃.at).outcome) (record { value = counts; next = r₄.at }) (rw (es.0 ∙ em.0 ∙ en.0) at ec.1)

  blocked : (q : Parsed (List (List Row))) × ((blocks_from r₃.at).outcome ≡ Ok q) × (long.0 ≡ record { value = map length q.value; next = q.next })
  blocked = lengths_ok (blocks_from r₃.at).outcome long.0 long.1

  ended : blocked.0.next ≡ r₄.at
  ended = sym (ap (λ (p : Parsed (List ℕ)). p.next) long.2 ∙ ap (λ (p : Parsed (List ℕ)). p.next) blocked.2)

  -- what was read
  code : Code
  code = record { params = given.0.value; blocks = blocked.0.value }

  came_out : length lent.now ≤ r₄.at → reading lent.now (length rows) ≡ record { stored = (blocks_from r₃.at).stored; outcome = Ok code }
  unfolding code
  came_out h = named ∙ rw blocked.1 (rw (ended, le-ltb r₄.at (length lent.now) h) refl)

  pub head_is : length lent.now ≤ r₄.at → (old : Head) → ◌≡◌ {A = Head} (record { blocks = n; params = m; names = names; counts = counts }) (head_after lent.now rows old)
  unfolding code
  head_is h old =
      same_head
      (sym (blocks_many n (n - 1) (length rows) lent.now r₃.at blocked.0 blocked.1))
      (sym (names_many m lent.now r₂.at given.0 given.1))
      (ap (λ (p : Parsed (List ℕ)). p.value) given.2)
      (ap (λ (p : Parsed (List ℕ)). p.value) long.2 ∙ ap (λ (p : Parsed (List ℕ)). over 0 p.value (replicate 64 0)) blocked.2)
      ∙ rw (came_out h) refl

  -- the form can be filled
  pub filled_by : length lent.now ≤ r₄.at → (kept : List Row) → kept ≡ over 0 (blocks_at n (n - 1) (length rows) r₃.bytes.now r₃.at 0).stored rows
      → (old : Head) → Fills lent.now (length rows) kept (record { blocks = n; params = m; names = names; counts = counts })
  filled_by h kept w old =
      let s : kept ≡ rows_after lent.now rows = (rw (es.0 ∙ em.0 ∙ en.0) at w) ∙ rw (came_out h) refl in
      subst (λ (x : Head). Fills lent.now (length rows) kept x) (sym (head_is h old)) (rw s (fills lent.now rows old))
