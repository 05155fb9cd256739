-- What the blocks of a form are.
use Rattle.std.proofs.Common.{◌≡◌, ℕ, zero, suc, ◌-◌, ◌<◌, ◌≤◌, true, ◌&&◌, leb, List, [], ◌∷◌, length, get_or, take, drop, sum, sym, refl, ap, ◌∙◌, arith, length-drop}
use Rattle.std.proofs.lemmas.List.{drop-drop, get_or_past, get_or-take, take-take, length-take-le}
use Rattle.std.proofs.lemmas.List.Sums.{sum_by-cons, sum_by-take-le}
use Rattle.std.proofs.lemmas.Bool.{and_parts, leb-true}
use Rattle.std.proofs.lemmas.Bool.Decides.{nat_tests}
use Rattle.forms.specs.declared.row.Head.{Head}
use Rattle.forms.specs.declared.row.Row.{Row}
use Rattle.forms.specs.Code.{cut, code_of, rows_of}
use Rattle.forms.specs.Rules.{counts_ok, complete, entries_ok, head_ok, rows_ok, form_ok}

pub length_cut : (counts : List ℕ) (rows : List Row) → length (cut counts rows) ≡ length counts
length_cut [] rows = refl
length_cut (count ∷ counts) rows = ap suc (length_cut counts (drop count rows))

-- a block is the part of its length after the rows before it
pub cut_at : (counts : List ℕ) (rows : List Row) (b : ℕ) → b < length counts
    → get_or (cut counts rows) b [] ≡ take (get_or counts b 0) (drop (sum (take b counts)) rows)
cut_at [] rows b h = absurd (omega arith)
cut_at (count ∷ counts) rows zero h = refl
cut_at (count ∷ counts) rows (suc b) h =
    cut_at counts (drop count rows) b (omega arith)
    ∙ ap (take (get_or counts b 0)) (drop-drop (sum (take b counts)) count rows ∙ ap (λ (n : ℕ). drop n rows) (sym (sum_by-cons (λ x. x) count (take b counts))))

-- the rows that are counted are all
pub cut_total : (counts : List ℕ) (rows : List Row) → sum counts ≤ length rows → rows_of (cut counts rows) ≡ sum counts
cut_total [] rows h = refl
cut_total (count ∷ counts) rows h =
    let c = sum_by-cons (λ x. x) count counts in
    let l : count ≤ length rows = omega arith in
    let t = cut_total counts (drop count rows) (omega (arith, length-drop count rows)) in
    omega (arith, length-take-le count rows l)

-- a form by its parts
module _ (rows : List Row) (head : Head) (sound : form_ok rows head ≡ true) where
  parts : (counts_ok head ≡ true) × (complete head ≡ true)
  parts =
      let p = and_parts (head_ok head) (rows_ok (head.blocks - 1) (take head.blocks head.counts) rows) sound in
      let q = and_parts (counts_ok head) (complete head && entries_ok head) p.0 in
      (q.0, (and_parts (complete head) (entries_ok head) q.1).0)

  pub some_blocks : 1 ≤ head.blocks
  some_blocks = let p = parts.0 in grind (arith, nat_tests)

  pub few_blocks : head.blocks ≤ 64
  few_blocks = let p = parts.0 in grind (arith, nat_tests)

  pub few_params : head.params ≤ 8
  few_params = let p = parts.0 in grind (arith, nat_tests)

  pub counts_there : head.blocks ≤ length head.counts
  counts_there = let p = parts.1 in grind (arith, nat_tests)

  pub names_there : head.params ≤ length head.names
  names_there = let p = parts.1 in grind (arith, nat_tests)

  there : sum (take head.blocks head.counts) ≤ length rows
  there =
      let r = (and_parts (head_ok head) (rows_ok (head.blocks - 1) (take head.blocks head.counts) rows) sound).1 in
      leb-true _ (length rows) (and_parts (leb (sum (take head.blocks head.counts)) (length rows)) _ r).0

  -- the rows before a block are
  pub before_there : (b : ℕ) → b ≤ head.blocks → sum (take b head.counts) ≤ length rows
  before_there b h =
      let e : take b (take head.blocks head.counts) ≡ take b head.counts = take-take b head.blocks head.counts h in
      omega (arith, there, rw e at (sum_by-take-le (λ x. x) (take head.blocks head.counts) b))

  counted : length (take head.blocks head.counts) ≡ head.blocks
  counted = length-take-le head.blocks head.counts counts_there

  pub blocks_counted : head.blocks ≡ length (code_of rows head).blocks
  blocks_counted = sym (length_cut (take head.blocks head.counts) rows ∙ counted)

  module _ (b : ℕ) (h : b < head.blocks) where
    before : take b (take head.blocks head.counts) ≡ take b head.counts
    before = take-take b head.blocks head.counts (omega arith)

    own : get_or (take head.blocks head.counts) b 0 ≡ get_or head.counts b 0
    own = get_or-take head.blocks head.counts b 0 h

    pub block_is : take (get_or head.counts b 0) (drop (sum (take b head.counts)) rows) ≡ get_or (code_of rows head).blocks b []
    block_is = sym (simp (before, own) at (cut_at (take head.blocks head.counts) rows b (omega (arith, counted))))

  pub no_block : (b : ℕ) → head.blocks ≤ b → [] ≡ get_or (code_of rows head).blocks b []
  no_block b h = sym (get_or_past (code_of rows head).blocks b [] (omega (arith, blocks_counted)))

  pub rows_counted : sum (take head.blocks head.counts) ≡ rows_of (code_of rows head).blocks
  rows_counted = sym (cut_total (take head.blocks head.counts) rows there)
