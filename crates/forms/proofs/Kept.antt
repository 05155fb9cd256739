-- What a code that keeps the rules has, by its parts.
use Rattle.std.proofs.Common.{◌≡◌, ℕ, zero, suc, ◌+◌, ◌-◌, ◌≤◌, true, ◌&&◌, leb, List, [], ◌∷◌, length, get_or, arith}
use Rattle.std.proofs.lemmas.Bool.{and_parts, leb-true}
use Rattle.forms.specs.declared.row.Row.{Row}
use Rattle.forms.specs.Code.{Code, head_of}
use Rattle.forms.specs.Rules.{count_ok, block_ok, blocks_ok, counts_ok, complete, entries_ok, head_ok, code_ok}

-- A block has at most 64 rows.
module _ (last used : ℕ) (block : List Row) (blocks : List (List Row)) (h : blocks_ok last used (block ∷ blocks) ≡ true) where
  halves : (count_ok used (length block) ≡ true) × ((block_ok last block && blocks_ok last (used + length block) blocks) ≡ true)
  halves = and_parts (count_ok used (length block)) (block_ok last block && blocks_ok last (used + length block) blocks) h

  first_few : length block ≤ 64
  first_few =
      let q = (and_parts (leb 1 (length block)) (leb (length block) 64 && leb (used + length block) 512) halves.0).1 in
      leb-true (length block) 64 (and_parts (leb (length block) 64) (leb (used + length block) 512) q).0

  others_ok : blocks_ok last (used + length block) blocks ≡ true
  others_ok = (and_parts (block_ok last block) (blocks_ok last (used + length block) blocks) halves.1).1

blocks_few : (last used : ℕ) (blocks : List (List Row)) → blocks_ok last used blocks ≡ true → (b : ℕ) → length (get_or blocks b []) ≤ 64
blocks_few last used [] h b = omega arith
blocks_few last used (block ∷ blocks) h zero = first_few last used block blocks h
blocks_few last used (block ∷ blocks) h (suc b) = blocks_few last (used + length block) blocks (others_ok last used block blocks h) b

module _ (code : Code) (keeps : code_ok code ≡ true) where
  parts : (head_ok (head_of code) ≡ true) × (blocks_ok (length code.blocks - 1) 0 code.blocks ≡ true)
  parts = and_parts (head_ok (head_of code)) (blocks_ok (length code.blocks - 1) 0 code.blocks) keeps

  pub few_rows : (b : ℕ) (rows : List Row) → rows ≡ get_or code.blocks b [] → length rows ≤ 64
  few_rows b rows e = rw e (blocks_few (length code.blocks - 1) 0 code.blocks parts.1 b)

  -- There are at most 8 parameters.
  pub few_parameters : length code.params ≤ 8
  few_parameters =
      let c = (and_parts (counts_ok (head_of code)) (complete (head_of code) && entries_ok (head_of code)) parts.0).0 in
      let q = (and_parts (leb 1 (length code.blocks)) (leb (length code.blocks) 64 && leb (length code.params) 8) c).1 in
      leb-true (length code.params) 8 (and_parts (leb (length code.blocks) 64) (leb (length code.params) 8) q).1
