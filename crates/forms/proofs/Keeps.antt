-- The code of a form keeps the rules.
use Rattle.std.proofs.Common.{◌≡◌, ◌-◌, true, ◌&&◌, leb, List, length, take, drop, sum, sym, arith}
use Rattle.std.proofs.lemmas.List.{length-take-le}
use Rattle.std.proofs.lemmas.Bool.{and_from, and_parts}
use Rattle.forms.specs.declared.row.Head.{Head}
use Rattle.forms.specs.declared.row.Row.{Row}
use Rattle.forms.specs.Code.{code_of}
use Rattle.forms.specs.Rules.{blocks_ok, all_below, counts_ok, complete, entries_ok, head_ok, code_ok, rows_ok, form_ok}
use Rattle.forms.proofs.Cuts.{some_blocks, few_blocks, few_params, names_there, blocks_counted}
use Rattle.forms.proofs.Sound.{Headed, head_good}

module _ (rows : List Row) (head : Head) (sound : form_ok rows head ≡ true) where
  names_good : all_below 64 (take head.params head.names) ≡ true
  names_good =
      let h = (and_parts (head_ok head) (rows_ok (head.blocks - 1) (take head.blocks head.counts) rows) sound).0 in
      let e = (and_parts (complete head) (entries_ok head) (and_parts (counts_ok head) (complete head && entries_ok head) h).1).1 in
      let n = (and_parts _ (all_below 1 (drop head.blocks head.counts)) e).0 in
      (and_parts (all_below 64 (take head.params head.names)) (all_below 1 (drop head.params head.names)) n).0

  headed : Headed (code_of rows head)
  headed = record {
    some = omega (arith, some_blocks rows head sound, blocks_counted rows head sound);
    few = omega (arith, few_blocks rows head sound, blocks_counted rows head sound);
    params = omega (arith, few_params rows head sound, length-take-le head.params head.names (names_there rows head sound));
    names = names_good;
  }

  blocks_good : blocks_ok (head.blocks - 1) 0 (code_of rows head).blocks ≡ true
  blocks_good =
      let r = (and_parts (head_ok head) (rows_ok (head.blocks - 1) (take head.blocks head.counts) rows) sound).1 in
      (and_parts (leb (sum (take head.blocks head.counts)) (length rows)) _ r).1

  pub form_keeps : code_ok (code_of rows head) ≡ true
  form_keeps = and_from _ _ (head_good (code_of rows head) headed) (rw (sym (blocks_counted rows head sound)) blocks_good)
