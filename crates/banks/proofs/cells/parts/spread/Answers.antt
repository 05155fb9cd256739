use Rattle.std.proofs.Common.{◌≡◌, ℕ, List, [], ◌∷◌, ◌++◌, ◌+◌, length, get_or, take, sym, ap, ◌∙◌, refl, arith, length-set}
use Rattle.std.proofs.Math.Path.{fun_ext}
use Rattle.std.proofs.Math.Seq.{map-set_same}
use Rattle.std.proofs.lemmas.List.{length-map, map-set, take_more, take_more_set, take_all}
use Rattle.banks.specs.declared.cells.Cell.{Cell}
use Rattle.banks.specs.Meanings.{by_place}
use Rattle.banks.specs.Table.{widths_of, word_of}
use Rattle.banks.specs.Tables.{zeros}
use Rattle.banks.proofs.cells.parts.spread.Goals as goal

pub loop-a-preserved : goal.loop-a-preserved
loop-a-preserved c =
    let cells = c.loop-a.cells in
    let a = c.loop-a.a in
    let w = get_or c.args.widths.now a 0 in
    record {
      long = length-set cells a _ ∙ c.loop-a.invariant.long;
      widths = ap (take (a + 1)) (map-set (λ (x : Cell). x.width) cells a _)
          ∙ take_more_set (widths_of cells) a w (omega (arith, length-map cells (λ (x : Cell). x.width)))
          ∙ ap (λ (l : List ℕ). l ++ w ∷ []) c.loop-a.invariant.widths
          ∙ sym (take_more c.args.widths.now a 0 c.loop-a-test.true);
      words = map-set_same word_of cells a _ _ refl ∙ c.loop-a.invariant.words;
    }

pub returns : goal.returns
returns c =
    let n = length c.args.widths.now in
    let end : n ≡ c.loop-a.a = omega arith in
    record {
      widths = ap (λ (k : ℕ). take k (widths_of c.loop-a.cells)) end ∙ c.loop-a.invariant.widths ∙ take_all c.loop-a.a c.args.widths.now (omega arith);
      words = ap by_place c.loop-a.invariant.words ∙ fun_ext (zeros 64);
      len = length-map c.loop-a.cells (λ (x : Cell). x.width) ∙ c.loop-a.invariant.long;
    }
