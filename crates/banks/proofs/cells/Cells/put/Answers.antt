use Rattle.std.proofs.Common.{◌≡◌, ℕ, ◌<◌, length, take, sym, ap, ◌∙◌, subst, refl, arith, rules, slice_set}
use Rattle.std.specs.Int.{from_le_bytes, w64}
use Rattle.std.proofs.Math.Seq.{map-set_same}
use Rattle.std.proofs.lemmas.List.{length-take-le, length-map, map-set}
use Rattle.std.proofs.lemmas.Nat.{from_le_bytes-to_le_bytes_8}
use Rattle.banks.specs.Meanings.{by_place}
use Rattle.banks.specs.Table.{Sound, widths_of, word_of, words_of}
use Rattle.banks.specs.Tables.{same_table, words_set}
use Rattle.banks.proofs.cells.Cells.put.Goals as goal

pub invariant_of-self : goal.invariant_of-self
invariant_of-self c = record { sound = subst (Sound c.args.self.now.count) (sym (map-set_same (λ x. x.width) c.args.self.now.cells c.args.a _ _ refl)) c.args.self.now.sound }

pub returns-then-a-self : goal.returns-then-a-self
returns-then-a-self c =
    let cells = c.args.self.now.cells in
    let n = c.args.self.now.count in
    let inside : c.args.a < length cells = search rules in
    let word : c.args.a < length (words_of cells) = omega (arith, length-map cells word_of) in
    let cell : c.args.a < length (take n (widths_of cells)) = omega (arith, length-take-le n (widths_of cells) c.args.self.now.sound.1) in
    let seen : from_le_bytes w64 c.to_le_bytes.result ≡ c.args.w = ap (from_le_bytes w64) c.to_le_bytes.ensures ∙ from_le_bytes-to_le_bytes_8 c.args.w (omega arith) in
    same_table _ _ (ap (take n) (map-set_same (λ x. x.width) cells c.args.a _ _ refl))
    (ap by_place (map-set word_of cells c.args.a _) ∙ ap (λ (v : ℕ). by_place (slice_set (words_of cells) c.args.a v)) seen ∙ words_set (take n (widths_of cells)) (words_of cells) c.args.a c.args.w word cell)
