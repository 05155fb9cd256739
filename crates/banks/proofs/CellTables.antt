-- What a table of cells answers, cell by cell.
use Rattle.std.proofs.Common.{◌≡◌, ℕ, ◌<◌, List, map, take, Some, None, Option, refl, sym, ap, ap₂, ◌∙◌, arith}
use Rattle.std.specs.Option.{MatchOption, option_map, unwrap_or}
use Rattle.std.specs.List.{slice_get, slice_index}
use Rattle.std.proofs.lemmas.List.{take-map, get_or-take, length-take}
use Rattle.std.proofs.lemmas.Option.{unwrap_or-slice_get, get_or_from_slice_get, slice_get-map, slice_get_within}
use Rattle.banks.specs.declared.cells.Cell.{Cell}
use Rattle.banks.specs.Meanings.{by_place}
use Rattle.banks.specs.Table.{widths_of, word_of, words_of, cell_look}
use Rattle.banks.specs.Words.{lowest}

-- A number of a cell that is there, and 0 where there is none.
module _ (f : Cell → ℕ) (cells : List Cell) (a : ℕ) where
  number_there : (x : Cell) → slice_get cells a ≡ Some x → f x ≡ slice_index (map f cells) a
  number_there x e = sym (get_or_from_slice_get (map f cells) a (f x) 0 (slice_get-map f cells a ∙ ap (option_map f) e))

  number_none : slice_get cells a ≡ None → 0 ≡ slice_index (map f cells) a
  number_none e = ap (λ o. unwrap_or o 0) (sym (slice_get-map f cells a ∙ ap (option_map f) e)) ∙ unwrap_or-slice_get (map f cells) a 0

-- The table of the first n cells.
module _ (n : ℕ) (cells : List Cell) (a : ℕ) where
  first : (f : Cell → ℕ) → slice_index (map f (take n cells)) a ≡ slice_index (take n (map f cells)) a
  first f = ap (λ l. slice_index l a) (sym (take-map f n cells))

  pub width_there : (x : Cell) → slice_get (take n cells) a ≡ Some x → x.width ≡ slice_index (take n (widths_of cells)) a
  width_there x e = number_there (λ c. c.width) (take n cells) a x e ∙ first (λ c. c.width)

  pub width_none : slice_get (take n cells) a ≡ None → 0 ≡ slice_index (take n (widths_of cells)) a
  width_none e = number_none (λ c. c.width) (take n cells) a e ∙ first (λ c. c.width)

  pub look_there : (x : Cell) → slice_get (take n cells) a ≡ Some x → lowest (word_of x) x.width ≡ cell_look (take n (widths_of cells)) (by_place (words_of cells)) a
  look_there x e = ap₂ (λ w k. lowest w k) (number_there word_of (take n cells) a x e ∙ first word_of ∙ get_or-take n (words_of cells) a 0 inside) (width_there x e)
    where
      inside : a < n
      inside = omega (arith, slice_get_within (take n cells) a x e, length-take n cells)

  pub look_none : slice_get (take n cells) a ≡ None → 0 ≡ cell_look (take n (widths_of cells)) (by_place (words_of cells)) a
  look_none e = rw (sym (width_none e)) (omega arith)

-- An option is empty, or it has a value.
pub by_option : {X R : Type 0} (o : Option X) (P : Type 0) (Q : X → Type 0) → MatchOption o P Q → (o ≡ None → P → R) → ((x : X) → o ≡ Some x → Q x → R) → R
by_option None P Q m f g = f refl m
by_option (Some x) P Q m f g = g x refl m
