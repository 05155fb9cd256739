-- Tables of cells, and the laws of variables.
use Rattle.std.specs.Prelude.{◌≡◌, ℕ, zero, suc, ◌+◌, ◌*◌, ◌%◌, ◌^◌, ◌<◌, ◌≤◌, Bool, true, false, cond, ◌&&◌, List, [], ◌∷◌, length, take, drop, replicate, ◌==◌, nat_le, nat_lt, slice_index, slice_index_or, slice_set, refl}
use Rattle.std.proofs.Common.{sym, ap, ◌∙◌, arith, le_of_suc-le-suc}
use Rattle.std.proofs.Math.Path.{fun_ext}
use Rattle.std.proofs.Math.Bool.{Bool-set}
use mathlib.Core.HLevel.{is_prop→PathP}
use Rattle.std.proofs.lemmas.Bool.{leb-true, cond-true, cond-false, and_parts}
use Rattle.std.proofs.lemmas.List.{get_or_past, length-take, take-append-drop, at_drop_more, at_drop_all}
use Rattle.std.proofs.lemmas.List.Folds.{list_all-append}
use Rattle.std.proofs.lemmas.Bool.Decides.{nat_tests}
use Rattle.std.proofs.lemmas.Nat.{pow_pos, mod_below}
use Rattle.banks.specs.Kind.{Described, Laws, is_width}
use Rattle.banks.specs.Table.{all_widths, table_ok, Table, cell_look, cell_put}
use Rattle.banks.specs.Variables.{variables_of, variables}
use Rattle.banks.specs.Places.{place_set}

-- Declared widths, by their places.
pub width_at : (ws : List ℕ) → all_widths ws ≡ true → (a : ℕ) → a < length ws → is_width (slice_index ws a) ≡ true
width_at [] h a l = absurd (omega arith)
width_at (w ∷ ws) h zero l = (and_parts (is_width w) (all_widths ws) h).0
width_at (w ∷ ws) h (suc a) l = width_at ws (and_parts (is_width w) (all_widths ws) h).1 a (le_of_suc-le-suc l)

-- The first of some widths are widths.
pub widths_take : (n : ℕ) (ws : List ℕ) → all_widths ws ≡ true → all_widths (take n ws) ≡ true
widths_take n ws h = (and_parts (all_widths (take n ws)) (all_widths (drop n ws)) (sym (list_all-append is_width (take n ws) (drop n ws)) ∙ ap all_widths (take-append-drop n ws) ∙ h)).0

-- The first of a list, by their places.
pub take_past : (n : ℕ) (l : List ℕ) (a : ℕ) → n ≤ a → slice_index (take n l) a ≡ 0
take_past n l a h = get_or_past (take n l) a 0 (omega (arith, length-take n l))

-- A list of zeros has 0 everywhere.
pub zeros : (n a : ℕ) → slice_index_or {A = ℕ} (replicate n 0) a 0 ≡ 0
zeros zero a = refl
zeros (suc n) zero = refl
zeros (suc n) (suc a) = zeros n a

-- One width more is looked at.
pub widths_one : (ws : List ℕ) (i : ℕ) → i < length ws → all_widths (drop i ws) ≡ (is_width (slice_index ws i) && all_widths (drop (i + 1) ws))
widths_one ws i h = at_drop_more all_widths ws i 0 h

-- Past the last width there is none to look at.
pub widths_all : (ws : List ℕ) (i : ℕ) → length ws ≤ i → all_widths (drop i ws) ≡ true
widths_all ws i h = at_drop_all all_widths ws i h

module _ (t : Table) where
  parts : (nat_le 1 (length t.widths) ≡ true) × ((nat_le (length t.widths) 64 && all_widths t.widths) ≡ true)
  parts = and_parts (nat_le 1 (length t.widths)) (nat_le (length t.widths) 64 && all_widths t.widths) t.sound

  pub some_cells : 1 ≤ length t.widths
  some_cells = leb-true 1 (length t.widths) parts.0

  pub few_cells : length t.widths ≤ 64
  few_cells = leb-true (length t.widths) 64 (and_parts (nat_le (length t.widths) 64) (all_widths t.widths) parts.1).0

  pub good_cells : all_widths t.widths ≡ true
  good_cells = (and_parts (nat_le (length t.widths) 64) (all_widths t.widths) parts.1).1

-- A table is its widths and words.
pub same_table : (s t : Table) → s.widths ≡ t.widths → s.words ≡ t.words → s ≡ t
same_table s t p q = λ i. record {
  widths = p i;
  words = q i;
  sound = is_prop→PathP (λ j. table_ok (p j) ≡ true) (λ j. Bool-set (table_ok (p j)) true) s.sound t.sound i;
}

-- A write to a list of words is a put into the cell of its place.
pub words_set : (ws l : List ℕ) (a w : ℕ) → a < length l → a < length ws → ◌≡◌ {A = ℕ → ℕ} (λ b. slice_index (slice_set l a w) b) (cell_put ws (λ b. slice_index l b) a w)
words_set ws l a w i h = fun_ext (λ b. place_set l a w i b ∙ ap (λ (t : Bool). cond t w (slice_index l b)) (grind (arith, nat_tests)))

module _ (ws : List ℕ) (words : ℕ → ℕ) where
  pub cell_fits : (a : ℕ) → cell_look ws words a < 2 ^ (8 * slice_index ws a)
  cell_fits a = mod_below (words a) (2 ^ (8 * slice_index ws a)) (pow_pos (8 * slice_index ws a))

  pub cell_seen : (a w : ℕ) → a < length ws → cell_look ws (cell_put ws words a w) a ≡ w % 2 ^ (8 * slice_index ws a)
  cell_seen a w h = ap (λ (x : ℕ). x % 2 ^ (8 * slice_index ws a)) (cond-true (a == a && nat_lt a (length ws)) w (words a) (grind (arith, nat_tests)))

  pub cell_left : (a b w : ℕ) → (a == b && nat_lt a (length ws)) ≡ false → cell_look ws (cell_put ws words a w) b ≡ cell_look ws words b
  cell_left a b w h = ap (λ (x : ℕ). x % 2 ^ (8 * slice_index ws b)) (cond-false (a == b && nat_lt a (length ws)) w (words b) h)

  pub cell_none : (a w : ℕ) → length ws ≤ a → cell_put ws words a w ≡ words
  cell_none a w h = fun_ext (λ b. cond-false (a == b && nat_lt a (length ws)) w (words b) (grind (arith, nat_tests)))

variables_described : (ws : List ℕ) → 1 ≤ length ws → length ws ≤ 64 → all_widths ws ≡ true → Described (variables_of ws)
variables_described ws some few good = record {
  some = some;
  few = few;
  widths = width_at ws good;
  touches_itself = λ a h. grind (arith, nat_tests);
  touches_back = λ a b. grind (arith, nat_tests);
  no_width = λ a h. get_or_past ws a 0 h;
  no_touch = λ a b h. grind (arith, nat_tests);
  not_over = λ l a h. grind (arith, nat_tests);
}

-- Variables keep the laws.
pub variables_laws : Laws variables
variables_laws = record {
  described = λ t. variables_described t.widths (some_cells t) (few_cells t) (good_cells t);
  put_stays = λ t a w. refl;
  loss_stays = λ t l w. refl;
  look_fits = λ t a. cell_fits t.widths t.words a;
  put_seen = λ t a w h. cell_seen t.widths t.words a w h;
  put_leaves = λ t a b w h. cell_left t.widths t.words a b w h;
  put_nowhere = λ t a w h. same_table _ t refl (cell_none t.widths t.words a w h);
  loss_keeps = λ t l a w h. refl;
}
