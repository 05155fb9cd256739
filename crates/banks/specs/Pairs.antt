-- The laws of paired cells.
use Rattle.std.specs.Prelude.{◌≡◌, ℕ, zero, suc, ◌+◌, ◌-◌, ◌*◌, ◌/◌, ◌%◌, ◌^◌, ◌<◌, ◌≤◌, Bool, true, false, cond, List, length, nat_le, nat_lt, slice_index, slice_set, refl}
use Rattle.std.proofs.Common.{sym, ap, ap₂, ◌∙◌, arith, add-zero, le_trans, lt_of_lt_of_le, pow_mono}
use Rattle.std.proofs.Math.Path.{fun_ext}
use Rattle.std.proofs.lemmas.Nat.{pow-add, mod-pow-add, shr-shr}
use Rattle.std.proofs.lemmas.Bool.{le-ltb, leb-true, and_parts, cond-true, cond-false}
use Rattle.std.proofs.lemmas.Bool.Decides.{nat_tests}
use Rattle.banks.specs.declared.loss.Loss.TheVariants.{Pause}
use Rattle.banks.specs.Kind.{Described, Laws}
use Rattle.banks.specs.Paired.{first_cell, cells_of, among, overlap, paired_description, TouchByCells, number_in, written_in, cells_lost, lost_cells, paired}
use Rattle.banks.specs.Words.{byte_of}
use Rattle.banks.specs.Places.{place_set}
use Rattle.banks.specs.Splits.{by_order, by_equal}

-- What some cells hold.

pow_eight : (n : ℕ) → 2 ^ (8 * suc n) ≡ 256 * 2 ^ (8 * n)
pow_eight n = ap (λ (k : ℕ). 2 ^ k) (omega arith) ∙ pow-add 2 8 (8 * n)

number_fits : (cells : ℕ → ℕ) (s n : ℕ) → number_in cells s n < 2 ^ (8 * n)
number_fits cells s zero = omega arith
number_fits cells s (suc n) = rw (pow_eight n) (omega (arith, number_fits cells (s + 1) n))

-- What seven cells or fewer hold leaves room for one more in a word.
pub number_small : (cells : ℕ → ℕ) (s n : ℕ) → n ≤ 7 → number_in cells s n < 2 ^ 56
number_small cells s n h = lt_of_lt_of_le (number_fits cells s n) (pow_mono {i = 8 * n} {j = 56} (omega arith))

number_same : (x y : ℕ → ℕ) (s n : ℕ) → ((c : ℕ) → s ≤ c → c < s + n → x c ≡ y c) → number_in x s n ≡ number_in y s n
number_same x y s zero h = refl
number_same x y s (suc n) h = ap₂ (λ (p q : ℕ). p % 256 + 256 * q) (h s (omega arith) (omega arith)) (number_same x y (s + 1) n (λ c l m. h c (omega arith) (omega arith)))

-- Cells that hold the bytes of a word hold its lowest bytes.
number_bytes : (cells : ℕ → ℕ) (w s n : ℕ) → ((i : ℕ) → i < n → cells (s + i) ≡ byte_of w i) → number_in cells s n ≡ w % 2 ^ (8 * n)
number_bytes cells w s zero h = omega arith
number_bytes cells w s (suc n) h =
    let first : cells s ≡ w % 256 = ap cells (sym (add-zero s)) ∙ h zero (omega arith) ∙ omega arith in
    let rest : number_in cells (s + 1) n ≡ w / 256 % 2 ^ (8 * n) = number_bytes cells (w / 256) (s + 1) n later in
    let whole : w % 2 ^ (8 * suc n) ≡ w / 256 % 2 ^ (8 * n) * 256 + w % 256 = ap (λ (k : ℕ). w % 2 ^ k) (omega arith) ∙ mod-pow-add w (8 * n) 8 in
    omega (arith, first, rest, whole)
  where
    later : (i : ℕ) → i < n → cells (s + 1 + i) ≡ byte_of (w / 256) i
    later i l = ap cells (omega arith) ∙ h (suc i) (omega arith) ∙ ap (λ (x : ℕ). x % 256) (ap (λ (k : ℕ). w / 2 ^ k) (omega arith) ∙ sym (shr-shr w 8 (8 * i)))

-- One more cell is read, from the top.
pub number_more : (cells : ℕ → ℕ) (s i n : ℕ) → 0 < i → i ≤ n → number_in cells (s + (i - 1)) (n - (i - 1)) ≡ cells (s + (i - 1)) % 256 + 256 * number_in cells (s + i) (n - i)
number_more cells s i n p q =
    let m : n - (i - 1) ≡ suc (n - i) = omega arith in
    let k : s + (i - 1) + 1 ≡ s + i = omega arith in
    ap (λ (x : ℕ). number_in cells (s + (i - 1)) x) m ∙ ap (λ (x : ℕ). cells (s + (i - 1)) % 256 + 256 * number_in cells x (n - i)) k

-- Bytes written into cells.

module _ (cells : ℕ → ℕ) (s n w : ℕ) where
  written_here : (i : ℕ) → i < n → written_in cells s n w (s + i) ≡ byte_of w i
  written_here i l = cond-true (among s n (s + i)) (byte_of w (s + i - s)) (cells (s + i)) (grind (arith, nat_tests)) ∙ ap (λ (k : ℕ). byte_of w k) (omega arith)

  written_there : (c : ℕ) → among s n c ≡ false → written_in cells s n w c ≡ cells c
  written_there c h = cond-false (among s n c) (byte_of w (c - s)) (cells c) h

-- Where no byte is written, every cell is as it was.
pub written_none : (cells : ℕ → ℕ) (s w c : ℕ) → cells c ≡ written_in cells s 0 w c
written_none cells s w c = sym (written_there cells s 0 w c (grind (arith, nat_tests)))

-- One more byte is written.
pub written_more : (l : List ℕ) (cells : ℕ → ℕ) (s i w : ℕ) → s + i < length l → ((c : ℕ) → slice_index l c ≡ written_in cells s i w c)
    → (b : ℕ) → b ≡ byte_of w i → (c : ℕ) → slice_index (slice_set l (s + i) b) c ≡ written_in cells s (i + 1) w c
written_more l cells s i w m h b e c = place_set l (s + i) b m c ∙ by_equal (s + i) c
    (λ q t. simp t (e ∙ sym (written_here cells s (i + 1) w i (omega arith)) ∙ ap (written_in cells s (i + 1) w) q))
    (λ n t. simp t (h c ∙ ap (λ (x : Bool). cond x (byte_of w (c - s)) (cells c)) (grind (arith, nat_tests))))

-- Names that share no cell lie apart.
apart : (s n t m c : ℕ) → overlap s n t m ≡ false → t ≤ c → c < t + m → among s n c ≡ false
apart s n t m c h l k = grind (arith, nat_tests)

-- Names that overlap share a cell: the later of their first ones. What is no name has no cell, and stands at 0.
shared_cell : (s n t m : ℕ) → (n ≡ 0 → s ≡ 0) → (m ≡ 0 → t ≡ 0) → overlap s n t m ≡ true → (c : ℕ) × ((among s n c ≡ true) × (among t m c ≡ true))
shared_cell s n t m zs zt h = by_order s t
    (λ l e. (t, (grind (arith, nat_tests), grind (arith, nat_tests))))
    (λ l e. (s, (grind (arith, nat_tests), grind (arith, nat_tests))))

no_cells : (a : ℕ) → cells_of a ≡ 0 → first_cell a ≡ 0
no_cells a h = grind (arith, nat_tests)

meet : (s n t m c : ℕ) → among s n c ≡ true → among t m c ≡ true → overlap s n t m ≡ true
meet s n t m c h l = grind (arith, nat_tests)

-- Names touch exactly if they share a cell.
pub touch_by_cells_lem : TouchByCells
touch_by_cells_lem a b = (
  shared_cell (first_cell a) (cells_of a) (first_cell b) (cells_of b) (no_cells a) (no_cells b),
  λ p. meet (first_cell a) (cells_of a) (first_cell b) (cells_of b) p.0 p.1.0 p.1.1,
)

-- No name is kept over a pause.
pub none_over_pause : (a : ℕ) → paired_description.kept_over Pause a ≡ false
none_over_pause a = grind (arith, nat_tests)

paired_described : Described paired_description
paired_described = record {
  some = omega arith;
  few = omega arith;
  widths = λ a h. grind (arith, nat_tests);
  touches_itself = λ a h. grind (arith, nat_tests);
  touches_back = λ a b. grind (arith, nat_tests);
  no_width = λ a h. grind (arith, nat_tests);
  no_touch = λ a b h. grind (arith, nat_tests);
  not_over = λ l a h. grind (arith, nat_tests);
}

-- Paired cells keep the laws.
pub paired_laws : Laws paired
paired_laws = record {
  described = λ m. paired_described;
  put_stays = λ m a w. refl;
  loss_stays = λ m l w. refl;
  look_fits = λ m a. number_fits m (first_cell a) (cells_of a);
  put_seen = λ m a w h. number_bytes (written_in m (first_cell a) (cells_of a) w) w (first_cell a) (cells_of a) (written_here m (first_cell a) (cells_of a) w);
  put_leaves = λ m a b w h. number_same (written_in m (first_cell a) (cells_of a) w) m (first_cell b) (cells_of b)
      (λ c l k. written_there m (first_cell a) (cells_of a) w c (apart (first_cell a) (cells_of a) (first_cell b) (cells_of b) c h l k));
  put_nowhere = λ m a w h. fun_ext (λ c. written_there m (first_cell a) (cells_of a) w c (none (first_cell a) (cells_of a) c (paired_described.no_width a h)));
  loss_keeps = λ m x a w h.
      let high = leb-true (cells_lost x) (first_cell a) (and_parts (nat_lt a 30) (nat_le (cells_lost x) (first_cell a)) h).1 in
      number_same (lost_cells (cells_lost x) m w) m (first_cell a) (cells_of a) (λ c l k. cond-false (nat_lt c (cells_lost x)) (byte_of w (c % 8)) (m c) (le-ltb c (cells_lost x) (le_trans high l)));
}
  where
    none : (s n c : ℕ) → n ≡ 0 → among s n c ≡ false
    none s n c h = grind (arith, nat_tests)
