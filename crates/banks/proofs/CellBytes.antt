-- The bytes of words in cells.
use Rattle.std.proofs.Common.{◌≡◌, ℕ, zero, suc, ◌+◌, ◌-◌, ◌*◌, ◌%◌, ◌^◌, ◌<◌, ◌≤◌, true, false, List, [], ◌∷◌, ◌++◌, length, get_or, take, drop, w64, refl, sym, ap, ap₂, ◌∙◌, arith, nat_lt}
use Rattle.std.proofs.Math.Path.{fun_ext}
use Rattle.std.proofs.lemmas.Bool.{cond-true, cond-false}
use Rattle.std.proofs.lemmas.Bool.Decides.{nat_tests}
use Rattle.std.proofs.lemmas.List.{same_from_push, take_more, length_push, get_or_append_left, get_or-append_right, get_or-take, get_or-drop, length-append, length-take, length-take-le, length-drop}
use Rattle.std.specs.Int.{to_le_bytes}
use borrow.Rule.Slice.PartMut.{put_mid, mid_of}
use Rattle.banks.specs.Meanings.{by_place}
use Rattle.banks.specs.Paired.{first_cell, cells_of, among, number_in, written_in, lost_cells}
use Rattle.banks.specs.Pairs.{number_small}
use Rattle.banks.specs.Words.{byte_of}
use Rattle.banks.specs.Splits.{by_order}

-- A name lies within the cells, and is at most a word wide.
pub cells_within : (a : ℕ) → first_cell a + cells_of a ≤ 16
cells_within a = grind (arith, nat_tests)

pub cells_few : (a : ℕ) → cells_of a ≤ 8
cells_few a = grind (arith, nat_tests)

-- The bytes of a word, the lowest first.
pub le_byte : (w i : ℕ) → i < 8 → get_or (to_le_bytes w64 w) i 0 ≡ byte_of w i
le_byte w zero h = omega arith
le_byte w (suc zero) h = refl
le_byte w (suc (suc zero)) h = refl
le_byte w (suc (suc (suc zero))) h = refl
le_byte w (suc (suc (suc (suc zero)))) h = refl
le_byte w (suc (suc (suc (suc (suc zero))))) h = refl
le_byte w (suc (suc (suc (suc (suc (suc zero)))))) h = refl
le_byte w (suc (suc (suc (suc (suc (suc (suc zero))))))) h = refl
le_byte w (suc (suc (suc (suc (suc (suc (suc (suc i)))))))) h = absurd (omega arith)

-- Cells read elsewhere hold the same number.
number_moved : (x y : ℕ → ℕ) (s t n : ℕ) → ((i : ℕ) → i < n → x (s + i) ≡ y (t + i)) → number_in x s n ≡ number_in y t n
number_moved x y s t zero h = refl
number_moved x y s t (suc n) h = ap₂ (λ (p q : ℕ). p % 256 + 256 * q)
    (ap x (omega arith) ∙ h 0 (omega arith) ∙ ap y (omega arith))
    (number_moved x y (s + 1) (t + 1) n (λ i l. ap x (omega arith) ∙ h (suc i) (omega arith) ∙ ap y (omega arith)))

-- The last of the cells that are still to be read, and the number with it.
module _ (cells old new : List ℕ) (x : ℕ) (e : old ≡ new ++ x ∷ []) (f : old ≡ take (length old) cells) where
  pub last_long : length old ≡ length new + 1
  last_long = ap length e ∙ length_push new x

  pub last_there : length new < length cells
  last_there = omega (arith, last_long, ap length f, length-take (length old) cells)

  last_apart : (new ≡ take (length new) cells) × (x ≡ get_or cells (length new) 0)
  last_apart = same_from_push new (take (length new) cells) x (get_or cells (length new) 0) (sym e ∙ f ∙ ap (λ n. take n cells) last_long ∙ take_more cells (length new) 0 last_there)

  pub last_front : new ≡ take (length new) cells
  last_front = last_apart.0

  pub last_is : x ≡ get_or cells (length new) 0
  last_is = last_apart.1

  pub last_small : (number : ℕ) → length cells ≤ 8 → number ≡ number_in (by_place cells) (length old) (length cells - length old) → number < 2 ^ 56
  last_small number few m = omega (arith, m, number_small (by_place cells) (length old) (length cells - length old) (omega (arith, last_long, few)))

  pub last_read : (number : ℕ) → get_or cells (length new) 0 < 256 → number ≡ number_in (by_place cells) (length old) (length cells - length old) → number * 256 + x ≡ number_in (by_place cells) (length new) (length cells - length new)
  last_read number small m =
      let n : length cells - length new ≡ suc (length cells - (length new + 1)) = omega (arith, last_there) in
      let step : number_in (by_place cells) (length new) (length cells - length new) ≡ get_or cells (length new) 0 % 256 + 256 * number_in (by_place cells) (length new + 1) (length cells - (length new + 1)) = ap (number_in (by_place cells) (length new)) n in
      let at : number ≡ number_in (by_place cells) (length new + 1) (length cells - (length new + 1)) = m ∙ ap (λ (k : ℕ). number_in (by_place cells) k (length cells - k)) last_long in
      omega (arith, step, at, last_is)

-- A part of the cells holds what they hold there.
pub number_part : (l : List ℕ) (s k n : ℕ) → k ≡ n → s + n ≤ length l → number_in (by_place (mid_of s k l)) 0 (length (mid_of s k l)) ≡ number_in (by_place l) s n
number_part l s k n e room = ap (number_in (by_place (mid_of s k l)) 0) long ∙ number_moved (by_place (mid_of s k l)) (by_place l) 0 s n (λ i h. get_or-take k (drop s l) (0 + i) 0 (omega arith) ∙ get_or-drop s l (0 + i) 0 ∙ ap (by_place l) (omega arith))
  where
    long : length (take k (drop s l)) ≡ n
    long = omega (arith, length-take k (drop s l), length-drop s l)

-- A part of the cells took the bytes of a word.
pub written_part : (l ys : List ℕ) (s n w : ℕ) → length ys ≡ n → s + n ≤ length l → ((i : ℕ) → i < n → get_or ys i 0 ≡ byte_of w i) → by_place (put_mid s n l ys) ≡ written_in (by_place l) s n w
written_part l ys s n w long room bytes = fun_ext (λ c. by_order c s (before c) (λ h t. by_order c (s + n) (within c h) (past c h)))
  where
    rest : List ℕ
    rest = drop n (drop s l)

    before : (c : ℕ) → c < s → nat_lt c s ≡ true → get_or (put_mid s n l ys) c 0 ≡ written_in (by_place l) s n w c
    before c h t = get_or_append_left (take s l) _ 0 c (omega (arith, length-take-le s l)) ∙ get_or-take s l c 0 h
        ∙ sym (cond-false (among s n c) (byte_of w (c - s)) (get_or l c 0) (grind (arith, nat_tests)))

    behind : (c : ℕ) → s ≤ c → get_or (put_mid s n l ys) c 0 ≡ get_or (ys ++ drop n (drop s l)) (c - s) 0
    behind c h = get_or-append_right (take s l) _ s c 0 (length-take-le s l (omega arith)) h

    within : (c : ℕ) → s ≤ c → c < s + n → nat_lt c (s + n) ≡ true → get_or (put_mid s n l ys) c 0 ≡ written_in (by_place l) s n w c
    within c h k t = behind c h ∙ get_or_append_left ys _ 0 (c - s) (omega arith) ∙ bytes (c - s) (omega arith)
        ∙ sym (cond-true (among s n c) (byte_of w (c - s)) (get_or l c 0) (grind (arith, nat_tests)))

    past : (c : ℕ) → s ≤ c → s + n ≤ c → nat_lt c (s + n) ≡ false → get_or (put_mid s n l ys) c 0 ≡ written_in (by_place l) s n w c
    past c h k t = behind c h ∙ get_or-append_right ys _ n (c - s) 0 long (omega arith) ∙ get_or-drop n (drop s l) (c - s - n) 0 ∙ get_or-drop s l (n + (c - s - n)) 0
        ∙ ap (λ (x : ℕ). get_or l x 0) (omega arith)
        ∙ sym (cond-false (among s n c) (byte_of w (c - s)) (get_or l c 0) (grind (arith, nat_tests)))

-- Cells that took the bytes of a word by halves are lost.
module _ (cells : ℕ → ℕ) (w : ℕ) where
  lost_lower : written_in cells 0 8 w ≡ lost_cells 8 cells w
  lost_lower = fun_ext (λ c. by_order c 8
      (λ l t. cond-true (among 0 8 c) (byte_of w (c - 0)) (cells c) (grind (arith, nat_tests)) ∙ ap (λ (x : ℕ). byte_of w x) (omega arith) ∙ sym (cond-true (nat_lt c 8) (byte_of w (c % 8)) (cells c) t))
      (λ l t. cond-false (among 0 8 c) (byte_of w (c - 0)) (cells c) (grind (arith, nat_tests)) ∙ sym (cond-false (nat_lt c 8) (byte_of w (c % 8)) (cells c) t)))

  lost_upper : written_in (lost_cells 8 cells w) 8 8 w ≡ lost_cells 16 cells w
  lost_upper = fun_ext (λ c. by_order c 8
      (λ l t. cond-false (among 8 8 c) (byte_of w (c - 8)) (lost_cells 8 cells w c) (grind (arith, nat_tests)) ∙ cond-true (nat_lt c 8) (byte_of w (c % 8)) (cells c) t ∙ sym (cond-true (nat_lt c 16) (byte_of w (c % 8)) (cells c) (grind (arith, nat_tests))))
      (λ l t. by_order c 16
      (λ k u. cond-true (among 8 8 c) (byte_of w (c - 8)) (lost_cells 8 cells w c) (grind (arith, nat_tests)) ∙ ap (λ (x : ℕ). byte_of w x) (omega arith) ∙ sym (cond-true (nat_lt c 16) (byte_of w (c % 8)) (cells c) u))
      (λ k u. cond-false (among 8 8 c) (byte_of w (c - 8)) (lost_cells 8 cells w c) (grind (arith, nat_tests)) ∙ cond-false (nat_lt c 8) (byte_of w (c % 8)) (cells c) t ∙ sym (cond-false (nat_lt c 16) (byte_of w (c % 8)) (cells c) u))))

-- At a call the lower half takes the bytes of the word, and at a pause the upper half too.
module _ (l ys : List ℕ) (w : ℕ) (many : length l ≡ 16) (is : ys ≡ to_le_bytes w64 w) where
  half_written : (l zs : List ℕ) (s : ℕ) → s + 8 ≤ length l → zs ≡ to_le_bytes w64 w → by_place (put_mid s 8 l zs) ≡ written_in (by_place l) s 8 w
  half_written l zs s room e = written_part l zs s 8 w (ap length e) room (λ i h. ap (λ x. get_or x i 0) e ∙ le_byte w i h)

  pub half_lost : by_place (put_mid 0 8 l ys) ≡ lost_cells 8 (by_place l) w
  half_lost = half_written l ys 0 (omega arith) is ∙ lost_lower (by_place l) w

  pub all_lost : (zs : List ℕ) → zs ≡ to_le_bytes w64 w → by_place (put_mid 8 8 (put_mid 0 8 l ys) zs) ≡ lost_cells 16 (by_place l) w
  all_lost zs e = half_written (put_mid 0 8 l ys) zs 8 (omega (arith, ap length is, length-append ys (drop 8 (drop 0 l)), length-drop 8 l)) e
      ∙ ap (λ (x : ℕ → ℕ). written_in x 8 8 w) half_lost ∙ lost_upper (by_place l) w
