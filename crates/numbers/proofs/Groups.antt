-- One group more, in each of its cases.
use Rattle.std.proofs.Common.{◌≡◌, ℕ, suc, ◌+◌, ◌-◌, ◌*◌, ◌^◌, ◌<◌, ◌≤◌, cond, ◌&&◌, eqb, ltb, List, [], length, get_or, drop, Some, None, Ok, Err, Option, Bor, sym, ap, ◌∙◌, refl, ⊎_elim, mul-le-mul_right, arith, pow_mono, pow-add}
use Rattle.std.proofs.lemmas.Bool.{cases_lt}
use Rattle.std.proofs.lemmas.List.{at_drop_more, at_drop_all, drop_all, take_rest}
use Rattle.std.specs.List.{PartBy}
use Rattle.std.specs.Option.{unwrap_or}
use Rattle.std.proofs.lemmas.Bool.Decides.{nat_tests}
use Rattle.numbers.specs.declared.fault.NumberFault.TheVariants.{CutOff, NotShortest, TooLarge}
use Rattle.numbers.specs.Reading.{groups, number}

module _ (xs : List ℕ) (n left at g next value scale : ℕ) (e : n ≡ suc left) where
  -- the bytes end here
  pub ended : length xs ≤ g → groups n at next value scale (drop g xs) ≡ Err (CutOff at)
  ended h = rw e (at_drop_all (groups (suc left) at next value scale) xs g h)

  one : g < length xs
      → groups n at next value scale (drop g xs)
      ≡ cond (ltb (get_or xs g 0) 128)
      (cond (eqb (get_or xs g 0) 0 && ltb at next) (Err (NotShortest at))
      (cond (ltb (value + get_or xs g 0 * scale) (2 ^ 64)) (Ok (record { value = value + get_or xs g 0 * scale; next = next + 1 })) (Err (TooLarge at))))
      (groups left at (next + 1) (value + (get_or xs g 0 - 128) * scale) (scale * 128) (drop (g + 1) xs))
  one h = rw e (at_drop_more (groups (suc left) at next value scale) xs g 0 h)

  -- a last group of nothing
  pub nothing : g < length xs → get_or xs g 0 ≡ 0 → at < next → groups n at next value scale (drop g xs) ≡ Err (NotShortest at)
  nothing h z f = let o = one h in grind (arith, nat_tests)

  -- the last group
  pub last : g < length xs → get_or xs g 0 < 128 → (get_or xs g 0 ≡ 0 → next ≤ at) → value + get_or xs g 0 * scale < 2 ^ 64
      → groups n at next value scale (drop g xs) ≡ Ok (record { value = value + get_or xs g 0 * scale; next = next + 1 })
  last h s z f = let o = one h in grind (arith, nat_tests)

  -- a last group that is too large
  pub large : g < length xs → get_or xs g 0 < 128 → 0 < get_or xs g 0 → 2 ^ 64 ≤ value + get_or xs g 0 * scale
      → groups n at next value scale (drop g xs) ≡ Err (TooLarge at)
  large h s z f = let o = one h in grind (arith, nat_tests)

  -- another group follows
  pub more : g < length xs → 128 ≤ get_or xs g 0
      → groups n at next value scale (drop g xs) ≡ groups left at (next + 1) (value + (get_or xs g 0 - 128) * scale) (scale * 128) (drop (g + 1) xs)
  more h s = let o = one h in grind (arith, nat_tests)

-- what one of a group is worth, before the tenth
pub small : (g scale : ℕ) → scale ≡ 2 ^ (7 * g) → g ≤ 8 → scale ≤ 2 ^ 56
small g scale e h = let k : 7 * g ≤ 56 = omega arith in rw e (pow_mono k)

-- and at the tenth
pub top : (g scale : ℕ) → scale ≡ 2 ^ (7 * g) → g ≡ 9 → scale ≡ 2 ^ 63
top g scale e h = e ∙ ap (λ (k : ℕ). 2 ^ (7 * k)) h

pub scale_more : (g scale : ℕ) → scale ≡ 2 ^ (7 * g) → scale * 128 ≡ 2 ^ (7 * (g + 1))
scale_more g scale e =
    let k : 7 * (g + 1) ≡ 7 * g + 7 = omega arith in
    rw (e, k) (sym (pow-add 2 (7 * g) 7))

-- a group's part
pub part : (b k scale : ℕ) → b ≤ k → b * scale ≤ k * scale
part b k scale h = mul-le-mul_right scale h

-- g groups of the rest are read: what is left says what the whole says
pub record Sofar (bytes rest : List ℕ) (at g value scale : ℕ) : Type 0 where
  pub few : g ≤ 9
  pub worth : scale ≡ 2 ^ (7 * g)
  pub below : value < scale
  pub left : groups (10 - g) at (at + g) value scale (drop g rest) ≡ number bytes at

module _ {bytes rest : List ℕ} {at g value scale : ℕ} (s : Sofar bytes rest at g value scale) where
  fuel : 10 - g ≡ suc (10 - (g + 1))
  fuel = let f = s.few in omega arith

  pub cut_off : length rest ≤ g → Err (CutOff at) ≡ number bytes at
  cut_off h = sym (ended rest (10 - g) (10 - (g + 1)) at g (at + g) value scale fuel h) ∙ s.left

  pub not_shortest : g < length rest → get_or rest g 0 ≡ 0 → 0 < g → Err (NotShortest at) ≡ number bytes at
  not_shortest h z f = sym (nothing rest (10 - g) (10 - (g + 1)) at g (at + g) value scale fuel h z (omega arith)) ∙ s.left

  -- a group before the tenth, or one or none at the tenth
  pub fits : (b : ℕ) → b < 128 → (g ≡ 9 → b < 2) → value + b * scale < 2 ^ 64
  fits b h t =
      ⊎_elim
      (λ (k : g < 9). omega (arith, small g scale s.worth (omega arith), part b 127 scale (omega arith)))
      (λ (k : 9 ≤ g). let n : g ≡ 9 = omega arith in omega (arith, top g scale s.worth n, part b 1 scale (let u = t n in omega arith)))
      (cases_lt g 9)

  pub whole : g < length rest → get_or rest g 0 < 128 → (get_or rest g 0 ≡ 0 → g ≡ 0) → (g ≡ 9 → get_or rest g 0 < 2)
      → Ok (record { value = value + get_or rest g 0 * scale; next = (at + g) + 1 }) ≡ number bytes at
  whole h b z t =
      sym (last rest (10 - g) (10 - (g + 1)) at g (at + g) value scale fuel h b (λ e. let y = z e in omega arith) (fits _ b t)) ∙ s.left

  -- the tenth group is too large, or is not the last
  pub too_large : g < length rest → g ≡ 9 → 2 ≤ get_or rest g 0 → Err (TooLarge at) ≡ number bytes at
  too_large h n b =
      let f = fuel in
      ⊎_elim
      (λ (k : get_or rest g 0 < 128). sym (large rest (10 - g) (10 - (g + 1)) at g (at + g) value scale fuel h k (omega arith) (omega (arith, top g scale s.worth n, part 2 (get_or rest g 0) scale b))) ∙ s.left)
      (λ (k : 128 ≤ get_or rest g 0).
      let z : 10 - (g + 1) ≡ 0 = omega arith in
      sym (more rest (10 - g) (10 - (g + 1)) at g (at + g) value scale fuel h k
      ∙ ap (λ (m : ℕ). groups m at ((at + g) + 1) (value + (get_or rest g 0 - 128) * scale) (scale * 128) (drop (g + 1) rest)) z) ∙ s.left)
      (cases_lt (get_or rest g 0) 128)

  -- what one group before the tenth adds
  pub adds : (b : ℕ) → b < 256 → g < 9 → value + (b - 128) * scale < 2 ^ 63
  adds b w l = omega (arith, s.below, small g scale s.worth (omega arith), part (b - 128) 127 scale (omega arith))

  pub again : g < length rest → g < 9 → 128 ≤ get_or rest g 0 → get_or rest g 0 < 256
      → Sofar bytes rest at (g + 1) (value + (get_or rest g 0 - 128) * scale) (scale * 128)
  again h l k w =
      let z : (at + g) + 1 ≡ at + (g + 1) = omega arith in
      record {
        few = omega arith;
        worth = scale_more g scale s.worth;
        below = omega (arith, s.below, part (get_or rest g 0 - 128) 127 scale (omega arith));
        left =
            ap (λ (x : ℕ). groups (10 - (g + 1)) at x (value + (get_or rest g 0 - 128) * scale) (scale * 128) (drop (g + 1) rest)) (sym z)
            ∙ sym (more rest (10 - g) (10 - (g + 1)) at g (at + g) value scale fuel h k) ∙ s.left;
      }

-- the bytes from a place on are the rest
pub begun : (bytes rest : List ℕ) (at : ℕ) → rest ≡ drop at bytes → Sofar bytes rest at 0 0 1
begun bytes rest at e = let z : at + 0 ≡ at = omega arith in record { few = omega arith; worth = refl; below = omega arith; left = rw (z, e) refl }

-- past the end there are none
pub rest_is : (bytes : List ℕ) (at : ℕ) (r : Option (Bor (List ℕ))) (none x : Bor (List ℕ)) → none.now ≡ [] → x ≡ unwrap_or r none
    → PartBy (λ (y : Bor (List ℕ)). y.now) bytes at (length bytes) r → x.now ≡ drop at bytes
rest_is bytes at None none x z e h = ap (λ (y : Bor (List ℕ)). y.now) e ∙ z ∙ sym (drop_all at bytes (⊎_elim (λ (l : length bytes < at). omega arith) (λ (l : length bytes < length bytes). omega arith) h.0))
rest_is bytes at (Some p) none x z e h = ap (λ (y : Bor (List ℕ)). y.now) e ∙ h.0.2 ∙ take_rest bytes at
