-- The laws of nested units.
use Rattle.std.specs.Prelude.{◌≡◌, ℕ, zero, suc, ◌+◌, ◌*◌, ◌/◌, ◌%◌, ◌^◌, ◌<◌, ◌≤◌, true, false, List, length, nat_eq, nat_le, nat_lt, slice_index, slice_set, refl}
use Rattle.std.proofs.Common.{ap, ◌∙◌, arith}
use Rattle.std.proofs.Math.Path.{fun_ext}
use Rattle.std.proofs.Math.Nat.{mod-mod}
use Rattle.std.proofs.lemmas.Bool.{lt-ltb, le-ltb, eq-eqb, cond-true, cond-false, and_parts, leb-true}
use Rattle.std.proofs.lemmas.Bool.Decides.{nat_tests}
use Rattle.std.proofs.lemmas.Nat.{pow_pos, mod_below, mod-mul-add}
use Rattle.banks.specs.declared.loss.Loss.TheVariants.{Pause}
use Rattle.banks.specs.Kind.{Described, Laws, is_width}
use Rattle.banks.specs.Nested.{unit_of, nested_width, unit_after, units_lost, nested_description, nested_look, nested_put, nested}
use Rattle.banks.specs.Words.{lowest}
use Rattle.banks.specs.Places.{place_set}
use Rattle.banks.specs.Splits.{by_order, by_equal}

power_width : (k : ℕ) → k < 4 → is_width (2 ^ k) ≡ true
power_width zero h = refl
power_width (suc zero) h = refl
power_width (suc (suc zero)) h = refl
power_width (suc (suc (suc zero))) h = refl
power_width (suc (suc (suc (suc k)))) h = absurd (omega arith)

-- What was put into the lowest bytes of a unit is what they hold then.
put_low : (n old w : ℕ) → unit_after n old w % 2 ^ (8 * n) ≡ w % 2 ^ (8 * n)
put_low n old w = by_order 2 n
    (λ l e. rw (cond-false (nat_le n 2) (old / 2 ^ (8 * n) * 2 ^ (8 * n) + lowest w n) (lowest w n) (grind (arith, nat_tests))) (mod-mod w (2 ^ (8 * n))))
    (λ l e. rw (cond-true (nat_le n 2) (old / 2 ^ (8 * n) * 2 ^ (8 * n) + lowest w n) (lowest w n) (grind (arith, nat_tests))) (mod-mul-add (old / 2 ^ (8 * n)) (2 ^ (8 * n)) (w % 2 ^ (8 * n)) (mod_below w (2 ^ (8 * n)) (pow_pos (8 * n)))))

nested_described : Described nested_description
nested_described = record {
  some = omega arith;
  few = omega arith;
  widths = λ a h. simp (lt-ltb a 32 h) (power_width (a % 4) (omega arith));
  touches_itself = λ a h. grind (arith, nat_tests);
  touches_back = λ a b. grind (arith, nat_tests);
  no_width = λ a h. grind (arith, nat_tests);
  no_touch = λ a b h. grind (arith, nat_tests);
  not_over = λ l a h. grind (arith, nat_tests);
}

-- No name is kept over a pause.
pub none_over_pause : (a : ℕ) → nested_description.kept_over Pause a ≡ false
none_over_pause a = grind (arith, nat_tests)

-- A number that is no name puts nothing.
put_nothing : (units : ℕ → ℕ) (a w : ℕ) → 32 ≤ a → nested_put units a w ≡ units
put_nothing units a w h = fun_ext (λ u. by_equal (unit_of a) u (λ e t. simp (t, le-ltb a 32 h) (omega arith)) (λ n t. simp t))

other_put : (units : ℕ → ℕ) (a b w : ℕ) → nested_description.touches a b ≡ false → nested_look (nested_put units a w) b ≡ nested_look units b
other_put units a b w h = by_order a 32
    (λ la ea. by_order b 32
    (λ lb eb. let z : nat_eq (a / 4) (b / 4) ≡ false = simp (ea, eb) at h in simp z)
    (λ lb eb. simp eb (omega arith)))
    (λ la ea. ap (λ (x : ℕ → ℕ). nested_look x b) (put_nothing units a w la))

-- Nested units keep the laws.
pub nested_laws : Laws nested
nested_laws = record {
  described = λ m. nested_described;
  put_stays = λ m a w. refl;
  loss_stays = λ m l w. refl;
  look_fits = λ m a. mod_below (m (a / 4)) (2 ^ (8 * nested_width a)) (pow_pos (8 * nested_width a));
  put_seen = λ m a w h. let q = eq-eqb (a / 4) (a / 4) refl in simp q (put_low (nested_width a) (m (a / 4)) w);
  put_leaves = other_put;
  put_nowhere = put_nothing;
  loss_keeps = λ m l a w h. simp (le-ltb (a / 4) (units_lost l) (leb-true (units_lost l) (a / 4) (and_parts (nat_lt a 32) (nat_le (units_lost l) (a / 4)) h).1));
}

-- A write to the list of units is a put.
pub units_set : (l : List ℕ) (a w v : ℕ) → a / 4 < length l → v ≡ unit_after (nested_width a) (slice_index l (a / 4)) w → ◌≡◌ {A = ℕ → ℕ} (λ u. slice_index (slice_set l (a / 4) v) u) (nested_put (λ u. slice_index l u) a w)
units_set l a w v i e = fun_ext (λ u. place_set l (a / 4) v i u ∙ by_equal (a / 4) u
    (λ q t. simp t (e ∙ ap (λ (x : ℕ). unit_after (nested_width a) (slice_index l x) w) q))
    (λ n t. simp t))
