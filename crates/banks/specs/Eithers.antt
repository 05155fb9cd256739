-- The laws of a bank that is one of two, from those of both.
use Rattle.std.specs.Prelude.{◌≡◌, ℕ, ◌*◌, ◌%◌, ◌^◌, ◌<◌, ◌≤◌, true, false}
use Rattle.std.proofs.Common.{ap, inl, inr}
use Rattle.banks.specs.declared.loss.Loss.{Loss}
use Rattle.banks.specs.Either.{OneOf, describe_one, look_one, put_one, lose_one, one_of}
use Rattle.banks.specs.Kind.{Kind, Laws, Described}

module _ (j k : Kind) (J : Laws j) (K : Laws k) where
  -- What both show at each meaning, the one of the two shows.
  by_one : (P : OneOf j k → Type 0) → ((m : j.Meaning) → P (inl m)) → ((m : k.Meaning) → P (inr m)) → (m : OneOf j k) → P m
  by_one P f g (inl m) = f m
  by_one P f g (inr m) = g m

  pub either_laws : Laws (one_of j k)
  either_laws = record {
    described = by_one (λ m. Described (describe_one j k m)) J.described K.described;
    put_stays = by_one (λ m. (a w : ℕ) → describe_one j k (put_one j k m a w) ≡ describe_one j k m) J.put_stays K.put_stays;
    loss_stays = by_one (λ m. (l : Loss) (w : ℕ) → describe_one j k (lose_one j k m l w) ≡ describe_one j k m) J.loss_stays K.loss_stays;
    look_fits = by_one (λ m. (a : ℕ) → look_one j k m a < 2 ^ (8 * (describe_one j k m).width a)) J.look_fits K.look_fits;
    put_seen = by_one (λ m. (a w : ℕ) → a < (describe_one j k m).names → look_one j k (put_one j k m a w) a ≡ w % 2 ^ (8 * (describe_one j k m).width a)) J.put_seen K.put_seen;
    put_leaves = by_one (λ m. (a b w : ℕ) → (describe_one j k m).touches a b ≡ false → look_one j k (put_one j k m a w) b ≡ look_one j k m b) J.put_leaves K.put_leaves;
    put_nowhere = by_one (λ m. (a w : ℕ) → (describe_one j k m).names ≤ a → put_one j k m a w ≡ m) (λ m a w h. ap inl (J.put_nowhere m a w h)) (λ m a w h. ap inr (K.put_nowhere m a w h));
    loss_keeps = by_one (λ m. (l : Loss) (a w : ℕ) → (describe_one j k m).kept_over l a ≡ true → look_one j k (lose_one j k m l w) a ≡ look_one j k m a) J.loss_keeps K.loss_keeps;
  }
