-- Cases of an order, with the test that tells them apart.
use Rattle.std.specs.Prelude.{◌≡◌, ℕ, ◌<◌, ◌≤◌, true, false, ◌==◌, ◌≢◌, nat_lt}
use Rattle.std.proofs.Common.{⊎_elim}
use Rattle.std.proofs.lemmas.Bool.{lt-ltb, le-ltb, eq-eqb, ne_eqb, cases_lt, cases_eq}

-- Either a number is below another, and the test says so, or it is not.
pub by_order : {P : Type 0} (a n : ℕ) → (a < n → nat_lt a n ≡ true → P) → (n ≤ a → nat_lt a n ≡ false → P) → P
by_order a n f g = ⊎_elim (λ l. f l (lt-ltb a n l)) (λ l. g l (le-ltb a n l)) (cases_lt a n)

-- Either two numbers are equal, and the test says so, or they are not.
pub by_equal : {P : Type 0} (a b : ℕ) → (a ≡ b → (a == b) ≡ true → P) → ((a ≢ b) → (a == b) ≡ false → P) → P
by_equal a b f g = ⊎_elim (λ e. f e (eq-eqb a b e)) (λ n. g n (ne_eqb a b n)) (cases_eq a b)
