-- A name is text.
use Rattle.std.proofs.Common.{◌≡◌, ℕ, ◌+◌, ◌<◌, Bool, true, false, cond, ◌&&◌, eqb, ltb, List, [], ◌∷◌, length, is_ok, Ok, Err, IsUtf8, Result, refl, ◌∙◌, arith, MatchResult}
use Rattle.std.proofs.ByRecursion.{IsAscii-from_all}
use Rattle.std.proofs.lemmas.Str.{IsUtf8-from_ascii}
use Rattle.std.proofs.lemmas.Bool.{and_parts, eqb-false, lt-ltb}
use Rattle.std.proofs.lemmas.Bool.Decides.{nat_tests}
use Rattle.std.specs.List.{AllByRecursion, list_all, prefix_len}
use Rattle.texts.specs.Classes.{letter, is_name}

-- all pass where the front has all
pub all_front : {X : Type 0} (p : X → Bool) (xs : List X) → list_all p xs ≡ eqb (prefix_len p xs) (length xs)
all_front p [] = refl
all_front p (x ∷ xs) = at_test (p x) (all_front p xs)
  where
    at_test : (t : Bool) → list_all p xs ≡ eqb (prefix_len p xs) (length xs) → (t && list_all p xs) ≡ eqb (cond t (1 + prefix_len p xs) 0) (length (x ∷ xs))
    at_test true e = grind (arith, nat_tests, e)
    at_test false e = grind (arith, nat_tests)

low : (b : ℕ) → letter b ≡ true → b < 128
low b e = grind (arith, nat_tests)

all_low : (bs : List ℕ) → list_all letter bs ≡ true → AllByRecursion (λ x. x < 128) bs
all_low [] h = tt
all_low (b ∷ bs) h = let (e, es) = and_parts (letter b) (list_all letter bs) h in (low b e, all_low bs es)

pub name_utf8 : (bs : List ℕ) → is_name bs ≡ true → IsUtf8 bs
name_utf8 bs h = IsUtf8-from_ascii bs (IsAscii-from_all bs (all_low bs (all_front letter bs ∙ (and_parts _ _ h).1)))

-- what never fails succeeds
pub ok_since : {T E : Type 0} (r : Result T E) (P : T → Type 0) (Q : E → Type 0) → MatchResult r P Q → ((e : E) → Q e → ⊥) → is_ok r ≡ true
ok_since (Ok x) P Q h never = refl
ok_since (Err e) P Q h never = absurd (never e h)

-- what is not empty is a name where all its bytes are letters
pub all_name : (bs : List ℕ) → eqb (length bs) 0 ≡ false → list_all letter bs ≡ is_name bs
all_name bs h = let some : ltb 0 (length bs) ≡ true = lt-ltb 0 (length bs) (omega (arith, eqb-false _ 0 h)) in rw some (all_front letter bs)
