-- A fold that reads digits.
use Rattle.std.proofs.Common.{◌≡◌, ℕ, ◌^◌, ◌<◌, ◌≤◌, List, [], ◌∷◌, Some, None, Option, Bor, Iter, sym, ap, ◌∙◌, subst}
use Rattle.std.proofs.lemmas.Fn.{fronts}
use Rattle.std.proofs.lemmas.List.{nil_from_length}
use Rattle.std.specs.Fn.{Called, Mut}
use Rattle.std.specs.Iterator.{Yields}
use Rattle.std.specs.List.{FoldsTo}
use Rattle.std.specs.Option.{MatchOption}
use Rattle.std.specs.Slice.Iter.{iter_rest}
use Rattle.texts.specs.Digits.{written, narrow, extended}
use Rattle.texts.proofs.Numbers.{narrow_small, goes_on, breaks_off}

module _ {F : Type 0} (E : Type 0) (g : Mut F (ℕ × (Bor ℕ × Unit {0})) (Option ℕ)) (base : ℕ) (f : F) (r : Option ℕ) where
  -- a call that goes on to the next
  abbrev pub Turn : F × ℕ → Bor ℕ → F × ℕ → Type 0
  Turn p x q = (w : Option ℕ) × Called g p.0 (p.1, (x, tt)) w q.0 × (w ≡ Some q.1)

  -- how the calls end: all were made, or one broke off
  abbrev pub Ends : F × ℕ → Option (Bor ℕ) → Type 0
  Ends p o = MatchOption o (r ≡ Some p.1) (λ x. (w : Option ℕ) × (h : F) × (e : E) × Called g p.0 (p.1, (x, tt)) w h × (w ≡ None) × (r ≡ None))

  module _ (one : 1 ≤ base) (calls : (n : ℕ) (x : Bor ℕ) (w : Option ℕ) (q : F) → Called g f (n, (x, tt)) w q → (q ≡ f) × (w ≡ extended base n x.now)) where
    ended : (o : Option (Bor ℕ)) (t u : Iter ℕ) (n : ℕ) → fronts t o u → Ends (f, n) o → n < 2 ^ 64 → r ≡ narrow (written base n (iter_rest t))
    ended None t u n step is small = is ∙ sym (ap (λ bs. narrow (written base n bs)) (nil_from_length (iter_rest t) step.0) ∙ narrow_small n small)
    ended (Some x) t u n step (w, h, _, called, none, is) small =
        is ∙ sym (ap (λ bs. narrow (written base n bs)) step ∙ breaks_off base n x.now (iter_rest u) one (sym (calls n x w h called).1 ∙ none))

    pub folded : (xs : List (Bor ℕ)) (o : Option (Bor ℕ)) (s t u : Iter ℕ) (n : ℕ) (q : F × ℕ)
        → Yields fronts s xs t → fronts t o u → FoldsTo Turn (f, n) xs q → Ends q o → n < 2 ^ 64 → r ≡ narrow (written base n (iter_rest s))
    folded [] o s t u n q came step folds ends small = ended o s u n (subst (λ k. fronts k o u) (sym came) step) (subst (λ p. Ends p o) (sym folds) ends) small
    folded (x ∷ xs) o s t u n q (j, first, came) step (p, (w, called, on), folds) ends small =
        let (same, told) = calls n x w p.0 called in
        let (fits, next) = goes_on base n x.now (iter_rest j) p.1 (sym told ∙ on) in
        folded xs o j t u p.1 q came step (subst (λ k. FoldsTo Turn (k, p.1) xs q) same folds) ends fits
        ∙ sym (ap (λ bs. narrow (written base n bs)) first ∙ ap narrow next)
