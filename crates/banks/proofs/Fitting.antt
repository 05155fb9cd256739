-- When a constant row fits.
use Rattle.std.proofs.Common.{◌≡◌, ℕ, ◌*◌, ◌^◌, eqb, ltb, sym, ◌∙◌, mod-eq_of_lt, arith}
use Rattle.std.proofs.lemmas.Nat.{pow_pos, mod_below}
use Rattle.std.proofs.lemmas.Bool.{eq-eqb, ne_eqb}
use Rattle.forms.specs.declared.row.Row.{Row}
use Rattle.banks.specs.Fits.{widths_fit}
use Rattle.banks.specs.Kind.{Description}
use Rattle.banks.specs.Words.{lowest}
use Rattle.banks.specs.Splits.{by_order}

-- A number stays within a width exactly if its lowest bytes are all of it.
pub low_whole : (c n : ℕ) → eqb (lowest c n) c ≡ ltb c (2 ^ (8 * n))
low_whole c n = by_order c (2 ^ (8 * n))
    (λ l t. eq-eqb (lowest c n) c (mod-eq_of_lt l) ∙ sym t)
    (λ l t. ne_eqb (lowest c n) c (λ e. absurd (omega (arith, mod_below c (2 ^ (8 * n)) (pow_pos (8 * n))))) ∙ sym t)

-- A constant row asks that its number stays within the width of d.
pub constant_fits : (d : Description) (r : Row) → r.kind ≡ 1 → ltb r.c (2 ^ (8 * d.width r.d)) ≡ widths_fit d r
constant_fits d r e = simp e
