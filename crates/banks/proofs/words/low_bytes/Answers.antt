use Rattle.std.proofs.Common.{ℕ, ◌-◌, ◌*◌, ◌^◌, ◌<◌, ◌≤◌, sym, ap, ◌∙◌, lt_of_lt_of_le, mod-eq_of_lt, arith, pow_mono}
use lib.Bits.{bit_and}
use Rattle.std.proofs.lemmas.Nat.{one_shl, and_mask}
use Rattle.banks.proofs.words.low_bytes.Goals as goal

-- all bytes of the word
pub returns-then-width-ge8 : goal.returns-then-width-ge8
returns-then-width-ge8 c =
    let wide : 64 ≤ 8 * c.args.width = omega arith in
    let fits : c.args.w < 2 ^ 64 = omega arith in
    sym (mod-eq_of_lt (lt_of_lt_of_le fits (pow_mono {i = 64} {j = 8 * c.args.width} wide)))

-- a mask
pub returns-else-width-ge8 : goal.returns-else-width-ge8
returns-else-width-ge8 c =
    let low : 8 * c.args.width < 64 = omega arith in
    ap (λ (m : ℕ). bit_and c.args.w (m - 1)) (one_shl (8 * c.args.width) 64 low) ∙ and_mask c.args.w (8 * c.args.width)
