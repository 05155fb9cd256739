use Rattle.std.proofs.Common.{◌≡◌, ◌<◌, get_or, sym, refl, arith}
use Rattle.numbers.proofs.Canonical.{written_at}
use Rattle.numbers.proofs.Groups.{begun, rest_is, cut_off, not_shortest, too_large, whole, again, fits, adds, small}
use Rattle.numbers.proofs.read.read_number.Goals as goal

pub loop-group-init : goal.loop-group-init
loop-group-init c = begun c.args.bytes.now c.unwrap_or-rest.result.now c.args.at (rest_is c.args.bytes.now c.args.at c.get.result _ _ refl c.unwrap_or-rest.ensures c.get.ensures.lookup)

pub returns-in-0-clause-result : goal.returns-in-0-clause-result
returns-in-0-clause-result c = not_shortest c.loop-group.invariant (omega arith) (omega arith) (omega arith)

pub returns-in-2-to-255-clause-result : goal.returns-in-2-to-255-clause-result
returns-in-2-to-255-clause-result c = too_large c.loop-group.invariant (omega arith) (omega arith) (omega arith)

pub overflow_mul-value : goal.overflow_mul-value
overflow_mul-value c = omega (arith, adds c.loop-group.invariant (get_or c.unwrap_or-rest.result.now c.loop-group.group 0) (omega (arith, c.type_inv.rest c.loop-group.group)) (omega arith))

pub overflow_add-value : goal.overflow_add-value
overflow_add-value c = omega (arith, adds c.loop-group.invariant (get_or c.unwrap_or-rest.result.now c.loop-group.group 0) (omega (arith, c.type_inv.rest c.loop-group.group)) (omega arith))

pub overflow_mul-scale : goal.overflow_mul-scale
overflow_mul-scale c = omega (arith, small _ _ c.loop-group.invariant.worth (omega arith))

-- a last group of nothing stands alone
alone : (c : goal.In-0-to-127-1) → get_or c.unwrap_or-rest.result.now c.loop-group.group 0 ≡ 0 → c.loop-group.group ≡ 0
alone c e = grind arith

-- the last group is one of seven bits, and at the tenth place of one
small_last : (c : goal.In-0-to-127-1) → (get_or c.unwrap_or-rest.result.now c.loop-group.group 0 < 128) × (c.loop-group.group ≡ 9 → get_or c.unwrap_or-rest.result.now c.loop-group.group 0 < 2)
small_last c = (grind arith, (λ e. grind arith))

pub overflow_mul-result : goal.overflow_mul-result
overflow_mul-result c = omega (arith, fits c.loop-group.invariant _ (small_last c).0 (small_last c).1)

pub overflow_add-result : goal.overflow_add-result
overflow_add-result c = omega (arith, fits c.loop-group.invariant _ (small_last c).0 (small_last c).1)

pub returns-in-0-to-127 : goal.returns-in-0-to-127
returns-in-0-to-127 c =
    let e = whole c.loop-group.invariant (omega arith) (small_last c).0 (alone c) (small_last c).1 in
    record { result = e; written = written_at c.args.bytes.now c.args.at (λ i. omega (arith, c.type_inv.bytes i)) _ (sym e) }

pub loop-group-preserved : goal.loop-group-preserved
loop-group-preserved c = again c.loop-group.invariant (omega arith) (omega arith) (omega arith) (omega (arith, c.type_inv.rest c.loop-group.group))

pub returns-clause-result : goal.returns-clause-result
returns-clause-result c = cut_off c.loop-group.invariant (omega arith)
