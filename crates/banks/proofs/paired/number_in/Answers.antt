use Rattle.std.proofs.Common.{◌≡◌, ℕ, ◌+◌, ◌*◌, ◌-◌, length, ap, ◌∙◌, sym, arith, rules}
use Rattle.std.proofs.lemmas.List.{take_all}
use Rattle.banks.specs.Meanings.{by_place}
use Rattle.banks.specs.Paired.{number_in}
use Rattle.banks.proofs.CellBytes.{last_front, last_is, last_small, last_read}
use Rattle.banks.proofs.paired.number_in.Goals as goal

pub loop-cell-init : goal.loop-cell-init
loop-cell-init c =
    let cells = c.args.cells.now in
    let left = length c.into_iter-cell-iterator.result.iter.rest.now in
    let whole : c.into_iter-cell-iterator.result.iter.rest.now ≡ cells = search rules in
    let none : 0 ≡ length cells - left = omega (arith, ap length whole) in
    record {
      front = whole ∙ sym (take_all left cells (omega (arith, ap length whole)));
      number = ap (number_in (by_place cells) left) none;
    }

pub loop-cell-preserved : goal.loop-cell-preserved
loop-cell-preserved c =
    let cells = c.args.cells.now in
    let old = c.loop-cell.cell-iterator.iter.rest.now in
    let new = c.next.new.self.iter.rest.now in
    record {
      front = last_front cells old new c.in-Some.cell.now c.in-Some.ensures.steps c.loop-cell.invariant.front;
      number = ap (λ (b : ℕ). c.loop-cell.number * 256 + b) c.from.ensures
          ∙ last_read cells old new c.in-Some.cell.now c.in-Some.ensures.steps c.loop-cell.invariant.front c.loop-cell.number (omega (arith, c.type_inv.cells (length new))) c.loop-cell.invariant.number;
    }

pub overflow_mul-number : goal.overflow_mul-number
overflow_mul-number c =
    let old = c.loop-cell.cell-iterator.iter.rest.now in
    let new = c.next.new.self.iter.rest.now in
    omega (arith, last_small c.args.cells.now old new c.in-Some.cell.now c.in-Some.ensures.steps c.loop-cell.invariant.front c.loop-cell.number c.requires c.loop-cell.invariant.number)

pub overflow_add-number : goal.overflow_add-number
overflow_add-number c =
    let cells = c.args.cells.now in
    let old = c.loop-cell.cell-iterator.iter.rest.now in
    let new = c.next.new.self.iter.rest.now in
    let small = last_small cells old new c.in-Some.cell.now c.in-Some.ensures.steps c.loop-cell.invariant.front c.loop-cell.number c.requires c.loop-cell.invariant.number in
    let is = last_is cells old new c.in-Some.cell.now c.in-Some.ensures.steps c.loop-cell.invariant.front in
    omega (arith, small, is, c.from.ensures, c.type_inv.cells (length new))

pub returns : goal.returns
returns c =
    let cells = c.args.cells.now in
    let all : length cells - 0 ≡ length cells = omega arith in
    c.loop-cell.invariant.number ∙ ap (λ (k : ℕ). number_in (by_place cells) k (length cells - k)) c.in-None.ensures.steps.0 ∙ ap (number_in (by_place cells) 0) all
