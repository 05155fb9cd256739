use Rattle.std.proofs.Common.{◌+◌, sym, subst, arith}
use Rattle.banks.proofs.Told.{Told, told_set, told_not}
use Rattle.banks.proofs.outline.mask.Goals.{then-holds, else-holds}
use Rattle.banks.proofs.outline.mask.Goals as goal

pub loop-i-preserved : goal.loop-i-preserved
loop-i-preserved g c =
    let more : Told (goal.F-post g c.args.holds) (c.loop-i.i + 1) c.if-holds.word = elim c.if-holds.branch [
      | then-holds w ↦ subst (Told (goal.F-post g c.args.holds) (c.loop-i.i + 1)) (sym w.word-is) (told_set (goal.F-post g c.args.holds) c.loop-i.i c.loop-i.word (omega arith) c.loop-i.invariant.1 (subst (goal.F-post g c.args.holds c.loop-i.i) w.if-holds.true c.holds.ensures))
      | else-holds w ↦ subst (Told (goal.F-post g c.args.holds) (c.loop-i.i + 1)) (sym w.word-is) (told_not (goal.F-post g c.args.holds) c.loop-i.i c.loop-i.word (omega arith) c.loop-i.invariant.1 (subst (goal.F-post g c.args.holds c.loop-i.i) w.if-holds.false c.holds.ensures))
    ] in
    (c.loop-i.invariant.0, more)
