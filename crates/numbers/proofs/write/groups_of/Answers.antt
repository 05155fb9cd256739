use Rattle.std.proofs.Common.{arith}
use Rattle.numbers.proofs.Written.{none, more}
use Rattle.numbers.proofs.write.groups_of.Goals as goal

pub loop-rest-init : goal.loop-rest-init
loop-rest-init c = none c.args.value c.new-groups.result.items (omega arith) c.new-groups.ensures

pub loop-rest-preserved : goal.loop-rest-preserved
loop-rest-preserved c = more c.loop-rest.invariant (omega arith) _ c.push.ensures.items
