use Rattle.std.proofs.Common.{arith, rules}
use Rattle.numbers.proofs.Back.{appended}
use Rattle.numbers.proofs.write.write_number.Goals as goal

pub returns-clause-reads : goal.returns-clause-reads
returns-clause-reads c = appended c.extend_from_slice.result c.args.value (omega arith) c.args.out.now.items c.extend_from_slice.new.self.items _ c.args.out.now.ok.0 (search rules)
