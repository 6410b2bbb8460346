-- `Output::put_byte` meets its contract.
use Rattle.std.proofs.Common.{arith}
use Rattle.printing.specs.Wrote.{byte_is}
use Rattle.printing.proofs.Output.put_byte.Goals as goal

pub returns-clause-writes : goal.returns-clause-writes
returns-clause-writes c = record { is = byte_is _ _ _ c.requires; stops = omega arith; room = omega arith }
