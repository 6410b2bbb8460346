-- `Output::put_column` meets its contract.
use Rattle.std.proofs.Common.{arith}
use Rattle.decimals.specs.DigitLaws.{decimal_most}
use Rattle.printing.specs.Columns.{ended}
use Rattle.printing.specs.Wrote.{writes_then}
use Rattle.printing.proofs.Output.put_column.Goals as goal

pub put_byte-requires : goal.put_byte-requires
put_byte-requires c = omega (arith, c.write_number-self.ensures.1, c.write_number-self.auto, decimal_most c.args.n)

pub returns-clause-writes : goal.returns-clause-writes
unfolding ended
returns-clause-writes c =
    writes_then
    (record { is = c.write_number-self.ensures.0; stops = c.write_number-self.ensures.1; room = omega (arith, decimal_most c.args.n) })
    c.put_byte.ensures.writes
