-- `Output::put_columns` meets its contract.
use Rattle.std.proofs.Common.{arith}
use Rattle.printing.specs.Columns.{three_ended, ended_most}
use Rattle.printing.specs.Wrote.{writes_size, writes_then}
use Rattle.printing.proofs.Output.put_columns.Goals as goal

pub put_column-requires-2 : goal.put_column-requires-2
put_column-requires-2 c = omega (arith, c.put_column.ensures.writes.stops, writes_size c.put_column.ensures.writes, ended_most c.args.a 9)

pub put_column-requires-3 : goal.put_column-requires-3
put_column-requires-3 c =
    omega (arith, c.put_column.ensures.writes.stops, writes_size c.put_column.ensures.writes, ended_most c.args.a 9, c.put_column-2.ensures.writes.stops, writes_size c.put_column-2.ensures.writes, ended_most c.args.b 9)

pub returns-clause-writes : goal.returns-clause-writes
unfolding three_ended
returns-clause-writes c = writes_then (writes_then c.put_column.ensures.writes c.put_column-2.ensures.writes) c.put_column-3.ensures.writes
