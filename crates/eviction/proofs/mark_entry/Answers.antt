-- `eviction::mark_entry` meets its contract.
use Rattle.std.proofs.Common.{arith, length-set}
use Rattle.laws.specs.Marks.{written_first, written_then, written_one}
use Rattle.eviction.specs.Filled.{written_fill}
use Rattle.eviction.proofs.mark_entry.Goals as goal

pub returns-then-size-le32 : goal.returns-then-size-le32
returns-then-size-le32 c = written_one c.args.start (omega arith) (omega arith)

pub returns : goal.returns
returns c = written_then (written_first c.args.start (omega arith)) (rw c.fill.ensures (written_fill _ _ _ _ _ (omega (arith, length-set c.args.marks.now c.args.start c.args.mark)) (omega arith))) (omega arith) (omega arith)
