-- `distinct::bucket` meets its contract. The invariant of both loops: the bytes before i are hashed, so the rest decides.
use Rattle.std.proofs.Common.{arith}
use Rattle.distinct.specs.Hash.{hashed_none, hashed_word, hashed_byte, hashed_done}
use Rattle.distinct.proofs.bucket.Goals as goal

pub loop-i-init : goal.loop-i-init
loop-i-init c = (omega arith, hashed_none)

pub loop-i-preserved : goal.loop-i-preserved
loop-i-preserved c = (omega arith, hashed_word c.loop-i.invariant.1 (omega arith) c.load4.ensures.0)

pub loop-i-2-init : goal.loop-i-2-init
loop-i-2-init c = (omega arith, omega arith, c.loop-i.invariant.1)

pub loop-i-2-preserved : goal.loop-i-2-preserved
loop-i-2-preserved c = (omega arith, omega arith, hashed_byte c.loop-i-2.invariant.2 (omega arith) (omega arith) c.wide.ensures.0)

pub returns : goal.returns
returns c = (hashed_done c.loop-i-2.invariant.2 (omega arith), omega arith)
