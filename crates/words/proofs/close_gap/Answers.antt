-- `words::close_gap` meets its contract.
use native.Mathlib.Omega.{arith}
use Rattle.words.specs.GapLaws.{cut_is}
use Rattle.words.proofs.close_gap.Goals as goal

pub returns : goal.returns
returns c = let a = c.args in
    cc (cut_is a.d.now a.at a.n a.count (omega arith))
