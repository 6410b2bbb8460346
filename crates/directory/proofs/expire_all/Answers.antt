-- `directory::expire_all` meets its contract. The loop's invariant: the first i entries have the new expiry.
use Rattle.std.proofs.Common.{◌∙◌, arith}
use Rattle.directory.specs.Expiring.{expired_none, expired_more, expired_all}
use Rattle.directory.proofs.expire_all.Goals as goal

pub loop-i-init : goal.loop-i-init
loop-i-init c = expired_none _ c.requires

pub loop-i-preserved : goal.loop-i-preserved
loop-i-preserved c = expired_more _ _ c.loop-i.i _ c.loop-i.invariant (omega arith) (omega (arith, c.requires.room))

pub returns : goal.returns
returns c = c.loop-i.invariant ∙ expired_all _ _ _ c.loop-i.i (omega arith)
