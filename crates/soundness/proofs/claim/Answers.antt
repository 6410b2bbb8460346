-- `soundness::claim` meets its contract.
use Rattle.std.proofs.Common.{arith, length-set}
use Rattle.soundness.proofs.claim.Goals as goal

pub claim_from-requires : goal.claim_from-requires
claim_from-requires c = (omega arith, omega (arith, length-set c.args.map.now c.args.start 1))
