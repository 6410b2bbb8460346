-- `Waiting::hold` meets its contract.
use Rattle.std.proofs.Common.{ap, ◌∙◌, arith, take}
use Rattle.replay_main.specs.Rest.{front_put}
use Rattle.replay_main.proofs.Waiting.hold.Goals as goal

pub returns : goal.returns
returns c = ap (take _) c.hold-self.ensures.2 ∙ front_put _ _ _ c.hold-self.ensures.1 (omega (arith, c.hold-self.auto, c.hold-self.ensures.0))
