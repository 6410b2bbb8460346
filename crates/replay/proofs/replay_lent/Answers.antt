-- `replay::replay_lent` meets its contract.
use Rattle.std.proofs.Common.{arith}
use Rattle.replay.specs.Whole.{headed, rest_all}
use Rattle.replay.proofs.replay_lent.Goals as goal

pub returns-clause-gives : goal.returns-clause-gives
returns-clause-gives c = ((omega (arith, c.if-out-memory.false, c.if-out-lt204.false)), headed _ _ _ _ c.write_header-begun.ensures.0 c.write_header-begun.ensures.1 (omega (arith, c.if-out-lt204.false, c.write_header-begun.ensures.1)) c.run_all-done.ensures.behind (omega (arith, c.run_all-done.auto, c.write_header-begun.auto, c.write_header-begun.ensures.1)) (rest_all c.write_header-begun.new.out c.write_header-begun.result))
