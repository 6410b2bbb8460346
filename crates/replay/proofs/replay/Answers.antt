-- `replay::replay` meets its contract: it tells what the lent memory holds at the end.
use Rattle.std.proofs.Common.{refl, rules}
use Rattle.replay.specs.Whole.{replayed_as}
use Rattle.replay.proofs.replay.Goals as goal

pub returns : goal.returns
returns c = (c.in_ok-done.ensures.gives.0, replayed_as c.in_ok-done.ensures.gives.1 refl (search rules) (search rules))
