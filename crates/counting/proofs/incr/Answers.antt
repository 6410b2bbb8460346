-- `counting::incr` meets its contract.
use mathlib.Core.Path.{sym, ◌∙◌}
use Rattle.counting.proofs.CountingLaws.{incr_refused, incr_done}
use Rattle.counting.proofs.incr.Goals as goal

pub returns-in-Err : goal.returns-in-Err
returns-in-Err c = let p = incr_refused _ _ _ _ _ _ _ _ _ c.of_incr.ensures c.in-Err.is c.plain.ensures in record { result = p.0; least_loss = p.1 }

pub incr_in-requires : goal.incr_in-requires
incr_in-requires c = sym c.in_default.is ∙ c.of_incr.ensures

pub returns : goal.returns
returns c = let p = incr_done _ _ _ _ _ _ _ _ _ c.ranges.step (sym c.in_default.is ∙ c.of_incr.ensures) c.incr_in.ensures in record { result = p.0; least_loss = p.1 }
