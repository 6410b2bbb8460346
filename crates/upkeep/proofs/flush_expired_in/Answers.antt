-- `upkeep::flush_expired_in` meets its contract.
use native.Mathlib.Omega.{arith}
use Rattle.rules.specs.Layout.{memory_of}
use Rattle.laws.specs.Buffers.{given_sound}
use Rattle.upkeep.specs.Works.{flush_done}
use Rattle.upkeep.proofs.flush_expired_in.Goals as goal

pub count-n-requires : goal.count-n-requires
count-n-requires c = (given_sound _ _ c.requires).dir_is

pub drop_dead-kept-requires : goal.drop_dead-kept-requires
unfolding memory_of
drop_dead-kept-requires c = record { dir = (given_sound _ _ c.requires).dir_is; first_in_bounds = omega (arith, c.wipe_dead-first.ensures.within) }

pub returns : goal.returns
returns c = flush_done _ _ _ c.count-n.ensures c.up_to-most.ensures c.wipe_dead-first.ensures c.drop_dead-kept.ensures c.plain.ensures
