-- `upkeep::flush_all_in` meets its contract.
use mathlib.Core.Path.{refl}
use Rattle.rules.specs.Layout.{memory_of}
use Rattle.rules.specs.Calls.{flush_all_work}
use Rattle.laws.specs.Buffers.{given_sound}
use Rattle.upkeep.proofs.flush_all_in.Goals as goal

pub expire_all-requires : goal.expire_all-requires
expire_all-requires c = (given_sound _ _ c.requires).dir_is

pub returns : goal.returns
unfolding flush_all_work memory_of
returns c = record { answer = c.plain.ensures; memory = record { words = c.expire_all.ensures; bytes = refl } }
