-- `upkeep::delete_swept` meets its contract.
use Rattle.std.proofs.Common.{⊎_elim}
use Rattle.rules.specs.Calls.{delete_found}
use Rattle.laws.specs.Buffers.{given_sound, holds_itself}
use Rattle.laws.specs.Meant.{live_there, dead_there}
use Rattle.upkeep.specs.StepLaws.{found_does}
use Rattle.upkeep.proofs.delete_swept.Goals as goal

pub delete_at-requires : goal.delete_at-requires
delete_at-requires c = record { pool_value = c.requires; i_in_bounds = ⊎_elim (live_there _ _ _ _ _ c.look_up.ensures _) (dead_there _ _ _ _ _ c.look_up.ensures _) c.in-Live.is }

pub returns-in-Live : goal.returns-in-Live
unfolding delete_found
returns-in-Live c = ⊎_elim (λ e. found_does (delete_found _ _) c.look_up.ensures e c.delete_at.ensures) (λ e. found_does (delete_found _ _) c.look_up.ensures e c.delete_at.ensures) c.in-Live.is

pub returns-in-Missing : goal.returns-in-Missing
unfolding delete_found
returns-in-Missing c = found_does (delete_found _ _) c.look_up.ensures c.in-Missing.is (record { answer = c.plain.ensures; memory = holds_itself _ _ (given_sound _ _ c.requires).dir_is })
