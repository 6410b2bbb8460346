-- `upkeep::delete_in` meets its contract.
use Prim.Native.Nat.{ℕ}
use Rattle.rules.specs.Layout.{Memory}
use Rattle.rules.specs.LookUp.{look_up}
use Rattle.rules.specs.Calls.{delete_found, delete_work}
use Rattle.laws.specs.Buffers.{step_sound, swept_sound}
use Rattle.eviction.specs.Swept.{behind_sweep}
use Rattle.upkeep.proofs.delete_in.Goals as goal

pub delete_swept-requires : goal.delete_swept-requires
delete_swept-requires c = step_sound _ _ c.requires (swept_sound _ _ c.requires _) c.sweep-removed.ensures.memory

pub returns : goal.returns
unfolding delete_work
returns c = behind_sweep _ _ _ c.requires c.sweep-removed.ensures (λ (removed : ℕ) (m : Memory). delete_found removed m (look_up _ _ m)) c.delete_swept.ensures
