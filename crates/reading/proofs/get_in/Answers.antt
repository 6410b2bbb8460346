-- `reading::get_in` meets its contract.
use Rattle.rules.specs.Calls.{get_work}
use Rattle.eviction.specs.Swept.{still_sound, behind_sweep}
use Rattle.reading.proofs.get_in.Goals as goal

pub get_swept-requires : goal.get_swept-requires
get_swept-requires c = still_sound _ _ _ c.requires c.sweep-removed.ensures

pub returns : goal.returns
unfolding get_work
returns c = behind_sweep _ _ _ c.requires c.sweep-removed.ensures _ c.get_swept.ensures
