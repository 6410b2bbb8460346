-- `eviction::sweep` meets its contract.
use Rattle.eviction.specs.Swept.{swept_few, swept_is}
use Rattle.eviction.proofs.sweep.Goals as goal

pub remove_oldest-requires : goal.remove_oldest-requires
remove_oldest-requires c = record { pool_value = c.requires; n_in_bounds = swept_few _ _ _ _ c.sweep_count-n.ensures }

pub returns : goal.returns
returns c = swept_is _ _ _ _ c.sweep_count-n.ensures c.remove_oldest.ensures
