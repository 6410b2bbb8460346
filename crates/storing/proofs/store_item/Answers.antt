-- `storing::store_item` meets its contract.
use Rattle.std.proofs.Common.{⊎_elim}
use Rattle.laws.specs.Meant.{live_there, dead_there}
use Rattle.storing.specs.StoreLaws.{item_live, item_dead, item_missing}
use Rattle.storing.proofs.store_item.Goals as goal

pub store_over-requires : goal.store_over-requires
store_over-requires c = record { pool_value = c.requires.pool_value; storable = c.requires.storable; i_in_bounds = ⊎_elim (live_there _ _ _ _ _ c.requires.found_value _) (dead_there _ _ _ _ _ c.requires.found_value _) c.in-Live.is }

pub returns-in-Live : goal.returns-in-Live
returns-in-Live c = ⊎_elim (λ e. item_live _ _ _ _ _ _ _ _ e c.store_over.ensures) (λ e. item_dead _ _ _ _ _ _ _ _ e c.store_over.ensures) c.in-Live.is

pub returns-in-Missing : goal.returns-in-Missing
returns-in-Missing c = item_missing _ _ _ _ _ _ _ c.in-Missing.is c.place_anew.ensures
