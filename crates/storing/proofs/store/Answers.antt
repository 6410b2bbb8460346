-- `storing::store` meets its contract.
use mathlib.Core.Path.{sym, ◌∙◌}
use Rattle.storing.specs.Losing.{store_refused, store_done}
use Rattle.storing.proofs.store.Goals as goal

pub returns-in-Err : goal.returns-in-Err
returns-in-Err c = let p = store_refused _ _ _ _ _ _ _ _ _ _ _ _ _ c.of_store.ensures c.in-Err.is c.plain.ensures in record { result = p.0; loss = p.1 }

pub store_in-requires : goal.store_in-requires
store_in-requires c = sym c.in_default.is ∙ c.of_store.ensures

pub returns : goal.returns
returns c = let p = store_done _ _ _ _ _ _ _ _ _ _ _ _ _ (sym c.in_default.is ∙ c.of_store.ensures) c.store_in.ensures in record { result = p.0; loss = p.1 }
