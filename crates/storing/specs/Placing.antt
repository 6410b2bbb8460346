-- A place for an item.
use Rattle.std.specs.Prelude.{◌≡◌, false, ℕ, ◌+◌, ◌≤◌, ◌<◌}
use Rattle.rules.specs.Layout.{cells_of, Memory}
use Rattle.rules.specs.Place.{held}
use Rattle.rules.specs.Calls.{Item, need_for}

-- the item fits from a start on: inside the pool, in cells that no entry holds
pub record Fits (item : Item) (start : ℕ) (m : Memory) : Type 0 where
  pub inside : start + need_for item ≤ cells_of m.pool
  pub free : (j : ℕ) → j < need_for item → held m.entries (start + j) ≡ false
