-- A loop that fills rows from a table of plain numbers, three a row: what stands after some turns.
use Rattle.std.specs.Prelude.{List, ℕ, zero, suc, ◌+◌, ◌*◌, ◌≤◌, get_or, set}
use Rattle.rules.specs.declared.Row.{Row}

-- the k-th row of a table
abbrev pub row_at : List ℕ → ℕ → Row
row_at t k = record { start = get_or t (3 * k) 0; klen = get_or t (3 * k + 1) 0; kind = get_or t (3 * k + 2) 0 }

-- the first k rows are those of the table; later rows stay
unfoldable pub filled : List Row → List ℕ → ℕ → List Row
filled rows t zero = rows
filled rows t (suc k) = set (filled rows t k) k (row_at t k)

-- so many rows there are, and in a table of so many numbers
pub record Fits (n rows numbers : ℕ) : Type 0 where
  pub few : n ≤ rows
  pub there : 3 * n ≤ numbers
