-- The first k rows are those of the table, and later rows stay.
use Rattle.std.specs.Prelude.{◌≡◌, ◌++◌, drop}
use Rattle.listing.specs.Filling.{filled}
use Rattle.listing.proofs.fill_rows.Given as goal

abbrev pub invariant-loop-k : goal.invariant-loop-k
invariant-loop-k l = l.row-items ++ drop l.n l.fn.rows ≡ filled l.fn.rows l.table l.k
