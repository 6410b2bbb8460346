-- `listing::write_rows` meets its contract. The invariant: the rows of the live entries among those passed are written.
use Rattle.rules.specs.Layout.{entries_of}
use Rattle.listing.specs.Rows.{Rows}
use Prim.Native.Nat.{◌*◌, ◌≤◌}
use lib.ListN.{length}
use Rattle.listing.proofs.write_rows.Given as goal

abbrev pub invariant-loop-i : goal.invariant-loop-i
invariant-loop-i l = (l.k ≤ l.most) × (3 * l.most ≤ length l.initial.table) × Rows l.clock (entries_of l.dir) l.initial.table l.i l.k l.table
