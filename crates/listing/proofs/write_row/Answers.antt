-- `listing::write_row` meets its contract.
use Rattle.listing.specs.Rows.{put_row}
use native.Mathlib.Omega.{arith}
use lib.ListN.{length-set}
use Rattle.listing.proofs.write_row.Goals as goal

pub bounds-table-p-2 : goal.bounds-table-p-2
bounds-table-p-2 c = simp length-set (omega arith)

pub bounds-table-p-3 : goal.bounds-table-p-3
bounds-table-p-3 c = simp length-set (omega arith)

pub returns : goal.returns
returns c = put_row _ _ _ (omega arith)
