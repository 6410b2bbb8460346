-- `listing::write_rows` meets its contract. The invariant: the rows of the live entries among those passed are written.
use Rattle.listing.specs.Rows.{rows_none, rows_dead, rows_live, rows_full, rows_all}
use mathlib.Core.Path.{sym, ◌∙◌}
use native.Mathlib.Omega.{arith}
use Rattle.listing.proofs.write_rows.Goals as goal
use Rattle.listing.proofs.write_rows.Goals.{then-not-is_dead, else-not-is_dead}

pub count-i-end-requires : goal.count-i-end-requires
count-i-end-requires c = c.requires.dir

pub loop-i-init : goal.loop-i-init
loop-i-init c = (omega arith, c.requires.most_in_bounds, rows_none)

pub returns-then-k-most : goal.returns-then-k-most
returns-then-k-most c = rows_full c.loop-i.invariant.2 c.if-k-most.true

pub record_at-e-requires : goal.record_at-e-requires
record_at-e-requires c = record { dir = c.requires.dir; i_in_bounds = omega arith }

pub loop-i-preserved : goal.loop-i-preserved
loop-i-preserved c = elim c.if-not-is_dead.branch [
  | then-not-is_dead w ↦ rw (w.table-is, w.k-is) (omega arith, c.loop-i.invariant.1, rows_live c.loop-i.invariant.2 (omega arith) _ c.record_at-e.ensures (sym c.is_dead.ensures ∙ w.if-not-is_dead.true) (omega arith) w.write_row.ensures)
  | else-not-is_dead w ↦ rw (w.table-is, w.k-is) (c.loop-i.invariant.0, c.loop-i.invariant.1, rows_dead c.loop-i.invariant.2 (omega arith) _ c.record_at-e.ensures (sym c.is_dead.ensures ∙ w.if-not-is_dead.false))
]

pub returns : goal.returns
returns c = rows_all c.loop-i.invariant.2 (omega arith) (omega arith)
