-- `upkeep::drop_dead` meets its contract. The invariant: the records before `kept` are of the entries kept, and the others are as they were.
use mathlib.Core.Path.{sym, ◌∙◌}
use native.Mathlib.Omega.{arith}
use Rattle.upkeep.specs.Dropping.{moved_none, moved_dead, moved_live, moved_all}
use Rattle.upkeep.proofs.drop_dead.Goals as goal
use Rattle.upkeep.proofs.drop_dead.Goals.{then-not-is_dead, else-not-is_dead}

pub count-n-requires : goal.count-n-requires
count-n-requires c = c.requires.dir

pub loop-i-init : goal.loop-i-init
loop-i-init c = (c.count-n.ensures, moved_none c.requires.dir c.requires.first_in_bounds)

pub record_at-e-requires : goal.record_at-e-requires
record_at-e-requires c = record { dir = c.loop-i.invariant.1.dir; i_in_bounds = omega arith }

pub replace_at-requires : goal.replace_at-requires
replace_at-requires c = record { dir = c.loop-i.invariant.1.dir; i_in_bounds = omega arith }

pub loop-i-preserved : goal.loop-i-preserved
loop-i-preserved c = (
  c.loop-i.invariant.0,
  elim c.if-not-is_dead.branch [
    | then-not-is_dead w ↦ rw (w.dir-is, w.kept-is) (moved_live c.loop-i.invariant.1 (omega arith) _ c.record_at-e.ensures (sym c.is_dead.ensures ∙ w.if-not-is_dead.true) w.replace_at.ensures)
    | else-not-is_dead w ↦ rw (w.dir-is, w.kept-is) (moved_dead c.loop-i.invariant.1 (omega arith) _ c.record_at-e.ensures (sym c.is_dead.ensures ∙ w.if-not-is_dead.false))
  ],
)

pub truncate-requires : goal.truncate-requires
truncate-requires c = record { dir = c.loop-i.invariant.1.dir; k_in_bounds = omega arith }

pub returns : goal.returns
returns c = moved_all c.loop-i.invariant.1 (omega arith) c.truncate.ensures
