-- `upkeep::wipe_dead` meets its contract. The invariant: the entries from i on are decided, the first of their dead is `first`, and their dead are wiped.
use mathlib.Core.Path.{sym, ◌∙◌}
use native.Mathlib.Omega.{arith}
use Rattle.rules.specs.Layout.{memory_of}
use Rattle.laws.specs.Buffers.{given_sound, entry_cells}
use Rattle.upkeep.specs.Flushing.{decided_none, decided_inside, decided_dead, decided_live, decided_full, decided_all}
use Rattle.upkeep.proofs.wipe_dead.Goals as goal

pub count-n-requires : goal.count-n-requires
count-n-requires c = (given_sound _ _ c.requires).dir_is

pub loop-i-init : goal.loop-i-init
unfolding memory_of
loop-i-init c = (omega arith, decided_none c.count-n.ensures)

pub returns-then-gone-most : goal.returns-then-gone-most
returns-then-gone-most c = decided_full c.loop-i.invariant.1 c.if-gone-most.true

pub record_at-last-requires : goal.record_at-last-requires
record_at-last-requires c = record { dir = (given_sound _ _ c.requires).dir_is; i_in_bounds = omega arith }

pub wipe-requires : goal.wipe-requires
unfolding memory_of
wipe-requires c = let cells = entry_cells _ _ c.requires _ (omega arith) _ c.record_at-last.ensures in
    (cells.0, decided_inside c.loop-i.invariant.1 (omega arith) (omega arith) _ c.record_at-last.ensures cells.1)

pub loop-i-preserved-then-is_dead : goal.loop-i-preserved-then-is_dead
unfolding memory_of
loop-i-preserved-then-is_dead c = let cells = entry_cells _ _ c.requires _ (omega arith) _ c.record_at-last.ensures in
    (omega arith, decided_dead c.loop-i.invariant.1 (omega arith) (omega arith) _ c.record_at-last.ensures (sym c.is_dead.ensures ∙ c.if-is_dead.true) cells.1 c.wipe.ensures)

pub loop-i-preserved : goal.loop-i-preserved
unfolding memory_of
loop-i-preserved c = (omega arith, decided_live c.loop-i.invariant.1 (omega arith) (omega arith) _ c.record_at-last.ensures (sym c.is_dead.ensures ∙ c.if-is_dead.false))

pub returns : goal.returns
returns c = decided_all c.loop-i.invariant.1 (omega arith)
