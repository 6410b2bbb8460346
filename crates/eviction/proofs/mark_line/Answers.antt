-- `eviction::mark_line` meets its contract. What the first i entries still write over the marks makes them those of the whole line.
use Rattle.std.proofs.Common.{arith, refl, ◌-◌}
use Rattle.eviction.specs.Marking.{marking_none, marking_cells, marking_more, marking_done}
use Rattle.eviction.proofs.mark_line.Goals as goal

pub loop-i-init : goal.loop-i-init
loop-i-init c = marking_none _ c.count-i.ensures c.requires

pub overflow_add-e : goal.overflow_add-e
overflow_add-e c = omega (arith, marking_cells c.loop-i.invariant {i = c.loop-i.i - 1} (omega arith) c.record_at-e.result c.record_at-e.ensures c.requires refl)

pub mark_entry-requires : goal.mark_entry-requires
mark_entry-requires c = marking_cells c.loop-i.invariant (omega arith) c.record_at-e.result c.record_at-e.ensures c.requires refl

pub loop-i-preserved : goal.loop-i-preserved
loop-i-preserved c = marking_more c.loop-i.invariant (omega arith) c.record_at-e.result c.next_turn-turn.result c.record_at-e.ensures c.is_dead.ensures c.next_turn-turn.ensures c.mark_entry.ensures

pub returns : goal.returns
returns c = marking_done c.loop-i.invariant (omega arith)
