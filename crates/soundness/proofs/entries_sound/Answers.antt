-- `soundness::entries_sound` meets its contract. The loop's invariant: the map has the cells of the entries from i on.
use Rattle.std.proofs.Common.{arith}
use Rattle.soundness.specs.Walk.{walk_start, walk_go, walk_stop, walk_end}
use Rattle.soundness.proofs.entries_sound.Goals as goal

pub loop-i-init : goal.loop-i-init
loop-i-init c = walk_start c.requires.map_len.0 c.requires.by_index

pub returns-then-not-take_entry : goal.returns-then-not-take_entry
returns-then-not-take_entry c = walk_stop _ c.loop-i.invariant (omega arith) c.take_entry.ensures c.if-not-take_entry.true

pub loop-i-preserved : goal.loop-i-preserved
loop-i-preserved c = walk_go _ c.loop-i.invariant (omega arith) c.take_entry.ensures c.if-not-take_entry.false

pub returns : goal.returns
returns c = walk_end (omega arith) c.loop-i.invariant
