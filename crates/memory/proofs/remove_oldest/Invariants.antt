-- `memory::remove_oldest` meets its contract. The loop's invariant: the entries from `last` on are wiped.
use Rattle.std.proofs.Common.{◌≤◌}
use Rattle.memory.specs.Oldest.{Wiping}
use Rattle.memory.proofs.remove_oldest.Given as goal

abbrev pub invariant-loop-last : goal.invariant-loop-last
invariant-loop-last l = (l.kept ≤ l.last) × Wiping l.dir l.initial.pool l.last l.pool
