-- `replay::run` meets its contract. The loop's invariant: how far the lines are done, and that the same buffers are lent.
use Rattle.std.proofs.Common.{◌≡◌, ◌+◌, ◌-◌, length}
use Rattle.replay_calls.specs.Lent.{left, Same}
use Rattle.replay.specs.Progress.{Doing}
use Rattle.replay.proofs.run.Given as goal

abbrev pub invariant-loop-out : goal.invariant-loop-out
invariant-loop-out l = record {
  doing : Doing (left l.initial.memory) l.lines l.input l.initial.out (left l.memory) l.done.lines l.done.consumed l.done.written l.out;
  same : Same l.initial.memory l.memory;
  room : l.most ≡ 160 + length l.initial.memory.pool.now;
}

abbrev pub decreases-loop-out : goal.decreases-loop-out
decreases-loop-out l = length l.input - l.done.consumed
