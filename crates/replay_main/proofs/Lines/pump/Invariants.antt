-- What is left is the last part of the input, and no more lines are done than bytes.
use Rattle.std.proofs.Common.{◌+◌, ◌≤◌, length}
use Rattle.replay_calls.specs.Lent.{left}
use Rattle.replay_main.specs.Rest.{IsRest}
use Rattle.replay_main.specs.Wrote.{Wrote}
use Rattle.replay_main.proofs.Lines.pump.Given as goal

abbrev pub invariant-loop-self : goal.invariant-loop-self
invariant-loop-self g l = record {
  inside : length l.rest ≤ length l.input;
  last : IsRest l.rest l.input;
  counted : l.self.count + length l.rest ≤ l.fn.self.count + length l.input;
  wrote : Wrote (g.W.Write.contents l.fn.self.output) (g.W.Write.contents l.self.output) l.fn.self.count l.input (left l.fn.self.memory) l.self.count l.rest (left l.self.memory);
}

abbrev pub decreases-loop-self : goal.decreases-loop-self
decreases-loop-self g l = length l.rest
