-- `words::equal` meets its contract. The loop's invariant: no byte from n on differs.
use Rattle.words.specs.SameLaws.{Agree}
use Rattle.words.proofs.equal.Given as goal

abbrev pub invariant-loop-n : goal.invariant-loop-n
invariant-loop-n l = Agree l.a l.b l.n

abbrev pub decreases-loop-n : goal.decreases-loop-n
decreases-loop-n l = l.n

abbrev pub invariant-loop-k : goal.invariant-loop-k
invariant-loop-k l = Agree l.a l.b l.k
