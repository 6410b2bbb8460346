-- `memory::look_up` meets its contract. The invariant: the entries passed are not under the key.
use Rattle.laws.specs.LookUpLaws.{Seeks}
use Rattle.memory.proofs.look_up.Given as goal

abbrev pub invariant-loop-i : goal.invariant-loop-i
invariant-loop-i l = Seeks l.clock l.dir l.pool l.key l.i
