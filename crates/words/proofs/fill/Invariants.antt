-- `words::fill` meets its contract. The loop's invariant: the first j elements are written.
use Rattle.std.specs.Prelude.{◌≡◌, replicate}
use Rattle.std.proofs.Math.Seq.{paste}
use Rattle.words.proofs.fill.Given as goal

abbrev pub invariant-loop-j : goal.invariant-loop-j
invariant-loop-j g l = l.d ≡ paste l.initial.d l.at (replicate l.j l.value) l.j
