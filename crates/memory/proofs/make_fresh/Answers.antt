-- `memory::make_fresh` meets its contract.
use Rattle.std.proofs.Common.{not}
use mathlib.Core.Path.{sym, ◌∙◌, ap}
use Rattle.laws.specs.SoundnessLaws.{lengths_are}
use Rattle.memory.specs.Fresh.{fresh_refused, fresh_done}
use native.Mathlib.Omega.{arith}
use Rattle.memory.proofs.make_fresh.Goals as goal

pub returns-then-not-right_lengths : goal.returns-then-not-right_lengths
returns-then-not-right_lengths c = fresh_refused _ _ _ _ c.right_lengths.ensures (ap not c.if-not-right_lengths.true) c.plain.ensures

pub fill-requires : goal.fill-requires
fill-requires c = omega (arith, lengths_are _ _ (sym c.right_lengths.ensures ∙ c.if-not-right_lengths.false))

pub bounds-dir-0 : goal.bounds-dir-0
bounds-dir-0 c = omega (arith, lengths_are _ _ (sym c.right_lengths.ensures ∙ c.if-not-right_lengths.false))

pub returns : goal.returns
returns c = fresh_done _ _ _ _ c.right_lengths.ensures (ap not c.if-not-right_lengths.false) c.plain-2.ensures c.fill.ensures c.fill-2.ensures

pub overflow_sub-n : goal.overflow_sub-n
overflow_sub-n c = omega (arith, lengths_are _ _ (sym c.right_lengths.ensures ∙ c.if-not-right_lengths.false))
