-- `capi::initial_of` meets its contract.
use Rattle.capi.specs.Exports.{initial_given, initial_absent}
use Rattle.capi.proofs.initial_of.Goals as goal

pub returns-then-has_initial : goal.returns-then-has_initial
returns-then-has_initial c = initial_given _ _ _ c.ranges.number c.if-has_initial.true

pub returns : goal.returns
returns c = initial_absent _ _ _ c.if-has_initial.false
