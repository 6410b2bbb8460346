-- `capi::reefcandor_incr` meets its contract.
use Rattle.capi.specs.Exports.{handed_incr}
use Rattle.capi.proofs.reefcandor_incr.Goals as goal

pub returns : goal.returns
returns c = handed_incr _ _ _ _ _ _ _ _ c.ranges.step c.ranges.initial c.initial_of-begin.ensures c.incr.ensures.result c.answer_words.ensures
