-- `capi::reefcandor_set` meets its contract.
use Rattle.capi.specs.Exports.{handed_store}
use Rattle.capi.proofs.reefcandor_set.Goals as goal

pub returns : goal.returns
returns c = handed_store _ _ _ _ _ _ _ _ _ _ c.ranges.number c.set.ensures.result c.answer_words.ensures
