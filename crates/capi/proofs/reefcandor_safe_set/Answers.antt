-- `capi::reefcandor_safe_set` meets its contract.
use Rattle.capi.specs.Exports.{handed_store}
use Rattle.capi.proofs.reefcandor_safe_set.Goals as goal

pub returns : goal.returns
returns c = handed_store _ _ _ _ _ _ _ _ _ _ c.ranges.number c.safe_set.ensures.result c.answer_words.ensures
