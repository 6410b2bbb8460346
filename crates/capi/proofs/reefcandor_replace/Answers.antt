-- `capi::reefcandor_replace` meets its contract.
use Rattle.capi.specs.Exports.{handed_store}
use Rattle.capi.proofs.reefcandor_replace.Goals as goal

pub returns : goal.returns
returns c = handed_store _ _ _ _ _ _ _ _ _ _ c.ranges.number c.replace.ensures.result c.answer_words.ensures
