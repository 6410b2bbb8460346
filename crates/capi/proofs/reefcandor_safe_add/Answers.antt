-- `capi::reefcandor_safe_add` meets its contract.
use Rattle.capi.specs.Exports.{handed_store}
use Rattle.capi.proofs.reefcandor_safe_add.Goals as goal

pub returns : goal.returns
returns c = handed_store _ _ _ _ _ _ _ _ _ _ c.ranges.number c.safe_add.ensures.result c.answer_words.ensures
