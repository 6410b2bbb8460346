-- `capi::reefcandor_add` meets its contract.
use Rattle.capi.specs.Exports.{handed_store}
use Rattle.capi.proofs.reefcandor_add.Goals as goal

pub returns : goal.returns
returns c = handed_store _ _ _ _ _ _ _ _ _ _ c.ranges.number c.add.ensures.result c.answer_words.ensures
