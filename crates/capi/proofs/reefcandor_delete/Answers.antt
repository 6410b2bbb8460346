-- `capi::reefcandor_delete` meets its contract.
use Rattle.capi.specs.Exports.{handed}
use Rattle.capi.proofs.reefcandor_delete.Goals as goal

pub returns : goal.returns
returns c = handed c.delete.ensures c.answer_words.ensures
