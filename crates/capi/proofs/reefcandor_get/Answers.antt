-- `capi::reefcandor_get` meets its contract.
use Rattle.capi.specs.Exports.{handed}
use Rattle.capi.proofs.reefcandor_get.Goals as goal

pub returns : goal.returns
returns c = handed c.get.ensures c.answer_words.ensures
