-- `capi::reefcandor_expire` meets its contract.
use Rattle.capi.specs.Exports.{handed}
use Rattle.capi.proofs.reefcandor_expire.Goals as goal

pub returns : goal.returns
returns c = handed c.expire.ensures c.answer_words.ensures
