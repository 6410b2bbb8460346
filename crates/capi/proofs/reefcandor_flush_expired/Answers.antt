-- `capi::reefcandor_flush_expired` meets its contract.
use Rattle.capi.specs.Exports.{handed}
use Rattle.capi.proofs.reefcandor_flush_expired.Goals as goal

pub returns : goal.returns
returns c = handed c.flush_expired.ensures c.answer_words.ensures
