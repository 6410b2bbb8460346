-- `capi::reefcandor_flush_all` meets its contract.
use Rattle.capi.specs.Exports.{handed}
use Rattle.capi.proofs.reefcandor_flush_all.Goals as goal

pub returns : goal.returns
returns c = handed c.flush_all.ensures c.answer_words.ensures
