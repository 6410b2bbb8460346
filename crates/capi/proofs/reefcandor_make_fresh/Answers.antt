-- `capi::reefcandor_make_fresh` meets its contract.
use Rattle.capi.specs.Exports.{handed}
use Rattle.capi.proofs.reefcandor_make_fresh.Goals as goal

pub returns : goal.returns
returns c = handed c.make_fresh.ensures c.answer_words.ensures
