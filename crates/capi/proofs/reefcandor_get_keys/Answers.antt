-- `capi::reefcandor_get_keys` meets its contract.
use Rattle.capi.specs.Exports.{handed_listing}
use Rattle.capi.proofs.reefcandor_get_keys.Goals as goal

pub returns : goal.returns
returns c = handed_listing c.get_keys_flat.ensures c.answer_words.ensures
