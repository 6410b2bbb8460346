-- `capi::reefcandor_ttl` meets its contract.
use Rattle.rules.specs.Answer.{answer_words}
use mathlib.Core.Path.{ap, ◌∙◌}
use Rattle.capi.proofs.reefcandor_ttl.Goals as goal

pub returns : goal.returns
returns c = c.answer_words.ensures ∙ ap answer_words c.ttl.ensures
