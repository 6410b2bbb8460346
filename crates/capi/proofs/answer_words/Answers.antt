-- `capi::answer_words` meets its contract.
use Rattle.std.proofs.Common.{◌∙◌}
use Rattle.telling.specs.Told.{bit_is}
use Rattle.capi.specs.Words.{words_told}
use Rattle.capi.proofs.answer_words.Goals as goal

pub returns : goal.returns
returns c = words_told _ _ _ _ c.tell-t.ensures.value (c.from.ensures ∙ bit_is _) (c.from-2.ensures ∙ bit_is _)
