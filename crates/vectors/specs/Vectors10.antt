-- Calls that the second program (second/) made, computed once more by the definitions: the whole answer, all words and all bytes.
-- Written by `cargo run --release --offline --bin vectors` in sessions/, not by hand.
use Rattle.std.specs.Prelude.{◌≡◌, refl, true, false, [], ◌∷◌, ◌++◌, replicate, pos, negsuc, None}
use Rattle.rules.specs.declared.Outcome.TheVariants.{Count}
use Rattle.rules.specs.Answer.{plain, fields_of, answer_words}

-- the words of an answer
pub w077 : answer_words (plain (Count 3) 0) ≡ (replicate 7 0 ++ 3 ∷ 0 ∷ 0 ∷ [])
unfolding fields_of answer_words
w077 = refl
