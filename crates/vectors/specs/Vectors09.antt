-- Calls that the second program (second/) made, computed once more by the definitions: the whole answer, all words and all bytes.
-- Written by `cargo run --release --offline --bin vectors` in sessions/, not by hand.
use Rattle.std.specs.Prelude.{◌≡◌, refl, true, false, [], ◌∷◌, ◌++◌, replicate, pos, negsuc, None}
use Rattle.rules.specs.declared.Outcome.TheVariants.{Done, Number, Boolean, Text, Count, Sum, KindUnknown, NilRefused, ExpiryTooLate, Exists, NotNumber, SumTooLarge, NoMemory}
use Rattle.rules.specs.Answer.{plain, marked, fields_of, answer_words}

-- the words of an answer
pub w017 : answer_words (plain (Text 0 2 1) 0) ≡ (replicate 5 0 ++ 4 ∷ 0 ∷ 0 ∷ 2 ∷ 1 ∷ [])
unfolding fields_of answer_words
w017 = refl

-- the words of an answer
pub w018 : answer_words (plain (Boolean 4294967295 true 1) 0) ≡ (replicate 5 0 ++ 1 ∷ 4294967295 ∷ 1 ∷ 1 ∷ 1 ∷ [])
unfolding fields_of answer_words
w018 = refl

-- the words of an answer
pub w019 : answer_words (plain (Number 0 (negsuc 34289) 1) 0) ≡ (replicate 5 0 ++ 3 ∷ 0 ∷ 18446744073709517326 ∷ 1 ∷ 8 ∷ [])
unfolding fields_of answer_words
w019 = refl

-- the words of an answer
pub w020 : answer_words (plain (Number 5 (negsuc 66821) 34) 0) ≡ (replicate 5 0 ++ 3 ∷ 5 ∷ 18446744073709484794 ∷ 34 ∷ 8 ∷ [])
unfolding fields_of answer_words
w020 = refl

-- the words of an answer
pub w021 : answer_words (marked (Boolean 4294967295 true 2) true) ≡ (0 ∷ 0 ∷ 0 ∷ 0 ∷ 1 ∷ 1 ∷ 4294967295 ∷ 1 ∷ 2 ∷ 1 ∷ [])
unfolding fields_of answer_words
w021 = refl

-- the words of an answer
pub w022 : answer_words (marked (Text 4294967295 33 30) true) ≡ (0 ∷ 0 ∷ 0 ∷ 0 ∷ 1 ∷ 4 ∷ 4294967295 ∷ 0 ∷ 33 ∷ 30 ∷ [])
unfolding fields_of answer_words
w022 = refl

-- the words of an answer
pub w023 : answer_words (marked (Number 5 (pos 9223372036854775806) 33) true) ≡ (0 ∷ 0 ∷ 0 ∷ 0 ∷ 1 ∷ 3 ∷ 5 ∷ 9223372036854775806 ∷ 33 ∷ 8 ∷ [])
unfolding fields_of answer_words
w023 = refl

-- the words of an answer
pub w024 : answer_words (plain (Count 59) 0) ≡ (replicate 7 0 ++ 59 ∷ 0 ∷ 0 ∷ [])
unfolding fields_of answer_words
w024 = refl

-- the words of an answer
pub w025 : answer_words (plain (Count 0) 0) ≡ (replicate 10 0)
unfolding fields_of answer_words
w025 = refl

-- the words of an answer
pub w026 : answer_words (plain (Count 19) 0) ≡ (replicate 7 0 ++ 19 ∷ 0 ∷ 0 ∷ [])
unfolding fields_of answer_words
w026 = refl

-- the words of an answer
pub w027 : answer_words (plain (Count 1) 0) ≡ (replicate 7 0 ++ 1 ∷ 0 ∷ 0 ∷ [])
unfolding fields_of answer_words
w027 = refl

-- the words of an answer
pub w028 : answer_words (plain (Count 2) 0) ≡ (replicate 7 0 ++ 2 ∷ 0 ∷ 0 ∷ [])
unfolding fields_of answer_words
w028 = refl

-- the words of an answer
pub w029 : answer_words (plain Done 1) ≡ (0 ∷ 0 ∷ 1 ∷ replicate 7 0)
unfolding fields_of answer_words
w029 = refl

-- the words of an answer
pub w030 : answer_words (plain ExpiryTooLate 0) ≡ (7 ∷ replicate 9 0)
unfolding fields_of answer_words
w030 = refl

-- the words of an answer
pub w031 : answer_words (plain KindUnknown 0) ≡ (5 ∷ replicate 9 0)
unfolding fields_of answer_words
w031 = refl

-- the words of an answer
pub w032 : answer_words (record { rounds = 1; removed = 1; forced = true; stale = false; outcome = Done }) ≡ (0 ∷ 1 ∷ 1 ∷ 1 ∷ replicate 6 0)
unfolding fields_of answer_words
w032 = refl

-- the words of an answer
pub w033 : answer_words (record { rounds = 2; removed = 2; forced = true; stale = false; outcome = Done }) ≡ (0 ∷ 2 ∷ 2 ∷ 1 ∷ replicate 6 0)
unfolding fields_of answer_words
w033 = refl

-- the words of an answer
pub w034 : answer_words (plain NoMemory 1) ≡ (12 ∷ 0 ∷ 1 ∷ replicate 7 0)
unfolding fields_of answer_words
w034 = refl

-- the words of an answer
pub w035 : answer_words (plain NoMemory 0) ≡ (12 ∷ replicate 9 0)
unfolding fields_of answer_words
w035 = refl

-- the words of an answer
pub w036 : answer_words (record { rounds = 1; removed = 2; forced = true; stale = false; outcome = Done }) ≡ (0 ∷ 1 ∷ 2 ∷ 1 ∷ replicate 6 0)
unfolding fields_of answer_words
w036 = refl

-- the words of an answer
pub w037 : answer_words (plain Done 2) ≡ (0 ∷ 0 ∷ 2 ∷ replicate 7 0)
unfolding fields_of answer_words
w037 = refl

-- the words of an answer
pub w038 : answer_words (record { rounds = 1; removed = 3; forced = true; stale = false; outcome = Done }) ≡ (0 ∷ 1 ∷ 3 ∷ 1 ∷ replicate 6 0)
unfolding fields_of answer_words
w038 = refl

-- the words of an answer
pub w039 : answer_words (plain NoMemory 2) ≡ (12 ∷ 0 ∷ 2 ∷ replicate 7 0)
unfolding fields_of answer_words
w039 = refl

-- the words of an answer
pub w040 : answer_words (record { rounds = 2; removed = 3; forced = true; stale = false; outcome = Done }) ≡ (0 ∷ 2 ∷ 3 ∷ 1 ∷ replicate 6 0)
unfolding fields_of answer_words
w040 = refl

-- the words of an answer
pub w041 : answer_words (record { rounds = 1; removed = 4; forced = true; stale = false; outcome = Done }) ≡ (0 ∷ 1 ∷ 4 ∷ 1 ∷ replicate 6 0)
unfolding fields_of answer_words
w041 = refl

-- the words of an answer
pub w042 : answer_words (record { rounds = 4; removed = 4; forced = true; stale = false; outcome = Done }) ≡ (0 ∷ 4 ∷ 4 ∷ 1 ∷ replicate 6 0)
unfolding fields_of answer_words
w042 = refl

-- the words of an answer
pub w043 : answer_words (record { rounds = 30; removed = 30; forced = true; stale = false; outcome = Done }) ≡ (0 ∷ 30 ∷ 30 ∷ 1 ∷ replicate 6 0)
unfolding fields_of answer_words
w043 = refl

-- the words of an answer
pub w044 : answer_words (plain NilRefused 0) ≡ (6 ∷ replicate 9 0)
unfolding fields_of answer_words
w044 = refl

-- the words of an answer
pub w045 : answer_words (plain Exists 0) ≡ (9 ∷ replicate 9 0)
unfolding fields_of answer_words
w045 = refl

-- the words of an answer
pub w046 : answer_words (plain Exists 2) ≡ (9 ∷ 0 ∷ 2 ∷ replicate 7 0)
unfolding fields_of answer_words
w046 = refl

-- the words of an answer
pub w047 : answer_words (plain Exists 1) ≡ (9 ∷ 0 ∷ 1 ∷ replicate 7 0)
unfolding fields_of answer_words
w047 = refl

-- the words of an answer
pub w048 : answer_words (record { rounds = 3; removed = 3; forced = true; stale = false; outcome = Done }) ≡ (0 ∷ 3 ∷ 3 ∷ 1 ∷ replicate 6 0)
unfolding fields_of answer_words
w048 = refl

-- the words of an answer
pub w049 : answer_words (record { rounds = 3; removed = 4; forced = true; stale = false; outcome = Done }) ≡ (0 ∷ 3 ∷ 4 ∷ 1 ∷ replicate 6 0)
unfolding fields_of answer_words
w049 = refl

-- the words of an answer
pub w050 : answer_words (plain (Sum (negsuc 40795)) 1) ≡ (0 ∷ 0 ∷ 1 ∷ 0 ∷ 0 ∷ 3 ∷ 0 ∷ 18446744073709510820 ∷ 0 ∷ 0 ∷ [])
unfolding fields_of answer_words
w050 = refl

-- the words of an answer
pub w051 : answer_words (record { rounds = 1; removed = 1; forced = true; stale = false; outcome = (Sum (pos 149735)) }) ≡ (0 ∷ 1 ∷ 1 ∷ 1 ∷ 0 ∷ 3 ∷ 0 ∷ 149735 ∷ 0 ∷ 0 ∷ [])
unfolding fields_of answer_words
w051 = refl

-- the words of an answer
pub w052 : answer_words (record { rounds = 1; removed = 1; forced = true; stale = false; outcome = (Sum (negsuc 9223372036854775806)) }) ≡ (0 ∷ 1 ∷ 1 ∷ 1 ∷ 0 ∷ 3 ∷ 0 ∷ 9223372036854775809 ∷ 0 ∷ 0 ∷ [])
unfolding fields_of answer_words
w052 = refl

-- the words of an answer
pub w053 : answer_words (plain (Sum (negsuc 8629003742451920218)) 0) ≡ (replicate 5 0 ++ 3 ∷ 0 ∷ 9817740331257631397 ∷ 0 ∷ 0 ∷ [])
unfolding fields_of answer_words
w053 = refl

-- the words of an answer
pub w054 : answer_words (plain NotNumber 0) ≡ (10 ∷ replicate 9 0)
unfolding fields_of answer_words
w054 = refl

-- the words of an answer
pub w055 : answer_words (record { rounds = 1; removed = 1; forced = true; stale = false; outcome = (Sum (negsuc 3038654821754754805)) }) ≡ (0 ∷ 1 ∷ 1 ∷ 1 ∷ 0 ∷ 3 ∷ 0 ∷ 15408089251954796810 ∷ 0 ∷ 0 ∷ [])
unfolding fields_of answer_words
w055 = refl

-- the words of an answer
pub w056 : answer_words (plain (Sum (pos 74197)) 0) ≡ (replicate 5 0 ++ 3 ∷ 0 ∷ 74197 ∷ 0 ∷ 0 ∷ [])
unfolding fields_of answer_words
w056 = refl

-- the words of an answer
pub w057 : answer_words (plain (Sum (negsuc 79756)) 0) ≡ (replicate 5 0 ++ 3 ∷ 0 ∷ 18446744073709471859 ∷ 0 ∷ 0 ∷ [])
unfolding fields_of answer_words
w057 = refl

-- the words of an answer
pub w058 : answer_words (record { rounds = 1; removed = 2; forced = true; stale = false; outcome = (Sum (pos 431897439509240055)) }) ≡ (0 ∷ 1 ∷ 2 ∷ 1 ∷ 0 ∷ 3 ∷ 0 ∷ 431897439509240055 ∷ 0 ∷ 0 ∷ [])
unfolding fields_of answer_words
w058 = refl

-- the words of an answer
pub w059 : answer_words (plain (Sum (pos 29879)) 0) ≡ (replicate 5 0 ++ 3 ∷ 0 ∷ 29879 ∷ 0 ∷ 0 ∷ [])
unfolding fields_of answer_words
w059 = refl

-- the words of an answer
pub w060 : answer_words (plain (Sum (negsuc 40594)) 1) ≡ (0 ∷ 0 ∷ 1 ∷ 0 ∷ 0 ∷ 3 ∷ 0 ∷ 18446744073709511021 ∷ 0 ∷ 0 ∷ [])
unfolding fields_of answer_words
w060 = refl

-- the words of an answer
pub w061 : answer_words (plain SumTooLarge 1) ≡ (11 ∷ 0 ∷ 1 ∷ replicate 7 0)
unfolding fields_of answer_words
w061 = refl

-- the words of an answer
pub w062 : answer_words (plain (Sum (pos 50489)) 2) ≡ (0 ∷ 0 ∷ 2 ∷ 0 ∷ 0 ∷ 3 ∷ 0 ∷ 50489 ∷ 0 ∷ 0 ∷ [])
unfolding fields_of answer_words
w062 = refl

-- the words of an answer
pub w063 : answer_words (plain SumTooLarge 0) ≡ (11 ∷ replicate 9 0)
unfolding fields_of answer_words
w063 = refl

-- the words of an answer
pub w064 : answer_words (record { rounds = 1; removed = 3; forced = true; stale = false; outcome = (Sum (pos 28234)) }) ≡ (0 ∷ 1 ∷ 3 ∷ 1 ∷ 0 ∷ 3 ∷ 0 ∷ 28234 ∷ 0 ∷ 0 ∷ [])
unfolding fields_of answer_words
w064 = refl

-- the words of an answer
pub w065 : answer_words (plain (Sum (pos 365775805484163562)) 0) ≡ (replicate 5 0 ++ 3 ∷ 0 ∷ 365775805484163562 ∷ 0 ∷ 0 ∷ [])
unfolding fields_of answer_words
w065 = refl

-- the words of an answer
pub w066 : answer_words (plain (Sum (pos 8028069806156135964)) 1) ≡ (0 ∷ 0 ∷ 1 ∷ 0 ∷ 0 ∷ 3 ∷ 0 ∷ 8028069806156135964 ∷ 0 ∷ 0 ∷ [])
unfolding fields_of answer_words
w066 = refl

-- the words of an answer
pub w067 : answer_words (plain NotNumber 1) ≡ (10 ∷ 0 ∷ 1 ∷ replicate 7 0)
unfolding fields_of answer_words
w067 = refl

-- the words of an answer
pub w068 : answer_words (record { rounds = 2; removed = 2; forced = true; stale = false; outcome = (Sum (pos 125353)) }) ≡ (0 ∷ 2 ∷ 2 ∷ 1 ∷ 0 ∷ 3 ∷ 0 ∷ 125353 ∷ 0 ∷ 0 ∷ [])
unfolding fields_of answer_words
w068 = refl

-- the words of an answer
pub w069 : answer_words (plain SumTooLarge 2) ≡ (11 ∷ 0 ∷ 2 ∷ replicate 7 0)
unfolding fields_of answer_words
w069 = refl

-- the words of an answer
pub w070 : answer_words (plain (Sum (pos 143790)) 0) ≡ (replicate 5 0 ++ 3 ∷ 0 ∷ 143790 ∷ 0 ∷ 0 ∷ [])
unfolding fields_of answer_words
w070 = refl

-- the words of an answer
pub w071 : answer_words (plain NotNumber 2) ≡ (10 ∷ 0 ∷ 2 ∷ replicate 7 0)
unfolding fields_of answer_words
w071 = refl

-- the words of an answer
pub w072 : answer_words (record { rounds = 2; removed = 3; forced = true; stale = false; outcome = (Sum (pos 152861)) }) ≡ (0 ∷ 2 ∷ 3 ∷ 1 ∷ 0 ∷ 3 ∷ 0 ∷ 152861 ∷ 0 ∷ 0 ∷ [])
unfolding fields_of answer_words
w072 = refl

-- the words of an answer
pub w073 : answer_words (plain (Sum (pos 14220)) 0) ≡ (replicate 5 0 ++ 3 ∷ 0 ∷ 14220 ∷ 0 ∷ 0 ∷ [])
unfolding fields_of answer_words
w073 = refl

-- the words of an answer
pub w074 : answer_words (record { rounds = 30; removed = 30; forced = true; stale = false; outcome = (Sum (pos 7)) }) ≡ (0 ∷ 30 ∷ 30 ∷ 1 ∷ 0 ∷ 3 ∷ 0 ∷ 7 ∷ 0 ∷ 0 ∷ [])
unfolding fields_of answer_words
w074 = refl

-- the words of an answer
pub w075 : answer_words (plain Done 3) ≡ (0 ∷ 0 ∷ 3 ∷ replicate 7 0)
unfolding fields_of answer_words
w075 = refl

-- the words of an answer
pub w076 : answer_words (plain Done 4) ≡ (0 ∷ 0 ∷ 4 ∷ replicate 7 0)
unfolding fields_of answer_words
w076 = refl
