-- Calls that the second program (second/) made, computed once more by the definitions: the whole answer, all words and all bytes.
-- Written by `cargo run --release --offline --bin vectors` in sessions/, not by hand.
use Rattle.std.specs.Prelude.{◌≡◌, refl, true, false, [], ◌∷◌, ◌++◌, replicate, pos, negsuc, None}
use Rattle.rules.specs.declared.Outcome.TheVariants.{Done, Number, Boolean, Text, Count, NotSound, ClockZero, KeyEmpty, KeyTooLong, NotFound}
use Rattle.rules.specs.Layout.{encode, decode, flat, entries_of, without, put, memory_of, wiped, remove}
use Rattle.rules.specs.Time.{dead, with_expiry}
use Rattle.rules.specs.Place.{holds, held, free_run}
use Rattle.rules.specs.Soundness.{every, any, right_lengths, value_fits, entry_sound, none_shared, sound}
use Rattle.rules.specs.Answer.{plain, marked, fields_of, answer_words}
use Rattle.rules.specs.Checks.{◌then◌, refuse, check_sound, check_clock, clock_checks}
use Rattle.rules.specs.Calls.{gave, call, flush_all_work, flush_all_call, flushed, up_to, flush_expired_work, flush_expired_call, row_of, live_of, key_count, key_rows, listing, listed, keys_of, get_keys_call, row_words, flat_listing, listed_flat, flat_keys_of, get_keys_flat_call}

-- flush_all: 1, rounds 0, removed 0
pub v408_flush_all : flush_all_call (1 ∷ 1 ∷ 3237951991137829802 ∷ 13411265587873345944 ∷ 10608488756598103543 ∷ 12692456007441491953 ∷ 1378269432255322331 ∷ 11349577931132080462 ∷ replicate 18 0) (98 ∷ 97 ∷ 212 ∷ 146 ∷ replicate 6 255 ++ replicate 118 7) ≡ gave (plain NotSound 0) (1 ∷ 1 ∷ 3237951991137829802 ∷ 13411265587873345944 ∷ 10608488756598103543 ∷ 12692456007441491953 ∷ 1378269432255322331 ∷ 11349577931132080462 ∷ replicate 18 0) (98 ∷ 97 ∷ 212 ∷ 146 ∷ replicate 6 255 ++ replicate 118 7)
unfolding entries_of decode holds held free_run every any right_lengths value_fits entry_sound none_shared sound refuse check_sound memory_of encode flat call with_expiry flush_all_work flush_all_call
v408_flush_all = refl

-- flush_all: 0, rounds 0, removed 0
pub v409_flush_all : flush_all_call (1 ∷ 2 ∷ 173 ∷ 1 ∷ 4294967295 ∷ 1 ∷ 1 ∷ 1 ∷ 0 ∷ 3 ∷ 5 ∷ 0 ∷ 3 ∷ 8 ∷ replicate 12 0) (97 ∷ 98 ∷ 99 ∷ replicate 8 255 ++ replicate 21 0 ++ 98 ∷ 1 ∷ replicate 94 0) ≡ gave (plain Done 0) (1 ∷ 2 ∷ 1 ∷ 1 ∷ 4294967295 ∷ 1 ∷ 1 ∷ 1 ∷ 1 ∷ 3 ∷ 5 ∷ 0 ∷ 3 ∷ 8 ∷ replicate 12 0) (97 ∷ 98 ∷ 99 ∷ replicate 8 255 ++ replicate 21 0 ++ 98 ∷ 1 ∷ replicate 94 0)
unfolding entries_of decode holds held free_run every any right_lengths value_fits entry_sound none_shared sound refuse check_sound memory_of encode flat call with_expiry flush_all_work flush_all_call
v409_flush_all = refl

-- flush_all: 1, rounds 0, removed 0
pub v410_flush_all : flush_all_call (replicate 14 0) (replicate 64 0) ≡ gave (plain NotSound 0) (replicate 14 0) (replicate 64 0)
unfolding entries_of decode holds held free_run every any right_lengths value_fits entry_sound none_shared sound refuse check_sound memory_of encode flat call with_expiry flush_all_work flush_all_call
v410_flush_all = refl

-- flush_all: 0, rounds 0, removed 0
pub v411_flush_all : flush_all_call (1 ∷ 3 ∷ 137 ∷ 1 ∷ 4294967295 ∷ 2 ∷ 1 ∷ 1 ∷ 131 ∷ 3 ∷ 5 ∷ 1 ∷ 1 ∷ 8 ∷ 0 ∷ 3 ∷ 4294967295 ∷ 0 ∷ 1 ∷ 8 ∷ replicate 6 0) (100 ∷ 8 ∷ 153 ∷ replicate 29 0 ++ 99 ∷ 1 ∷ 214 ∷ 221 ∷ 137 ∷ 205 ∷ 196 ∷ 230 ∷ 156 ∷ replicate 23 0 ++ 97 ∷ 1 ∷ replicate 30 0 ++ replicate 32 7) ≡ gave (plain Done 0) (1 ∷ 3 ∷ 1 ∷ 1 ∷ 4294967295 ∷ 2 ∷ 1 ∷ 1 ∷ 1 ∷ 3 ∷ 5 ∷ 1 ∷ 1 ∷ 8 ∷ 1 ∷ 3 ∷ 4294967295 ∷ 0 ∷ 1 ∷ 8 ∷ replicate 6 0) (100 ∷ 8 ∷ 153 ∷ replicate 29 0 ++ 99 ∷ 1 ∷ 214 ∷ 221 ∷ 137 ∷ 205 ∷ 196 ∷ 230 ∷ 156 ∷ replicate 23 0 ++ 97 ∷ 1 ∷ replicate 30 0 ++ replicate 32 7)
unfolding entries_of decode holds held free_run every any right_lengths value_fits entry_sound none_shared sound refuse check_sound memory_of encode flat call with_expiry flush_all_work flush_all_call
v411_flush_all = refl

-- flush_all: 0, rounds 0, removed 0
pub v412_flush_all : flush_all_call (1 ∷ 1 ∷ 77 ∷ 3 ∷ 4294967295 ∷ 0 ∷ 2 ∷ 8 ∷ []) (97 ∷ 98 ∷ 97 ∷ 247 ∷ replicate 28 0) ≡ gave (plain Done 0) (1 ∷ 1 ∷ 1 ∷ 3 ∷ 4294967295 ∷ 0 ∷ 2 ∷ 8 ∷ []) (97 ∷ 98 ∷ 97 ∷ 247 ∷ replicate 28 0)
unfolding entries_of decode holds held free_run every any right_lengths value_fits entry_sound none_shared sound refuse check_sound memory_of encode flat call with_expiry flush_all_work flush_all_call
v412_flush_all = refl

-- flush_all: 0, rounds 0, removed 0
pub v413_flush_all : flush_all_call (1 ∷ 3 ∷ 0 ∷ 1 ∷ 5 ∷ 2 ∷ 1 ∷ 1 ∷ 0 ∷ 1 ∷ 5 ∷ 1 ∷ 2 ∷ 1 ∷ 0 ∷ 3 ∷ 5 ∷ 0 ∷ 1 ∷ 8 ∷ replicate 6 0) (100 ∷ 118 ∷ 250 ∷ 254 ∷ replicate 5 255 ++ replicate 23 7 ++ 97 ∷ 98 ∷ 1 ∷ replicate 29 7 ++ 99 ∷ 1 ∷ replicate 62 7) ≡ gave (plain Done 0) (1 ∷ 3 ∷ 1 ∷ 1 ∷ 5 ∷ 2 ∷ 1 ∷ 1 ∷ 1 ∷ 1 ∷ 5 ∷ 1 ∷ 2 ∷ 1 ∷ 1 ∷ 3 ∷ 5 ∷ 0 ∷ 1 ∷ 8 ∷ replicate 6 0) (100 ∷ 118 ∷ 250 ∷ 254 ∷ replicate 5 255 ++ replicate 23 7 ++ 97 ∷ 98 ∷ 1 ∷ replicate 29 7 ++ 99 ∷ 1 ∷ replicate 62 7)
unfolding entries_of decode holds held free_run every any right_lengths value_fits entry_sound none_shared sound refuse check_sound memory_of encode flat call with_expiry flush_all_work flush_all_call
v413_flush_all = refl

-- flush_all: 0, rounds 0, removed 0
pub v414_flush_all : flush_all_call (1 ∷ 3 ∷ 75 ∷ 4 ∷ 5 ∷ 2 ∷ 3 ∷ 40 ∷ 1 ∷ 3 ∷ 4294967295 ∷ 1 ∷ 2 ∷ 8 ∷ 0 ∷ 3 ∷ 4294967295 ∷ 0 ∷ 1 ∷ 8 ∷ replicate 6 0) (97 ∷ 56 ∷ 170 ∷ replicate 29 0 ++ 97 ∷ 98 ∷ 82 ∷ 40 ∷ replicate 28 0 ++ 97 ∷ 98 ∷ 99 ∷ replicate 40 120 ++ replicate 21 0) ≡ gave (plain Done 0) (1 ∷ 3 ∷ 1 ∷ 4 ∷ 5 ∷ 2 ∷ 3 ∷ 40 ∷ 1 ∷ 3 ∷ 4294967295 ∷ 1 ∷ 2 ∷ 8 ∷ 1 ∷ 3 ∷ 4294967295 ∷ 0 ∷ 1 ∷ 8 ∷ replicate 6 0) (97 ∷ 56 ∷ 170 ∷ replicate 29 0 ++ 97 ∷ 98 ∷ 82 ∷ 40 ∷ replicate 28 0 ++ 97 ∷ 98 ∷ 99 ∷ replicate 40 120 ++ replicate 21 0)
unfolding entries_of decode holds held free_run every any right_lengths value_fits entry_sound none_shared sound refuse check_sound memory_of encode flat call with_expiry flush_all_work flush_all_call
v414_flush_all = refl

-- flush_expired: 0, rounds 0, removed 0
pub v415_flush_expired : flush_expired_call (1 ∷ 1 ∷ 92 ∷ 1 ∷ 0 ∷ 0 ∷ 2 ∷ 1 ∷ replicate 6 0) (97 ∷ 98 ∷ 1 ∷ replicate 61 7) 74 0 ≡ gave (plain Done 0) (1 ∷ 1 ∷ 92 ∷ 1 ∷ 0 ∷ 0 ∷ 2 ∷ 1 ∷ replicate 6 0) (97 ∷ 98 ∷ 1 ∷ replicate 61 7)
unfolding entries_of decode holds held free_run every any right_lengths value_fits entry_sound none_shared sound refuse check_sound ◌then◌ check_clock clock_checks memory_of encode flat call dead without put wiped remove flushed up_to flush_expired_work flush_expired_call
v415_flush_expired = refl

-- flush_expired: 0, rounds 0, removed 0
pub v416_flush_expired : flush_expired_call (1 ∷ 1 ∷ 0 ∷ 3 ∷ 5 ∷ 0 ∷ 1 ∷ 8 ∷ []) (98 ∷ 134 ∷ 41 ∷ replicate 6 255 ++ replicate 23 0) 74 0 ≡ gave (plain Done 0) (1 ∷ 1 ∷ 0 ∷ 3 ∷ 5 ∷ 0 ∷ 1 ∷ 8 ∷ []) (98 ∷ 134 ∷ 41 ∷ replicate 6 255 ++ replicate 23 0)
unfolding entries_of decode holds held free_run every any right_lengths value_fits entry_sound none_shared sound refuse check_sound ◌then◌ check_clock clock_checks memory_of encode flat call dead without put wiped remove flushed up_to flush_expired_work flush_expired_call
v416_flush_expired = refl

-- flush_expired: 0, rounds 0, removed 0
pub v417_flush_expired : flush_expired_call (1 ∷ 2 ∷ 0 ∷ 4 ∷ 0 ∷ 1 ∷ 1 ∷ 1 ∷ 125 ∷ 1 ∷ 0 ∷ 0 ∷ 1 ∷ 1 ∷ replicate 12 0) (97 ∷ 1 ∷ replicate 30 0 ++ 99 ∷ 120 ∷ replicate 94 0) 89 0 ≡ gave (plain Done 0) (1 ∷ 2 ∷ 0 ∷ 4 ∷ 0 ∷ 1 ∷ 1 ∷ 1 ∷ 125 ∷ 1 ∷ 0 ∷ 0 ∷ 1 ∷ 1 ∷ replicate 12 0) (97 ∷ 1 ∷ replicate 30 0 ++ 99 ∷ 120 ∷ replicate 94 0)
unfolding entries_of decode holds held free_run every any right_lengths value_fits entry_sound none_shared sound refuse check_sound ◌then◌ check_clock clock_checks memory_of encode flat call dead without put wiped remove flushed up_to flush_expired_work flush_expired_call
v417_flush_expired = refl

-- flush_expired: 1, rounds 0, removed 0
pub v418_flush_expired : flush_expired_call (1 ∷ 1 ∷ 11666661953314920724 ∷ 5500009884050499746 ∷ 7897103245426062645 ∷ 10219256726925072988 ∷ 8920677006066684245 ∷ 4599883113805049224 ∷ replicate 6 0) (97 ∷ 98 ∷ 186 ∷ 77 ∷ replicate 6 255 ++ replicate 54 0) 0 0 ≡ gave (plain NotSound 0) (1 ∷ 1 ∷ 11666661953314920724 ∷ 5500009884050499746 ∷ 7897103245426062645 ∷ 10219256726925072988 ∷ 8920677006066684245 ∷ 4599883113805049224 ∷ replicate 6 0) (97 ∷ 98 ∷ 186 ∷ 77 ∷ replicate 6 255 ++ replicate 54 0)
unfolding entries_of decode holds held free_run every any right_lengths value_fits entry_sound none_shared sound refuse check_sound ◌then◌ check_clock clock_checks memory_of encode flat call dead without put wiped remove flushed up_to flush_expired_work flush_expired_call
v418_flush_expired = refl

-- flush_expired: 0, rounds 0, removed 0
pub v419_flush_expired : flush_expired_call (1 ∷ replicate 7 0) (replicate 32 0) 126 0 ≡ gave (plain Done 0) (1 ∷ replicate 7 0) (replicate 32 0)
unfolding entries_of decode holds held free_run every any right_lengths value_fits entry_sound none_shared sound refuse check_sound ◌then◌ check_clock clock_checks memory_of encode flat call dead without put wiped remove flushed up_to flush_expired_work flush_expired_call
v419_flush_expired = refl

-- flush_expired: 2, rounds 0, removed 0
pub v420_flush_expired : flush_expired_call (1 ∷ replicate 25 0) (replicate 128 0) 0 0 ≡ gave (plain ClockZero 0) (1 ∷ replicate 25 0) (replicate 128 0)
unfolding entries_of decode holds held free_run every any right_lengths value_fits entry_sound none_shared sound refuse check_sound ◌then◌ check_clock clock_checks memory_of encode flat call dead without put wiped remove flushed up_to flush_expired_work flush_expired_call
v420_flush_expired = refl

-- flush_expired: 0, rounds 0, removed 1
pub v421_flush_expired : flush_expired_call (1 ∷ 2 ∷ 123 ∷ 4 ∷ 0 ∷ 1 ∷ 2 ∷ 60 ∷ 0 ∷ 3 ∷ 0 ∷ 0 ∷ 2 ∷ 8 ∷ replicate 12 0) (97 ∷ 98 ∷ 114 ∷ 141 ∷ replicate 6 0 ++ replicate 22 7 ++ 98 ∷ 97 ∷ replicate 60 120 ++ replicate 34 7) 167 0 ≡ gave (plain Done 1) (1 ∷ 1 ∷ 0 ∷ 3 ∷ 0 ∷ 0 ∷ 2 ∷ 8 ∷ replicate 18 0) (97 ∷ 98 ∷ 114 ∷ 141 ∷ replicate 6 0 ++ replicate 22 7 ++ replicate 64 0 ++ replicate 32 7)
unfolding entries_of decode holds held free_run every any right_lengths value_fits entry_sound none_shared sound refuse check_sound ◌then◌ check_clock clock_checks memory_of encode flat call dead without put wiped remove flushed up_to flush_expired_work flush_expired_call
v421_flush_expired = refl

-- flush_expired: 1, rounds 0, removed 0
pub v422_flush_expired : flush_expired_call (1 ∷ 1 ∷ 0 ∷ 1 ∷ 1581040006625319109 ∷ 0 ∷ 3 ∷ 1 ∷ replicate 6 0) (97 ∷ 98 ∷ 99 ∷ 1 ∷ replicate 60 0) 176 2 ≡ gave (plain NotSound 0) (1 ∷ 1 ∷ 0 ∷ 1 ∷ 1581040006625319109 ∷ 0 ∷ 3 ∷ 1 ∷ replicate 6 0) (97 ∷ 98 ∷ 99 ∷ 1 ∷ replicate 60 0)
unfolding entries_of decode holds held free_run every any right_lengths value_fits entry_sound none_shared sound refuse check_sound ◌then◌ check_clock clock_checks memory_of encode flat call dead without put wiped remove flushed up_to flush_expired_work flush_expired_call
v422_flush_expired = refl

-- flush_expired: 0, rounds 0, removed 1
pub v423_flush_expired : flush_expired_call (1 ∷ 1 ∷ 86 ∷ 4 ∷ 0 ∷ 0 ∷ 1 ∷ 33 ∷ replicate 6 0) (98 ∷ replicate 33 120 ++ replicate 30 0) 96 9 ≡ gave (plain Done 1) (1 ∷ replicate 13 0) (replicate 64 0)
unfolding entries_of decode holds held free_run every any right_lengths value_fits entry_sound none_shared sound refuse check_sound ◌then◌ check_clock clock_checks memory_of encode flat call dead without put wiped remove flushed up_to flush_expired_work flush_expired_call
v423_flush_expired = refl

-- flush_expired: 0, rounds 0, removed 1
pub v424_flush_expired : flush_expired_call (1 ∷ 1 ∷ 99 ∷ 1 ∷ 4294967295 ∷ 0 ∷ 1 ∷ 1 ∷ replicate 18 0) (100 ∷ 1 ∷ replicate 126 0) 113 2 ≡ gave (plain Done 1) (1 ∷ replicate 25 0) (replicate 128 0)
unfolding entries_of decode holds held free_run every any right_lengths value_fits entry_sound none_shared sound refuse check_sound ◌then◌ check_clock clock_checks memory_of encode flat call dead without put wiped remove flushed up_to flush_expired_work flush_expired_call
v424_flush_expired = refl

-- flush_expired: 0, rounds 0, removed 1
pub v425_flush_expired : flush_expired_call (1 ∷ 3 ∷ 105 ∷ 3 ∷ 5 ∷ 3 ∷ 1 ∷ 8 ∷ 1 ∷ 3 ∷ 4294967295 ∷ 0 ∷ 40 ∷ 8 ∷ 0 ∷ 4 ∷ 4294967295 ∷ 2 ∷ 1 ∷ 30 ∷ replicate 6 0) (replicate 40 107 ++ 254 ∷ replicate 6 255 ++ 127 ∷ replicate 16 0 ++ 99 ∷ replicate 30 120 ++ 0 ∷ 97 ∷ 215 ∷ 102 ∷ replicate 6 255 ++ replicate 23 0) 75 2 ≡ gave (plain Done 1) (1 ∷ 2 ∷ 105 ∷ 3 ∷ 5 ∷ 3 ∷ 1 ∷ 8 ∷ 0 ∷ 4 ∷ 4294967295 ∷ 2 ∷ 1 ∷ 30 ∷ replicate 12 0) (replicate 64 0 ++ 99 ∷ replicate 30 120 ++ 0 ∷ 97 ∷ 215 ∷ 102 ∷ replicate 6 255 ++ replicate 23 0)
unfolding entries_of decode holds held free_run every any right_lengths value_fits entry_sound none_shared sound refuse check_sound ◌then◌ check_clock clock_checks memory_of encode flat call dead without put wiped remove flushed up_to flush_expired_work flush_expired_call
v425_flush_expired = refl

-- flush_expired: 0, rounds 0, removed 2
pub v426_flush_expired : flush_expired_call (1 ∷ 2 ∷ 1 ∷ 3 ∷ 0 ∷ 1 ∷ 2 ∷ 8 ∷ 107 ∷ 4 ∷ 0 ∷ 0 ∷ 1 ∷ 8 ∷ replicate 12 0) (98 ∷ replicate 8 120 ++ replicate 23 0 ++ 97 ∷ 98 ∷ 10 ∷ 198 ∷ 184 ∷ 219 ∷ 45 ∷ 38 ∷ 207 ∷ 78 ∷ replicate 22 0 ++ replicate 64 7) 157 0 ≡ gave (plain Done 2) (1 ∷ replicate 25 0) (replicate 64 0 ++ replicate 64 7)
unfolding entries_of decode holds held free_run every any right_lengths value_fits entry_sound none_shared sound refuse check_sound ◌then◌ check_clock clock_checks memory_of encode flat call dead without put wiped remove flushed up_to flush_expired_work flush_expired_call
v426_flush_expired = refl

-- flush_expired: 0, rounds 0, removed 1
pub v427_flush_expired : flush_expired_call (1 ∷ 3 ∷ 154 ∷ 4 ∷ 4294967295 ∷ 2 ∷ 1 ∷ 8 ∷ 111 ∷ 1 ∷ 4294967295 ∷ 1 ∷ 1 ∷ 1 ∷ 0 ∷ 1 ∷ 0 ∷ 0 ∷ 3 ∷ 1 ∷ replicate 6 0) (97 ∷ 98 ∷ 99 ∷ 1 ∷ replicate 28 0 ++ 97 ∷ 1 ∷ replicate 30 0 ++ 98 ∷ replicate 8 120 ++ replicate 55 0) 124 0 ≡ gave (plain Done 1) (1 ∷ 2 ∷ 154 ∷ 4 ∷ 4294967295 ∷ 2 ∷ 1 ∷ 8 ∷ 0 ∷ 1 ∷ 0 ∷ 0 ∷ 3 ∷ 1 ∷ replicate 12 0) (97 ∷ 98 ∷ 99 ∷ 1 ∷ replicate 60 0 ++ 98 ∷ replicate 8 120 ++ replicate 55 0)
unfolding entries_of decode holds held free_run every any right_lengths value_fits entry_sound none_shared sound refuse check_sound ◌then◌ check_clock clock_checks memory_of encode flat call dead without put wiped remove flushed up_to flush_expired_work flush_expired_call
v427_flush_expired = refl

-- flush_expired: 0, rounds 0, removed 1
pub v428_flush_expired : flush_expired_call (1 ∷ 2 ∷ 96 ∷ 3 ∷ 0 ∷ 0 ∷ 1 ∷ 8 ∷ 0 ∷ 3 ∷ 0 ∷ 1 ∷ 2 ∷ 8 ∷ replicate 12 0) (97 ∷ 205 ∷ 250 ∷ replicate 6 255 ++ replicate 23 0 ++ 97 ∷ 98 ∷ 15 ∷ 244 ∷ replicate 6 0 ++ replicate 36 7 ++ 39 ∷ replicate 49 7) 96 0 ≡ gave (plain Done 1) (1 ∷ 1 ∷ 0 ∷ 3 ∷ 0 ∷ 1 ∷ 2 ∷ 8 ∷ replicate 18 0) (replicate 32 0 ++ 97 ∷ 98 ∷ 15 ∷ 244 ∷ replicate 6 0 ++ replicate 36 7 ++ 39 ∷ replicate 49 7)
unfolding entries_of decode holds held free_run every any right_lengths value_fits entry_sound none_shared sound refuse check_sound ◌then◌ check_clock clock_checks memory_of encode flat call dead without put wiped remove flushed up_to flush_expired_work flush_expired_call
v428_flush_expired = refl

-- flush_expired: 0, rounds 0, removed 3
pub v429_flush_expired : flush_expired_call (1 ∷ 3 ∷ 113 ∷ 4 ∷ 5 ∷ 2 ∷ 1 ∷ 30 ∷ 113 ∷ 3 ∷ 4294967295 ∷ 1 ∷ 3 ∷ 8 ∷ 1 ∷ 1 ∷ 4294967295 ∷ 0 ∷ 2 ∷ 1 ∷ replicate 6 0) (97 ∷ 98 ∷ 1 ∷ replicate 29 7 ++ 97 ∷ 98 ∷ 99 ∷ 1 ∷ replicate 7 0 ++ replicate 21 7 ++ 99 ∷ replicate 30 120 ++ replicate 33 7) 133 0 ≡ gave (plain Done 3) (1 ∷ replicate 25 0) (replicate 96 0 ++ replicate 32 7)
unfolding entries_of decode holds held free_run every any right_lengths value_fits entry_sound none_shared sound refuse check_sound ◌then◌ check_clock clock_checks memory_of encode flat call dead without put wiped remove flushed up_to flush_expired_work flush_expired_call
v429_flush_expired = refl

-- flush_expired: 0, rounds 0, removed 4
pub v430_flush_expired : flush_expired_call (1 ∷ 4 ∷ 143 ∷ 3 ∷ 4294967295 ∷ 2 ∷ 3 ∷ 8 ∷ 137 ∷ 1 ∷ 4294967295 ∷ 1 ∷ 2 ∷ 1 ∷ 204 ∷ 3 ∷ 4294967295 ∷ 0 ∷ 1 ∷ 8 ∷ 167 ∷ 3 ∷ 0 ∷ 3 ∷ 1 ∷ 8 ∷ []) (100 ∷ 46 ∷ 133 ∷ 254 ∷ replicate 5 255 ++ replicate 23 0 ++ 98 ∷ 97 ∷ replicate 30 0 ++ 97 ∷ 98 ∷ 99 ∷ 5 ∷ 15 ∷ replicate 6 0 ++ replicate 21 7 ++ 98 ∷ 35 ∷ 104 ∷ 1 ∷ replicate 5 0 ++ replicate 23 7) 18446744073709551615 0 ≡ gave (plain Done 4) (1 ∷ replicate 25 0) (replicate 128 0)
unfolding entries_of decode holds held free_run every any right_lengths value_fits entry_sound none_shared sound refuse check_sound ◌then◌ check_clock clock_checks memory_of encode flat call dead without put wiped remove flushed up_to flush_expired_work flush_expired_call
v430_flush_expired = refl

-- get_keys: 0, rounds 0, removed 0
pub v431_get_keys : get_keys_flat_call (1 ∷ 2 ∷ 0 ∷ 4 ∷ 5 ∷ 0 ∷ 1 ∷ 63 ∷ 0 ∷ 3 ∷ 4294967295 ∷ 2 ∷ 3 ∷ 8 ∷ replicate 12 0) (98 ∷ replicate 63 120 ++ 97 ∷ 98 ∷ 99 ∷ 225 ∷ 107 ∷ replicate 6 255 ++ replicate 53 0) 160 0 (replicate 7 7) ≡ flat_listing (plain (Count 2) 0) (0 ∷ 1 ∷ 4 ∷ 2 ∷ 3 ∷ 3 ∷ 7 ∷ [])
unfolding entries_of decode holds held free_run every any right_lengths value_fits entry_sound none_shared sound refuse check_sound ◌then◌ check_clock clock_checks memory_of dead row_of live_of up_to key_count key_rows row_words listed_flat flat_keys_of get_keys_flat_call
v431_get_keys = refl

-- get_keys: 0, rounds 0, removed 0
pub v432_get_keys : get_keys_flat_call (1 ∷ replicate 25 0) (replicate 128 0) 77 9 (replicate 12 7) ≡ flat_listing (plain (Count 0) 0) (replicate 12 7)
unfolding entries_of decode holds held free_run every any right_lengths value_fits entry_sound none_shared sound refuse check_sound ◌then◌ check_clock clock_checks memory_of dead row_of live_of up_to key_count key_rows row_words listed_flat flat_keys_of get_keys_flat_call
v432_get_keys = refl

-- the same: rows
pub v432_rows : get_keys_call (1 ∷ replicate 25 0) (replicate 128 0) 77 9 (record { start = 7; klen = 7; kind = 7 } ∷ record { start = 7; klen = 7; kind = 7 } ∷ record { start = 7; klen = 7; kind = 7 } ∷ record { start = 7; klen = 7; kind = 7 } ∷ []) ≡ listing (plain (Count 0) 0) (record { start = 7; klen = 7; kind = 7 } ∷ record { start = 7; klen = 7; kind = 7 } ∷ record { start = 7; klen = 7; kind = 7 } ∷ record { start = 7; klen = 7; kind = 7 } ∷ [])
unfolding entries_of decode holds held free_run every any right_lengths value_fits entry_sound none_shared sound refuse check_sound ◌then◌ check_clock clock_checks memory_of dead row_of live_of up_to key_count key_rows listed keys_of get_keys_call
v432_rows = refl

-- get_keys: 0, rounds 0, removed 0
pub v433_get_keys : get_keys_flat_call (1 ∷ 1 ∷ 0 ∷ 4 ∷ 4294967295 ∷ 0 ∷ 1 ∷ replicate 19 0) (99 ∷ replicate 127 7) 96 2 [] ≡ flat_listing (plain (Count 0) 0) []
unfolding entries_of decode holds held free_run every any right_lengths value_fits entry_sound none_shared sound refuse check_sound ◌then◌ check_clock clock_checks memory_of dead row_of live_of up_to key_count key_rows row_words listed_flat flat_keys_of get_keys_flat_call
v433_get_keys = refl

-- the same: rows
pub v433_rows : get_keys_call (1 ∷ 1 ∷ 0 ∷ 4 ∷ 4294967295 ∷ 0 ∷ 1 ∷ replicate 19 0) (99 ∷ replicate 127 7) 96 2 [] ≡ listing (plain (Count 0) 0) []
unfolding entries_of decode holds held free_run every any right_lengths value_fits entry_sound none_shared sound refuse check_sound ◌then◌ check_clock clock_checks memory_of dead row_of live_of up_to key_count key_rows listed keys_of get_keys_call
v433_rows = refl

-- get_keys: 0, rounds 0, removed 0
pub v434_get_keys : get_keys_flat_call (1 ∷ 2 ∷ 114 ∷ 4 ∷ 5 ∷ 1 ∷ 3 ∷ 31 ∷ 99 ∷ 4 ∷ 0 ∷ 0 ∷ 1 ∷ 8 ∷ replicate 12 0) (100 ∷ replicate 8 120 ++ replicate 23 0 ++ 97 ∷ 98 ∷ 99 ∷ replicate 31 120 ++ replicate 62 0) 99 0 (7 ∷ 7 ∷ []) ≡ flat_listing (plain (Count 0) 0) (7 ∷ 7 ∷ [])
unfolding entries_of decode holds held free_run every any right_lengths value_fits entry_sound none_shared sound refuse check_sound ◌then◌ check_clock clock_checks memory_of dead row_of live_of up_to key_count key_rows row_words listed_flat flat_keys_of get_keys_flat_call
v434_get_keys = refl

-- get_keys: 1, rounds 0, removed 0
pub v435_get_keys : get_keys_flat_call (1 ∷ 1 ∷ 62 ∷ 4 ∷ 4294967295 ∷ 0 ∷ 1 ∷ 30 ∷ replicate 19 0) (99 ∷ replicate 30 120 ++ replicate 97 7) 56 0 (replicate 11 7) ≡ flat_listing (plain NotSound 0) (replicate 11 7)
unfolding entries_of decode holds held free_run every any right_lengths value_fits entry_sound none_shared sound refuse check_sound ◌then◌ check_clock clock_checks memory_of dead row_of live_of up_to key_count key_rows row_words listed_flat flat_keys_of get_keys_flat_call
v435_get_keys = refl

-- get_keys: 0, rounds 0, removed 0
pub v436_get_keys : get_keys_flat_call (1 ∷ 2 ∷ 127 ∷ 3 ∷ 5 ∷ 1 ∷ 2 ∷ 8 ∷ 121 ∷ 1 ∷ 5 ∷ 0 ∷ 1 ∷ 1 ∷ replicate 12 0) (100 ∷ 1 ∷ replicate 30 0 ++ 98 ∷ 97 ∷ 119 ∷ 223 ∷ replicate 6 255 ++ replicate 22 0 ++ replicate 64 7) 102 2 (replicate 5 7) ≡ flat_listing (plain (Count 1) 0) (1 ∷ 2 ∷ 3 ∷ 7 ∷ 7 ∷ [])
unfolding entries_of decode holds held free_run every any right_lengths value_fits entry_sound none_shared sound refuse check_sound ◌then◌ check_clock clock_checks memory_of dead row_of live_of up_to key_count key_rows row_words listed_flat flat_keys_of get_keys_flat_call
v436_get_keys = refl

-- get_keys: 1, rounds 0, removed 0
pub v437_get_keys : get_keys_flat_call (1 ∷ replicate 6 0 ++ 18446744073709551551 ∷ []) (replicate 32 7) 135 1 (replicate 10 7) ≡ flat_listing (plain NotSound 0) (replicate 10 7)
unfolding entries_of decode holds held free_run every any right_lengths value_fits entry_sound none_shared sound refuse check_sound ◌then◌ check_clock clock_checks memory_of dead row_of live_of up_to key_count key_rows row_words listed_flat flat_keys_of get_keys_flat_call
v437_get_keys = refl

-- get_keys: 2, rounds 0, removed 0
pub v438_get_keys : get_keys_flat_call (1 ∷ 1 ∷ 1 ∷ 1 ∷ 4294967295 ∷ 0 ∷ 1 ∷ 1 ∷ replicate 18 0) (99 ∷ 1 ∷ replicate 126 7) 0 1 (replicate 7 7) ≡ flat_listing (plain ClockZero 0) (replicate 7 7)
unfolding entries_of decode holds held free_run every any right_lengths value_fits entry_sound none_shared sound refuse check_sound ◌then◌ check_clock clock_checks memory_of dead row_of live_of up_to key_count key_rows row_words listed_flat flat_keys_of get_keys_flat_call
v438_get_keys = refl

-- get_keys: 0, rounds 0, removed 0
pub v439_get_keys : get_keys_flat_call (1 ∷ 1 ∷ 0 ∷ 4 ∷ 5 ∷ 0 ∷ 1 ∷ 31 ∷ replicate 18 0) (98 ∷ replicate 31 120 ++ replicate 96 7) 150 0 (7 ∷ 7 ∷ 7 ∷ []) ≡ flat_listing (plain (Count 1) 0) (0 ∷ 1 ∷ 4 ∷ [])
unfolding entries_of decode holds held free_run every any right_lengths value_fits entry_sound none_shared sound refuse check_sound ◌then◌ check_clock clock_checks memory_of dead row_of live_of up_to key_count key_rows row_words listed_flat flat_keys_of get_keys_flat_call
v439_get_keys = refl

-- the same: rows
pub v439_rows : get_keys_call (1 ∷ 1 ∷ 0 ∷ 4 ∷ 5 ∷ 0 ∷ 1 ∷ 31 ∷ replicate 18 0) (98 ∷ replicate 31 120 ++ replicate 96 7) 150 0 (record { start = 7; klen = 7; kind = 7 } ∷ []) ≡ listing (plain (Count 1) 0) (record { start = 0; klen = 1; kind = 4 } ∷ [])
unfolding entries_of decode holds held free_run every any right_lengths value_fits entry_sound none_shared sound refuse check_sound ◌then◌ check_clock clock_checks memory_of dead row_of live_of up_to key_count key_rows listed keys_of get_keys_call
v439_rows = refl

-- get_keys: 0, rounds 0, removed 0
pub v440_get_keys : get_keys_flat_call (1 ∷ 3 ∷ 128 ∷ 4 ∷ 5 ∷ 2 ∷ 1 ∷ 8 ∷ 154 ∷ 4 ∷ 5 ∷ 1 ∷ 2 ∷ 0 ∷ 189 ∷ 1 ∷ 4294967295 ∷ 0 ∷ 1 ∷ 1 ∷ replicate 6 0) (99 ∷ 1 ∷ replicate 30 0 ++ 98 ∷ 97 ∷ replicate 30 0 ++ 100 ∷ replicate 8 120 ++ replicate 55 0) 18446744073709551615 2 (replicate 9 7) ≡ flat_listing (plain (Count 0) 0) (replicate 9 7)
unfolding entries_of decode holds held free_run every any right_lengths value_fits entry_sound none_shared sound refuse check_sound ◌then◌ check_clock clock_checks memory_of dead row_of live_of up_to key_count key_rows row_words listed_flat flat_keys_of get_keys_flat_call
v440_get_keys = refl

-- the same: rows
pub v440_rows : get_keys_call (1 ∷ 3 ∷ 128 ∷ 4 ∷ 5 ∷ 2 ∷ 1 ∷ 8 ∷ 154 ∷ 4 ∷ 5 ∷ 1 ∷ 2 ∷ 0 ∷ 189 ∷ 1 ∷ 4294967295 ∷ 0 ∷ 1 ∷ 1 ∷ replicate 6 0) (99 ∷ 1 ∷ replicate 30 0 ++ 98 ∷ 97 ∷ replicate 30 0 ++ 100 ∷ replicate 8 120 ++ replicate 55 0) 18446744073709551615 2 (record { start = 7; klen = 7; kind = 7 } ∷ record { start = 7; klen = 7; kind = 7 } ∷ record { start = 7; klen = 7; kind = 7 } ∷ []) ≡ listing (plain (Count 0) 0) (record { start = 7; klen = 7; kind = 7 } ∷ record { start = 7; klen = 7; kind = 7 } ∷ record { start = 7; klen = 7; kind = 7 } ∷ [])
unfolding entries_of decode holds held free_run every any right_lengths value_fits entry_sound none_shared sound refuse check_sound ◌then◌ check_clock clock_checks memory_of dead row_of live_of up_to key_count key_rows listed keys_of get_keys_call
v440_rows = refl

-- get_keys: 0, rounds 0, removed 0
pub v441_get_keys : get_keys_flat_call (1 ∷ 2 ∷ 70 ∷ 3 ∷ 5 ∷ 1 ∷ 1 ∷ 8 ∷ 124 ∷ 3 ∷ 5 ∷ 0 ∷ 1 ∷ 8 ∷ replicate 12 0) (99 ∷ 121 ∷ 107 ∷ replicate 6 255 ++ replicate 23 7 ++ 97 ∷ 252 ∷ 67 ∷ 1 ∷ replicate 5 0 ++ replicate 87 7) 70 2 [] ≡ flat_listing (plain (Count 0) 0) []
unfolding entries_of decode holds held free_run every any right_lengths value_fits entry_sound none_shared sound refuse check_sound ◌then◌ check_clock clock_checks memory_of dead row_of live_of up_to key_count key_rows row_words listed_flat flat_keys_of get_keys_flat_call
v441_get_keys = refl

-- the same: rows
pub v441_rows : get_keys_call (1 ∷ 2 ∷ 70 ∷ 3 ∷ 5 ∷ 1 ∷ 1 ∷ 8 ∷ 124 ∷ 3 ∷ 5 ∷ 0 ∷ 1 ∷ 8 ∷ replicate 12 0) (99 ∷ 121 ∷ 107 ∷ replicate 6 255 ++ replicate 23 7 ++ 97 ∷ 252 ∷ 67 ∷ 1 ∷ replicate 5 0 ++ replicate 87 7) 70 2 [] ≡ listing (plain (Count 0) 0) []
unfolding entries_of decode holds held free_run every any right_lengths value_fits entry_sound none_shared sound refuse check_sound ◌then◌ check_clock clock_checks memory_of dead row_of live_of up_to key_count key_rows listed keys_of get_keys_call
v441_rows = refl

-- get_keys: 0, rounds 0, removed 0
pub v442_get_keys : get_keys_flat_call (1 ∷ 3 ∷ 82 ∷ 4 ∷ 4294967295 ∷ 2 ∷ 2 ∷ 30 ∷ 88 ∷ 3 ∷ 5 ∷ 1 ∷ 1 ∷ 8 ∷ 0 ∷ 4 ∷ 4294967295 ∷ 0 ∷ 1 ∷ 8 ∷ replicate 6 0) (100 ∷ replicate 8 120 ++ replicate 23 0 ++ 99 ∷ 1 ∷ replicate 30 0 ++ 98 ∷ 97 ∷ replicate 30 120 ++ replicate 32 0) 82 9 (7 ∷ 7 ∷ []) ≡ flat_listing (plain (Count 0) 0) (7 ∷ 7 ∷ [])
unfolding entries_of decode holds held free_run every any right_lengths value_fits entry_sound none_shared sound refuse check_sound ◌then◌ check_clock clock_checks memory_of dead row_of live_of up_to key_count key_rows row_words listed_flat flat_keys_of get_keys_flat_call
v442_get_keys = refl

-- get_keys: 0, rounds 0, removed 0
pub v443_get_keys : get_keys_flat_call (1 ∷ 3 ∷ 156 ∷ 4 ∷ 4294967295 ∷ 2 ∷ 40 ∷ 8 ∷ 145 ∷ 1 ∷ 4294967295 ∷ 1 ∷ 3 ∷ 1 ∷ 132 ∷ 1 ∷ 0 ∷ 0 ∷ 1 ∷ 1 ∷ replicate 6 0) (100 ∷ 1 ∷ replicate 30 0 ++ 97 ∷ 98 ∷ 99 ∷ 1 ∷ replicate 28 0 ++ replicate 40 107 ++ replicate 8 120 ++ replicate 16 0) 131 0 (replicate 12 7) ≡ flat_listing (plain (Count 3) 0) (2 ∷ 40 ∷ 4 ∷ 1 ∷ 3 ∷ 1 ∷ 0 ∷ 1 ∷ 1 ∷ 7 ∷ 7 ∷ 7 ∷ [])
unfolding entries_of decode holds held free_run every any right_lengths value_fits entry_sound none_shared sound refuse check_sound ◌then◌ check_clock clock_checks memory_of dead row_of live_of up_to key_count key_rows row_words listed_flat flat_keys_of get_keys_flat_call
v443_get_keys = refl

-- the same: rows
pub v443_rows : get_keys_call (1 ∷ 3 ∷ 156 ∷ 4 ∷ 4294967295 ∷ 2 ∷ 40 ∷ 8 ∷ 145 ∷ 1 ∷ 4294967295 ∷ 1 ∷ 3 ∷ 1 ∷ 132 ∷ 1 ∷ 0 ∷ 0 ∷ 1 ∷ 1 ∷ replicate 6 0) (100 ∷ 1 ∷ replicate 30 0 ++ 97 ∷ 98 ∷ 99 ∷ 1 ∷ replicate 28 0 ++ replicate 40 107 ++ replicate 8 120 ++ replicate 16 0) 131 0 (record { start = 7; klen = 7; kind = 7 } ∷ record { start = 7; klen = 7; kind = 7 } ∷ record { start = 7; klen = 7; kind = 7 } ∷ record { start = 7; klen = 7; kind = 7 } ∷ []) ≡ listing (plain (Count 3) 0) (record { start = 2; klen = 40; kind = 4 } ∷ record { start = 1; klen = 3; kind = 1 } ∷ record { start = 0; klen = 1; kind = 1 } ∷ record { start = 7; klen = 7; kind = 7 } ∷ [])
unfolding entries_of decode holds held free_run every any right_lengths value_fits entry_sound none_shared sound refuse check_sound ◌then◌ check_clock clock_checks memory_of dead row_of live_of up_to key_count key_rows listed keys_of get_keys_call
v443_rows = refl

-- get_keys: 0, rounds 0, removed 0
pub v444_get_keys : get_keys_flat_call (1 ∷ 2 ∷ 85 ∷ 4 ∷ 5 ∷ 1 ∷ 1 ∷ 0 ∷ 82 ∷ 1 ∷ 0 ∷ 0 ∷ 1 ∷ 1 ∷ replicate 12 0) (97 ∷ 1 ∷ replicate 30 7 ++ 98 ∷ replicate 95 7) 18446744073709551615 9 (replicate 9 7) ≡ flat_listing (plain (Count 0) 0) (replicate 9 7)
unfolding entries_of decode holds held free_run every any right_lengths value_fits entry_sound none_shared sound refuse check_sound ◌then◌ check_clock clock_checks memory_of dead row_of live_of up_to key_count key_rows row_words listed_flat flat_keys_of get_keys_flat_call
v444_get_keys = refl

-- the same: rows
pub v444_rows : get_keys_call (1 ∷ 2 ∷ 85 ∷ 4 ∷ 5 ∷ 1 ∷ 1 ∷ 0 ∷ 82 ∷ 1 ∷ 0 ∷ 0 ∷ 1 ∷ 1 ∷ replicate 12 0) (97 ∷ 1 ∷ replicate 30 7 ++ 98 ∷ replicate 95 7) 18446744073709551615 9 (record { start = 7; klen = 7; kind = 7 } ∷ record { start = 7; klen = 7; kind = 7 } ∷ record { start = 7; klen = 7; kind = 7 } ∷ []) ≡ listing (plain (Count 0) 0) (record { start = 7; klen = 7; kind = 7 } ∷ record { start = 7; klen = 7; kind = 7 } ∷ record { start = 7; klen = 7; kind = 7 } ∷ [])
unfolding entries_of decode holds held free_run every any right_lengths value_fits entry_sound none_shared sound refuse check_sound ◌then◌ check_clock clock_checks memory_of dead row_of live_of up_to key_count key_rows listed keys_of get_keys_call
v444_rows = refl

-- the words of an answer
pub w001 : answer_words (plain Done 0) ≡ (replicate 10 0)
unfolding fields_of answer_words
w001 = refl

-- the words of an answer
pub w002 : answer_words (plain NotSound 0) ≡ (1 ∷ replicate 9 0)
unfolding fields_of answer_words
w002 = refl

-- the words of an answer
pub w003 : answer_words (plain NotFound 0) ≡ (8 ∷ replicate 9 0)
unfolding fields_of answer_words
w003 = refl

-- the words of an answer
pub w004 : answer_words (plain NotFound 1) ≡ (8 ∷ 0 ∷ 1 ∷ replicate 7 0)
unfolding fields_of answer_words
w004 = refl

-- the words of an answer
pub w005 : answer_words (plain (Text 0 2 30) 0) ≡ (replicate 5 0 ++ 4 ∷ 0 ∷ 0 ∷ 2 ∷ 30 ∷ [])
unfolding fields_of answer_words
w005 = refl

-- the words of an answer
pub w006 : answer_words (plain KeyEmpty 0) ≡ (3 ∷ replicate 9 0)
unfolding fields_of answer_words
w006 = refl

-- the words of an answer
pub w007 : answer_words (plain (Number 0 (negsuc 2112441265317132690) 65) 0) ≡ (replicate 5 0 ++ 3 ∷ 0 ∷ 16334302808392418925 ∷ 65 ∷ 8 ∷ [])
unfolding fields_of answer_words
w007 = refl

-- the words of an answer
pub w008 : answer_words (plain ClockZero 0) ≡ (2 ∷ replicate 9 0)
unfolding fields_of answer_words
w008 = refl

-- the words of an answer
pub w009 : answer_words (plain (Number 5 (negsuc 98180) 2) 0) ≡ (replicate 5 0 ++ 3 ∷ 5 ∷ 18446744073709453435 ∷ 2 ∷ 8 ∷ [])
unfolding fields_of answer_words
w009 = refl

-- the words of an answer
pub w010 : answer_words (plain (Boolean 0 true 1) 0) ≡ (replicate 5 0 ++ 1 ∷ 0 ∷ 1 ∷ 1 ∷ 1 ∷ [])
unfolding fields_of answer_words
w010 = refl

-- the words of an answer
pub w011 : answer_words (plain KeyTooLong 0) ≡ (4 ∷ replicate 9 0)
unfolding fields_of answer_words
w011 = refl

-- the words of an answer
pub w012 : answer_words (plain NotFound 2) ≡ (8 ∷ 0 ∷ 2 ∷ replicate 7 0)
unfolding fields_of answer_words
w012 = refl

-- the words of an answer
pub w013 : answer_words (plain (Boolean 4294967295 true 1) 1) ≡ (0 ∷ 0 ∷ 1 ∷ 0 ∷ 0 ∷ 1 ∷ 4294967295 ∷ 1 ∷ 1 ∷ 1 ∷ [])
unfolding fields_of answer_words
w013 = refl

-- the words of an answer
pub w014 : answer_words (plain (Boolean 4294967295 true 65) 2) ≡ (0 ∷ 0 ∷ 2 ∷ 0 ∷ 0 ∷ 1 ∷ 4294967295 ∷ 1 ∷ 65 ∷ 1 ∷ [])
unfolding fields_of answer_words
w014 = refl

-- the words of an answer
pub w015 : answer_words (plain (Number 5 (pos 14200) 33) 0) ≡ (replicate 5 0 ++ 3 ∷ 5 ∷ 14200 ∷ 33 ∷ 8 ∷ [])
unfolding fields_of answer_words
w015 = refl

-- the words of an answer
pub w016 : answer_words (marked (Text 4294967295 1 31) true) ≡ (0 ∷ 0 ∷ 0 ∷ 0 ∷ 1 ∷ 4 ∷ 4294967295 ∷ 0 ∷ 1 ∷ 31 ∷ [])
unfolding fields_of answer_words
w016 = refl
