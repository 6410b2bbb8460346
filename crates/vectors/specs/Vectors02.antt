-- Calls that the second program (second/) made, computed once more by the definitions: the whole answer, all words and all bytes.
-- Written by `cargo run --release --offline --bin vectors` in sessions/, not by hand.
use Rattle.std.specs.Prelude.{◌≡◌, refl, true, false, [], ◌∷◌, ◌++◌, replicate, pos, negsuc, None}
use Rattle.rules.specs.declared.Outcome.TheVariants.{Number, Boolean, Text, Count, NotSound, ClockZero, KeyEmpty, KeyTooLong, NotFound}
use Rattle.rules.specs.Layout.{encode, decode, flat, entries_of, without, to_front, put, key_of, number_at, memory_of, wiped, remove, remove_oldest, move_to_front}
use Rattle.rules.specs.Time.{dead, time_left}
use Rattle.rules.specs.LookUp.{same, key_is, found_from, look_up}
use Rattle.rules.specs.Recency.{deads, sweep_count, sweep}
use Rattle.rules.specs.Place.{holds, held, free_run}
use Rattle.rules.specs.Soundness.{every, any, right_lengths, value_fits, entry_sound, none_shared, sound, keys_differ, audit}
use Rattle.rules.specs.Answer.{plain, marked}
use Rattle.rules.specs.Checks.{◌then◌, refuse, check_sound, check_clock, check_key, clock_checks, key_checks}
use Rattle.rules.specs.Calls.{gave, call, ask, after_sweep, shown, get_found, get_work, get_call, stale_found, get_stale_call, ttl_found, ttl_call, bytes_start, bytes_at_call}

-- audit: no
pub v061_audit : audit (1 ∷ replicate 8 0) (replicate 32 0) ≡ false
unfolding entries_of decode holds held free_run every any right_lengths value_fits entry_sound none_shared sound refuse check_sound same key_of key_is keys_differ audit
v061_audit = refl

-- get: 8, rounds 0, removed 0
pub v062_get : get_call (1 ∷ 3 ∷ 120 ∷ 1 ∷ 5 ∷ 2 ∷ 2 ∷ 1 ∷ 101 ∷ 1 ∷ 5 ∷ 0 ∷ 2 ∷ 1 ∷ 121 ∷ 3 ∷ 4294967295 ∷ 1 ∷ 1 ∷ 8 ∷ replicate 6 0) (98 ∷ 97 ∷ 1 ∷ replicate 29 0 ++ 97 ∷ 206 ∷ 80 ∷ replicate 6 0 ++ replicate 23 7 ++ 97 ∷ 98 ∷ 1 ∷ replicate 61 7) 99 (97 ∷ 98 ∷ 99 ∷ []) ≡ gave (plain NotFound 0) (1 ∷ 3 ∷ 120 ∷ 1 ∷ 5 ∷ 2 ∷ 2 ∷ 1 ∷ 101 ∷ 1 ∷ 5 ∷ 0 ∷ 2 ∷ 1 ∷ 121 ∷ 3 ∷ 4294967295 ∷ 1 ∷ 1 ∷ 8 ∷ replicate 6 0) (98 ∷ 97 ∷ 1 ∷ replicate 29 0 ++ 97 ∷ 206 ∷ 80 ∷ replicate 6 0 ++ replicate 23 7 ++ 97 ∷ 98 ∷ 1 ∷ replicate 61 7)
unfolding entries_of decode holds held free_run every any right_lengths value_fits entry_sound none_shared sound refuse check_sound ◌then◌ check_clock clock_checks check_key key_checks memory_of encode flat call dead same key_of key_is found_from look_up deads without put wiped remove remove_oldest sweep_count sweep after_sweep shown number_at to_front move_to_front get_found get_work get_call
v062_get = refl

-- get: 1, rounds 0, removed 0
pub v063_get : get_call (1 ∷ 1 ∷ 107 ∷ 3 ∷ 0 ∷ 0 ∷ 3 ∷ 8 ∷ 0 ∷ 1 ∷ 0 ∷ 0 ∷ 0 ∷ 0 ∷ []) (97 ∷ 98 ∷ 99 ∷ 202 ∷ 73 ∷ 1 ∷ replicate 58 0) 106 (97 ∷ []) ≡ gave (plain NotSound 0) (1 ∷ 1 ∷ 107 ∷ 3 ∷ 0 ∷ 0 ∷ 3 ∷ 8 ∷ 0 ∷ 1 ∷ 0 ∷ 0 ∷ 0 ∷ 0 ∷ []) (97 ∷ 98 ∷ 99 ∷ 202 ∷ 73 ∷ 1 ∷ replicate 58 0)
unfolding entries_of decode holds held free_run every any right_lengths value_fits entry_sound none_shared sound refuse check_sound ◌then◌ check_clock clock_checks check_key key_checks memory_of encode flat call dead same key_of key_is found_from look_up deads without put wiped remove remove_oldest sweep_count sweep after_sweep shown number_at to_front move_to_front get_found get_work get_call
v063_get = refl

-- get: 1, rounds 0, removed 0
pub v064_get : get_call (1 ∷ 1 ∷ 0 ∷ 4 ∷ 4294967295 ∷ 0 ∷ 3 ∷ 31 ∷ replicate 18 0) [] 142 (98 ∷ 97 ∷ []) ≡ gave (plain NotSound 0) (1 ∷ 1 ∷ 0 ∷ 4 ∷ 4294967295 ∷ 0 ∷ 3 ∷ 31 ∷ replicate 18 0) []
unfolding entries_of decode holds held free_run every any right_lengths value_fits entry_sound none_shared sound refuse check_sound ◌then◌ check_clock clock_checks check_key key_checks memory_of encode flat call dead same key_of key_is found_from look_up deads without put wiped remove remove_oldest sweep_count sweep after_sweep shown number_at to_front move_to_front get_found get_work get_call
v064_get = refl

-- get: 8, rounds 0, removed 1
pub v065_get : get_call (1 ∷ 1 ∷ 121 ∷ 4 ∷ 5 ∷ 0 ∷ 1 ∷ 0 ∷ []) (99 ∷ replicate 31 0) 135 (100 ∷ []) ≡ gave (plain NotFound 1) (1 ∷ replicate 7 0) (replicate 32 0)
unfolding entries_of decode holds held free_run every any right_lengths value_fits entry_sound none_shared sound refuse check_sound ◌then◌ check_clock clock_checks check_key key_checks memory_of encode flat call dead same key_of key_is found_from look_up deads without put wiped remove remove_oldest sweep_count sweep after_sweep shown number_at to_front move_to_front get_found get_work get_call
v065_get = refl

-- get: 8, rounds 0, removed 0
pub v066_get : get_call (1 ∷ replicate 13 0) (replicate 64 7) 142 (98 ∷ 97 ∷ []) ≡ gave (plain NotFound 0) (1 ∷ replicate 13 0) (replicate 64 7)
unfolding entries_of decode holds held free_run every any right_lengths value_fits entry_sound none_shared sound refuse check_sound ◌then◌ check_clock clock_checks check_key key_checks memory_of encode flat call dead same key_of key_is found_from look_up deads without put wiped remove remove_oldest sweep_count sweep after_sweep shown number_at to_front move_to_front get_found get_work get_call
v066_get = refl

-- get: 0, rounds 0, removed 0
pub v067_get : get_call (1 ∷ 1 ∷ 0 ∷ 4 ∷ 0 ∷ 0 ∷ 2 ∷ 30 ∷ replicate 6 0) (98 ∷ 97 ∷ replicate 30 120 ++ replicate 32 0) 165 (98 ∷ 97 ∷ []) ≡ gave (plain (Text 0 2 30) 0) (1 ∷ 1 ∷ 0 ∷ 4 ∷ 0 ∷ 0 ∷ 2 ∷ 30 ∷ replicate 6 0) (98 ∷ 97 ∷ replicate 30 120 ++ replicate 32 0)
unfolding entries_of decode holds held free_run every any right_lengths value_fits entry_sound none_shared sound refuse check_sound ◌then◌ check_clock clock_checks check_key key_checks memory_of encode flat call dead same key_of key_is found_from look_up deads without put wiped remove remove_oldest sweep_count sweep after_sweep shown number_at to_front move_to_front get_found get_work get_call
v067_get = refl

-- get: 8, rounds 0, removed 1
pub v068_get : get_call (1 ∷ 1 ∷ 98 ∷ 1 ∷ 0 ∷ 0 ∷ 2 ∷ 1 ∷ []) (98 ∷ 97 ∷ 1 ∷ replicate 29 0) 98 (98 ∷ 97 ∷ []) ≡ gave (plain NotFound 1) (1 ∷ replicate 7 0) (replicate 32 0)
unfolding entries_of decode holds held free_run every any right_lengths value_fits entry_sound none_shared sound refuse check_sound ◌then◌ check_clock clock_checks check_key key_checks memory_of encode flat call dead same key_of key_is found_from look_up deads without put wiped remove remove_oldest sweep_count sweep after_sweep shown number_at to_front move_to_front get_found get_work get_call
v068_get = refl

-- get: 3, rounds 0, removed 0
pub v069_get : get_call (1 ∷ 1 ∷ 97 ∷ 1 ∷ 5 ∷ 0 ∷ 1 ∷ 1 ∷ []) (99 ∷ 1 ∷ replicate 30 0) 111 [] ≡ gave (plain KeyEmpty 0) (1 ∷ 1 ∷ 97 ∷ 1 ∷ 5 ∷ 0 ∷ 1 ∷ 1 ∷ []) (99 ∷ 1 ∷ replicate 30 0)
unfolding entries_of decode holds held free_run every any right_lengths value_fits entry_sound none_shared sound refuse check_sound ◌then◌ check_clock clock_checks check_key key_checks memory_of encode flat call dead same key_of key_is found_from look_up deads without put wiped remove remove_oldest sweep_count sweep after_sweep shown number_at to_front move_to_front get_found get_work get_call
v069_get = refl

-- get: 0, rounds 0, removed 0
pub v070_get : get_call (1 ∷ 3 ∷ 136 ∷ 4 ∷ 0 ∷ 0 ∷ 2 ∷ 30 ∷ 0 ∷ 3 ∷ 0 ∷ 2 ∷ 1 ∷ 8 ∷ 0 ∷ 4 ∷ 0 ∷ 1 ∷ 1 ∷ 30 ∷ replicate 6 0) (98 ∷ 97 ∷ replicate 30 120 ++ 99 ∷ replicate 30 120 ++ 0 ∷ 98 ∷ 109 ∷ 70 ∷ 229 ∷ 131 ∷ 220 ∷ 25 ∷ 175 ∷ 226 ∷ replicate 55 0) 156 (98 ∷ []) ≡ gave (plain (Number 0 (negsuc 2112441265317132690) 65) 0) (1 ∷ 3 ∷ 0 ∷ 3 ∷ 0 ∷ 2 ∷ 1 ∷ 8 ∷ 136 ∷ 4 ∷ 0 ∷ 0 ∷ 2 ∷ 30 ∷ 0 ∷ 4 ∷ 0 ∷ 1 ∷ 1 ∷ 30 ∷ replicate 6 0) (98 ∷ 97 ∷ replicate 30 120 ++ 99 ∷ replicate 30 120 ++ 0 ∷ 98 ∷ 109 ∷ 70 ∷ 229 ∷ 131 ∷ 220 ∷ 25 ∷ 175 ∷ 226 ∷ replicate 55 0)
unfolding entries_of decode holds held free_run every any right_lengths value_fits entry_sound none_shared sound refuse check_sound ◌then◌ check_clock clock_checks check_key key_checks memory_of encode flat call dead same key_of key_is found_from look_up deads without put wiped remove remove_oldest sweep_count sweep after_sweep shown number_at to_front move_to_front get_found get_work get_call
v070_get = refl

-- get: 2, rounds 0, removed 0
pub v071_get : get_call (1 ∷ replicate 7 0) (replicate 32 0) 0 (97 ∷ 98 ∷ 99 ∷ []) ≡ gave (plain ClockZero 0) (1 ∷ replicate 7 0) (replicate 32 0)
unfolding entries_of decode holds held free_run every any right_lengths value_fits entry_sound none_shared sound refuse check_sound ◌then◌ check_clock clock_checks check_key key_checks memory_of encode flat call dead same key_of key_is found_from look_up deads without put wiped remove remove_oldest sweep_count sweep after_sweep shown number_at to_front move_to_front get_found get_work get_call
v071_get = refl

-- get: 0, rounds 0, removed 0
pub v072_get : get_call (1 ∷ 1 ∷ 137 ∷ 3 ∷ 5 ∷ 0 ∷ 2 ∷ 8 ∷ replicate 6 0) (97 ∷ 98 ∷ 123 ∷ 128 ∷ 254 ∷ replicate 5 255 ++ replicate 54 0) 107 (97 ∷ 98 ∷ []) ≡ gave (plain (Number 5 (negsuc 98180) 2) 0) (1 ∷ 1 ∷ 137 ∷ 3 ∷ 5 ∷ 0 ∷ 2 ∷ 8 ∷ replicate 6 0) (97 ∷ 98 ∷ 123 ∷ 128 ∷ 254 ∷ replicate 5 255 ++ replicate 54 0)
unfolding entries_of decode holds held free_run every any right_lengths value_fits entry_sound none_shared sound refuse check_sound ◌then◌ check_clock clock_checks check_key key_checks memory_of encode flat call dead same key_of key_is found_from look_up deads without put wiped remove remove_oldest sweep_count sweep after_sweep shown number_at to_front move_to_front get_found get_work get_call
v072_get = refl

-- get: 0, rounds 0, removed 0
pub v073_get : get_call (1 ∷ 1 ∷ 125 ∷ 1 ∷ 0 ∷ 0 ∷ 1 ∷ 1 ∷ []) (98 ∷ 1 ∷ replicate 30 0) 115 (98 ∷ []) ≡ gave (plain (Boolean 0 true 1) 0) (1 ∷ 1 ∷ 125 ∷ 1 ∷ 0 ∷ 0 ∷ 1 ∷ 1 ∷ []) (98 ∷ 1 ∷ replicate 30 0)
unfolding entries_of decode holds held free_run every any right_lengths value_fits entry_sound none_shared sound refuse check_sound ◌then◌ check_clock clock_checks check_key key_checks memory_of encode flat call dead same key_of key_is found_from look_up deads without put wiped remove remove_oldest sweep_count sweep after_sweep shown number_at to_front move_to_front get_found get_work get_call
v073_get = refl

-- get: 4, rounds 0, removed 0
pub v074_get : get_call (1 ∷ replicate 7 0) (replicate 32 0) 91 (replicate 65536 107) ≡ gave (plain KeyTooLong 0) (1 ∷ replicate 7 0) (replicate 32 0)
unfolding entries_of decode holds held free_run every any right_lengths value_fits entry_sound none_shared sound refuse check_sound ◌then◌ check_clock clock_checks check_key key_checks memory_of encode flat call dead same key_of key_is found_from look_up deads without put wiped remove remove_oldest sweep_count sweep after_sweep shown number_at to_front move_to_front get_found get_work get_call
v074_get = refl

-- get: 8, rounds 0, removed 0
pub v075_get : get_call (1 ∷ 3 ∷ 145 ∷ 3 ∷ 5 ∷ 2 ∷ 1 ∷ 8 ∷ 1 ∷ 1 ∷ 4294967295 ∷ 1 ∷ 1 ∷ 1 ∷ 136 ∷ 1 ∷ 4294967295 ∷ 0 ∷ 1 ∷ 1 ∷ replicate 6 0) (98 ∷ 1 ∷ replicate 30 7 ++ 99 ∷ 1 ∷ replicate 30 7 ++ 97 ∷ 254 ∷ replicate 6 255 ++ 127 ∷ replicate 55 7) 135 (99 ∷ []) ≡ gave (plain NotFound 0) (1 ∷ 3 ∷ 145 ∷ 3 ∷ 5 ∷ 2 ∷ 1 ∷ 8 ∷ 1 ∷ 1 ∷ 4294967295 ∷ 1 ∷ 1 ∷ 1 ∷ 136 ∷ 1 ∷ 4294967295 ∷ 0 ∷ 1 ∷ 1 ∷ replicate 6 0) (98 ∷ 1 ∷ replicate 30 7 ++ 99 ∷ 1 ∷ replicate 30 7 ++ 97 ∷ 254 ∷ replicate 6 255 ++ 127 ∷ replicate 55 7)
unfolding entries_of decode holds held free_run every any right_lengths value_fits entry_sound none_shared sound refuse check_sound ◌then◌ check_clock clock_checks check_key key_checks memory_of encode flat call dead same key_of key_is found_from look_up deads without put wiped remove remove_oldest sweep_count sweep after_sweep shown number_at to_front move_to_front get_found get_work get_call
v075_get = refl

-- get: 8, rounds 0, removed 2
pub v076_get : get_call (1 ∷ 2 ∷ 149 ∷ 3 ∷ 4294967295 ∷ 0 ∷ 2 ∷ 8 ∷ 129 ∷ 1 ∷ 0 ∷ 1 ∷ 2 ∷ 1 ∷ []) (97 ∷ 98 ∷ 199 ∷ 162 ∷ replicate 28 0 ++ 98 ∷ 97 ∷ 1 ∷ replicate 29 0) 149 (98 ∷ 97 ∷ []) ≡ gave (plain NotFound 2) (1 ∷ replicate 13 0) (replicate 64 0)
unfolding entries_of decode holds held free_run every any right_lengths value_fits entry_sound none_shared sound refuse check_sound ◌then◌ check_clock clock_checks check_key key_checks memory_of encode flat call dead same key_of key_is found_from look_up deads without put wiped remove remove_oldest sweep_count sweep after_sweep shown number_at to_front move_to_front get_found get_work get_call
v076_get = refl

-- get: 0, rounds 0, removed 1
pub v077_get : get_call (1 ∷ 2 ∷ 0 ∷ 1 ∷ 4294967295 ∷ 0 ∷ 1 ∷ 1 ∷ 129 ∷ 3 ∷ 0 ∷ 1 ∷ 2 ∷ 8 ∷ []) (100 ∷ 1 ∷ replicate 30 0 ++ 97 ∷ 98 ∷ 26 ∷ 37 ∷ 96 ∷ 42 ∷ 190 ∷ 11 ∷ 228 ∷ 71 ∷ replicate 22 7) 152 (100 ∷ []) ≡ gave (plain (Boolean 4294967295 true 1) 1) (1 ∷ 1 ∷ 0 ∷ 1 ∷ 4294967295 ∷ 0 ∷ 1 ∷ 1 ∷ replicate 6 0) (100 ∷ 1 ∷ replicate 62 0)
unfolding entries_of decode holds held free_run every any right_lengths value_fits entry_sound none_shared sound refuse check_sound ◌then◌ check_clock clock_checks check_key key_checks memory_of encode flat call dead same key_of key_is found_from look_up deads without put wiped remove remove_oldest sweep_count sweep after_sweep shown number_at to_front move_to_front get_found get_work get_call
v077_get = refl

-- get: 8, rounds 0, removed 0
pub v078_get : get_call (1 ∷ 2 ∷ 99 ∷ 4 ∷ 4294967295 ∷ 0 ∷ 2 ∷ 8 ∷ 0 ∷ 4 ∷ 5 ∷ 1 ∷ 1 ∷ 30 ∷ []) (98 ∷ 97 ∷ replicate 8 120 ++ replicate 22 0 ++ 98 ∷ replicate 30 120 ++ 0 ∷ []) 99 (98 ∷ 97 ∷ []) ≡ gave (plain NotFound 0) (1 ∷ 2 ∷ 99 ∷ 4 ∷ 4294967295 ∷ 0 ∷ 2 ∷ 8 ∷ 0 ∷ 4 ∷ 5 ∷ 1 ∷ 1 ∷ 30 ∷ []) (98 ∷ 97 ∷ replicate 8 120 ++ replicate 22 0 ++ 98 ∷ replicate 30 120 ++ 0 ∷ [])
unfolding entries_of decode holds held free_run every any right_lengths value_fits entry_sound none_shared sound refuse check_sound ◌then◌ check_clock clock_checks check_key key_checks memory_of encode flat call dead same key_of key_is found_from look_up deads without put wiped remove remove_oldest sweep_count sweep after_sweep shown number_at to_front move_to_front get_found get_work get_call
v078_get = refl

-- get: 0, rounds 0, removed 2
pub v079_get : get_call (1 ∷ 3 ∷ 165 ∷ 1 ∷ 4294967295 ∷ 2 ∷ 1 ∷ 1 ∷ 84 ∷ 3 ∷ 0 ∷ 0 ∷ 1 ∷ 8 ∷ 1 ∷ 3 ∷ 0 ∷ 1 ∷ 1 ∷ 8 ∷ replicate 6 0) (100 ∷ 172 ∷ 160 ∷ replicate 6 255 ++ replicate 23 0 ++ 97 ∷ 124 ∷ 129 ∷ replicate 29 0 ++ 98 ∷ 1 ∷ replicate 62 0) 85 (98 ∷ []) ≡ gave (plain (Boolean 4294967295 true 65) 2) (1 ∷ 1 ∷ 165 ∷ 1 ∷ 4294967295 ∷ 2 ∷ 1 ∷ 1 ∷ replicate 18 0) (replicate 64 0 ++ 98 ∷ 1 ∷ replicate 62 0)
unfolding entries_of decode holds held free_run every any right_lengths value_fits entry_sound none_shared sound refuse check_sound ◌then◌ check_clock clock_checks check_key key_checks memory_of encode flat call dead same key_of key_is found_from look_up deads without put wiped remove remove_oldest sweep_count sweep after_sweep shown number_at to_front move_to_front get_found get_work get_call
v079_get = refl

-- get: 0, rounds 0, removed 0
pub v080_get : get_call (1 ∷ 3 ∷ 0 ∷ 4 ∷ 5 ∷ 2 ∷ 1 ∷ 33 ∷ 0 ∷ 3 ∷ 5 ∷ 1 ∷ 1 ∷ 8 ∷ 0 ∷ 1 ∷ 5 ∷ 0 ∷ 1 ∷ 1 ∷ replicate 6 0) (97 ∷ 1 ∷ replicate 30 0 ++ 98 ∷ 120 ∷ 55 ∷ replicate 29 0 ++ 99 ∷ replicate 33 120 ++ replicate 30 0) 2 (98 ∷ []) ≡ gave (plain (Number 5 (pos 14200) 33) 0) (1 ∷ 3 ∷ 0 ∷ 3 ∷ 5 ∷ 1 ∷ 1 ∷ 8 ∷ 0 ∷ 4 ∷ 5 ∷ 2 ∷ 1 ∷ 33 ∷ 0 ∷ 1 ∷ 5 ∷ 0 ∷ 1 ∷ 1 ∷ replicate 6 0) (97 ∷ 1 ∷ replicate 30 0 ++ 98 ∷ 120 ∷ 55 ∷ replicate 29 0 ++ 99 ∷ replicate 33 120 ++ replicate 30 0)
unfolding entries_of decode holds held free_run every any right_lengths value_fits entry_sound none_shared sound refuse check_sound ◌then◌ check_clock clock_checks check_key key_checks memory_of encode flat call dead same key_of key_is found_from look_up deads without put wiped remove remove_oldest sweep_count sweep after_sweep shown number_at to_front move_to_front get_found get_work get_call
v080_get = refl

-- get: 8, rounds 0, removed 0
pub v081_get : get_call (1 ∷ 3 ∷ 0 ∷ 4 ∷ 5 ∷ 2 ∷ 1 ∷ 33 ∷ 0 ∷ 3 ∷ 5 ∷ 1 ∷ 1 ∷ 8 ∷ 0 ∷ 1 ∷ 5 ∷ 0 ∷ 1 ∷ 1 ∷ replicate 6 0) (97 ∷ 1 ∷ replicate 30 0 ++ 98 ∷ 120 ∷ 55 ∷ replicate 29 0 ++ 99 ∷ replicate 33 120 ++ replicate 30 0) 2 (replicate 65535 107) ≡ gave (plain NotFound 0) (1 ∷ 3 ∷ 0 ∷ 4 ∷ 5 ∷ 2 ∷ 1 ∷ 33 ∷ 0 ∷ 3 ∷ 5 ∷ 1 ∷ 1 ∷ 8 ∷ 0 ∷ 1 ∷ 5 ∷ 0 ∷ 1 ∷ 1 ∷ replicate 6 0) (97 ∷ 1 ∷ replicate 30 0 ++ 98 ∷ 120 ∷ 55 ∷ replicate 29 0 ++ 99 ∷ replicate 33 120 ++ replicate 30 0)
unfolding entries_of decode holds held free_run every any right_lengths value_fits entry_sound none_shared sound refuse check_sound ◌then◌ check_clock clock_checks check_key key_checks memory_of encode flat call dead same key_of key_is found_from look_up deads without put wiped remove remove_oldest sweep_count sweep after_sweep shown number_at to_front move_to_front get_found get_work get_call
v081_get = refl

-- get_stale: 0, rounds 0, removed 0
pub v082_get_stale : get_stale_call (1 ∷ 1 ∷ 1 ∷ 4 ∷ 4294967295 ∷ 0 ∷ 1 ∷ 31 ∷ replicate 6 0) (100 ∷ replicate 31 120 ++ replicate 32 0) 69 (100 ∷ []) ≡ (marked (Text 4294967295 1 31) true)
unfolding entries_of decode holds held free_run every any right_lengths value_fits entry_sound none_shared sound refuse check_sound ◌then◌ check_clock clock_checks check_key key_checks dead same key_of key_is found_from look_up shown number_at memory_of ask stale_found get_stale_call
v082_get_stale = refl

-- get_stale: 8, rounds 0, removed 0
pub v083_get_stale : get_stale_call (1 ∷ replicate 25 0) (replicate 128 0) 96 (97 ∷ []) ≡ (plain NotFound 0)
unfolding entries_of decode holds held free_run every any right_lengths value_fits entry_sound none_shared sound refuse check_sound ◌then◌ check_clock clock_checks check_key key_checks dead same key_of key_is found_from look_up shown number_at memory_of ask stale_found get_stale_call
v083_get_stale = refl

-- get_stale: 1, rounds 0, removed 0
pub v084_get_stale : get_stale_call (1 ∷ replicate 8 0) (replicate 32 7) 130 (97 ∷ 98 ∷ 99 ∷ []) ≡ (plain NotSound 0)
unfolding entries_of decode holds held free_run every any right_lengths value_fits entry_sound none_shared sound refuse check_sound ◌then◌ check_clock clock_checks check_key key_checks dead same key_of key_is found_from look_up shown number_at memory_of ask stale_found get_stale_call
v084_get_stale = refl

-- get_stale: 3, rounds 0, removed 0
pub v085_get_stale : get_stale_call (1 ∷ 1 ∷ 0 ∷ 3 ∷ 4294967295 ∷ 0 ∷ 1 ∷ 8 ∷ []) (98 ∷ 172 ∷ 99 ∷ replicate 6 0 ++ replicate 23 7) 113 [] ≡ (plain KeyEmpty 0)
unfolding entries_of decode holds held free_run every any right_lengths value_fits entry_sound none_shared sound refuse check_sound ◌then◌ check_clock clock_checks check_key key_checks dead same key_of key_is found_from look_up shown number_at memory_of ask stale_found get_stale_call
v085_get_stale = refl

-- get_stale: 8, rounds 0, removed 0
pub v086_get_stale : get_stale_call (1 ∷ 1 ∷ 1 ∷ 1 ∷ 5 ∷ 0 ∷ 1 ∷ 1 ∷ []) (98 ∷ 0 ∷ replicate 30 7) 101 (97 ∷ []) ≡ (plain NotFound 0)
unfolding entries_of decode holds held free_run every any right_lengths value_fits entry_sound none_shared sound refuse check_sound ◌then◌ check_clock clock_checks check_key key_checks dead same key_of key_is found_from look_up shown number_at memory_of ask stale_found get_stale_call
v086_get_stale = refl

-- get_stale: 1, rounds 0, removed 0
pub v087_get_stale : get_stale_call (1 ∷ replicate 13 0) [] 124 (98 ∷ []) ≡ (plain NotSound 0)
unfolding entries_of decode holds held free_run every any right_lengths value_fits entry_sound none_shared sound refuse check_sound ◌then◌ check_clock clock_checks check_key key_checks dead same key_of key_is found_from look_up shown number_at memory_of ask stale_found get_stale_call
v087_get_stale = refl

-- get_stale: 0, rounds 0, removed 0
pub v088_get_stale : get_stale_call (1 ∷ 1 ∷ 117 ∷ 4 ∷ 0 ∷ 0 ∷ 2 ∷ 1 ∷ replicate 6 0) (98 ∷ 97 ∷ 120 ∷ replicate 61 0) 67 (98 ∷ 97 ∷ []) ≡ (plain (Text 0 2 1) 0)
unfolding entries_of decode holds held free_run every any right_lengths value_fits entry_sound none_shared sound refuse check_sound ◌then◌ check_clock clock_checks check_key key_checks dead same key_of key_is found_from look_up shown number_at memory_of ask stale_found get_stale_call
v088_get_stale = refl

-- get_stale: 2, rounds 0, removed 0
pub v089_get_stale : get_stale_call (1 ∷ replicate 7 0) (replicate 32 7) 0 (97 ∷ []) ≡ (plain ClockZero 0)
unfolding entries_of decode holds held free_run every any right_lengths value_fits entry_sound none_shared sound refuse check_sound ◌then◌ check_clock clock_checks check_key key_checks dead same key_of key_is found_from look_up shown number_at memory_of ask stale_found get_stale_call
v089_get_stale = refl

-- get_stale: 8, rounds 0, removed 0
pub v090_get_stale : get_stale_call (1 ∷ 2 ∷ 0 ∷ 4 ∷ 4294967295 ∷ 2 ∷ 2 ∷ 0 ∷ 96 ∷ 4 ∷ 0 ∷ 0 ∷ 1 ∷ 33 ∷ replicate 12 0) (98 ∷ replicate 33 120 ++ replicate 30 7 ++ 98 ∷ 97 ∷ replicate 62 7) 101 (97 ∷ []) ≡ (plain NotFound 0)
unfolding entries_of decode holds held free_run every any right_lengths value_fits entry_sound none_shared sound refuse check_sound ◌then◌ check_clock clock_checks check_key key_checks dead same key_of key_is found_from look_up shown number_at memory_of ask stale_found get_stale_call
v090_get_stale = refl

-- get_stale: 0, rounds 0, removed 0
pub v091_get_stale : get_stale_call (1 ∷ 2 ∷ 0 ∷ 1 ∷ 4294967295 ∷ 0 ∷ 1 ∷ 1 ∷ 0 ∷ 1 ∷ 4294967295 ∷ 1 ∷ 40 ∷ 1 ∷ replicate 12 0) (98 ∷ 1 ∷ replicate 30 0 ++ replicate 40 107 ++ 1 ∷ replicate 55 0) 138 (98 ∷ []) ≡ (plain (Boolean 4294967295 true 1) 0)
unfolding entries_of decode holds held free_run every any right_lengths value_fits entry_sound none_shared sound refuse check_sound ◌then◌ check_clock clock_checks check_key key_checks dead same key_of key_is found_from look_up shown number_at memory_of ask stale_found get_stale_call
v091_get_stale = refl

-- get_stale: 0, rounds 0, removed 0
pub v092_get_stale : get_stale_call (1 ∷ 1 ∷ 158 ∷ 3 ∷ 0 ∷ 0 ∷ 1 ∷ 8 ∷ replicate 6 0) (97 ∷ 14 ∷ 122 ∷ replicate 6 255 ++ replicate 55 0) 98 (97 ∷ []) ≡ (plain (Number 0 (negsuc 34289) 1) 0)
unfolding entries_of decode holds held free_run every any right_lengths value_fits entry_sound none_shared sound refuse check_sound ◌then◌ check_clock clock_checks check_key key_checks dead same key_of key_is found_from look_up shown number_at memory_of ask stale_found get_stale_call
v092_get_stale = refl

-- get_stale: 0, rounds 0, removed 0
pub v093_get_stale : get_stale_call (1 ∷ 2 ∷ 0 ∷ 4 ∷ 4294967295 ∷ 0 ∷ 1 ∷ 31 ∷ 96 ∷ 3 ∷ 5 ∷ 1 ∷ 2 ∷ 8 ∷ []) (99 ∷ replicate 31 120 ++ 98 ∷ 97 ∷ 250 ∷ 250 ∷ 254 ∷ replicate 5 255 ++ replicate 22 7) 67 (98 ∷ 97 ∷ []) ≡ (plain (Number 5 (negsuc 66821) 34) 0)
unfolding entries_of decode holds held free_run every any right_lengths value_fits entry_sound none_shared sound refuse check_sound ◌then◌ check_clock clock_checks check_key key_checks dead same key_of key_is found_from look_up shown number_at memory_of ask stale_found get_stale_call
v093_get_stale = refl

-- get_stale: 4, rounds 0, removed 0
pub v094_get_stale : get_stale_call (1 ∷ 1 ∷ 0 ∷ 4 ∷ 0 ∷ 0 ∷ 2 ∷ 60 ∷ replicate 6 0) (97 ∷ 98 ∷ replicate 60 120 ++ 7 ∷ 7 ∷ []) 113 (replicate 65536 107) ≡ (plain KeyTooLong 0)
unfolding entries_of decode holds held free_run every any right_lengths value_fits entry_sound none_shared sound refuse check_sound ◌then◌ check_clock clock_checks check_key key_checks dead same key_of key_is found_from look_up shown number_at memory_of ask stale_found get_stale_call
v094_get_stale = refl

-- get_stale: 0, rounds 0, removed 0
pub v095_get_stale : get_stale_call (1 ∷ 2 ∷ 110 ∷ 1 ∷ 4294967295 ∷ 0 ∷ 2 ∷ 1 ∷ 1 ∷ 4 ∷ 5 ∷ 1 ∷ 3 ∷ 8 ∷ []) (98 ∷ 97 ∷ 1 ∷ replicate 29 0 ++ 97 ∷ 98 ∷ 99 ∷ replicate 8 120 ++ replicate 21 0) 154 (98 ∷ 97 ∷ []) ≡ (marked (Boolean 4294967295 true 2) true)
unfolding entries_of decode holds held free_run every any right_lengths value_fits entry_sound none_shared sound refuse check_sound ◌then◌ check_clock clock_checks check_key key_checks dead same key_of key_is found_from look_up shown number_at memory_of ask stale_found get_stale_call
v095_get_stale = refl

-- get_stale: 0, rounds 0, removed 0
pub v096_get_stale : get_stale_call (1 ∷ 4 ∷ 130 ∷ 3 ∷ 0 ∷ 3 ∷ 1 ∷ 8 ∷ 0 ∷ 1 ∷ 5 ∷ 2 ∷ 1 ∷ 1 ∷ 1 ∷ 4 ∷ 4294967295 ∷ 1 ∷ 1 ∷ 30 ∷ 166 ∷ 3 ∷ 5 ∷ 0 ∷ 1 ∷ 8 ∷ []) (98 ∷ 167 ∷ 228 ∷ replicate 6 0 ++ replicate 23 7 ++ 100 ∷ replicate 30 120 ++ 7 ∷ 99 ∷ 1 ∷ replicate 30 7 ++ 98 ∷ 188 ∷ 106 ∷ replicate 6 0 ++ replicate 23 7) 125 (100 ∷ []) ≡ (marked (Text 4294967295 33 30) true)
unfolding entries_of decode holds held free_run every any right_lengths value_fits entry_sound none_shared sound refuse check_sound ◌then◌ check_clock clock_checks check_key key_checks dead same key_of key_is found_from look_up shown number_at memory_of ask stale_found get_stale_call
v096_get_stale = refl

-- get_stale: 0, rounds 0, removed 0
pub v097_get_stale : get_stale_call (1 ∷ 2 ∷ 1 ∷ 3 ∷ 5 ∷ 1 ∷ 1 ∷ 8 ∷ 0 ∷ 3 ∷ 5 ∷ 0 ∷ 1 ∷ 8 ∷ []) (97 ∷ 241 ∷ 193 ∷ replicate 6 0 ++ replicate 23 7 ++ 100 ∷ 254 ∷ replicate 6 255 ++ 127 ∷ replicate 23 0) 125 (100 ∷ []) ≡ (marked (Number 5 (pos 9223372036854775806) 33) true)
unfolding entries_of decode holds held free_run every any right_lengths value_fits entry_sound none_shared sound refuse check_sound ◌then◌ check_clock clock_checks check_key key_checks dead same key_of key_is found_from look_up shown number_at memory_of ask stale_found get_stale_call
v097_get_stale = refl

-- ttl: 1, rounds 0, removed 0
pub v098_ttl : ttl_call (1 ∷ 1 ∷ 0 ∷ 3 ∷ 0 ∷ 0 ∷ 2 ∷ 8 ∷ replicate 19 0) (97 ∷ 98 ∷ 115 ∷ 28 ∷ 81 ∷ 14 ∷ 66 ∷ 63 ∷ 215 ∷ 227 ∷ replicate 118 7) 90 (97 ∷ 98 ∷ []) ≡ (plain NotSound 0)
unfolding entries_of decode holds held free_run every any right_lengths value_fits entry_sound none_shared sound refuse check_sound ◌then◌ check_clock clock_checks check_key key_checks dead same key_of key_is found_from look_up memory_of ask time_left ttl_found ttl_call
v098_ttl = refl

-- ttl: 8, rounds 0, removed 0
pub v099_ttl : ttl_call (1 ∷ 2 ∷ 102 ∷ 4 ∷ 5 ∷ 1 ∷ 1 ∷ 8 ∷ 0 ∷ 1 ∷ 0 ∷ 0 ∷ 1 ∷ 1 ∷ replicate 12 0) (99 ∷ 1 ∷ replicate 30 0 ++ 99 ∷ replicate 8 120 ++ replicate 87 0) 18446744073709551615 (97 ∷ 98 ∷ []) ≡ (plain NotFound 0)
unfolding entries_of decode holds held free_run every any right_lengths value_fits entry_sound none_shared sound refuse check_sound ◌then◌ check_clock clock_checks check_key key_checks dead same key_of key_is found_from look_up memory_of ask time_left ttl_found ttl_call
v099_ttl = refl

-- ttl: 2, rounds 0, removed 0
pub v100_ttl : ttl_call (1 ∷ 1 ∷ 129 ∷ 4 ∷ 0 ∷ 0 ∷ 2 ∷ 20 ∷ []) (98 ∷ 97 ∷ replicate 20 120 ++ replicate 10 7) 0 (99 ∷ []) ≡ (plain ClockZero 0)
unfolding entries_of decode holds held free_run every any right_lengths value_fits entry_sound none_shared sound refuse check_sound ◌then◌ check_clock clock_checks check_key key_checks dead same key_of key_is found_from look_up memory_of ask time_left ttl_found ttl_call
v100_ttl = refl

-- ttl: 4, rounds 0, removed 0
pub v101_ttl : ttl_call (1 ∷ 1 ∷ 0 ∷ 1 ∷ 5 ∷ 0 ∷ 1 ∷ 1 ∷ []) (98 ∷ 1 ∷ replicate 30 0) 126 (replicate 65536 107) ≡ (plain KeyTooLong 0)
unfolding entries_of decode holds held free_run every any right_lengths value_fits entry_sound none_shared sound refuse check_sound ◌then◌ check_clock clock_checks check_key key_checks dead same key_of key_is found_from look_up memory_of ask time_left ttl_found ttl_call
v101_ttl = refl

-- ttl: 8, rounds 0, removed 0
pub v102_ttl : ttl_call (1 ∷ 1 ∷ 120 ∷ 4 ∷ 0 ∷ 0 ∷ 3 ∷ 31 ∷ replicate 6 0) (97 ∷ 98 ∷ 99 ∷ replicate 31 120 ++ replicate 30 0) 70 (100 ∷ []) ≡ (plain NotFound 0)
unfolding entries_of decode holds held free_run every any right_lengths value_fits entry_sound none_shared sound refuse check_sound ◌then◌ check_clock clock_checks check_key key_checks dead same key_of key_is found_from look_up memory_of ask time_left ttl_found ttl_call
v102_ttl = refl

-- ttl: 8, rounds 0, removed 0
pub v103_ttl : ttl_call (1 ∷ replicate 25 0) (replicate 128 7) 93 (97 ∷ 98 ∷ 99 ∷ []) ≡ (plain NotFound 0)
unfolding entries_of decode holds held free_run every any right_lengths value_fits entry_sound none_shared sound refuse check_sound ◌then◌ check_clock clock_checks check_key key_checks dead same key_of key_is found_from look_up memory_of ask time_left ttl_found ttl_call
v103_ttl = refl

-- ttl: 0, rounds 0, removed 0
pub v104_ttl : ttl_call (1 ∷ 1 ∷ 133 ∷ 1 ∷ 4294967295 ∷ 0 ∷ 2 ∷ 1 ∷ replicate 18 0) (97 ∷ 98 ∷ 1 ∷ replicate 125 0) 74 (97 ∷ 98 ∷ []) ≡ (plain (Count 59) 0)
unfolding entries_of decode holds held free_run every any right_lengths value_fits entry_sound none_shared sound refuse check_sound ◌then◌ check_clock clock_checks check_key key_checks dead same key_of key_is found_from look_up memory_of ask time_left ttl_found ttl_call
v104_ttl = refl

-- ttl: 0, rounds 0, removed 0
pub v105_ttl : ttl_call (1 ∷ 1 ∷ 0 ∷ 4 ∷ 4294967295 ∷ 0 ∷ 2 ∷ 31 ∷ replicate 6 0) (97 ∷ 98 ∷ replicate 31 120 ++ replicate 31 0) 103 (97 ∷ 98 ∷ []) ≡ (plain (Count 0) 0)
unfolding entries_of decode holds held free_run every any right_lengths value_fits entry_sound none_shared sound refuse check_sound ◌then◌ check_clock clock_checks check_key key_checks dead same key_of key_is found_from look_up memory_of ask time_left ttl_found ttl_call
v105_ttl = refl

-- ttl: 8, rounds 0, removed 0
pub v106_ttl : ttl_call (1 ∷ 2 ∷ 123 ∷ 4 ∷ 5 ∷ 1 ∷ 1 ∷ 8 ∷ 0 ∷ 3 ∷ 4294967295 ∷ 0 ∷ 1 ∷ 8 ∷ []) (99 ∷ 162 ∷ 166 ∷ replicate 6 255 ++ replicate 23 0 ++ 100 ∷ replicate 8 120 ++ replicate 23 0) 143 (100 ∷ []) ≡ (plain NotFound 0)
unfolding entries_of decode holds held free_run every any right_lengths value_fits entry_sound none_shared sound refuse check_sound ◌then◌ check_clock clock_checks check_key key_checks dead same key_of key_is found_from look_up memory_of ask time_left ttl_found ttl_call
v106_ttl = refl

-- ttl: 0, rounds 0, removed 0
pub v107_ttl : ttl_call (1 ∷ 2 ∷ 160 ∷ 1 ∷ 5 ∷ 1 ∷ 1 ∷ 1 ∷ 0 ∷ 1 ∷ 5 ∷ 0 ∷ 1 ∷ 1 ∷ replicate 12 0) (99 ∷ 1 ∷ replicate 30 7 ++ 97 ∷ 1 ∷ replicate 94 7) 94 (99 ∷ []) ≡ (plain (Count 0) 0)
unfolding entries_of decode holds held free_run every any right_lengths value_fits entry_sound none_shared sound refuse check_sound ◌then◌ check_clock clock_checks check_key key_checks dead same key_of key_is found_from look_up memory_of ask time_left ttl_found ttl_call
v107_ttl = refl

-- ttl: 0, rounds 0, removed 0
pub v108_ttl : ttl_call (1 ∷ 4 ∷ 96 ∷ 1 ∷ 5 ∷ 3 ∷ 2 ∷ 1 ∷ 109 ∷ 4 ∷ 0 ∷ 0 ∷ 1 ∷ 1 ∷ 96 ∷ 4 ∷ 5 ∷ 1 ∷ 1 ∷ 31 ∷ 96 ∷ 4 ∷ 0 ∷ 2 ∷ 1 ∷ 31 ∷ []) (99 ∷ 120 ∷ replicate 30 0 ++ 100 ∷ replicate 31 120 ++ 98 ∷ replicate 31 120 ++ 97 ∷ 98 ∷ 1 ∷ replicate 29 7) 90 (99 ∷ []) ≡ (plain (Count 19) 0)
unfolding entries_of decode holds held free_run every any right_lengths value_fits entry_sound none_shared sound refuse check_sound ◌then◌ check_clock clock_checks check_key key_checks dead same key_of key_is found_from look_up memory_of ask time_left ttl_found ttl_call
v108_ttl = refl

-- ttl: 8, rounds 0, removed 0
pub v109_ttl : ttl_call (1 ∷ 1 ∷ 144 ∷ 1 ∷ 5 ∷ 0 ∷ 2 ∷ 1 ∷ replicate 18 0) (97 ∷ 98 ∷ 1 ∷ replicate 125 0) 164 (97 ∷ 98 ∷ []) ≡ (plain NotFound 0)
unfolding entries_of decode holds held free_run every any right_lengths value_fits entry_sound none_shared sound refuse check_sound ◌then◌ check_clock clock_checks check_key key_checks dead same key_of key_is found_from look_up memory_of ask time_left ttl_found ttl_call
v109_ttl = refl

-- ttl: 1, rounds 0, removed 0
pub v110_ttl : ttl_call (1 ∷ 1 ∷ 0 ∷ 1 ∷ 4294967295 ∷ 0 ∷ 1 ∷ 1 ∷ replicate 7 0) (99 ∷ 1 ∷ replicate 62 0) 105 (99 ∷ []) ≡ (plain NotSound 0)
unfolding entries_of decode holds held free_run every any right_lengths value_fits entry_sound none_shared sound refuse check_sound ◌then◌ check_clock clock_checks check_key key_checks dead same key_of key_is found_from look_up memory_of ask time_left ttl_found ttl_call
v110_ttl = refl

-- ttl: 3, rounds 0, removed 0
pub v111_ttl : ttl_call (1 ∷ 1 ∷ 0 ∷ 3 ∷ 5 ∷ 0 ∷ 1 ∷ 8 ∷ replicate 18 0) (99 ∷ 13 ∷ 235 ∷ replicate 6 255 ++ replicate 119 0) 163 [] ≡ (plain KeyEmpty 0)
unfolding entries_of decode holds held free_run every any right_lengths value_fits entry_sound none_shared sound refuse check_sound ◌then◌ check_clock clock_checks check_key key_checks dead same key_of key_is found_from look_up memory_of ask time_left ttl_found ttl_call
v111_ttl = refl

-- ttl: 8, rounds 0, removed 0
pub v112_ttl : ttl_call (1 ∷ 2 ∷ 129 ∷ 3 ∷ 5 ∷ 1 ∷ 1 ∷ 8 ∷ 129 ∷ 3 ∷ 4294967295 ∷ 0 ∷ 1 ∷ 8 ∷ []) (100 ∷ 222 ∷ 154 ∷ 254 ∷ replicate 5 255 ++ replicate 23 7 ++ 98 ∷ 254 ∷ replicate 6 255 ++ 127 ∷ replicate 23 7) 18446744073709551615 (100 ∷ []) ≡ (plain NotFound 0)
unfolding entries_of decode holds held free_run every any right_lengths value_fits entry_sound none_shared sound refuse check_sound ◌then◌ check_clock clock_checks check_key key_checks dead same key_of key_is found_from look_up memory_of ask time_left ttl_found ttl_call
v112_ttl = refl

-- ttl: 8, rounds 0, removed 0
pub v113_ttl : ttl_call (1 ∷ 3 ∷ 1 ∷ 3 ∷ 0 ∷ 3 ∷ 3 ∷ 8 ∷ 90 ∷ 4 ∷ 5 ∷ 1 ∷ 1 ∷ 60 ∷ 109 ∷ 1 ∷ 5 ∷ 0 ∷ 1 ∷ 1 ∷ replicate 6 0) (97 ∷ 1 ∷ replicate 30 0 ++ 98 ∷ replicate 60 120 ++ 0 ∷ 0 ∷ 0 ∷ 97 ∷ 98 ∷ 99 ∷ 89 ∷ 7 ∷ replicate 27 0) 99 (97 ∷ 98 ∷ 99 ∷ []) ≡ (plain NotFound 0)
unfolding entries_of decode holds held free_run every any right_lengths value_fits entry_sound none_shared sound refuse check_sound ◌then◌ check_clock clock_checks check_key key_checks dead same key_of key_is found_from look_up memory_of ask time_left ttl_found ttl_call
v113_ttl = refl

-- ttl: 0, rounds 0, removed 0
pub v114_ttl : ttl_call (1 ∷ 4 ∷ 131 ∷ 1 ∷ 5 ∷ 2 ∷ 2 ∷ 1 ∷ 165 ∷ 3 ∷ 0 ∷ 3 ∷ 1 ∷ 8 ∷ 143 ∷ 1 ∷ 4294967295 ∷ 1 ∷ 1 ∷ 1 ∷ 131 ∷ 1 ∷ 5 ∷ 0 ∷ 1 ∷ 1 ∷ []) (97 ∷ 1 ∷ replicate 30 0 ++ 100 ∷ 1 ∷ replicate 30 0 ++ 98 ∷ 97 ∷ 1 ∷ replicate 29 0 ++ 99 ∷ 134 ∷ 83 ∷ 1 ∷ replicate 28 0) 130 (97 ∷ []) ≡ (plain (Count 1) 0)
unfolding entries_of decode holds held free_run every any right_lengths value_fits entry_sound none_shared sound refuse check_sound ◌then◌ check_clock clock_checks check_key key_checks dead same key_of key_is found_from look_up memory_of ask time_left ttl_found ttl_call
v114_ttl = refl

-- ttl: 0, rounds 0, removed 0
pub v115_ttl : ttl_call (1 ∷ 1 ∷ 88 ∷ 1 ∷ 5 ∷ 0 ∷ 2 ∷ 1 ∷ replicate 6 0) (97 ∷ 98 ∷ 1 ∷ replicate 61 0) 86 (97 ∷ 98 ∷ []) ≡ (plain (Count 2) 0)
unfolding entries_of decode holds held free_run every any right_lengths value_fits entry_sound none_shared sound refuse check_sound ◌then◌ check_clock clock_checks check_key key_checks dead same key_of key_is found_from look_up memory_of ask time_left ttl_found ttl_call
v115_ttl = refl

-- bytes_at: 9 bytes
pub v116_bytes_at : bytes_at_call (97 ∷ 39 ∷ 181 ∷ replicate 29 0 ++ 97 ∷ 98 ∷ replicate 94 0) 5 9 ≡ (replicate 9 0)
unfolding bytes_start bytes_at_call
v116_bytes_at = refl

-- the same: start
pub v116_start : bytes_start (97 ∷ 39 ∷ 181 ∷ replicate 29 0 ++ 97 ∷ 98 ∷ replicate 94 0) 5 9 ≡ 5
unfolding bytes_start bytes_at_call
v116_start = refl

-- bytes_at: 9 bytes
pub v117_bytes_at : bytes_at_call (98 ∷ replicate 8 120 ++ replicate 23 0 ++ 97 ∷ replicate 95 120) 5 9 ≡ (120 ∷ 120 ∷ 120 ∷ 120 ∷ replicate 5 0)
unfolding bytes_start bytes_at_call
v117_bytes_at = refl

-- the same: start
pub v117_start : bytes_start (98 ∷ replicate 8 120 ++ replicate 23 0 ++ 97 ∷ replicate 95 120) 5 9 ≡ 5
unfolding bytes_start bytes_at_call
v117_start = refl

-- bytes_at: 9 bytes
pub v118_bytes_at : bytes_at_call (100 ∷ replicate 8 120 ++ replicate 55 0) 0 9 ≡ (100 ∷ replicate 8 120)
unfolding bytes_start bytes_at_call
v118_bytes_at = refl
