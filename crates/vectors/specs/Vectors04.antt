-- Calls that the second program (second/) made, computed once more by the definitions: the whole answer, all words and all bytes.
-- Written by `cargo run --release --offline --bin vectors` in sessions/, not by hand.
use Rattle.std.specs.Prelude.{◌≡◌, refl, true, false, [], ◌∷◌, ◌++◌, replicate, pos, negsuc, None}
use Rattle.rules.specs.declared.Outcome.TheVariants.{Done, NotSound, ClockZero, KeyEmpty, KeyTooLong, KindUnknown, NilRefused, ExpiryTooLate, Exists, NoMemory}
use Rattle.rules.specs.declared.Operation.TheVariants.{Set, SafeSet, Add}
use Rattle.rules.specs.Layout.{encode, decode, flat, entries_of, without, to_front, put, key_of, number_bytes, memory_of, wiped, remove, remove_oldest}
use Rattle.rules.specs.Time.{dead, expiry_of, too_late}
use Rattle.rules.specs.LookUp.{same, key_is, found_from, look_up}
use Rattle.rules.specs.Recency.{deads, after, gone, any_live, sweep_count, sweep}
use Rattle.rules.specs.Place.{holds, held, free_run, fit_from, first_free, run}
use Rattle.rules.specs.Soundness.{every, any, right_lengths, value_fits, entry_sound, none_shared, sound}
use Rattle.rules.specs.Answer.{plain}
use Rattle.rules.specs.Checks.{◌then◌, refuse, check_sound, check_clock, check_key, check_kind, takes_nil, check_nil, check_lifetime, clock_checks, key_checks, store_checks}
use Rattle.rules.specs.Calls.{gave, call, after_sweep, delete_found, entry_for, place_at, rewrite_at, overwrite_at, searched, is_placed, if_room, evicted, forced_by, fit_outcome, place_fit, placed_by, place_anew, store_over, store_item, most_rounds, admits, boolean_byte, value_given, store_admitted, store_found, store_work, item_of, store_call}

-- set: 0, rounds 0, removed 0
pub v168_set : store_call Set (1 ∷ 2 ∷ 123 ∷ 1 ∷ 4294967295 ∷ 1 ∷ 1 ∷ 1 ∷ 0 ∷ 4 ∷ 0 ∷ 0 ∷ 2 ∷ 20 ∷ replicate 12 0) (98 ∷ 97 ∷ replicate 20 120 ++ replicate 10 7 ++ 98 ∷ 1 ∷ replicate 94 7) 18446744073709551615 (98 ∷ []) 3 (negsuc 9223372036854775806) (replicate 8 120) 0 5 ≡ gave (plain Done 0) (1 ∷ 2 ∷ 0 ∷ 3 ∷ 5 ∷ 1 ∷ 1 ∷ 8 ∷ 0 ∷ 4 ∷ 0 ∷ 0 ∷ 2 ∷ 20 ∷ replicate 12 0) (98 ∷ 97 ∷ replicate 20 120 ++ replicate 10 7 ++ 98 ∷ 1 ∷ replicate 6 0 ++ 128 ∷ replicate 23 0 ++ replicate 64 7)
unfolding entries_of decode holds held free_run every any right_lengths value_fits entry_sound none_shared sound refuse check_sound ◌then◌ check_clock clock_checks check_key key_checks memory_of encode flat call dead same key_of key_is found_from look_up deads without put wiped remove remove_oldest sweep_count sweep after_sweep expiry_of entry_for place_at to_front rewrite_at overwrite_at after gone any_live fit_from first_free run searched is_placed if_room evicted forced_by fit_outcome place_fit placed_by place_anew store_over store_item most_rounds boolean_byte number_bytes value_given item_of check_kind takes_nil check_nil too_late check_lifetime store_checks admits delete_found store_admitted store_found store_work store_call
v168_set = refl

-- set: 0, rounds 1, removed 3
pub v169_set : store_call Set (1 ∷ 3 ∷ 107 ∷ 4 ∷ 4294967295 ∷ 0 ∷ 2 ∷ 40 ∷ 0 ∷ 1 ∷ 4294967295 ∷ 3 ∷ 3 ∷ 1 ∷ 111 ∷ 1 ∷ 0 ∷ 2 ∷ 1 ∷ 1 ∷ replicate 6 0) (98 ∷ 97 ∷ replicate 40 120 ++ replicate 22 0 ++ 97 ∷ 1 ∷ replicate 30 0 ++ 97 ∷ 98 ∷ 99 ∷ 1 ∷ replicate 28 0) 151 (98 ∷ []) 4 (negsuc 9223372036854775806) (replicate 33 120) 0 4294967295 ≡ gave (record { rounds = 1; removed = 3; forced = true; stale = false; outcome = Done }) (1 ∷ 1 ∷ 0 ∷ 4 ∷ 4294967295 ∷ 0 ∷ 1 ∷ 33 ∷ replicate 18 0) (98 ∷ replicate 33 120 ++ replicate 94 0)
unfolding entries_of decode holds held free_run every any right_lengths value_fits entry_sound none_shared sound refuse check_sound ◌then◌ check_clock clock_checks check_key key_checks memory_of encode flat call dead same key_of key_is found_from look_up deads without put wiped remove remove_oldest sweep_count sweep after_sweep expiry_of entry_for place_at to_front rewrite_at overwrite_at after gone any_live fit_from first_free run searched is_placed if_room evicted forced_by fit_outcome place_fit placed_by place_anew store_over store_item most_rounds boolean_byte number_bytes value_given item_of check_kind takes_nil check_nil too_late check_lifetime store_checks admits delete_found store_admitted store_found store_work store_call
v169_set = refl

-- set: 12, rounds 0, removed 2
pub v170_set : store_call Set (1 ∷ 2 ∷ 97 ∷ 4 ∷ 0 ∷ 2 ∷ 1 ∷ 60 ∷ 97 ∷ 4 ∷ 0 ∷ 0 ∷ 1 ∷ 33 ∷ replicate 12 0) (98 ∷ replicate 33 120 ++ replicate 30 7 ++ 99 ∷ replicate 60 120 ++ 7 ∷ 7 ∷ 7 ∷ []) 102 (replicate 40 107) 4 (pos 4095021502069559760) (replicate 95 120) 0 0 ≡ gave (plain NoMemory 2) (1 ∷ replicate 25 0) (replicate 128 0)
unfolding entries_of decode holds held free_run every any right_lengths value_fits entry_sound none_shared sound refuse check_sound ◌then◌ check_clock clock_checks check_key key_checks memory_of encode flat call dead same key_of key_is found_from look_up deads without put wiped remove remove_oldest sweep_count sweep after_sweep expiry_of entry_for place_at to_front rewrite_at overwrite_at after gone any_live fit_from first_free run searched is_placed if_room evicted forced_by fit_outcome place_fit placed_by place_anew store_over store_item most_rounds boolean_byte number_bytes value_given item_of check_kind takes_nil check_nil too_late check_lifetime store_checks admits delete_found store_admitted store_found store_work store_call
v170_set = refl

-- set: 12, rounds 0, removed 2
pub v171_set : store_call Set (1 ∷ 2 ∷ 135 ∷ 4 ∷ 5 ∷ 1 ∷ 1 ∷ 60 ∷ 128 ∷ 1 ∷ 5 ∷ 0 ∷ 2 ∷ 1 ∷ replicate 12 0) (98 ∷ 97 ∷ 1 ∷ replicate 29 0 ++ 99 ∷ replicate 60 120 ++ replicate 35 0) 155 (98 ∷ 97 ∷ []) 4 (negsuc 97940) (replicate 130 120) 5 0 ≡ gave (plain NoMemory 2) (1 ∷ replicate 25 0) (replicate 128 0)
unfolding entries_of decode holds held free_run every any right_lengths value_fits entry_sound none_shared sound refuse check_sound ◌then◌ check_clock clock_checks check_key key_checks memory_of encode flat call dead same key_of key_is found_from look_up deads without put wiped remove remove_oldest sweep_count sweep after_sweep expiry_of entry_for place_at to_front rewrite_at overwrite_at after gone any_live fit_from first_free run searched is_placed if_room evicted forced_by fit_outcome place_fit placed_by place_anew store_over store_item most_rounds boolean_byte number_bytes value_given item_of check_kind takes_nil check_nil too_late check_lifetime store_checks admits delete_found store_admitted store_found store_work store_call
v171_set = refl

-- set: 0, rounds 2, removed 3
pub v172_set : store_call Set (1 ∷ 3 ∷ 78 ∷ 3 ∷ 4294967295 ∷ 2 ∷ 3 ∷ 8 ∷ 103 ∷ 3 ∷ 4294967295 ∷ 1 ∷ 2 ∷ 8 ∷ 101 ∷ 1 ∷ 5 ∷ 0 ∷ 1 ∷ 1 ∷ replicate 6 0) (100 ∷ 1 ∷ replicate 30 0 ++ 97 ∷ 98 ∷ replicate 7 0 ++ 128 ∷ replicate 22 0 ++ 97 ∷ 98 ∷ 99 ∷ 19 ∷ 10 ∷ replicate 6 255 ++ replicate 53 0) 78 (replicate 40 107) 3 (negsuc 0) (replicate 95 120) 30 0 ≡ gave (record { rounds = 2; removed = 3; forced = true; stale = false; outcome = Done }) (1 ∷ 1 ∷ 108 ∷ 3 ∷ 0 ∷ 0 ∷ 40 ∷ 8 ∷ replicate 18 0) (replicate 40 107 ++ replicate 8 255 ++ replicate 80 0)
unfolding entries_of decode holds held free_run every any right_lengths value_fits entry_sound none_shared sound refuse check_sound ◌then◌ check_clock clock_checks check_key key_checks memory_of encode flat call dead same key_of key_is found_from look_up deads without put wiped remove remove_oldest sweep_count sweep after_sweep expiry_of entry_for place_at to_front rewrite_at overwrite_at after gone any_live fit_from first_free run searched is_placed if_room evicted forced_by fit_outcome place_fit placed_by place_anew store_over store_item most_rounds boolean_byte number_bytes value_given item_of check_kind takes_nil check_nil too_late check_lifetime store_checks admits delete_found store_admitted store_found store_work store_call
v172_set = refl

-- set: 12, rounds 0, removed 0
pub v173_set : store_call Set (1 ∷ 3 ∷ 107 ∷ 1 ∷ 4294967295 ∷ 2 ∷ 1 ∷ 1 ∷ 127 ∷ 3 ∷ 4294967295 ∷ 1 ∷ 2 ∷ 8 ∷ 0 ∷ 1 ∷ 5 ∷ 0 ∷ 1 ∷ 1 ∷ replicate 6 0) (98 ∷ 1 ∷ replicate 30 0 ++ 97 ∷ 98 ∷ 81 ∷ 19 ∷ 12 ∷ 227 ∷ 167 ∷ 115 ∷ 43 ∷ 62 ∷ replicate 22 0 ++ 100 ∷ replicate 63 0) 18446744073709551615 (97 ∷ 98 ∷ []) 4 (negsuc 40271) (replicate 130 120) 0 4294967295 ≡ gave (plain NoMemory 0) (1 ∷ 2 ∷ 107 ∷ 1 ∷ 4294967295 ∷ 2 ∷ 1 ∷ 1 ∷ 0 ∷ 1 ∷ 5 ∷ 0 ∷ 1 ∷ 1 ∷ replicate 12 0) (98 ∷ 1 ∷ replicate 62 0 ++ 100 ∷ replicate 63 0)
unfolding entries_of decode holds held free_run every any right_lengths value_fits entry_sound none_shared sound refuse check_sound ◌then◌ check_clock clock_checks check_key key_checks memory_of encode flat call dead same key_of key_is found_from look_up deads without put wiped remove remove_oldest sweep_count sweep after_sweep expiry_of entry_for place_at to_front rewrite_at overwrite_at after gone any_live fit_from first_free run searched is_placed if_room evicted forced_by fit_outcome place_fit placed_by place_anew store_over store_item most_rounds boolean_byte number_bytes value_given item_of check_kind takes_nil check_nil too_late check_lifetime store_checks admits delete_found store_admitted store_found store_work store_call
v173_set = refl

-- set: 12, rounds 0, removed 1
pub v174_set : store_call Set (1 ∷ 1 ∷ 105 ∷ 1 ∷ 4294967295 ∷ 0 ∷ 2 ∷ 1 ∷ []) (97 ∷ 98 ∷ 1 ∷ replicate 29 7) 125 (replicate 40 107) 1 (negsuc 95324) (replicate 130 120) 0 0 ≡ gave (plain NoMemory 1) (1 ∷ replicate 7 0) (replicate 32 0)
unfolding entries_of decode holds held free_run every any right_lengths value_fits entry_sound none_shared sound refuse check_sound ◌then◌ check_clock clock_checks check_key key_checks memory_of encode flat call dead same key_of key_is found_from look_up deads without put wiped remove remove_oldest sweep_count sweep after_sweep expiry_of entry_for place_at to_front rewrite_at overwrite_at after gone any_live fit_from first_free run searched is_placed if_room evicted forced_by fit_outcome place_fit placed_by place_anew store_over store_item most_rounds boolean_byte number_bytes value_given item_of check_kind takes_nil check_nil too_late check_lifetime store_checks admits delete_found store_admitted store_found store_work store_call
v174_set = refl

-- set: 0, rounds 0, removed 0
pub v175_set : store_call Set (1 ∷ 2 ∷ 1 ∷ 3 ∷ 4294967295 ∷ 1 ∷ 2 ∷ 8 ∷ 0 ∷ 3 ∷ 4294967295 ∷ 0 ∷ 2 ∷ 8 ∷ []) (97 ∷ 98 ∷ 217 ∷ 240 ∷ 254 ∷ replicate 5 255 ++ replicate 22 0 ++ 98 ∷ 97 ∷ 99 ∷ replicate 7 255 ++ replicate 22 0) 101 (98 ∷ 97 ∷ []) 3 (negsuc 95956) (replicate 130 120) 0 5 ≡ gave (plain Done 0) (1 ∷ 2 ∷ 0 ∷ 3 ∷ 5 ∷ 1 ∷ 2 ∷ 8 ∷ 0 ∷ 3 ∷ 4294967295 ∷ 0 ∷ 2 ∷ 8 ∷ []) (97 ∷ 98 ∷ 217 ∷ 240 ∷ 254 ∷ replicate 5 255 ++ replicate 22 0 ++ 98 ∷ 97 ∷ 43 ∷ 137 ∷ 254 ∷ replicate 5 255 ++ replicate 22 0)
unfolding entries_of decode holds held free_run every any right_lengths value_fits entry_sound none_shared sound refuse check_sound ◌then◌ check_clock clock_checks check_key key_checks memory_of encode flat call dead same key_of key_is found_from look_up deads without put wiped remove remove_oldest sweep_count sweep after_sweep expiry_of entry_for place_at to_front rewrite_at overwrite_at after gone any_live fit_from first_free run searched is_placed if_room evicted forced_by fit_outcome place_fit placed_by place_anew store_over store_item most_rounds boolean_byte number_bytes value_given item_of check_kind takes_nil check_nil too_late check_lifetime store_checks admits delete_found store_admitted store_found store_work store_call
v175_set = refl

-- set: 0, rounds 1, removed 4
pub v176_set : store_call Set (1 ∷ 4 ∷ 81 ∷ 3 ∷ 0 ∷ 3 ∷ 2 ∷ 8 ∷ 87 ∷ 1 ∷ 0 ∷ 2 ∷ 1 ∷ 1 ∷ 0 ∷ 3 ∷ 5 ∷ 1 ∷ 1 ∷ 8 ∷ 1 ∷ 3 ∷ 0 ∷ 0 ∷ 1 ∷ 8 ∷ []) (100 ∷ replicate 7 0 ++ 128 ∷ replicate 23 7 ++ 99 ∷ 248 ∷ 149 ∷ 41 ∷ 156 ∷ 193 ∷ 33 ∷ 48 ∷ 93 ∷ replicate 23 7 ++ 97 ∷ 1 ∷ replicate 30 7 ++ 97 ∷ 98 ∷ 111 ∷ 80 ∷ 1 ∷ replicate 5 0 ++ replicate 22 7) 131 (98 ∷ 97 ∷ []) 4 (negsuc 11238) (replicate 63 120) 30 4294967295 ≡ gave (record { rounds = 1; removed = 4; forced = true; stale = false; outcome = Done }) (1 ∷ 1 ∷ 161 ∷ 4 ∷ 4294967295 ∷ 0 ∷ 2 ∷ 63 ∷ replicate 18 0) (98 ∷ 97 ∷ replicate 63 120 ++ replicate 63 0)
unfolding entries_of decode holds held free_run every any right_lengths value_fits entry_sound none_shared sound refuse check_sound ◌then◌ check_clock clock_checks check_key key_checks memory_of encode flat call dead same key_of key_is found_from look_up deads without put wiped remove remove_oldest sweep_count sweep after_sweep expiry_of entry_for place_at to_front rewrite_at overwrite_at after gone any_live fit_from first_free run searched is_placed if_room evicted forced_by fit_outcome place_fit placed_by place_anew store_over store_item most_rounds boolean_byte number_bytes value_given item_of check_kind takes_nil check_nil too_late check_lifetime store_checks admits delete_found store_admitted store_found store_work store_call
v176_set = refl

-- set: 0, rounds 4, removed 4
pub v177_set : store_call Set (1 ∷ 4 ∷ 122 ∷ 1 ∷ 0 ∷ 2 ∷ 1 ∷ 1 ∷ 0 ∷ 1 ∷ 5 ∷ 3 ∷ 1 ∷ 1 ∷ 100 ∷ 4 ∷ 4294967295 ∷ 1 ∷ 2 ∷ 8 ∷ 0 ∷ 1 ∷ 4294967295 ∷ 0 ∷ 2 ∷ 1 ∷ []) (98 ∷ 97 ∷ 1 ∷ replicate 29 0 ++ 97 ∷ 98 ∷ replicate 8 120 ++ replicate 22 0 ++ 100 ∷ 1 ∷ replicate 30 0 ++ 97 ∷ replicate 31 0) 97 (97 ∷ 98 ∷ 99 ∷ []) 4 (negsuc 7538782615507169844) (replicate 95 120) 18446744073709551518 5 ≡ gave (record { rounds = 4; removed = 4; forced = true; stale = false; outcome = Done }) (1 ∷ 1 ∷ 18446744073709551615 ∷ 4 ∷ 5 ∷ 0 ∷ 3 ∷ 95 ∷ replicate 18 0) (97 ∷ 98 ∷ 99 ∷ replicate 95 120 ++ replicate 30 0)
unfolding entries_of decode holds held free_run every any right_lengths value_fits entry_sound none_shared sound refuse check_sound ◌then◌ check_clock clock_checks check_key key_checks memory_of encode flat call dead same key_of key_is found_from look_up deads without put wiped remove remove_oldest sweep_count sweep after_sweep expiry_of entry_for place_at to_front rewrite_at overwrite_at after gone any_live fit_from first_free run searched is_placed if_room evicted forced_by fit_outcome place_fit placed_by place_anew store_over store_item most_rounds boolean_byte number_bytes value_given item_of check_kind takes_nil check_nil too_late check_lifetime store_checks admits delete_found store_admitted store_found store_work store_call
v177_set = refl

-- set: 0, rounds 30, removed 30
pub v178_set : store_call Set (1 ∷ 33 ∷ 0 ∷ 3 ∷ 0 ∷ 32 ∷ 1 ∷ 8 ∷ 0 ∷ 3 ∷ 0 ∷ 31 ∷ 1 ∷ 8 ∷ 0 ∷ 3 ∷ 0 ∷ 30 ∷ 1 ∷ 8 ∷ 0 ∷ 3 ∷ 0 ∷ 29 ∷ 1 ∷ 8 ∷ 0 ∷ 3 ∷ 0 ∷ 28 ∷ 1 ∷ 8 ∷ 0 ∷ 3 ∷ 0 ∷ 27 ∷ 1 ∷ 8 ∷ 0 ∷ 3 ∷ 0 ∷ 26 ∷ 1 ∷ 8 ∷ 0 ∷ 3 ∷ 0 ∷ 25 ∷ 1 ∷ 8 ∷ 0 ∷ 3 ∷ 0 ∷ 24 ∷ 1 ∷ 8 ∷ 0 ∷ 3 ∷ 0 ∷ 23 ∷ 1 ∷ 8 ∷ 0 ∷ 3 ∷ 0 ∷ 22 ∷ 1 ∷ 8 ∷ 0 ∷ 3 ∷ 0 ∷ 21 ∷ 1 ∷ 8 ∷ 0 ∷ 3 ∷ 0 ∷ 20 ∷ 1 ∷ 8 ∷ 0 ∷ 3 ∷ 0 ∷ 19 ∷ 1 ∷ 8 ∷ 0 ∷ 3 ∷ 0 ∷ 18 ∷ 1 ∷ 8 ∷ 0 ∷ 3 ∷ 0 ∷ 17 ∷ 1 ∷ 8 ∷ 0 ∷ 3 ∷ 0 ∷ 16 ∷ 1 ∷ 8 ∷ 0 ∷ 3 ∷ 0 ∷ 15 ∷ 1 ∷ 8 ∷ 0 ∷ 3 ∷ 0 ∷ 14 ∷ 1 ∷ 8 ∷ 0 ∷ 3 ∷ 0 ∷ 13 ∷ 1 ∷ 8 ∷ 0 ∷ 3 ∷ 0 ∷ 12 ∷ 1 ∷ 8 ∷ 0 ∷ 3 ∷ 0 ∷ 11 ∷ 1 ∷ 8 ∷ 0 ∷ 3 ∷ 0 ∷ 10 ∷ 1 ∷ 8 ∷ 0 ∷ 3 ∷ 0 ∷ 9 ∷ 1 ∷ 8 ∷ 0 ∷ 3 ∷ 0 ∷ 8 ∷ 1 ∷ 8 ∷ 0 ∷ 3 ∷ 0 ∷ 7 ∷ 1 ∷ 8 ∷ 0 ∷ 3 ∷ 0 ∷ 6 ∷ 1 ∷ 8 ∷ 0 ∷ 3 ∷ 0 ∷ 5 ∷ 1 ∷ 8 ∷ 0 ∷ 3 ∷ 0 ∷ 4 ∷ 1 ∷ 8 ∷ 0 ∷ 3 ∷ 0 ∷ 3 ∷ 1 ∷ 8 ∷ 0 ∷ 3 ∷ 0 ∷ 2 ∷ 1 ∷ 8 ∷ 0 ∷ 3 ∷ 0 ∷ 1 ∷ 1 ∷ 8 ∷ 0 ∷ 3 ∷ 0 ∷ 0 ∷ 1 ∷ 8 ∷ []) (65 ∷ replicate 31 0 ++ 66 ∷ 1 ∷ replicate 30 0 ++ 67 ∷ 2 ∷ replicate 30 0 ++ 68 ∷ 3 ∷ replicate 30 0 ++ 69 ∷ 4 ∷ replicate 30 0 ++ 70 ∷ 5 ∷ replicate 30 0 ++ 71 ∷ 6 ∷ replicate 30 0 ++ 72 ∷ 7 ∷ replicate 30 0 ++ 73 ∷ 8 ∷ replicate 30 0 ++ 74 ∷ 9 ∷ replicate 30 0 ++ 75 ∷ 10 ∷ replicate 30 0 ++ 76 ∷ 11 ∷ replicate 30 0 ++ 77 ∷ 12 ∷ replicate 30 0 ++ 78 ∷ 13 ∷ replicate 30 0 ++ 79 ∷ 14 ∷ replicate 30 0 ++ 80 ∷ 15 ∷ replicate 30 0 ++ 81 ∷ 16 ∷ replicate 30 0 ++ 82 ∷ 17 ∷ replicate 30 0 ++ 83 ∷ 18 ∷ replicate 30 0 ++ 84 ∷ 19 ∷ replicate 30 0 ++ 85 ∷ 20 ∷ replicate 30 0 ++ 86 ∷ 21 ∷ replicate 30 0 ++ 87 ∷ 22 ∷ replicate 30 0 ++ 88 ∷ 23 ∷ replicate 30 0 ++ 89 ∷ 24 ∷ replicate 30 0 ++ 90 ∷ 25 ∷ replicate 30 0 ++ 91 ∷ 26 ∷ replicate 30 0 ++ 92 ∷ 27 ∷ replicate 30 0 ++ 93 ∷ 28 ∷ replicate 30 0 ++ 94 ∷ 29 ∷ replicate 30 0 ++ 95 ∷ 30 ∷ replicate 30 0 ++ 96 ∷ 31 ∷ replicate 30 0 ++ 97 ∷ 32 ∷ replicate 30 0) 2 (122 ∷ []) 4 (pos 0) (replicate 959 120) 0 0 ≡ gave (record { rounds = 30; removed = 30; forced = true; stale = false; outcome = Done }) (1 ∷ 4 ∷ 0 ∷ 4 ∷ 0 ∷ 0 ∷ 1 ∷ 959 ∷ 0 ∷ 3 ∷ 0 ∷ 32 ∷ 1 ∷ 8 ∷ 0 ∷ 3 ∷ 0 ∷ 31 ∷ 1 ∷ 8 ∷ 0 ∷ 3 ∷ 0 ∷ 30 ∷ 1 ∷ 8 ∷ replicate 174 0) (122 ∷ replicate 959 120 ++ 95 ∷ 30 ∷ replicate 30 0 ++ 96 ∷ 31 ∷ replicate 30 0 ++ 97 ∷ 32 ∷ replicate 30 0)
unfolding entries_of decode holds held free_run every any right_lengths value_fits entry_sound none_shared sound refuse check_sound ◌then◌ check_clock clock_checks check_key key_checks memory_of encode flat call dead same key_of key_is found_from look_up deads without put wiped remove remove_oldest sweep_count sweep after_sweep expiry_of entry_for place_at to_front rewrite_at overwrite_at after gone any_live fit_from first_free run searched is_placed if_room evicted forced_by fit_outcome place_fit placed_by place_anew store_over store_item most_rounds boolean_byte number_bytes value_given item_of check_kind takes_nil check_nil too_late check_lifetime store_checks admits delete_found store_admitted store_found store_work store_call
v178_set = refl

-- set: 12, rounds 0, removed 0
pub v179_set : store_call Set (1 ∷ 33 ∷ 0 ∷ 3 ∷ 0 ∷ 32 ∷ 1 ∷ 8 ∷ 0 ∷ 3 ∷ 0 ∷ 31 ∷ 1 ∷ 8 ∷ 0 ∷ 3 ∷ 0 ∷ 30 ∷ 1 ∷ 8 ∷ 0 ∷ 3 ∷ 0 ∷ 29 ∷ 1 ∷ 8 ∷ 0 ∷ 3 ∷ 0 ∷ 28 ∷ 1 ∷ 8 ∷ 0 ∷ 3 ∷ 0 ∷ 27 ∷ 1 ∷ 8 ∷ 0 ∷ 3 ∷ 0 ∷ 26 ∷ 1 ∷ 8 ∷ 0 ∷ 3 ∷ 0 ∷ 25 ∷ 1 ∷ 8 ∷ 0 ∷ 3 ∷ 0 ∷ 24 ∷ 1 ∷ 8 ∷ 0 ∷ 3 ∷ 0 ∷ 23 ∷ 1 ∷ 8 ∷ 0 ∷ 3 ∷ 0 ∷ 22 ∷ 1 ∷ 8 ∷ 0 ∷ 3 ∷ 0 ∷ 21 ∷ 1 ∷ 8 ∷ 0 ∷ 3 ∷ 0 ∷ 20 ∷ 1 ∷ 8 ∷ 0 ∷ 3 ∷ 0 ∷ 19 ∷ 1 ∷ 8 ∷ 0 ∷ 3 ∷ 0 ∷ 18 ∷ 1 ∷ 8 ∷ 0 ∷ 3 ∷ 0 ∷ 17 ∷ 1 ∷ 8 ∷ 0 ∷ 3 ∷ 0 ∷ 16 ∷ 1 ∷ 8 ∷ 0 ∷ 3 ∷ 0 ∷ 15 ∷ 1 ∷ 8 ∷ 0 ∷ 3 ∷ 0 ∷ 14 ∷ 1 ∷ 8 ∷ 0 ∷ 3 ∷ 0 ∷ 13 ∷ 1 ∷ 8 ∷ 0 ∷ 3 ∷ 0 ∷ 12 ∷ 1 ∷ 8 ∷ 0 ∷ 3 ∷ 0 ∷ 11 ∷ 1 ∷ 8 ∷ 0 ∷ 3 ∷ 0 ∷ 10 ∷ 1 ∷ 8 ∷ 0 ∷ 3 ∷ 0 ∷ 9 ∷ 1 ∷ 8 ∷ 0 ∷ 3 ∷ 0 ∷ 8 ∷ 1 ∷ 8 ∷ 0 ∷ 3 ∷ 0 ∷ 7 ∷ 1 ∷ 8 ∷ 0 ∷ 3 ∷ 0 ∷ 6 ∷ 1 ∷ 8 ∷ 0 ∷ 3 ∷ 0 ∷ 5 ∷ 1 ∷ 8 ∷ 0 ∷ 3 ∷ 0 ∷ 4 ∷ 1 ∷ 8 ∷ 0 ∷ 3 ∷ 0 ∷ 3 ∷ 1 ∷ 8 ∷ 0 ∷ 3 ∷ 0 ∷ 2 ∷ 1 ∷ 8 ∷ 0 ∷ 3 ∷ 0 ∷ 1 ∷ 1 ∷ 8 ∷ 0 ∷ 3 ∷ 0 ∷ 0 ∷ 1 ∷ 8 ∷ []) (65 ∷ replicate 31 0 ++ 66 ∷ 1 ∷ replicate 30 0 ++ 67 ∷ 2 ∷ replicate 30 0 ++ 68 ∷ 3 ∷ replicate 30 0 ++ 69 ∷ 4 ∷ replicate 30 0 ++ 70 ∷ 5 ∷ replicate 30 0 ++ 71 ∷ 6 ∷ replicate 30 0 ++ 72 ∷ 7 ∷ replicate 30 0 ++ 73 ∷ 8 ∷ replicate 30 0 ++ 74 ∷ 9 ∷ replicate 30 0 ++ 75 ∷ 10 ∷ replicate 30 0 ++ 76 ∷ 11 ∷ replicate 30 0 ++ 77 ∷ 12 ∷ replicate 30 0 ++ 78 ∷ 13 ∷ replicate 30 0 ++ 79 ∷ 14 ∷ replicate 30 0 ++ 80 ∷ 15 ∷ replicate 30 0 ++ 81 ∷ 16 ∷ replicate 30 0 ++ 82 ∷ 17 ∷ replicate 30 0 ++ 83 ∷ 18 ∷ replicate 30 0 ++ 84 ∷ 19 ∷ replicate 30 0 ++ 85 ∷ 20 ∷ replicate 30 0 ++ 86 ∷ 21 ∷ replicate 30 0 ++ 87 ∷ 22 ∷ replicate 30 0 ++ 88 ∷ 23 ∷ replicate 30 0 ++ 89 ∷ 24 ∷ replicate 30 0 ++ 90 ∷ 25 ∷ replicate 30 0 ++ 91 ∷ 26 ∷ replicate 30 0 ++ 92 ∷ 27 ∷ replicate 30 0 ++ 93 ∷ 28 ∷ replicate 30 0 ++ 94 ∷ 29 ∷ replicate 30 0 ++ 95 ∷ 30 ∷ replicate 30 0 ++ 96 ∷ 31 ∷ replicate 30 0 ++ 97 ∷ 32 ∷ replicate 30 0) 2 (122 ∷ []) 4 (pos 0) (replicate 991 120) 0 0 ≡ gave (plain NoMemory 0) (1 ∷ 33 ∷ 0 ∷ 3 ∷ 0 ∷ 32 ∷ 1 ∷ 8 ∷ 0 ∷ 3 ∷ 0 ∷ 31 ∷ 1 ∷ 8 ∷ 0 ∷ 3 ∷ 0 ∷ 30 ∷ 1 ∷ 8 ∷ 0 ∷ 3 ∷ 0 ∷ 29 ∷ 1 ∷ 8 ∷ 0 ∷ 3 ∷ 0 ∷ 28 ∷ 1 ∷ 8 ∷ 0 ∷ 3 ∷ 0 ∷ 27 ∷ 1 ∷ 8 ∷ 0 ∷ 3 ∷ 0 ∷ 26 ∷ 1 ∷ 8 ∷ 0 ∷ 3 ∷ 0 ∷ 25 ∷ 1 ∷ 8 ∷ 0 ∷ 3 ∷ 0 ∷ 24 ∷ 1 ∷ 8 ∷ 0 ∷ 3 ∷ 0 ∷ 23 ∷ 1 ∷ 8 ∷ 0 ∷ 3 ∷ 0 ∷ 22 ∷ 1 ∷ 8 ∷ 0 ∷ 3 ∷ 0 ∷ 21 ∷ 1 ∷ 8 ∷ 0 ∷ 3 ∷ 0 ∷ 20 ∷ 1 ∷ 8 ∷ 0 ∷ 3 ∷ 0 ∷ 19 ∷ 1 ∷ 8 ∷ 0 ∷ 3 ∷ 0 ∷ 18 ∷ 1 ∷ 8 ∷ 0 ∷ 3 ∷ 0 ∷ 17 ∷ 1 ∷ 8 ∷ 0 ∷ 3 ∷ 0 ∷ 16 ∷ 1 ∷ 8 ∷ 0 ∷ 3 ∷ 0 ∷ 15 ∷ 1 ∷ 8 ∷ 0 ∷ 3 ∷ 0 ∷ 14 ∷ 1 ∷ 8 ∷ 0 ∷ 3 ∷ 0 ∷ 13 ∷ 1 ∷ 8 ∷ 0 ∷ 3 ∷ 0 ∷ 12 ∷ 1 ∷ 8 ∷ 0 ∷ 3 ∷ 0 ∷ 11 ∷ 1 ∷ 8 ∷ 0 ∷ 3 ∷ 0 ∷ 10 ∷ 1 ∷ 8 ∷ 0 ∷ 3 ∷ 0 ∷ 9 ∷ 1 ∷ 8 ∷ 0 ∷ 3 ∷ 0 ∷ 8 ∷ 1 ∷ 8 ∷ 0 ∷ 3 ∷ 0 ∷ 7 ∷ 1 ∷ 8 ∷ 0 ∷ 3 ∷ 0 ∷ 6 ∷ 1 ∷ 8 ∷ 0 ∷ 3 ∷ 0 ∷ 5 ∷ 1 ∷ 8 ∷ 0 ∷ 3 ∷ 0 ∷ 4 ∷ 1 ∷ 8 ∷ 0 ∷ 3 ∷ 0 ∷ 3 ∷ 1 ∷ 8 ∷ 0 ∷ 3 ∷ 0 ∷ 2 ∷ 1 ∷ 8 ∷ 0 ∷ 3 ∷ 0 ∷ 1 ∷ 1 ∷ 8 ∷ 0 ∷ 3 ∷ 0 ∷ 0 ∷ 1 ∷ 8 ∷ []) (65 ∷ replicate 31 0 ++ 66 ∷ 1 ∷ replicate 30 0 ++ 67 ∷ 2 ∷ replicate 30 0 ++ 68 ∷ 3 ∷ replicate 30 0 ++ 69 ∷ 4 ∷ replicate 30 0 ++ 70 ∷ 5 ∷ replicate 30 0 ++ 71 ∷ 6 ∷ replicate 30 0 ++ 72 ∷ 7 ∷ replicate 30 0 ++ 73 ∷ 8 ∷ replicate 30 0 ++ 74 ∷ 9 ∷ replicate 30 0 ++ 75 ∷ 10 ∷ replicate 30 0 ++ 76 ∷ 11 ∷ replicate 30 0 ++ 77 ∷ 12 ∷ replicate 30 0 ++ 78 ∷ 13 ∷ replicate 30 0 ++ 79 ∷ 14 ∷ replicate 30 0 ++ 80 ∷ 15 ∷ replicate 30 0 ++ 81 ∷ 16 ∷ replicate 30 0 ++ 82 ∷ 17 ∷ replicate 30 0 ++ 83 ∷ 18 ∷ replicate 30 0 ++ 84 ∷ 19 ∷ replicate 30 0 ++ 85 ∷ 20 ∷ replicate 30 0 ++ 86 ∷ 21 ∷ replicate 30 0 ++ 87 ∷ 22 ∷ replicate 30 0 ++ 88 ∷ 23 ∷ replicate 30 0 ++ 89 ∷ 24 ∷ replicate 30 0 ++ 90 ∷ 25 ∷ replicate 30 0 ++ 91 ∷ 26 ∷ replicate 30 0 ++ 92 ∷ 27 ∷ replicate 30 0 ++ 93 ∷ 28 ∷ replicate 30 0 ++ 94 ∷ 29 ∷ replicate 30 0 ++ 95 ∷ 30 ∷ replicate 30 0 ++ 96 ∷ 31 ∷ replicate 30 0 ++ 97 ∷ 32 ∷ replicate 30 0)
unfolding entries_of decode holds held free_run every any right_lengths value_fits entry_sound none_shared sound refuse check_sound ◌then◌ check_clock clock_checks check_key key_checks memory_of encode flat call dead same key_of key_is found_from look_up deads without put wiped remove remove_oldest sweep_count sweep after_sweep expiry_of entry_for place_at to_front rewrite_at overwrite_at after gone any_live fit_from first_free run searched is_placed if_room evicted forced_by fit_outcome place_fit placed_by place_anew store_over store_item most_rounds boolean_byte number_bytes value_given item_of check_kind takes_nil check_nil too_late check_lifetime store_checks admits delete_found store_admitted store_found store_work store_call
v179_set = refl

-- set: 12, rounds 0, removed 0
pub v180_set : store_call Set (1 ∷ 3 ∷ 0 ∷ 4 ∷ 5 ∷ 2 ∷ 1 ∷ 33 ∷ 0 ∷ 3 ∷ 5 ∷ 1 ∷ 1 ∷ 8 ∷ 0 ∷ 1 ∷ 5 ∷ 0 ∷ 1 ∷ 1 ∷ replicate 6 0) (97 ∷ 1 ∷ replicate 30 0 ++ 98 ∷ 120 ∷ 55 ∷ replicate 29 0 ++ 99 ∷ replicate 33 120 ++ replicate 30 0) 2 (replicate 65535 107) 3 (pos 0) [] 0 0 ≡ gave (plain NoMemory 0) (1 ∷ 3 ∷ 0 ∷ 4 ∷ 5 ∷ 2 ∷ 1 ∷ 33 ∷ 0 ∷ 3 ∷ 5 ∷ 1 ∷ 1 ∷ 8 ∷ 0 ∷ 1 ∷ 5 ∷ 0 ∷ 1 ∷ 1 ∷ replicate 6 0) (97 ∷ 1 ∷ replicate 30 0 ++ 98 ∷ 120 ∷ 55 ∷ replicate 29 0 ++ 99 ∷ replicate 33 120 ++ replicate 30 0)
unfolding entries_of decode holds held free_run every any right_lengths value_fits entry_sound none_shared sound refuse check_sound ◌then◌ check_clock clock_checks check_key key_checks memory_of encode flat call dead same key_of key_is found_from look_up deads without put wiped remove remove_oldest sweep_count sweep after_sweep expiry_of entry_for place_at to_front rewrite_at overwrite_at after gone any_live fit_from first_free run searched is_placed if_room evicted forced_by fit_outcome place_fit placed_by place_anew store_over store_item most_rounds boolean_byte number_bytes value_given item_of check_kind takes_nil check_nil too_late check_lifetime store_checks admits delete_found store_admitted store_found store_work store_call
v180_set = refl

-- safe_set: 0, rounds 0, removed 1
pub v181_safe_set : store_call SafeSet (1 ∷ 1 ∷ 1 ∷ 1 ∷ 5 ∷ 0 ∷ 2 ∷ 1 ∷ replicate 6 0) (97 ∷ 98 ∷ 1 ∷ replicate 61 7) 76 (97 ∷ 98 ∷ 99 ∷ []) 3 (negsuc 0) (replicate 60 120) 0 5 ≡ gave (plain Done 1) (1 ∷ 1 ∷ 0 ∷ 3 ∷ 5 ∷ 0 ∷ 3 ∷ 8 ∷ replicate 6 0) (97 ∷ 98 ∷ 99 ∷ replicate 8 255 ++ replicate 21 0 ++ replicate 32 7)
unfolding entries_of decode holds held free_run every any right_lengths value_fits entry_sound none_shared sound refuse check_sound ◌then◌ check_clock clock_checks check_key key_checks memory_of encode flat call dead same key_of key_is found_from look_up deads without put wiped remove remove_oldest sweep_count sweep after_sweep expiry_of entry_for place_at to_front rewrite_at overwrite_at after gone any_live fit_from first_free run searched is_placed if_room evicted forced_by fit_outcome place_fit placed_by place_anew store_over store_item most_rounds boolean_byte number_bytes value_given item_of check_kind takes_nil check_nil too_late check_lifetime store_checks admits delete_found store_admitted store_found store_work store_call
v181_safe_set = refl

-- safe_set: 2, rounds 0, removed 0
pub v182_safe_set : store_call SafeSet (1 ∷ 2 ∷ 0 ∷ 1 ∷ 4294967295 ∷ 1 ∷ 3 ∷ 1 ∷ 0 ∷ 1 ∷ 5 ∷ 0 ∷ 1 ∷ 1 ∷ []) (99 ∷ 1 ∷ replicate 30 0 ++ 97 ∷ 98 ∷ 99 ∷ 1 ∷ replicate 28 0) 0 [] 3 (negsuc 92680) (replicate 8 120) 0 5 ≡ gave (plain ClockZero 0) (1 ∷ 2 ∷ 0 ∷ 1 ∷ 4294967295 ∷ 1 ∷ 3 ∷ 1 ∷ 0 ∷ 1 ∷ 5 ∷ 0 ∷ 1 ∷ 1 ∷ []) (99 ∷ 1 ∷ replicate 30 0 ++ 97 ∷ 98 ∷ 99 ∷ 1 ∷ replicate 28 0)
unfolding entries_of decode holds held free_run every any right_lengths value_fits entry_sound none_shared sound refuse check_sound ◌then◌ check_clock clock_checks check_key key_checks memory_of encode flat call dead same key_of key_is found_from look_up deads without put wiped remove remove_oldest sweep_count sweep after_sweep expiry_of entry_for place_at to_front rewrite_at overwrite_at after gone any_live fit_from first_free run searched is_placed if_room evicted forced_by fit_outcome place_fit placed_by place_anew store_over store_item most_rounds boolean_byte number_bytes value_given item_of check_kind takes_nil check_nil too_late check_lifetime store_checks admits delete_found store_admitted store_found store_work store_call
v182_safe_set = refl

-- safe_set: 7, rounds 0, removed 0
pub v183_safe_set : store_call SafeSet (1 ∷ 1 ∷ 0 ∷ 3 ∷ 4294967295 ∷ 0 ∷ 3 ∷ 8 ∷ replicate 6 0) (97 ∷ 98 ∷ 99 ∷ 12 ∷ 155 ∷ 254 ∷ replicate 5 255 ++ replicate 53 7) 112 (replicate 40 107) 3 (pos 33141) (replicate 100 120) 18446744073709551504 0 ≡ gave (plain ExpiryTooLate 0) (1 ∷ 1 ∷ 0 ∷ 3 ∷ 4294967295 ∷ 0 ∷ 3 ∷ 8 ∷ replicate 6 0) (97 ∷ 98 ∷ 99 ∷ 12 ∷ 155 ∷ 254 ∷ replicate 5 255 ++ replicate 53 7)
unfolding entries_of decode holds held free_run every any right_lengths value_fits entry_sound none_shared sound refuse check_sound ◌then◌ check_clock clock_checks check_key key_checks memory_of encode flat call dead same key_of key_is found_from look_up deads without put wiped remove remove_oldest sweep_count sweep after_sweep expiry_of entry_for place_at to_front rewrite_at overwrite_at after gone any_live fit_from first_free run searched is_placed if_room evicted forced_by fit_outcome place_fit placed_by place_anew store_over store_item most_rounds boolean_byte number_bytes value_given item_of check_kind takes_nil check_nil too_late check_lifetime store_checks admits delete_found store_admitted store_found store_work store_call
v183_safe_set = refl

-- safe_set: 5, rounds 0, removed 0
pub v184_safe_set : store_call SafeSet (1 ∷ 1 ∷ 1 ∷ 1 ∷ 0 ∷ 0 ∷ 40 ∷ 1 ∷ replicate 18 0) (replicate 40 107 ++ 1 ∷ replicate 87 7) 78 (97 ∷ 98 ∷ []) 255 (negsuc 26809) (replicate 30 120) 18446744073709551537 5 ≡ gave (plain KindUnknown 0) (1 ∷ 1 ∷ 1 ∷ 1 ∷ 0 ∷ 0 ∷ 40 ∷ 1 ∷ replicate 18 0) (replicate 40 107 ++ 1 ∷ replicate 87 7)
unfolding entries_of decode holds held free_run every any right_lengths value_fits entry_sound none_shared sound refuse check_sound ◌then◌ check_clock clock_checks check_key key_checks memory_of encode flat call dead same key_of key_is found_from look_up deads without put wiped remove remove_oldest sweep_count sweep after_sweep expiry_of entry_for place_at to_front rewrite_at overwrite_at after gone any_live fit_from first_free run searched is_placed if_room evicted forced_by fit_outcome place_fit placed_by place_anew store_over store_item most_rounds boolean_byte number_bytes value_given item_of check_kind takes_nil check_nil too_late check_lifetime store_checks admits delete_found store_admitted store_found store_work store_call
v184_safe_set = refl

-- safe_set: 1, rounds 0, removed 0
pub v185_safe_set : store_call SafeSet (1 ∷ 1 ∷ 0 ∷ 3 ∷ 0 ∷ 0 ∷ 2 ∷ 8 ∷ 0 ∷ []) (98 ∷ 97 ∷ 211 ∷ 191 ∷ 219 ∷ 139 ∷ 3 ∷ 100 ∷ 176 ∷ 0 ∷ replicate 22 7) 143 (97 ∷ 98 ∷ 99 ∷ []) 0 (pos 801) (replicate 95 120) 30 4294967295 ≡ gave (plain NotSound 0) (1 ∷ 1 ∷ 0 ∷ 3 ∷ 0 ∷ 0 ∷ 2 ∷ 8 ∷ 0 ∷ []) (98 ∷ 97 ∷ 211 ∷ 191 ∷ 219 ∷ 139 ∷ 3 ∷ 100 ∷ 176 ∷ 0 ∷ replicate 22 7)
unfolding entries_of decode holds held free_run every any right_lengths value_fits entry_sound none_shared sound refuse check_sound ◌then◌ check_clock clock_checks check_key key_checks memory_of encode flat call dead same key_of key_is found_from look_up deads without put wiped remove remove_oldest sweep_count sweep after_sweep expiry_of entry_for place_at to_front rewrite_at overwrite_at after gone any_live fit_from first_free run searched is_placed if_room evicted forced_by fit_outcome place_fit placed_by place_anew store_over store_item most_rounds boolean_byte number_bytes value_given item_of check_kind takes_nil check_nil too_late check_lifetime store_checks admits delete_found store_admitted store_found store_work store_call
v185_safe_set = refl

-- safe_set: 0, rounds 0, removed 0
pub v186_safe_set : store_call SafeSet (1 ∷ 1 ∷ 0 ∷ 4 ∷ 4294967295 ∷ 0 ∷ 2 ∷ 30 ∷ []) (97 ∷ 98 ∷ replicate 30 120) 69 (97 ∷ 98 ∷ []) 3 (negsuc 1304) (replicate 31 120) 0 4294967295 ≡ gave (plain Done 0) (1 ∷ 1 ∷ 0 ∷ 3 ∷ 4294967295 ∷ 0 ∷ 2 ∷ 8 ∷ []) (97 ∷ 98 ∷ 231 ∷ 250 ∷ replicate 6 255 ++ replicate 22 0)
unfolding entries_of decode holds held free_run every any right_lengths value_fits entry_sound none_shared sound refuse check_sound ◌then◌ check_clock clock_checks check_key key_checks memory_of encode flat call dead same key_of key_is found_from look_up deads without put wiped remove remove_oldest sweep_count sweep after_sweep expiry_of entry_for place_at to_front rewrite_at overwrite_at after gone any_live fit_from first_free run searched is_placed if_room evicted forced_by fit_outcome place_fit placed_by place_anew store_over store_item most_rounds boolean_byte number_bytes value_given item_of check_kind takes_nil check_nil too_late check_lifetime store_checks admits delete_found store_admitted store_found store_work store_call
v186_safe_set = refl

-- safe_set: 12, rounds 0, removed 0
pub v187_safe_set : store_call SafeSet (1 ∷ 2 ∷ 0 ∷ 4 ∷ 5 ∷ 1 ∷ 2 ∷ 40 ∷ 135 ∷ 3 ∷ 5 ∷ 0 ∷ 3 ∷ 8 ∷ replicate 12 0) (97 ∷ 98 ∷ 99 ∷ 40 ∷ 136 ∷ replicate 27 0 ++ 97 ∷ 98 ∷ replicate 40 120 ++ replicate 54 0) 100 (98 ∷ 97 ∷ []) 4 (negsuc 0) (replicate 33 120) 0 0 ≡ gave (plain NoMemory 0) (1 ∷ 2 ∷ 0 ∷ 4 ∷ 5 ∷ 1 ∷ 2 ∷ 40 ∷ 135 ∷ 3 ∷ 5 ∷ 0 ∷ 3 ∷ 8 ∷ replicate 12 0) (97 ∷ 98 ∷ 99 ∷ 40 ∷ 136 ∷ replicate 27 0 ++ 97 ∷ 98 ∷ replicate 40 120 ++ replicate 54 0)
unfolding entries_of decode holds held free_run every any right_lengths value_fits entry_sound none_shared sound refuse check_sound ◌then◌ check_clock clock_checks check_key key_checks memory_of encode flat call dead same key_of key_is found_from look_up deads without put wiped remove remove_oldest sweep_count sweep after_sweep expiry_of entry_for place_at to_front rewrite_at overwrite_at after gone any_live fit_from first_free run searched is_placed if_room evicted forced_by fit_outcome place_fit placed_by place_anew store_over store_item most_rounds boolean_byte number_bytes value_given item_of check_kind takes_nil check_nil too_late check_lifetime store_checks admits delete_found store_admitted store_found store_work store_call
v187_safe_set = refl

-- safe_set: 12, rounds 0, removed 1
pub v188_safe_set : store_call SafeSet (1 ∷ 1 ∷ 75 ∷ 3 ∷ 0 ∷ 0 ∷ 1 ∷ 8 ∷ replicate 6 0) (100 ∷ 17 ∷ 149 ∷ replicate 6 255 ++ replicate 55 0) 89 (98 ∷ 97 ∷ []) 4 (pos 27248) (replicate 63 120) 0 4294967295 ≡ gave (plain NoMemory 1) (1 ∷ replicate 13 0) (replicate 64 0)
unfolding entries_of decode holds held free_run every any right_lengths value_fits entry_sound none_shared sound refuse check_sound ◌then◌ check_clock clock_checks check_key key_checks memory_of encode flat call dead same key_of key_is found_from look_up deads without put wiped remove remove_oldest sweep_count sweep after_sweep expiry_of entry_for place_at to_front rewrite_at overwrite_at after gone any_live fit_from first_free run searched is_placed if_room evicted forced_by fit_outcome place_fit placed_by place_anew store_over store_item most_rounds boolean_byte number_bytes value_given item_of check_kind takes_nil check_nil too_late check_lifetime store_checks admits delete_found store_admitted store_found store_work store_call
v188_safe_set = refl

-- safe_set: 0, rounds 0, removed 1
pub v189_safe_set : store_call SafeSet (1 ∷ 2 ∷ 0 ∷ 3 ∷ 0 ∷ 1 ∷ 2 ∷ 8 ∷ 61 ∷ 3 ∷ 4294967295 ∷ 0 ∷ 1 ∷ 8 ∷ replicate 12 0) (99 ∷ 213 ∷ 90 ∷ 1 ∷ replicate 5 0 ++ replicate 23 7 ++ 98 ∷ 97 ∷ 10 ∷ 178 ∷ replicate 6 0 ++ replicate 86 7) 71 (98 ∷ []) 4 (negsuc 3906629363706921844) (replicate 33 120) 0 5 ≡ gave (plain Done 1) (1 ∷ 2 ∷ 0 ∷ 4 ∷ 5 ∷ 2 ∷ 1 ∷ 33 ∷ 0 ∷ 3 ∷ 0 ∷ 1 ∷ 2 ∷ 8 ∷ replicate 12 0) (replicate 32 0 ++ 98 ∷ 97 ∷ 10 ∷ 178 ∷ replicate 6 0 ++ replicate 22 7 ++ 98 ∷ replicate 33 120 ++ replicate 30 7)
unfolding entries_of decode holds held free_run every any right_lengths value_fits entry_sound none_shared sound refuse check_sound ◌then◌ check_clock clock_checks check_key key_checks memory_of encode flat call dead same key_of key_is found_from look_up deads without put wiped remove remove_oldest sweep_count sweep after_sweep expiry_of entry_for place_at to_front rewrite_at overwrite_at after gone any_live fit_from first_free run searched is_placed if_room evicted forced_by fit_outcome place_fit placed_by place_anew store_over store_item most_rounds boolean_byte number_bytes value_given item_of check_kind takes_nil check_nil too_late check_lifetime store_checks admits delete_found store_admitted store_found store_work store_call
v189_safe_set = refl

-- safe_set: 1, rounds 0, removed 0
pub v190_safe_set : store_call SafeSet (1 ∷ 1 ∷ 163 ∷ 1 ∷ 4294967295 ∷ 0 ∷ 1 ∷ 1 ∷ 0 ∷ 0 ∷ 0 ∷ 9223372036854775808 ∷ 0 ∷ 0 ∷ []) (100 ∷ 1 ∷ replicate 62 0) 153 (98 ∷ 97 ∷ []) 255 (pos 36870) (replicate 95 120) 5 5 ≡ gave (plain NotSound 0) (1 ∷ 1 ∷ 163 ∷ 1 ∷ 4294967295 ∷ 0 ∷ 1 ∷ 1 ∷ 0 ∷ 0 ∷ 0 ∷ 9223372036854775808 ∷ 0 ∷ 0 ∷ []) (100 ∷ 1 ∷ replicate 62 0)
unfolding entries_of decode holds held free_run every any right_lengths value_fits entry_sound none_shared sound refuse check_sound ◌then◌ check_clock clock_checks check_key key_checks memory_of encode flat call dead same key_of key_is found_from look_up deads without put wiped remove remove_oldest sweep_count sweep after_sweep expiry_of entry_for place_at to_front rewrite_at overwrite_at after gone any_live fit_from first_free run searched is_placed if_room evicted forced_by fit_outcome place_fit placed_by place_anew store_over store_item most_rounds boolean_byte number_bytes value_given item_of check_kind takes_nil check_nil too_late check_lifetime store_checks admits delete_found store_admitted store_found store_work store_call
v190_safe_set = refl

-- safe_set: 0, rounds 0, removed 0
pub v191_safe_set : store_call SafeSet (1 ∷ replicate 25 0) (replicate 128 7) 152 (98 ∷ 97 ∷ []) 1 (pos 3309321439205453567) (replicate 40 120) 0 4294967295 ≡ gave (plain Done 0) (1 ∷ 1 ∷ 0 ∷ 1 ∷ 4294967295 ∷ 0 ∷ 2 ∷ 1 ∷ replicate 18 0) (98 ∷ 97 ∷ 1 ∷ replicate 125 7)
unfolding entries_of decode holds held free_run every any right_lengths value_fits entry_sound none_shared sound refuse check_sound ◌then◌ check_clock clock_checks check_key key_checks memory_of encode flat call dead same key_of key_is found_from look_up deads without put wiped remove remove_oldest sweep_count sweep after_sweep expiry_of entry_for place_at to_front rewrite_at overwrite_at after gone any_live fit_from first_free run searched is_placed if_room evicted forced_by fit_outcome place_fit placed_by place_anew store_over store_item most_rounds boolean_byte number_bytes value_given item_of check_kind takes_nil check_nil too_late check_lifetime store_checks admits delete_found store_admitted store_found store_work store_call
v191_safe_set = refl

-- safe_set: 12, rounds 0, removed 0
pub v192_safe_set : store_call SafeSet (1 ∷ 1 ∷ 0 ∷ 3 ∷ 5 ∷ 0 ∷ 1 ∷ 8 ∷ []) (97 ∷ 218 ∷ 94 ∷ 151 ∷ 200 ∷ 172 ∷ 28 ∷ 241 ∷ 234 ∷ replicate 23 7) 98 (replicate 40 107) 3 (pos 6130789173501010463) (replicate 95 120) 18446744073709551517 4294967295 ≡ gave (plain NoMemory 0) (1 ∷ 1 ∷ 0 ∷ 3 ∷ 5 ∷ 0 ∷ 1 ∷ 8 ∷ []) (97 ∷ 218 ∷ 94 ∷ 151 ∷ 200 ∷ 172 ∷ 28 ∷ 241 ∷ 234 ∷ replicate 23 7)
unfolding entries_of decode holds held free_run every any right_lengths value_fits entry_sound none_shared sound refuse check_sound ◌then◌ check_clock clock_checks check_key key_checks memory_of encode flat call dead same key_of key_is found_from look_up deads without put wiped remove remove_oldest sweep_count sweep after_sweep expiry_of entry_for place_at to_front rewrite_at overwrite_at after gone any_live fit_from first_free run searched is_placed if_room evicted forced_by fit_outcome place_fit placed_by place_anew store_over store_item most_rounds boolean_byte number_bytes value_given item_of check_kind takes_nil check_nil too_late check_lifetime store_checks admits delete_found store_admitted store_found store_work store_call
v192_safe_set = refl

-- safe_set: 0, rounds 0, removed 2
pub v193_safe_set : store_call SafeSet (1 ∷ 2 ∷ 118 ∷ 4 ∷ 4294967295 ∷ 1 ∷ 1 ∷ 8 ∷ 138 ∷ 3 ∷ 4294967295 ∷ 0 ∷ 1 ∷ 8 ∷ replicate 12 0) (99 ∷ 62 ∷ 2 ∷ replicate 6 0 ++ replicate 23 7 ++ 97 ∷ replicate 8 120 ++ replicate 23 0 ++ replicate 64 7) 158 (99 ∷ []) 3 (pos 0) (replicate 100 120) 0 4294967295 ≡ gave (plain Done 2) (1 ∷ 1 ∷ 0 ∷ 3 ∷ 4294967295 ∷ 0 ∷ 1 ∷ 8 ∷ replicate 18 0) (99 ∷ replicate 63 0 ++ replicate 64 7)
unfolding entries_of decode holds held free_run every any right_lengths value_fits entry_sound none_shared sound refuse check_sound ◌then◌ check_clock clock_checks check_key key_checks memory_of encode flat call dead same key_of key_is found_from look_up deads without put wiped remove remove_oldest sweep_count sweep after_sweep expiry_of entry_for place_at to_front rewrite_at overwrite_at after gone any_live fit_from first_free run searched is_placed if_room evicted forced_by fit_outcome place_fit placed_by place_anew store_over store_item most_rounds boolean_byte number_bytes value_given item_of check_kind takes_nil check_nil too_late check_lifetime store_checks admits delete_found store_admitted store_found store_work store_call
v193_safe_set = refl

-- safe_set: 12, rounds 0, removed 0
pub v194_safe_set : store_call SafeSet (1 ∷ 3 ∷ 0 ∷ 4 ∷ 5 ∷ 3 ∷ 1 ∷ 8 ∷ 0 ∷ 4 ∷ 0 ∷ 0 ∷ 2 ∷ 60 ∷ 132 ∷ 1 ∷ 4294967295 ∷ 2 ∷ 1 ∷ 1 ∷ replicate 6 0) (97 ∷ 98 ∷ replicate 60 120 ++ 0 ∷ 0 ∷ 98 ∷ 1 ∷ replicate 30 0 ++ 99 ∷ replicate 8 120 ++ replicate 23 0) 93 (99 ∷ []) 4 (negsuc 99785) (replicate 33 120) 30 4294967295 ≡ gave (plain NoMemory 0) (1 ∷ 2 ∷ 0 ∷ 4 ∷ 0 ∷ 0 ∷ 2 ∷ 60 ∷ 132 ∷ 1 ∷ 4294967295 ∷ 2 ∷ 1 ∷ 1 ∷ replicate 12 0) (97 ∷ 98 ∷ replicate 60 120 ++ 0 ∷ 0 ∷ 98 ∷ 1 ∷ replicate 62 0)
unfolding entries_of decode holds held free_run every any right_lengths value_fits entry_sound none_shared sound refuse check_sound ◌then◌ check_clock clock_checks check_key key_checks memory_of encode flat call dead same key_of key_is found_from look_up deads without put wiped remove remove_oldest sweep_count sweep after_sweep expiry_of entry_for place_at to_front rewrite_at overwrite_at after gone any_live fit_from first_free run searched is_placed if_room evicted forced_by fit_outcome place_fit placed_by place_anew store_over store_item most_rounds boolean_byte number_bytes value_given item_of check_kind takes_nil check_nil too_late check_lifetime store_checks admits delete_found store_admitted store_found store_work store_call
v194_safe_set = refl

-- safe_set: 0, rounds 0, removed 0
pub v195_safe_set : store_call SafeSet (1 ∷ 1 ∷ 0 ∷ 4 ∷ 4294967295 ∷ 0 ∷ 1 ∷ 20 ∷ replicate 18 0) (100 ∷ replicate 20 120 ++ replicate 107 0) 116 (97 ∷ 98 ∷ []) 3 (pos 9223372036854775806) (replicate 100 120) 30 5 ≡ gave (plain Done 0) (1 ∷ 2 ∷ 146 ∷ 3 ∷ 5 ∷ 1 ∷ 2 ∷ 8 ∷ 0 ∷ 4 ∷ 4294967295 ∷ 0 ∷ 1 ∷ 20 ∷ replicate 12 0) (100 ∷ replicate 20 120 ++ replicate 11 0 ++ 97 ∷ 98 ∷ 254 ∷ replicate 6 255 ++ 127 ∷ replicate 86 0)
unfolding entries_of decode holds held free_run every any right_lengths value_fits entry_sound none_shared sound refuse check_sound ◌then◌ check_clock clock_checks check_key key_checks memory_of encode flat call dead same key_of key_is found_from look_up deads without put wiped remove remove_oldest sweep_count sweep after_sweep expiry_of entry_for place_at to_front rewrite_at overwrite_at after gone any_live fit_from first_free run searched is_placed if_room evicted forced_by fit_outcome place_fit placed_by place_anew store_over store_item most_rounds boolean_byte number_bytes value_given item_of check_kind takes_nil check_nil too_late check_lifetime store_checks admits delete_found store_admitted store_found store_work store_call
v195_safe_set = refl

-- safe_set: 3, rounds 0, removed 0
pub v196_safe_set : store_call SafeSet (1 ∷ 1 ∷ 0 ∷ 4 ∷ 5 ∷ 0 ∷ 2 ∷ 40 ∷ replicate 18 0) (98 ∷ 97 ∷ replicate 40 120 ++ replicate 86 0) 130 [] 255 (pos 40957) [] 18446744073709551485 5 ≡ gave (plain KeyEmpty 0) (1 ∷ 1 ∷ 0 ∷ 4 ∷ 5 ∷ 0 ∷ 2 ∷ 40 ∷ replicate 18 0) (98 ∷ 97 ∷ replicate 40 120 ++ replicate 86 0)
unfolding entries_of decode holds held free_run every any right_lengths value_fits entry_sound none_shared sound refuse check_sound ◌then◌ check_clock clock_checks check_key key_checks memory_of encode flat call dead same key_of key_is found_from look_up deads without put wiped remove remove_oldest sweep_count sweep after_sweep expiry_of entry_for place_at to_front rewrite_at overwrite_at after gone any_live fit_from first_free run searched is_placed if_room evicted forced_by fit_outcome place_fit placed_by place_anew store_over store_item most_rounds boolean_byte number_bytes value_given item_of check_kind takes_nil check_nil too_late check_lifetime store_checks admits delete_found store_admitted store_found store_work store_call
v196_safe_set = refl

-- safe_set: 0, rounds 0, removed 1
pub v197_safe_set : store_call SafeSet (1 ∷ 1 ∷ 78 ∷ 3 ∷ 4294967295 ∷ 0 ∷ 1 ∷ 8 ∷ replicate 18 0) (100 ∷ 190 ∷ 15 ∷ replicate 6 255 ++ replicate 119 0) 18446744073709551615 (replicate 40 107) 1 (negsuc 0) [] 0 4294967295 ≡ gave (plain Done 1) (1 ∷ 1 ∷ 0 ∷ 1 ∷ 4294967295 ∷ 0 ∷ 40 ∷ 1 ∷ replicate 18 0) (replicate 40 107 ++ 1 ∷ replicate 87 0)
unfolding entries_of decode holds held free_run every any right_lengths value_fits entry_sound none_shared sound refuse check_sound ◌then◌ check_clock clock_checks check_key key_checks memory_of encode flat call dead same key_of key_is found_from look_up deads without put wiped remove remove_oldest sweep_count sweep after_sweep expiry_of entry_for place_at to_front rewrite_at overwrite_at after gone any_live fit_from first_free run searched is_placed if_room evicted forced_by fit_outcome place_fit placed_by place_anew store_over store_item most_rounds boolean_byte number_bytes value_given item_of check_kind takes_nil check_nil too_late check_lifetime store_checks admits delete_found store_admitted store_found store_work store_call
v197_safe_set = refl

-- safe_set: 12, rounds 0, removed 2
pub v198_safe_set : store_call SafeSet (1 ∷ 3 ∷ 95 ∷ 4 ∷ 5 ∷ 2 ∷ 1 ∷ 0 ∷ 131 ∷ 1 ∷ 4294967295 ∷ 1 ∷ 2 ∷ 1 ∷ 89 ∷ 3 ∷ 0 ∷ 0 ∷ 2 ∷ 8 ∷ replicate 6 0) (97 ∷ 98 ∷ 224 ∷ 59 ∷ replicate 28 0 ++ 98 ∷ 97 ∷ 1 ∷ replicate 29 0 ++ 97 ∷ replicate 63 0) 139 (98 ∷ []) 4 (negsuc 31120) (replicate 95 120) 30 0 ≡ gave (plain NoMemory 2) (1 ∷ 1 ∷ 95 ∷ 4 ∷ 5 ∷ 2 ∷ 1 ∷ replicate 19 0) (replicate 64 0 ++ 97 ∷ replicate 63 0)
unfolding entries_of decode holds held free_run every any right_lengths value_fits entry_sound none_shared sound refuse check_sound ◌then◌ check_clock clock_checks check_key key_checks memory_of encode flat call dead same key_of key_is found_from look_up deads without put wiped remove remove_oldest sweep_count sweep after_sweep expiry_of entry_for place_at to_front rewrite_at overwrite_at after gone any_live fit_from first_free run searched is_placed if_room evicted forced_by fit_outcome place_fit placed_by place_anew store_over store_item most_rounds boolean_byte number_bytes value_given item_of check_kind takes_nil check_nil too_late check_lifetime store_checks admits delete_found store_admitted store_found store_work store_call
v198_safe_set = refl

-- safe_set: 12, rounds 0, removed 0
pub v199_safe_set : store_call SafeSet (1 ∷ replicate 7 0) (replicate 32 0) 117 (100 ∷ []) 4 (pos 38776) (replicate 100 120) 5 4294967295 ≡ gave (plain NoMemory 0) (1 ∷ replicate 7 0) (replicate 32 0)
unfolding entries_of decode holds held free_run every any right_lengths value_fits entry_sound none_shared sound refuse check_sound ◌then◌ check_clock clock_checks check_key key_checks memory_of encode flat call dead same key_of key_is found_from look_up deads without put wiped remove remove_oldest sweep_count sweep after_sweep expiry_of entry_for place_at to_front rewrite_at overwrite_at after gone any_live fit_from first_free run searched is_placed if_room evicted forced_by fit_outcome place_fit placed_by place_anew store_over store_item most_rounds boolean_byte number_bytes value_given item_of check_kind takes_nil check_nil too_late check_lifetime store_checks admits delete_found store_admitted store_found store_work store_call
v199_safe_set = refl

-- safe_set: 0, rounds 0, removed 0
pub v200_safe_set : store_call SafeSet (1 ∷ replicate 13 0) (replicate 64 7) 91 (97 ∷ []) 3 (pos 81236) (120 ∷ []) 30 0 ≡ gave (plain Done 0) (1 ∷ 1 ∷ 121 ∷ 3 ∷ 0 ∷ 0 ∷ 1 ∷ 8 ∷ replicate 6 0) (97 ∷ 84 ∷ 61 ∷ 1 ∷ replicate 5 0 ++ replicate 55 7)
unfolding entries_of decode holds held free_run every any right_lengths value_fits entry_sound none_shared sound refuse check_sound ◌then◌ check_clock clock_checks check_key key_checks memory_of encode flat call dead same key_of key_is found_from look_up deads without put wiped remove remove_oldest sweep_count sweep after_sweep expiry_of entry_for place_at to_front rewrite_at overwrite_at after gone any_live fit_from first_free run searched is_placed if_room evicted forced_by fit_outcome place_fit placed_by place_anew store_over store_item most_rounds boolean_byte number_bytes value_given item_of check_kind takes_nil check_nil too_late check_lifetime store_checks admits delete_found store_admitted store_found store_work store_call
v200_safe_set = refl

-- safe_set: 0, rounds 0, removed 1
pub v201_safe_set : store_call SafeSet (1 ∷ 1 ∷ 113 ∷ 3 ∷ 0 ∷ 0 ∷ 1 ∷ 8 ∷ []) (97 ∷ replicate 7 0 ++ 128 ∷ replicate 23 0) 153 (97 ∷ []) 4 (pos 6574551724720500114) (120 ∷ []) 30 0 ≡ gave (plain Done 1) (1 ∷ 1 ∷ 183 ∷ 4 ∷ 0 ∷ 0 ∷ 1 ∷ 1 ∷ []) (97 ∷ 120 ∷ replicate 30 0)
unfolding entries_of decode holds held free_run every any right_lengths value_fits entry_sound none_shared sound refuse check_sound ◌then◌ check_clock clock_checks check_key key_checks memory_of encode flat call dead same key_of key_is found_from look_up deads without put wiped remove remove_oldest sweep_count sweep after_sweep expiry_of entry_for place_at to_front rewrite_at overwrite_at after gone any_live fit_from first_free run searched is_placed if_room evicted forced_by fit_outcome place_fit placed_by place_anew store_over store_item most_rounds boolean_byte number_bytes value_given item_of check_kind takes_nil check_nil too_late check_lifetime store_checks admits delete_found store_admitted store_found store_work store_call
v201_safe_set = refl

-- safe_set: 12, rounds 0, removed 0
pub v202_safe_set : store_call SafeSet (1 ∷ 1 ∷ 0 ∷ 3 ∷ 4294967295 ∷ 0 ∷ 1 ∷ 8 ∷ []) (99 ∷ 254 ∷ replicate 6 255 ++ 127 ∷ replicate 23 0) 95 (replicate 40 107) 1 (pos 2774283446326248013) (replicate 8 120) 0 5 ≡ gave (plain NoMemory 0) (1 ∷ 1 ∷ 0 ∷ 3 ∷ 4294967295 ∷ 0 ∷ 1 ∷ 8 ∷ []) (99 ∷ 254 ∷ replicate 6 255 ++ 127 ∷ replicate 23 0)
unfolding entries_of decode holds held free_run every any right_lengths value_fits entry_sound none_shared sound refuse check_sound ◌then◌ check_clock clock_checks check_key key_checks memory_of encode flat call dead same key_of key_is found_from look_up deads without put wiped remove remove_oldest sweep_count sweep after_sweep expiry_of entry_for place_at to_front rewrite_at overwrite_at after gone any_live fit_from first_free run searched is_placed if_room evicted forced_by fit_outcome place_fit placed_by place_anew store_over store_item most_rounds boolean_byte number_bytes value_given item_of check_kind takes_nil check_nil too_late check_lifetime store_checks admits delete_found store_admitted store_found store_work store_call
v202_safe_set = refl

-- safe_set: 4, rounds 0, removed 0
pub v203_safe_set : store_call SafeSet (1 ∷ replicate 25 0) (replicate 128 7) 115 (replicate 65536 107) 4 (negsuc 58732) (replicate 60 120) 30 4294967295 ≡ gave (plain KeyTooLong 0) (1 ∷ replicate 25 0) (replicate 128 7)
unfolding entries_of decode holds held free_run every any right_lengths value_fits entry_sound none_shared sound refuse check_sound ◌then◌ check_clock clock_checks check_key key_checks memory_of encode flat call dead same key_of key_is found_from look_up deads without put wiped remove remove_oldest sweep_count sweep after_sweep expiry_of entry_for place_at to_front rewrite_at overwrite_at after gone any_live fit_from first_free run searched is_placed if_room evicted forced_by fit_outcome place_fit placed_by place_anew store_over store_item most_rounds boolean_byte number_bytes value_given item_of check_kind takes_nil check_nil too_late check_lifetime store_checks admits delete_found store_admitted store_found store_work store_call
v203_safe_set = refl

-- safe_set: 12, rounds 0, removed 0
pub v204_safe_set : store_call SafeSet (1 ∷ 2 ∷ 1 ∷ 3 ∷ 4294967295 ∷ 1 ∷ 1 ∷ 8 ∷ 112 ∷ 3 ∷ 0 ∷ 0 ∷ 2 ∷ 8 ∷ []) (98 ∷ 97 ∷ 85 ∷ 134 ∷ 254 ∷ replicate 5 255 ++ replicate 22 7 ++ 99 ∷ 195 ∷ 230 ∷ replicate 6 255 ++ replicate 23 7) 85 (99 ∷ []) 4 (negsuc 78489) (replicate 63 120) 5 5 ≡ gave (plain NoMemory 0) (1 ∷ 1 ∷ 112 ∷ 3 ∷ 0 ∷ 0 ∷ 2 ∷ 8 ∷ replicate 6 0) (98 ∷ 97 ∷ 85 ∷ 134 ∷ 254 ∷ replicate 5 255 ++ replicate 22 7 ++ replicate 32 0)
unfolding entries_of decode holds held free_run every any right_lengths value_fits entry_sound none_shared sound refuse check_sound ◌then◌ check_clock clock_checks check_key key_checks memory_of encode flat call dead same key_of key_is found_from look_up deads without put wiped remove remove_oldest sweep_count sweep after_sweep expiry_of entry_for place_at to_front rewrite_at overwrite_at after gone any_live fit_from first_free run searched is_placed if_room evicted forced_by fit_outcome place_fit placed_by place_anew store_over store_item most_rounds boolean_byte number_bytes value_given item_of check_kind takes_nil check_nil too_late check_lifetime store_checks admits delete_found store_admitted store_found store_work store_call
v204_safe_set = refl

-- safe_set: 0, rounds 0, removed 0
pub v205_safe_set : store_call SafeSet (1 ∷ 2 ∷ 0 ∷ 4 ∷ 0 ∷ 0 ∷ 1 ∷ 1 ∷ 0 ∷ 4 ∷ 4294967295 ∷ 2 ∷ 2 ∷ replicate 13 0) (97 ∷ 120 ∷ replicate 62 0 ++ 97 ∷ 98 ∷ replicate 62 7) 116 (100 ∷ []) 0 (pos 30955) (replicate 60 120) 18446744073709551499 4294967295 ≡ gave (plain Done 0) (1 ∷ 2 ∷ 0 ∷ 4 ∷ 0 ∷ 0 ∷ 1 ∷ 1 ∷ 0 ∷ 4 ∷ 4294967295 ∷ 2 ∷ 2 ∷ replicate 13 0) (97 ∷ 120 ∷ replicate 62 0 ++ 97 ∷ 98 ∷ replicate 62 7)
unfolding entries_of decode holds held free_run every any right_lengths value_fits entry_sound none_shared sound refuse check_sound ◌then◌ check_clock clock_checks check_key key_checks memory_of encode flat call dead same key_of key_is found_from look_up deads without put wiped remove remove_oldest sweep_count sweep after_sweep expiry_of entry_for place_at to_front rewrite_at overwrite_at after gone any_live fit_from first_free run searched is_placed if_room evicted forced_by fit_outcome place_fit placed_by place_anew store_over store_item most_rounds boolean_byte number_bytes value_given item_of check_kind takes_nil check_nil too_late check_lifetime store_checks admits delete_found store_admitted store_found store_work store_call
v205_safe_set = refl

-- safe_set: 0, rounds 0, removed 0
pub v206_safe_set : store_call SafeSet (1 ∷ 2 ∷ 1 ∷ 1 ∷ 5 ∷ 0 ∷ 1 ∷ 1 ∷ 184 ∷ 4 ∷ 5 ∷ 1 ∷ 2 ∷ 40 ∷ replicate 12 0) (100 ∷ 1 ∷ replicate 30 0 ++ 98 ∷ 97 ∷ replicate 40 120 ++ replicate 54 0) 114 (100 ∷ []) 3 (pos 54036) (replicate 33 120) 18446744073709551501 4294967295 ≡ gave (plain Done 0) (1 ∷ 2 ∷ 18446744073709551615 ∷ 3 ∷ 4294967295 ∷ 0 ∷ 1 ∷ 8 ∷ 184 ∷ 4 ∷ 5 ∷ 1 ∷ 2 ∷ 40 ∷ replicate 12 0) (100 ∷ 20 ∷ 211 ∷ replicate 29 0 ++ 98 ∷ 97 ∷ replicate 40 120 ++ replicate 54 0)
unfolding entries_of decode holds held free_run every any right_lengths value_fits entry_sound none_shared sound refuse check_sound ◌then◌ check_clock clock_checks check_key key_checks memory_of encode flat call dead same key_of key_is found_from look_up deads without put wiped remove remove_oldest sweep_count sweep after_sweep expiry_of entry_for place_at to_front rewrite_at overwrite_at after gone any_live fit_from first_free run searched is_placed if_room evicted forced_by fit_outcome place_fit placed_by place_anew store_over store_item most_rounds boolean_byte number_bytes value_given item_of check_kind takes_nil check_nil too_late check_lifetime store_checks admits delete_found store_admitted store_found store_work store_call
v206_safe_set = refl

-- safe_set: 12, rounds 0, removed 1
pub v207_safe_set : store_call SafeSet (1 ∷ 1 ∷ 100 ∷ 3 ∷ 4294967295 ∷ 0 ∷ 1 ∷ 8 ∷ replicate 6 0) (99 ∷ 247 ∷ 70 ∷ replicate 6 0 ++ replicate 55 7) 120 (99 ∷ []) 4 (pos 13403) (replicate 95 120) 30 0 ≡ gave (plain NoMemory 1) (1 ∷ replicate 13 0) (replicate 32 0 ++ replicate 32 7)
unfolding entries_of decode holds held free_run every any right_lengths value_fits entry_sound none_shared sound refuse check_sound ◌then◌ check_clock clock_checks check_key key_checks memory_of encode flat call dead same key_of key_is found_from look_up deads without put wiped remove remove_oldest sweep_count sweep after_sweep expiry_of entry_for place_at to_front rewrite_at overwrite_at after gone any_live fit_from first_free run searched is_placed if_room evicted forced_by fit_outcome place_fit placed_by place_anew store_over store_item most_rounds boolean_byte number_bytes value_given item_of check_kind takes_nil check_nil too_late check_lifetime store_checks admits delete_found store_admitted store_found store_work store_call
v207_safe_set = refl

-- safe_set: 0, rounds 0, removed 0
pub v208_safe_set : store_call SafeSet (1 ∷ 1 ∷ 152 ∷ 4 ∷ 5 ∷ 0 ∷ 3 ∷ 8 ∷ []) (97 ∷ 98 ∷ 99 ∷ replicate 8 120 ++ replicate 21 0) 117 (97 ∷ 98 ∷ 99 ∷ []) 3 (pos 1) (replicate 60 120) 18446744073709551498 4294967295 ≡ gave (plain Done 0) (1 ∷ 1 ∷ 18446744073709551615 ∷ 3 ∷ 4294967295 ∷ 0 ∷ 3 ∷ 8 ∷ []) (97 ∷ 98 ∷ 99 ∷ 1 ∷ replicate 28 0)
unfolding entries_of decode holds held free_run every any right_lengths value_fits entry_sound none_shared sound refuse check_sound ◌then◌ check_clock clock_checks check_key key_checks memory_of encode flat call dead same key_of key_is found_from look_up deads without put wiped remove remove_oldest sweep_count sweep after_sweep expiry_of entry_for place_at to_front rewrite_at overwrite_at after gone any_live fit_from first_free run searched is_placed if_room evicted forced_by fit_outcome place_fit placed_by place_anew store_over store_item most_rounds boolean_byte number_bytes value_given item_of check_kind takes_nil check_nil too_late check_lifetime store_checks admits delete_found store_admitted store_found store_work store_call
v208_safe_set = refl

-- safe_set: 0, rounds 0, removed 0
pub v209_safe_set : store_call SafeSet (1 ∷ 2 ∷ 110 ∷ 3 ∷ 5 ∷ 1 ∷ 3 ∷ 8 ∷ 0 ∷ 4 ∷ 4294967295 ∷ 0 ∷ 1 ∷ 20 ∷ []) (99 ∷ replicate 20 120 ++ replicate 11 0 ++ 97 ∷ 98 ∷ 99 ∷ replicate 29 0) 115 (97 ∷ 98 ∷ 99 ∷ []) 3 (negsuc 2700907221110913601) (replicate 8 120) 30 5 ≡ gave (plain Done 0) (1 ∷ 2 ∷ 145 ∷ 3 ∷ 5 ∷ 1 ∷ 3 ∷ 8 ∷ 0 ∷ 4 ∷ 4294967295 ∷ 0 ∷ 1 ∷ 20 ∷ []) (99 ∷ replicate 20 120 ++ replicate 11 0 ++ 97 ∷ 98 ∷ 99 ∷ 190 ∷ 133 ∷ 101 ∷ 66 ∷ 49 ∷ 115 ∷ 132 ∷ 218 ∷ replicate 21 0)
unfolding entries_of decode holds held free_run every any right_lengths value_fits entry_sound none_shared sound refuse check_sound ◌then◌ check_clock clock_checks check_key key_checks memory_of encode flat call dead same key_of key_is found_from look_up deads without put wiped remove remove_oldest sweep_count sweep after_sweep expiry_of entry_for place_at to_front rewrite_at overwrite_at after gone any_live fit_from first_free run searched is_placed if_room evicted forced_by fit_outcome place_fit placed_by place_anew store_over store_item most_rounds boolean_byte number_bytes value_given item_of check_kind takes_nil check_nil too_late check_lifetime store_checks admits delete_found store_admitted store_found store_work store_call
v209_safe_set = refl

-- add: 0, rounds 0, removed 0
pub v210_add : store_call Add (1 ∷ 1 ∷ 0 ∷ 1 ∷ 4294967295 ∷ 0 ∷ 3 ∷ 1 ∷ replicate 18 0) (97 ∷ 98 ∷ 99 ∷ 1 ∷ replicate 124 7) 114 (100 ∷ []) 4 (pos 92950) (replicate 60 120) 30 4294967295 ≡ gave (plain Done 0) (1 ∷ 2 ∷ 144 ∷ 4 ∷ 4294967295 ∷ 1 ∷ 1 ∷ 60 ∷ 0 ∷ 1 ∷ 4294967295 ∷ 0 ∷ 3 ∷ 1 ∷ replicate 12 0) (97 ∷ 98 ∷ 99 ∷ 1 ∷ replicate 28 7 ++ 100 ∷ replicate 60 120 ++ replicate 35 7)
unfolding entries_of decode holds held free_run every any right_lengths value_fits entry_sound none_shared sound refuse check_sound ◌then◌ check_clock clock_checks check_key key_checks memory_of encode flat call dead same key_of key_is found_from look_up deads without put wiped remove remove_oldest sweep_count sweep after_sweep expiry_of entry_for place_at to_front rewrite_at overwrite_at after gone any_live fit_from first_free run searched is_placed if_room evicted forced_by fit_outcome place_fit placed_by place_anew store_over store_item most_rounds boolean_byte number_bytes value_given item_of check_kind takes_nil check_nil too_late check_lifetime store_checks admits delete_found store_admitted store_found store_work store_call
v210_add = refl

-- add: 7, rounds 0, removed 0
pub v211_add : store_call Add (1 ∷ replicate 7 0) (replicate 32 0) 88 (97 ∷ []) 3 (pos 74236) (replicate 95 120) 18446744073709551615 5 ≡ gave (plain ExpiryTooLate 0) (1 ∷ replicate 7 0) (replicate 32 0)
unfolding entries_of decode holds held free_run every any right_lengths value_fits entry_sound none_shared sound refuse check_sound ◌then◌ check_clock clock_checks check_key key_checks memory_of encode flat call dead same key_of key_is found_from look_up deads without put wiped remove remove_oldest sweep_count sweep after_sweep expiry_of entry_for place_at to_front rewrite_at overwrite_at after gone any_live fit_from first_free run searched is_placed if_room evicted forced_by fit_outcome place_fit placed_by place_anew store_over store_item most_rounds boolean_byte number_bytes value_given item_of check_kind takes_nil check_nil too_late check_lifetime store_checks admits delete_found store_admitted store_found store_work store_call
v211_add = refl

-- add: 5, rounds 0, removed 0
pub v212_add : store_call Add (1 ∷ 1 ∷ 126 ∷ 3 ∷ 5 ∷ 0 ∷ 1 ∷ 8 ∷ []) (97 ∷ 31 ∷ 111 ∷ 132 ∷ 141 ∷ 19 ∷ 94 ∷ 92 ∷ 33 ∷ replicate 23 0) 101 (97 ∷ []) 2 (pos 0) (replicate 30 120) 0 0 ≡ gave (plain KindUnknown 0) (1 ∷ 1 ∷ 126 ∷ 3 ∷ 5 ∷ 0 ∷ 1 ∷ 8 ∷ []) (97 ∷ 31 ∷ 111 ∷ 132 ∷ 141 ∷ 19 ∷ 94 ∷ 92 ∷ 33 ∷ replicate 23 0)
unfolding entries_of decode holds held free_run every any right_lengths value_fits entry_sound none_shared sound refuse check_sound ◌then◌ check_clock clock_checks check_key key_checks memory_of encode flat call dead same key_of key_is found_from look_up deads without put wiped remove remove_oldest sweep_count sweep after_sweep expiry_of entry_for place_at to_front rewrite_at overwrite_at after gone any_live fit_from first_free run searched is_placed if_room evicted forced_by fit_outcome place_fit placed_by place_anew store_over store_item most_rounds boolean_byte number_bytes value_given item_of check_kind takes_nil check_nil too_late check_lifetime store_checks admits delete_found store_admitted store_found store_work store_call
v212_add = refl

-- add: 12, rounds 0, removed 1
pub v213_add : store_call Add (1 ∷ 1 ∷ 124 ∷ 3 ∷ 5 ∷ 0 ∷ 3 ∷ 8 ∷ []) (97 ∷ 98 ∷ 99 ∷ replicate 8 255 ++ replicate 21 0) 139 (98 ∷ 97 ∷ []) 4 (negsuc 4625993848130353171) (replicate 100 120) 5 5 ≡ gave (plain NoMemory 1) (1 ∷ replicate 7 0) (replicate 32 0)
unfolding entries_of decode holds held free_run every any right_lengths value_fits entry_sound none_shared sound refuse check_sound ◌then◌ check_clock clock_checks check_key key_checks memory_of encode flat call dead same key_of key_is found_from look_up deads without put wiped remove remove_oldest sweep_count sweep after_sweep expiry_of entry_for place_at to_front rewrite_at overwrite_at after gone any_live fit_from first_free run searched is_placed if_room evicted forced_by fit_outcome place_fit placed_by place_anew store_over store_item most_rounds boolean_byte number_bytes value_given item_of check_kind takes_nil check_nil too_late check_lifetime store_checks admits delete_found store_admitted store_found store_work store_call
v213_add = refl

-- add: 6, rounds 0, removed 0
pub v214_add : store_call Add (1 ∷ 1 ∷ 111 ∷ 3 ∷ 5 ∷ 0 ∷ 2 ∷ 8 ∷ []) (97 ∷ 98 ∷ 106 ∷ 170 ∷ 254 ∷ replicate 5 255 ++ replicate 22 7) 101 (98 ∷ []) 0 (pos 92434) (replicate 31 120) 30 4294967295 ≡ gave (plain NilRefused 0) (1 ∷ 1 ∷ 111 ∷ 3 ∷ 5 ∷ 0 ∷ 2 ∷ 8 ∷ []) (97 ∷ 98 ∷ 106 ∷ 170 ∷ 254 ∷ replicate 5 255 ++ replicate 22 7)
unfolding entries_of decode holds held free_run every any right_lengths value_fits entry_sound none_shared sound refuse check_sound ◌then◌ check_clock clock_checks check_key key_checks memory_of encode flat call dead same key_of key_is found_from look_up deads without put wiped remove remove_oldest sweep_count sweep after_sweep expiry_of entry_for place_at to_front rewrite_at overwrite_at after gone any_live fit_from first_free run searched is_placed if_room evicted forced_by fit_outcome place_fit placed_by place_anew store_over store_item most_rounds boolean_byte number_bytes value_given item_of check_kind takes_nil check_nil too_late check_lifetime store_checks admits delete_found store_admitted store_found store_work store_call
v214_add = refl

-- add: 9, rounds 0, removed 0
pub v215_add : store_call Add (1 ∷ 1 ∷ 148 ∷ 4 ∷ 5 ∷ 0 ∷ 1 ∷ 20 ∷ replicate 18 0) (100 ∷ replicate 20 120 ++ replicate 107 0) 133 (100 ∷ []) 4 (negsuc 41709) (replicate 30 120) 18446744073709551482 4294967295 ≡ gave (plain Exists 0) (1 ∷ 1 ∷ 148 ∷ 4 ∷ 5 ∷ 0 ∷ 1 ∷ 20 ∷ replicate 18 0) (100 ∷ replicate 20 120 ++ replicate 107 0)
unfolding entries_of decode holds held free_run every any right_lengths value_fits entry_sound none_shared sound refuse check_sound ◌then◌ check_clock clock_checks check_key key_checks memory_of encode flat call dead same key_of key_is found_from look_up deads without put wiped remove remove_oldest sweep_count sweep after_sweep expiry_of entry_for place_at to_front rewrite_at overwrite_at after gone any_live fit_from first_free run searched is_placed if_room evicted forced_by fit_outcome place_fit placed_by place_anew store_over store_item most_rounds boolean_byte number_bytes value_given item_of check_kind takes_nil check_nil too_late check_lifetime store_checks admits delete_found store_admitted store_found store_work store_call
v215_add = refl

-- add: 2, rounds 0, removed 0
pub v216_add : store_call Add (1 ∷ 1 ∷ 90 ∷ 4 ∷ 5 ∷ 0 ∷ 2 ∷ 8 ∷ replicate 6 0) (98 ∷ 97 ∷ replicate 8 120 ++ replicate 54 7) 0 [] 4 (pos 8835456786282266075) (replicate 30 120) 0 5 ≡ gave (plain ClockZero 0) (1 ∷ 1 ∷ 90 ∷ 4 ∷ 5 ∷ 0 ∷ 2 ∷ 8 ∷ replicate 6 0) (98 ∷ 97 ∷ replicate 8 120 ++ replicate 54 7)
unfolding entries_of decode holds held free_run every any right_lengths value_fits entry_sound none_shared sound refuse check_sound ◌then◌ check_clock clock_checks check_key key_checks memory_of encode flat call dead same key_of key_is found_from look_up deads without put wiped remove remove_oldest sweep_count sweep after_sweep expiry_of entry_for place_at to_front rewrite_at overwrite_at after gone any_live fit_from first_free run searched is_placed if_room evicted forced_by fit_outcome place_fit placed_by place_anew store_over store_item most_rounds boolean_byte number_bytes value_given item_of check_kind takes_nil check_nil too_late check_lifetime store_checks admits delete_found store_admitted store_found store_work store_call
v216_add = refl

-- add: 12, rounds 0, removed 0
pub v217_add : store_call Add (1 ∷ 1 ∷ 0 ∷ 3 ∷ 4294967295 ∷ 0 ∷ 1 ∷ 8 ∷ []) (98 ∷ 153 ∷ 155 ∷ replicate 29 0) 110 (replicate 40 107) 3 (negsuc 0) (replicate 130 120) 0 4294967295 ≡ gave (plain NoMemory 0) (1 ∷ 1 ∷ 0 ∷ 3 ∷ 4294967295 ∷ 0 ∷ 1 ∷ 8 ∷ []) (98 ∷ 153 ∷ 155 ∷ replicate 29 0)
unfolding entries_of decode holds held free_run every any right_lengths value_fits entry_sound none_shared sound refuse check_sound ◌then◌ check_clock clock_checks check_key key_checks memory_of encode flat call dead same key_of key_is found_from look_up deads without put wiped remove remove_oldest sweep_count sweep after_sweep expiry_of entry_for place_at to_front rewrite_at overwrite_at after gone any_live fit_from first_free run searched is_placed if_room evicted forced_by fit_outcome place_fit placed_by place_anew store_over store_item most_rounds boolean_byte number_bytes value_given item_of check_kind takes_nil check_nil too_late check_lifetime store_checks admits delete_found store_admitted store_found store_work store_call
v217_add = refl

-- add: 0, rounds 0, removed 1
pub v218_add : store_call Add (1 ∷ 1 ∷ 1 ∷ 3 ∷ 4294967295 ∷ 0 ∷ 2 ∷ 8 ∷ replicate 6 0) (98 ∷ 97 ∷ 211 ∷ 172 ∷ 254 ∷ replicate 5 255 ++ replicate 54 0) 92 (97 ∷ []) 3 (negsuc 58308) (replicate 130 120) 0 4294967295 ≡ gave (plain Done 1) (1 ∷ 1 ∷ 0 ∷ 3 ∷ 4294967295 ∷ 0 ∷ 1 ∷ 8 ∷ replicate 6 0) (97 ∷ 59 ∷ 28 ∷ replicate 6 255 ++ replicate 55 0)
unfolding entries_of decode holds held free_run every any right_lengths value_fits entry_sound none_shared sound refuse check_sound ◌then◌ check_clock clock_checks check_key key_checks memory_of encode flat call dead same key_of key_is found_from look_up deads without put wiped remove remove_oldest sweep_count sweep after_sweep expiry_of entry_for place_at to_front rewrite_at overwrite_at after gone any_live fit_from first_free run searched is_placed if_room evicted forced_by fit_outcome place_fit placed_by place_anew store_over store_item most_rounds boolean_byte number_bytes value_given item_of check_kind takes_nil check_nil too_late check_lifetime store_checks admits delete_found store_admitted store_found store_work store_call
v218_add = refl

-- add: 0, rounds 0, removed 0
pub v219_add : store_call Add (1 ∷ replicate 13 0) (replicate 64 7) 93 (98 ∷ 97 ∷ []) 3 (pos 14561) (replicate 63 120) 30 0 ≡ gave (plain Done 0) (1 ∷ 1 ∷ 123 ∷ 3 ∷ 0 ∷ 0 ∷ 2 ∷ 8 ∷ replicate 6 0) (98 ∷ 97 ∷ 225 ∷ 56 ∷ replicate 6 0 ++ replicate 54 7)
unfolding entries_of decode holds held free_run every any right_lengths value_fits entry_sound none_shared sound refuse check_sound ◌then◌ check_clock clock_checks check_key key_checks memory_of encode flat call dead same key_of key_is found_from look_up deads without put wiped remove remove_oldest sweep_count sweep after_sweep expiry_of entry_for place_at to_front rewrite_at overwrite_at after gone any_live fit_from first_free run searched is_placed if_room evicted forced_by fit_outcome place_fit placed_by place_anew store_over store_item most_rounds boolean_byte number_bytes value_given item_of check_kind takes_nil check_nil too_late check_lifetime store_checks admits delete_found store_admitted store_found store_work store_call
v219_add = refl

-- add: 0, rounds 0, removed 2
pub v220_add : store_call Add (1 ∷ 2 ∷ 102 ∷ 4 ∷ 0 ∷ 0 ∷ 1 ∷ 8 ∷ 1 ∷ 3 ∷ 5 ∷ 1 ∷ 1 ∷ 8 ∷ replicate 12 0) (100 ∷ replicate 8 120 ++ replicate 23 0 ++ 97 ∷ 226 ∷ 40 ∷ 1 ∷ replicate 92 0) 107 (98 ∷ []) 3 (pos 1) (replicate 8 120) 0 0 ≡ gave (plain Done 2) (1 ∷ 1 ∷ 0 ∷ 3 ∷ 0 ∷ 0 ∷ 1 ∷ 8 ∷ replicate 18 0) (98 ∷ 1 ∷ replicate 126 0)
unfolding entries_of decode holds held free_run every any right_lengths value_fits entry_sound none_shared sound refuse check_sound ◌then◌ check_clock clock_checks check_key key_checks memory_of encode flat call dead same key_of key_is found_from look_up deads without put wiped remove remove_oldest sweep_count sweep after_sweep expiry_of entry_for place_at to_front rewrite_at overwrite_at after gone any_live fit_from first_free run searched is_placed if_room evicted forced_by fit_outcome place_fit placed_by place_anew store_over store_item most_rounds boolean_byte number_bytes value_given item_of check_kind takes_nil check_nil too_late check_lifetime store_checks admits delete_found store_admitted store_found store_work store_call
v220_add = refl

-- add: 0, rounds 1, removed 1
pub v221_add : store_call Add (1 ∷ 1 ∷ 0 ∷ 1 ∷ 5 ∷ 0 ∷ 1 ∷ 1 ∷ []) (100 ∷ 1 ∷ replicate 30 0) 129 (97 ∷ 98 ∷ []) 4 (pos 1) (120 ∷ []) 0 4294967295 ≡ gave (record { rounds = 1; removed = 1; forced = true; stale = false; outcome = Done }) (1 ∷ 1 ∷ 0 ∷ 4 ∷ 4294967295 ∷ 0 ∷ 2 ∷ 1 ∷ []) (97 ∷ 98 ∷ 120 ∷ replicate 29 0)
unfolding entries_of decode holds held free_run every any right_lengths value_fits entry_sound none_shared sound refuse check_sound ◌then◌ check_clock clock_checks check_key key_checks memory_of encode flat call dead same key_of key_is found_from look_up deads without put wiped remove remove_oldest sweep_count sweep after_sweep expiry_of entry_for place_at to_front rewrite_at overwrite_at after gone any_live fit_from first_free run searched is_placed if_room evicted forced_by fit_outcome place_fit placed_by place_anew store_over store_item most_rounds boolean_byte number_bytes value_given item_of check_kind takes_nil check_nil too_late check_lifetime store_checks admits delete_found store_admitted store_found store_work store_call
v221_add = refl

-- add: 0, rounds 1, removed 1
pub v222_add : store_call Add (1 ∷ 2 ∷ 0 ∷ 4 ∷ 0 ∷ 1 ∷ 1 ∷ 1 ∷ 139 ∷ 3 ∷ 5 ∷ 0 ∷ 3 ∷ 8 ∷ []) (97 ∷ 98 ∷ 99 ∷ 196 ∷ 79 ∷ 1 ∷ replicate 26 0 ++ 97 ∷ 120 ∷ replicate 30 7) 103 (100 ∷ []) 1 (negsuc 6610946094237661360) (replicate 63 120) 0 0 ≡ gave (record { rounds = 1; removed = 1; forced = true; stale = false; outcome = Done }) (1 ∷ 2 ∷ 0 ∷ 1 ∷ 0 ∷ 0 ∷ 1 ∷ 1 ∷ 0 ∷ 4 ∷ 0 ∷ 1 ∷ 1 ∷ 1 ∷ []) (100 ∷ 1 ∷ replicate 30 0 ++ 97 ∷ 120 ∷ replicate 30 7)
unfolding entries_of decode holds held free_run every any right_lengths value_fits entry_sound none_shared sound refuse check_sound ◌then◌ check_clock clock_checks check_key key_checks memory_of encode flat call dead same key_of key_is found_from look_up deads without put wiped remove remove_oldest sweep_count sweep after_sweep expiry_of entry_for place_at to_front rewrite_at overwrite_at after gone any_live fit_from first_free run searched is_placed if_room evicted forced_by fit_outcome place_fit placed_by place_anew store_over store_item most_rounds boolean_byte number_bytes value_given item_of check_kind takes_nil check_nil too_late check_lifetime store_checks admits delete_found store_admitted store_found store_work store_call
v222_add = refl

-- add: 0, rounds 0, removed 1
pub v223_add : store_call Add (1 ∷ 1 ∷ 80 ∷ 3 ∷ 0 ∷ 0 ∷ 3 ∷ 8 ∷ replicate 18 0) (97 ∷ 98 ∷ 99 ∷ replicate 7 255 ++ 127 ∷ replicate 117 0) 124 (98 ∷ 97 ∷ []) 4 (pos 91839) (replicate 40 120) 18446744073709551491 5 ≡ gave (plain Done 1) (1 ∷ 1 ∷ 18446744073709551615 ∷ 4 ∷ 5 ∷ 0 ∷ 2 ∷ 40 ∷ replicate 18 0) (98 ∷ 97 ∷ replicate 40 120 ++ replicate 86 0)
unfolding entries_of decode holds held free_run every any right_lengths value_fits entry_sound none_shared sound refuse check_sound ◌then◌ check_clock clock_checks check_key key_checks memory_of encode flat call dead same key_of key_is found_from look_up deads without put wiped remove remove_oldest sweep_count sweep after_sweep expiry_of entry_for place_at to_front rewrite_at overwrite_at after gone any_live fit_from first_free run searched is_placed if_room evicted forced_by fit_outcome place_fit placed_by place_anew store_over store_item most_rounds boolean_byte number_bytes value_given item_of check_kind takes_nil check_nil too_late check_lifetime store_checks admits delete_found store_admitted store_found store_work store_call
v223_add = refl

-- add: 12, rounds 0, removed 0
pub v224_add : store_call Add (1 ∷ replicate 7 0) (replicate 32 0) 70 (97 ∷ 98 ∷ 99 ∷ []) 4 (pos 9223372036854775806) (replicate 95 120) 18446744073709551545 4294967295 ≡ gave (plain NoMemory 0) (1 ∷ replicate 7 0) (replicate 32 0)
unfolding entries_of decode holds held free_run every any right_lengths value_fits entry_sound none_shared sound refuse check_sound ◌then◌ check_clock clock_checks check_key key_checks memory_of encode flat call dead same key_of key_is found_from look_up deads without put wiped remove remove_oldest sweep_count sweep after_sweep expiry_of entry_for place_at to_front rewrite_at overwrite_at after gone any_live fit_from first_free run searched is_placed if_room evicted forced_by fit_outcome place_fit placed_by place_anew store_over store_item most_rounds boolean_byte number_bytes value_given item_of check_kind takes_nil check_nil too_late check_lifetime store_checks admits delete_found store_admitted store_found store_work store_call
v224_add = refl

-- add: 0, rounds 1, removed 1
pub v225_add : store_call Add (1 ∷ 1 ∷ 0 ∷ 1 ∷ 5 ∷ 0 ∷ 2 ∷ 1 ∷ []) (97 ∷ 98 ∷ 1 ∷ replicate 29 0) 118 (97 ∷ 98 ∷ 99 ∷ []) 3 (pos 9223372036854775806) (replicate 60 120) 30 5 ≡ gave (record { rounds = 1; removed = 1; forced = true; stale = false; outcome = Done }) (1 ∷ 1 ∷ 148 ∷ 3 ∷ 5 ∷ 0 ∷ 3 ∷ 8 ∷ []) (97 ∷ 98 ∷ 99 ∷ 254 ∷ replicate 6 255 ++ 127 ∷ replicate 21 0)
unfolding entries_of decode holds held free_run every any right_lengths value_fits entry_sound none_shared sound refuse check_sound ◌then◌ check_clock clock_checks check_key key_checks memory_of encode flat call dead same key_of key_is found_from look_up deads without put wiped remove remove_oldest sweep_count sweep after_sweep expiry_of entry_for place_at to_front rewrite_at overwrite_at after gone any_live fit_from first_free run searched is_placed if_room evicted forced_by fit_outcome place_fit placed_by place_anew store_over store_item most_rounds boolean_byte number_bytes value_given item_of check_kind takes_nil check_nil too_late check_lifetime store_checks admits delete_found store_admitted store_found store_work store_call
v225_add = refl

-- add: 0, rounds 0, removed 1
pub v226_add : store_call Add (1 ∷ 2 ∷ 0 ∷ 3 ∷ 4294967295 ∷ 0 ∷ 2 ∷ 8 ∷ 93 ∷ 3 ∷ 4294967295 ∷ 1 ∷ 1 ∷ 8 ∷ []) (98 ∷ 97 ∷ 1 ∷ replicate 6 0 ++ 128 ∷ replicate 22 0 ++ 97 ∷ 49 ∷ 17 ∷ replicate 29 0) 93 (97 ∷ []) 1 (pos 13235) (replicate 33 120) 30 4294967295 ≡ gave (plain Done 1) (1 ∷ 2 ∷ 123 ∷ 1 ∷ 4294967295 ∷ 1 ∷ 1 ∷ 1 ∷ 0 ∷ 3 ∷ 4294967295 ∷ 0 ∷ 2 ∷ 8 ∷ []) (98 ∷ 97 ∷ 1 ∷ replicate 6 0 ++ 128 ∷ replicate 22 0 ++ 97 ∷ 1 ∷ replicate 30 0)
unfolding entries_of decode holds held free_run every any right_lengths value_fits entry_sound none_shared sound refuse check_sound ◌then◌ check_clock clock_checks check_key key_checks memory_of encode flat call dead same key_of key_is found_from look_up deads without put wiped remove remove_oldest sweep_count sweep after_sweep expiry_of entry_for place_at to_front rewrite_at overwrite_at after gone any_live fit_from first_free run searched is_placed if_room evicted forced_by fit_outcome place_fit placed_by place_anew store_over store_item most_rounds boolean_byte number_bytes value_given item_of check_kind takes_nil check_nil too_late check_lifetime store_checks admits delete_found store_admitted store_found store_work store_call
v226_add = refl

-- add: 4, rounds 0, removed 0
pub v227_add : store_call Add (1 ∷ 2 ∷ 191 ∷ 3 ∷ 4294967295 ∷ 0 ∷ 2 ∷ 8 ∷ 117 ∷ 3 ∷ 4294967295 ∷ 1 ∷ 3 ∷ 8 ∷ []) (98 ∷ 97 ∷ 243 ∷ 254 ∷ replicate 28 0 ++ 97 ∷ 98 ∷ 99 ∷ 111 ∷ 14 ∷ 1 ∷ replicate 26 0) 116 (replicate 65536 107) 4 (pos 78779) (replicate 31 120) 18446744073709551500 5 ≡ gave (plain KeyTooLong 0) (1 ∷ 2 ∷ 191 ∷ 3 ∷ 4294967295 ∷ 0 ∷ 2 ∷ 8 ∷ 117 ∷ 3 ∷ 4294967295 ∷ 1 ∷ 3 ∷ 8 ∷ []) (98 ∷ 97 ∷ 243 ∷ 254 ∷ replicate 28 0 ++ 97 ∷ 98 ∷ 99 ∷ 111 ∷ 14 ∷ 1 ∷ replicate 26 0)
unfolding entries_of decode holds held free_run every any right_lengths value_fits entry_sound none_shared sound refuse check_sound ◌then◌ check_clock clock_checks check_key key_checks memory_of encode flat call dead same key_of key_is found_from look_up deads without put wiped remove remove_oldest sweep_count sweep after_sweep expiry_of entry_for place_at to_front rewrite_at overwrite_at after gone any_live fit_from first_free run searched is_placed if_room evicted forced_by fit_outcome place_fit placed_by place_anew store_over store_item most_rounds boolean_byte number_bytes value_given item_of check_kind takes_nil check_nil too_late check_lifetime store_checks admits delete_found store_admitted store_found store_work store_call
v227_add = refl
