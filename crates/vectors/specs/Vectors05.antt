-- Calls that the second program (second/) made, computed once more by the definitions: the whole answer, all words and all bytes.
-- Written by `cargo run --release --offline --bin vectors` in sessions/, not by hand.
use Rattle.std.specs.Prelude.{◌≡◌, refl, true, false, [], ◌∷◌, ◌++◌, replicate, pos, negsuc, None}
use Rattle.rules.specs.declared.Outcome.TheVariants.{Done, NotSound, ClockZero, KeyEmpty, KeyTooLong, KindUnknown, NilRefused, ExpiryTooLate, NotFound, Exists, NoMemory}
use Rattle.rules.specs.declared.Operation.TheVariants.{Add, SafeAdd, Replace}
use Rattle.rules.specs.Layout.{encode, decode, flat, entries_of, without, to_front, put, key_of, number_bytes, memory_of, wiped, remove, remove_oldest}
use Rattle.rules.specs.Time.{dead, expiry_of, too_late}
use Rattle.rules.specs.LookUp.{same, key_is, found_from, look_up}
use Rattle.rules.specs.Recency.{deads, after, gone, any_live, sweep_count, sweep}
use Rattle.rules.specs.Place.{holds, held, free_run, fit_from, first_free, run}
use Rattle.rules.specs.Soundness.{every, any, right_lengths, value_fits, entry_sound, none_shared, sound}
use Rattle.rules.specs.Answer.{plain}
use Rattle.rules.specs.Checks.{◌then◌, refuse, check_sound, check_clock, check_key, check_kind, takes_nil, check_nil, check_lifetime, clock_checks, key_checks, store_checks}
use Rattle.rules.specs.Calls.{gave, call, after_sweep, delete_found, entry_for, place_at, rewrite_at, overwrite_at, searched, is_placed, if_room, evicted, forced_by, fit_outcome, place_fit, placed_by, place_anew, store_over, store_item, most_rounds, admits, boolean_byte, value_given, store_admitted, store_found, store_work, item_of, store_call}

-- add: 12, rounds 0, removed 0
pub v228_add : store_call Add (1 ∷ 2 ∷ 0 ∷ 4 ∷ 0 ∷ 2 ∷ 2 ∷ 40 ∷ 0 ∷ 1 ∷ 0 ∷ 1 ∷ 1 ∷ 1 ∷ replicate 12 0) (replicate 32 0 ++ 97 ∷ 1 ∷ replicate 30 0 ++ 97 ∷ 98 ∷ replicate 40 120 ++ replicate 22 0) 97 (99 ∷ []) 4 (pos 7474202705899641125) (replicate 130 120) 5 4294967295 ≡ gave (plain NoMemory 0) (1 ∷ 2 ∷ 0 ∷ 4 ∷ 0 ∷ 2 ∷ 2 ∷ 40 ∷ 0 ∷ 1 ∷ 0 ∷ 1 ∷ 1 ∷ 1 ∷ replicate 12 0) (replicate 32 0 ++ 97 ∷ 1 ∷ replicate 30 0 ++ 97 ∷ 98 ∷ replicate 40 120 ++ replicate 22 0)
unfolding entries_of decode holds held free_run every any right_lengths value_fits entry_sound none_shared sound refuse check_sound ◌then◌ check_clock clock_checks check_key key_checks memory_of encode flat call dead same key_of key_is found_from look_up deads without put wiped remove remove_oldest sweep_count sweep after_sweep expiry_of entry_for place_at to_front rewrite_at overwrite_at after gone any_live fit_from first_free run searched is_placed if_room evicted forced_by fit_outcome place_fit placed_by place_anew store_over store_item most_rounds boolean_byte number_bytes value_given item_of check_kind takes_nil check_nil too_late check_lifetime store_checks admits delete_found store_admitted store_found store_work store_call
v228_add = refl

-- add: 9, rounds 0, removed 2
pub v229_add : store_call Add (1 ∷ 3 ∷ 0 ∷ 3 ∷ 0 ∷ 2 ∷ 3 ∷ 8 ∷ 123 ∷ 3 ∷ 0 ∷ 0 ∷ 1 ∷ 8 ∷ 1 ∷ 3 ∷ 5 ∷ 1 ∷ 1 ∷ 8 ∷ replicate 6 0) (100 ∷ 218 ∷ 182 ∷ replicate 29 0 ++ 97 ∷ 229 ∷ 17 ∷ replicate 6 255 ++ replicate 23 7 ++ 97 ∷ 98 ∷ 99 ∷ 79 ∷ 169 ∷ replicate 6 0 ++ replicate 53 7) 18446744073709551615 (97 ∷ 98 ∷ 99 ∷ []) 3 (pos 18537) (replicate 130 120) 0 5 ≡ gave (plain Exists 2) (1 ∷ 1 ∷ 0 ∷ 3 ∷ 0 ∷ 2 ∷ 3 ∷ 8 ∷ replicate 18 0) (replicate 64 0 ++ 97 ∷ 98 ∷ 99 ∷ 79 ∷ 169 ∷ replicate 6 0 ++ replicate 53 7)
unfolding entries_of decode holds held free_run every any right_lengths value_fits entry_sound none_shared sound refuse check_sound ◌then◌ check_clock clock_checks check_key key_checks memory_of encode flat call dead same key_of key_is found_from look_up deads without put wiped remove remove_oldest sweep_count sweep after_sweep expiry_of entry_for place_at to_front rewrite_at overwrite_at after gone any_live fit_from first_free run searched is_placed if_room evicted forced_by fit_outcome place_fit placed_by place_anew store_over store_item most_rounds boolean_byte number_bytes value_given item_of check_kind takes_nil check_nil too_late check_lifetime store_checks admits delete_found store_admitted store_found store_work store_call
v229_add = refl

-- add: 3, rounds 0, removed 0
pub v230_add : store_call Add (1 ∷ 2 ∷ 0 ∷ 4 ∷ 0 ∷ 1 ∷ 2 ∷ 40 ∷ 0 ∷ 1 ∷ 5 ∷ 0 ∷ 1 ∷ 1 ∷ replicate 12 0) (100 ∷ 1 ∷ replicate 30 0 ++ 98 ∷ 97 ∷ replicate 40 120 ++ replicate 54 0) 75 [] 4 (pos 69083) [] 18446744073709551540 5 ≡ gave (plain KeyEmpty 0) (1 ∷ 2 ∷ 0 ∷ 4 ∷ 0 ∷ 1 ∷ 2 ∷ 40 ∷ 0 ∷ 1 ∷ 5 ∷ 0 ∷ 1 ∷ 1 ∷ replicate 12 0) (100 ∷ 1 ∷ replicate 30 0 ++ 98 ∷ 97 ∷ replicate 40 120 ++ replicate 54 0)
unfolding entries_of decode holds held free_run every any right_lengths value_fits entry_sound none_shared sound refuse check_sound ◌then◌ check_clock clock_checks check_key key_checks memory_of encode flat call dead same key_of key_is found_from look_up deads without put wiped remove remove_oldest sweep_count sweep after_sweep expiry_of entry_for place_at to_front rewrite_at overwrite_at after gone any_live fit_from first_free run searched is_placed if_room evicted forced_by fit_outcome place_fit placed_by place_anew store_over store_item most_rounds boolean_byte number_bytes value_given item_of check_kind takes_nil check_nil too_late check_lifetime store_checks admits delete_found store_admitted store_found store_work store_call
v230_add = refl

-- add: 1, rounds 0, removed 0
pub v231_add : store_call Add (1 ∷ 1 ∷ 84 ∷ 3 ∷ 5 ∷ 0 ∷ 2 ∷ 9 ∷ []) (98 ∷ 97 ∷ 184 ∷ 49 ∷ replicate 6 255 ++ replicate 22 0) 98 (98 ∷ 97 ∷ []) 0 (negsuc 9223372036854775807) (replicate 30 120) 30 4294967295 ≡ gave (plain NotSound 0) (1 ∷ 1 ∷ 84 ∷ 3 ∷ 5 ∷ 0 ∷ 2 ∷ 9 ∷ []) (98 ∷ 97 ∷ 184 ∷ 49 ∷ replicate 6 255 ++ replicate 22 0)
unfolding entries_of decode holds held free_run every any right_lengths value_fits entry_sound none_shared sound refuse check_sound ◌then◌ check_clock clock_checks check_key key_checks memory_of encode flat call dead same key_of key_is found_from look_up deads without put wiped remove remove_oldest sweep_count sweep after_sweep expiry_of entry_for place_at to_front rewrite_at overwrite_at after gone any_live fit_from first_free run searched is_placed if_room evicted forced_by fit_outcome place_fit placed_by place_anew store_over store_item most_rounds boolean_byte number_bytes value_given item_of check_kind takes_nil check_nil too_late check_lifetime store_checks admits delete_found store_admitted store_found store_work store_call
v231_add = refl

-- add: 1, rounds 0, removed 0
pub v232_add : store_call Add (3 ∷ 1 ∷ 0 ∷ 3 ∷ 4294967295 ∷ 0 ∷ 1 ∷ 8 ∷ replicate 6 0) (99 ∷ 240 ∷ 81 ∷ replicate 6 0 ++ replicate 55 7) 89 (97 ∷ 98 ∷ 99 ∷ []) 4 (negsuc 77590) (replicate 8 120) 0 4294967295 ≡ gave (plain NotSound 0) (3 ∷ 1 ∷ 0 ∷ 3 ∷ 4294967295 ∷ 0 ∷ 1 ∷ 8 ∷ replicate 6 0) (99 ∷ 240 ∷ 81 ∷ replicate 6 0 ++ replicate 55 7)
unfolding entries_of decode holds held free_run every any right_lengths value_fits entry_sound none_shared sound refuse check_sound ◌then◌ check_clock clock_checks check_key key_checks memory_of encode flat call dead same key_of key_is found_from look_up deads without put wiped remove remove_oldest sweep_count sweep after_sweep expiry_of entry_for place_at to_front rewrite_at overwrite_at after gone any_live fit_from first_free run searched is_placed if_room evicted forced_by fit_outcome place_fit placed_by place_anew store_over store_item most_rounds boolean_byte number_bytes value_given item_of check_kind takes_nil check_nil too_late check_lifetime store_checks admits delete_found store_admitted store_found store_work store_call
v232_add = refl

-- add: 0, rounds 2, removed 2
pub v233_add : store_call Add (1 ∷ 2 ∷ 0 ∷ 3 ∷ 5 ∷ 1 ∷ 2 ∷ 8 ∷ 0 ∷ 1 ∷ 4294967295 ∷ 0 ∷ 1 ∷ 1 ∷ []) (99 ∷ 1 ∷ replicate 30 7 ++ 97 ∷ 98 ∷ 175 ∷ 152 ∷ 214 ∷ 111 ∷ 251 ∷ 63 ∷ 154 ∷ 148 ∷ replicate 22 7) 70 (98 ∷ []) 4 (negsuc 83181) (replicate 40 120) 0 5 ≡ gave (record { rounds = 2; removed = 2; forced = true; stale = false; outcome = Done }) (1 ∷ 1 ∷ 0 ∷ 4 ∷ 5 ∷ 0 ∷ 1 ∷ 40 ∷ replicate 6 0) (98 ∷ replicate 40 120 ++ replicate 23 0)
unfolding entries_of decode holds held free_run every any right_lengths value_fits entry_sound none_shared sound refuse check_sound ◌then◌ check_clock clock_checks check_key key_checks memory_of encode flat call dead same key_of key_is found_from look_up deads without put wiped remove remove_oldest sweep_count sweep after_sweep expiry_of entry_for place_at to_front rewrite_at overwrite_at after gone any_live fit_from first_free run searched is_placed if_room evicted forced_by fit_outcome place_fit placed_by place_anew store_over store_item most_rounds boolean_byte number_bytes value_given item_of check_kind takes_nil check_nil too_late check_lifetime store_checks admits delete_found store_admitted store_found store_work store_call
v233_add = refl

-- add: 9, rounds 0, removed 0
pub v234_add : store_call Add (1 ∷ 2 ∷ 0 ∷ 4 ∷ 0 ∷ 1 ∷ 1 ∷ 20 ∷ 0 ∷ 3 ∷ 5 ∷ 0 ∷ 2 ∷ 8 ∷ replicate 12 0) (98 ∷ 97 ∷ 61 ∷ 89 ∷ replicate 6 255 ++ replicate 22 7 ++ 99 ∷ replicate 20 120 ++ replicate 75 7) 70 (99 ∷ []) 1 (negsuc 94715) (replicate 20 120) 18446744073709551545 4294967295 ≡ gave (plain Exists 0) (1 ∷ 2 ∷ 0 ∷ 4 ∷ 0 ∷ 1 ∷ 1 ∷ 20 ∷ 0 ∷ 3 ∷ 5 ∷ 0 ∷ 2 ∷ 8 ∷ replicate 12 0) (98 ∷ 97 ∷ 61 ∷ 89 ∷ replicate 6 255 ++ replicate 22 7 ++ 99 ∷ replicate 20 120 ++ replicate 75 7)
unfolding entries_of decode holds held free_run every any right_lengths value_fits entry_sound none_shared sound refuse check_sound ◌then◌ check_clock clock_checks check_key key_checks memory_of encode flat call dead same key_of key_is found_from look_up deads without put wiped remove remove_oldest sweep_count sweep after_sweep expiry_of entry_for place_at to_front rewrite_at overwrite_at after gone any_live fit_from first_free run searched is_placed if_room evicted forced_by fit_outcome place_fit placed_by place_anew store_over store_item most_rounds boolean_byte number_bytes value_given item_of check_kind takes_nil check_nil too_late check_lifetime store_checks admits delete_found store_admitted store_found store_work store_call
v234_add = refl

-- add: 0, rounds 1, removed 2
pub v235_add : store_call Add (1 ∷ 3 ∷ 0 ∷ 3 ∷ 0 ∷ 2 ∷ 40 ∷ 8 ∷ 91 ∷ 3 ∷ 0 ∷ 1 ∷ 3 ∷ 8 ∷ 0 ∷ 1 ∷ 4294967295 ∷ 0 ∷ 2 ∷ 1 ∷ replicate 6 0) (97 ∷ 98 ∷ 1 ∷ replicate 29 0 ++ 97 ∷ 98 ∷ 99 ∷ 27 ∷ 200 ∷ 254 ∷ replicate 5 255 ++ replicate 21 0 ++ replicate 40 107 ++ 1 ∷ replicate 6 0 ++ 128 ∷ replicate 16 0) 141 (97 ∷ []) 4 (negsuc 9223372036854775806) (replicate 60 120) 30 0 ≡ gave (record { rounds = 1; removed = 2; forced = true; stale = false; outcome = Done }) (1 ∷ 2 ∷ 171 ∷ 4 ∷ 0 ∷ 0 ∷ 1 ∷ 60 ∷ 0 ∷ 3 ∷ 0 ∷ 2 ∷ 40 ∷ 8 ∷ replicate 12 0) (97 ∷ replicate 60 120 ++ 0 ∷ 0 ∷ 0 ∷ replicate 40 107 ++ 1 ∷ replicate 6 0 ++ 128 ∷ replicate 16 0)
unfolding entries_of decode holds held free_run every any right_lengths value_fits entry_sound none_shared sound refuse check_sound ◌then◌ check_clock clock_checks check_key key_checks memory_of encode flat call dead same key_of key_is found_from look_up deads without put wiped remove remove_oldest sweep_count sweep after_sweep expiry_of entry_for place_at to_front rewrite_at overwrite_at after gone any_live fit_from first_free run searched is_placed if_room evicted forced_by fit_outcome place_fit placed_by place_anew store_over store_item most_rounds boolean_byte number_bytes value_given item_of check_kind takes_nil check_nil too_late check_lifetime store_checks admits delete_found store_admitted store_found store_work store_call
v235_add = refl

-- add: 0, rounds 0, removed 0
pub v236_add : store_call Add (1 ∷ 3 ∷ 133 ∷ 1 ∷ 5 ∷ 2 ∷ 3 ∷ 1 ∷ 119 ∷ 4 ∷ 5 ∷ 1 ∷ 1 ∷ 0 ∷ 0 ∷ 3 ∷ 0 ∷ 0 ∷ 2 ∷ 8 ∷ replicate 6 0) (97 ∷ 98 ∷ 15 ∷ 123 ∷ replicate 6 255 ++ replicate 22 7 ++ 100 ∷ replicate 31 7 ++ 97 ∷ 98 ∷ 99 ∷ 1 ∷ replicate 60 7) 177 (97 ∷ 98 ∷ 99 ∷ []) 4 (pos 25587) [] 18446744073709551438 5 ≡ gave (plain Done 0) (1 ∷ 3 ∷ 18446744073709551615 ∷ 4 ∷ 5 ∷ 2 ∷ 3 ∷ 0 ∷ 119 ∷ 4 ∷ 5 ∷ 1 ∷ 1 ∷ 0 ∷ 0 ∷ 3 ∷ 0 ∷ 0 ∷ 2 ∷ 8 ∷ replicate 6 0) (97 ∷ 98 ∷ 15 ∷ 123 ∷ replicate 6 255 ++ replicate 22 7 ++ 100 ∷ replicate 31 7 ++ 97 ∷ 98 ∷ 99 ∷ replicate 29 0 ++ replicate 32 7)
unfolding entries_of decode holds held free_run every any right_lengths value_fits entry_sound none_shared sound refuse check_sound ◌then◌ check_clock clock_checks check_key key_checks memory_of encode flat call dead same key_of key_is found_from look_up deads without put wiped remove remove_oldest sweep_count sweep after_sweep expiry_of entry_for place_at to_front rewrite_at overwrite_at after gone any_live fit_from first_free run searched is_placed if_room evicted forced_by fit_outcome place_fit placed_by place_anew store_over store_item most_rounds boolean_byte number_bytes value_given item_of check_kind takes_nil check_nil too_late check_lifetime store_checks admits delete_found store_admitted store_found store_work store_call
v236_add = refl

-- add: 9, rounds 0, removed 1
pub v237_add : store_call Add (1 ∷ 3 ∷ 0 ∷ 1 ∷ 5 ∷ 2 ∷ 1 ∷ 1 ∷ 0 ∷ 4 ∷ 4294967295 ∷ 1 ∷ 3 ∷ 1 ∷ 1 ∷ 4 ∷ 4294967295 ∷ 0 ∷ 1 ∷ 8 ∷ replicate 6 0) (99 ∷ replicate 8 120 ++ replicate 23 7 ++ 97 ∷ 98 ∷ 99 ∷ 120 ∷ replicate 28 0 ++ 100 ∷ 1 ∷ replicate 62 7) 102 (97 ∷ 98 ∷ 99 ∷ []) 4 (pos 79797) (120 ∷ []) 5 4294967295 ≡ gave (plain Exists 1) (1 ∷ 2 ∷ 0 ∷ 1 ∷ 5 ∷ 2 ∷ 1 ∷ 1 ∷ 0 ∷ 4 ∷ 4294967295 ∷ 1 ∷ 3 ∷ 1 ∷ replicate 12 0) (replicate 32 0 ++ 97 ∷ 98 ∷ 99 ∷ 120 ∷ replicate 28 0 ++ 100 ∷ 1 ∷ replicate 62 7)
unfolding entries_of decode holds held free_run every any right_lengths value_fits entry_sound none_shared sound refuse check_sound ◌then◌ check_clock clock_checks check_key key_checks memory_of encode flat call dead same key_of key_is found_from look_up deads without put wiped remove remove_oldest sweep_count sweep after_sweep expiry_of entry_for place_at to_front rewrite_at overwrite_at after gone any_live fit_from first_free run searched is_placed if_room evicted forced_by fit_outcome place_fit placed_by place_anew store_over store_item most_rounds boolean_byte number_bytes value_given item_of check_kind takes_nil check_nil too_late check_lifetime store_checks admits delete_found store_admitted store_found store_work store_call
v237_add = refl

-- add: 0, rounds 0, removed 0
pub v238_add : store_call Add (1 ∷ 3 ∷ 117 ∷ 3 ∷ 4294967295 ∷ 2 ∷ 2 ∷ 8 ∷ 102 ∷ 3 ∷ 5 ∷ 1 ∷ 1 ∷ 8 ∷ 0 ∷ 3 ∷ 5 ∷ 0 ∷ 2 ∷ 8 ∷ replicate 6 0) (98 ∷ 97 ∷ 50 ∷ 240 ∷ replicate 6 0 ++ replicate 22 7 ++ 99 ∷ 94 ∷ 108 ∷ 1 ∷ replicate 5 0 ++ replicate 23 7 ++ 97 ∷ 98 ∷ 242 ∷ 98 ∷ replicate 6 255 ++ replicate 54 7) 122 (97 ∷ 98 ∷ []) 3 (negsuc 8848907302989693574) (replicate 60 120) 18446744073709551493 4294967295 ≡ gave (plain Done 0) (1 ∷ 3 ∷ 18446744073709551615 ∷ 3 ∷ 4294967295 ∷ 2 ∷ 2 ∷ 8 ∷ 102 ∷ 3 ∷ 5 ∷ 1 ∷ 1 ∷ 8 ∷ 0 ∷ 3 ∷ 5 ∷ 0 ∷ 2 ∷ 8 ∷ replicate 6 0) (98 ∷ 97 ∷ 50 ∷ 240 ∷ replicate 6 0 ++ replicate 22 7 ++ 99 ∷ 94 ∷ 108 ∷ 1 ∷ replicate 5 0 ++ replicate 23 7 ++ 97 ∷ 98 ∷ 121 ∷ 125 ∷ 240 ∷ 2 ∷ 177 ∷ 93 ∷ 50 ∷ 133 ∷ replicate 54 7)
unfolding entries_of decode holds held free_run every any right_lengths value_fits entry_sound none_shared sound refuse check_sound ◌then◌ check_clock clock_checks check_key key_checks memory_of encode flat call dead same key_of key_is found_from look_up deads without put wiped remove remove_oldest sweep_count sweep after_sweep expiry_of entry_for place_at to_front rewrite_at overwrite_at after gone any_live fit_from first_free run searched is_placed if_room evicted forced_by fit_outcome place_fit placed_by place_anew store_over store_item most_rounds boolean_byte number_bytes value_given item_of check_kind takes_nil check_nil too_late check_lifetime store_checks admits delete_found store_admitted store_found store_work store_call
v238_add = refl

-- add: 0, rounds 0, removed 1
pub v239_add : store_call Add (1 ∷ 1 ∷ 1 ∷ 4 ∷ 5 ∷ 0 ∷ 1 ∷ 40 ∷ replicate 6 0) (98 ∷ replicate 40 120 ++ replicate 23 7) 68 (98 ∷ []) 4 (pos 63427) (replicate 40 120) 5 5 ≡ gave (plain Done 1) (1 ∷ 1 ∷ 73 ∷ 4 ∷ 5 ∷ 0 ∷ 1 ∷ 40 ∷ replicate 6 0) (98 ∷ replicate 40 120 ++ replicate 23 0)
unfolding entries_of decode holds held free_run every any right_lengths value_fits entry_sound none_shared sound refuse check_sound ◌then◌ check_clock clock_checks check_key key_checks memory_of encode flat call dead same key_of key_is found_from look_up deads without put wiped remove remove_oldest sweep_count sweep after_sweep expiry_of entry_for place_at to_front rewrite_at overwrite_at after gone any_live fit_from first_free run searched is_placed if_room evicted forced_by fit_outcome place_fit placed_by place_anew store_over store_item most_rounds boolean_byte number_bytes value_given item_of check_kind takes_nil check_nil too_late check_lifetime store_checks admits delete_found store_admitted store_found store_work store_call
v239_add = refl

-- add: 12, rounds 0, removed 1
pub v240_add : store_call Add (1 ∷ 1 ∷ 1 ∷ 3 ∷ 5 ∷ 0 ∷ 1 ∷ 8 ∷ []) (100 ∷ 190 ∷ 216 ∷ replicate 6 255 ++ replicate 23 0) 104 (100 ∷ []) 4 (negsuc 0) (replicate 63 120) 0 5 ≡ gave (plain NoMemory 1) (1 ∷ replicate 7 0) (replicate 32 0)
unfolding entries_of decode holds held free_run every any right_lengths value_fits entry_sound none_shared sound refuse check_sound ◌then◌ check_clock clock_checks check_key key_checks memory_of encode flat call dead same key_of key_is found_from look_up deads without put wiped remove remove_oldest sweep_count sweep after_sweep expiry_of entry_for place_at to_front rewrite_at overwrite_at after gone any_live fit_from first_free run searched is_placed if_room evicted forced_by fit_outcome place_fit placed_by place_anew store_over store_item most_rounds boolean_byte number_bytes value_given item_of check_kind takes_nil check_nil too_late check_lifetime store_checks admits delete_found store_admitted store_found store_work store_call
v240_add = refl

-- add: 12, rounds 0, removed 0
pub v241_add : store_call Add (1 ∷ 1 ∷ 0 ∷ 3 ∷ 4294967295 ∷ 0 ∷ 1 ∷ 8 ∷ []) (98 ∷ 50 ∷ 152 ∷ replicate 6 255 ++ replicate 23 0) 99 (replicate 40 107) 1 (pos 33900) (replicate 100 120) 18446744073709551516 0 ≡ gave (plain NoMemory 0) (1 ∷ 1 ∷ 0 ∷ 3 ∷ 4294967295 ∷ 0 ∷ 1 ∷ 8 ∷ []) (98 ∷ 50 ∷ 152 ∷ replicate 6 255 ++ replicate 23 0)
unfolding entries_of decode holds held free_run every any right_lengths value_fits entry_sound none_shared sound refuse check_sound ◌then◌ check_clock clock_checks check_key key_checks memory_of encode flat call dead same key_of key_is found_from look_up deads without put wiped remove remove_oldest sweep_count sweep after_sweep expiry_of entry_for place_at to_front rewrite_at overwrite_at after gone any_live fit_from first_free run searched is_placed if_room evicted forced_by fit_outcome place_fit placed_by place_anew store_over store_item most_rounds boolean_byte number_bytes value_given item_of check_kind takes_nil check_nil too_late check_lifetime store_checks admits delete_found store_admitted store_found store_work store_call
v241_add = refl

-- add: 0, rounds 3, removed 3
pub v242_add : store_call Add (1 ∷ 4 ∷ 0 ∷ 3 ∷ 4294967295 ∷ 3 ∷ 1 ∷ 8 ∷ 0 ∷ 1 ∷ 0 ∷ 2 ∷ 3 ∷ 1 ∷ 0 ∷ 1 ∷ 5 ∷ 1 ∷ 1 ∷ 1 ∷ 0 ∷ 1 ∷ 5 ∷ 0 ∷ 1 ∷ 1 ∷ []) (100 ∷ 1 ∷ replicate 30 7 ++ 99 ∷ 1 ∷ replicate 30 7 ++ 97 ∷ 98 ∷ 99 ∷ 1 ∷ replicate 28 7 ++ 97 ∷ 130 ∷ 77 ∷ replicate 6 0 ++ replicate 23 7) 121 (98 ∷ 97 ∷ []) 4 (negsuc 43239) (replicate 63 120) 5 4294967295 ≡ gave (record { rounds = 3; removed = 3; forced = true; stale = false; outcome = Done }) (1 ∷ 2 ∷ 126 ∷ 4 ∷ 4294967295 ∷ 0 ∷ 2 ∷ 63 ∷ 0 ∷ 3 ∷ 4294967295 ∷ 3 ∷ 1 ∷ 8 ∷ replicate 12 0) (98 ∷ 97 ∷ replicate 63 120 ++ replicate 31 0 ++ 97 ∷ 130 ∷ 77 ∷ replicate 6 0 ++ replicate 23 7)
unfolding entries_of decode holds held free_run every any right_lengths value_fits entry_sound none_shared sound refuse check_sound ◌then◌ check_clock clock_checks check_key key_checks memory_of encode flat call dead same key_of key_is found_from look_up deads without put wiped remove remove_oldest sweep_count sweep after_sweep expiry_of entry_for place_at to_front rewrite_at overwrite_at after gone any_live fit_from first_free run searched is_placed if_room evicted forced_by fit_outcome place_fit placed_by place_anew store_over store_item most_rounds boolean_byte number_bytes value_given item_of check_kind takes_nil check_nil too_late check_lifetime store_checks admits delete_found store_admitted store_found store_work store_call
v242_add = refl

-- add: 12, rounds 0, removed 2
pub v243_add : store_call Add (1 ∷ 2 ∷ 108 ∷ 4 ∷ 5 ∷ 1 ∷ 1 ∷ 31 ∷ 1 ∷ 4 ∷ 5 ∷ 0 ∷ 1 ∷ 30 ∷ []) (99 ∷ replicate 30 120 ++ 7 ∷ 100 ∷ replicate 31 120) 152 (97 ∷ []) 4 (negsuc 19325) (replicate 130 120) 5 5 ≡ gave (plain NoMemory 2) (1 ∷ replicate 13 0) (replicate 64 0)
unfolding entries_of decode holds held free_run every any right_lengths value_fits entry_sound none_shared sound refuse check_sound ◌then◌ check_clock clock_checks check_key key_checks memory_of encode flat call dead same key_of key_is found_from look_up deads without put wiped remove remove_oldest sweep_count sweep after_sweep expiry_of entry_for place_at to_front rewrite_at overwrite_at after gone any_live fit_from first_free run searched is_placed if_room evicted forced_by fit_outcome place_fit placed_by place_anew store_over store_item most_rounds boolean_byte number_bytes value_given item_of check_kind takes_nil check_nil too_late check_lifetime store_checks admits delete_found store_admitted store_found store_work store_call
v243_add = refl

-- add: 0, rounds 1, removed 3
pub v244_add : store_call Add (1 ∷ 3 ∷ 113 ∷ 4 ∷ 0 ∷ 1 ∷ 2 ∷ 0 ∷ 108 ∷ 3 ∷ 5 ∷ 2 ∷ 1 ∷ 8 ∷ 0 ∷ 3 ∷ 0 ∷ 0 ∷ 1 ∷ 8 ∷ replicate 6 0) (97 ∷ 124 ∷ 108 ∷ 1 ∷ replicate 5 0 ++ replicate 23 7 ++ 97 ∷ 98 ∷ replicate 30 0 ++ 100 ∷ 81 ∷ 24 ∷ 1 ∷ replicate 5 0 ++ replicate 55 7) 153 (replicate 40 107) 4 (negsuc 2234327964966604502) (replicate 30 120) 0 4294967295 ≡ gave (record { rounds = 1; removed = 3; forced = true; stale = false; outcome = Done }) (1 ∷ 1 ∷ 0 ∷ 4 ∷ 4294967295 ∷ 0 ∷ 40 ∷ 30 ∷ replicate 18 0) (replicate 40 107 ++ replicate 30 120 ++ replicate 26 0 ++ replicate 32 7)
unfolding entries_of decode holds held free_run every any right_lengths value_fits entry_sound none_shared sound refuse check_sound ◌then◌ check_clock clock_checks check_key key_checks memory_of encode flat call dead same key_of key_is found_from look_up deads without put wiped remove remove_oldest sweep_count sweep after_sweep expiry_of entry_for place_at to_front rewrite_at overwrite_at after gone any_live fit_from first_free run searched is_placed if_room evicted forced_by fit_outcome place_fit placed_by place_anew store_over store_item most_rounds boolean_byte number_bytes value_given item_of check_kind takes_nil check_nil too_late check_lifetime store_checks admits delete_found store_admitted store_found store_work store_call
v244_add = refl

-- add: 0, rounds 1, removed 4
pub v245_add : store_call Add (1 ∷ 4 ∷ 116 ∷ 4 ∷ 0 ∷ 3 ∷ 1 ∷ 8 ∷ 101 ∷ 3 ∷ 5 ∷ 2 ∷ 1 ∷ 8 ∷ 0 ∷ 1 ∷ 0 ∷ 1 ∷ 1 ∷ 1 ∷ 101 ∷ 4 ∷ 0 ∷ 0 ∷ 3 ∷ 8 ∷ []) (97 ∷ 98 ∷ 99 ∷ replicate 8 120 ++ replicate 21 0 ++ 100 ∷ 1 ∷ replicate 30 0 ++ 99 ∷ 224 ∷ 21 ∷ 19 ∷ 235 ∷ 49 ∷ 171 ∷ 123 ∷ 186 ∷ replicate 23 0 ++ 98 ∷ replicate 8 120 ++ replicate 23 0) 121 (replicate 40 107) 4 (pos 37907) (replicate 30 120) 30 0 ≡ gave (record { rounds = 1; removed = 4; forced = true; stale = false; outcome = Done }) (1 ∷ 1 ∷ 151 ∷ 4 ∷ 0 ∷ 0 ∷ 40 ∷ 30 ∷ replicate 18 0) (replicate 40 107 ++ replicate 30 120 ++ replicate 58 0)
unfolding entries_of decode holds held free_run every any right_lengths value_fits entry_sound none_shared sound refuse check_sound ◌then◌ check_clock clock_checks check_key key_checks memory_of encode flat call dead same key_of key_is found_from look_up deads without put wiped remove remove_oldest sweep_count sweep after_sweep expiry_of entry_for place_at to_front rewrite_at overwrite_at after gone any_live fit_from first_free run searched is_placed if_room evicted forced_by fit_outcome place_fit placed_by place_anew store_over store_item most_rounds boolean_byte number_bytes value_given item_of check_kind takes_nil check_nil too_late check_lifetime store_checks admits delete_found store_admitted store_found store_work store_call
v245_add = refl

-- add: 0, rounds 3, removed 4
pub v246_add : store_call Add (1 ∷ 4 ∷ 0 ∷ 1 ∷ 4294967295 ∷ 3 ∷ 1 ∷ 1 ∷ 1 ∷ 4 ∷ 5 ∷ 2 ∷ 1 ∷ 0 ∷ 0 ∷ 1 ∷ 5 ∷ 1 ∷ 2 ∷ 1 ∷ 0 ∷ 1 ∷ 0 ∷ 0 ∷ 1 ∷ 1 ∷ []) (98 ∷ 1 ∷ replicate 30 0 ++ 98 ∷ 97 ∷ 1 ∷ replicate 29 0 ++ 99 ∷ replicate 31 0 ++ 100 ∷ 1 ∷ replicate 30 0) 117 (replicate 40 107) 4 (negsuc 0) (replicate 60 120) 30 5 ≡ gave (record { rounds = 3; removed = 4; forced = true; stale = false; outcome = Done }) (1 ∷ 1 ∷ 147 ∷ 4 ∷ 5 ∷ 0 ∷ 40 ∷ 60 ∷ replicate 18 0) (replicate 40 107 ++ replicate 60 120 ++ replicate 28 0)
unfolding entries_of decode holds held free_run every any right_lengths value_fits entry_sound none_shared sound refuse check_sound ◌then◌ check_clock clock_checks check_key key_checks memory_of encode flat call dead same key_of key_is found_from look_up deads without put wiped remove remove_oldest sweep_count sweep after_sweep expiry_of entry_for place_at to_front rewrite_at overwrite_at after gone any_live fit_from first_free run searched is_placed if_room evicted forced_by fit_outcome place_fit placed_by place_anew store_over store_item most_rounds boolean_byte number_bytes value_given item_of check_kind takes_nil check_nil too_late check_lifetime store_checks admits delete_found store_admitted store_found store_work store_call
v246_add = refl

-- add: 12, rounds 0, removed 0
pub v247_add : store_call Add (1 ∷ 3 ∷ 115 ∷ 3 ∷ 0 ∷ 1 ∷ 1 ∷ 8 ∷ 109 ∷ 1 ∷ 5 ∷ 0 ∷ 2 ∷ 1 ∷ 0 ∷ 4 ∷ 0 ∷ 2 ∷ 3 ∷ 8 ∷ replicate 6 0) (97 ∷ 98 ∷ replicate 30 0 ++ 98 ∷ 124 ∷ 132 ∷ 254 ∷ replicate 5 255 ++ replicate 23 0 ++ 97 ∷ 98 ∷ 99 ∷ replicate 8 120 ++ replicate 53 0) 109 (97 ∷ 98 ∷ []) 4 (pos 72084) (replicate 130 120) 5 5 ≡ gave (plain NoMemory 0) (1 ∷ 2 ∷ 115 ∷ 3 ∷ 0 ∷ 1 ∷ 1 ∷ 8 ∷ 0 ∷ 4 ∷ 0 ∷ 2 ∷ 3 ∷ 8 ∷ replicate 12 0) (replicate 32 0 ++ 98 ∷ 124 ∷ 132 ∷ 254 ∷ replicate 5 255 ++ replicate 23 0 ++ 97 ∷ 98 ∷ 99 ∷ replicate 8 120 ++ replicate 53 0)
unfolding entries_of decode holds held free_run every any right_lengths value_fits entry_sound none_shared sound refuse check_sound ◌then◌ check_clock clock_checks check_key key_checks memory_of encode flat call dead same key_of key_is found_from look_up deads without put wiped remove remove_oldest sweep_count sweep after_sweep expiry_of entry_for place_at to_front rewrite_at overwrite_at after gone any_live fit_from first_free run searched is_placed if_room evicted forced_by fit_outcome place_fit placed_by place_anew store_over store_item most_rounds boolean_byte number_bytes value_given item_of check_kind takes_nil check_nil too_late check_lifetime store_checks admits delete_found store_admitted store_found store_work store_call
v247_add = refl

-- add: 0, rounds 30, removed 30
pub v248_add : store_call Add (1 ∷ 33 ∷ 0 ∷ 3 ∷ 0 ∷ 32 ∷ 1 ∷ 8 ∷ 0 ∷ 3 ∷ 0 ∷ 31 ∷ 1 ∷ 8 ∷ 0 ∷ 3 ∷ 0 ∷ 30 ∷ 1 ∷ 8 ∷ 0 ∷ 3 ∷ 0 ∷ 29 ∷ 1 ∷ 8 ∷ 0 ∷ 3 ∷ 0 ∷ 28 ∷ 1 ∷ 8 ∷ 0 ∷ 3 ∷ 0 ∷ 27 ∷ 1 ∷ 8 ∷ 0 ∷ 3 ∷ 0 ∷ 26 ∷ 1 ∷ 8 ∷ 0 ∷ 3 ∷ 0 ∷ 25 ∷ 1 ∷ 8 ∷ 0 ∷ 3 ∷ 0 ∷ 24 ∷ 1 ∷ 8 ∷ 0 ∷ 3 ∷ 0 ∷ 23 ∷ 1 ∷ 8 ∷ 0 ∷ 3 ∷ 0 ∷ 22 ∷ 1 ∷ 8 ∷ 0 ∷ 3 ∷ 0 ∷ 21 ∷ 1 ∷ 8 ∷ 0 ∷ 3 ∷ 0 ∷ 20 ∷ 1 ∷ 8 ∷ 0 ∷ 3 ∷ 0 ∷ 19 ∷ 1 ∷ 8 ∷ 0 ∷ 3 ∷ 0 ∷ 18 ∷ 1 ∷ 8 ∷ 0 ∷ 3 ∷ 0 ∷ 17 ∷ 1 ∷ 8 ∷ 0 ∷ 3 ∷ 0 ∷ 16 ∷ 1 ∷ 8 ∷ 0 ∷ 3 ∷ 0 ∷ 15 ∷ 1 ∷ 8 ∷ 0 ∷ 3 ∷ 0 ∷ 14 ∷ 1 ∷ 8 ∷ 0 ∷ 3 ∷ 0 ∷ 13 ∷ 1 ∷ 8 ∷ 0 ∷ 3 ∷ 0 ∷ 12 ∷ 1 ∷ 8 ∷ 0 ∷ 3 ∷ 0 ∷ 11 ∷ 1 ∷ 8 ∷ 0 ∷ 3 ∷ 0 ∷ 10 ∷ 1 ∷ 8 ∷ 0 ∷ 3 ∷ 0 ∷ 9 ∷ 1 ∷ 8 ∷ 0 ∷ 3 ∷ 0 ∷ 8 ∷ 1 ∷ 8 ∷ 0 ∷ 3 ∷ 0 ∷ 7 ∷ 1 ∷ 8 ∷ 0 ∷ 3 ∷ 0 ∷ 6 ∷ 1 ∷ 8 ∷ 0 ∷ 3 ∷ 0 ∷ 5 ∷ 1 ∷ 8 ∷ 0 ∷ 3 ∷ 0 ∷ 4 ∷ 1 ∷ 8 ∷ 0 ∷ 3 ∷ 0 ∷ 3 ∷ 1 ∷ 8 ∷ 0 ∷ 3 ∷ 0 ∷ 2 ∷ 1 ∷ 8 ∷ 0 ∷ 3 ∷ 0 ∷ 1 ∷ 1 ∷ 8 ∷ 0 ∷ 3 ∷ 0 ∷ 0 ∷ 1 ∷ 8 ∷ []) (65 ∷ replicate 31 0 ++ 66 ∷ 1 ∷ replicate 30 0 ++ 67 ∷ 2 ∷ replicate 30 0 ++ 68 ∷ 3 ∷ replicate 30 0 ++ 69 ∷ 4 ∷ replicate 30 0 ++ 70 ∷ 5 ∷ replicate 30 0 ++ 71 ∷ 6 ∷ replicate 30 0 ++ 72 ∷ 7 ∷ replicate 30 0 ++ 73 ∷ 8 ∷ replicate 30 0 ++ 74 ∷ 9 ∷ replicate 30 0 ++ 75 ∷ 10 ∷ replicate 30 0 ++ 76 ∷ 11 ∷ replicate 30 0 ++ 77 ∷ 12 ∷ replicate 30 0 ++ 78 ∷ 13 ∷ replicate 30 0 ++ 79 ∷ 14 ∷ replicate 30 0 ++ 80 ∷ 15 ∷ replicate 30 0 ++ 81 ∷ 16 ∷ replicate 30 0 ++ 82 ∷ 17 ∷ replicate 30 0 ++ 83 ∷ 18 ∷ replicate 30 0 ++ 84 ∷ 19 ∷ replicate 30 0 ++ 85 ∷ 20 ∷ replicate 30 0 ++ 86 ∷ 21 ∷ replicate 30 0 ++ 87 ∷ 22 ∷ replicate 30 0 ++ 88 ∷ 23 ∷ replicate 30 0 ++ 89 ∷ 24 ∷ replicate 30 0 ++ 90 ∷ 25 ∷ replicate 30 0 ++ 91 ∷ 26 ∷ replicate 30 0 ++ 92 ∷ 27 ∷ replicate 30 0 ++ 93 ∷ 28 ∷ replicate 30 0 ++ 94 ∷ 29 ∷ replicate 30 0 ++ 95 ∷ 30 ∷ replicate 30 0 ++ 96 ∷ 31 ∷ replicate 30 0 ++ 97 ∷ 32 ∷ replicate 30 0) 2 (122 ∷ []) 4 (pos 0) (replicate 959 120) 0 0 ≡ gave (record { rounds = 30; removed = 30; forced = true; stale = false; outcome = Done }) (1 ∷ 4 ∷ 0 ∷ 4 ∷ 0 ∷ 0 ∷ 1 ∷ 959 ∷ 0 ∷ 3 ∷ 0 ∷ 32 ∷ 1 ∷ 8 ∷ 0 ∷ 3 ∷ 0 ∷ 31 ∷ 1 ∷ 8 ∷ 0 ∷ 3 ∷ 0 ∷ 30 ∷ 1 ∷ 8 ∷ replicate 174 0) (122 ∷ replicate 959 120 ++ 95 ∷ 30 ∷ replicate 30 0 ++ 96 ∷ 31 ∷ replicate 30 0 ++ 97 ∷ 32 ∷ replicate 30 0)
unfolding entries_of decode holds held free_run every any right_lengths value_fits entry_sound none_shared sound refuse check_sound ◌then◌ check_clock clock_checks check_key key_checks memory_of encode flat call dead same key_of key_is found_from look_up deads without put wiped remove remove_oldest sweep_count sweep after_sweep expiry_of entry_for place_at to_front rewrite_at overwrite_at after gone any_live fit_from first_free run searched is_placed if_room evicted forced_by fit_outcome place_fit placed_by place_anew store_over store_item most_rounds boolean_byte number_bytes value_given item_of check_kind takes_nil check_nil too_late check_lifetime store_checks admits delete_found store_admitted store_found store_work store_call
v248_add = refl

-- add: 12, rounds 0, removed 0
pub v249_add : store_call Add (1 ∷ 33 ∷ 0 ∷ 3 ∷ 0 ∷ 32 ∷ 1 ∷ 8 ∷ 0 ∷ 3 ∷ 0 ∷ 31 ∷ 1 ∷ 8 ∷ 0 ∷ 3 ∷ 0 ∷ 30 ∷ 1 ∷ 8 ∷ 0 ∷ 3 ∷ 0 ∷ 29 ∷ 1 ∷ 8 ∷ 0 ∷ 3 ∷ 0 ∷ 28 ∷ 1 ∷ 8 ∷ 0 ∷ 3 ∷ 0 ∷ 27 ∷ 1 ∷ 8 ∷ 0 ∷ 3 ∷ 0 ∷ 26 ∷ 1 ∷ 8 ∷ 0 ∷ 3 ∷ 0 ∷ 25 ∷ 1 ∷ 8 ∷ 0 ∷ 3 ∷ 0 ∷ 24 ∷ 1 ∷ 8 ∷ 0 ∷ 3 ∷ 0 ∷ 23 ∷ 1 ∷ 8 ∷ 0 ∷ 3 ∷ 0 ∷ 22 ∷ 1 ∷ 8 ∷ 0 ∷ 3 ∷ 0 ∷ 21 ∷ 1 ∷ 8 ∷ 0 ∷ 3 ∷ 0 ∷ 20 ∷ 1 ∷ 8 ∷ 0 ∷ 3 ∷ 0 ∷ 19 ∷ 1 ∷ 8 ∷ 0 ∷ 3 ∷ 0 ∷ 18 ∷ 1 ∷ 8 ∷ 0 ∷ 3 ∷ 0 ∷ 17 ∷ 1 ∷ 8 ∷ 0 ∷ 3 ∷ 0 ∷ 16 ∷ 1 ∷ 8 ∷ 0 ∷ 3 ∷ 0 ∷ 15 ∷ 1 ∷ 8 ∷ 0 ∷ 3 ∷ 0 ∷ 14 ∷ 1 ∷ 8 ∷ 0 ∷ 3 ∷ 0 ∷ 13 ∷ 1 ∷ 8 ∷ 0 ∷ 3 ∷ 0 ∷ 12 ∷ 1 ∷ 8 ∷ 0 ∷ 3 ∷ 0 ∷ 11 ∷ 1 ∷ 8 ∷ 0 ∷ 3 ∷ 0 ∷ 10 ∷ 1 ∷ 8 ∷ 0 ∷ 3 ∷ 0 ∷ 9 ∷ 1 ∷ 8 ∷ 0 ∷ 3 ∷ 0 ∷ 8 ∷ 1 ∷ 8 ∷ 0 ∷ 3 ∷ 0 ∷ 7 ∷ 1 ∷ 8 ∷ 0 ∷ 3 ∷ 0 ∷ 6 ∷ 1 ∷ 8 ∷ 0 ∷ 3 ∷ 0 ∷ 5 ∷ 1 ∷ 8 ∷ 0 ∷ 3 ∷ 0 ∷ 4 ∷ 1 ∷ 8 ∷ 0 ∷ 3 ∷ 0 ∷ 3 ∷ 1 ∷ 8 ∷ 0 ∷ 3 ∷ 0 ∷ 2 ∷ 1 ∷ 8 ∷ 0 ∷ 3 ∷ 0 ∷ 1 ∷ 1 ∷ 8 ∷ 0 ∷ 3 ∷ 0 ∷ 0 ∷ 1 ∷ 8 ∷ []) (65 ∷ replicate 31 0 ++ 66 ∷ 1 ∷ replicate 30 0 ++ 67 ∷ 2 ∷ replicate 30 0 ++ 68 ∷ 3 ∷ replicate 30 0 ++ 69 ∷ 4 ∷ replicate 30 0 ++ 70 ∷ 5 ∷ replicate 30 0 ++ 71 ∷ 6 ∷ replicate 30 0 ++ 72 ∷ 7 ∷ replicate 30 0 ++ 73 ∷ 8 ∷ replicate 30 0 ++ 74 ∷ 9 ∷ replicate 30 0 ++ 75 ∷ 10 ∷ replicate 30 0 ++ 76 ∷ 11 ∷ replicate 30 0 ++ 77 ∷ 12 ∷ replicate 30 0 ++ 78 ∷ 13 ∷ replicate 30 0 ++ 79 ∷ 14 ∷ replicate 30 0 ++ 80 ∷ 15 ∷ replicate 30 0 ++ 81 ∷ 16 ∷ replicate 30 0 ++ 82 ∷ 17 ∷ replicate 30 0 ++ 83 ∷ 18 ∷ replicate 30 0 ++ 84 ∷ 19 ∷ replicate 30 0 ++ 85 ∷ 20 ∷ replicate 30 0 ++ 86 ∷ 21 ∷ replicate 30 0 ++ 87 ∷ 22 ∷ replicate 30 0 ++ 88 ∷ 23 ∷ replicate 30 0 ++ 89 ∷ 24 ∷ replicate 30 0 ++ 90 ∷ 25 ∷ replicate 30 0 ++ 91 ∷ 26 ∷ replicate 30 0 ++ 92 ∷ 27 ∷ replicate 30 0 ++ 93 ∷ 28 ∷ replicate 30 0 ++ 94 ∷ 29 ∷ replicate 30 0 ++ 95 ∷ 30 ∷ replicate 30 0 ++ 96 ∷ 31 ∷ replicate 30 0 ++ 97 ∷ 32 ∷ replicate 30 0) 2 (122 ∷ []) 4 (pos 0) (replicate 991 120) 0 0 ≡ gave (plain NoMemory 0) (1 ∷ 33 ∷ 0 ∷ 3 ∷ 0 ∷ 32 ∷ 1 ∷ 8 ∷ 0 ∷ 3 ∷ 0 ∷ 31 ∷ 1 ∷ 8 ∷ 0 ∷ 3 ∷ 0 ∷ 30 ∷ 1 ∷ 8 ∷ 0 ∷ 3 ∷ 0 ∷ 29 ∷ 1 ∷ 8 ∷ 0 ∷ 3 ∷ 0 ∷ 28 ∷ 1 ∷ 8 ∷ 0 ∷ 3 ∷ 0 ∷ 27 ∷ 1 ∷ 8 ∷ 0 ∷ 3 ∷ 0 ∷ 26 ∷ 1 ∷ 8 ∷ 0 ∷ 3 ∷ 0 ∷ 25 ∷ 1 ∷ 8 ∷ 0 ∷ 3 ∷ 0 ∷ 24 ∷ 1 ∷ 8 ∷ 0 ∷ 3 ∷ 0 ∷ 23 ∷ 1 ∷ 8 ∷ 0 ∷ 3 ∷ 0 ∷ 22 ∷ 1 ∷ 8 ∷ 0 ∷ 3 ∷ 0 ∷ 21 ∷ 1 ∷ 8 ∷ 0 ∷ 3 ∷ 0 ∷ 20 ∷ 1 ∷ 8 ∷ 0 ∷ 3 ∷ 0 ∷ 19 ∷ 1 ∷ 8 ∷ 0 ∷ 3 ∷ 0 ∷ 18 ∷ 1 ∷ 8 ∷ 0 ∷ 3 ∷ 0 ∷ 17 ∷ 1 ∷ 8 ∷ 0 ∷ 3 ∷ 0 ∷ 16 ∷ 1 ∷ 8 ∷ 0 ∷ 3 ∷ 0 ∷ 15 ∷ 1 ∷ 8 ∷ 0 ∷ 3 ∷ 0 ∷ 14 ∷ 1 ∷ 8 ∷ 0 ∷ 3 ∷ 0 ∷ 13 ∷ 1 ∷ 8 ∷ 0 ∷ 3 ∷ 0 ∷ 12 ∷ 1 ∷ 8 ∷ 0 ∷ 3 ∷ 0 ∷ 11 ∷ 1 ∷ 8 ∷ 0 ∷ 3 ∷ 0 ∷ 10 ∷ 1 ∷ 8 ∷ 0 ∷ 3 ∷ 0 ∷ 9 ∷ 1 ∷ 8 ∷ 0 ∷ 3 ∷ 0 ∷ 8 ∷ 1 ∷ 8 ∷ 0 ∷ 3 ∷ 0 ∷ 7 ∷ 1 ∷ 8 ∷ 0 ∷ 3 ∷ 0 ∷ 6 ∷ 1 ∷ 8 ∷ 0 ∷ 3 ∷ 0 ∷ 5 ∷ 1 ∷ 8 ∷ 0 ∷ 3 ∷ 0 ∷ 4 ∷ 1 ∷ 8 ∷ 0 ∷ 3 ∷ 0 ∷ 3 ∷ 1 ∷ 8 ∷ 0 ∷ 3 ∷ 0 ∷ 2 ∷ 1 ∷ 8 ∷ 0 ∷ 3 ∷ 0 ∷ 1 ∷ 1 ∷ 8 ∷ 0 ∷ 3 ∷ 0 ∷ 0 ∷ 1 ∷ 8 ∷ []) (65 ∷ replicate 31 0 ++ 66 ∷ 1 ∷ replicate 30 0 ++ 67 ∷ 2 ∷ replicate 30 0 ++ 68 ∷ 3 ∷ replicate 30 0 ++ 69 ∷ 4 ∷ replicate 30 0 ++ 70 ∷ 5 ∷ replicate 30 0 ++ 71 ∷ 6 ∷ replicate 30 0 ++ 72 ∷ 7 ∷ replicate 30 0 ++ 73 ∷ 8 ∷ replicate 30 0 ++ 74 ∷ 9 ∷ replicate 30 0 ++ 75 ∷ 10 ∷ replicate 30 0 ++ 76 ∷ 11 ∷ replicate 30 0 ++ 77 ∷ 12 ∷ replicate 30 0 ++ 78 ∷ 13 ∷ replicate 30 0 ++ 79 ∷ 14 ∷ replicate 30 0 ++ 80 ∷ 15 ∷ replicate 30 0 ++ 81 ∷ 16 ∷ replicate 30 0 ++ 82 ∷ 17 ∷ replicate 30 0 ++ 83 ∷ 18 ∷ replicate 30 0 ++ 84 ∷ 19 ∷ replicate 30 0 ++ 85 ∷ 20 ∷ replicate 30 0 ++ 86 ∷ 21 ∷ replicate 30 0 ++ 87 ∷ 22 ∷ replicate 30 0 ++ 88 ∷ 23 ∷ replicate 30 0 ++ 89 ∷ 24 ∷ replicate 30 0 ++ 90 ∷ 25 ∷ replicate 30 0 ++ 91 ∷ 26 ∷ replicate 30 0 ++ 92 ∷ 27 ∷ replicate 30 0 ++ 93 ∷ 28 ∷ replicate 30 0 ++ 94 ∷ 29 ∷ replicate 30 0 ++ 95 ∷ 30 ∷ replicate 30 0 ++ 96 ∷ 31 ∷ replicate 30 0 ++ 97 ∷ 32 ∷ replicate 30 0)
unfolding entries_of decode holds held free_run every any right_lengths value_fits entry_sound none_shared sound refuse check_sound ◌then◌ check_clock clock_checks check_key key_checks memory_of encode flat call dead same key_of key_is found_from look_up deads without put wiped remove remove_oldest sweep_count sweep after_sweep expiry_of entry_for place_at to_front rewrite_at overwrite_at after gone any_live fit_from first_free run searched is_placed if_room evicted forced_by fit_outcome place_fit placed_by place_anew store_over store_item most_rounds boolean_byte number_bytes value_given item_of check_kind takes_nil check_nil too_late check_lifetime store_checks admits delete_found store_admitted store_found store_work store_call
v249_add = refl

-- safe_add: 7, rounds 0, removed 0
pub v250_safe_add : store_call SafeAdd (1 ∷ 1 ∷ 141 ∷ 4 ∷ 5 ∷ 0 ∷ 2 ∷ 20 ∷ replicate 18 0) (98 ∷ 97 ∷ replicate 20 120 ++ replicate 106 0) 18446744073709551615 (100 ∷ []) 3 (pos 45180) (replicate 30 120) 30 0 ≡ gave (plain ExpiryTooLate 0) (1 ∷ 1 ∷ 141 ∷ 4 ∷ 5 ∷ 0 ∷ 2 ∷ 20 ∷ replicate 18 0) (98 ∷ 97 ∷ replicate 20 120 ++ replicate 106 0)
unfolding entries_of decode holds held free_run every any right_lengths value_fits entry_sound none_shared sound refuse check_sound ◌then◌ check_clock clock_checks check_key key_checks memory_of encode flat call dead same key_of key_is found_from look_up deads without put wiped remove remove_oldest sweep_count sweep after_sweep expiry_of entry_for place_at to_front rewrite_at overwrite_at after gone any_live fit_from first_free run searched is_placed if_room evicted forced_by fit_outcome place_fit placed_by place_anew store_over store_item most_rounds boolean_byte number_bytes value_given item_of check_kind takes_nil check_nil too_late check_lifetime store_checks admits delete_found store_admitted store_found store_work store_call
v250_safe_add = refl

-- safe_add: 0, rounds 0, removed 0
pub v251_safe_add : store_call SafeAdd (1 ∷ 1 ∷ 0 ∷ 1 ∷ 5 ∷ 0 ∷ 2 ∷ 1 ∷ replicate 6 0) (97 ∷ 98 ∷ 1 ∷ replicate 61 0) 96 (99 ∷ []) 1 (pos 39449) [] 5 0 ≡ gave (plain Done 0) (1 ∷ 2 ∷ 101 ∷ 1 ∷ 0 ∷ 1 ∷ 1 ∷ 1 ∷ 0 ∷ 1 ∷ 5 ∷ 0 ∷ 2 ∷ 1 ∷ []) (97 ∷ 98 ∷ 1 ∷ replicate 29 0 ++ 99 ∷ 1 ∷ replicate 30 0)
unfolding entries_of decode holds held free_run every any right_lengths value_fits entry_sound none_shared sound refuse check_sound ◌then◌ check_clock clock_checks check_key key_checks memory_of encode flat call dead same key_of key_is found_from look_up deads without put wiped remove remove_oldest sweep_count sweep after_sweep expiry_of entry_for place_at to_front rewrite_at overwrite_at after gone any_live fit_from first_free run searched is_placed if_room evicted forced_by fit_outcome place_fit placed_by place_anew store_over store_item most_rounds boolean_byte number_bytes value_given item_of check_kind takes_nil check_nil too_late check_lifetime store_checks admits delete_found store_admitted store_found store_work store_call
v251_safe_add = refl

-- safe_add: 0, rounds 0, removed 0
pub v252_safe_add : store_call SafeAdd (1 ∷ 1 ∷ 0 ∷ 3 ∷ 0 ∷ 0 ∷ 3 ∷ 8 ∷ replicate 6 0) (97 ∷ 98 ∷ 99 ∷ 20 ∷ 155 ∷ replicate 59 0) 83 (98 ∷ 97 ∷ []) 4 (negsuc 58335) (replicate 30 120) 30 4294967295 ≡ gave (plain Done 0) (1 ∷ 2 ∷ 113 ∷ 4 ∷ 4294967295 ∷ 1 ∷ 2 ∷ 30 ∷ 0 ∷ 3 ∷ 0 ∷ 0 ∷ 3 ∷ 8 ∷ []) (97 ∷ 98 ∷ 99 ∷ 20 ∷ 155 ∷ replicate 27 0 ++ 98 ∷ 97 ∷ replicate 30 120)
unfolding entries_of decode holds held free_run every any right_lengths value_fits entry_sound none_shared sound refuse check_sound ◌then◌ check_clock clock_checks check_key key_checks memory_of encode flat call dead same key_of key_is found_from look_up deads without put wiped remove remove_oldest sweep_count sweep after_sweep expiry_of entry_for place_at to_front rewrite_at overwrite_at after gone any_live fit_from first_free run searched is_placed if_room evicted forced_by fit_outcome place_fit placed_by place_anew store_over store_item most_rounds boolean_byte number_bytes value_given item_of check_kind takes_nil check_nil too_late check_lifetime store_checks admits delete_found store_admitted store_found store_work store_call
v252_safe_add = refl

-- safe_add: 9, rounds 0, removed 0
pub v253_safe_add : store_call SafeAdd (1 ∷ 2 ∷ 129 ∷ 3 ∷ 5 ∷ 1 ∷ 1 ∷ 8 ∷ 0 ∷ 3 ∷ 4294967295 ∷ 0 ∷ 3 ∷ 8 ∷ []) (97 ∷ 98 ∷ 99 ∷ replicate 7 255 ++ 127 ∷ replicate 21 0 ++ 98 ∷ 167 ∷ 186 ∷ 254 ∷ replicate 5 255 ++ replicate 23 0) 120 (97 ∷ 98 ∷ 99 ∷ []) 3 (pos 9223372036854775806) (replicate 100 120) 0 4294967295 ≡ gave (plain Exists 0) (1 ∷ 2 ∷ 129 ∷ 3 ∷ 5 ∷ 1 ∷ 1 ∷ 8 ∷ 0 ∷ 3 ∷ 4294967295 ∷ 0 ∷ 3 ∷ 8 ∷ []) (97 ∷ 98 ∷ 99 ∷ replicate 7 255 ++ 127 ∷ replicate 21 0 ++ 98 ∷ 167 ∷ 186 ∷ 254 ∷ replicate 5 255 ++ replicate 23 0)
unfolding entries_of decode holds held free_run every any right_lengths value_fits entry_sound none_shared sound refuse check_sound ◌then◌ check_clock clock_checks check_key key_checks memory_of encode flat call dead same key_of key_is found_from look_up deads without put wiped remove remove_oldest sweep_count sweep after_sweep expiry_of entry_for place_at to_front rewrite_at overwrite_at after gone any_live fit_from first_free run searched is_placed if_room evicted forced_by fit_outcome place_fit placed_by place_anew store_over store_item most_rounds boolean_byte number_bytes value_given item_of check_kind takes_nil check_nil too_late check_lifetime store_checks admits delete_found store_admitted store_found store_work store_call
v253_safe_add = refl

-- safe_add: 1, rounds 0, removed 0
pub v254_safe_add : store_call SafeAdd (1 ∷ 2 ∷ 103 ∷ 1 ∷ 4294967295 ∷ 0 ∷ 2 ∷ 1 ∷ 128 ∷ 3 ∷ 4294967295 ∷ 1 ∷ 1 ∷ 8 ∷ []) (98 ∷ 97 ∷ 2 ∷ 19 ∷ replicate 28 0 ++ 100 ∷ 198 ∷ 136 ∷ replicate 6 255 ++ replicate 23 0) 103 (97 ∷ []) 255 (negsuc 3092) (replicate 95 120) 30 4294967295 ≡ gave (plain NotSound 0) (1 ∷ 2 ∷ 103 ∷ 1 ∷ 4294967295 ∷ 0 ∷ 2 ∷ 1 ∷ 128 ∷ 3 ∷ 4294967295 ∷ 1 ∷ 1 ∷ 8 ∷ []) (98 ∷ 97 ∷ 2 ∷ 19 ∷ replicate 28 0 ++ 100 ∷ 198 ∷ 136 ∷ replicate 6 255 ++ replicate 23 0)
unfolding entries_of decode holds held free_run every any right_lengths value_fits entry_sound none_shared sound refuse check_sound ◌then◌ check_clock clock_checks check_key key_checks memory_of encode flat call dead same key_of key_is found_from look_up deads without put wiped remove remove_oldest sweep_count sweep after_sweep expiry_of entry_for place_at to_front rewrite_at overwrite_at after gone any_live fit_from first_free run searched is_placed if_room evicted forced_by fit_outcome place_fit placed_by place_anew store_over store_item most_rounds boolean_byte number_bytes value_given item_of check_kind takes_nil check_nil too_late check_lifetime store_checks admits delete_found store_admitted store_found store_work store_call
v254_safe_add = refl

-- safe_add: 0, rounds 0, removed 0
pub v255_safe_add : store_call SafeAdd (1 ∷ 1 ∷ 130 ∷ 4 ∷ 5 ∷ 0 ∷ 1 ∷ 30 ∷ replicate 18 0) (97 ∷ replicate 30 120 ++ replicate 97 0) 105 (97 ∷ 98 ∷ 99 ∷ []) 3 (negsuc 87392) (replicate 95 120) 18446744073709551510 4294967295 ≡ gave (plain Done 0) (1 ∷ 2 ∷ 18446744073709551615 ∷ 3 ∷ 4294967295 ∷ 1 ∷ 3 ∷ 8 ∷ 130 ∷ 4 ∷ 5 ∷ 0 ∷ 1 ∷ 30 ∷ replicate 12 0) (97 ∷ replicate 30 120 ++ 0 ∷ 97 ∷ 98 ∷ 99 ∷ 159 ∷ 170 ∷ 254 ∷ replicate 5 255 ++ replicate 85 0)
unfolding entries_of decode holds held free_run every any right_lengths value_fits entry_sound none_shared sound refuse check_sound ◌then◌ check_clock clock_checks check_key key_checks memory_of encode flat call dead same key_of key_is found_from look_up deads without put wiped remove remove_oldest sweep_count sweep after_sweep expiry_of entry_for place_at to_front rewrite_at overwrite_at after gone any_live fit_from first_free run searched is_placed if_room evicted forced_by fit_outcome place_fit placed_by place_anew store_over store_item most_rounds boolean_byte number_bytes value_given item_of check_kind takes_nil check_nil too_late check_lifetime store_checks admits delete_found store_admitted store_found store_work store_call
v255_safe_add = refl

-- safe_add: 3, rounds 0, removed 0
pub v256_safe_add : store_call SafeAdd (1 ∷ 1 ∷ 119 ∷ 4 ∷ 4294967295 ∷ 0 ∷ 1 ∷ 8 ∷ replicate 6 0) (97 ∷ replicate 8 120 ++ replicate 55 0) 163 [] 3 (negsuc 8368890884480478460) (replicate 33 120) 0 0 ≡ gave (plain KeyEmpty 0) (1 ∷ 1 ∷ 119 ∷ 4 ∷ 4294967295 ∷ 0 ∷ 1 ∷ 8 ∷ replicate 6 0) (97 ∷ replicate 8 120 ++ replicate 55 0)
unfolding entries_of decode holds held free_run every any right_lengths value_fits entry_sound none_shared sound refuse check_sound ◌then◌ check_clock clock_checks check_key key_checks memory_of encode flat call dead same key_of key_is found_from look_up deads without put wiped remove remove_oldest sweep_count sweep after_sweep expiry_of entry_for place_at to_front rewrite_at overwrite_at after gone any_live fit_from first_free run searched is_placed if_room evicted forced_by fit_outcome place_fit placed_by place_anew store_over store_item most_rounds boolean_byte number_bytes value_given item_of check_kind takes_nil check_nil too_late check_lifetime store_checks admits delete_found store_admitted store_found store_work store_call
v256_safe_add = refl

-- safe_add: 5, rounds 0, removed 0
pub v257_safe_add : store_call SafeAdd (1 ∷ 1 ∷ 0 ∷ 3 ∷ 0 ∷ 0 ∷ 1 ∷ 8 ∷ []) (99 ∷ 228 ∷ 181 ∷ replicate 6 0 ++ replicate 19 7 ++ 71 ∷ 7 ∷ 7 ∷ 7 ∷ []) 116 (98 ∷ []) 255 (negsuc 99652) (replicate 8 120) 0 4294967295 ≡ gave (plain KindUnknown 0) (1 ∷ 1 ∷ 0 ∷ 3 ∷ 0 ∷ 0 ∷ 1 ∷ 8 ∷ []) (99 ∷ 228 ∷ 181 ∷ replicate 6 0 ++ replicate 19 7 ++ 71 ∷ 7 ∷ 7 ∷ 7 ∷ [])
unfolding entries_of decode holds held free_run every any right_lengths value_fits entry_sound none_shared sound refuse check_sound ◌then◌ check_clock clock_checks check_key key_checks memory_of encode flat call dead same key_of key_is found_from look_up deads without put wiped remove remove_oldest sweep_count sweep after_sweep expiry_of entry_for place_at to_front rewrite_at overwrite_at after gone any_live fit_from first_free run searched is_placed if_room evicted forced_by fit_outcome place_fit placed_by place_anew store_over store_item most_rounds boolean_byte number_bytes value_given item_of check_kind takes_nil check_nil too_late check_lifetime store_checks admits delete_found store_admitted store_found store_work store_call
v257_safe_add = refl

-- safe_add: 12, rounds 0, removed 0
pub v258_safe_add : store_call SafeAdd (1 ∷ 1 ∷ 0 ∷ 1 ∷ 0 ∷ 0 ∷ 3 ∷ 1 ∷ []) (97 ∷ 98 ∷ 99 ∷ 1 ∷ replicate 28 0) 100 (98 ∷ 97 ∷ []) 4 (pos 14971) (replicate 40 120) 30 0 ≡ gave (plain NoMemory 0) (1 ∷ 1 ∷ 0 ∷ 1 ∷ 0 ∷ 0 ∷ 3 ∷ 1 ∷ []) (97 ∷ 98 ∷ 99 ∷ 1 ∷ replicate 28 0)
unfolding entries_of decode holds held free_run every any right_lengths value_fits entry_sound none_shared sound refuse check_sound ◌then◌ check_clock clock_checks check_key key_checks memory_of encode flat call dead same key_of key_is found_from look_up deads without put wiped remove remove_oldest sweep_count sweep after_sweep expiry_of entry_for place_at to_front rewrite_at overwrite_at after gone any_live fit_from first_free run searched is_placed if_room evicted forced_by fit_outcome place_fit placed_by place_anew store_over store_item most_rounds boolean_byte number_bytes value_given item_of check_kind takes_nil check_nil too_late check_lifetime store_checks admits delete_found store_admitted store_found store_work store_call
v258_safe_add = refl

-- safe_add: 1, rounds 0, removed 0
pub v259_safe_add : store_call SafeAdd (1 ∷ 8948392451150838735 ∷ 0 ∷ 4 ∷ 0 ∷ 0 ∷ 1 ∷ 60 ∷ replicate 6 0) (97 ∷ replicate 60 120 ++ 0 ∷ 0 ∷ 0 ∷ []) 160 (97 ∷ 98 ∷ 99 ∷ []) 255 (pos 0) (replicate 95 120) 5 0 ≡ gave (plain NotSound 0) (1 ∷ 8948392451150838735 ∷ 0 ∷ 4 ∷ 0 ∷ 0 ∷ 1 ∷ 60 ∷ replicate 6 0) (97 ∷ replicate 60 120 ++ 0 ∷ 0 ∷ 0 ∷ [])
unfolding entries_of decode holds held free_run every any right_lengths value_fits entry_sound none_shared sound refuse check_sound ◌then◌ check_clock clock_checks check_key key_checks memory_of encode flat call dead same key_of key_is found_from look_up deads without put wiped remove remove_oldest sweep_count sweep after_sweep expiry_of entry_for place_at to_front rewrite_at overwrite_at after gone any_live fit_from first_free run searched is_placed if_room evicted forced_by fit_outcome place_fit placed_by place_anew store_over store_item most_rounds boolean_byte number_bytes value_given item_of check_kind takes_nil check_nil too_late check_lifetime store_checks admits delete_found store_admitted store_found store_work store_call
v259_safe_add = refl

-- safe_add: 4, rounds 0, removed 0
pub v260_safe_add : store_call SafeAdd (1 ∷ replicate 13 0) (replicate 64 0) 140 (replicate 65536 107) 4 (pos 5736) (replicate 130 120) 5 4294967295 ≡ gave (plain KeyTooLong 0) (1 ∷ replicate 13 0) (replicate 64 0)
unfolding entries_of decode holds held free_run every any right_lengths value_fits entry_sound none_shared sound refuse check_sound ◌then◌ check_clock clock_checks check_key key_checks memory_of encode flat call dead same key_of key_is found_from look_up deads without put wiped remove remove_oldest sweep_count sweep after_sweep expiry_of entry_for place_at to_front rewrite_at overwrite_at after gone any_live fit_from first_free run searched is_placed if_room evicted forced_by fit_outcome place_fit placed_by place_anew store_over store_item most_rounds boolean_byte number_bytes value_given item_of check_kind takes_nil check_nil too_late check_lifetime store_checks admits delete_found store_admitted store_found store_work store_call
v260_safe_add = refl

-- safe_add: 0, rounds 0, removed 2
pub v261_safe_add : store_call SafeAdd (1 ∷ 2 ∷ 100 ∷ 3 ∷ 0 ∷ 1 ∷ 1 ∷ 8 ∷ 99 ∷ 1 ∷ 4294967295 ∷ 0 ∷ 1 ∷ 1 ∷ replicate 12 0) (99 ∷ 1 ∷ replicate 30 0 ++ 97 ∷ 158 ∷ 143 ∷ 254 ∷ replicate 5 255 ++ replicate 87 0) 140 (97 ∷ 98 ∷ 99 ∷ []) 4 (pos 1385501718514117306) (replicate 20 120) 30 5 ≡ gave (plain Done 2) (1 ∷ 1 ∷ 170 ∷ 4 ∷ 5 ∷ 0 ∷ 3 ∷ 20 ∷ replicate 18 0) (97 ∷ 98 ∷ 99 ∷ replicate 20 120 ++ replicate 105 0)
unfolding entries_of decode holds held free_run every any right_lengths value_fits entry_sound none_shared sound refuse check_sound ◌then◌ check_clock clock_checks check_key key_checks memory_of encode flat call dead same key_of key_is found_from look_up deads without put wiped remove remove_oldest sweep_count sweep after_sweep expiry_of entry_for place_at to_front rewrite_at overwrite_at after gone any_live fit_from first_free run searched is_placed if_room evicted forced_by fit_outcome place_fit placed_by place_anew store_over store_item most_rounds boolean_byte number_bytes value_given item_of check_kind takes_nil check_nil too_late check_lifetime store_checks admits delete_found store_admitted store_found store_work store_call
v261_safe_add = refl

-- safe_add: 6, rounds 0, removed 0
pub v262_safe_add : store_call SafeAdd (1 ∷ 2 ∷ 115 ∷ 1 ∷ 0 ∷ 0 ∷ 3 ∷ 1 ∷ 0 ∷ 1 ∷ 5 ∷ 1 ∷ 1 ∷ 1 ∷ []) (97 ∷ 98 ∷ 99 ∷ 1 ∷ replicate 28 0 ++ 97 ∷ 1 ∷ replicate 30 0) 135 (97 ∷ 98 ∷ 99 ∷ []) 0 (pos 9223372036854775806) (replicate 33 120) 0 5 ≡ gave (plain NilRefused 0) (1 ∷ 2 ∷ 115 ∷ 1 ∷ 0 ∷ 0 ∷ 3 ∷ 1 ∷ 0 ∷ 1 ∷ 5 ∷ 1 ∷ 1 ∷ 1 ∷ []) (97 ∷ 98 ∷ 99 ∷ 1 ∷ replicate 28 0 ++ 97 ∷ 1 ∷ replicate 30 0)
unfolding entries_of decode holds held free_run every any right_lengths value_fits entry_sound none_shared sound refuse check_sound ◌then◌ check_clock clock_checks check_key key_checks memory_of encode flat call dead same key_of key_is found_from look_up deads without put wiped remove remove_oldest sweep_count sweep after_sweep expiry_of entry_for place_at to_front rewrite_at overwrite_at after gone any_live fit_from first_free run searched is_placed if_room evicted forced_by fit_outcome place_fit placed_by place_anew store_over store_item most_rounds boolean_byte number_bytes value_given item_of check_kind takes_nil check_nil too_late check_lifetime store_checks admits delete_found store_admitted store_found store_work store_call
v262_safe_add = refl

-- safe_add: 0, rounds 0, removed 0
pub v263_safe_add : store_call SafeAdd (1 ∷ replicate 7 0) (replicate 32 7) 99 (99 ∷ []) 3 (pos 9223372036854775807) (replicate 63 120) 18446744073709551516 5 ≡ gave (plain Done 0) (1 ∷ 1 ∷ 18446744073709551615 ∷ 3 ∷ 5 ∷ 0 ∷ 1 ∷ 8 ∷ []) (99 ∷ replicate 7 255 ++ 127 ∷ replicate 23 7)
unfolding entries_of decode holds held free_run every any right_lengths value_fits entry_sound none_shared sound refuse check_sound ◌then◌ check_clock clock_checks check_key key_checks memory_of encode flat call dead same key_of key_is found_from look_up deads without put wiped remove remove_oldest sweep_count sweep after_sweep expiry_of entry_for place_at to_front rewrite_at overwrite_at after gone any_live fit_from first_free run searched is_placed if_room evicted forced_by fit_outcome place_fit placed_by place_anew store_over store_item most_rounds boolean_byte number_bytes value_given item_of check_kind takes_nil check_nil too_late check_lifetime store_checks admits delete_found store_admitted store_found store_work store_call
v263_safe_add = refl

-- safe_add: 0, rounds 0, removed 0
pub v264_safe_add : store_call SafeAdd (1 ∷ 4 ∷ 0 ∷ 3 ∷ 0 ∷ 3 ∷ 1 ∷ 8 ∷ 138 ∷ 1 ∷ 5 ∷ 2 ∷ 3 ∷ 1 ∷ 137 ∷ 1 ∷ 4294967295 ∷ 1 ∷ 1 ∷ 1 ∷ 0 ∷ 4 ∷ 5 ∷ 0 ∷ 1 ∷ 8 ∷ []) (100 ∷ replicate 8 120 ++ replicate 23 7 ++ 99 ∷ 1 ∷ replicate 30 0 ++ 97 ∷ 98 ∷ 99 ∷ 0 ∷ replicate 28 7 ++ 97 ∷ 185 ∷ 170 ∷ replicate 6 0 ++ replicate 23 7) 174 (99 ∷ []) 1 (negsuc 87649) (replicate 40 120) 0 0 ≡ gave (plain Done 0) (1 ∷ 4 ∷ 0 ∷ 1 ∷ 0 ∷ 1 ∷ 1 ∷ 1 ∷ 0 ∷ 3 ∷ 0 ∷ 3 ∷ 1 ∷ 8 ∷ 138 ∷ 1 ∷ 5 ∷ 2 ∷ 3 ∷ 1 ∷ 0 ∷ 4 ∷ 5 ∷ 0 ∷ 1 ∷ 8 ∷ []) (100 ∷ replicate 8 120 ++ replicate 23 7 ++ 99 ∷ 1 ∷ replicate 30 0 ++ 97 ∷ 98 ∷ 99 ∷ 0 ∷ replicate 28 7 ++ 97 ∷ 185 ∷ 170 ∷ replicate 6 0 ++ replicate 23 7)
unfolding entries_of decode holds held free_run every any right_lengths value_fits entry_sound none_shared sound refuse check_sound ◌then◌ check_clock clock_checks check_key key_checks memory_of encode flat call dead same key_of key_is found_from look_up deads without put wiped remove remove_oldest sweep_count sweep after_sweep expiry_of entry_for place_at to_front rewrite_at overwrite_at after gone any_live fit_from first_free run searched is_placed if_room evicted forced_by fit_outcome place_fit placed_by place_anew store_over store_item most_rounds boolean_byte number_bytes value_given item_of check_kind takes_nil check_nil too_late check_lifetime store_checks admits delete_found store_admitted store_found store_work store_call
v264_safe_add = refl

-- safe_add: 0, rounds 0, removed 2
pub v265_safe_add : store_call SafeAdd (1 ∷ 3 ∷ 127 ∷ 3 ∷ 5 ∷ 2 ∷ 1 ∷ 8 ∷ 112 ∷ 1 ∷ 0 ∷ 0 ∷ 1 ∷ 1 ∷ 112 ∷ 3 ∷ 5 ∷ 1 ∷ 2 ∷ 8 ∷ replicate 6 0) (99 ∷ 1 ∷ replicate 9 0 ++ 4 ∷ replicate 20 0 ++ 98 ∷ 97 ∷ 123 ∷ 88 ∷ replicate 28 0 ++ 100 ∷ 231 ∷ 19 ∷ 1 ∷ replicate 5 0 ++ replicate 55 7) 162 (100 ∷ []) 3 (negsuc 61069) (replicate 20 120) 0 5 ≡ gave (plain Done 2) (1 ∷ 1 ∷ 0 ∷ 3 ∷ 5 ∷ 2 ∷ 1 ∷ 8 ∷ replicate 18 0) (replicate 64 0 ++ 100 ∷ 114 ∷ 17 ∷ replicate 6 255 ++ replicate 55 7)
unfolding entries_of decode holds held free_run every any right_lengths value_fits entry_sound none_shared sound refuse check_sound ◌then◌ check_clock clock_checks check_key key_checks memory_of encode flat call dead same key_of key_is found_from look_up deads without put wiped remove remove_oldest sweep_count sweep after_sweep expiry_of entry_for place_at to_front rewrite_at overwrite_at after gone any_live fit_from first_free run searched is_placed if_room evicted forced_by fit_outcome place_fit placed_by place_anew store_over store_item most_rounds boolean_byte number_bytes value_given item_of check_kind takes_nil check_nil too_late check_lifetime store_checks admits delete_found store_admitted store_found store_work store_call
v265_safe_add = refl

-- safe_add: 0, rounds 0, removed 1
pub v266_safe_add : store_call SafeAdd (1 ∷ 1 ∷ 98 ∷ 3 ∷ 0 ∷ 0 ∷ 2 ∷ 8 ∷ []) (98 ∷ 97 ∷ 175 ∷ 219 ∷ replicate 6 255 ++ replicate 22 0) 118 (97 ∷ 98 ∷ 99 ∷ []) 1 (negsuc 39301) (replicate 95 120) 18446744073709551497 5 ≡ gave (plain Done 1) (1 ∷ 1 ∷ 18446744073709551615 ∷ 1 ∷ 5 ∷ 0 ∷ 3 ∷ 1 ∷ []) (97 ∷ 98 ∷ 99 ∷ 1 ∷ replicate 28 0)
unfolding entries_of decode holds held free_run every any right_lengths value_fits entry_sound none_shared sound refuse check_sound ◌then◌ check_clock clock_checks check_key key_checks memory_of encode flat call dead same key_of key_is found_from look_up deads without put wiped remove remove_oldest sweep_count sweep after_sweep expiry_of entry_for place_at to_front rewrite_at overwrite_at after gone any_live fit_from first_free run searched is_placed if_room evicted forced_by fit_outcome place_fit placed_by place_anew store_over store_item most_rounds boolean_byte number_bytes value_given item_of check_kind takes_nil check_nil too_late check_lifetime store_checks admits delete_found store_admitted store_found store_work store_call
v266_safe_add = refl

-- safe_add: 12, rounds 0, removed 0
pub v267_safe_add : store_call SafeAdd (1 ∷ 2 ∷ 135 ∷ 1 ∷ 4294967295 ∷ 1 ∷ 2 ∷ 1 ∷ 177 ∷ 4 ∷ 4294967295 ∷ 0 ∷ 1 ∷ 20 ∷ []) (97 ∷ replicate 20 120 ++ replicate 11 0 ++ 98 ∷ 97 ∷ 1 ∷ replicate 29 7) 155 (98 ∷ []) 3 (pos 92208) (replicate 63 120) 30 5 ≡ gave (plain NoMemory 0) (1 ∷ 2 ∷ 135 ∷ 1 ∷ 4294967295 ∷ 1 ∷ 2 ∷ 1 ∷ 177 ∷ 4 ∷ 4294967295 ∷ 0 ∷ 1 ∷ 20 ∷ []) (97 ∷ replicate 20 120 ++ replicate 11 0 ++ 98 ∷ 97 ∷ 1 ∷ replicate 29 7)
unfolding entries_of decode holds held free_run every any right_lengths value_fits entry_sound none_shared sound refuse check_sound ◌then◌ check_clock clock_checks check_key key_checks memory_of encode flat call dead same key_of key_is found_from look_up deads without put wiped remove remove_oldest sweep_count sweep after_sweep expiry_of entry_for place_at to_front rewrite_at overwrite_at after gone any_live fit_from first_free run searched is_placed if_room evicted forced_by fit_outcome place_fit placed_by place_anew store_over store_item most_rounds boolean_byte number_bytes value_given item_of check_kind takes_nil check_nil too_late check_lifetime store_checks admits delete_found store_admitted store_found store_work store_call
v267_safe_add = refl

-- safe_add: 9, rounds 0, removed 2
pub v268_safe_add : store_call SafeAdd (1 ∷ 3 ∷ 0 ∷ 3 ∷ 5 ∷ 2 ∷ 1 ∷ 8 ∷ 101 ∷ 1 ∷ 5 ∷ 1 ∷ 1 ∷ 1 ∷ 1 ∷ 3 ∷ 4294967295 ∷ 0 ∷ 1 ∷ 8 ∷ replicate 6 0) (99 ∷ 234 ∷ 210 ∷ 118 ∷ 106 ∷ 161 ∷ 58 ∷ 127 ∷ 213 ∷ replicate 23 0 ++ 97 ∷ 1 ∷ replicate 30 0 ++ 100 ∷ 221 ∷ 230 ∷ replicate 6 255 ++ replicate 55 0) 101 (100 ∷ []) 3 (pos 74689) (replicate 40 120) 0 4294967295 ≡ gave (plain Exists 2) (1 ∷ 1 ∷ 0 ∷ 3 ∷ 5 ∷ 2 ∷ 1 ∷ 8 ∷ replicate 18 0) (replicate 64 0 ++ 100 ∷ 221 ∷ 230 ∷ replicate 6 255 ++ replicate 55 0)
unfolding entries_of decode holds held free_run every any right_lengths value_fits entry_sound none_shared sound refuse check_sound ◌then◌ check_clock clock_checks check_key key_checks memory_of encode flat call dead same key_of key_is found_from look_up deads without put wiped remove remove_oldest sweep_count sweep after_sweep expiry_of entry_for place_at to_front rewrite_at overwrite_at after gone any_live fit_from first_free run searched is_placed if_room evicted forced_by fit_outcome place_fit placed_by place_anew store_over store_item most_rounds boolean_byte number_bytes value_given item_of check_kind takes_nil check_nil too_late check_lifetime store_checks admits delete_found store_admitted store_found store_work store_call
v268_safe_add = refl

-- safe_add: 12, rounds 0, removed 0
pub v269_safe_add : store_call SafeAdd (1 ∷ 1 ∷ 104 ∷ 1 ∷ 0 ∷ 0 ∷ 1 ∷ 1 ∷ []) (97 ∷ 1 ∷ replicate 30 0) 74 (98 ∷ []) 1 (pos 0) (replicate 100 120) 18446744073709551541 5 ≡ gave (plain NoMemory 0) (1 ∷ 1 ∷ 104 ∷ 1 ∷ 0 ∷ 0 ∷ 1 ∷ 1 ∷ []) (97 ∷ 1 ∷ replicate 30 0)
unfolding entries_of decode holds held free_run every any right_lengths value_fits entry_sound none_shared sound refuse check_sound ◌then◌ check_clock clock_checks check_key key_checks memory_of encode flat call dead same key_of key_is found_from look_up deads without put wiped remove remove_oldest sweep_count sweep after_sweep expiry_of entry_for place_at to_front rewrite_at overwrite_at after gone any_live fit_from first_free run searched is_placed if_room evicted forced_by fit_outcome place_fit placed_by place_anew store_over store_item most_rounds boolean_byte number_bytes value_given item_of check_kind takes_nil check_nil too_late check_lifetime store_checks admits delete_found store_admitted store_found store_work store_call
v269_safe_add = refl

-- safe_add: 9, rounds 0, removed 0
pub v270_safe_add : store_call SafeAdd (1 ∷ 2 ∷ 113 ∷ 3 ∷ 0 ∷ 2 ∷ 1 ∷ 8 ∷ 116 ∷ 4 ∷ 4294967295 ∷ 0 ∷ 2 ∷ 40 ∷ replicate 12 0) (98 ∷ 97 ∷ replicate 40 120 ++ replicate 22 7 ++ 99 ∷ 73 ∷ 129 ∷ replicate 6 0 ++ replicate 55 7) 83 (99 ∷ []) 4 (pos 9223372036854775807) (replicate 8 120) 5 5 ≡ gave (plain Exists 0) (1 ∷ 2 ∷ 113 ∷ 3 ∷ 0 ∷ 2 ∷ 1 ∷ 8 ∷ 116 ∷ 4 ∷ 4294967295 ∷ 0 ∷ 2 ∷ 40 ∷ replicate 12 0) (98 ∷ 97 ∷ replicate 40 120 ++ replicate 22 7 ++ 99 ∷ 73 ∷ 129 ∷ replicate 6 0 ++ replicate 55 7)
unfolding entries_of decode holds held free_run every any right_lengths value_fits entry_sound none_shared sound refuse check_sound ◌then◌ check_clock clock_checks check_key key_checks memory_of encode flat call dead same key_of key_is found_from look_up deads without put wiped remove remove_oldest sweep_count sweep after_sweep expiry_of entry_for place_at to_front rewrite_at overwrite_at after gone any_live fit_from first_free run searched is_placed if_room evicted forced_by fit_outcome place_fit placed_by place_anew store_over store_item most_rounds boolean_byte number_bytes value_given item_of check_kind takes_nil check_nil too_late check_lifetime store_checks admits delete_found store_admitted store_found store_work store_call
v270_safe_add = refl

-- safe_add: 9, rounds 0, removed 0
pub v271_safe_add : store_call SafeAdd (1 ∷ 4 ∷ 0 ∷ 1 ∷ 4294967295 ∷ 3 ∷ 2 ∷ 1 ∷ 0 ∷ 3 ∷ 4294967295 ∷ 2 ∷ 3 ∷ 8 ∷ 0 ∷ 3 ∷ 5 ∷ 1 ∷ 1 ∷ 8 ∷ 0 ∷ 1 ∷ 4294967295 ∷ 0 ∷ 1 ∷ 1 ∷ []) (98 ∷ 1 ∷ replicate 30 7 ++ 100 ∷ 105 ∷ 113 ∷ replicate 6 255 ++ replicate 23 7 ++ 97 ∷ 98 ∷ 99 ∷ 174 ∷ 140 ∷ replicate 6 255 ++ replicate 21 7 ++ 98 ∷ 97 ∷ 1 ∷ replicate 29 7) 88 (100 ∷ []) 1 (pos 573304714901109497) (replicate 60 120) 30 4294967295 ≡ gave (plain Exists 0) (1 ∷ 4 ∷ 0 ∷ 1 ∷ 4294967295 ∷ 3 ∷ 2 ∷ 1 ∷ 0 ∷ 3 ∷ 4294967295 ∷ 2 ∷ 3 ∷ 8 ∷ 0 ∷ 3 ∷ 5 ∷ 1 ∷ 1 ∷ 8 ∷ 0 ∷ 1 ∷ 4294967295 ∷ 0 ∷ 1 ∷ 1 ∷ []) (98 ∷ 1 ∷ replicate 30 7 ++ 100 ∷ 105 ∷ 113 ∷ replicate 6 255 ++ replicate 23 7 ++ 97 ∷ 98 ∷ 99 ∷ 174 ∷ 140 ∷ replicate 6 255 ++ replicate 21 7 ++ 98 ∷ 97 ∷ 1 ∷ replicate 29 7)
unfolding entries_of decode holds held free_run every any right_lengths value_fits entry_sound none_shared sound refuse check_sound ◌then◌ check_clock clock_checks check_key key_checks memory_of encode flat call dead same key_of key_is found_from look_up deads without put wiped remove remove_oldest sweep_count sweep after_sweep expiry_of entry_for place_at to_front rewrite_at overwrite_at after gone any_live fit_from first_free run searched is_placed if_room evicted forced_by fit_outcome place_fit placed_by place_anew store_over store_item most_rounds boolean_byte number_bytes value_given item_of check_kind takes_nil check_nil too_late check_lifetime store_checks admits delete_found store_admitted store_found store_work store_call
v271_safe_add = refl

-- safe_add: 2, rounds 0, removed 0
pub v272_safe_add : store_call SafeAdd (1 ∷ 1 ∷ 92 ∷ 4 ∷ 0 ∷ 0 ∷ 3 ∷ 95 ∷ replicate 18 0) (97 ∷ 98 ∷ 99 ∷ replicate 95 120 ++ replicate 30 0) 0 (98 ∷ 97 ∷ []) 4 (pos 59833) (replicate 33 120) 30 5 ≡ gave (plain ClockZero 0) (1 ∷ 1 ∷ 92 ∷ 4 ∷ 0 ∷ 0 ∷ 3 ∷ 95 ∷ replicate 18 0) (97 ∷ 98 ∷ 99 ∷ replicate 95 120 ++ replicate 30 0)
unfolding entries_of decode holds held free_run every any right_lengths value_fits entry_sound none_shared sound refuse check_sound ◌then◌ check_clock clock_checks check_key key_checks memory_of encode flat call dead same key_of key_is found_from look_up deads without put wiped remove remove_oldest sweep_count sweep after_sweep expiry_of entry_for place_at to_front rewrite_at overwrite_at after gone any_live fit_from first_free run searched is_placed if_room evicted forced_by fit_outcome place_fit placed_by place_anew store_over store_item most_rounds boolean_byte number_bytes value_given item_of check_kind takes_nil check_nil too_late check_lifetime store_checks admits delete_found store_admitted store_found store_work store_call
v272_safe_add = refl

-- safe_add: 0, rounds 0, removed 1
pub v273_safe_add : store_call SafeAdd (1 ∷ 3 ∷ 110 ∷ 4 ∷ 4294967295 ∷ 1 ∷ 1 ∷ 20 ∷ 140 ∷ 1 ∷ 0 ∷ 0 ∷ 1 ∷ 1 ∷ 109 ∷ 1 ∷ 0 ∷ 3 ∷ 1 ∷ 1 ∷ replicate 6 0) (97 ∷ 1 ∷ replicate 30 0 ++ 98 ∷ replicate 20 120 ++ replicate 43 0 ++ 99 ∷ 1 ∷ replicate 30 0) 130 (98 ∷ []) 3 (negsuc 9223372036854775807) (replicate 40 120) 30 4294967295 ≡ gave (plain Done 1) (1 ∷ 2 ∷ 160 ∷ 3 ∷ 4294967295 ∷ 1 ∷ 1 ∷ 8 ∷ 140 ∷ 1 ∷ 0 ∷ 0 ∷ 1 ∷ 1 ∷ replicate 12 0) (97 ∷ 1 ∷ replicate 30 0 ++ 98 ∷ replicate 7 0 ++ 128 ∷ replicate 87 0)
unfolding entries_of decode holds held free_run every any right_lengths value_fits entry_sound none_shared sound refuse check_sound ◌then◌ check_clock clock_checks check_key key_checks memory_of encode flat call dead same key_of key_is found_from look_up deads without put wiped remove remove_oldest sweep_count sweep after_sweep expiry_of entry_for place_at to_front rewrite_at overwrite_at after gone any_live fit_from first_free run searched is_placed if_room evicted forced_by fit_outcome place_fit placed_by place_anew store_over store_item most_rounds boolean_byte number_bytes value_given item_of check_kind takes_nil check_nil too_late check_lifetime store_checks admits delete_found store_admitted store_found store_work store_call
v273_safe_add = refl

-- safe_add: 12, rounds 0, removed 1
pub v274_safe_add : store_call SafeAdd (1 ∷ 1 ∷ 1 ∷ 3 ∷ 4294967295 ∷ 0 ∷ 3 ∷ 8 ∷ []) (97 ∷ 98 ∷ 99 ∷ replicate 7 255 ++ 127 ∷ replicate 21 0) 110 (98 ∷ []) 4 (negsuc 22391) (replicate 60 120) 5 5 ≡ gave (plain NoMemory 1) (1 ∷ replicate 7 0) (replicate 32 0)
unfolding entries_of decode holds held free_run every any right_lengths value_fits entry_sound none_shared sound refuse check_sound ◌then◌ check_clock clock_checks check_key key_checks memory_of encode flat call dead same key_of key_is found_from look_up deads without put wiped remove remove_oldest sweep_count sweep after_sweep expiry_of entry_for place_at to_front rewrite_at overwrite_at after gone any_live fit_from first_free run searched is_placed if_room evicted forced_by fit_outcome place_fit placed_by place_anew store_over store_item most_rounds boolean_byte number_bytes value_given item_of check_kind takes_nil check_nil too_late check_lifetime store_checks admits delete_found store_admitted store_found store_work store_call
v274_safe_add = refl

-- safe_add: 12, rounds 0, removed 0
pub v275_safe_add : store_call SafeAdd (1 ∷ replicate 7 0) (replicate 32 7) 90 (98 ∷ 97 ∷ []) 4 (pos 95158) (replicate 100 120) 18446744073709551525 4294967295 ≡ gave (plain NoMemory 0) (1 ∷ replicate 7 0) (replicate 32 7)
unfolding entries_of decode holds held free_run every any right_lengths value_fits entry_sound none_shared sound refuse check_sound ◌then◌ check_clock clock_checks check_key key_checks memory_of encode flat call dead same key_of key_is found_from look_up deads without put wiped remove remove_oldest sweep_count sweep after_sweep expiry_of entry_for place_at to_front rewrite_at overwrite_at after gone any_live fit_from first_free run searched is_placed if_room evicted forced_by fit_outcome place_fit placed_by place_anew store_over store_item most_rounds boolean_byte number_bytes value_given item_of check_kind takes_nil check_nil too_late check_lifetime store_checks admits delete_found store_admitted store_found store_work store_call
v275_safe_add = refl

-- safe_add: 0, rounds 0, removed 1
pub v276_safe_add : store_call SafeAdd (1 ∷ 1 ∷ 100 ∷ 1 ∷ 4294967295 ∷ 0 ∷ 2 ∷ 1 ∷ []) (97 ∷ 98 ∷ 1 ∷ replicate 29 0) 150 (97 ∷ 98 ∷ []) 3 (pos 1) [] 30 0 ≡ gave (plain Done 1) (1 ∷ 1 ∷ 180 ∷ 3 ∷ 0 ∷ 0 ∷ 2 ∷ 8 ∷ []) (97 ∷ 98 ∷ 1 ∷ replicate 29 0)
unfolding entries_of decode holds held free_run every any right_lengths value_fits entry_sound none_shared sound refuse check_sound ◌then◌ check_clock clock_checks check_key key_checks memory_of encode flat call dead same key_of key_is found_from look_up deads without put wiped remove remove_oldest sweep_count sweep after_sweep expiry_of entry_for place_at to_front rewrite_at overwrite_at after gone any_live fit_from first_free run searched is_placed if_room evicted forced_by fit_outcome place_fit placed_by place_anew store_over store_item most_rounds boolean_byte number_bytes value_given item_of check_kind takes_nil check_nil too_late check_lifetime store_checks admits delete_found store_admitted store_found store_work store_call
v276_safe_add = refl

-- safe_add: 9, rounds 0, removed 1
pub v277_safe_add : store_call SafeAdd (1 ∷ 2 ∷ 122 ∷ 3 ∷ 0 ∷ 2 ∷ 1 ∷ 8 ∷ 1 ∷ 4 ∷ 4294967295 ∷ 0 ∷ 2 ∷ 31 ∷ replicate 12 0) (97 ∷ 98 ∷ replicate 31 120 ++ replicate 31 7 ++ 100 ∷ 243 ∷ 25 ∷ replicate 6 0 ++ replicate 55 7) 112 (100 ∷ []) 3 (negsuc 8349235352362832255) (replicate 8 120) 5 0 ≡ gave (plain Exists 1) (1 ∷ 1 ∷ 122 ∷ 3 ∷ 0 ∷ 2 ∷ 1 ∷ 8 ∷ replicate 18 0) (replicate 64 0 ++ 100 ∷ 243 ∷ 25 ∷ replicate 6 0 ++ replicate 55 7)
unfolding entries_of decode holds held free_run every any right_lengths value_fits entry_sound none_shared sound refuse check_sound ◌then◌ check_clock clock_checks check_key key_checks memory_of encode flat call dead same key_of key_is found_from look_up deads without put wiped remove remove_oldest sweep_count sweep after_sweep expiry_of entry_for place_at to_front rewrite_at overwrite_at after gone any_live fit_from first_free run searched is_placed if_room evicted forced_by fit_outcome place_fit placed_by place_anew store_over store_item most_rounds boolean_byte number_bytes value_given item_of check_kind takes_nil check_nil too_late check_lifetime store_checks admits delete_found store_admitted store_found store_work store_call
v277_safe_add = refl

-- safe_add: 9, rounds 0, removed 0
pub v278_safe_add : store_call SafeAdd (1 ∷ 1 ∷ 0 ∷ 4 ∷ 5 ∷ 0 ∷ 2 ∷ 8 ∷ []) (97 ∷ 98 ∷ replicate 8 120 ++ replicate 22 0) 70 (97 ∷ 98 ∷ []) 3 (pos 5529490283191535233) (120 ∷ []) 18446744073709551545 4294967295 ≡ gave (plain Exists 0) (1 ∷ 1 ∷ 0 ∷ 4 ∷ 5 ∷ 0 ∷ 2 ∷ 8 ∷ []) (97 ∷ 98 ∷ replicate 8 120 ++ replicate 22 0)
unfolding entries_of decode holds held free_run every any right_lengths value_fits entry_sound none_shared sound refuse check_sound ◌then◌ check_clock clock_checks check_key key_checks memory_of encode flat call dead same key_of key_is found_from look_up deads without put wiped remove remove_oldest sweep_count sweep after_sweep expiry_of entry_for place_at to_front rewrite_at overwrite_at after gone any_live fit_from first_free run searched is_placed if_room evicted forced_by fit_outcome place_fit placed_by place_anew store_over store_item most_rounds boolean_byte number_bytes value_given item_of check_kind takes_nil check_nil too_late check_lifetime store_checks admits delete_found store_admitted store_found store_work store_call
v278_safe_add = refl

-- safe_add: 12, rounds 0, removed 1
pub v279_safe_add : store_call SafeAdd (1 ∷ 1 ∷ 90 ∷ 3 ∷ 5 ∷ 0 ∷ 1 ∷ 8 ∷ []) (98 ∷ 142 ∷ 192 ∷ 105 ∷ 178 ∷ 168 ∷ 83 ∷ 45 ∷ 192 ∷ replicate 23 0) 140 (98 ∷ []) 4 (negsuc 9223372036854775807) (replicate 40 120) 30 5 ≡ gave (plain NoMemory 1) (1 ∷ replicate 7 0) (replicate 32 0)
unfolding entries_of decode holds held free_run every any right_lengths value_fits entry_sound none_shared sound refuse check_sound ◌then◌ check_clock clock_checks check_key key_checks memory_of encode flat call dead same key_of key_is found_from look_up deads without put wiped remove remove_oldest sweep_count sweep after_sweep expiry_of entry_for place_at to_front rewrite_at overwrite_at after gone any_live fit_from first_free run searched is_placed if_room evicted forced_by fit_outcome place_fit placed_by place_anew store_over store_item most_rounds boolean_byte number_bytes value_given item_of check_kind takes_nil check_nil too_late check_lifetime store_checks admits delete_found store_admitted store_found store_work store_call
v279_safe_add = refl

-- safe_add: 0, rounds 0, removed 1
pub v280_safe_add : store_call SafeAdd (1 ∷ 1 ∷ 1 ∷ 1 ∷ 4294967295 ∷ 0 ∷ 1 ∷ 1 ∷ replicate 6 0) (100 ∷ 1 ∷ replicate 30 0 ++ replicate 32 7) 146 (100 ∷ []) 1 (negsuc 86206) [] 30 4294967295 ≡ gave (plain Done 1) (1 ∷ 1 ∷ 176 ∷ 1 ∷ 4294967295 ∷ 0 ∷ 1 ∷ 1 ∷ replicate 6 0) (100 ∷ 1 ∷ replicate 30 0 ++ replicate 32 7)
unfolding entries_of decode holds held free_run every any right_lengths value_fits entry_sound none_shared sound refuse check_sound ◌then◌ check_clock clock_checks check_key key_checks memory_of encode flat call dead same key_of key_is found_from look_up deads without put wiped remove remove_oldest sweep_count sweep after_sweep expiry_of entry_for place_at to_front rewrite_at overwrite_at after gone any_live fit_from first_free run searched is_placed if_room evicted forced_by fit_outcome place_fit placed_by place_anew store_over store_item most_rounds boolean_byte number_bytes value_given item_of check_kind takes_nil check_nil too_late check_lifetime store_checks admits delete_found store_admitted store_found store_work store_call
v280_safe_add = refl

-- safe_add: 12, rounds 0, removed 2
pub v281_safe_add : store_call SafeAdd (1 ∷ 2 ∷ 146 ∷ 1 ∷ 0 ∷ 1 ∷ 3 ∷ 1 ∷ 143 ∷ 3 ∷ 5 ∷ 0 ∷ 2 ∷ 8 ∷ []) (98 ∷ 97 ∷ 207 ∷ 55 ∷ replicate 6 0 ++ replicate 22 7 ++ 97 ∷ 98 ∷ 99 ∷ 1 ∷ replicate 28 7) 163 (98 ∷ []) 4 (pos 3039) (replicate 130 120) 30 4294967295 ≡ gave (plain NoMemory 2) (1 ∷ replicate 13 0) (replicate 64 0)
unfolding entries_of decode holds held free_run every any right_lengths value_fits entry_sound none_shared sound refuse check_sound ◌then◌ check_clock clock_checks check_key key_checks memory_of encode flat call dead same key_of key_is found_from look_up deads without put wiped remove remove_oldest sweep_count sweep after_sweep expiry_of entry_for place_at to_front rewrite_at overwrite_at after gone any_live fit_from first_free run searched is_placed if_room evicted forced_by fit_outcome place_fit placed_by place_anew store_over store_item most_rounds boolean_byte number_bytes value_given item_of check_kind takes_nil check_nil too_late check_lifetime store_checks admits delete_found store_admitted store_found store_work store_call
v281_safe_add = refl

-- safe_add: 12, rounds 0, removed 0
pub v282_safe_add : store_call SafeAdd (1 ∷ 3 ∷ 107 ∷ 1 ∷ 5 ∷ 3 ∷ 3 ∷ 1 ∷ 1 ∷ 4 ∷ 5 ∷ 1 ∷ 1 ∷ 40 ∷ 0 ∷ 1 ∷ 5 ∷ 0 ∷ 2 ∷ 1 ∷ replicate 6 0) (98 ∷ 97 ∷ 1 ∷ replicate 29 7 ++ 98 ∷ replicate 40 120 ++ replicate 23 7 ++ 97 ∷ 98 ∷ 99 ∷ 1 ∷ replicate 28 7) 157 (97 ∷ 98 ∷ 99 ∷ []) 4 (pos 1) (replicate 30 120) 5 0 ≡ gave (plain NoMemory 0) (1 ∷ 2 ∷ 1 ∷ 4 ∷ 5 ∷ 1 ∷ 1 ∷ 40 ∷ 0 ∷ 1 ∷ 5 ∷ 0 ∷ 2 ∷ 1 ∷ replicate 12 0) (98 ∷ 97 ∷ 1 ∷ replicate 29 7 ++ 98 ∷ replicate 40 120 ++ replicate 23 7 ++ replicate 32 0)
unfolding entries_of decode holds held free_run every any right_lengths value_fits entry_sound none_shared sound refuse check_sound ◌then◌ check_clock clock_checks check_key key_checks memory_of encode flat call dead same key_of key_is found_from look_up deads without put wiped remove remove_oldest sweep_count sweep after_sweep expiry_of entry_for place_at to_front rewrite_at overwrite_at after gone any_live fit_from first_free run searched is_placed if_room evicted forced_by fit_outcome place_fit placed_by place_anew store_over store_item most_rounds boolean_byte number_bytes value_given item_of check_kind takes_nil check_nil too_late check_lifetime store_checks admits delete_found store_admitted store_found store_work store_call
v282_safe_add = refl

-- replace: 1, rounds 0, removed 0
pub v283_replace : store_call Replace (1 ∷ 1 ∷ 139 ∷ 1 ∷ 4294967295 ∷ 0 ∷ 2 ∷ 1 ∷ replicate 6 0) (97 ∷ 98 ∷ 1 ∷ replicate 62 0) 103 (97 ∷ 98 ∷ []) 3 (negsuc 67202) (replicate 60 120) 30 4294967295 ≡ gave (plain NotSound 0) (1 ∷ 1 ∷ 139 ∷ 1 ∷ 4294967295 ∷ 0 ∷ 2 ∷ 1 ∷ replicate 6 0) (97 ∷ 98 ∷ 1 ∷ replicate 62 0)
unfolding entries_of decode holds held free_run every any right_lengths value_fits entry_sound none_shared sound refuse check_sound ◌then◌ check_clock clock_checks check_key key_checks memory_of encode flat call dead same key_of key_is found_from look_up deads without put wiped remove remove_oldest sweep_count sweep after_sweep expiry_of entry_for place_at to_front rewrite_at overwrite_at after gone any_live fit_from first_free run searched is_placed if_room evicted forced_by fit_outcome place_fit placed_by place_anew store_over store_item most_rounds boolean_byte number_bytes value_given item_of check_kind takes_nil check_nil too_late check_lifetime store_checks admits delete_found store_admitted store_found store_work store_call
v283_replace = refl

-- replace: 7, rounds 0, removed 0
pub v284_replace : store_call Replace (1 ∷ 1 ∷ 0 ∷ 1 ∷ 4294967295 ∷ 0 ∷ 1 ∷ 1 ∷ replicate 6 0) (100 ∷ 1 ∷ replicate 62 0) 106 (99 ∷ []) 4 (negsuc 17591) (replicate 130 120) 18446744073709551615 4294967295 ≡ gave (plain ExpiryTooLate 0) (1 ∷ 1 ∷ 0 ∷ 1 ∷ 4294967295 ∷ 0 ∷ 1 ∷ 1 ∷ replicate 6 0) (100 ∷ 1 ∷ replicate 62 0)
unfolding entries_of decode holds held free_run every any right_lengths value_fits entry_sound none_shared sound refuse check_sound ◌then◌ check_clock clock_checks check_key key_checks memory_of encode flat call dead same key_of key_is found_from look_up deads without put wiped remove remove_oldest sweep_count sweep after_sweep expiry_of entry_for place_at to_front rewrite_at overwrite_at after gone any_live fit_from first_free run searched is_placed if_room evicted forced_by fit_outcome place_fit placed_by place_anew store_over store_item most_rounds boolean_byte number_bytes value_given item_of check_kind takes_nil check_nil too_late check_lifetime store_checks admits delete_found store_admitted store_found store_work store_call
v284_replace = refl

-- replace: 3, rounds 0, removed 0
pub v285_replace : store_call Replace (1 ∷ 1 ∷ 0 ∷ 1 ∷ 5 ∷ 0 ∷ 2 ∷ 1 ∷ []) (98 ∷ 97 ∷ 1 ∷ replicate 29 0) 99 [] 3 (negsuc 92964) (replicate 20 120) 18446744073709551615 4294967295 ≡ gave (plain KeyEmpty 0) (1 ∷ 1 ∷ 0 ∷ 1 ∷ 5 ∷ 0 ∷ 2 ∷ 1 ∷ []) (98 ∷ 97 ∷ 1 ∷ replicate 29 0)
unfolding entries_of decode holds held free_run every any right_lengths value_fits entry_sound none_shared sound refuse check_sound ◌then◌ check_clock clock_checks check_key key_checks memory_of encode flat call dead same key_of key_is found_from look_up deads without put wiped remove remove_oldest sweep_count sweep after_sweep expiry_of entry_for place_at to_front rewrite_at overwrite_at after gone any_live fit_from first_free run searched is_placed if_room evicted forced_by fit_outcome place_fit placed_by place_anew store_over store_item most_rounds boolean_byte number_bytes value_given item_of check_kind takes_nil check_nil too_late check_lifetime store_checks admits delete_found store_admitted store_found store_work store_call
v285_replace = refl

-- replace: 8, rounds 0, removed 0
pub v286_replace : store_call Replace (1 ∷ 2 ∷ 118 ∷ 3 ∷ 4294967295 ∷ 2 ∷ 2 ∷ 8 ∷ 0 ∷ 4 ∷ 5 ∷ 0 ∷ 1 ∷ 63 ∷ replicate 12 0) (97 ∷ replicate 63 120 ++ 98 ∷ 97 ∷ 2 ∷ 219 ∷ replicate 6 0 ++ replicate 54 7) 85 (97 ∷ 98 ∷ []) 4 (negsuc 29931) (replicate 8 120) 0 4294967295 ≡ gave (plain NotFound 0) (1 ∷ 2 ∷ 118 ∷ 3 ∷ 4294967295 ∷ 2 ∷ 2 ∷ 8 ∷ 0 ∷ 4 ∷ 5 ∷ 0 ∷ 1 ∷ 63 ∷ replicate 12 0) (97 ∷ replicate 63 120 ++ 98 ∷ 97 ∷ 2 ∷ 219 ∷ replicate 6 0 ++ replicate 54 7)
unfolding entries_of decode holds held free_run every any right_lengths value_fits entry_sound none_shared sound refuse check_sound ◌then◌ check_clock clock_checks check_key key_checks memory_of encode flat call dead same key_of key_is found_from look_up deads without put wiped remove remove_oldest sweep_count sweep after_sweep expiry_of entry_for place_at to_front rewrite_at overwrite_at after gone any_live fit_from first_free run searched is_placed if_room evicted forced_by fit_outcome place_fit placed_by place_anew store_over store_item most_rounds boolean_byte number_bytes value_given item_of check_kind takes_nil check_nil too_late check_lifetime store_checks admits delete_found store_admitted store_found store_work store_call
v286_replace = refl

-- replace: 5, rounds 0, removed 0
pub v287_replace : store_call Replace (1 ∷ 1 ∷ 99 ∷ 4 ∷ 5 ∷ 0 ∷ 1 ∷ replicate 19 0) (98 ∷ replicate 127 0) 97 (99 ∷ []) 2 (negsuc 85684) (replicate 20 120) 30 0 ≡ gave (plain KindUnknown 0) (1 ∷ 1 ∷ 99 ∷ 4 ∷ 5 ∷ 0 ∷ 1 ∷ replicate 19 0) (98 ∷ replicate 127 0)
unfolding entries_of decode holds held free_run every any right_lengths value_fits entry_sound none_shared sound refuse check_sound ◌then◌ check_clock clock_checks check_key key_checks memory_of encode flat call dead same key_of key_is found_from look_up deads without put wiped remove remove_oldest sweep_count sweep after_sweep expiry_of entry_for place_at to_front rewrite_at overwrite_at after gone any_live fit_from first_free run searched is_placed if_room evicted forced_by fit_outcome place_fit placed_by place_anew store_over store_item most_rounds boolean_byte number_bytes value_given item_of check_kind takes_nil check_nil too_late check_lifetime store_checks admits delete_found store_admitted store_found store_work store_call
v287_replace = refl
