-- Calls that the second program (second/) made, computed once more by the definitions: the whole answer, all words and all bytes.
-- Written by `cargo run --release --offline --bin vectors` in sessions/, not by hand.
use Rattle.std.specs.Prelude.{◌≡◌, refl, true, false, [], ◌∷◌, ◌++◌, replicate, pos, negsuc, None}
use Rattle.rules.specs.declared.Outcome.TheVariants.{Done, Sum, NotSound, ClockZero, KeyEmpty, KeyTooLong, NilRefused, ExpiryTooLate, NotFound, NotNumber, SumTooLarge, NoMemory}
use Rattle.rules.specs.declared.Operation.TheVariants.{Replace}
use Rattle.rules.specs.Check.{given}
use Rattle.rules.specs.Layout.{encode, decode, flat, entries_of, without, to_front, put, key_of, number_bytes, number_at, memory_of, wiped, remove, remove_oldest}
use Rattle.rules.specs.Time.{dead, expiry_of, too_late}
use Rattle.rules.specs.LookUp.{same, key_is, found_from, look_up}
use Rattle.rules.specs.Recency.{deads, after, gone, any_live, sweep_count, sweep}
use Rattle.rules.specs.Place.{holds, held, free_run, fit_from, first_free, run}
use Rattle.rules.specs.Soundness.{every, any, right_lengths, value_fits, entry_sound, none_shared, sound}
use Rattle.rules.specs.Answer.{plain}
use Rattle.rules.specs.Checks.{◌then◌, refuse, check_sound, check_clock, check_key, check_kind, takes_nil, check_nil, check_lifetime, clock_checks, key_checks, store_checks, check_initial, incr_checks}
use Rattle.rules.specs.Calls.{gave, call, after_sweep, delete_found, entry_for, place_at, rewrite_at, overwrite_at, searched, is_placed, if_room, evicted, forced_by, fit_outcome, place_fit, placed_by, place_anew, store_over, store_item, most_rounds, admits, boolean_byte, value_given, store_admitted, store_found, store_work, item_of, store_call, in_range, add_at, incr_live, incr_new, incr_initial, incr_found, incr_work, incr_call}

-- replace: 6, rounds 0, removed 0
pub v288_replace : store_call Replace (1 ∷ 1 ∷ 1 ∷ 1 ∷ 5 ∷ 0 ∷ 2 ∷ 1 ∷ replicate 6 0) (98 ∷ 97 ∷ 1 ∷ replicate 61 0) 120 (98 ∷ []) 0 (negsuc 62084) [] 18446744073709551496 4294967295 ≡ gave (plain NilRefused 0) (1 ∷ 1 ∷ 1 ∷ 1 ∷ 5 ∷ 0 ∷ 2 ∷ 1 ∷ replicate 6 0) (98 ∷ 97 ∷ 1 ∷ replicate 61 0)
unfolding entries_of decode holds held free_run every any right_lengths value_fits entry_sound none_shared sound refuse check_sound ◌then◌ check_clock clock_checks check_key key_checks memory_of encode flat call dead same key_of key_is found_from look_up deads without put wiped remove remove_oldest sweep_count sweep after_sweep expiry_of entry_for place_at to_front rewrite_at overwrite_at after gone any_live fit_from first_free run searched is_placed if_room evicted forced_by fit_outcome place_fit placed_by place_anew store_over store_item most_rounds boolean_byte number_bytes value_given item_of check_kind takes_nil check_nil too_late check_lifetime store_checks admits delete_found store_admitted store_found store_work store_call
v288_replace = refl

-- replace: 1, rounds 0, removed 0
pub v289_replace : store_call Replace (1 ∷ 1 ∷ 99 ∷ 16 ∷ 4294967295 ∷ 0 ∷ 1 ∷ 1 ∷ []) (100 ∷ 1 ∷ replicate 30 0) 93 (97 ∷ 98 ∷ 99 ∷ []) 1 (negsuc 86016) (replicate 95 120) 5 0 ≡ gave (plain NotSound 0) (1 ∷ 1 ∷ 99 ∷ 16 ∷ 4294967295 ∷ 0 ∷ 1 ∷ 1 ∷ []) (100 ∷ 1 ∷ replicate 30 0)
unfolding entries_of decode holds held free_run every any right_lengths value_fits entry_sound none_shared sound refuse check_sound ◌then◌ check_clock clock_checks check_key key_checks memory_of encode flat call dead same key_of key_is found_from look_up deads without put wiped remove remove_oldest sweep_count sweep after_sweep expiry_of entry_for place_at to_front rewrite_at overwrite_at after gone any_live fit_from first_free run searched is_placed if_room evicted forced_by fit_outcome place_fit placed_by place_anew store_over store_item most_rounds boolean_byte number_bytes value_given item_of check_kind takes_nil check_nil too_late check_lifetime store_checks admits delete_found store_admitted store_found store_work store_call
v289_replace = refl

-- replace: 2, rounds 0, removed 0
pub v290_replace : store_call Replace (1 ∷ 1 ∷ 0 ∷ 3 ∷ 5 ∷ 0 ∷ 3 ∷ 8 ∷ replicate 6 0) (97 ∷ 98 ∷ 99 ∷ 254 ∷ replicate 6 255 ++ 127 ∷ replicate 53 0) 0 (97 ∷ 98 ∷ []) 255 (negsuc 67060) (replicate 100 120) 30 0 ≡ gave (plain ClockZero 0) (1 ∷ 1 ∷ 0 ∷ 3 ∷ 5 ∷ 0 ∷ 3 ∷ 8 ∷ replicate 6 0) (97 ∷ 98 ∷ 99 ∷ 254 ∷ replicate 6 255 ++ 127 ∷ replicate 53 0)
unfolding entries_of decode holds held free_run every any right_lengths value_fits entry_sound none_shared sound refuse check_sound ◌then◌ check_clock clock_checks check_key key_checks memory_of encode flat call dead same key_of key_is found_from look_up deads without put wiped remove remove_oldest sweep_count sweep after_sweep expiry_of entry_for place_at to_front rewrite_at overwrite_at after gone any_live fit_from first_free run searched is_placed if_room evicted forced_by fit_outcome place_fit placed_by place_anew store_over store_item most_rounds boolean_byte number_bytes value_given item_of check_kind takes_nil check_nil too_late check_lifetime store_checks admits delete_found store_admitted store_found store_work store_call
v290_replace = refl

-- replace: 8, rounds 0, removed 0
pub v291_replace : store_call Replace (1 ∷ 2 ∷ 0 ∷ 4 ∷ 4294967295 ∷ 0 ∷ 1 ∷ 8 ∷ 0 ∷ 4 ∷ 4294967295 ∷ 2 ∷ 40 ∷ 1 ∷ replicate 12 0) (98 ∷ replicate 8 120 ++ replicate 55 0 ++ replicate 40 107 ++ 120 ∷ replicate 23 0) 108 (100 ∷ []) 1 (negsuc 2336) (replicate 40 120) 0 4294967295 ≡ gave (plain NotFound 0) (1 ∷ 2 ∷ 0 ∷ 4 ∷ 4294967295 ∷ 0 ∷ 1 ∷ 8 ∷ 0 ∷ 4 ∷ 4294967295 ∷ 2 ∷ 40 ∷ 1 ∷ replicate 12 0) (98 ∷ replicate 8 120 ++ replicate 55 0 ++ replicate 40 107 ++ 120 ∷ replicate 23 0)
unfolding entries_of decode holds held free_run every any right_lengths value_fits entry_sound none_shared sound refuse check_sound ◌then◌ check_clock clock_checks check_key key_checks memory_of encode flat call dead same key_of key_is found_from look_up deads without put wiped remove remove_oldest sweep_count sweep after_sweep expiry_of entry_for place_at to_front rewrite_at overwrite_at after gone any_live fit_from first_free run searched is_placed if_room evicted forced_by fit_outcome place_fit placed_by place_anew store_over store_item most_rounds boolean_byte number_bytes value_given item_of check_kind takes_nil check_nil too_late check_lifetime store_checks admits delete_found store_admitted store_found store_work store_call
v291_replace = refl

-- replace: 8, rounds 0, removed 0
pub v292_replace : store_call Replace (1 ∷ replicate 7 0) (replicate 32 0) 97 (100 ∷ []) 4 (negsuc 66096) (replicate 100 120) 30 0 ≡ gave (plain NotFound 0) (1 ∷ replicate 7 0) (replicate 32 0)
unfolding entries_of decode holds held free_run every any right_lengths value_fits entry_sound none_shared sound refuse check_sound ◌then◌ check_clock clock_checks check_key key_checks memory_of encode flat call dead same key_of key_is found_from look_up deads without put wiped remove remove_oldest sweep_count sweep after_sweep expiry_of entry_for place_at to_front rewrite_at overwrite_at after gone any_live fit_from first_free run searched is_placed if_room evicted forced_by fit_outcome place_fit placed_by place_anew store_over store_item most_rounds boolean_byte number_bytes value_given item_of check_kind takes_nil check_nil too_late check_lifetime store_checks admits delete_found store_admitted store_found store_work store_call
v292_replace = refl

-- replace: 8, rounds 0, removed 0
pub v293_replace : store_call Replace (1 ∷ 1 ∷ 116 ∷ 1 ∷ 0 ∷ 0 ∷ 1 ∷ 1 ∷ replicate 18 0) (98 ∷ replicate 127 0) 86 (100 ∷ []) 3 (pos 47807) (replicate 31 120) 30 5 ≡ gave (plain NotFound 0) (1 ∷ 1 ∷ 116 ∷ 1 ∷ 0 ∷ 0 ∷ 1 ∷ 1 ∷ replicate 18 0) (98 ∷ replicate 127 0)
unfolding entries_of decode holds held free_run every any right_lengths value_fits entry_sound none_shared sound refuse check_sound ◌then◌ check_clock clock_checks check_key key_checks memory_of encode flat call dead same key_of key_is found_from look_up deads without put wiped remove remove_oldest sweep_count sweep after_sweep expiry_of entry_for place_at to_front rewrite_at overwrite_at after gone any_live fit_from first_free run searched is_placed if_room evicted forced_by fit_outcome place_fit placed_by place_anew store_over store_item most_rounds boolean_byte number_bytes value_given item_of check_kind takes_nil check_nil too_late check_lifetime store_checks admits delete_found store_admitted store_found store_work store_call
v293_replace = refl

-- replace: 0, rounds 0, removed 0
pub v294_replace : store_call Replace (1 ∷ 3 ∷ 0 ∷ 1 ∷ 0 ∷ 3 ∷ 2 ∷ 1 ∷ 127 ∷ 4 ∷ 5 ∷ 0 ∷ 1 ∷ 63 ∷ 0 ∷ 4 ∷ 4294967295 ∷ 2 ∷ 1 ∷ 8 ∷ replicate 6 0) (97 ∷ replicate 63 120 ++ 99 ∷ replicate 8 120 ++ replicate 23 7 ++ 98 ∷ 97 ∷ 1 ∷ replicate 29 7) 119 (99 ∷ []) 1 (negsuc 94325) (replicate 60 120) 0 4294967295 ≡ gave (plain Done 0) (1 ∷ 3 ∷ 0 ∷ 1 ∷ 4294967295 ∷ 2 ∷ 1 ∷ 1 ∷ 0 ∷ 1 ∷ 0 ∷ 3 ∷ 2 ∷ 1 ∷ 127 ∷ 4 ∷ 5 ∷ 0 ∷ 1 ∷ 63 ∷ replicate 6 0) (97 ∷ replicate 63 120 ++ 99 ∷ 1 ∷ replicate 30 0 ++ 98 ∷ 97 ∷ 1 ∷ replicate 29 7)
unfolding entries_of decode holds held free_run every any right_lengths value_fits entry_sound none_shared sound refuse check_sound ◌then◌ check_clock clock_checks check_key key_checks memory_of encode flat call dead same key_of key_is found_from look_up deads without put wiped remove remove_oldest sweep_count sweep after_sweep expiry_of entry_for place_at to_front rewrite_at overwrite_at after gone any_live fit_from first_free run searched is_placed if_room evicted forced_by fit_outcome place_fit placed_by place_anew store_over store_item most_rounds boolean_byte number_bytes value_given item_of check_kind takes_nil check_nil too_late check_lifetime store_checks admits delete_found store_admitted store_found store_work store_call
v294_replace = refl

-- replace: 8, rounds 0, removed 2
pub v295_replace : store_call Replace (1 ∷ 2 ∷ 1 ∷ 1 ∷ 0 ∷ 0 ∷ 1 ∷ 1 ∷ 130 ∷ 4 ∷ 5 ∷ 2 ∷ 1 ∷ 20 ∷ replicate 12 0) (97 ∷ 1 ∷ replicate 62 0 ++ 98 ∷ replicate 20 120 ++ replicate 43 7) 174 (98 ∷ []) 3 (negsuc 1408429731661319093) (replicate 95 120) 5 4294967295 ≡ gave (plain NotFound 2) (1 ∷ replicate 25 0) (replicate 96 0 ++ replicate 32 7)
unfolding entries_of decode holds held free_run every any right_lengths value_fits entry_sound none_shared sound refuse check_sound ◌then◌ check_clock clock_checks check_key key_checks memory_of encode flat call dead same key_of key_is found_from look_up deads without put wiped remove remove_oldest sweep_count sweep after_sweep expiry_of entry_for place_at to_front rewrite_at overwrite_at after gone any_live fit_from first_free run searched is_placed if_room evicted forced_by fit_outcome place_fit placed_by place_anew store_over store_item most_rounds boolean_byte number_bytes value_given item_of check_kind takes_nil check_nil too_late check_lifetime store_checks admits delete_found store_admitted store_found store_work store_call
v295_replace = refl

-- replace: 8, rounds 0, removed 1
pub v296_replace : store_call Replace (1 ∷ 2 ∷ 0 ∷ 4 ∷ 4294967295 ∷ 1 ∷ 1 ∷ 8 ∷ 98 ∷ 3 ∷ 4294967295 ∷ 0 ∷ 1 ∷ 8 ∷ replicate 12 0) (97 ∷ 12 ∷ 192 ∷ replicate 6 255 ++ replicate 23 0 ++ 99 ∷ replicate 8 120 ++ replicate 87 0) 118 (97 ∷ []) 4 (pos 66301) (replicate 95 120) 18446744073709551497 0 ≡ gave (plain NotFound 1) (1 ∷ 1 ∷ 0 ∷ 4 ∷ 4294967295 ∷ 1 ∷ 1 ∷ 8 ∷ replicate 18 0) (replicate 32 0 ++ 99 ∷ replicate 8 120 ++ replicate 87 0)
unfolding entries_of decode holds held free_run every any right_lengths value_fits entry_sound none_shared sound refuse check_sound ◌then◌ check_clock clock_checks check_key key_checks memory_of encode flat call dead same key_of key_is found_from look_up deads without put wiped remove remove_oldest sweep_count sweep after_sweep expiry_of entry_for place_at to_front rewrite_at overwrite_at after gone any_live fit_from first_free run searched is_placed if_room evicted forced_by fit_outcome place_fit placed_by place_anew store_over store_item most_rounds boolean_byte number_bytes value_given item_of check_kind takes_nil check_nil too_late check_lifetime store_checks admits delete_found store_admitted store_found store_work store_call
v296_replace = refl

-- replace: 12, rounds 0, removed 0
pub v297_replace : store_call Replace (1 ∷ 1 ∷ 0 ∷ 4 ∷ 0 ∷ 0 ∷ 1 ∷ 0 ∷ []) (100 ∷ replicate 31 0) 138 (100 ∷ []) 4 (negsuc 129140300161304124) (replicate 100 120) 0 4294967295 ≡ gave (plain NoMemory 0) (1 ∷ replicate 7 0) (replicate 32 0)
unfolding entries_of decode holds held free_run every any right_lengths value_fits entry_sound none_shared sound refuse check_sound ◌then◌ check_clock clock_checks check_key key_checks memory_of encode flat call dead same key_of key_is found_from look_up deads without put wiped remove remove_oldest sweep_count sweep after_sweep expiry_of entry_for place_at to_front rewrite_at overwrite_at after gone any_live fit_from first_free run searched is_placed if_room evicted forced_by fit_outcome place_fit placed_by place_anew store_over store_item most_rounds boolean_byte number_bytes value_given item_of check_kind takes_nil check_nil too_late check_lifetime store_checks admits delete_found store_admitted store_found store_work store_call
v297_replace = refl

-- replace: 4, rounds 0, removed 0
pub v298_replace : store_call Replace (1 ∷ 2 ∷ 144 ∷ 1 ∷ 0 ∷ 1 ∷ 2 ∷ 1 ∷ 0 ∷ 3 ∷ 0 ∷ 0 ∷ 2 ∷ 8 ∷ []) (97 ∷ 98 ∷ 151 ∷ 218 ∷ replicate 6 255 ++ replicate 22 0 ++ 98 ∷ 97 ∷ 1 ∷ replicate 29 0) 114 (replicate 65536 107) 0 (pos 59668) (120 ∷ []) 18446744073709551615 0 ≡ gave (plain KeyTooLong 0) (1 ∷ 2 ∷ 144 ∷ 1 ∷ 0 ∷ 1 ∷ 2 ∷ 1 ∷ 0 ∷ 3 ∷ 0 ∷ 0 ∷ 2 ∷ 8 ∷ []) (97 ∷ 98 ∷ 151 ∷ 218 ∷ replicate 6 255 ++ replicate 22 0 ++ 98 ∷ 97 ∷ 1 ∷ replicate 29 0)
unfolding entries_of decode holds held free_run every any right_lengths value_fits entry_sound none_shared sound refuse check_sound ◌then◌ check_clock clock_checks check_key key_checks memory_of encode flat call dead same key_of key_is found_from look_up deads without put wiped remove remove_oldest sweep_count sweep after_sweep expiry_of entry_for place_at to_front rewrite_at overwrite_at after gone any_live fit_from first_free run searched is_placed if_room evicted forced_by fit_outcome place_fit placed_by place_anew store_over store_item most_rounds boolean_byte number_bytes value_given item_of check_kind takes_nil check_nil too_late check_lifetime store_checks admits delete_found store_admitted store_found store_work store_call
v298_replace = refl

-- replace: 8, rounds 0, removed 1
pub v299_replace : store_call Replace (1 ∷ 1 ∷ 92 ∷ 1 ∷ 4294967295 ∷ 0 ∷ 2 ∷ 1 ∷ replicate 6 0) (98 ∷ 97 ∷ 1 ∷ replicate 61 0) 112 (98 ∷ 97 ∷ []) 1 (pos 9223372036854775806) (replicate 40 120) 5 5 ≡ gave (plain NotFound 1) (1 ∷ replicate 13 0) (replicate 64 0)
unfolding entries_of decode holds held free_run every any right_lengths value_fits entry_sound none_shared sound refuse check_sound ◌then◌ check_clock clock_checks check_key key_checks memory_of encode flat call dead same key_of key_is found_from look_up deads without put wiped remove remove_oldest sweep_count sweep after_sweep expiry_of entry_for place_at to_front rewrite_at overwrite_at after gone any_live fit_from first_free run searched is_placed if_room evicted forced_by fit_outcome place_fit placed_by place_anew store_over store_item most_rounds boolean_byte number_bytes value_given item_of check_kind takes_nil check_nil too_late check_lifetime store_checks admits delete_found store_admitted store_found store_work store_call
v299_replace = refl

-- replace: 0, rounds 0, removed 0
pub v300_replace : store_call Replace (1 ∷ 3 ∷ 0 ∷ 4 ∷ 0 ∷ 2 ∷ 2 ∷ 20 ∷ 196 ∷ 3 ∷ 4294967295 ∷ 0 ∷ 3 ∷ 8 ∷ 157 ∷ 3 ∷ 0 ∷ 1 ∷ 1 ∷ 8 ∷ replicate 6 0) (97 ∷ 98 ∷ 99 ∷ 120 ∷ 232 ∷ replicate 27 0 ++ 100 ∷ 175 ∷ 77 ∷ replicate 29 0 ++ 98 ∷ 97 ∷ replicate 20 120 ++ replicate 42 7) 127 (97 ∷ 98 ∷ 99 ∷ []) 4 (negsuc 65360) (120 ∷ []) 30 4294967295 ≡ gave (plain Done 0) (1 ∷ 3 ∷ 157 ∷ 4 ∷ 4294967295 ∷ 0 ∷ 3 ∷ 1 ∷ 0 ∷ 4 ∷ 0 ∷ 2 ∷ 2 ∷ 20 ∷ 157 ∷ 3 ∷ 0 ∷ 1 ∷ 1 ∷ 8 ∷ replicate 6 0) (97 ∷ 98 ∷ 99 ∷ 120 ∷ replicate 28 0 ++ 100 ∷ 175 ∷ 77 ∷ replicate 29 0 ++ 98 ∷ 97 ∷ replicate 20 120 ++ replicate 42 7)
unfolding entries_of decode holds held free_run every any right_lengths value_fits entry_sound none_shared sound refuse check_sound ◌then◌ check_clock clock_checks check_key key_checks memory_of encode flat call dead same key_of key_is found_from look_up deads without put wiped remove remove_oldest sweep_count sweep after_sweep expiry_of entry_for place_at to_front rewrite_at overwrite_at after gone any_live fit_from first_free run searched is_placed if_room evicted forced_by fit_outcome place_fit placed_by place_anew store_over store_item most_rounds boolean_byte number_bytes value_given item_of check_kind takes_nil check_nil too_late check_lifetime store_checks admits delete_found store_admitted store_found store_work store_call
v300_replace = refl

-- replace: 0, rounds 0, removed 0
pub v301_replace : store_call Replace (1 ∷ 2 ∷ 0 ∷ 3 ∷ 4294967295 ∷ 1 ∷ 2 ∷ 8 ∷ 0 ∷ 3 ∷ 0 ∷ 0 ∷ 1 ∷ 8 ∷ []) (99 ∷ 230 ∷ 242 ∷ 254 ∷ replicate 5 255 ++ replicate 23 7 ++ 98 ∷ 97 ∷ 1 ∷ replicate 6 0 ++ 128 ∷ replicate 22 7) 111 (98 ∷ 97 ∷ []) 3 (pos 12879) [] 5 5 ≡ gave (plain Done 0) (1 ∷ 2 ∷ 116 ∷ 3 ∷ 5 ∷ 1 ∷ 2 ∷ 8 ∷ 0 ∷ 3 ∷ 0 ∷ 0 ∷ 1 ∷ 8 ∷ []) (99 ∷ 230 ∷ 242 ∷ 254 ∷ replicate 5 255 ++ replicate 23 7 ++ 98 ∷ 97 ∷ 79 ∷ 50 ∷ replicate 6 0 ++ replicate 22 7)
unfolding entries_of decode holds held free_run every any right_lengths value_fits entry_sound none_shared sound refuse check_sound ◌then◌ check_clock clock_checks check_key key_checks memory_of encode flat call dead same key_of key_is found_from look_up deads without put wiped remove remove_oldest sweep_count sweep after_sweep expiry_of entry_for place_at to_front rewrite_at overwrite_at after gone any_live fit_from first_free run searched is_placed if_room evicted forced_by fit_outcome place_fit placed_by place_anew store_over store_item most_rounds boolean_byte number_bytes value_given item_of check_kind takes_nil check_nil too_late check_lifetime store_checks admits delete_found store_admitted store_found store_work store_call
v301_replace = refl

-- replace: 8, rounds 0, removed 0
pub v302_replace : store_call Replace (1 ∷ 3 ∷ 88 ∷ 1 ∷ 4294967295 ∷ 2 ∷ 3 ∷ 1 ∷ 94 ∷ 3 ∷ 0 ∷ 1 ∷ 1 ∷ 8 ∷ 0 ∷ 4 ∷ 5 ∷ 0 ∷ 2 ∷ 8 ∷ replicate 6 0) (98 ∷ 97 ∷ replicate 8 120 ++ replicate 22 0 ++ 98 ∷ 18 ∷ 111 ∷ 1 ∷ replicate 28 0 ++ 97 ∷ 98 ∷ 99 ∷ 1 ∷ replicate 60 0) 138 (98 ∷ []) 1 (pos 35962) (120 ∷ []) 0 4294967295 ≡ gave (plain NotFound 0) (1 ∷ 3 ∷ 88 ∷ 1 ∷ 4294967295 ∷ 2 ∷ 3 ∷ 1 ∷ 94 ∷ 3 ∷ 0 ∷ 1 ∷ 1 ∷ 8 ∷ 0 ∷ 4 ∷ 5 ∷ 0 ∷ 2 ∷ 8 ∷ replicate 6 0) (98 ∷ 97 ∷ replicate 8 120 ++ replicate 22 0 ++ 98 ∷ 18 ∷ 111 ∷ 1 ∷ replicate 28 0 ++ 97 ∷ 98 ∷ 99 ∷ 1 ∷ replicate 60 0)
unfolding entries_of decode holds held free_run every any right_lengths value_fits entry_sound none_shared sound refuse check_sound ◌then◌ check_clock clock_checks check_key key_checks memory_of encode flat call dead same key_of key_is found_from look_up deads without put wiped remove remove_oldest sweep_count sweep after_sweep expiry_of entry_for place_at to_front rewrite_at overwrite_at after gone any_live fit_from first_free run searched is_placed if_room evicted forced_by fit_outcome place_fit placed_by place_anew store_over store_item most_rounds boolean_byte number_bytes value_given item_of check_kind takes_nil check_nil too_late check_lifetime store_checks admits delete_found store_admitted store_found store_work store_call
v302_replace = refl

-- replace: 0, rounds 0, removed 0
pub v303_replace : store_call Replace (1 ∷ 1 ∷ 105 ∷ 1 ∷ 5 ∷ 0 ∷ 2 ∷ 1 ∷ replicate 18 0) (98 ∷ 97 ∷ 0 ∷ replicate 125 7) 84 (98 ∷ 97 ∷ []) 3 (negsuc 9223372036854775807) (replicate 33 120) 30 4294967295 ≡ gave (plain Done 0) (1 ∷ 1 ∷ 114 ∷ 3 ∷ 4294967295 ∷ 0 ∷ 2 ∷ 8 ∷ replicate 18 0) (98 ∷ 97 ∷ replicate 7 0 ++ 128 ∷ replicate 22 0 ++ replicate 96 7)
unfolding entries_of decode holds held free_run every any right_lengths value_fits entry_sound none_shared sound refuse check_sound ◌then◌ check_clock clock_checks check_key key_checks memory_of encode flat call dead same key_of key_is found_from look_up deads without put wiped remove remove_oldest sweep_count sweep after_sweep expiry_of entry_for place_at to_front rewrite_at overwrite_at after gone any_live fit_from first_free run searched is_placed if_room evicted forced_by fit_outcome place_fit placed_by place_anew store_over store_item most_rounds boolean_byte number_bytes value_given item_of check_kind takes_nil check_nil too_late check_lifetime store_checks admits delete_found store_admitted store_found store_work store_call
v303_replace = refl

-- replace: 0, rounds 0, removed 0
pub v304_replace : store_call Replace (1 ∷ 1 ∷ 84 ∷ 3 ∷ 4294967295 ∷ 0 ∷ 3 ∷ 8 ∷ []) (97 ∷ 98 ∷ 99 ∷ replicate 7 255 ++ 127 ∷ replicate 21 7) 54 (97 ∷ 98 ∷ 99 ∷ []) 4 (negsuc 52961) (120 ∷ []) 0 5 ≡ gave (plain Done 0) (1 ∷ 1 ∷ 0 ∷ 4 ∷ 5 ∷ 0 ∷ 3 ∷ 1 ∷ []) (97 ∷ 98 ∷ 99 ∷ 120 ∷ replicate 28 0)
unfolding entries_of decode holds held free_run every any right_lengths value_fits entry_sound none_shared sound refuse check_sound ◌then◌ check_clock clock_checks check_key key_checks memory_of encode flat call dead same key_of key_is found_from look_up deads without put wiped remove remove_oldest sweep_count sweep after_sweep expiry_of entry_for place_at to_front rewrite_at overwrite_at after gone any_live fit_from first_free run searched is_placed if_room evicted forced_by fit_outcome place_fit placed_by place_anew store_over store_item most_rounds boolean_byte number_bytes value_given item_of check_kind takes_nil check_nil too_late check_lifetime store_checks admits delete_found store_admitted store_found store_work store_call
v304_replace = refl

-- replace: 0, rounds 0, removed 0
pub v305_replace : store_call Replace (1 ∷ 2 ∷ 121 ∷ 4 ∷ 4294967295 ∷ 1 ∷ 2 ∷ 8 ∷ 0 ∷ 3 ∷ 0 ∷ 0 ∷ 2 ∷ 8 ∷ replicate 12 0) (97 ∷ 98 ∷ 15 ∷ 7 ∷ replicate 28 0 ++ 98 ∷ 97 ∷ replicate 8 120 ++ replicate 86 0) 76 (97 ∷ 98 ∷ []) 4 (pos 30773) (replicate 8 120) 30 4294967295 ≡ gave (plain Done 0) (1 ∷ 2 ∷ 106 ∷ 4 ∷ 4294967295 ∷ 0 ∷ 2 ∷ 8 ∷ 121 ∷ 4 ∷ 4294967295 ∷ 1 ∷ 2 ∷ 8 ∷ replicate 12 0) (97 ∷ 98 ∷ replicate 8 120 ++ replicate 22 0 ++ 98 ∷ 97 ∷ replicate 8 120 ++ replicate 86 0)
unfolding entries_of decode holds held free_run every any right_lengths value_fits entry_sound none_shared sound refuse check_sound ◌then◌ check_clock clock_checks check_key key_checks memory_of encode flat call dead same key_of key_is found_from look_up deads without put wiped remove remove_oldest sweep_count sweep after_sweep expiry_of entry_for place_at to_front rewrite_at overwrite_at after gone any_live fit_from first_free run searched is_placed if_room evicted forced_by fit_outcome place_fit placed_by place_anew store_over store_item most_rounds boolean_byte number_bytes value_given item_of check_kind takes_nil check_nil too_late check_lifetime store_checks admits delete_found store_admitted store_found store_work store_call
v305_replace = refl

-- replace: 0, rounds 0, removed 0
pub v306_replace : store_call Replace (1 ∷ 1 ∷ 0 ∷ 4 ∷ 4294967295 ∷ 0 ∷ 1 ∷ 1 ∷ replicate 18 0) (99 ∷ 120 ∷ replicate 126 0) 148 (99 ∷ []) 1 (negsuc 61162) (replicate 8 120) 5 4294967295 ≡ gave (plain Done 0) (1 ∷ 1 ∷ 153 ∷ 1 ∷ 4294967295 ∷ 0 ∷ 1 ∷ 1 ∷ replicate 18 0) (99 ∷ 1 ∷ replicate 126 0)
unfolding entries_of decode holds held free_run every any right_lengths value_fits entry_sound none_shared sound refuse check_sound ◌then◌ check_clock clock_checks check_key key_checks memory_of encode flat call dead same key_of key_is found_from look_up deads without put wiped remove remove_oldest sweep_count sweep after_sweep expiry_of entry_for place_at to_front rewrite_at overwrite_at after gone any_live fit_from first_free run searched is_placed if_room evicted forced_by fit_outcome place_fit placed_by place_anew store_over store_item most_rounds boolean_byte number_bytes value_given item_of check_kind takes_nil check_nil too_late check_lifetime store_checks admits delete_found store_admitted store_found store_work store_call
v306_replace = refl

-- replace: 0, rounds 0, removed 0
pub v307_replace : store_call Replace (1 ∷ 2 ∷ 0 ∷ 1 ∷ 4294967295 ∷ 1 ∷ 2 ∷ 1 ∷ 0 ∷ 1 ∷ 0 ∷ 0 ∷ 2 ∷ 1 ∷ []) (98 ∷ 97 ∷ 1 ∷ replicate 29 7 ++ 97 ∷ 98 ∷ 1 ∷ replicate 29 7) 66 (97 ∷ 98 ∷ []) 3 (pos 88276) (120 ∷ []) 18446744073709551549 4294967295 ≡ gave (plain Done 0) (1 ∷ 2 ∷ 18446744073709551615 ∷ 3 ∷ 4294967295 ∷ 1 ∷ 2 ∷ 8 ∷ 0 ∷ 1 ∷ 0 ∷ 0 ∷ 2 ∷ 1 ∷ []) (98 ∷ 97 ∷ 1 ∷ replicate 29 7 ++ 97 ∷ 98 ∷ 212 ∷ 88 ∷ 1 ∷ replicate 27 0)
unfolding entries_of decode holds held free_run every any right_lengths value_fits entry_sound none_shared sound refuse check_sound ◌then◌ check_clock clock_checks check_key key_checks memory_of encode flat call dead same key_of key_is found_from look_up deads without put wiped remove remove_oldest sweep_count sweep after_sweep expiry_of entry_for place_at to_front rewrite_at overwrite_at after gone any_live fit_from first_free run searched is_placed if_room evicted forced_by fit_outcome place_fit placed_by place_anew store_over store_item most_rounds boolean_byte number_bytes value_given item_of check_kind takes_nil check_nil too_late check_lifetime store_checks admits delete_found store_admitted store_found store_work store_call
v307_replace = refl

-- replace: 8, rounds 0, removed 0
pub v308_replace : store_call Replace (1 ∷ 4 ∷ 0 ∷ 1 ∷ 0 ∷ 0 ∷ 2 ∷ 1 ∷ 1 ∷ 3 ∷ 5 ∷ 3 ∷ 1 ∷ 8 ∷ 1 ∷ 3 ∷ 4294967295 ∷ 2 ∷ 1 ∷ 8 ∷ 0 ∷ 1 ∷ 4294967295 ∷ 1 ∷ 2 ∷ 1 ∷ []) (98 ∷ 97 ∷ 1 ∷ replicate 29 0 ++ 97 ∷ 98 ∷ 1 ∷ replicate 29 7 ++ 98 ∷ 25 ∷ 194 ∷ 254 ∷ replicate 5 255 ++ replicate 23 7 ++ 100 ∷ 43 ∷ 0 ∷ 113 ∷ 94 ∷ 24 ∷ 155 ∷ 223 ∷ 190 ∷ replicate 23 7) 119 (98 ∷ []) 3 (pos 1) (replicate 33 120) 5 5 ≡ gave (plain NotFound 0) (1 ∷ 4 ∷ 0 ∷ 1 ∷ 0 ∷ 0 ∷ 2 ∷ 1 ∷ 1 ∷ 3 ∷ 5 ∷ 3 ∷ 1 ∷ 8 ∷ 1 ∷ 3 ∷ 4294967295 ∷ 2 ∷ 1 ∷ 8 ∷ 0 ∷ 1 ∷ 4294967295 ∷ 1 ∷ 2 ∷ 1 ∷ []) (98 ∷ 97 ∷ 1 ∷ replicate 29 0 ++ 97 ∷ 98 ∷ 1 ∷ replicate 29 7 ++ 98 ∷ 25 ∷ 194 ∷ 254 ∷ replicate 5 255 ++ replicate 23 7 ++ 100 ∷ 43 ∷ 0 ∷ 113 ∷ 94 ∷ 24 ∷ 155 ∷ 223 ∷ 190 ∷ replicate 23 7)
unfolding entries_of decode holds held free_run every any right_lengths value_fits entry_sound none_shared sound refuse check_sound ◌then◌ check_clock clock_checks check_key key_checks memory_of encode flat call dead same key_of key_is found_from look_up deads without put wiped remove remove_oldest sweep_count sweep after_sweep expiry_of entry_for place_at to_front rewrite_at overwrite_at after gone any_live fit_from first_free run searched is_placed if_room evicted forced_by fit_outcome place_fit placed_by place_anew store_over store_item most_rounds boolean_byte number_bytes value_given item_of check_kind takes_nil check_nil too_late check_lifetime store_checks admits delete_found store_admitted store_found store_work store_call
v308_replace = refl

-- replace: 0, rounds 1, removed 2
pub v309_replace : store_call Replace (1 ∷ 4 ∷ 162 ∷ 4 ∷ 5 ∷ 2 ∷ 1 ∷ 1 ∷ 0 ∷ 3 ∷ 5 ∷ 3 ∷ 1 ∷ 8 ∷ 120 ∷ 1 ∷ 0 ∷ 0 ∷ 1 ∷ 1 ∷ 0 ∷ 3 ∷ 4294967295 ∷ 1 ∷ 2 ∷ 8 ∷ []) (97 ∷ 1 ∷ replicate 30 0 ++ 98 ∷ 97 ∷ replicate 8 0 ++ replicate 22 7 ++ 99 ∷ 120 ∷ replicate 30 0 ++ 98 ∷ 202 ∷ 139 ∷ replicate 6 0 ++ replicate 23 7) 122 (98 ∷ []) 4 (pos 61844) (replicate 63 120) 0 0 ≡ gave (record { rounds = 1; removed = 2; forced = true; stale = false; outcome = Done }) (1 ∷ 2 ∷ 0 ∷ 4 ∷ 0 ∷ 0 ∷ 1 ∷ 63 ∷ 162 ∷ 4 ∷ 5 ∷ 2 ∷ 1 ∷ 1 ∷ replicate 12 0) (98 ∷ replicate 63 120 ++ 99 ∷ 120 ∷ replicate 62 0)
unfolding entries_of decode holds held free_run every any right_lengths value_fits entry_sound none_shared sound refuse check_sound ◌then◌ check_clock clock_checks check_key key_checks memory_of encode flat call dead same key_of key_is found_from look_up deads without put wiped remove remove_oldest sweep_count sweep after_sweep expiry_of entry_for place_at to_front rewrite_at overwrite_at after gone any_live fit_from first_free run searched is_placed if_room evicted forced_by fit_outcome place_fit placed_by place_anew store_over store_item most_rounds boolean_byte number_bytes value_given item_of check_kind takes_nil check_nil too_late check_lifetime store_checks admits delete_found store_admitted store_found store_work store_call
v309_replace = refl

-- replace: 0, rounds 0, removed 1
pub v310_replace : store_call Replace (1 ∷ 2 ∷ 0 ∷ 4 ∷ 4294967295 ∷ 1 ∷ 3 ∷ 1 ∷ 1 ∷ 3 ∷ 4294967295 ∷ 0 ∷ 1 ∷ 8 ∷ []) (100 ∷ 211 ∷ 160 ∷ replicate 29 0 ++ 97 ∷ 98 ∷ 99 ∷ 120 ∷ replicate 28 0) 63 (97 ∷ 98 ∷ 99 ∷ []) 3 (negsuc 38024) (replicate 8 120) 30 5 ≡ gave (plain Done 1) (1 ∷ 1 ∷ 93 ∷ 3 ∷ 5 ∷ 0 ∷ 3 ∷ 8 ∷ replicate 6 0) (97 ∷ 98 ∷ 99 ∷ 119 ∷ 107 ∷ replicate 6 255 ++ replicate 53 0)
unfolding entries_of decode holds held free_run every any right_lengths value_fits entry_sound none_shared sound refuse check_sound ◌then◌ check_clock clock_checks check_key key_checks memory_of encode flat call dead same key_of key_is found_from look_up deads without put wiped remove remove_oldest sweep_count sweep after_sweep expiry_of entry_for place_at to_front rewrite_at overwrite_at after gone any_live fit_from first_free run searched is_placed if_room evicted forced_by fit_outcome place_fit placed_by place_anew store_over store_item most_rounds boolean_byte number_bytes value_given item_of check_kind takes_nil check_nil too_late check_lifetime store_checks admits delete_found store_admitted store_found store_work store_call
v310_replace = refl

-- replace: 0, rounds 2, removed 2
pub v311_replace : store_call Replace (1 ∷ 3 ∷ 134 ∷ 1 ∷ 4294967295 ∷ 3 ∷ 1 ∷ 1 ∷ 134 ∷ 3 ∷ 4294967295 ∷ 2 ∷ 1 ∷ 8 ∷ 110 ∷ 4 ∷ 0 ∷ 0 ∷ 3 ∷ 60 ∷ replicate 6 0) (97 ∷ 98 ∷ 99 ∷ replicate 60 120 ++ 7 ∷ 97 ∷ 59 ∷ 214 ∷ 49 ∷ 159 ∷ 77 ∷ 30 ∷ 156 ∷ 111 ∷ replicate 23 7 ++ 98 ∷ 1 ∷ replicate 30 7) 104 (97 ∷ 98 ∷ 99 ∷ []) 4 (pos 8426271493238047856) (replicate 100 120) 5 4294967295 ≡ gave (record { rounds = 2; removed = 2; forced = true; stale = false; outcome = Done }) (1 ∷ 1 ∷ 109 ∷ 4 ∷ 4294967295 ∷ 0 ∷ 3 ∷ 100 ∷ replicate 18 0) (97 ∷ 98 ∷ 99 ∷ replicate 100 120 ++ replicate 25 0)
unfolding entries_of decode holds held free_run every any right_lengths value_fits entry_sound none_shared sound refuse check_sound ◌then◌ check_clock clock_checks check_key key_checks memory_of encode flat call dead same key_of key_is found_from look_up deads without put wiped remove remove_oldest sweep_count sweep after_sweep expiry_of entry_for place_at to_front rewrite_at overwrite_at after gone any_live fit_from first_free run searched is_placed if_room evicted forced_by fit_outcome place_fit placed_by place_anew store_over store_item most_rounds boolean_byte number_bytes value_given item_of check_kind takes_nil check_nil too_late check_lifetime store_checks admits delete_found store_admitted store_found store_work store_call
v311_replace = refl

-- replace: 0, rounds 0, removed 2
pub v312_replace : store_call Replace (1 ∷ 3 ∷ 0 ∷ 1 ∷ 0 ∷ 2 ∷ 3 ∷ 1 ∷ 1 ∷ 3 ∷ 5 ∷ 1 ∷ 1 ∷ 8 ∷ 107 ∷ 1 ∷ 5 ∷ 0 ∷ 1 ∷ 1 ∷ replicate 6 0) (97 ∷ 1 ∷ replicate 30 7 ++ 100 ∷ 1 ∷ replicate 7 0 ++ replicate 23 7 ++ 97 ∷ 98 ∷ 99 ∷ 1 ∷ replicate 60 7) 112 (97 ∷ 98 ∷ 99 ∷ []) 4 (negsuc 7180) (replicate 33 120) 5 4294967295 ≡ gave (plain Done 2) (1 ∷ 1 ∷ 117 ∷ 4 ∷ 4294967295 ∷ 0 ∷ 3 ∷ 33 ∷ replicate 18 0) (97 ∷ 98 ∷ 99 ∷ replicate 33 120 ++ replicate 60 0 ++ replicate 32 7)
unfolding entries_of decode holds held free_run every any right_lengths value_fits entry_sound none_shared sound refuse check_sound ◌then◌ check_clock clock_checks check_key key_checks memory_of encode flat call dead same key_of key_is found_from look_up deads without put wiped remove remove_oldest sweep_count sweep after_sweep expiry_of entry_for place_at to_front rewrite_at overwrite_at after gone any_live fit_from first_free run searched is_placed if_room evicted forced_by fit_outcome place_fit placed_by place_anew store_over store_item most_rounds boolean_byte number_bytes value_given item_of check_kind takes_nil check_nil too_late check_lifetime store_checks admits delete_found store_admitted store_found store_work store_call
v312_replace = refl

-- replace: 12, rounds 0, removed 0
pub v313_replace : store_call Replace (1 ∷ 2 ∷ 136 ∷ 1 ∷ 4294967295 ∷ 1 ∷ 2 ∷ 1 ∷ 136 ∷ 3 ∷ 5 ∷ 0 ∷ 3 ∷ 8 ∷ []) (97 ∷ 98 ∷ 99 ∷ 239 ∷ 113 ∷ 175 ∷ 106 ∷ 83 ∷ 209 ∷ 176 ∷ 171 ∷ replicate 21 0 ++ 98 ∷ 97 ∷ 1 ∷ replicate 29 0) 126 (98 ∷ 97 ∷ []) 4 (negsuc 62520) (replicate 100 120) 0 4294967295 ≡ gave (plain NoMemory 0) (1 ∷ 1 ∷ 136 ∷ 3 ∷ 5 ∷ 0 ∷ 3 ∷ 8 ∷ replicate 6 0) (97 ∷ 98 ∷ 99 ∷ 239 ∷ 113 ∷ 175 ∷ 106 ∷ 83 ∷ 209 ∷ 176 ∷ 171 ∷ replicate 53 0)
unfolding entries_of decode holds held free_run every any right_lengths value_fits entry_sound none_shared sound refuse check_sound ◌then◌ check_clock clock_checks check_key key_checks memory_of encode flat call dead same key_of key_is found_from look_up deads without put wiped remove remove_oldest sweep_count sweep after_sweep expiry_of entry_for place_at to_front rewrite_at overwrite_at after gone any_live fit_from first_free run searched is_placed if_room evicted forced_by fit_outcome place_fit placed_by place_anew store_over store_item most_rounds boolean_byte number_bytes value_given item_of check_kind takes_nil check_nil too_late check_lifetime store_checks admits delete_found store_admitted store_found store_work store_call
v313_replace = refl

-- replace: 0, rounds 1, removed 1
pub v314_replace : store_call Replace (1 ∷ 2 ∷ 0 ∷ 4 ∷ 0 ∷ 2 ∷ 1 ∷ 33 ∷ 117 ∷ 4 ∷ 0 ∷ 1 ∷ 1 ∷ replicate 13 0) (replicate 32 0 ++ 97 ∷ replicate 31 7 ++ 99 ∷ replicate 33 120 ++ replicate 30 7) 98 (99 ∷ []) 4 (pos 481944617781940814) (replicate 95 120) 5 0 ≡ gave (record { rounds = 1; removed = 1; forced = true; stale = false; outcome = Done }) (1 ∷ 1 ∷ 103 ∷ 4 ∷ 0 ∷ 0 ∷ 1 ∷ 95 ∷ replicate 18 0) (99 ∷ replicate 95 120 ++ replicate 32 0)
unfolding entries_of decode holds held free_run every any right_lengths value_fits entry_sound none_shared sound refuse check_sound ◌then◌ check_clock clock_checks check_key key_checks memory_of encode flat call dead same key_of key_is found_from look_up deads without put wiped remove remove_oldest sweep_count sweep after_sweep expiry_of entry_for place_at to_front rewrite_at overwrite_at after gone any_live fit_from first_free run searched is_placed if_room evicted forced_by fit_outcome place_fit placed_by place_anew store_over store_item most_rounds boolean_byte number_bytes value_given item_of check_kind takes_nil check_nil too_late check_lifetime store_checks admits delete_found store_admitted store_found store_work store_call
v314_replace = refl

-- replace: 12, rounds 0, removed 1
pub v315_replace : store_call Replace (1 ∷ 2 ∷ 0 ∷ 3 ∷ 4294967295 ∷ 1 ∷ 3 ∷ 8 ∷ 1 ∷ 3 ∷ 0 ∷ 0 ∷ 1 ∷ 8 ∷ replicate 12 0) (98 ∷ 33 ∷ 174 ∷ replicate 29 0 ++ 97 ∷ 98 ∷ 99 ∷ 32 ∷ 208 ∷ 254 ∷ replicate 5 255 ++ replicate 85 0) 175 (97 ∷ 98 ∷ 99 ∷ []) 4 (negsuc 0) (replicate 130 120) 0 0 ≡ gave (plain NoMemory 1) (1 ∷ replicate 25 0) (replicate 128 0)
unfolding entries_of decode holds held free_run every any right_lengths value_fits entry_sound none_shared sound refuse check_sound ◌then◌ check_clock clock_checks check_key key_checks memory_of encode flat call dead same key_of key_is found_from look_up deads without put wiped remove remove_oldest sweep_count sweep after_sweep expiry_of entry_for place_at to_front rewrite_at overwrite_at after gone any_live fit_from first_free run searched is_placed if_room evicted forced_by fit_outcome place_fit placed_by place_anew store_over store_item most_rounds boolean_byte number_bytes value_given item_of check_kind takes_nil check_nil too_late check_lifetime store_checks admits delete_found store_admitted store_found store_work store_call
v315_replace = refl

-- replace: 0, rounds 1, removed 3
pub v316_replace : store_call Replace (1 ∷ 4 ∷ 0 ∷ 1 ∷ 0 ∷ 0 ∷ 3 ∷ 1 ∷ 72 ∷ 4 ∷ 4294967295 ∷ 3 ∷ 1 ∷ 20 ∷ 68 ∷ 3 ∷ 0 ∷ 2 ∷ 2 ∷ 8 ∷ 98 ∷ 1 ∷ 4294967295 ∷ 1 ∷ 1 ∷ 1 ∷ []) (97 ∷ 98 ∷ 99 ∷ 1 ∷ replicate 28 0 ++ 100 ∷ 1 ∷ replicate 30 0 ++ 97 ∷ 98 ∷ 70 ∷ 150 ∷ replicate 28 0 ++ 99 ∷ replicate 20 120 ++ replicate 11 0) 88 (97 ∷ 98 ∷ 99 ∷ []) 4 (pos 75872) (replicate 30 120) 0 5 ≡ gave (record { rounds = 1; removed = 3; forced = true; stale = false; outcome = Done }) (1 ∷ 1 ∷ 0 ∷ 4 ∷ 5 ∷ 0 ∷ 3 ∷ 30 ∷ replicate 18 0) (97 ∷ 98 ∷ 99 ∷ replicate 30 120 ++ replicate 95 0)
unfolding entries_of decode holds held free_run every any right_lengths value_fits entry_sound none_shared sound refuse check_sound ◌then◌ check_clock clock_checks check_key key_checks memory_of encode flat call dead same key_of key_is found_from look_up deads without put wiped remove remove_oldest sweep_count sweep after_sweep expiry_of entry_for place_at to_front rewrite_at overwrite_at after gone any_live fit_from first_free run searched is_placed if_room evicted forced_by fit_outcome place_fit placed_by place_anew store_over store_item most_rounds boolean_byte number_bytes value_given item_of check_kind takes_nil check_nil too_late check_lifetime store_checks admits delete_found store_admitted store_found store_work store_call
v316_replace = refl

-- replace: 0, rounds 3, removed 3
pub v317_replace : store_call Replace (1 ∷ 4 ∷ 120 ∷ 1 ∷ 0 ∷ 3 ∷ 1 ∷ 1 ∷ 112 ∷ 4 ∷ 4294967295 ∷ 2 ∷ 3 ∷ 8 ∷ 0 ∷ 3 ∷ 5 ∷ 1 ∷ 1 ∷ 8 ∷ 107 ∷ 4 ∷ 4294967295 ∷ 0 ∷ 2 ∷ 20 ∷ []) (98 ∷ 97 ∷ replicate 20 120 ++ replicate 10 7 ++ 99 ∷ 235 ∷ 247 ∷ replicate 6 0 ++ replicate 23 7 ++ 97 ∷ 98 ∷ 99 ∷ replicate 8 120 ++ replicate 21 7 ++ 98 ∷ 1 ∷ replicate 30 7) 90 (99 ∷ []) 4 (pos 2897363375701479898) (replicate 100 120) 18446744073709551525 0 ≡ gave (record { rounds = 3; removed = 3; forced = true; stale = false; outcome = Done }) (1 ∷ 1 ∷ 18446744073709551615 ∷ 4 ∷ 0 ∷ 0 ∷ 1 ∷ 100 ∷ replicate 18 0) (99 ∷ replicate 100 120 ++ replicate 27 0)
unfolding entries_of decode holds held free_run every any right_lengths value_fits entry_sound none_shared sound refuse check_sound ◌then◌ check_clock clock_checks check_key key_checks memory_of encode flat call dead same key_of key_is found_from look_up deads without put wiped remove remove_oldest sweep_count sweep after_sweep expiry_of entry_for place_at to_front rewrite_at overwrite_at after gone any_live fit_from first_free run searched is_placed if_room evicted forced_by fit_outcome place_fit placed_by place_anew store_over store_item most_rounds boolean_byte number_bytes value_given item_of check_kind takes_nil check_nil too_late check_lifetime store_checks admits delete_found store_admitted store_found store_work store_call
v317_replace = refl

-- replace: 0, rounds 30, removed 30
pub v318_replace : store_call Replace (1 ∷ 33 ∷ 0 ∷ 3 ∷ 0 ∷ 32 ∷ 1 ∷ 8 ∷ 0 ∷ 3 ∷ 0 ∷ 31 ∷ 1 ∷ 8 ∷ 0 ∷ 3 ∷ 0 ∷ 30 ∷ 1 ∷ 8 ∷ 0 ∷ 3 ∷ 0 ∷ 29 ∷ 1 ∷ 8 ∷ 0 ∷ 3 ∷ 0 ∷ 28 ∷ 1 ∷ 8 ∷ 0 ∷ 3 ∷ 0 ∷ 27 ∷ 1 ∷ 8 ∷ 0 ∷ 3 ∷ 0 ∷ 26 ∷ 1 ∷ 8 ∷ 0 ∷ 3 ∷ 0 ∷ 25 ∷ 1 ∷ 8 ∷ 0 ∷ 3 ∷ 0 ∷ 24 ∷ 1 ∷ 8 ∷ 0 ∷ 3 ∷ 0 ∷ 23 ∷ 1 ∷ 8 ∷ 0 ∷ 3 ∷ 0 ∷ 22 ∷ 1 ∷ 8 ∷ 0 ∷ 3 ∷ 0 ∷ 21 ∷ 1 ∷ 8 ∷ 0 ∷ 3 ∷ 0 ∷ 20 ∷ 1 ∷ 8 ∷ 0 ∷ 3 ∷ 0 ∷ 19 ∷ 1 ∷ 8 ∷ 0 ∷ 3 ∷ 0 ∷ 18 ∷ 1 ∷ 8 ∷ 0 ∷ 3 ∷ 0 ∷ 17 ∷ 1 ∷ 8 ∷ 0 ∷ 3 ∷ 0 ∷ 16 ∷ 1 ∷ 8 ∷ 0 ∷ 3 ∷ 0 ∷ 15 ∷ 1 ∷ 8 ∷ 0 ∷ 3 ∷ 0 ∷ 14 ∷ 1 ∷ 8 ∷ 0 ∷ 3 ∷ 0 ∷ 13 ∷ 1 ∷ 8 ∷ 0 ∷ 3 ∷ 0 ∷ 12 ∷ 1 ∷ 8 ∷ 0 ∷ 3 ∷ 0 ∷ 11 ∷ 1 ∷ 8 ∷ 0 ∷ 3 ∷ 0 ∷ 10 ∷ 1 ∷ 8 ∷ 0 ∷ 3 ∷ 0 ∷ 9 ∷ 1 ∷ 8 ∷ 0 ∷ 3 ∷ 0 ∷ 8 ∷ 1 ∷ 8 ∷ 0 ∷ 3 ∷ 0 ∷ 7 ∷ 1 ∷ 8 ∷ 0 ∷ 3 ∷ 0 ∷ 6 ∷ 1 ∷ 8 ∷ 0 ∷ 3 ∷ 0 ∷ 5 ∷ 1 ∷ 8 ∷ 0 ∷ 3 ∷ 0 ∷ 4 ∷ 1 ∷ 8 ∷ 0 ∷ 3 ∷ 0 ∷ 3 ∷ 1 ∷ 8 ∷ 0 ∷ 3 ∷ 0 ∷ 2 ∷ 1 ∷ 8 ∷ 0 ∷ 3 ∷ 0 ∷ 1 ∷ 1 ∷ 8 ∷ 0 ∷ 3 ∷ 0 ∷ 0 ∷ 1 ∷ 8 ∷ []) (65 ∷ replicate 31 0 ++ 66 ∷ 1 ∷ replicate 30 0 ++ 67 ∷ 2 ∷ replicate 30 0 ++ 68 ∷ 3 ∷ replicate 30 0 ++ 69 ∷ 4 ∷ replicate 30 0 ++ 70 ∷ 5 ∷ replicate 30 0 ++ 71 ∷ 6 ∷ replicate 30 0 ++ 72 ∷ 7 ∷ replicate 30 0 ++ 73 ∷ 8 ∷ replicate 30 0 ++ 74 ∷ 9 ∷ replicate 30 0 ++ 75 ∷ 10 ∷ replicate 30 0 ++ 76 ∷ 11 ∷ replicate 30 0 ++ 77 ∷ 12 ∷ replicate 30 0 ++ 78 ∷ 13 ∷ replicate 30 0 ++ 79 ∷ 14 ∷ replicate 30 0 ++ 80 ∷ 15 ∷ replicate 30 0 ++ 81 ∷ 16 ∷ replicate 30 0 ++ 82 ∷ 17 ∷ replicate 30 0 ++ 83 ∷ 18 ∷ replicate 30 0 ++ 84 ∷ 19 ∷ replicate 30 0 ++ 85 ∷ 20 ∷ replicate 30 0 ++ 86 ∷ 21 ∷ replicate 30 0 ++ 87 ∷ 22 ∷ replicate 30 0 ++ 88 ∷ 23 ∷ replicate 30 0 ++ 89 ∷ 24 ∷ replicate 30 0 ++ 90 ∷ 25 ∷ replicate 30 0 ++ 91 ∷ 26 ∷ replicate 30 0 ++ 92 ∷ 27 ∷ replicate 30 0 ++ 93 ∷ 28 ∷ replicate 30 0 ++ 94 ∷ 29 ∷ replicate 30 0 ++ 95 ∷ 30 ∷ replicate 30 0 ++ 96 ∷ 31 ∷ replicate 30 0 ++ 97 ∷ 32 ∷ replicate 30 0) 2 (97 ∷ []) 4 (pos 0) (replicate 959 120) 0 0 ≡ gave (record { rounds = 30; removed = 30; forced = true; stale = false; outcome = Done }) (1 ∷ 3 ∷ 0 ∷ 4 ∷ 0 ∷ 0 ∷ 1 ∷ 959 ∷ 0 ∷ 3 ∷ 0 ∷ 31 ∷ 1 ∷ 8 ∷ 0 ∷ 3 ∷ 0 ∷ 30 ∷ 1 ∷ 8 ∷ replicate 180 0) (97 ∷ replicate 959 120 ++ 95 ∷ 30 ∷ replicate 30 0 ++ 96 ∷ 31 ∷ replicate 62 0)
unfolding entries_of decode holds held free_run every any right_lengths value_fits entry_sound none_shared sound refuse check_sound ◌then◌ check_clock clock_checks check_key key_checks memory_of encode flat call dead same key_of key_is found_from look_up deads without put wiped remove remove_oldest sweep_count sweep after_sweep expiry_of entry_for place_at to_front rewrite_at overwrite_at after gone any_live fit_from first_free run searched is_placed if_room evicted forced_by fit_outcome place_fit placed_by place_anew store_over store_item most_rounds boolean_byte number_bytes value_given item_of check_kind takes_nil check_nil too_late check_lifetime store_checks admits delete_found store_admitted store_found store_work store_call
v318_replace = refl

-- replace: 12, rounds 0, removed 0
pub v319_replace : store_call Replace (1 ∷ 33 ∷ 0 ∷ 3 ∷ 0 ∷ 32 ∷ 1 ∷ 8 ∷ 0 ∷ 3 ∷ 0 ∷ 31 ∷ 1 ∷ 8 ∷ 0 ∷ 3 ∷ 0 ∷ 30 ∷ 1 ∷ 8 ∷ 0 ∷ 3 ∷ 0 ∷ 29 ∷ 1 ∷ 8 ∷ 0 ∷ 3 ∷ 0 ∷ 28 ∷ 1 ∷ 8 ∷ 0 ∷ 3 ∷ 0 ∷ 27 ∷ 1 ∷ 8 ∷ 0 ∷ 3 ∷ 0 ∷ 26 ∷ 1 ∷ 8 ∷ 0 ∷ 3 ∷ 0 ∷ 25 ∷ 1 ∷ 8 ∷ 0 ∷ 3 ∷ 0 ∷ 24 ∷ 1 ∷ 8 ∷ 0 ∷ 3 ∷ 0 ∷ 23 ∷ 1 ∷ 8 ∷ 0 ∷ 3 ∷ 0 ∷ 22 ∷ 1 ∷ 8 ∷ 0 ∷ 3 ∷ 0 ∷ 21 ∷ 1 ∷ 8 ∷ 0 ∷ 3 ∷ 0 ∷ 20 ∷ 1 ∷ 8 ∷ 0 ∷ 3 ∷ 0 ∷ 19 ∷ 1 ∷ 8 ∷ 0 ∷ 3 ∷ 0 ∷ 18 ∷ 1 ∷ 8 ∷ 0 ∷ 3 ∷ 0 ∷ 17 ∷ 1 ∷ 8 ∷ 0 ∷ 3 ∷ 0 ∷ 16 ∷ 1 ∷ 8 ∷ 0 ∷ 3 ∷ 0 ∷ 15 ∷ 1 ∷ 8 ∷ 0 ∷ 3 ∷ 0 ∷ 14 ∷ 1 ∷ 8 ∷ 0 ∷ 3 ∷ 0 ∷ 13 ∷ 1 ∷ 8 ∷ 0 ∷ 3 ∷ 0 ∷ 12 ∷ 1 ∷ 8 ∷ 0 ∷ 3 ∷ 0 ∷ 11 ∷ 1 ∷ 8 ∷ 0 ∷ 3 ∷ 0 ∷ 10 ∷ 1 ∷ 8 ∷ 0 ∷ 3 ∷ 0 ∷ 9 ∷ 1 ∷ 8 ∷ 0 ∷ 3 ∷ 0 ∷ 8 ∷ 1 ∷ 8 ∷ 0 ∷ 3 ∷ 0 ∷ 7 ∷ 1 ∷ 8 ∷ 0 ∷ 3 ∷ 0 ∷ 6 ∷ 1 ∷ 8 ∷ 0 ∷ 3 ∷ 0 ∷ 5 ∷ 1 ∷ 8 ∷ 0 ∷ 3 ∷ 0 ∷ 4 ∷ 1 ∷ 8 ∷ 0 ∷ 3 ∷ 0 ∷ 3 ∷ 1 ∷ 8 ∷ 0 ∷ 3 ∷ 0 ∷ 2 ∷ 1 ∷ 8 ∷ 0 ∷ 3 ∷ 0 ∷ 1 ∷ 1 ∷ 8 ∷ 0 ∷ 3 ∷ 0 ∷ 0 ∷ 1 ∷ 8 ∷ []) (65 ∷ replicate 31 0 ++ 66 ∷ 1 ∷ replicate 30 0 ++ 67 ∷ 2 ∷ replicate 30 0 ++ 68 ∷ 3 ∷ replicate 30 0 ++ 69 ∷ 4 ∷ replicate 30 0 ++ 70 ∷ 5 ∷ replicate 30 0 ++ 71 ∷ 6 ∷ replicate 30 0 ++ 72 ∷ 7 ∷ replicate 30 0 ++ 73 ∷ 8 ∷ replicate 30 0 ++ 74 ∷ 9 ∷ replicate 30 0 ++ 75 ∷ 10 ∷ replicate 30 0 ++ 76 ∷ 11 ∷ replicate 30 0 ++ 77 ∷ 12 ∷ replicate 30 0 ++ 78 ∷ 13 ∷ replicate 30 0 ++ 79 ∷ 14 ∷ replicate 30 0 ++ 80 ∷ 15 ∷ replicate 30 0 ++ 81 ∷ 16 ∷ replicate 30 0 ++ 82 ∷ 17 ∷ replicate 30 0 ++ 83 ∷ 18 ∷ replicate 30 0 ++ 84 ∷ 19 ∷ replicate 30 0 ++ 85 ∷ 20 ∷ replicate 30 0 ++ 86 ∷ 21 ∷ replicate 30 0 ++ 87 ∷ 22 ∷ replicate 30 0 ++ 88 ∷ 23 ∷ replicate 30 0 ++ 89 ∷ 24 ∷ replicate 30 0 ++ 90 ∷ 25 ∷ replicate 30 0 ++ 91 ∷ 26 ∷ replicate 30 0 ++ 92 ∷ 27 ∷ replicate 30 0 ++ 93 ∷ 28 ∷ replicate 30 0 ++ 94 ∷ 29 ∷ replicate 30 0 ++ 95 ∷ 30 ∷ replicate 30 0 ++ 96 ∷ 31 ∷ replicate 30 0 ++ 97 ∷ 32 ∷ replicate 30 0) 2 (97 ∷ []) 4 (pos 0) (replicate 991 120) 0 0 ≡ gave (plain NoMemory 0) (1 ∷ 32 ∷ 0 ∷ 3 ∷ 0 ∷ 31 ∷ 1 ∷ 8 ∷ 0 ∷ 3 ∷ 0 ∷ 30 ∷ 1 ∷ 8 ∷ 0 ∷ 3 ∷ 0 ∷ 29 ∷ 1 ∷ 8 ∷ 0 ∷ 3 ∷ 0 ∷ 28 ∷ 1 ∷ 8 ∷ 0 ∷ 3 ∷ 0 ∷ 27 ∷ 1 ∷ 8 ∷ 0 ∷ 3 ∷ 0 ∷ 26 ∷ 1 ∷ 8 ∷ 0 ∷ 3 ∷ 0 ∷ 25 ∷ 1 ∷ 8 ∷ 0 ∷ 3 ∷ 0 ∷ 24 ∷ 1 ∷ 8 ∷ 0 ∷ 3 ∷ 0 ∷ 23 ∷ 1 ∷ 8 ∷ 0 ∷ 3 ∷ 0 ∷ 22 ∷ 1 ∷ 8 ∷ 0 ∷ 3 ∷ 0 ∷ 21 ∷ 1 ∷ 8 ∷ 0 ∷ 3 ∷ 0 ∷ 20 ∷ 1 ∷ 8 ∷ 0 ∷ 3 ∷ 0 ∷ 19 ∷ 1 ∷ 8 ∷ 0 ∷ 3 ∷ 0 ∷ 18 ∷ 1 ∷ 8 ∷ 0 ∷ 3 ∷ 0 ∷ 17 ∷ 1 ∷ 8 ∷ 0 ∷ 3 ∷ 0 ∷ 16 ∷ 1 ∷ 8 ∷ 0 ∷ 3 ∷ 0 ∷ 15 ∷ 1 ∷ 8 ∷ 0 ∷ 3 ∷ 0 ∷ 14 ∷ 1 ∷ 8 ∷ 0 ∷ 3 ∷ 0 ∷ 13 ∷ 1 ∷ 8 ∷ 0 ∷ 3 ∷ 0 ∷ 12 ∷ 1 ∷ 8 ∷ 0 ∷ 3 ∷ 0 ∷ 11 ∷ 1 ∷ 8 ∷ 0 ∷ 3 ∷ 0 ∷ 10 ∷ 1 ∷ 8 ∷ 0 ∷ 3 ∷ 0 ∷ 9 ∷ 1 ∷ 8 ∷ 0 ∷ 3 ∷ 0 ∷ 8 ∷ 1 ∷ 8 ∷ 0 ∷ 3 ∷ 0 ∷ 7 ∷ 1 ∷ 8 ∷ 0 ∷ 3 ∷ 0 ∷ 6 ∷ 1 ∷ 8 ∷ 0 ∷ 3 ∷ 0 ∷ 5 ∷ 1 ∷ 8 ∷ 0 ∷ 3 ∷ 0 ∷ 4 ∷ 1 ∷ 8 ∷ 0 ∷ 3 ∷ 0 ∷ 3 ∷ 1 ∷ 8 ∷ 0 ∷ 3 ∷ 0 ∷ 2 ∷ 1 ∷ 8 ∷ 0 ∷ 3 ∷ 0 ∷ 1 ∷ 1 ∷ 8 ∷ 0 ∷ 3 ∷ 0 ∷ 0 ∷ 1 ∷ 8 ∷ replicate 6 0) (65 ∷ replicate 31 0 ++ 66 ∷ 1 ∷ replicate 30 0 ++ 67 ∷ 2 ∷ replicate 30 0 ++ 68 ∷ 3 ∷ replicate 30 0 ++ 69 ∷ 4 ∷ replicate 30 0 ++ 70 ∷ 5 ∷ replicate 30 0 ++ 71 ∷ 6 ∷ replicate 30 0 ++ 72 ∷ 7 ∷ replicate 30 0 ++ 73 ∷ 8 ∷ replicate 30 0 ++ 74 ∷ 9 ∷ replicate 30 0 ++ 75 ∷ 10 ∷ replicate 30 0 ++ 76 ∷ 11 ∷ replicate 30 0 ++ 77 ∷ 12 ∷ replicate 30 0 ++ 78 ∷ 13 ∷ replicate 30 0 ++ 79 ∷ 14 ∷ replicate 30 0 ++ 80 ∷ 15 ∷ replicate 30 0 ++ 81 ∷ 16 ∷ replicate 30 0 ++ 82 ∷ 17 ∷ replicate 30 0 ++ 83 ∷ 18 ∷ replicate 30 0 ++ 84 ∷ 19 ∷ replicate 30 0 ++ 85 ∷ 20 ∷ replicate 30 0 ++ 86 ∷ 21 ∷ replicate 30 0 ++ 87 ∷ 22 ∷ replicate 30 0 ++ 88 ∷ 23 ∷ replicate 30 0 ++ 89 ∷ 24 ∷ replicate 30 0 ++ 90 ∷ 25 ∷ replicate 30 0 ++ 91 ∷ 26 ∷ replicate 30 0 ++ 92 ∷ 27 ∷ replicate 30 0 ++ 93 ∷ 28 ∷ replicate 30 0 ++ 94 ∷ 29 ∷ replicate 30 0 ++ 95 ∷ 30 ∷ replicate 30 0 ++ 96 ∷ 31 ∷ replicate 62 0)
unfolding entries_of decode holds held free_run every any right_lengths value_fits entry_sound none_shared sound refuse check_sound ◌then◌ check_clock clock_checks check_key key_checks memory_of encode flat call dead same key_of key_is found_from look_up deads without put wiped remove remove_oldest sweep_count sweep after_sweep expiry_of entry_for place_at to_front rewrite_at overwrite_at after gone any_live fit_from first_free run searched is_placed if_room evicted forced_by fit_outcome place_fit placed_by place_anew store_over store_item most_rounds boolean_byte number_bytes value_given item_of check_kind takes_nil check_nil too_late check_lifetime store_checks admits delete_found store_admitted store_found store_work store_call
v319_replace = refl

-- incr: 2, rounds 0, removed 0
pub v320_incr : incr_call (1 ∷ 2 ∷ 0 ∷ 3 ∷ 4294967295 ∷ 2 ∷ 1 ∷ 8 ∷ 0 ∷ 4 ∷ 4294967295 ∷ 0 ∷ 1 ∷ 40 ∷ replicate 12 0) (98 ∷ replicate 40 120 ++ replicate 23 0 ++ 98 ∷ 93 ∷ 135 ∷ replicate 6 255 ++ replicate 55 0) 0 [] (negsuc 92789) (given (negsuc 4171) 0) ≡ gave (plain ClockZero 0) (1 ∷ 2 ∷ 0 ∷ 3 ∷ 4294967295 ∷ 2 ∷ 1 ∷ 8 ∷ 0 ∷ 4 ∷ 4294967295 ∷ 0 ∷ 1 ∷ 40 ∷ replicate 12 0) (98 ∷ replicate 40 120 ++ replicate 23 0 ++ 98 ∷ 93 ∷ 135 ∷ replicate 6 255 ++ replicate 55 0)
unfolding entries_of decode holds held free_run every any right_lengths value_fits entry_sound none_shared sound refuse check_sound ◌then◌ check_clock clock_checks check_key key_checks memory_of encode flat call dead same key_of key_is found_from look_up deads without put wiped remove remove_oldest sweep_count sweep after_sweep expiry_of entry_for place_at to_front rewrite_at overwrite_at after gone any_live fit_from first_free run searched is_placed if_room evicted forced_by fit_outcome place_fit placed_by place_anew store_over store_item most_rounds boolean_byte number_bytes value_given item_of too_late check_lifetime check_initial incr_checks number_at in_range add_at incr_live incr_new incr_initial incr_found incr_work incr_call
v320_incr = refl

-- incr: 0, rounds 0, removed 1
pub v321_incr : incr_call (1 ∷ 1 ∷ 1 ∷ 3 ∷ 4294967295 ∷ 0 ∷ 1 ∷ 8 ∷ replicate 18 0) (99 ∷ 17 ∷ 236 ∷ 254 ∷ replicate 5 255 ++ replicate 119 0) 115 (98 ∷ 97 ∷ []) (pos 1) (given (negsuc 40796) 0) ≡ gave (plain (Sum (negsuc 40795)) 1) (1 ∷ 1 ∷ 0 ∷ 3 ∷ 0 ∷ 0 ∷ 2 ∷ 8 ∷ replicate 18 0) (98 ∷ 97 ∷ 164 ∷ 96 ∷ replicate 6 255 ++ replicate 118 0)
unfolding entries_of decode holds held free_run every any right_lengths value_fits entry_sound none_shared sound refuse check_sound ◌then◌ check_clock clock_checks check_key key_checks memory_of encode flat call dead same key_of key_is found_from look_up deads without put wiped remove remove_oldest sweep_count sweep after_sweep expiry_of entry_for place_at to_front rewrite_at overwrite_at after gone any_live fit_from first_free run searched is_placed if_room evicted forced_by fit_outcome place_fit placed_by place_anew store_over store_item most_rounds boolean_byte number_bytes value_given item_of too_late check_lifetime check_initial incr_checks number_at in_range add_at incr_live incr_new incr_initial incr_found incr_work incr_call
v321_incr = refl

-- incr: 0, rounds 1, removed 1
pub v322_incr : incr_call (1 ∷ 1 ∷ 143 ∷ 3 ∷ 4294967295 ∷ 0 ∷ 2 ∷ 8 ∷ []) (97 ∷ 98 ∷ replicate 8 255 ++ replicate 22 0) 133 (98 ∷ 97 ∷ []) (pos 76009) (given (pos 73726) 30) ≡ gave (record { rounds = 1; removed = 1; forced = true; stale = false; outcome = (Sum (pos 149735)) }) (1 ∷ 1 ∷ 163 ∷ 3 ∷ 0 ∷ 0 ∷ 2 ∷ 8 ∷ []) (98 ∷ 97 ∷ 231 ∷ 72 ∷ 2 ∷ replicate 27 0)
unfolding entries_of decode holds held free_run every any right_lengths value_fits entry_sound none_shared sound refuse check_sound ◌then◌ check_clock clock_checks check_key key_checks memory_of encode flat call dead same key_of key_is found_from look_up deads without put wiped remove remove_oldest sweep_count sweep after_sweep expiry_of entry_for place_at to_front rewrite_at overwrite_at after gone any_live fit_from first_free run searched is_placed if_room evicted forced_by fit_outcome place_fit placed_by place_anew store_over store_item most_rounds boolean_byte number_bytes value_given item_of too_late check_lifetime check_initial incr_checks number_at in_range add_at incr_live incr_new incr_initial incr_found incr_work incr_call
v322_incr = refl

-- incr: 0, rounds 1, removed 1
pub v323_incr : incr_call (1 ∷ 2 ∷ 193 ∷ 3 ∷ 5 ∷ 1 ∷ 3 ∷ 8 ∷ 0 ∷ 3 ∷ 5 ∷ 0 ∷ 2 ∷ 8 ∷ []) (98 ∷ 97 ∷ 111 ∷ 67 ∷ 1 ∷ replicate 27 0 ++ 97 ∷ 98 ∷ 99 ∷ 132 ∷ 141 ∷ replicate 6 255 ++ replicate 21 7) 113 (97 ∷ 98 ∷ []) (negsuc 9223372036854775807) (given (pos 1) 30) ≡ gave (record { rounds = 1; removed = 1; forced = true; stale = false; outcome = (Sum (negsuc 9223372036854775806)) }) (1 ∷ 2 ∷ 143 ∷ 3 ∷ 0 ∷ 0 ∷ 2 ∷ 8 ∷ 193 ∷ 3 ∷ 5 ∷ 1 ∷ 3 ∷ 8 ∷ []) (97 ∷ 98 ∷ 1 ∷ replicate 6 0 ++ 128 ∷ replicate 22 0 ++ 97 ∷ 98 ∷ 99 ∷ 132 ∷ 141 ∷ replicate 6 255 ++ replicate 21 7)
unfolding entries_of decode holds held free_run every any right_lengths value_fits entry_sound none_shared sound refuse check_sound ◌then◌ check_clock clock_checks check_key key_checks memory_of encode flat call dead same key_of key_is found_from look_up deads without put wiped remove remove_oldest sweep_count sweep after_sweep expiry_of entry_for place_at to_front rewrite_at overwrite_at after gone any_live fit_from first_free run searched is_placed if_room evicted forced_by fit_outcome place_fit placed_by place_anew store_over store_item most_rounds boolean_byte number_bytes value_given item_of too_late check_lifetime check_initial incr_checks number_at in_range add_at incr_live incr_new incr_initial incr_found incr_work incr_call
v323_incr = refl

-- incr: 0, rounds 0, removed 0
pub v324_incr : incr_call (1 ∷ 1 ∷ 0 ∷ 1 ∷ 0 ∷ 0 ∷ 2 ∷ 1 ∷ replicate 18 0) (97 ∷ 98 ∷ 1 ∷ replicate 125 0) 76 (97 ∷ []) (negsuc 8629003742452010263) (given (pos 90045) 0) ≡ gave (plain (Sum (negsuc 8629003742451920218)) 0) (1 ∷ 2 ∷ 0 ∷ 3 ∷ 0 ∷ 1 ∷ 1 ∷ 8 ∷ 0 ∷ 1 ∷ 0 ∷ 0 ∷ 2 ∷ 1 ∷ replicate 12 0) (97 ∷ 98 ∷ 1 ∷ replicate 29 0 ++ 97 ∷ 165 ∷ 18 ∷ 163 ∷ 141 ∷ 208 ∷ 158 ∷ 63 ∷ 136 ∷ replicate 87 0)
unfolding entries_of decode holds held free_run every any right_lengths value_fits entry_sound none_shared sound refuse check_sound ◌then◌ check_clock clock_checks check_key key_checks memory_of encode flat call dead same key_of key_is found_from look_up deads without put wiped remove remove_oldest sweep_count sweep after_sweep expiry_of entry_for place_at to_front rewrite_at overwrite_at after gone any_live fit_from first_free run searched is_placed if_room evicted forced_by fit_outcome place_fit placed_by place_anew store_over store_item most_rounds boolean_byte number_bytes value_given item_of too_late check_lifetime check_initial incr_checks number_at in_range add_at incr_live incr_new incr_initial incr_found incr_work incr_call
v324_incr = refl

-- incr: 7, rounds 0, removed 0
pub v325_incr : incr_call (1 ∷ 3 ∷ 137 ∷ 4 ∷ 0 ∷ 2 ∷ 1 ∷ 8 ∷ 151 ∷ 3 ∷ 4294967295 ∷ 0 ∷ 1 ∷ 8 ∷ 128 ∷ 3 ∷ 5 ∷ 1 ∷ 2 ∷ 8 ∷ replicate 6 0) (99 ∷ replicate 31 0 ++ 97 ∷ 98 ∷ 170 ∷ 167 ∷ 201 ∷ 113 ∷ 181 ∷ 112 ∷ 205 ∷ 58 ∷ replicate 22 0 ++ 98 ∷ replicate 8 120 ++ replicate 55 0) 157 (97 ∷ 98 ∷ []) (pos 1) (given (pos 2642763763661452300) 18446744073709551615) ≡ gave (plain ExpiryTooLate 0) (1 ∷ 3 ∷ 137 ∷ 4 ∷ 0 ∷ 2 ∷ 1 ∷ 8 ∷ 151 ∷ 3 ∷ 4294967295 ∷ 0 ∷ 1 ∷ 8 ∷ 128 ∷ 3 ∷ 5 ∷ 1 ∷ 2 ∷ 8 ∷ replicate 6 0) (99 ∷ replicate 31 0 ++ 97 ∷ 98 ∷ 170 ∷ 167 ∷ 201 ∷ 113 ∷ 181 ∷ 112 ∷ 205 ∷ 58 ∷ replicate 22 0 ++ 98 ∷ replicate 8 120 ++ replicate 55 0)
unfolding entries_of decode holds held free_run every any right_lengths value_fits entry_sound none_shared sound refuse check_sound ◌then◌ check_clock clock_checks check_key key_checks memory_of encode flat call dead same key_of key_is found_from look_up deads without put wiped remove remove_oldest sweep_count sweep after_sweep expiry_of entry_for place_at to_front rewrite_at overwrite_at after gone any_live fit_from first_free run searched is_placed if_room evicted forced_by fit_outcome place_fit placed_by place_anew store_over store_item most_rounds boolean_byte number_bytes value_given item_of too_late check_lifetime check_initial incr_checks number_at in_range add_at incr_live incr_new incr_initial incr_found incr_work incr_call
v325_incr = refl

-- incr: 10, rounds 0, removed 0
pub v326_incr : incr_call (1 ∷ 3 ∷ 1 ∷ 1 ∷ 5 ∷ 3 ∷ 1 ∷ 1 ∷ 0 ∷ 3 ∷ 4294967295 ∷ 2 ∷ 2 ∷ 8 ∷ 0 ∷ 4 ∷ 5 ∷ 0 ∷ 1 ∷ 60 ∷ replicate 6 0) (100 ∷ replicate 60 120 ++ 7 ∷ 7 ∷ 7 ∷ 97 ∷ 98 ∷ 122 ∷ 224 ∷ replicate 6 255 ++ replicate 22 7 ++ 97 ∷ 1 ∷ replicate 30 7) 85 (100 ∷ []) (negsuc 0) None ≡ gave (plain NotNumber 0) (1 ∷ 3 ∷ 1 ∷ 1 ∷ 5 ∷ 3 ∷ 1 ∷ 1 ∷ 0 ∷ 3 ∷ 4294967295 ∷ 2 ∷ 2 ∷ 8 ∷ 0 ∷ 4 ∷ 5 ∷ 0 ∷ 1 ∷ 60 ∷ replicate 6 0) (100 ∷ replicate 60 120 ++ 7 ∷ 7 ∷ 7 ∷ 97 ∷ 98 ∷ 122 ∷ 224 ∷ replicate 6 255 ++ replicate 22 7 ++ 97 ∷ 1 ∷ replicate 30 7)
unfolding entries_of decode holds held free_run every any right_lengths value_fits entry_sound none_shared sound refuse check_sound ◌then◌ check_clock clock_checks check_key key_checks memory_of encode flat call dead same key_of key_is found_from look_up deads without put wiped remove remove_oldest sweep_count sweep after_sweep expiry_of entry_for place_at to_front rewrite_at overwrite_at after gone any_live fit_from first_free run searched is_placed if_room evicted forced_by fit_outcome place_fit placed_by place_anew store_over store_item most_rounds boolean_byte number_bytes value_given item_of too_late check_lifetime check_initial incr_checks number_at in_range add_at incr_live incr_new incr_initial incr_found incr_work incr_call
v326_incr = refl

-- incr: 3, rounds 0, removed 0
pub v327_incr : incr_call (1 ∷ 1 ∷ 1 ∷ 3 ∷ 4294967295 ∷ 0 ∷ 2 ∷ 8 ∷ []) (98 ∷ 97 ∷ 54 ∷ 77 ∷ 1 ∷ replicate 27 0) 94 [] (pos 21332) (given (pos 0) 18446744073709551521) ≡ gave (plain KeyEmpty 0) (1 ∷ 1 ∷ 1 ∷ 3 ∷ 4294967295 ∷ 0 ∷ 2 ∷ 8 ∷ []) (98 ∷ 97 ∷ 54 ∷ 77 ∷ 1 ∷ replicate 27 0)
unfolding entries_of decode holds held free_run every any right_lengths value_fits entry_sound none_shared sound refuse check_sound ◌then◌ check_clock clock_checks check_key key_checks memory_of encode flat call dead same key_of key_is found_from look_up deads without put wiped remove remove_oldest sweep_count sweep after_sweep expiry_of entry_for place_at to_front rewrite_at overwrite_at after gone any_live fit_from first_free run searched is_placed if_room evicted forced_by fit_outcome place_fit placed_by place_anew store_over store_item most_rounds boolean_byte number_bytes value_given item_of too_late check_lifetime check_initial incr_checks number_at in_range add_at incr_live incr_new incr_initial incr_found incr_work incr_call
v327_incr = refl

-- incr: 0, rounds 1, removed 1
pub v328_incr : incr_call (1 ∷ 1 ∷ 118 ∷ 3 ∷ 0 ∷ 0 ∷ 1 ∷ 8 ∷ []) (100 ∷ 63 ∷ 132 ∷ 254 ∷ replicate 5 255 ++ replicate 23 0) 88 (99 ∷ []) (negsuc 51610) (given (negsuc 3038654821754703194) 30) ≡ gave (record { rounds = 1; removed = 1; forced = true; stale = false; outcome = (Sum (negsuc 3038654821754754805)) }) (1 ∷ 1 ∷ 118 ∷ 3 ∷ 0 ∷ 0 ∷ 1 ∷ 8 ∷ []) (99 ∷ 10 ∷ 169 ∷ 71 ∷ 2 ∷ 138 ∷ 135 ∷ 212 ∷ 213 ∷ replicate 23 0)
unfolding entries_of decode holds held free_run every any right_lengths value_fits entry_sound none_shared sound refuse check_sound ◌then◌ check_clock clock_checks check_key key_checks memory_of encode flat call dead same key_of key_is found_from look_up deads without put wiped remove remove_oldest sweep_count sweep after_sweep expiry_of entry_for place_at to_front rewrite_at overwrite_at after gone any_live fit_from first_free run searched is_placed if_room evicted forced_by fit_outcome place_fit placed_by place_anew store_over store_item most_rounds boolean_byte number_bytes value_given item_of too_late check_lifetime check_initial incr_checks number_at in_range add_at incr_live incr_new incr_initial incr_found incr_work incr_call
v328_incr = refl

-- incr: 0, rounds 0, removed 0
pub v329_incr : incr_call (1 ∷ replicate 7 0) (replicate 32 7) 66 (99 ∷ []) (pos 89508) (given (negsuc 15310) 5) ≡ gave (plain (Sum (pos 74197)) 0) (1 ∷ 1 ∷ 71 ∷ 3 ∷ 0 ∷ 0 ∷ 1 ∷ 8 ∷ []) (99 ∷ 213 ∷ 33 ∷ 1 ∷ replicate 5 0 ++ replicate 23 7)
unfolding entries_of decode holds held free_run every any right_lengths value_fits entry_sound none_shared sound refuse check_sound ◌then◌ check_clock clock_checks check_key key_checks memory_of encode flat call dead same key_of key_is found_from look_up deads without put wiped remove remove_oldest sweep_count sweep after_sweep expiry_of entry_for place_at to_front rewrite_at overwrite_at after gone any_live fit_from first_free run searched is_placed if_room evicted forced_by fit_outcome place_fit placed_by place_anew store_over store_item most_rounds boolean_byte number_bytes value_given item_of too_late check_lifetime check_initial incr_checks number_at in_range add_at incr_live incr_new incr_initial incr_found incr_work incr_call
v329_incr = refl

-- incr: 0, rounds 0, removed 0
pub v330_incr : incr_call (1 ∷ replicate 13 0) (replicate 64 7) 101 (98 ∷ 97 ∷ []) (negsuc 30973) (given (negsuc 48782) 18446744073709551514) ≡ gave (plain (Sum (negsuc 79756)) 0) (1 ∷ 1 ∷ 18446744073709551615 ∷ 3 ∷ 0 ∷ 0 ∷ 2 ∷ 8 ∷ replicate 6 0) (98 ∷ 97 ∷ 115 ∷ 200 ∷ 254 ∷ replicate 5 255 ++ replicate 54 7)
unfolding entries_of decode holds held free_run every any right_lengths value_fits entry_sound none_shared sound refuse check_sound ◌then◌ check_clock clock_checks check_key key_checks memory_of encode flat call dead same key_of key_is found_from look_up deads without put wiped remove remove_oldest sweep_count sweep after_sweep expiry_of entry_for place_at to_front rewrite_at overwrite_at after gone any_live fit_from first_free run searched is_placed if_room evicted forced_by fit_outcome place_fit placed_by place_anew store_over store_item most_rounds boolean_byte number_bytes value_given item_of too_late check_lifetime check_initial incr_checks number_at in_range add_at incr_live incr_new incr_initial incr_found incr_work incr_call
v330_incr = refl

-- incr: 8, rounds 0, removed 0
pub v331_incr : incr_call (1 ∷ replicate 7 0) (replicate 32 0) 147 (98 ∷ []) (pos 1) None ≡ gave (plain NotFound 0) (1 ∷ replicate 7 0) (replicate 32 0)
unfolding entries_of decode holds held free_run every any right_lengths value_fits entry_sound none_shared sound refuse check_sound ◌then◌ check_clock clock_checks check_key key_checks memory_of encode flat call dead same key_of key_is found_from look_up deads without put wiped remove remove_oldest sweep_count sweep after_sweep expiry_of entry_for place_at to_front rewrite_at overwrite_at after gone any_live fit_from first_free run searched is_placed if_room evicted forced_by fit_outcome place_fit placed_by place_anew store_over store_item most_rounds boolean_byte number_bytes value_given item_of too_late check_lifetime check_initial incr_checks number_at in_range add_at incr_live incr_new incr_initial incr_found incr_work incr_call
v331_incr = refl

-- incr: 0, rounds 1, removed 2
pub v332_incr : incr_call (1 ∷ 2 ∷ 1 ∷ 1 ∷ 5 ∷ 1 ∷ 1 ∷ 1 ∷ 145 ∷ 1 ∷ 5 ∷ 0 ∷ 1 ∷ 1 ∷ []) (98 ∷ 1 ∷ replicate 30 7 ++ 98 ∷ 1 ∷ replicate 30 7) 112 (97 ∷ 98 ∷ 99 ∷ []) (pos 431897439509302770) (given (negsuc 62714) 18446744073709551503) ≡ gave (record { rounds = 1; removed = 2; forced = true; stale = false; outcome = (Sum (pos 431897439509240055)) }) (1 ∷ 1 ∷ 18446744073709551615 ∷ 3 ∷ 0 ∷ 0 ∷ 3 ∷ 8 ∷ replicate 6 0) (97 ∷ 98 ∷ 99 ∷ 247 ∷ 88 ∷ 89 ∷ 213 ∷ 110 ∷ 104 ∷ 254 ∷ 5 ∷ replicate 53 0)
unfolding entries_of decode holds held free_run every any right_lengths value_fits entry_sound none_shared sound refuse check_sound ◌then◌ check_clock clock_checks check_key key_checks memory_of encode flat call dead same key_of key_is found_from look_up deads without put wiped remove remove_oldest sweep_count sweep after_sweep expiry_of entry_for place_at to_front rewrite_at overwrite_at after gone any_live fit_from first_free run searched is_placed if_room evicted forced_by fit_outcome place_fit placed_by place_anew store_over store_item most_rounds boolean_byte number_bytes value_given item_of too_late check_lifetime check_initial incr_checks number_at in_range add_at incr_live incr_new incr_initial incr_found incr_work incr_call
v332_incr = refl

-- incr: 0, rounds 0, removed 0
pub v333_incr : incr_call (1 ∷ 2 ∷ 113 ∷ 4 ∷ 5 ∷ 0 ∷ 1 ∷ 95 ∷ 125 ∷ 3 ∷ 0 ∷ 3 ∷ 1 ∷ 8 ∷ replicate 12 0) (97 ∷ replicate 95 120 ++ 99 ∷ 2 ∷ 246 ∷ replicate 29 0) 103 (99 ∷ []) (negsuc 33098) (given (negsuc 98151) 0) ≡ gave (plain (Sum (pos 29879)) 0) (1 ∷ 2 ∷ 125 ∷ 3 ∷ 0 ∷ 3 ∷ 1 ∷ 8 ∷ 113 ∷ 4 ∷ 5 ∷ 0 ∷ 1 ∷ 95 ∷ replicate 12 0) (97 ∷ replicate 95 120 ++ 99 ∷ 183 ∷ 116 ∷ replicate 29 0)
unfolding entries_of decode holds held free_run every any right_lengths value_fits entry_sound none_shared sound refuse check_sound ◌then◌ check_clock clock_checks check_key key_checks memory_of encode flat call dead same key_of key_is found_from look_up deads without put wiped remove remove_oldest sweep_count sweep after_sweep expiry_of entry_for place_at to_front rewrite_at overwrite_at after gone any_live fit_from first_free run searched is_placed if_room evicted forced_by fit_outcome place_fit placed_by place_anew store_over store_item most_rounds boolean_byte number_bytes value_given item_of too_late check_lifetime check_initial incr_checks number_at in_range add_at incr_live incr_new incr_initial incr_found incr_work incr_call
v333_incr = refl

-- incr: 1, rounds 0, removed 0
pub v334_incr : incr_call (1 ∷ 1 ∷ 0 ∷ 3 ∷ 0 ∷ 0 ∷ 3 ∷ 8 ∷ replicate 5 0 ++ 9223372036854775808 ∷ []) (97 ∷ 98 ∷ 99 ∷ 183 ∷ 205 ∷ 254 ∷ replicate 5 255 ++ replicate 53 0) 99 (97 ∷ 98 ∷ []) (negsuc 32288) (given (negsuc 28342) 30) ≡ gave (plain NotSound 0) (1 ∷ 1 ∷ 0 ∷ 3 ∷ 0 ∷ 0 ∷ 3 ∷ 8 ∷ replicate 5 0 ++ 9223372036854775808 ∷ []) (97 ∷ 98 ∷ 99 ∷ 183 ∷ 205 ∷ 254 ∷ replicate 5 255 ++ replicate 53 0)
unfolding entries_of decode holds held free_run every any right_lengths value_fits entry_sound none_shared sound refuse check_sound ◌then◌ check_clock clock_checks check_key key_checks memory_of encode flat call dead same key_of key_is found_from look_up deads without put wiped remove remove_oldest sweep_count sweep after_sweep expiry_of entry_for place_at to_front rewrite_at overwrite_at after gone any_live fit_from first_free run searched is_placed if_room evicted forced_by fit_outcome place_fit placed_by place_anew store_over store_item most_rounds boolean_byte number_bytes value_given item_of too_late check_lifetime check_initial incr_checks number_at in_range add_at incr_live incr_new incr_initial incr_found incr_work incr_call
v334_incr = refl

-- incr: 8, rounds 0, removed 0
pub v335_incr : incr_call (1 ∷ 1 ∷ 91 ∷ 3 ∷ 4294967295 ∷ 0 ∷ 1 ∷ 8 ∷ replicate 18 0) (100 ∷ 37 ∷ 137 ∷ replicate 6 255 ++ replicate 119 0) 81 (97 ∷ []) (pos 58023) None ≡ gave (plain NotFound 0) (1 ∷ 1 ∷ 91 ∷ 3 ∷ 4294967295 ∷ 0 ∷ 1 ∷ 8 ∷ replicate 18 0) (100 ∷ 37 ∷ 137 ∷ replicate 6 255 ++ replicate 119 0)
unfolding entries_of decode holds held free_run every any right_lengths value_fits entry_sound none_shared sound refuse check_sound ◌then◌ check_clock clock_checks check_key key_checks memory_of encode flat call dead same key_of key_is found_from look_up deads without put wiped remove remove_oldest sweep_count sweep after_sweep expiry_of entry_for place_at to_front rewrite_at overwrite_at after gone any_live fit_from first_free run searched is_placed if_room evicted forced_by fit_outcome place_fit placed_by place_anew store_over store_item most_rounds boolean_byte number_bytes value_given item_of too_late check_lifetime check_initial incr_checks number_at in_range add_at incr_live incr_new incr_initial incr_found incr_work incr_call
v335_incr = refl

-- incr: 0, rounds 0, removed 1
pub v336_incr : incr_call (1 ∷ 2 ∷ 0 ∷ 3 ∷ 4294967295 ∷ 2 ∷ 2 ∷ 8 ∷ 133 ∷ 4 ∷ 0 ∷ 0 ∷ 1 ∷ 63 ∷ replicate 12 0) (98 ∷ replicate 63 120 ++ 98 ∷ 97 ∷ 197 ∷ 127 ∷ 1 ∷ replicate 59 0) 183 (98 ∷ []) (negsuc 40594) (given (pos 0) 30) ≡ gave (plain (Sum (negsuc 40594)) 1) (1 ∷ 2 ∷ 213 ∷ 3 ∷ 0 ∷ 0 ∷ 1 ∷ 8 ∷ 0 ∷ 3 ∷ 4294967295 ∷ 2 ∷ 2 ∷ 8 ∷ replicate 12 0) (98 ∷ 109 ∷ 97 ∷ replicate 6 255 ++ replicate 55 0 ++ 98 ∷ 97 ∷ 197 ∷ 127 ∷ 1 ∷ replicate 59 0)
unfolding entries_of decode holds held free_run every any right_lengths value_fits entry_sound none_shared sound refuse check_sound ◌then◌ check_clock clock_checks check_key key_checks memory_of encode flat call dead same key_of key_is found_from look_up deads without put wiped remove remove_oldest sweep_count sweep after_sweep expiry_of entry_for place_at to_front rewrite_at overwrite_at after gone any_live fit_from first_free run searched is_placed if_room evicted forced_by fit_outcome place_fit placed_by place_anew store_over store_item most_rounds boolean_byte number_bytes value_given item_of too_late check_lifetime check_initial incr_checks number_at in_range add_at incr_live incr_new incr_initial incr_found incr_work incr_call
v336_incr = refl

-- incr: 8, rounds 0, removed 0
pub v337_incr : incr_call (1 ∷ 2 ∷ 0 ∷ 3 ∷ 5 ∷ 3 ∷ 1 ∷ 8 ∷ 0 ∷ 4 ∷ 0 ∷ 0 ∷ 2 ∷ 63 ∷ replicate 12 0) (97 ∷ 98 ∷ replicate 63 120 ++ replicate 31 7 ++ 98 ∷ replicate 7 255 ++ 127 ∷ replicate 23 7) 110 (98 ∷ 97 ∷ []) (negsuc 83975) None ≡ gave (plain NotFound 0) (1 ∷ 2 ∷ 0 ∷ 3 ∷ 5 ∷ 3 ∷ 1 ∷ 8 ∷ 0 ∷ 4 ∷ 0 ∷ 0 ∷ 2 ∷ 63 ∷ replicate 12 0) (97 ∷ 98 ∷ replicate 63 120 ++ replicate 31 7 ++ 98 ∷ replicate 7 255 ++ 127 ∷ replicate 23 7)
unfolding entries_of decode holds held free_run every any right_lengths value_fits entry_sound none_shared sound refuse check_sound ◌then◌ check_clock clock_checks check_key key_checks memory_of encode flat call dead same key_of key_is found_from look_up deads without put wiped remove remove_oldest sweep_count sweep after_sweep expiry_of entry_for place_at to_front rewrite_at overwrite_at after gone any_live fit_from first_free run searched is_placed if_room evicted forced_by fit_outcome place_fit placed_by place_anew store_over store_item most_rounds boolean_byte number_bytes value_given item_of too_late check_lifetime check_initial incr_checks number_at in_range add_at incr_live incr_new incr_initial incr_found incr_work incr_call
v337_incr = refl

-- incr: 11, rounds 0, removed 1
pub v338_incr : incr_call (1 ∷ 1 ∷ 138 ∷ 1 ∷ 0 ∷ 0 ∷ 2 ∷ 1 ∷ []) (98 ∷ 97 ∷ 1 ∷ replicate 29 7) 143 (98 ∷ 97 ∷ []) (pos 9223372036854775807) (given (pos 9223372036854775807) 30) ≡ gave (plain SumTooLarge 1) (1 ∷ replicate 7 0) (replicate 32 0)
unfolding entries_of decode holds held free_run every any right_lengths value_fits entry_sound none_shared sound refuse check_sound ◌then◌ check_clock clock_checks check_key key_checks memory_of encode flat call dead same key_of key_is found_from look_up deads without put wiped remove remove_oldest sweep_count sweep after_sweep expiry_of entry_for place_at to_front rewrite_at overwrite_at after gone any_live fit_from first_free run searched is_placed if_room evicted forced_by fit_outcome place_fit placed_by place_anew store_over store_item most_rounds boolean_byte number_bytes value_given item_of too_late check_lifetime check_initial incr_checks number_at in_range add_at incr_live incr_new incr_initial incr_found incr_work incr_call
v338_incr = refl

-- incr: 0, rounds 0, removed 2
pub v339_incr : incr_call (1 ∷ 3 ∷ 1 ∷ 1 ∷ 5 ∷ 2 ∷ 1 ∷ 1 ∷ 99 ∷ 3 ∷ 0 ∷ 1 ∷ 2 ∷ 8 ∷ 1 ∷ 3 ∷ 5 ∷ 0 ∷ 3 ∷ 8 ∷ replicate 6 0) (97 ∷ 98 ∷ 99 ∷ 97 ∷ 12 ∷ replicate 6 255 ++ replicate 21 0 ++ 97 ∷ 98 ∷ 188 ∷ 69 ∷ 223 ∷ 243 ∷ 75 ∷ 100 ∷ 88 ∷ 255 ∷ replicate 22 0 ++ 98 ∷ replicate 63 0) 106 (98 ∷ []) (pos 99261) (given (negsuc 48771) 30) ≡ gave (plain (Sum (pos 50489)) 2) (1 ∷ 1 ∷ 136 ∷ 3 ∷ 0 ∷ 0 ∷ 1 ∷ 8 ∷ replicate 18 0) (98 ∷ 57 ∷ 197 ∷ replicate 125 0)
unfolding entries_of decode holds held free_run every any right_lengths value_fits entry_sound none_shared sound refuse check_sound ◌then◌ check_clock clock_checks check_key key_checks memory_of encode flat call dead same key_of key_is found_from look_up deads without put wiped remove remove_oldest sweep_count sweep after_sweep expiry_of entry_for place_at to_front rewrite_at overwrite_at after gone any_live fit_from first_free run searched is_placed if_room evicted forced_by fit_outcome place_fit placed_by place_anew store_over store_item most_rounds boolean_byte number_bytes value_given item_of too_late check_lifetime check_initial incr_checks number_at in_range add_at incr_live incr_new incr_initial incr_found incr_work incr_call
v339_incr = refl

-- incr: 4, rounds 0, removed 0
pub v340_incr : incr_call (1 ∷ 3 ∷ 0 ∷ 3 ∷ 0 ∷ 1 ∷ 1 ∷ 8 ∷ 1 ∷ 3 ∷ 5 ∷ 3 ∷ 1 ∷ 8 ∷ 174 ∷ 3 ∷ 0 ∷ 0 ∷ 3 ∷ 8 ∷ replicate 6 0) (97 ∷ 98 ∷ 99 ∷ 2 ∷ 55 ∷ replicate 6 0 ++ replicate 21 7 ++ 97 ∷ 235 ∷ 129 ∷ 254 ∷ replicate 5 255 ++ replicate 55 0 ++ 98 ∷ 67 ∷ 156 ∷ replicate 6 0 ++ replicate 23 7) 113 (replicate 65536 107) (negsuc 0) None ≡ gave (plain KeyTooLong 0) (1 ∷ 3 ∷ 0 ∷ 3 ∷ 0 ∷ 1 ∷ 1 ∷ 8 ∷ 1 ∷ 3 ∷ 5 ∷ 3 ∷ 1 ∷ 8 ∷ 174 ∷ 3 ∷ 0 ∷ 0 ∷ 3 ∷ 8 ∷ replicate 6 0) (97 ∷ 98 ∷ 99 ∷ 2 ∷ 55 ∷ replicate 6 0 ++ replicate 21 7 ++ 97 ∷ 235 ∷ 129 ∷ 254 ∷ replicate 5 255 ++ replicate 55 0 ++ 98 ∷ 67 ∷ 156 ∷ replicate 6 0 ++ replicate 23 7)
unfolding entries_of decode holds held free_run every any right_lengths value_fits entry_sound none_shared sound refuse check_sound ◌then◌ check_clock clock_checks check_key key_checks memory_of encode flat call dead same key_of key_is found_from look_up deads without put wiped remove remove_oldest sweep_count sweep after_sweep expiry_of entry_for place_at to_front rewrite_at overwrite_at after gone any_live fit_from first_free run searched is_placed if_room evicted forced_by fit_outcome place_fit placed_by place_anew store_over store_item most_rounds boolean_byte number_bytes value_given item_of too_late check_lifetime check_initial incr_checks number_at in_range add_at incr_live incr_new incr_initial incr_found incr_work incr_call
v340_incr = refl

-- incr: 1, rounds 0, removed 0
pub v341_incr : incr_call (1 ∷ 0 ∷ 57346788413300892 ∷ 11770119650163821943 ∷ 17293223548324126959 ∷ 6167550139668895685 ∷ 16304489042342937935 ∷ 9699744066876361454 ∷ []) (replicate 32 0) 110 (97 ∷ 98 ∷ []) (pos 3281884005251489108) (given (negsuc 88737) 5) ≡ gave (plain NotSound 0) (1 ∷ 0 ∷ 57346788413300892 ∷ 11770119650163821943 ∷ 17293223548324126959 ∷ 6167550139668895685 ∷ 16304489042342937935 ∷ 9699744066876361454 ∷ []) (replicate 32 0)
unfolding entries_of decode holds held free_run every any right_lengths value_fits entry_sound none_shared sound refuse check_sound ◌then◌ check_clock clock_checks check_key key_checks memory_of encode flat call dead same key_of key_is found_from look_up deads without put wiped remove remove_oldest sweep_count sweep after_sweep expiry_of entry_for place_at to_front rewrite_at overwrite_at after gone any_live fit_from first_free run searched is_placed if_room evicted forced_by fit_outcome place_fit placed_by place_anew store_over store_item most_rounds boolean_byte number_bytes value_given item_of too_late check_lifetime check_initial incr_checks number_at in_range add_at incr_live incr_new incr_initial incr_found incr_work incr_call
v341_incr = refl

-- incr: 11, rounds 0, removed 0
pub v342_incr : incr_call (1 ∷ 1 ∷ 0 ∷ 1 ∷ 5 ∷ 0 ∷ 1 ∷ 1 ∷ replicate 18 0) (97 ∷ 1 ∷ replicate 94 0 ++ replicate 32 7) 116 (99 ∷ []) (negsuc 9223372036854775806) (given (negsuc 65432) 0) ≡ gave (plain SumTooLarge 0) (1 ∷ 1 ∷ 0 ∷ 1 ∷ 5 ∷ 0 ∷ 1 ∷ 1 ∷ replicate 18 0) (97 ∷ 1 ∷ replicate 94 0 ++ replicate 32 7)
unfolding entries_of decode holds held free_run every any right_lengths value_fits entry_sound none_shared sound refuse check_sound ◌then◌ check_clock clock_checks check_key key_checks memory_of encode flat call dead same key_of key_is found_from look_up deads without put wiped remove remove_oldest sweep_count sweep after_sweep expiry_of entry_for place_at to_front rewrite_at overwrite_at after gone any_live fit_from first_free run searched is_placed if_room evicted forced_by fit_outcome place_fit placed_by place_anew store_over store_item most_rounds boolean_byte number_bytes value_given item_of too_late check_lifetime check_initial incr_checks number_at in_range add_at incr_live incr_new incr_initial incr_found incr_work incr_call
v342_incr = refl

-- incr: 11, rounds 0, removed 0
pub v343_incr : incr_call (1 ∷ replicate 25 0) (replicate 128 0) 74 (98 ∷ 97 ∷ []) (negsuc 9223372036854775806) (given (negsuc 80469) 30) ≡ gave (plain SumTooLarge 0) (1 ∷ replicate 25 0) (replicate 128 0)
unfolding entries_of decode holds held free_run every any right_lengths value_fits entry_sound none_shared sound refuse check_sound ◌then◌ check_clock clock_checks check_key key_checks memory_of encode flat call dead same key_of key_is found_from look_up deads without put wiped remove remove_oldest sweep_count sweep after_sweep expiry_of entry_for place_at to_front rewrite_at overwrite_at after gone any_live fit_from first_free run searched is_placed if_room evicted forced_by fit_outcome place_fit placed_by place_anew store_over store_item most_rounds boolean_byte number_bytes value_given item_of too_late check_lifetime check_initial incr_checks number_at in_range add_at incr_live incr_new incr_initial incr_found incr_work incr_call
v343_incr = refl

-- incr: 8, rounds 0, removed 1
pub v344_incr : incr_call (1 ∷ 1 ∷ 143 ∷ 4 ∷ 4294967295 ∷ 0 ∷ 1 ∷ replicate 19 0) (98 ∷ replicate 127 0) 143 (97 ∷ []) (pos 9223372036854775806) None ≡ gave (plain NotFound 1) (1 ∷ replicate 25 0) (replicate 128 0)
unfolding entries_of decode holds held free_run every any right_lengths value_fits entry_sound none_shared sound refuse check_sound ◌then◌ check_clock clock_checks check_key key_checks memory_of encode flat call dead same key_of key_is found_from look_up deads without put wiped remove remove_oldest sweep_count sweep after_sweep expiry_of entry_for place_at to_front rewrite_at overwrite_at after gone any_live fit_from first_free run searched is_placed if_room evicted forced_by fit_outcome place_fit placed_by place_anew store_over store_item most_rounds boolean_byte number_bytes value_given item_of too_late check_lifetime check_initial incr_checks number_at in_range add_at incr_live incr_new incr_initial incr_found incr_work incr_call
v344_incr = refl

-- incr: 0, rounds 1, removed 3
pub v345_incr : incr_call (1 ∷ 3 ∷ 117 ∷ 4 ∷ 0 ∷ 2 ∷ 1 ∷ 33 ∷ 117 ∷ 3 ∷ 4294967295 ∷ 1 ∷ 2 ∷ 8 ∷ 0 ∷ 1 ∷ 0 ∷ 0 ∷ 3 ∷ 1 ∷ replicate 6 0) (97 ∷ 98 ∷ 99 ∷ 1 ∷ replicate 28 0 ++ 97 ∷ 98 ∷ 248 ∷ 17 ∷ replicate 28 0 ++ 99 ∷ replicate 33 120 ++ replicate 30 0) 167 (replicate 40 107) (pos 94263) (given (negsuc 66028) 0) ≡ gave (record { rounds = 1; removed = 3; forced = true; stale = false; outcome = (Sum (pos 28234)) }) (1 ∷ 1 ∷ 0 ∷ 3 ∷ 0 ∷ 0 ∷ 40 ∷ 8 ∷ replicate 18 0) (replicate 40 107 ++ 74 ∷ 110 ∷ replicate 86 0)
unfolding entries_of decode holds held free_run every any right_lengths value_fits entry_sound none_shared sound refuse check_sound ◌then◌ check_clock clock_checks check_key key_checks memory_of encode flat call dead same key_of key_is found_from look_up deads without put wiped remove remove_oldest sweep_count sweep after_sweep expiry_of entry_for place_at to_front rewrite_at overwrite_at after gone any_live fit_from first_free run searched is_placed if_room evicted forced_by fit_outcome place_fit placed_by place_anew store_over store_item most_rounds boolean_byte number_bytes value_given item_of too_late check_lifetime check_initial incr_checks number_at in_range add_at incr_live incr_new incr_initial incr_found incr_work incr_call
v345_incr = refl

-- incr: 0, rounds 0, removed 0
pub v346_incr : incr_call (1 ∷ 3 ∷ 150 ∷ 3 ∷ 4294967295 ∷ 3 ∷ 3 ∷ 8 ∷ 109 ∷ 1 ∷ 4294967295 ∷ 1 ∷ 40 ∷ 1 ∷ 154 ∷ 3 ∷ 0 ∷ 0 ∷ 1 ∷ 8 ∷ replicate 6 0) (100 ∷ 128 ∷ 217 ∷ 79 ∷ 57 ∷ 40 ∷ 127 ∷ 19 ∷ 5 ∷ replicate 23 7 ++ replicate 40 107 ++ 1 ∷ replicate 23 7 ++ 97 ∷ 98 ∷ 99 ∷ 188 ∷ 31 ∷ replicate 6 255 ++ replicate 21 7) 107 (100 ∷ []) (pos 67690) (given (negsuc 38260) 30) ≡ gave (plain (Sum (pos 365775805484163562)) 0) (1 ∷ 3 ∷ 154 ∷ 3 ∷ 0 ∷ 0 ∷ 1 ∷ 8 ∷ 150 ∷ 3 ∷ 4294967295 ∷ 3 ∷ 3 ∷ 8 ∷ 109 ∷ 1 ∷ 4294967295 ∷ 1 ∷ 40 ∷ 1 ∷ replicate 6 0) (100 ∷ 234 ∷ 225 ∷ 80 ∷ 57 ∷ 40 ∷ 127 ∷ 19 ∷ 5 ∷ replicate 23 7 ++ replicate 40 107 ++ 1 ∷ replicate 23 7 ++ 97 ∷ 98 ∷ 99 ∷ 188 ∷ 31 ∷ replicate 6 255 ++ replicate 21 7)
unfolding entries_of decode holds held free_run every any right_lengths value_fits entry_sound none_shared sound refuse check_sound ◌then◌ check_clock clock_checks check_key key_checks memory_of encode flat call dead same key_of key_is found_from look_up deads without put wiped remove remove_oldest sweep_count sweep after_sweep expiry_of entry_for place_at to_front rewrite_at overwrite_at after gone any_live fit_from first_free run searched is_placed if_room evicted forced_by fit_outcome place_fit placed_by place_anew store_over store_item most_rounds boolean_byte number_bytes value_given item_of too_late check_lifetime check_initial incr_checks number_at in_range add_at incr_live incr_new incr_initial incr_found incr_work incr_call
v346_incr = refl

-- incr: 8, rounds 0, removed 2
pub v347_incr : incr_call (1 ∷ 2 ∷ 111 ∷ 4 ∷ 0 ∷ 1 ∷ 3 ∷ 8 ∷ 1 ∷ 4 ∷ 4294967295 ∷ 2 ∷ 2 ∷ 33 ∷ replicate 12 0) (replicate 32 0 ++ 97 ∷ 98 ∷ 99 ∷ replicate 8 120 ++ replicate 21 7 ++ 98 ∷ 97 ∷ replicate 33 120 ++ replicate 29 7) 131 (97 ∷ 98 ∷ 99 ∷ []) (pos 3606620998663028410) None ≡ gave (plain NotFound 2) (1 ∷ replicate 25 0) (replicate 128 0)
unfolding entries_of decode holds held free_run every any right_lengths value_fits entry_sound none_shared sound refuse check_sound ◌then◌ check_clock clock_checks check_key key_checks memory_of encode flat call dead same key_of key_is found_from look_up deads without put wiped remove remove_oldest sweep_count sweep after_sweep expiry_of entry_for place_at to_front rewrite_at overwrite_at after gone any_live fit_from first_free run searched is_placed if_room evicted forced_by fit_outcome place_fit placed_by place_anew store_over store_item most_rounds boolean_byte number_bytes value_given item_of too_late check_lifetime check_initial incr_checks number_at in_range add_at incr_live incr_new incr_initial incr_found incr_work incr_call
v347_incr = refl
