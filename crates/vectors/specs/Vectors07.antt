-- Calls that the second program (second/) made, computed once more by the definitions: the whole answer, all words and all bytes.
-- Written by `cargo run --release --offline --bin vectors` in sessions/, not by hand.
use Rattle.std.specs.Prelude.{◌≡◌, refl, true, false, [], ◌∷◌, ◌++◌, replicate, pos, negsuc, None}
use Rattle.rules.specs.declared.Outcome.TheVariants.{Done, Sum, NotSound, ClockZero, KeyEmpty, KeyTooLong, ExpiryTooLate, NotFound, NotNumber, SumTooLarge, NoMemory}
use Rattle.rules.specs.Check.{given}
use Rattle.rules.specs.Layout.{encode, decode, flat, entries_of, without, to_front, replace_at, put, key_of, number_bytes, number_at, memory_of, wiped, remove, remove_oldest}
use Rattle.rules.specs.Time.{dead, expiry_of, too_late, with_expiry}
use Rattle.rules.specs.LookUp.{same, key_is, found_from, look_up}
use Rattle.rules.specs.Recency.{deads, after, gone, any_live, sweep_count, sweep}
use Rattle.rules.specs.Place.{holds, held, free_run, fit_from, first_free, run}
use Rattle.rules.specs.Soundness.{every, any, right_lengths, value_fits, entry_sound, none_shared, sound}
use Rattle.rules.specs.Answer.{plain}
use Rattle.rules.specs.Checks.{◌then◌, refuse, check_sound, check_clock, check_key, check_lifetime, clock_checks, key_checks, expire_checks, check_initial, incr_checks}
use Rattle.rules.specs.Calls.{gave, call, after_sweep, delete_found, delete_work, delete_call, entry_for, place_at, rewrite_at, overwrite_at, searched, is_placed, if_room, evicted, forced_by, fit_outcome, place_fit, placed_by, place_anew, store_over, store_item, most_rounds, boolean_byte, value_given, item_of, in_range, add_at, incr_live, incr_new, incr_initial, incr_found, incr_work, incr_call, expire_at, expire_found, expire_call, flush_all_work, flush_all_call}

-- incr: 8, rounds 0, removed 1
pub v348_incr : incr_call (1 ∷ 1 ∷ 128 ∷ 3 ∷ 5 ∷ 0 ∷ 1 ∷ 8 ∷ replicate 18 0) (100 ∷ 183 ∷ 132 ∷ 1 ∷ replicate 124 0) 148 (100 ∷ []) (negsuc 25785) None ≡ gave (plain NotFound 1) (1 ∷ replicate 25 0) (replicate 128 0)
unfolding entries_of decode holds held free_run every any right_lengths value_fits entry_sound none_shared sound refuse check_sound ◌then◌ check_clock clock_checks check_key key_checks memory_of encode flat call dead same key_of key_is found_from look_up deads without put wiped remove remove_oldest sweep_count sweep after_sweep expiry_of entry_for place_at to_front rewrite_at overwrite_at after gone any_live fit_from first_free run searched is_placed if_room evicted forced_by fit_outcome place_fit placed_by place_anew store_over store_item most_rounds boolean_byte number_bytes value_given item_of too_late check_lifetime check_initial incr_checks number_at in_range add_at incr_live incr_new incr_initial incr_found incr_work incr_call
v348_incr = refl

-- incr: 10, rounds 0, removed 0
pub v349_incr : incr_call (1 ∷ 1 ∷ 110 ∷ 4 ∷ 5 ∷ 0 ∷ 40 ∷ 20 ∷ replicate 18 0) (replicate 40 107 ++ replicate 20 120 ++ replicate 36 0 ++ replicate 32 7) 80 (replicate 40 107) (pos 6681972858324641163) (given (pos 9223372036854775806) 18446744073709551535) ≡ gave (plain NotNumber 0) (1 ∷ 1 ∷ 110 ∷ 4 ∷ 5 ∷ 0 ∷ 40 ∷ 20 ∷ replicate 18 0) (replicate 40 107 ++ replicate 20 120 ++ replicate 36 0 ++ replicate 32 7)
unfolding entries_of decode holds held free_run every any right_lengths value_fits entry_sound none_shared sound refuse check_sound ◌then◌ check_clock clock_checks check_key key_checks memory_of encode flat call dead same key_of key_is found_from look_up deads without put wiped remove remove_oldest sweep_count sweep after_sweep expiry_of entry_for place_at to_front rewrite_at overwrite_at after gone any_live fit_from first_free run searched is_placed if_room evicted forced_by fit_outcome place_fit placed_by place_anew store_over store_item most_rounds boolean_byte number_bytes value_given item_of too_late check_lifetime check_initial incr_checks number_at in_range add_at incr_live incr_new incr_initial incr_found incr_work incr_call
v349_incr = refl

-- incr: 11, rounds 0, removed 1
pub v350_incr : incr_call (1 ∷ 1 ∷ 1 ∷ 4 ∷ 4294967295 ∷ 0 ∷ 1 ∷ 33 ∷ replicate 6 0) (99 ∷ replicate 33 120 ++ replicate 30 7) 106 (99 ∷ []) (pos 9223372036854775806) (given (pos 81045) 0) ≡ gave (plain SumTooLarge 1) (1 ∷ replicate 13 0) (replicate 64 0)
unfolding entries_of decode holds held free_run every any right_lengths value_fits entry_sound none_shared sound refuse check_sound ◌then◌ check_clock clock_checks check_key key_checks memory_of encode flat call dead same key_of key_is found_from look_up deads without put wiped remove remove_oldest sweep_count sweep after_sweep expiry_of entry_for place_at to_front rewrite_at overwrite_at after gone any_live fit_from first_free run searched is_placed if_room evicted forced_by fit_outcome place_fit placed_by place_anew store_over store_item most_rounds boolean_byte number_bytes value_given item_of too_late check_lifetime check_initial incr_checks number_at in_range add_at incr_live incr_new incr_initial incr_found incr_work incr_call
v350_incr = refl

-- incr: 10, rounds 0, removed 0
pub v351_incr : incr_call (1 ∷ 1 ∷ 146 ∷ 1 ∷ 5 ∷ 0 ∷ 3 ∷ 1 ∷ []) (97 ∷ 98 ∷ 99 ∷ 1 ∷ replicate 28 0) 116 (97 ∷ 98 ∷ 99 ∷ []) (pos 46712) (given (negsuc 4835084219862755926) 5) ≡ gave (plain NotNumber 0) (1 ∷ 1 ∷ 146 ∷ 1 ∷ 5 ∷ 0 ∷ 3 ∷ 1 ∷ []) (97 ∷ 98 ∷ 99 ∷ 1 ∷ replicate 28 0)
unfolding entries_of decode holds held free_run every any right_lengths value_fits entry_sound none_shared sound refuse check_sound ◌then◌ check_clock clock_checks check_key key_checks memory_of encode flat call dead same key_of key_is found_from look_up deads without put wiped remove remove_oldest sweep_count sweep after_sweep expiry_of entry_for place_at to_front rewrite_at overwrite_at after gone any_live fit_from first_free run searched is_placed if_room evicted forced_by fit_outcome place_fit placed_by place_anew store_over store_item most_rounds boolean_byte number_bytes value_given item_of too_late check_lifetime check_initial incr_checks number_at in_range add_at incr_live incr_new incr_initial incr_found incr_work incr_call
v351_incr = refl

-- incr: 0, rounds 0, removed 1
pub v352_incr : incr_call (1 ∷ 2 ∷ 0 ∷ 1 ∷ 5 ∷ 1 ∷ 2 ∷ 1 ∷ 122 ∷ 3 ∷ 5 ∷ 0 ∷ 1 ∷ 8 ∷ []) (99 ∷ replicate 7 0 ++ 128 ∷ replicate 23 7 ++ 97 ∷ 98 ∷ 1 ∷ replicate 29 7) 139 (99 ∷ []) (negsuc 48646) (given (pos 8028069806156184611) 0) ≡ gave (plain (Sum (pos 8028069806156135964)) 1) (1 ∷ 2 ∷ 0 ∷ 3 ∷ 0 ∷ 0 ∷ 1 ∷ 8 ∷ 0 ∷ 1 ∷ 5 ∷ 1 ∷ 2 ∷ 1 ∷ []) (99 ∷ 28 ∷ 190 ∷ 249 ∷ 67 ∷ 244 ∷ 110 ∷ 105 ∷ 111 ∷ replicate 23 0 ++ 97 ∷ 98 ∷ 1 ∷ replicate 29 7)
unfolding entries_of decode holds held free_run every any right_lengths value_fits entry_sound none_shared sound refuse check_sound ◌then◌ check_clock clock_checks check_key key_checks memory_of encode flat call dead same key_of key_is found_from look_up deads without put wiped remove remove_oldest sweep_count sweep after_sweep expiry_of entry_for place_at to_front rewrite_at overwrite_at after gone any_live fit_from first_free run searched is_placed if_room evicted forced_by fit_outcome place_fit placed_by place_anew store_over store_item most_rounds boolean_byte number_bytes value_given item_of too_late check_lifetime check_initial incr_checks number_at in_range add_at incr_live incr_new incr_initial incr_found incr_work incr_call
v352_incr = refl

-- incr: 10, rounds 0, removed 1
pub v353_incr : incr_call (1 ∷ 2 ∷ 94 ∷ 1 ∷ 0 ∷ 0 ∷ 3 ∷ 1 ∷ 84 ∷ 1 ∷ 0 ∷ 1 ∷ 1 ∷ 1 ∷ []) (97 ∷ 98 ∷ 99 ∷ replicate 29 0 ++ 98 ∷ 1 ∷ replicate 30 7) 84 (97 ∷ 98 ∷ 99 ∷ []) (negsuc 77260) None ≡ gave (plain NotNumber 1) (1 ∷ 1 ∷ 94 ∷ 1 ∷ 0 ∷ 0 ∷ 3 ∷ 1 ∷ replicate 6 0) (97 ∷ 98 ∷ 99 ∷ replicate 61 0)
unfolding entries_of decode holds held free_run every any right_lengths value_fits entry_sound none_shared sound refuse check_sound ◌then◌ check_clock clock_checks check_key key_checks memory_of encode flat call dead same key_of key_is found_from look_up deads without put wiped remove remove_oldest sweep_count sweep after_sweep expiry_of entry_for place_at to_front rewrite_at overwrite_at after gone any_live fit_from first_free run searched is_placed if_room evicted forced_by fit_outcome place_fit placed_by place_anew store_over store_item most_rounds boolean_byte number_bytes value_given item_of too_late check_lifetime check_initial incr_checks number_at in_range add_at incr_live incr_new incr_initial incr_found incr_work incr_call
v353_incr = refl

-- incr: 11, rounds 0, removed 0
pub v354_incr : incr_call (1 ∷ 3 ∷ 0 ∷ 4 ∷ 5 ∷ 2 ∷ 1 ∷ 8 ∷ 0 ∷ 3 ∷ 5 ∷ 1 ∷ 1 ∷ 8 ∷ 0 ∷ 1 ∷ 4294967295 ∷ 0 ∷ 1 ∷ 1 ∷ replicate 6 0) (98 ∷ 1 ∷ replicate 30 0 ++ 97 ∷ 203 ∷ 33 ∷ 1 ∷ replicate 28 0 ++ 98 ∷ replicate 8 120 ++ replicate 55 0) 92 (99 ∷ []) (negsuc 23134) (given (negsuc 9223372036854775807) 0) ≡ gave (plain SumTooLarge 0) (1 ∷ 3 ∷ 0 ∷ 4 ∷ 5 ∷ 2 ∷ 1 ∷ 8 ∷ 0 ∷ 3 ∷ 5 ∷ 1 ∷ 1 ∷ 8 ∷ 0 ∷ 1 ∷ 4294967295 ∷ 0 ∷ 1 ∷ 1 ∷ replicate 6 0) (98 ∷ 1 ∷ replicate 30 0 ++ 97 ∷ 203 ∷ 33 ∷ 1 ∷ replicate 28 0 ++ 98 ∷ replicate 8 120 ++ replicate 55 0)
unfolding entries_of decode holds held free_run every any right_lengths value_fits entry_sound none_shared sound refuse check_sound ◌then◌ check_clock clock_checks check_key key_checks memory_of encode flat call dead same key_of key_is found_from look_up deads without put wiped remove remove_oldest sweep_count sweep after_sweep expiry_of entry_for place_at to_front rewrite_at overwrite_at after gone any_live fit_from first_free run searched is_placed if_room evicted forced_by fit_outcome place_fit placed_by place_anew store_over store_item most_rounds boolean_byte number_bytes value_given item_of too_late check_lifetime check_initial incr_checks number_at in_range add_at incr_live incr_new incr_initial incr_found incr_work incr_call
v354_incr = refl

-- incr: 11, rounds 0, removed 0
pub v355_incr : incr_call (1 ∷ 1 ∷ 160 ∷ 3 ∷ 4294967295 ∷ 0 ∷ 1 ∷ 8 ∷ replicate 18 0) (100 ∷ 1 ∷ replicate 6 0 ++ 128 ∷ replicate 119 0) 93 (100 ∷ []) (negsuc 81923) (given (negsuc 56773) 0) ≡ gave (plain SumTooLarge 0) (1 ∷ 1 ∷ 160 ∷ 3 ∷ 4294967295 ∷ 0 ∷ 1 ∷ 8 ∷ replicate 18 0) (100 ∷ 1 ∷ replicate 6 0 ++ 128 ∷ replicate 119 0)
unfolding entries_of decode holds held free_run every any right_lengths value_fits entry_sound none_shared sound refuse check_sound ◌then◌ check_clock clock_checks check_key key_checks memory_of encode flat call dead same key_of key_is found_from look_up deads without put wiped remove remove_oldest sweep_count sweep after_sweep expiry_of entry_for place_at to_front rewrite_at overwrite_at after gone any_live fit_from first_free run searched is_placed if_room evicted forced_by fit_outcome place_fit placed_by place_anew store_over store_item most_rounds boolean_byte number_bytes value_given item_of too_late check_lifetime check_initial incr_checks number_at in_range add_at incr_live incr_new incr_initial incr_found incr_work incr_call
v355_incr = refl

-- incr: 0, rounds 2, removed 2
pub v356_incr : incr_call (1 ∷ 2 ∷ 130 ∷ 4 ∷ 0 ∷ 1 ∷ 1 ∷ 63 ∷ 0 ∷ 3 ∷ 4294967295 ∷ 0 ∷ 3 ∷ 8 ∷ replicate 12 0) (97 ∷ 98 ∷ 99 ∷ 242 ∷ 102 ∷ replicate 27 0 ++ 98 ∷ replicate 63 120 ++ replicate 32 0) 100 (replicate 40 107) (pos 45033) (given (pos 80320) 0) ≡ gave (record { rounds = 2; removed = 2; forced = true; stale = false; outcome = (Sum (pos 125353)) }) (1 ∷ 1 ∷ 0 ∷ 3 ∷ 0 ∷ 0 ∷ 40 ∷ 8 ∷ replicate 18 0) (replicate 40 107 ++ 169 ∷ 233 ∷ 1 ∷ replicate 85 0)
unfolding entries_of decode holds held free_run every any right_lengths value_fits entry_sound none_shared sound refuse check_sound ◌then◌ check_clock clock_checks check_key key_checks memory_of encode flat call dead same key_of key_is found_from look_up deads without put wiped remove remove_oldest sweep_count sweep after_sweep expiry_of entry_for place_at to_front rewrite_at overwrite_at after gone any_live fit_from first_free run searched is_placed if_room evicted forced_by fit_outcome place_fit placed_by place_anew store_over store_item most_rounds boolean_byte number_bytes value_given item_of too_late check_lifetime check_initial incr_checks number_at in_range add_at incr_live incr_new incr_initial incr_found incr_work incr_call
v356_incr = refl

-- incr: 11, rounds 0, removed 0
pub v357_incr : incr_call (1 ∷ 1 ∷ 0 ∷ 3 ∷ 5 ∷ 0 ∷ 1 ∷ 8 ∷ []) (100 ∷ 23 ∷ 97 ∷ 1 ∷ replicate 28 0) 111 (100 ∷ []) (pos 9223372036854775807) (given (negsuc 97818) 5) ≡ gave (plain SumTooLarge 0) (1 ∷ 1 ∷ 0 ∷ 3 ∷ 5 ∷ 0 ∷ 1 ∷ 8 ∷ []) (100 ∷ 23 ∷ 97 ∷ 1 ∷ replicate 28 0)
unfolding entries_of decode holds held free_run every any right_lengths value_fits entry_sound none_shared sound refuse check_sound ◌then◌ check_clock clock_checks check_key key_checks memory_of encode flat call dead same key_of key_is found_from look_up deads without put wiped remove remove_oldest sweep_count sweep after_sweep expiry_of entry_for place_at to_front rewrite_at overwrite_at after gone any_live fit_from first_free run searched is_placed if_room evicted forced_by fit_outcome place_fit placed_by place_anew store_over store_item most_rounds boolean_byte number_bytes value_given item_of too_late check_lifetime check_initial incr_checks number_at in_range add_at incr_live incr_new incr_initial incr_found incr_work incr_call
v357_incr = refl

-- incr: 11, rounds 0, removed 2
pub v358_incr : incr_call (1 ∷ 2 ∷ 1 ∷ 4 ∷ 4294967295 ∷ 0 ∷ 1 ∷ 63 ∷ 89 ∷ 3 ∷ 0 ∷ 2 ∷ 3 ∷ 8 ∷ replicate 12 0) (97 ∷ replicate 63 120 ++ 97 ∷ 98 ∷ 99 ∷ 9 ∷ 236 ∷ replicate 6 255 ++ replicate 53 7) 89 (97 ∷ 98 ∷ []) (pos 49079) (given (pos 9223372036854775807) 30) ≡ gave (plain SumTooLarge 2) (1 ∷ replicate 25 0) (replicate 96 0 ++ replicate 32 7)
unfolding entries_of decode holds held free_run every any right_lengths value_fits entry_sound none_shared sound refuse check_sound ◌then◌ check_clock clock_checks check_key key_checks memory_of encode flat call dead same key_of key_is found_from look_up deads without put wiped remove remove_oldest sweep_count sweep after_sweep expiry_of entry_for place_at to_front rewrite_at overwrite_at after gone any_live fit_from first_free run searched is_placed if_room evicted forced_by fit_outcome place_fit placed_by place_anew store_over store_item most_rounds boolean_byte number_bytes value_given item_of too_late check_lifetime check_initial incr_checks number_at in_range add_at incr_live incr_new incr_initial incr_found incr_work incr_call
v358_incr = refl

-- incr: 8, rounds 0, removed 2
pub v359_incr : incr_call (1 ∷ 4 ∷ 0 ∷ 4 ∷ 4294967295 ∷ 0 ∷ 3 ∷ 8 ∷ 148 ∷ 1 ∷ 0 ∷ 3 ∷ 1 ∷ 1 ∷ 120 ∷ 4 ∷ 0 ∷ 2 ∷ 1 ∷ 8 ∷ 120 ∷ 1 ∷ 4294967295 ∷ 1 ∷ 1 ∷ 1 ∷ []) (97 ∷ 98 ∷ 99 ∷ replicate 8 120 ++ replicate 21 0 ++ 100 ∷ 1 ∷ replicate 30 0 ++ 99 ∷ replicate 8 120 ++ replicate 23 0 ++ 97 ∷ 1 ∷ replicate 30 0) 164 (97 ∷ []) (pos 44629) None ≡ gave (plain NotFound 2) (1 ∷ 2 ∷ 0 ∷ 4 ∷ 4294967295 ∷ 0 ∷ 3 ∷ 8 ∷ 148 ∷ 1 ∷ 0 ∷ 3 ∷ 1 ∷ 1 ∷ replicate 12 0) (97 ∷ 98 ∷ 99 ∷ replicate 8 120 ++ replicate 85 0 ++ 97 ∷ 1 ∷ replicate 30 0)
unfolding entries_of decode holds held free_run every any right_lengths value_fits entry_sound none_shared sound refuse check_sound ◌then◌ check_clock clock_checks check_key key_checks memory_of encode flat call dead same key_of key_is found_from look_up deads without put wiped remove remove_oldest sweep_count sweep after_sweep expiry_of entry_for place_at to_front rewrite_at overwrite_at after gone any_live fit_from first_free run searched is_placed if_room evicted forced_by fit_outcome place_fit placed_by place_anew store_over store_item most_rounds boolean_byte number_bytes value_given item_of too_late check_lifetime check_initial incr_checks number_at in_range add_at incr_live incr_new incr_initial incr_found incr_work incr_call
v359_incr = refl

-- incr: 12, rounds 0, removed 0
pub v360_incr : incr_call (1 ∷ replicate 7 0) (replicate 32 7) 67 (replicate 40 107) (pos 41488) (given (pos 34867) 5) ≡ gave (plain NoMemory 0) (1 ∷ replicate 7 0) (replicate 32 7)
unfolding entries_of decode holds held free_run every any right_lengths value_fits entry_sound none_shared sound refuse check_sound ◌then◌ check_clock clock_checks check_key key_checks memory_of encode flat call dead same key_of key_is found_from look_up deads without put wiped remove remove_oldest sweep_count sweep after_sweep expiry_of entry_for place_at to_front rewrite_at overwrite_at after gone any_live fit_from first_free run searched is_placed if_room evicted forced_by fit_outcome place_fit placed_by place_anew store_over store_item most_rounds boolean_byte number_bytes value_given item_of too_late check_lifetime check_initial incr_checks number_at in_range add_at incr_live incr_new incr_initial incr_found incr_work incr_call
v360_incr = refl

-- incr: 0, rounds 0, removed 0
pub v361_incr : incr_call (1 ∷ 3 ∷ 91 ∷ 4 ∷ 0 ∷ 2 ∷ 2 ∷ 8 ∷ 91 ∷ 3 ∷ 5 ∷ 1 ∷ 1 ∷ 8 ∷ 0 ∷ 1 ∷ 5 ∷ 0 ∷ 1 ∷ 1 ∷ replicate 6 0) (99 ∷ 1 ∷ replicate 30 0 ++ 98 ∷ 171 ∷ 63 ∷ replicate 6 0 ++ replicate 19 7 ++ 5 ∷ 7 ∷ 7 ∷ 7 ∷ 98 ∷ 97 ∷ replicate 8 120 ++ replicate 54 7) 105 (98 ∷ []) (pos 51648) (given (pos 92142) 0) ≡ gave (plain (Sum (pos 143790)) 0) (1 ∷ 3 ∷ 0 ∷ 3 ∷ 0 ∷ 1 ∷ 1 ∷ 8 ∷ 91 ∷ 4 ∷ 0 ∷ 2 ∷ 2 ∷ 8 ∷ 0 ∷ 1 ∷ 5 ∷ 0 ∷ 1 ∷ 1 ∷ replicate 6 0) (99 ∷ 1 ∷ replicate 30 0 ++ 98 ∷ 174 ∷ 49 ∷ 2 ∷ replicate 5 0 ++ replicate 19 7 ++ 5 ∷ 7 ∷ 7 ∷ 7 ∷ 98 ∷ 97 ∷ replicate 8 120 ++ replicate 54 7)
unfolding entries_of decode holds held free_run every any right_lengths value_fits entry_sound none_shared sound refuse check_sound ◌then◌ check_clock clock_checks check_key key_checks memory_of encode flat call dead same key_of key_is found_from look_up deads without put wiped remove remove_oldest sweep_count sweep after_sweep expiry_of entry_for place_at to_front rewrite_at overwrite_at after gone any_live fit_from first_free run searched is_placed if_room evicted forced_by fit_outcome place_fit placed_by place_anew store_over store_item most_rounds boolean_byte number_bytes value_given item_of too_late check_lifetime check_initial incr_checks number_at in_range add_at incr_live incr_new incr_initial incr_found incr_work incr_call
v361_incr = refl

-- incr: 8, rounds 0, removed 0
pub v362_incr : incr_call (1 ∷ 2 ∷ 182 ∷ 3 ∷ 0 ∷ 2 ∷ 1 ∷ 8 ∷ 0 ∷ 4 ∷ 5 ∷ 0 ∷ 1 ∷ 33 ∷ replicate 12 0) (98 ∷ replicate 33 120 ++ replicate 30 0 ++ 99 ∷ 29 ∷ 63 ∷ replicate 29 0 ++ replicate 32 7) 18446744073709551615 (99 ∷ []) (negsuc 54024) None ≡ gave (plain NotFound 0) (1 ∷ 2 ∷ 182 ∷ 3 ∷ 0 ∷ 2 ∷ 1 ∷ 8 ∷ 0 ∷ 4 ∷ 5 ∷ 0 ∷ 1 ∷ 33 ∷ replicate 12 0) (98 ∷ replicate 33 120 ++ replicate 30 0 ++ 99 ∷ 29 ∷ 63 ∷ replicate 29 0 ++ replicate 32 7)
unfolding entries_of decode holds held free_run every any right_lengths value_fits entry_sound none_shared sound refuse check_sound ◌then◌ check_clock clock_checks check_key key_checks memory_of encode flat call dead same key_of key_is found_from look_up deads without put wiped remove remove_oldest sweep_count sweep after_sweep expiry_of entry_for place_at to_front rewrite_at overwrite_at after gone any_live fit_from first_free run searched is_placed if_room evicted forced_by fit_outcome place_fit placed_by place_anew store_over store_item most_rounds boolean_byte number_bytes value_given item_of too_late check_lifetime check_initial incr_checks number_at in_range add_at incr_live incr_new incr_initial incr_found incr_work incr_call
v362_incr = refl

-- incr: 12, rounds 0, removed 0
pub v363_incr : incr_call (1 ∷ 1 ∷ 0 ∷ 3 ∷ 0 ∷ 0 ∷ 1 ∷ 8 ∷ []) (98 ∷ 52 ∷ 95 ∷ 161 ∷ 95 ∷ 229 ∷ 161 ∷ 13 ∷ replicate 24 0) 127 (replicate 40 107) (pos 9223372036854775807) (given (negsuc 27557) 0) ≡ gave (plain NoMemory 0) (1 ∷ 1 ∷ 0 ∷ 3 ∷ 0 ∷ 0 ∷ 1 ∷ 8 ∷ []) (98 ∷ 52 ∷ 95 ∷ 161 ∷ 95 ∷ 229 ∷ 161 ∷ 13 ∷ replicate 24 0)
unfolding entries_of decode holds held free_run every any right_lengths value_fits entry_sound none_shared sound refuse check_sound ◌then◌ check_clock clock_checks check_key key_checks memory_of encode flat call dead same key_of key_is found_from look_up deads without put wiped remove remove_oldest sweep_count sweep after_sweep expiry_of entry_for place_at to_front rewrite_at overwrite_at after gone any_live fit_from first_free run searched is_placed if_room evicted forced_by fit_outcome place_fit placed_by place_anew store_over store_item most_rounds boolean_byte number_bytes value_given item_of too_late check_lifetime check_initial incr_checks number_at in_range add_at incr_live incr_new incr_initial incr_found incr_work incr_call
v363_incr = refl

-- incr: 11, rounds 0, removed 0
pub v364_incr : incr_call (1 ∷ 2 ∷ 1 ∷ 4 ∷ 4294967295 ∷ 0 ∷ 1 ∷ 0 ∷ 103 ∷ 3 ∷ 5 ∷ 1 ∷ 2 ∷ 8 ∷ []) (97 ∷ replicate 31 0 ++ 97 ∷ 98 ∷ replicate 8 255 ++ replicate 22 7) 74 (97 ∷ []) (pos 36232) (given (pos 9223372036854775807) 5) ≡ gave (plain SumTooLarge 0) (1 ∷ 2 ∷ 1 ∷ 4 ∷ 4294967295 ∷ 0 ∷ 1 ∷ 0 ∷ 103 ∷ 3 ∷ 5 ∷ 1 ∷ 2 ∷ 8 ∷ []) (97 ∷ replicate 31 0 ++ 97 ∷ 98 ∷ replicate 8 255 ++ replicate 22 7)
unfolding entries_of decode holds held free_run every any right_lengths value_fits entry_sound none_shared sound refuse check_sound ◌then◌ check_clock clock_checks check_key key_checks memory_of encode flat call dead same key_of key_is found_from look_up deads without put wiped remove remove_oldest sweep_count sweep after_sweep expiry_of entry_for place_at to_front rewrite_at overwrite_at after gone any_live fit_from first_free run searched is_placed if_room evicted forced_by fit_outcome place_fit placed_by place_anew store_over store_item most_rounds boolean_byte number_bytes value_given item_of too_late check_lifetime check_initial incr_checks number_at in_range add_at incr_live incr_new incr_initial incr_found incr_work incr_call
v364_incr = refl

-- incr: 12, rounds 0, removed 1
pub v365_incr : incr_call (1 ∷ 1 ∷ 1 ∷ 4 ∷ 4294967295 ∷ 0 ∷ 1 ∷ 8 ∷ []) (98 ∷ replicate 8 120 ++ replicate 23 7) 120 (replicate 40 107) (negsuc 9223372036854775807) (given (pos 46896) 5) ≡ gave (plain NoMemory 1) (1 ∷ replicate 7 0) (replicate 32 0)
unfolding entries_of decode holds held free_run every any right_lengths value_fits entry_sound none_shared sound refuse check_sound ◌then◌ check_clock clock_checks check_key key_checks memory_of encode flat call dead same key_of key_is found_from look_up deads without put wiped remove remove_oldest sweep_count sweep after_sweep expiry_of entry_for place_at to_front rewrite_at overwrite_at after gone any_live fit_from first_free run searched is_placed if_room evicted forced_by fit_outcome place_fit placed_by place_anew store_over store_item most_rounds boolean_byte number_bytes value_given item_of too_late check_lifetime check_initial incr_checks number_at in_range add_at incr_live incr_new incr_initial incr_found incr_work incr_call
v365_incr = refl

-- incr: 10, rounds 0, removed 2
pub v366_incr : incr_call (1 ∷ 3 ∷ 0 ∷ 4 ∷ 5 ∷ 0 ∷ 2 ∷ 33 ∷ 90 ∷ 3 ∷ 0 ∷ 3 ∷ 2 ∷ 8 ∷ 91 ∷ 1 ∷ 4294967295 ∷ 2 ∷ 3 ∷ 1 ∷ replicate 6 0) (98 ∷ 97 ∷ replicate 33 120 ++ replicate 29 0 ++ 97 ∷ 98 ∷ 99 ∷ 1 ∷ replicate 28 7 ++ 97 ∷ 98 ∷ 119 ∷ 116 ∷ 209 ∷ 79 ∷ 177 ∷ 15 ∷ 242 ∷ 123 ∷ replicate 22 7) 96 (98 ∷ 97 ∷ []) (pos 79030) (given (negsuc 9223372036854775807) 5) ≡ gave (plain NotNumber 2) (1 ∷ 1 ∷ 0 ∷ 4 ∷ 5 ∷ 0 ∷ 2 ∷ 33 ∷ replicate 18 0) (98 ∷ 97 ∷ replicate 33 120 ++ replicate 93 0)
unfolding entries_of decode holds held free_run every any right_lengths value_fits entry_sound none_shared sound refuse check_sound ◌then◌ check_clock clock_checks check_key key_checks memory_of encode flat call dead same key_of key_is found_from look_up deads without put wiped remove remove_oldest sweep_count sweep after_sweep expiry_of entry_for place_at to_front rewrite_at overwrite_at after gone any_live fit_from first_free run searched is_placed if_room evicted forced_by fit_outcome place_fit placed_by place_anew store_over store_item most_rounds boolean_byte number_bytes value_given item_of too_late check_lifetime check_initial incr_checks number_at in_range add_at incr_live incr_new incr_initial incr_found incr_work incr_call
v366_incr = refl

-- incr: 11, rounds 0, removed 2
pub v367_incr : incr_call (1 ∷ 3 ∷ 104 ∷ 1 ∷ 4294967295 ∷ 3 ∷ 1 ∷ 1 ∷ 1 ∷ 1 ∷ 5 ∷ 2 ∷ 1 ∷ 1 ∷ 104 ∷ 1 ∷ 5 ∷ 0 ∷ 40 ∷ 1 ∷ replicate 6 0) (replicate 40 107 ++ 1 ∷ replicate 23 0 ++ 98 ∷ 1 ∷ replicate 30 0 ++ 100 ∷ 1 ∷ replicate 30 0) 118 (100 ∷ []) (pos 41024) (given (pos 9223372036854775806) 0) ≡ gave (plain SumTooLarge 2) (1 ∷ 1 ∷ 104 ∷ 1 ∷ 4294967295 ∷ 3 ∷ 1 ∷ 1 ∷ replicate 18 0) (replicate 96 0 ++ 100 ∷ 1 ∷ replicate 30 0)
unfolding entries_of decode holds held free_run every any right_lengths value_fits entry_sound none_shared sound refuse check_sound ◌then◌ check_clock clock_checks check_key key_checks memory_of encode flat call dead same key_of key_is found_from look_up deads without put wiped remove remove_oldest sweep_count sweep after_sweep expiry_of entry_for place_at to_front rewrite_at overwrite_at after gone any_live fit_from first_free run searched is_placed if_room evicted forced_by fit_outcome place_fit placed_by place_anew store_over store_item most_rounds boolean_byte number_bytes value_given item_of too_late check_lifetime check_initial incr_checks number_at in_range add_at incr_live incr_new incr_initial incr_found incr_work incr_call
v367_incr = refl

-- incr: 0, rounds 2, removed 3
pub v368_incr : incr_call (1 ∷ 3 ∷ 110 ∷ 3 ∷ 4294967295 ∷ 3 ∷ 3 ∷ 8 ∷ 0 ∷ 4 ∷ 0 ∷ 1 ∷ 1 ∷ 33 ∷ 0 ∷ 1 ∷ 5 ∷ 0 ∷ 1 ∷ 1 ∷ replicate 6 0) (97 ∷ 1 ∷ replicate 30 0 ++ 100 ∷ replicate 33 120 ++ replicate 30 0 ++ 97 ∷ 98 ∷ 99 ∷ 30 ∷ 139 ∷ replicate 6 255 ++ replicate 21 0) 110 (replicate 40 107) (pos 91560) (given (pos 61301) 5) ≡ gave (record { rounds = 2; removed = 3; forced = true; stale = false; outcome = (Sum (pos 152861)) }) (1 ∷ 1 ∷ 115 ∷ 3 ∷ 0 ∷ 0 ∷ 40 ∷ 8 ∷ replicate 18 0) (replicate 40 107 ++ 29 ∷ 85 ∷ 2 ∷ replicate 85 0)
unfolding entries_of decode holds held free_run every any right_lengths value_fits entry_sound none_shared sound refuse check_sound ◌then◌ check_clock clock_checks check_key key_checks memory_of encode flat call dead same key_of key_is found_from look_up deads without put wiped remove remove_oldest sweep_count sweep after_sweep expiry_of entry_for place_at to_front rewrite_at overwrite_at after gone any_live fit_from first_free run searched is_placed if_room evicted forced_by fit_outcome place_fit placed_by place_anew store_over store_item most_rounds boolean_byte number_bytes value_given item_of too_late check_lifetime check_initial incr_checks number_at in_range add_at incr_live incr_new incr_initial incr_found incr_work incr_call
v368_incr = refl

-- incr: 0, rounds 0, removed 0
pub v369_incr : incr_call (1 ∷ 3 ∷ 0 ∷ 4 ∷ 5 ∷ 2 ∷ 1 ∷ 33 ∷ 0 ∷ 3 ∷ 5 ∷ 1 ∷ 1 ∷ 8 ∷ 0 ∷ 1 ∷ 5 ∷ 0 ∷ 1 ∷ 1 ∷ replicate 6 0) (97 ∷ 1 ∷ replicate 30 0 ++ 98 ∷ 120 ∷ 55 ∷ replicate 29 0 ++ 99 ∷ replicate 33 120 ++ replicate 30 0) 2 (98 ∷ []) (pos 20) None ≡ gave (plain (Sum (pos 14220)) 0) (1 ∷ 3 ∷ 0 ∷ 3 ∷ 5 ∷ 1 ∷ 1 ∷ 8 ∷ 0 ∷ 4 ∷ 5 ∷ 2 ∷ 1 ∷ 33 ∷ 0 ∷ 1 ∷ 5 ∷ 0 ∷ 1 ∷ 1 ∷ replicate 6 0) (97 ∷ 1 ∷ replicate 30 0 ++ 98 ∷ 140 ∷ 55 ∷ replicate 29 0 ++ 99 ∷ replicate 33 120 ++ replicate 30 0)
unfolding entries_of decode holds held free_run every any right_lengths value_fits entry_sound none_shared sound refuse check_sound ◌then◌ check_clock clock_checks check_key key_checks memory_of encode flat call dead same key_of key_is found_from look_up deads without put wiped remove remove_oldest sweep_count sweep after_sweep expiry_of entry_for place_at to_front rewrite_at overwrite_at after gone any_live fit_from first_free run searched is_placed if_room evicted forced_by fit_outcome place_fit placed_by place_anew store_over store_item most_rounds boolean_byte number_bytes value_given item_of too_late check_lifetime check_initial incr_checks number_at in_range add_at incr_live incr_new incr_initial incr_found incr_work incr_call
v369_incr = refl

-- incr: 0, rounds 30, removed 30
pub v370_incr : incr_call (1 ∷ 33 ∷ 0 ∷ 3 ∷ 0 ∷ 32 ∷ 1 ∷ 8 ∷ 0 ∷ 3 ∷ 0 ∷ 31 ∷ 1 ∷ 8 ∷ 0 ∷ 3 ∷ 0 ∷ 30 ∷ 1 ∷ 8 ∷ 0 ∷ 3 ∷ 0 ∷ 29 ∷ 1 ∷ 8 ∷ 0 ∷ 3 ∷ 0 ∷ 28 ∷ 1 ∷ 8 ∷ 0 ∷ 3 ∷ 0 ∷ 27 ∷ 1 ∷ 8 ∷ 0 ∷ 3 ∷ 0 ∷ 26 ∷ 1 ∷ 8 ∷ 0 ∷ 3 ∷ 0 ∷ 25 ∷ 1 ∷ 8 ∷ 0 ∷ 3 ∷ 0 ∷ 24 ∷ 1 ∷ 8 ∷ 0 ∷ 3 ∷ 0 ∷ 23 ∷ 1 ∷ 8 ∷ 0 ∷ 3 ∷ 0 ∷ 22 ∷ 1 ∷ 8 ∷ 0 ∷ 3 ∷ 0 ∷ 21 ∷ 1 ∷ 8 ∷ 0 ∷ 3 ∷ 0 ∷ 20 ∷ 1 ∷ 8 ∷ 0 ∷ 3 ∷ 0 ∷ 19 ∷ 1 ∷ 8 ∷ 0 ∷ 3 ∷ 0 ∷ 18 ∷ 1 ∷ 8 ∷ 0 ∷ 3 ∷ 0 ∷ 17 ∷ 1 ∷ 8 ∷ 0 ∷ 3 ∷ 0 ∷ 16 ∷ 1 ∷ 8 ∷ 0 ∷ 3 ∷ 0 ∷ 15 ∷ 1 ∷ 8 ∷ 0 ∷ 3 ∷ 0 ∷ 14 ∷ 1 ∷ 8 ∷ 0 ∷ 3 ∷ 0 ∷ 13 ∷ 1 ∷ 8 ∷ 0 ∷ 3 ∷ 0 ∷ 12 ∷ 1 ∷ 8 ∷ 0 ∷ 3 ∷ 0 ∷ 11 ∷ 1 ∷ 8 ∷ 0 ∷ 3 ∷ 0 ∷ 10 ∷ 1 ∷ 8 ∷ 0 ∷ 3 ∷ 0 ∷ 9 ∷ 1 ∷ 8 ∷ 0 ∷ 3 ∷ 0 ∷ 8 ∷ 1 ∷ 8 ∷ 0 ∷ 3 ∷ 0 ∷ 7 ∷ 1 ∷ 8 ∷ 0 ∷ 3 ∷ 0 ∷ 6 ∷ 1 ∷ 8 ∷ 0 ∷ 3 ∷ 0 ∷ 5 ∷ 1 ∷ 8 ∷ 0 ∷ 3 ∷ 0 ∷ 4 ∷ 1 ∷ 8 ∷ 0 ∷ 3 ∷ 0 ∷ 3 ∷ 1 ∷ 8 ∷ 0 ∷ 3 ∷ 0 ∷ 2 ∷ 1 ∷ 8 ∷ 0 ∷ 3 ∷ 0 ∷ 1 ∷ 1 ∷ 8 ∷ 0 ∷ 3 ∷ 0 ∷ 0 ∷ 1 ∷ 8 ∷ []) (65 ∷ replicate 31 0 ++ 66 ∷ 1 ∷ replicate 30 0 ++ 67 ∷ 2 ∷ replicate 30 0 ++ 68 ∷ 3 ∷ replicate 30 0 ++ 69 ∷ 4 ∷ replicate 30 0 ++ 70 ∷ 5 ∷ replicate 30 0 ++ 71 ∷ 6 ∷ replicate 30 0 ++ 72 ∷ 7 ∷ replicate 30 0 ++ 73 ∷ 8 ∷ replicate 30 0 ++ 74 ∷ 9 ∷ replicate 30 0 ++ 75 ∷ 10 ∷ replicate 30 0 ++ 76 ∷ 11 ∷ replicate 30 0 ++ 77 ∷ 12 ∷ replicate 30 0 ++ 78 ∷ 13 ∷ replicate 30 0 ++ 79 ∷ 14 ∷ replicate 30 0 ++ 80 ∷ 15 ∷ replicate 30 0 ++ 81 ∷ 16 ∷ replicate 30 0 ++ 82 ∷ 17 ∷ replicate 30 0 ++ 83 ∷ 18 ∷ replicate 30 0 ++ 84 ∷ 19 ∷ replicate 30 0 ++ 85 ∷ 20 ∷ replicate 30 0 ++ 86 ∷ 21 ∷ replicate 30 0 ++ 87 ∷ 22 ∷ replicate 30 0 ++ 88 ∷ 23 ∷ replicate 30 0 ++ 89 ∷ 24 ∷ replicate 30 0 ++ 90 ∷ 25 ∷ replicate 30 0 ++ 91 ∷ 26 ∷ replicate 30 0 ++ 92 ∷ 27 ∷ replicate 30 0 ++ 93 ∷ 28 ∷ replicate 30 0 ++ 94 ∷ 29 ∷ replicate 30 0 ++ 95 ∷ 30 ∷ replicate 30 0 ++ 96 ∷ 31 ∷ replicate 30 0 ++ 97 ∷ 32 ∷ replicate 30 0) 2 (replicate 952 122) (pos 2) (given (pos 5) 0) ≡ gave (record { rounds = 30; removed = 30; forced = true; stale = false; outcome = (Sum (pos 7)) }) (1 ∷ 4 ∷ 0 ∷ 3 ∷ 0 ∷ 0 ∷ 952 ∷ 8 ∷ 0 ∷ 3 ∷ 0 ∷ 32 ∷ 1 ∷ 8 ∷ 0 ∷ 3 ∷ 0 ∷ 31 ∷ 1 ∷ 8 ∷ 0 ∷ 3 ∷ 0 ∷ 30 ∷ 1 ∷ 8 ∷ replicate 174 0) (replicate 952 122 ++ 7 ∷ replicate 7 0 ++ 95 ∷ 30 ∷ replicate 30 0 ++ 96 ∷ 31 ∷ replicate 30 0 ++ 97 ∷ 32 ∷ replicate 30 0)
unfolding entries_of decode holds held free_run every any right_lengths value_fits entry_sound none_shared sound refuse check_sound ◌then◌ check_clock clock_checks check_key key_checks memory_of encode flat call dead same key_of key_is found_from look_up deads without put wiped remove remove_oldest sweep_count sweep after_sweep expiry_of entry_for place_at to_front rewrite_at overwrite_at after gone any_live fit_from first_free run searched is_placed if_room evicted forced_by fit_outcome place_fit placed_by place_anew store_over store_item most_rounds boolean_byte number_bytes value_given item_of too_late check_lifetime check_initial incr_checks number_at in_range add_at incr_live incr_new incr_initial incr_found incr_work incr_call
v370_incr = refl

-- incr: 12, rounds 0, removed 0
pub v371_incr : incr_call (1 ∷ 33 ∷ 0 ∷ 3 ∷ 0 ∷ 32 ∷ 1 ∷ 8 ∷ 0 ∷ 3 ∷ 0 ∷ 31 ∷ 1 ∷ 8 ∷ 0 ∷ 3 ∷ 0 ∷ 30 ∷ 1 ∷ 8 ∷ 0 ∷ 3 ∷ 0 ∷ 29 ∷ 1 ∷ 8 ∷ 0 ∷ 3 ∷ 0 ∷ 28 ∷ 1 ∷ 8 ∷ 0 ∷ 3 ∷ 0 ∷ 27 ∷ 1 ∷ 8 ∷ 0 ∷ 3 ∷ 0 ∷ 26 ∷ 1 ∷ 8 ∷ 0 ∷ 3 ∷ 0 ∷ 25 ∷ 1 ∷ 8 ∷ 0 ∷ 3 ∷ 0 ∷ 24 ∷ 1 ∷ 8 ∷ 0 ∷ 3 ∷ 0 ∷ 23 ∷ 1 ∷ 8 ∷ 0 ∷ 3 ∷ 0 ∷ 22 ∷ 1 ∷ 8 ∷ 0 ∷ 3 ∷ 0 ∷ 21 ∷ 1 ∷ 8 ∷ 0 ∷ 3 ∷ 0 ∷ 20 ∷ 1 ∷ 8 ∷ 0 ∷ 3 ∷ 0 ∷ 19 ∷ 1 ∷ 8 ∷ 0 ∷ 3 ∷ 0 ∷ 18 ∷ 1 ∷ 8 ∷ 0 ∷ 3 ∷ 0 ∷ 17 ∷ 1 ∷ 8 ∷ 0 ∷ 3 ∷ 0 ∷ 16 ∷ 1 ∷ 8 ∷ 0 ∷ 3 ∷ 0 ∷ 15 ∷ 1 ∷ 8 ∷ 0 ∷ 3 ∷ 0 ∷ 14 ∷ 1 ∷ 8 ∷ 0 ∷ 3 ∷ 0 ∷ 13 ∷ 1 ∷ 8 ∷ 0 ∷ 3 ∷ 0 ∷ 12 ∷ 1 ∷ 8 ∷ 0 ∷ 3 ∷ 0 ∷ 11 ∷ 1 ∷ 8 ∷ 0 ∷ 3 ∷ 0 ∷ 10 ∷ 1 ∷ 8 ∷ 0 ∷ 3 ∷ 0 ∷ 9 ∷ 1 ∷ 8 ∷ 0 ∷ 3 ∷ 0 ∷ 8 ∷ 1 ∷ 8 ∷ 0 ∷ 3 ∷ 0 ∷ 7 ∷ 1 ∷ 8 ∷ 0 ∷ 3 ∷ 0 ∷ 6 ∷ 1 ∷ 8 ∷ 0 ∷ 3 ∷ 0 ∷ 5 ∷ 1 ∷ 8 ∷ 0 ∷ 3 ∷ 0 ∷ 4 ∷ 1 ∷ 8 ∷ 0 ∷ 3 ∷ 0 ∷ 3 ∷ 1 ∷ 8 ∷ 0 ∷ 3 ∷ 0 ∷ 2 ∷ 1 ∷ 8 ∷ 0 ∷ 3 ∷ 0 ∷ 1 ∷ 1 ∷ 8 ∷ 0 ∷ 3 ∷ 0 ∷ 0 ∷ 1 ∷ 8 ∷ []) (65 ∷ replicate 31 0 ++ 66 ∷ 1 ∷ replicate 30 0 ++ 67 ∷ 2 ∷ replicate 30 0 ++ 68 ∷ 3 ∷ replicate 30 0 ++ 69 ∷ 4 ∷ replicate 30 0 ++ 70 ∷ 5 ∷ replicate 30 0 ++ 71 ∷ 6 ∷ replicate 30 0 ++ 72 ∷ 7 ∷ replicate 30 0 ++ 73 ∷ 8 ∷ replicate 30 0 ++ 74 ∷ 9 ∷ replicate 30 0 ++ 75 ∷ 10 ∷ replicate 30 0 ++ 76 ∷ 11 ∷ replicate 30 0 ++ 77 ∷ 12 ∷ replicate 30 0 ++ 78 ∷ 13 ∷ replicate 30 0 ++ 79 ∷ 14 ∷ replicate 30 0 ++ 80 ∷ 15 ∷ replicate 30 0 ++ 81 ∷ 16 ∷ replicate 30 0 ++ 82 ∷ 17 ∷ replicate 30 0 ++ 83 ∷ 18 ∷ replicate 30 0 ++ 84 ∷ 19 ∷ replicate 30 0 ++ 85 ∷ 20 ∷ replicate 30 0 ++ 86 ∷ 21 ∷ replicate 30 0 ++ 87 ∷ 22 ∷ replicate 30 0 ++ 88 ∷ 23 ∷ replicate 30 0 ++ 89 ∷ 24 ∷ replicate 30 0 ++ 90 ∷ 25 ∷ replicate 30 0 ++ 91 ∷ 26 ∷ replicate 30 0 ++ 92 ∷ 27 ∷ replicate 30 0 ++ 93 ∷ 28 ∷ replicate 30 0 ++ 94 ∷ 29 ∷ replicate 30 0 ++ 95 ∷ 30 ∷ replicate 30 0 ++ 96 ∷ 31 ∷ replicate 30 0 ++ 97 ∷ 32 ∷ replicate 30 0) 2 (replicate 984 122) (pos 2) (given (pos 5) 0) ≡ gave (plain NoMemory 0) (1 ∷ 33 ∷ 0 ∷ 3 ∷ 0 ∷ 32 ∷ 1 ∷ 8 ∷ 0 ∷ 3 ∷ 0 ∷ 31 ∷ 1 ∷ 8 ∷ 0 ∷ 3 ∷ 0 ∷ 30 ∷ 1 ∷ 8 ∷ 0 ∷ 3 ∷ 0 ∷ 29 ∷ 1 ∷ 8 ∷ 0 ∷ 3 ∷ 0 ∷ 28 ∷ 1 ∷ 8 ∷ 0 ∷ 3 ∷ 0 ∷ 27 ∷ 1 ∷ 8 ∷ 0 ∷ 3 ∷ 0 ∷ 26 ∷ 1 ∷ 8 ∷ 0 ∷ 3 ∷ 0 ∷ 25 ∷ 1 ∷ 8 ∷ 0 ∷ 3 ∷ 0 ∷ 24 ∷ 1 ∷ 8 ∷ 0 ∷ 3 ∷ 0 ∷ 23 ∷ 1 ∷ 8 ∷ 0 ∷ 3 ∷ 0 ∷ 22 ∷ 1 ∷ 8 ∷ 0 ∷ 3 ∷ 0 ∷ 21 ∷ 1 ∷ 8 ∷ 0 ∷ 3 ∷ 0 ∷ 20 ∷ 1 ∷ 8 ∷ 0 ∷ 3 ∷ 0 ∷ 19 ∷ 1 ∷ 8 ∷ 0 ∷ 3 ∷ 0 ∷ 18 ∷ 1 ∷ 8 ∷ 0 ∷ 3 ∷ 0 ∷ 17 ∷ 1 ∷ 8 ∷ 0 ∷ 3 ∷ 0 ∷ 16 ∷ 1 ∷ 8 ∷ 0 ∷ 3 ∷ 0 ∷ 15 ∷ 1 ∷ 8 ∷ 0 ∷ 3 ∷ 0 ∷ 14 ∷ 1 ∷ 8 ∷ 0 ∷ 3 ∷ 0 ∷ 13 ∷ 1 ∷ 8 ∷ 0 ∷ 3 ∷ 0 ∷ 12 ∷ 1 ∷ 8 ∷ 0 ∷ 3 ∷ 0 ∷ 11 ∷ 1 ∷ 8 ∷ 0 ∷ 3 ∷ 0 ∷ 10 ∷ 1 ∷ 8 ∷ 0 ∷ 3 ∷ 0 ∷ 9 ∷ 1 ∷ 8 ∷ 0 ∷ 3 ∷ 0 ∷ 8 ∷ 1 ∷ 8 ∷ 0 ∷ 3 ∷ 0 ∷ 7 ∷ 1 ∷ 8 ∷ 0 ∷ 3 ∷ 0 ∷ 6 ∷ 1 ∷ 8 ∷ 0 ∷ 3 ∷ 0 ∷ 5 ∷ 1 ∷ 8 ∷ 0 ∷ 3 ∷ 0 ∷ 4 ∷ 1 ∷ 8 ∷ 0 ∷ 3 ∷ 0 ∷ 3 ∷ 1 ∷ 8 ∷ 0 ∷ 3 ∷ 0 ∷ 2 ∷ 1 ∷ 8 ∷ 0 ∷ 3 ∷ 0 ∷ 1 ∷ 1 ∷ 8 ∷ 0 ∷ 3 ∷ 0 ∷ 0 ∷ 1 ∷ 8 ∷ []) (65 ∷ replicate 31 0 ++ 66 ∷ 1 ∷ replicate 30 0 ++ 67 ∷ 2 ∷ replicate 30 0 ++ 68 ∷ 3 ∷ replicate 30 0 ++ 69 ∷ 4 ∷ replicate 30 0 ++ 70 ∷ 5 ∷ replicate 30 0 ++ 71 ∷ 6 ∷ replicate 30 0 ++ 72 ∷ 7 ∷ replicate 30 0 ++ 73 ∷ 8 ∷ replicate 30 0 ++ 74 ∷ 9 ∷ replicate 30 0 ++ 75 ∷ 10 ∷ replicate 30 0 ++ 76 ∷ 11 ∷ replicate 30 0 ++ 77 ∷ 12 ∷ replicate 30 0 ++ 78 ∷ 13 ∷ replicate 30 0 ++ 79 ∷ 14 ∷ replicate 30 0 ++ 80 ∷ 15 ∷ replicate 30 0 ++ 81 ∷ 16 ∷ replicate 30 0 ++ 82 ∷ 17 ∷ replicate 30 0 ++ 83 ∷ 18 ∷ replicate 30 0 ++ 84 ∷ 19 ∷ replicate 30 0 ++ 85 ∷ 20 ∷ replicate 30 0 ++ 86 ∷ 21 ∷ replicate 30 0 ++ 87 ∷ 22 ∷ replicate 30 0 ++ 88 ∷ 23 ∷ replicate 30 0 ++ 89 ∷ 24 ∷ replicate 30 0 ++ 90 ∷ 25 ∷ replicate 30 0 ++ 91 ∷ 26 ∷ replicate 30 0 ++ 92 ∷ 27 ∷ replicate 30 0 ++ 93 ∷ 28 ∷ replicate 30 0 ++ 94 ∷ 29 ∷ replicate 30 0 ++ 95 ∷ 30 ∷ replicate 30 0 ++ 96 ∷ 31 ∷ replicate 30 0 ++ 97 ∷ 32 ∷ replicate 30 0)
unfolding entries_of decode holds held free_run every any right_lengths value_fits entry_sound none_shared sound refuse check_sound ◌then◌ check_clock clock_checks check_key key_checks memory_of encode flat call dead same key_of key_is found_from look_up deads without put wiped remove remove_oldest sweep_count sweep after_sweep expiry_of entry_for place_at to_front rewrite_at overwrite_at after gone any_live fit_from first_free run searched is_placed if_room evicted forced_by fit_outcome place_fit placed_by place_anew store_over store_item most_rounds boolean_byte number_bytes value_given item_of too_late check_lifetime check_initial incr_checks number_at in_range add_at incr_live incr_new incr_initial incr_found incr_work incr_call
v371_incr = refl

-- delete: 2, rounds 0, removed 0
pub v372_delete : delete_call (1 ∷ replicate 13 0) (replicate 64 7) 0 (100 ∷ []) ≡ gave (plain ClockZero 0) (1 ∷ replicate 13 0) (replicate 64 7)
unfolding entries_of decode holds held free_run every any right_lengths value_fits entry_sound none_shared sound refuse check_sound ◌then◌ check_clock clock_checks check_key key_checks memory_of encode flat call dead same key_of key_is found_from look_up deads without put wiped remove remove_oldest sweep_count sweep after_sweep delete_found delete_work delete_call
v372_delete = refl

-- delete: 0, rounds 0, removed 0
pub v373_delete : delete_call (1 ∷ 1 ∷ 0 ∷ 3 ∷ 0 ∷ 0 ∷ 2 ∷ 8 ∷ []) (98 ∷ 97 ∷ 239 ∷ 127 ∷ replicate 28 0) 96 (100 ∷ []) ≡ gave (plain Done 0) (1 ∷ 1 ∷ 0 ∷ 3 ∷ 0 ∷ 0 ∷ 2 ∷ 8 ∷ []) (98 ∷ 97 ∷ 239 ∷ 127 ∷ replicate 28 0)
unfolding entries_of decode holds held free_run every any right_lengths value_fits entry_sound none_shared sound refuse check_sound ◌then◌ check_clock clock_checks check_key key_checks memory_of encode flat call dead same key_of key_is found_from look_up deads without put wiped remove remove_oldest sweep_count sweep after_sweep delete_found delete_work delete_call
v373_delete = refl

-- delete: 0, rounds 0, removed 0
pub v374_delete : delete_call (1 ∷ replicate 13 0) (replicate 64 7) 113 (98 ∷ []) ≡ gave (plain Done 0) (1 ∷ replicate 13 0) (replicate 64 7)
unfolding entries_of decode holds held free_run every any right_lengths value_fits entry_sound none_shared sound refuse check_sound ◌then◌ check_clock clock_checks check_key key_checks memory_of encode flat call dead same key_of key_is found_from look_up deads without put wiped remove remove_oldest sweep_count sweep after_sweep delete_found delete_work delete_call
v374_delete = refl

-- delete: 0, rounds 0, removed 2
pub v375_delete : delete_call (1 ∷ 2 ∷ 102 ∷ 1 ∷ 0 ∷ 1 ∷ 3 ∷ 1 ∷ 93 ∷ 1 ∷ 4294967295 ∷ 0 ∷ 1 ∷ 1 ∷ []) (98 ∷ 1 ∷ replicate 30 7 ++ 97 ∷ 98 ∷ 99 ∷ 0 ∷ replicate 28 7) 107 (98 ∷ []) ≡ gave (plain Done 2) (1 ∷ replicate 13 0) (replicate 64 0)
unfolding entries_of decode holds held free_run every any right_lengths value_fits entry_sound none_shared sound refuse check_sound ◌then◌ check_clock clock_checks check_key key_checks memory_of encode flat call dead same key_of key_is found_from look_up deads without put wiped remove remove_oldest sweep_count sweep after_sweep delete_found delete_work delete_call
v375_delete = refl

-- delete: 0, rounds 0, removed 0
pub v376_delete : delete_call (1 ∷ 2 ∷ 0 ∷ 4 ∷ 0 ∷ 0 ∷ 40 ∷ 0 ∷ 0 ∷ 4 ∷ 4294967295 ∷ 2 ∷ 1 ∷ 8 ∷ replicate 12 0) (replicate 40 107 ++ replicate 24 0 ++ 98 ∷ replicate 8 120 ++ replicate 55 0) 123 (97 ∷ 98 ∷ []) ≡ gave (plain Done 0) (1 ∷ 2 ∷ 0 ∷ 4 ∷ 0 ∷ 0 ∷ 40 ∷ 0 ∷ 0 ∷ 4 ∷ 4294967295 ∷ 2 ∷ 1 ∷ 8 ∷ replicate 12 0) (replicate 40 107 ++ replicate 24 0 ++ 98 ∷ replicate 8 120 ++ replicate 55 0)
unfolding entries_of decode holds held free_run every any right_lengths value_fits entry_sound none_shared sound refuse check_sound ◌then◌ check_clock clock_checks check_key key_checks memory_of encode flat call dead same key_of key_is found_from look_up deads without put wiped remove remove_oldest sweep_count sweep after_sweep delete_found delete_work delete_call
v376_delete = refl

-- delete: 0, rounds 0, removed 2
pub v377_delete : delete_call (1 ∷ 3 ∷ 140 ∷ 3 ∷ 0 ∷ 2 ∷ 1 ∷ 8 ∷ 1 ∷ 3 ∷ 5 ∷ 1 ∷ 2 ∷ 8 ∷ 110 ∷ 3 ∷ 5 ∷ 0 ∷ 1 ∷ 8 ∷ replicate 6 0) (99 ∷ 34 ∷ 30 ∷ replicate 6 255 ++ replicate 23 0 ++ 98 ∷ 97 ∷ 15 ∷ 155 ∷ replicate 6 255 ++ replicate 22 0 ++ 98 ∷ 248 ∷ 234 ∷ replicate 6 255 ++ replicate 55 0) 110 (98 ∷ 97 ∷ []) ≡ gave (plain Done 2) (1 ∷ 1 ∷ 140 ∷ 3 ∷ 0 ∷ 2 ∷ 1 ∷ 8 ∷ replicate 18 0) (replicate 64 0 ++ 98 ∷ 248 ∷ 234 ∷ replicate 6 255 ++ replicate 55 0)
unfolding entries_of decode holds held free_run every any right_lengths value_fits entry_sound none_shared sound refuse check_sound ◌then◌ check_clock clock_checks check_key key_checks memory_of encode flat call dead same key_of key_is found_from look_up deads without put wiped remove remove_oldest sweep_count sweep after_sweep delete_found delete_work delete_call
v377_delete = refl

-- delete: 0, rounds 0, removed 1
pub v378_delete : delete_call (1 ∷ 1 ∷ 1 ∷ 4 ∷ 0 ∷ 0 ∷ 2 ∷ 63 ∷ replicate 18 0) (98 ∷ 97 ∷ replicate 63 120 ++ replicate 63 7) 132 (100 ∷ []) ≡ gave (plain Done 1) (1 ∷ replicate 25 0) (replicate 96 0 ++ replicate 32 7)
unfolding entries_of decode holds held free_run every any right_lengths value_fits entry_sound none_shared sound refuse check_sound ◌then◌ check_clock clock_checks check_key key_checks memory_of encode flat call dead same key_of key_is found_from look_up deads without put wiped remove remove_oldest sweep_count sweep after_sweep delete_found delete_work delete_call
v378_delete = refl

-- delete: 0, rounds 0, removed 0
pub v379_delete : delete_call (1 ∷ 1 ∷ 0 ∷ 3 ∷ 5 ∷ 0 ∷ 2 ∷ 8 ∷ replicate 6 0) (97 ∷ 98 ∷ 154 ∷ 252 ∷ replicate 60 0) 111 (97 ∷ 98 ∷ []) ≡ gave (plain Done 0) (1 ∷ replicate 13 0) (replicate 64 0)
unfolding entries_of decode holds held free_run every any right_lengths value_fits entry_sound none_shared sound refuse check_sound ◌then◌ check_clock clock_checks check_key key_checks memory_of encode flat call dead same key_of key_is found_from look_up deads without put wiped remove remove_oldest sweep_count sweep after_sweep delete_found delete_work delete_call
v379_delete = refl

-- delete: 4, rounds 0, removed 0
pub v380_delete : delete_call (1 ∷ 2 ∷ 119 ∷ 3 ∷ 4294967295 ∷ 1 ∷ 1 ∷ 8 ∷ 0 ∷ 3 ∷ 5 ∷ 0 ∷ 2 ∷ 8 ∷ replicate 12 0) (98 ∷ 97 ∷ 30 ∷ 109 ∷ 1 ∷ replicate 5 0 ++ replicate 22 7 ++ 99 ∷ replicate 7 0 ++ 128 ∷ replicate 87 7) 89 (replicate 65536 107) ≡ gave (plain KeyTooLong 0) (1 ∷ 2 ∷ 119 ∷ 3 ∷ 4294967295 ∷ 1 ∷ 1 ∷ 8 ∷ 0 ∷ 3 ∷ 5 ∷ 0 ∷ 2 ∷ 8 ∷ replicate 12 0) (98 ∷ 97 ∷ 30 ∷ 109 ∷ 1 ∷ replicate 5 0 ++ replicate 22 7 ++ 99 ∷ replicate 7 0 ++ 128 ∷ replicate 87 7)
unfolding entries_of decode holds held free_run every any right_lengths value_fits entry_sound none_shared sound refuse check_sound ◌then◌ check_clock clock_checks check_key key_checks memory_of encode flat call dead same key_of key_is found_from look_up deads without put wiped remove remove_oldest sweep_count sweep after_sweep delete_found delete_work delete_call
v380_delete = refl

-- delete: 1, rounds 0, removed 0
pub v381_delete : delete_call (3 ∷ replicate 25 0) (replicate 128 0) 133 (98 ∷ 97 ∷ []) ≡ gave (plain NotSound 0) (3 ∷ replicate 25 0) (replicate 128 0)
unfolding entries_of decode holds held free_run every any right_lengths value_fits entry_sound none_shared sound refuse check_sound ◌then◌ check_clock clock_checks check_key key_checks memory_of encode flat call dead same key_of key_is found_from look_up deads without put wiped remove remove_oldest sweep_count sweep after_sweep delete_found delete_work delete_call
v381_delete = refl

-- delete: 1, rounds 0, removed 0
pub v382_delete : delete_call (1 ∷ 2 ∷ 114 ∷ 3 ∷ 4294967295 ∷ 1 ∷ 1 ∷ 8 ∷ 114 ∷ 4 ∷ 5 ∷ 1 ∷ 1 ∷ 0 ∷ []) (98 ∷ replicate 31 0 ++ 99 ∷ 169 ∷ 103 ∷ replicate 6 255 ++ replicate 23 7) 89 (97 ∷ []) ≡ gave (plain NotSound 0) (1 ∷ 2 ∷ 114 ∷ 3 ∷ 4294967295 ∷ 1 ∷ 1 ∷ 8 ∷ 114 ∷ 4 ∷ 5 ∷ 1 ∷ 1 ∷ 0 ∷ []) (98 ∷ replicate 31 0 ++ 99 ∷ 169 ∷ 103 ∷ replicate 6 255 ++ replicate 23 7)
unfolding entries_of decode holds held free_run every any right_lengths value_fits entry_sound none_shared sound refuse check_sound ◌then◌ check_clock clock_checks check_key key_checks memory_of encode flat call dead same key_of key_is found_from look_up deads without put wiped remove remove_oldest sweep_count sweep after_sweep delete_found delete_work delete_call
v382_delete = refl

-- delete: 0, rounds 0, removed 0
pub v383_delete : delete_call (1 ∷ 4 ∷ 133 ∷ 3 ∷ 5 ∷ 3 ∷ 1 ∷ 8 ∷ 0 ∷ 3 ∷ 0 ∷ 2 ∷ 2 ∷ 8 ∷ 111 ∷ 3 ∷ 0 ∷ 1 ∷ 3 ∷ 8 ∷ 177 ∷ 4 ∷ 5 ∷ 0 ∷ 1 ∷ 8 ∷ []) (99 ∷ replicate 8 120 ++ replicate 23 7 ++ 97 ∷ 98 ∷ 99 ∷ 214 ∷ 99 ∷ replicate 6 0 ++ replicate 21 7 ++ 98 ∷ 97 ∷ 1 ∷ replicate 6 0 ++ 128 ∷ replicate 22 0 ++ 100 ∷ 86 ∷ 70 ∷ replicate 6 0 ++ replicate 23 7) 173 (100 ∷ []) ≡ gave (plain Done 0) (1 ∷ 3 ∷ 0 ∷ 3 ∷ 0 ∷ 2 ∷ 2 ∷ 8 ∷ 111 ∷ 3 ∷ 0 ∷ 1 ∷ 3 ∷ 8 ∷ 177 ∷ 4 ∷ 5 ∷ 0 ∷ 1 ∷ 8 ∷ replicate 6 0) (99 ∷ replicate 8 120 ++ replicate 23 7 ++ 97 ∷ 98 ∷ 99 ∷ 214 ∷ 99 ∷ replicate 6 0 ++ replicate 21 7 ++ 98 ∷ 97 ∷ 1 ∷ replicate 6 0 ++ 128 ∷ replicate 54 0)
unfolding entries_of decode holds held free_run every any right_lengths value_fits entry_sound none_shared sound refuse check_sound ◌then◌ check_clock clock_checks check_key key_checks memory_of encode flat call dead same key_of key_is found_from look_up deads without put wiped remove remove_oldest sweep_count sweep after_sweep delete_found delete_work delete_call
v383_delete = refl

-- delete: 3, rounds 0, removed 0
pub v384_delete : delete_call (1 ∷ replicate 13 0) (replicate 64 0) 89 [] ≡ gave (plain KeyEmpty 0) (1 ∷ replicate 13 0) (replicate 64 0)
unfolding entries_of decode holds held free_run every any right_lengths value_fits entry_sound none_shared sound refuse check_sound ◌then◌ check_clock clock_checks check_key key_checks memory_of encode flat call dead same key_of key_is found_from look_up deads without put wiped remove remove_oldest sweep_count sweep after_sweep delete_found delete_work delete_call
v384_delete = refl

-- delete: 0, rounds 0, removed 0
pub v385_delete : delete_call (1 ∷ 1 ∷ 0 ∷ 4 ∷ 5 ∷ 0 ∷ 3 ∷ 8 ∷ []) (97 ∷ 98 ∷ 99 ∷ replicate 8 120 ++ replicate 21 0) 70 (97 ∷ 98 ∷ 99 ∷ []) ≡ gave (plain Done 0) (1 ∷ replicate 7 0) (replicate 32 0)
unfolding entries_of decode holds held free_run every any right_lengths value_fits entry_sound none_shared sound refuse check_sound ◌then◌ check_clock clock_checks check_key key_checks memory_of encode flat call dead same key_of key_is found_from look_up deads without put wiped remove remove_oldest sweep_count sweep after_sweep delete_found delete_work delete_call
v385_delete = refl

-- delete: 0, rounds 0, removed 0
pub v386_delete : delete_call (1 ∷ 2 ∷ 122 ∷ 3 ∷ 4294967295 ∷ 2 ∷ 2 ∷ 8 ∷ 0 ∷ 3 ∷ 4294967295 ∷ 0 ∷ 40 ∷ 8 ∷ replicate 12 0) (replicate 40 107 ++ 1 ∷ 249 ∷ replicate 22 0 ++ 98 ∷ 97 ∷ replicate 7 0 ++ 128 ∷ replicate 54 0) 142 (98 ∷ 97 ∷ []) ≡ gave (plain Done 0) (1 ∷ 1 ∷ 0 ∷ 3 ∷ 4294967295 ∷ 0 ∷ 40 ∷ 8 ∷ replicate 18 0) (replicate 40 107 ++ 1 ∷ 249 ∷ replicate 86 0)
unfolding entries_of decode holds held free_run every any right_lengths value_fits entry_sound none_shared sound refuse check_sound ◌then◌ check_clock clock_checks check_key key_checks memory_of encode flat call dead same key_of key_is found_from look_up deads without put wiped remove remove_oldest sweep_count sweep after_sweep delete_found delete_work delete_call
v386_delete = refl

-- expire: 3, rounds 0, removed 0
pub v387_expire : expire_call (1 ∷ 1 ∷ 135 ∷ 4 ∷ 5 ∷ 0 ∷ 2 ∷ 33 ∷ replicate 6 0) (98 ∷ 97 ∷ replicate 33 120 ++ replicate 29 0) 121 [] 30 ≡ gave (plain KeyEmpty 0) (1 ∷ 1 ∷ 135 ∷ 4 ∷ 5 ∷ 0 ∷ 2 ∷ 33 ∷ replicate 6 0) (98 ∷ 97 ∷ replicate 33 120 ++ replicate 29 0)
unfolding entries_of decode holds held free_run every any right_lengths value_fits entry_sound none_shared sound refuse check_sound ◌then◌ check_clock clock_checks check_key key_checks memory_of encode flat call dead same key_of key_is found_from look_up too_late check_lifetime expire_checks expiry_of with_expiry replace_at expire_at expire_found expire_call
v387_expire = refl

-- expire: 8, rounds 0, removed 0
pub v388_expire : expire_call (1 ∷ replicate 7 0) (replicate 32 0) 83 (98 ∷ []) 30 ≡ gave (plain NotFound 0) (1 ∷ replicate 7 0) (replicate 32 0)
unfolding entries_of decode holds held free_run every any right_lengths value_fits entry_sound none_shared sound refuse check_sound ◌then◌ check_clock clock_checks check_key key_checks memory_of encode flat call dead same key_of key_is found_from look_up too_late check_lifetime expire_checks expiry_of with_expiry replace_at expire_at expire_found expire_call
v388_expire = refl

-- expire: 8, rounds 0, removed 0
pub v389_expire : expire_call (1 ∷ 2 ∷ 0 ∷ 4 ∷ 4294967295 ∷ 1 ∷ 1 ∷ 60 ∷ 137 ∷ 4 ∷ 5 ∷ 0 ∷ 1 ∷ 8 ∷ replicate 12 0) (98 ∷ replicate 8 120 ++ replicate 23 0 ++ 97 ∷ replicate 60 120 ++ replicate 35 0) 108 (99 ∷ []) 5 ≡ gave (plain NotFound 0) (1 ∷ 2 ∷ 0 ∷ 4 ∷ 4294967295 ∷ 1 ∷ 1 ∷ 60 ∷ 137 ∷ 4 ∷ 5 ∷ 0 ∷ 1 ∷ 8 ∷ replicate 12 0) (98 ∷ replicate 8 120 ++ replicate 23 0 ++ 97 ∷ replicate 60 120 ++ replicate 35 0)
unfolding entries_of decode holds held free_run every any right_lengths value_fits entry_sound none_shared sound refuse check_sound ◌then◌ check_clock clock_checks check_key key_checks memory_of encode flat call dead same key_of key_is found_from look_up too_late check_lifetime expire_checks expiry_of with_expiry replace_at expire_at expire_found expire_call
v389_expire = refl

-- expire: 7, rounds 0, removed 0
pub v390_expire : expire_call (1 ∷ replicate 25 0) (replicate 128 0) 55 (99 ∷ []) 18446744073709551615 ≡ gave (plain ExpiryTooLate 0) (1 ∷ replicate 25 0) (replicate 128 0)
unfolding entries_of decode holds held free_run every any right_lengths value_fits entry_sound none_shared sound refuse check_sound ◌then◌ check_clock clock_checks check_key key_checks memory_of encode flat call dead same key_of key_is found_from look_up too_late check_lifetime expire_checks expiry_of with_expiry replace_at expire_at expire_found expire_call
v390_expire = refl

-- expire: 4, rounds 0, removed 0
pub v391_expire : expire_call (1 ∷ replicate 25 0) (replicate 128 0) 74 (replicate 65536 107) 30 ≡ gave (plain KeyTooLong 0) (1 ∷ replicate 25 0) (replicate 128 0)
unfolding entries_of decode holds held free_run every any right_lengths value_fits entry_sound none_shared sound refuse check_sound ◌then◌ check_clock clock_checks check_key key_checks memory_of encode flat call dead same key_of key_is found_from look_up too_late check_lifetime expire_checks expiry_of with_expiry replace_at expire_at expire_found expire_call
v391_expire = refl

-- expire: 1, rounds 0, removed 0
pub v392_expire : expire_call (1 ∷ 2 ∷ 98 ∷ 1 ∷ 5 ∷ 1 ∷ 2 ∷ 1 ∷ 0 ∷ 1 ∷ 0 ∷ 0 ∷ 1 ∷ 1 ∷ replicate 12 0) (100 ∷ 1 ∷ replicate 30 0 ++ 98 ∷ 97 ∷ 1 ∷ replicate 94 0) 92 (97 ∷ 98 ∷ []) 0 ≡ gave (plain NotSound 0) (1 ∷ 2 ∷ 98 ∷ 1 ∷ 5 ∷ 1 ∷ 2 ∷ 1 ∷ 0 ∷ 1 ∷ 0 ∷ 0 ∷ 1 ∷ 1 ∷ replicate 12 0) (100 ∷ 1 ∷ replicate 30 0 ++ 98 ∷ 97 ∷ 1 ∷ replicate 94 0)
unfolding entries_of decode holds held free_run every any right_lengths value_fits entry_sound none_shared sound refuse check_sound ◌then◌ check_clock clock_checks check_key key_checks memory_of encode flat call dead same key_of key_is found_from look_up too_late check_lifetime expire_checks expiry_of with_expiry replace_at expire_at expire_found expire_call
v392_expire = refl

-- expire: 0, rounds 0, removed 0
pub v393_expire : expire_call (1 ∷ 1 ∷ 0 ∷ 3 ∷ 4294967295 ∷ 0 ∷ 2 ∷ 8 ∷ replicate 6 0) (98 ∷ 97 ∷ 254 ∷ replicate 6 255 ++ 127 ∷ replicate 54 7) 79 (98 ∷ 97 ∷ []) 18446744073709551536 ≡ gave (plain Done 0) (1 ∷ 1 ∷ 18446744073709551615 ∷ 3 ∷ 4294967295 ∷ 0 ∷ 2 ∷ 8 ∷ replicate 6 0) (98 ∷ 97 ∷ 254 ∷ replicate 6 255 ++ 127 ∷ replicate 54 7)
unfolding entries_of decode holds held free_run every any right_lengths value_fits entry_sound none_shared sound refuse check_sound ◌then◌ check_clock clock_checks check_key key_checks memory_of encode flat call dead same key_of key_is found_from look_up too_late check_lifetime expire_checks expiry_of with_expiry replace_at expire_at expire_found expire_call
v393_expire = refl

-- expire: 8, rounds 0, removed 0
pub v394_expire : expire_call (1 ∷ 3 ∷ 176 ∷ 4 ∷ 0 ∷ 2 ∷ 2 ∷ 30 ∷ 116 ∷ 1 ∷ 5 ∷ 1 ∷ 2 ∷ 1 ∷ 1 ∷ 1 ∷ 0 ∷ 0 ∷ 1 ∷ 1 ∷ replicate 6 0) (98 ∷ 1 ∷ replicate 30 7 ++ 97 ∷ 98 ∷ 1 ∷ replicate 29 7 ++ 98 ∷ 97 ∷ replicate 30 120 ++ replicate 32 7) 166 (98 ∷ []) 5 ≡ gave (plain NotFound 0) (1 ∷ 3 ∷ 176 ∷ 4 ∷ 0 ∷ 2 ∷ 2 ∷ 30 ∷ 116 ∷ 1 ∷ 5 ∷ 1 ∷ 2 ∷ 1 ∷ 1 ∷ 1 ∷ 0 ∷ 0 ∷ 1 ∷ 1 ∷ replicate 6 0) (98 ∷ 1 ∷ replicate 30 7 ++ 97 ∷ 98 ∷ 1 ∷ replicate 29 7 ++ 98 ∷ 97 ∷ replicate 30 120 ++ replicate 32 7)
unfolding entries_of decode holds held free_run every any right_lengths value_fits entry_sound none_shared sound refuse check_sound ◌then◌ check_clock clock_checks check_key key_checks memory_of encode flat call dead same key_of key_is found_from look_up too_late check_lifetime expire_checks expiry_of with_expiry replace_at expire_at expire_found expire_call
v394_expire = refl

-- expire: 8, rounds 0, removed 0
pub v395_expire : expire_call (1 ∷ 1 ∷ 130 ∷ 3 ∷ 5 ∷ 0 ∷ 2 ∷ 8 ∷ replicate 18 0) (98 ∷ 97 ∷ 254 ∷ 118 ∷ 208 ∷ 99 ∷ 237 ∷ 14 ∷ 90 ∷ 109 ∷ replicate 118 0) 150 (97 ∷ []) 0 ≡ gave (plain NotFound 0) (1 ∷ 1 ∷ 130 ∷ 3 ∷ 5 ∷ 0 ∷ 2 ∷ 8 ∷ replicate 18 0) (98 ∷ 97 ∷ 254 ∷ 118 ∷ 208 ∷ 99 ∷ 237 ∷ 14 ∷ 90 ∷ 109 ∷ replicate 118 0)
unfolding entries_of decode holds held free_run every any right_lengths value_fits entry_sound none_shared sound refuse check_sound ◌then◌ check_clock clock_checks check_key key_checks memory_of encode flat call dead same key_of key_is found_from look_up too_late check_lifetime expire_checks expiry_of with_expiry replace_at expire_at expire_found expire_call
v395_expire = refl

-- expire: 1, rounds 0, removed 0
pub v396_expire : expire_call (1 ∷ 2 ∷ 117 ∷ 3 ∷ 4294967295 ∷ 1 ∷ 2 ∷ 8 ∷ 0 ∷ 3 ∷ 0 ∷ 0 ∷ 1 ∷ 8 ∷ []) (99 ∷ 1 ∷ replicate 30 0 ++ 97 ∷ 98 ∷ 50 ∷ 159 ∷ replicate 6 0 ++ replicate 22 7 ++ 0 ∷ []) 117 (98 ∷ 97 ∷ []) 30 ≡ gave (plain NotSound 0) (1 ∷ 2 ∷ 117 ∷ 3 ∷ 4294967295 ∷ 1 ∷ 2 ∷ 8 ∷ 0 ∷ 3 ∷ 0 ∷ 0 ∷ 1 ∷ 8 ∷ []) (99 ∷ 1 ∷ replicate 30 0 ++ 97 ∷ 98 ∷ 50 ∷ 159 ∷ replicate 6 0 ++ replicate 22 7 ++ 0 ∷ [])
unfolding entries_of decode holds held free_run every any right_lengths value_fits entry_sound none_shared sound refuse check_sound ◌then◌ check_clock clock_checks check_key key_checks memory_of encode flat call dead same key_of key_is found_from look_up too_late check_lifetime expire_checks expiry_of with_expiry replace_at expire_at expire_found expire_call
v396_expire = refl

-- expire: 0, rounds 0, removed 0
pub v397_expire : expire_call (1 ∷ 1 ∷ 111 ∷ 1 ∷ 4294967295 ∷ 0 ∷ 1 ∷ 1 ∷ replicate 18 0) (100 ∷ 1 ∷ replicate 126 0) 93 (100 ∷ []) 30 ≡ gave (plain Done 0) (1 ∷ 1 ∷ 123 ∷ 1 ∷ 4294967295 ∷ 0 ∷ 1 ∷ 1 ∷ replicate 18 0) (100 ∷ 1 ∷ replicate 126 0)
unfolding entries_of decode holds held free_run every any right_lengths value_fits entry_sound none_shared sound refuse check_sound ◌then◌ check_clock clock_checks check_key key_checks memory_of encode flat call dead same key_of key_is found_from look_up too_late check_lifetime expire_checks expiry_of with_expiry replace_at expire_at expire_found expire_call
v397_expire = refl

-- expire: 0, rounds 0, removed 0
pub v398_expire : expire_call (1 ∷ 2 ∷ 0 ∷ 3 ∷ 5 ∷ 1 ∷ 2 ∷ 8 ∷ 113 ∷ 1 ∷ 0 ∷ 0 ∷ 1 ∷ 1 ∷ replicate 12 0) (100 ∷ 1 ∷ replicate 30 7 ++ 98 ∷ 97 ∷ replicate 8 0 ++ replicate 86 7) 90 (100 ∷ []) 30 ≡ gave (plain Done 0) (1 ∷ 2 ∷ 0 ∷ 3 ∷ 5 ∷ 1 ∷ 2 ∷ 8 ∷ 120 ∷ 1 ∷ 0 ∷ 0 ∷ 1 ∷ 1 ∷ replicate 12 0) (100 ∷ 1 ∷ replicate 30 7 ++ 98 ∷ 97 ∷ replicate 8 0 ++ replicate 86 7)
unfolding entries_of decode holds held free_run every any right_lengths value_fits entry_sound none_shared sound refuse check_sound ◌then◌ check_clock clock_checks check_key key_checks memory_of encode flat call dead same key_of key_is found_from look_up too_late check_lifetime expire_checks expiry_of with_expiry replace_at expire_at expire_found expire_call
v398_expire = refl

-- expire: 2, rounds 0, removed 0
pub v399_expire : expire_call (1 ∷ 1 ∷ 1 ∷ 1 ∷ 0 ∷ 0 ∷ 1 ∷ 1 ∷ replicate 6 0) (97 ∷ 1 ∷ replicate 62 0) 0 (98 ∷ []) 30 ≡ gave (plain ClockZero 0) (1 ∷ 1 ∷ 1 ∷ 1 ∷ 0 ∷ 0 ∷ 1 ∷ 1 ∷ replicate 6 0) (97 ∷ 1 ∷ replicate 62 0)
unfolding entries_of decode holds held free_run every any right_lengths value_fits entry_sound none_shared sound refuse check_sound ◌then◌ check_clock clock_checks check_key key_checks memory_of encode flat call dead same key_of key_is found_from look_up too_late check_lifetime expire_checks expiry_of with_expiry replace_at expire_at expire_found expire_call
v399_expire = refl

-- expire: 0, rounds 0, removed 0
pub v400_expire : expire_call (1 ∷ 4 ∷ 117 ∷ 4 ∷ 4294967295 ∷ 0 ∷ 1 ∷ 31 ∷ 0 ∷ 1 ∷ 0 ∷ 3 ∷ 1 ∷ 1 ∷ 0 ∷ 3 ∷ 4294967295 ∷ 2 ∷ 2 ∷ 8 ∷ 0 ∷ 3 ∷ 0 ∷ 1 ∷ 1 ∷ 8 ∷ []) (97 ∷ replicate 31 120 ++ 100 ∷ 250 ∷ 165 ∷ 254 ∷ replicate 5 255 ++ replicate 23 7 ++ 97 ∷ 98 ∷ 228 ∷ 62 ∷ replicate 6 0 ++ replicate 22 7 ++ 99 ∷ 1 ∷ replicate 30 7) 112 (99 ∷ []) 18446744073709551503 ≡ gave (plain Done 0) (1 ∷ 4 ∷ 117 ∷ 4 ∷ 4294967295 ∷ 0 ∷ 1 ∷ 31 ∷ 18446744073709551615 ∷ 1 ∷ 0 ∷ 3 ∷ 1 ∷ 1 ∷ 0 ∷ 3 ∷ 4294967295 ∷ 2 ∷ 2 ∷ 8 ∷ 0 ∷ 3 ∷ 0 ∷ 1 ∷ 1 ∷ 8 ∷ []) (97 ∷ replicate 31 120 ++ 100 ∷ 250 ∷ 165 ∷ 254 ∷ replicate 5 255 ++ replicate 23 7 ++ 97 ∷ 98 ∷ 228 ∷ 62 ∷ replicate 6 0 ++ replicate 22 7 ++ 99 ∷ 1 ∷ replicate 30 7)
unfolding entries_of decode holds held free_run every any right_lengths value_fits entry_sound none_shared sound refuse check_sound ◌then◌ check_clock clock_checks check_key key_checks memory_of encode flat call dead same key_of key_is found_from look_up too_late check_lifetime expire_checks expiry_of with_expiry replace_at expire_at expire_found expire_call
v400_expire = refl

-- expire: 8, rounds 0, removed 0
pub v401_expire : expire_call (1 ∷ 3 ∷ 112 ∷ 3 ∷ 5 ∷ 3 ∷ 2 ∷ 8 ∷ 111 ∷ 3 ∷ 0 ∷ 2 ∷ 1 ∷ 8 ∷ 112 ∷ 4 ∷ 4294967295 ∷ 0 ∷ 1 ∷ 40 ∷ replicate 6 0) (98 ∷ replicate 40 120 ++ replicate 23 0 ++ 97 ∷ 103 ∷ 97 ∷ replicate 6 255 ++ replicate 23 0 ++ 97 ∷ 98 ∷ 62 ∷ 61 ∷ 1 ∷ replicate 27 0) 143 (97 ∷ 98 ∷ []) 0 ≡ gave (plain NotFound 0) (1 ∷ 3 ∷ 112 ∷ 3 ∷ 5 ∷ 3 ∷ 2 ∷ 8 ∷ 111 ∷ 3 ∷ 0 ∷ 2 ∷ 1 ∷ 8 ∷ 112 ∷ 4 ∷ 4294967295 ∷ 0 ∷ 1 ∷ 40 ∷ replicate 6 0) (98 ∷ replicate 40 120 ++ replicate 23 0 ++ 97 ∷ 103 ∷ 97 ∷ replicate 6 255 ++ replicate 23 0 ++ 97 ∷ 98 ∷ 62 ∷ 61 ∷ 1 ∷ replicate 27 0)
unfolding entries_of decode holds held free_run every any right_lengths value_fits entry_sound none_shared sound refuse check_sound ◌then◌ check_clock clock_checks check_key key_checks memory_of encode flat call dead same key_of key_is found_from look_up too_late check_lifetime expire_checks expiry_of with_expiry replace_at expire_at expire_found expire_call
v401_expire = refl

-- expire: 8, rounds 0, removed 0
pub v402_expire : expire_call (1 ∷ 1 ∷ 1 ∷ 1 ∷ 4294967295 ∷ 0 ∷ 1 ∷ 1 ∷ replicate 18 0) (100 ∷ 1 ∷ replicate 126 0) 71 (100 ∷ []) 30 ≡ gave (plain NotFound 0) (1 ∷ 1 ∷ 1 ∷ 1 ∷ 4294967295 ∷ 0 ∷ 1 ∷ 1 ∷ replicate 18 0) (100 ∷ 1 ∷ replicate 126 0)
unfolding entries_of decode holds held free_run every any right_lengths value_fits entry_sound none_shared sound refuse check_sound ◌then◌ check_clock clock_checks check_key key_checks memory_of encode flat call dead same key_of key_is found_from look_up too_late check_lifetime expire_checks expiry_of with_expiry replace_at expire_at expire_found expire_call
v402_expire = refl

-- expire: 8, rounds 0, removed 0
pub v403_expire : expire_call (1 ∷ 2 ∷ 1 ∷ 3 ∷ 0 ∷ 1 ∷ 3 ∷ 8 ∷ 126 ∷ 3 ∷ 0 ∷ 0 ∷ 1 ∷ 8 ∷ replicate 12 0) (98 ∷ replicate 31 0 ++ 97 ∷ 98 ∷ 99 ∷ 127 ∷ 204 ∷ 254 ∷ replicate 5 255 ++ replicate 85 0) 98 (97 ∷ 98 ∷ 99 ∷ []) 5 ≡ gave (plain NotFound 0) (1 ∷ 2 ∷ 1 ∷ 3 ∷ 0 ∷ 1 ∷ 3 ∷ 8 ∷ 126 ∷ 3 ∷ 0 ∷ 0 ∷ 1 ∷ 8 ∷ replicate 12 0) (98 ∷ replicate 31 0 ++ 97 ∷ 98 ∷ 99 ∷ 127 ∷ 204 ∷ 254 ∷ replicate 5 255 ++ replicate 85 0)
unfolding entries_of decode holds held free_run every any right_lengths value_fits entry_sound none_shared sound refuse check_sound ◌then◌ check_clock clock_checks check_key key_checks memory_of encode flat call dead same key_of key_is found_from look_up too_late check_lifetime expire_checks expiry_of with_expiry replace_at expire_at expire_found expire_call
v403_expire = refl

-- flush_all: 0, rounds 0, removed 0
pub v404_flush_all : flush_all_call (1 ∷ 2 ∷ 0 ∷ 4 ∷ 5 ∷ 1 ∷ 1 ∷ 1 ∷ 155 ∷ 4 ∷ 0 ∷ 0 ∷ 1 ∷ 8 ∷ []) (98 ∷ replicate 8 120 ++ replicate 23 0 ++ 99 ∷ 120 ∷ replicate 30 0) ≡ gave (plain Done 0) (1 ∷ 2 ∷ 1 ∷ 4 ∷ 5 ∷ 1 ∷ 1 ∷ 1 ∷ 1 ∷ 4 ∷ 0 ∷ 0 ∷ 1 ∷ 8 ∷ []) (98 ∷ replicate 8 120 ++ replicate 23 0 ++ 99 ∷ 120 ∷ replicate 30 0)
unfolding entries_of decode holds held free_run every any right_lengths value_fits entry_sound none_shared sound refuse check_sound memory_of encode flat call with_expiry flush_all_work flush_all_call
v404_flush_all = refl

-- flush_all: 0, rounds 0, removed 0
pub v405_flush_all : flush_all_call (1 ∷ replicate 13 0) (replicate 64 0) ≡ gave (plain Done 0) (1 ∷ replicate 13 0) (replicate 64 0)
unfolding entries_of decode holds held free_run every any right_lengths value_fits entry_sound none_shared sound refuse check_sound memory_of encode flat call with_expiry flush_all_work flush_all_call
v405_flush_all = refl

-- flush_all: 0, rounds 0, removed 0
pub v406_flush_all : flush_all_call (1 ∷ 1 ∷ 76 ∷ 3 ∷ 4294967295 ∷ 0 ∷ 1 ∷ 8 ∷ replicate 6 0) (99 ∷ 6 ∷ 112 ∷ 29 ∷ 178 ∷ 156 ∷ 171 ∷ 220 ∷ 219 ∷ replicate 55 0) ≡ gave (plain Done 0) (1 ∷ 1 ∷ 1 ∷ 3 ∷ 4294967295 ∷ 0 ∷ 1 ∷ 8 ∷ replicate 6 0) (99 ∷ 6 ∷ 112 ∷ 29 ∷ 178 ∷ 156 ∷ 171 ∷ 220 ∷ 219 ∷ replicate 55 0)
unfolding entries_of decode holds held free_run every any right_lengths value_fits entry_sound none_shared sound refuse check_sound memory_of encode flat call with_expiry flush_all_work flush_all_call
v406_flush_all = refl

-- flush_all: 0, rounds 0, removed 0
pub v407_flush_all : flush_all_call (1 ∷ 1 ∷ 0 ∷ 3 ∷ 4294967295 ∷ 0 ∷ 3 ∷ 8 ∷ []) (97 ∷ 98 ∷ 99 ∷ 97 ∷ 199 ∷ 254 ∷ replicate 5 255 ++ replicate 21 0) ≡ gave (plain Done 0) (1 ∷ 1 ∷ 1 ∷ 3 ∷ 4294967295 ∷ 0 ∷ 3 ∷ 8 ∷ []) (97 ∷ 98 ∷ 99 ∷ 97 ∷ 199 ∷ 254 ∷ replicate 5 255 ++ replicate 21 0)
unfolding entries_of decode holds held free_run every any right_lengths value_fits entry_sound none_shared sound refuse check_sound memory_of encode flat call with_expiry flush_all_work flush_all_call
v407_flush_all = refl
