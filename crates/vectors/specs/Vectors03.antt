-- Calls that the second program (second/) made, computed once more by the definitions: the whole answer, all words and all bytes.
-- Written by `cargo run --release --offline --bin vectors` in sessions/, not by hand.
use Rattle.std.specs.Prelude.{◌≡◌, refl, true, false, [], ◌∷◌, ◌++◌, replicate, pos, negsuc, None}
use Rattle.rules.specs.declared.Outcome.TheVariants.{Done, NotSound, ClockZero, KeyEmpty, KeyTooLong, KindUnknown, ExpiryTooLate, NoMemory}
use Rattle.rules.specs.declared.Operation.TheVariants.{Set}
use Rattle.rules.specs.Layout.{encode, decode, flat, entries_of, without, to_front, put, key_of, value_bytes, number_bytes, memory_of, wiped, remove, remove_oldest}
use Rattle.rules.specs.Time.{dead, expiry_of, too_late}
use Rattle.rules.specs.LookUp.{same, key_is, found_from, look_up}
use Rattle.rules.specs.Recency.{deads, after, gone, any_live, sweep_count, sweep}
use Rattle.rules.specs.Place.{holds, held, free_run, fit_from, first_free, run}
use Rattle.rules.specs.Soundness.{every, any, right_lengths, value_fits, entry_sound, none_shared, sound}
use Rattle.rules.specs.Answer.{plain}
use Rattle.rules.specs.Checks.{◌then◌, refuse, check_sound, check_clock, check_key, check_kind, takes_nil, check_nil, check_lifetime, clock_checks, key_checks, store_checks}
use Rattle.rules.specs.Calls.{gave, call, after_sweep, delete_found, entry_for, place_at, rewrite_at, overwrite_at, searched, is_placed, if_room, evicted, forced_by, fit_outcome, place_fit, placed_by, place_anew, store_over, store_item, most_rounds, admits, boolean_byte, value_given, store_admitted, store_found, store_work, item_of, store_call, bytes_start, bytes_at_call, text_found, show_found, text_or, show_call}

-- the same: start
pub v118_start : bytes_start (100 ∷ replicate 8 120 ++ replicate 55 0) 0 9 ≡ 0
unfolding bytes_start bytes_at_call
v118_start = refl

-- bytes_at: 0 bytes
pub v119_bytes_at : bytes_at_call (replicate 128 7) 5 129 ≡ []
unfolding bytes_start bytes_at_call
v119_bytes_at = refl

-- the same: start
pub v119_start : bytes_start (replicate 128 7) 5 129 ≡ 0
unfolding bytes_start bytes_at_call
v119_start = refl

-- bytes_at: 0 bytes
pub v120_bytes_at : bytes_at_call (100 ∷ 120 ∷ replicate 30 0) 32 32 ≡ []
unfolding bytes_start bytes_at_call
v120_bytes_at = refl

-- the same: start
pub v120_start : bytes_start (100 ∷ 120 ∷ replicate 30 0) 32 32 ≡ 0
unfolding bytes_start bytes_at_call
v120_start = refl

-- bytes_at: 0 bytes
pub v121_bytes_at : bytes_at_call (100 ∷ replicate 31 0 ++ 98 ∷ 6 ∷ 212 ∷ replicate 6 255 ++ replicate 23 0 ++ 97 ∷ 98 ∷ replicate 33 120 ++ replicate 29 0) 18446744073709551615 9 ≡ []
unfolding bytes_start bytes_at_call
v121_bytes_at = refl

-- the same: start
pub v121_start : bytes_start (100 ∷ replicate 31 0 ++ 98 ∷ 6 ∷ 212 ∷ replicate 6 255 ++ replicate 23 0 ++ 97 ∷ 98 ∷ replicate 33 120 ++ replicate 29 0) 18446744073709551615 9 ≡ 0
unfolding bytes_start bytes_at_call
v121_start = refl

-- bytes_at: 1 bytes
pub v122_bytes_at : bytes_at_call (replicate 32 7) 0 1 ≡ (7 ∷ [])
unfolding bytes_start bytes_at_call
v122_bytes_at = refl

-- the same: start
pub v122_start : bytes_start (replicate 32 7) 0 1 ≡ 0
unfolding bytes_start bytes_at_call
v122_start = refl

-- bytes_at: 0 bytes
pub v123_bytes_at : bytes_at_call (98 ∷ 97 ∷ 1 ∷ replicate 61 0) 18446744073709551615 0 ≡ []
unfolding bytes_start bytes_at_call
v123_bytes_at = refl

-- the same: start
pub v123_start : bytes_start (98 ∷ 97 ∷ 1 ∷ replicate 61 0) 18446744073709551615 0 ≡ 0
unfolding bytes_start bytes_at_call
v123_start = refl

-- bytes_at: 0 bytes
pub v124_bytes_at : bytes_at_call (97 ∷ 1 ∷ replicate 30 0) 0 0 ≡ []
unfolding bytes_start bytes_at_call
v124_bytes_at = refl

-- the same: start
pub v124_start : bytes_start (97 ∷ 1 ∷ replicate 30 0) 0 0 ≡ 0
unfolding bytes_start bytes_at_call
v124_start = refl

-- bytes_at: 0 bytes
pub v125_bytes_at : bytes_at_call (replicate 128 7) 5 0 ≡ []
unfolding bytes_start bytes_at_call
v125_bytes_at = refl

-- the same: start
pub v125_start : bytes_start (replicate 128 7) 5 0 ≡ 5
unfolding bytes_start bytes_at_call
v125_start = refl

-- bytes_at: 32 bytes
pub v126_bytes_at : bytes_at_call (replicate 32 0) 0 32 ≡ (replicate 32 0)
unfolding bytes_start bytes_at_call
v126_bytes_at = refl

-- the same: start
pub v126_start : bytes_start (replicate 32 0) 0 32 ≡ 0
unfolding bytes_start bytes_at_call
v126_start = refl

-- bytes_at: 0 bytes
pub v127_bytes_at : bytes_at_call (replicate 64 0) 64 0 ≡ []
unfolding bytes_start bytes_at_call
v127_bytes_at = refl

-- the same: start
pub v127_start : bytes_start (replicate 64 0) 64 0 ≡ 64
unfolding bytes_start bytes_at_call
v127_start = refl

-- bytes_at: 0 bytes
pub v128_bytes_at : bytes_at_call [] 0 0 ≡ []
unfolding bytes_start bytes_at_call
v128_bytes_at = refl

-- the same: start
pub v128_start : bytes_start [] 0 0 ≡ 0
unfolding bytes_start bytes_at_call
v128_start = refl

-- show: the notice
pub v129_show : show_call (1 ∷ 1 ∷ 1 ∷ 4 ∷ 5 ∷ 0 ∷ 1 ∷ 30 ∷ []) (100 ∷ replicate 30 120 ++ 0 ∷ []) 118 (98 ∷ 97 ∷ []) (110 ∷ 111 ∷ 32 ∷ 116 ∷ 101 ∷ 120 ∷ 116 ∷ []) ≡ (110 ∷ 111 ∷ 32 ∷ 116 ∷ 101 ∷ 120 ∷ 116 ∷ [])
unfolding entries_of decode holds held free_run every any right_lengths value_fits entry_sound none_shared sound refuse check_sound ◌then◌ check_clock clock_checks check_key key_checks dead same key_of key_is found_from look_up memory_of value_bytes text_found show_found text_or show_call
v129_show = refl

-- show: the notice
pub v130_show : show_call (1 ∷ replicate 25 0) (replicate 128 7) 54 (98 ∷ []) (110 ∷ 111 ∷ 32 ∷ 116 ∷ 101 ∷ 120 ∷ 116 ∷ []) ≡ (110 ∷ 111 ∷ 32 ∷ 116 ∷ 101 ∷ 120 ∷ 116 ∷ [])
unfolding entries_of decode holds held free_run every any right_lengths value_fits entry_sound none_shared sound refuse check_sound ◌then◌ check_clock clock_checks check_key key_checks dead same key_of key_is found_from look_up memory_of value_bytes text_found show_found text_or show_call
v130_show = refl

-- show: the notice
pub v131_show : show_call (1 ∷ 2 ∷ 122 ∷ 1 ∷ 5 ∷ 1 ∷ 1 ∷ 1 ∷ 0 ∷ 3 ∷ 4294967295 ∷ 0 ∷ 1 ∷ 8 ∷ []) (98 ∷ 29 ∷ 113 ∷ replicate 6 255 ++ replicate 23 0 ++ 100 ∷ 1 ∷ replicate 30 0) 127 (98 ∷ 97 ∷ []) (110 ∷ 111 ∷ 32 ∷ 116 ∷ 101 ∷ 120 ∷ 116 ∷ []) ≡ (110 ∷ 111 ∷ 32 ∷ 116 ∷ 101 ∷ 120 ∷ 116 ∷ [])
unfolding entries_of decode holds held free_run every any right_lengths value_fits entry_sound none_shared sound refuse check_sound ◌then◌ check_clock clock_checks check_key key_checks dead same key_of key_is found_from look_up memory_of value_bytes text_found show_found text_or show_call
v131_show = refl

-- show: the text
pub v132_show : show_call (1 ∷ 4 ∷ 0 ∷ 3 ∷ 0 ∷ 3 ∷ 1 ∷ 8 ∷ 156 ∷ 1 ∷ 0 ∷ 2 ∷ 2 ∷ 1 ∷ 126 ∷ 3 ∷ 5 ∷ 1 ∷ 1 ∷ 8 ∷ 107 ∷ 4 ∷ 0 ∷ 0 ∷ 3 ∷ 8 ∷ []) (97 ∷ 98 ∷ 99 ∷ replicate 8 120 ++ replicate 21 7 ++ 98 ∷ 1 ∷ replicate 7 0 ++ replicate 23 7 ++ 97 ∷ 98 ∷ 1 ∷ replicate 29 7 ++ 97 ∷ 2 ∷ 231 ∷ replicate 6 255 ++ replicate 23 7) 101 (97 ∷ 98 ∷ 99 ∷ []) (110 ∷ 111 ∷ 32 ∷ 116 ∷ 101 ∷ 120 ∷ 116 ∷ []) ≡ (replicate 8 120)
unfolding entries_of decode holds held free_run every any right_lengths value_fits entry_sound none_shared sound refuse check_sound ◌then◌ check_clock clock_checks check_key key_checks dead same key_of key_is found_from look_up memory_of value_bytes text_found show_found text_or show_call
v132_show = refl

-- show: the notice
pub v133_show : show_call (1 ∷ 3 ∷ 0 ∷ 1 ∷ 5 ∷ 3 ∷ 1 ∷ 1 ∷ 83 ∷ 1 ∷ 4294967295 ∷ 1 ∷ 1 ∷ 1 ∷ 0 ∷ 3 ∷ 4294967295 ∷ 0 ∷ 1 ∷ 8 ∷ replicate 6 0) (99 ∷ 56 ∷ 204 ∷ replicate 6 0 ++ replicate 23 7 ++ 100 ∷ 1 ∷ replicate 30 7 ++ replicate 32 0 ++ 99 ∷ 1 ∷ replicate 30 7) 88 (99 ∷ []) (110 ∷ 111 ∷ 32 ∷ 116 ∷ 101 ∷ 120 ∷ 116 ∷ []) ≡ (110 ∷ 111 ∷ 32 ∷ 116 ∷ 101 ∷ 120 ∷ 116 ∷ [])
unfolding entries_of decode holds held free_run every any right_lengths value_fits entry_sound none_shared sound refuse check_sound ◌then◌ check_clock clock_checks check_key key_checks dead same key_of key_is found_from look_up memory_of value_bytes text_found show_found text_or show_call
v133_show = refl

-- show: the notice
pub v134_show : show_call (1 ∷ 1 ∷ 130 ∷ 4 ∷ 4294967295 ∷ 0 ∷ 1 ∷ 0 ∷ []) (97 ∷ replicate 31 0) 150 (97 ∷ []) (110 ∷ 111 ∷ 32 ∷ 116 ∷ 101 ∷ 120 ∷ 116 ∷ []) ≡ (110 ∷ 111 ∷ 32 ∷ 116 ∷ 101 ∷ 120 ∷ 116 ∷ [])
unfolding entries_of decode holds held free_run every any right_lengths value_fits entry_sound none_shared sound refuse check_sound ◌then◌ check_clock clock_checks check_key key_checks dead same key_of key_is found_from look_up memory_of value_bytes text_found show_found text_or show_call
v134_show = refl

-- show: the text
pub v135_show : show_call (1 ∷ 2 ∷ 0 ∷ 4 ∷ 0 ∷ 0 ∷ 1 ∷ 30 ∷ 0 ∷ 1 ∷ 5 ∷ 3 ∷ 2 ∷ 1 ∷ replicate 12 0) (99 ∷ replicate 30 120 ++ replicate 65 0 ++ 97 ∷ 98 ∷ 1 ∷ replicate 29 7) 85 (99 ∷ []) (110 ∷ 111 ∷ 32 ∷ 116 ∷ 101 ∷ 120 ∷ 116 ∷ []) ≡ (replicate 30 120)
unfolding entries_of decode holds held free_run every any right_lengths value_fits entry_sound none_shared sound refuse check_sound ◌then◌ check_clock clock_checks check_key key_checks dead same key_of key_is found_from look_up memory_of value_bytes text_found show_found text_or show_call
v135_show = refl

-- show: the text
pub v136_show : show_call (1 ∷ 1 ∷ 113 ∷ 4 ∷ 4294967295 ∷ 0 ∷ 3 ∷ 8 ∷ []) (97 ∷ 98 ∷ 99 ∷ replicate 8 120 ++ replicate 21 0) 107 (97 ∷ 98 ∷ 99 ∷ []) (110 ∷ 111 ∷ 32 ∷ 116 ∷ 101 ∷ 120 ∷ 116 ∷ []) ≡ (replicate 8 120)
unfolding entries_of decode holds held free_run every any right_lengths value_fits entry_sound none_shared sound refuse check_sound ◌then◌ check_clock clock_checks check_key key_checks dead same key_of key_is found_from look_up memory_of value_bytes text_found show_found text_or show_call
v136_show = refl

-- show: the notice
pub v137_show : show_call (1 ∷ 2 ∷ 104 ∷ 4 ∷ 0 ∷ 0 ∷ 1 ∷ 0 ∷ 0 ∷ 4 ∷ 4294967295 ∷ 1 ∷ 1 ∷ 1 ∷ []) (100 ∷ replicate 31 0 ++ 97 ∷ 120 ∷ replicate 30 0) 124 (100 ∷ []) (110 ∷ 111 ∷ 32 ∷ 116 ∷ 101 ∷ 120 ∷ 116 ∷ []) ≡ (110 ∷ 111 ∷ 32 ∷ 116 ∷ 101 ∷ 120 ∷ 116 ∷ [])
unfolding entries_of decode holds held free_run every any right_lengths value_fits entry_sound none_shared sound refuse check_sound ◌then◌ check_clock clock_checks check_key key_checks dead same key_of key_is found_from look_up memory_of value_bytes text_found show_found text_or show_call
v137_show = refl

-- show: the notice
pub v138_show : show_call (1 ∷ 2 ∷ 0 ∷ 3 ∷ 4294967295 ∷ 1 ∷ 1 ∷ 8 ∷ 0 ∷ 3 ∷ 4294967295 ∷ 0 ∷ 2 ∷ 8 ∷ []) (98 ∷ 97 ∷ 47 ∷ 151 ∷ replicate 28 0 ++ 98 ∷ 1 ∷ replicate 30 0) 135 (98 ∷ []) (110 ∷ 111 ∷ 32 ∷ 116 ∷ 101 ∷ 120 ∷ 116 ∷ []) ≡ (110 ∷ 111 ∷ 32 ∷ 116 ∷ 101 ∷ 120 ∷ 116 ∷ [])
unfolding entries_of decode holds held free_run every any right_lengths value_fits entry_sound none_shared sound refuse check_sound ◌then◌ check_clock clock_checks check_key key_checks dead same key_of key_is found_from look_up memory_of value_bytes text_found show_found text_or show_call
v138_show = refl

-- show: the notice
pub v139_show : show_call (1 ∷ 1 ∷ 93 ∷ 3 ∷ 0 ∷ 0 ∷ 2 ∷ 8 ∷ []) (98 ∷ 97 ∷ 82 ∷ 215 ∷ replicate 6 255 ++ replicate 22 0) 113 (98 ∷ 97 ∷ []) (110 ∷ 111 ∷ 32 ∷ 116 ∷ 101 ∷ 120 ∷ 116 ∷ []) ≡ (110 ∷ 111 ∷ 32 ∷ 116 ∷ 101 ∷ 120 ∷ 116 ∷ [])
unfolding entries_of decode holds held free_run every any right_lengths value_fits entry_sound none_shared sound refuse check_sound ◌then◌ check_clock clock_checks check_key key_checks dead same key_of key_is found_from look_up memory_of value_bytes text_found show_found text_or show_call
v139_show = refl

-- show: the text
pub v140_show : show_call (1 ∷ 2 ∷ 0 ∷ 1 ∷ 0 ∷ 1 ∷ 1 ∷ 1 ∷ 0 ∷ 4 ∷ 4294967295 ∷ 0 ∷ 1 ∷ 8 ∷ replicate 12 0) (97 ∷ replicate 8 120 ++ replicate 23 0 ++ 98 ∷ 1 ∷ replicate 94 0) 85 (97 ∷ []) (110 ∷ 111 ∷ 32 ∷ 116 ∷ 101 ∷ 120 ∷ 116 ∷ []) ≡ (replicate 8 120)
unfolding entries_of decode holds held free_run every any right_lengths value_fits entry_sound none_shared sound refuse check_sound ◌then◌ check_clock clock_checks check_key key_checks dead same key_of key_is found_from look_up memory_of value_bytes text_found show_found text_or show_call
v140_show = refl

-- show: the notice
pub v141_show : show_call (1 ∷ 3 ∷ 102 ∷ 1 ∷ 0 ∷ 2 ∷ 1 ∷ 1 ∷ 0 ∷ 3 ∷ 4294967295 ∷ 1 ∷ 2 ∷ 8 ∷ 132 ∷ 3 ∷ 0 ∷ 0 ∷ 2 ∷ 8 ∷ replicate 6 0) (97 ∷ 98 ∷ 137 ∷ 46 ∷ replicate 6 255 ++ replicate 22 0 ++ 98 ∷ 97 ∷ 1 ∷ replicate 29 0 ++ 98 ∷ 1 ∷ replicate 62 0) 102 (98 ∷ []) (110 ∷ 111 ∷ 32 ∷ 116 ∷ 101 ∷ 120 ∷ 116 ∷ []) ≡ (110 ∷ 111 ∷ 32 ∷ 116 ∷ 101 ∷ 120 ∷ 116 ∷ [])
unfolding entries_of decode holds held free_run every any right_lengths value_fits entry_sound none_shared sound refuse check_sound ◌then◌ check_clock clock_checks check_key key_checks dead same key_of key_is found_from look_up memory_of value_bytes text_found show_found text_or show_call
v141_show = refl

-- set: 0, rounds 0, removed 0
pub v142_set : store_call Set (1 ∷ replicate 13 0) (replicate 64 0) 82 (100 ∷ []) 1 (pos 1168641184035937621) (replicate 130 120) 18446744073709551533 4294967295 ≡ gave (plain Done 0) (1 ∷ 1 ∷ 18446744073709551615 ∷ 1 ∷ 4294967295 ∷ 0 ∷ 1 ∷ 1 ∷ replicate 6 0) (100 ∷ 1 ∷ replicate 62 0)
unfolding entries_of decode holds held free_run every any right_lengths value_fits entry_sound none_shared sound refuse check_sound ◌then◌ check_clock clock_checks check_key key_checks memory_of encode flat call dead same key_of key_is found_from look_up deads without put wiped remove remove_oldest sweep_count sweep after_sweep expiry_of entry_for place_at to_front rewrite_at overwrite_at after gone any_live fit_from first_free run searched is_placed if_room evicted forced_by fit_outcome place_fit placed_by place_anew store_over store_item most_rounds boolean_byte number_bytes value_given item_of check_kind takes_nil check_nil too_late check_lifetime store_checks admits delete_found store_admitted store_found store_work store_call
v142_set = refl

-- set: 2, rounds 0, removed 0
pub v143_set : store_call Set (1 ∷ 1 ∷ 150 ∷ 3 ∷ 0 ∷ 0 ∷ 1 ∷ 8 ∷ replicate 18 0) (100 ∷ 245 ∷ 95 ∷ 194 ∷ 168 ∷ 73 ∷ 56 ∷ 85 ∷ 77 ∷ replicate 55 0 ++ replicate 64 7) 0 (97 ∷ []) 2 (negsuc 1837187480588104838) (replicate 40 120) 18446744073709551615 0 ≡ gave (plain ClockZero 0) (1 ∷ 1 ∷ 150 ∷ 3 ∷ 0 ∷ 0 ∷ 1 ∷ 8 ∷ replicate 18 0) (100 ∷ 245 ∷ 95 ∷ 194 ∷ 168 ∷ 73 ∷ 56 ∷ 85 ∷ 77 ∷ replicate 55 0 ++ replicate 64 7)
unfolding entries_of decode holds held free_run every any right_lengths value_fits entry_sound none_shared sound refuse check_sound ◌then◌ check_clock clock_checks check_key key_checks memory_of encode flat call dead same key_of key_is found_from look_up deads without put wiped remove remove_oldest sweep_count sweep after_sweep expiry_of entry_for place_at to_front rewrite_at overwrite_at after gone any_live fit_from first_free run searched is_placed if_room evicted forced_by fit_outcome place_fit placed_by place_anew store_over store_item most_rounds boolean_byte number_bytes value_given item_of check_kind takes_nil check_nil too_late check_lifetime store_checks admits delete_found store_admitted store_found store_work store_call
v143_set = refl

-- set: 4, rounds 0, removed 0
pub v144_set : store_call Set (1 ∷ 1 ∷ 0 ∷ 3 ∷ 5 ∷ 0 ∷ 1 ∷ 8 ∷ []) (98 ∷ 1 ∷ replicate 30 0) 94 (replicate 65536 107) 4 (negsuc 23458) (120 ∷ []) 30 4294967295 ≡ gave (plain KeyTooLong 0) (1 ∷ 1 ∷ 0 ∷ 3 ∷ 5 ∷ 0 ∷ 1 ∷ 8 ∷ []) (98 ∷ 1 ∷ replicate 30 0)
unfolding entries_of decode holds held free_run every any right_lengths value_fits entry_sound none_shared sound refuse check_sound ◌then◌ check_clock clock_checks check_key key_checks memory_of encode flat call dead same key_of key_is found_from look_up deads without put wiped remove remove_oldest sweep_count sweep after_sweep expiry_of entry_for place_at to_front rewrite_at overwrite_at after gone any_live fit_from first_free run searched is_placed if_room evicted forced_by fit_outcome place_fit placed_by place_anew store_over store_item most_rounds boolean_byte number_bytes value_given item_of check_kind takes_nil check_nil too_late check_lifetime store_checks admits delete_found store_admitted store_found store_work store_call
v144_set = refl

-- set: 0, rounds 0, removed 1
pub v145_set : store_call Set (1 ∷ 1 ∷ 1 ∷ 3 ∷ 5 ∷ 0 ∷ 2 ∷ 8 ∷ []) (98 ∷ 97 ∷ 13 ∷ 51 ∷ 235 ∷ 131 ∷ 197 ∷ 45 ∷ 50 ∷ 197 ∷ replicate 22 7) 91 (98 ∷ []) 3 (negsuc 835144126381777092) (replicate 40 120) 30 0 ≡ gave (plain Done 1) (1 ∷ 1 ∷ 121 ∷ 3 ∷ 0 ∷ 0 ∷ 1 ∷ 8 ∷ []) (98 ∷ 59 ∷ 159 ∷ 194 ∷ 130 ∷ 215 ∷ 248 ∷ 104 ∷ 244 ∷ replicate 23 0)
unfolding entries_of decode holds held free_run every any right_lengths value_fits entry_sound none_shared sound refuse check_sound ◌then◌ check_clock clock_checks check_key key_checks memory_of encode flat call dead same key_of key_is found_from look_up deads without put wiped remove remove_oldest sweep_count sweep after_sweep expiry_of entry_for place_at to_front rewrite_at overwrite_at after gone any_live fit_from first_free run searched is_placed if_room evicted forced_by fit_outcome place_fit placed_by place_anew store_over store_item most_rounds boolean_byte number_bytes value_given item_of check_kind takes_nil check_nil too_late check_lifetime store_checks admits delete_found store_admitted store_found store_work store_call
v145_set = refl

-- set: 1, rounds 0, removed 0
pub v146_set : store_call Set (1 ∷ 1 ∷ 0 ∷ 1 ∷ 4294967295 ∷ 0 ∷ 1 ∷ 18446744073709551615 ∷ replicate 6 0) (99 ∷ 1 ∷ replicate 62 7) 112 (97 ∷ 98 ∷ []) 255 (negsuc 16261) (120 ∷ []) 30 0 ≡ gave (plain NotSound 0) (1 ∷ 1 ∷ 0 ∷ 1 ∷ 4294967295 ∷ 0 ∷ 1 ∷ 18446744073709551615 ∷ replicate 6 0) (99 ∷ 1 ∷ replicate 62 7)
unfolding entries_of decode holds held free_run every any right_lengths value_fits entry_sound none_shared sound refuse check_sound ◌then◌ check_clock clock_checks check_key key_checks memory_of encode flat call dead same key_of key_is found_from look_up deads without put wiped remove remove_oldest sweep_count sweep after_sweep expiry_of entry_for place_at to_front rewrite_at overwrite_at after gone any_live fit_from first_free run searched is_placed if_room evicted forced_by fit_outcome place_fit placed_by place_anew store_over store_item most_rounds boolean_byte number_bytes value_given item_of check_kind takes_nil check_nil too_late check_lifetime store_checks admits delete_found store_admitted store_found store_work store_call
v146_set = refl

-- set: 1, rounds 0, removed 0
pub v147_set : store_call Set (1 ∷ 0 ∷ 0 ∷ 0 ∷ 18446744073709551615 ∷ replicate 21 0) (replicate 128 0) 100 [] 0 (negsuc 8522) (replicate 33 120) 18446744073709551515 4294967295 ≡ gave (plain NotSound 0) (1 ∷ 0 ∷ 0 ∷ 0 ∷ 18446744073709551615 ∷ replicate 21 0) (replicate 128 0)
unfolding entries_of decode holds held free_run every any right_lengths value_fits entry_sound none_shared sound refuse check_sound ◌then◌ check_clock clock_checks check_key key_checks memory_of encode flat call dead same key_of key_is found_from look_up deads without put wiped remove remove_oldest sweep_count sweep after_sweep expiry_of entry_for place_at to_front rewrite_at overwrite_at after gone any_live fit_from first_free run searched is_placed if_room evicted forced_by fit_outcome place_fit placed_by place_anew store_over store_item most_rounds boolean_byte number_bytes value_given item_of check_kind takes_nil check_nil too_late check_lifetime store_checks admits delete_found store_admitted store_found store_work store_call
v147_set = refl

-- set: 7, rounds 0, removed 0
pub v148_set : store_call Set (1 ∷ 2 ∷ 152 ∷ 4 ∷ 5 ∷ 1 ∷ 2 ∷ 31 ∷ 0 ∷ 1 ∷ 5 ∷ 0 ∷ 1 ∷ 1 ∷ replicate 12 0) (97 ∷ 1 ∷ replicate 30 0 ++ 97 ∷ 98 ∷ replicate 31 120 ++ replicate 58 0 ++ 16 ∷ 0 ∷ 0 ∷ 0 ∷ 0 ∷ []) 132 (97 ∷ 98 ∷ []) 4 (negsuc 3490) (replicate 40 120) 18446744073709551615 0 ≡ gave (plain ExpiryTooLate 0) (1 ∷ 2 ∷ 152 ∷ 4 ∷ 5 ∷ 1 ∷ 2 ∷ 31 ∷ 0 ∷ 1 ∷ 5 ∷ 0 ∷ 1 ∷ 1 ∷ replicate 12 0) (97 ∷ 1 ∷ replicate 30 0 ++ 97 ∷ 98 ∷ replicate 31 120 ++ replicate 58 0 ++ 16 ∷ 0 ∷ 0 ∷ 0 ∷ 0 ∷ [])
unfolding entries_of decode holds held free_run every any right_lengths value_fits entry_sound none_shared sound refuse check_sound ◌then◌ check_clock clock_checks check_key key_checks memory_of encode flat call dead same key_of key_is found_from look_up deads without put wiped remove remove_oldest sweep_count sweep after_sweep expiry_of entry_for place_at to_front rewrite_at overwrite_at after gone any_live fit_from first_free run searched is_placed if_room evicted forced_by fit_outcome place_fit placed_by place_anew store_over store_item most_rounds boolean_byte number_bytes value_given item_of check_kind takes_nil check_nil too_late check_lifetime store_checks admits delete_found store_admitted store_found store_work store_call
v148_set = refl

-- set: 3, rounds 0, removed 0
pub v149_set : store_call Set (1 ∷ 3 ∷ 0 ∷ 1 ∷ 4294967295 ∷ 1 ∷ 1 ∷ 1 ∷ 150 ∷ 1 ∷ 0 ∷ 3 ∷ 1 ∷ 1 ∷ 0 ∷ 3 ∷ 4294967295 ∷ 0 ∷ 1 ∷ 8 ∷ replicate 6 0) (100 ∷ 254 ∷ replicate 6 255 ++ 127 ∷ replicate 23 0 ++ 99 ∷ 1 ∷ replicate 62 0 ++ 97 ∷ 1 ∷ replicate 30 0) 100 [] 3 (pos 56404) (replicate 20 120) 5 5 ≡ gave (plain KeyEmpty 0) (1 ∷ 3 ∷ 0 ∷ 1 ∷ 4294967295 ∷ 1 ∷ 1 ∷ 1 ∷ 150 ∷ 1 ∷ 0 ∷ 3 ∷ 1 ∷ 1 ∷ 0 ∷ 3 ∷ 4294967295 ∷ 0 ∷ 1 ∷ 8 ∷ replicate 6 0) (100 ∷ 254 ∷ replicate 6 255 ++ 127 ∷ replicate 23 0 ++ 99 ∷ 1 ∷ replicate 62 0 ++ 97 ∷ 1 ∷ replicate 30 0)
unfolding entries_of decode holds held free_run every any right_lengths value_fits entry_sound none_shared sound refuse check_sound ◌then◌ check_clock clock_checks check_key key_checks memory_of encode flat call dead same key_of key_is found_from look_up deads without put wiped remove remove_oldest sweep_count sweep after_sweep expiry_of entry_for place_at to_front rewrite_at overwrite_at after gone any_live fit_from first_free run searched is_placed if_room evicted forced_by fit_outcome place_fit placed_by place_anew store_over store_item most_rounds boolean_byte number_bytes value_given item_of check_kind takes_nil check_nil too_late check_lifetime store_checks admits delete_found store_admitted store_found store_work store_call
v149_set = refl

-- set: 0, rounds 0, removed 1
pub v150_set : store_call Set (1 ∷ 1 ∷ 112 ∷ 3 ∷ 0 ∷ 0 ∷ 1 ∷ 8 ∷ []) (97 ∷ 203 ∷ 59 ∷ replicate 6 255 ++ replicate 23 0) 117 (97 ∷ 98 ∷ []) 1 (pos 36492) (replicate 40 120) 0 5 ≡ gave (plain Done 1) (1 ∷ 1 ∷ 0 ∷ 1 ∷ 5 ∷ 0 ∷ 2 ∷ 1 ∷ []) (97 ∷ 98 ∷ 1 ∷ replicate 29 0)
unfolding entries_of decode holds held free_run every any right_lengths value_fits entry_sound none_shared sound refuse check_sound ◌then◌ check_clock clock_checks check_key key_checks memory_of encode flat call dead same key_of key_is found_from look_up deads without put wiped remove remove_oldest sweep_count sweep after_sweep expiry_of entry_for place_at to_front rewrite_at overwrite_at after gone any_live fit_from first_free run searched is_placed if_room evicted forced_by fit_outcome place_fit placed_by place_anew store_over store_item most_rounds boolean_byte number_bytes value_given item_of check_kind takes_nil check_nil too_late check_lifetime store_checks admits delete_found store_admitted store_found store_work store_call
v150_set = refl

-- set: 5, rounds 0, removed 0
pub v151_set : store_call Set (1 ∷ 3 ∷ 125 ∷ 1 ∷ 5 ∷ 3 ∷ 1 ∷ 1 ∷ 1 ∷ 3 ∷ 5 ∷ 1 ∷ 40 ∷ 8 ∷ 101 ∷ 3 ∷ 5 ∷ 0 ∷ 3 ∷ 8 ∷ replicate 6 0) (97 ∷ 98 ∷ 99 ∷ replicate 8 255 ++ replicate 21 7 ++ replicate 40 107 ++ 254 ∷ replicate 6 255 ++ 127 ∷ replicate 16 7 ++ 100 ∷ 1 ∷ replicate 30 7) 95 (97 ∷ 98 ∷ []) 2 (pos 20558) (120 ∷ []) 5 0 ≡ gave (plain KindUnknown 0) (1 ∷ 3 ∷ 125 ∷ 1 ∷ 5 ∷ 3 ∷ 1 ∷ 1 ∷ 1 ∷ 3 ∷ 5 ∷ 1 ∷ 40 ∷ 8 ∷ 101 ∷ 3 ∷ 5 ∷ 0 ∷ 3 ∷ 8 ∷ replicate 6 0) (97 ∷ 98 ∷ 99 ∷ replicate 8 255 ++ replicate 21 7 ++ replicate 40 107 ++ 254 ∷ replicate 6 255 ++ 127 ∷ replicate 16 7 ++ 100 ∷ 1 ∷ replicate 30 7)
unfolding entries_of decode holds held free_run every any right_lengths value_fits entry_sound none_shared sound refuse check_sound ◌then◌ check_clock clock_checks check_key key_checks memory_of encode flat call dead same key_of key_is found_from look_up deads without put wiped remove remove_oldest sweep_count sweep after_sweep expiry_of entry_for place_at to_front rewrite_at overwrite_at after gone any_live fit_from first_free run searched is_placed if_room evicted forced_by fit_outcome place_fit placed_by place_anew store_over store_item most_rounds boolean_byte number_bytes value_given item_of check_kind takes_nil check_nil too_late check_lifetime store_checks admits delete_found store_admitted store_found store_work store_call
v151_set = refl

-- set: 0, rounds 1, removed 1
pub v152_set : store_call Set (1 ∷ 1 ∷ 0 ∷ 4 ∷ 4294967295 ∷ 0 ∷ 1 ∷ 100 ∷ replicate 18 0) (97 ∷ replicate 100 120 ++ replicate 27 0) 105 (98 ∷ 97 ∷ []) 4 (pos 1) (replicate 31 120) 0 4294967295 ≡ gave (record { rounds = 1; removed = 1; forced = true; stale = false; outcome = Done }) (1 ∷ 1 ∷ 0 ∷ 4 ∷ 4294967295 ∷ 0 ∷ 2 ∷ 31 ∷ replicate 18 0) (98 ∷ 97 ∷ replicate 31 120 ++ replicate 95 0)
unfolding entries_of decode holds held free_run every any right_lengths value_fits entry_sound none_shared sound refuse check_sound ◌then◌ check_clock clock_checks check_key key_checks memory_of encode flat call dead same key_of key_is found_from look_up deads without put wiped remove remove_oldest sweep_count sweep after_sweep expiry_of entry_for place_at to_front rewrite_at overwrite_at after gone any_live fit_from first_free run searched is_placed if_room evicted forced_by fit_outcome place_fit placed_by place_anew store_over store_item most_rounds boolean_byte number_bytes value_given item_of check_kind takes_nil check_nil too_late check_lifetime store_checks admits delete_found store_admitted store_found store_work store_call
v152_set = refl

-- set: 0, rounds 0, removed 0
pub v153_set : store_call Set (1 ∷ replicate 7 0) (replicate 32 7) 91 (98 ∷ []) 4 (negsuc 9223372036854775807) (replicate 8 120) 5 0 ≡ gave (plain Done 0) (1 ∷ 1 ∷ 96 ∷ 4 ∷ 0 ∷ 0 ∷ 1 ∷ 8 ∷ []) (98 ∷ replicate 8 120 ++ replicate 23 7)
unfolding entries_of decode holds held free_run every any right_lengths value_fits entry_sound none_shared sound refuse check_sound ◌then◌ check_clock clock_checks check_key key_checks memory_of encode flat call dead same key_of key_is found_from look_up deads without put wiped remove remove_oldest sweep_count sweep after_sweep expiry_of entry_for place_at to_front rewrite_at overwrite_at after gone any_live fit_from first_free run searched is_placed if_room evicted forced_by fit_outcome place_fit placed_by place_anew store_over store_item most_rounds boolean_byte number_bytes value_given item_of check_kind takes_nil check_nil too_late check_lifetime store_checks admits delete_found store_admitted store_found store_work store_call
v153_set = refl

-- set: 0, rounds 1, removed 1
pub v154_set : store_call Set (1 ∷ 2 ∷ 0 ∷ 1 ∷ 4294967295 ∷ 1 ∷ 2 ∷ 1 ∷ 0 ∷ 4 ∷ 4294967295 ∷ 0 ∷ 2 ∷ 1 ∷ []) (98 ∷ 97 ∷ 120 ∷ replicate 29 0 ++ 97 ∷ 98 ∷ 1 ∷ replicate 29 0) 95 (100 ∷ []) 3 (pos 9223372036854775807) (replicate 63 120) 30 0 ≡ gave (record { rounds = 1; removed = 1; forced = true; stale = false; outcome = Done }) (1 ∷ 2 ∷ 125 ∷ 3 ∷ 0 ∷ 0 ∷ 1 ∷ 8 ∷ 0 ∷ 1 ∷ 4294967295 ∷ 1 ∷ 2 ∷ 1 ∷ []) (100 ∷ replicate 7 255 ++ 127 ∷ replicate 23 0 ++ 97 ∷ 98 ∷ 1 ∷ replicate 29 0)
unfolding entries_of decode holds held free_run every any right_lengths value_fits entry_sound none_shared sound refuse check_sound ◌then◌ check_clock clock_checks check_key key_checks memory_of encode flat call dead same key_of key_is found_from look_up deads without put wiped remove remove_oldest sweep_count sweep after_sweep expiry_of entry_for place_at to_front rewrite_at overwrite_at after gone any_live fit_from first_free run searched is_placed if_room evicted forced_by fit_outcome place_fit placed_by place_anew store_over store_item most_rounds boolean_byte number_bytes value_given item_of check_kind takes_nil check_nil too_late check_lifetime store_checks admits delete_found store_admitted store_found store_work store_call
v154_set = refl

-- set: 0, rounds 0, removed 1
pub v155_set : store_call Set (1 ∷ 1 ∷ 108 ∷ 4 ∷ 0 ∷ 0 ∷ 2 ∷ 63 ∷ replicate 18 0) (98 ∷ 97 ∷ replicate 63 120 ++ replicate 63 0) 128 (97 ∷ 98 ∷ []) 0 (pos 77998) (replicate 60 120) 0 5 ≡ gave (plain Done 1) (1 ∷ replicate 25 0) (replicate 128 0)
unfolding entries_of decode holds held free_run every any right_lengths value_fits entry_sound none_shared sound refuse check_sound ◌then◌ check_clock clock_checks check_key key_checks memory_of encode flat call dead same key_of key_is found_from look_up deads without put wiped remove remove_oldest sweep_count sweep after_sweep expiry_of entry_for place_at to_front rewrite_at overwrite_at after gone any_live fit_from first_free run searched is_placed if_room evicted forced_by fit_outcome place_fit placed_by place_anew store_over store_item most_rounds boolean_byte number_bytes value_given item_of check_kind takes_nil check_nil too_late check_lifetime store_checks admits delete_found store_admitted store_found store_work store_call
v155_set = refl

-- set: 0, rounds 0, removed 0
pub v156_set : store_call Set (1 ∷ 1 ∷ 185 ∷ 4 ∷ 0 ∷ 0 ∷ 1 ∷ 1 ∷ replicate 18 0) (100 ∷ 120 ∷ replicate 30 0 ++ replicate 96 7) 135 (100 ∷ []) 4 (pos 0) [] 0 0 ≡ gave (plain Done 0) (1 ∷ 1 ∷ 0 ∷ 4 ∷ 0 ∷ 0 ∷ 1 ∷ replicate 19 0) (100 ∷ replicate 31 0 ++ replicate 96 7)
unfolding entries_of decode holds held free_run every any right_lengths value_fits entry_sound none_shared sound refuse check_sound ◌then◌ check_clock clock_checks check_key key_checks memory_of encode flat call dead same key_of key_is found_from look_up deads without put wiped remove remove_oldest sweep_count sweep after_sweep expiry_of entry_for place_at to_front rewrite_at overwrite_at after gone any_live fit_from first_free run searched is_placed if_room evicted forced_by fit_outcome place_fit placed_by place_anew store_over store_item most_rounds boolean_byte number_bytes value_given item_of check_kind takes_nil check_nil too_late check_lifetime store_checks admits delete_found store_admitted store_found store_work store_call
v156_set = refl

-- set: 0, rounds 2, removed 2
pub v157_set : store_call Set (1 ∷ 2 ∷ 0 ∷ 4 ∷ 0 ∷ 1 ∷ 3 ∷ 8 ∷ 0 ∷ 1 ∷ 4294967295 ∷ 0 ∷ 1 ∷ 1 ∷ replicate 12 0) (100 ∷ 1 ∷ replicate 30 0 ++ 97 ∷ 98 ∷ 99 ∷ replicate 8 120 ++ replicate 85 0) 108 (replicate 40 107) 4 (negsuc 70633) (replicate 33 120) 5 0 ≡ gave (record { rounds = 2; removed = 2; forced = true; stale = false; outcome = Done }) (1 ∷ 1 ∷ 113 ∷ 4 ∷ 0 ∷ 0 ∷ 40 ∷ 33 ∷ replicate 18 0) (replicate 40 107 ++ replicate 33 120 ++ replicate 55 0)
unfolding entries_of decode holds held free_run every any right_lengths value_fits entry_sound none_shared sound refuse check_sound ◌then◌ check_clock clock_checks check_key key_checks memory_of encode flat call dead same key_of key_is found_from look_up deads without put wiped remove remove_oldest sweep_count sweep after_sweep expiry_of entry_for place_at to_front rewrite_at overwrite_at after gone any_live fit_from first_free run searched is_placed if_room evicted forced_by fit_outcome place_fit placed_by place_anew store_over store_item most_rounds boolean_byte number_bytes value_given item_of check_kind takes_nil check_nil too_late check_lifetime store_checks admits delete_found store_admitted store_found store_work store_call
v157_set = refl

-- set: 0, rounds 0, removed 0
pub v158_set : store_call Set (1 ∷ 1 ∷ 0 ∷ 3 ∷ 5 ∷ 0 ∷ 1 ∷ 8 ∷ replicate 6 0) (100 ∷ 108 ∷ 6 ∷ 66 ∷ 83 ∷ 229 ∷ 250 ∷ 145 ∷ 219 ∷ replicate 55 0) 123 (100 ∷ []) 4 (pos 9223372036854775807) (replicate 8 120) 5 5 ≡ gave (plain Done 0) (1 ∷ 1 ∷ 128 ∷ 4 ∷ 5 ∷ 0 ∷ 1 ∷ 8 ∷ replicate 6 0) (100 ∷ replicate 8 120 ++ replicate 55 0)
unfolding entries_of decode holds held free_run every any right_lengths value_fits entry_sound none_shared sound refuse check_sound ◌then◌ check_clock clock_checks check_key key_checks memory_of encode flat call dead same key_of key_is found_from look_up deads without put wiped remove remove_oldest sweep_count sweep after_sweep expiry_of entry_for place_at to_front rewrite_at overwrite_at after gone any_live fit_from first_free run searched is_placed if_room evicted forced_by fit_outcome place_fit placed_by place_anew store_over store_item most_rounds boolean_byte number_bytes value_given item_of check_kind takes_nil check_nil too_late check_lifetime store_checks admits delete_found store_admitted store_found store_work store_call
v158_set = refl

-- set: 12, rounds 0, removed 1
pub v159_set : store_call Set (1 ∷ 1 ∷ 119 ∷ 1 ∷ 5 ∷ 0 ∷ 3 ∷ 1 ∷ []) (97 ∷ 98 ∷ 99 ∷ 1 ∷ replicate 28 0) 119 (97 ∷ 98 ∷ []) 4 (pos 3138735843458909093) (replicate 31 120) 30 0 ≡ gave (plain NoMemory 1) (1 ∷ replicate 7 0) (replicate 32 0)
unfolding entries_of decode holds held free_run every any right_lengths value_fits entry_sound none_shared sound refuse check_sound ◌then◌ check_clock clock_checks check_key key_checks memory_of encode flat call dead same key_of key_is found_from look_up deads without put wiped remove remove_oldest sweep_count sweep after_sweep expiry_of entry_for place_at to_front rewrite_at overwrite_at after gone any_live fit_from first_free run searched is_placed if_room evicted forced_by fit_outcome place_fit placed_by place_anew store_over store_item most_rounds boolean_byte number_bytes value_given item_of check_kind takes_nil check_nil too_late check_lifetime store_checks admits delete_found store_admitted store_found store_work store_call
v159_set = refl

-- set: 12, rounds 0, removed 0
pub v160_set : store_call Set (1 ∷ replicate 7 0) (replicate 32 0) 95 (99 ∷ []) 4 (pos 86135) (replicate 130 120) 0 0 ≡ gave (plain NoMemory 0) (1 ∷ replicate 7 0) (replicate 32 0)
unfolding entries_of decode holds held free_run every any right_lengths value_fits entry_sound none_shared sound refuse check_sound ◌then◌ check_clock clock_checks check_key key_checks memory_of encode flat call dead same key_of key_is found_from look_up deads without put wiped remove remove_oldest sweep_count sweep after_sweep expiry_of entry_for place_at to_front rewrite_at overwrite_at after gone any_live fit_from first_free run searched is_placed if_room evicted forced_by fit_outcome place_fit placed_by place_anew store_over store_item most_rounds boolean_byte number_bytes value_given item_of check_kind takes_nil check_nil too_late check_lifetime store_checks admits delete_found store_admitted store_found store_work store_call
v160_set = refl

-- set: 0, rounds 0, removed 1
pub v161_set : store_call Set (1 ∷ 1 ∷ 118 ∷ 4 ∷ 0 ∷ 0 ∷ 3 ∷ 60 ∷ replicate 6 0) (97 ∷ 98 ∷ 99 ∷ replicate 60 120 ++ 7 ∷ []) 140 (97 ∷ 98 ∷ 99 ∷ []) 1 (pos 74287) (replicate 31 120) 30 4294967295 ≡ gave (plain Done 1) (1 ∷ 1 ∷ 170 ∷ 1 ∷ 4294967295 ∷ 0 ∷ 3 ∷ 1 ∷ replicate 6 0) (97 ∷ 98 ∷ 99 ∷ 1 ∷ replicate 60 0)
unfolding entries_of decode holds held free_run every any right_lengths value_fits entry_sound none_shared sound refuse check_sound ◌then◌ check_clock clock_checks check_key key_checks memory_of encode flat call dead same key_of key_is found_from look_up deads without put wiped remove remove_oldest sweep_count sweep after_sweep expiry_of entry_for place_at to_front rewrite_at overwrite_at after gone any_live fit_from first_free run searched is_placed if_room evicted forced_by fit_outcome place_fit placed_by place_anew store_over store_item most_rounds boolean_byte number_bytes value_given item_of check_kind takes_nil check_nil too_late check_lifetime store_checks admits delete_found store_admitted store_found store_work store_call
v161_set = refl

-- set: 12, rounds 0, removed 0
pub v162_set : store_call Set (1 ∷ 1 ∷ 0 ∷ 4 ∷ 5 ∷ 0 ∷ 1 ∷ 8 ∷ []) (100 ∷ replicate 8 120 ++ replicate 23 0) 109 (100 ∷ []) 4 (negsuc 53655) (replicate 60 120) 30 0 ≡ gave (plain NoMemory 0) (1 ∷ replicate 7 0) (replicate 32 0)
unfolding entries_of decode holds held free_run every any right_lengths value_fits entry_sound none_shared sound refuse check_sound ◌then◌ check_clock clock_checks check_key key_checks memory_of encode flat call dead same key_of key_is found_from look_up deads without put wiped remove remove_oldest sweep_count sweep after_sweep expiry_of entry_for place_at to_front rewrite_at overwrite_at after gone any_live fit_from first_free run searched is_placed if_room evicted forced_by fit_outcome place_fit placed_by place_anew store_over store_item most_rounds boolean_byte number_bytes value_given item_of check_kind takes_nil check_nil too_late check_lifetime store_checks admits delete_found store_admitted store_found store_work store_call
v162_set = refl

-- set: 12, rounds 0, removed 1
pub v163_set : store_call Set (1 ∷ 2 ∷ 165 ∷ 3 ∷ 4294967295 ∷ 0 ∷ 3 ∷ 8 ∷ 133 ∷ 1 ∷ 0 ∷ 1 ∷ 2 ∷ 1 ∷ []) (97 ∷ 98 ∷ 99 ∷ 229 ∷ 108 ∷ 1 ∷ replicate 5 0 ++ replicate 21 7 ++ 98 ∷ 97 ∷ 1 ∷ replicate 29 7) 135 (replicate 40 107) 4 (negsuc 61029) (replicate 60 120) 0 5 ≡ gave (plain NoMemory 1) (1 ∷ 1 ∷ 165 ∷ 3 ∷ 4294967295 ∷ 0 ∷ 3 ∷ 8 ∷ replicate 6 0) (97 ∷ 98 ∷ 99 ∷ 229 ∷ 108 ∷ 1 ∷ replicate 5 0 ++ replicate 21 7 ++ replicate 32 0)
unfolding entries_of decode holds held free_run every any right_lengths value_fits entry_sound none_shared sound refuse check_sound ◌then◌ check_clock clock_checks check_key key_checks memory_of encode flat call dead same key_of key_is found_from look_up deads without put wiped remove remove_oldest sweep_count sweep after_sweep expiry_of entry_for place_at to_front rewrite_at overwrite_at after gone any_live fit_from first_free run searched is_placed if_room evicted forced_by fit_outcome place_fit placed_by place_anew store_over store_item most_rounds boolean_byte number_bytes value_given item_of check_kind takes_nil check_nil too_late check_lifetime store_checks admits delete_found store_admitted store_found store_work store_call
v163_set = refl

-- set: 0, rounds 1, removed 2
pub v164_set : store_call Set (1 ∷ 2 ∷ 109 ∷ 3 ∷ 4294967295 ∷ 2 ∷ 2 ∷ 8 ∷ 0 ∷ 4 ∷ 4294967295 ∷ 0 ∷ 3 ∷ 33 ∷ replicate 12 0) (97 ∷ 98 ∷ 99 ∷ replicate 33 120 ++ replicate 28 7 ++ 97 ∷ 98 ∷ 84 ∷ 142 ∷ replicate 6 255 ++ replicate 54 7) 109 (100 ∷ []) 4 (negsuc 4428522000033498858) (replicate 100 120) 0 5 ≡ gave (record { rounds = 1; removed = 2; forced = true; stale = false; outcome = Done }) (1 ∷ 1 ∷ 0 ∷ 4 ∷ 5 ∷ 0 ∷ 1 ∷ 100 ∷ replicate 18 0) (100 ∷ replicate 100 120 ++ replicate 27 7)
unfolding entries_of decode holds held free_run every any right_lengths value_fits entry_sound none_shared sound refuse check_sound ◌then◌ check_clock clock_checks check_key key_checks memory_of encode flat call dead same key_of key_is found_from look_up deads without put wiped remove remove_oldest sweep_count sweep after_sweep expiry_of entry_for place_at to_front rewrite_at overwrite_at after gone any_live fit_from first_free run searched is_placed if_room evicted forced_by fit_outcome place_fit placed_by place_anew store_over store_item most_rounds boolean_byte number_bytes value_given item_of check_kind takes_nil check_nil too_late check_lifetime store_checks admits delete_found store_admitted store_found store_work store_call
v164_set = refl

-- set: 12, rounds 0, removed 0
pub v165_set : store_call Set (1 ∷ 1 ∷ 146 ∷ 4 ∷ 4294967295 ∷ 0 ∷ 1 ∷ 0 ∷ []) (98 ∷ replicate 31 0) 106 (replicate 40 107) 3 (pos 9223372036854775807) (replicate 100 120) 0 4294967295 ≡ gave (plain NoMemory 0) (1 ∷ 1 ∷ 146 ∷ 4 ∷ 4294967295 ∷ 0 ∷ 1 ∷ 0 ∷ []) (98 ∷ replicate 31 0)
unfolding entries_of decode holds held free_run every any right_lengths value_fits entry_sound none_shared sound refuse check_sound ◌then◌ check_clock clock_checks check_key key_checks memory_of encode flat call dead same key_of key_is found_from look_up deads without put wiped remove remove_oldest sweep_count sweep after_sweep expiry_of entry_for place_at to_front rewrite_at overwrite_at after gone any_live fit_from first_free run searched is_placed if_room evicted forced_by fit_outcome place_fit placed_by place_anew store_over store_item most_rounds boolean_byte number_bytes value_given item_of check_kind takes_nil check_nil too_late check_lifetime store_checks admits delete_found store_admitted store_found store_work store_call
v165_set = refl

-- set: 0, rounds 0, removed 2
pub v166_set : store_call Set (1 ∷ 3 ∷ 0 ∷ 3 ∷ 4294967295 ∷ 1 ∷ 1 ∷ 8 ∷ 120 ∷ 1 ∷ 5 ∷ 2 ∷ 1 ∷ 1 ∷ 98 ∷ 3 ∷ 5 ∷ 0 ∷ 1 ∷ 8 ∷ replicate 6 0) (98 ∷ 254 ∷ replicate 6 255 ++ 127 ∷ replicate 23 7 ++ 98 ∷ 163 ∷ 156 ∷ replicate 29 0 ++ 99 ∷ 0 ∷ replicate 62 7) 142 (97 ∷ 98 ∷ []) 4 (negsuc 4988236310929740657) (replicate 30 120) 18446744073709551473 0 ≡ gave (plain Done 2) (1 ∷ 2 ∷ 18446744073709551615 ∷ 4 ∷ 0 ∷ 0 ∷ 2 ∷ 30 ∷ 0 ∷ 3 ∷ 4294967295 ∷ 1 ∷ 1 ∷ 8 ∷ replicate 12 0) (97 ∷ 98 ∷ replicate 30 120 ++ 98 ∷ 163 ∷ 156 ∷ replicate 61 0 ++ replicate 32 7)
unfolding entries_of decode holds held free_run every any right_lengths value_fits entry_sound none_shared sound refuse check_sound ◌then◌ check_clock clock_checks check_key key_checks memory_of encode flat call dead same key_of key_is found_from look_up deads without put wiped remove remove_oldest sweep_count sweep after_sweep expiry_of entry_for place_at to_front rewrite_at overwrite_at after gone any_live fit_from first_free run searched is_placed if_room evicted forced_by fit_outcome place_fit placed_by place_anew store_over store_item most_rounds boolean_byte number_bytes value_given item_of check_kind takes_nil check_nil too_late check_lifetime store_checks admits delete_found store_admitted store_found store_work store_call
v166_set = refl

-- set: 0, rounds 0, removed 2
pub v167_set : store_call Set (1 ∷ 3 ∷ 165 ∷ 1 ∷ 4294967295 ∷ 2 ∷ 3 ∷ 1 ∷ 130 ∷ 4 ∷ 4294967295 ∷ 1 ∷ 1 ∷ 31 ∷ 130 ∷ 3 ∷ 5 ∷ 0 ∷ 1 ∷ 8 ∷ replicate 6 0) (97 ∷ 1 ∷ replicate 6 0 ++ 128 ∷ replicate 23 0 ++ 100 ∷ replicate 31 120 ++ 97 ∷ 98 ∷ 99 ∷ 1 ∷ replicate 60 7) 130 (97 ∷ []) 3 (negsuc 9223372036854775807) (replicate 100 120) 5 0 ≡ gave (plain Done 2) (1 ∷ 2 ∷ 135 ∷ 3 ∷ 0 ∷ 0 ∷ 1 ∷ 8 ∷ 165 ∷ 1 ∷ 4294967295 ∷ 2 ∷ 3 ∷ 1 ∷ replicate 12 0) (97 ∷ replicate 7 0 ++ 128 ∷ replicate 55 0 ++ 97 ∷ 98 ∷ 99 ∷ 1 ∷ replicate 60 7)
unfolding entries_of decode holds held free_run every any right_lengths value_fits entry_sound none_shared sound refuse check_sound ◌then◌ check_clock clock_checks check_key key_checks memory_of encode flat call dead same key_of key_is found_from look_up deads without put wiped remove remove_oldest sweep_count sweep after_sweep expiry_of entry_for place_at to_front rewrite_at overwrite_at after gone any_live fit_from first_free run searched is_placed if_room evicted forced_by fit_outcome place_fit placed_by place_anew store_over store_item most_rounds boolean_byte number_bytes value_given item_of check_kind takes_nil check_nil too_late check_lifetime store_checks admits delete_found store_admitted store_found store_work store_call
v167_set = refl
