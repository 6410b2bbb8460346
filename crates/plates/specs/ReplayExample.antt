-- The replay example of 01, byte for byte, computed.
use Rattle.std.specs.Prelude.{◌≡◌, refl, List, [], ◌∷◌, ℕ, replicate}
use Rattle.rules.specs.Layout.{encode, decode, flat, entries_of, without, to_front, put, key_of, number_bytes, number_at, memory_of, wiped, remove, remove_oldest, move_to_front}
use Rattle.rules.specs.Time.{dead, expiry_of, too_late, time_left}
use Rattle.rules.specs.LookUp.{same, key_is, found_from, look_up}
use Rattle.rules.specs.Recency.{deads, after, gone, sweep_count, sweep}
use Rattle.rules.specs.Place.{holds, held, free_run, fit_from, first_free, run}
use Rattle.rules.specs.Soundness.{every, any, right_lengths, value_fits, entry_sound, none_shared, sound}
use Rattle.rules.specs.Answer.{fields_of}
use Rattle.rules.specs.Checks.{◌then◌, refuse, check_lengths, check_sound, check_clock, check_key, check_kind, takes_nil, check_nil, check_lifetime, clock_checks, key_checks, store_checks}
use Rattle.rules.specs.Calls.{call, ask, fresh_work, fresh_call, after_sweep, shown, get_found, get_work, get_call, delete_found, entry_for, place_at, rewrite_at, overwrite_at, searched, is_placed, if_room, evicted, forced_by, fit_outcome, place_fit, placed_by, place_anew, store_over, store_item, most_rounds, admits, boolean_byte, value_given, store_admitted, store_found, store_work, item_of, store_call, ttl_found, ttl_call, delete_work, delete_call}
use Rattle.rules.specs.Replay.{lines_from, lines_of, parts_from, parts_of, digits_from, is_decimal, number_said, minus_said, plus_said, weight_said, fresh_said, key_said, boolean_said, number_value, value_said, set_said, kind_said, parts_say, call_of, on_front, called, freshened, line_done, digits_of, signed, value_shown, line_written, lines_done, replay_of}

abbrev input : List ℕ
input = 102 ∷ 114 ∷ 101 ∷ 115 ∷ 104 ∷ 9 ∷ 52 ∷ 10 ∷ 49 ∷ 48 ∷ 48 ∷ 48 ∷ 9 ∷ 115 ∷ 101 ∷ 116 ∷ 9 ∷ 65 ∷ 66 ∷ 49 ∷ 50 ∷ 9 ∷ 51 ∷ 9 ∷ 49 ∷ 52 ∷ 50 ∷ 48 ∷ 48 ∷ 9 ∷ 53 ∷ 48 ∷ 48 ∷ 9 ∷ 48 ∷ 10 ∷ 49 ∷ 50 ∷ 48 ∷ 48 ∷ 9 ∷ 103 ∷ 101 ∷ 116 ∷ 9 ∷ 65 ∷ 66 ∷ 49 ∷ 50 ∷ 10 ∷ 49 ∷ 53 ∷ 48 ∷ 48 ∷ 9 ∷ 103 ∷ 101 ∷ 116 ∷ 9 ∷ 65 ∷ 66 ∷ 49 ∷ 50 ∷ 10 ∷ 49 ∷ 53 ∷ 48 ∷ 48 ∷ 9 ∷ 103 ∷ 101 ∷ 116 ∷ 9 ∷ 10 ∷ []

abbrev output : List ℕ
output = 99 ∷ 97 ∷ 108 ∷ 108 ∷ 9 ∷ 97 ∷ 110 ∷ 115 ∷ 119 ∷ 101 ∷ 114 ∷ 9 ∷ 107 ∷ 105 ∷ 110 ∷ 100 ∷ 9 ∷ 118 ∷ 97 ∷ 108 ∷ 117 ∷ 101 ∷ 9 ∷ 102 ∷ 108 ∷ 97 ∷ 103 ∷ 115 ∷ 9 ∷ 114 ∷ 111 ∷ 117 ∷ 110 ∷ 100 ∷ 115 ∷ 9 ∷ 114 ∷ 101 ∷ 109 ∷ 111 ∷ 118 ∷ 101 ∷ 100 ∷ 10 ∷ 49 ∷ 9 ∷ 48 ∷ 9 ∷ 48 ∷ 9 ∷ 45 ∷ 9 ∷ 48 ∷ 9 ∷ 48 ∷ 9 ∷ 48 ∷ 10 ∷ 50 ∷ 9 ∷ 48 ∷ 9 ∷ 48 ∷ 9 ∷ 45 ∷ 9 ∷ 48 ∷ 9 ∷ 48 ∷ 9 ∷ 48 ∷ 10 ∷ 51 ∷ 9 ∷ 48 ∷ 9 ∷ 51 ∷ 9 ∷ 49 ∷ 52 ∷ 50 ∷ 48 ∷ 48 ∷ 9 ∷ 48 ∷ 9 ∷ 48 ∷ 9 ∷ 48 ∷ 10 ∷ 52 ∷ 9 ∷ 56 ∷ 9 ∷ 48 ∷ 9 ∷ 45 ∷ 9 ∷ 48 ∷ 9 ∷ 48 ∷ 9 ∷ 49 ∷ 10 ∷ 53 ∷ 9 ∷ 51 ∷ 9 ∷ 48 ∷ 9 ∷ 45 ∷ 9 ∷ 48 ∷ 9 ∷ 48 ∷ 9 ∷ 48 ∷ 10 ∷ []

pub replayed : (replay_of input (replicate 26 7) (replicate 128 7)).output ≡ output
unfolding encode flat decode entries_of without to_front put key_of number_bytes number_at memory_of wiped remove remove_oldest move_to_front dead expiry_of too_late time_left same key_is found_from look_up deads after gone sweep_count sweep holds held free_run fit_from first_free run every any right_lengths value_fits entry_sound none_shared sound ◌then◌ refuse check_lengths check_sound check_clock check_key check_kind takes_nil check_nil check_lifetime clock_checks key_checks store_checks call ask fresh_work fresh_call after_sweep shown get_found get_work get_call delete_found entry_for place_at rewrite_at overwrite_at searched is_placed if_room evicted forced_by fit_outcome place_fit placed_by place_anew store_over store_item most_rounds admits boolean_byte value_given store_admitted store_found store_work item_of store_call ttl_found ttl_call delete_work delete_call fields_of lines_from lines_of parts_from parts_of digits_from is_decimal number_said minus_said plus_said weight_said fresh_said key_said boolean_said number_value value_said set_said kind_said parts_say call_of on_front called freshened line_done digits_of signed value_shown line_written lines_done replay_of
replayed = refl
