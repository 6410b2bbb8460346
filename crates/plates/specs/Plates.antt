-- Chapter "Plates on both sides": P1 to P12, as one table under a single statement, computed. P = 4.
use Rattle.std.specs.Prelude.{◌≡◌, refl, true, false, List, [], ◌∷◌, ◌++◌, map, ℕ, replicate, get_or, pos}
use Rattle.rules.specs.declared.Entry.{Entry}
use Rattle.rules.specs.declared.Outcome.TheVariants.{Done, Number, Count, KeyEmpty, NotFound, NoMemory}
use Rattle.rules.specs.declared.Operation.{Operation}
use Rattle.rules.specs.declared.Operation.TheVariants.{Set, SafeSet}
use Rattle.rules.specs.Layout.{need, encode, decode, flat, entries_of, without, to_front, put, key_of, number_bytes, number_at, memory_of, wiped, remove, remove_oldest, move_to_front}
use Rattle.rules.specs.Time.{dead, expiry_of, too_late, time_left}
use Rattle.rules.specs.LookUp.{same, key_is, found_from, look_up}
use Rattle.rules.specs.Recency.{deads, after, gone, sweep_count, sweep, any_live}
use Rattle.rules.specs.Place.{holds, held, free_run, fit_from, first_free, run}
use Rattle.rules.specs.Soundness.{every, any, right_lengths, value_fits, entry_sound, none_shared, sound}
use Rattle.rules.specs.Answer.{plain}
use Rattle.rules.specs.Checks.{◌then◌, refuse, check_lengths, check_sound, check_clock, check_key, check_kind, takes_nil, check_nil, check_lifetime, clock_checks, key_checks, store_checks}
use Rattle.rules.specs.Calls.{Result, call, ask, fresh_work, fresh_call, after_sweep, shown, get_found, get_work, get_call, delete_found, entry_for, place_at, rewrite_at, overwrite_at, searched, is_placed, if_room, evicted, forced_by, fit_outcome, place_fit, placed_by, place_anew, store_over, store_item, most_rounds, admits, boolean_byte, value_given, store_admitted, store_found, store_work, item_of, store_call, ttl_found, ttl_call}

-- ---- the memories

-- a number under a key of one byte, and its cell
abbrev tare : ℕ → ℕ → Entry
tare expiry start = record { expiry = expiry; kind = 3; flags = 0; start = start; klen = 1; vlen = 8 }

abbrev cell : ℕ → List ℕ
cell key = key ∷ number_bytes (pos 14200) ++ replicate 23 0

abbrev a : List ℕ
a = 97 ∷ []

abbrev b : List ℕ
b = 98 ∷ []

abbrev c : List ℕ
c = 99 ∷ []

abbrev d : List ℕ
d = 100 ∷ []

abbrev e : List ℕ
e = 101 ∷ []

abbrev AB12 : List ℕ
AB12 = 65 ∷ 66 ∷ 49 ∷ 50 ∷ []

-- 01's "full yard": "a, b, c, d with one cell each at 0, 1, 2, 3"
abbrev cells : List ℕ
cells = cell 97 ++ cell 98 ++ cell 99 ++ cell 100

-- "never expiring, a longest unused"
abbrev full : List ℕ
full = encode 26 (tare 0 3 ∷ tare 0 2 ∷ tare 0 1 ∷ tare 0 0 ∷ [])

-- "Order of use a, c, b, d from the oldest, same places"
abbrev full7 : List ℕ
full7 = encode 26 (tare 0 3 ∷ tare 0 1 ∷ tare 0 2 ∷ tare 0 0 ∷ [])

-- "As full yard but b, c, d dead", at the clock 1000
abbrev full8 : List ℕ
full8 = encode 26 (tare 500 3 ∷ tare 500 2 ∷ tare 500 1 ∷ tare 0 0 ∷ [])

-- request 3's: "a, b, c dead at cells 0, 1, 2, d live at 3, a longest unused"
abbrev stale3 : List ℕ
stale3 = encode 26 (tare 0 3 ∷ tare 500 2 ∷ tare 500 1 ∷ tare 500 0 ∷ [])

abbrev fresh : Result
fresh = fresh_call (replicate 26 7) (replicate 128 7)

-- ---- the calls

-- a number of one cell: nine bytes
abbrev number : Operation → List ℕ → List ℕ → Result
number op dir key = store_call op dir cells 1000 key 3 (pos 9000) [] 0 0

-- a text of n bytes: 40 make two cells, 70 three, 140 five
abbrev text : Operation → List ℕ → List ℕ → ℕ → Result
text op dir key n = store_call op dir cells 1000 key 4 (pos 0) (replicate n 120) 0 0

-- "Fresh, clock 1000, set AB12, kind 3, lifetime 500"
abbrev stored : Result
stored = store_call Set fresh.dir fresh.pool 1000 AB12 3 (pos 14200) [] 500 0

-- ---- what is seen of them

-- the keys, most recently used first
abbrev order : Result → List (List ℕ)
order r = map (key_of r.pool) (entries_of r.dir)

-- the start of the most recently used entry
abbrev start : Result → ℕ
start r = get_or r.dir 5 0

abbrev rounds : Result → ℕ
rounds r = r.answer.rounds

abbrev removed : Result → ℕ
removed r = r.answer.removed

pub record Plates : Type 0 where
  -- Need for 1, 32, 33, 64, 65 bytes: 1, 1, 2, 2, 3
  pub p1 : map need (1 ∷ 32 ∷ 33 ∷ 64 ∷ 65 ∷ []) ≡ 1 ∷ 1 ∷ 2 ∷ 2 ∷ 3 ∷ []
  -- record 1500, 3, 0, 0, 4, 8
  pub p2 : (stored.answer ≡ plain Done 0) × (stored.dir ≡ 1 ∷ 1 ∷ 1500 ∷ 3 ∷ 0 ∷ 0 ∷ 4 ∷ 8 ∷ replicate 18 0)
  -- get at 1499: live. ttl at 1499: 1
  pub p3 : ((get_call stored.dir stored.pool 1499 AB12).answer ≡ plain (Number 0 (pos 14200) 4) 0) × (ttl_call stored.dir stored.pool 1499 AB12 ≡ plain (Count 1) 0)
  -- Get at 1500 instead: 8, removed 1, no entries
  pub p4 : ((get_call stored.dir stored.pool 1500 AB12).answer ≡ plain NotFound 1) × ((get_call stored.dir stored.pool 1500 AB12).dir ≡ fresh.dir)
  -- rounds 1, start 0; order e, d, c, b
  pub p5 : (rounds (number Set full e) ≡ 1) × (start (number Set full e) ≡ 0) × (order (number Set full e) ≡ e ∷ d ∷ c ∷ b ∷ [])
  -- two cells: rounds 2, start 0; order e, d, c
  pub p6 : (rounds (text Set full e 40) ≡ 2) × (start (text Set full e 40) ≡ 0) × (order (text Set full e 40) ≡ e ∷ d ∷ c ∷ [])
  -- Order of use a, c, b, d from the oldest: rounds 3, start 0
  pub p7 : (rounds (text Set full7 e 40) ≡ 3) × (start (text Set full7 e 40) ≡ 0) × (order (text Set full7 e 40) ≡ e ∷ d ∷ [])
  -- the sweep takes none; rounds 1, removed 3, d stays
  pub p8 : (sweep_count 1000 (memory_of full8 cells) ≡ 0) × (rounds (number Set full8 e) ≡ 1) × (removed (number Set full8 e) ≡ 3) × (order (number Set full8 e) ≡ e ∷ d ∷ [])
  -- five cells: 12; request 9: "P9 now leaves all four entries", rounds 0, removed 0
  pub p9 : text Set full e 140 ≡ record { answer = plain NoMemory 0; dir = full; pool = cells }
  -- safe_set e: 12, unchanged
  pub p10 : number SafeSet full e ≡ record { answer = plain NoMemory 0; dir = full; pool = cells }
  -- safe_set a, two cells: 12, and a is gone
  pub p11 : ((text SafeSet full a 40).answer ≡ plain NoMemory 0) × (order (text SafeSet full a 40) ≡ d ∷ c ∷ b ∷ [])
  -- b overwritten with equal length: start 1; order b, d, c, a
  pub p12 : ((number Set full b).answer ≡ plain Done 0) × (start (number Set full b) ≡ 1) × (order (number Set full b) ≡ b ∷ d ∷ c ∷ a ∷ [])
  -- request 3: "The sweep takes a and b, round 1 takes c, it is stored at 0, removed 3, and forced is not set"; where a live one goes, as in P5, it is
  pub request3 : ((text Set stale3 e 70).answer ≡ record { rounds = 1; removed = 3; forced = false; stale = false; outcome = Done }) × (start (text Set stale3 e 70) ≡ 0) × (order (text Set stale3 e 70) ≡ e ∷ d ∷ []) × ((number Set full e).answer.forced ≡ true)
  -- request 2: "Make fresh now zeroes the whole pool"; the sweep of P4 and the removal of P11, which answer 8 and 12, wipe too; the overwrite of P12 "wipes nothing"
  pub request2 : (fresh.pool ≡ replicate 128 0) × ((get_call stored.dir stored.pool 1500 AB12).pool ≡ replicate 128 0) × ((text SafeSet full a 40).pool ≡ put cells 0 (replicate 32 0)) × ((number Set full b).pool ≡ put cells 33 (number_bytes (pos 9000)))

-- ---- the replay example of 01

-- a get on what a line has left
abbrev get_after : Result → ℕ → List ℕ → Result
get_after r clock key = get_call r.dir r.pool clock key

-- its lines 3 to 5, each behind the one before; lines 1 and 2 are `fresh` and `stored`
abbrev seen : Result
seen = get_after stored 1200 AB12

abbrev expired : Result
expired = get_after seen 1500 AB12

abbrev blank : Result
blank = get_after expired 1500 []

-- the answers, line by line
pub record Example : Type 0 where
  pub line1 : fresh.answer ≡ plain Done 0
  pub line2 : stored.answer ≡ plain Done 0
  pub line3 : seen.answer ≡ plain (Number 0 (pos 14200) 4) 0
  -- its cells are wiped
  pub line4 : (expired.answer ≡ plain NotFound 1) × (expired.pool ≡ replicate 128 0)
  -- a blank key, after that: it matches nothing
  pub line5 : blank.answer ≡ plain KeyEmpty 0

pub example : Example
unfolding encode flat decode entries_of without to_front put key_of number_bytes number_at memory_of wiped remove remove_oldest move_to_front dead expiry_of too_late time_left same key_is found_from look_up deads after gone sweep_count sweep holds held free_run fit_from first_free run every any right_lengths value_fits entry_sound none_shared sound ◌then◌ refuse check_lengths check_sound check_clock check_key check_kind takes_nil check_nil check_lifetime clock_checks key_checks store_checks call ask fresh_work fresh_call after_sweep shown get_found get_work get_call delete_found entry_for place_at rewrite_at overwrite_at searched is_placed if_room evicted any_live forced_by fit_outcome place_fit placed_by place_anew store_over store_item most_rounds admits boolean_byte value_given store_admitted store_found store_work item_of store_call ttl_found ttl_call
example = record { line1 = refl; line2 = refl; line3 = refl; line4 = (refl, refl); line5 = refl }

pub plates : Plates
unfolding encode flat decode entries_of without to_front put key_of number_bytes number_at memory_of wiped remove remove_oldest move_to_front dead expiry_of too_late time_left same key_is found_from look_up deads after gone sweep_count sweep holds held free_run fit_from first_free run every any right_lengths value_fits entry_sound none_shared sound ◌then◌ refuse check_lengths check_sound check_clock check_key check_kind takes_nil check_nil check_lifetime clock_checks key_checks store_checks call ask fresh_work fresh_call after_sweep shown get_found get_work get_call delete_found entry_for place_at rewrite_at overwrite_at searched is_placed if_room evicted any_live forced_by fit_outcome place_fit placed_by place_anew store_over store_item most_rounds admits boolean_byte value_given store_admitted store_found store_work item_of store_call ttl_found ttl_call
plates =
    record {
      p1 = refl;
      p2 = (refl, refl);
      p3 = (refl, refl);
      p4 = (refl, refl);
      p5 = (refl, refl, refl);
      p6 = (refl, refl, refl);
      p7 = (refl, refl, refl);
      p8 = (refl, refl, refl, refl);
      p9 = refl;
      p10 = refl;
      p11 = (refl, refl);
      p12 = (refl, refl, refl);
      request3 = (refl, refl, refl, refl);
      request2 = (refl, refl, refl, refl);
    }
