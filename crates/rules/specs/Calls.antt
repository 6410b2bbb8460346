-- Chapter "The calls": every call of the base, in the order of the paper. The work of a call is defined on a memory that its checks have passed; the call itself (name ending in Call) is defined for any words, bytes and arguments.
use Rattle.std.specs.Prelude.{◌≡◌, Bool, true, false, not, cond, ◌&&◌, List, [], ◌∷◌, ◌++◌, map, ℕ, zero, suc, ◌+◌, ◌-◌, ◌*◌, ◌/◌, ◌^◌, min, eqb, leb, ltb, length, take, drop, get_or, replicate, ℤ, pos, negsuc, ◌+ℤ◌, Ok, Err, Option, Some, None}
use Rattle.std.specs.Int.Signed.{mag}
use Rattle.rules.specs.declared.Entry.{Entry}
use Rattle.rules.specs.declared.Row.{Row}
use Rattle.rules.specs.declared.Answer.{Answer}
use Rattle.rules.specs.declared.Outcome.{Outcome}
use Rattle.rules.specs.declared.Outcome.TheVariants.{Done, Number, Boolean, Text, Count, Sum, NotFound, Exists, NotNumber, SumTooLarge, NoMemory}
use Rattle.rules.specs.Check.{Check}
use Rattle.rules.specs.declared.Found.{Found}
use Rattle.rules.specs.declared.Found.TheVariants.{Live, Dead, Missing}
use Rattle.rules.specs.declared.Operation.{Operation}
use Rattle.rules.specs.declared.Operation.TheVariants.{Set, SafeSet, Add, SafeAdd, Replace}
use Rattle.rules.specs.declared.Initial.{Initial}
use Rattle.rules.specs.Layout.{cells_of, need, encode, replace_at, to_front, put, part, value_offset, value_bytes, number_bytes, number_at, Memory, memory_of, entry_in, remove, remove_oldest, move_to_front}
use Rattle.rules.specs.Time.{dead, expiry_of, time_left, with_expiry}
use Rattle.rules.specs.LookUp.{look_up}
use Rattle.rules.specs.Recency.{line, sweep_count, sweep, gone, any_live}
use Rattle.rules.specs.Place.{Placed, run}
use Rattle.rules.specs.Answer.{plain, marked}
use Rattle.rules.specs.Checks.{check_lengths, check_sound, clock_checks, key_checks, expire_checks, store_checks, incr_checks}

-- ---- what a call gives

-- the work of a call: its answer, and the memory after it
pub record Work : Type 0 where
  pub answer : Answer
  pub memory : Memory

-- a call: its answer, the directory's words and the pool's bytes after it
pub record Result : Type 0 where
  pub answer : Answer
  pub dir : List ℕ
  pub pool : List ℕ

-- a call that gave this answer and left these words and bytes
abbrev pub gave : Answer → List ℕ → List ℕ → Result
gave answer dir pool = record { answer = answer; dir = dir; pool = pool }

-- work that ran no rounds
abbrev pub did : Outcome → ℕ → Memory → Work
did o removed m = record { answer = plain o removed; memory = m }

-- the memory after the work, in a directory of n words
abbrev pub written : ℕ → Work → Result
written n w = gave w.answer (encode n w.memory.entries) w.memory.pool

-- words and bytes that hold a memory, in a directory of n words
pub record Holds (n : ℕ) (m : Memory) (dir pool : List ℕ) : Type 0 where
  pub words : dir ≡ encode n m.entries
  pub bytes : pool ≡ m.pool

-- work done: the answer is its answer, and the buffers hold its memory
pub record Does (w : Work) (n : ℕ) (answered : Answer) (dir pool : List ℕ) : Type 0 where
  pub answer : answered ≡ w.answer
  pub memory : Holds n w.memory dir pool

-- a refusal by the checks 1 to 7 leaves the memory "unchanged", and its fields are 0
unfoldable pub call : Check → (Memory → Work) → List ℕ → List ℕ → Result
call (Err o) work dir pool = gave (plain o 0) dir pool
call (Ok _) work dir pool = written (length dir) (work (memory_of dir pool))

-- a call that changes nothing
unfoldable pub ask : Check → (Memory → Answer) → List ℕ → List ℕ → Answer
ask (Err o) work dir pool = plain o 0
ask (Ok _) work dir pool = work (memory_of dir pool)

-- ---- make fresh

-- "takes any contents of the right lengths, writes the empty directory", and by request 2 of document 02 "zeroes the whole pool"
unfoldable pub fresh_work : Memory → Work
fresh_work m = did Done 0 (record { entries = []; pool = replicate (length m.pool) 0 })

unfoldable pub fresh_call : List ℕ → List ℕ → Result
fresh_call dir pool = call (check_lengths dir pool) fresh_work dir pool

-- ---- sweep

-- "get, all stores, delete and incr first remove up to two dead entries": work that is told how many the sweep removed
unfoldable pub after_sweep : ℕ → (ℕ → Memory → Work) → Memory → Work
after_sweep clock work m = work (sweep_count clock m) (sweep clock m)

-- ---- get, get_stale

-- "for readers the kind, flags, number, and the value's offset and length in the pool"
unfoldable pub shown : List ℕ → Entry → Outcome
shown pool e =
    cond (eqb e.kind 1) (Boolean e.flags (not (eqb (get_or pool (value_offset e) 0) 0)) (value_offset e))
    (cond (eqb e.kind 3) (Number e.flags (number_at pool e) (value_offset e))
    (Text e.flags (value_offset e) e.vlen))

-- "live entry, answer it and move it to the front; else 8"
unfoldable pub get_found : ℕ → Memory → Found → Work
get_found removed m (Live i) = did (shown m.pool (entry_in m i)) removed (move_to_front i m)
get_found removed m (Dead i) = did NotFound removed m
get_found removed m Missing = did NotFound removed m

unfoldable pub get_work : ℕ → List ℕ → Memory → Work
get_work clock key = after_sweep clock (λ removed m. get_found removed m (look_up clock key m))

unfoldable pub get_call : List ℕ → List ℕ → ℕ → List ℕ → Result
get_call dir pool clock key = call (key_checks dir pool clock key) (get_work clock key) dir pool

-- "live or dead, with a stale mark exactly if dead; else 8"
unfoldable pub stale_found : Memory → Found → Answer
stale_found m (Live i) = marked (shown m.pool (entry_in m i)) false
stale_found m (Dead i) = marked (shown m.pool (entry_in m i)) true
stale_found m Missing = plain NotFound 0

unfoldable pub get_stale_call : List ℕ → List ℕ → ℕ → List ℕ → Answer
get_stale_call dir pool clock key = ask (key_checks dir pool clock key) (λ m. stale_found m (look_up clock key m)) dir pool

-- ---- delete

-- "removes the entry, live or dead, and answers 0 also when nothing was there"
unfoldable pub delete_found : ℕ → Memory → Found → Work
delete_found removed m (Live i) = did Done removed (remove i m)
delete_found removed m (Dead i) = did Done removed (remove i m)
delete_found removed m Missing = did Done removed m

unfoldable pub delete_work : ℕ → List ℕ → Memory → Work
delete_work clock key = after_sweep clock (λ removed m. delete_found removed m (look_up clock key m))

unfoldable pub delete_call : List ℕ → List ℕ → ℕ → List ℕ → Result
delete_call dir pool clock key = call (key_checks dir pool clock key) (delete_work clock key) dir pool

-- ---- what a store stores

-- the new entry, but for its start
pub record Item : Type 0 where
  pub expiry : ℕ
  pub kind : ℕ
  pub flags : ℕ
  pub key : List ℕ
  pub value : List ℕ

-- its record, from a start
unfoldable pub entry_for : Item → ℕ → Entry
entry_for item start =
    record { expiry = item.expiry; kind = item.kind; flags = item.flags; start = start; klen = length item.key; vlen = length item.value }

abbrev pub need_for : Item → ℕ
need_for item = need (length item.key + length item.value)

-- "Placing writes key and value only; the rest of the last cell stays", and the entry "goes to the front"
unfoldable pub place_at : Item → ℕ → Memory → Memory
place_at item start m =
    record { entries = entry_for item start ∷ m.entries; pool = put m.pool (32 * start) (item.key ++ item.value) }

-- another value of the same length in the place of the old one; the record becomes e and is "moved to the front"
unfoldable pub rewrite_at : ℕ → Entry → List ℕ → Memory → Memory
rewrite_at i e value m =
    record { entries = to_front i e m.entries; pool = put m.pool (value_offset (entry_in m i)) value }

-- "overwritten in place with new kind, flags, expiry and value, and moved to the front"
unfoldable pub overwrite_at : Item → ℕ → Memory → Memory
overwrite_at item i m = rewrite_at i (entry_for item (entry_in m i).start) item.value m

-- ---- placing anew

-- how the rounds of 01 go, so many at most
unfoldable pub searched : ℕ → ℕ → Item → Memory → Placed
searched most clock item m = run clock (cells_of m.pool) (need_for item) most (line m)

-- there is a place: "the call answers 0"
unfoldable pub is_placed : Option ℕ → Bool
is_placed (Some start) = true
is_placed None = false

-- request 9 of document 02: "If no number of rounds up to 30 would make room, a store now removes nothing by rounds and answers 12 with rounds 0"
unfoldable pub if_room : Placed → Placed
if_room p = record { fit = p.fit; ran = cond (is_placed p.fit) p.ran 0 }

-- the entries that the rounds take
unfoldable pub evicted : ℕ → Placed → Memory → List Entry
evicted clock p m = gone clock p.ran (line m)

-- request 3 of document 02: forced "is set exactly if the call answers 0 and at least one entry taken by the rounds was live at the call's clock"
unfoldable pub forced_by : ℕ → Placed → Memory → Bool
forced_by clock p m = is_placed p.fit && any_live clock (evicted clock p m)

-- done, or "no memory"
unfoldable pub fit_outcome : Outcome → Option ℕ → Outcome
fit_outcome told (Some start) = told
fit_outcome told None = NoMemory

unfoldable pub place_fit : Item → Option ℕ → Memory → Memory
place_fit item (Some start) m = place_at item start m
place_fit item None m = m

-- "Rounds in the answer is the number of rounds gone, with 12 too; removed is the number of entries in the sweep and in those rounds"
unfoldable pub placed_by : ℕ → Item → Outcome → ℕ → Memory → Placed → Work
placed_by clock item told removed m p =
    record {
      answer = record { rounds = p.ran; removed = removed + length (evicted clock p m); forced = forced_by clock p m; stale = false; outcome = fit_outcome told p.fit };
      memory = place_fit item p.fit (remove_oldest (length (evicted clock p m)) m);
    }

-- "the new entry takes the lowest start from which all the needed cells are free, and goes to the front"
unfoldable pub place_anew : ℕ → ℕ → Item → Outcome → ℕ → Memory → Work
place_anew most clock item told removed m = placed_by clock item told removed m (if_room (searched most clock item m))

-- ---- stores

-- "if the key has an entry (dead too) of equal value length, it is overwritten in place"
abbrev pub same_length : Item → ℕ → Memory → Bool
same_length item i m = eqb (entry_in m i).vlen (length item.value)

-- "With another length it is removed first. Then the new entry takes the lowest start"
unfoldable pub store_over : ℕ → ℕ → Item → Outcome → ℕ → Memory → ℕ → Work
store_over most clock item told removed m i =
    cond (same_length item i m) (did told removed (overwrite_at item i m)) (place_anew most clock item told removed (remove i m))

unfoldable pub store_item : ℕ → ℕ → Item → Outcome → ℕ → Memory → Found → Work
store_item most clock item told removed m (Live i) = store_over most clock item told removed m i
store_item most clock item told removed m (Dead i) = store_over most clock item told removed m i
store_item most clock item told removed m Missing = place_anew most clock item told removed m

-- "If there is none, a safe form answers 12. The others run rounds .. at most 30"
unfoldable pub most_rounds : Operation → ℕ
most_rounds Set = 30
most_rounds SafeSet = 0
most_rounds Add = 30
most_rounds SafeAdd = 0
most_rounds Replace = 30

-- "replace: missing or dead gives 8. add: live gives 9"
unfoldable pub admits : Operation → Found → Check
admits Set found = Ok tt
admits SafeSet found = Ok tt
admits Add (Live i) = Err Exists
admits Add (Dead i) = Ok tt
admits Add Missing = Ok tt
admits SafeAdd (Live i) = Err Exists
admits SafeAdd (Dead i) = Ok tt
admits SafeAdd Missing = Ok tt
admits Replace (Live i) = Ok tt
admits Replace (Dead i) = Err NotFound
admits Replace Missing = Err NotFound

-- "A boolean is stored as 1 for any number but 0"
unfoldable pub boolean_byte : ℤ → ℕ
boolean_byte (pos zero) = 0
boolean_byte (pos (suc n)) = 1
boolean_byte (negsuc n) = 1

-- the value's bytes by its kind
unfoldable pub value_given : ℕ → ℤ → List ℕ → List ℕ
value_given kind number text = cond (eqb kind 1) (boolean_byte number ∷ []) (cond (eqb kind 3) (number_bytes number) text)

-- "Nil in set or safe_set is delete"
unfoldable pub store_admitted : Operation → ℕ → Item → ℕ → Memory → Found → Check → Work
store_admitted op clock item removed m found (Err o) = did o removed m
store_admitted op clock item removed m found (Ok _) =
    cond (eqb item.kind 0) (delete_found removed m found) (store_item (most_rounds op) clock item Done removed m found)

unfoldable pub store_found : Operation → ℕ → Item → ℕ → Memory → Found → Work
store_found op clock item removed m found = store_admitted op clock item removed m found (admits op found)

unfoldable pub store_work : Operation → ℕ → Item → Memory → Work
store_work op clock item = after_sweep clock (λ removed m. store_found op clock item removed m (look_up clock item.key m))

-- the item of a store's arguments
unfoldable pub item_of : ℕ → List ℕ → ℕ → ℤ → List ℕ → ℕ → ℕ → Item
item_of clock key kind number text lifetime flags =
    record { expiry = expiry_of clock lifetime; kind = kind; flags = flags; key = key; value = value_given kind number text }

-- set, safe_set, add, safe_add, replace
unfoldable pub store_call : Operation → List ℕ → List ℕ → ℕ → List ℕ → ℕ → ℤ → List ℕ → ℕ → ℕ → Result
store_call op dir pool clock key kind number text lifetime flags =
    call (store_checks op dir pool clock key kind lifetime) (store_work op clock (item_of clock key kind number text lifetime flags)) dir pool

-- ---- incr

-- "signed 64-bit whole numbers": the magnitude of n is n, and that of −(n + 1) is n too
unfoldable pub in_range : ℤ → Bool
in_range z = ltb (mag z) (2 ^ 63)

-- "Live number: add the step, keep flags and expiry, move to the front"
unfoldable pub add_at : ℕ → ℤ → Memory → Memory
add_at i sum m = rewrite_at i (entry_in m i) (number_bytes sum) m

-- "A sum out of range is 11, before anything but the sweep has changed"
unfoldable pub incr_live : ℕ → Memory → ℕ → ℤ → Work
incr_live removed m i sum = cond (in_range sum) (did (Sum sum) removed (add_at i sum m)) (did SumTooLarge removed m)

-- "store initial + step, flags 0, as a plain set would"
unfoldable pub incr_new : ℕ → List ℕ → ℕ → ℕ → Memory → Found → ℤ → Work
incr_new clock key lifetime removed m found sum =
    cond (in_range sum)
    (store_item (most_rounds Set) clock (item_of clock key 3 sum [] lifetime 0) (Sum sum) removed m found)
    (did SumTooLarge removed m)

-- "Missing or dead with an initial number"; "else 8"
unfoldable pub incr_initial : ℕ → List ℕ → ℤ → ℕ → Memory → Found → Option Initial → Work
incr_initial clock key step removed m found (Some initial) = incr_new clock key initial.lifetime removed m found (initial.number +ℤ step)
incr_initial clock key step removed m found None = did NotFound removed m

-- "Live and not kind 3: 10"
unfoldable pub incr_found : ℕ → List ℕ → ℤ → Option Initial → ℕ → Memory → Found → Work
incr_found clock key step initial removed m (Live i) =
    cond (eqb (entry_in m i).kind 3) (incr_live removed m i (number_at m.pool (entry_in m i) +ℤ step)) (did NotNumber removed m)
incr_found clock key step initial removed m (Dead i) = incr_initial clock key step removed m (Dead i) initial
incr_found clock key step initial removed m Missing = incr_initial clock key step removed m Missing initial

unfoldable pub incr_work : ℕ → List ℕ → ℤ → Option Initial → Memory → Work
incr_work clock key step initial = after_sweep clock (λ removed m. incr_found clock key step initial removed m (look_up clock key m))

unfoldable pub incr_call : List ℕ → List ℕ → ℕ → List ℕ → ℤ → Option Initial → Result
incr_call dir pool clock key step initial = call (incr_checks dir pool clock key initial) (incr_work clock key step initial) dir pool

-- ---- ttl, expire

-- "0 if it never expires, else expiry − clock; missing or dead gives 8"
unfoldable pub ttl_found : ℕ → Memory → Found → Answer
ttl_found clock m (Live i) = plain (Count (time_left clock (entry_in m i))) 0
ttl_found clock m (Dead i) = plain NotFound 0
ttl_found clock m Missing = plain NotFound 0

unfoldable pub ttl_call : List ℕ → List ℕ → ℕ → List ℕ → Answer
ttl_call dir pool clock key = ask (key_checks dir pool clock key) (λ m. ttl_found clock m (look_up clock key m)) dir pool

-- "sets a live entry's expiry; else 8. Neither sweeps nor moves"
unfoldable pub expire_at : ℕ → ℕ → Memory → Memory
expire_at i expiry m = record { entries = replace_at i (with_expiry expiry (entry_in m i)) m.entries; pool = m.pool }

unfoldable pub expire_found : ℕ → Memory → Found → Work
expire_found expiry m (Live i) = did Done 0 (expire_at i expiry m)
expire_found expiry m (Dead i) = did NotFound 0 m
expire_found expiry m Missing = did NotFound 0 m

unfoldable pub expire_call : List ℕ → List ℕ → ℕ → List ℕ → ℕ → Result
expire_call dir pool clock key lifetime =
    call (expire_checks dir pool clock key lifetime) (λ m. expire_found (expiry_of clock lifetime) m (look_up clock key m)) dir pool

-- ---- flush_all, flush_expired

-- "flush_all sets every expiry to 1"
unfoldable pub flush_all_work : Memory → Work
flush_all_work m = did Done 0 (record { entries = map (with_expiry 1) m.entries; pool = m.pool })

unfoldable pub flush_all_call : List ℕ → List ℕ → Result
flush_all_call dir pool = call (check_sound dir pool) flush_all_work dir pool

-- "removes dead entries, longest unused first": of the first n entries, k at most
unfoldable pub flushed : ℕ → ℕ → ℕ → Memory → Memory
flushed clock zero k m = m
flushed clock (suc n) zero m = m
flushed clock (suc n) (suc k) m =
    cond (dead clock (entry_in m n)) (flushed clock n k (remove n m)) (flushed clock n (suc k) m)

-- "up to a maximum (0 for all)"
unfoldable pub up_to : ℕ → ℕ → ℕ
up_to maximum n = cond (eqb maximum 0) n (min maximum n)

-- "and reports how many as removed"
unfoldable pub flush_expired_work : ℕ → ℕ → Memory → Work
flush_expired_work clock maximum m =
    let n : ℕ = length m.entries in
    let after : Memory = flushed clock n (up_to maximum n) m in
    did Done (n - length after.entries) after

unfoldable pub flush_expired_call : List ℕ → List ℕ → ℕ → ℕ → Result
flush_expired_call dir pool clock maximum = call (clock_checks dir pool clock) (flush_expired_work clock maximum) dir pool

-- ---- get_keys

-- "one row a key (start cell, key length, kind)"
unfoldable pub row_of : Entry → Row
row_of e = record { start = e.start; klen = e.klen; kind = e.kind }

-- "live entries only", most recent first
unfoldable pub live_of : ℕ → List Entry → List Entry
live_of clock [] = []
live_of clock (e ∷ es) = cond (dead clock e) (live_of clock es) (e ∷ live_of clock es)

-- "the least of the maximum (0 for no maximum), the rows and the live entries": of so many rows
unfoldable pub key_count : ℕ → ℕ → ℕ → Memory → ℕ
key_count clock maximum room m = up_to maximum (min room (length (live_of clock m.entries)))

-- the first n of the keys' rows
unfoldable pub key_rows : ℕ → ℕ → Memory → List Row
key_rows clock n m = map row_of (take n (live_of clock m.entries))

-- the answer, and the rows after
pub record Listing : Type 0 where
  pub answer : Answer
  pub rows : List Row

-- a listing that gave this answer and left these rows
abbrev pub listing : Answer → List Row → Listing
listing answer rows = record { answer = answer; rows = rows }

-- "Later rows stay"
unfoldable pub listed : ℕ → ℕ → List Row → Memory → Listing
listed clock maximum rows m =
    let n : ℕ = key_count clock maximum (length rows) m in
    record { answer = plain (Count n) 0; rows = key_rows clock n m ++ drop n rows }

-- "on a refusal all rows do"
unfoldable pub keys_of : Check → ℕ → ℕ → List Row → Memory → Listing
keys_of (Err o) clock maximum rows m = record { answer = plain o 0; rows = rows }
keys_of (Ok _) clock maximum rows m = listed clock maximum rows m

unfoldable pub get_keys_call : List ℕ → List ℕ → ℕ → ℕ → List Row → Listing
get_keys_call dir pool clock maximum rows = keys_of (clock_checks dir pool clock) clock maximum rows (memory_of dir pool)

-- the same table as plain numbers, three a row; what makes no whole row stays
unfoldable pub row_words : List Row → List ℕ
row_words [] = []
row_words (r ∷ rs) = r.start ∷ r.klen ∷ r.kind ∷ row_words rs

-- the answer, and the numbers after
pub record FlatListing : Type 0 where
  pub answer : Answer
  pub table : List ℕ

abbrev pub flat_listing : Answer → List ℕ → FlatListing
flat_listing answer table = record { answer = answer; table = table }

unfoldable pub listed_flat : ℕ → ℕ → List ℕ → Memory → FlatListing
listed_flat clock maximum table m =
    let n : ℕ = key_count clock maximum (length table / 3) m in
    record { answer = plain (Count n) 0; table = row_words (key_rows clock n m) ++ drop (3 * n) table }

unfoldable pub flat_keys_of : Check → ℕ → ℕ → List ℕ → Memory → FlatListing
flat_keys_of (Err o) clock maximum table m = record { answer = plain o 0; table = table }
flat_keys_of (Ok _) clock maximum table m = listed_flat clock maximum table m

unfoldable pub get_keys_flat_call : List ℕ → List ℕ → ℕ → ℕ → List ℕ → FlatListing
get_keys_flat_call dir pool clock maximum table = flat_keys_of (clock_checks dir pool clock) clock maximum table (memory_of dir pool)

-- ---- bytes-at, show

-- "an offset and length in the pool are lent back as that part of the pool, not copied; a sum past its end gives the empty part at its start": where it starts, and its bytes
unfoldable pub bytes_start : List ℕ → ℕ → ℕ → ℕ
bytes_start pool offset size = cond (leb (offset + size) (length pool)) offset 0

unfoldable pub bytes_at_call : List ℕ → ℕ → ℕ → List ℕ
bytes_at_call pool offset size = cond (leb (offset + size) (length pool)) (part pool offset size) []

-- "shows the live text or else the caller's own notice": the text's entry, if there is one
unfoldable pub text_found : Memory → Found → Found
text_found m (Live i) = cond (eqb (entry_in m i).kind 4) (Live i) Missing
text_found m (Dead i) = Missing
text_found m Missing = Missing

-- "the notice comes for every refusal that get would give and for every other kind"
unfoldable pub show_found : Check → ℕ → List ℕ → Memory → Found
show_found (Err o) clock key m = Missing
show_found (Ok _) clock key m = text_found m (look_up clock key m)

unfoldable pub text_or : List ℕ → Memory → Found → List ℕ
text_or notice m (Live i) = value_bytes m.pool (entry_in m i)
text_or notice m (Dead i) = notice
text_or notice m Missing = notice

unfoldable pub show_call : List ℕ → List ℕ → ℕ → List ℕ → List ℕ → List ℕ
show_call dir pool clock key notice =
    text_or notice (memory_of dir pool) (show_found (key_checks dir pool clock key) clock key (memory_of dir pool))

-- "whichever slice holds it": where the slice that is lent begins, inside the caller's own pool or where the caller's own notice does. A place is a block and an offset in it, as a slice's `ref_ptr`
unfoldable pub lent_from : ℕ × ℕ → ℕ × ℕ → Memory → Found → ℕ × ℕ
lent_from pool notice m (Live i) = (pool.0, value_offset (entry_in m i) + pool.1)
lent_from pool notice m (Dead i) = notice
lent_from pool notice m Missing = notice

unfoldable pub show_start : List ℕ → List ℕ → ℕ → List ℕ → ℕ × ℕ → ℕ × ℕ → ℕ × ℕ
show_start dir pool clock key origin notice =
    lent_from origin notice (memory_of dir pool) (show_found (key_checks dir pool clock key) clock key (memory_of dir pool))
