-- A text that a line's answer tells lies in the pool.
use Rattle.std.specs.Prelude.{◌≡◌, refl, Bool, true, false, cond, not, List, ℕ, ◌+◌, ◌≤◌, eqb, length, get_or, ℤ, Ok, Err, Option, Some, None}
use Rattle.std.proofs.Math.Path.{sym}
use Rattle.std.proofs.Common.{◌∙◌, subst, arith}
use Rattle.rules.specs.declared.Entry.{Entry}
use Rattle.rules.specs.declared.Outcome.{Outcome}
use Rattle.rules.specs.declared.Outcome.TheVariants.{Done, Number, Boolean, Text, NotSound}
use Rattle.rules.specs.Check.{Check}
use Rattle.rules.specs.declared.Found.{Found}
use Rattle.rules.specs.declared.Found.TheVariants.{Live, Dead, Missing}
use Rattle.rules.specs.declared.Operation.TheVariants.{Set}
use Rattle.rules.specs.Layout.{cells_of, value_offset, number_at, Memory, memory_of, entry_in, remove}
use Rattle.rules.specs.LookUp.{look_up}
use Rattle.rules.specs.Recency.{sweep, sweep_count}
use Rattle.rules.specs.Soundness.{right_lengths, sound}
use Rattle.rules.specs.Answer.{fields_of}
use Rattle.rules.specs.Checks.{◌then◌, refuse, check_lengths, check_sound, check_clock, check_key, check_kind, check_nil, check_lifetime, clock_checks, key_checks, store_checks}
use Rattle.rules.specs.Calls.{Work, call, fresh_work, fresh_call, after_sweep, shown, get_found, get_work, get_call, delete_found, delete_work, delete_call, Item, if_room, fit_outcome, placed_by, place_anew, searched, same_length, overwrite_at, did, most_rounds, store_over, store_item, admits, store_admitted, store_found, store_work, item_of, store_call}
use Rattle.laws.specs.Lists.{each_at}
use Rattle.laws.specs.Finding.{Finds, finds}
use Rattle.laws.specs.SoundMemory.{Fine, SoundMemory}
use Rattle.laws.specs.Buffers.{given_sound, swept_sound}

-- a text that the outcome tells lies within n bytes
abbrev pub Within : ℕ → Outcome → Type 0
Within n o = (fields_of o).kind ≡ 4 → (fields_of o).offset + (fields_of o).size ≤ n

-- an outcome that tells no kind tells no text
abbrev Bare : Outcome → Type 0
Bare o = (fields_of o).kind ≡ 0

bare_within : (n : ℕ) (o : Outcome) → Bare o → Within n o
bare_within n o b t = absurd (omega (arith, sym b ∙ t))

-- ---- refusals by the checks

BareCheck : Check → Type 0
BareCheck (Ok _) = 0 ≤ 0
BareCheck (Err o) = Bare o

bare_then : (a b : Check) → BareCheck a → BareCheck b → BareCheck (a then b)
unfolding ◌then◌ BareCheck
bare_then (Ok _) b x y = y
bare_then (Err o) b x y = x

bare_refuse : (o : Outcome) (b : Bool) → Bare o → BareCheck (refuse o b)
unfolding refuse BareCheck
bare_refuse o true x = x
bare_refuse o false x = omega arith

bare_key : (dir pool : List ℕ) (clock : ℕ) (key : List ℕ) → BareCheck (key_checks dir pool clock key)
unfolding key_checks clock_checks check_sound check_clock check_key fields_of
bare_key dir pool clock key =
    bare_then (clock_checks dir pool clock) (check_key key) (bare_then (check_sound dir pool) (check_clock clock) (bare_refuse _ _ refl) (bare_refuse _ _ refl)) (bare_then (refuse _ _) (refuse _ _) (bare_refuse _ _ refl) (bare_refuse _ _ refl))

bare_store : (dir pool : List ℕ) (clock : ℕ) (key : List ℕ) (kind lifetime : ℕ) → BareCheck (store_checks Set dir pool clock key kind lifetime)
unfolding store_checks check_kind check_nil check_lifetime fields_of
bare_store dir pool clock key kind lifetime =
    let first : Check = key_checks dir pool clock key in
    bare_then (first then check_kind kind then check_nil Set kind) (check_lifetime clock lifetime)
    (bare_then (first then check_kind kind) (check_nil Set kind) (bare_then first (check_kind kind) (bare_key dir pool clock key) (bare_refuse _ _ refl)) (bare_refuse _ _ refl))
    (bare_refuse _ _ refl)

-- ---- a call: refused, or its work

call_within : (n : ℕ) (c : Check) (work : Memory → Work) (dir pool : List ℕ) → BareCheck c → Within n (work (memory_of dir pool)).answer.outcome → Within n (call c work dir pool).answer.outcome
unfolding call BareCheck
call_within n (Err o) work dir pool b w = bare_within n o b
call_within n (Ok _) work dir pool b w = w

-- ---- the stores

bare_fit : (told : Outcome) (f : Option ℕ) → Bare told → Bare (fit_outcome told f)
unfolding fit_outcome fields_of
bare_fit told (Some start) b = b
bare_fit told None b = refl

bare_placed : (most clock : ℕ) (item : Item) (removed : ℕ) (m : Memory) → Bare (place_anew most clock item Done removed m).answer.outcome
unfolding place_anew placed_by if_room fields_of
bare_placed most clock item removed m = bare_fit Done (searched most clock item m).fit refl

bare_over : (most clock : ℕ) (item : Item) (removed : ℕ) (m : Memory) (i : ℕ) → Bare (store_over most clock item Done removed m i).answer.outcome
unfolding store_over fields_of
bare_over most clock item removed m i = go (same_length item i m) (bare_placed most clock item removed (remove i m))
  where
    go : (b : Bool) → Bare (place_anew most clock item Done removed (remove i m)).answer.outcome → Bare (cond b (did Done removed (overwrite_at item i m)) (place_anew most clock item Done removed (remove i m))).answer.outcome
    go true h = refl
    go false h = h

bare_item : (most clock : ℕ) (item : Item) (removed : ℕ) (m : Memory) (f : Found) → Bare (store_item most clock item Done removed m f).answer.outcome
unfolding store_item
bare_item most clock item removed m (Live i) = bare_over most clock item removed m i
bare_item most clock item removed m (Dead i) = bare_over most clock item removed m i
bare_item most clock item removed m Missing = bare_placed most clock item removed m

bare_delete : (removed : ℕ) (m : Memory) (f : Found) → Bare (delete_found removed m f).answer.outcome
unfolding delete_found fields_of
bare_delete removed m (Live i) = refl
bare_delete removed m (Dead i) = refl
bare_delete removed m Missing = refl

bare_found : (clock : ℕ) (item : Item) (removed : ℕ) (m : Memory) (f : Found) → Bare (store_found Set clock item removed m f).answer.outcome
unfolding store_found store_admitted admits
bare_found clock item removed m f = go (eqb item.kind 0) (bare_delete removed m f) (bare_item (most_rounds Set) clock item removed m f)
  where
    go : (b : Bool) → Bare (delete_found removed m f).answer.outcome → Bare (store_item (most_rounds Set) clock item Done removed m f).answer.outcome → Bare (cond b (delete_found removed m f) (store_item (most_rounds Set) clock item Done removed m f)).answer.outcome
    go true x y = x
    go false x y = y

-- ---- get

shown_within : (P : ℕ) (m : Memory) (e : Entry) → SoundMemory P m → Fine P m.pool e → Within (length m.pool) (shown m.pool e)
unfolding shown fields_of
shown_within P m e s f = go (eqb e.kind 1) (eqb e.kind 3)
  where
    go : (a b : Bool) → Within (length m.pool) (cond a (Boolean e.flags (not (eqb (get_or m.pool (value_offset e) 0) 0)) (value_offset e)) (cond b (Number e.flags (number_at m.pool e) (value_offset e)) (Text e.flags (value_offset e) e.vlen)))
    go true b t = absurd (omega (arith, t))
    go false true t = absurd (omega (arith, t))
    go false false t = omega (arith, f.inside, s.pool_size)

found_within : (P : ℕ) (key : List ℕ) (removed : ℕ) (m : Memory) (f : Found) → SoundMemory P m → Finds key m f → Within (length m.pool) (get_found removed m f).answer.outcome
unfolding get_found fields_of
found_within P key removed m (Live i) s h t = shown_within P m (entry_in m i) s (each_at i h.there s.each) t
found_within P key removed m (Dead i) s h t = absurd (omega (arith, t))
found_within P key removed m Missing s h t = absurd (omega (arith, t))

-- ---- the calls of lines, on a sound memory

module _ (dir pool : List ℕ) (t : sound dir pool ≡ true) where
  pub get_within : (clock : ℕ) (key : List ℕ) → Within (length pool) (get_call dir pool clock key).answer.outcome
  unfolding get_call get_work after_sweep
  get_within clock key =
      let m : Memory = memory_of dir pool in
      let s : SoundMemory (cells_of pool) (sweep clock m) = swept_sound dir pool t clock in
      call_within (length pool) (key_checks dir pool clock key) (get_work clock key) dir pool (bare_key dir pool clock key)
      (subst (λ (n : ℕ). Within n (get_work clock key m).answer.outcome) (s.pool_size ∙ sym (given_sound dir pool t).pool_size) (found_within (cells_of pool) key (sweep_count clock m) (sweep clock m) (look_up clock key (sweep clock m)) s (finds clock key (sweep clock m))))

pub set_within : (n : ℕ) (dir pool : List ℕ) (clock : ℕ) (key : List ℕ) (kind : ℕ) (number : ℤ) (text : List ℕ) (lifetime flags : ℕ) → Within n (store_call Set dir pool clock key kind number text lifetime flags).answer.outcome
unfolding store_call store_work after_sweep
set_within n dir pool clock key kind number text lifetime flags =
    let item : Item = item_of clock key kind number text lifetime flags in
    let m : Memory = sweep clock (memory_of dir pool) in
    call_within n (store_checks Set dir pool clock key kind lifetime) (store_work Set clock item) dir pool (bare_store dir pool clock key kind lifetime)
    (bare_within n (store_work Set clock item (memory_of dir pool)).answer.outcome (bare_found clock item (sweep_count clock (memory_of dir pool)) m (look_up clock item.key m)))

pub delete_within : (n : ℕ) (dir pool : List ℕ) (clock : ℕ) (key : List ℕ) → Within n (delete_call dir pool clock key).answer.outcome
unfolding delete_call delete_work after_sweep
delete_within n dir pool clock key =
    let m : Memory = sweep clock (memory_of dir pool) in
    call_within n (key_checks dir pool clock key) (delete_work clock key) dir pool (bare_key dir pool clock key)
    (bare_within n (delete_work clock key (memory_of dir pool)).answer.outcome (bare_delete (sweep_count clock (memory_of dir pool)) m (look_up clock key m)))

pub fresh_within : (n : ℕ) (dir pool : List ℕ) → Within n (fresh_call dir pool).answer.outcome
unfolding fresh_call fresh_work check_lengths fields_of
fresh_within n dir pool = call_within n (check_lengths dir pool) fresh_work dir pool (bare_refuse NotSound (not (right_lengths dir pool)) refl) (bare_within n Done refl)
