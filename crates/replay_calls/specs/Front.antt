-- The memory that replay owns: no `fresh` yet, or a sound memory at the front of what is lent.
use Rattle.std.specs.Prelude as R
use Rattle.std.specs.Prelude.{◌≡◌, refl, Bool, true, false, eqb, is_ok, ◌&&◌, ◌⊎◌, List, [], ◌++◌, ℕ, ◌+◌, ◌*◌, ◌≤◌, ◌<◌, length, take, replicate, ℤ, leb, Err, Ok}
use Rattle.std.proofs.Common.{sym, ap, ◌∙◌, subst, inl, inr, arith, eqb-true, take-append-drop, length-append, length-take-le, take_at, to_z, of_z, SFits, to_z-of_z}
use Rattle.std.proofs.Math.Bool.{and-false}
use Rattle.std.proofs.Math.Nat.{ℕ_set}
use Rattle.std.proofs.Props.{props}
use Rattle.std.proofs.Math.ListN.{drop}
use Rattle.std.proofs.lemmas.List.{length-replicate}
use Rattle.std.specs.Int.{w64}
use Rattle.rules.specs.declared.Operation.TheVariants.{Set}
use borrow.Author.Tests.{ne_eqb, eq-eqb, le-leb, lt-leb}
use Rattle.rules.specs.declared.Answer.{Answer}
use Rattle.rules.specs.declared.Outcome.{Outcome}
use Rattle.rules.specs.declared.Outcome.TheVariants.{NotSound}
use Rattle.rules.specs.Check.{Check}
use Rattle.rules.specs.Layout.{cells_of, Memory, memory_of}
use Rattle.rules.specs.Soundness.{right_lengths, sound}
use Rattle.laws.specs.Lists.{nil, none_yet}
use Rattle.rules.specs.Answer.{plain}
use Rattle.rules.specs.Checks.{refuse, check_lengths, store_checks}
use Rattle.rules.specs.Calls.{Result, Work, Does, call, gave, fresh_work, fresh_call, item_of, store_work, store_call}
use Rattle.rules.specs.Sequences.{Call, step}
use Rattle.rules.specs.Replay.{Replay, LineDone, on_front, called, freshened, front_dir, front_pool}
use Rattle.laws.specs.SoundMemory.{SoundMemory}
use Rattle.laws.specs.CallsLaws.{gave_refused, gave_passed}
use Rattle.laws.specs.Carry.{Carries, carries_encode, sound_carries, carries_sound}
use Rattle.laws.specs.Steps.{carries_step}

abbrev pub state : ℕ → List ℕ → List ℕ → Replay
state cells dir pool = record { cells = cells; dir = dir; pool = pool }

-- the answer that a call comes to: a refusal's tells nothing but its number
abbrev pub come_to : R.Result Answer Outcome → Answer
come_to (Ok a) = a
come_to (Err o) = plain o 0

-- "Before the first `fresh` every call answers 1"
abbrev pub in_use_check : ℕ → Check
in_use_check cells = refuse NotSound (eqb cells 0)

-- a line that gave this answer and left this memory
abbrev pub done_as : Answer → ℕ → List ℕ → List ℕ → LineDone
done_as a cells dir pool = record { answer = a; after = state cells dir pool }

pub record Front (P : ℕ) (dir pool : List ℕ) : Type 0 where
  pub some : 1 ≤ P
  pub dir_fits : 2 + 6 * P ≤ length dir
  pub pool_fits : 32 * P ≤ length pool
  pub front_sound : sound (take (2 + 6 * P) dir) (take (32 * P) pool) ≡ true

pub data Ready (P : ℕ) (dir pool : List ℕ) : Type 0 where
  untouched : P ≡ 0 → Ready P dir pool
  in_use : Front P dir pool → Ready P dir pool

-- that a memory is ready has no two proofs, so that a struct may hold it
front_sole : (P : ℕ) (dir pool : List ℕ) → IsProp (Front P dir pool)
front_sole P dir pool = Prim.hlevel props

pub ready_sole : (P : ℕ) (dir pool : List ℕ) → IsProp (Ready P dir pool)
ready_sole P dir pool (untouched z) (untouched w) = ap untouched (ℕ_set P 0 z w)
ready_sole P dir pool (untouched z) (in_use f) = absurd (omega (arith, z, f.some))
ready_sole P dir pool (in_use f) (untouched z) = absurd (omega (arith, z, f.some))
ready_sole P dir pool (in_use f) (in_use g) = ap in_use (front_sole P dir pool f g)

pub ready_front : {P : ℕ} {dir pool : List ℕ} → Ready P dir pool → (P ≡ 0 → ⊥) → Front P dir pool
ready_front (untouched z) n = absurd (n z)
ready_front (in_use f) n = f

-- a sound memory with other words and bytes behind it
pub front_of : {P : ℕ} {d p : List ℕ} (words bytes : List ℕ) → Carries (SoundMemory P) P d p → Front P (d ++ words) (p ++ bytes)
unfolding memory_of
front_of {P} {d} {p} words bytes h =
    record {
      some = h.inv.some_cell;
      dir_fits = omega (arith, h.dir_size, length-append d words);
      pool_fits = omega (arith, h.inv.pool_size, length-append p bytes);
      front_sound =
          ap (λ (x : List ℕ). sound x (take (32 * P) (p ++ bytes))) (take_at d words (2 + 6 * P) h.dir_size)
          ∙ ap (sound d) (take_at p bytes (32 * P) h.inv.pool_size)
          ∙ carries_sound h;
    }

-- "Before the first `fresh` every call answers 1"
pub called_early : (work : List ℕ → List ℕ → Result) (P : ℕ) (dir pool : List ℕ) {a : Answer} → P ≡ 0 → a ≡ plain NotSound 0 → done_as a P dir pool ≡ called work (state P dir pool)
unfolding called
called_early work P dir pool {a} z e = rw (eq-eqb P 0 z) (ap (λ (x : Answer). done_as x P dir pool) e)

-- what the check for it tells
early_by : (b : Bool) (work : List ℕ → List ℕ → Result) (P : ℕ) (dir pool : List ℕ) {o : Outcome} → eqb P 0 ≡ b → Err o ≡ refuse NotSound b → done_as (plain o 0) P dir pool ≡ called work (state P dir pool)
unfolding refuse
early_by true work P dir pool {o} q i = let same : o ≡ NotSound = cc in called_early work P dir pool (eqb-true P 0 q) (ap (λ (x : Outcome). plain x 0) same)
early_by false work P dir pool q i = absurd (let t : false ≡ true = ap is_ok i in let z : ◌≡◌ {A = ℕ} 0 1 = cc in omega arith)

pub refused_early : (work : List ℕ → List ℕ → Result) (P : ℕ) (dir pool : List ℕ) {o : Outcome} → Err o ≡ in_use_check P → done_as (plain o 0) P dir pool ≡ called work (state P dir pool)
refused_early work P dir pool e = early_by (eqb P 0) work P dir pool refl e

used : {P : ℕ} {u : Unit} → Ok u ≡ in_use_check P → P ≡ 0 → ⊥
unfolding refuse
used {P} e z = let t : true ≡ false = ap is_ok (e ∙ ap (refuse NotSound) (eq-eqb P 0 z)) in absurd (let i : ◌≡◌ {A = ℕ} 0 1 = cc in omega arith)

pub ready_used : {P : ℕ} {dir pool : List ℕ} {u : Unit} → Ready P dir pool → Ok u ≡ in_use_check P → Front P dir pool
ready_used r e = ready_front r (used e)

module _ {P : ℕ} {dir pool : List ℕ} (f : Front P dir pool) where
  abbrev fd : List ℕ
  fd = take (2 + 6 * P) dir

  abbrev fp : List ℕ
  fp = take (32 * P) pool

  abbrev later_words : List ℕ
  later_words = drop (2 + 6 * P) dir

  abbrev later_bytes : List ℕ
  later_bytes = drop (32 * P) pool

  called_is : (work : List ℕ → List ℕ → Result) {a : Answer} {d p : List ℕ} → gave a d p ≡ work fd fp → done_as a P (d ++ later_words) (p ++ later_bytes) ≡ called work (state P dir pool)
  unfolding called on_front
  called_is work {a} {d} {p} e =
      rw (ne_eqb P 0 (λ z. absurd (omega (arith, f.some)))) (ap (λ (r : Result). done_as r.answer P (r.dir ++ later_words) (r.pool ++ later_bytes)) e)

  -- a call whose checks refuse leaves all
  pub called_refused : (checks : List ℕ → List ℕ → Check) (work : Memory → Work) {o : Outcome} {a : Answer} → checks fd fp ≡ Err o → a ≡ plain o 0 → done_as a P dir pool ≡ called (λ d p. call (checks d p) work d p) (state P dir pool)
  called_refused checks work {o} {a} r e =
      ap (λ (d : List ℕ). done_as a P d pool) (sym (take-append-drop (2 + 6 * P) dir))
      ∙ ap (λ (p : List ℕ). done_as a P (fd ++ later_words) p) (sym (take-append-drop (32 * P) pool))
      ∙ called_is (λ d p. call (checks d p) work d p) (gave_refused (checks fd fp) work fd fp o a r e)

  pub called_passed : (checks : List ℕ → List ℕ → Check) (work : Memory → Work) {a : Answer} {d p : List ℕ} → checks fd fp ≡ (Ok tt) → Does (work (memory_of fd fp)) (length fd) a d p → done_as a P (d ++ later_words) (p ++ later_bytes) ≡ called (λ d p. call (checks d p) work d p) (state P dir pool)
  called_passed checks work {a} {d} {p} e h = called_is (λ d p. call (checks d p) work d p) (gave_passed (checks fd fp) work fd fp a d p e h)

  -- a set, whose number the code holds in 64 bits
  pub set_passed : (clock : ℕ) (key : List ℕ) (kind : ℕ) (number : ℤ) (text : List ℕ) (lifetime flags : ℕ) {a : Answer} {d p : List ℕ} → SFits w64 number → store_checks Set fd fp clock key kind lifetime ≡ (Ok tt) → Does (store_work Set clock (item_of clock key kind (to_z w64 (of_z w64 number)) text lifetime flags) (memory_of fd fp)) (length fd) a d p → done_as a P (d ++ later_words) (p ++ later_bytes) ≡ called (λ d p. store_call Set d p clock key kind number text lifetime flags) (state P dir pool)
  unfolding store_call
  set_passed clock key kind number text lifetime flags {a} {d} {p} f e h =
      called_passed (λ d p. store_checks Set d p clock key kind lifetime) (store_work Set clock (item_of clock key kind number text lifetime flags)) e
      (subst (λ (z : ℤ). Does (store_work Set clock (item_of clock key kind z text lifetime flags) (memory_of fd fp)) (length fd) a d p) (to_z-of_z {w = w64} f) h)

  -- ---- what a call leaves is ready

  pub dir_length : length fd ≡ 2 + 6 * P
  dir_length = length-take-le (2 + 6 * P) dir f.dir_fits

  pub pool_length : length fp ≡ 32 * P
  pool_length = length-take-le (32 * P) pool f.pool_fits

  front_cells : cells_of fp ≡ P
  front_cells = omega (arith, pool_length)

  before : Carries (SoundMemory P) P fd fp
  before = subst (λ (n : ℕ). Carries (SoundMemory n) n fd fp) front_cells (sound_carries fd fp f.front_sound)

  pub few : P ≤ 1024
  few = before.inv.few_cells

  -- what a call leaves in the front's place
  pub front_step : (c : Call) → Front P ((step c (record { dir = fd; pool = fp })).dir ++ later_words) ((step c (record { dir = fd; pool = fp })).pool ++ later_bytes)
  front_step c = front_of later_words later_bytes (carries_step P c (record { dir = fd; pool = fp }) before)

-- ---- `fresh`

-- make fresh gives an empty memory
fresh_carries : (P : ℕ) (dir pool : List ℕ) → 1 ≤ P → P ≤ 1024 → length dir ≡ 2 + 6 * P → length pool ≡ 32 * P → Carries (SoundMemory P) P (fresh_call dir pool).dir (fresh_call dir pool).pool
unfolding fresh_call fresh_work check_lengths refuse right_lengths call memory_of
fresh_carries P dir pool low high hd hp =
    let cells : cells_of pool ≡ P = omega (arith, hp) in
    rw
    (eq-eqb (length pool) (32 * cells_of pool) (omega (arith, cells, hp)), le-leb 1 (cells_of pool) (omega (arith, cells)), le-leb (cells_of pool) 1024 (omega (arith, cells)), eq-eqb (length dir) (2 + 6 * cells_of pool) (omega (arith, cells, hd)))
    (carries_encode P (length dir) (record { entries = []; pool = replicate (length pool) 0 }) hd (omega arith) (record { some_cell = low; few_cells = high; pool_size = length-replicate (length pool) 0 ∙ hp; each = nil; apart = none_yet }))

-- past what is lent
pub fresh_over : (P : ℕ) (s : Replay) {a : Answer} → (length s.dir < 2 + 6 * P) ⊎ (length s.pool < 32 * P) → a ≡ plain NotSound 0 → record { answer = a; after = s } ≡ freshened P s
unfolding freshened
fresh_over P s {a} over e = rw (short over) (ap (λ (x : Answer). record { answer = x; after = s }) e)
  where
    short : (length s.dir < 2 + 6 * P) ⊎ (length s.pool < 32 * P) → (leb (2 + 6 * P) (length s.dir) && leb (32 * P) (length s.pool)) ≡ false
    short (inl h) = ap (λ (b : Bool). b && leb (32 * P) (length s.pool)) (lt-leb (2 + 6 * P) (length s.dir) h)
    short (inr h) = ap (λ (b : Bool). leb (2 + 6 * P) (length s.dir) && b) (lt-leb (32 * P) (length s.pool) h) ∙ and-false (leb (2 + 6 * P) (length s.dir))

module _ (P : ℕ) (s : Replay) (low : 1 ≤ P) (high : P ≤ 1024) (hd : 2 + 6 * P ≤ length s.dir) (hp : 32 * P ≤ length s.pool) where
  pub fresh_made : {a : Answer} {d p : List ℕ} → gave a d p ≡ fresh_call (front_dir P s) (front_pool P s) → done_as a P (d ++ drop (2 + 6 * P) s.dir) (p ++ drop (32 * P) s.pool) ≡ freshened P s
  unfolding freshened on_front
  fresh_made {a} {d} {p} e =
      rw (le-leb (2 + 6 * P) (length s.dir) hd, le-leb (32 * P) (length s.pool) hp) (ap (λ (r : Result). done_as r.answer P (r.dir ++ drop (2 + 6 * P) s.dir) (r.pool ++ drop (32 * P) s.pool)) e)

  -- an empty memory is ready
  dir_size : length (front_dir P s) ≡ 2 + 6 * P
  dir_size = length-take-le (2 + 6 * P) s.dir hd

  pool_size : length (front_pool P s) ≡ 32 * P
  pool_size = length-take-le (32 * P) s.pool hp

  pub fresh_front : {a : Answer} {d p : List ℕ} → gave a d p ≡ fresh_call (front_dir P s) (front_pool P s) → Front P (d ++ drop (2 + 6 * P) s.dir) (p ++ drop (32 * P) s.pool)
  fresh_front {a} {d} {p} e =
      front_of {d = d} {p = p} (drop (2 + 6 * P) s.dir) (drop (32 * P) s.pool)
      (rw (ap (λ (r : Result). r.dir) e, ap (λ (r : Result). r.pool) e) (fresh_carries P (front_dir P s) (front_pool P s) low high dir_size pool_size))
