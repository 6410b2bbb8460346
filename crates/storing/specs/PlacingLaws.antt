-- Placing anew, step by step: the choice, the rounds out, and the entry written.
use Rattle.std.specs.Prelude.{◌≡◌, refl, true, false, ◌&&◌, Option, Some, None}
use Rattle.std.proofs.Common.{sym, ◌∙◌, arith}
use Rattle.std.proofs.Math.Path.{ap, subst}
use mathlib.Core.List.{List, ◌∷◌}
use Prim.Native.Nat.{ℕ, ◌+◌, ◌*◌, ◌≤◌}
use Rattle.std.proofs.Math.ListN.{length, length-append, length-reverse}
use Rattle.rules.specs.declared.Entry.{Entry}
use Rattle.rules.specs.declared.Answer.{Answer}
use Rattle.rules.specs.declared.Outcome.{Outcome}
use Rattle.rules.specs.declared.Outcome.TheVariants.{NoMemory}
use Rattle.rules.specs.Layout.{cells_of, encode, entries_of, put, Memory, memory_of, remove_oldest}
use Rattle.rules.specs.Recency.{line, left, gone}
use Rattle.rules.specs.Place.{held, Placed, run}
use Rattle.rules.specs.Soundness.{sound}
use Rattle.rules.specs.Answer.{plain}
use Rattle.rules.specs.Calls.{Holds, Work, Does, Item, entry_for, need_for, place_at, searched, is_placed, if_room, evicted, forced_by, fit_outcome, place_fit, placed_by, place_anew}
use Rattle.laws.specs.LayoutLaws.{put_then}
use Rattle.laws.specs.RecencyLaws.{gone_left}
use Rattle.laws.specs.PlaceLaws.{RanBy, run_ran}
use Rattle.laws.specs.CellLaws.{held_reverse}
use Rattle.laws.specs.LeastLossLaws.{after_rounds}
use Rattle.laws.specs.CallsLaws.{room_ran, no_room}
use Rattle.laws.specs.Bytes.{FineItem}
use Rattle.laws.specs.SoundMemory.{SoundMemory, few}
use Rattle.laws.specs.Blocks.{sound_place}
use Rattle.laws.specs.Keys.{clear_from}
use Rattle.laws.specs.Buffers.{holds_itself, holds_memory, given_sound, given_memory, step_length, oldest_sound}
use Rattle.eviction.specs.declared.Choice.{Choice}
use Rattle.eviction.specs.Choice.{Chosen, start_of, ran_of, gone_of, live_of}
use Rattle.storing.specs.Placing.{Fits}

-- ---- the entry written

module _ (dir pool : List ℕ) (t : sound dir pool ≡ true) (item : Item) (start : ℕ) (fine : FineItem item) (f : Fits item start (memory_of dir pool)) where
  -- what is placed leaves a sound memory, so there was an unused record
  pub placed_sound : SoundMemory (cells_of pool) (place_at item start (memory_of dir pool))
  unfolding memory_of
  placed_sound = sound_place item start (memory_of dir pool) f.inside (clear_from item start fine.some_key f.free (given_memory dir pool t)) (given_memory dir pool t) fine

  pub record_left : 8 + 6 * length (entries_of dir) ≤ length dir
  unfolding place_at memory_of
  record_left = omega (arith, few placed_sound, (given_sound dir pool t).dir_size)

  -- key and value end inside the pool
  pub bytes_inside : 32 * start + length item.key + length item.value ≤ length pool
  unfolding memory_of
  bytes_inside = omega (arith, f.inside, (given_sound dir pool t).pool_size)

  pub placed_holds : {dir' keyed valued : List ℕ} → keyed ≡ put pool (32 * start) item.key → valued ≡ put keyed (32 * start + length item.key) item.value → dir' ≡ encode (length dir) (entry_for item start ∷ entries_of dir) → Holds (length dir) (place_at item start (memory_of dir pool)) dir' valued
  unfolding place_at memory_of
  placed_holds k v d =
      record {
        words = d;
        bytes = v ∙ ap (λ (l : List ℕ). put l (32 * start + length item.key) item.value) k ∙ put_then pool (32 * start) item.key item.value bytes_inside;
      }

-- ---- the choice

-- for a need that is told otherwise
pub chosen_for : {clock P n n' most : ℕ} {es : List Entry} {r : Option Choice} → n ≡ n' → Chosen clock P n most es r → Chosen clock P n' most es r
chosen_for {clock} {P} {n} {n'} {most} {es} {r} e c = subst (λ (k : ℕ). Chosen clock P k most es r) e c

-- the rounds take entries of the line
module _ (dir pool : List ℕ) (t : sound dir pool ≡ true) (clock most n : ℕ) (r : Option Choice) (c : Chosen clock (cells_of pool) n most (line (memory_of dir pool)) r) where
  pub gone_within : gone_of r ≤ length (entries_of dir)
  unfolding memory_of
  gone_within =
      let es : List Entry = line (memory_of dir pool) in
      let k : ℕ = (if_room (run clock (cells_of pool) n most es)).ran in
      omega (arith, c.gone, ap length (gone_left clock k es), length-append (gone clock k es) (left clock k es), length-reverse (entries_of dir))

  pub gone_few : gone_of r ≤ 1024
  gone_few = omega (arith, gone_within, given_sound dir pool t)

module _ (dir pool : List ℕ) (t : sound dir pool ≡ true) (clock most : ℕ) (item : Item) (r : Option Choice) (c : Chosen clock (cells_of pool) (need_for item) most (line (memory_of dir pool)) r) where
  abbrev m : Memory
  m = memory_of dir pool

  abbrev es : List Entry
  es = line m

  abbrev p : Placed
  p = run clock (cells_of pool) (need_for item) most es

  module _ {dir₁ pool₁ : List ℕ} (h : Holds (length dir) (remove_oldest (gone_of r) m) dir₁ pool₁) where
    behind_length : length dir₁ ≡ length dir
    behind_length = step_length dir pool t (oldest_sound dir pool t (gone_of r)) h

    fits_by : (f : Option ℕ) (k start : ℕ) → RanBy clock (cells_of pool) (need_for item) most es f k → f ≡ Some start → gone_of r ≡ length (gone clock k es) → Fits item start (memory_of dir₁ pool₁)
    fits_by None k start ran e g = absurd (let z : ◌≡◌ {A = ℕ} 0 1 = cc in omega arith)
    fits_by (Some s) k start ran e g =
        let same : s ≡ start = cc in
        let mem : memory_of dir₁ pool₁ ≡ remove_oldest (length (gone clock k es)) m = holds_memory h ∙ ap (λ (n : ℕ). remove_oldest n m) g in
        let cells : cells_of (memory_of dir₁ pool₁).pool ≡ cells_of pool = omega (arith, ap (λ (x : Memory). length x.pool) (holds_memory h), (oldest_sound dir pool t (gone_of r)).pool_size) in
        record {
          inside = omega (arith, ran.0.inside);
          free = λ j l.
              ap (λ (x : Memory). held x.entries (start + j)) mem
              ∙ ap (λ (x : List Entry). held x (start + j)) (after_rounds clock k m)
              ∙ held_reverse (left clock k es) (start + j) (subst (λ (x : ℕ). held (left clock k es) (x + j) ≡ false) same (ran.0.frees j l));
        }

    pub chosen_fits : (start : ℕ) → start_of r ≡ Some start → Fits item start (memory_of dir₁ pool₁)
    chosen_fits start e =
        let f : p.fit ≡ Some start = sym c.fit ∙ e in
        fits_by p.fit p.ran start (run_ran clock (cells_of pool) (need_for item) most es) f (c.gone ∙ ap (λ (k : ℕ). length (gone clock k es)) (room_ran p f))

    -- the answer of a choice, with a fit of its own
    abbrev answered : Outcome → ℕ → Option ℕ → Answer
    answered told swept f = record { rounds = ran_of r; removed = swept + gone_of r; forced = is_placed f && live_of r; stale = false; outcome = fit_outcome told f }

    work_is : (told : Outcome) (swept : ℕ) (f : Option ℕ) → start_of r ≡ f → record { answer = answered told swept f; memory = place_fit item f (remove_oldest (gone_of r) m) } ≡ place_anew most clock item told swept m
    unfolding place_anew searched if_room placed_by evicted forced_by memory_of
    work_is told swept f e = rw (sym e, c.fit, c.ran, c.gone, c.live)

    -- no place: nothing is gone by rounds
    pub refused_does : (told : Outcome) (swept : ℕ) (a : Answer) → start_of r ≡ None → a ≡ record { rounds = 0; removed = swept + gone_of r; forced = false; stale = false; outcome = NoMemory } → Does (place_anew most clock item told swept m) (length dir) a dir₁ pool₁
    unfolding fit_outcome place_fit is_placed
    refused_does told swept a e q =
        let z : ran_of r ≡ 0 = c.ran ∙ no_room p (sym c.fit ∙ e) in
        subst (λ (w : Work). Does w (length dir) a dir₁ pool₁) (work_is told swept None e) (record { answer = q ∙ rw z; memory = h })

    -- a place: the entry is stored there too
    pub placed_does : (told : Outcome) (swept : ℕ) (a : Answer) (start : ℕ) {dir₂ pool₂ : List ℕ} → start_of r ≡ Some start → Holds (length dir₁) (place_at item start (memory_of dir₁ pool₁)) dir₂ pool₂ → a ≡ record { rounds = ran_of r; removed = swept + gone_of r; forced = live_of r; stale = false; outcome = told } → Does (place_anew most clock item told swept m) (length dir) a dir₂ pool₂
    unfolding fit_outcome place_fit is_placed
    placed_does told swept a start {dir₂} {pool₂} e k q =
        subst (λ (w : Work). Does w (length dir) a dir₂ pool₂) (work_is told swept (Some start) e)
        (record {
          answer = q;
          memory = subst (λ (x : Memory). Holds (length dir) (place_at item start x) dir₂ pool₂) (holds_memory h) (subst (λ (n : ℕ). Holds n (place_at item start (memory_of dir₁ pool₁)) dir₂ pool₂) behind_length k);
        })

-- nothing chosen: the memory stays as it was
pub none_does : (dir pool : List ℕ) (t : sound dir pool ≡ true) (clock most : ℕ) (item : Item) → Chosen clock (cells_of pool) (need_for item) most (line (memory_of dir pool)) None → (told : Outcome) (swept : ℕ) (a : Answer) → a ≡ plain NoMemory swept → Does (place_anew most clock item told swept (memory_of dir pool)) (length dir) a dir pool
unfolding remove_oldest
none_does dir pool t clock most item c told swept a q =
    let h : Holds (length dir) (memory_of dir pool) dir pool = holds_itself dir pool (given_sound dir pool t).dir_is in
    let z : swept + 0 ≡ swept = omega arith in
    refused_does dir pool t clock most item None c h told swept a refl (q ∙ rw z)
