-- What each call keeps, and so sequences of calls.
use Rattle.std.specs.Prelude.{◌≡◌, true, ℕ, ◌^◌, ◌≤◌, ◌<◌, length, replicate, ℤ, Ok, Option}
use Rattle.std.proofs.Common.{◌∙◌, arith}
use mathlib.Core.List.{List, [], ◌∷◌}
use Rattle.std.proofs.lemmas.List.{length-replicate}
use Rattle.rules.specs.declared.Operation.{Operation}
use Rattle.rules.specs.declared.Initial.{Initial}
use Rattle.rules.specs.Layout.{cells_of, Memory, memory_of}
use Rattle.rules.specs.Time.{expiry_of}
use Rattle.rules.specs.LookUp.{look_up}
use Rattle.rules.specs.Soundness.{sound, audit, right_lengths}
use Rattle.rules.specs.Checks.{refuse, check_lengths, check_sound, clock_checks, key_checks, expire_checks, store_checks, incr_checks}
use Rattle.rules.specs.Calls.{item_of, fresh_work, fresh_call, get_work, get_call, delete_work, delete_call, store_work, store_call, incr_work, incr_call, expire_found, expire_call, flush_all_work, flush_all_call, flush_expired_work, flush_expired_call}
use Rattle.rules.specs.Sequences.{Call, fresh, get, store, delete, incr, expire, flush_all, flush_expired, Buffers, result_of, step, steps}
use Rattle.laws.specs.CallsLaws.{call_passed}
use Rattle.laws.specs.SoundnessLaws.{Lengths, lengths_are}
use Rattle.laws.specs.Lists.{Each, nil, none_yet}
use Rattle.laws.specs.SoundMemory.{SoundMemory, few}
use Rattle.laws.specs.Finding.{Other, finds}
use Rattle.laws.specs.Kept.{Kept, get_kept, delete_kept, store_kept, incr_kept, expire_kept, flush_all_kept, flush_expired_kept}
use Rattle.laws.specs.Keys.{Audited, sound_kept, audited_kept}
use Rattle.laws.specs.Carry.{Carries, carries_encode, carries_call, sound_carries, carries_sound, audit_carries, carries_audit, store_fine, incr_fine}

-- ---- what is kept

-- what make fresh leaves
abbrev pub emptied : Memory → Memory
emptied m = record { entries = []; pool = replicate (length m.pool) 0 }

module _ (P : ℕ) (Inv : Memory → Type 0) (Open : List ℕ → Memory → Type 0) (k : Kept P Inv Open) (fewer : (m : Memory) → Inv m → length m.entries ≤ P) (empty : (m : Memory) → Inv m → Inv (emptied m)) where
  pub step_kept : (c : Call) (b : Buffers) → Carries Inv P b.dir b.pool → Carries Inv P (step c b).dir (step c b).pool
  unfolding step result_of fresh_call fresh_work get_call store_call delete_call incr_call expire_call flush_all_call flush_expired_call
  step_kept fresh b h = carries_call P (check_lengths b.dir b.pool) fresh_work b.dir b.pool fewer h (λ e i. empty (memory_of b.dir b.pool) i)
  step_kept (get clock key) b h =
      carries_call P (key_checks b.dir b.pool clock key) (get_work clock key) b.dir b.pool fewer h (λ e i. get_kept P Inv Open k clock key (memory_of b.dir b.pool) i)
  step_kept (store op clock key kind number text lifetime flags f) b h =
      carries_call P (store_checks op b.dir b.pool clock key kind lifetime) (store_work op clock (item_of clock key kind number text lifetime flags)) b.dir b.pool fewer h
      (λ e i. store_kept P Inv Open k op clock (item_of clock key kind number text lifetime flags) (store_fine op b.dir b.pool clock key kind number text lifetime flags f e) (memory_of b.dir b.pool) i)
  step_kept (delete clock key) b h =
      carries_call P (key_checks b.dir b.pool clock key) (delete_work clock key) b.dir b.pool fewer h (λ e i. delete_kept P Inv Open k clock key (memory_of b.dir b.pool) i)
  step_kept (incr clock key by initial) b h =
      carries_call P (incr_checks b.dir b.pool clock key initial) (incr_work clock key by initial) b.dir b.pool fewer h
      (λ e i. incr_kept P Inv Open k clock key by (incr_fine b.dir b.pool clock key initial e) initial (memory_of b.dir b.pool) i)
  step_kept (expire clock key lifetime) b h =
      let m : Memory = memory_of b.dir b.pool in
      carries_call P (expire_checks b.dir b.pool clock key lifetime) (λ n. expire_found (expiry_of clock lifetime) n (look_up clock key n)) b.dir b.pool fewer h
      (λ e i. expire_kept P Inv Open k key (expiry_of clock lifetime) m (look_up clock key m) (finds clock key m) i)
  step_kept flush_all b h = carries_call P (check_sound b.dir b.pool) flush_all_work b.dir b.pool fewer h (λ e i. flush_all_kept P Inv Open k (memory_of b.dir b.pool) i)
  step_kept (flush_expired clock maximum) b h =
      carries_call P (clock_checks b.dir b.pool clock) (flush_expired_work clock maximum) b.dir b.pool fewer h (λ e i. flush_expired_kept P Inv Open k clock maximum (memory_of b.dir b.pool) i)

  pub steps_kept : (cs : List Call) (b : Buffers) → Carries Inv P b.dir b.pool → Carries Inv P (steps cs b).dir (steps cs b).pool
  unfolding steps
  steps_kept [] b h = h
  steps_kept (c ∷ cs) b h = steps_kept cs (step c b) (step_kept c b h)

pub empty_sound : (P : ℕ) (m : Memory) → SoundMemory P m → SoundMemory P (emptied m)
empty_sound P m h = record { some_cell = h.some_cell; few_cells = h.few_cells; pool_size = length-replicate (length m.pool) 0 ∙ h.pool_size; each = nil; apart = none_yet }

-- ---- the statements

-- each call, and so any calls, leave a sound memory sound
pub sound_step : (c : Call) (b : Buffers) → sound b.dir b.pool ≡ true → sound (step c b).dir (step c b).pool ≡ true
sound_step c b t =
    let P : ℕ = cells_of b.pool in
    carries_sound (step_kept P (SoundMemory P) (λ key m. Unit {0}) (sound_kept P) (λ m. few) (empty_sound P) c b (sound_carries b.dir b.pool t))

-- with the same P
pub carries_step : (P : ℕ) (c : Call) (b : Buffers) → Carries (SoundMemory P) P b.dir b.pool → Carries (SoundMemory P) P (step c b).dir (step c b).pool
carries_step P c b h = step_kept P (SoundMemory P) (λ key m. Unit {0}) (sound_kept P) (λ m. few) (empty_sound P) c b h

pub sound_steps : (cs : List Call) (b : Buffers) → sound b.dir b.pool ≡ true → sound (steps cs b).dir (steps cs b).pool ≡ true
sound_steps cs b t =
    let P : ℕ = cells_of b.pool in
    carries_sound (steps_kept P (SoundMemory P) (λ key m. Unit {0}) (sound_kept P) (λ m. few) (empty_sound P) cs b (sound_carries b.dir b.pool t))

empty_audited : (P : ℕ) (m : Memory) → Audited P m → Audited P (emptied m)
empty_audited P m h = record { sound = empty_sound P m h.sound; keys = none_yet }

-- and one that audit praises, praised
pub audit_steps : (cs : List Call) (b : Buffers) → audit b.dir b.pool ≡ true → audit (steps cs b).dir (steps cs b).pool ≡ true
audit_steps cs b t =
    let P : ℕ = cells_of b.pool in
    carries_audit
    (steps_kept P (Audited P) (λ key m. Each (Other m.pool key) m.entries) (audited_kept P) (λ m h. few h.sound) (empty_audited P) cs b (audit_carries b.dir b.pool t))

-- ---- make fresh

pub fresh_passed : (dir pool : List ℕ) → right_lengths dir pool ≡ true → check_lengths dir pool ≡ (Ok tt)
unfolding check_lengths refuse
fresh_passed dir pool t = rw t

-- make fresh gives such a memory, of any contents of the right lengths
pub fresh_audit : (b : Buffers) → right_lengths b.dir b.pool ≡ true → audit (step fresh b).dir (step fresh b).pool ≡ true
unfolding step result_of fresh_call fresh_work memory_of
fresh_audit b t =
    let l : Lengths b.dir b.pool = lengths_are b.dir b.pool t in
    let P : ℕ = cells_of b.pool in
    let m : Memory = emptied (memory_of b.dir b.pool) in
    let a : Audited P m = record { sound = record { some_cell = l.some_cell; few_cells = l.few_cells; pool_size = length-replicate (length b.pool) 0 ∙ l.pool_size; each = nil; apart = none_yet }; keys = none_yet } in
    rw (call_passed (check_lengths b.dir b.pool) b.dir b.pool fresh_work (fresh_passed b.dir b.pool t))
    (carries_audit (carries_encode P (length b.dir) m l.dir_size (omega arith) a))

-- "From a fresh memory they never arise": whatever calls follow, the memory is sound and all keys differ
pub from_fresh : (cs : List Call) (b : Buffers) → right_lengths b.dir b.pool ≡ true → audit (steps (fresh ∷ cs) b).dir (steps (fresh ∷ cs) b).pool ≡ true
unfolding steps
from_fresh cs b t = audit_steps cs (step fresh b) (fresh_audit b t)

-- ---- call by call, as the contracts want it

module _ (dir pool : List ℕ) (t : sound dir pool ≡ true) where
  abbrev given : Buffers
  given = record { dir = dir; pool = pool }

  pub fresh_sound : sound (fresh_call dir pool).dir (fresh_call dir pool).pool ≡ true
  unfolding step result_of
  fresh_sound = sound_step fresh given t

  pub get_sound : (clock : ℕ) (key : List ℕ) → sound (get_call dir pool clock key).dir (get_call dir pool clock key).pool ≡ true
  unfolding step result_of
  get_sound clock key = sound_step (get clock key) given t

  pub store_sound : (op : Operation) (clock : ℕ) (key : List ℕ) (kind : ℕ) (number : ℤ) (text : List ℕ) (lifetime flags : ℕ) → flags < 2 ^ 32 → sound (store_call op dir pool clock key kind number text lifetime flags).dir (store_call op dir pool clock key kind number text lifetime flags).pool ≡ true
  unfolding step result_of
  store_sound op clock key kind number text lifetime flags f = sound_step (store op clock key kind number text lifetime flags f) given t

  pub delete_sound : (clock : ℕ) (key : List ℕ) → sound (delete_call dir pool clock key).dir (delete_call dir pool clock key).pool ≡ true
  unfolding step result_of
  delete_sound clock key = sound_step (delete clock key) given t

  pub incr_sound : (clock : ℕ) (key : List ℕ) (by : ℤ) (initial : Option Initial) → sound (incr_call dir pool clock key by initial).dir (incr_call dir pool clock key by initial).pool ≡ true
  unfolding step result_of
  incr_sound clock key by initial = sound_step (incr clock key by initial) given t

  pub expire_sound : (clock : ℕ) (key : List ℕ) (lifetime : ℕ) → sound (expire_call dir pool clock key lifetime).dir (expire_call dir pool clock key lifetime).pool ≡ true
  unfolding step result_of
  expire_sound clock key lifetime = sound_step (expire clock key lifetime) given t

  pub flush_all_sound : sound (flush_all_call dir pool).dir (flush_all_call dir pool).pool ≡ true
  unfolding step result_of
  flush_all_sound = sound_step flush_all given t

  pub flush_expired_sound : (clock maximum : ℕ) → sound (flush_expired_call dir pool clock maximum).dir (flush_expired_call dir pool clock maximum).pool ≡ true
  unfolding step result_of
  flush_expired_sound clock maximum = sound_step (flush_expired clock maximum) given t
