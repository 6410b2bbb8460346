-- What is given up is zero: of each call on a sound memory, and of all calls from a fresh one.
use Rattle.std.specs.Prelude.{◌≡◌, true, List, ◌∷◌, ℕ, ◌+◌, ◌*◌, ◌/◌, length, get_or, replicate}
use Rattle.std.proofs.Common.{sym, ap, ◌∙◌, true≢false, ⊎_elim, inl, inr, arith}
use Rattle.rules.specs.Layout.{cells_of, Memory, memory_of}
use Rattle.rules.specs.Place.{held}
use Rattle.rules.specs.Soundness.{sound, right_lengths}
use Rattle.rules.specs.Calls.{fresh_work, fresh_call}
use Rattle.rules.specs.Checks.{check_lengths}
use Rattle.rules.specs.Sequences.{Call, fresh, Buffers, result_of, step, steps}
use Rattle.rules.specs.Clean.{GivesUpZero, Clean}
use Rattle.laws.specs.CallsLaws.{call_passed}
use Rattle.laws.specs.SoundMemory.{SoundMemory, few}
use Rattle.laws.specs.Kept.{Kept}
use Rattle.laws.specs.Keys.{sound_kept, Audited}
use Rattle.laws.specs.Lists.{each_map, each_of}
use Rattle.laws.specs.Carry.{Carries, sound_carries, audit_carries}
use Rattle.laws.specs.Steps.{emptied, empty_sound, step_kept, steps_kept, fresh_passed, fresh_audit}
use Rattle.laws.specs.TakenOutLaws.{taken_out_zero}
use Rattle.laws.specs.ZeroBytes.{Extent, in_cells, whole_cells, in_bytes, contents, free_beside, beside_free, zeros_read, Zeros, zeros_remove, zeros_front, zeros_expire, zeros_expire_all, zeros_overwrite, zeros_add, zeros_place}

module _ (size : ℕ → ℕ) (x : Extent size) (P : ℕ) (Watched : ℕ → Type 0) where
  -- a sound memory and its watched bytes
  record Cleaned (m : Memory) : Type 0 where
    sound : SoundMemory P m
    zeros : Zeros size Watched m

  cleaned_kept : Kept P Cleaned (λ key m. Unit {0})
  cleaned_kept =
      let k : Kept P (SoundMemory P) (λ key m. Unit {0}) = sound_kept P in
      record {
        cells = λ m h. k.cells m h.sound;
        removes = λ i m h. record { sound = k.removes i m h.sound; zeros = zeros_remove size x P Watched i m h.sound h.zeros };
        fronts = λ i m l h. record { sound = k.fronts i m l h.sound; zeros = zeros_front size x P Watched i m h.zeros };
        expires = λ i t m l h. record { sound = k.expires i t m l h.sound; zeros = zeros_expire size x P Watched i t m l h.zeros };
        expires_all = λ t m h. record { sound = k.expires_all t m h.sound; zeros = zeros_expire_all size x P Watched t m h.zeros };
        overwrites = λ item i m fi a n h. record { sound = k.overwrites item i m fi a n h.sound; zeros = zeros_overwrite size x P Watched item i m a n h.sound h.zeros };
        adds = λ i sum m l t h. record { sound = k.adds i sum m l t h.sound; zeros = zeros_add size x P Watched i sum m l t h.sound h.zeros };
        places = λ item s m fi b free o h. record { sound = k.places item s m fi b free tt h.sound; zeros = zeros_place size x P Watched item s m b h.sound h.zeros };
        open_missing = λ key m w. tt;
        open_out = λ key i m w h. tt;
        open_removes = λ key i m h o. tt;
      }

  emptied_cleaned : (m : Memory) → Cleaned m → Cleaned (emptied m)
  emptied_cleaned m h = record { sound = empty_sound P m h.sound; zeros = λ b w f. zeros_read (length m.pool) b }

  cleaned_step : (c : Call) (b : Buffers) → Carries Cleaned P b.dir b.pool → Carries Cleaned P (step c b).dir (step c b).pool
  cleaned_step = step_kept P Cleaned (λ key m. Unit {0}) cleaned_kept (λ m h. few h.sound) emptied_cleaned

  cleaned_steps : (cs : List Call) (b : Buffers) → Carries Cleaned P b.dir b.pool → Carries Cleaned P (steps cs b).dir (steps cs b).pool
  cleaned_steps = steps_kept P Cleaned (λ key m. Unit {0}) cleaned_kept (λ m h. few h.sound) emptied_cleaned

-- ---- the statements

-- any call, on any buffers that pass the test of soundness: what it gives up is zero
pub gives_up_zero : (c : Call) (b : Buffers) → sound b.dir b.pool ≡ true → GivesUpZero (memory_of b.dir b.pool) (memory_of (step c b).dir (step c b).pool)
gives_up_zero c b t =
    let P : ℕ = cells_of b.pool in
    let m : Memory = memory_of b.dir b.pool in
    let Watched : ℕ → Type 0 = λ k. held m.entries (k / 32) ≡ true in
    let s : Carries (SoundMemory P) P b.dir b.pool = sound_carries b.dir b.pool t in
    let before : Carries (Cleaned in_cells whole_cells P Watched) P b.dir b.pool =
    record { dir_is = s.dir_is; dir_size = s.dir_size; inv = record { sound = s.inv; zeros = λ k w h. absurd (true≢false (sym w ∙ beside_free k h)) } } in
    let after : Carries (Cleaned in_cells whole_cells P Watched) P (step c b).dir (step c b).pool = cleaned_step in_cells whole_cells P Watched c b before in
    record {
      zero = λ k w f j l.
          let q : k ≡ (32 * k + j) / 32 = omega arith in
          after.inv.zeros (32 * k + j) (ap (held m.entries) (sym q) ∙ w) (free_beside _ k j l f);
      rest = taken_out_zero c b t;
    }

-- make fresh zeroes the whole pool
fresh_pool : (b : Buffers) → right_lengths b.dir b.pool ≡ true → (step fresh b).pool ≡ replicate (length b.pool) 0
unfolding step result_of fresh_call fresh_work memory_of
fresh_pool b t = rw (call_passed (check_lengths b.dir b.pool) b.dir b.pool fresh_work (fresh_passed b.dir b.pool t))

-- from a fresh memory on, whatever calls follow: nothing but keys and values
pub from_fresh_clean : (cs : List Call) (b : Buffers) → right_lengths b.dir b.pool ≡ true → Clean (memory_of (steps (fresh ∷ cs) b).dir (steps (fresh ∷ cs) b).pool)
unfolding steps memory_of
from_fresh_clean cs b t =
    let new : Buffers = step fresh b in
    let P : ℕ = cells_of new.pool in
    let Watched : ℕ → Type 0 = λ k. Unit {0} in
    let a : Carries (Audited P) P new.dir new.pool = audit_carries new.dir new.pool (fresh_audit b t) in
    let before : Carries (Cleaned in_bytes contents P Watched) P new.dir new.pool =
    record {
      dir_is = a.dir_is;
      dir_size = a.dir_size;
      inv = record { sound = a.inv.sound; zeros = λ k w h. ap (λ (l : List ℕ). get_or l k 0) (fresh_pool b t) ∙ zeros_read (length b.pool) k };
    } in
    let after : Carries (Cleaned in_bytes contents P Watched) P (steps cs new).dir (steps cs new).pool = cleaned_steps in_bytes contents P Watched cs new before in
    record {
      free = λ c f j l. after.inv.zeros (32 * c + j) tt (each_map (λ e w. ⊎_elim inl (λ y. inr (omega arith)) w) (free_beside _ c j l f));
      rest = λ k h. after.inv.zeros k tt (each_of _ (λ i l. ⊎_elim inl (λ y. inr (omega arith)) (h i l)));
    }
