-- A memory that is not sound is left as it is by every call but make fresh; and no call changes a length.
use Rattle.std.specs.Prelude.{◌≡◌, refl, Bool, true, false, not, cond, List, [], ℕ, length, Err, Ok}
use Rattle.std.proofs.Common.{arith}
use Rattle.std.proofs.lemmas.List.{length-replicate}
use Rattle.rules.specs.declared.Outcome.TheVariants.{NotSound}
use Rattle.rules.specs.Layout.{cells_of, memory_of}
use Rattle.laws.specs.LayoutLaws.{length_encode}
use Rattle.rules.specs.Soundness.{sound, right_lengths}
use Rattle.rules.specs.Checks.{◌then◌, refuse, check_lengths, check_sound, clock_checks, key_checks, expire_checks, store_checks, incr_checks}
use Rattle.rules.specs.Calls.{call, fresh_call, fresh_work, get_call, delete_call, store_call, incr_call, expire_call, flush_all_call, flush_expired_call}
use Rattle.rules.specs.Sequences.{Call, fresh, get, store, delete, incr, expire, flush_all, flush_expired, Buffers, result_of, step}
use Rattle.laws.specs.SoundMemory.{SoundMemory}
use Rattle.laws.specs.SoundnessLaws.{lengths_are}
use Rattle.laws.specs.Carry.{Carries, sound_carries}
use Rattle.laws.specs.Steps.{carries_step}

abbrev pub NotFresh : Call → Type 0
NotFresh fresh = ⊥
NotFresh (get clock key) = Unit {0}
NotFresh (store op clock key kind number text lifetime flags f) = Unit {0}
NotFresh (delete clock key) = Unit {0}
NotFresh (incr clock key by initial) = Unit {0}
NotFresh (expire clock key lifetime) = Unit {0}
NotFresh flush_all = Unit {0}
NotFresh (flush_expired clock maximum) = Unit {0}

pub not_sound : (c : Call) (b : Buffers) → NotFresh c → sound b.dir b.pool ≡ false → step c b ≡ b
unfolding step result_of get_call store_call delete_call incr_call expire_call flush_all_call flush_expired_call call store_checks incr_checks expire_checks key_checks clock_checks check_sound refuse ◌then◌
not_sound fresh b n t = absurd n
not_sound (get clock key) b n t = rw t
not_sound (store op clock key kind number text lifetime flags f) b n t = rw t
not_sound (delete clock key) b n t = rw t
not_sound (incr clock key by initial) b n t = rw t
not_sound (expire clock key lifetime) b n t = rw t
not_sound flush_all b n t = rw t
not_sound (flush_expired clock maximum) b n t = rw t

-- ---- no call changes a length, whatever the buffers hold

abbrev pub SameLengths : Buffers → Buffers → Type 0
SameLengths a b = (length b.dir ≡ length a.dir) × (length b.pool ≡ length a.pool)

carried_lengths : {P : ℕ} {a b : Buffers} → Carries (SoundMemory P) P a.dir a.pool → Carries (SoundMemory P) P b.dir b.pool → SameLengths a b
unfolding memory_of
carried_lengths x y = (omega (arith, x.dir_size, y.dir_size), omega (arith, x.inv.pool_size, y.inv.pool_size))

by_soundness : (c : Call) (b : Buffers) → NotFresh c → SameLengths b (step c b)
by_soundness c b n = go (sound b.dir b.pool) refl
  where
    go : (x : Bool) → sound b.dir b.pool ≡ x → SameLengths b (step c b)
    go true t = let h : Carries (SoundMemory (cells_of b.pool)) (cells_of b.pool) b.dir b.pool = sound_carries b.dir b.pool t in carried_lengths h (carries_step (cells_of b.pool) c b h)
    go false t = rw (not_sound c b n t) (refl, refl)

fresh_lengths : (dir pool : List ℕ) → (length (fresh_call dir pool).dir ≡ length dir) × (length (fresh_call dir pool).pool ≡ length pool)
unfolding fresh_call fresh_work call check_lengths refuse memory_of
fresh_lengths dir pool = go (right_lengths dir pool) refl
  where
    go : (x : Bool) → right_lengths dir pool ≡ x → (length (call (cond (not x) (Err NotSound) (Ok tt)) fresh_work dir pool).dir ≡ length dir) × (length (call (cond (not x) (Err NotSound) (Ok tt)) fresh_work dir pool).pool ≡ length pool)
    go true t = (length_encode (length dir) [] (omega (arith, lengths_are dir pool t)), length-replicate (length pool) 0)
    go false t = (refl, refl)

pub same_lengths : (c : Call) (b : Buffers) → SameLengths b (step c b)
unfolding step result_of
same_lengths fresh b = fresh_lengths b.dir b.pool
same_lengths (get clock key) b = by_soundness (get clock key) b tt
same_lengths (store op clock key kind number text lifetime flags f) b = by_soundness (store op clock key kind number text lifetime flags f) b tt
same_lengths (delete clock key) b = by_soundness (delete clock key) b tt
same_lengths (incr clock key by initial) b = by_soundness (incr clock key by initial) b tt
same_lengths (expire clock key lifetime) b = by_soundness (expire clock key lifetime) b tt
same_lengths flush_all b = by_soundness flush_all b tt
same_lengths (flush_expired clock maximum) b = by_soundness (flush_expired clock maximum) b tt
