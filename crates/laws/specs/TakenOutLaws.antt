-- Of an entry that a call takes out nothing is left in its cells: each byte is zero that is not of a key or value there.
use Rattle.std.specs.Prelude.{◌≡◌, refl, true, List, map, ℕ, ◌+◌, ◌*◌, ◌≤◌, ◌<◌, length, get_or, ℤ}
use Rattle.std.proofs.Common.{sym, ◌∙◌, ⊎_elim, inl, inr, arith}
use Rattle.std.proofs.Math.Decide.{dec_lt}
use Rattle.rules.specs.declared.Entry.{Entry}
use Rattle.rules.specs.Layout.{cells_of, need_of, to_front, key_of, number_bytes, Memory, memory_of, entry_in, wiped, remove, move_to_front}
use Rattle.rules.specs.Time.{with_expiry}
use Rattle.rules.specs.LookUp.{Means}
use Rattle.rules.specs.Soundness.{sound}
use Rattle.rules.specs.Calls.{Item, entry_for, need_for, place_at, rewrite_at, overwrite_at, add_at, expire_at}
use Rattle.rules.specs.Sequences.{Call, Buffers, step}
use Rattle.rules.specs.Clean.{Outside, OfCells, TakenOut}
use Rattle.laws.specs.Lists.{Each, each_head, each_tail, each_at, each_back, each_restore, each_unmapped, each_with, each_of}
use Rattle.laws.specs.Crowd.{Clear}
use Rattle.laws.specs.SoundMemory.{Fine, SoundMemory, few}
use Rattle.laws.specs.Bytes.{Same}
use Rattle.laws.specs.Blocks.{number_size, slot_inside, remove_same, others_same, place_same}
use Rattle.laws.specs.Kept.{Kept}
use Rattle.laws.specs.Keys.{means_size, clear_from, overwritten_key, added_key, sound_kept}
use Rattle.laws.specs.Carry.{Carries, sound_carries}
use Rattle.laws.specs.Steps.{emptied, empty_sound, step_kept}
use Rattle.laws.specs.ZeroBytes.{in_bytes, contents, zero_wiped, zeros_read, Zeros, zeros_remove, zeros_front, zeros_expire, zeros_expire_all, zeros_overwrite, zeros_add, zeros_place}

module _ (P : ℕ) (e : Entry) (key : List ℕ) where
  -- f is in the place of e, under the key
  abbrev InPlace : List ℕ → Entry → Type 0
  InPlace pool f = (f.start ≡ e.start) × (f.klen ≡ e.klen) × (f.vlen ≡ e.vlen) × (key_of pool f ≡ key)

  abbrev NotInPlace : List ℕ → Entry → Type 0
  NotInPlace pool f = InPlace pool f → ⊥

  abbrev Out : Memory → Type 0
  Out m = Each (NotInPlace m.pool) m.entries

  -- a byte of its cells
  abbrev Given : ℕ → Type 0
  Given b = OfCells b e

  -- ---- if no entry is in its place after a part of a call, none was before, or that part wiped it

  same_out : {old new : List ℕ} {es : List Entry} → Each (Same old new) es → Each (NotInPlace new) es → Each (NotInPlace old) es
  same_out same h = each_with (λ f a n q. n (q.0, q.1, q.2, a.key ∙ q.3)) same h

  out_remove : (i : ℕ) (m : Memory) → SoundMemory P m → NotInPlace m.pool (entry_in m i) → Out (remove i m) → Out m
  unfolding remove
  out_remove i m s n h = each_back i m.entries n (same_out (remove_same i m s) h)

  zeros_out : (i : ℕ) (m : Memory) → SoundMemory P m → (Out m → Zeros in_bytes Given m) → Out (remove i m) → Zeros in_bytes Given (remove i m)
  unfolding remove
  zeros_out i m s z o b w h = go (dec_lt b (32 * f.start)) (dec_lt b (32 * (f.start + need_of f)))
    where
      f : Entry
      f = entry_in m i

      stays : NotInPlace m.pool f → get_or (wiped f m.pool) b 0 ≡ 0
      stays n = zeros_remove in_bytes contents P Given i m s (z (out_remove i m s n o)) b w h

      go : Dec (b < 32 * f.start) → Dec (b < 32 * (f.start + need_of f)) → get_or (wiped f m.pool) b 0 ≡ 0
      go (yes y) q = stays (λ p. omega (arith, p.0, w.0))
      go (no y) (yes q) = zero_wiped m.pool f (slot_inside i m s) b (omega arith) q
      go (no y) (no q) = stays (λ p. omega (arith, p.0, p.1, p.2, w.1))

  out_front : (i : ℕ) (m : Memory) → Out (move_to_front i m) → Out m
  unfolding move_to_front to_front
  out_front i m h = each_back i m.entries (each_head h) (each_tail h)

  out_expire : (i t : ℕ) (m : Memory) → i < length m.entries → Out (expire_at i t m) → Out m
  unfolding expire_at with_expiry key_of
  out_expire i t m l h = each_restore i m.entries (with_expiry t (entry_in m i)) l (λ n. n) h

  out_expire_all : (t : ℕ) (m : Memory) → Each (NotInPlace m.pool) (map (with_expiry t) m.entries) → Out m
  unfolding with_expiry key_of
  out_expire_all t m h = each_unmapped (with_expiry t) m.entries (λ f n. n) h

  out_overwrite : (item : Item) (i : ℕ) (m : Memory) → Means item.key m i → length item.value ≡ (entry_in m i).vlen → SoundMemory P m → Out (overwrite_at item i m) → Out m
  unfolding overwrite_at rewrite_at to_front entry_for
  out_overwrite item i m w n s h =
      let new : Entry = entry_for item (entry_in m i).start in
      each_back i m.entries
      (λ q. each_head h (q.0, means_size i w s ∙ q.1, n ∙ q.2, overwritten_key item i m w s ∙ q.3))
      (same_out (others_same i m new item.value w.there s n) (each_tail h))

  out_add : (i : ℕ) (sum : ℤ) (m : Memory) → i < length m.entries → (entry_in m i).kind ≡ 3 → SoundMemory P m → Out (add_at i sum m) → Out m
  unfolding add_at rewrite_at to_front number_bytes
  out_add i sum m l t s h =
      let old : Entry = entry_in m i in
      let f : Fine P m.pool old = each_at i l s.each in
      each_back i m.entries
      (λ q. each_head h (q.0, q.1, q.2, added_key i sum m l s ∙ q.3))
      (same_out (others_same i m old (number_bytes sum) l s (sym (number_size m.pool old t f.fits))) (each_tail h))

  out_place : (item : Item) (s : ℕ) (m : Memory) → s + need_for item ≤ P → Each (Clear s (need_for item)) m.entries → SoundMemory P m → Out (place_at item s m) → Out m
  unfolding place_at
  out_place item s m b c sm h = same_out (place_same item s m b c sm) (each_tail h)

  -- ---- so every call

  record Cleared (m : Memory) : Type 0 where
    sound : SoundMemory P m
    zeros : Out m → Zeros in_bytes Given m

  cleared_kept : Kept P Cleared (λ key m. Unit {0})
  cleared_kept =
      let k : Kept P (SoundMemory P) (λ key m. Unit {0}) = sound_kept P in
      record {
        cells = λ m h. k.cells m h.sound;
        removes = λ i m h. record { sound = k.removes i m h.sound; zeros = zeros_out i m h.sound h.zeros };
        fronts = λ i m l h. record { sound = k.fronts i m l h.sound; zeros = λ o. zeros_front in_bytes contents P Given i m (h.zeros (out_front i m o)) };
        expires = λ i t m l h. record { sound = k.expires i t m l h.sound; zeros = λ o. zeros_expire in_bytes contents P Given i t m l (h.zeros (out_expire i t m l o)) };
        expires_all = λ t m h. record { sound = k.expires_all t m h.sound; zeros = λ o. zeros_expire_all in_bytes contents P Given t m (h.zeros (out_expire_all t m o)) };
        overwrites = λ item i m fi a n h.
            record { sound = k.overwrites item i m fi a n h.sound; zeros = λ o. zeros_overwrite in_bytes contents P Given item i m a n h.sound (h.zeros (out_overwrite item i m a n h.sound o)) };
        adds = λ i sum m l t h. record { sound = k.adds i sum m l t h.sound; zeros = λ o. zeros_add in_bytes contents P Given i sum m l t h.sound (h.zeros (out_add i sum m l t h.sound o)) };
        places = λ item s m fi b free u h.
            record {
              sound = k.places item s m fi b free tt h.sound;
              zeros = λ o.
                  zeros_place in_bytes contents P Given item s m b h.sound
                  (h.zeros (out_place item s m (omega (arith, h.sound.pool_size)) (clear_from item s fi.some_key free h.sound) h.sound o));
            };
        open_missing = λ key m w. tt;
        open_out = λ key i m w h. tt;
        open_removes = λ key i m h o. tt;
      }

  emptied_cleared : (m : Memory) → Cleared m → Cleared (emptied m)
  emptied_cleared m h = record { sound = empty_sound P m h.sound; zeros = λ o b w f. zeros_read (length m.pool) b }

  cleared_step : (c : Call) (b : Buffers) → Carries Cleared P b.dir b.pool → Carries Cleared P (step c b).dir (step c b).pool
  cleared_step = step_kept P Cleared (λ key m. Unit {0}) cleared_kept (λ m h. few h.sound) emptied_cleared

-- ---- the statement

module _ (c : Call) (b : Buffers) (t : sound b.dir b.pool ≡ true) where
  abbrev before : Memory
  before = memory_of b.dir b.pool

  abbrev after : Memory
  after = memory_of (step c b).dir (step c b).pool

  pub taken_out_zero : (i : ℕ) → i < length before.entries → TakenOut before after i → (k : ℕ) → OfCells k (entry_in before i) → ((j : ℕ) → j < length after.entries → Outside k (entry_in after j)) → get_or after.pool k 0 ≡ 0
  taken_out_zero i l out k w h =
      let P : ℕ = cells_of b.pool in
      let e : Entry = entry_in before i in
      let key : List ℕ = key_of before.pool e in
      let s : Carries (SoundMemory P) P b.dir b.pool = sound_carries b.dir b.pool t in
      let given : Carries (Cleared P e key) P b.dir b.pool =
      record { dir_is = s.dir_is; dir_size = s.dir_size; inv = record { sound = s.inv; zeros = λ o. absurd (each_at i l o (refl, refl, refl, refl)) } } in
      let left : Carries (Cleared P e key) P (step c b).dir (step c b).pool = cleared_step P e key c b given in
      left.inv.zeros
      (each_of after.entries (λ j l q. out j l (record { start = q.0; klen = q.1; vlen = q.2; key = q.3 })))
      k w
      (each_of after.entries (λ j l. ⊎_elim inl (λ y. inr (omega arith)) (h j l)))
