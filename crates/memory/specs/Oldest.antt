-- The longest unused entries leave: their cells one entry after the other, their records at once.
use Rattle.std.specs.Prelude.{◌≡◌, true}
use Rattle.std.proofs.Math.Path.{sym, ap}
use Rattle.std.proofs.Common.{◌∙◌}
use mathlib.Core.List.{List}
use Prim.Native.Nat.{ℕ, suc, ◌+◌, ◌-◌, ◌*◌, ◌≤◌, ◌<◌}
use native.Mathlib.Omega.{arith}
use Rattle.std.proofs.Math.ListN.{length, take, get_or}
use Rattle.std.proofs.Math.Seq.{length-take-le, get_or-take}
use Rattle.rules.specs.declared.Entry.{Entry}
use Rattle.rules.specs.Layout.{need_of, encode, entries_of, none, Memory, memory_of, entry_in, wiped, remove, remove_oldest}
use Rattle.rules.specs.Soundness.{sound}
use Rattle.rules.specs.Calls.{Holds}
use Rattle.laws.specs.LayoutLaws.{oldest_entries, oldest_more}
use Rattle.laws.specs.SoundMemory.{SoundMemory}
use Rattle.laws.specs.Buffers.{oldest_sound, given_sound, entry_cells}

module _ (dir pool : List ℕ) where
  abbrev before : Memory
  before = memory_of dir pool

  abbrev n : ℕ
  n = length (entries_of dir)

  -- the entries from `left` on have left the pool
  pub record Wiping (left : ℕ) (bytes : List ℕ) : Type 0 where
    pub within : left ≤ n
    pub are : bytes ≡ (remove_oldest (n - left) before).pool

  pub wiping_none : {left : ℕ} → left ≡ n → Wiping left pool
  unfolding remove_oldest memory_of
  wiping_none e = let z : n - n ≡ 0 = omega arith in record { within = omega arith; are = rw (e, z) }

  module _ {left : ℕ} {bytes : List ℕ} (w : Wiping left bytes) (l : 0 < left) where
    abbrev k : ℕ
    k = n - left

    kept : (remove_oldest k before).entries ≡ take left (entries_of dir)
    unfolding memory_of
    kept = let e : n - k ≡ left = omega (arith, w.within) in oldest_entries k before (omega arith) ∙ ap (λ (x : ℕ). take x (entries_of dir)) e

    -- the last of what is left is wiped
    pub wiping_more : (e : Entry) {bytes' : List ℕ} → e ≡ get_or (entries_of dir) (left - 1) none → bytes' ≡ wiped e bytes → Wiping (left - 1) bytes'
    unfolding remove
    wiping_more e x b =
        let size : length (remove_oldest k before).entries ≡ left = ap length kept ∙ length-take-le left (entries_of dir) w.within in
        let last : entry_in (remove_oldest k before) (length (remove_oldest k before).entries - 1) ≡ e = ap (λ (j : ℕ). entry_in (remove_oldest k before) (j - 1)) size ∙ ap (λ (es : List Entry). get_or es (left - 1) none) kept ∙ get_or-take left (entries_of dir) (left - 1) none (omega arith) ∙ sym x in
        let next : suc k ≡ n - (left - 1) = omega (arith, w.within) in
        record {
          within = omega (arith, w.within);
          are = b ∙ ap (wiped e) w.are ∙ ap (λ (y : Entry). wiped y (remove_oldest k before).pool) (sym last) ∙ sym (ap (λ (m : Memory). m.pool) (oldest_more k before)) ∙ ap (λ (j : ℕ). (remove_oldest j before).pool) next;
        }

  module _ {left : ℕ} {bytes : List ℕ} (w : Wiping left bytes) where
    -- wiping leaves the pool's length
    pub wiping_length : sound dir pool ≡ true → length bytes ≡ length pool
    wiping_length t =
        let s : SoundMemory _ (remove_oldest (n - left) before) = oldest_sound dir pool t (n - left) in
        omega (arith, ap length w.are, s.pool_size, (given_sound dir pool t).pool_size)

    -- the next to be wiped lies in it
    pub wiping_inside : sound dir pool ≡ true → 0 < left → (e : Entry) → e ≡ get_or (entries_of dir) (left - 1) none → (e.klen ≤ 65535) × (32 * (e.start + need_of e) ≤ length bytes)
    wiping_inside t l e x =
        let c : (e.klen ≤ 65535) × (32 * (e.start + need_of e) ≤ length pool) = entry_cells dir pool t (left - 1) (omega (arith, w.within)) e x in
        (c.0, omega (arith, c.1, wiping_length t))

    -- all are wiped, and the records go
    pub wiping_done : (gone : ℕ) {count : ℕ} {dir' : List ℕ} → gone ≤ n → count ≡ n → left ≡ count - gone → dir' ≡ encode (length dir) (take (count - gone) (entries_of dir)) → Holds (length dir) (remove_oldest gone before) dir' bytes
    unfolding memory_of
    wiping_done gone h c e d =
        let same : n - left ≡ gone = omega (arith, w.within) in
        record {
          words = d ∙ ap (λ (x : ℕ). encode (length dir) (take (x - gone) (entries_of dir))) c ∙ ap (encode (length dir)) (sym (oldest_entries gone before h));
          bytes = w.are ∙ ap (λ (x : ℕ). (remove_oldest x before).pool) same;
        }
