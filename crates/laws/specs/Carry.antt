-- From memories to words and bytes: a call keeps what its work keeps.
use Rattle.std.specs.Prelude.{◌≡◌, refl, true, false, not, ◌||◌, List, [], ◌⊎◌, ℕ, ◌+◌, ◌*◌, ◌^◌, ◌≤◌, ◌<◌, eqb, length, ℤ, Err, Ok, Option}
use Rattle.std.proofs.Common.{sym, ◌∙◌, true≢false, ⊎_elim, inl, inr, arith, eqb-true}
use Rattle.std.proofs.lemmas.Bool.{not-false}
use Rattle.rules.specs.declared.Outcome.TheVariants.{KindUnknown}
use Rattle.rules.specs.Check.{Check}
use Rattle.rules.specs.declared.Operation.{Operation}
use Rattle.rules.specs.declared.Initial.{Initial}
use Rattle.rules.specs.Layout.{cells_of, encode, entries_of, Dir, Memory, memory_of}
use Rattle.laws.specs.LayoutLaws.{entries_encode, length_encode, dir_encode}
use Rattle.rules.specs.Soundness.{any, sound, keys_differ, audit}
use Rattle.laws.specs.SoundnessLaws.{Sound, sound_is}
use Rattle.rules.specs.Checks.{◌then◌, check_kind, check_nil, check_lifetime, key_checks, store_checks, check_initial, incr_checks}
use Rattle.laws.specs.ChecksLaws.{refused_not, key_lengths}
use Rattle.laws.specs.LeastLossLaws.{first_passed, next_passed}
use Rattle.rules.specs.Calls.{Work, call, item_of}
use Rattle.laws.specs.SoundMemory.{SoundMemory, memory_of_is, sound_of}
use Rattle.laws.specs.Bytes.{FineItem, given_fits}
use Rattle.laws.specs.Keys.{Audited, differ_of, of_differ}
use Rattle.laws.specs.Booleans.{and_left, and_right, or_cases}

-- ---- words and bytes that carry a memory of P cells with Inv

pub record Carries (Inv : Memory → Type 0) (P : ℕ) (dir pool : List ℕ) : Type 0 where
  pub dir_is : Dir dir
  pub dir_size : length dir ≡ 2 + 6 * P
  pub inv : Inv (memory_of dir pool)

pub carries_encode : {Inv : Memory → Type 0} (P n : ℕ) (m : Memory) → n ≡ 2 + 6 * P → length m.entries ≤ P → Inv m → Carries Inv P (encode n m.entries) m.pool
unfolding memory_of
carries_encode P n m e l h =
    record {
      dir_is = dir_encode n m.entries (omega arith);
      dir_size = length_encode n m.entries (omega arith) ∙ e;
      inv = rw (entries_encode n m.entries) h;
    }

pub carries_call : {Inv : Memory → Type 0} (P : ℕ) (c : Check) (work : Memory → Work) (dir pool : List ℕ) → ((m : Memory) → Inv m → length m.entries ≤ P) → Carries Inv P dir pool → (c ≡ (Ok tt) → Inv (memory_of dir pool) → Inv (work (memory_of dir pool)).memory) → Carries Inv P (call c work dir pool).dir (call c work dir pool).pool
unfolding call
carries_call P (Err o) work dir pool fewer h k = h
carries_call P (Ok _) work dir pool fewer h k =
    let m : Memory = (work (memory_of dir pool)).memory in
    carries_encode P (length dir) m h.dir_size (fewer m (k refl h.inv)) (k refl h.inv)

-- ---- the tests

pub sound_carries : (dir pool : List ℕ) → sound dir pool ≡ true → Carries (SoundMemory (cells_of pool)) (cells_of pool) dir pool
sound_carries dir pool t = let s : Sound dir pool = sound_is dir pool t in record { dir_is = s.dir_is; dir_size = s.dir_size; inv = memory_of_is s }

pub carries_sound : {P : ℕ} {dir pool : List ℕ} → Carries (SoundMemory P) P dir pool → sound dir pool ≡ true
carries_sound {P} {dir} {pool} c = sound_of pool c.dir_is c.dir_size c.inv

pub audit_carries : (dir pool : List ℕ) → audit dir pool ≡ true → Carries (Audited (cells_of pool)) (cells_of pool) dir pool
unfolding audit memory_of
audit_carries dir pool t =
    let s : Sound dir pool = sound_is dir pool (and_left (sound dir pool) (keys_differ pool (entries_of dir)) t) in
    record {
      dir_is = s.dir_is;
      dir_size = s.dir_size;
      inv = record { sound = memory_of_is s; keys = differ_of pool (entries_of dir) (and_right (sound dir pool) (keys_differ pool (entries_of dir)) t) };
    }

pub carries_audit : {P : ℕ} {dir pool : List ℕ} → Carries (Audited P) P dir pool → audit dir pool ≡ true
unfolding audit memory_of
carries_audit {P} {dir} {pool} c = rw (sound_of pool c.dir_is c.dir_size c.inv.sound, of_differ pool c.inv.keys)

-- ---- what the checks say of a store's item

kind_passed : (kind : ℕ) → check_kind kind ≡ (Ok tt) → (kind ≡ 0 → ⊥) → (kind ≡ 1) ⊎ ((kind ≡ 3) ⊎ (kind ≡ 4))
unfolding check_kind any
kind_passed kind e z =
    let t : (eqb kind 0 || (eqb kind 1 || (eqb kind 3 || (eqb kind 4 || false)))) ≡ true = not-false (eqb kind 0 || (eqb kind 1 || (eqb kind 3 || (eqb kind 4 || false)))) (refused_not KindUnknown (not (eqb kind 0 || (eqb kind 1 || (eqb kind 3 || (eqb kind 4 || false))))) (sym e)) in
    ⊎_elim (λ a. absurd (z (eqb-true kind 0 a)))
    (λ a. ⊎_elim (λ b. inl (eqb-true kind 1 b))
    (λ b. ⊎_elim (λ c. inr (inl (eqb-true kind 3 c)))
    (λ c. ⊎_elim (λ d. inr (inr (eqb-true kind 4 d))) (λ d. absurd (true≢false (sym d))) (or_cases (eqb kind 4) false c))
    (or_cases (eqb kind 3) (eqb kind 4 || false) b))
    (or_cases (eqb kind 1) (eqb kind 3 || (eqb kind 4 || false)) a))
    (or_cases (eqb kind 0) (eqb kind 1 || (eqb kind 3 || (eqb kind 4 || false))) t)

item_fine : (clock : ℕ) (key : List ℕ) (kind : ℕ) (number : ℤ) (text : List ℕ) (lifetime flags : ℕ) → 1 ≤ length key → length key ≤ 65535 → flags < 2 ^ 32 → (kind ≡ 1) ⊎ ((kind ≡ 3) ⊎ (kind ≡ 4)) → FineItem (item_of clock key kind number text lifetime flags)
unfolding item_of
item_fine clock key kind number text lifetime flags a b f k =
    record { fits = given_fits kind number text k; few_flags = f; some_key = a; short_key = b }

-- a number under a key of a fitting length
pub number_fine : (clock : ℕ) (key : List ℕ) (sum : ℤ) (lifetime : ℕ) → 1 ≤ length key → length key ≤ 65535 → FineItem (item_of clock key 3 sum [] lifetime 0)
number_fine clock key sum lifetime a b = item_fine clock key 3 sum [] lifetime 0 a b (omega arith) (inr (inl refl))

pub store_fine : (op : Operation) (dir pool : List ℕ) (clock : ℕ) (key : List ℕ) (kind : ℕ) (number : ℤ) (text : List ℕ) (lifetime flags : ℕ) → flags < 2 ^ 32 → store_checks op dir pool clock key kind lifetime ≡ (Ok tt) → ((item_of clock key kind number text lifetime flags).kind ≡ 0 → ⊥) → FineItem (item_of clock key kind number text lifetime flags)
unfolding store_checks item_of
store_fine op dir pool clock key kind number text lifetime flags f e z =
    let c0 : Check = key_checks dir pool clock key in
    let e2 : (c0 then check_kind kind) ≡ (Ok tt) = first_passed (c0 then check_kind kind) (check_nil op kind) (first_passed (c0 then check_kind kind then check_nil op kind) (check_lifetime clock lifetime) e) in
    let k : (1 ≤ length key) × (length key ≤ 65535) = key_lengths dir pool clock key (sym (first_passed c0 (check_kind kind) e2)) in
    item_fine clock key kind number text lifetime flags k.0 k.1 f (kind_passed kind (next_passed c0 (check_kind kind) e2) z)

pub incr_fine : (dir pool : List ℕ) (clock : ℕ) (key : List ℕ) (initial : Option Initial) → incr_checks dir pool clock key initial ≡ (Ok tt) → (lifetime : ℕ) (sum : ℤ) → FineItem (item_of clock key 3 sum [] lifetime 0)
unfolding incr_checks
incr_fine dir pool clock key initial e lifetime sum =
    let k : (1 ≤ length key) × (length key ≤ 65535) = key_lengths dir pool clock key (sym (first_passed (key_checks dir pool clock key) (check_initial clock initial) e)) in
    number_fine clock key sum lifetime k.0 k.1
