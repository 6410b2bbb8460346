-- A store from its arguments: the order made of them, and the work behind the sweep.
use Rattle.std.specs.Prelude.{◌≡◌, refl, Bool, true, false, List, [], ◌∷◌, ℕ, ◌≤◌, length, ℤ, eqb, Ok}
use Rattle.std.proofs.Common.{sym, ap, subst, true≢false, arith, eqb-true, ne_eqb}
use Rattle.rules.specs.declared.Answer.{Answer}
use Rattle.rules.specs.declared.Outcome.TheVariants.{Done}
use Rattle.rules.specs.declared.Found.{Found}
use Rattle.rules.specs.declared.Operation.{Operation}
use Rattle.rules.specs.declared.Operation.TheVariants.{Set, SafeSet, Add, SafeAdd, Replace}
use Rattle.rules.specs.Layout.{number_bytes, Memory, memory_of}
use Rattle.rules.specs.Time.{expiry_of}
use Rattle.rules.specs.LookUp.{look_up}
use Rattle.rules.specs.Recency.{line, sweep_count}
use Rattle.rules.specs.Soundness.{any, sound}
use Rattle.rules.specs.Checks.{passed, refuse, check_kind, takes_nil}
use Rattle.rules.specs.Calls.{Does, Item, boolean_byte, value_given, item_of, most_rounds, admits, delete_found, store_admitted, store_found, store_work}
use Rattle.laws.specs.RecencyLaws.{deads_few}
use Rattle.laws.specs.Bytes.{FineItem}
use Rattle.laws.specs.Buffers.{does_is}
use Rattle.eviction.specs.Swept.{Swept, behind_sweep}
use Rattle.storing.specs.declared.Order.{Order}
use Rattle.storing.specs.Order.{item_from, Storable}
use Rattle.storing.specs.declared.Value.{Value}
use Rattle.storing.specs.Given.{item_given}

-- the sweep takes two at most
pub swept_two : (clock : ℕ) (m : Memory) (n : ℕ) → n ≡ sweep_count clock m → n ≤ 2
unfolding sweep_count
swept_two clock m n e = omega (arith, e, deads_few clock 2 (line m))

most_few : (op : Operation) → most_rounds op ≤ 30
unfolding most_rounds
most_few Set = omega arith
most_few SafeSet = omega arith
most_few Add = omega arith
most_few SafeAdd = omega arith
most_few Replace = omega arith

-- ---- the order

module _ (op : Operation) (clock : ℕ) (key : List ℕ) (v : Value) where
  -- an order of this value under this key
  pub record Ordered (swept : ℕ) (o : Order) : Type 0 where
    pub of_key : o.key.now ≡ key
    pub of_bytes : o.bytes.now ≡ value_given v.kind v.number v.text.now
    pub of_expiry : o.expiry ≡ expiry_of clock v.lifetime
    pub of_kind : o.kind ≡ v.kind
    pub of_flags : o.flags ≡ v.flags
    pub of_most : o.most ≡ most_rounds op
    pub of_told : o.told ≡ Done
    pub of_removed : o.removed ≡ swept

  module _ {swept : ℕ} {o : Order} (h : Ordered swept o) where
    item_is : item_from o ≡ item_given clock key v
    unfolding item_of
    item_is = rw (h.of_expiry, h.of_kind, h.of_flags, h.of_key, h.of_bytes)

    pub storable : FineItem (item_given clock key v) → swept ≤ 2 → Storable o
    storable f s =
        record {
          item = subst FineItem (sym item_is) f;
          most = omega (arith, h.of_most, most_few op);
          swept = omega (arith, h.of_removed, s);
        }

    -- the work behind the sweep is the store's
    pub ordered_does : (dir pool : List ℕ) → sound dir pool ≡ true → {dir₁ pool₁ dir₂ pool₂ : List ℕ} {a : Answer} → Swept clock dir pool swept dir₁ pool₁ → Does (store_found op clock (item_from o) o.removed (memory_of dir₁ pool₁) (look_up clock o.key.now (memory_of dir₁ pool₁))) (length dir₁) a dir₂ pool₂ → Does (store_work op clock (item_given clock key v) (memory_of dir pool)) (length dir) a dir₂ pool₂
    unfolding store_work item_of
    ordered_does dir pool t {dir₁} {pool₁} s d =
        let item : Item = item_given clock key v in
        let same : store_found op clock (item_from o) o.removed (memory_of dir₁ pool₁) (look_up clock o.key.now (memory_of dir₁ pool₁)) ≡ store_found op clock item swept (memory_of dir₁ pool₁) (look_up clock key (memory_of dir₁ pool₁)) = rw (item_is, h.of_removed, h.of_key) in
        behind_sweep clock dir pool t s (λ n m. store_found op clock item n m (look_up clock key m)) (does_is same d)

-- ---- nil

nil_found : (op : Operation) (clock : ℕ) (item : Item) (swept : ℕ) (m : Memory) (found : Found) → item.kind ≡ 0 → takes_nil op ≡ true → delete_found swept m found ≡ store_found op clock item swept m found
unfolding store_found store_admitted admits takes_nil
nil_found Set clock item swept m found z t = rw z
nil_found SafeSet clock item swept m found z t = rw z
nil_found Add clock item swept m found z t = absurd (true≢false (sym t))
nil_found SafeAdd clock item swept m found z t = absurd (true≢false (sym t))
nil_found Replace clock item swept m found z t = absurd (true≢false (sym t))

-- "Nil in set or safe_set is delete"
pub nil_does : (op : Operation) (clock : ℕ) (key : List ℕ) (kind : ℕ) (number : ℤ) (text : List ℕ) (lifetime flags : ℕ) (dir pool : List ℕ) → sound dir pool ≡ true → kind ≡ 0 → takes_nil op ≡ true → {swept : ℕ} {dir₁ pool₁ dir₂ pool₂ : List ℕ} {a : Answer} → Swept clock dir pool swept dir₁ pool₁ → Does (delete_found swept (memory_of dir₁ pool₁) (look_up clock key (memory_of dir₁ pool₁))) (length dir₁) a dir₂ pool₂ → Does (store_work op clock (item_of clock key kind number text lifetime flags) (memory_of dir pool)) (length dir) a dir₂ pool₂
unfolding store_work item_of
nil_does op clock key kind number text lifetime flags dir pool t z n {swept} {dir₁} {pool₁} s d =
    let item : Item = item_of clock key kind number text lifetime flags in
    behind_sweep clock dir pool t s (λ k m. store_found op clock item k m (look_up clock key m))
    (does_is (nil_found op clock item swept (memory_of dir₁ pool₁) (look_up clock key (memory_of dir₁ pool₁)) z n) d)

-- ---- values by their kinds

pub text_given : (kind : ℕ) (number : ℤ) (text : List ℕ) → kind ≡ 4 → text ≡ value_given kind number text
unfolding value_given
text_given kind number text e = rw e

pub number_given : (kind : ℕ) (number : ℤ) (text bytes : List ℕ) → kind ≡ 3 → bytes ≡ number_bytes number → bytes ≡ value_given kind number text
unfolding value_given
number_given kind number text bytes e b = rw e b

pub boolean_given : (kind : ℕ) (number : ℤ) (text : List ℕ) (byte : ℕ) → kind ≡ 1 → byte ≡ boolean_byte number → byte ∷ [] ≡ value_given kind number text
unfolding value_given
boolean_given kind number text byte e b = rw e (ap (λ (x : ℕ). x ∷ []) b)

-- a known kind that is none of the others is 1
pub boolean_kind : (kind : ℕ) → (Ok tt) ≡ check_kind kind → (kind ≡ 0 → ⊥) → (kind ≡ 4 → ⊥) → (kind ≡ 3 → ⊥) → kind ≡ 1
unfolding check_kind refuse any
boolean_kind kind e z f n = go (eqb kind 1) refl
  where
    go : (b : Bool) → eqb kind 1 ≡ b → kind ≡ 1
    go true t = eqb-true kind 1 t
    go false t = absurd (true≢false (ap passed (rw (ne_eqb kind 0 z, t, ne_eqb kind 3 n, ne_eqb kind 4 f) at e)))
