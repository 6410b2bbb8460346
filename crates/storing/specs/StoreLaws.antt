-- The ways of a store: in place or anew, over what was found, and only where its operation admits it.
use Rattle.std.specs.Prelude.{◌≡◌, refl, Bool, false, cond, List, ℕ, length, get_or, Ok, Err}
use Rattle.std.proofs.Math.Path.{sym, subst}
use Rattle.std.proofs.Common.{ap, ◌∙◌}
use Rattle.std.proofs.Math.Bool.{true}
use Rattle.std.proofs.Math.Dec.{eqb}
use borrow.Author.Tests.{eq-eqb, ne_eqb}
use Rattle.rules.specs.declared.Entry.{Entry}
use Rattle.rules.specs.declared.Answer.{Answer}
use Rattle.rules.specs.declared.Outcome.{Outcome}
use Rattle.rules.specs.declared.Outcome.TheVariants.{Done}
use Rattle.rules.specs.Check.{Check}
use Rattle.rules.specs.declared.Found.{Found}
use Rattle.rules.specs.declared.Found.TheVariants.{Live, Dead, Missing}
use Rattle.rules.specs.declared.Operation.{Operation}
use Rattle.rules.specs.declared.Operation.TheVariants.{Add, SafeAdd}
use Rattle.rules.specs.Layout.{entries_of, none, Dir, Memory, memory_of, remove}
use Rattle.rules.specs.Soundness.{sound}
use Rattle.rules.specs.Answer.{plain}
use Rattle.rules.specs.Calls.{Holds, Work, did, Does, Item, entry_for, rewrite_at, overwrite_at, place_anew, store_over, store_item, most_rounds, admits, store_admitted, store_found}
use Rattle.laws.specs.Bytes.{fits_kind, FineItem}
use Rattle.laws.specs.Booleans.{no_bool}
use Rattle.laws.specs.Buffers.{does_is, does_behind, holds_itself, step_length, removed_sound}

-- ---- over the key's own entry

module _ (dir pool : List ℕ) (clock most : ℕ) (item : Item) (told : Outcome) (swept i : ℕ) (old : Entry) (x : old ≡ get_or (entries_of dir) i none) where
  abbrev over : Bool → Work
  over b = cond b (did told swept (overwrite_at item i (memory_of dir pool))) (place_anew most clock item told swept (remove i (memory_of dir pool)))

  same_is : (b : Bool) → eqb old.vlen (length item.value) ≡ b → over b ≡ store_over most clock item told swept (memory_of dir pool) i
  unfolding store_over memory_of
  same_is b e = sym (ap over (ap (λ (f : Entry). eqb f.vlen (length item.value)) (sym x) ∙ e))

  -- another length: the own entry is out, and the item is placed anew
  pub over_anew : sound dir pool ≡ true → {dir₁ pool₁ dir₂ pool₂ : List ℕ} {a : Answer} → (old.vlen ≡ length item.value → ⊥) → Holds (length dir) (remove i (memory_of dir pool)) dir₁ pool₁ → Does (place_anew most clock item told swept (memory_of dir₁ pool₁)) (length dir₁) a dir₂ pool₂ → Does (store_over most clock item told swept (memory_of dir pool) i) (length dir) a dir₂ pool₂
  over_anew t n h d =
      does_is (same_is false (ne_eqb old.vlen (length item.value) n))
      (does_behind (place_anew most clock item told swept) h (step_length dir pool t (removed_sound dir pool t i) h) d)

  -- the same length: in place
  pub over_same : {dir₁ pool₁ : List ℕ} {a : Answer} → old.vlen ≡ length item.value → Holds (length dir) (rewrite_at i (entry_for item old.start) item.value (memory_of dir pool)) dir₁ pool₁ → a ≡ plain told swept → Does (store_over most clock item told swept (memory_of dir pool) i) (length dir) a dir₁ pool₁
  unfolding overwrite_at memory_of
  over_same {dir₁} {pool₁} {a} e h q =
      does_is (same_is true (eq-eqb old.vlen (length item.value) e))
      (record { answer = q; memory = subst (λ (f : Entry). Holds (length dir) (rewrite_at i (entry_for item f.start) item.value (memory_of dir pool)) dir₁ pool₁) x h })

-- ---- over what was found

module _ (clock most : ℕ) (item : Item) (told : Outcome) (swept : ℕ) (m : Memory) (found : Found) {n : ℕ} {a : Answer} {dir pool : List ℕ} where
  pub item_live : (i : ℕ) → found ≡ Live i → Does (store_over most clock item told swept m i) n a dir pool → Does (store_item most clock item told swept m found) n a dir pool
  unfolding store_item
  item_live i e d = does_is (sym (ap (store_item most clock item told swept m) e)) d

  pub item_dead : (i : ℕ) → found ≡ Dead i → Does (store_over most clock item told swept m i) n a dir pool → Does (store_item most clock item told swept m found) n a dir pool
  unfolding store_item
  item_dead i e d = does_is (sym (ap (store_item most clock item told swept m) e)) d

  pub item_missing : found ≡ Missing → Does (place_anew most clock item told swept m) n a dir pool → Does (store_item most clock item told swept m found) n a dir pool
  unfolding store_item
  item_missing e d = does_is (sym (ap (store_item most clock item told swept m) e)) d

-- ---- where the operation admits it

-- an item that can be stored is not nil
pub not_nil : (item : Item) → FineItem item → item.kind ≡ 0 → ⊥
unfolding fits_kind
not_nil item f z = no_bool (ap (λ (k : ℕ). fits_kind k (length item.value) item.value) (sym z) ∙ f.fits)

module _ (op : Operation) (clock : ℕ) (item : Item) (swept : ℕ) (dir pool : List ℕ) (found f : Found) (c : Check) (x : found ≡ f) (y : c ≡ admits op found) where
  pub found_refused : (o : Outcome) (a : Answer) → Dir dir → c ≡ Err o → a ≡ plain o swept → Does (store_found op clock item swept (memory_of dir pool) f) (length dir) a dir pool
  unfolding store_found store_admitted
  found_refused o a d e q = does_is (rw (sym x, sym y, e)) (record { answer = q; memory = holds_itself dir pool d })

  pub found_passed : {most : ℕ} {told : Outcome} {a : Answer} {dir₁ pool₁ : List ℕ} → FineItem item → c ≡ (Ok tt) → most ≡ most_rounds op → told ≡ Done → Does (store_item most clock item told swept (memory_of dir pool) found) (length dir) a dir₁ pool₁ → Does (store_found op clock item swept (memory_of dir pool) f) (length dir) a dir₁ pool₁
  unfolding store_found store_admitted
  found_passed fine e p q d = does_is (rw (sym x, sym y, e, ne_eqb item.kind 0 (not_nil item fine), p, q)) d

-- safe_add admits what add does
pub admits_safe : (found : Found) → admits Add found ≡ admits SafeAdd found
unfolding admits
admits_safe (Live i) = refl
admits_safe (Dead i) = refl
admits_safe Missing = refl
