-- A store's result, with what it loses. A signed argument reaches a callee as its bits, which is the same number.
use Rattle.std.specs.Prelude.{◌≡◌, List, ℕ, length, ℤ, Ok, Err}
use Rattle.std.proofs.Common.{sym, subst, ◌∙◌}
use Rattle.rules.specs.declared.Answer.{Answer}
use Rattle.rules.specs.Check.{Check}
use Rattle.rules.specs.declared.Operation.{Operation}
use Rattle.rules.specs.Layout.{memory_of}
use Rattle.rules.specs.Answer.{plain}
use Rattle.rules.specs.Checks.{store_checks}
use Rattle.rules.specs.LeastLoss.{LossOf, StoreLoses}
use Rattle.rules.specs.Calls.{Result, gave, Does, item_of, store_work, store_call}
use Rattle.laws.specs.CallsLaws.{gave_refused, gave_passed}
use Rattle.laws.specs.Demand.{store_loses}
use Rattle.rules.specs.declared.Outcome.{Outcome}

module _ (op : Operation) (dir pool : List ℕ) (clock : ℕ) (key : List ℕ) (kind : ℕ) (number : ℤ) (text : List ℕ) (lifetime flags : ℕ) where
  abbrev is_call : Result → Type 0
  is_call r = r ≡ store_call op dir pool clock key kind number text lifetime flags

  -- what is the call's result loses what the call does
  pub losing : {r : Result} → is_call r → is_call r × StoreLoses op dir pool clock key kind number text lifetime flags r
  losing e = (e, λ p. subst (LossOf op clock (item_of clock key kind number text lifetime flags) dir pool) (sym e) (store_loses op dir pool clock key kind number text lifetime flags p))

  pub store_refused : (c : Check) (o : Outcome) (a : Answer) → c ≡ store_checks op dir pool clock key kind lifetime → c ≡ Err o → a ≡ plain o 0 → is_call (gave a dir pool) × StoreLoses op dir pool clock key kind number text lifetime flags (gave a dir pool)
  unfolding store_call
  store_refused c o a e p q = losing (gave_refused (store_checks op dir pool clock key kind lifetime) (store_work op clock (item_of clock key kind number text lifetime flags)) dir pool o a (sym e ∙ p) q)

  pub store_done : (a : Answer) (dir₁ pool₁ : List ℕ) → (Ok tt) ≡ store_checks op dir pool clock key kind lifetime → Does (store_work op clock (item_of clock key kind number text lifetime flags) (memory_of dir pool)) (length dir) a dir₁ pool₁ → is_call (gave a dir₁ pool₁) × StoreLoses op dir pool clock key kind number text lifetime flags (gave a dir₁ pool₁)
  unfolding store_call
  store_done a dir₁ pool₁ p d =
      losing (gave_passed (store_checks op dir pool clock key kind lifetime) (store_work op clock (item_of clock key kind number text lifetime flags)) dir pool a dir₁ pool₁ (sym p) d)
