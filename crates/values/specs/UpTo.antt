-- Laws of `up_to`, by the test that a code makes: a number, or the maximum if that is less.
use Rattle.std.specs.Prelude.{◌≡◌, ℕ, min, Bool, cond, ◌≢◌}
use Rattle.std.proofs.Common.{sym, ap, ◌∙◌, eq-eqb, ne_eqb}
use Rattle.rules.specs.Calls.{up_to}

-- "0 for all"
pub up_to_all : (maximum n : ℕ) → maximum ≡ 0 → n ≡ up_to maximum n
unfolding up_to
up_to_all maximum n z = sym (ap (λ (b : Bool). cond b n (min maximum n)) (eq-eqb maximum 0 z))

pub up_to_some : (maximum n : ℕ) {r : ℕ} → (maximum ≢ 0) → r ≡ min maximum n → r ≡ up_to maximum n
unfolding up_to
up_to_some maximum n z e = e ∙ sym (ap (λ (b : Bool). cond b n (min maximum n)) (ne_eqb maximum 0 z))
