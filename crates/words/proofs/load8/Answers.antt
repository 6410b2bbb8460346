-- `words::load8` meets its contract.
use Rattle.std.specs.Prelude.{◌≡◌, List, ℕ, ◌+◌, ◌-◌, length, take, drop}
use Rattle.std.specs.Int.{w64, from_le_bytes}
use Rattle.std.proofs.Common.{◌∙◌, ap, arith}
use Rattle.std.proofs.lemmas.Grind.{common_steps}
use Rattle.rules.specs.Layout.{value_of}
use Rattle.words.proofs.load8.Goals as goal

as_read : (l : List ℕ) → length l ≡ 8 → from_le_bytes w64 l ≡ value_of l
as_read l h = grind (arith, common_steps)

pub returns : goal.returns
returns c = let a = c.args in
    let n : a.at + 8 - a.at ≡ 8 = omega arith in
    c.from_le_bytes.ensures ∙ as_read _ (omega arith) ∙ ap value_of (c.copy_from_slice.ensures.after ∙ ap (λ (k : ℕ). take k (drop a.at a.d.now)) n)
