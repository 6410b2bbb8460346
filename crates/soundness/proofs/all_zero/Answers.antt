-- `soundness::all_zero` meets its contract.
use Rattle.std.proofs.Common.{◌≡◌, ap, ◌∙◌, ℕ, eqb, fold, rules}
use Rattle.std.specs.Int.Bits.{bit_or}
use Rattle.soundness.specs.Zeros.{fold_zero}
use Rattle.soundness.proofs.all_zero.Goals as goal

pub returns : goal.returns
returns c = let folded : c.fold.result ≡ fold bit_or 0 c.args.words.now = search rules in
    ap (λ (x : ℕ). eqb x 0) folded ∙ fold_zero 0 c.args.words.now
