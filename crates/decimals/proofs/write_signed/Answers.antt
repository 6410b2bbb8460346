-- `decimals::write_signed` meets its contract.
use Rattle.std.specs.Prelude.{List, ℕ, ◌+◌, length}
use Rattle.std.proofs.Common.{ap, ◌∙◌, arith, length-set}
use Rattle.rules.specs.Layout.{put}
use Rattle.decimals.specs.DigitLaws.{decimal_most}
use Rattle.decimals.specs.SignedLaws.{signed_plus, signed_minus, magnitude_most, put_behind}
use Rattle.decimals.proofs.write_signed.Goals as goal

pub write_digits-requires : goal.write_digits-requires
write_digits-requires c = simp length-set (omega (arith, magnitude_most _ c.unsigned_abs.ensures.bound))

pub returns-then-n-lt0 : goal.returns-then-n-lt0
returns-then-n-lt0 c = let a = c.args in
    let e = signed_minus c.ranges.n c.unsigned_abs.ensures.value c.if-n-lt0.true in
    let m = magnitude_most _ c.unsigned_abs.ensures.bound in
    (c.write_digits.ensures.0 ∙ put_behind a.out.now a.at _ _ (omega arith) ∙ ap (put a.out.now a.at) e, omega (arith, ap length e))

pub write_digits-requires-2 : goal.write_digits-requires-2
write_digits-requires-2 c = omega (arith, decimal_most c.unsigned_abs-2.result)

pub returns : goal.returns
returns c = let a = c.args in
    let e = signed_plus c.ranges.n c.unsigned_abs-2.ensures.value c.if-n-lt0.false in
    (c.write_digits-2.ensures.0 ∙ ap (put a.out.now a.at) e, c.write_digits-2.ensures.1 ∙ ap (λ (s : List ℕ). a.at + length s) e)
