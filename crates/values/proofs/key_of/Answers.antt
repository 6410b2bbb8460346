-- `values::key_of` meets its contract.
use Rattle.std.proofs.Common.{◌≡◌, ℕ, ◌+◌, ◌-◌, ap, arith}
use Rattle.rules.specs.Layout.{part, key_offset, key_of}
use Rattle.values.proofs.key_of.Goals as goal

pub returns : goal.returns
unfolding key_of
returns c = let a = c.args in
    let size : key_offset a.e + a.e.klen - key_offset a.e ≡ a.e.klen = omega arith in
    ap (λ (n : ℕ). part a.pool.now (key_offset a.e) n) size
