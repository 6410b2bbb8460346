-- `memory::wipe` meets its contract.
use mathlib.Core.Path.{ap, ◌∙◌}
use Prim.Native.Nat.{ℕ, ◌*◌}
use native.Mathlib.Omega.{arith}
use lib.ListN.{replicate}
use Rattle.rules.specs.declared.Entry.{Entry}
use Rattle.rules.specs.Layout.{put, wiped}
use Rattle.memory.proofs.wipe.Goals as goal

pub fill-requires : goal.fill-requires
fill-requires c = omega (arith, c.need-cells.ensures)

pub returns : goal.returns
unfolding wiped
returns c = let e : Entry = c.args.e in
    c.fill.ensures ∙ ap (λ (n : ℕ). put c.args.pool.now (32 * e.start) (replicate (32 * n) 0)) c.need-cells.ensures
