-- `distinct::key_again` meets its contract. The invariant: no entry passed has the key, so the rest decides.
use Rattle.std.proofs.Common.{sym, ◌∙◌, subst, arith}
use Rattle.laws.specs.Buffers.{given_sound}
use Rattle.distinct.specs.Chains.{Link, walked_none, walked_here, walked_more, walked_end}
use Rattle.distinct.proofs.key_again.Goals as goal

pub count-n-requires : goal.count-n-requires
count-n-requires c = (given_sound _ _ c.requires.pool_value).dir_is

pub loop-j-init : goal.loop-j-init
loop-j-init c = (c.count-n.ensures, walked_none c.requires.link)

pub returns-then-equal : goal.returns-then-equal
returns-then-equal c = walked_here c.key_at.ensures c.key_at-key.ensures (omega arith) c.loop-j.invariant.1 (sym c.equal.ensures ∙ c.if-equal.true)

pub bounds-table-j : goal.bounds-table-j
bounds-table-j c = omega (arith, c.requires.linked.size, given_sound _ _ c.requires.pool_value)

pub loop-j-smaller : goal.loop-j-smaller
loop-j-smaller c = omega (arith, c.link-j.ensures, (c.requires.linked.links c.loop-j.j (omega (arith, c.loop-j.invariant.1.ahead)) (omega arith)).ahead)

pub loop-j-preserved : goal.loop-j-preserved
loop-j-preserved c = (c.loop-j.invariant.0, walked_more c.key_at.ensures c.key_at-key.ensures (omega arith) c.loop-j.invariant.1 (sym c.equal.ensures ∙ c.if-equal.false) (subst (Link _ _ _ _) (sym c.link-j.ensures) (c.requires.linked.links c.loop-j.j (omega (arith, c.loop-j.invariant.1.ahead)) (omega arith))))

pub returns : goal.returns
returns c = walked_end c.loop-j.invariant.1 (omega arith)
