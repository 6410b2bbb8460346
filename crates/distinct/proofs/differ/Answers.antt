-- `distinct::differ` meets its contract. The invariant: the keys of the entries from i on differ, and these are chained.
use Rattle.std.proofs.Common.{◌-◌, sym, refl, ◌∙◌, subst, arith}
use Rattle.laws.specs.Buffers.{given_sound}
use Rattle.distinct.specs.Chains.{Link, chains_none, chains_more, head_link, behind_linked}
use Rattle.distinct.specs.Differing.{differ_none, differ_more, differ_not, differ_all}
use Rattle.distinct.proofs.differ.Goals as goal

pub count-i-requires : goal.count-i-requires
count-i-requires c = (given_sound _ _ c.requires.pool_value).dir_is

pub loop-i-init : goal.loop-i-init
loop-i-init c = (omega arith, chains_none c.count-i.ensures (omega (arith, given_sound _ _ c.requires.pool_value)) c.requires.table_value, differ_none _ _ c.count-i.result (omega arith))

pub key_again-requires : goal.key_again-requires
key_again-requires c = record { pool_value = c.requires.pool_value; i_in_bounds = omega arith; link = subst (Link _ _ _ _) (sym c.link.ensures) (head_link (c.loop-i.i - 1) c.loop-i.invariant.1 (omega arith) c.bucket_at-b.ensures.0 c.bucket_at-b.ensures.1 refl); linked = behind_linked (c.loop-i.i - 1) c.loop-i.invariant.1 (omega arith) c.bucket_at-b.ensures.0 c.bucket_at-b.ensures.1 refl }

pub returns-then-key_again : goal.returns-then-key_again
returns-then-key_again c = differ_not _ _ _ (omega arith) (sym c.key_again.ensures ∙ c.if-key_again.true)

pub bounds-table-i : goal.bounds-table-i
bounds-table-i c = omega (arith, given_sound _ _ c.requires.pool_value, c.loop-i.invariant.1.linked.size)

pub loop-i-preserved : goal.loop-i-preserved
loop-i-preserved c = (omega arith, chains_more (c.loop-i.i - 1) c.loop-i.invariant.1 (omega arith) c.bucket_at-b.ensures.0 c.bucket_at-b.ensures.1 refl (omega arith) (omega (arith, given_sound _ _ c.requires.pool_value)), differ_more _ _ (c.loop-i.i - 1) c.loop-i.i (omega arith) (omega arith) c.loop-i.invariant.2 (sym c.key_again.ensures ∙ c.if-key_again.false))

pub returns : goal.returns
returns c = differ_all _ _ c.loop-i.i (omega arith) c.loop-i.invariant.2
