-- `soundness::take_entry` meets its contract.
use Rattle.std.proofs.Common.{refl, sym, ◌∙◌, arith, ne_eqb, eqb-true}
use Rattle.soundness.specs.Took.{took_not, took_held, took_byte, took_claimed, kind_one, kind_three, kind_known, one_kind, three_kind, four_kind}
use Rattle.soundness.proofs.take_entry.Goals as goal
use Rattle.soundness.proofs.take_entry.Goals.{then-vlen-eq1, else-vlen-eq1}

pub returns-then-vlen-eq8 : goal.returns-then-vlen-eq8
returns-then-vlen-eq8 c = took_claimed c.claim.ensures c.requires.map_len.0 (three_kind _ _ c.in-3.is c.if-vlen-eq8.true) c.if-flags-ge-FLAGS_END.false c.if-klen-lt1.false c.if-klen-gt-LONGEST_KEY.false (λ z. omega (arith, c.in-3.is))

pub returns-else-vlen-eq8 : goal.returns-else-vlen-eq8
returns-else-vlen-eq8 c = rw (ne_eqb _ 8 c.if-vlen-eq8.false) (took_not (λ s. c.if-vlen-eq8.false (kind_three _ _ s.kind c.in-3.is)))

pub returns-then-claim : goal.returns-then-claim
returns-then-claim c = elim c.if-vlen-eq1.branch [
  | then-vlen-eq1 w ↦ rw w.map-is (took_byte _ w.claim-then-vlen-eq1.ensures (sym w.value-is ∙ c.if-claim.true) c.requires.map_len.0 (one_kind _ _ c.in-1.is w.if-vlen-eq1.true) c.if-flags-ge-FLAGS_END.false c.if-klen-lt1.false c.if-klen-gt-LONGEST_KEY.false refl c.in-1.is)
  | else-vlen-eq1 w ↦ absurd (w.if-vlen-eq1.false (eqb-true _ 1 (sym w.value-is ∙ c.if-claim.true)))
]

pub returns-else-claim : goal.returns-else-claim
returns-else-claim c = elim c.if-vlen-eq1.branch [
  | then-vlen-eq1 w ↦ rw (w.map-is, c.if-claim.false) (took_held c.requires.map_len.0 w.claim-then-vlen-eq1.ensures (sym w.value-is ∙ c.if-claim.false))
  | else-vlen-eq1 w ↦ rw (w.map-is, c.if-claim.false) (took_not (λ s. w.if-vlen-eq1.false (kind_one _ _ s.kind c.in-1.is)))
]

pub returns-then-vlen-le-POOL_BYTES : goal.returns-then-vlen-le-POOL_BYTES
returns-then-vlen-le-POOL_BYTES c = took_claimed c.claim-then-vlen-le-POOL_BYTES.ensures c.requires.map_len.0 (four_kind _ _ c.in-4.is) c.if-flags-ge-FLAGS_END.false c.if-klen-lt1.false c.if-klen-gt-LONGEST_KEY.false (λ z. omega (arith, c.in-4.is))

pub returns-in_default : goal.returns-in_default
returns-in_default c = took_not (λ s. kind_known _ _ s.kind (λ e. omega arith) (λ e. omega arith) (λ e. omega arith))
