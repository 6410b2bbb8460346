-- `reading::shown` meets its contract.
use native.Mathlib.Omega.{arith}
use Rattle.values.specs.Bits.{held_is}
use Rattle.reading.specs.Readable.{boolean_inside, number_inside, shown_boolean, shown_number, shown_text}
use Rattle.reading.proofs.shown.Goals as goal

pub bounds-pool-offset : goal.bounds-pool-offset
bounds-pool-offset c = boolean_inside _ _ c.requires c.in-1.is

pub returns-in-1 : goal.returns-in-1
returns-in-1 c = shown_boolean _ _ c.in-1.is

pub number_at-requires : goal.number_at-requires
number_at-requires c = number_inside _ _ c.requires c.in-3.is

pub returns-in-3 : goal.returns-in-3
returns-in-3 c = shown_number _ _ _ (λ k. omega (arith, k, c.in-3.is)) c.in-3.is (held_is c.number_at.type_inv c.number_at.ensures)

pub returns-in_default : goal.returns-in_default
returns-in_default c = shown_text _ _ (λ k. omega (arith, k)) (λ k. omega (arith, k))
