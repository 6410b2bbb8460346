-- `Output::put_value` meets its contract.
use Rattle.std.proofs.Common.{ap, ◌∙◌, arith, to_z, of_z}
use Rattle.std.specs.Int.{w64}
use Rattle.rules.specs.Replay.{signed}
use Rattle.values.specs.Bits.{held_is}
use Rattle.printing.specs.Room.{signed_any}
use Rattle.printing.specs.Columns.{told_fields, shown_none, shown_text, shown_number}
use Rattle.printing.specs.Wrote.{writes_same}
use Rattle.printing.proofs.Output.put_value.Goals as goal

pub returns-in-0-clause-writes : goal.returns-in-0-clause-writes
returns-in-0-clause-writes c = writes_same (shown_none (told_fields c.args.told) c.args.pool.now c.in-0.is) c.put_byte.ensures.writes

pub returns-in-4-clause-writes : goal.returns-in-4-clause-writes
returns-in-4-clause-writes c = writes_same (shown_text (told_fields c.args.told) c.args.pool.now c.in-4.is) c.put_text.ensures.writes

pub returns-in_default-clause-writes : goal.returns-in_default-clause-writes
returns-in_default-clause-writes c =
    writes_same
    (ap signed (held_is c.cast_signed.type_inv c.cast_signed.ensures) ∙ shown_number (told_fields c.args.told) c.args.pool.now (omega arith) (omega arith))
    (record { is = c.write_signed-self.ensures.0; stops = c.write_signed-self.ensures.1; room = omega (arith, signed_any (to_z w64 (of_z w64 c.cast_signed.result))) })
