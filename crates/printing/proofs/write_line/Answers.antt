-- `printing::write_line` meets its contract.
use Rattle.std.proofs.Common.{arith, rules, ◌∙◌}
use Rattle.printing.specs.Room.{shown_most}
use Rattle.printing.specs.Columns.{told_fields, inside_told, three_most, line_joined}
use Rattle.printing.specs.Wrote.{writes_size, writes_then, writes_same}
use Rattle.printing.proofs.write_line.Goals as goal

pub put_value-requires-clause-told_inside : goal.put_value-requires-clause-told_inside
put_value-requires-clause-told_inside c = inside_told c.args.answer c.args.pool.now _ c.tell-told.ensures.value c.requires.text_inside

pub put_value-requires-clause-pool_in_bounds : goal.put_value-requires-clause-pool_in_bounds
put_value-requires-clause-pool_in_bounds c = omega (arith, c.put_columns.ensures.writes.stops, writes_size c.put_columns.ensures.writes, three_most c.args.n c.tell-told.result.answer c.tell-told.result.kind 9)

pub put_byte-requires : goal.put_byte-requires
put_byte-requires c =
    omega (arith, c.put_columns.ensures.writes.stops, writes_size c.put_columns.ensures.writes, three_most c.args.n c.tell-told.result.answer c.tell-told.result.kind 9, c.put_value.ensures.writes.stops, writes_size c.put_value.ensures.writes, shown_most (told_fields c.tell-told.result) c.args.pool.now)

pub put_columns-requires-2 : goal.put_columns-requires-2
put_columns-requires-2 c =
    omega (arith, c.put_columns.ensures.writes.stops, writes_size c.put_columns.ensures.writes, three_most c.args.n c.tell-told.result.answer c.tell-told.result.kind 9, c.put_value.ensures.writes.stops, writes_size c.put_value.ensures.writes, shown_most (told_fields c.tell-told.result) c.args.pool.now, c.put_byte.ensures.writes.stops, writes_size c.put_byte.ensures.writes)

pub returns : goal.returns
returns c =
    let a = c.args in
    let w =
    writes_same (line_joined a.n a.answer a.pool.now _ c.tell-told.ensures.value c.tell-told.ensures.read_back)
    (writes_then (writes_then (writes_then c.put_columns.ensures.writes c.put_value.ensures.writes) c.put_byte.ensures.writes) c.put_columns-2.ensures.writes) in
    (◌∙◌ {b = c.put_columns-2.new.self.bytes.now} (search rules) w.is, w.stops)
