-- `replay::do_line` meets its contract.
use Rattle.std.proofs.Common.{arith}
use Rattle.printing.specs.Printable.{TextInside}
use Rattle.replay.specs.Progress.{lined}
use Rattle.replay.proofs.do_line.Goals as goal

pub write_line-requires-clause-text_inside : goal.write_line-requires-clause-text_inside
unfolding TextInside
write_line-requires-clause-text_inside c = rw c.bytes.ensures c.do_call-answer.ensures.runs.text

pub returns-clause-lined : goal.returns-clause-lined
returns-clause-lined c =
    let w = rw c.bytes.ensures at c.write_line.ensures in
    lined c.parse.ensures.call c.do_call-answer.ensures.runs w.0 w.1 (omega (arith, c.do_call-answer.ensures.same.bytes, c.requires))
