-- `Lines::write_out` meets its contract: what it answers is what the output answered.
use Rattle.replay_main.proofs.Lines.write_out.Goals as goal

pub returns-clause-written : goal.returns-clause-written
returns-clause-written g c = c.write_all.ensures.bytes
