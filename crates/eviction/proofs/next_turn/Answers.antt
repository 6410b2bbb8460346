-- `eviction::next_turn` meets its contract.
use Rattle.std.proofs.Common.{◌≡◌, ◌+◌, arith, min}
use Rattle.eviction.specs.Turns.{turn_joins, turn_full, turn_live}
use Rattle.eviction.proofs.next_turn.Goals as goal
use Rattle.eviction.proofs.next_turn.Goals.{else-dead-via-then-dead+else-turn-gt0, else-dead-via-else-dead}

pub returns-then-turn-gt0 : goal.returns-then-turn-gt0
returns-then-turn-gt0 c = turn_joins _ c.if-dead.true c.if-turn-gt0.true

pub returns : goal.returns
returns c = let e : c.min.result ≡ min (c.args.turn.round + 1) 31 = omega (arith, c.min.ensures, c.saturating_add.ensures) in
    elim c.else-dead.branch [ else-dead-via-then-dead+else-turn-gt0 w ↦ turn_full _ w.if-dead.true w.if-turn-gt0.false e | else-dead-via-else-dead w ↦ turn_live _ w.if-dead.false e ]
