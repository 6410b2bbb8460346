-- `eviction::find_leavers` meets its contract. What the entries left still add to the rounds begun and the entries gone makes the rounds of the whole line.
use Rattle.std.proofs.Common.{arith, ◌≡◌, ◌-◌}
use Rattle.eviction.specs.Leaving.{leaving_none, leaving_more, leaves_stop, leaves_end}
use Rattle.eviction.proofs.find_leavers.Goals as goal

pub loop-i-init : goal.loop-i-init
loop-i-init c = leaving_none c.count-n.ensures

pub returns-then-limit-from : goal.returns-then-limit-from
returns-then-limit-from c = let e : c.count-n.result - 1 - (c.loop-i.i - 1) ≡ c.count-n.result - c.loop-i.i = omega arith in
    rw e (leaves_stop c.loop-i.invariant c.count-n.ensures (omega arith) c.record_at.ensures c.is_dead-dead.ensures c.next_turn-turn.ensures (omega (arith, c.from.ensures)))

pub loop-i-preserved : goal.loop-i-preserved
loop-i-preserved c = leaving_more c.loop-i.invariant (omega arith) c.requires.limit_bound c.record_at.ensures c.is_dead-dead.ensures c.next_turn-turn.ensures (omega (arith, c.from.ensures))

pub returns : goal.returns
returns c = let e : c.count-n.result ≡ c.count-n.result - c.loop-i.i = omega arith in
    rw e (leaves_end c.loop-i.invariant c.count-n.ensures (omega arith))
