-- `Lines::pump` meets its contract: where it stops, no line ends in what is left.
use Rattle.std.proofs.Common.{ap, sym, ◌∙◌, arith, eqb-true, length, refl, rules}
use Rattle.rules.specs.Soundness.{every}
use Rattle.scanning.specs.Until.{other}
use Rattle.replay_calls.specs.Lent.{left}
use Rattle.replay_main.specs.Rest.{none_ends, rest_ends, rest_more}
use Rattle.replay_main.specs.Wrote.{wrote_more, wrote_as}
use Rattle.replay_main.proofs.Lines.pump.Goals.{else-loop-self-test, then-loop-self-test+in_ok-write_out+then-self-done}
use Rattle.replay_main.proofs.Lines.pump.Goals as goal

pub returns-clause-rest_has_no_end : goal.returns-clause-rest_has_no_end
returns-clause-rest_has_no_end g c =
    elim c.loop-self-test.branch [
      | else-loop-self-test w ↦ ap (λ r. every (other 10) r.now) w.rest-is ∙ none_ends c.loop-self.rest.now (eqb-true _ _ (sym (w.loop-self-test.ensures)))
      | then-loop-self-test+in_ok-write_out+then-self-done w ↦
          ap (λ r. every (other 10) r.now) w.rest-is
          ∙ rest_ends c.loop-self.rest.now w.run-done.result.consumed (w.run-done.ensures.done.stops (omega (arith, w.run-done.auto, w.run-done.ensures.same.bytes, ap (λ m. length m.pool.now) w.write_out.ensures.memory_stays, w.if-self-done.true)))
    ]

pub loop-self-preserved : goal.loop-self-preserved
loop-self-preserved g c = record {
  inside = search rules;
  last = rest_more _ _ c.loop-self.invariant.last c.loop-self.invariant.inside c.run-done.ensures.done.doing.inside;
  counted = search rules;
  wrote =
      wrote_as
      (wrote_more c.loop-self.invariant.wrote c.run-done.ensures.done c.in_ok-write_out.ensures.written)
      refl
      c.write_out.ensures.count_stays
      refl
      (ap left c.write_out.ensures.memory_stays);
}

pub returns-clause-wrote : goal.returns-clause-wrote
returns-clause-wrote g c =
    elim c.loop-self-test.branch [
      | else-loop-self-test w ↦
          wrote_as
          c.loop-self.invariant.wrote
          (ap (λ x. g.W.Write.contents x.output) w.self-is)
          (ap (λ x. x.count) w.self-is)
          (ap (λ r. r.now) w.rest-is)
          (ap (λ x. left x.memory) w.self-is)
      | then-loop-self-test+in_ok-write_out+then-self-done w ↦
          wrote_as
          (wrote_more c.loop-self.invariant.wrote w.run-done.ensures.done w.in_ok-write_out.ensures.written)
          (ap (λ x. g.W.Write.contents x.output) w.self-is)
          (ap (λ x. x.count) w.self-is ∙ w.write_out.ensures.count_stays)
          (ap (λ r. r.now) w.rest-is)
          (ap (λ x. left x.memory) w.self-is ∙ ap left w.write_out.ensures.memory_stays)
    ]
