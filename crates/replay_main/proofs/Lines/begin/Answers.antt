-- `Lines::begin` meets its contract: the header is what it writes.
use Rattle.std.proofs.Common.{ap, subst, ◌∙◌, arith, take, OnOk}
use Rattle.std.specs.Io.KnownBytes.{Appends}
use Rattle.replay_main.specs.Rest.{front_put}
use Rattle.replay_main.proofs.Lines.begin.Goals as goal

pub returns : goal.returns
returns g c =
    subst (λ bytes. OnOk c.write_out.result (Appends (g.W.Write.contents c.args.self.now.output) (g.W.Write.contents c.write_out.new.self.output) bytes))
    (ap (take _) c.write_header-begun.ensures.0 ∙ front_put _ _ _ c.write_header-begun.ensures.1 (omega (arith, c.write_header-begun.auto)))
    c.write_out.ensures.written
