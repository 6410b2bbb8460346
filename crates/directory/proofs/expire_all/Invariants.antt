-- `directory::expire_all` meets its contract. The loop's invariant: the first i entries have the new expiry.
use Rattle.std.proofs.Common.{◌≡◌, length}
use Rattle.rules.specs.Layout.{entries_of}
use Rattle.directory.specs.Expiring.{expired}
use Rattle.directory.proofs.expire_all.Given as goal

abbrev pub invariant-loop-i : goal.invariant-loop-i
invariant-loop-i l = l.dir ≡ expired (length l.initial.dir) l.expiry (entries_of l.initial.dir) l.i
