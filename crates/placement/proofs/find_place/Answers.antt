-- `placement::find_place` meets its contract.
use Rattle.std.proofs.Common.{sym, ◌∙◌, ◌≡◌, Some}
use Rattle.placement.specs.Least.{place_least}
use Rattle.placement.proofs.find_place.Goals as goal

pub returns : goal.returns
returns c = let e : c.least_limit.result ≡ Some c.in_ok-limit.limit = c.in_ok-limit.was in
    let f : c.first_fit-2.result.fit ≡ Some c.in_ok-start.start = c.in_ok-start.was in
    place_least _ (rw e at c.least_limit.ensures.least) (rw e at c.least_limit.ensures.within) (sym f ∙ c.first_fit-2.ensures.fit_is)
