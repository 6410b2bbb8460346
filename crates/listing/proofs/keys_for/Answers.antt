-- `listing::keys_for` meets its contract.
use Rattle.std.proofs.Common.{ap, ◌*◌, ℕ}
use Rattle.std.proofs.lemmas.Result.{err_from_is_err_and}
use Rattle.laws.specs.ChecksLaws.{clock_passed}
use Rattle.listing.proofs.ToldLaws.{told_refused, told_passed}
use mathlib.Core.Path.{refl, sym}
use Rattle.listing.proofs.keys_for.Goals as goal

pub returns-in_err-of_clock : goal.returns-in_err-of_clock
returns-in_err-of_clock c =
    let p = err_from_is_err_and c.from_residual.result c.from_residual.ensures.1 in
    rw (p.1, p.2) (told_refused _ _ _ _ _ _ _ (sym c.in_err-of_clock.ensures))

pub list_rows-requires : goal.list_rows-requires
list_rows-requires c = clock_passed _ _ _ c.in_ok-of_clock.ensures

pub returns : goal.returns
returns c = told_passed _ _ _ _ _ (clock_passed _ _ _ c.in_ok-of_clock.ensures) _ _ _ _ _ c.requires (ap (λ (n : ℕ). 3 * n) c.min-end.ensures) refl c.list_rows.ensures (sym c.in_ok-of_clock.ensures)
