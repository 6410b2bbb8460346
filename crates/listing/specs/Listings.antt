-- What get_keys comes to, as plain numbers: the check, and then the rows.
use Rattle.std.specs.Prelude.{◌≡◌, List, ℕ, ◌/◌, min, length, Ok, Err}
use Rattle.std.proofs.Common.{ap, ◌∙◌}
use Rattle.rules.specs.declared.Answer.{Answer}
use Rattle.rules.specs.Check.{Check}
use Rattle.rules.specs.declared.Outcome.{Outcome}
use Rattle.rules.specs.declared.Outcome.TheVariants.{Count}
use Rattle.rules.specs.Layout.{Memory}
use Rattle.rules.specs.Answer.{plain}
use Rattle.rules.specs.Calls.{up_to, live_of, key_count, key_rows, FlatListing, flat_listing, listed_flat, flat_keys_of}
use Rattle.listing.specs.Counts.{up_to_least}
use Rattle.listing.specs.Rows.{Listed}

-- the rows of the live entries, as many as fit and as the maximum allows
pub flat_listed : {clock most : ℕ} (maximum : ℕ) (m : Memory) {t t' : List ℕ} {k : ℕ} {a : Answer} → most ≡ up_to maximum (length t / 3) → Listed clock most m.entries t k t' → a ≡ plain (Count k) 0 → flat_listing a t' ≡ listed_flat clock maximum t m
unfolding key_count key_rows listed_flat
flat_listed {clock} {most} maximum m {t} {t'} {k} {a} e r p =
    let live : ℕ = length (live_of clock m.entries) in
    let n : k ≡ up_to maximum (min (length t / 3) live) = r.count ∙ ap (λ (x : ℕ). min x live) e ∙ up_to_least maximum (length t / 3) live in
    rw (p, r.is, n)

module _ (c : Check) (clock maximum : ℕ) (t : List ℕ) (m : Memory) where
  -- a refusal leaves the table, and carries nothing
  pub flat_refused : (o : Outcome) (a : Answer) → c ≡ Err o → a ≡ plain o 0 → flat_listing a t ≡ flat_keys_of c clock maximum t m
  unfolding flat_keys_of
  flat_refused o a e p = rw (p, e)

  pub flat_passed : (l : FlatListing) → c ≡ (Ok tt) → l ≡ listed_flat clock maximum t m → l ≡ flat_keys_of c clock maximum t m
  unfolding flat_keys_of
  flat_passed l e p = rw (p, e)
