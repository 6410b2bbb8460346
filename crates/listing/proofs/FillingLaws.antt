-- What holds of rows that a loop fills from a table of plain numbers.
use Rattle.std.specs.Prelude.{◌≡◌, refl, List, [], ◌∷◌, ◌++◌, ℕ, zero, suc, ◌+◌, ◌*◌, ◌≤◌, ◌<◌, length, take, drop, get_or, set}
use Rattle.std.proofs.Common.{sym, ap, ◌∙◌, arith, length-set, take_all, take-suc, drop-cons, length-take-le}
use Rattle.std.proofs.lemmas.List.{set_at}
use Rattle.std.proofs.Math.Seq.{append_snoc}
use Rattle.rules.specs.declared.Row.{Row}
use Rattle.rules.specs.Calls.{row_words}
use Rattle.listing.specs.Filling.{row_at, filled}

pub filled_length : (rows : List Row) (t : List ℕ) (k : ℕ) → length (filled rows t k) ≡ length rows
unfolding filled
filled_length rows t zero = refl
filled_length rows t (suc k) = length-set (filled rows t k) k (row_at t k) ∙ filled_length rows t k

-- a row is what its three numbers say
row_there : (rs : List Row) (rest : List ℕ) (k : ℕ) (d : Row) → k < length rs → row_at (row_words rs ++ rest) k ≡ get_or rs k d
unfolding row_words
row_there [] rest k d h = absurd (omega arith)
row_there (r ∷ rs) rest zero d h = refl
row_there (r ∷ rs) rest (suc k) d h =
    let t : List ℕ = r.start ∷ r.klen ∷ r.kind ∷ (row_words rs ++ rest) in
    let p : 3 * suc k ≡ suc (suc (suc (3 * k))) = omega arith in
    let q : 3 * suc k + 1 ≡ suc (suc (suc (3 * k + 1))) = omega arith in
    let s : 3 * suc k + 2 ≡ suc (suc (suc (3 * k + 2))) = omega arith in
    ap (λ (x : ℕ). record { start = get_or t x 0; klen = get_or t (3 * suc k + 1) 0; kind = get_or t (3 * suc k + 2) 0 }) p
    ∙ ap (λ (x : ℕ). record { start = get_or t (suc (suc (suc (3 * k)))) 0; klen = get_or t x 0; kind = get_or t (3 * suc k + 2) 0 }) q
    ∙ ap (λ (x : ℕ). record { start = get_or t (suc (suc (suc (3 * k)))) 0; klen = get_or t (suc (suc (suc (3 * k + 1)))) 0; kind = get_or t x 0 }) s
    ∙ row_there rs rest k d (omega arith)

-- rows that a table tells, in front of the rows that stay
pub filled_is : (rows rs : List Row) (rest t : List ℕ) (n : ℕ) → t ≡ row_words rs ++ rest → n ≡ length rs → n ≤ length rows → filled rows t n ≡ rs ++ drop n rows
unfolding filled
filled_is rows rs rest t n e l h = go n (omega arith) (omega arith) ∙ ap (λ (x : List Row). x ++ drop n rows) (take_all n rs (omega arith))
  where
    go : (k : ℕ) → k ≤ length rs → k ≤ length rows → filled rows t k ≡ take k rs ++ drop k rows
    go zero a b = refl
    go (suc k) a b =
        let d : Row = row_at t k in
        let v : Row = get_or rs k d in
        ap (λ (x : List Row). set x k (row_at t k)) (go k (omega arith) (omega arith))
        ∙ ap (set (take k rs ++ drop k rows) k) (ap (λ (x : List ℕ). row_at x k) e ∙ row_there rs rest k d (omega arith))
        ∙ ap (λ (x : List Row). set (take k rs ++ x) k v) (drop-cons rows k d (omega arith))
        ∙ set_at (take k rs) (get_or rows k d) (drop (suc k) rows) v k (length-take-le k rs (omega arith))
        ∙ sym (append_snoc (take k rs) v (drop (suc k) rows))
        ∙ ap (λ (x : List Row). x ++ drop (suc k) rows) (sym (take-suc rs k d (omega arith)))
