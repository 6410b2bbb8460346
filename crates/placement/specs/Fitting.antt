-- First fit in one pass: no start that was passed has room, and the run at hand is within the limit.
use Rattle.std.proofs.Math.Path.{◌≡◌, refl, sym}
use Rattle.std.proofs.Common.{ap, ◌∙◌, below_more}
use Rattle.std.specs.Prelude.{Bool, ◌&&◌, List, leb, length, Option, Some, None}
use Rattle.std.proofs.Math.Bool.{true, false, cond, and-false}
use Prim.Native.Nat.{ℕ, zero, suc, ◌+◌, ◌-◌, ◌≤◌, ◌<◌}
use native.Mathlib.Omega.{arith}
use Rattle.std.proofs.Math.Decide.{dec_lt, ℕ_discrete}
use Rattle.std.proofs.Math.ListN.{get_or}
use borrow.Author.Tests.{le-leb, lt-leb}
use Rattle.rules.specs.Place.{looks_for}
use Rattle.laws.specs.Booleans.{no_bool}
use Rattle.laws.specs.Cost.{within, fit_within}

module _ (marks : ℕ → ℕ) (limit : ℕ) where
  -- a cell above the limit rules out each start from which a run reaches it
  within_not : (n s c : ℕ) → s ≤ c → c < s + n → limit < marks c → within marks limit n s ≡ false
  unfolding within
  within_not zero s c h l o = absurd (omega arith)
  within_not (suc n) s c h l o = go (dec_lt s c) (λ g. within_not n (suc s) c g (omega arith) o)
    where
      go : Dec (s < c) → (s < c → within marks limit n (suc s) ≡ false) → (leb (marks s) limit && within marks limit n (suc s)) ≡ false
      go (yes g) ih = rw (ih g) (and-false (leb (marks s) limit))
      go (no g) ih = let e : s ≡ c = omega arith in rw (e, lt-leb (marks c) limit o)

  within_all : (n s : ℕ) → ((j : ℕ) → j < n → marks (s + j) ≤ limit) → within marks limit n s ≡ true
  unfolding within
  within_all zero s h = refl
  within_all (suc n) s h =
      let z : s + 0 ≡ s = omega arith in
      rw (
        le-leb (marks s) limit (rw z at (h 0 (omega arith))),
        within_all n (suc s) (λ j l. let e : s + suc j ≡ suc s + j = omega arith in rw e at (h (suc j) (omega arith))),
      )

  -- starts without room are stepped past
  fit_past : (n k s j : ℕ) → ((t : ℕ) → s ≤ t → t < s + j → within marks limit n t ≡ false) → fit_within marks limit n k s ≡ fit_within marks limit n (k - j) (s + j)
  unfolding fit_within
  fit_past n zero s j h = let e : zero - j ≡ 0 = omega arith in rw e
  fit_past n (suc k) s zero h =
      let e : suc k - 0 ≡ suc k = omega arith in
      let z : s + 0 ≡ s = omega arith in
      rw (e, z)
  fit_past n (suc k) s (suc j) h =
      let e : suc k - suc j ≡ k - j = omega arith in
      let z : s + suc j ≡ suc s + j = omega arith in
      rw (h s (omega arith) (omega arith), e, z) (fit_past n k (suc s) j (λ t a b. h t (omega arith) (omega arith)))

-- the first fit in a list of marks
abbrev pub fit_under : List ℕ → ℕ → ℕ → Option ℕ
fit_under marks limit n = fit_within (λ (c : ℕ). get_or marks c 0) limit n (suc (length marks) - n) 0

-- what the search answers: the first fit, and how many looks at a cell it took
pub record FirstFit (marks : List ℕ) (limit n : ℕ) (fit : Option ℕ) (looks : ℕ) : Type 0 where
  pub fit_is : fit ≡ fit_under marks limit n
  pub looks_are : looks ≡ looks_for (length marks) n fit

-- the run from `start` on
pub record Running (marks : List ℕ) (limit n start run : ℕ) : Type 0 where
  pub short : run ≤ n
  pub inside : start + run ≤ length marks
  pub low : (j : ℕ) → j < run → get_or marks (start + j) 0 ≤ limit

-- the fit is not below `start`
pub record Looking (marks : List ℕ) (limit n start : ℕ) : Type 0 where
  pub inside : start ≤ length marks
  pub rest : fit_under marks limit n ≡ fit_within (λ (c : ℕ). get_or marks c 0) limit n (suc (length marks) - n - start) start

module _ {marks : List ℕ} {limit n : ℕ} where
  pub running_none : {start : ℕ} → start ≤ length marks → Running marks limit n start 0
  running_none h = record { short = omega arith; inside = omega arith; low = λ j l. absurd (omega arith) }

  pub running_more : {start run : ℕ} → Running marks limit n start run → (run ≡ n → ⊥) → (start + run ≡ length marks → ⊥) → get_or marks (start + run) 0 ≤ limit → Running marks limit n start (run + 1)
  running_more {run = run} r p q h = record { short = omega (arith, r.short); inside = omega (arith, r.inside); low = below_more _ run r.low h }

  pub looking_none : Looking marks limit n 0
  looking_none = let e : suc (length marks) - n - 0 ≡ suc (length marks) - n = omega arith in record { inside = omega arith; rest = rw e }

  -- the cell behind the run is above the limit
  pub looking_more : {start run : ℕ} → Looking marks limit n start → Running marks limit n start run → (run ≡ n → ⊥) → (start + run ≡ length marks → ⊥) → limit < get_or marks (start + run) 0 → Looking marks limit n (start + (run + 1))
  looking_more {start} {run} k r p q o =
      let e : suc (length marks) - n - start - (run + 1) ≡ suc (length marks) - n - (start + (run + 1)) = omega arith in
      record {
        inside = omega (arith, r.inside);
        rest =
            k.rest
            ∙ fit_past (λ (c : ℕ). get_or marks c 0) limit n (suc (length marks) - n - start) start (run + 1) (λ t a b. within_not (λ (c : ℕ). get_or marks c 0) limit n t (start + run) (omega arith) (omega (arith, r.short)) o)
            ∙ ap (λ (m : ℕ). fit_within (λ (c : ℕ). get_or marks c 0) limit n m (start + (run + 1))) e;
      }

  found : {start run : ℕ} → Looking marks limit n start → Running marks limit n start run → run ≡ n → Some start ≡ fit_under marks limit n
  unfolding fit_within
  found {start} {run} k r p =
      let e : suc (length marks) - n - start ≡ suc (length marks - n - start) = omega (arith, r.inside) in
      let low : (j : ℕ) → j < n → get_or marks (start + j) 0 ≤ limit = rw p at r.low in
      let w : within (λ (c : ℕ). get_or marks c 0) limit n start ≡ true = within_all (λ (c : ℕ). get_or marks c 0) limit n start low in
      sym (k.rest ∙ rw (e, w))

  nowhere : {start run : ℕ} → Looking marks limit n start → Running marks limit n start run → (run ≡ n → ⊥) → start + run ≡ length marks → None ≡ fit_under marks limit n
  unfolding fit_within
  nowhere {start} {run} k r p q = let e : suc (length marks) - n - start ≡ 0 = omega (arith, r.short) in sym (k.rest ∙ rw e)

  -- a look at each cell up to the run's end
  pub looking_found : {start run looks : ℕ} → Looking marks limit n start → Running marks limit n start run → run ≡ n → looks ≡ start + run → FirstFit marks limit n (Some start) looks
  unfolding looks_for
  looking_found k r p l = record { fit_is = found k r p; looks_are = omega arith }

  pub looking_end : {start run looks : ℕ} → Looking marks limit n start → Running marks limit n start run → (run ≡ n → ⊥) → start + run ≡ length marks → looks ≡ start + run → FirstFit marks limit n None looks
  unfolding looks_for
  looking_end k r p q l = record { fit_is = nowhere k r p q; looks_are = omega arith }

-- ---- which limits have a fit

-- n cells from s on, all of them inside and within the limit
pub record Open (marks : List ℕ) (limit n s : ℕ) : Type 0 where
  pub inside : s + n ≤ length marks
  pub low : (j : ℕ) → j < n → get_or marks (s + j) 0 ≤ limit

-- a cell among them that is not below the bound
pub record Closed (marks : List ℕ) (bound n s : ℕ) : Type 0 where
  pub cell : ℕ
  pub first : s ≤ cell
  pub last : cell < s + n
  pub high : bound ≤ get_or marks cell 0

-- a fit is open
module _ (marks : ℕ → ℕ) (limit n : ℕ) where
  fit_some : (k s t : ℕ) → s ≤ t → t < s + k → within marks limit n t ≡ true → fit_within marks limit n k s ≡ None → ⊥
  unfolding fit_within
  fit_some zero s t h l w e = omega arith
  fit_some (suc k) s t h l w e = go (within marks limit n s) refl (ℕ_discrete s t) (λ q. fit_some k (suc s) t (omega arith) (omega arith) w) e
    where
      go : (b : Bool) → within marks limit n s ≡ b → Dec (s ≡ t) → ((s ≡ t → ⊥) → fit_within marks limit n k (suc s) ≡ None → ⊥) → cond b (Some s) (fit_within marks limit n k (suc s)) ≡ None → ⊥
      go true x d ih y = let z : ◌≡◌ {A = ℕ} 0 1 = cc in omega arith
      go false x (yes q) ih y = no_bool (sym x ∙ rw q w)
      go false x (no q) ih y = ih q y

  fit_none : (k s : ℕ) → ((t : ℕ) → s ≤ t → t < s + k → within marks limit n t ≡ false) → fit_within marks limit n k s ≡ None
  unfolding fit_within
  fit_none zero s h = refl
  fit_none (suc k) s h = rw (h s (omega arith) (omega arith)) (fit_none k (suc s) (λ t a b. h t (omega arith) (omega arith)))

-- under a limit that has an open place there is a fit; and there is none where each place is closed to all marks below the bound
pub open_fits : {marks : List ℕ} {limit n s : ℕ} → Open marks limit n s → fit_under marks limit n ≡ None → ⊥
open_fits {marks} {limit} {n} {s} o = fit_some (λ (c : ℕ). get_or marks c 0) limit n (suc (length marks) - n) 0 s (omega arith) (omega (arith, o.inside)) (within_all (λ (c : ℕ). get_or marks c 0) limit n s o.low)

pub closed_none : (marks : List ℕ) (limit bound n : ℕ) → limit < bound → ((s : ℕ) → s + n ≤ length marks → Closed marks bound n s) → fit_under marks limit n ≡ None
closed_none marks limit bound n l c =
    fit_none (λ (x : ℕ). get_or marks x 0) limit n (suc (length marks) - n) 0
    (λ t a b. let q : Closed marks bound n t = c t (omega arith) in within_not (λ (x : ℕ). get_or marks x 0) limit n t q.cell q.first q.last (omega (arith, q.high)))
