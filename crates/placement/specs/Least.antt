-- The least limit that has a fit, in one pass: each place that was passed has a cell at or above the bound, and the bound is the cost of a place that was met.
use Rattle.std.specs.Prelude.{◌≡◌, refl, List, ℕ, ◌+◌, ◌≤◌, ◌<◌, length, get_or, Option, Some, None}
use Rattle.std.proofs.Common.{sym, ◌∙◌, arith, below_more}
use Rattle.std.proofs.Math.Decide.{dec_lt}
use Rattle.placement.specs.declared.Least.{Least}
use Rattle.placement.specs.Fitting.{fit_under, Open, Closed, open_fits, closed_none}

-- the least limit that has a fit, or one more than `most`
pub record LeastLimit (marks : List ℕ) (n most limit : ℕ) : Type 0 where
  pub few : limit ≤ most + 1
  pub none_before : (j : ℕ) → j < limit → fit_under marks j n ≡ None
  pub some_here : limit ≤ most → fit_under marks limit n ≡ None → ⊥

-- a place under that limit; without one under any, 0 is the limit
pub record LeastPlace (marks : List ℕ) (n most : ℕ) (fit : Option ℕ) (limit : ℕ) : Type 0 where
  pub few : limit ≤ most
  pub here : fit ≡ fit_under marks limit n
  pub none_before : (j : ℕ) → j < limit → fit_under marks j n ≡ None
  pub no_rounds : fit ≡ None → limit ≡ 0
  pub none : fit ≡ None → (j : ℕ) → j ≤ most → fit_under marks j n ≡ None

-- a place that was found: where it begins, if there is one, and its limit
abbrev pub start_of : Option Least → Option ℕ
start_of None = None
start_of (Some place) = Some place.start

abbrev pub limit_of : Option Least → ℕ
limit_of None = 0
limit_of (Some place) = place.limit

-- ---- the pass

-- the places from below `start` cost `bound` at least; one costs just that, unless none was met
pub record Passed (marks : List ℕ) (n most bound start : ℕ) : Type 0 where
  pub inside : start ≤ length marks
  pub few : bound ≤ most + 1
  pub closed : (s : ℕ) → s < start → s + n ≤ length marks → Closed marks bound n s
  pub met : bound ≤ most → fit_under marks bound n ≡ None → ⊥

-- the run from `start` on is below the bound, and its highest mark, `top`, stands at `at`
pub record Climbed (marks : List ℕ) (n bound start run top at : ℕ) : Type 0 where
  pub short : run ≤ n
  pub inside : start + run ≤ length marks
  pub low : (j : ℕ) → j < run → get_or marks (start + j) 0 ≤ top
  pub peak : 0 < run → (top ≡ get_or marks at 0) × (top < bound) × (start ≤ at) × (at < start + run)
  pub none_yet : run ≡ 0 → top ≡ 0

pub passed_none : {marks : List ℕ} {n most : ℕ} → Passed marks n most (most + 1) 0
passed_none = record { inside = omega arith; few = omega arith; closed = λ s l h. absurd (omega arith); met = λ l. absurd (omega arith) }

pub climbed_none : {marks : List ℕ} {n bound start : ℕ} → start ≤ length marks → Climbed marks n bound start 0 0 start
climbed_none h = record { short = omega arith; inside = omega arith; low = λ j l. absurd (omega arith); peak = λ l. absurd (omega arith); none_yet = λ z. refl }

module _ {marks : List ℕ} {n bound start run top at : ℕ} (c : Climbed marks n bound start run top at) where
  -- one cell more: a new peak, or not
  module _ (p : run ≡ n → ⊥) (q : start + run ≡ length marks → ⊥) {mark : ℕ} (e : mark ≡ get_or marks (start + run) 0) (b : mark < bound) where
    pub climbed_peak : top ≤ mark → Climbed marks n bound start (run + 1) mark (start + run)
    climbed_peak t =
        record {
          short = omega (arith, c.short);
          inside = omega (arith, c.inside);
          low = below_more _ run (λ j l. omega (arith, c.low j l)) (omega arith);
          peak = λ l. (e, omega arith, omega arith, omega arith);
          none_yet = λ z. absurd (omega arith);
        }

    pub climbed_more : mark < top → Climbed marks n bound start (run + 1) top at
    climbed_more t = go (dec_lt 0 run)
      where
        go : Dec (0 < run) → Climbed marks n bound start (run + 1) top at
        go (yes r) =
            record {
              short = omega (arith, c.short);
              inside = omega (arith, c.inside);
              low = below_more _ run c.low (omega arith);
              peak = λ l. ((c.peak r).0, (c.peak r).1, (c.peak r).2, omega (arith, (c.peak r).3));
              none_yet = λ z. absurd (omega arith);
            }
        go (no r) = absurd (omega (arith, c.none_yet (omega arith)))

  module _ {most : ℕ} (k : Passed marks n most bound start) where
    -- a place: its highest mark is the next bound
    pub passed_place : 0 < n → run ≡ n → Passed marks n most top (at + 1)
    passed_place z e =
        let l : 0 < run = omega arith in
        let pk = c.peak l in
        let open-here : Open marks top n start = record { inside = omega (arith, c.inside); low = λ j m. c.low j (omega arith) } in
        record {
          inside = omega (arith, c.inside, pk.3);
          few = omega (arith, k.few, pk.1);
          closed = λ s m h. go pk s m h (dec_lt s start);
          met = λ m. open_fits open-here;
        }
      where
        go : (top ≡ get_or marks at 0) × (top < bound) × (start ≤ at) × (at < start + run) → (s : ℕ) → s < at + 1 → s + n ≤ length marks → Dec (s < start) → Closed marks top n s
        go pk s m h (yes y) = let w : Closed marks bound n s = k.closed s y h in record { cell = w.cell; first = w.first; last = w.last; high = omega (arith, w.high, pk.1) }
        go pk s m h (no y) = record { cell = at; first = omega arith; last = omega (arith, pk.3); high = omega (arith, pk.0) }

    -- a place of one round, where nothing is free
    pub passed_cheapest : 0 < n → run ≡ n → top ≤ 1 → fit_under marks 0 n ≡ None → LeastLimit marks n most top
    passed_cheapest z e t none =
        let there : Passed marks n most top (at + 1) = passed_place z e in
        record {
          few = there.few;
          none_before = λ j l. let w : j ≡ 0 = omega arith in rw w none;
          some_here = there.met;
        }

    -- a cell that is not below the bound
    pub passed_cell : (run ≡ n → ⊥) → (start + run ≡ length marks → ⊥) → bound ≤ get_or marks (start + run) 0 → Passed marks n most bound (start + (run + 1))
    passed_cell p q b = record { inside = omega (arith, c.inside); few = k.few; closed = λ s m h. go s m h (dec_lt s start); met = k.met }
      where
        go : (s : ℕ) → s < start + (run + 1) → s + n ≤ length marks → Dec (s < start) → Closed marks bound n s
        go s m h (yes y) = k.closed s y h
        go s m h (no y) = record { cell = start + run; first = omega arith; last = omega (arith, c.short); high = b }

    -- the end of the cells
    pub passed_end : (run ≡ n → ⊥) → start + run ≡ length marks → LeastLimit marks n most bound
    passed_end p q =
        record {
          few = k.few;
          none_before = λ j l. closed_none marks j bound n l (λ s h. k.closed s (omega (arith, c.short)) h);
          some_here = k.met;
        }

-- ---- the place

module _ {marks : List ℕ} {n most : ℕ} where
  -- under some limit
  place_under : {s limit : ℕ} → limit ≤ most → Some s ≡ fit_under marks limit n → ((j : ℕ) → j < limit → fit_under marks j n ≡ None) → LeastPlace marks n most (Some s) limit
  place_under h e none_before = record { few = h; here = e; none_before = none_before; no_rounds = λ q. absurd (start_somewhere q); none = λ q. absurd (start_somewhere q) }
    where
      start_somewhere : {s : ℕ} → Some s ≡ None → ⊥
      start_somewhere q = let z : ◌≡◌ {A = ℕ} 0 1 = cc in omega arith

  -- under 0
  pub place_free : {s : ℕ} {f : Option ℕ} → f ≡ fit_under marks 0 n → f ≡ Some s → LeastPlace marks n most (Some s) 0
  place_free e p = place_under (omega arith) (sym p ∙ e) (λ j l. absurd (omega arith))

  -- under the least limit
  pub place_least : {limit : ℕ} (f : Option ℕ) → LeastLimit marks n most limit → limit ≤ most → f ≡ fit_under marks limit n → LeastPlace marks n most f limit
  place_least (Some s) l h e = place_under h e l.none_before
  place_least None l h e = absurd (l.some_here h (sym e))

  -- under none
  place_nowhere : ((j : ℕ) → j ≤ most → fit_under marks j n ≡ None) → LeastPlace marks n most None 0
  place_nowhere h = record { few = omega arith; here = sym (h 0 (omega arith)); none_before = λ j l. absurd (omega arith); no_rounds = λ q. refl; none = λ q. h }

  pub place_safe : most ≡ 0 → None ≡ fit_under marks 0 n → LeastPlace marks n most None 0
  place_safe z e = place_nowhere (λ j l. let w : j ≡ 0 = omega arith in rw w (sym e))

  pub place_none : {limit : ℕ} → LeastLimit marks n most limit → most < limit → LeastPlace marks n most None 0
  place_none l h = place_nowhere (λ j m. l.none_before j (omega arith))
