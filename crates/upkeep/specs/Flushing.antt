-- Which entries flush_expired removes: the dead ones from an index on. It is sought from the long-unused end.
use Rattle.std.specs.Prelude.{◌≡◌, refl, Bool, true, false, cond, List, ℕ, zero, suc, ◌+◌, ◌-◌, ◌*◌, ◌≤◌, ◌<◌, get_or}
use Rattle.std.proofs.Math.Path.{sym, ap}
use Rattle.std.proofs.Common.{◌∙◌, arith}
use Rattle.std.proofs.Math.ListN.{length}
use Rattle.rules.specs.declared.Entry.{Entry}
use Rattle.rules.specs.Layout.{need_of, none, Memory, entry_in, wiped, remove}
use Rattle.rules.specs.Time.{dead}
use Rattle.rules.specs.Calls.{flushed}
use Rattle.laws.specs.LayoutLaws.{length_wiped}
use Rattle.upkeep.specs.LiveFrom.{live_from, from_end, from_at, from_dead, from_live}

-- if `most` go at most, the dead from `first` on go; the pool is wiped of them
pub record GoFrom (clock most : ℕ) (m : Memory) (first : ℕ) (pool : List ℕ) : Type 0 where
  pub within : first ≤ length m.entries
  pub is : flushed clock (length m.entries) most m ≡ live_from clock first m
  pub bytes : pool ≡ (live_from clock first m).pool
  pub size : length pool ≡ length m.pool

-- ---- `flushed`, one entry

flushed_dead : (clock j k : ℕ) (m : Memory) → dead clock (entry_in m j) ≡ true → flushed clock (suc j) (suc k) m ≡ flushed clock j k (remove j m)
unfolding flushed
flushed_dead clock j k m d = ap (λ (b : Bool). cond b (flushed clock j k (remove j m)) (flushed clock j (suc k) m)) d

flushed_live : (clock j k : ℕ) (m : Memory) → dead clock (entry_in m j) ≡ false → flushed clock (suc j) (suc k) m ≡ flushed clock j (suc k) m
unfolding flushed
flushed_live clock j k m d = ap (λ (b : Bool). cond b (flushed clock j k (remove j m)) (flushed clock j (suc k) m)) d

flushed_zero : (clock n : ℕ) (m : Memory) → flushed clock n 0 m ≡ m
unfolding flushed
flushed_zero clock zero m = refl
flushed_zero clock (suc n) m = refl

flushed_none : (clock k : ℕ) (m : Memory) → flushed clock 0 k m ≡ m
unfolding flushed
flushed_none clock k m = refl

-- ---- the search

-- the entries from i on are decided: their dead go, `gone` in number, the first of which is that at `first`; and they are wiped
pub record Decided (clock most : ℕ) (m : Memory) (i first gone : ℕ) (pool : List ℕ) : Type 0 where
  pub order : i ≤ first
  pub within : first ≤ length m.entries
  pub some : gone ≤ most
  pub rest : flushed clock (length m.entries) most m ≡ flushed clock i (most - gone) (live_from clock i m)
  pub same : live_from clock i m ≡ live_from clock first m
  pub bytes : pool ≡ (live_from clock i m).pool
  pub size : length pool ≡ length m.pool

pub decided_none : {clock most n : ℕ} {m : Memory} → n ≡ length m.entries → Decided clock most m n n 0 m.pool
decided_none {clock} {most} {n} {m} e =
    let z : most ≡ most - 0 = omega arith in
    record {
      order = omega arith;
      within = omega arith;
      some = omega arith;
      rest =
          ap (flushed clock (length m.entries) most) (sym (from_end clock m))
          ∙ ap (λ (k : ℕ). flushed clock k most (live_from clock k m)) (sym e)
          ∙ ap (λ (k : ℕ). flushed clock n k (live_from clock n m)) z;
      same = refl;
      bytes = ap (λ (x : Memory). x.pool) (sym (from_end clock m)) ∙ ap (λ (k : ℕ). (live_from clock k m).pool) (sym e);
      size = refl;
    }

-- the entry before i decided
module _ {clock most i first gone : ℕ} {m : Memory} {pool : List ℕ} (s : Decided clock most m i first gone pool) (hi : 0 < i) (hg : gone < most) (e : Entry) (x : e ≡ get_or m.entries (i - 1) none) where
  abbrev j : ℕ
  j = i - 1

  abbrev more : ℕ
  more = most - (gone + 1)

  there : j < length m.entries
  there = omega (arith, s.order, s.within)

  next : i ≡ suc j
  next = omega arith

  rest_next : flushed clock (length m.entries) most m ≡ flushed clock (suc j) (suc more) (live_from clock (suc j) m)
  rest_next =
      let q : most - gone ≡ suc more = omega arith in
      s.rest ∙ ap (λ (k : ℕ). flushed clock k (most - gone) (live_from clock k m)) next ∙ ap (λ (k : ℕ). flushed clock (suc j) k (live_from clock (suc j) m)) q

  by_entry : {b : Bool} → dead clock e ≡ b → dead clock (entry_in m j) ≡ b
  by_entry d = ap (dead clock) (sym x) ∙ d

  by_next : {b : Bool} → dead clock e ≡ b → dead clock (entry_in (live_from clock (suc j) m) j) ≡ b
  by_next d = ap (dead clock) (from_at clock m j there) ∙ by_entry d

  -- it lies in the pool
  pub decided_inside : 32 * (e.start + need_of e) ≤ length m.pool → 32 * (e.start + need_of e) ≤ length pool
  decided_inside h = omega (arith, s.size)

  pub decided_dead : dead clock e ≡ true → 32 * (e.start + need_of e) ≤ length m.pool → {pool' : List ℕ} → pool' ≡ wiped e pool → Decided clock most m (i - 1) (i - 1) (gone + 1) pool'
  unfolding remove
  decided_dead d h p =
      let now : (live_from clock (suc j) m).pool ≡ pool = sym (s.bytes ∙ ap (λ (k : ℕ). (live_from clock k m).pool) next) in
      let it : entry_in (live_from clock (suc j) m) j ≡ e = from_at clock m j there ∙ sym x in
      record {
        order = omega arith;
        within = omega (arith, there);
        some = omega arith;
        rest = rest_next ∙ flushed_dead clock j more (live_from clock (suc j) m) (by_next d) ∙ ap (flushed clock j more) (from_dead clock m j there (by_entry d));
        same = refl;
        bytes = sym (sym (ap (λ (y : Memory). y.pool) (from_dead clock m j there (by_entry d))) ∙ ap (λ (y : Entry). wiped y (live_from clock (suc j) m).pool) it ∙ ap (wiped e) now ∙ sym p);
        size = ap length p ∙ length_wiped e pool (decided_inside h) ∙ s.size;
      }

  pub decided_live : dead clock e ≡ false → Decided clock most m (i - 1) first gone pool
  decided_live d =
      let q : suc more ≡ most - gone = omega arith in
      let stays : live_from clock (suc j) m ≡ live_from clock j m = from_live clock m j there (by_entry d) in
      record {
        order = omega (arith, s.order);
        within = s.within;
        some = s.some;
        rest =
            rest_next
            ∙ flushed_live clock j more (live_from clock (suc j) m) (by_next d)
            ∙ ap (λ (k : ℕ). flushed clock j k (live_from clock (suc j) m)) q
            ∙ ap (flushed clock j (most - gone)) stays;
        same = sym stays ∙ ap (λ (k : ℕ). live_from clock k m) (sym next) ∙ s.same;
        bytes = s.bytes ∙ ap (λ (k : ℕ). (live_from clock k m).pool) next ∙ ap (λ (y : Memory). y.pool) stays;
        size = s.size;
      }

-- no more may go, or all are decided
module _ {clock most i first gone : ℕ} {m : Memory} {pool : List ℕ} (s : Decided clock most m i first gone pool) where
  all_bytes : pool ≡ (live_from clock first m).pool
  all_bytes = s.bytes ∙ ap (λ (y : Memory). y.pool) s.same

  pub decided_full : gone ≡ most → GoFrom clock most m first pool
  decided_full e =
      let z : most - gone ≡ 0 = omega arith in
      record { within = s.within; is = s.rest ∙ ap (λ (k : ℕ). flushed clock i k (live_from clock i m)) z ∙ flushed_zero clock i (live_from clock i m) ∙ s.same; bytes = all_bytes; size = s.size }

  pub decided_all : i ≤ 0 → GoFrom clock most m first pool
  decided_all h =
      let z : i ≡ 0 = omega arith in
      record { within = s.within; is = s.rest ∙ ap (λ (k : ℕ). flushed clock k (most - gone) (live_from clock i m)) z ∙ flushed_none clock (most - gone) (live_from clock i m) ∙ s.same; bytes = all_bytes; size = s.size }
