-- The turn of an entry in its line: the round that it leaves in, told from the rounds begun and from how many dead entries the last of them still takes.
use Rattle.std.specs.Prelude.{◌≡◌, refl, Bool, true, false, List, ◌∷◌, ◌⊎◌, ℕ, zero, suc, ◌+◌, ◌-◌, ◌≤◌, ◌<◌, min}
use Rattle.std.proofs.Common.{inl, inr, arith}
use Rattle.rules.specs.declared.Entry.{Entry}
use Rattle.rules.specs.Time.{dead}
use Rattle.rules.specs.Recency.{deads}
use Rattle.laws.specs.RecencyLaws.{deads_zero, deads_dead, deads_live}
use Rattle.eviction.specs.declared.Turn.{Turn}

-- a dead entry goes with the round if that takes more; any other begins one
abbrev pub round_of : Bool → ℕ → ℕ → ℕ
round_of true r (suc k) = r
round_of true r zero = min (r + 1) 31
round_of false r k = min (r + 1) 31

abbrev pub more_of : Bool → ℕ → ℕ
more_of true (suc k) = k
more_of true zero = 2
more_of false k = 2

abbrev pub next_turn : Bool → Turn → Turn
next_turn d t = record { round = round_of d t.round t.more; more = more_of d t.more }

-- ---- the turn as the code makes it

turn_with : {r q k m : ℕ} → r ≡ q → k ≡ m → ◌≡◌ {A = Turn} (record { round = r; more = k }) (record { round = q; more = m })
turn_with a b = rw (a, b)

more_of_is : (k : ℕ) → 0 < k → k - 1 ≡ more_of true k
more_of_is zero h = absurd (omega arith)
more_of_is (suc k) h = omega arith

round_of_is : (r k : ℕ) → 0 < k → r ≡ round_of true r k
round_of_is r zero h = absurd (omega arith)
round_of_is r (suc k) h = refl

pub turn_joins : {d : Bool} (t : Turn) → d ≡ true → 0 < t.more → record { round = t.round; more = t.more - 1 } ≡ next_turn d t
turn_joins t p h = rw p (turn_with (round_of_is t.round t.more h) (more_of_is t.more h))

pub turn_full : {d : Bool} {r : ℕ} (t : Turn) → d ≡ true → t.more ≤ 0 → r ≡ min (t.round + 1) 31 → record { round = r; more = 2 } ≡ next_turn d t
turn_full t p h e = let z : t.more ≡ 0 = omega arith in rw (p, z) (turn_with e refl)

pub turn_live : {d : Bool} {r : ℕ} (t : Turn) → d ≡ false → r ≡ min (t.round + 1) 31 → record { round = r; more = 2 } ≡ next_turn d t
turn_live t p e = rw p (turn_with e refl)

-- ---- the turn as the rounds have it

module _ (clock r k : ℕ) (e : Entry) (es : List Entry) where
  -- the entry goes with the round
  pub record Joins : Type 0 where
    pub counted : deads clock k (e ∷ es) ≡ suc (deads clock (more_of (dead clock e) k) es)
    pub round : round_of (dead clock e) r k ≡ r

  -- or it begins one
  pub record Begins : Type 0 where
    pub none : deads clock k (e ∷ es) ≡ 0
    pub round : round_of (dead clock e) r k ≡ min (r + 1) 31
    pub two : more_of (dead clock e) k ≡ 2

pub turn_of : (clock r k : ℕ) (e : Entry) (es : List Entry) → Joins clock r k e es ⊎ Begins clock r k e es
turn_of clock r k e es = go k (dead clock e) refl
  where
    go : (k : ℕ) (b : Bool) → dead clock e ≡ b → Joins clock r k e es ⊎ Begins clock r k e es
    go zero true p = inr (record { none = deads_zero clock (e ∷ es); round = rw p; two = rw p })
    go zero false p = inr (record { none = deads_zero clock (e ∷ es); round = rw p; two = rw p })
    go (suc k) true p = inl (record { counted = rw p (deads_dead clock k e es p); round = rw p })
    go (suc k) false p = inr (record { none = deads_live clock k e es p; round = rw p; two = rw p })
