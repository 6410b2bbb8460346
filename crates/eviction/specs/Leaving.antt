-- The entries that leave by rounds, counted one by one from the longest unused on.
use Rattle.std.specs.Prelude.{◌≡◌, refl, Bool, false, not, ◌||◌, List, [], ◌∷◌, reverse, length, take, drop, get_or}
use Rattle.std.proofs.Common.{sym, ap, ◌∙◌, length-append, length-take, take_at}
use Rattle.std.proofs.Math.Bool.{or_assoc, or-false}
use Rattle.std.proofs.Math.Logic.{⊎_elim}
use Prim.Native.Nat.{ℕ, suc, ◌+◌, ◌-◌, ◌≤◌, ◌<◌}
use native.Mathlib.Omega.{arith}
use Rattle.rules.specs.declared.Entry.{Entry}
use Rattle.rules.specs.Layout.{none}
use Rattle.rules.specs.Time.{dead}
use Rattle.rules.specs.Recency.{deads, after, left, gone, any_live}
use Rattle.laws.specs.RecencyLaws.{deads_zero, deads_within, gone_left}
use Rattle.eviction.specs.declared.Turn.{Turn}
use Rattle.eviction.specs.Turns.{round_of, next_turn, Joins, Begins, turn_of}
use Rattle.eviction.specs.Lines.{line_to, line_all, line_next, deads_nil, gone_nil}

-- how many entries the first `limit` rounds of a line take, and whether one of those is live
pub record Leaves (clock limit : ℕ) (es : List Entry) (n : ℕ) (b : Bool) : Type 0 where
  pub went : n ≡ length (gone clock limit es)
  pub live : b ≡ any_live clock (gone clock limit es)

-- ---- what is left to count, by the turn of the entry before

module _ (clock limit : ℕ) where
  abbrev went_from : Turn → List Entry → ℕ
  went_from t es = deads clock t.more es + length (gone clock (limit - t.round) (drop (deads clock t.more es) es))

  -- those that are left to count stand first
  abbrev any_live_from : Turn → List Entry → Bool
  any_live_from t es = any_live clock (take (went_from t es) es)

  begins_went : (r : ℕ) (e : Entry) (es : List Entry) → r + 1 ≤ limit → length (gone clock (limit - r) (e ∷ es)) ≡ suc (went_from (record { round = r + 1; more = 2 }) es)
  unfolding gone after
  begins_went r e es l =
      let w : limit - r ≡ suc (limit - (r + 1)) = omega arith in
      rw w (simp (length-append, length-take) (omega (arith, deads_within clock 2 es)))

  -- from an entry to the next, one more has gone
  step_went : (t : Turn) (e : Entry) (es : List Entry) → limit ≤ 30 → (next_turn (dead clock e) t).round ≤ limit → went_from t (e ∷ es) ≡ suc (went_from (next_turn (dead clock e) t) es)
  step_went t e es f l = ⊎_elim joins begins (turn_of clock t.round t.more e es)
    where
      joins : Joins clock t.round t.more e es → went_from t (e ∷ es) ≡ suc (went_from (next_turn (dead clock e) t) es)
      joins j = rw (j.counted, j.round) (omega arith)

      begins : Begins clock t.round t.more e es → went_from t (e ∷ es) ≡ suc (went_from (next_turn (dead clock e) t) es)
      begins b =
          let r : round_of (dead clock e) t.round t.more ≡ t.round + 1 = b.round ∙ omega (arith, b.round) in
          rw (b.none, r, b.two) (omega (arith, begins_went t.round e es (omega arith)))

  -- the next entry would begin a round too many
  stop_went : (t : Turn) (e : Entry) (es : List Entry) → t.round ≤ limit → limit < (next_turn (dead clock e) t).round → went_from t (e ∷ es) ≡ 0
  unfolding gone
  stop_went t e es b l = ⊎_elim (λ j. absurd (omega (arith, j.round))) begins (turn_of clock t.round t.more e es)
    where
      begins : Begins clock t.round t.more e es → went_from t (e ∷ es) ≡ 0
      begins b = let w : limit - t.round ≡ 0 = omega (arith, b.round) in rw (b.none, w)

  end_went : (t : Turn) → went_from t [] ≡ 0
  end_went t = rw (deads_nil clock t.more, gone_nil clock (limit - t.round))

  step_live : (t u : Turn) (e : Entry) (es : List Entry) → went_from t (e ∷ es) ≡ suc (went_from u es) → any_live_from t (e ∷ es) ≡ (not (dead clock e) || any_live_from u es)
  unfolding any_live
  step_live t u e es s = rw s

  none_live : (t : Turn) (es : List Entry) → went_from t es ≡ 0 → any_live_from t es ≡ false
  unfolding any_live
  none_live t es s = rw s

  gone_first : (es : List Entry) → gone clock limit es ≡ take (length (gone clock limit es)) es
  gone_first es = sym (take_at (gone clock limit es) (left clock limit es) (length (gone clock limit es)) refl) ∙ ap (take (length (gone clock limit es))) (gone_left clock limit es)

-- ---- the loop over a directory

-- `left` of the entries are still in the line
pub record Leaving (clock limit : ℕ) (es : List Entry) (left : ℕ) (t : Turn) (b : Bool) : Type 0 where
  pub count : left ≤ length es
  pub begun : t.round ≤ limit
  pub went : length (gone clock limit (reverse es)) ≡ length es - left + went_from clock limit t (line_to es left)
  pub live : any_live clock (gone clock limit (reverse es)) ≡ (b || any_live_from clock limit t (line_to es left))

module _ {clock limit : ℕ} {es : List Entry} where
  pub leaving_none : {n : ℕ} → n ≡ length es → Leaving clock limit es n (record { round = 0; more = 0 }) false
  leaving_none {n} e =
      let w : limit - 0 ≡ limit = omega arith in
      let z : 0 + length (gone clock limit (reverse es)) ≡ length (gone clock limit (reverse es)) = omega arith in
      record {
        count = omega arith;
        begun = omega arith;
        went = rw (line_all es, e, deads_zero clock (line_to es (length es)), w) (omega arith);
        live = rw (e, sym (line_all es), deads_zero clock (reverse es), w, z) (ap (any_live clock) (gone_first clock limit (reverse es)));
      }

  module _ {left : ℕ} {t : Turn} {b : Bool} (v : Leaving clock limit es left t b) where
    -- the last entry of those left
    abbrev next : Entry
    next = get_or es (left - 1) none

    next_line : 0 < left → line_to es left ≡ next ∷ line_to es (left - 1)
    next_line h = line_next es left h v.count

    next_turn_is : {d : Bool} {e : Entry} {u : Turn} → e ≡ next → d ≡ dead clock e → u ≡ next_turn d t → u ≡ next_turn (dead clock next) t
    next_turn_is x y z = z ∙ ap (λ (b : Bool). next_turn b t) (y ∙ ap (dead clock) x)

    -- it goes with its turn
    pub leaving_more : {d : Bool} {e : Entry} {u : Turn} → 0 < left → limit ≤ 30 → e ≡ next → d ≡ dead clock e → u ≡ next_turn d t → u.round ≤ limit → Leaving clock limit es (left - 1) u (b || not d)
    leaving_more {d} {u = u} h f x y z l =
        let w : u ≡ next_turn (dead clock next) t = next_turn_is x y z in
        let s : went_from clock limit t (next ∷ line_to es (left - 1)) ≡ suc (went_from clock limit u (line_to es (left - 1))) = rw w (step_went clock limit t next (line_to es (left - 1)) f (rw w at l)) in
        record {
          count = omega (arith, v.count);
          begun = l;
          went = v.went ∙ omega (arith, v.count, ap (went_from clock limit t) (next_line h), s);
          live = v.live ∙ ap (λ (q : Bool). b || q) (ap (any_live_from clock limit t) (next_line h) ∙ step_live clock limit t u next (line_to es (left - 1)) s ∙ ap (λ (q : Bool). not q || any_live_from clock limit u (line_to es (left - 1))) (sym (y ∙ ap (dead clock) x))) ∙ sym (or_assoc b (not d) (any_live_from clock limit u (line_to es (left - 1))));
        }

    leaves_all : {n : ℕ} {rest : List Entry} → n ≡ length es → line_to es left ≡ rest → went_from clock limit t rest ≡ 0 → Leaves clock limit (reverse es) (n - left) b
    leaves_all {rest = rest} e x z =
        record {
          went = sym (v.went ∙ omega (arith, ap (went_from clock limit t) x, z));
          live = sym (v.live ∙ ap (λ (q : Bool). b || q) (ap (any_live_from clock limit t) x ∙ none_live clock limit t rest z) ∙ or-false b);
        }

    -- or it would begin a round too many
    pub leaves_stop : {n : ℕ} {d : Bool} {e : Entry} {u : Turn} → n ≡ length es → 0 < left → e ≡ next → d ≡ dead clock e → u ≡ next_turn d t → limit < u.round → Leaves clock limit (reverse es) (n - left) b
    leaves_stop {u = u} e h x y z l =
        let w : u ≡ next_turn (dead clock next) t = next_turn_is x y z in
        leaves_all e (next_line h) (stop_went clock limit t next (line_to es (left - 1)) v.begun (rw w at l))

    -- or none is left
    pub leaves_end : {n : ℕ} → n ≡ length es → left ≤ 0 → Leaves clock limit (reverse es) (n - left) b
    leaves_end e z = let w : left ≡ 0 = omega arith in leaves_all e (ap (line_to es) w) (end_went clock limit t)
