-- The calls that lines make, done: from what the code learns of each.
use Rattle.std.specs.Prelude.{◌≡◌, refl, List, ◌++◌, ℕ, ◌+◌, ◌*◌, ◌^◌, ◌≤◌, ◌<◌, length, take, drop, ℤ, Ok, Err}
use Rattle.std.proofs.Common.{sym, subst, ◌∙◌, arith, to_z, of_z, SFits, to_z-of_z}
use Rattle.std.specs.Int.{w64}
use Rattle.rules.specs.declared.Answer.{Answer}
use Rattle.rules.specs.declared.Operation.TheVariants.{Set}
use Rattle.rules.specs.declared.Outcome.{Outcome}
use Rattle.rules.specs.declared.Outcome.TheVariants.{LineUnreadable}
use Rattle.rules.specs.Layout.{memory_of}
use Rattle.rules.specs.Answer.{plain}
use Rattle.rules.specs.Checks.{◌then◌, check_clock, check_key, check_kind, check_nil, check_lifetime, key_checks, store_checks}
use Rattle.rules.specs.Calls.{Does, store_call, get_call, delete_call, get_work, delete_work, store_work, item_of}
use Rattle.rules.specs.Replay.{Replay, freshes, sets, gets, deletes, unreadable, freshened, line_done}
use Rattle.laws.specs.ChecksLaws.{key_behind, store_behind}
use Rattle.replay_calls.specs.Front.{state, Front, Ready, in_use, in_use_check, refused_early, called_refused, called_passed}
use Rattle.replay_calls.specs.Ready.{Runs, runs}

module _ (P : ℕ) (dir pool : List ℕ) where
  abbrev s : Replay
  s = state P dir pool

  abbrev after : List ℕ → List ℕ → Replay
  after d p = state P (d ++ drop (2 + 6 * P) dir) (p ++ drop (32 * P) pool)

  module _ (clock : ℕ) (key : List ℕ) {o : Outcome} where
    pub get_early : Ready P dir pool → Err o ≡ in_use_check P → Runs (gets clock key) s (plain o 0) s
    unfolding line_done
    get_early r e = runs (omega arith) r (refused_early (λ d p. get_call d p clock key) P dir pool e)

    pub delete_early : Ready P dir pool → Err o ≡ in_use_check P → Runs (deletes clock key) s (plain o 0) s
    unfolding line_done
    delete_early r e = runs (omega arith) r (refused_early (λ d p. delete_call d p clock key) P dir pool e)

    pub set_early : (kind : ℕ) (number : ℤ) (text : List ℕ) (lifetime flags : ℕ) → flags < 2 ^ 32 → Ready P dir pool → Err o ≡ in_use_check P → Runs (sets clock key kind number text lifetime flags) s (plain o 0) s
    unfolding line_done
    set_early kind number text lifetime flags h r e = runs h r (refused_early (λ d p. store_call Set d p clock key kind number text lifetime flags) P dir pool e)

  module _ (f : Front P dir pool) (clock : ℕ) (key : List ℕ) where
    pub get_refused : {o : Outcome} → Err o ≡ (check_clock clock then check_key key) → Runs (gets clock key) s (plain o 0) s
    unfolding line_done get_call
    get_refused e = runs (omega arith) (in_use f) (called_refused f (λ d p. key_checks d p clock key) (get_work clock key) (key_behind _ _ f.front_sound clock key ∙ sym e) refl)

    pub get_done : {u : Unit} {a : Answer} {d p : List ℕ} → Ok u ≡ (check_clock clock then check_key key) → Does (get_work clock key (memory_of (take (2 + 6 * P) dir) (take (32 * P) pool))) (length (take (2 + 6 * P) dir)) a d p → Runs (gets clock key) s a (after d p)
    unfolding line_done get_call
    get_done e h = runs (omega arith) (in_use f) (called_passed f (λ d p. key_checks d p clock key) (get_work clock key) (key_behind _ _ f.front_sound clock key ∙ sym e) h)

    pub delete_refused : {o : Outcome} → Err o ≡ (check_clock clock then check_key key) → Runs (deletes clock key) s (plain o 0) s
    unfolding line_done delete_call
    delete_refused e = runs (omega arith) (in_use f) (called_refused f (λ d p. key_checks d p clock key) (delete_work clock key) (key_behind _ _ f.front_sound clock key ∙ sym e) refl)

    pub delete_done : {u : Unit} {a : Answer} {d p : List ℕ} → Ok u ≡ (check_clock clock then check_key key) → Does (delete_work clock key (memory_of (take (2 + 6 * P) dir) (take (32 * P) pool))) (length (take (2 + 6 * P) dir)) a d p → Runs (deletes clock key) s a (after d p)
    unfolding line_done delete_call
    delete_done e h = runs (omega arith) (in_use f) (called_passed f (λ d p. key_checks d p clock key) (delete_work clock key) (key_behind _ _ f.front_sound clock key ∙ sym e) h)

    module _ (kind : ℕ) (number : ℤ) (text : List ℕ) (lifetime flags : ℕ) (h : flags < 2 ^ 32) where
      pub set_refused : {o : Outcome} → Err o ≡ (check_clock clock then check_key key then check_kind kind then check_nil Set kind then check_lifetime clock lifetime) → Runs (sets clock key kind number text lifetime flags) s (plain o 0) s
      unfolding line_done store_call
      set_refused e =
          runs h (in_use f)
          (called_refused f (λ d p. store_checks Set d p clock key kind lifetime) (store_work Set clock (item_of clock key kind number text lifetime flags)) (store_behind _ _ f.front_sound Set clock key kind lifetime ∙ sym e) refl)

      pub set_done : {u : Unit} {a : Answer} {d p : List ℕ} → Ok u ≡ (check_clock clock then check_key key then check_kind kind then check_nil Set kind then check_lifetime clock lifetime) → Does (store_work Set clock (item_of clock key kind number text lifetime flags) (memory_of (take (2 + 6 * P) dir) (take (32 * P) pool))) (length (take (2 + 6 * P) dir)) a d p → Runs (sets clock key kind number text lifetime flags) s a (after d p)
      unfolding line_done store_call
      set_done e x =
          runs h (in_use f)
          (called_passed f (λ d p. store_checks Set d p clock key kind lifetime) (store_work Set clock (item_of clock key kind number text lifetime flags)) (store_behind _ _ f.front_sound Set clock key kind lifetime ∙ sym e) x)

-- ---- fresh, and a line that is not understood

pub fresh_runs : (P count : ℕ) (dir pool : List ℕ) {a : Answer} {after : Replay} → Ready P dir pool → 1 ≤ count → count ≤ 1024 → record { answer = a; after = after } ≡ freshened count (state P dir pool) → Runs (freshes count) (state P dir pool) a after
unfolding line_done
fresh_runs P count dir pool r low high e = runs (low, high) r e

pub unreadable_runs : (P : ℕ) (dir pool : List ℕ) → Ready P dir pool → Runs unreadable (state P dir pool) (plain LineUnreadable 0) (state P dir pool)
unfolding line_done
unreadable_runs P dir pool r = runs (omega arith) r refl

-- the number of a `set` that the code handed on in 64 bits
pub set_told : {clock kind : ℕ} {key text : List ℕ} {number : ℤ} {lifetime flags : ℕ} {t after : Replay} {a : Answer} → SFits w64 number → Runs (sets clock key kind (to_z w64 (of_z w64 number)) text lifetime flags) t a after → Runs (sets clock key kind number text lifetime flags) t a after
set_told {clock} {kind} {key} {text} {number} {lifetime} {flags} {t} {after} {a} f r =
    subst (λ (z : ℤ). Runs (sets clock key kind z text lifetime flags) t a after) (to_z-of_z {w = w64} f) r
