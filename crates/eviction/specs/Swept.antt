-- What the sweep leaves.
use Rattle.std.specs.Prelude.{◌≡◌, true, List, ℕ, ◌≤◌, length}
use Rattle.std.proofs.Common.{subst, arith}
use Rattle.std.proofs.lemmas.List.{length-reverse}
use Rattle.rules.specs.declared.Answer.{Answer}
use Rattle.rules.specs.Layout.{entries_of, Memory, memory_of, remove_oldest}
use Rattle.rules.specs.Soundness.{sound}
use Rattle.rules.specs.Recency.{line, sweep_count, sweep}
use Rattle.rules.specs.Calls.{Holds, Work, Does, after_sweep}
use Rattle.laws.specs.Buffers.{holds_memory, step_sound, step_length, swept_sound}
use Rattle.laws.specs.CallsLaws.{swept_does}
use Rattle.laws.specs.RecencyLaws.{deads_within}

-- how many entries left, and the memory without them
pub record Swept (clock : ℕ) (dir pool : List ℕ) (removed : ℕ) (dir' pool' : List ℕ) : Type 0 where
  pub count : removed ≡ sweep_count clock (memory_of dir pool)
  pub memory : Holds (length dir) (sweep clock (memory_of dir pool)) dir' pool'

-- no more than there are
pub swept_few : (clock : ℕ) (dir pool : List ℕ) (n : ℕ) → n ≡ sweep_count clock (memory_of dir pool) → n ≤ length (entries_of dir)
unfolding sweep_count memory_of
swept_few clock dir pool n e = omega (arith, e, deads_within clock 2 (line (memory_of dir pool)), length-reverse (entries_of dir))

pub swept_is : (clock : ℕ) (dir pool : List ℕ) (n : ℕ) {dir' pool' : List ℕ} → n ≡ sweep_count clock (memory_of dir pool) → Holds (length dir) (remove_oldest n (memory_of dir pool)) dir' pool' → Swept clock dir pool n dir' pool'
unfolding sweep
swept_is clock dir pool n {dir'} {pool'} e h = record { count = e; memory = subst (λ (k : ℕ). Holds (length dir) (remove_oldest k (memory_of dir pool)) dir' pool') e h }

-- ---- behind the sweep: the buffers are sound, and work on them is the work of the call

module _ (clock : ℕ) (dir pool : List ℕ) (t : sound dir pool ≡ true) {removed : ℕ} {dir' pool' : List ℕ} (s : Swept clock dir pool removed dir' pool') where
  pub still_sound : sound dir' pool' ≡ true
  still_sound = step_sound dir pool t (swept_sound dir pool t clock) s.memory

  pub behind_sweep : (work : ℕ → Memory → Work) {a : Answer} {dir'' pool'' : List ℕ} → Does (work removed (memory_of dir' pool')) (length dir') a dir'' pool'' → Does (after_sweep clock work (memory_of dir pool)) (length dir) a dir'' pool''
  behind_sweep work {a} {dir''} {pool''} d =
      swept_does clock work (memory_of dir pool) s.count
      (rw (← holds_memory s.memory, ← step_length dir pool t (swept_sound dir pool t clock) s.memory) d)
