-- Calls one after the other on the same buffers: those that may change a memory, what each gives and leaves, and what is in order after a refused one.
use Rattle.std.specs.Prelude.{◌≡◌, List, [], ◌∷◌, ℕ, ◌^◌, ◌<◌, length, ℤ, Option}
use Rattle.rules.specs.declared.Entry.{Entry}
use Rattle.rules.specs.declared.Answer.{Answer}
use Rattle.rules.specs.declared.Operation.{Operation}
use Rattle.rules.specs.declared.Initial.{Initial}
use Rattle.rules.specs.Layout.{key_of, value_bytes, Memory, entry_in}
use Rattle.rules.specs.Calls.{Result, fresh_call, get_call, store_call, delete_call, incr_call, expire_call, flush_all_call, flush_expired_call}

-- ---- calls

-- a call that may change the memory, with its arguments ("Flags are a 32-bit argument"). get_stale, ttl, get_keys, bytes-at, show and audit leave the buffers by their types
pub data Call : Type 0 where
  fresh : Call
  get : (clock : ℕ) (key : List ℕ) → Call
  store : (op : Operation) (clock : ℕ) (key : List ℕ) (kind : ℕ) (number : ℤ) (text : List ℕ) (lifetime flags : ℕ) → flags < 2 ^ 32 → Call
  delete : (clock : ℕ) (key : List ℕ) → Call
  incr : (clock : ℕ) (key : List ℕ) (by : ℤ) (initial : Option Initial) → Call
  expire : (clock : ℕ) (key : List ℕ) (lifetime : ℕ) → Call
  flush_all : Call
  flush_expired : (clock maximum : ℕ) → Call

-- the "two lent buffers"
pub record Buffers : Type 0 where
  pub dir : List ℕ
  pub pool : List ℕ

-- those that a call leaves
abbrev pub buffers : Result → Buffers
buffers r = record { dir = r.dir; pool = r.pool }

-- what a call gives: its own definition
unfoldable pub result_of : Call → Buffers → Result
result_of fresh b = fresh_call b.dir b.pool
result_of (get clock key) b = get_call b.dir b.pool clock key
result_of (store op clock key kind number text lifetime flags f) b = store_call op b.dir b.pool clock key kind number text lifetime flags
result_of (delete clock key) b = delete_call b.dir b.pool clock key
result_of (incr clock key by initial) b = incr_call b.dir b.pool clock key by initial
result_of (expire clock key lifetime) b = expire_call b.dir b.pool clock key lifetime
result_of flush_all b = flush_all_call b.dir b.pool
result_of (flush_expired clock maximum) b = flush_expired_call b.dir b.pool clock maximum

abbrev pub answer_of : Call → Buffers → Answer
answer_of c b = (result_of c b).answer

-- the buffers after one call
unfoldable pub step : Call → Buffers → Buffers
step c b = buffers (result_of c b)

-- and after calls, one after the other
unfoldable pub steps : List Call → Buffers → Buffers
steps [] b = b
steps (c ∷ cs) b = steps cs (step c b)

-- ---- the use order

-- fewer entries, in the same order
pub data Sub : List Entry → List Entry → Type 0 where
  end : Sub [] []
  skip : {e : Entry} {xs ys : List Entry} → Sub xs ys → Sub xs (e ∷ ys)
  keep : {e : Entry} {xs ys : List Entry} → Sub xs ys → Sub (e ∷ xs) (e ∷ ys)

-- "a refused call never moves an entry in the use order": entries may have gone, and each that stays has the record, the key and the value that it had, in the same order
pub record InOrder (before after : Memory) : Type 0 where
  pub order : Sub after.entries before.entries
  pub keys : (i : ℕ) → i < length after.entries → key_of after.pool (entry_in after i) ≡ key_of before.pool (entry_in after i)
  pub values : (i : ℕ) → i < length after.entries → value_bytes after.pool (entry_in after i) ≡ value_bytes before.pool (entry_in after i)
