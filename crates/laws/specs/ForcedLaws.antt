-- The forced mark of the calls' definitions is that of request 3.
use Rattle.std.proofs.Math.Path.{◌≡◌, refl}
use Rattle.std.specs.Prelude.{Bool, not, cond, ◌||◌, ℕ, zero, suc, ◌<◌, eqb, length, get_or, ℤ, ◌+ℤ◌, Ok, Err, Option, Some, None}
use Rattle.std.proofs.Math.Bool.{true, false}
use mathlib.Core.List.{List, [], ◌∷◌}
use Rattle.std.proofs.Common.{arith}
use Rattle.rules.specs.declared.Entry.{Entry}
use Rattle.rules.specs.declared.Answer.{Answer}
use Rattle.rules.specs.declared.Outcome.{Outcome}
use Rattle.rules.specs.declared.Outcome.TheVariants.{Done, Sum, NotFound, NotNumber, SumTooLarge}
use Rattle.rules.specs.Check.{Check}
use Rattle.rules.specs.declared.Found.{Found}
use Rattle.rules.specs.declared.Found.TheVariants.{Live, Dead, Missing}
use Rattle.rules.specs.declared.Operation.{Operation}
use Rattle.rules.specs.declared.Operation.TheVariants.{Set}
use Rattle.rules.specs.declared.Initial.{Initial}
use Rattle.rules.specs.Layout.{none, number_at, Memory, memory_of, entry_in, remove}
use Rattle.rules.specs.Time.{dead}
use Rattle.rules.specs.LookUp.{look_up}
use Rattle.rules.specs.Recency.{line, sweep_count, sweep, gone, any_live}
use Rattle.rules.specs.Place.{Placed}
use Rattle.rules.specs.Answer.{plain, number_of, fields_of}
use Rattle.rules.specs.Checks.{store_checks, incr_checks}
use Rattle.rules.specs.Calls.{Work, Item, call, did, after_sweep, delete_found, same_length, searched, is_placed, if_room, evicted, forced_by, fit_outcome, placed_by, place_anew, store_over, store_item, most_rounds, admits, item_of, overwrite_at, store_admitted, store_found, store_work, store_call, in_range, add_at, incr_live, incr_new, incr_initial, incr_found, incr_work, incr_call}
use Rattle.rules.specs.LeastLoss.{own_out, rest_for, line_for}
use Rattle.rules.specs.Forced.{LiveAmong, ForcedExactly, ForcedOf, Request3}
use Rattle.laws.specs.Booleans.{no_bool, no_true}

-- ---- one of them is live

live_first : {clock : ℕ} {e : Entry} {es : List Entry} → dead clock e ≡ false → LiveAmong clock (e ∷ es)
live_first d = record { index = 0; inside = omega arith; live = d }

live_later : {clock : ℕ} {e : Entry} {es : List Entry} → LiveAmong clock es → LiveAmong clock (e ∷ es)
live_later a = record { index = suc a.index; inside = omega (arith, a.inside); live = a.live }

pub some_live : (clock : ℕ) (es : List Entry) → any_live clock es ≡ true → LiveAmong clock es
unfolding any_live
some_live clock [] t = absurd (no_bool t)
some_live clock (e ∷ es) t = go (dead clock e) refl (some_live clock es) t
  where
    go : (b : Bool) → dead clock e ≡ b → (any_live clock es ≡ true → LiveAmong clock es) → (not b || any_live clock es) ≡ true → LiveAmong clock (e ∷ es)
    go true d later t = live_later (later t)
    go false d later t = live_first d

live_at : (clock : ℕ) (es : List Entry) (i : ℕ) → i < length es → dead clock (get_or es i none) ≡ false → any_live clock es ≡ true
unfolding any_live
live_at clock [] i h d = absurd (omega arith)
live_at clock (e ∷ es) zero h d = rw d
live_at clock (e ∷ es) (suc i) h d = go (dead clock e) (live_at clock es i (omega arith) d)
  where
    go : (b : Bool) → any_live clock es ≡ true → (not b || any_live clock es) ≡ true
    go true t = t
    go false t = refl

-- ---- an answer without rounds, and one of a place

module _ (clock : ℕ) where
  abbrev Marked : List Entry → Answer → Type 0
  Marked es a = ForcedExactly clock (gone clock a.rounds es) a

  quiet : (es : List Entry) (o : Outcome) (removed : ℕ) → Marked es (plain o removed)
  unfolding gone
  quiet es o removed = record { only_then = λ t. absurd (no_bool t); then_too = λ z a. absurd (omega (arith, a.inside)) }

  placed : (item : Item) (told : Outcome) (removed : ℕ) (m : Memory) (f : Option ℕ) (k : ℕ) → number_of told ≡ 0 → Marked (line m) (placed_by clock item told removed m (record { fit = f; ran = k })).answer
  unfolding placed_by forced_by evicted is_placed fit_outcome fields_of
  placed item told removed m (Some s) k z = record { only_then = λ t. (z, some_live clock (gone clock k (line m)) t); then_too = λ q a. live_at clock (gone clock k (line m)) a.index a.inside a.live }
  placed item told removed m None k z = record { only_then = λ t. absurd (no_bool t); then_too = λ q a. let twelve : ◌≡◌ {A = ℕ} 12 0 = q in absurd (omega arith) }

  anew : (most : ℕ) (item : Item) (told : Outcome) (removed : ℕ) (m : Memory) → number_of told ≡ 0 → Marked (line m) (place_anew most clock item told removed m).answer
  unfolding place_anew
  anew most item told removed m z = let p : Placed = if_room (searched most clock item m) in placed item told removed m p.fit p.ran z

  -- ---- what a store does with what it finds

  module _ (most : ℕ) (item : Item) (told : Outcome) (removed : ℕ) (m : Memory) (z : number_of told ≡ 0) where
    over : (i : ℕ) → Marked (line (remove i m)) (store_over most clock item told removed m i).answer
    unfolding store_over
    over i = go (same_length item i m)
      where
        go : (b : Bool) → Marked (line (remove i m)) (cond b (did told removed (overwrite_at item i m)) (place_anew most clock item told removed (remove i m))).answer
        go true = quiet (line (remove i m)) told removed
        go false = anew most item told removed (remove i m) z

    stored : (f : Found) → Marked (line (own_out m f)) (store_item most clock item told removed m f).answer
    unfolding store_item own_out
    stored (Live i) = over i
    stored (Dead i) = over i
    stored Missing = anew most item told removed m z

    stored_or_deleted : (nil : Bool) (f : Found) → Marked (line (own_out m f)) (cond nil (delete_found removed m f) (store_item most clock item told removed m f)).answer
    unfolding delete_found
    stored_or_deleted true (Live i) = quiet (line (own_out m (Live i))) Done removed
    stored_or_deleted true (Dead i) = quiet (line (own_out m (Dead i))) Done removed
    stored_or_deleted true Missing = quiet (line (own_out m Missing)) Done removed
    stored_or_deleted false f = stored f

  store_found_is : (op : Operation) (item : Item) (removed : ℕ) (m : Memory) (f : Found) → Marked (line (own_out m f)) (store_found op clock item removed m f).answer
  unfolding store_found store_admitted fields_of
  store_found_is op item removed m f = go (admits op f)
    where
      go : (c : Check) → Marked (line (own_out m f)) (store_admitted op clock item removed m f c).answer
      go (Err o) = quiet (line (own_out m f)) o removed
      go (Ok _) = stored_or_deleted (most_rounds op) item Done removed m refl (eqb item.kind 0) f

  -- ---- and an incr

  module _ (key : List ℕ) (step : ℤ) (removed : ℕ) (m : Memory) where
    incr_new_is : (f : Found) (lifetime : ℕ) (sum : ℤ) → Marked (line (own_out m f)) (incr_new clock key lifetime removed m f sum).answer
    unfolding incr_new fields_of
    incr_new_is f lifetime sum = go (in_range sum)
      where
        go : (b : Bool) → Marked (line (own_out m f)) (cond b (store_item (most_rounds Set) clock (item_of clock key 3 sum [] lifetime 0) (Sum sum) removed m f) (did SumTooLarge removed m)).answer
        go true = stored (most_rounds Set) (item_of clock key 3 sum [] lifetime 0) (Sum sum) removed m refl f
        go false = quiet (line (own_out m f)) SumTooLarge removed

    incr_initial_is : (f : Found) (initial : Option Initial) → Marked (line (own_out m f)) (incr_initial clock key step removed m f initial).answer
    unfolding incr_initial
    incr_initial_is f (Some begin) = incr_new_is f begin.lifetime (begin.number +ℤ step)
    incr_initial_is f None = quiet (line (own_out m f)) NotFound removed

    incr_live_is : (i : ℕ) (number : Bool) (sum : ℤ) → Marked (line (own_out m (Live i))) (cond number (incr_live removed m i sum) (did NotNumber removed m)).answer
    unfolding incr_live
    incr_live_is i true sum = go (in_range sum)
      where
        go : (b : Bool) → Marked (line (own_out m (Live i))) (cond b (did (Sum sum) removed (add_at i sum m)) (did SumTooLarge removed m)).answer
        go true = quiet (line (own_out m (Live i))) (Sum sum) removed
        go false = quiet (line (own_out m (Live i))) SumTooLarge removed
    incr_live_is i false sum = quiet (line (own_out m (Live i))) NotNumber removed

    incr_found_is : (initial : Option Initial) (f : Found) → Marked (line (own_out m f)) (incr_found clock key step initial removed m f).answer
    unfolding incr_found
    incr_found_is initial (Live i) = incr_live_is i (eqb (entry_in m i).kind 3) (number_at m.pool (entry_in m i) +ℤ step)
    incr_found_is initial (Dead i) = incr_initial_is (Dead i) initial
    incr_found_is initial Missing = incr_initial_is Missing initial

  -- ---- behind its checks and its sweep

  called : (key : List ℕ) (c : Check) (work : ℕ → Memory → Found → Work) (dir pool : List ℕ)
      → ((removed : ℕ) (m : Memory) (f : Found) → Marked (line (own_out m f)) (work removed m f).answer)
      → ForcedOf clock key dir pool (call c (after_sweep clock (λ removed m. work removed m (look_up clock key m))) dir pool)
  unfolding call line_for rest_for after_sweep
  called key (Err o) work dir pool h = quiet (line_for clock key (memory_of dir pool)) o 0
  called key (Ok _) work dir pool h =
      let m : Memory = memory_of dir pool in
      h (sweep_count clock m) (sweep clock m) (look_up clock key (sweep clock m))

pub request_3 : Request3
unfolding store_call store_work item_of incr_call incr_work
request_3 =
    record {
      stores = λ op dir pool clock key kind number text lifetime flags.
          let item : Item = item_of clock key kind number text lifetime flags in
          called clock key (store_checks op dir pool clock key kind lifetime) (store_found op clock item) dir pool (store_found_is clock op item);
      incrs = λ dir pool clock key step initial. called clock key (incr_checks dir pool clock key initial) (incr_found clock key step initial) dir pool (λ removed m f. incr_found_is clock key step removed m initial f);
    }

-- a 12 is never forced, nor is any other refusal
pub refused_unforced : {clock : ℕ} {taken : List Entry} {a : Answer} → ForcedExactly clock taken a → (number_of a.outcome ≡ 0 → ⊥) → a.forced ≡ false
refused_unforced {a = a} f n = no_true a.forced (λ t. n (f.only_then t).0)
