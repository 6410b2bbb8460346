-- A refused call does nothing but take entries out; so it moves none of those that stay.
use Rattle.std.specs.Prelude.{◌≡◌, Bool, not, cond, List, [], ℕ, eqb, length, get_or, ◌+ℤ◌, Ok, Err, Option, Some, None}
use Rattle.std.proofs.Math.Path.{refl}
use Rattle.std.proofs.Common.{◌∙◌}
use Rattle.std.proofs.Math.Bool.{true, false}
use Rattle.std.proofs.Math.IntN.{ℤ}
use Rattle.rules.specs.declared.Entry.{Entry}
use Rattle.rules.specs.declared.Outcome.{Outcome}
use Rattle.rules.specs.declared.Outcome.TheVariants.{Done, Number, Boolean, Text, Sum, NotNumber, SumTooLarge}
use Rattle.rules.specs.Check.{Check}
use Rattle.rules.specs.declared.Found.{Found}
use Rattle.rules.specs.declared.Found.TheVariants.{Live, Dead, Missing}
use Rattle.rules.specs.declared.Operation.{Operation}
use Rattle.rules.specs.declared.Operation.TheVariants.{Set}
use Rattle.rules.specs.declared.Initial.{Initial}
use Rattle.rules.specs.Layout.{cells_of, value_offset, number_at, Memory, memory_of, entry_in, remove}
use Rattle.rules.specs.Time.{expiry_of}
use Rattle.rules.specs.LookUp.{look_up}
use Rattle.rules.specs.Recency.{line, gone, sweep_count, sweep}
use Rattle.rules.specs.Place.{Placed}
use Rattle.rules.specs.Soundness.{sound}
use Rattle.rules.specs.Answer.{fields_of, number_of}
use Rattle.rules.specs.Checks.{check_lengths, check_sound, clock_checks, key_checks, expire_checks, store_checks, incr_checks}
use Rattle.rules.specs.Calls.{Work, did, call, fresh_work, fresh_call, after_sweep, shown, get_found, get_work, get_call, delete_found, delete_work, delete_call, Item, item_of, overwrite_at, add_at, searched, is_placed, if_room, evicted, fit_outcome, place_fit, placed_by, place_anew, same_length, store_over, store_item, most_rounds, admits, store_admitted, store_found, store_work, store_call, in_range, incr_live, incr_new, incr_initial, incr_found, incr_work, incr_call, expire_found, expire_call, flush_all_work, flush_all_call, flush_expired_work, flush_expired_call}
use Rattle.rules.specs.Sequences.{Call, fresh, get, store, delete, incr, expire, flush_all, flush_expired, Buffers, result_of, answer_of, step, Sub, InOrder}
use Rattle.laws.specs.LayoutLaws.{entries_encode}
use Rattle.laws.specs.Lists.{Each, sub_all, sub_sub, each_sub, each_at, each_with, each_all}
use Rattle.laws.specs.SoundMemory.{SoundMemory}
use Rattle.laws.specs.Bytes.{Same}
use Rattle.laws.specs.Blocks.{remove_sub, remove_same, sound_remove}
use Rattle.laws.specs.Kept.{oldest_by}
use Rattle.laws.specs.Carry.{sound_carries}
use Rattle.laws.specs.Refusing.{NotFresh, not_sound}

-- ---- what answers 0

shown_done : (pool : List ℕ) (e : Entry) → number_of (shown pool e) ≡ 0
unfolding shown fields_of
shown_done pool e = go (eqb e.kind 1) (eqb e.kind 3)
  where
    go : (x y : Bool) → number_of (cond x (Boolean e.flags (not (eqb (get_or pool (value_offset e) 0) 0)) (value_offset e)) (cond y (Number e.flags (number_at pool e) (value_offset e)) (Text e.flags (value_offset e) e.vlen))) ≡ 0
    go true y = refl
    go false true = refl
    go false false = refl

delete_done : (removed : ℕ) (m : Memory) (f : Found) → number_of (delete_found removed m f).answer.outcome ≡ 0
unfolding delete_found fields_of
delete_done removed m (Live i) = refl
delete_done removed m (Dead i) = refl
delete_done removed m Missing = refl

-- ---- what a removal keeps, every refused call keeps

module _ (Inv : Memory → Type 0) (removes : (i : ℕ) (m : Memory) → Inv m → Inv (remove i m)) where
  -- work that keeps it if it is refused
  abbrev Keeps : Work → Type 0
  Keeps w = (number_of w.answer.outcome ≡ 0 → ⊥) → Inv w.memory

  get_found_is : (removed : ℕ) (m : Memory) (f : Found) → Inv m → Keeps (get_found removed m f)
  unfolding get_found
  get_found_is removed m (Live i) h n = absurd (n (shown_done m.pool (entry_in m i)))
  get_found_is removed m (Dead i) h n = h
  get_found_is removed m Missing h n = h

  -- ---- a place, by what is told if there is one

  module _ (most clock : ℕ) (item : Item) (told : Outcome) (z : number_of told ≡ 0) (removed : ℕ) where
    placed : (m : Memory) (f : Option ℕ) (r : ℕ) → Inv m → Keeps (placed_by clock item told removed m (if_room (record { fit = f; ran = r })))
    unfolding placed_by if_room is_placed evicted fit_outcome place_fit
    placed m (Some s) r h n = absurd (n z)
    placed m None r h n = oldest_by Inv removes (length (gone clock 0 (line m))) m h

    anew : (m : Memory) → Inv m → Keeps (place_anew most clock item told removed m)
    unfolding place_anew
    anew m h = let p : Placed = searched most clock item m in placed m p.fit p.ran h

    over : (m : Memory) (i : ℕ) → Inv m → Keeps (store_over most clock item told removed m i)
    unfolding store_over
    over m i h = go (same_length item i m)
      where
        go : (b : Bool) → Keeps (cond b (did told removed (overwrite_at item i m)) (place_anew most clock item told removed (remove i m)))
        go true n = absurd (n z)
        go false n = anew (remove i m) (removes i m h) n

    stored : (m : Memory) (f : Found) → Inv m → Keeps (store_item most clock item told removed m f)
    unfolding store_item
    stored m (Live i) h = over m i h
    stored m (Dead i) h = over m i h
    stored m Missing h = anew m h

  -- ---- stores

  store_found_is : (op : Operation) (clock : ℕ) (item : Item) (removed : ℕ) (m : Memory) (f : Found) → Inv m → Keeps (store_found op clock item removed m f)
  unfolding store_found store_admitted fields_of
  store_found_is op clock item removed m f h = go (admits op f)
    where
      nil_or : (b : Bool) → Keeps (cond b (delete_found removed m f) (store_item (most_rounds op) clock item Done removed m f))
      nil_or true n = absurd (n (delete_done removed m f))
      nil_or false n = stored (most_rounds op) clock item Done refl removed m f h n

      go : (c : Check) → Keeps (store_admitted op clock item removed m f c)
      go (Err o) n = h
      go (Ok _) n = nil_or (eqb item.kind 0) n

  -- ---- incr

  module _ (clock : ℕ) (key : List ℕ) (by : ℤ) (removed : ℕ) (m : Memory) (h : Inv m) where
    incr_initial_is : (f : Found) (initial : Option Initial) → Keeps (incr_initial clock key by removed m f initial)
    unfolding incr_initial incr_new fields_of
    incr_initial_is f None n = h
    incr_initial_is f (Some begin) n = go (in_range (begin.number +ℤ by)) n
      where
        sum : ℤ
        sum = begin.number +ℤ by

        lifetime : ℕ
        lifetime = begin.lifetime

        go : (b : Bool) → Keeps (cond b (store_item (most_rounds Set) clock (item_of clock key 3 sum [] lifetime 0) (Sum sum) removed m f) (did SumTooLarge removed m))
        go true n = stored (most_rounds Set) clock (item_of clock key 3 sum [] lifetime 0) (Sum sum) refl removed m f h n
        go false n = h

    incr_live_is : (i : ℕ) (number : Bool) (sum : ℤ) → Keeps (cond number (incr_live removed m i sum) (did NotNumber removed m))
    unfolding incr_live fields_of
    incr_live_is i false sum n = h
    incr_live_is i true sum n = go (in_range sum) n
      where
        go : (b : Bool) → Keeps (cond b (did (Sum sum) removed (add_at i sum m)) (did SumTooLarge removed m))
        go true n = absurd (n refl)
        go false n = h

    incr_found_is : (initial : Option Initial) (f : Found) → Keeps (incr_found clock key by initial removed m f)
    unfolding incr_found
    incr_found_is initial (Live i) = incr_live_is i (eqb (entry_in m i).kind 3) (number_at m.pool (entry_in m i) +ℤ by)
    incr_found_is initial (Dead i) = incr_initial_is (Dead i) initial
    incr_found_is initial Missing = incr_initial_is Missing initial

  -- ---- the others

  expire_found_is : (expiry : ℕ) (m : Memory) (f : Found) → Inv m → Keeps (expire_found expiry m f)
  unfolding expire_found fields_of
  expire_found_is expiry m (Live i) h n = absurd (n refl)
  expire_found_is expiry m (Dead i) h n = h
  expire_found_is expiry m Missing h n = h

  -- ---- behind the sweep, and behind the checks

  swept : (clock : ℕ) (work : ℕ → Memory → Work) → ((removed : ℕ) (m : Memory) → Inv m → Keeps (work removed m)) → (m : Memory) → Inv m → Keeps (after_sweep clock work m)
  unfolding after_sweep sweep
  swept clock work k m h = k (sweep_count clock m) (sweep clock m) (oldest_by Inv removes (sweep_count clock m) m h)

  called : (c : Check) (work : Memory → Work) (dir pool : List ℕ) → ((m : Memory) → Inv m → Keeps (work m)) → Inv (memory_of dir pool) → (number_of (call c work dir pool).answer.outcome ≡ 0 → ⊥) → Inv (memory_of (call c work dir pool).dir (call c work dir pool).pool)
  unfolding call memory_of
  called (Err o) work dir pool k h n = h
  called (Ok _) work dir pool k h n =
      rw (entries_encode (length dir) (work (memory_of dir pool)).memory.entries) (k (memory_of dir pool) h n)

  pub refused_keeps : (c : Call) (b : Buffers) → (number_of (answer_of c b).outcome ≡ 0 → ⊥) → Inv (memory_of b.dir b.pool) → Inv (memory_of (step c b).dir (step c b).pool)
  unfolding step result_of fresh_call fresh_work get_call get_work store_call store_work delete_call delete_work incr_call incr_work expire_call flush_all_call flush_all_work flush_expired_call flush_expired_work fields_of
  refused_keeps fresh b n h = called (check_lengths b.dir b.pool) fresh_work b.dir b.pool (λ m i r. absurd (r refl)) h n
  refused_keeps (get clock key) b n h =
      called (key_checks b.dir b.pool clock key) (get_work clock key) b.dir b.pool (swept clock (λ removed m. get_found removed m (look_up clock key m)) (λ removed m i. get_found_is removed m (look_up clock key m) i)) h n
  refused_keeps (store op clock key kind number text lifetime flags f) b n h =
      let item : Item = item_of clock key kind number text lifetime flags in
      called (store_checks op b.dir b.pool clock key kind lifetime) (store_work op clock item) b.dir b.pool
      (swept clock (λ removed m. store_found op clock item removed m (look_up clock item.key m)) (λ removed m i. store_found_is op clock item removed m (look_up clock item.key m) i)) h n
  refused_keeps (delete clock key) b n h =
      called (key_checks b.dir b.pool clock key) (delete_work clock key) b.dir b.pool (swept clock (λ removed m. delete_found removed m (look_up clock key m)) (λ removed m i r. absurd (r (delete_done removed m (look_up clock key m))))) h n
  refused_keeps (incr clock key by initial) b n h =
      called (incr_checks b.dir b.pool clock key initial) (incr_work clock key by initial) b.dir b.pool
      (swept clock (λ removed m. incr_found clock key by initial removed m (look_up clock key m)) (λ removed m i. incr_found_is clock key by removed m i initial (look_up clock key m))) h n
  refused_keeps (expire clock key lifetime) b n h =
      called (expire_checks b.dir b.pool clock key lifetime) (λ m. expire_found (expiry_of clock lifetime) m (look_up clock key m)) b.dir b.pool (λ m i. expire_found_is (expiry_of clock lifetime) m (look_up clock key m) i) h n
  refused_keeps flush_all b n h = called (check_sound b.dir b.pool) flush_all_work b.dir b.pool (λ m i r. absurd (r refl)) h n
  refused_keeps (flush_expired clock maximum) b n h = called (clock_checks b.dir b.pool clock) (flush_expired_work clock maximum) b.dir b.pool (λ m i r. absurd (r refl)) h n

-- ---- the statement

-- a sound memory, of some entries of the one before
record Fewer (P : ℕ) (before after : Memory) : Type 0 where
  sound : SoundMemory P after
  order : Sub after.entries before.entries
  bytes : Each (Same before.pool after.pool) after.entries

fewer_removes : (P : ℕ) (before : Memory) (i : ℕ) (m : Memory) → Fewer P before m → Fewer P before (remove i m)
fewer_removes P before i m h =
    record {
      sound = sound_remove i m h.sound;
      order = sub_sub (remove_sub i m) h.order;
      bytes = each_with (λ e new old. record { key = new.key ∙ old.key; value = new.value ∙ old.value }) (remove_same i m h.sound) (each_sub (remove_sub i m) h.bytes);
    }

fewer_in_order : {P : ℕ} {before after : Memory} → Fewer P before after → InOrder before after
fewer_in_order h = record { order = h.order; keys = λ i l. (each_at i l h.bytes).key; values = λ i l. (each_at i l h.bytes).value }

-- nothing has changed
same_order : (m : Memory) → InOrder m m
same_order m = record { order = sub_all m.entries; keys = λ i l. refl; values = λ i l. refl }

fresh_order : (dir pool : List ℕ) → (number_of (fresh_call dir pool).answer.outcome ≡ 0 → ⊥) → InOrder (memory_of dir pool) (memory_of (fresh_call dir pool).dir (fresh_call dir pool).pool)
unfolding fresh_call fresh_work call fields_of
fresh_order dir pool n = go (check_lengths dir pool) n
  where
    go : (c : Check) → (number_of (call c fresh_work dir pool).answer.outcome ≡ 0 → ⊥) → InOrder (memory_of dir pool) (memory_of (call c fresh_work dir pool).dir (call c fresh_work dir pool).pool)
    go (Err o) n = same_order (memory_of dir pool)
    go (Ok _) n = absurd (n refl)

-- a memory that is not sound
left_alone : (c : Call) (b : Buffers) → NotFresh c → sound b.dir b.pool ≡ false → InOrder (memory_of b.dir b.pool) (memory_of (step c b).dir (step c b).pool)
left_alone c b f t = rw (not_sound c b f t) (same_order (memory_of b.dir b.pool))

unsound_order : (c : Call) (b : Buffers) → (number_of (answer_of c b).outcome ≡ 0 → ⊥) → sound b.dir b.pool ≡ false → InOrder (memory_of b.dir b.pool) (memory_of (step c b).dir (step c b).pool)
unfolding step result_of
unsound_order fresh b n t = fresh_order b.dir b.pool n
unsound_order (get clock key) b n t = left_alone (get clock key) b tt t
unsound_order (store op clock key kind number text lifetime flags f) b n t = left_alone (store op clock key kind number text lifetime flags f) b tt t
unsound_order (delete clock key) b n t = left_alone (delete clock key) b tt t
unsound_order (incr clock key by initial) b n t = left_alone (incr clock key by initial) b tt t
unsound_order (expire clock key lifetime) b n t = left_alone (expire clock key lifetime) b tt t
unsound_order flush_all b n t = left_alone flush_all b tt t
unsound_order (flush_expired clock maximum) b n t = left_alone (flush_expired clock maximum) b tt t

-- any call, whatever the buffers hold: if it is refused, it moves no entry
pub refused_in_order : (c : Call) (b : Buffers) → (number_of (answer_of c b).outcome ≡ 0 → ⊥) → InOrder (memory_of b.dir b.pool) (memory_of (step c b).dir (step c b).pool)
refused_in_order c b n = go (sound b.dir b.pool) refl
  where
    m : Memory
    m = memory_of b.dir b.pool

    P : ℕ
    P = cells_of b.pool

    go : (x : Bool) → sound b.dir b.pool ≡ x → InOrder m (memory_of (step c b).dir (step c b).pool)
    go false t = unsound_order c b n t
    go true t =
        fewer_in_order
        (refused_keeps (Fewer P m) (fewer_removes P m) c b n
        (record { sound = (sound_carries b.dir b.pool t).inv; order = sub_all m.entries; bytes = each_all m.entries (λ e. record { key = refl; value = refl }) }))
