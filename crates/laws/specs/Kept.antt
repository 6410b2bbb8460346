-- What the parts of the calls keep, every call keeps. Proved once, for any property of a memory.
use Rattle.std.specs.Prelude.{◌≡◌, Bool, cond, ℤ, ◌+ℤ◌, Ok, Err, Option, Some, None}
use Rattle.std.proofs.Math.Path.{refl, ap}
use Rattle.std.proofs.Common.{sym, ◌∙◌, arith, eqb-true}
use Rattle.std.proofs.Math.Bool.{true, false}
use mathlib.Core.List.{List, [], map}
use Prim.Native.Nat.{ℕ, zero, suc, ◌+◌, ◌-◌, ◌≤◌, ◌<◌}
use Rattle.std.proofs.Math.Dec.{eqb}
use Rattle.std.proofs.Math.ListN.{length}
use Rattle.std.proofs.lemmas.Bool.{eqb-false}
use Rattle.rules.specs.declared.Entry.{Entry}
use Rattle.rules.specs.declared.Outcome.{Outcome}
use Rattle.rules.specs.declared.Outcome.TheVariants.{Done, Sum, SumTooLarge, NotNumber}
use Rattle.rules.specs.Check.{Check}
use Rattle.rules.specs.declared.Found.{Found}
use Rattle.rules.specs.declared.Found.TheVariants.{Live, Dead, Missing}
use Rattle.rules.specs.declared.Operation.{Operation}
use Rattle.rules.specs.declared.Operation.TheVariants.{Set}
use Rattle.rules.specs.declared.Initial.{Initial}
use Rattle.rules.specs.Layout.{cells_of, Memory, entry_in, remove, remove_oldest, move_to_front, number_at}
use Rattle.rules.specs.Time.{dead, with_expiry}
use Rattle.rules.specs.LookUp.{look_up, Means}
use Rattle.rules.specs.Recency.{line, left, gone, sweep_count, sweep}
use Rattle.rules.specs.Place.{held, Placed, run}
use Rattle.laws.specs.PlaceLaws.{RanBy, run_ran}
use Rattle.laws.specs.CellLaws.{held_reverse}
use Rattle.laws.specs.LeastLossLaws.{after_rounds}
use Rattle.rules.specs.Calls.{did, Item, item_of, need_for, place_at, overwrite_at, add_at, expire_at, same_length, after_sweep, get_found, get_work, delete_found, delete_work, searched, is_placed, if_room, evicted, place_fit, placed_by, place_anew, store_over, store_item, most_rounds, admits, store_admitted, store_found, store_work, in_range, incr_live, incr_new, incr_initial, incr_found, incr_work, expire_found, flush_all_work, flushed, up_to, flush_expired_work}
use Rattle.laws.specs.Lists.{Each}
use Rattle.laws.specs.Bytes.{FineItem}
use Rattle.laws.specs.Finding.{Other, Finds, finds}

-- Inv of memories of P cells is kept; Open says that a new entry may come under a key
pub record Kept (P : ℕ) (Inv : Memory → Type 0) (Open : List ℕ → Memory → Type 0) : Type 0 where
  pub cells : (m : Memory) → Inv m → cells_of m.pool ≡ P
  pub removes : (i : ℕ) (m : Memory) → Inv m → Inv (remove i m)
  pub fronts : (i : ℕ) (m : Memory) → i < length m.entries → Inv m → Inv (move_to_front i m)
  pub expires : (i expiry : ℕ) (m : Memory) → i < length m.entries → Inv m → Inv (expire_at i expiry m)
  pub expires_all : (expiry : ℕ) (m : Memory) → Inv m → Inv (record { entries = map (with_expiry expiry) m.entries; pool = m.pool })
  pub overwrites : (item : Item) (i : ℕ) (m : Memory) → FineItem item → Means item.key m i → length item.value ≡ (entry_in m i).vlen → Inv m → Inv (overwrite_at item i m)
  pub adds : (i : ℕ) (sum : ℤ) (m : Memory) → i < length m.entries → (entry_in m i).kind ≡ 3 → Inv m → Inv (add_at i sum m)
  pub places : (item : Item) (s : ℕ) (m : Memory) → FineItem item → s + need_for item ≤ cells_of m.pool → ((j : ℕ) → j < need_for item → held m.entries (s + j) ≡ false) → Open item.key m → Inv m → Inv (place_at item s m)
  pub open_missing : (key : List ℕ) (m : Memory) → Each (Other m.pool key) m.entries → Open key m
  pub open_out : (key : List ℕ) (i : ℕ) (m : Memory) → Means key m i → Inv m → Open key (remove i m)
  pub open_removes : (key : List ℕ) (i : ℕ) (m : Memory) → Inv m → Open key m → Open key (remove i m)

-- what a removal keeps, removals keep
pub oldest_by : (Inv : Memory → Type 0) → ((i : ℕ) (m : Memory) → Inv m → Inv (remove i m)) → (n : ℕ) (m : Memory) → Inv m → Inv (remove_oldest n m)
unfolding remove_oldest
oldest_by Inv r zero m h = h
oldest_by Inv r (suc n) m h = oldest_by Inv r n (remove (length m.entries - 1) m) (r (length m.entries - 1) m h)

module _ (P : ℕ) (Inv : Memory → Type 0) (Open : List ℕ → Memory → Type 0) (k : Kept P Inv Open) where
  oldest_kept : (n : ℕ) (m : Memory) → Inv m → Inv (remove_oldest n m)
  oldest_kept = oldest_by Inv k.removes

  oldest_open : (key : List ℕ) (n : ℕ) (m : Memory) → Inv m → Open key m → Open key (remove_oldest n m)
  oldest_open key n m h o = (oldest_by (λ x. Inv x × Open key x) (λ i x p. (k.removes i x p.0, k.open_removes key i x p.0 p.1)) n m (h, o)).1

  sweep_kept : (clock : ℕ) (m : Memory) → Inv m → Inv (sweep clock m)
  unfolding sweep
  sweep_kept clock m h = oldest_kept (sweep_count clock m) m h

  -- ---- get, delete

  get_found_is : (key : List ℕ) (removed : ℕ) (m : Memory) (f : Found) → Finds key m f → Inv m → Inv (get_found removed m f).memory
  unfolding get_found
  get_found_is key removed m (Live i) w h = k.fronts i m w.there h
  get_found_is key removed m (Dead i) w h = h
  get_found_is key removed m Missing w h = h

  pub get_kept : (clock : ℕ) (key : List ℕ) (m : Memory) → Inv m → Inv (get_work clock key m).memory
  unfolding get_work after_sweep
  get_kept clock key m h =
      let n : Memory = sweep clock m in
      get_found_is key (sweep_count clock m) n (look_up clock key n) (finds clock key n) (sweep_kept clock m h)

  delete_found_is : (removed : ℕ) (m : Memory) (f : Found) → Inv m → Inv (delete_found removed m f).memory
  unfolding delete_found
  delete_found_is removed m (Live i) h = k.removes i m h
  delete_found_is removed m (Dead i) h = k.removes i m h
  delete_found_is removed m Missing h = h

  pub delete_kept : (clock : ℕ) (key : List ℕ) (m : Memory) → Inv m → Inv (delete_work clock key m).memory
  unfolding delete_work after_sweep
  delete_kept clock key m h =
      let n : Memory = sweep clock m in
      delete_found_is (sweep_count clock m) n (look_up clock key n) (sweep_kept clock m h)

  -- ---- stores

  module _ (clock : ℕ) (item : Item) (told : Outcome) (removed : ℕ) (fi : FineItem item) where
    placed_by_is : (most : ℕ) (m : Memory) (f : Option ℕ) (r : ℕ) → RanBy clock (cells_of m.pool) (need_for item) most (line m) f r → Open item.key m → Inv m → Inv (placed_by clock item told removed m (if_room (record { fit = f; ran = r }))).memory
    unfolding placed_by if_room is_placed evicted place_fit
    placed_by_is most m None r ran o h = oldest_kept (length (gone clock 0 (line m))) m h
    placed_by_is most m (Some s) r ran o h =
        let n : ℕ = length (gone clock r (line m)) in
        let rest : Memory = remove_oldest n m in
        k.places item s rest fi
        (omega (arith, ran.0.inside, k.cells m h, k.cells rest (oldest_kept n m h)))
        (λ j l. ap (λ (es : List Entry). held es (s + j)) (after_rounds clock r m) ∙ held_reverse (left clock r (line m)) (s + j) (ran.0.frees j l))
        (oldest_open item.key n m h o)
        (oldest_kept n m h)

    place_anew_is : (most : ℕ) (m : Memory) → Open item.key m → Inv m → Inv (place_anew most clock item told removed m).memory
    unfolding place_anew searched
    place_anew_is most m o h =
        let p : Placed = run clock (cells_of m.pool) (need_for item) most (line m) in
        placed_by_is most m p.fit p.ran (run_ran clock (cells_of m.pool) (need_for item) most (line m)) o h

    store_over_is : (most : ℕ) (m : Memory) (i : ℕ) → Means item.key m i → Inv m → Inv (store_over most clock item told removed m i).memory
    unfolding store_over
    store_over_is most m i w h = go (same_length item i m) refl
      where
        go : (b : Bool) → same_length item i m ≡ b → Inv (cond b (did told removed (overwrite_at item i m)) (place_anew most clock item told removed (remove i m))).memory
        go true e = k.overwrites item i m fi w (sym (eqb-true (entry_in m i).vlen (length item.value) e)) h
        go false e = place_anew_is most (remove i m) (k.open_out item.key i m w h) (k.removes i m h)

    pub store_item_is : (most : ℕ) (m : Memory) (f : Found) → Finds item.key m f → Inv m → Inv (store_item most clock item told removed m f).memory
    unfolding store_item
    store_item_is most m (Live i) w h = store_over_is most m i w h
    store_item_is most m (Dead i) w h = store_over_is most m i w h
    store_item_is most m Missing w h = place_anew_is most m (k.open_missing item.key m w) h

  module _ (op : Operation) (clock : ℕ) (item : Item) (fi : (item.kind ≡ 0 → ⊥) → FineItem item) where
    store_admitted_is : (removed : ℕ) (m : Memory) (f : Found) (c : Check) → Finds item.key m f → Inv m → Inv (store_admitted op clock item removed m f c).memory
    unfolding store_admitted
    store_admitted_is removed m f (Err o) w h = h
    store_admitted_is removed m f (Ok _) w h = go (eqb item.kind 0) refl
      where
        go : (b : Bool) → eqb item.kind 0 ≡ b → Inv (cond b (delete_found removed m f) (store_item (most_rounds op) clock item Done removed m f)).memory
        go true e = delete_found_is removed m f h
        go false e = store_item_is clock item Done removed (fi (eqb-false item.kind 0 e)) (most_rounds op) m f w h

    pub store_kept : (m : Memory) → Inv m → Inv (store_work op clock item m).memory
    unfolding store_work after_sweep store_found
    store_kept m h =
        let n : Memory = sweep clock m in
        let f : Found = look_up clock item.key n in
        store_admitted_is (sweep_count clock m) n f (admits op f) (finds clock item.key n) (sweep_kept clock m h)

  -- ---- incr

  incr_live_is : (removed : ℕ) (m : Memory) (i : ℕ) (sum : ℤ) → i < length m.entries → (entry_in m i).kind ≡ 3 → Inv m → Inv (incr_live removed m i sum).memory
  unfolding incr_live
  incr_live_is removed m i sum l t h = go (in_range sum)
    where
      go : (b : Bool) → Inv (cond b (did (Sum sum) removed (add_at i sum m)) (did SumTooLarge removed m)).memory
      go true = k.adds i sum m l t h
      go false = h

  module _ (clock : ℕ) (key : List ℕ) (step : ℤ) (fi : (lifetime : ℕ) (sum : ℤ) → FineItem (item_of clock key 3 sum [] lifetime 0)) where
    incr_new_is : (lifetime removed : ℕ) (m : Memory) (f : Found) (sum : ℤ) → Finds key m f → Inv m → Inv (incr_new clock key lifetime removed m f sum).memory
    unfolding incr_new item_of
    incr_new_is lifetime removed m f sum w h = go (in_range sum)
      where
        go : (b : Bool) → Inv (cond b (store_item (most_rounds Set) clock (item_of clock key 3 sum [] lifetime 0) (Sum sum) removed m f) (did SumTooLarge removed m)).memory
        go true = store_item_is clock (item_of clock key 3 sum [] lifetime 0) (Sum sum) removed (fi lifetime sum) (most_rounds Set) m f w h
        go false = h

    incr_initial_is : (removed : ℕ) (m : Memory) (f : Found) (initial : Option Initial) → Finds key m f → Inv m → Inv (incr_initial clock key step removed m f initial).memory
    unfolding incr_initial
    incr_initial_is removed m f (Some begin) w h = incr_new_is begin.lifetime removed m f (begin.number +ℤ step) w h
    incr_initial_is removed m f None w h = h

    incr_found_is : (initial : Option Initial) (removed : ℕ) (m : Memory) (f : Found) → Finds key m f → Inv m → Inv (incr_found clock key step initial removed m f).memory
    unfolding incr_found
    incr_found_is initial removed m (Dead i) w h = incr_initial_is removed m (Dead i) initial w h
    incr_found_is initial removed m Missing w h = incr_initial_is removed m Missing initial w h
    incr_found_is initial removed m (Live i) w h = go (eqb (entry_in m i).kind 3) refl
      where
        go : (b : Bool) → eqb (entry_in m i).kind 3 ≡ b → Inv (cond b (incr_live removed m i (number_at m.pool (entry_in m i) +ℤ step)) (did NotNumber removed m)).memory
        go true e = incr_live_is removed m i (number_at m.pool (entry_in m i) +ℤ step) w.there (eqb-true (entry_in m i).kind 3 e) h
        go false e = h

    pub incr_kept : (initial : Option Initial) (m : Memory) → Inv m → Inv (incr_work clock key step initial m).memory
    unfolding incr_work after_sweep
    incr_kept initial m h =
        let n : Memory = sweep clock m in
        incr_found_is initial (sweep_count clock m) n (look_up clock key n) (finds clock key n) (sweep_kept clock m h)

  -- ---- expire, flush_all, flush_expired

  pub expire_kept : (key : List ℕ) (expiry : ℕ) (m : Memory) (f : Found) → Finds key m f → Inv m → Inv (expire_found expiry m f).memory
  unfolding expire_found
  expire_kept key expiry m (Live i) w h = k.expires i expiry m w.there h
  expire_kept key expiry m (Dead i) w h = h
  expire_kept key expiry m Missing w h = h

  pub flush_all_kept : (m : Memory) → Inv m → Inv (flush_all_work m).memory
  unfolding flush_all_work
  flush_all_kept m h = k.expires_all 1 m h

  flushed_kept : (clock n most : ℕ) (m : Memory) → Inv m → Inv (flushed clock n most m)
  unfolding flushed
  flushed_kept clock zero most m h = h
  flushed_kept clock (suc n) zero m h = h
  flushed_kept clock (suc n) (suc most) m h = go (dead clock (entry_in m n)) (flushed_kept clock n most (remove n m) (k.removes n m h)) (flushed_kept clock n (suc most) m h)
    where
      go : (b : Bool) → Inv (flushed clock n most (remove n m)) → Inv (flushed clock n (suc most) m) → Inv (cond b (flushed clock n most (remove n m)) (flushed clock n (suc most) m))
      go true x y = x
      go false x y = y

  pub flush_expired_kept : (clock maximum : ℕ) (m : Memory) → Inv m → Inv (flush_expired_work clock maximum m).memory
  unfolding flush_expired_work
  flush_expired_kept clock maximum m h = flushed_kept clock (length m.entries) (up_to maximum (length m.entries)) m h
