-- The least limit over the marks of a line tells what the rounds of 01 come to.
use Rattle.std.specs.Prelude.{◌≡◌, refl, Bool, List, ◌++◌, reverse, ℕ, suc, ◌-◌, ◌≤◌, ◌<◌, length, take, get_or, Some, None}
use Rattle.std.proofs.Common.{sym, ap, ◌∙◌, arith}
use Rattle.std.proofs.Math.Path.{fun_ext}
use Rattle.rules.specs.declared.Entry.{Entry}
use Rattle.rules.specs.Layout.{cells_of, entries_of, memory_of}
use Rattle.rules.specs.Recency.{line, gone, any_live}
use Rattle.rules.specs.Place.{run}
use Rattle.laws.specs.SoundnessLaws.{Sound}
use Rattle.laws.specs.CallsLaws.{room_ran, no_room}
use Rattle.rules.specs.Calls.{if_room}
use Rattle.laws.specs.Cost.{fit_within, first_within, Look, limit_start, limit_nowhere}
use Rattle.eviction.specs.Choice.{Chosen}
use Rattle.placement.specs.Fitting.{fit_under}
use Rattle.placement.specs.Least.{LeastPlace}
use Rattle.eviction.specs.Leaving.{Leaves}
use Rattle.eviction.specs.Marking.{Marked}
use Rattle.eviction.specs.Scratch.{lent, kept, lent_length, back_front}

-- a fit over the marks is a look behind so many rounds
pub fit_look : {clock P : ℕ} {es : List Entry} {marks : List ℕ} (n k : ℕ) → Marked clock P es marks → k ≤ 30 → fit_under marks k n ≡ Look clock P n es k
fit_look {clock} {P} {es} {marks} n k m l =
    ap (λ (p : ℕ). fit_within (λ (c : ℕ). get_or marks c 0) k n (suc p - n) 0) m.size
    ∙ ap (λ (f : ℕ → ℕ). fit_within f k n (suc P - n) 0) (fun_ext m.marked)
    ∙ first_within clock 30 k es l P n

module _ {clock P n most : ℕ} {es : List Entry} {marks : List ℕ} (m : Marked clock P es marks) (few : most ≤ 30) where
  pub chosen : {s limit went : ℕ} {b : Bool} → LeastPlace marks n most (Some s) limit → Leaves clock limit es went b → Chosen clock P n most es (Some (record { start = s; ran = limit; gone = went; live = b }))
  chosen {s} {limit} l v =
      let here : Look clock P n es limit ≡ Some s = sym (l.here ∙ fit_look n limit m (omega (arith, l.few))) in
      let none : (j : ℕ) → j < limit → Look clock P n es j ≡ None = λ j h. sym (fit_look n j m (omega (arith, l.few))) ∙ l.none_before j h in
      let r : ((run clock P n most es).fit ≡ Some s) × ((run clock P n most es).ran ≡ limit) = limit_start clock P n es most s limit l.few here none in
      let e : limit ≡ (if_room (run clock P n most es)).ran = sym (room_ran (run clock P n most es) r.0 ∙ r.1) in
      record {
        fit = sym r.0;
        ran = e;
        gone = v.went ∙ ap (λ (k : ℕ). length (gone clock k es)) e;
        live = v.live ∙ ap (λ (k : ℕ). any_live clock (gone clock k es)) e;
      }

  pub chosen_none : {limit : ℕ} → LeastPlace marks n most None limit → Chosen clock P n most es None
  unfolding gone any_live
  chosen_none l =
      let none : (j : ℕ) → j ≤ most → Look clock P n es j ≡ None = λ j h. sym (fit_look n j m (omega arith)) ∙ l.none refl j h in
      let f : (run clock P n most es).fit ≡ None = (limit_nowhere clock P n es most none).0 in
      let e : 0 ≡ (if_room (run clock P n most es)).ran = sym (no_room (run clock P n most es) f) in
      record {
        fit = sym f;
        ran = e;
        gone = ap (λ (k : ℕ). length (gone clock k es)) e;
        live = ap (λ (k : ℕ). any_live clock (gone clock k es)) e;
      }

-- the same, of marks made in a scratch array of N cells
module _ (N : ℕ) {clock : ℕ} {dir pool back : List ℕ} (s : Sound dir pool) (room : 1024 ≤ N) (m : Marked clock (length (lent N s room)) (reverse (entries_of dir)) back) where
  marked : Marked clock (cells_of pool) (reverse (entries_of dir)) back
  marked = rw (lent_length N s room) at m

  pub chosen_scratch : {n most : ℕ} → most ≤ 30 → {start limit went : ℕ} {b : Bool} → LeastPlace (take (cells_of pool) (back ++ kept N s room)) n most (Some start) limit → Leaves clock limit (reverse (entries_of dir)) went b → Chosen clock (cells_of pool) n most (line (memory_of dir pool)) (Some (record { start = start; ran = limit; gone = went; live = b }))
  unfolding memory_of
  chosen_scratch few l v = chosen marked few (rw (back_front N s room back m.size) at l) v

  pub scratch_none : {n most limit : ℕ} → most ≤ 30 → LeastPlace (take (cells_of pool) (back ++ kept N s room)) n most None limit → Chosen clock (cells_of pool) n most (line (memory_of dir pool)) None
  unfolding memory_of
  scratch_none few l = chosen_none marked few (rw (back_front N s room back m.size) at l)
