-- What the steps of expire and of flush_expired did is the call's work.
use Rattle.std.specs.Prelude.{◌≡◌, refl, List, ℕ, ◌-◌, length, get_or}
use Rattle.std.proofs.Common.{sym, ap, ◌∙◌, subst, arith}
use Rattle.rules.specs.declared.Answer.{Answer}
use Rattle.rules.specs.declared.Entry.{Entry}
use Rattle.rules.specs.declared.Found.{Found}
use Rattle.rules.specs.declared.Found.TheVariants.{Live, Dead, Missing}
use Rattle.rules.specs.declared.Outcome.TheVariants.{Done, NotFound}
use Rattle.rules.specs.Layout.{encode, entries_of, none, replace_at, Dir, Memory, memory_of}
use Rattle.rules.specs.Time.{with_expiry}
use Rattle.rules.specs.Answer.{plain}
use Rattle.rules.specs.Calls.{Holds, Does, did, expire_at, expire_found, flushed, up_to, flush_expired_work}
use Rattle.laws.specs.Buffers.{holds_itself}
use Rattle.upkeep.specs.LiveFrom.{live_from}
use Rattle.upkeep.specs.Flushing.{GoFrom}
use Rattle.upkeep.specs.Dropping.{Dropped}

-- ---- expire

-- no live entry
pub expire_not : (expiry : ℕ) (dir pool : List ℕ) (f : Found) {g : Found} {a : Answer} → g ≡ f → ((i : ℕ) → g ≡ Live i → ⊥) → Dir dir → a ≡ plain NotFound 0 → Does (expire_found expiry (memory_of dir pool) f) (length dir) a dir pool
unfolding expire_found
expire_not expiry dir pool (Live i) x u d e = absurd (u i x)
expire_not expiry dir pool (Dead i) x u d e = record { answer = e; memory = holds_itself dir pool d }
expire_not expiry dir pool Missing x u d e = record { answer = e; memory = holds_itself dir pool d }

-- the record of the entry at i, with another expiry
pub expire_done : (expiry i : ℕ) (dir pool : List ℕ) {v : ℕ} {dir' : List ℕ} {a : Answer} {e : Entry} → e ≡ get_or (entries_of dir) i none → v ≡ expiry → dir' ≡ encode (length dir) (replace_at i (record { expiry = v; kind = e.kind; flags = e.flags; start = e.start; klen = e.klen; vlen = e.vlen }) (entries_of dir)) → a ≡ plain Done 0 → Does (did Done 0 (expire_at i expiry (memory_of dir pool))) (length dir) a dir' pool
unfolding expire_at with_expiry memory_of
expire_done expiry i dir pool {e = e} y z w p =
    record {
      answer = p;
      memory =
          record {
            words = w ∙ ap (λ (b : Entry). encode (length dir) (replace_at i b (entries_of dir))) (ap (λ (k : ℕ). with_expiry k e) z ∙ ap (with_expiry expiry) y);
            bytes = refl;
          };
    }

-- ---- flush_expired

pub flush_done : (maximum : ℕ) (dir pool : List ℕ) {clock n most first kept : ℕ} {dir' pool' : List ℕ} {a : Answer} → n ≡ length (entries_of dir) → most ≡ up_to maximum n → GoFrom clock most (memory_of dir pool) first pool' → Dropped clock first dir kept dir' → a ≡ plain Done (n - kept) → Does (flush_expired_work clock maximum (memory_of dir pool)) (length dir) a dir' pool'
unfolding flush_expired_work memory_of live_from
flush_done maximum dir pool {clock} {n} {first = first} {kept = kept} {dir'} {pool'} c k g d p =
    let m : Memory = memory_of dir pool in
    let size : ℕ = length (entries_of dir) in
    let after : Memory = flushed clock size (up_to maximum size) m in
    let e : after ≡ live_from clock first m = ap (λ (j : ℕ). flushed clock size j m) (sym (k ∙ ap (up_to maximum) c)) ∙ g.is in
    let q : n - kept ≡ size - length after.entries = omega (arith, c, d.count, ap (λ (x : Memory). length x.entries) e) in
    record {
      answer = p ∙ ap (λ (j : ℕ). plain Done j) q;
      memory = subst (λ (x : Memory). Holds (length dir) x dir' pool') (sym e) (record { words = d.words; bytes = g.bytes });
    }
