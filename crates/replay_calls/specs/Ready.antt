-- What a line leaves is ready for the next one.
use Rattle.std.specs.Prelude.{◌≡◌, refl, Bool, true, false, cond, ◌&&◌, List, ◌++◌, ℕ, ◌+◌, ◌*◌, ◌^◌, ◌≤◌, ◌<◌, eqb, leb, length, take, drop}
use Rattle.std.proofs.Common.{sym, ap, subst, arith, ne_eqb, eq-eqb, leb-true}
use Rattle.rules.specs.declared.Answer.{Answer}
use Rattle.rules.specs.declared.Outcome.{Outcome}
use Rattle.rules.specs.declared.Outcome.TheVariants.{NotSound}
use Rattle.rules.specs.declared.Operation.TheVariants.{Set}
use Rattle.rules.specs.Answer.{fields_of, plain}
use Rattle.rules.specs.Calls.{Result, fresh_call, store_call, get_call, delete_call}
use Rattle.rules.specs.Sequences.{Call, get, store, delete, Buffers, buffers, result_of, step}
use Rattle.rules.specs.Replay.{Replay, LineCall, freshes, sets, gets, deletes, unreadable, LineDone, on_front, called, freshened, line_done, front_dir, front_pool, answered}
use Rattle.laws.specs.Booleans.{and_left, and_right}
use Rattle.replay_calls.specs.Front.{state, Front, Ready, untouched, in_use, pool_length, front_step, fresh_front}
use Rattle.replay_calls.specs.Texts.{Within, get_within, set_within, delete_within, fresh_within}

abbrev pub ReadyState : Replay → Type 0
ReadyState s = Ready s.cells s.dir s.pool

-- what a line's own numbers are held to: a P that a memory may have, and flags of 32 bits
abbrev pub FineCall : LineCall → Type 0
FineCall (freshes P) = (1 ≤ P) × (P ≤ 1024)
FineCall (sets clock key kind number text lifetime flags) = flags < 2 ^ 32
FineCall (gets clock key) = 0 ≤ clock
FineCall (deletes clock key) = 0 ≤ clock
FineCall unreadable = 0 ≤ 0

ready_called : (c : Call) (work : List ℕ → List ℕ → Result) → ((d p : List ℕ) → step c (record { dir = d; pool = p }) ≡ buffers (work d p)) → (P : ℕ) (dir pool : List ℕ) → Ready P dir pool → ReadyState (called work (state P dir pool)).after
unfolding called on_front
ready_called c work same P dir pool (untouched z) = rw (eq-eqb P 0 z) (untouched z)
ready_called c work same P dir pool (in_use f) =
    rw (ne_eqb P 0 (λ z. absurd (omega (arith, f.some))))
    (in_use (subst (λ (b : Buffers). Front P (b.dir ++ drop (2 + 6 * P) dir) (b.pool ++ drop (32 * P) pool)) (same (take (2 + 6 * P) dir) (take (32 * P) pool)) (front_step f c)))

ready_fresh : (P : ℕ) (s : Replay) → 1 ≤ P → P ≤ 1024 → ReadyState s → ReadyState (freshened P s).after
unfolding freshened on_front
ready_fresh P s low high r = go (leb (2 + 6 * P) (length s.dir) && leb (32 * P) (length s.pool)) refl
  where
    go : (b : Bool) → (leb (2 + 6 * P) (length s.dir) && leb (32 * P) (length s.pool)) ≡ b → ReadyState (freshened P s).after
    go true e =
        rw e
        (in_use
        (fresh_front P s low high (leb-true (2 + 6 * P) (length s.dir) (and_left (leb (2 + 6 * P) (length s.dir)) (leb (32 * P) (length s.pool)) e)) (leb-true (32 * P) (length s.pool) (and_right (leb (2 + 6 * P) (length s.dir)) (leb (32 * P) (length s.pool)) e)) refl))
    go false e = rw e r

pub ready_line : (c : LineCall) → FineCall c → (s : Replay) → ReadyState s → ReadyState (line_done c s).after
unfolding line_done step result_of
ready_line (freshes P) (low, high) s r = ready_fresh P s low high r
ready_line (sets clock key kind number text lifetime flags) f s r =
    ready_called (store Set clock key kind number text lifetime flags f) (λ dir pool. store_call Set dir pool clock key kind number text lifetime flags) (λ d p. refl) s.cells s.dir s.pool r
ready_line (gets clock key) f s r = ready_called (get clock key) (λ dir pool. get_call dir pool clock key) (λ d p. refl) s.cells s.dir s.pool r
ready_line (deletes clock key) f s r = ready_called (delete clock key) (λ dir pool. delete_call dir pool clock key) (λ d p. refl) s.cells s.dir s.pool r
ready_line unreadable f s r = r

-- ---- a text that a line's answer tells lies in the pool that it leaves

within_more : {m n : ℕ} (o : Outcome) → m ≤ n → Within m o → Within n o
within_more o h w t = omega (arith, w t)

text_called : (work : List ℕ → List ℕ → Result) → ((n : ℕ) (d p : List ℕ) → Within n (work d p).answer.outcome) → (s : Replay) → Within (length (called work s).after.pool) (called work s).answer.outcome
unfolding called on_front fields_of
text_called work w s = go (eqb s.cells 0)
  where
    after : Bool → LineDone
    after b = cond b (record { answer = plain NotSound 0; after = s }) (record { answer = answered s.cells work s; after = on_front s.cells work s })

    go : (b : Bool) → Within (length (after b).after.pool) (after b).answer.outcome
    go true t = absurd (omega (arith, t))
    go false t = w (length (on_front s.cells work s).pool) (front_dir s.cells s) (front_pool s.cells s) t

text_get : (clock : ℕ) (key : List ℕ) (P : ℕ) (dir pool : List ℕ) → Ready P dir pool → Within (length (called (λ d p. get_call d p clock key) (state P dir pool)).after.pool) (called (λ d p. get_call d p clock key) (state P dir pool)).answer.outcome
unfolding called on_front step result_of fields_of
text_get clock key P dir pool (untouched z) = rw (eq-eqb P 0 z) (λ t. absurd (omega (arith, t)))
text_get clock key P dir pool (in_use f) =
    let o : Outcome = (get_call (take (2 + 6 * P) dir) (take (32 * P) pool) clock key).answer.outcome in
    rw (ne_eqb P 0 (λ z. absurd (omega (arith, f.some))))
    (within_more o (omega (arith, pool_length f, (front_step f (get clock key)).pool_fits)) (get_within (take (2 + 6 * P) dir) (take (32 * P) pool) f.front_sound clock key))

text_fresh : (P : ℕ) (s : Replay) → Within (length (freshened P s).after.pool) (freshened P s).answer.outcome
unfolding freshened on_front fields_of
text_fresh P s = go (leb (2 + 6 * P) (length s.dir) && leb (32 * P) (length s.pool))
  where
    after : Bool → LineDone
    after b = cond b (record { answer = answered P fresh_call s; after = on_front P fresh_call s }) (record { answer = plain NotSound 0; after = s })

    go : (b : Bool) → Within (length (after b).after.pool) (after b).answer.outcome
    go true t = fresh_within (length (on_front P fresh_call s).pool) (front_dir P s) (front_pool P s) t
    go false t = absurd (omega (arith, t))

text_line : (c : LineCall) (s : Replay) → ReadyState s → Within (length (line_done c s).after.pool) (line_done c s).answer.outcome
unfolding line_done fields_of
text_line (freshes P) s r = text_fresh P s
text_line (sets clock key kind number text lifetime flags) s r = text_called (λ d p. store_call Set d p clock key kind number text lifetime flags) (λ n d p. set_within n d p clock key kind number text lifetime flags) s
text_line (gets clock key) s r = text_get clock key s.cells s.dir s.pool r
text_line (deletes clock key) s r = text_called (λ d p. delete_call d p clock key) (λ n d p. delete_within n d p clock key) s
text_line unreadable s r = λ t. absurd (omega (arith, t))

-- ---- a line's call done: its answer, what it leaves, that this is ready, and that a text told lies in it

pub record Runs (c : LineCall) (s : Replay) (a : Answer) (after : Replay) : Type 0 where
  pub done : record { answer = a; after = after } ≡ line_done c s
  pub ready : ReadyState after
  pub text : Within (length after.pool) a.outcome

pub runs : {c : LineCall} {s after : Replay} {a : Answer} → FineCall c → ReadyState s → record { answer = a; after = after } ≡ line_done c s → Runs c s a after
runs {c} {s} {after} {a} f r e =
    record {
      done = e;
      ready = subst ReadyState (sym (ap (λ (d : LineDone). d.after) e)) (ready_line c f s r);
      text = subst (λ (d : LineDone). Within (length d.after.pool) d.answer.outcome) (sym e) (text_line c s r);
    }
