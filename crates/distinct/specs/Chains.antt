-- Entries chained by the bucket of their key: a link leads to the next entry whose key may be the same, and at the end of a chain past the last entry.
use Rattle.std.specs.Prelude.{◌≡◌, ℕ, ◌+◌, ◌-◌, ◌*◌, ◌%◌, ◌<◌, ◌≤◌, Bool, true, false, List, length, drop, replicate, ◌≢◌, slice_index, slice_index_or, slice_set, refl}
use Rattle.std.proofs.Common.{sym, ap, ◌∙◌, arith, length-set, get_or-set_same, get_or-set_other, length-take}
use Rattle.std.proofs.Math.Decide.{ℕ_discrete}
use Rattle.std.proofs.lemmas.List.{length-replicate, get_or-replicate}
use Rattle.rules.specs.declared.Entry.{Entry}
use Rattle.rules.specs.Layout.{entries_of, none, part, key_of}
use Rattle.rules.specs.LookUp.{same, key_is}
use Rattle.rules.specs.Soundness.{any, sound}
use Rattle.laws.specs.Buffers.{entry_fine}
use Rattle.laws.specs.Tests.{any_here, any_more, any_end}
use Rattle.laws.specs.Booleans.{no_true}
use Rattle.laws.specs.Finding.{same_is}
use Rattle.distinct.specs.Hash.{bucket_of}

-- the key of the entry at i
abbrev pub key_at : List ℕ → List ℕ → ℕ → List ℕ
key_at dir pool i = key_of pool (slice_index_or (entries_of dir) i none)

-- the same as a part of the pool, from the record that was read
abbrev key_part : List ℕ → Entry → List ℕ
key_part pool e = part pool (32 * e.start) (32 * e.start + e.klen - 32 * e.start)

pub key_part_is : (dir pool : List ℕ) (i : ℕ) (e : Entry) → e ≡ slice_index_or (entries_of dir) i none → key_part pool e ≡ key_at dir pool i
unfolding key_of
key_part_is dir pool i e x =
    let l : 32 * e.start + e.klen - 32 * e.start ≡ e.klen = omega arith in
    ap (part pool (32 * e.start)) l ∙ ap (λ (f : Entry). part pool (32 * f.start) f.klen) x

pub key_short : (dir pool : List ℕ) (i : ℕ) → sound dir pool ≡ true → i < length (entries_of dir) → length (key_at dir pool i) ≤ 65535
unfolding key_of
key_short dir pool i t h = let e = slice_index_or (entries_of dir) i none in omega (arith, length-take e.klen (drop (32 * e.start) pool), (entry_fine dir pool t i h _ refl).short_key)

-- its bucket
abbrev pub bucket_at : List ℕ → List ℕ → ℕ → ℕ
bucket_at dir pool i = bucket_of (key_at dir pool i)

-- an entry from j on is under the key
abbrev pub under : List ℕ → List ℕ → List ℕ → ℕ → Bool
under dir pool key j = any (key_is pool key) (drop j (entries_of dir))

-- ---- links

-- the entry that a stored link leads to; 0 leads past all entries
abbrev pub link_of : ℕ → ℕ
link_of x = (x + 65535) % 65536

-- from `from` on, v is the first entry in the bucket; where there is none, v is past the last entry
pub record Link (dir pool : List ℕ) (bucket from v : ℕ) : Type 0 where
  pub ahead : from ≤ v
  pub skips : (key : List ℕ) → bucket_of key ≡ bucket → under dir pool key from ≡ under dir pool key v
  pub inside : v < length (entries_of dir) → bucket_at dir pool v ≡ bucket

-- an entry of another bucket is under another key
other : (dir pool : List ℕ) (i : ℕ) (key : List ℕ) → (bucket_at dir pool i ≢ bucket_of key) → key_is pool key (slice_index_or (entries_of dir) i none) ≡ false
unfolding key_is
other dir pool i key n = no_true _ (λ t. n (ap bucket_of (same_is _ _ t)))

module _ {dir pool : List ℕ} where
  -- past the last entry there is nothing
  pub link_end : {bucket from v : ℕ} → length (entries_of dir) ≤ from → from ≤ v → Link dir pool bucket from v
  link_end {bucket} {from} {v} h l =
      record {
        ahead = l;
        skips = λ key e. any_end (key_is pool key) (entries_of dir) from h ∙ sym (any_end (key_is pool key) (entries_of dir) v (omega arith));
        inside = λ i. omega arith;
      }

  -- an entry is the first of its bucket from itself on
  pub link_here : {bucket i : ℕ} → bucket ≡ bucket_at dir pool i → Link dir pool bucket i i
  link_here e = record { ahead = omega arith; skips = λ key f. refl; inside = λ l. sym e }

  -- an entry of another bucket is passed over
  pub link_pass : {bucket i v : ℕ} → i < length (entries_of dir) → (bucket_at dir pool i ≢ bucket) → Link dir pool bucket (i + 1) v → Link dir pool bucket i v
  link_pass {bucket} {i} {v} h n l =
      record {
        ahead = omega arith;
        skips = λ key e. any_more (key_is pool key) (entries_of dir) i none h (other dir pool i key (λ f. n (f ∙ e))) ∙ l.skips key e;
        inside = l.inside;
      }

-- ---- a walk along a chain

-- behind the entry at i, none before v has its key: the rest decides
pub record Walked (dir pool : List ℕ) (i v : ℕ) : Type 0 where
  pub ahead : i < v
  pub rest : under dir pool (key_at dir pool i) (i + 1) ≡ under dir pool (key_at dir pool i) v
  pub inside : v < length (entries_of dir) → bucket_at dir pool v ≡ bucket_at dir pool i

pub walked_none : {dir pool : List ℕ} {i v : ℕ} → Link dir pool (bucket_at dir pool i) (i + 1) v → Walked dir pool i v
walked_none {dir} {pool} {i} l = record { ahead = omega (arith, l.ahead); rest = l.skips (key_at dir pool i) refl; inside = l.inside }

-- a and b are the keys of the entries at v and i
module _ {dir pool a b : List ℕ} {i v : ℕ} (x : a ≡ key_at dir pool v) (y : b ≡ key_at dir pool i) (h : v < length (entries_of dir)) (w : Walked dir pool i v) where
  abbrev key : List ℕ
  key = key_at dir pool i

  met : key_is pool key (slice_index_or (entries_of dir) v none) ≡ same a b
  unfolding key_is
  met = sym (rw (x, y) refl)

  pub walked_here : same a b ≡ true → true ≡ under dir pool key (i + 1)
  walked_here t = sym (w.rest ∙ any_here (key_is pool key) (entries_of dir) v none h (met ∙ t))

  pub walked_more : {v' : ℕ} → same a b ≡ false → Link dir pool (bucket_at dir pool v) (v + 1) v' → Walked dir pool i v'
  walked_more t l =
      record {
        ahead = omega (arith, w.ahead, l.ahead);
        rest = w.rest ∙ any_more (key_is pool key) (entries_of dir) v none h (met ∙ t) ∙ l.skips key (sym (w.inside h));
        inside = λ k. l.inside k ∙ w.inside h;
      }

pub walked_end : {dir pool : List ℕ} {i v : ℕ} → Walked dir pool i v → length (entries_of dir) ≤ v → false ≡ under dir pool (key_at dir pool i) (i + 1)
walked_end {dir} {pool} {i} {v} w h = sym (w.rest ∙ any_end (key_is pool (key_at dir pool i)) (entries_of dir) v h)

-- ---- the chains of the entries from i on, in a table: a head for each of 2,048 buckets, and then a link for each of 1,024 entries

-- from each of them a link leads to the next one in its bucket
pub record Linked (dir pool table : List ℕ) (i : ℕ) : Type 0 where
  pub size : length table ≡ 3072
  pub links : (j : ℕ) → i ≤ j → j < length (entries_of dir) → Link dir pool (bucket_at dir pool j) (j + 1) (link_of (slice_index table (2048 + j)))

-- and from the head of each bucket to its first one
pub record Chains (dir pool table : List ℕ) (i : ℕ) : Type 0 where
  pub heads : (b : ℕ) → b < 2048 → Link dir pool b i (link_of (slice_index table b))
  pub linked : Linked dir pool table i

-- of none: every head leads past the last entry
pub chains_none : {dir pool table : List ℕ} {i : ℕ} → i ≡ length (entries_of dir) → i ≤ 1024 → table ≡ replicate 3072 0 → Chains dir pool table i
chains_none {table = table} {i} e h z =
    record {
      heads = λ b l. link_end (omega arith) (omega (arith, ap (λ (t : List ℕ). slice_index t b) z, get_or-replicate {A = ℕ} 3072 b 0 0 (omega arith)));
      linked = record { size = ap length z ∙ length-replicate {A = ℕ} 3072 0; links = λ j a l. absurd (omega arith) };
    }

-- the chains of the entries behind that at i
module _ {dir pool table : List ℕ} {k b v : ℕ} (i : ℕ) (c : Chains dir pool table k) (s : k ≡ i + 1) (e : b ≡ bucket_at dir pool i) (l : b < 2048) (f : v ≡ slice_index table b) where
  -- lead to those that may have its key
  pub head_link : Link dir pool (bucket_at dir pool i) (i + 1) (link_of v)
  head_link = rw (← e, ← s, f) (c.heads b l)

  pub behind_linked : Linked dir pool table (i + 1)
  behind_linked = rw (← s) c.linked

  -- and it goes in front of its chain
  module _ (h : i < length (entries_of dir)) (few : i < 1024) where
    -- the table with its link, and then with the new head
    abbrev with_link : List ℕ
    with_link = slice_set table (2048 + i) v

    abbrev with_head : List ℕ
    with_head = slice_set with_link b (i + 1)

    size_link : length with_link ≡ 3072
    size_link = length-set table (2048 + i) v ∙ c.linked.size

    itself : link_of (i + 1) ≡ i
    itself = omega arith

    head : (x : ℕ) → x < 2048 → Dec (x ≡ b) → Link dir pool x i (link_of (slice_index with_head x))
    head x m (yes q) = rw (q, get_or-set_same with_link b (i + 1) 0 (omega (arith, size_link)), itself) (link_here e)
    head x m (no q) =
        rw (get_or-set_other with_link b x (i + 1) 0 q, get_or-set_other table (2048 + i) x v 0 (omega arith)) (link_pass h (λ r. q (sym (e ∙ r))) (rw s at (c.heads x m)))

    follows : (j : ℕ) → i ≤ j → j < length (entries_of dir) → Dec (j ≡ i) → Link dir pool (bucket_at dir pool j) (j + 1) (link_of (slice_index with_head (2048 + j)))
    follows j a m (yes q) =
        rw (get_or-set_other with_link b (2048 + j) (i + 1) 0 (omega arith), q, get_or-set_same table (2048 + i) v 0 (omega (arith, c.linked.size))) head_link
    follows j a m (no q) =
        rw (get_or-set_other with_link b (2048 + j) (i + 1) 0 (omega arith), get_or-set_other table (2048 + i) (2048 + j) v 0 (λ r. q (omega arith))) (c.linked.links j (omega arith) m)

    pub chains_more : Chains dir pool with_head i
    chains_more =
        record {
          heads = λ x m. head x m (ℕ_discrete x b);
          linked = record { size = length-set with_link b (i + 1) ∙ size_link; links = λ j a m. follows j a m (ℕ_discrete j i) };
        }
