-- The scratch array for the marks: its first cells are lent out blank, and stand at the front again when they come back.
use Rattle.std.specs.Prelude.{◌≡◌, List, ◌++◌, ℕ, ◌≤◌, length, take, drop}
use Rattle.std.proofs.Common.{sym, ◌∙◌, arith, length-append, length-take-le, take_at}
use Rattle.rules.specs.Layout.{cells_of, memory_of}
use Rattle.laws.specs.SoundnessLaws.{Sound}
use Rattle.laws.specs.SoundMemory.{memory_of_is}
use Rattle.laws.specs.Lists.{each_map}
use Rattle.laws.specs.Zeros.{zeros, zeros_get, zeros_length}
use Rattle.eviction.specs.Marking.{Blank}

-- an array of n cells for the memory's
module _ (n : ℕ) {dir pool : List ℕ} (s : Sound dir pool) (room : 1024 ≤ n) where
  -- the cells lent out
  abbrev pub lent : List ℕ
  lent = take (cells_of pool) (zeros n)

  -- and those kept
  abbrev pub kept : List ℕ
  kept = drop (cells_of pool) (zeros n)

  pub lent_length : length lent ≡ cells_of pool
  lent_length = zeros_length n (cells_of pool) (omega (arith, s.few_cells))

  pub lent_blank : Blank lent dir
  unfolding memory_of
  lent_blank =
      record {
        few = omega (arith, s.few_cells, lent_length);
        blank = zeros_get n (cells_of pool);
        dir_is = s.dir_is;
        each = each_map (λ e f. (omega (arith, f.some_key), omega (arith, f.inside, lent_length))) (memory_of_is s).each;
      }

  module _ (back : List ℕ) (same : length back ≡ length lent) where
    back_is : length back ≡ cells_of pool
    back_is = same ∙ lent_length

    pub back_room : cells_of pool ≤ length (back ++ kept)
    back_room = omega (arith, back_is, length-append back kept)

    pub back_length : cells_of pool ≡ length (take (cells_of pool) (back ++ kept))
    back_length = sym (length-take-le (cells_of pool) (back ++ kept) back_room)

    pub back_front : take (cells_of pool) (back ++ kept) ≡ back
    back_front = take_at back kept (cells_of pool) back_is
