-- `soundness::is_sound` meets its contract.
use Rattle.std.proofs.Common.{sym, arith}
use Rattle.rules.specs.Layout.{cells_of}
use Rattle.laws.specs.Zeros.{zeros_get, zeros_length}
use Rattle.soundness.specs.Test.{lengths_told, sound_lengths, sound_not, sound_used, sound_entries}
use Rattle.soundness.proofs.is_sound.Goals as goal
use Rattle.soundness.proofs.is_sound.Goals.{then-dir-ne-FORM-via-then-dir-ne-FORM, then-dir-ne-FORM-via-else-dir-ne-FORM+then-cells-n, then-dir-ne-FORM-via-else-dir-ne-FORM+else-cells-n+then-not-zeros_from}

pub returns-then-not-right_lengths : goal.returns-then-not-right_lengths
returns-then-not-right_lengths c = sound_lengths _ _ _ c.right_lengths.ensures c.if-not-right_lengths.true

pub bounds-dir-1 : goal.bounds-dir-1
bounds-dir-1 c = omega (arith, lengths_told _ _ _ c.right_lengths.ensures c.if-not-right_lengths.false)

pub bounds-dir-0 : goal.bounds-dir-0
bounds-dir-0 c = omega (arith, lengths_told _ _ _ c.right_lengths.ensures c.if-not-right_lengths.false)

pub zeros_from-requires : goal.zeros_from-requires
zeros_from-requires c = omega (arith, lengths_told _ _ _ c.right_lengths.ensures c.if-not-right_lengths.false)

pub returns-then-dir-ne-FORM : goal.returns-then-dir-ne-FORM
returns-then-dir-ne-FORM c = elim c.then-dir-ne-FORM.branch [
  | then-dir-ne-FORM-via-then-dir-ne-FORM w ↦ sound_not _ _ (λ h. w.if-dir-ne-FORM.true h.form)
  | then-dir-ne-FORM-via-else-dir-ne-FORM+then-cells-n w ↦ sound_not _ _ (λ h. omega (arith, h.count, w.if-cells-n.true))
  | then-dir-ne-FORM-via-else-dir-ne-FORM+else-cells-n+then-not-zeros_from w ↦ sound_used _ _ _ (record { lengths = lengths_told _ _ _ c.right_lengths.ensures c.if-not-right_lengths.false; form = w.if-dir-ne-FORM.false; count = w.if-cells-n.false }) w.zeros_from.ensures w.if-not-zeros_from.true
]

pub slice_bounds-map-end : goal.slice_bounds-map-end
slice_bounds-map-end c = (lengths_told _ _ _ c.right_lengths.ensures c.if-not-right_lengths.false).few_cells

pub slice_bounds-entries_sound-end : goal.slice_bounds-entries_sound-end
slice_bounds-entries_sound-end c = sym (zeros_length 1024 (cells_of c.args.pool.now) (lengths_told _ _ _ c.right_lengths.ensures c.if-not-right_lengths.false).few_cells)

pub entries_sound-requires : goal.entries_sound-requires
entries_sound-requires c = let l = lengths_told _ _ _ c.right_lengths.ensures c.if-not-right_lengths.false in
    let p = c.args.pool.now in
    record { map_len = (zeros_length 1024 (cells_of p) l.few_cells, l.few_cells); dir_in_bounds = (omega (arith, l.dir_size), omega (arith, l.few_cells)); by_index = zeros_get 1024 (cells_of p) }

pub returns : goal.returns
returns c = sound_entries _ _ _ _ (record { lengths = lengths_told _ _ _ c.right_lengths.ensures c.if-not-right_lengths.false; form = c.if-dir-ne-FORM.false; count = c.if-cells-n.false }) c.zeros_from.ensures c.if-not-zeros_from.false c.entries_sound.ensures
