-- `listing::fill_rows` meets its contract.
use Rattle.std.proofs.Common.{◌≡◌, sym, ap, ◌∙◌, arith, add-one, take-append-drop, length-take-le}
use Rattle.std.proofs.lemmas.List.{set-append_left}
use Rattle.std.specs.Prelude.{drop, set}
use Rattle.listing.specs.Filling.{filled}
use Rattle.listing.proofs.fill_rows.Goals as goal

pub loop-k-init : goal.loop-k-init
unfolding filled
loop-k-init c = take-append-drop c.args.n c.args.rows.now

pub loop-k-preserved : goal.loop-k-preserved
unfolding filled
loop-k-preserved c =
    let r = c.args.rows.now in
    let t = c.args.table.now in
    let k = c.loop-k.k in
    sym (set-append_left c.loop-k.row-items (drop c.args.n r) k c.row_at.result (omega arith))
    ∙ ap (λ x. set x k c.row_at.result) c.loop-k.invariant
    ∙ ap (set (filled r t k) k) c.row_at.ensures
    ∙ ap (filled r t) (sym (add-one k))

pub returns : goal.returns
returns c =
    let e : c.loop-k.k ≡ c.args.n = omega (arith, length-take-le c.args.n c.args.rows.now c.requires.few) in
    c.loop-k.invariant ∙ ap (filled c.args.rows.now c.args.table.now) e
