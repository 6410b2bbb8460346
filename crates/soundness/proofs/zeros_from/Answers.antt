-- `soundness::zeros_from` meets its contract.
use Rattle.std.proofs.Common.{◌≡◌, Bool, ap, sym, ◌∙◌, ◌&&◌, rules, tests}
use Rattle.std.specs.List.{list_all}
use Rattle.std.proofs.lemmas.Iterator.{YieldsList-from_slice}
use Rattle.std.proofs.lemmas.Iterator.Search.{all_from_yields_List}
use Rattle.rules.specs.Soundness.{every, is_zero}
use Rattle.soundness.specs.Zeros.{zeros_in_blocks}
use Rattle.soundness.proofs.zeros_from.Goals as goal

pub returns-then-all : goal.returns-then-all
returns-then-all c = let rest = c.as_chunks.result.1.now in
    let told : c.all.result ≡ list_all (every is_zero) c.as_chunks.result.0.now = all_from_yields_List (every is_zero) _ _ c.all.result c.all.ensures.ran (YieldsList-from_slice _ c.iter.ensures.rest) (λ x b q k. search (rules, tests)) in
    c.all_zero.ensures ∙ sym (zeros_in_blocks 48 c.args.from c.args.dir.now c.as_chunks.ensures.front c.as_chunks.ensures.back told ∙ ap (λ (b : Bool). b && every is_zero rest) c.if-all.true)

pub returns-else-all : goal.returns-else-all
returns-else-all c = let rest = c.as_chunks.result.1.now in
    let told : c.all.result ≡ list_all (every is_zero) c.as_chunks.result.0.now = all_from_yields_List (every is_zero) _ _ c.all.result c.all.ensures.ran (YieldsList-from_slice _ c.iter.ensures.rest) (λ x b q k. search (rules, tests)) in
    c.if-all.false ∙ sym (zeros_in_blocks 48 c.args.from c.args.dir.now c.as_chunks.ensures.front c.as_chunks.ensures.back told ∙ ap (λ (b : Bool). b && every is_zero rest) c.if-all.false)
