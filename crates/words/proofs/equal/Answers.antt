-- `words::equal` meets its contract. The loop's invariant: no byte from n on differs.
use Rattle.std.proofs.Common.{◌-◌, sym, ◌∙◌, arith}
use Rattle.words.specs.SameLaws.{same_lengths, agree_start, agree_more, agree_stop, agree_byte, agree_not, agree_end}
use Rattle.words.proofs.equal.Goals as goal

pub returns-then-a-b : goal.returns-then-a-b
returns-then-a-b c = same_lengths _ _ c.if-a-b.true

pub loop-n-init : goal.loop-n-init
loop-n-init c = agree_start c.if-a-b.false

pub returns-then-load8 : goal.returns-then-load8
returns-then-load8 c = agree_stop (c.loop-n.n - 8) 8 c.loop-n.invariant (omega arith) (λ i. omega (arith, c.type_inv.a i)) (λ i. omega (arith, c.type_inv.b i)) (λ e. c.if-load8.true (c.load8.ensures ∙ e ∙ sym c.load8-in-loop-n.ensures))

pub loop-n-preserved : goal.loop-n-preserved
loop-n-preserved c = agree_more (c.loop-n.n - 8) 8 c.loop-n.invariant (omega arith) (λ i. omega (arith, c.type_inv.a i)) (λ i. omega (arith, c.type_inv.b i)) (sym c.load8.ensures ∙ c.if-load8.false ∙ c.load8-in-loop-n.ensures)

pub loop-k-init : goal.loop-k-init
loop-k-init c = c.loop-n.invariant

pub returns-then-a-k : goal.returns-then-a-k
returns-then-a-k c = agree_not (c.loop-k.k - 1) c.loop-k.invariant (omega arith) (λ i. omega (arith, c.type_inv.a i)) (λ i. omega (arith, c.type_inv.b i)) c.if-a-k.true

pub loop-k-preserved : goal.loop-k-preserved
loop-k-preserved c = agree_byte (c.loop-k.k - 1) c.loop-k.invariant (omega arith) (λ i. omega (arith, c.type_inv.a i)) (λ i. omega (arith, c.type_inv.b i)) c.if-a-k.false

pub returns : goal.returns
returns c = agree_end c.loop-k.invariant (omega arith)
