use Rattle.std.proofs.Common.{List, ℕ, ap, get_or, ◌∙◌, arith}
use Rattle.std.proofs.lemmas.List.{get_or-replicate}
use Rattle.dma_arena.proofs.buf.Buf.cleared.Goals as goal

pub invariant_of-result : goal.invariant_of-result
invariant_of-result c = (
  omega arith,
  λ k from lt. ap (λ (l : List ℕ). get_or l k 0) c.clear.ensures ∙ get_or-replicate 2048 k 0 0 lt,
)

pub returns : goal.returns
returns c = ap (λ (l : List ℕ). record { number = c.args.number; bytes = l }) c.clear.ensures
