use Rattle.std.proofs.Common.{◌≡◌, true, false, sym, ap, ◌∙◌, arith}
use Rattle.std.specs.Prelude.{is_some}
use Rattle.dma_arena.specs.Block.{Block}
use Rattle.dma_arena.proofs.Filled.{filled_at, place_of, what_stands, IsTable-written, shown-exchanged, got-there}
use Rattle.dma_arena.proofs.table.Table.exchange.Goals as goal

pub index_mut-requires : goal.index_mut-requires
index_mut-requires c =
    let lt = place_of c.self.invariant c.self.view_is c.args.number c.requires.lent in
    omega (arith, lt, c.self.inside.places.ok.0)

pub unreachable-requires : goal.unreachable-requires
unreachable-requires c =
    let there =
    what_stands c.self.invariant c.self.view_is c.args.number c.index_mut.result.now c.requires.lent
    c.index_mut.ensures.value ∙ c.in-None.is in
    let h : true ≡ false =
    sym c.requires.lent ∙ filled_at c.self.invariant c.self.view_is c.args.number ∙ ap is_some there in
    cc

pub invariant_of-self : goal.invariant_of-self
invariant_of-self c =
    IsTable-written c.self.invariant c.self.view_is c.args.number c.in-Some.buf c.exchange.new.self c.requires.lent
    (what_stands c.self.invariant c.self.view_is c.args.number c.index_mut.result.now c.requires.lent
    c.index_mut.ensures.value ∙ c.in-Some.is)
    (ap (λ (b : Block). b.number) c.exchange.ensures.put)

pub returns-clause-put : goal.returns-clause-put
returns-clause-put c =
    shown-exchanged c.self.invariant c.self.view_is c.args.number c.exchange.new.self c.args.memory.value
    c.requires.lent
    (ap (λ (b : Block). b.bytes) c.exchange.ensures.put)

pub returns-clause-former : goal.returns-clause-former
returns-clause-former c =
    got-there c.self.invariant c.self.view_is c.args.number c.in-Some.buf c.exchange.result.value
    (what_stands c.self.invariant c.self.view_is c.args.number c.index_mut.result.now c.requires.lent
    c.index_mut.ensures.value ∙ c.in-Some.is)
    c.exchange.ensures.former
