use Rattle.std.proofs.Common.{◌≡◌, false, None, sym, ap, ◌∙◌}
use Rattle.std.specs.FinMap as map
use Rattle.std.proofs.lemmas.List.{get_or_read}
use Rattle.dma_arena.specs.Memory.{has_block}
use Rattle.dma_arena.proofs.Filled.{within_made, none_made_at, IsTable-came, shown-came}
use Rattle.dma_arena.proofs.table.Table.insert.Goals as goal

pub nothing-requires : goal.nothing-requires
nothing-requires c =
    let free : has_block c.args.self.now c.block-number.result ≡ false =
    rw c.block-number.ensures.number c.requires in
    let lt =
    within_made c.self.invariant c.self.view_is c.block-number.result c.block-number.ensures.small free
    c.in-Ok.ensures.made in
    c.replace.ensures.value
    ∙ get_or_read c.make_places.new.places.items c.block-number.result c.index_mut.result.now lt
    c.index_mut.ensures.value None
    ∙ none_made_at c.self.invariant c.self.view_is c.block-number.result c.block-number.ensures.small free
    c.in-Ok.ensures.made

pub invariant_of-self-2 : goal.invariant_of-self-2
invariant_of-self-2 c =
    let free : has_block c.args.self.now c.block-number.result ≡ false =
    rw c.block-number.ensures.number c.requires in
    IsTable-came c.self.invariant c.self.view_is c.block-number.result c.block-number.ensures.small free
    c.in-Ok.ensures.made c.args.buf c.replace.new.self c.min-self-inside.result c.next_with-self-inside.result
    (sym c.block-number.ensures.number) c.replace.ensures.after c.min-self-inside.ensures
    c.next_with-self-inside.ensures.below c.next_with-self-inside.ensures.above c.next_with-self-inside.ensures.gap

pub returns-clause-lent : goal.returns-clause-lent
returns-clause-lent c =
    let free : has_block c.args.self.now c.block-number.result ≡ false =
    rw c.block-number.ensures.number c.requires in
    shown-came c.self.invariant c.self.view_is c.block-number.result c.block-number.ensures.small free
    c.in-Ok.ensures.made c.args.buf c.replace.new.self c.replace.ensures.after
    ∙ ap (λ number. map.insert c.args.self.now number c.args.buf.bytes) c.block-number.ensures.number
