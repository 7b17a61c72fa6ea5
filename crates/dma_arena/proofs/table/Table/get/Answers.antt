use Rattle.std.proofs.Common.{◌<◌, ◌≤◌, length, None, sym, ◌∙◌, arith}
use Rattle.std.proofs.lemmas.List.{get_or_past, get_or_read}
use Rattle.dma_arena.proofs.Filled.{block_at-table}
use Rattle.dma_arena.proofs.table.Table.get.Goals as goal

pub returns-then-number-len : goal.returns-then-number-len
returns-then-number-len c =
    let past : length c.self.inside.places.items ≤ c.args.number = omega (arith, c.self.inside.places.ok.0) in
    sym (get_or_past c.self.inside.places.items c.args.number None past)
    ∙ block_at-table c.self.invariant c.self.view_is c.args.number

pub returns : goal.returns
returns c =
    let lt : c.args.number < length c.self.inside.places.items = omega (arith, c.self.inside.places.ok.0) in
    c.as_ref.ensures.value
    ∙ get_or_read c.self.inside.places.items c.args.number c.index.result.now lt c.index.ensures None
    ∙ block_at-table c.self.invariant c.self.view_is c.args.number
