use Rattle.std.proofs.Common.{◌≡◌, ◌<◌, ◌≤◌, length, set, None, sym, ◌∙◌, arith}
use Rattle.std.specs.FinMap as map
use Rattle.std.proofs.lemmas.List.{get_or_past, get_or_read}
use Rattle.dma_arena.specs.Shown.{shown}
use Rattle.dma_arena.proofs.Filled.{block_at-table, shown-left, shown-past, shown-same}
use Rattle.dma_arena.proofs.table.Table.remove.Goals as goal
use Rattle.dma_arena.proofs.table.Table.remove.Goals.{then-number-self, else-number-self}

pub returns-then-number-len-clause-taken : goal.returns-then-number-len-clause-taken
returns-then-number-len-clause-taken c =
    let past : length c.self.inside.places.items ≤ c.args.number = omega (arith, c.self.inside.places.ok.0) in
    sym (get_or_past c.self.inside.places.items c.args.number None past)
    ∙ block_at-table c.self.invariant c.self.view_is c.args.number

pub returns-then-number-len-clause-left : goal.returns-then-number-len-clause-left
returns-then-number-len-clause-left c =
    let past : length c.self.inside.places.items ≤ c.args.number = omega (arith, c.self.inside.places.ok.0) in
    shown-past c.self.invariant c.self.view_is c.args.number
    (get_or_past c.self.inside.places.items c.args.number None past)

pub returns-in_default-clause-taken : goal.returns-in_default-clause-taken
returns-in_default-clause-taken c =
    let lt : c.args.number < length c.self.inside.places.items = omega (arith, c.self.inside.places.ok.0) in
    sym c.in_default.is ∙ c.take.ensures.value
    ∙ get_or_read c.self.inside.places.items c.args.number c.index_mut.result.now lt c.index_mut.ensures.value None
    ∙ block_at-table c.self.invariant c.self.view_is c.args.number

pub returns-in_default-clause-left : goal.returns-in_default-clause-left
returns-in_default-clause-left c =
    let lt : c.args.number < length c.self.inside.places.items = omega (arith, c.self.inside.places.ok.0) in
    shown-left c.self.invariant c.self.view_is c.args.number c.take.new.self lt c.take.ensures.after

pub returns-in_default-clause-kept : goal.returns-in_default-clause-kept
returns-in_default-clause-kept c =
    let lt : c.args.number < length c.self.inside.places.items = omega (arith, c.self.inside.places.ok.0) in
    shown-same c.self.invariant c.self.view_is c.args.number c.take.new.self
    (sym (get_or_read c.self.inside.places.items c.args.number c.index_mut.result.now lt c.index_mut.ensures.value None)
    ∙ sym c.take.ensures.value ∙ c.in_default.is)
    c.take.ensures.after

pub returns-clause-taken : goal.returns-clause-taken
returns-clause-taken c =
    let lt : c.args.number < length c.self.inside.places.items = omega (arith, c.self.inside.places.ok.0) in
    sym c.in-Some.is ∙ c.take.ensures.value
    ∙ get_or_read c.self.inside.places.items c.args.number c.index_mut.result.now lt c.index_mut.ensures.value None
    ∙ block_at-table c.self.invariant c.self.view_is c.args.number

pub returns-clause-left : goal.returns-clause-left
returns-clause-left c =
    let lt : c.args.number < length c.self.inside.places.items = omega (arith, c.self.inside.places.ok.0) in
    let left : shown (set c.self.inside.places.items c.args.number c.take.new.self)
    ≡ map.remove c.args.self.now c.args.number =
    shown-left c.self.invariant c.self.view_is c.args.number c.take.new.self lt c.take.ensures.after in
    elim c.if-number-self.branch [
      | then-number-self w ↦ rw w.self-is left
      | else-number-self w ↦ rw w.self-is left
    ]
