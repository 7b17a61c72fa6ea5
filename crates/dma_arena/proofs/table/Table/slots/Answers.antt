use Rattle.std.proofs.Common.{◌<◌, ◌≡◌, length, None, false, true, ap, inl, inr, sym, ◌∙◌, arith}
use Rattle.std.specs.Prelude.{is_some}
use Rattle.std.proofs.lemmas.Bool.{cases_lt}
use Rattle.std.proofs.lemmas.List.{get_or_past}
use Rattle.dma_arena.proofs.Filled.{filled_at}
use Rattle.dma_arena.proofs.table.Table.slots.Goals as goal

pub returns-clause-above : goal.returns-clause-above
returns-clause-above c = λ number lent.
    let count = length c.self.inside.places.items in
    let below = elim (cases_lt number count) as (λ _. number < count) [
      | inl below ↦ below
      | inr past ↦
          let none = ap is_some (get_or_past c.self.inside.places.items number None past) in
          let no : true ≡ false = sym lent ∙ filled_at c.self.invariant c.self.view_is number ∙ none in absurd (cc)
    ] in
    omega (arith, below, c.self.invariant.few)
