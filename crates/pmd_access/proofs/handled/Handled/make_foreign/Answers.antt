use Rattle.std.proofs.Common.{Bool, false, List, [], ◌∷◌, ◌++◌, ap, ◌∙◌}
use Rattle.pmd_access.specs.Scheduled.{Handled}
use Rattle.pmd_access.proofs.Begun.{call_more_begins}
use Rattle.pmd_access.proofs.Making.{made_still}
use Rattle.pmd_access.proofs.handled.Handled.make_foreign.Goals as goal

pub returns-clause-none : goal.returns-clause-none
returns-clause-none c =
    let was : Handled = record {
      device = c.self.inside.device;
      calls = c.self.inside.calls;
      own = c.self.inside.own.items;
      foreign = c.self.inside.foreign.items;
    } in
    made_still was c.args.self.now c.make.new.self c.push_reserved-2.new.self.items
    c.reserve-else-is_err.new.self.items _ c.self.invariant c.self.view_is c.in_ok-reply.ensures.calls
    c.reserve-else-is_err.ensures.items c.push_reserved-2.ensures.items

pub returns-clause-began : goal.returns-clause-began
returns-clause-began c =
    let was : Handled = record {
      device = c.self.inside.device;
      calls = c.self.inside.calls;
      own = c.self.inside.own.items;
      foreign = c.self.inside.foreign.items;
    } in
    call_more_begins was c.args.self.now c.args.event false _ _ _ c.push_reserved.new.self.items c.self.invariant
    c.self.view_is c.is_of_a_driver.ensures c.in_ok-reply.ensures.device c.in_ok-reply.ensures.calls
    (c.push_reserved-2.ensures.items ∙ ap (λ (l : List Bool). l ++ false ∷ []) c.reserve-else-is_err.ensures.items)
