use Rattle.std.proofs.Common.{Bool, true, List, [], ◌∷◌, ◌++◌, sym, ap, ◌∙◌}
use Rattle.device_lock.specs.NicDevice.DmaArena.Block.{Block}
use Rattle.device_lock.specs.NicDevice.declared.event.Reply.{Reply}
use Rattle.device_lock.specs.Pass.{call_of}
use Rattle.pmd_access.specs.Scheduled.{Handled}
use Rattle.pmd_access.proofs.Begun.{call_more_begins}
use Rattle.pmd_access.proofs.Making.{made_more}
use Rattle.pmd_access.proofs.handled.Handled.make.Goals as goal

pub returns-in-Ok-clause-own : goal.returns-in-Ok-clause-own
returns-in-Ok-clause-own c =
    let was : Handled = record {
      device = c.self.inside.device;
      calls = c.self.inside.calls;
      own = c.self.inside.own.items;
      foreign = c.self.inside.foreign.items;
    } in
    made_more was c.args.self.now c.make.new.self c.push_reserved.new.self.items
    c.reserve.new.self.items _ _ c.self.invariant c.self.view_is c.in-Ok.ensures.calls
    (ap (λ (y : Reply Block). call_of c.args.event y) (sym c.in-Ok.ensures.reply)) c.reserve.ensures.items
    c.push_reserved.ensures.items

pub returns-in-Ok-clause-began : goal.returns-in-Ok-clause-began
returns-in-Ok-clause-began c =
    let was : Handled = record {
      device = c.self.inside.device;
      calls = c.self.inside.calls;
      own = c.self.inside.own.items;
      foreign = c.self.inside.foreign.items;
    } in
    call_more_begins was c.args.self.now c.args.event true _ _ _ c.self.inside.foreign.items c.self.invariant
    c.self.view_is c.is_of_a_driver.ensures c.in-Ok.ensures.device c.in-Ok.ensures.calls
    (c.push_reserved.ensures.items ∙ ap (λ (l : List Bool). l ++ true ∷ []) c.reserve.ensures.items)
