use Rattle.std.proofs.Common.{◌∙◌, sym, ap, is_some}
use Rattle.nic_device.specs.DmaArena.Memory.{has_block}
use Rattle.card.specs.Card.{Holdings, given_back}
use Rattle.card.proofs.Moves.{taken-away, taken-shared, taken-tells}
use Rattle.card.proofs.card.Card.take.Goals as goal

pub give_back-requires-clause-own : goal.give_back-requires-clause-own
give_back-requires-clause-own c =
    (taken-away c.self.inside.device c.self.inside.arena c.args.block c.in-Some.buf c.in-Ok.reply c.self.invariant
    c.in-Ok.ensures.reply (sym c.into_buf.ensures ∙ c.in-Some.is)).0

pub give_back-requires-clause-away : goal.give_back-requires-clause-away
give_back-requires-clause-away c =
    (taken-away c.self.inside.device c.self.inside.arena c.args.block c.in-Some.buf c.in-Ok.reply c.self.invariant
    c.in-Ok.ensures.reply (sym c.into_buf.ensures ∙ c.in-Some.is)).1

pub invariant_of-self : goal.invariant_of-self
invariant_of-self c =
    taken-shared c.self.inside.device c.step.new.self c.self.inside.arena c.self.inside.arena c.args.block c.in-Ok.reply
    c.self.invariant c.in-Ok.ensures.reply c.in-Ok.ensures.state
    (ap (given_back c.self.inside.arena) (sym c.in-None.is ∙ c.into_buf.ensures))

pub invariant_of-self-in-Some : goal.invariant_of-self-in-Some
invariant_of-self-in-Some c =
    taken-shared c.self.inside.device c.step.new.self c.self.inside.arena c.give_back.new.self c.args.block
    c.in-Ok.reply c.self.invariant c.in-Ok.ensures.reply c.in-Ok.ensures.state
    (c.give_back.ensures ∙ ap (given_back c.self.inside.arena) (sym c.in-Some.is ∙ c.into_buf.ensures))

pub returns-in-None-clause-lent : goal.returns-in-None-clause-lent
returns-in-None-clause-lent c =
    ap is_some (sym c.in-None.is ∙ c.into_buf.ensures)
    ∙ taken-tells c.self.inside.device c.args.block c.in-Ok.reply c.in-Ok.ensures.reply
    ∙ ap (λ (h : Holdings). has_block h.device.memory c.args.block) c.self.view_is

pub returns-in-Some-clause-lent : goal.returns-in-Some-clause-lent
returns-in-Some-clause-lent c =
    ap is_some (sym c.in-Some.is ∙ c.into_buf.ensures)
    ∙ taken-tells c.self.inside.device c.args.block c.in-Ok.reply c.in-Ok.ensures.reply
    ∙ ap (λ (h : Holdings). has_block h.device.memory c.args.block) c.self.view_is
