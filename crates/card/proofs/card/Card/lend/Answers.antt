use Rattle.std.proofs.Common.{◌≡◌, ◌∙◌, sym, ap, Some}
use Rattle.nic_device.specs.DmaArena.Block.{Block, zero_block}
use Rattle.nic_device.specs.Step.{lent_block, reply_to}
use Rattle.nic_device.specs.declared.Event.TheVariants as event
use Rattle.card.specs.Card.{Holdings, with_lent}
use Rattle.card.proofs.Moves.{not_false, lent-none, lent-replies, lent-shared, with_lent-is, gave-back}
use Rattle.card.proofs.card.Card.lend.Goals as goal

pub is_lent_by-requires : goal.is_lent_by-requires
is_lent_by-requires c =
    lent-none c.self.inside.device c.self.inside.arena c.args.block c.in-Some.buf c.in-Ok.reply
    (record { free = not_false _ c.in-Some.ensures.none.1; zero = c.in-Some.ensures.zero; shared = c.self.invariant })
    c.in-Ok.ensures.reply

pub invariant_of-self-in-Ok : goal.invariant_of-self-in-Ok
invariant_of-self-in-Ok c =
    lent-shared c.self.inside.device c.step.new.self c.self.inside.arena c.take_at.new.self c.args.block c.in-Some.buf
    (record { free = not_false _ c.in-Some.ensures.none.1; zero = c.in-Some.ensures.zero; shared = c.self.invariant })
    c.in-Ok.ensures.state c.in-Some.ensures.taken

pub returns-in-Ok-clause-lent : goal.returns-in-Ok-clause-lent
returns-in-Ok-clause-lent c =
    with_lent-is c.self.inside.device c.step.new.self c.self.inside.arena c.take_at.new.self c.args.block c.in-Some.buf
    (record { free = not_false _ c.in-Some.ensures.none.1; zero = c.in-Some.ensures.zero; shared = c.self.invariant })
    c.in-Ok.ensures.state c.in-Some.ensures.taken
    ∙ ap (λ h. with_lent h c.args.block) c.self.view_is

pub returns-in-Some-into_buf-clause-unchanged : goal.returns-in-Some-into_buf-clause-unchanged
returns-in-Some-into_buf-clause-unchanged c =
    let same : Some c.in-Some-into_buf.buf ≡ Some c.in-Some.buf =
    sym c.in-Some-into_buf.is ∙ c.into_buf.ensures ∙ ap lent_block c.in-Err.ensures.back in
    let block : c.in-Some-into_buf.buf ≡ c.in-Some.buf = cc in
    gave-back c.self.inside.device c.step.new.self c.self.inside.arena c.take_at.new.self c.give_back.new.self
    c.args.block c.in-Some-into_buf.buf
    (not_false _ c.in-Some.ensures.none.1) c.in-Some.ensures.taken
    (ap (λ (b : Block). b.number) (block ∙ c.in-Some.ensures.zero))
    c.give_back.ensures c.in-Err.ensures.unchanged
    ∙ c.self.view_is

pub returns-in-Ok-clause-done : goal.returns-in-Ok-clause-done
returns-in-Ok-clause-done c =
    λ _. ap (λ (h : Holdings). reply_to h.device (event.Lend (zero_block c.args.block))) (sym c.self.view_is)
    ∙ lent-replies c.self.inside.device c.self.inside.arena c.args.block c.in-Some.buf
    (record { free = not_false _ c.in-Some.ensures.none.1; zero = c.in-Some.ensures.zero; shared = c.self.invariant })
