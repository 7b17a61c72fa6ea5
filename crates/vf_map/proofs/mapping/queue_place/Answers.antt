use Rattle.std.proofs.Common.{ap, ◌+◌, ◌%◌, ◌/◌, sym, ◌∙◌, arith}
use Rattle.vf_map.specs.Parts.{of_queue}
use Rattle.vf_map.proofs.Places.{queue_absent, side_absent, receive_at, transmit_at}
use Rattle.vf_map.proofs.mapping.queue_place.Goals as goal

pub returns-then-x-from : goal.returns-then-x-from
returns-then-x-from c = sym (queue_absent c.args.first c.args.count c.args.offset c.requires (omega arith))

pub returns-in-1 : goal.returns-in-1
returns-in-1 c =
    c.queue_register.ensures
    ∙ ap (λ o. of_queue o (c.from-2.result + c.args.offset % 0x1000 / 0x40)) c.receive_row.ensures
    ∙ sym (receive_at c.args.first c.args.count c.args.offset (c.from-2.result + c.args.offset % 0x1000 / 0x40)
    c.requires (omega arith) (omega arith) (omega arith))

pub returns-in-2 : goal.returns-in-2
returns-in-2 c =
    c.queue_register-in-2.ensures
    ∙ ap (λ o. of_queue o (c.from-2.result + c.args.offset % 0x1000 / 0x40)) c.transmit_row.ensures
    ∙ sym (transmit_at c.args.first c.args.count c.args.offset (c.from-2.result + c.args.offset % 0x1000 / 0x40)
    c.requires (omega arith) (omega arith) (omega arith))

pub returns-in_default : goal.returns-in_default
returns-in_default c =
    sym (side_absent c.args.first c.args.count c.args.offset c.requires (omega arith) (omega arith))
