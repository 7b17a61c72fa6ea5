use Rattle.std.proofs.Common.{◌∙◌, sym, ap}
use Rattle.nic_device.specs.DmaArena.Memory.{has_block}
use Rattle.card.proofs.Returning.{returned-shared, removed_same, removed_other}
use Rattle.card.proofs.card.take_back.Goals as goal

pub returns-in-Some-clause-shared : goal.returns-in-Some-clause-shared
returns-in-Some-clause-shared c =
    returned-shared c.args.memory.now c.take.new.self c.args.arena.now c.give_back.new.self c.args.number
    c.in-Some.buf c.requires
    (sym c.in-Some.ensures.taken) c.take.ensures.left c.give_back.ensures

pub returns-in-Some-clause-taken : goal.returns-in-Some-clause-taken
returns-in-Some-clause-taken c = ap (λ m. has_block m c.args.number) c.take.ensures.left
    ∙ removed_same c.args.memory.now c.args.number

pub returns-in-Some-clause-others : goal.returns-in-Some-clause-others
returns-in-Some-clause-others c = λ other away. ap (λ m. has_block m other) c.take.ensures.left
    ∙ removed_other c.args.memory.now c.args.number other away
