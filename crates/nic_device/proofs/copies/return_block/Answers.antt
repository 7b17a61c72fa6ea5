use Rattle.nic_device.proofs.Leaving.{back-away, back-left}
use Rattle.nic_device.proofs.copies.return_block.Goals as goal

pub returns-in-Some-clause-away : goal.returns-in-Some-clause-away
returns-in-Some-clause-away c =
    back-away c.args.arena.now _ c.args.memory.now _ c.args.number c.in-Some.buf c.in-Some.ensures.taken
    c.take.ensures.left c.give_back.ensures c.requires

pub returns-in-Some-clause-left : goal.returns-in-Some-clause-left
returns-in-Some-clause-left c = λ before was.
    back-left c.args.arena.now _ c.args.memory.now _ c.args.number c.in-Some.buf c.in-Some.ensures.taken
    c.take.ensures.left c.give_back.ensures before was
