use Rattle.pmd_driver.proofs.running.Running.queue_first.Goals as goal

pub returns-in-Ok-Taken-clause-queues : goal.returns-in-Ok-Taken-clause-queues
returns-in-Ok-Taken-clause-queues g c =
    rw c.in-Some.ensures.items (rw c.in-Ok-Taken.field-0-is at c.in-Ok-Taken.ensures.queues c.pop_front.new.self.items)

pub returns-in-Ok-RingFull-clause-queues : goal.returns-in-Ok-RingFull-clause-queues
returns-in-Ok-RingFull-clause-queues g c =
    rw (c.in-Some.ensures.items, c.push_front_reserved.ensures.items)
    (rw c.in-Ok-RingFull.field-0-is at c.in-Ok-RingFull.ensures.queues c.pop_front.new.self.items)

pub returns-in-None-packet-clause-queues : goal.returns-in-None-packet-clause-queues
returns-in-None-packet-clause-queues g c =
    rw c.in-Some.ensures.items (rw c.in-None-packet.is at c.in-Err.ensures.queues c.pop_front.new.self.items)

pub returns-in-Some-packet-clause-queues : goal.returns-in-Some-packet-clause-queues
returns-in-Some-packet-clause-queues g c =
    rw (c.in-Some.ensures.items, c.push_front_reserved-in-Some-packet.ensures.items)
    (rw c.in-Some-packet.is at c.in-Err.ensures.queues c.pop_front.new.self.items)
