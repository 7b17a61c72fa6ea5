use Rattle.std.proofs.Common.{ap}
use Rattle.pmd_access.specs.Asks.{fault_in}
use Rattle.pmd_access.specs.Bufs.{numbers_of}
use Rattle.pmd_rx.proofs.Acting.{acts_then}
use Rattle.pmd_rx.proofs.Keeping.{keeps_both}
use Rattle.pmd_rx.proofs.ring.ReceiveRing.receive.Goals as goal

pub returns-in-Ok-clause-plays : goal.returns-in-Ok-clause-plays
returns-in-Ok-clause-plays g c =
    let next = c.post_one.ensures.acts in
    (acts_then c.gather.ensures.gathers next.enough (next.acts c.gather.new.arena)).plays

pub returns-in-Ok-clause-keeps : goal.returns-in-Ok-clause-keeps
returns-in-Ok-clause-keeps g c =
    keeps_both c.args.arena.now c.gather.new.arena c.gather.new.arena c.args.self.now c.gather.new.self
    c.post_one.new.self (numbers_of c.in-Ok.packet.bufs) c.gather.ensures.gathers.keeps
    (c.in-Ok.ensures.hands.keeps c.gather.new.arena)

pub returns-in-Err-post_one-clause-plays : goal.returns-in-Err-post_one-clause-plays
returns-in-Err-post_one-clause-plays g c =
    let next = c.post_one.ensures.acts in
    (acts_then c.gather.ensures.gathers next.enough (next.acts c.gather.new.arena)).plays

pub returns-in-Err-post_one-clause-fails : goal.returns-in-Err-post_one-clause-fails
returns-in-Err-post_one-clause-fails g c =
    let next = c.in-Err-post_one.ensures.acts in
    (acts_then c.gather.ensures.gathers next.enough (next.acts c.gather.new.arena)).fails

pub returns-in-Err-post_one-clause-waits : goal.returns-in-Err-post_one-clause-waits
returns-in-Err-post_one-clause-waits g c short =
    absurd (c.in-Err-post_one.ensures.acts.enough (ap fault_in short))
