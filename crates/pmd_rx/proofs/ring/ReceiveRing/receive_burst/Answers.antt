use Rattle.std.proofs.Common.{refl, ap}
use Rattle.pmd_access.specs.Asks.{fault_in}
use Rattle.pmd_access.proofs.Asking.{fault_by}
use Rattle.pmd_rx.specs.Wrong.{FailsBy}
use Rattle.pmd_rx.proofs.Acting.{acts_then}
use Rattle.pmd_rx.proofs.Bursts.{none_out, burst_after}
use Rattle.pmd_rx.proofs.Keeping.{keeps_none}
use Rattle.pmd_rx.proofs.Playing.{plays_none}
use Rattle.pmd_rx.proofs.ring.ReceiveRing.receive_burst.Goals as goal

pub returns-then-most-eq0-clause-plays : goal.returns-then-most-eq0-clause-plays
returns-then-most-eq0-clause-plays g c = plays_none c.args.arena.now (g.N.Nic.made c.args.nic.now) c.args.self.now

pub returns-then-most-eq0-clause-out : goal.returns-then-most-eq0-clause-out
returns-then-most-eq0-clause-out g c =
    none_out _ c.args.most c.args.arena.now c.args.arena.now c.args.self.now c.args.self.now c.args.out.now.items
    c.args.out.now.items refl refl refl (keeps_none c.args.arena.now c.args.self.now)

pub returns-in-Ok-true-clause-plays : goal.returns-in-Ok-true-clause-plays
returns-in-Ok-true-clause-plays g c =
    let next = c.post_most.ensures.acts in
    (acts_then c.gather.ensures.gathers next.enough (next.acts c.gather.new.arena)).plays

pub returns-in-Ok-true-clause-out : goal.returns-in-Ok-true-clause-out
returns-in-Ok-true-clause-out g c =
    burst_after c.post_most.result c.args.most c.args.arena.now c.gather.new.arena c.args.self.now c.gather.new.self
    c.post_most.new.self c.args.out.now.items c.post_most.new.out.items c.gather.ensures.gathers.handed
    c.gather.ensures.gathers.keeps (c.post_most.ensures.out c.gather.new.arena)

pub returns-in-Ok-true-clause-fails : goal.returns-in-Ok-true-clause-fails
returns-in-Ok-true-clause-fails g c =
    let next = c.post_most.ensures.acts in
    fault_by
    (λ f. FailsBy f (g.N.Nic.made c.args.nic.now) c.args.arena.now c.args.self.now (g.N.Nic.made c.post_most.new.nic)
    c.gather.new.arena c.post_most.new.self)
    c.post_most.result (acts_then c.gather.ensures.gathers next.enough (next.acts c.gather.new.arena)).fails

pub returns-in-Ok-true-clause-waits : goal.returns-in-Ok-true-clause-waits
returns-in-Ok-true-clause-waits g c short = absurd (c.post_most.ensures.acts.enough (ap fault_in short))
