use Rattle.std.proofs.Common.{ap}
use Rattle.pmd_access.specs.Asks.{fault_in}
use Rattle.pmd_access.proofs.Asking.{fault_by}
use Rattle.pmd_rx.specs.Wrong.{FailsBy}
use Rattle.pmd_rx.proofs.Acting.{gathers_then}
use Rattle.pmd_rx.proofs.ring.ReceiveRing.post.Goals as goal

pub returns-in-Ok-clause-plays : goal.returns-in-Ok-clause-plays
returns-in-Ok-clause-plays g c =
    let next = c.post_named.ensures.gathers in
    (gathers_then c.lend_and_name.ensures.gathers next.enough (next.gathers c.lend_and_name.new.arena)).acts.plays

pub returns-in-Ok-clause-none : goal.returns-in-Ok-clause-none
returns-in-Ok-clause-none g c short = absurd (c.post_named.ensures.gathers.enough (ap fault_in short))

pub returns-in-Ok-clause-handed : goal.returns-in-Ok-clause-handed
returns-in-Ok-clause-handed g c =
    let next = c.post_named.ensures.gathers in
    (gathers_then c.lend_and_name.ensures.gathers next.enough (next.gathers c.lend_and_name.new.arena)).handed

pub returns-in-Ok-clause-fails : goal.returns-in-Ok-clause-fails
returns-in-Ok-clause-fails g c =
    let next = c.post_named.ensures.gathers in
    fault_by
    (λ f. FailsBy f (g.N.Nic.made c.args.nic.now) c.args.arena.now c.args.self.now (g.N.Nic.made c.post_named.new.nic)
    c.lend_and_name.new.arena c.post_named.new.self)
    c.post_named.result
    (gathers_then c.lend_and_name.ensures.gathers next.enough (next.gathers c.lend_and_name.new.arena)).acts.fails

pub returns-in-Ok-clause-keeps : goal.returns-in-Ok-clause-keeps
returns-in-Ok-clause-keeps g c =
    let next = c.post_named.ensures.gathers in
    (gathers_then c.lend_and_name.ensures.gathers next.enough (next.gathers c.lend_and_name.new.arena)).keeps
