use Rattle.std.proofs.Common.{ap}
use Rattle.pmd_access.specs.Asks.{fault_in}
use Rattle.pmd_rx.proofs.Acting.{gathers_then, name_gathers}
use Rattle.pmd_rx.proofs.Handing.{lent_named}
use Rattle.pmd_rx.proofs.ring.ReceiveRing.lend_and_name.Goals as goal

pub name_fresh-requires : goal.name_fresh-requires
name_fresh-requires g c = rw c.in-Ok.ensures.lent.3 tt

pub returns-in-Ok-clause-gathers : goal.returns-in-Ok-clause-gathers
returns-in-Ok-clause-gathers g c =
    let lent = c.in-Ok.ensures.lent in
    let n = c.name_fresh.ensures in
    let named = name_gathers c.name_fresh.result (rw lent.3 tt) n.made n.named n.kept n.failed in
    gathers_then c.lend_fresh.ensures.gathers named.enough (named.gathers c.lend_fresh.new.arena)

pub returns-in-Ok-clause-named : goal.returns-in-Ok-clause-named
returns-in-Ok-clause-named g c =
    let lent = c.in-Ok.ensures.lent in
    lent_named c.name_fresh.result c.args.arena.now c.lend_fresh.new.arena c.args.self.now c.lend_fresh.new.self
    c.name_fresh.new.self lent.0 lent.1 lent.2 lent.3 c.name_fresh.ensures.named

pub returns-in-Ok-clause-none : goal.returns-in-Ok-clause-none
returns-in-Ok-clause-none g c short =
    let n = c.name_fresh.ensures in
    absurd
    ((name_gathers c.name_fresh.result (rw c.in-Ok.ensures.lent.3 tt) n.made n.named n.kept n.failed).enough
    (ap fault_in short))
