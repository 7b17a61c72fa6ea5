use Rattle.std.proofs.Common.{sym, ap, subst, ◌∙◌, arith}
use Rattle.pmd_access.specs.Asks.{fault_in}
use Rattle.pmd_access.proofs.Exchanging.{out_kept}
use Rattle.pmd_rx.specs.Keeping.{blocks_out}
use Rattle.pmd_rx.specs.Receive.{Receive, HasLent}
use Rattle.pmd_rx.specs.declared.ring.Stage.{Stage}
use Rattle.pmd_rx.proofs.Acting.{gathers_then, name_gathers}
use Rattle.pmd_rx.proofs.Failing.{err_of}
use Rattle.pmd_rx.proofs.Handing.{owes_room, owed_here, owed_some, owes_less, takes_less, lent_less}
use Rattle.pmd_rx.proofs.ring.ReceiveRing.refill_next.Goals as goal

pub lend_and_name-requires-clause-room : goal.lend_and_name-requires-clause-room
lend_and_name-requires-clause-room g c =
    let keeps = (c.take_part.ensures.gathers.gathers c.args.arena.now).keeps in
    owes_room c.take_part.new.self (keeps.running c.requires.running) c.in-Ok.ensures.taken.0

pub lend_and_name-requires-clause-home : goal.lend_and_name-requires-clause-home
lend_and_name-requires-clause-home g c =
    let a = c.args.arena.now in
    out_kept a (blocks_out c.args.self.now) a (blocks_out c.take_part.new.self) c.requires.home
    (c.take_part.ensures.gathers.gathers a).keeps.arena

pub returns-in-Ok-clause-enough : goal.returns-in-Ok-clause-enough
returns-in-Ok-clause-enough g c short =
    owed_some c.args.self.now c.args.arena.now (omega (arith, c.in-Ok.ensures.taken.1)) c.requires.free
    (c.lend_and_name.ensures.none short)

pub returns-in-Ok-clause-gathers : goal.returns-in-Ok-clause-gathers
returns-in-Ok-clause-gathers g c =
    let a = c.args.arena.now in
    gathers_then (c.take_part.ensures.gathers.gathers a)
    (λ short. owed_some c.args.self.now a (omega (arith, c.in-Ok.ensures.taken.1)) c.requires.free
    (c.lend_and_name.ensures.none (err_of c.lend_and_name.result short)))
    c.lend_and_name.ensures.gathers

pub returns-in-Ok-clause-more : goal.returns-in-Ok-clause-more
returns-in-Ok-clause-more g c =
    let a = c.args.arena.now in
    let runs = (c.take_part.ensures.gathers.gathers a).keeps.running c.requires.running in
    takes_less c.lend_and_name.result a c.lend_and_name.new.arena c.take_part.new.self c.args.self.now
    c.lend_and_name.new.self (sym (ap (λ (v : Receive). v.stage) c.self.view_is) ∙ c.in-Takes.is)
    c.in-Ok.ensures.taken.0 c.in-Ok.ensures.taken.1 c.take_part.ensures.whole
    (owes_less c.lend_and_name.result a c.lend_and_name.new.arena c.take_part.new.self c.lend_and_name.new.self
    c.in-Ok.ensures.taken.0 runs.stage c.lend_and_name.ensures.named)

pub returns-in-Err-clause-gathers : goal.returns-in-Err-clause-gathers
returns-in-Err-clause-gathers g c = c.in-Err.ensures.gathers.gathers c.args.arena.now

pub returns-in-Err-clause-enough : goal.returns-in-Err-clause-enough
returns-in-Err-clause-enough g c short = absurd (c.in-Err.ensures.gathers.enough (ap fault_in short))

pub returns-in-Owes-clause-more : goal.returns-in-Owes-clause-more
returns-in-Owes-clause-more g c =
    let next = c.lend_and_name-in-Owes in
    owes_less next.result c.args.arena.now next.new.arena c.args.self.now next.new.self
    (sym (ap (λ (v : Receive). v.stage) c.self.view_is) ∙ c.in-Owes.is) c.requires.running.stage next.ensures.named

pub returns-in-Owes-clause-enough : goal.returns-in-Owes-clause-enough
returns-in-Owes-clause-enough g c short =
    owed_here c.args.self.now c.args.arena.now (sym (ap (λ (v : Receive). v.stage) c.self.view_is) ∙ c.in-Owes.is)
    c.requires.free (c.lend_and_name-in-Owes.ensures.none short)

pub returns-in-Lent-clause-gathers : goal.returns-in-Lent-clause-gathers
returns-in-Lent-clause-gathers g c =
    let lent = sym (ap (λ (v : Receive). v.stage) c.self.view_is) ∙ c.in-Lent.is in
    let n = c.name_fresh.ensures in
    let there = subst (λ (s : Stage). HasLent s) (sym lent) tt in
    (name_gathers c.name_fresh.result there n.made n.named n.kept n.failed).gathers c.args.arena.now

pub returns-in-Lent-clause-enough : goal.returns-in-Lent-clause-enough
returns-in-Lent-clause-enough g c short =
    let lent = sym (ap (λ (v : Receive). v.stage) c.self.view_is) ∙ c.in-Lent.is in
    let n = c.name_fresh.ensures in
    let there = subst (λ (s : Stage). HasLent s) (sym lent) tt in
    absurd ((name_gathers c.name_fresh.result there n.made n.named n.kept n.failed).enough (ap fault_in short))

pub returns-in-Lent-clause-more : goal.returns-in-Lent-clause-more
returns-in-Lent-clause-more g c =
    let lent = sym (ap (λ (v : Receive). v.stage) c.self.view_is) ∙ c.in-Lent.is in
    lent_less c.name_fresh.result c.args.arena.now c.args.self.now c.name_fresh.new.self
    (subst (λ (s : Stage). HasLent s) (sym lent) tt) c.requires.running.stage c.name_fresh.ensures.named
