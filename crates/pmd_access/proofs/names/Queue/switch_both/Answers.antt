use Rattle.std.proofs.Common.{List, inr, subst}
use Rattle.std.proofs.lemmas.Result.{err_from_is_err_and}
use Rattle.pmd_access.specs.Both.{both_asked}
use Rattle.pmd_access.specs.QueueMade.{Access, AreMade}
use Rattle.pmd_access.proofs.Polling.{polled_left, left_end}
use Rattle.pmd_access.proofs.names.Queue.switch_both.Goals as goal

pub returns-in_err-_last-clause-failed : goal.returns-in_err-_last-clause-failed
returns-in_err-_last-clause-failed g c =
    let p = err_from_is_err_and c.from_residual-in_err-_last.result c.from_residual-in_err-_last.ensures.1 in
    let asked = subst (λ (l : List Access). AreMade c.args.self.now (g.N.Nic.made c.args.nic.now)
    (g.N.Nic.made c.make_all.new.nic) l) c.both_asked.ensures.accesses c.in_ok-make_all.ensures.made in
    rw (p.1, p.2)
    (inr (inr (left_end c.args.self.now c.in_err-_last.field-0.0 (g.N.Nic.made c.args.nic.now)
    (g.N.Nic.made c.make_all.new.nic) (g.N.Nic.made c.poll.new.nic) (g.N.Nic.made c.poll-2.new.nic)
    (both_asked c.args.on) c.args.on 1000 c.in_ok-left.left c.in_ok-left.ensures.left.0 c.in_ok-left.ensures.left.1
    asked c.in_ok-left.ensures.made c.in_err-_last.ensures.failed)))

pub returns-clause-switched : goal.returns-clause-switched
returns-clause-switched g c =
    let asked = subst (λ (l : List Access). AreMade c.args.self.now (g.N.Nic.made c.args.nic.now)
    (g.N.Nic.made c.make_all.new.nic) l) c.both_asked.ensures.accesses c.in_ok-make_all.ensures.made in
    polled_left c.args.self.now (g.N.Nic.made c.args.nic.now) (g.N.Nic.made c.make_all.new.nic)
    (g.N.Nic.made c.poll.new.nic) (g.N.Nic.made c.poll-2.new.nic) (both_asked c.args.on) c.args.on 1000
    c.in_ok-left.left c.in_ok-_last._last c.in_ok-left.ensures.left.0 c.in_ok-left.ensures.left.1
    c.in_ok-_last.ensures.left.0 c.in_ok-_last.ensures.left.1 asked
    c.in_ok-left.ensures.made c.in_ok-_last.ensures.made
