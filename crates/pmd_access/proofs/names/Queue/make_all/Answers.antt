use Rattle.std.proofs.lemmas.Result.{err_from_is_err_and}
use Rattle.pmd_access.proofs.Asking.{asks_then}
use Rattle.pmd_access.proofs.QueueSequences.{made_next, made_stops}
use Rattle.pmd_access.proofs.names.Queue.make_all.Goals as goal

pub returns-in_err-make-clause-failed : goal.returns-in_err-make-clause-failed
returns-in_err-make-clause-failed g c =
    let p = err_from_is_err_and c.from_residual.result c.from_residual.ensures.1 in
    rw (p.1, p.2)
    (made_stops c.args.self.now c.in_err-make.field-0.0 (g.N.Nic.made c.args.nic.now) (g.N.Nic.made c.loop-access.nic)
    (g.N.Nic.made c.make.new.nic) c.args.accesses.now c.loop-access.access-index _ c.loop-access-test.true
    c.loop-access.invariant.1 c.in_err-make.ensures.failed)

pub loop-access-preserved : goal.loop-access-preserved
loop-access-preserved g c = (
  asks_then c.loop-access.invariant.0 c.in_ok-make.ensures.asks,
  made_next c.args.self.now (g.N.Nic.made c.args.nic.now) (g.N.Nic.made c.loop-access.nic)
      (g.N.Nic.made c.make.new.nic) c.args.accesses.now c.loop-access.access-index _ c.loop-access-test.true
      c.loop-access.invariant.1 c.in_ok-make.ensures.made,
)
