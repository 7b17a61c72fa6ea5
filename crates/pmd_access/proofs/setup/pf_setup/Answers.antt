use Rattle.std.proofs.Common.{sym}
use Rattle.std.proofs.lemmas.Result.{err_from_is_err_and}
use Rattle.pmd_access.proofs.Asking.{asks_then}
use Rattle.pmd_access.proofs.Sequences.{part_set, part_stops}
use Rattle.pmd_access.proofs.setup.pf_setup.Goals as goal

pub returns-in_err-set_part-clause-failed : goal.returns-in_err-set_part-clause-failed
returns-in_err-set_part-clause-failed g c =
    let p = err_from_is_err_and c.from_residual.result c.from_residual.ensures.1 in
    rw (p.1, p.2, sym c.parts_of.ensures.settings)
    (λ may. part_stops c.parts_of.result c.loop-part.part-index _ c.loop-part-test.true
    (g.N.Nic.made c.args.nic.now) (g.N.Nic.made c.loop-part.nic) (g.N.Nic.made c.set_part.new.nic)
    c.loop-part.invariant.1 c.in_err-set_part.field-0.0 c.in_err-set_part.ensures.failed)

pub loop-part-preserved : goal.loop-part-preserved
loop-part-preserved g c = (
  asks_then c.loop-part.invariant.0 c.in_ok-set_part.ensures.asks,
  part_set c.parts_of.result c.loop-part.part-index _ c.loop-part-test.true (g.N.Nic.made c.args.nic.now)
      (g.N.Nic.made c.loop-part.nic) (g.N.Nic.made c.set_part.new.nic) c.loop-part.invariant.1
      c.in_ok-set_part.ensures.set,
)
