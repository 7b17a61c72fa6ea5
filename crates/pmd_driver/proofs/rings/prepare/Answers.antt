use Rattle.std.proofs.Common.{ℕ, inl, inr, refl, subst, ◌∙◌}
use Rattle.std.specs.List.{range_with_len}
use Rattle.pmd_access.specs.DeviceLock.declared.fault.CallFault.TheVariants.{OutOfMemory}
use Rattle.pmd_driver.specs.Starting.{StopsLending}
use Rattle.pmd_driver.proofs.Lending.{unwritten}
use Rattle.pmd_driver.proofs.rings.prepare.Goals as goal

pub returns-then-is_err-clause-prepares : goal.returns-then-is_err-clause-prepares
returns-then-is_err-clause-prepares g c = (
  c.args.ring,
  c.requires.free,
  inl (
    unwritten c.args.queue.now c.args.side c.args.ring c.args.size (g.N.Nic.made c.args.nic.now) (OutOfMemory tt),
    refl,
    c.reserve.ensures.items ∙ c.new-lent.ensures.items,
  ),
)

pub returns-in-Err-clause-prepares : goal.returns-in-Err-clause-prepares
returns-in-Err-clause-prepares g c =
    let none = c.reserve.ensures.items ∙ c.new-lent.ensures.items in
    (c.args.ring, c.requires.free, inl (c.in-Err.ensures.failed, refl, none))

pub returns-in-Err-lend_run-clause-prepares : goal.returns-in-Err-lend_run-clause-prepares
returns-in-Err-lend_run-clause-prepares g c = (
  c.args.ring,
  c.requires.free,
  inr (
    g.N.Nic.made c.lay_out.new.nic,
    c.in-Ok.ensures.made,
    subst (λ (n : ℕ). StopsLending c.in-Err-lend_run.fault (range_with_len c.args.ring n)
        (g.N.Nic.made c.lay_out.new.nic) c.args.arena.now (g.N.Nic.made c.lend_run.new.nic) c.lend_run.new.arena
        c.lend_run.new.lent.items) c.blocks_for-count.ensures.blocks c.in-Err-lend_run.ensures.lends,
  ),
)
