use Rattle.std.proofs.Common.{refl}
use Rattle.pmd_access.proofs.setup.set.Goals as goal

pub returns-in-Ok-true-clause-set : goal.returns-in-Ok-true-clause-set
returns-in-Ok-true-clause-set g c = (
  g.N.Nic.made c.write.new.nic,
  (
    c.addr_of-address.result,
    record {
      first = c.addr_of-address.ensures.first;
      names = c.addr_of-address.ensures.back;
      whole = c.addr_of-address.ensures.whole;
    },
    rw c.in-Ok-true.field-0-test at c.in-Ok-true.ensures.made,
  ),
  refl,
)
