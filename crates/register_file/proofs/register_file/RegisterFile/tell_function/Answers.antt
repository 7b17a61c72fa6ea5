use Rattle.std.proofs.Common.{sym, subst}
use Rattle.intr_unit.specs.BitSet.{IsSubset}
use Rattle.intr_unit.specs.Group.{group_bits}
use Rattle.intr_unit.specs.declared.group.Group.TheVariants.{Vf}
use Rattle.register_file.proofs.Raising.{queue_cause}
use Rattle.register_file.proofs.register_file.RegisterFile.tell_function.Goals as goal

pub set_cause-requires-clause-bits : goal.set_cause-requires-clause-bits
set_cause-requires-clause-bits c =
    subst (λ s. IsSubset s (group_bits (Vf c.args.v))) (sym c.queue_causes.ensures) (queue_cause c.args.v _)
