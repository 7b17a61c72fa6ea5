use Rattle.std.proofs.Common.{refl}
use Rattle.intr_unit.specs.Interrupts.{raised}
use Rattle.register_file.proofs.InPlace.{stepped}
use Rattle.register_file.proofs.register_file.RegisterFile.set_causes.Goals as goal

pub returns : goal.returns
returns c =
    rw (← c.auto_masks-auto.ensures) (stepped c.self.inside c.args.self.now c.args.group
    (λ s. raised s c.args.bits c.auto_masks-auto.result) c.of-own.result.now c.raise.new.self c.self.view_is
    c.requires c.of-own.ensures.all c.of-own.ensures.value c.of-own.ensures.own c.raise.ensures
    (record { group = λ s. refl; auto_clear = λ s. refl; auto_mask = λ s. refl }))
