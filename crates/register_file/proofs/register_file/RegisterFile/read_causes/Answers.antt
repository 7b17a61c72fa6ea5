use Rattle.std.proofs.Common.{refl}
use Rattle.intr_unit.specs.Interrupts.{after_read}
use Rattle.register_file.proofs.InPlace.{stepped}
use Rattle.register_file.proofs.register_file.RegisterFile.read_causes.Goals as goal

pub returns : goal.returns
returns c =
    rw (← c.clears_others-ocd.ensures, ← c.auto_masks-auto.ensures) (stepped c.self.inside c.args.self.now
    c.args.group (λ s. after_read s c.clears_others-ocd.result c.auto_masks-auto.result) c.of-own.result.now
    c.read.new.self c.self.view_is c.requires c.of-own.ensures.all c.of-own.ensures.value c.of-own.ensures.own
    c.read.ensures
    (record { group = λ s. refl; auto_clear = λ s. refl; auto_mask = λ s. refl }))
