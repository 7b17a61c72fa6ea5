use Rattle.std.proofs.Common.{refl}
use Rattle.intr_unit.specs.Interrupts.{after_mask_clear}
use Rattle.register_file.proofs.InPlace.{stepped}
use Rattle.register_file.proofs.register_file.RegisterFile.clear_masks.Goals as goal

pub returns : goal.returns
returns c =
    stepped c.self.inside c.args.self.now c.args.group (λ s. after_mask_clear s c.args.bits) c.of-own.result.now
    c.mask_clear.new.self c.self.view_is c.requires c.of-own.ensures.all c.of-own.ensures.value c.of-own.ensures.own
    c.mask_clear.ensures
    (record { group = λ s. refl; auto_clear = λ s. refl; auto_mask = λ s. refl })
