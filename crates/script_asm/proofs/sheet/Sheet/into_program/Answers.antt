use Rattle.std.proofs.Common.{ap}
use Rattle.script_asm.specs.Outline.{Outline}
use Rattle.script_asm.proofs.ResolvedSound.{with_resolved-IsListing}
use Rattle.script_asm.proofs.sheet.Sheet.into_program.Goals as goal

pub new-requires : goal.new-requires
new-requires c =
    rw (ap (λ (outline : Outline). outline.strings) c.self.view_is)
    (with_resolved-IsListing c.args.self _ c.requires c.in_ok-instructions.ensures.gives)
