use Rattle.std.proofs.Common.{ap, ◌∙◌}
use Rattle.intr_unit.specs.Interrupts.{next_vector}
use Rattle.register_file.specs.Groups.{interrupts_of}
use Rattle.register_file.proofs.InPlace.{messaged, vector_shown}
use Rattle.register_file.proofs.register_file.RegisterFile.message.Goals as goal

pub returns-clause-vector : goal.returns-clause-vector
returns-clause-vector c =
    c.message.ensures.vector
    ∙ vector_shown c.self.inside c.args.self.now c.args.group c.word-misc.result c.of-own.result.now c.self.view_is
    c.requires c.of-own.ensures.all c.of-own.ensures.value c.of-own.ensures.own
    ∙ ap (next_vector (interrupts_of c.args.self.now c.args.group)) c.word-misc.ensures

pub returns-clause-state : goal.returns-clause-state
returns-clause-state c =
    rw (← c.masks_by_message-eiame.ensures, ← c.word-misc.ensures) (
    messaged c.self.inside c.args.self.now c.args.group c.masks_by_message-eiame.result c.word-misc.result
    c.of-own.result.now c.message.new.self c.self.view_is c.requires c.of-own.ensures.all c.of-own.ensures.value
    c.of-own.ensures.own c.message.ensures.state
    )
