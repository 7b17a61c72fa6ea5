use Rattle.card.proofs.Moves.{made-none, made-shared}
use Rattle.card.proofs.card.Card.make.Goals as goal

pub note_of-requires : goal.note_of-requires
note_of-requires c = made-none c.self.inside.device c.args.event c.in-Ok.reply c.requires c.in-Ok.ensures.reply

pub invariant_of-self : goal.invariant_of-self
invariant_of-self c =
    made-shared c.self.inside.device c.step.new.self c.self.inside.arena c.args.event c.self.invariant c.requires
    c.in-Ok.ensures.state
