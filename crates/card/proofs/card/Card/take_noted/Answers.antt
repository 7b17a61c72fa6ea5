use Rattle.card.proofs.Moves.{taken-returned, taken-shared}
use Rattle.card.proofs.card.Card.take_noted.Goals as goal

pub note_returned-requires-clause-own : goal.note_returned-requires-clause-own
note_returned-requires-clause-own c =
    taken-returned c.self.inside.device c.self.inside.arena c.args.block c.in-Ok.reply c.self.invariant
    c.in-Ok.ensures.reply

pub invariant_of-self : goal.invariant_of-self
invariant_of-self c =
    taken-shared c.self.inside.device c.step.new.self c.self.inside.arena c.note_returned.new.arena c.args.block
    c.in-Ok.reply c.self.invariant c.in-Ok.ensures.reply c.in-Ok.ensures.state c.note_returned.ensures.arena
