use Rattle.std.proofs.Common.{refl}
use Rattle.card.proofs.Moves.{made-tried, write-replies}
use Rattle.card.proofs.card.Card.write.Goals as goal

pub is_stray-requires : goal.is_stray-requires
is_stray-requires c =
    write-replies c.self.inside.device c.args.port c.args.number c.args.word c.in-Ok.reply c.in-Ok.ensures.reply

pub invariant_of-self : goal.invariant_of-self
invariant_of-self c =
    made-tried c.self.inside.device c.step.new.self c.self.inside.arena _ c.step.result c.self.invariant refl
    c.step.ensures.state c.step.ensures.unchanged
