use Rattle.std.proofs.Common.{List, length, ap, arith}
use Rattle.pmd_access.specs.declared.packet.Packet.{Packet}
use Rattle.pmd_rx.proofs.Acting.{gathers_alone}
use Rattle.pmd_rx.proofs.Moving.{none_keeps, none_handed}
use Rattle.pmd_rx.proofs.ring.ReceiveRing.post_named.Goals as goal

pub returns-clause-gathers : goal.returns-clause-gathers
returns-clause-gathers g c =
    let p = c.post_all-answer in
    let v = c.args.self.now in
    gathers_alone p.ensures.acts
    (λ a. none_keeps a p.result v p.new.self c.requires.none.0 p.ensures.hands p.ensures.kept)
    (none_handed p.result v p.new.self c.requires.none.0 p.ensures.hands p.ensures.kept)
    (omega (arith, ap (λ (ps : List Packet). length ps) c.requires.none.0))

pub returns-clause-moved : goal.returns-clause-moved
returns-clause-moved g c = c.post_all-answer.ensures.moved
