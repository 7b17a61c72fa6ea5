use Rattle.pmd_access.proofs.Exchanging.{out_kept}
use Rattle.pmd_rx.specs.Keeping.{blocks_out}
use Rattle.pmd_rx.proofs.Acting.{gathers_none, gathers_then}
use Rattle.pmd_rx.proofs.ring.ReceiveRing.gather.Goals as goal

pub returns-then-has_whole-clause-gathers : goal.returns-then-has_whole-clause-gathers
returns-then-has_whole-clause-gathers g c = gathers_none _ tt

pub take_more-requires-clause-home : goal.take_more-requires-clause-home
take_more-requires-clause-home g c =
    out_kept c.args.arena.now (blocks_out c.args.self.now) c.take_next.new.arena (blocks_out c.take_next.new.self)
    c.requires.home c.take_next.ensures.gathers.keeps.arena

pub returns-in-Ok-true-clause-gathers : goal.returns-in-Ok-true-clause-gathers
returns-in-Ok-true-clause-gathers g c =
    gathers_then c.take_next.ensures.gathers (λ short. cc) c.take_more.ensures.gathers
