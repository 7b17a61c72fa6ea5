use Rattle.pmd_driver.specs.Driver.{arena_of}
use Rattle.pmd_driver.proofs.Filling.{filled_of}
use Rattle.pmd_driver.proofs.driver.Pmd.packet_of.Goals as goal

pub returns-in-Some-clause-made : goal.returns-in-Some-clause-made
returns-in-Some-clause-made c =
    filled_of (arena_of c.args.self.now.rings) (arena_of c.packet.new.self.rings) c.args.bytes.now c.in-Some.packet
    c.with_bytes.result c.in-Some.ensures.made c.with_bytes.ensures.bytes c.with_bytes.ensures.numbers
    c.with_bytes.ensures.rest
