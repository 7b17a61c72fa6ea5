use Rattle.std.proofs.Common.{Ok, Err, ap, subst}
use Rattle.pmd_driver.specs.PmdAccess.Bufs.{numbers_of}
use Rattle.pmd_driver.specs.PmdRx.Keeping.{numbers_in}
use Rattle.pmd_driver.specs.PmdTx.Sends.{returned}
use Rattle.pmd_driver.specs.PmdTx.declared.answer.TxAnswer.{TxAnswer}
use Rattle.pmd_driver.specs.Driver.{Driver}
use Rattle.pmd.specs.Kept.{KeepsAll}
use Rattle.pmd.proofs.Keeping.{kept_all}
use Rattle.pmd.proofs.Returning.{fault_back}
use Rattle.pmd.proofs.turns.send.Goals as goal

pub returns-in-Err-clause-home : goal.returns-in-Err-clause-home
returns-in-Err-clause-home g c =
    fault_back (g.N.Nic.made c.args.nic.now) (g.N.Nic.made c.tx.new.nic) c.args.pmd.now.rings c.tx.new.self.rings
    c.args.packet c.in-Err.field-0 c.requires c.in-Err.ensures.sent
    (λ down. let (answer, made, same) = c.in-Err.ensures.down down in (answer, ap (λ (d : Driver). d.rings) same))

pub returns-in-Ok-Taken-clause-blocks : goal.returns-in-Ok-Taken-clause-blocks
returns-in-Ok-Taken-clause-blocks g c =
    let e = c.in-Ok-Taken.ensures in
    let old = c.args.pmd.now.rings in
    let ns = numbers_of c.args.packet.bufs in
    subst (λ (x : TxAnswer). KeepsAll old ns c.tx.new.self.rings (numbers_in (returned (Ok x))))
    c.in-Ok-Taken.field-0-is
    (kept_all old c.tx.new.self.rings ns (numbers_in (returned (Ok c.in-Ok-Taken.field-0))) e.blocks)

pub returns-in-Ok-RingFull-clause-blocks : goal.returns-in-Ok-RingFull-clause-blocks
returns-in-Ok-RingFull-clause-blocks g c =
    let e = c.in-Ok-RingFull.ensures in
    let old = c.args.pmd.now.rings in
    let ns = numbers_of c.args.packet.bufs in
    subst (λ (x : TxAnswer). KeepsAll old ns c.tx.new.self.rings (numbers_in (returned (Ok x))))
    c.in-Ok-RingFull.field-0-is
    (kept_all old c.tx.new.self.rings ns (numbers_in (returned (Ok c.in-Ok-RingFull.field-0))) e.blocks)

pub returns-in-Err-clause-blocks : goal.returns-in-Err-clause-blocks
returns-in-Err-clause-blocks g c =
    kept_all c.args.pmd.now.rings c.tx.new.self.rings (numbers_of c.args.packet.bufs)
    (numbers_in (returned (Err c.in-Err.field-0))) c.in-Err.ensures.blocks
