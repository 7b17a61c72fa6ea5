use Rattle.std.proofs.Common.{List, length, None, refl, ap, arith}
use Rattle.pmd_access.specs.declared.packet.Packet.{Packet}
use Rattle.pmd_rx.specs.Receive.{took}
use Rattle.pmd_rx.proofs.Acting.{acts_alone, fails_alone, gathers_alone}
use Rattle.pmd_rx.proofs.Keeping.{keeps_to, took_keeps, took_owes, took_handed, took_whole}
use Rattle.pmd_rx.proofs.Own.{takes_own, take_asks, take_plays, take_misses, take_wrong}
use Rattle.pmd_rx.proofs.Playing.{plays_some}
use Rattle.pmd_rx.proofs.ring.ReceiveRing.take_part.Goals as goal

pub returns-in-Ok-Some-clause-gathers : goal.returns-in-Ok-Some-clause-gathers
returns-in-Ok-Some-clause-gathers g c =
    let v = c.args.self.now in
    let w = c.hold.new.self in
    let b = c.in-Ok-Some.buf in
    let own = takes_own v c.next_block-block.result _ c.requires.stage c.requires.some refl
    c.next_block-block.ensures.block in
    let own_as = takes_own v b.number _ c.requires.stage c.requires.some
    (rw c.in-Ok-Some.field-0-is at c.in-Ok-Some.ensures.number) c.next_block-block.ensures.block in
    let same = took_whole v w b c.hold.ensures in
    gathers_alone
    (acts_alone None
    (λ a. take_plays a (g.N.Nic.made c.args.nic.now) (g.N.Nic.made c.take.new.nic) v w c.next_block-block.result b own
    (rw c.in-Ok-Some.field-0-is at c.in-Ok-Some.ensures.made) c.hold.ensures)
    (λ a. tt))
    (λ a. keeps_to a a v (took v v.seen b) w _ c.hold.ensures (took_keeps a v b own_as c.next_block-block.ensures.some))
    (took_handed v w b c.hold.ensures) (omega (arith, ap (λ (ps : List Packet). length ps) same))

pub returns-in-Ok-Some-clause-whole : goal.returns-in-Ok-Some-clause-whole
returns-in-Ok-Some-clause-whole g c = took_whole c.args.self.now c.hold.new.self c.in-Ok-Some.buf c.hold.ensures

pub returns-in-Ok-Some-clause-taken : goal.returns-in-Ok-Some-clause-taken
returns-in-Ok-Some-clause-taken g c =
    took_owes c.args.self.now c.hold.new.self c.in-Ok-Some.buf c.requires.some c.hold.ensures

pub returns-in-Ok-None-clause-gathers : goal.returns-in-Ok-None-clause-gathers
returns-in-Ok-None-clause-gathers g c =
    let old = g.N.Nic.made c.args.nic.now in
    let new = g.N.Nic.made c.take.new.nic in
    let v = c.args.self.now in
    let own = takes_own v c.next_block-block.result _ c.requires.stage c.requires.some refl
    c.next_block-block.ensures.block in
    let missed = rw c.in-Ok-None.field-0-is at c.in-Ok-None.ensures.made in
    fails_alone _
    (λ a. take_misses a old new v c.next_block-block.result own missed)
    (λ a. take_wrong a old new v c.next_block-block.result own missed)

pub returns-in-Err-clause-gathers : goal.returns-in-Err-clause-gathers
returns-in-Err-clause-gathers g c =
    let v = c.args.self.now in
    let own = takes_own v c.next_block-block.result _ c.requires.stage c.requires.some refl
    c.next_block-block.ensures.block in
    fails_alone _
    (λ a. plays_some a (g.N.Nic.made c.args.nic.now) (g.N.Nic.made c.take.new.nic) v c.in-Err.ensures.refused)
    (λ a. take_asks a v c.next_block-block.result own)
