use Rattle.std.proofs.Common.{◌≡◌, ◌<◌, List, [], ◌∷◌, ◌++◌, ◌∙◌, ap, arith, length, refl, subst, sym}
use Rattle.nic_device.specs.Outcome.{Outcome}
use Rattle.nic_device.specs.Resting.{IsIdle}
use Rattle.nic_device.specs.declared.event.Reply.TheVariants.{Idle}
use Rattle.device_lock.specs.History.{entry_of}
use Rattle.device_lock.specs.Kept.{Held}
use Rattle.device_lock.specs.Packed.{entries_in}
use Rattle.device_lock.specs.declared.entry.Entry.{Entry}
use Rattle.device_lock.proofs.Histories.{kept_more}
use Rattle.device_lock.proofs.Unpacking.{rested-more, room_more}
use Rattle.device_lock.proofs.locked.Locked.idle.Goals as goal

pub invariant_of-self-2 : goal.invariant_of-self-2
invariant_of-self-2 g c =
    let l = c.self.inside in
    let old = entries_in l.whole.items l.packed.items l.rested in
    let new = entries_in c.hold_room.new.whole.items l.packed.items c.in-Some.rested in
    let one = entry_of c.args.tag c.args.step.now Idle ∷ [] in
    let room : length old < l.limit = omega (arith, c.self.invariant.1.counted) in
    let idle = subst (λ (h : Held). IsIdle h.device c.args.step.now) (sym c.self.view_is) c.requires.idle in
    let more : new ≡ old ++ one =
    ap (λ (w : List Entry). entries_in w l.packed.items c.in-Some.rested) c.hold_room.ensures.same
    ∙ rested-more l.whole.items l.packed.items l.rested c.in-Some.rested one c.in-Some.ensures in (
      kept_more g.row.VFS g.row.FIFO (record { device = l.device; history = old; limit = l.limit }) l.counts c.args.tag
          c.args.step.now c.args.step.now Idle Idle l.device new c.count_one.new.counts c.self.invariant.0 (omega arith)
          c.requires.tag room c.requires.event refl refl
          (sym (ap (λ (o : Outcome). o.reply) idle)) (sym (ap (λ (o : Outcome). o.state) idle))
          more c.count_one.ensures,
      room_more old new one l.count _ c.self.invariant.1.counted more
          (c.hold_room.ensures.room c.if-not-hold_room.false),
    )
