use Rattle.std.proofs.Common.{◌≡◌, ◌<◌, List, [], ◌∷◌, ◌++◌, ◌∙◌, ap, arith, length}
use Rattle.device_lock.specs.History.{entry_of}
use Rattle.device_lock.specs.Packed.{entries_in}
use Rattle.device_lock.specs.declared.entry.Entry.{Entry}
use Rattle.device_lock.specs.declared.packed.Packed.{Packed}
use Rattle.device_lock.proofs.Histories.{kept_more, count_few}
use Rattle.device_lock.proofs.Unpacking.{room_more}
use Rattle.device_lock.proofs.locked.Locked.step.Goals as goal

pub count_one-requires : goal.count_one-requires
count_one-requires g c =
    let l = c.self.inside in
    let room : length (entries_in l.whole.items l.packed.items l.rested) < l.limit =
    omega (arith, c.self.invariant.1.counted) in
    record {
      tag = c.requires;
      few = count_few g.row.VFS g.row.FIFO _ l.counts c.args.tag c.self.invariant.0 c.requires room;
    }

pub invariant_of-self-in-Ok-step : goal.invariant_of-self-in-Ok-step
invariant_of-self-in-Ok-step g c =
    let l = c.self.inside in
    let old = entries_in l.whole.items l.packed.items l.rested in
    let new = entries_in c.hold_room.new.whole.items c.put_entry.new.packed.items c.put_entry.new.rested in
    let one = entry_of c.args.tag c.in-Ok.note c.note_of-reported.result ∷ [] in
    let room : length old < l.limit = omega (arith, c.self.invariant.1.counted) in
    let more : new ≡ old ++ one =
    c.put_entry.ensures c.hold_room.new.whole.items
    ∙ ap (λ (p : List Packed). entries_in c.hold_room.new.whole.items p l.rested ++ one) c.ready.ensures.same
    ∙ ap (λ (w : List Entry). entries_in w l.packed.items l.rested ++ one) c.hold_room.ensures.same in (
      kept_more g.row.VFS g.row.FIFO (record { device = l.device; history = old; limit = l.limit }) l.counts c.args.tag
          c.args.event c.in-Ok.note c.in-Ok-step.reply c.note_of-reported.result c.step.new.self new
          c.count_one.new.counts
          c.self.invariant.0 (omega arith) c.requires room c.is_of_a_driver.ensures c.in-Ok.ensures.note
          c.note_of-reported.ensures c.in-Ok-step.ensures.reply c.in-Ok-step.ensures.state more c.count_one.ensures,
      room_more old new one l.count _ c.self.invariant.1.counted more
          (c.hold_room.ensures.room c.if-not-hold_room.false),
    )
