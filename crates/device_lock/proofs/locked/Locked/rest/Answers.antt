use Rattle.std.proofs.Common.{◌≡◌, List, [], ◌++◌, ◌∙◌, ap, arith, rules}
use Rattle.device_lock.specs.Packed.{entries_in}
use Rattle.device_lock.specs.Resting.{idle_entries, steps_in}
use Rattle.device_lock.specs.Stepping.{steps_of_queue}
use Rattle.device_lock.specs.declared.entry.Entry.{Entry}
use Rattle.device_lock.specs.declared.packed.Rested.{Rested}
use Rattle.device_lock.proofs.AtRest.{kept_rest, rest_few}
use Rattle.device_lock.proofs.Unpacking.{room_more, steps-more}
use Rattle.device_lock.proofs.locked.Locked.rest.Goals as goal

pub count_steps-requires-clause-few : goal.count_steps-requires-clause-few
count_steps-requires-clause-few g c =
    let l = c.self.inside in
    let few = c.has_room.ensures.few c.if-not-has_room.false in
    rest_few g.row.VFS g.row.FIFO
    (record { device = l.device; history = entries_in l.whole.items l.packed.items l.rested; limit = l.limit })
    l.counts c.args.tag c.self.invariant.0 c.requires (omega (arith, few, c.self.invariant.1.counted))

pub invariant_of-self-2 : goal.invariant_of-self-2
invariant_of-self-2 g c =
    let l = c.self.inside in
    let old = entries_in l.whole.items l.packed.items l.rested in
    let then : Rested = record { pass = c.args.tag; steps = c.in-Some.steps } in
    let new = entries_in c.has_room.new.whole.items l.packed.items then in
    let steps = idle_entries c.args.tag (steps_of_queue c.args.queue) in
    let none : steps_in l.rested.steps ≡ [] = search (rules, c.is_none.ensures, c.if-not-is_none.false) in
    let more : new ≡ old ++ steps =
    ap (λ (w : List Entry). entries_in w l.packed.items then) c.has_room.ensures.same
    ∙ steps-more l.whole.items l.packed.items l.rested then c.args.queue none c.in-Some.ensures in
    let few = c.has_room.ensures.few c.if-not-has_room.false in (
      kept_rest g.row.VFS g.row.FIFO (record { device = l.device; history = old; limit = l.limit }) l.counts c.args.tag
          c.args.queue new c.count_steps.new.counts c.self.invariant.0 (omega arith) c.requires (omega arith)
          (omega (arith, few, c.self.invariant.1.counted)) (c.is_at_rest.ensures.idle c.if-not-is_at_rest.false) more
          c.count_steps.ensures,
      room_more old new steps l.count _ c.self.invariant.1.counted more
          (c.has_room.ensures.room c.if-not-has_room.false),
    )
