use Rattle.std.proofs.Common.{List, ◌∷◌, map, sym, ap, ◌∙◌, Vec, Global}
use Rattle.device_lock.specs.NicDevice.DmaArena.Block.{Block}
use Rattle.device_lock.specs.NicDevice.DmaArena.declared.buf.Buf.{Buf}
use Rattle.device_lock.specs.NicDevice.declared.event.Event.{Event}
use Rattle.pmd_access.specs.Scheduled.{Scheduled}
use Rattle.pmd_access.proofs.Making.{stops_in_list}
use Rattle.pmd_access.proofs.interleaved.Interleaved.make_next_list.Goals as goal

pub returns-in-Err-clause-stopped : goal.returns-in-Err-clause-stopped
returns-in-Err-clause-stopped c =
    let shown : List (Vec (Event Buf) Global) → List (List (Event Block)) = λ vs. map (λ v. v.items) vs in
    let after : List (List (Event Block)) = shown c.pop_front.new.self.items in
    stops_in_list c.args.self.now
    (record { handled = c.make_list.new.self; lists = shown c.push_front_reserved.new.self.items })
    c.self.inside.handled c.in-Some.list.items c.from_vec-waiting.result.items c.make_list.new.list.items after
    (ap (λ (s : Scheduled). s.handled) c.self.view_is)
    (sym (ap (λ (s : Scheduled). s.lists) c.self.view_is) ∙ ap shown c.in-Some.ensures.items)
    c.from_vec-waiting.ensures.items
    (ap shown c.push_front_reserved.ensures.items
    ∙ ap (λ (l : List (Event Block)). l ∷ after) c.into_vec.ensures.items)
    c.in-Err.ensures.left c.in-Err.ensures.stopped
