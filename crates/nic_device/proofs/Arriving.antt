-- Frames that arrive leave the device sound and change nothing outside their reach.
use Rattle.std.proofs.Common.{◌≡◌, ◌<◌, ◌≤◌, ℕ, true, false, List, [], ◌∷◌, ◌++◌, length, refl, arith, Ok}
use Rattle.std.proofs.lemmas.List.Elements.{All-push}
use Rattle.rx_filter.specs.Sorting.{sorted}
use Rattle.rx_filter.specs.declared.target.Target.{Target}
use Rattle.register_file.specs.IntrUnit.declared.group.Group.TheVariants.{Pf}
use Rattle.register_file.specs.RegTable.declared.rows.RowId.TheVariants.{Gprc, Ruc, Roc}
use Rattle.register_file.specs.Counters.{counted}
use Rattle.register_file.specs.Settings.{frame_limit}
use Rattle.register_laws.specs.Footprint.{either, counters, pending}
use Rattle.nic_device.specs.Arrival.{arrived, missed, let_in, with_count}
use Rattle.nic_device.specs.Sound.{AreBytes, IsBegunWhileOn, IsSound}
use Rattle.nic_device.specs.State.{State}
use Rattle.nic_device.proofs.Cases.{arrived_cases}
use Rattle.nic_device.proofs.Keeping.{sound-registers, sound-waiting}
use Rattle.nic_device.proofs.Leads.{Leads, leads-still, leads-to, leads-registers}
use Rattle.nic_device.proofs.Fetched.{frame_limit-lt}
use Rattle.nic_device.proofs.Queued.{AreWaiting-joined, IsUnbegun-let_in, length-joined}
use Rattle.nic_device.proofs.Raising.{arrival_counted, missed-comes}
use Rattle.nic_device.proofs.SidesOn.{on_kept, sides_kept, spares-arrival}
use Rattle.nic_device.specs.declared.event.Event.TheVariants as event
use Rattle.nic_device.specs.declared.event.Reply.TheVariants.{Done, Dropped}
use Rattle.nic_device.specs.declared.event.Why.TheVariants.{Short, Long, Full}

-- A device is still sound after a frame joins the receive list.
joined_sound : (s : State) (frame : List ℕ) (t : Target) → sorted s.registers frame ≡ Ok t → length s.waiting < s.fifo
    → 60 ≤ length frame → length frame ≤ frame_limit s.registers → IsSound s → AreBytes frame
    → IsSound (record (with_count s Gprc) { waiting = s.waiting ++ let_in frame t ∷ [] })
joined_sound s frame t is room long short h bytes =
    let r = counted s.registers Gprc 0 in
    let counts = arrival_counted s.registers Gprc (record { bank = refl; kind = refl }) in
    let sides = sides_kept (either counters (pending Pf)) s.registers r spares-arrival counts.within in
    let counted = sound-registers s r h (counts.sound tt h.registers) (on_kept s.registers r sides) in
    let limit = frame_limit-lt s.registers h.registers in
    let new = IsUnbegun-let_in s.registers frame t is bytes long (omega arith) in
    sound-waiting (with_count s Gprc) _ counted (AreWaiting-joined s.waiting (let_in frame t) new h.waiting)
    (All-push (IsBegunWhileOn r) s.waiting (let_in frame t) counted.begun (λ some. absurd (omega arith)))
    (length-joined s.waiting (let_in frame t) s.fifo room)

pub arrive_leads : (s : State) (frame : List ℕ) → Leads s (event.Arrive frame) (arrived s frame)
arrive_leads s frame =
    let e = event.Arrive frame in
    arrived_cases (Leads s e) s frame (record {
      dropped = λ why. leads-still s e (Dropped why) (λ no. refl);
      short = leads-registers s e (Dropped Short) (counted s.registers Ruc 0) (λ h is. tt)
          (arrival_counted s.registers Ruc (record { bank = refl; kind = refl })) spares-arrival refl;
      long = leads-registers s e (Dropped Long) (counted s.registers Roc 0) (λ h is. tt)
          (arrival_counted s.registers Roc (record { bank = refl; kind = refl })) spares-arrival refl;
      missed = leads-registers s e (Dropped Full) (missed s).registers (λ h is. tt) (missed-comes s.registers)
          spares-arrival refl;
      joined = λ t is room long short.
          let counts = arrival_counted s.registers Gprc (record { bank = refl; kind = refl }) in
          let longer : true ≡ false → s.waiting ++ let_in frame t ∷ [] ≡ s.waiting = λ no. cc in
          leads-to s e Done _ (λ h bytes. joined_sound s frame t is room long short h bytes)
          (assumption (counts.within, longer)) refl refl;
    })
