-- The enable register of the driver's transmit side, and a side that is off.
use Rattle.ring_laws.proofs.Steady.{asked, idle_silent, off_idle, off_steady, seen_off, steady_kept, unwanted_steady}
use Rattle.ring_laws.specs.Prelude.{Block, Entry, Event, Memory, State, Tx, Txdctl, after, place}
use Rattle.ring_laws.{proofs.Deeds.side_did, proofs.Left.transmit_left, specs.Left.Deed, specs.Prelude.leads_to}
use Rattle.{device_laws.proofs.StandingAccesses.write_memory, ring_laws.proofs.Left.plain-write}
use Rattle.{ring_laws.specs.Sides.Side}
use Rattle.ring_laws.specs.{Off.AllLeaveSide, Off.GuardIsOff, Off.IsOff, Off.LeavesSide, Off.OffStays, Sent.sent_in}
use Rattle.ring_laws.{proofs.Sparing.sends_on, proofs.Sparing.still-agrees, specs.Enable.EnableWordsKeep}
use Rattle.std.proofs.Common.{List, [], ap, arith, drop, length-drop, refl, ℕ, ◌<◌, ◌∙◌, ◌∷◌, ◌≡◌}
use Rattle.std.specs.FinMap as map
use Rattle.pmd_access.specs.NicDevice.declared.event.Event.TheVariants as event
use Rattle.ring_laws.specs.Sides as sides

-- A write to the enable register of the driver's transmit side keeps the agreement between the device and the driver.

pub enable_words_keep : EnableWordsKeep
enable_words_keep s queue sent v port n word made names rests (f, h) =
    let e = event.Write port n word in
    let is = asked queue s h.based.sound h.based.small port n word Tx names in
    still-agrees h e made (plain-write s port n word (place Txdctl queue) 0xFFFFFFFF names refl) (grind arith)
    (sends_on s (after s e) queue sent v.layout.limit (drop f v.outstanding) v.accepted (ap (λ (y : Side). y.staged) is)
    (grind (arith, length-drop)) h.sends)
    (λ number is. ap (λ (m : Memory). map.get m number) (write_memory s port n word))

-- If no enable request is in effect for a transmit side, none is in effect later. A side that is also off stays off and
-- sends nothing.

did : (queue : ℕ) (s : State) (e : Event Block) → queue < 128 → LeavesSide queue s e → Deed Tx queue s e
did queue s e small x =
    side_did Tx queue s e x.sound small (λ other apart. transmit_left queue s (after s e) (x.side other apart))

off_history : (queue : ℕ) (s : State) (h : List Entry) → queue < 128 → AllLeaveSide queue s h → IsOff queue s
    → IsOff queue (leads_to s h) × (sent_in queue s h ≡ [])
off_history queue s [] small all is = (is, refl)
off_history queue s (e ∷ es) small all is =
    let d = did queue s e.event small all.0 in
    let stays = steady_kept Tx queue s e.event sides.IsOff is off_steady d in
    let rest = off_history queue (after s e.event) es small all.1 stays in
    (rest.0, rw (idle_silent Tx queue s e.event sides.IsOff is off_idle d).sent rest.1)

pub off_stays : OffStays
off_stays = record {
  unwanted = λ queue s e small x none.
      steady_kept Tx queue s e sides.IsUnwanted none unwanted_steady (did queue s e small x);
  off = λ queue s h small all is. (off_history queue s h small all is).0;
  silent = λ queue s h small all is. (off_history queue s h small all is).1;
}

-- What a driver does with the enable register: it requests that the side be enabled or disabled, and reads that the
-- side is off.

pub guard_is_off : GuardIsOff
guard_is_off = record {
  written = λ queue s port n word small sound names none.
      ap (λ (x : Side). x.wanted) (asked queue s sound small port n word Tx names) ∙ none;
  read = λ queue s port n word none names reported zero. seen_off queue s port n word reported Tx names zero none;
}
