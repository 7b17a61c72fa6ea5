-- Lemmas: a burst is sent after making room for it.
use Rattle.std.proofs.Common.{◌≡◌, ◌⊎◌, inl, inr, ℕ, ◌<◌, ◌≤◌, List, [], ◌++◌, Option, Some, None, Result, Err, refl, sym, ap, subst, ◌∙◌, map, append-nil, arith}
use Rattle.pmd_access.specs.NicDevice.DmaArena.Numbers.{is_own}
use Rattle.pmd_access.specs.DeviceLock.Alone.{Blocks}
use Rattle.pmd_access.specs.DeviceLock.declared.entry.Call.{Call}
use Rattle.pmd_access.specs.Packet.{Kept}
use Rattle.pmd_access.specs.declared.fault.PmdFault.{PmdFault}
use Rattle.pmd_access.specs.declared.fault.PmdFault.TheVariants as fault
use Rattle.pmd_access.specs.declared.packet.Packet.{Packet}
use Rattle.pmd_rx.specs.Keeping.{numbers_of_all}
use Rattle.pmd_access.specs.Asks.{fault_in}
use Rattle.pmd_tx.specs.Sending.{Layout}
use Rattle.pmd_tx.specs.Sends.{IsLate, accepted_of}
use Rattle.pmd_tx.specs.declared.answer.Reaped.{Reaped}
use Rattle.pmd_driver.specs.Apart.{DrivesRings, FindsBy}
use Rattle.pmd_driver.specs.Blocks.{KeepsUp}
use Rattle.pmd_driver.specs.Bursts.{FailsDuring, IsRefusedFirst, IsSendBurst, Stops, vacant_in}
use Rattle.pmd_driver.specs.DriverCalls.{IsReapCall}
use Rattle.pmd_driver.specs.Halves.{Halves, halves_of}
use Rattle.pmd_driver.specs.Queueing.{HasRoom, Posts}
use Rattle.pmd_driver.specs.Running.{Running, rings_out}
use Rattle.pmd_driver.proofs.Both.{rings_on, rings_still}
use Rattle.pmd_driver.proofs.Driving.{err_later, some_by}
use Rattle.pmd_driver.proofs.First.{keeps_beside}
use Rattle.pmd_driver.proofs.Meeting.{during_after}
use Rattle.pmd_driver.proofs.Whole.{keeps_then}

finds_during : (f : PmdFault) (own : Blocks) (old new : List Call) (h : Halves) → FailsDuring f own old h new
    → FindsBy f own old h new
finds_during fault.DeviceFault own old new h during = during
finds_during fault.BadSize own old new h during = tt
finds_during fault.ForeignBlock own old new h during = tt
finds_during fault.StartTimeout own old new h during = tt
finds_during fault.NoBuffer own old new h during = tt
finds_during (fault.Call refusal) own old new h during = tt

-- A fault that a burst returns occurred during events, or the first remaining packet is refused with this fault before
-- any event.

refused_first : (f : PmdFault) (s : Running) (left gone : List Packet) (met : Option PmdFault) → Stops met s left
    → IsLate f ⊎ ((gone ≡ []) × (met ≡ Some f)) → IsLate f ⊎ IsRefusedFirst f s left
refused_first f s left gone met stops (inl late) = inl late
refused_first f s left gone met stops (inr (none, is)) = subst (λ (m : Option PmdFault). Stops m s left) is stops

-- If enough slots are vacant, no call is needed to make room.

pub room_still : {vacant : ℕ} {old : List Call} {r : Running} → vacant ≤ vacant_in r.transmit
    → HasRoom vacant None old r old r
room_still {vacant} {old} {r} enough = record {
  drives = rings_still old r;
  keeps = record { owns = λ n. refl; each = λ n. refl };
  room = record { room = λ some. (refl, refl, refl); frees = λ few. absurd (omega (arith, enough, few)) };
  accepted = refl;
  layout = refl;
  receive = refl;
  late = tt;
  finds = tt;
}

pub room_reaped : {vacant : ℕ} {x : Result Reaped PmdFault} {old new : List Call} {r s : Running}
    → vacant_in r.transmit < vacant → DrivesRings old r new s → IsReapCall x old r new s → KeepsUp r [] s []
    → HasRoom vacant (fault_in x) old r new s
room_reaped {vacant} {x} {old} {new} {r} {s} few drives reaped keeps = record {
  drives = drives;
  keeps = keeps;
  room = record {
    room = λ some. absurd (omega (arith, some, few));
    frees = λ still. (x, reaped, refl);
  };
  accepted = reaped.accepted;
  layout = reaped.layout;
  receive = reaped.receive;
  late = some_by (λ f. IsLate f) x reaped.late;
  finds = some_by (λ f. FindsBy f (is_own r.arena) old (halves_of r) new) x reaped.finds;
}

module _ {vacant : ℕ} {old made : List Call} {r there : Running} (given : List Packet) where
  -- Making room doesn't affect the blocks of the packets to be sent.
  pub room_beside : {f : Option PmdFault} → HasRoom vacant f old r made there
      → KeepsUp r (numbers_of_all given) there (numbers_of_all given)
  room_beside h = keeps_beside r.arena there.arena (rings_out r) (rings_out there) [] [] (numbers_of_all given) h.keeps

  -- If making room failed, the burst returns this fault, and all packets remain.
  pub no_room : {f : PmdFault} → HasRoom vacant (Some f) old r made there
      → IsSendBurst vacant given given (Err f) old r made there
  no_room {f} h = record {
    made = made;
    there = there;
    failed = Some f;
    room = h.room;
    drives = h.drives;
    sends = (refl, refl, refl, refl);
    gone = [];
    waiting = given;
    given_are = refl;
    accepted = h.accepted ∙ sym (append-nil r.transmit.accepted);
    count = tt;
    fails = inl h.late;
    finds = h.finds;
    settled = tt;
    layout = h.layout;
    receive = h.receive;
  }

  -- What holds after room was made and the burst was sent.
  module _ {left : List Packet} {result : Result ℕ PmdFault} {new : List Call} {s : Running}
      (h : HasRoom vacant None old r made there) (p : Posts given left result made there new s)
    where
      pub room_drives : DrivesRings old r new s
      room_drives = rings_on old made new r there s h.drives p.drives

      pub room_keeps : KeepsUp r (numbers_of_all given) s (numbers_of_all left)
      room_keeps =
          keeps_then r.arena there.arena s.arena (rings_out r ++ numbers_of_all given)
          (rings_out there ++ numbers_of_all given) (rings_out s ++ numbers_of_all left) (room_beside h) p.keeps

      pub room_sends : IsSendBurst vacant given left result old r new s
      room_sends =
          let b = p.sends in
          record {
            made = made;
            there = there;
            failed = None;
            room = h.room;
            drives = h.drives;
            sends = b;
            gone = b.gone;
            waiting = b.waiting;
            given_are = b.given_are;
            accepted = b.accepts.accepted ∙ ap (λ (l : List Kept). l ++ map accepted_of b.gone) h.accepted;
            count = b.count;
            fails = err_later result (λ f fails. refused_first f s left b.gone b.met b.stops fails) b.fails;
            finds = err_later result
                (λ f during. finds_during f (is_own r.arena) old new (halves_of r)
                (during_after f old made new r there h.drives during))
                b.faults;
            settled = b.settled;
            layout = b.accepts.layout ∙ h.layout
                ∙ ap (λ (n : ℕ). let l : Layout = record r.transmit.layout { next = n } in l)
                (sym (ap (λ (l : Layout). l.next) b.accepts.layout));
            receive = b.accepts.receive ∙ h.receive;
          }
