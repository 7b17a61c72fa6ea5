-- Lemmas: the first packet of a burst was accepted, or was put back at the front of the list.
use Rattle.std.proofs.Common.{◌≡◌, ◌⊎◌, inl, inr, ℕ, ◌+◌, ◌≤◌, true, false, List, [], ◌∷◌, ◌++◌, length, length-append, Option, Some, None, Result, Ok, Err, IfErr, IfSome, IfNone, refl, sym, ap, subst, arith}
use Rattle.std.specs.Prelude.{⊤}
use Rattle.pmd_access.specs.NicDevice.DmaArena.Numbers.{Numbers, is_own}
use Rattle.pmd_access.specs.DeviceLock.declared.entry.Call.{Call}
use Rattle.pmd_access.specs.Bufs.{numbers_of}
use Rattle.pmd_access.specs.declared.fault.PmdFault.{PmdFault}
use Rattle.pmd_access.specs.declared.fault.PmdFault.TheVariants as fault
use Rattle.pmd_access.specs.declared.packet.Packet.{Packet}
use Rattle.pmd_rx.specs.Keeping.{numbers_in, numbers_of_all}
use Rattle.pmd_access.proofs.Outside.{times-append}
use Rattle.pmd_tx.specs.Acts.{failed_in}
use Rattle.pmd_tx.specs.Sending.{Layout, Segment}
use Rattle.pmd_tx.specs.Sends.{IsBack, IsFullWhereReported, IsLate, returned}
use Rattle.pmd_tx.specs.declared.answer.TxAnswer.{TxAnswer}
use Rattle.pmd_tx.specs.declared.answer.TxAnswer.TheVariants.{Taken, RingFull}
use Rattle.pmd_tx.specs.declared.answer.TxFault.{TxFault}
use Rattle.pmd_driver.specs.Apart.{DrivesRings}
use Rattle.pmd_driver.specs.Blocks.{KeepsEach, KeepsUp}
use Rattle.pmd_driver.specs.Bursts.{Accepts, AreLeft, FailsDuring, IsKeptOut, IsRefusedFirst, MayAnswer, Stops, vacant_in}
use Rattle.pmd_driver.specs.Halves.{halves_of}
use Rattle.pmd_driver.specs.Queueing.{Queues, QueuesOne, ends_by, left_with, sent_by}
use Rattle.pmd_driver.specs.Running.{Running, rings_out}
use Rattle.pmd_driver.proofs.Meeting.{fault_kept, full_kept, one_answer}

-- If a call keeps the count of each block, it also does so together with the blocks of other packets.
pub keeps_beside : (a b : Numbers) (x y g h z : List ℕ) → KeepsEach a (x ++ g) b (y ++ h)
    → KeepsEach a (x ++ (g ++ z)) b (y ++ (h ++ z))
keeps_beside a b x y g h z keeps = record {
  owns = keeps.owns;
  each = λ n. omega (
    arith,
    keeps.each n,
    times-append x g n,
    times-append y h n,
    times-append x (g ++ z) n,
    times-append y (h ++ z) n,
    times-append g z n,
    times-append h z n,
  );
}

back_same : (f : PmdFault) (p : Packet) → IsBack f p p
back_same fault.DeviceFault p = refl
back_same fault.BadSize p = refl
back_same fault.ForeignBlock p = refl
back_same fault.StartTimeout p = refl
back_same fault.NoBuffer p = refl
back_same (fault.Call refusal) p = refl

pub left_same : (met : Option PmdFault) (ps : List Packet) → AreLeft met ps ps
left_same None ps = refl
left_same (Some f) [] = refl
left_same (Some f) (p ∷ ps) = (back_same f p, refl)

-- `Meets`: what the driver did with the packet, with which result and which fault.
pub record Meets (p : Packet) (x : Result TxAnswer TxFault) (old : List Call) (r : Running) (new : List Call)
    (s : Running) : Type 0 where
  pub answer : MayAnswer r p x
  pub full : IsFullWhereReported r.transmit p x
  pub shut : IsKeptOut r p → (new ≡ old) × (s ≡ r)
  pub accepted : IfNone (returned x) (Accepts (p ∷ []) r s)
  pub kept : IfSome (returned x) (λ back. Accepts [] r s)
  pub back : IfErr x (λ failed. IfSome failed.packet (λ back. IsBack failed.fault p back))
  pub slots : IfNone (returned x) (1 + vacant_in s.transmit ≤ vacant_in r.transmit)
  pub during : IfSome (failed_in x) (λ f. FailsDuring f (is_own r.arena) old (halves_of r) new)
  pub drives : DrivesRings old r new s
  pub keeps : KeepsUp r (numbers_of p.bufs) s (numbers_in (returned x))
  pub tail : s.transmit.posted ≡ r.transmit.posted

abbrev Left : Packet → List Packet → Option PmdFault → Option Packet → Type 0
Left p rest met None = ⊤
Left p rest met (Some q) = AreLeft met (p ∷ rest) (q ∷ rest)

abbrev TellsFull : Packet → Running → Packet → Type 0
TellsFull q t y = IsKeptOut t y × MayAnswer t y (Ok (RingFull q)) × IsFullWhereReported t.transmit y (Ok (RingFull q))

abbrev Refused : PmdFault → Option Packet → Result TxAnswer TxFault
Refused f o = Err (record { fault = f; packet = o })

module _ (p : Packet) (old new : List Call) (r s : Running) (rest : List Packet) where
  -- Which packets remain in the list, given the result for the first packet.

  fault_left : (f : PmdFault) (o : Option Packet) → IfSome o (λ q. IsBack f p q) → Left p rest (Some f) o
  fault_left f None back = tt
  fault_left f (Some q) back = (back, refl)

  are_left : (x : Result TxAnswer TxFault) → Meets p x old r new s → Left p rest (failed_in x) (returned x)
  are_left (Ok Taken) m = tt
  are_left (Ok (RingFull q)) m = ap (λ (y : Packet). y ∷ rest) (full_kept r p q m.answer).1
  are_left (Err y) m = fault_left y.fault y.packet m.back

  -- If the packet met a fault, this fault is why the burst ends with the packet.

  stops_by : (y : TxFault) → Meets p (Err y) old r new s → IsLate y.fault ⊎ (IsKeptOut r p × (y.packet ≡ Some p))
      → Stops (Some y.fault) s (left_with y.packet rest)
  stops_by y m (inl late) = inl late
  stops_by y m (inr (kept, same)) =
      subst (λ (o : Option Packet). Stops (Some y.fault) s (left_with o rest)) (sym same)
      (inr (subst (λ (t : Running). IsKeptOut t p × MayAnswer t p (Refused y.fault (Some p))) (sym (m.shut kept).1)
      (kept, subst (λ (o : Option Packet). MayAnswer r p (Refused y.fault o)) same m.answer)))

  stops_with : (x : Result TxAnswer TxFault) → Meets p x old r new s → ends_by (returned x) (failed_in x) ≡ true
      → Stops (failed_in x) s (left_with (returned x) rest)
  stops_with (Ok Taken) m ends = absurd (let e : false ≡ true = ends in cc)
  stops_with (Ok (RingFull q)) m ends =
      let (kept, is) = full_kept r p q m.answer in
      subst (λ (t : Running). TellsFull q t q) (sym (m.shut kept).1)
      (subst (λ (y : Packet). TellsFull q r y) (sym is) (kept, m.answer, m.full))
  stops_with (Err y) m ends = stops_by y m (fault_kept r p y m.answer)

  -- If the packet is refused before any event, nothing changed, and the result is that refusal.

  abbrev StaysShut : PmdFault → Option Packet → Option PmdFault → Type 0
  StaysShut f o met =
      (sent_by o ≡ 0) × IfSome met (λ g. g ≡ f) × (left_with o rest ≡ p ∷ rest) × (new ≡ old) × (s ≡ r)

  shut_with : (x : Result TxAnswer TxFault) → Meets p x old r new s → (f : PmdFault) → IsRefusedFirst f r (p ∷ rest)
      → StaysShut f (returned x) (failed_in x)
  shut_with x m f refused =
      let still = m.shut refused.0 in
      subst (λ (y : Result TxAnswer TxFault). StaysShut f (returned y) (failed_in y))
      (sym (one_answer r p x (Refused f (Some p)) refused.0 m.answer refused.1)) (refl, refl, refl, still.0, still.1)

  -- In each case, accepted or put back, the step has the effect `Queues`.
  queues_by : (o : Option Packet) (met : Option PmdFault) → DrivesRings old r new s
      → IfSome met (λ f. FailsDuring f (is_own r.arena) old (halves_of r) new)
      → s.transmit.posted ≡ r.transmit.posted → ((f : PmdFault) → IsRefusedFirst f r (p ∷ rest) → StaysShut f o met)
      → Left p rest met o → IfNone o (Accepts (p ∷ []) r s) → IfSome o (λ back. Accepts [] r s)
      → IfNone o (1 + vacant_in s.transmit ≤ vacant_in r.transmit) → KeepsUp r (numbers_of p.bufs) s (numbers_in o)
      → Queues (p ∷ rest) (left_with o rest) (sent_by o) met old r new s
  queues_by None met drives during tail shut left accepted kept slots keeps = record {
    gone = p ∷ [];
    waiting = rest;
    given_are = refl;
    count = refl;
    accepts = accepted;
    left_are = left_same met rest;
    during = during;
    drives = drives;
    keeps = keeps_beside r.arena s.arena (rings_out r) (rings_out s) (numbers_of p.bufs) [] (numbers_of_all rest) keeps;
    tail = tail;
    slots = slots;
    shut = shut;
  }
  queues_by (Some q) met drives during tail shut left accepted kept slots keeps = record {
    gone = [];
    waiting = p ∷ rest;
    given_are = refl;
    count = refl;
    accepts = kept;
    left_are = left;
    during = during;
    drives = drives;
    keeps = keeps_beside r.arena s.arena (rings_out r) (rings_out s) (numbers_of p.bufs) (numbers_of q.bufs)
        (numbers_of_all rest) keeps;
    tail = tail;
    slots = omega (
      arith,
      ap (λ (l : List Segment). length l) kept.outstanding,
      length-append r.transmit.outstanding [],
      ap (λ (l : Layout). l.size) kept.layout,
    );
    shut = shut;
  }

pub queues_one : {p : Packet} {x : Result TxAnswer TxFault} {old new : List Call} {r s : Running}
    → Meets p x old r new s → QueuesOne p x old r new s
queues_one {p} {x} {old} {new} {r} {s} m rest = record {
  queues = queues_by p old new r s rest (returned x) (failed_in x) m.drives m.during m.tail
      (shut_with p old new r s rest x m) (are_left p old new r s rest x m) m.accepted m.kept m.slots m.keeps;
  stops = stops_with p old new r s rest x m;
}
