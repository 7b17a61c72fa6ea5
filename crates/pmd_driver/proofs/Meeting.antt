-- Lemmas: a packet in a burst fails its check, or meets a fault during events.
use Rattle.std.proofs.Common.{◌≡◌, ◌⊎◌, inl, inr, ℕ, true, false, ◌&&◌, not, List, Some, None, Result, Ok, Err, Option, IfErr, IfSome, refl, sym, ap, ◌∙◌, subst}
use Rattle.pmd_access.specs.NicDevice.DmaArena.Numbers.{is_own}
use Rattle.pmd_access.specs.DeviceLock.Alone.{Blocks}
use Rattle.pmd_access.specs.DeviceLock.declared.entry.Call.{Call}
use Rattle.pmd_access.specs.declared.fault.PmdFault.{PmdFault}
use Rattle.pmd_access.specs.declared.fault.PmdFault.TheVariants as fault
use Rattle.pmd_access.specs.declared.packet.Packet.{Packet}
use Rattle.pmd_tx.specs.Acts.{failed_in}
use Rattle.pmd_tx.specs.Plays.{AsksNext, FaultsBy}
use Rattle.pmd_tx.specs.Sending.{Sender, blocks_of}
use Rattle.pmd_tx.specs.Sends.{gate_of, goes_home, is_bad_size, is_full, outgoing_of, IsAnswer, IsLate, IsShut, IsTried}
use Rattle.pmd_tx.specs.declared.answer.TxAnswer.{TxAnswer}
use Rattle.pmd_tx.specs.declared.answer.TxAnswer.TheVariants.{Taken, RingFull}
use Rattle.pmd_tx.specs.declared.answer.TxFault.{TxFault}
use Rattle.pmd_driver.specs.Apart.{DrivesApart, DrivesRings}
use Rattle.pmd_driver.specs.Bursts.{AsksApart, FailsDuring, IsKeptOut, MayAnswer}
use Rattle.pmd_driver.specs.Halves.{Halves, halves_of}
use Rattle.pmd_driver.specs.Running.{Running, IsUp, receives}
use Rattle.pmd_driver.proofs.Apart.{AllMaySend, OutstandingMay, apart_on, moved_apart, played_may, sending_apart}
use Rattle.pmd_driver.proofs.Both.{outstanding_may}
use Rattle.pmd_driver.proofs.Finding.{finds_fault}
use Rattle.pmd_driver.proofs.Sending.{by_gate}
use Rattle.pmd_driver.proofs.Sent.{Way, sent_may, way}

-- If a refused event is one that the transmit half may cause next, `AsksApart` holds.

asks_apart : (own : Blocks) (blocks : List ℕ) (old new : List Call) (h : Halves) → AllMaySend own h.receive blocks
    → OutstandingMay own h → AsksNext blocks old h.transmit new → AsksApart own old h new
asks_apart own blocks old new h some all f =
    let there : Halves = record h { transmit = f.before } in
    let (moves, since, made, mine, is, steps) = f.plays.plays in
    let then : OutstandingMay own there =
    subst (λ (v : Sender). AllMaySend own h.receive (blocks_of v.outstanding)) (sym is)
    (played_may own h.receive blocks h.transmit some all moves since f.plays.accepts) in
    record {
      there = there;
      move = f.move;
      event = f.event;
      drives = sending_apart own blocks old new h there some all f.plays refl;
      mine = f.own;
      ours = f.mine;
      apart = moved_apart own blocks there some then f.move f.event f.own f.accepts
          (λ is. absurd (let e : true ≡ false = sym is ∙ f.mine in cc));
    }

pub during_by : (f : PmdFault) (own : Blocks) (blocks : List ℕ) (old new : List Call) (h : Halves)
    → AllMaySend own h.receive blocks → OutstandingMay own h → FaultsBy f blocks old h.transmit new
    → FailsDuring f own old h new
during_by fault.DeviceFault own blocks old new h some all faults = finds_fault own blocks old new h some all faults
during_by (fault.Call refusal) own blocks old new h some all faults = asks_apart own blocks old new h some all faults
during_by fault.BadSize own blocks old new h some all faults = tt
during_by fault.ForeignBlock own blocks old new h some all faults = tt
during_by fault.StartTimeout own blocks old new h some all faults = tt
during_by fault.NoBuffer own blocks old new h some all faults = tt

-- `FailsDuring` still holds if other calls of the driver come before the calls that met the fault.

during_then : (f : PmdFault) (own : Blocks) (old mid new : List Call) (h k : Halves) → DrivesApart own old h mid k
    → FailsDuring f own mid k new → FailsDuring f own old h new
during_then fault.DeviceFault own old mid new h k one then =
    record {
      mid = then.mid;
      there = then.there;
      doer = then.doer;
      event = then.event;
      reply = then.reply;
      drives = apart_on own old mid then.mid h k then.there one then.drives;
      mine = then.mine;
      apart = then.apart;
      adds = then.adds;
      sick = then.sick;
    }
during_then (fault.Call refusal) own old mid new h k one then =
    record {
      there = then.there;
      move = then.move;
      event = then.event;
      drives = apart_on own old mid new h k then.there one then.drives;
      mine = then.mine;
      ours = then.ours;
      apart = then.apart;
    }
during_then fault.BadSize own old mid new h k one then = tt
during_then fault.ForeignBlock own old mid new h k one then = tt
during_then fault.StartTimeout own old mid new h k one then = tt
during_then fault.NoBuffer own old mid new h k one then = tt

pub during_after : (f : PmdFault) (old mid new : List Call) (r s : Running) → DrivesRings old r mid s
    → FailsDuring f (is_own s.arena) mid (halves_of s) new → FailsDuring f (is_own r.arena) old (halves_of r) new
during_after f old mid new r s one then =
    during_then f (is_own r.arena) old mid new (halves_of r) (halves_of s) one.apart
    (subst (λ (own : Blocks). FailsDuring f own mid (halves_of s) new) (λ i n. one.owns n i) then)

-- Facts about the check of a packet before any event.

module _ (r : Running) (p : Packet) where
  abbrev Refused : PmdFault → Result TxAnswer TxFault
  Refused f = Err (record { fault = f; packet = Some p })

  by_way : (T : Type 0) (x : Result TxAnswer TxFault) → (IsKeptOut r p → x ≡ Refused fault.BadSize → T)
      → (IsKeptOut r p → x ≡ Ok (RingFull p) → T) → (IsTried x → T)
      → (IsKeptOut r p → x ≡ Refused fault.ForeignBlock → T) → MayAnswer r p x → T
  by_way T x bad full tried foreign answer =
      by_gate (λ g. IsAnswer g p x × (IsShut g → IsKeptOut r p)) T _ _ _ _ (is_bad_size r.transmit p)
      (goes_home r.transmit r.arena p && not (receives r p)) (is_full r.transmit p)
      (λ e. bad (e.1 tt) e.0) (λ e. full (e.1 tt) e.0) (λ e. tried e.0) (λ e. foreign (e.1 tt) e.0)
      (answer, λ shut. shut)

  never_ok : (x : TxAnswer) (y : TxFault) (T : Type 0) → Ok x ≡ Err y → T
  never_ok x y T is = absurd (let e : Ok x ≡ Err y = is in cc)

  abbrev full_in : Result TxAnswer TxFault → Packet
  full_in (Ok Taken) = p
  full_in (Ok (RingFull q)) = q
  full_in (Err y) = p

  pub full_kept : (q : Packet) → MayAnswer r p (Ok (RingFull q)) → IsKeptOut r p × (q ≡ p)
  full_kept q answer =
      by_way (IsKeptOut r p × (q ≡ p)) (Ok (RingFull q)) (λ shut is. never_ok _ _ _ is)
      (λ shut is. (shut, ap full_in is)) (λ tried. absurd tried) (λ shut is. never_ok _ _ _ is) answer

  abbrev packet_in : Result TxAnswer TxFault → Option Packet
  packet_in (Ok x) = None
  packet_in (Err y) = y.packet

  pub fault_kept : (x : TxFault) → MayAnswer r p (Err x) → IsLate x.fault ⊎ (IsKeptOut r p × (x.packet ≡ Some p))
  fault_kept x answer =
      by_way (IsLate x.fault ⊎ (IsKeptOut r p × (x.packet ≡ Some p))) (Err x)
      (λ shut is. inr (shut, ap packet_in is)) (λ shut is. never_ok _ _ _ (sym is)) (λ tried. inl tried)
      (λ shut is. inr (shut, ap packet_in is)) answer

  -- A packet that fails its check has only one possible result.
  pub one_answer : (x y : Result TxAnswer TxFault) → IsShut (gate_of r.transmit r.arena (receives r p) p)
      → MayAnswer r p x → MayAnswer r p y → x ≡ y
  one_answer x y shut one two =
      by_gate (λ g. IsAnswer g p x × IsAnswer g p y × IsShut g) (x ≡ y) _ _ _ _ (is_bad_size r.transmit p)
      (goes_home r.transmit r.arena p && not (receives r p)) (is_full r.transmit p)
      (λ e. e.0 ∙ sym e.1) (λ e. e.0 ∙ sym e.1) (λ e. absurd e.2) (λ e. e.0 ∙ sym e.1) (one, two, shut)

  abbrev fault_in : Result TxAnswer TxFault → PmdFault
  fault_in (Ok x) = fault.BadSize
  fault_in (Err y) = y.fault

  abbrev IsDuring : List Call → List Call → PmdFault → Type 0
  IsDuring old new f = FailsDuring f (is_own r.arena) old (halves_of r) new

  shut_during : (x : TxFault) (old new : List Call) → IsShut (gate_of r.transmit r.arena (receives r p) p)
      → MayAnswer r p (Err x) → IsDuring old new x.fault
  shut_during x old new shut answer =
      by_gate (λ g. IsAnswer g p (Err x) × IsShut g) (IsDuring old new x.fault) _ _ _ _ (is_bad_size r.transmit p)
      (goes_home r.transmit r.arena p && not (receives r p)) (is_full r.transmit p)
      (λ e. subst (IsDuring old new) (sym (ap fault_in e.0)) tt) (λ e. never_ok _ _ _ (sym e.0)) (λ e. absurd e.1)
      (λ e. subst (IsDuring old new) (sym (ap fault_in e.0)) tt) (answer, shut)

  during_way : (up : IsUp r) → Way r p up → (x : TxFault) (old new : List Call) → MayAnswer r p (Err x)
      → FaultsBy x.fault (outgoing_of p).blocks old r.transmit new → IsDuring old new x.fault
  during_way up (inl shut) x old new answer faults = shut_during x old new shut answer
  during_way up (inr goes) x old new answer faults =
      during_by x.fault (is_own r.arena) (outgoing_of p).blocks old new (halves_of r) (sent_may r p up goes)
      (outstanding_may r up) faults

  pub fault_during : (up : IsUp r) (x : TxFault) (old new : List Call) → MayAnswer r p (Err x)
      → FaultsBy x.fault (outgoing_of p).blocks old r.transmit new → IsDuring old new x.fault
  fault_during up = during_way up (way r p up)

  pub sent_during : (up : IsUp r) (x : Result TxAnswer TxFault) (old new : List Call) → MayAnswer r p x
      → IfErr x (λ failed. FaultsBy failed.fault (outgoing_of p).blocks old r.transmit new)
      → IfSome (failed_in x) (λ f. IsDuring old new f)
  sent_during up (Ok y) old new answer faults = tt
  sent_during up (Err y) old new answer faults = fault_during up y old new answer faults
