-- Lemmas about returned packets with blocks that can still be returned to the arena.
use Rattle.std.proofs.Common.{◌≡◌, ℕ, ◌&&◌, not, nat_lt, Bool, true, List, Option, Some, None, Result, Ok, Err, IfSome, sym, ap, ◌∙◌, subst}
use Rattle.std.specs.List.{list_any}
use Rattle.pmd_driver.specs.DeviceLock.declared.entry.Call.{Call}
use Rattle.pmd_driver.specs.NicDevice.DmaArena.Numbers.{Numbers}
use Rattle.pmd_driver.specs.NicDevice.DmaArena.Whereabouts.{times_in_hand}
use Rattle.pmd_driver.specs.PmdAccess.Bufs.{numbers_of}
use Rattle.pmd_driver.specs.PmdAccess.declared.fault.PmdFault.{PmdFault}
use Rattle.pmd_driver.specs.PmdAccess.declared.fault.PmdFault.TheVariants as fault
use Rattle.pmd_driver.specs.PmdAccess.declared.packet.Packet.{Packet}
use Rattle.pmd_driver.specs.PmdRx.Keeping.{blocks_out}
use Rattle.pmd_driver.specs.PmdRx.Receive.{Receive}
use Rattle.pmd_driver.specs.PmdTx.Sending.{Layout, Segment, is_among}
use Rattle.pmd_driver.specs.PmdTx.Sends.{IsNoneAccepted, IsBack, SendsHome, are_out}
use Rattle.pmd_driver.specs.PmdTx.declared.answer.TxAnswer.{TxAnswer}
use Rattle.pmd_driver.specs.PmdTx.declared.answer.TxFault.{TxFault}
use Rattle.pmd_driver.specs.DriverCalls.{IsSendCall}
use Rattle.pmd_driver.specs.Driver.{goes_back_to, WhereUp, IsDown}
use Rattle.pmd_driver.specs.Running.{Running, goes_back}
use Rattle.pmd_driver.specs.declared.driver.Rings.{Rings}
use Rattle.pmd_driver.specs.declared.driver.Rings.TheVariants.{Up, Down}
use Rattle.pmd_driver.proofs.SentCounted.{fault_blocks}

-- Whether blocks with these numbers can be returned to the arena, given the blocks that a driver has in use.
abbrev back_at : Numbers → Receive → Layout → List Segment → List ℕ → Bool
back_at a v l segments ns =
    (are_out a ns && not (list_any (λ n. is_among l segments n) ns))
    && not (list_any (λ n. nat_lt 0 (times_in_hand (blocks_out v) n)) ns)

abbrev BackAt : Running → List ℕ → Type 0
BackAt r ns = back_at r.arena r.receive r.transmit.layout r.transmit.outstanding ns ≡ true

still_back : (r s : Running) (ns : List ℕ) → s.arena ≡ r.arena → s.receive ≡ r.receive
    → s.transmit.layout ≡ r.transmit.layout → IsNoneAccepted r.transmit s.transmit → BackAt r ns → BackAt s ns
still_back r s ns arena receive layout none back =
    ap (λ (a : Numbers). back_at a s.receive s.transmit.layout s.transmit.outstanding ns) arena
    ∙ ap (λ (v : Receive). back_at r.arena v s.transmit.layout s.transmit.outstanding ns) receive
    ∙ ap (λ (l : Layout). back_at r.arena r.receive l s.transmit.outstanding ns) layout
    ∙ ap (λ (segments : List Segment). back_at r.arena r.receive r.transmit.layout segments ns) none.outstanding
    ∙ back

abbrev packet_back : Result TxAnswer TxFault → Option Packet
packet_back (Ok answer) = None
packet_back (Err failed) = failed.packet

some_back : (r s : Running) (f : PmdFault) (p : Packet) (o : Option Packet) → goes_back r p ≡ true
    → IfSome o (λ (back : Packet). IsBack f p back) → SendsHome o p r.arena s.arena → s.receive ≡ r.receive
    → s.transmit.layout ≡ r.transmit.layout
    → IfSome o (λ (back : Packet). IsNoneAccepted r.transmit s.transmit)
    → IfSome o (λ (back : Packet). goes_back s back ≡ true)
some_back r s f p None home is arena receive layout none = tt
some_back r s f p (Some back) home is arena receive layout none =
    subst (λ (ns : List ℕ). BackAt s ns) (sym (fault_blocks f p back is))
    (still_back r s (numbers_of p.bufs) arena receive layout none home)

-- A packet that is returned with a fault can still be released.
pub fault_back : (old new : List Call) (R S : Rings) (p : Packet) (failed : TxFault)
    → goes_back_to R p ≡ true
    → WhereUp R S (λ (r s : Running). IsSendCall p (Err failed) old r new s)
    → (IsDown R → ◌≡◌ {A = Result TxAnswer TxFault} (Err failed)
    (Err (record { fault = fault.DeviceFault; packet = Some p })) × (S ≡ R))
    → IfSome failed.packet (λ (back : Packet). goes_back_to S back ≡ true)
fault_back old new (Up r) (Up s) p failed home sent down =
    some_back r s failed.fault p failed.packet home sent.back sent.home sent.receive sent.layout sent.kept
fault_back old new (Up r) (Down h) p failed home sent down = absurd sent
fault_back old new (Down h) S p failed home sent down =
    let (same, stays) = down tt in
    subst (λ (o : Option Packet). IfSome o (λ (back : Packet). goes_back_to S back ≡ true))
    (sym (ap (λ (x : Result TxAnswer TxFault). packet_back x) same))
    (subst (λ (x : Rings). goes_back_to x p ≡ true) (sym stays) home)
