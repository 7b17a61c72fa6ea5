-- Lemmas about the count of a driver's blocks after a call that sends a packet.
use Rattle.std.proofs.Common.{◌≡◌, ◌&&◌, not, Bool, All, Option, Some, None, Result, Ok, Err, IfErr, IfSome, IfNone, refl, sym, ap, subst}
use Rattle.pmd_access.specs.NicDevice.DmaArena.Block.{Block, IsBlock}
use Rattle.pmd_access.specs.NicDevice.DmaArena.Numbers.{Numbers}
use Rattle.pmd_access.specs.Bufs.{numbers_of}
use Rattle.pmd_access.specs.declared.fault.PmdFault.{PmdFault}
use Rattle.pmd_access.specs.declared.fault.PmdFault.TheVariants as fault
use Rattle.pmd_access.specs.declared.packet.Packet.{Packet}
use Rattle.pmd_rx.specs.Keeping.{numbers_in}
use Rattle.pmd_tx.specs.Sending.{Sender}
use Rattle.pmd_tx.specs.Sends.{IsAccepted, IsNoneAccepted, IsAnswer, IsBack, SendsHome, gate_of, goes_home, is_bad_size, is_full, returned}
use Rattle.pmd_tx.specs.declared.answer.TxAnswer.{TxAnswer}
use Rattle.pmd_tx.specs.declared.answer.TxAnswer.TheVariants.{Taken, RingFull}
use Rattle.pmd_tx.specs.declared.answer.TxFault.{TxFault}
use Rattle.pmd_driver.specs.Blocks.{KeepsUp}
use Rattle.pmd_driver.specs.Running.{Running, IsUp, receives}
use Rattle.pmd_driver.proofs.Sending.{by_gate, by_return}

pub fault_blocks : (f : PmdFault) (p back : Packet) → IsBack f p back → numbers_of back.bufs ≡ numbers_of p.bufs
fault_blocks fault.DeviceFault p back is = is
fault_blocks fault.BadSize p back is = ap (λ (x : Packet). numbers_of x.bufs) is
fault_blocks fault.ForeignBlock p back is = ap (λ (x : Packet). numbers_of x.bufs) is
fault_blocks fault.StartTimeout p back is = ap (λ (x : Packet). numbers_of x.bufs) is
fault_blocks fault.NoBuffer p back is = ap (λ (x : Packet). numbers_of x.bufs) is
fault_blocks (fault.Call refusal) p back is = ap (λ (x : Packet). numbers_of x.bufs) is

-- The returned packet has the blocks of the one passed in.

abbrev HasSame : Packet → Packet → Type 0
HasSame p q = numbers_of q.bufs ≡ numbers_of p.bufs

gave_back : (p : Packet) (o : Option Packet) → o ≡ Some p → IfSome o (λ (q : Packet). HasSame p q)
gave_back p o is = subst (λ (x : Option Packet). IfSome x (λ (q : Packet). HasSame p q)) (sym is) refl

some_fault : (f : PmdFault) (p : Packet) (o : Option Packet) → IfSome o (λ (q : Packet). IsBack f p q)
    → IfSome o (λ (q : Packet). HasSame p q)
some_fault f p None is = tt
some_fault f p (Some q) is = fault_blocks f p q is

full_back : (v : Sender) (a : Numbers) (elsewhere : Bool) (p q : Packet)
    → IsAnswer (gate_of v a elsewhere p) p (Ok (RingFull q)) → Some q ≡ Some p
full_back v a elsewhere p q answer =
    by_gate (λ g. IsAnswer g p (Ok (RingFull q))) (Some q ≡ Some p) _ _ _ _ (is_bad_size v p)
    (goes_home v a p && not elsewhere) (is_full v p)
    (λ e. ap returned e) (λ e. ap returned e) (λ e. absurd e) (λ e. ap returned e) answer

answer_back : (v : Sender) (a : Numbers) (elsewhere : Bool) (p : Packet) (result : Result TxAnswer TxFault)
    → IsAnswer (gate_of v a elsewhere p) p result
    → IfErr result (λ (x : TxFault). IfSome x.packet (λ (q : Packet). IsBack x.fault p q))
    → IfSome (returned result) (λ (q : Packet). HasSame p q)
answer_back v a elsewhere p (Ok Taken) answer back = tt
answer_back v a elsewhere p (Ok (RingFull q)) answer back = gave_back p (Some q) (full_back v a elsewhere p q answer)
answer_back v a elsewhere p (Err x) answer back = some_fault x.fault p x.packet back

-- The driver stays up and keeps its blocks.
pub sent_up_kept : (r s : Running) (p : Packet) (result : Result TxAnswer TxFault)
    → IsAnswer (gate_of r.transmit r.arena (receives r p) p) p result → All (λ (b : Block). IsBlock b) p.bufs
    → IfNone (returned result) (IsAccepted r.transmit p s.transmit)
    → IfSome (returned result) (λ (q : Packet). IsNoneAccepted r.transmit s.transmit)
    → SendsHome (returned result) p r.arena s.arena
    → IfErr result (λ (x : TxFault). IfSome x.packet (λ (q : Packet). IsBack x.fault p q))
    → s.transmit.layout ≡ r.transmit.layout → s.receive ≡ r.receive → IsUp r
    → IsUp s × KeepsUp r (numbers_of p.bufs) s (numbers_in (returned result))
sent_up_kept r s p result answer whole accepted none home back layout receive up =
    by_return r s p result answer whole layout receive up (returned result) refl accepted none home
    (answer_back r.transmit r.arena (receives r p) p result answer back)
