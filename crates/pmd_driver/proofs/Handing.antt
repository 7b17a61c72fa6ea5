-- Lemma: the blocks of a packet that was handed out can be returned to the arena.
use Rattle.std.proofs.Common.{◌≡◌, ℕ, nat_lt, true, false, List, ◌++◌, Option, Some, None, Result, Ok, Err, IfOk, IfSome, refl, sym, subst, arith}
use Rattle.std.specs.List.{list_any}
use Rattle.pmd_access.specs.NicDevice.DmaArena.Whereabouts.{times_in_hand}
use Rattle.pmd_access.specs.Bufs.{numbers_of}
use Rattle.pmd_access.specs.Home.{AreOut}
use Rattle.pmd_access.specs.declared.fault.PmdFault.{PmdFault}
use Rattle.pmd_access.specs.declared.packet.Packet.{Packet}
use Rattle.pmd_access.proofs.Outside.{times-append, out_fewer, out_exchanged}
use Rattle.pmd_rx.specs.Keeping.{Keeps, blocks_out, handed_blocks}
use Rattle.pmd_tx.specs.Sending.{Sender, keeps}
use Rattle.pmd_tx.specs.Sends.{are_out}
use Rattle.pmd_driver.specs.Running.{Running, IsUp, goes_back, kept_out, receives, rings_out}
use Rattle.pmd_driver.proofs.Kept.{away_kept}
use Rattle.pmd_driver.proofs.Several.{away_part, none_by, out_are, out_away}

unseen : (t : ℕ) → t ≡ 0 → nat_lt 0 t ≡ false
unseen t is = rw is refl

pub goes : (r : Running) (p : Packet) → AreOut r.arena (numbers_of p.bufs ++ rings_out r) → goes_back r p ≡ true
goes r p out =
    let ns : List ℕ = numbers_of p.bufs in
    let away = out_away r.arena ns (rings_out r) out in
    let own : are_out r.arena ns ≡ true = out_are r.arena ns (rings_out r) out in
    let kept : list_any (λ n. keeps r.transmit n) ns ≡ false =
    none_by _ (kept_out r.transmit) ns (λ n none. away_kept r.transmit n none)
    (away_part (rings_out r) (kept_out r.transmit) ns
    (λ n. omega (arith, times-append (blocks_out r.receive) (kept_out r.transmit) n)) away) in
    let received : receives r p ≡ false =
    none_by _ (blocks_out r.receive) ns (λ n none. unseen (times_in_hand (blocks_out r.receive) n) none)
    (away_part (rings_out r) (blocks_out r.receive) ns
    (λ n. omega (arith, times-append (blocks_out r.receive) (kept_out r.transmit) n)) away) in
    rw (own, kept, received) refl

received_home : (r s : Running) (p : Packet) → IsUp r → Keeps r.arena r.receive s.arena s.receive (numbers_of p.bufs)
    → s.transmit ≡ r.transmit → goes_back s p ≡ true
received_home r s p up keeps same =
    let ns : List ℕ = numbers_of p.bufs in
    let kept : List ℕ = kept_out r.transmit in
    let all : AreOut s.arena ((ns ++ blocks_out s.receive) ++ kept) =
    out_exchanged r.arena (blocks_out r.receive) s.arena (ns ++ blocks_out s.receive) kept up.home keeps.arena in
    let here : AreOut s.arena (ns ++ (blocks_out s.receive ++ kept)) =
    out_fewer s.arena ((ns ++ blocks_out s.receive) ++ kept) (ns ++ (blocks_out s.receive ++ kept)) all
    (λ k. omega (
      arith,
      times-append (ns ++ blocks_out s.receive) kept k,
      times-append ns (blocks_out s.receive) k,
      times-append ns (blocks_out s.receive ++ kept) k,
      times-append (blocks_out s.receive) kept k,
    )) in
    goes s p (subst (λ (t : Sender). AreOut s.arena (ns ++ (blocks_out s.receive ++ kept_out t))) (sym same) here)

pub received_goes : (o : Result (Option Packet) PmdFault) (r s : Running) → IsUp r
    → Keeps r.arena r.receive s.arena s.receive (handed_blocks o) → s.transmit ≡ r.transmit
    → IfOk o (λ out. IfSome out (λ packet. goes_back s packet ≡ true))
received_goes (Ok None) r s up keeps same = tt
received_goes (Ok (Some packet)) r s up keeps same = received_home r s packet up keeps same
received_goes (Err f) r s up keeps same = tt
