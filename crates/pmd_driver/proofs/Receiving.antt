-- Lemmas: several packets are handed out.
use Rattle.std.proofs.Common.{◌≡◌, ℕ, ◌≤◌, true, List, [], ◌∷◌, ◌++◌, length, drop, All, Result, Ok, Err, IfOk, OnErr, refl, sym, ap, subst, ◌∙◌, append_assoc, arith}
use Rattle.std.proofs.Math.Seq.{drop-append_seam}
use Rattle.std.proofs.lemmas.List.Elements.{All-cons}
use Rattle.pmd_access.specs.NicDevice.DmaArena.Numbers.{Numbers}
use Rattle.pmd_access.specs.Bufs.{numbers_of}
use Rattle.pmd_access.specs.Home.{AreOut}
use Rattle.pmd_access.specs.declared.fault.PmdFault.{PmdFault}
use Rattle.pmd_access.specs.declared.packet.Packet.{Packet}
use Rattle.pmd_access.proofs.Outside.{times-append, out_fewer, out_exchanged}
use Rattle.pmd_rx.specs.Keeping.{Keeps, blocks_out, numbers_of_all}
use Rattle.pmd_tx.specs.Sending.{Sender}
use Rattle.pmd_driver.specs.Blocks.{KeepsEach, KeepsUp}
use Rattle.pmd_driver.specs.Running.{Running, IsUp, goes_back, kept_out, rings_out}
use Rattle.pmd_driver.proofs.Counted.{received_kept}
use Rattle.pmd_driver.proofs.Handing.{goes}

-- The blocks of one list of packets followed by another are the first list's blocks followed by the second list's.
pub all_numbers : (ps qs : List Packet) → numbers_of_all (ps ++ qs) ≡ numbers_of_all ps ++ numbers_of_all qs
all_numbers [] qs = refl
all_numbers (p ∷ ps) qs =
    ap (λ (l : List ℕ). numbers_of p.bufs ++ l) (all_numbers ps qs)
    ∙ sym (append_assoc (numbers_of p.bufs) (numbers_of_all ps) (numbers_of_all qs))

-- If a call keeps the count of each block, it also does so together with further blocks in hand.

past_others : (a b : Numbers) (x y given out : List ℕ) → KeepsEach a (x ++ []) b (y ++ out)
    → KeepsEach a (x ++ given) b (y ++ (given ++ out))
past_others a b x y given out keeps = record {
  owns = keeps.owns;
  each = λ n. omega (
    arith,
    keeps.each n,
    times-append x [] n,
    times-append y out n,
    times-append x given n,
    times-append y (given ++ out) n,
    times-append given out n,
  );
}

pub burst_kept : (r s : Running) (before after packets : List Packet) → after ≡ before ++ packets
    → Keeps r.arena r.receive s.arena s.receive (numbers_of_all packets) → s.transmit ≡ r.transmit
    → KeepsUp r (numbers_of_all before) s (numbers_of_all after)
burst_kept r s before after packets out keeps same =
    subst (λ (l : List ℕ). KeepsUp r (numbers_of_all before) s l)
    (sym (ap (λ (l : List Packet). numbers_of_all l) out ∙ all_numbers before packets))
    (past_others r.arena s.arena (rings_out r) (rings_out s) (numbers_of_all before) (numbers_of_all packets)
    (received_kept r s (numbers_of_all packets) keeps same))

-- The driver can release each packet that it handed out.

each_goes : (s : Running) (ps : List Packet) → AreOut s.arena (numbers_of_all ps ++ rings_out s)
    → All (λ (p : Packet). goes_back s p ≡ true) ps
each_goes s [] out = λ k d below. absurd (omega (arith, below))
each_goes s (p ∷ ps) out =
    let ns : List ℕ = numbers_of p.bufs in
    let others : List ℕ = numbers_of_all ps in
    let first : AreOut s.arena (ns ++ rings_out s) =
    out_fewer s.arena ((ns ++ others) ++ rings_out s) (ns ++ rings_out s) out
    (λ k. omega (
      arith,
      times-append (ns ++ others) (rings_out s) k,
      times-append ns others k,
      times-append ns (rings_out s) k,
    )) in
    let rest : AreOut s.arena (others ++ rings_out s) =
    out_fewer s.arena ((ns ++ others) ++ rings_out s) (others ++ rings_out s) out
    (λ k. omega (
      arith,
      times-append (ns ++ others) (rings_out s) k,
      times-append ns others k,
      times-append others (rings_out s) k,
    )) in
    All-cons (λ (q : Packet). goes_back s q ≡ true) p ps (goes s p first) (each_goes s ps rest)

burst_out : (r s : Running) (ns : List ℕ) → IsUp r → Keeps r.arena r.receive s.arena s.receive ns
    → s.transmit ≡ r.transmit → AreOut s.arena (ns ++ rings_out s)
burst_out r s ns up keeps same =
    let kept : List ℕ = kept_out r.transmit in
    let all : AreOut s.arena ((ns ++ blocks_out s.receive) ++ kept) =
    out_exchanged r.arena (blocks_out r.receive) s.arena (ns ++ blocks_out s.receive) kept up.home keeps.arena in
    let here : AreOut s.arena (ns ++ (blocks_out s.receive ++ kept)) =
    out_fewer s.arena ((ns ++ blocks_out s.receive) ++ kept) (ns ++ (blocks_out s.receive ++ kept)) all
    (λ k. omega (
      arith,
      times-append (ns ++ blocks_out s.receive) kept k,
      times-append ns (blocks_out s.receive) k,
      times-append ns (blocks_out s.receive ++ kept) k,
      times-append (blocks_out s.receive) kept k,
    )) in
    subst (λ (t : Sender). AreOut s.arena (ns ++ (blocks_out s.receive ++ kept_out t))) (sym same) here

pub burst_goes : (r s : Running) (before after packets : List Packet) → after ≡ before ++ packets → IsUp r
    → Keeps r.arena r.receive s.arena s.receive (numbers_of_all packets) → s.transmit ≡ r.transmit
    → All (λ (p : Packet). goes_back s p ≡ true) (drop (length before) after)
burst_goes r s before after packets out up keeps same =
    subst (λ (l : List Packet). All (λ (p : Packet). goes_back s p ≡ true) l)
    (sym (ap (λ (l : List Packet). drop (length before) l) out ∙ drop-append_seam before packets))
    (each_goes s packets (burst_out r s (numbers_of_all packets) up keeps same))

-- The call reports the number of packets that it handed out, which is at most `most`.

pub burst_count : (x : Result ℕ PmdFault) (most : ℕ) (packets : List Packet)
    → IfOk x (λ n. (length packets ≡ n) × (n ≤ most)) → IfOk x (λ n. n ≡ length packets)
burst_count (Ok n) most packets many = sym many.0
burst_count (Err f) most packets many = tt

pub burst_few : (x : Result ℕ PmdFault) (most : ℕ) (packets : List Packet)
    → IfOk x (λ n. (length packets ≡ n) × (n ≤ most)) → OnErr x (packets ≡ []) → length packets ≤ most
burst_few (Ok n) most packets many none = omega (arith, many.0, many.1)
burst_few (Err f) most packets many none = omega (arith, ap (λ (l : List Packet). length l) none)
