-- Lemmas about where a driver's blocks are while it brings its rings up.
use Rattle.std.proofs.Common.{ℕ, List, [], ◌∷◌, ◌++◌, refl, sym, subst, arith}
use Rattle.pmd_access.specs.NicDevice.DmaArena.Numbers.{Numbers}
use Rattle.pmd_access.specs.NicDevice.DmaRing.declared.dir.Dir.TheVariants.{Tx}
use Rattle.pmd_access.specs.DeviceLock.declared.entry.Call.{Call}
use Rattle.pmd_access.specs.Home.{IsDrawn}
use Rattle.pmd_access.specs.Slots.{ring_blocks}
use Rattle.pmd_access.specs.declared.fault.PmdFault.{PmdFault}
use Rattle.pmd_access.proofs.Outside.{times-append}
use Rattle.pmd_driver.specs.Halted.{Halted, with_rings, with_receive_ring, with_blocks}
use Rattle.pmd_access.specs.Named.{AtPort}
use Rattle.pmd_rx.specs.Keeping.{Keeps, blocks_held, blocks_out, lent_of}
use Rattle.pmd_rx.specs.Receive.{Receive}
use Rattle.pmd_tx.specs.Leaving as transmit
use Rattle.pmd_tx.specs.Sending.{Sender}
use Rattle.pmd_driver.specs.Blocks.{KeepsEach, HasAll, IsWhole}
use Rattle.pmd_driver.specs.Running.{kept_out}
use Rattle.pmd_driver.specs.Started.{IsHome, IsHalfStarted, IsLeftWith}
use Rattle.pmd_driver.specs.Starting.{IsReceiveReady, IsTransmitReady, PreparingFails}
use Rattle.pmd_driver.specs.declared.start.Rest.{Rest}
use Rattle.pmd_driver.specs.declared.start.Rest.TheVariants as rest
use Rattle.pmd_driver.proofs.Kept.{kept_parted}
use Rattle.pmd_driver.proofs.Starting.{preparing_drawn}
use Rattle.pmd_driver.proofs.Whole.{keeps_then, keeps_counted, keeps_beside, all_drawn, all_exchanged}

drawn_after : (a : Numbers) (drawn : List ℕ) (b : Numbers) (out : List ℕ) → IsDrawn a drawn b
    → KeepsEach a out b (out ++ drawn)
drawn_after a drawn b out is =
    keeps_counted a b out (drawn ++ out) (out ++ drawn)
    (λ k. omega (arith, times-append drawn out k, times-append out drawn k)) (all_drawn a drawn b out is)

receive_has : {q : AtPort} {size frame : ℕ} {old new : List Call} {a b : Numbers} {v : Receive}
    → IsReceiveReady q size frame old a new b v → KeepsEach a [] b (blocks_out v)
receive_has {size = size} {a = a} {b = b} ready =
    subst (λ (x : Receive). KeepsEach a [] b (blocks_out x)) (sym ready.fresh)
    (all_drawn a (ring_blocks ready.ring size) b [] ready.prepared.drawn)

transmit_has : {q : AtPort} {size frame : ℕ} {old new : List Call} {a b : Numbers} {s : Sender} (out : List ℕ)
    → IsTransmitReady q size frame old a new b s → KeepsEach a out b (out ++ kept_out s)
transmit_has {size = size} {a = a} {b = b} out ready =
    subst (λ (x : Sender). KeepsEach a out b (out ++ kept_out x)) (sym ready.fresh)
    (drawn_after a (ring_blocks ready.ring size) b out ready.prepared.drawn)

-- A driver with these rings or blocks has all blocks of the arena that it was given.

blocks_all : (a b : Numbers) (out : List ℕ) → KeepsEach a [] b (out ++ []) → HasAll a (with_blocks b out) []
blocks_all a b out keeps =
    keeps_counted a b [] (out ++ []) (((out ++ []) ++ []) ++ [])
    (λ n. omega (arith, times-append ((out ++ []) ++ []) [] n, times-append (out ++ []) [] n)) keeps

one_ring : (a b : Numbers) (v : Receive) (out : List ℕ) → KeepsEach a [] b (blocks_out v ++ out)
    → HasAll a (with_receive_ring b v out) []
one_ring a b v out keeps =
    let lent : List ℕ = lent_of v in
    let held : List ℕ = blocks_held v in
    keeps_counted a b [] ((lent ++ held) ++ out) (((lent ++ out) ++ (held ++ [])) ++ [])
    (λ n. omega (
      arith,
      times-append (lent ++ held) out n,
      times-append lent held n,
      times-append ((lent ++ out) ++ (held ++ [])) [] n,
      times-append (lent ++ out) (held ++ []) n,
      times-append held [] n,
      times-append lent out n,
    ))
    keeps

pub both_rings : (a b : Numbers) (v : Receive) (s : Sender) (hand : List ℕ)
    → KeepsEach a [] b ((blocks_out v ++ kept_out s) ++ hand) → HasAll a (with_rings b v s) hand
both_rings a b v s hand keeps =
    let lent : List ℕ = lent_of v in
    let held : List ℕ = blocks_held v in
    let sent : List ℕ = transmit.lent_of s in
    let waiting : List ℕ = transmit.waiting_of s in
    keeps_counted a b [] (((lent ++ held) ++ kept_out s) ++ hand) (((lent ++ sent) ++ (held ++ waiting)) ++ hand)
    (λ n. omega (
      arith,
      kept_parted s n,
      times-append ((lent ++ held) ++ kept_out s) hand n,
      times-append (lent ++ held) (kept_out s) n,
      times-append lent held n,
      times-append ((lent ++ sent) ++ (held ++ waiting)) hand n,
      times-append (lent ++ sent) (held ++ waiting) n,
      times-append held waiting n,
      times-append lent sent n,
    ))
    keeps

module _ {q : AtPort} {size frame : ℕ} {old mid new : List Call} {a b d : Numbers} {v : Receive}
    (ready : IsReceiveReady q size frame old a mid b v)
  where
    -- A driver with the receive ring and some blocks of the transmit ring has all the blocks.
    pub after_all : {f : PmdFault} {out : List ℕ} → PreparingFails f q Tx size mid b new d out
        → HasAll a (with_receive_ring d v out) []
    after_all {f} {out} fails =
        one_ring a d v out
        (keeps_then a b d [] (blocks_out v) (blocks_out v ++ out) (receive_has ready)
        (drawn_after b out d (blocks_out v) (preparing_drawn f q Tx size mid b new d out fails)))

    -- A driver with both rings, after the receive ring was filled, has all the blocks.
    pub filled_all : {e : Numbers} {w : Receive} {s : Sender} → IsTransmitReady q size frame mid b new d s
        → Keeps d v e w [] → HasAll a (with_rings e w s) []
    filled_all {e} {w} {s} also keeps =
        let out : List ℕ = blocks_out w ++ kept_out s in
        both_rings a e w s []
        (keeps_counted a e [] out (out ++ []) (λ n. omega (arith, times-append out [] n))
        (keeps_then a b e [] (blocks_out v) out (receive_has ready)
        (keeps_then b d e (blocks_out v) (blocks_out v ++ kept_out s) out (transmit_has (blocks_out v) also)
        (keeps_beside d e (blocks_out v) (blocks_out w) (kept_out s)
        (all_exchanged d (blocks_out v) e (blocks_out w) keeps.arena)))))

-- What a refused start returns has all the blocks (`IsWhole`).

half_whole : (a : Numbers) (q : AtPort) (h : Halted) (r : Rest) → HasAll a h [] → IsHalfStarted q h r → IsWhole a r
half_whole a q h r all is = subst (λ (x : Rest). IsWhole a x) (sym is) (all.owns, λ none. all)

pub home_whole : (a : Numbers) (r : Rest) → IsHome a r → IsWhole a r
home_whole a (rest.Home h) (arena, lost, handed, accepted) = rw arena (λ n. refl, λ none n. refl)
home_whole a (rest.Running p) is = absurd is

-- `IsWhole` also holds if only some blocks of the receive ring were lent.
pub before_whole : (a : Numbers) (q : AtPort) (b : Numbers) (out : List ℕ) (r : Rest) → IsDrawn a out b
    → IsLeftWith q b out r → IsWhole a r
before_whole a q b [] r drawn is = subst (λ (x : Numbers). IsWhole x r) drawn (home_whole b r is)
before_whole a q b (n ∷ ns) r drawn is =
    half_whole a q (with_blocks b (n ∷ ns)) r
    (blocks_all a b (n ∷ ns) (all_drawn a (n ∷ ns) b [] drawn)) is
