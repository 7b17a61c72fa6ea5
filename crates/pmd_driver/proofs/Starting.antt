-- Lemmas about where a driver's blocks are while it brings its rings up.
use Rattle.std.proofs.Common.{◌≡◌, ℕ, zero, suc, ◌+◌, ◌≤◌, inl, inr, Bool, true, false, cond, List, [], ◌∷◌, ◌++◌, length, refl, sym, ap, subst, ◌∙◌, arith}
use Rattle.std.proofs.lemmas.Bool.{cases_eq}
use Rattle.std.specs.List.{range_with_len}
use Rattle.pmd_access.specs.NicDevice.DmaArena.Numbers.{Numbers, free_count, is_own, is_free, with_free}
use Rattle.pmd_access.specs.NicDevice.DmaArena.Whereabouts.{times_in_hand}
use Rattle.pmd_access.proofs.NicDevice.DmaArena.Arenas.{is_own-of_free, is_free-with_free_other, free_count_taken}
use Rattle.pmd_access.specs.DeviceLock.declared.entry.Call.{Call}
use Rattle.pmd_access.specs.NicDevice.DmaRing.declared.dir.Dir.{Dir}
use Rattle.pmd_access.specs.NicDevice.DmaRing.declared.dir.Dir.TheVariants.{Rx, Tx}
use Rattle.pmd_access.specs.Home.{AreOut, IsDrawn}
use Rattle.pmd_access.specs.Slots.{blocks_for, ring_blocks}
use Rattle.pmd_access.specs.declared.fault.PmdFault.{PmdFault}
use Rattle.pmd_access.proofs.Outside.{times_first, times_rest, times-append, out_fewer, all_drawn, out_exchanged}
use Rattle.pmd_access.proofs.Rings.{ring_blocks_many}
use Rattle.pmd_access.specs.Named.{AtPort}
use Rattle.pmd_rx.specs.Keeping.{Keeps, blocks_out}
use Rattle.pmd_rx.specs.Receive.{Receive}
use Rattle.pmd_tx.specs.Sending.{Sender}
use Rattle.pmd_access.specs.NicDevice.DmaArena.Run.{IsFreeRun}
use Rattle.pmd_driver.specs.Running.{kept_out}
use Rattle.pmd_driver.specs.Starting.{IsPrepared, IsReceiveReady, IsTransmitReady, PreparingFails, ReceiveFails}

-- Preparing a ring reduces the number of free blocks by the number of blocks in the ring.

drawn_count : (a : Numbers) (ns : List ℕ) (b : Numbers) → IsDrawn a ns b → free_count b + length ns ≡ free_count a
drawn_count a [] b is = rw is (omega arith)
drawn_count a (n ∷ ns) b (free, is) =
    omega (arith, drawn_count (with_free a n false) ns b is, free_count_taken a n free)

pub prepared_count : {q : AtPort} {side : Dir} {size : ℕ} {old new : List Call} {a b : Numbers} {ring : ℕ}
    → IsPrepared q side size old a new b ring → free_count b + blocks_for size ≡ free_count a
prepared_count {size = size} {a = a} {b = b} {ring = ring} ready =
    omega (arith, drawn_count a (ring_blocks ring size) b ready.drawn, ring_blocks_many ring size)

-- At the start, no block is in use.

none_at : (f o : Bool) → (f ≡ true → o ≡ true) → cond f 1 0 + 0 ≤ cond o 1 0
none_at true o owns = rw (owns refl) (omega arith)
none_at false o owns = omega arith

none_out : (a : Numbers) → AreOut a []
none_out a k = none_at (is_free a k) (is_own a k) (is_own-of_free a k)

pub one_out : (a : Numbers) (out others : List ℕ) → AreOut a (out ++ others) → AreOut a out
one_out a out others are = out_fewer a (out ++ others) out are (λ k. omega (arith, times-append out others k))

-- If a ring wasn't prepared, the blocks that had already been lent were taken from the arena.

pub preparing_drawn : (f : PmdFault) (q : AtPort) (side : Dir) (size : ℕ) (old : List Call) (a : Numbers)
    (new : List Call) (b : Numbers) (out : List ℕ) → PreparingFails f q side size old a new b out → IsDrawn a out b
preparing_drawn f q side size old a new b out (ring, free, inl (stops, same, none)) =
    subst (λ (l : List ℕ). IsDrawn a l b) (sym none) same
preparing_drawn f q side size old a new b out (ring, free, inr (mid, words, stops)) = stops.drawn

pub receive_drawn : (f : PmdFault) (q : AtPort) (size : ℕ) (old : List Call) (a : Numbers) (new : List Call)
    (b : Numbers) (out : List ℕ) → ReceiveFails f q size old a new b out → IsDrawn a out b
receive_drawn f q size old a new b out (inl (stops, same, none)) =
    subst (λ (l : List ℕ). IsDrawn a l b) (sym none) same
receive_drawn f q size old a new b out (inr (mid, made, fails)) = preparing_drawn f q Rx size mid a new b out fails

pub before_out : (f : PmdFault) (q : AtPort) (size : ℕ) (old : List Call) (a : Numbers) (new : List Call)
    (b : Numbers) (out : List ℕ) → ReceiveFails f q size old a new b out → AreOut b out
before_out f q size old a new b out fails =
    all_drawn a out b [] out (receive_drawn f q size old a new b out fails) (none_out a) (λ k. omega arith)

receive_out : {q : AtPort} {size frame : ℕ} {old new : List Call} {a b : Numbers} {v : Receive}
    → IsReceiveReady q size frame old a new b v → AreOut b (blocks_out v)
receive_out {size = size} {a = a} {b = b} ready =
    let ends : List ℕ = ring_blocks ready.ring size in
    subst (λ (x : Receive). AreOut b (blocks_out x)) (sym ready.fresh)
    (all_drawn a ends b [] (ends ++ []) ready.prepared.drawn (none_out a) (λ k. omega (arith, times-append ends [] k)))

-- Which blocks are in use after the receive ring is lent.
module _ {q : AtPort} {size frame : ℕ} {old mid new : List Call} {a b d : Numbers} {v : Receive}
    (ready : IsReceiveReady q size frame old a mid b v)
  where
    pub after_out : (f : PmdFault) (out : List ℕ) → PreparingFails f q Tx size mid b new d out
        → AreOut d (blocks_out v ++ out)
    after_out f out fails =
        all_drawn b out d (blocks_out v) (blocks_out v ++ out) (preparing_drawn f q Tx size mid b new d out fails)
        (receive_out ready) (λ k. omega (arith, times-append (blocks_out v) out k))

    -- Which blocks are in use after the transmit ring is lent too.
    module _ {s : Sender} (also : IsTransmitReady q size frame mid b new d s) where
      pub rings_out : AreOut d (blocks_out v ++ kept_out s)
      rings_out =
          let ends : List ℕ = ring_blocks also.ring size in
          subst (λ (x : Sender). AreOut d (blocks_out v ++ kept_out x)) (sym also.fresh)
          (all_drawn b ends d (blocks_out v) (blocks_out v ++ ends) also.prepared.drawn (receive_out ready)
          (λ k. omega (arith, times-append (blocks_out v) ends k)))

      -- After the receive ring was filled, `AreOut` holds for the blocks of both rings.
      pub filled_rings : {e : Numbers} {w : Receive} → Keeps d v e w [] → AreOut e (blocks_out w ++ kept_out s)
      filled_rings {e} {w} keeps = out_exchanged d (blocks_out v) e (blocks_out w) (kept_out s) rings_out keeps.arena

-- A free block stays free while other blocks are taken.

pub drawn_keeps : (a : Numbers) (xs : List ℕ) (b : Numbers) (n : ℕ) → IsDrawn a xs b → is_free a n ≡ true
    → times_in_hand xs n ≡ 0 → is_free b n ≡ true
drawn_keeps a [] b n is free none = ap (λ (x : Numbers). is_free x n) is ∙ free
drawn_keeps a (x ∷ xs) b n (here, is) free none = elim (cases_eq n x) [
  | inl same ↦
      let one : times_in_hand (x ∷ xs) n ≡ 1 + times_in_hand xs n =
      subst (λ (k : ℕ). times_in_hand (x ∷ xs) k ≡ 1 + times_in_hand xs k) (sym same) (times_first xs x) in
      absurd (omega (arith, none, one))
  | inr ne ↦
      drawn_keeps (with_free a x false) xs b n is
      (is_free-with_free_other a x false n (is_own-of_free a x here) ne ∙ free)
      (sym (times_rest xs x n ne) ∙ none)
]

-- A number after a run isn't in that run.
pub none_past : (many first n : ℕ) → first + many ≤ n → times_in_hand (range_with_len first many) n ≡ 0
none_past zero first n following = refl
none_past (suc many) first n following =
    times_rest (range_with_len (first + 1) many) first n (λ e. absurd (omega (arith, following, e)))
    ∙ none_past many (first + 1) n (omega (arith, following))

pub still_free : (a : Numbers) (ring size : ℕ) (b : Numbers) (other count : ℕ) → IsDrawn a (ring_blocks ring size) b
    → ring + blocks_for size ≤ other → IsFreeRun a other count → IsFreeRun b other count
still_free a ring size b other count drawn apart free k below =
    drawn_keeps a (ring_blocks ring size) b (other + k) drawn (free k below)
    (none_past (blocks_for size) ring (other + k) (omega (arith, apart)))
