-- Lemmas about where the blocks of a driver that isn't running are.
use Rattle.std.proofs.Common.{◌≡◌, ℕ, ◌+◌, ◌<◌, ◌||◌, nat_lt, Bool, true, false, cond, List, [], ◌++◌, length, length-append, sym, ap, ◌∙◌, subst, arith}
use Rattle.std.proofs.lemmas.Bool.Decides.{nat_tests}
use Rattle.pmd_access.specs.NicDevice.DmaArena.Numbers.{Numbers, is_own, is_free}
use Rattle.pmd_access.specs.NicDevice.DmaArena.Whereabouts.{times_in_hand}
use Rattle.pmd_access.specs.Bufs.{with_all_free}
use Rattle.pmd_access.specs.Home.{AreOut}
use Rattle.pmd_access.specs.Packet.{Kept}
use Rattle.pmd_access.proofs.Outside.{times-append, out_fewer}
use Rattle.pmd_rx.specs.Keeping as receive
use Rattle.pmd_rx.specs.Receive.{Receive}
use Rattle.pmd_tx.specs.Leaving as transmit
use Rattle.pmd_tx.specs.Sending.{Sender}
use Rattle.pmd_driver.specs.Halted.{Halted, IsHalted, all_out, is_free_or_out, way_of}
use Rattle.pmd_driver.specs.Running.{kept_out}
use Rattle.pmd_access.specs.DeviceLock.declared.entry.Call.{Call}
use Rattle.pmd_access.specs.Named.{AtPort}
use Rattle.pmd_driver.specs.Stopping.{closed, bringing, brought, GoesHome, IsInPart}
use Rattle.pmd_driver.specs.declared.home.Home.{Home}
use Rattle.pmd_driver.proofs.Bringing.{all_free_again, all_own}
use Rattle.pmd_driver.proofs.Few.{out_few}
use Rattle.pmd_driver.proofs.Kept.{kept_parted}
use Rattle.pmd_driver.proofs.Several.{all_given, all_own_same, out_all_given}

-- A driver that has just stopped running satisfies `IsHalted`.

module _ (a : Numbers) (small : length a.free < 4294967296) (lent held : List ℕ) where
  few_at_first : AreOut a (lent ++ held) → length lent < 4294967296
  few_at_first out = omega (arith, out_few a (lent ++ held) out, length-append lent held, small)

  pub first_halted : (handed accepted : List Kept) → AreOut a (lent ++ held)
      → IsHalted (record { arena = a; held = held; way = way_of lent; handed = handed; accepted = accepted })
  first_halted handed accepted out = record { home = out; few = omega (arith, few_at_first out) }

-- The blocks of a receive ring, together with other blocks, split into lent blocks and blocks in hand.
pub ring_out : (a : Numbers) (v : Receive) (others : List ℕ) → AreOut a (receive.blocks_out v ++ others)
    → AreOut a ((receive.lent_of v ++ others) ++ (receive.blocks_held v ++ []))
ring_out a v others out =
    let lent : List ℕ = receive.lent_of v in
    let held : List ℕ = receive.blocks_held v in
    out_fewer a ((lent ++ held) ++ others) ((lent ++ others) ++ (held ++ [])) out
    (λ k. omega (
      arith,
      times-append (lent ++ held) others k,
      times-append lent held k,
      times-append (lent ++ others) (held ++ []) k,
      times-append held [] k,
      times-append lent others k,
    ))

-- The blocks of both rings split into lent blocks and blocks in hand.
pub rings_out : (a : Numbers) (v : Receive) (w : Sender) → AreOut a (receive.blocks_out v ++ kept_out w)
    → AreOut a ((receive.lent_of v ++ transmit.lent_of w) ++ (receive.blocks_held v ++ transmit.waiting_of w))
rings_out a v w out =
    let lent : List ℕ = receive.lent_of v in
    let held : List ℕ = receive.blocks_held v in
    let sent : List ℕ = transmit.lent_of w in
    let waiting : List ℕ = transmit.waiting_of w in
    out_fewer a ((lent ++ held) ++ kept_out w) ((lent ++ sent) ++ (held ++ waiting)) out
    (λ k. omega (
      arith,
      kept_parted w k,
      times-append (lent ++ held) (kept_out w) k,
      times-append lent held k,
      times-append (lent ++ sent) (held ++ waiting) k,
      times-append held waiting k,
      times-append lent sent k,
    ))

-- When the rings are closed, `AreOut` still holds after all or some of the blocks in hand are returned to the arena.

module _ (a : Numbers) (lent gone kept : List ℕ) (out : AreOut a (lent ++ (gone ++ kept))) where
  turned : AreOut a (gone ++ (lent ++ kept))
  turned =
      out_fewer a (lent ++ (gone ++ kept)) (gone ++ (lent ++ kept)) out
      (λ k. omega (
        arith,
        times-append lent (gone ++ kept) k,
        times-append gone kept k,
        times-append gone (lent ++ kept) k,
        times-append lent kept k,
      ))

  pub part_out : AreOut (with_all_free a gone) (lent ++ kept)
  part_out = out_all_given a gone (lent ++ kept) turned

-- What closing the transmit half requires after the receive half was closed.
module _ (a : Numbers) (lent sent held waiting : List ℕ) (out : AreOut a ((lent ++ sent) ++ (held ++ waiting))) where
  pub second_half : AreOut (with_all_free a held) waiting
  second_half =
      out_all_given a held waiting
      (out_fewer a ((lent ++ sent) ++ (held ++ waiting)) (held ++ waiting) out
      (λ k. omega (arith, times-append (lent ++ sent) (held ++ waiting) k)))

-- A test whether a block is free or in use, expressed as a count.

by_sum : (f : Bool) (t : ℕ) → (f || nat_lt 0 t) ≡ nat_lt 0 (cond f 1 0 + t)
by_sum true t = grind (arith, nat_tests)
by_sum false t = let e : t ≡ 0 + t = omega arith in ap (λ (k : ℕ). nat_lt 0 k) e

module _ (a : Numbers) (lent held : List ℕ) (out : AreOut a (lent ++ held)) where
  first : AreOut a (held ++ lent)
  first =
      out_fewer a (lent ++ held) (held ++ lent) out
      (λ k. omega (arith, times-append lent held k, times-append held lent k))

  pub closed_out : AreOut (with_all_free a held) (lent ++ [])
  closed_out =
      out_fewer (with_all_free a held) lent (lent ++ []) (out_all_given a held lent first)
      (λ k. omega (arith, times-append lent [] k))

  same_sum : (k : ℕ) → cond (is_free (with_all_free a held) k) 1 0 + times_in_hand (lent ++ []) k
      ≡ cond (is_free a k) 1 0 + times_in_hand (lent ++ held) k
  same_sum k =
      omega (
        arith,
        (all_given a held lent first).each k,
        times-append lent [] k,
        times-append lent held k,
        times-append held lent k,
      )

  pub closed_there : (k : ℕ)
      → is_free_or_out (with_all_free a held) (lent ++ []) k ≡ is_free_or_out a (lent ++ held) k
  closed_there k =
      by_sum (is_free (with_all_free a held) k) (times_in_hand (lent ++ []) k)
      ∙ ap (λ (t : ℕ). nat_lt 0 t) (same_sum k)
      ∙ sym (by_sum (is_free a k) (times_in_hand (lent ++ held) k))

pub closed_halted : (h : Halted) → IsHalted h → IsHalted (closed h)
closed_halted h is = record { home = closed_out h.arena h.way.lent h.held is.home; few = is.few }

-- `IsHalted` still holds after some blocks in hand were returned to the arena.
pub part_halted : (h k : Halted) → IsHalted h → IsInPart h k → IsHalted k
part_halted h k is part =
    subst (λ (x : Halted). IsHalted x) (sym part.left_is) (record {
      home = part_out h.arena h.way.lent part.gone part.kept
          (subst (λ (l : List ℕ). AreOut h.arena (h.way.lent ++ l)) (sym part.parts) is.home);
      few = is.few;
    })

-- If a stopped driver lost no block, all its blocks are free again.
pub home_free : (q : AtPort) (old new : List Call) (h : Halted) (home : Home) → IsHalted h
    → GoesHome q old (closed h) new home → home.lost ≡ 0 → (k : ℕ)
    → is_free home.arena k ≡ is_free_or_out h.arena (all_out h) k
home_free q old new h home is (mid, off, comes) none k =
    all_free_again (bringing mid (closed h)) (brought new home) comes.brings (closed_halted h is).home none k
    ∙ closed_there h.arena h.way.lent h.held is.home k

-- The arena of a stopped driver owns the same numbers as before.

pub home_own : (q : AtPort) (old new : List Call) (h : Halted) (home : Home) → GoesHome q old (closed h) new home
    → (k : ℕ) → is_own home.arena k ≡ is_own h.arena k
home_own q old new h home (mid, off, comes) k =
    all_own (bringing mid (closed h)) (brought new home) comes.brings k ∙ all_own_same h.arena h.held k

-- A test is true if and only if a count is positive.

pub counted : (b : Bool) (t : ℕ) → b ≡ nat_lt 0 t → (b ≡ true → 0 < t) × (0 < t → b ≡ true)
counted b t is = (λ e. grind (arith, nat_tests, is, e), λ lt. grind (arith, nat_tests, is, lt))

pub never_back : (x : Bool) → x ≡ false → (false ≡ true → x ≡ true) × (x ≡ true → false ≡ true)
never_back x never = (λ e. never ∙ e, λ e. sym never ∙ e)
