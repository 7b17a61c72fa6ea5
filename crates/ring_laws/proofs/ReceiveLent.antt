-- The blocks that the driver has lent for receiving, after each of its calls.
use Rattle.ring_laws.specs.{Lent.LendsOneOf, Lent.OnlyLent, Lent.either, Prelude.Block, Prelude.Blocks}
use Rattle.ring_laws.{proofs.Lent.Follows, proofs.Lent.follows_in, proofs.Lent.follows_known, specs.Prelude.Event}
use Rattle.ring_laws.{proofs.Lent.only_lent_stays, specs.Lent.LendsOwn, specs.Prelude.Reply, specs.Prelude.State}
use Rattle.pmd_rx.specs.{Keeping.has_lent, Receive.LendsNext}
use Rattle.ring_laws.specs.ReceivePrelude.{IsOwn, LendsAgain, Receive, drive}
use Rattle.ring_laws.{proofs.Kept.among, proofs.Kept.parted, specs.ReceiveLent.OwnLendsAreKnown, specs.Steps.Each}
use Rattle.std.proofs.Common.{IsTrue, List, arith, false, length, ne_eqb, slice_index, sym, ℕ, ◌<◌, ◌==◌, ◌≡◌, ◌≢◌}
use Rattle.std.proofs.lemmas.{Bool.or_from, Grind.common_steps, List.Elements.All-from_get_or, List.Folds.list_any_none}
use Rattle.pmd_access.specs.NicDevice.declared.event.Event.TheVariants as event

-- Which blocks the driver has lent for receiving, after each of its calls.

in_none : (xs : List ℕ) (n : ℕ) → ((k : ℕ) → k < length xs → slice_index xs k ≢ n) → among xs n ≡ false
in_none xs n none =
    list_any_none (λ b. n == b) xs
    (All-from_get_or (λ b. (n == b) ≡ false) xs 0 (λ k i. ne_eqb n (slice_index xs k) (λ e. none k i (sym e))))

module _ (v : Receive) where
  follows : (e : Event Block) → IsOwn v e → (r : Reply Block) (n : ℕ)
      → Follows (has_lent v) (has_lent (drive v e r)) e r n
  follows e h1 r n = grind (arith, common_steps)

  -- A block that may be lent isn't lent yet.
  pub unknown : (b : Block) → LendsNext v b → has_lent v b.number ≡ false
  unknown b own = grind (arith, parted, in_none)

-- The driver's blocks stay among those that its pass lends.
pub mine_driven : (mine : Blocks) (v : Receive) → Each v (λ b. IsTrue (mine b)) → (e : Event Block) (r : Reply Block)
    → IsOwn v e → LendsOneOf mine e r → Each (drive v e r) (λ b. IsTrue (mine b))
mine_driven mine v m e r own l = follows_in mine (has_lent v) m e (λ r. has_lent (drive v e r)) (follows v e own) r l

-- Each lent block of a given set stays known through the driver's own events.

pub own_lends_are_known : OwnLendsAreKnown
own_lends_are_known = record {
  kept = λ own others s v e only may.
      follows_known own others s (has_lent v) only e (λ r. has_lent (drive v e r)) (follows v e may);
  again = lends_again;
}
  where
    lends_again : (own others : Blocks) (s : State) (v : Receive) (e : Event Block)
        → OnlyLent own (either (has_lent v) others) s.memory → IsOwn v e → LendsOwn own others e → LendsAgain s e
    lends_again own others s v (event.Lend b) only may is =
        only_lent_stays.again own (either (has_lent v) others) s b only is.0
        (or_from (has_lent v b.number) (others b.number) (unknown v b may) is.1)
    lends_again own others s v e only may is = tt
