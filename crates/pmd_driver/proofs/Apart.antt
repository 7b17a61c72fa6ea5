-- Lemmas: each block that a half lends has one of the driver's own numbers and isn't lent by the other half.
use Rattle.std.proofs.Common.{◌≡◌, ℕ, zero, suc, ◌<◌, Bool, true, false, List, [], ◌∷◌, ◌++◌, length, take, drop, refl, sym, subst, arith}
use Rattle.std.specs.Prelude.{IsTrue, IsFalse, slice_index_or, ⊤}
use Rattle.pmd_access.specs.NicDevice.DmaArena.Block.{Block}
use Rattle.pmd_access.specs.NicDevice.DmaArena.Numbers.{Numbers, is_free}
use Rattle.pmd_access.specs.NicDevice.declared.event.Event.{Event}
use Rattle.pmd_access.specs.NicDevice.declared.event.Event.TheVariants as event
use Rattle.pmd_access.specs.NicDevice.declared.event.Reply.{Reply}
use Rattle.pmd_access.specs.NicDevice.declared.event.Reply.TheVariants as reply
use Rattle.pmd_access.specs.DeviceLock.Alone.{Blocks}
use Rattle.pmd_access.specs.DeviceLock.declared.entry.Call.{Call}
use Rattle.pmd_access.specs.Events.{is_step}
use Rattle.pmd_rx.specs.Keeping as receiving
use Rattle.pmd_rx.specs.Plays as receive
use Rattle.pmd_rx.specs.Receive.{Receive}
use Rattle.pmd_tx.specs.Plays as transmit
use Rattle.pmd_tx.specs.Sending as sending
use Rattle.pmd_tx.specs.Sending.{Sender, Outgoing, Part, Segment, Move, Accepts, Lends, Asks, Advances, Looks, Reaps, Elsewhere, blocks_of, no_segment, paired, parts_for, parts_of, segments_of}
use Rattle.pmd_driver.specs.Apart.{MayLend, LendsApart, AllLendApart, DrivesApart}
use Rattle.pmd_driver.specs.Halves.{Halves, Doer, Receives, Sends, AllOwn, after_call, doers_marked, doers_moved}
use Rattle.pmd_driver.specs.Halves.{played_by}
use Rattle.pmd_driver.proofs.Placed.{many_parts}
use Rattle.pmd_driver.proofs.Followed.{receiving_drives, sending_drives, drives_none, drives_on}

-- A device step lends no block.
pub step_apart : (own : Blocks) (h : Halves) (e : Event Block) → IsTrue (is_step e)
    → LendsApart own h (Sends Elsewhere) e
step_apart own h (event.Lend b) step = cc
step_apart own h e step = tt

-- `DrivesApart` holds if no call was made. If it holds for each of two sequences of calls, it holds for one followed by
-- the other.

pub apart_none : (own : Blocks) (made : List Call) (h : Halves) → DrivesApart own made h made h
unfolding drives_none
apart_none own made h = record { drives = drives_none made h; apart = tt }

pub both_apart : (own : Blocks) (h : Halves) (ds es : List Doer) (ms ns : List Call) → AllOwn h ds ms
    → AllLendApart own h ds ms → AllLendApart own (played_by h ds ms) es ns
    → AllLendApart own h (ds ++ es) (ms ++ ns)
both_apart own h [] es [] ns mine first then = then
both_apart own h [] es (m ∷ ms) ns mine first then = absurd mine
both_apart own h (d ∷ ds) es [] ns mine first then = absurd mine
both_apart own h (d ∷ ds) es (m ∷ ms) ns mine first then =
    (first.0, both_apart own (after_call h d m) ds es ms ns mine.1 first.1 then)

pub apart_on : (own : Blocks) (old mid new : List Call) (h j k : Halves) → DrivesApart own old h mid j
    → DrivesApart own mid j new k → DrivesApart own old h new k
unfolding drives_on
apart_on own old mid new h j k p q = record {
  drives = drives_on old mid new h j k p.drives q.drives;
  apart = both_apart own h p.drives.0 q.drives.0 p.drives.1 q.drives.1 p.drives.3 p.apart
      (subst (λ (x : Halves). AllLendApart own x q.drives.0 q.drives.1) p.drives.4 q.apart);
}

-- The receive half may lend a block that is free in an arena.

pub received_apart : (own : Blocks) (a : Numbers) (h : Halves)
    → ((n : ℕ) → is_free a n ≡ true → MayLend own h Receives n) → (e : Event Block) → receive.LendsFree a true e
    → LendsApart own h Receives e
received_apart own a h may (event.Lend b) free = may b.number free
received_apart own a h may e free = tt

receives_apart : (own : Blocks) (a : Numbers) (h : Halves)
    → ((n : ℕ) → is_free a n ≡ true → MayLend own h Receives n) → (marks : List Bool) (calls : List Call)
    → receive.AllLendFree a marks calls → receive.OthersStep marks calls
    → AllLendApart own h (doers_marked marks) calls
receives_apart own a h may [] calls free steps = tt
receives_apart own a h may (m ∷ marks) [] free steps = tt
receives_apart own a h may (true ∷ marks) (n ∷ calls) free steps = (
  received_apart own a h may n.event free.0,
  receives_apart own a (after_call h Receives n) may marks calls free.1 steps.1,
)
receives_apart own a h may (false ∷ marks) (n ∷ calls) free steps =
    (step_apart own h n.event (steps.0 refl), receives_apart own a h may marks calls free.1 steps.1)

pub receiving_apart : (own : Blocks) (a : Numbers) (old new : List Call) (h k : Halves)
    → ((n : ℕ) → is_free a n ≡ true → MayLend own h Receives n)
    → receive.PlaysFrom a old h.receive new k.receive → k.transmit ≡ h.transmit → DrivesApart own old h new k
unfolding receiving_drives
receiving_apart own a old new h k may plays same = record {
  drives = receiving_drives old new h k plays.plays same;
  apart = receives_apart own a h may plays.plays.0 plays.plays.1 plays.free plays.plays.5;
}

-- The transmit half may lend the blocks of outstanding segments, and those of a packet that it accepts.

abbrev pub MaySend : Blocks → Receive → ℕ → Type 0
MaySend own v n = IsTrue (own n) × IsFalse (receiving.has_lent v n)

abbrev pub AllMaySend : Blocks → Receive → List ℕ → Type 0
AllMaySend own v [] = ⊤
AllMaySend own v (n ∷ ns) = MaySend own v n × AllMaySend own v ns

pub take_may : (own : Blocks) (v : Receive) (k : ℕ) (ns : List ℕ) → AllMaySend own v ns → AllMaySend own v (take k ns)
take_may own v zero ns may = tt
take_may own v (suc k) [] may = tt
take_may own v (suc k) (n ∷ ns) may = (may.0, take_may own v k ns may.1)

-- `May`: the transmit half may lend the blocks of these segments.

module _ (own : Blocks) (v : Receive) where
  abbrev May : List Segment → Type 0
  May ss = AllMaySend own v (blocks_of ss)

  both_may : (ss ts : List Segment) → May ss → May ts → May (ss ++ ts)
  both_may [] ts one two = two
  both_may (s ∷ ss) ts one two = (one.0, both_may ss ts one.1 two)

  rest_may : (ss : List Segment) → May ss → May (drop 1 ss)
  rest_may [] may = tt
  rest_may (s ∷ ss) may = may.1

  paired_may : (bs : List ℕ) (qs : List Part) → AllMaySend own v bs → May (paired bs qs)
  paired_may [] qs may = tt
  paired_may (b ∷ bs) [] may = tt
  paired_may (b ∷ bs) (q ∷ qs) may = (may.0, paired_may bs qs may.1)

  at_may : (ss : List Segment) (k : ℕ) → May ss → k < length ss
      → MaySend own v (slice_index_or ss k no_segment).block
  at_may [] k may below = absurd (omega (arith, below))
  at_may (s ∷ ss) zero may below = may.0
  at_may (s ∷ ss) (suc k) may below = at_may ss k may.1 (omega (arith, below))

  first_paired : (bs : List ℕ) (qs : List Part) → AllMaySend own v bs → 0 < length bs → 0 < length qs
      → MaySend own v (slice_index_or (paired bs qs) 0 no_segment).block
  first_paired [] qs may some parts = absurd (omega (arith, some))
  first_paired (b ∷ bs) [] may some parts = absurd (omega (arith, parts))
  first_paired (b ∷ bs) (q ∷ qs) may some parts = may.0

  -- The transmit half may lend the first block of a packet that it accepts.
  accepts_may : (s : Sender) (p : Outgoing) (b : Block) → AllMaySend own v p.blocks → sending.MayAccept s p b
      → MaySend own v b.number
  accepts_may s p b may mine =
      subst (λ (n : ℕ). MaySend own v n) (sym mine.first.number)
      (first_paired p.blocks (parts_of p.kept.bytes) may (omega (arith, mine.each, mine.long))
      (omega (
        arith,
        mine.long,
        many_parts (length p.kept.bytes) (parts_for (length p.kept.bytes)) p.kept.bytes,
      )))

  -- If the transmit half may lend the blocks of all outstanding segments before a move, it may do so after the move.
  pub moved_may : (blocks : List ℕ) (s : Sender) → AllMaySend own v blocks → May s.outstanding → (m : Move)
      (r : Reply Block) → transmit.AcceptsIn blocks m → May (sending.moved s m r).outstanding
  moved_may blocks s some all (Accepts p) reply.Done is =
      both_may s.outstanding (segments_of p) all
      (paired_may p.blocks (parts_of p.kept.bytes) (subst (λ (ns : List ℕ). AllMaySend own v ns) (sym is) some))
  moved_may blocks s some all Reaps (reply.Buf b) is = rest_may s.outstanding all
  moved_may blocks s some all Lends reply.Done is = all
  moved_may blocks s some all Asks reply.Done is = all
  moved_may blocks s some all Advances reply.Done is = all
  moved_may blocks s some all Looks (reply.Bytes d) is = all
  moved_may blocks s some all m r is = all

  pub played_may : (blocks : List ℕ) (s : Sender) → AllMaySend own v blocks → May s.outstanding → (moves : List Move)
      (calls : List Call) → transmit.AllAcceptIn blocks moves → May (transmit.played_by s moves calls).outstanding
  played_may blocks s some all [] calls is = all
  played_may blocks s some all (m ∷ moves) [] is = all
  played_may blocks s some all (m ∷ moves) (n ∷ calls) is =
      played_may blocks (sending.moved s m n.reply) some (moved_may blocks s some all m n.reply is.0) moves calls is.1

-- `OutstandingMay`: the transmit half may lend the blocks of all outstanding segments.
abbrev pub OutstandingMay : Blocks → Halves → Type 0
OutstandingMay own h = AllMaySend own h.receive (blocks_of h.transmit.outstanding)

pub moved_apart : (own : Blocks) (blocks : List ℕ) (h : Halves) → AllMaySend own h.receive blocks
    → OutstandingMay own h → (m : Move) (e : Event Block) → sending.IsOwn h.transmit m e
    → transmit.AcceptsIn blocks m → (IsTrue (transmit.is_elsewhere m) → IsTrue (is_step e))
    → LendsApart own h (Sends m) e
moved_apart own blocks h some all (Accepts p) (event.Lend b) mine is step =
    accepts_may own h.receive h.transmit p b (subst (λ (ns : List ℕ). AllMaySend own h.receive ns) (sym is) some) mine
moved_apart own blocks h some all Lends (event.Lend b) mine is step =
    subst (λ (n : ℕ). MaySend own h.receive n) (sym mine.1.number)
    (at_may own h.receive h.transmit.outstanding h.transmit.lent all mine.0)
moved_apart own blocks h some all Asks (event.Lend b) mine is step = absurd mine
moved_apart own blocks h some all Advances (event.Lend b) mine is step = absurd mine
moved_apart own blocks h some all Looks (event.Lend b) mine is step = absurd mine
moved_apart own blocks h some all Reaps (event.Lend b) mine is step = absurd mine
moved_apart own blocks h some all Elsewhere (event.Lend b) mine is step =
    step_apart own h (event.Lend b) (step refl)
moved_apart own blocks h some all m e mine is step = tt

sends_apart : (own : Blocks) (blocks : List ℕ) (h : Halves) → AllMaySend own h.receive blocks → OutstandingMay own h
    → (moves : List Move) (calls : List Call) → transmit.AllOwn h.transmit moves calls
    → transmit.AllAcceptIn blocks moves → transmit.OthersStep moves calls
    → AllLendApart own h (doers_moved moves) calls
sends_apart own blocks h some all [] calls mine is steps = tt
sends_apart own blocks h some all (m ∷ moves) [] mine is steps = tt
sends_apart own blocks h some all (m ∷ moves) (n ∷ calls) mine is steps = (
  moved_apart own blocks h some all m n.event mine.0 is.0 steps.0,
  sends_apart own blocks (after_call h (Sends m) n) some
      (moved_may own h.receive blocks h.transmit some all m n.reply is.0) moves calls mine.1 is.1 steps.1,
)

pub sending_apart : (own : Blocks) (blocks : List ℕ) (old new : List Call) (h k : Halves)
    → AllMaySend own h.receive blocks → OutstandingMay own h
    → transmit.PlaysWith blocks old h.transmit new k.transmit → k.receive ≡ h.receive → DrivesApart own old h new k
unfolding sending_drives
sending_apart own blocks old new h k some all plays same = record {
  drives = sending_drives old new h k plays.plays same;
  apart = sends_apart own blocks h some all plays.plays.0 plays.plays.1 plays.plays.3 plays.accepts plays.plays.5;
}
