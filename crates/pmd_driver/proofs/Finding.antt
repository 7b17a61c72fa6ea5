-- Lemmas about a half's call that gets a reply that a healthy queue never sends.
use Rattle.std.proofs.Common.{◌≡◌, ℕ, true, false, List, [], ◌∷◌, ◌++◌, length, length-append, refl, sym, ap, ◌∙◌, subst, arith}
use Rattle.std.specs.Prelude.{IsTrue}
use Rattle.pmd_access.specs.NicDevice.DmaArena.Block.{Block}
use Rattle.pmd_access.specs.NicDevice.DmaArena.Numbers.{Numbers, is_free}
use Rattle.pmd_access.specs.NicDevice.declared.event.Event.{Event}
use Rattle.pmd_access.specs.NicDevice.declared.event.Reply.{Reply}
use Rattle.pmd_access.specs.DeviceLock.Alone.{Blocks}
use Rattle.pmd_access.specs.DeviceLock.Pass.{call_of}
use Rattle.pmd_access.specs.DeviceLock.declared.entry.Call.{Call}
use Rattle.pmd_access.specs.Events.{is_step}
use Rattle.pmd_access.specs.declared.fault.PmdFault.{PmdFault}
use Rattle.pmd_access.specs.declared.fault.PmdFault.TheVariants.{DeviceFault}
use Rattle.pmd_rx.specs.Receive.{Receive}
use Rattle.pmd_rx.specs.Wrong.{EndsWrong, FailsBy}
use Rattle.pmd_tx.specs.Plays.{Faults, FaultsBy, is_elsewhere}
use Rattle.pmd_tx.specs.Sending as sending
use Rattle.pmd_tx.specs.Sending.{Sender, Move, Elsewhere, blocks_of}
use Rattle.pmd_driver.specs.Apart.{MayLend, FindsFault, FindsBy}
use Rattle.pmd_driver.specs.Halves.{Halves, Receives, Sends}
use Rattle.pmd_driver.proofs.Apart.{AllMaySend, OutstandingMay, played_may, receiving_apart, received_apart}
use Rattle.pmd_driver.proofs.Apart.{sending_apart, moved_apart}

-- If the receive half got a wrong reply, `FindsFault` holds.

finds_wrong : (own : Blocks) (a : Numbers) (old new : List Call) (h : Halves) (w : Receive)
    → ((n : ℕ) → is_free a n ≡ true → MayLend own h Receives n) → EndsWrong a old h.receive new w
    → FindsFault own old h new
finds_wrong own a old new h w may (mid, e, r, plays, mine, free, adds, sick) =
    let there : Halves = record h { receive = w } in
    record {
      mid = mid;
      there = there;
      doer = Receives;
      event = e;
      reply = r;
      drives = receiving_apart own a old mid h there may plays refl;
      mine = mine;
      apart = received_apart own a there may e free;
      adds = adds;
      sick = sick;
    }

pub wrong_by : (f : PmdFault) (own : Blocks) (a b : Numbers) (old new : List Call) (h : Halves) (w : Receive)
    → ((n : ℕ) → is_free a n ≡ true → MayLend own h Receives n) → FailsBy f old a h.receive new b w
    → FindsBy f own old h new
wrong_by DeviceFault own a b old new h w may fails = finds_wrong own a old new h w may fails
wrong_by f own a b old new h w may fails = tt

-- If the transmit half got a wrong reply, `FindsFault` holds.

real_step : (m : Move) (r : Reply Block) (e : Event Block) → sending.is_healthy m r ≡ false → IsTrue (is_elsewhere m)
    → IsTrue (is_step e)
real_step Elsewhere r e sick is = cc
real_step m r e sick is = cc

pub finds_fault : (own : Blocks) (blocks : List ℕ) (old new : List Call) (h : Halves) → AllMaySend own h.receive blocks
    → OutstandingMay own h → Faults blocks old h.transmit new → FindsFault own old h new
finds_fault own blocks old new h some all f =
    let there : Halves = record h { transmit = f.before } in
    let (moves, since, made, mine, is, steps) = f.plays.plays in
    let then : OutstandingMay own there =
    subst (λ (v : Sender). AllMaySend own h.receive (blocks_of v.outstanding)) (sym is)
    (played_may own h.receive blocks h.transmit some all moves since f.plays.accepts) in
    record {
      mid = f.mid;
      there = there;
      doer = Sends f.move;
      event = f.event;
      reply = f.reply;
      drives = sending_apart own blocks old f.mid h there some all f.plays refl;
      mine = f.own;
      apart = moved_apart own blocks there some then f.move f.event f.own f.accepts
          (real_step f.move f.reply f.event f.sick);
      adds = f.adds;
      sick = f.sick;
    }

pub fault_by : (f : PmdFault) (own : Blocks) (blocks : List ℕ) (old new : List Call) (h : Halves)
    → AllMaySend own h.receive blocks → OutstandingMay own h → FaultsBy f blocks old h.transmit new
    → FindsBy f own old h new
fault_by DeviceFault own blocks old new h some all faults = finds_fault own blocks old new h some all faults
fault_by f own blocks old new h some all faults = tt

-- If no call was made, no call got a wrong reply.

none_made : (blocks : List ℕ) (old new : List Call) (h : Halves) → new ≡ old → Faults blocks old h.transmit new → ⊥
none_made blocks old new h same f =
    let last : List Call = f.adds.0 ++ call_of f.event f.reply ∷ [] in
    let is : new ≡ (old ++ f.plays.plays.1) ++ last =
    f.adds.1 ∙ ap (λ (calls : List Call). calls ++ last) f.plays.plays.2 in
    absurd (omega (
      arith,
      ap length (sym same ∙ is),
      length-append (old ++ f.plays.plays.1) last,
      length-append old f.plays.plays.1,
      length-append f.adds.0 (call_of f.event f.reply ∷ []),
    ))

pub still_by : (f : PmdFault) (own : Blocks) (blocks : List ℕ) (old new : List Call) (h : Halves) → new ≡ old
    → FaultsBy f blocks old h.transmit new → FindsBy f own old h new
still_by DeviceFault own blocks old new h same faults = absurd (none_made blocks old new h same faults)
still_by f own blocks old new h same faults = tt
