-- The state in which the agreement starts. Events that leave the receive side alone, and the driver's own polls and
-- lends, keep the agreement.
use Rattle.ring_laws.specs.Prelude.{Memory, Outcome, State, bytes_in, ends_packet, has_block, is_done, read_at}
use Rattle.ring_laws.specs.Prelude.{receive_queue_of, second_half, step_of}
use Rattle.ring_laws.{proofs.Lent.again_is_done, specs.Prelude.Block, specs.Prelude.Event, specs.Prelude.IsSound}
use Rattle.pmd_access.proofs.NicDevice.DmaArena.Bus.{get-insert_same}
use Rattle.pmd_access.proofs.NicDevice.{Cases.either_way, Cases.lent_cases, DmaArena.Bus.get-insert_other}
use Rattle.pmd_rx.specs.{Receive.LendsNext, Receive.looked, Receive.saw, Receive.reported_by, Wrong.is_healthy}
use Rattle.ring_laws.proofs.Kept.{each_slot, end_more, named_kept, none_held, open_more, posted_in, seen_more}
use Rattle.ring_laws.proofs.{Blocks.same_stays, Blocks.slot_looked, Blocks.slot_as_reported, Kept.each_fresh, Kept.each_ring}
use Rattle.ring_laws.proofs.{Kept.slot_below, Kept.slots_stay, Kept.stage_stays, ReceiveLent.unknown}
use Rattle.ring_laws.specs.Joint.{Agree, AreOpen, AreSeen, EndLast, HasSlots, Holds, IsAt, IsSetUp, StageHolds}
use Rattle.ring_laws.specs.Pieces.{AllFit, Fits, Piece, open_after, piece_at}
use Rattle.ring_laws.specs.ReceivePrelude.{Layout, LendsAgain, Looks, PeeksNext, Receive, Stage, Takes, Reported}
use Rattle.ring_laws.specs.ReceivePrelude.{descriptor_at, drive, is_part, reach, slot_at}
use Rattle.ring_laws.specs.Steps.{LookTellsSlot, SwitchingKeeps, TellsSlot}
use Rattle.ring_laws.specs.{ReceiveUp.IsUp, Starting.StartAgrees, Steps.Leaves, Steps.LeavesButOn, Steps.LeavingKeeps}
use Rattle.std.proofs.Common.{Bool, List, [], ap, arith, cond, length, refl, subst, suc, true, ℕ, ◌&&◌, ◌++◌, ◌+◌, ◌<◌}
use Rattle.std.proofs.{Common.◌∷◌, Common.◌≡◌, Common.◌≤◌, lemmas.Bool.and_parts, lemmas.Bool.cond_both}
use Rattle.pmd_access.specs.NicDevice.declared.event.Event.TheVariants as event
use Rattle.std.specs.FinMap as map

-- An event that leaves a queue's receive side unchanged, except whether it is on and whether an enable request is in
-- effect, keeps the agreement.

module _ {queue : ℕ} {s t : State} {out : List Piece} {v : Receive} {gone here : List Piece}
    (h : Holds queue s out v gone here) where
  switching_holds : LeavesButOn queue v s t → Holds queue t out v gone here
  switching_holds l =
      let Same : ℕ → Type 0 = λ b. map.get t.memory b ≡ map.get s.memory b in
      let stays = same_stays v.layout.ring v.layout.size s.memory t.memory (each_ring v Same l.blocks) in
      let side : IsSetUp (receive_queue_of t.registers queue) v.layout (length here) = (grind arith) in
      assumption (
        named_kept s t queue v.layout l.mode l.vfs h.named,
        side,
        slots_stay h.ring stays here (λ k i. tt) (each_slot v Same l.blocks) h.slots,
        stage_stays h.ring stays v.stage (each_fresh v Same l.blocks) h.stage,
      )

  leaving_holds : Leaves queue v s t → Holds queue t out v gone here
  leaving_holds l = grind (arith, switching_holds)

pub switching_keeps : SwitchingKeeps
switching_keeps queue s t out v l (gone, here, h) = (gone, here, switching_holds h l)

pub leaving_keeps : LeavingKeeps
leaving_keeps queue s t out v l (gone, here, h) = (gone, here, leaving_holds h l)

-- What a driver reads from its next slot, and what the driver knows from this read.

pub tells_bytes : (m : Memory) (l : Layout) (here : List Piece) (k : ℕ) → HasSlots m l here → k < length l.blocks
    → TellsSlot here k (read_at m (descriptor_at l k) 16)
tells_bytes m l here k h some = grind arith

pub look_tells : LookTellsSlot
look_tells queue s out v gone here k h some d is =
    let below = slot_below (reach v) k h.ring (posted_in v k (omega (arith, some))) in
    rw (slot_as_reported v.layout.ring v.layout.size (slot_at v.layout k) below s d h.slots.there is)
    (tells_bytes s.memory (reach v) here k h.slots (posted_in v (suc k) some))

-- The pieces in slots fit, because all pieces fit, and so does the piece after the seen pieces.

fit-last : (most n : ℕ) (gone here : List Piece) → AllFit most n (gone ++ here) → AllFit most (open_after n gone) here
fit-last most n [] here all = all
fit-last most n (p ∷ gone) here all = fit-last most (cond p.end 0 (n + 1)) gone here all.1

next-fits : (most n : ℕ) (seen : List Reported) (here : List Piece) → AllFit most n here → AreSeen seen here →
    AreOpen seen
    → length seen < length here → Fits most (n + length seen) (piece_at here (length seen))
next-fits most n seen [] all are opens below = absurd (omega (arith, below))
next-fits most n [] (p ∷ here) all are opens below = grind arith
next-fits most n (t ∷ ts) (p ∷ here) all are opens below = grind (arith, next-fits most (n + 1) ts here)

part_is : (most before second : ℕ) (p : Piece) (ends : Bool) → ends_packet second ≡ ends → ends_packet second ≡ p.end
    → bytes_in second ≡ length p.bytes → length p.bytes ≤ 2048 → Fits most before p
    → is_part most before second ≡ true
part_is most before second p ends h1 h2 h3 h4 h5 = grind arith

module _ {queue : ℕ} {s : State} {out : List Piece} {v : Receive} {gone here : List Piece}
    (h : Holds queue s out v gone here) where
  -- If the driver sees one more part, the device agrees with its new state.
  looked_holds : v.stage ≡ Looks → (d : List ℕ) → TellsSlot here (length v.seen) d
      → Holds queue s out (looked v d) gone here
  looked_holds looks d tells =
      let t = reported_by d in
      let ends = ends_packet (second_half d) in
      let at : IsAt Looks v.seen v.held = subst (λ (x : Stage). IsAt x v.seen v.held) looks h.order.stage in
      cond_both (is_done (second_half d) && is_part v.layout.most (length v.seen) (second_half d)) (saw v d) v
      (λ (w : Receive). Holds queue s out w gone here) (λ is.
      let both = and_parts (is_done (second_half d)) _ is in
      assumption (
        either_way (StageHolds s.memory (reach v)) ends Takes Looks tt tt,
        none_held out gone here v (saw v d).seen (saw v d).stage h.order at.0
            (seen_more v.seen here t h.order.seen (tells.done.0 both.0) (grind arith))
            (cond_both ends Takes Looks (λ (x : Stage). IsAt x (v.seen ++ t ∷ []) v.held) (end_more v.seen t at.1)
            (λ on. (at.0, open_more v.seen t at.1 (record { goes_on = on; full = (grind arith) })))),
      )) (λ no. h)

  -- A poll that finds a descriptor done.
  reported_part : AllFit v.layout.most 0 out → v.stage ≡ Looks → (d : List ℕ) → TellsSlot here (length v.seen) d
      → is_done (second_half d) ≡ true → is_part v.layout.most (length v.seen) (second_half d) ≡ true
  reported_part all looks d tells done =
      let some : length v.seen < length here = tells.done.0 done in
      let at : IsAt Looks v.seen v.held = subst (λ (x : Stage). IsAt x v.seen v.held) looks h.order.stage in
      let rest : AllFit v.layout.most 0 here = (grind (arith, fit-last)) in
      let fits = subst (λ (n : ℕ). Fits v.layout.most n (piece_at here (length v.seen)))
      (let e : 0 + length v.seen ≡ length v.seen = omega arith in e)
      (next-fits v.layout.most 0 v.seen here rest h.order.seen at.1 some) in
      part_is v.layout.most (length v.seen) (second_half d) (piece_at here (length v.seen)) _ refl (tells.end some)
      (tells.len some) (h.slots.filled (length v.seen) some).short fits

-- The effect of one of the driver's own events, given the result of the device's step. Afterwards the device still
-- agrees with the driver, and a side that is up stays up. If the pieces fit and a block to be lent isn't lent yet, the
-- reply is that of a healthy queue.
pub record Does (queue : ℕ) (s : State) (out : List Piece) (v : Receive) (e : Event Block) (o : Outcome) : Type 0 where
  pub agree : IsSound s → Agree queue o.state out (drive v e o.reply)
  pub up : IsSound s → IsUp queue s → IsUp queue o.state
  pub healthy : AllFit v.layout.most 0 out → LendsAgain s e → is_healthy v e o.reply ≡ true

abbrev pub Driven : ℕ → State → List Piece → Receive → Event Block → Type 0
Driven queue s out v e = Does queue s out v e (step_of s e)

-- The same effect, for an event `e` that equals the event `d` of the step.
pub by_outcome : (queue : ℕ) (s : State) (out : List Piece) (v : Receive) (e d : Event Block) (o : Outcome) → e ≡ d
    → step_of s d ≡ o → (IsSound s → Agree queue o.state out (drive v d o.reply))
    → (IsSound s → IsUp queue s → IsUp queue o.state)
    → (AllFit v.layout.most 0 out → LendsAgain s d → is_healthy v d o.reply ≡ true) → Driven queue s out v e
by_outcome queue s out v e d o same is agree up healthy = grind arith

-- The driver polls the slot after the slots that it saw.
pub look_keeps : (queue : ℕ) (s : State) (out : List Piece) (v : Receive) (a : ℕ) → Agree queue s out v → PeeksNext v a
    → Driven queue s out v (event.Peek16 a)
look_keeps queue s out v a (gone, here, h) own =
    let k = length v.seen in
    let tells = tells_bytes s.memory (reach v) here k h.slots (posted_in v (suc k) own.posted) in
    by_outcome queue s out v (event.Peek16 a) (event.Peek16 (descriptor_at v.layout k)) _ (ap event.Peek16 own.address)
    (slot_looked v.layout.ring v.layout.size (slot_at v.layout k)
    (slot_below (reach v) k h.ring (posted_in v k (omega (arith, own.posted)))) s h.slots.there)
    (λ i. (gone, here, looked_holds h own.stage _ tells)) (λ i up. up)
    (λ all again. (grind (arith, reported_part)))

-- A fresh block is lent.

pub lend_keeps : (queue : ℕ) (s : State) (out : List Piece) (v : Receive) (b : Block) → Agree queue s out v
    → LendsNext v b → Driven queue s out v (event.Lend b)
unfolding step_of
lend_keeps queue s out v b (gone, here, h) own =
    let t : State = record s { memory = map.insert s.memory b.number b.bytes } in
    let left : Leaves queue v s t = (grind (arith, get-insert_other, unknown)) in
    let there : has_block t.memory b.number ≡ true = rw (get-insert_same s.memory b.number b.bytes) refl in
    let last : EndLast v.seen = (grind arith) in
    record {
      agree = λ i.
          lent_cases (λ o. Agree queue o.state out (drive v (event.Lend b) o.reply)) s b (gone, here, h)
          (gone, here, assumption (leaving_holds h left, last));
      up = λ i up. lent_cases (λ o. IsUp queue o.state) s b up up;
      healthy = λ all again. ap (is_healthy v (event.Lend b)) (again_is_done s b again);
    }

-- The device agrees with a driver that has posted nothing yet.

pub start_agrees : StartAgrees
start_agrees queue port tail ring size most s r = ([], [], (grind arith))
