-- Lemmas: packets are queued one after another.
use Rattle.std.proofs.Common.{◌≡◌, ◌<◌, ◌≤◌, ◌+◌, ◌*◌, if◌then◌else◌, ◌&&◌, not, ℕ, All, Bool, true, false, List, [], ◌∷◌, ◌++◌, length, drop, map, Option, Some, None, Result, IfSome, IfNone, length-append, refl, sym, ap, subst, ◌∙◌, append-nil, append_assoc, arith}
use Rattle.std.proofs.lemmas.Bool.Decides.{nat_tests}
use Rattle.std.proofs.lemmas.List.{length-map, length-take-le, map-append}
use Rattle.pmd_access.specs.NicDevice.DmaArena.Block.{Block, IsBlock}
use Rattle.pmd_access.specs.NicDevice.DmaArena.Numbers.{Numbers}
use Rattle.pmd_access.specs.DeviceLock.declared.entry.Call.{Call}
use Rattle.pmd_access.specs.Bufs.{numbers_of, with_all_free}
use Rattle.pmd_access.specs.Packet.{Kept}
use Rattle.pmd_access.specs.declared.fault.PmdFault.{PmdFault}
use Rattle.pmd_access.specs.declared.packet.Packet.{Packet}
use Rattle.pmd_rx.specs.Keeping.{numbers_of_all}
use Rattle.pmd_tx.specs.Sending.{Layout, Sender, Segment, blocks_of, parts_for, segments_of}
use Rattle.pmd_tx.specs.Sends.{accepted_of, IsAccepted, IsAnswer, IsNoneAccepted, SendsHome, gate_of, goes_home, is_bad_size, is_full, outgoing_of, returned}
use Rattle.pmd_tx.specs.declared.answer.TxAnswer.{TxAnswer}
use Rattle.pmd_tx.specs.declared.answer.TxFault.{TxFault}
use Rattle.pmd_driver.specs.Bursts.{Accepts, IsRefusedFirst, MayAnswer, segments_in, vacant_in, with_rests}
use Rattle.pmd_driver.specs.Queueing.{Queues, QueuesUpTo}
use Rattle.pmd_driver.specs.Running.{Running, receives, rings_out}
use Rattle.pmd_driver.proofs.Both.{rings_on, rings_still}
use Rattle.pmd_driver.proofs.Driving.{some_later}
use Rattle.pmd_driver.proofs.Meeting.{during_after}
use Rattle.pmd_driver.proofs.Placed.{placed}
use Rattle.pmd_driver.proofs.Sending.{back_none, open_way}
use Rattle.pmd_driver.proofs.Whole.{keeps_then}

-- An accepted packet takes at least one slot.

by_room : {G : Type 0} (F : G → Type 0) (bad full wide foreign : G) (is_bad is_home is_full : Bool)
    → (F bad → ⊥) → (F full → ⊥) → (F foreign → ⊥)
    → F (if is_bad then bad else if is_home then (if is_full then full else wide) else foreign) → is_full ≡ false
by_room F bad full wide foreign true home is_full first second last f = absurd (first f)
by_room F bad full wide foreign false true true first second last f = absurd (second f)
by_room F bad full wide foreign false true false first second last f = refl
by_room F bad full wide foreign false false is_full first second last f = absurd (last f)

room_left : (v : Sender) (a : Numbers) (elsewhere : Bool) (p : Packet) (x : Result TxAnswer TxFault)
    → IsAnswer (gate_of v a elsewhere p) p x → returned x ≡ None → is_full v p ≡ false
room_left v a elsewhere p x answer none =
    by_room (λ g. IsAnswer g p x) _ _ _ _ (is_bad_size v p) (goes_home v a p && not elsewhere) (is_full v p)
    (λ e. back_none p (returned x) (ap returned e) none) (λ e. back_none p (returned x) (ap returned e) none)
    (λ e. back_none p (returned x) (ap returned e) none) answer

module _ (r : Running) (p : Packet) (x : Result TxAnswer TxFault) (answer : MayAnswer r p x)
    (whole : All (λ (b : Block). IsBlock b) p.bufs) (w : Sender) (layout : w.layout ≡ r.transmit.layout)
  where
    parts : 0 < p.len → p.len ≤ 2048 * length p.bufs
        → length (segments_of (outgoing_of p)) ≡ parts_for p.len
    parts some held =
        let blocks : length (blocks_of (segments_of (outgoing_of p))) ≡ length (segments_of (outgoing_of p)) =
        length-map (segments_of (outgoing_of p)) (λ (s : Segment). s.block) in
        let numbers : length (numbers_of p.bufs) ≡ length p.bufs = length-map p.bufs (λ (b : Block). b.number) in
        sym blocks ∙ ap (λ (l : List ℕ). length l) (placed p whole some held)
        ∙ length-take-le (parts_for p.len) (numbers_of p.bufs) (omega (arith, numbers, held))

    taken : returned x ≡ None → IsAccepted r.transmit p w → 1 + vacant_in w ≤ vacant_in r.transmit
    taken none accepted =
        let good = (open_way r.transmit r.arena (receives r p) p x answer none).0 in
        let some : 0 < p.len = grind (arith, nat_tests, good) in
        let held : p.len ≤ 2048 * length p.bufs = grind (arith, nat_tests, good) in
        let full = room_left r.transmit r.arena (receives r p) p x answer none in
        let room : length r.transmit.outstanding + parts_for p.len < r.transmit.layout.size =
        grind (arith, nat_tests, full) in
        let size : w.layout.size ≡ r.transmit.layout.size = ap (λ (l : Layout). l.size) layout in
        let all : length w.outstanding ≡ length r.transmit.outstanding + parts_for p.len =
        ap (λ (l : List Segment). length l) accepted.outstanding
        ∙ length-append r.transmit.outstanding (segments_of (outgoing_of p))
        ∙ ap (λ (n : ℕ). length r.transmit.outstanding + n) (parts some held) in
        omega (arith, room, size, all, some)

    slots_by : (o : Option Packet) → returned x ≡ o → IfNone o (IsAccepted r.transmit p w)
        → IfNone o (1 + vacant_in w ≤ vacant_in r.transmit)
    slots_by None is accepted = taken is accepted
    slots_by (Some q) is accepted = tt

    pub slots_taken : IfNone (returned x) (IsAccepted r.transmit p w)
        → IfNone (returned x) (1 + vacant_in w ≤ vacant_in r.transmit)
    slots_taken = slots_by (returned x) refl

-- What changes for one packet, depending on whether the packet is accepted.

pub accepted_one : (r s : Running) (p : Packet) (o : Option Packet) → IfNone o (IsAccepted r.transmit p s.transmit)
    → SendsHome o p r.arena s.arena → s.transmit.layout ≡ r.transmit.layout → s.receive ≡ r.receive
    → IfNone o (Accepts (p ∷ []) r s)
accepted_one r s p None one home layout receive = record {
  accepted = one.accepted;
  outstanding = one.outstanding
      ∙ ap (λ (l : List Segment). r.transmit.outstanding ++ l) (sym (append-nil (segments_of (outgoing_of p))));
  arena = home;
  layout = layout;
  receive = receive;
}
accepted_one r s p (Some q) one home layout receive = tt

pub accepts_none : (r s : Running) → IsNoneAccepted r.transmit s.transmit → s.arena ≡ r.arena
    → s.transmit.layout ≡ r.transmit.layout → s.receive ≡ r.receive → Accepts [] r s
accepts_none r s none arena layout receive = record {
  accepted = none.accepted ∙ sym (append-nil r.transmit.accepted);
  outstanding = none.outstanding ∙ sym (append-nil r.transmit.outstanding);
  arena = arena;
  layout = layout;
  receive = receive;
}

pub accepted_none : (r s : Running) (p : Packet) (o : Option Packet)
    → IfSome o (λ q. IsNoneAccepted r.transmit s.transmit) → SendsHome o p r.arena s.arena
    → s.transmit.layout ≡ r.transmit.layout → s.receive ≡ r.receive → IfSome o (λ q. Accepts [] r s)
accepted_none r s p None none home layout receive = tt
accepted_none r s p (Some q) none home layout receive = accepts_none r s none home layout receive

-- The segments and blocks of one list of packets followed by another.

all_segments : (ps qs : List Packet) → segments_in (ps ++ qs) ≡ segments_in ps ++ segments_in qs
all_segments [] qs = refl
all_segments (p ∷ ps) qs =
    ap (λ (l : List Segment). segments_of (outgoing_of p) ++ l) (all_segments ps qs)
    ∙ sym (append_assoc (segments_of (outgoing_of p)) (segments_in ps) (segments_in qs))

all_rests : (a : Numbers) (ps qs : List Packet) → with_rests a (ps ++ qs) ≡ with_rests (with_rests a ps) qs
all_rests a [] qs = refl
all_rests a (p ∷ ps) qs = all_rests (with_all_free a (drop (parts_for p.len) (numbers_of p.bufs))) ps qs

pub accepts_on : (r s t : Running) (ps qs : List Packet) → Accepts ps r s → Accepts qs s t → Accepts (ps ++ qs) r t
accepts_on r s t ps qs one two = record {
  accepted = two.accepted ∙ ap (λ (l : List Kept). l ++ map accepted_of qs) one.accepted
      ∙ append_assoc r.transmit.accepted (map accepted_of ps) (map accepted_of qs)
      ∙ ap (λ (l : List Kept). r.transmit.accepted ++ l) (sym (map-append accepted_of ps qs));
  outstanding = two.outstanding ∙ ap (λ (l : List Segment). l ++ segments_in qs) one.outstanding
      ∙ append_assoc r.transmit.outstanding (segments_in ps) (segments_in qs)
      ∙ ap (λ (l : List Segment). r.transmit.outstanding ++ l) (sym (all_segments ps qs));
  arena = two.arena ∙ ap (λ (a : Numbers). with_rests a qs) one.arena ∙ sym (all_rests r.arena ps qs);
  layout = two.layout ∙ one.layout;
  receive = two.receive ∙ one.receive;
}

-- If some packets were queued, and then some of the remaining packets, all of them were queued in one step.

module _ {given mid_left left : List Packet} {k j : ℕ} {met : Option PmdFault} {old mid new : List Call}
    {r s t : Running} (one : Queues given mid_left k None old r mid s)
  where
    queues_both : Queues mid_left left j met mid s new t → Queues given left (k + j) met old r new t
    queues_both two = record {
      gone = one.gone ++ two.gone;
      waiting = two.waiting;
      given_are = one.given_are ∙ ap (λ (l : List Packet). one.gone ++ l) (sym one.left_are ∙ two.given_are)
          ∙ sym (append_assoc one.gone two.gone two.waiting);
      count = omega (arith, one.count, two.count, length-append one.gone two.gone);
      accepts = accepts_on r s t one.gone two.gone one.accepts two.accepts;
      left_are = two.left_are;
      during = some_later met (λ f during. during_after f old mid new r s one.drives during) two.during;
      drives = rings_on old mid new r s t one.drives two.drives;
      keeps = keeps_then r.arena s.arena t.arena (rings_out r ++ numbers_of_all given)
          (rings_out s ++ numbers_of_all mid_left) (rings_out t ++ numbers_of_all left) one.keeps two.keeps;
      tail = two.tail ∙ one.tail;
      slots = omega (arith, one.slots, two.slots);
      shut = λ f refused.
          let now = one.shut f refused in
          let next = two.shut f
          (subst (λ (x : Running). IsRefusedFirst f x mid_left) (sym now.4)
          (subst (λ (l : List Packet). IsRefusedFirst f r l) (sym now.2) refused)) in
          (omega (arith, now.0, next.0), next.1, next.2 ∙ now.2, next.3 ∙ now.3, next.4 ∙ now.4);
    }

    pub queues_then : {ends : Bool} → QueuesUpTo ends mid_left left j met mid s new t
        → QueuesUpTo ends given left (k + j) met old r new t
    queues_then two = record { queues = queues_both two.queues; stops = two.stops }

-- At the start, no packet is queued.

pub accepts_same : (r : Running) → Accepts [] r r
accepts_same r = record {
  accepted = sym (append-nil r.transmit.accepted);
  outstanding = sym (append-nil r.transmit.outstanding);
  arena = refl;
  layout = refl;
  receive = refl;
}

pub queues_none : {given : List Packet} {old : List Call} {r : Running} → Queues given given 0 None old r old r
queues_none {given} {old} {r} = record {
  gone = [];
  waiting = given;
  given_are = refl;
  count = refl;
  accepts = accepts_same r;
  left_are = refl;
  during = tt;
  drives = rings_still old r;
  keeps = record { owns = λ n. refl; each = λ n. refl };
  tail = refl;
  slots = omega arith;
  shut = λ f refused. (refl, tt, refl, refl, refl);
}

-- If no packet remains, the burst ends because all packets are queued.
pub queues_all : {given : List Packet} {k : ℕ} {old new : List Call} {r s : Running} (left : List Packet)
    → Queues given left k None old r new s → length left ≡ 0 → QueuesUpTo true given left k None old r new s
queues_all [] q none = record { queues = q; stops = λ ends. tt }
queues_all (p ∷ left) q none = absurd (omega (arith, none))
