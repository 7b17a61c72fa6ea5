-- What the agreement implies for packets handed out and frames sent, and how both are counted over a history. Small
-- examples show the definitions at work.
pub use Rattle.ring_laws.proofs.Limits.{lent_after}
use Rattle.pmd_access.specs.DeviceLock.History.{call_in}
use Rattle.device_laws.proofs.{RepliesOut.frames_out, StandingQueues.receiving_blocks}
use Rattle.ring_laws.proofs.Left.{left-setting, left-side, left_transmit, step_is}
use Rattle.ring_laws.proofs.{Reports.clear_avoids, Reports.left-block, Deeds.received-none, Deeds.silent_else}
use Rattle.ring_laws.specs.Prelude.{Block, Blocks, Entry, Event, LeavesBlock, Pf, Reply, Rx, State, Tx, Watched}
use Rattle.ring_laws.specs.Prelude.{WritesOutside, Wrote, after, calls_of, leads_to, reply_to, staged_by}
use Rattle.{device_laws.specs.Leaving.ReceivesOutside, device_laws.specs.Replies.out_after}
use Rattle.{ring_laws.specs.Left.is_step_of}
use Rattle.pmd_access.proofs.NicDevice.{Answering.step_suits, Steps.keeps_sound, Steps.step_leads}
use Rattle.pmd_access.specs.NicDevice.Answering.{may_answer}
use Rattle.pmd_tx.specs.Sending.{advanced, asked, at_start}
use Rattle.ring_laws.proofs.{Kept.none_of, Leaving.look_tells, Playing.end-last, Playing.look-fetched}
use Rattle.ring_laws.proofs.{Playing.look-tells, Sparing.added-one, TransmitLent.frame_of_end}
use Rattle.ring_laws.specs.Agreeing.{AgreesAt, SendsInOrder, bytes_of, frames_from}
use Rattle.ring_laws.specs.Counting.{IsEndOf, NeverGoesOn, SentIsCounted, SentIsReported, reported_lengths}
use Rattle.ring_laws.specs.TransmitPrelude.{Accepts, Advances, IsOwn, Kept, Outgoing, Segment, Sender, accepted_by}
use Rattle.ring_laws.specs.TransmitPrelude.{first_end, has_lent, is_sent, no_segment}
use Rattle.ring_laws.specs.{Delivered.IsPrefixOf, Delivered.pieces_in, Delivered.pieces_since, Finding.HandedIsPrefix}
use Rattle.ring_laws.specs.{Finding.NoneIsAll, Finding.NoneIsAllTaken, Joint.AreOpen, Joint.AreSeen, Laws.IdleIsAllSent}
use Rattle.ring_laws.specs.{Laws.LeftAloneIsSpared, Laws.SentIsPrefix, Laws.WaitingIsNotAllSent, Pieces.Piece}
use Rattle.ring_laws.specs.{Pieces.reported_packet, Pieces.packets_after, Pieces.packets_of, ReceivePrelude.Kept}
use Rattle.ring_laws.specs.{ReceivePrelude.Reported, Sent.counted_by, Sent.frames_added, Sent.goes_on, Sent.sent_by}
use Rattle.ring_laws.specs.{Sent.sent_in, Sent.sent_since, Sparing.IsLeft, Sparing.ReceiveOwes, Sparing.is_transmit_of}
use Rattle.std.proofs.Common.{IsTrue, List, Option, [], ap, append-nil, append_assoc, arith, drop, false, if◌then◌else◌}
use Rattle.std.proofs.Common.{inl, inr, length, length-append, map, refl, replicate, slice_index_or, sym, true, ℕ, ◌++◌}
use Rattle.std.proofs.Common.{◌+◌, ◌-◌, ◌<◌, ◌==◌, ◌∙◌, ◌∷◌, ◌≡◌, ◌≢◌, ◌≤◌}
use Rattle.std.proofs.lemmas.List.{append-nil, append_assoc, drop_all, get_or-drop, length-drop, nil_from_length}
use Rattle.std.proofs.lemmas.{Bool.both_ways, Bool.cases_Bool, Bool.cases_eq, Bool.cases_lt, Grind.common_steps}
use Rattle.std.specs.Prelude.{[], ◌∷◌, ◌≤◌}
use Rattle.pmd_access.specs.NicDevice.declared.event.Event.TheVariants as event

-- What the agreement implies for the packets handed out.

-- The packets handed out are a prefix of the packets delivered.
pub handed_first : HandedIsPrefix
handed_first queue s out v h1 = grind (arith, common_steps)

-- Pieces that don't end their packet form no packet.
none_whole : (front : List ℕ) (seen : List Reported) (here : List Piece) → AreOpen seen → AreSeen seen here
    → length here ≤ length seen → packets_after front here ≡ []
none_whole front seen [] opens are all = refl
none_whole front [] (p ∷ here) opens are all = absurd (omega (arith, all))
none_whole front (t ∷ ts) (p ∷ here) opens are all =
    grind (arith, none_whole (front ++ p.bytes) ts here opens.1 are.1 (omega (arith, all)))

-- If a poll of the slot after the seen slots finds the descriptor not done, every delivered packet was taken.
pub all_taken : NoneIsAllTaken
all_taken queue s out v (gone, here, h) f =
    let k = length v.seen in
    let t = look_tells queue s out v gone here k h f.posted f.bytes f.reply in
    let all : length here ≤ k = (grind (arith, common_steps)) in
    (grind (arith, common_steps, none_of, none_whole))

-- If, moreover, no complete packet is waiting for the tail to advance, every delivered packet was handed out.
pub drained : NoneIsAll
drained queue s out v j f = all_taken queue s out v j f.shows ∙ rw f.none_whole (append-nil v.handed)

-- Lemmas over a whole history.

pub calls_own : (pass : ℕ) (e : Entry) (h : List Entry) → (e.pass == pass) ≡ true
    → calls_of pass (e ∷ h) ≡ call_in e ∷ calls_of pass h
calls_own pass e h is = rw is refl

pub calls_other : (pass : ℕ) (e : Entry) (h : List Entry) → (e.pass == pass) ≡ false
    → calls_of pass (e ∷ h) ≡ calls_of pass h
calls_other pass e h is = rw is refl

pub since-append : (queue : ℕ) (s : State) (so_far : Option (List Piece)) (g h : List Entry)
    → pieces_since queue s so_far (g ++ h) ≡ pieces_since queue (leads_to s g) (pieces_since queue s so_far g) h
since-append queue s so_far [] h = refl
since-append queue s so_far (e ∷ g) h = since-append queue (after s e.event) _ g h

pub image_stays : (s : State) (h : List Entry) → (leads_to s h).image ≡ s.image
image_stays s [] = refl
image_stays s (e ∷ h) = image_stays (after s e.event) h ∙ (step_leads s e.event).stays.image

pub vfs_stays : (s : State) (h : List Entry) → (leads_to s h).vfs ≡ s.vfs
vfs_stays s [] = refl
vfs_stays s (e ∷ h) = vfs_stays (after s e.event) h ∙ (step_leads s e.event).stays.vfs

-- If more pieces follow, the packets formed before remain a prefix of all packets.

pub grows : (front : List ℕ) (xs ys : List Piece)
    → IsPrefixOf (packets_after front xs) (packets_after front (xs ++ ys))
grows front [] ys = (packets_after front ys, refl)
grows front (p ∷ xs) ys = elim (cases_Bool p.end) [
  | inl ends ↦
      let rest = grows [] xs ys in
      rw ends (rest.0, ap (λ (ks : List Kept). reported_packet (front ++ p.bytes) p.first ∷ ks) rest.1)
  | inr on ↦ rw on (grows (front ++ p.bytes) xs ys)
]

pub pieces-append : (queue : ℕ) (s : State) (g h : List Entry)
    → pieces_in queue s (g ++ h) ≡ pieces_in queue s g ++ pieces_in queue (leads_to s g) h
pieces-append queue s [] h = refl
pieces-append queue s (e ∷ g) h = grind (arith, pieces-append queue (after s e.event) g h)

no_rest : (hs : List Kept) (xs ys : List Kept) → (hs ++ xs) ++ ys ≡ hs → xs ≡ []
no_rest hs xs ys is =
    let long = ap (λ (ks : List Kept). length ks) is in
    nil_from_length xs (omega (arith, long, length-append (hs ++ xs) ys, length-append hs xs))

pub between : (hs ds ks : List Kept) → IsPrefixOf hs ds → IsPrefixOf ds ks → ks ≡ hs → hs ≡ ds
between hs ds ks h1 h2 h3 = grind (arith, common_steps, no_rest)

-- An event that leaves blocks alone leaves the blocks of a sending driver alone.

-- The bytes received, as the reply reports them.
received_outside : (queue : ℕ) (mine : Blocks) (v : Sender) (r : Reply Block) (b : ℕ) → IsTrue (has_lent v b)
    → IsTrue (mine b) → WritesOutside queue mine r → ReceiveOwes queue v r → ReceivesOutside r b
received_outside queue mine v (Wrote on slot end desc at len) b lent is outside owes = elim (cases_eq on queue) [
  | inl own ↦ owes.1 own b lent
  | inr ne ↦
      (clear_avoids mine desc 16 b (outside ne).1 is (omega arith), clear_avoids mine at len b (outside ne).0 is owes.0)
]
received_outside queue mine v other b lent is outside owes = tt

module _ (w : Watched) (mine : Blocks) (v : Sender) (s : State) (b : ℕ) (lent : IsTrue (has_lent v b)) where
  spared_block : (e : Event Block) → IsLeft w mine v s e → is_transmit_of w.queue e ≡ false
      → LeavesBlock b s (after s e)
  spared_block e x other = elim (cases_Bool (is_step_of Rx w.queue e)) as (λ _. LeavesBlock b s (after s e)) [
    | inl own ↦ let is = step_is Rx w.queue e own in rw is (grind (arith, receiving_blocks, received_outside))
    | inr none ↦
        left-block w.queue mine s x.sound b (x.lent b lent) e x.made x.blocks x.steps
        (received-none w.queue s e none) (silent_else Tx w.queue s e other)
  ]

pub left_alone_is_spared : LeftAloneIsSpared
left_alone_is_spared w mine v s e h = search (arith, left-setting, left_transmit, left-side, spared_block)

-- The frames sent are a prefix of the accepted frames.
pub first_sent : SentIsPrefix
first_sent s queue sent v (f, h) = elim h.sends [
  | inl x ↦ (frames_from (staged_by s queue) (drop f v.outstanding), x.in_order)
  | inr x ↦ (x.frame ∷ x.rest, x.in_order)
]

-- Lemmas about the segments that remain to be sent.
module _ (s : State) (queue : ℕ) (sent : List (List ℕ)) (limit : ℕ) (left : List Segment) (ks : List Kept)
    (sends : SendsInOrder s queue sent limit left ks) where
  -- If no segment remains, all accepted frames were sent.
  all_sent : left ≡ [] → bytes_of ks ≡ sent
  all_sent none = grind (arith, common_steps, append-nil)

  -- If the end of a packet remains to be sent, at least one accepted frame wasn't sent.
  some_unsent : (k : ℕ) → k < length left → (slice_index_or left k no_segment).part.last ≡ true
      → length sent < length (bytes_of ks)
  some_unsent k below end = grind (arith, common_steps, length-append, frame_of_end)

pub idle-all : IdleIsAllSent
idle-all s queue sent v (f, h) none =
    all_sent s queue sent _ _ v.accepted h.sends (rw none (drop_all f [] (omega arith)))

module _ {s : State} {queue : ℕ} {sent : List (List ℕ)} {v : Sender} {f : ℕ} (h : AgreesAt s queue sent v f) where
  -- While the end of the oldest packet remains to be sent, at least one accepted frame hasn't been sent. The same was
  -- true at every earlier time.
  left-over : (xs more : List (List ℕ)) → sent ≡ xs ++ more → first_end v.outstanding < v.posted
      → f ≤ first_end v.outstanding → bytes_of v.accepted ≢ xs
  left-over xs more split posted rest same =
      let end = first_end v.outstanding in
      let known : end < length v.outstanding = omega arith in
      let at : f + (end - f) ≡ end = omega (arith, rest) in
      let longer = some_unsent s queue sent v.layout.limit (drop f v.outstanding) v.accepted h.sends (end - f)
      (omega (arith, length-drop f v.outstanding, known, rest))
      (rw (get_or-drop f v.outstanding (end - f) no_segment, at) (end-last v.outstanding known)) in
      omega (arith, longer, ap length same, ap length split, length-append xs more)

pub sent_in-append : (queue : ℕ) (s : State) (g h : List Entry)
    → sent_in queue s (g ++ h) ≡ sent_in queue s g ++ sent_in queue (leads_to s g) h
sent_in-append queue s [] h = refl
sent_in-append queue s (e ∷ g) h = grind (arith, common_steps, sent_in-append queue (after s e.event) g h)

-- If a poll finds the end of the oldest packet not done, that end wasn't fetched. Therefore some of the accepted frames
-- weren't sent at that time. The same was true at every earlier time.
pub waiting-left : WaitingIsNotAllSent
waiting-left s queue sent v (f, h) finds xs more split same =
    let end = first_end v.outstanding in
    elim (cases_lt end f) [
      | inl some ↦
          both_ways (is_sent finds.bytes) finds.waits
          (rw (look-tells h finds.posted finds.bytes finds.reported) (look-fetched h finds.posted some))
      | inr none ↦ left-over h xs more split finds.posted none same
    ]

-- Which of the frames that a queue sends are counted, over whole histories.

-- If one history is followed by another, the count continues from the first into the second.
joined : (queue : ℕ) (s : State) (sent : List (List ℕ)) (g h : List Entry)
    → sent_since queue s sent (g ++ h) ≡ sent_since queue (leads_to s g) (sent_since queue s sent g) h
joined queue s sent [] h = refl
joined queue s sent (e ∷ g) h = joined queue (after s e.event) (counted_by queue s e.event sent) g h

-- If the side is never enabled, all frames that the history sends are counted.
never : (queue : ℕ) (s : State) (sent : List (List ℕ)) (h : List Entry) → NeverGoesOn queue s h
    → sent_since queue s sent h ≡ sent ++ sent_in queue s h
never queue s sent [] off = sym (append-nil sent)
never queue s sent (e ∷ es) off =
    rw off.0 (never queue (after s e.event) (sent ++ sent_by queue s e.event) es off.1 ∙ append_assoc sent _ _)

-- If the side is enabled, only the frames that are sent after the last time are counted.
last : (queue : ℕ) (s : State) (sent : List (List ℕ)) (g : List Entry) (e : Entry) (h : List Entry)
    → goes_on queue (leads_to s g) e.event ≡ true → NeverGoesOn queue (after (leads_to s g) e.event) h
    → sent_since queue s sent (g ++ e ∷ h) ≡ sent_in queue (after (leads_to s g) e.event) h
last queue s sent g e h goes off = grind (arith, joined, never)

-- The counted frames are a suffix of all frames.

end : (queue : ℕ) (s : State) (sent : List (List ℕ)) (h : List Entry)
    → IsEndOf (sent_since queue s sent h) (sent ++ sent_in queue s h)
end queue s sent [] = ([], append-nil sent)
end queue s sent (e ∷ es) =
    let more = end queue (after s e.event) (counted_by queue s e.event sent) es in (
      (if goes_on queue s e.event then sent ++ sent_by queue s e.event else []) ++ more.0,
      grind (arith, append_assoc),
    )

-- An entry sends at most one frame.

few_by : (queue : ℕ) (s : State) (e : Event Block) → length (sent_by queue s e) ≤ 1
few_by queue s e = let out = frames_out s e in (grind (arith, common_steps, added-one))

few : (queue : ℕ) (s : State) (sent : List (List ℕ)) (h : List Entry)
    → length (sent_since queue s sent h) ≤ length sent + length h
few queue s sent [] = omega arith
few queue s sent (e ∷ es) =
    grind (arith, length-append, few_by, few queue (after s e.event) (counted_by queue s e.event sent) es)

pub sent_is_counted : SentIsCounted
sent_is_counted = record { never = never; last = last; joined = joined; end = end; few = few }

-- The frames that a history sends are those that its replies report.

event_reported : (queue : ℕ) (s : State) (e : Event Block) (r : Reply Block) → may_answer e r ≡ true
    → out_after e r s (after s e) → map length (sent_by queue s e) ≡ reported_lengths queue r
event_reported queue s e r fits out = grind (arith, common_steps)

-- The same for a history.

pub sent_is_reported : SentIsReported
sent_is_reported queue s [] sound events legal = refl
sent_is_reported queue s (e ∷ es) sound events legal =
    let reported = event_reported queue s e.event (reply_to s e.event) (step_suits s e.event sound events.0).fits
    (frames_out s e.event) in
    let rest = sent_is_reported queue (after s e.event) es (keeps_sound s sound e.event events.0) events.1 legal.1 in
    (grind (arith, common_steps))

-- A piece of these bytes.
abbrev ending : List ℕ → ℕ → Piece
ending bytes first = record { bytes = bytes; first = first; end = true }

abbrev going_on : List ℕ → Piece
going_on bytes = record { bytes = bytes; first = 0; end = false }

-- Two pieces of one frame form a packet, with the RSS type and hash of the last piece. The third piece is left out
-- because its frame hasn't ended.
two_pieces_are_a_packet :
    packets_of (going_on (1 ∷ 2 ∷ []) ∷ ending (3 ∷ []) 0x700000002 ∷ going_on (4 ∷ []) ∷ [])
    ≡ record { bytes = 1 ∷ 2 ∷ 3 ∷ []; rss = 2; hash = 7 } ∷ []
two_pieces_are_a_packet = refl

-- Two frames were transmitted, on queues 3 and 5; the second frame was added.
one_added : frames_added ((3, 1 ∷ []) ∷ []) ((3, 1 ∷ []) ∷ (5, 7 ∷ 8 ∷ []) ∷ []) ≡ (7 ∷ 8 ∷ []) ∷ []
one_added = refl

-- Two 60-byte packets are sent after one tail write. With the first in its slot and the tail before it, the second may
-- be accepted, and then the tail advances past both.

abbrev packet : ℕ → Outgoing
packet block = record { blocks = block ∷ []; kept = record { bytes = replicate 60 0; rss = 0; hash = 0 } }

abbrev one_in : Sender
one_in = asked (accepted_by (at_start Pf 0xE018 16 8 1514) (packet 3))

abbrev both_in : Sender
both_in = asked (accepted_by one_in (packet 4))

second_may : IsOwn one_in (Accepts (packet 4)) (event.Lend (record { number = 4; bytes = replicate 2048 0 }))
second_may = grind arith

one_tail : IsOwn both_in Advances (event.Write Pf 0xE018 2)
one_tail = (refl, omega arith, refl, refl, refl)

both_out : (advanced both_in).posted ≡ 2
both_out = refl
