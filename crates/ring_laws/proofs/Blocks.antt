-- Lemmas about a ring in memory, for either half of a driver: its descriptors, the other blocks, and which of their
-- bytes stay unchanged. Also lemmas about the ring of a driver that sends, after a posted slot is fetched.
use Rattle.ring_laws.specs.Prelude.{Fetched, IsWhole, LiesIn, Memory, Ring, State, TransmitQueue, done_descriptor}
use Rattle.ring_laws.specs.Prelude.{first_half, gives, has_block, is_empty, is_lent, is_outside, read_at, reply_to}
use Rattle.ring_laws.specs.Prelude.{second_half, sending_of, step_of, transmit_queue_of, write_at}
use Rattle.ring_laws.{proofs.Lent.poked_is, specs.Prelude.AreApart, specs.Prelude.Bytes, specs.Prelude.Done}
use Rattle.pmd_access.proofs.NicDevice.DmaArena.{Blocks.is_lent_in, Bus.SameLent-write_at, Bus.read_at-write_at_apart}
use Rattle.pmd_access.proofs.NicDevice.DmaArena.{Bus.read_at-write_at_same, Bus.small_of_lent, Inside.reads_its_block}
use Rattle.pmd_access.proofs.NicDevice.DmaRing.{Agreement.data_is_asked, Fields.halves_come_back}
use Rattle.pmd_access.proofs.NicDevice.TxRing.{Reports.done_changes_done_alone, Tests.tests_in_order}
use Rattle.pmd_access.specs.NicDevice.DmaRing.{Driver.data_word, Ring.next_of, declared.transmit.Command.Command}
use Rattle.pmd_access.specs.NicDevice.TxRing.Fetch.{CanSend, Outcome, buffer_in, command_in, data_outcome}
use Rattle.pmd_access.specs.NicDevice.TxRing.Fetch.{descriptor_of}
use Rattle.pmd_access.specs.NicDevice.TxRing.declared.tx.Tx.{Tx}
use Rattle.pmd_access.specs.NicDevice.TxRing.{Fetch.fetch_of, Laws.HasData, Laws.command_at, Report.head_address}
use Rattle.pmd_access.specs.NicDevice.TxRing.{Report.new_head}
use Rattle.pmd_access.specs.NicDevice.{DmaArena.Memory.SameLent, DmaRing.Driver.IsDataWord}
use Rattle.pmd_access.specs.NicDevice.{DmaRing.Driver.data_command}
use Rattle.pmd_access.proofs.Places.{next_below, wrapped_apart, wrapped_below, wrapped_next}
use Rattle.pmd_access.proofs.Rings.{each_first, each_slot_block, slot_fits, slot_lies, slot_place}
use Rattle.pmd_access.specs.Slots.{descriptor_in, wrapped}
use Rattle.pmd_tx.specs.Sending.{blocks_of}
use Rattle.ring_laws.specs.Agreeing.{AgreesAt, ArePackets, IsCounted, IsDone, IsLayout, IsReady, Shows, staged_with}
use Rattle.ring_laws.specs.TransmitPrelude.{Layout, Segment, Sender, asking, descriptor_at, has_lent, is_sent}
use Rattle.ring_laws.specs.TransmitPrelude.{segment_at, slot_at}
use Rattle.ring_laws.specs.{ReceivePrelude.blocks_for, ReceivePrelude.is_ring_block, TransmitPrelude.EachRingBlock}
use Rattle.std.proofs.Common.{Bool, IsTrue, List, None, Ok, Some, ap, arith, drop, false, if◌then◌else◌, is_some}
use Rattle.std.proofs.Common.{length, length-append, refl, subst, take, true, ℕ, ◌%◌, ◌*◌, ◌++◌, ◌+◌, ◌<◌, ◌^◌, ◌∙◌}
use Rattle.std.proofs.lemmas.{Grind.common_steps, List.Folds.list_any_at, List.append-nil, List.length-map}
use Rattle.std.proofs.{Common.◌∷◌, Common.◌≡◌, Common.◌≢◌, Common.◌≤◌, lemmas.Bool.both_ways, lemmas.Bool.or_right}
use Rattle.std.{proofs.lemmas.List.length-take-le, specs.Prelude.⊤, specs.Prelude.◌/◌, specs.Prelude.◌==◌}
use Rattle.pmd_access.specs.NicDevice.declared.event.Event.TheVariants as event
use Rattle.std.specs.FinMap as map

-- The ranges that descriptors and the bytes in blocks occupy.

pub aligned : (ring slot : ℕ) → (descriptor_in ring slot % 16 == 0) ≡ true
aligned ring slot = let e : descriptor_in ring slot % 16 ≡ 0 = omega arith in rw e refl

pub bytes_inside : (block n : ℕ) → n ≤ 2048 → LiesIn block (2048 * block) n
bytes_inside block n h = (omega arith, omega arith)

pub buffer_and_slot : (b n ring size slot : ℕ) → is_ring_block ring size b ≡ false → n ≤ 2048 → slot < size
    → AreApart (2048 * b) n (descriptor_in ring slot) 16
buffer_and_slot b n ring size slot other h l = grind arith

-- Lemmas about a ring whose head and tail are `first` and `last` slots after its next slot. The ring is inside memory,
-- and its head is a descriptor. If the ring isn't empty, the head is before the tail.

pub record IsRingAt (r : Ring) (ring size next first last : ℕ) : Type 0 where
  pub inside : is_outside r ≡ false
  pub head : (r.base + 16 * r.head) % 2 ^ 64 ≡ descriptor_in ring (wrapped size (next + first))
  pub more : is_empty r ≡ false → first < last

pub ring_at : (r : Ring) (ring size next first last : ℕ) → r.base ≡ 2048 * ring → r.length ≡ 16 * size
    → r.head ≡ wrapped size (next + first) → r.tail ≡ wrapped size (next + last) → first ≤ last → last < size
    → next < size → size ≤ 1024 → ring < 65536 → IsRingAt r ring size next first last
ring_at r ring size next first last base sized head tail before room begins few low = grind arith

-- For a ring with lent blocks, a peek at a descriptor returns its bytes, and a poke writes new bytes to it.

module _ (ring size slot : ℕ) (below : slot < size) where
  abbrev Has : Memory → Type 0
  Has m = EachRingBlock ring size (λ b. IsTrue (has_block m b))

  pub slot_lent : (m : Memory) → Has m → is_lent m (descriptor_in ring slot) 16 ≡ true
  slot_lent m has =
      is_lent_in m (descriptor_in ring slot) 16 (ring + slot / 128) (16 * (slot % 128))
      (each_slot_block ring size (λ b. IsTrue (has_block m b)) has slot below) (slot_place ring slot) (slot_fits slot)

  pub slot_looked : (s : State) → Has s.memory → step_of s (event.Peek16 (descriptor_in ring slot))
      ≡ gives (Bytes (read_at s.memory (descriptor_in ring slot) 16)) s
  unfolding step_of
  slot_looked s has = rw (aligned ring slot, slot_lent s.memory has) refl

  pub slot_as_reported : (s : State) (d : List ℕ) → Has s.memory
      → reply_to s (event.Peek16 (descriptor_in ring slot)) ≡ Bytes d
      → d ≡ read_at s.memory (descriptor_in ring slot) 16
  slot_as_reported s d has reported = let is = slot_looked s has in cc

  pub slot_poked : (s : State) (bytes : List ℕ) → Has s.memory
      → step_of s (event.Poke16 (descriptor_in ring slot) bytes)
      ≡ gives Done (record s { memory = write_at s.memory (descriptor_in ring slot) bytes })
  slot_poked s bytes has = poked_is s (descriptor_in ring slot) bytes (aligned ring slot) (slot_lent s.memory has)

-- What two memories have in common: which of the ring's blocks are lent, the given descriptors, and the bytes of the
-- given other blocks.

pub record Stays (ring size : ℕ) (m n : Memory) (slots blocks : ℕ → Type 0) : Type 0 where
  pub has : EachRingBlock ring size (λ b. has_block n b ≡ has_block m b)
  pub slot : (j : ℕ) → j < size → slots j → read_at n (descriptor_in ring j) 16 ≡ read_at m (descriptor_in ring j) 16
  pub bytes :
      (b len : ℕ) → is_ring_block ring size b ≡ false → blocks b → len ≤ 2048
      → read_at n (2048 * b) len ≡ read_at m (2048 * b) len
  pub there : (b : ℕ) → blocks b → has_block n b ≡ has_block m b

-- If the ring's blocks are the same in two memories, everything listed above is the same.
pub same_stays : (ring size : ℕ) (m n : Memory) → EachRingBlock ring size (λ b. map.get n b ≡ map.get m b)
    → Stays ring size m n (λ j. ⊤) (λ b. map.get n b ≡ map.get m b)
same_stays ring size m n same = record {
  has = λ k i. ap (λ (o : _). is_some o) (same k i);
  slot = λ j below all.
      (reads_its_block n m (ring + j / 128) (descriptor_in ring j) 16
      (each_slot_block ring size (λ b. map.get n b ≡ map.get m b) same j below) (slot_lies ring j)).0;
  bytes = λ b len other is short. (reads_its_block n m b (2048 * b) len is (bytes_inside b len short)).0;
  there = λ b is. ap (λ (o : _). is_some o) is;
}

-- After a descriptor is written, everything listed above is the same except this descriptor, which contains the written
-- bytes.
module _ (ring size slot : ℕ) (below : slot < size) (m : Memory) (bytes : List ℕ) (long : length bytes ≡ 16) where
  pub written_stays : Stays ring size m (write_at m (descriptor_in ring slot) bytes) (λ j. j ≢ slot) (λ b. ⊤)
  written_stays = grind (arith, SameLent-write_at, read_at-write_at_apart)

  pub written_here : IsWhole m → EachRingBlock ring size (λ b. IsTrue (has_block m b))
      → read_at (write_at m (descriptor_in ring slot) bytes) (descriptor_in ring slot) 16 ≡ bytes
  written_here whole has = grind (arith, read_at-write_at_same, slot_lent)

-- If two memories differ only in a descriptor and in some bytes of a block outside the ring, everything else listed
-- above is the same.
pub reads_stay : (ring size slot b len : ℕ) (m n : Memory) → slot < size → is_ring_block ring size b ≡ false
    → len ≤ 2048 → SameLent n m
    → ((c k : ℕ) → AreApart c k (descriptor_in ring slot) 16 → AreApart c k (2048 * b) len
    → read_at n c k ≡ read_at m c k)
    → Stays ring size m n (λ j. j ≢ slot) (λ c. c ≢ b)
reads_stay ring size slot b len m n below other short same reads = grind arith

-- The slots of a ring, which wrap at most once.

module _ (l : Layout) (is : IsLayout l) where
  pub slot-below : (k : ℕ) → k ≤ l.size → slot_at l k < l.size
  slot-below k h = wrapped_below l.size (l.next + k) (omega (arith, is.next, h))

  pub slot-next : (k : ℕ) → k < l.size → next_of l.size (slot_at l k) ≡ slot_at l (k + 1)
  slot-next k h = grind arith

  pub slot-apart : (i j : ℕ) → i < l.size → j < l.size → i ≢ j → slot_at l i ≢ slot_at l j
  slot-apart i j a b ne = wrapped_apart l.size l.next i j is.next a b ne

  -- The descriptors of a ring after its oldest slot is released.
  pub descriptor-later : (k : ℕ) → k < l.size
      → descriptor_at (record l { next = next_of l.size l.next }) k ≡ descriptor_at l (k + 1)
  descriptor-later k h = ap (descriptor_in l.ring) (wrapped_next l.size l.next k is.next h)

  pub later-layout : IsLayout (record l { next = next_of l.size l.next })
  later-layout = record { some = is.some; few = is.few; next = next_below l.size l.next is.next; limit = is.limit }

-- The blocks of a driver that sends, and where the descriptors and segments are in these blocks.

pub has_lent-ring : (v : Sender) (k : ℕ) → k < blocks_for v.layout.size → has_lent v (v.layout.ring + k) ≡ true
has_lent-ring v k below = grind arith

pub has_lent-segment : (v : Sender) (k : ℕ) → v.lent ≤ length v.outstanding → k < v.lent
    → has_lent v (segment_at v k).block ≡ true
has_lent-segment v k known lent =
    or_right _ _
    (list_any_at (λ b. (segment_at v k).block == b) (blocks_of (take v.lent v.outstanding)) k 0
    (omega (arith, length-take-le v.lent v.outstanding known, length-map {A = Segment} {B = ℕ}))
    (grind (arith, common_steps)))

-- A block that isn't lent isn't one of the driver's blocks.
pub unlike : (v : Sender) (n b : ℕ) → has_lent v n ≡ false → has_lent v b ≡ true → b ≢ n
unlike v n b none is e = both_ways (has_lent v n) none (subst (λ x. has_lent v x ≡ true) e is)

-- If none of the driver's blocks changes, memory still shows the same (`Shows`).
module _ (m n : Memory) (v : Sender) (f : ℕ) (l : IsLayout v.layout) (c : IsCounted v f) (h : Shows m v f)
    (same : (number : ℕ) → has_lent v number ≡ true → map.get n number ≡ map.get m number)
  where
    stays : Stays v.layout.ring v.layout.size m n (λ j. ⊤) (λ b. map.get n b ≡ map.get m b)
    stays = same_stays v.layout.ring v.layout.size m n (λ k below. same (v.layout.ring + k) (has_lent-ring v k below))

    pub shows-same : Shows n v f
    shows-same = grind (arith, stays, has_lent-segment)

-- A posted slot that is fetched: its segment is staged, the packet is sent if the segment ends it, and the descriptor
-- is done.

abbrev word_of : Segment → ℕ
word_of x = data_word (length x.part.bytes) x.part.last x.part.whole

module _ (x : Segment) (short : length x.part.bytes ≤ 2048) (whole : x.part.whole ≤ 10240) where
  word-asked : IsDataWord (word_of x) (length x.part.bytes) x.part.last x.part.whole
  word-asked = data_is_asked (length x.part.bytes) x.part.last x.part.whole (omega arith) (omega arith)

  second-asking : second_half (asking x) ≡ word_of x
  second-asking = (halves_come_back (2048 * x.block) (word_of x)).second word-asked.fits

  command-asking : command_in (asking x) ≡ data_command (length x.part.bytes) x.part.last
  command-asking = rw second-asking word-asked.command

  buffer-asking : x.block < 65536 → buffer_in (asking x) ≡ 2048 * x.block
  buffer-asking low = (halves_come_back (2048 * x.block) (word_of x)).first (omega arith)

  -- A posted descriptor doesn't report its segment as sent, and a done descriptor does.
  pub asking-waits : is_sent (asking x) ≡ false
  asking-waits = rw second-asking word-asked.waits

  pub done-sent : x.block < 65536 → is_sent (done_descriptor (asking x)) ≡ true
  done-sent low =
      let first : first_half (asking x) < 2 ^ 64 = rw (buffer-asking low) (omega arith) in
      let second : second_half (asking x) < 2 ^ 64 = rw second-asking word-asked.fits in
      (done_changes_done_alone (asking x) first second).1.done

pub length-asking : (x : Segment) → length (asking x) ≡ 16
length-asking x = (halves_come_back (2048 * x.block) (word_of x)).size

-- What the slot reports, and the state after it is fetched.
abbrev pub segment_fetched : Ring → List ℕ → Segment → Fetched
segment_fetched r staged x = record {
  slot = r.head;
  head = new_head r;
  back = if x.part.last then Some (head_address r) else None;
  rs = x.part.last;
  frame = if x.part.last then Some (staged ++ x.part.bytes) else None;
}

abbrev pub segment_outcome : Memory → Ring → List ℕ → Segment → Outcome
segment_outcome m r staged x = record {
  answer = Ok (segment_fetched r staged x);
  memory = if x.part.last then write_at m (head_address r) (done_descriptor (asking x)) else m;
  staged = staged_with staged x;
}

-- Transmit steps of the driver's own queue.

module _ {s : State} {queue : ℕ} {sent : List (List ℕ)} {v : Sender} {f : ℕ} (h : AgreesAt s queue sent v f) where
  abbrev pub side : TransmitQueue
  side = transmit_queue_of s.registers queue

  abbrev pub x : Segment
  x = segment_at v f

  -- The posted segments have slots.
  known : v.posted < v.layout.size
  known = let c = h.counted in omega (arith, c.posted_poked, c.poked_lent, c.lent_known, c.room)

  -- If the queue isn't silent, a segment is posted and not fetched.
  pub ring_is : IsRingAt side.ring v.layout.ring v.layout.size v.layout.next f v.posted
  ring_is =
      let l = h.based.layout in
      let first = each_first v.layout.ring v.layout.size (λ n. IsTrue (has_block s.memory n)) l.some h.shows.ring in
      ring_at side.ring v.layout.ring v.layout.size v.layout.next f v.posted h.set_up.base h.set_up.length
      h.set_up.head h.set_up.tail h.counted.fetched_posted known l.next l.few
      (small_of_lent s.memory v.layout.ring h.based.sound.blocks.whole first)

  pub head_is : head_address side.ring ≡ descriptor_at v.layout f
  head_is = ring_is.head

  module _ (posted : f < v.posted) where
    pub lent : f < v.lent
    lent = omega (arith, posted, h.counted.posted_poked, h.counted.poked_lent)

    pub small : f < v.layout.size
    small = omega (arith, posted, known)

    here : slot_at v.layout f < v.layout.size
    here = slot-below v.layout h.based.layout f (omega (arith, small))

    ready : IsReady s.memory v.layout.ring v.layout.size x
    ready = h.shows.ready f lent

    asks : descriptor_of s.memory side.ring ≡ asking x
    asks = rw head_is (h.shows.waits f (omega arith) (omega (arith, posted, h.counted.posted_poked)))

    -- The next segment is fetched after the staged bytes, if both belong to packets.
    pub fetch-segment : (staged : List ℕ) → ArePackets v.layout.limit staged (x ∷ drop (f + 1) v.outstanding)
        → fetch_of s.memory staged side.ring (sending_of s.registers side)
        ≡ segment_outcome s.memory side.ring staged x
    fetch-segment staged packets =
        let tx : Tx = sending_of s.registers side in
        let command = command-asking x ready.short ready.whole in
        let low = small_of_lent s.memory x.block h.based.sound.blocks.whole ready.lent in
        let buffer = buffer-asking x ready.short ready.whole low in
        let c : command_at s.memory side.ring ≡ data_command (length x.part.bytes) x.part.last =
        ap command_in asks ∙ command in
        let b : buffer_in (descriptor_of s.memory side.ring) ≡ 2048 * x.block = ap buffer_in asks ∙ buffer in
        let len : (command_at s.memory side.ring).len ≡ length x.part.bytes = ap (λ (y : Command). y.len) c in
        let report : (command_at s.memory side.ring).report ≡ x.part.last = ap (λ (y : Command). y.report) c in
        let full : HasData s.memory side.ring = (grind (arith, ring_is, head_is, slot_lent, here)) in
        let can : CanSend s.memory side.ring tx (length staged) (descriptor_of s.memory side.ring) = record {
          no_offload = ap (λ (y : Command). y.offload) c;
          room = omega (arith, len, h.based.limit, packets.0, length-append staged x.part.bytes);
          buffer =
              rw (b, len)
              (is_lent_in s.memory (2048 * x.block) (length x.part.bytes) x.block 0 ready.lent (omega arith)
              (omega (arith, ready.short)));
          report = (grind (arith, or_right));
        } in
        (tests_in_order s.memory staged side.ring tx).sent full can
        ∙ ap (data_outcome s.memory staged side.ring tx) asks ∙ (grind (arith, append-nil))

    -- The memory after the fetch: at the end of a packet, the descriptor is done, and everything else is unchanged.

    abbrev new : Memory
    new = write_at s.memory (descriptor_at v.layout f) (done_descriptor (asking x))

    stays_by : (last : Bool) → Stays v.layout.ring v.layout.size s.memory (if last then new else s.memory)
        (λ j. j ≢ slot_at v.layout f) (λ b. ⊤)
    stays_by true =
        written_stays v.layout.ring v.layout.size (slot_at v.layout f) here s.memory _
        (grind (arith, halves_come_back))
    stays_by false = grind arith

    now_done : (last : Bool) → last ≡ true → IsDone (if last then new else s.memory) (descriptor_at v.layout f) x
    now_done last is = grind (arith, written_here, halves_come_back, here)

    pub shows-fetched : Shows (if x.part.last then new else s.memory) v (f + 1)
    shows-fetched =
        let t = stays_by x.part.last in
        let other : (k : ℕ) → k < v.layout.size → k ≢ f
        → read_at (if x.part.last then new else s.memory) (descriptor_at v.layout k) 16
        ≡ read_at s.memory (descriptor_at v.layout k) 16 =
        λ k below ne. t.slot (slot_at v.layout k) (slot-below v.layout h.based.layout k (omega (arith, below)))
        (slot-apart v.layout h.based.layout k f below small ne) in
        (grind (arith, now_done))
