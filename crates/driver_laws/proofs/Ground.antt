-- Lemmas about the values that a driver writes to a queue's registers: while a side is off, each of these values takes
-- effect as a whole. Other lemmas are about what a driver relies on in addition to its sides: its port and queue number
-- identify its queue, and the device's frame limit is its packet limit.
use Rattle.driver_laws.proofs.StartPrelude.{AllAre, Done, Fits, HasGround, IsKept, IsPlain, NamesRow, Outcome, Tdwbah}
use Rattle.driver_laws.proofs.StartPrelude.{WritesNoSetting, across, asks_pool_reset, asks_reset, gives, is_receive}
use Rattle.driver_laws.proofs.StartPrelude.{is_setting, is_transmit, left_did, named_written, owner_of, plain-write}
use Rattle.driver_laws.proofs.StartPrelude.{row_of}
use Rattle.driver_laws.proofs.StartPrelude.{settings_stand, side_with, stays_within, step_of, reported_on}
use Rattle.driver_laws.proofs.StartPrelude.{transmit_left}
use Rattle.driver_laws.proofs.StartPrelude.{word_of, write_memory, write_rest}
use Rattle.driver_laws.specs.Numbers.{NamedQueueHasTheNumbers, NumbersName, queue_at, queue_in}
use Rattle.driver_laws.specs.StartPrelude.{Access, AtPort, Block, Blocks, Dir, Event, IsNumberOf, IsSound, Pf, Port}
use Rattle.driver_laws.specs.StartPrelude.{Rdbah}
use Rattle.driver_laws.specs.StartPrelude.{Rdbal, Rdh, Rdlen, Rdt, Register, RowId, Rx, Rxdctl, Sees, Sets, Side}
use Rattle.driver_laws.specs.StartPrelude.{Srrctl}
use Rattle.driver_laws.specs.StartPrelude.{State, Tdbah, Tdbal, Tdh, Tdlen, Tdt, Tdwbal, Tx, Txdctl, Vf, Watched, after}
use Rattle.driver_laws.specs.StartPrelude.{enable_row, frame_limit, has_bit, is_driven, mode_in, place, side_of}
use Rattle.driver_laws.specs.{Gate.NamedQueuesPass, Words.KeepsGround, Words.WordsAreTaken}
use Rattle.driver_laws.specs.{StartPrelude.ring_words, Replies.NamedRegistersReply, Replies.OffSidesAreSeenOff}
use Rattle.pmd_driver.proofs.NicDevice.RegisterLaws.{RowBits.word_small, SideWords.receive-written}
use Rattle.pmd_driver.proofs.NicDevice.RegisterLaws.{SideWords.transmit-written}
use Rattle.pmd_driver.proofs.NicDevice.RegisterLaws.{SoundWords.low_bits, Switches.receive-asked}
use Rattle.pmd_driver.proofs.NicDevice.RegisterLaws.{Switches.transmit-asked}
use Rattle.pmd_driver.specs.NicDevice.RegisterLaws.{Laws.HasShape, Laws.after_write, Laws.word_after}
use Rattle.pmd_driver.specs.NicDevice.RegisterLaws.{Sides.TransmitQueue}
use Rattle.pmd_driver.specs.NicDevice.VfMap.{Map.distance, Map.located, Pools.queues_of, declared.mode.Mode.Mode}
use Rattle.pmd_driver.specs.NicDevice.{Access.named_read, Named.at_location, RegisterFile.Registers.Registers}
use Rattle.pmd_driver.specs.NicDevice.{Transmit.staged_by}
use Rattle.ring_laws.proofs.Written.{merged_all, merged_low, receive-tail, transmit-tail}
use Rattle.ring_laws.specs.Sides.{LeavesSide, receive_side, transmit_side}
use Rattle.std.proofs.Common.{Bool, List, None, Option, Some, [], ap, arith, false, if◌then◌else◌, inl, inr, nat_lt}
use Rattle.std.proofs.Common.{refl, rules, true, ℕ, ◌%◌, ◌*◌, ◌+◌, ◌/◌, ◌<◌, ◌^◌, ◌∙◌, ◌∷◌, ◌≡◌}
use Rattle.std.proofs.lemmas.Nat.{Bits.and_high_mask, and_comm, and_mask, and_mod, or_mod}
use Rattle.std.proofs.{Math.Nat.mod-eq_of_lt, lemmas.Bool.ltb-true, lemmas.Grind.common_steps}
use Rattle.std.specs.{Int.Bits.and_zero_l, Int.Bits.or_zero_l, Prelude.IsFalse, Prelude.bit_and, Prelude.bit_or}
use Rattle.pmd_driver.proofs.NicDevice.VfMap.Queues.{queue_registers}
use Rattle.ring_laws.proofs.Left.{receive_left}
use Rattle.pmd_driver.specs.NicDevice.RegisterFile.Bits.{merged}
use Rattle.pmd_driver.specs.PmdAccess.Named.{offset_of}
use Rattle.pmd_driver.specs.NicDevice.RegisterFile.declared.owner.Owner.TheVariants as owner
use Rattle.pmd_driver.specs.NicDevice.VfMap.declared.located.Located.TheVariants as located_as
use Rattle.pmd_driver.specs.NicDevice.declared.event.Event.TheVariants as event

-- If something holds for the receive side and for the transmit side, it holds for each side.
pub each_side : (P : Dir → Type 0) → P Rx → P Tx → (dir : Dir) → P dir
each_side P receive transmit Rx = receive
each_side P receive transmit Tx = transmit

-- The rows of one side belong neither to the other side nor to the settings. A value written to such a row requests no
-- reset and changes only that register.
pub driven : (dir : Dir) (row : RowId) (word : ℕ) → Fits dir row word
    → (is_driven row ≡ true) × ((x : Side) → x ≡ side_with (across dir) row word x) × (is_setting row ≡ false)
    × (asks_reset (row_of row).kind word ≡ false) × (asks_pool_reset (row_of row).kind word ≡ false)
    × ((queue : ℕ) → owner_of (place row queue) ≡ owner.Side dir queue)
    × ((queue : ℕ) (s : State) → named_written s (Register (place row queue) 0xFFFFFFFF) word
    ≡ gives Done (record s { registers = after_write s.registers (place row queue) 0xFFFFFFFF word }))
driven dir row word fits = grind (arith, common_steps)

-- A driver uses the enable register of each side.
pub side_driven : (side : Dir) → is_driven (enable_row side) ≡ true
side_driven side = grind (arith, common_steps)

-- Lemmas about values that take effect in a register as a whole, whatever the register contained.

-- A 20-bit multiple of 128 takes effect as a whole in a register whose bits 19 to 7 are writable and whose bits 6 to 0
-- are 0.
pub merged-length : (old new : ℕ) → old % 2 ^ 7 ≡ 0 → new % 128 ≡ 0 → new < 2 ^ 20
    → merged 0x000FFF80 old new % 2 ^ 20 ≡ new
merged-length old new low even small =
    let kept : bit_and old 0xFFF0007F % 2 ^ 20 ≡ 0 =
    and_mod old 0xFFF0007F 20 ∙ and_mask (old % 2 ^ 20) 7
    ∙ (let e : old % 2 ^ 20 % 2 ^ 7 ≡ 0 = omega (arith, low) in e) in
    let whole : bit_and new 0x000FFF80 ≡ new =
    and_high_mask 20 7 (omega arith) new small ∙ (let e : new / 2 ^ 7 * 2 ^ 7 ≡ new = omega (arith, even) in e) in
    let taken : bit_and new 0x000FFF80 % 2 ^ 20 ≡ new =
    ap (λ n. n % 2 ^ 20) whole ∙ (let e : new % 2 ^ 20 ≡ new = omega (arith, small) in e) in
    or_mod (bit_and old 0xFFF0007F) (bit_and new 0x000FFF80) 20 ∙ (λ k. bit_or (kept k) (taken k)) ∙ or_zero_l new

-- An even value takes effect in bit 0 of a register in which all bits except bit 1 are writable.
pub merged-even : (old new : ℕ) → new % 2 ≡ 0 → merged 0xFFFFFFFD old new % 2 ^ 1 ≡ 0
merged-even old new even =
    let kept : bit_and old 0x2 % 2 ^ 1 ≡ 0 =
    and_mod old 0x2 1 ∙ and_comm (old % 2 ^ 1) 0 ∙ and_zero_l (old % 2 ^ 1) in
    let taken : bit_and new 0xFFFFFFFD % 2 ^ 1 ≡ 0 =
    and_mod new 0xFFFFFFFD 1 ∙ ap (λ n. bit_and n 1) even ∙ and_zero_l 1 in
    or_mod (bit_and old 0x2) (bit_and new 0xFFFFFFFD) 1 ∙ (λ k. bit_or (kept k) (taken k)) ∙ or_zero_l 0

-- Lemmas about a write to a register of the queue.

module _ (queue : ℕ) (s : State) (port : Port) (n word : ℕ) (row : RowId) (names : NamesRow s port n row queue) where
  pub ground : is_setting row ≡ false → KeepsGround s (after s (event.Write port n word))
  ground plain =
      let e : Event Block = event.Write port n word in
      let none = plain-write s port n word (place row queue) 0xFFFFFFFF names plain in
      assumption (write_memory s port n word, settings_stand s e none, (stays_within s e).vfs)

  -- The write changes only the register.
  pub wrote : named_written s (Register (place row queue) 0xFFFFFFFF) word
      ≡ gives Done (record s { registers = after_write s.registers (place row queue) 0xFFFFFFFF word })
      → after s (event.Write port n word)
      ≡ record s { registers = after_write s.registers (place row queue) 0xFFFFFFFF word }
  unfolding step_of
  wrote plain = ap (λ m. (named_written s m word).state) names ∙ ap (λ (o : Outcome). o.state) plain

-- Lemmas about a value written to a row of a side that is off.

-- Lemmas: what this value changes in a register, whatever the register contained.

base_low : (high low word : ℕ) → low < 2 ^ 32 → low % 2 ^ 7 ≡ 0 → (word % 128 ≡ 0) × (word < 2 ^ 32)
    → high * 2 ^ 32 + merged 0xFFFFFF80 low word ≡ (high * 2 ^ 32 + low) / 2 ^ 32 * 2 ^ 32 + word
base_low high low word short even fits = grind (arith, common_steps)

whole : (old word : ℕ) → word < 2 ^ 32 → merged 0xFFFFFFFF old word ≡ word
whole old word fits = merged_all old word ∙ mod-eq_of_lt fits

base_high : (high low word : ℕ) → low < 2 ^ 32 → word < 2 ^ 32
    → merged 0xFFFFFFFF high word * 2 ^ 32 + low ≡ word * 2 ^ 32 + (high * 2 ^ 32 + low) % 2 ^ 32
base_high high low word short fits = grind (arith, common_steps, whole)

slot : (old word : ℕ) → word < 2 ^ 16 → merged 0xFFFF old word % 2 ^ 16 ≡ word
slot old word fits = merged_low old word ∙ mod-eq_of_lt fits

module _ (queue : ℕ) (s : State) (small : queue < 128) (sound : IsSound s) where
  abbrev r : Registers
  r = s.registers

  abbrev shape : HasShape r
  shape = sound.registers.shape

  abbrev rx : Side
  rx = side_of Rx queue s

  abbrev tx : Side
  tx = side_of Tx queue s

  abbrev old : RowId → ℕ
  old row = word_of r row queue

  abbrev written : RowId → ℕ → State
  written row word = record s { registers = after_write r (place row queue) 0xFFFFFFFF word }

  short : (row : RowId) → old row < 2 ^ 32
  short row = word_small r sound.registers (place row queue)

  sends : {q p : TransmitQueue} → q ≡ p → transmit_side q (staged_by s queue) ≡ transmit_side p (staged_by s queue)
  sends e = ap (λ (q : TransmitQueue). transmit_side q (staged_by s queue)) e

  side_taken : (dir : Dir) → IsFalse (side_of dir queue s).on → (row : RowId) (word : ℕ) → Fits dir row word
      → side_of dir queue (written row word) ≡ side_with dir row word (side_of dir queue s)
  side_taken Rx off Rdbal word fits =
      let base = base_low (old Rdbah) _ word (short Rdbal) (low_bits r sound.registers Rdbal queue refl) fits in
      ap receive_side (receive-written r shape Rdbal queue refl small (inr (refl, off)) 0xFFFFFFFF word)
      ∙ (λ k. record rx { ring = record rx.ring { base = base k } })
  side_taken Rx off Rdbah word fits =
      ap receive_side (receive-written r shape Rdbah queue refl small (inr (refl, off)) 0xFFFFFFFF word)
      ∙ (λ k. record rx { ring = record rx.ring { base = base_high (old Rdbah) _ word (short Rdbal) fits k } })
  side_taken Rx off Rdlen word fits =
      let taken = merged-length (old Rdlen) word (low_bits r sound.registers Rdlen queue refl) fits.0 fits.1 in
      ap receive_side (receive-written r shape Rdlen queue refl small (inr (refl, off)) 0xFFFFFFFF word)
      ∙ (λ k. record rx { ring = record rx.ring { length = taken k } })
  side_taken Rx off Rdh word fits =
      ap receive_side (receive-written r shape Rdh queue refl small (inr (refl, off)) 0xFFFFFFFF word)
      ∙ (λ k. record rx { ring = record rx.ring { head = slot (old Rdh) word fits k } })
  side_taken Rx off Rdt word fits = ap receive_side (receive-tail r queue word shape small fits)
  side_taken Rx off Srrctl word fits =
      ap receive_side (receive-written r shape Srrctl queue refl small (inl refl) 0xFFFFFFFF word)
      ∙ (λ k. record rx { control = whole (old Srrctl) word fits k })
  side_taken Rx off Rxdctl word fits = ap receive_side (receive-asked r shape queue small 0xFFFFFFFF word)
  side_taken Tx off Tdbal word fits =
      let base = base_low (old Tdbah) _ word (short Tdbal) (low_bits r sound.registers Tdbal queue refl) fits in
      sends (transmit-written r shape Tdbal queue refl small (inr (refl, off)) 0xFFFFFFFF word)
      ∙ (λ k. record tx { ring = record tx.ring { base = base k } })
  side_taken Tx off Tdbah word fits =
      sends (transmit-written r shape Tdbah queue refl small (inr (refl, off)) 0xFFFFFFFF word)
      ∙ (λ k. record tx { ring = record tx.ring { base = base_high (old Tdbah) _ word (short Tdbal) fits k } })
  side_taken Tx off Tdlen word fits =
      let taken = merged-length (old Tdlen) word (low_bits r sound.registers Tdlen queue refl) fits.0 fits.1 in
      sends (transmit-written r shape Tdlen queue refl small (inr (refl, off)) 0xFFFFFFFF word)
      ∙ (λ k. record tx { ring = record tx.ring { length = taken k } })
  side_taken Tx off Tdh word fits =
      sends (transmit-written r shape Tdh queue refl small (inr (refl, off)) 0xFFFFFFFF word)
      ∙ (λ k. record tx { ring = record tx.ring { head = slot (old Tdh) word fits k } })
  side_taken Tx off Tdt word fits = sends (transmit-tail r queue word shape small fits)
  side_taken Tx off Tdwbal word fits =
      let new : ℕ = word_after r (place Tdwbal queue) 0xFFFFFFFF word in
      let none : has_bit 0 new ≡ false = grind (arith, common_steps, merged-even (old Tdwbal) word fits) in
      sends (transmit-written r shape Tdwbal queue refl small (inl refl) 0xFFFFFFFF word)
      ∙ (λ k. record tx { writeback = if none k then Some (old Tdwbah * 2 ^ 32 + 4 * (new / 4)) else None })
  side_taken Tx off Txdctl word fits = sends (transmit-asked r shape queue small 0xFFFFFFFF word)
  side_taken dir off other word fits = absurd fits

module _ (queue : ℕ) (s : State) (port : Port) (n word : ℕ) (small : queue < 128) (sound : IsSound s) where
  abbrev t : State
  t = after s (event.Write port n word)

  -- A register of one side isn't a register of the other.
  other_left : (d : Dir) (row : RowId) → NamesRow s port n row queue → asks_reset (row_of row).kind word ≡ false
      → asks_pool_reset (row_of row).kind word ≡ false → owner_of (place row queue) ≡ owner.Side d queue
      → LeavesSide (across d) queue s t
  other_left Rx row names none none_pool own =
      transmit_left queue s t
      ((write_rest s port n word (place row queue) 0xFFFFFFFF names none none_pool).transmit queue (λ e. cc))
  other_left Tx row names none none_pool own =
      receive_left queue s t
      ((write_rest s port n word (place row queue) 0xFFFFFFFF names none none_pool).receive queue (λ e. cc))

pub words_taken : (dir : Dir) → WordsAreTaken dir
words_taken dir queue s port n word row small sound off fits names =
    let (own, apart, plain, none, none_pool, of, only) = driven dir row word fits in record {
      side =
          ap (side_of dir queue) (wrote queue s port n word row names (only queue s))
          ∙ side_taken queue s small sound dir off row word fits;
      other = other_left queue s port n word small sound dir row names none none_pool (of queue);
      ground = ground queue s port n word row names plain;
    }

-- Lemmas about what follows if port and queue number identify a queue.
pub some_where : {A : Type 0} (b : Bool) (o : Option A) (x : A) → (if b then o else None) ≡ Some x
    → (b ≡ true) × (o ≡ Some x)
some_where b o x e = search rules

pub record IsIn (o : Option (ℕ × ℕ)) (number queue : ℕ) : Type 0 where
  pub first : ℕ
  pub count : ℕ
  pub pool : o ≡ Some (first, count)
  pub few : number < count
  pub same : queue ≡ first + number

pub is_in : (o : Option (ℕ × ℕ)) (number queue : ℕ) → queue_in o number ≡ Some queue → IsIn o number queue
is_in None number queue e = cc
is_in (Some queues) number queue e =
    let parts = some_where (nat_lt number queues.1) (Some (queues.0 + number)) queue e in
    let there = parts.1 in record {
      first = queues.0;
      count = queues.1;
      pool = refl;
      few = ltb-true number queues.1 parts.0;
      same = cc;
    }

module _ (mode : Mode) (vfs v number queue : ℕ) (there : v < vfs) (x : IsIn (queues_of mode v) number queue) where
  received : (row : RowId) → is_receive row ≡ true
      → located mode vfs v (0x1000 + 0x40 * number + distance Rdbal row) ≡ located_as.Register (place row queue)
  received row side = grind (arith, common_steps, queue_registers)

  sent : (row : RowId) → is_transmit row ≡ true
      → located mode vfs v (0x2000 + 0x40 * number + distance Tdbal row) ≡ located_as.Register (place row queue)
  sent row side = grind (arith, common_steps, queue_registers)

named_at : (s : State) (port : Port) (own queue : ℕ) → queue_at (mode_in s.registers) s.vfs port own ≡ Some queue
    → (row : RowId) (number : ℕ) → is_driven row ≡ true → IsNumberOf port row own number
    → NamesRow s port number row queue
named_at s Pf own queue is row number driven of_row = grind (arith, common_steps, some_where)
named_at s (Vf v) own queue is row number driven of_row =
    let mode = mode_in s.registers in
    let parts = some_where (nat_lt v s.vfs) (queue_in (queues_of mode v) own) queue is in
    let x = is_in (queues_of mode v) own queue parts.1 in
    let below = ltb-true v s.vfs parts.0 in
    let there : located mode s.vfs v (offset_of row own) ≡ located_as.Register (place row queue) =
    grind (arith, common_steps, received mode s.vfs v own queue below x, sent mode s.vfs v own queue below x) in
    ap (λ o. at_location (located mode s.vfs v o)) of_row ∙ ap at_location there

pub named_queue_has_the_numbers : NamedQueueHasTheNumbers
named_queue_has_the_numbers s q queue is row number driven of_row = search (rules, named_at)

pub ground_names : (queue : ℕ) (q : AtPort) (frame : ℕ) (s : State) → HasGround queue q frame s → NumbersName s q queue
ground_names queue q frame s g = named_queue_has_the_numbers s q queue g.names

pub ground_same : (queue : ℕ) (q : AtPort) (frame : ℕ) (s t : State) → mode_in t.registers ≡ mode_in s.registers
    → t.vfs ≡ s.vfs → frame_limit t.registers ≡ frame_limit s.registers → HasGround queue q frame s
    → HasGround queue q frame t
ground_same queue q frame s t mode vfs limit g = grind (arith, common_steps)

-- Events that leave the queue alone preserve what a driver relies on in addition to its sides.
pub ground_kept : (w : Watched) (mine : Blocks) (q : AtPort) (frame : ℕ) → IsKept w mine (HasGround w.queue q frame)
ground_kept w mine q frame s e x g =
    let did = left_did w mine s e x in
    ground_same w.queue q frame s (after s e) did.mode did.vfs did.limit g

-- Lemmas: a driver's own events write no setting.
module _ (queue : ℕ) (q : AtPort) (frame : ℕ) (s : State) where
  pub plain_setting : (e : Event Block) → IsPlain q e → HasGround queue q frame s → WritesNoSetting s e
  plain_setting (event.Write port number word) (row, same, is, named) g =
      rw same
      (plain-write s q.port number word (place row queue) 0xFFFFFFFF
      (ground_names queue q frame s g row number is named) (grind (arith, common_steps)))
  plain_setting e plain g = tt

  pub plain_keeps : (e : Event Block) → IsPlain q e → HasGround queue q frame s → HasGround queue q frame (after s e)
  plain_keeps e plain g =
      let stay = settings_stand s e (plain_setting e plain g) in
      ground_same queue q frame s (after s e) stay.mode (stays_within s e).vfs stay.limit g

-- If port and queue number identify a queue, the port can address it.
pub named_queues_pass : NamedQueuesPass
named_queues_pass s a q size frame queue names = grind (arith, common_steps)

-- Lemmas about the replies to a starting driver.

pub named_registers_reply : NamedRegistersReply
unfolding step_of
named_registers_reply queue q frame s row number g is named =
    let names = ground_names queue q frame s g row number is named in record {
      read = (_, ap (λ m. (named_read s m).reply) names);
      write = λ word. ap (λ m. (named_written s m word).reply) names;
    }

pub off_sides_are_seen_off : OffSidesAreSeenOff
off_sides_are_seen_off queue q frame s number word quiet (inl named) reported =
    reported_on queue s q.port number word reported Rx
    (ground_names queue q frame s quiet.ground Rxdctl number refl named)
    ∙ quiet.receive.off
off_sides_are_seen_off queue q frame s number word quiet (inr named) reported =
    reported_on queue s q.port number word reported Tx
    (ground_names queue q frame s quiet.ground Txdctl number refl named)
    ∙ quiet.transmit.off

-- Lemmas about an access to a register that a driver uses, and about a write to one.

abbrev pub IsDriven : Access → Type 0
IsDriven (Sees row on) = is_driven row ≡ true
IsDriven (Sets row word) = is_driven row ≡ true

abbrev pub IsWrite : Access → Type 0
IsWrite (Sees row on) = ⊥
IsWrite (Sets row word) = is_driven row ≡ true

pub writes_driven : (all : List Access) → AllAre IsWrite all → AllAre IsDriven all
writes_driven [] are = tt
writes_driven (Sees row on ∷ rest) are = absurd are.0
writes_driven (Sets row word ∷ rest) are = (are.0, writes_driven rest are.1)

pub words_are_writes : (side : Dir) (ring size : ℕ) → AllAre IsWrite (ring_words side ring size)
words_are_writes side ring size = search rules

pub reads_driven : (side : Dir) (seen : Bool) → IsDriven (Sees (enable_row side) seen)
reads_driven side seen = side_driven side
