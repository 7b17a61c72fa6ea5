-- The possible replies, and the states after them, for accesses, memory calls, arrivals, the link, enables and
-- messages.
use Rattle.std.proofs.Common.{cond, ◌≡◌, ◌<◌, ◌≤◌, ℕ, Bool, true, false, List, [], ◌∷◌, ◌++◌, length, refl, Option, Some, None, Ok, Err, nat_lt}
use Rattle.std.specs.Prelude.{Result}
use Rattle.std.proofs.lemmas.Bool.{cond_both, ltb-true, ltb-false}
use Rattle.std.specs.FinMap as map
use Rattle.rx_ring.specs.DmaArena.Block.{Block}
use Rattle.rx_ring.specs.DmaArena.Memory.{write_at}
use Rattle.register_file.specs.RegTable.declared.rows.RowId.TheVariants.{Gprc, Ruc, Roc}
use Rattle.register_file.specs.IntrUnit.declared.group.Group.{Group}
use Rattle.register_file.specs.Groups.{message_of, message_made}
use Rattle.register_file.specs.Settings.{is_stopped, can_receive, frame_limit}
use Rattle.rx_ring.specs.DmaRing.declared.dir.Dir.{Dir}
use Rattle.rx_filter.specs.Sorting.{sorted}
use Rattle.rx_filter.specs.declared.target.Target.{Target}
use Rattle.rx_filter.specs.declared.unwanted.Unwanted.{Unwanted}
use Rattle.nic_device.specs.State.{State}
use Rattle.nic_device.specs.Outcome.{Outcome, gives}
use Rattle.nic_device.specs.Lending.{lent, taken, block_taken, peeked, poked}
use Rattle.nic_device.specs.Arrival.{arrived, let_in, with_count, missed, sorted_in, why_unwanted}
use Rattle.nic_device.specs.Interrupt.{device_raised, link_cause, has_group, message_reply, messaged, interrupted}
use Rattle.nic_device.specs.Switching.{queue_switched, side_switched}
use Rattle.nic_device.specs.Link.{link_set}
use Rattle.register_file.specs.RegTable.Rows.{row_of}
use Rattle.register_file.specs.RegTable.declared.place.Place.{Place}
use Rattle.register_file.specs.VfMap.declared.mode.Mode.{Mode}
use Rattle.register_file.specs.Access.{asks_reset, asks_pool_reset}
use Rattle.register_laws.specs.Footprint.{of_write}
use Rattle.nic_device.specs.Footprint.{Reach, nowhere, in_registers, reset_reach, pool_reach, write_reach}
use Rattle.nic_device.specs.declared.named.Named.{Named}
use Rattle.nic_device.specs.declared.named.Named.TheVariants.{Nothing, Register}
use Rattle.nic_device.specs.declared.event.Reply.TheVariants.{Done, Idle, NoQueue, NoGroup, NotLent, Misaligned, Bytes, Buf, Twice, Dropped}
use Rattle.nic_device.specs.declared.event.Why.{Why}
use Rattle.nic_device.specs.declared.event.Why.TheVariants.{LinkDown, Off, Short, Long, Full}

-- A property that both branches have holds whatever the result of the test.
pub either_way : {A : Type 0} (P : A → Type 0) (b : Bool) (x y : A) → P x → P y → P (cond b x y)
either_way P true x y p q = p
either_way P false x y p q = q

-- Register writes, and what a write may change.

pub record Reaches (P : Reach → Type 0) (mode : Mode) : Type 0 where
  pub nothing : P nowhere
  pub reset : P reset_reach
  pub pool : (v : ℕ) → P (pool_reach mode v)
  pub word : (p : Place) → P (in_registers (of_write p))

pub write_cases : (P : Reach → Type 0) (mode : Mode) (m : Named) (word : ℕ) → Reaches P mode
    → P (write_reach mode m word)
write_cases P mode (Nothing seen) word r = r.nothing
write_cases P mode (Register p view) word r =
    either_way P (asks_reset (row_of p.row).kind word) _ _ r.reset
    (either_way P (asks_pool_reset (row_of p.row).kind word) _ _ (r.pool p.index) (r.word p))

-- Memory calls.

pub lent_cases : (P : Outcome → Type 0) (s : State) (block : Block) → P (gives (Twice block) s)
    → P (gives Done (record s { memory = map.insert s.memory block.number block.bytes })) → P (lent s block)
lent_cases P s block twice done = either_way P _ _ _ twice done

taken_block : (P : Outcome → Type 0) (s : State) (number : ℕ) (o : Option Block) → P (gives NotLent s)
    → ((block : Block) → P (gives (Buf block) (record s { memory = map.remove s.memory number })))
    → P (block_taken s number o)
taken_block P s number None none some = none
taken_block P s number (Some block) none some = some block

pub taken_cases : (P : Outcome → Type 0) (s : State) (number : ℕ) → P (gives NotLent s)
    → ((block : Block) → P (gives (Buf block) (record s { memory = map.remove s.memory number })))
    → P (taken s number)
taken_cases P s number none some = taken_block P s number _ none some

pub peeked_cases : (P : Outcome → Type 0) (s : State) (address : ℕ) → P (gives Misaligned s) → P (gives NotLent s)
    → ((bytes : List ℕ) → P (gives (Bytes bytes) s)) → P (peeked s address)
peeked_cases P s address misaligned not_lent bytes =
    either_way P _ _ _ (either_way P _ _ _ (bytes _) not_lent) misaligned

pub poked_cases : (P : Outcome → Type 0) (s : State) (address : ℕ) (bytes : List ℕ) → P (gives Misaligned s)
    → P (gives NotLent s) → P (gives Done (record s { memory = write_at s.memory address bytes }))
    → P (poked s address bytes)
poked_cases P s address bytes misaligned not_lent done =
    either_way P _ _ _ (either_way P _ _ _ done not_lent) misaligned

-- Frames that arrive.

-- A frame that arrives is dropped, dropped and counted, missed, or accepted and counted.
pub record Arrives (P : Outcome → Type 0) (s : State) (frame : List ℕ) : Type 0 where
  pub dropped : (why : Why) → P (gives (Dropped why) s)
  pub short : P (gives (Dropped Short) (with_count s Ruc))
  pub long : P (gives (Dropped Long) (with_count s Roc))
  pub missed : P (gives (Dropped Full) (missed s))
  pub joined : (t : Target) → sorted s.registers frame ≡ Ok t → length s.waiting < s.fifo → 60 ≤ length frame
      → length frame ≤ frame_limit s.registers
      → P (gives Done (record (with_count s Gprc) { waiting = s.waiting ++ let_in frame t ∷ [] }))

sorted_cases : (P : Outcome → Type 0) (s : State) (frame : List ℕ) → Arrives P s frame → 60 ≤ length frame
    → length frame ≤ frame_limit s.registers → (answer : Result Target Unwanted) → sorted s.registers frame ≡ answer
    → P (sorted_in s frame answer)
sorted_cases P s frame a long short (Ok t) is =
    cond_both (nat_lt (length s.waiting) s.fifo) _ _ P (λ room. a.joined t is (ltb-true _ _ room) long short)
    (λ full. a.missed)
sorted_cases P s frame a long short (Err why) is = a.dropped (why_unwanted why)

pub arrived_cases : (P : Outcome → Type 0) (s : State) (frame : List ℕ) → Arrives P s frame → P (arrived s frame)
arrived_cases P s frame a =
    either_way P s.link _ _
    (either_way P (can_receive s.registers) _ _
    (cond_both (nat_lt (length frame) 60) _ _ P (λ short. a.short) (λ long.
    cond_both (nat_lt (frame_limit s.registers) (length frame)) _ _ P (λ longer. a.long) (λ short.
    sorted_cases P s frame a (ltb-false _ _ long) (ltb-false _ _ short) _ refl)))
    (a.dropped Off))
    (a.dropped LinkDown)

-- The link.

pub link_cases : (P : Outcome → Type 0) (s : State) (up : Bool) → P (gives Idle s)
    → P (gives Done (record s { link = up; registers = device_raised s.registers link_cause })) → P (link_set s up)
link_cases P s up idle done = either_way P _ _ _ idle done

-- Enable steps.

pub switched_cases : (P : Outcome → Type 0) (s : State) (dir : Dir) (queue : ℕ) → P (gives NoQueue s)
    → P (gives Idle s) → P (gives Done (side_switched s dir queue)) → P (queue_switched s dir queue)
switched_cases P s dir queue none idle done = either_way P _ _ _ (either_way P _ _ _ idle done) none

-- Messages.

group_messages : (P : Outcome → Type 0) (s : State) (g : Group) → P (gives Idle s)
    → P (gives (message_reply g (message_of s.registers g)) (record s { registers = message_made s.registers g }))
    → P (messaged s g)
group_messages P s g idle made = either_way P (is_stopped s.registers) _ _ idle made

pub interrupted_cases : (P : Outcome → Type 0) (s : State) (g : Group) → P (gives NoGroup s) → P (gives Idle s)
    → P (gives (message_reply g (message_of s.registers g)) (record s { registers = message_made s.registers g }))
    → P (interrupted s g)
interrupted_cases P s g none idle made =
    either_way P (has_group s g) (messaged s g) (gives NoGroup s) (group_messages P s g idle made) none
