-- Which blocks are lent, and which frames wait, after an event.
use Rattle.device_laws.proofs.{Resetting.is_reset, Standing.stays_within}
use Rattle.ring_laws.specs.Lent.{AgainIsDone, LendsNone, LendsOneOf, OnlyLent, OnlyLentStays, either}
use Rattle.ring_laws.specs.Prelude.{Block, Blocks, Done, Event, Named, Nothing, Place, Register, Reply, Rx, State}
use Rattle.ring_laws.specs.Prelude.{Waiting, after, asks_pool_reset, asks_reset, frame_limit, gives, has_queue}
use Rattle.ring_laws.specs.Prelude.{is_lent, is_wanted, mode_in, named, named_written, reply_to, row_of, step_of}
use Rattle.ring_laws.specs.Prelude.{write_at}
use Rattle.device_lock.proofs.NicDevice.{Cases.arrived_cases, DmaArena.Bus.get-insert_other, DmaArena.Bus.get-remove_other}
use Rattle.device_lock.specs.NicDevice.declared.event.Reply.TheVariants.{Buf}
use Rattle.device_lock.specs.NicDevice.{RxFilter.declared.target.Target.Target, Switching.without_part}
use Rattle.device_lock.{proofs.NicDevice.DmaArena.Bus.get-remove_same, proofs.NicDevice.KeptBlocks.keeps_blocks, specs.NicDevice.Arrival.let_in}
use Rattle.std.proofs.Common.{Bool, List, Some, [], arith, false, length, not, refl, subst, sym, true, ℕ, ◌%◌, ◌++◌}
use Rattle.std.proofs.{Common.◌||◌, Common.◌∷◌, Common.◌≡◌, Common.◌≢◌, Common.◌≤◌, lemmas.Grind.common_steps}
use Rattle.std.specs.Prelude.{filter, ⊤, ◌==◌}
use Rattle.std.specs.FinMap as map
use Rattle.device_lock.specs.NicDevice.declared.event.Event.TheVariants as event

-- Memory calls that succeed.

-- Lending a block that isn't lent yet succeeds.
pub again_is_done : AgainIsDone
unfolding step_of
again_is_done s block none = rw (none, reply_to) refl

-- Taking back a lent block succeeds.
pub taken_is : (s : State) (b : ℕ) (bytes : List ℕ) → map.get s.memory b ≡ Some bytes
    → step_of s (event.Take b)
    ≡ gives (Buf (record { number = b; bytes = bytes })) (record s { memory = map.remove s.memory b })
unfolding step_of
taken_is s b bytes is = rw is refl

-- Writing 16 bytes of a lent block succeeds at an address that is a multiple of 16.
pub poked_is : (s : State) (a : ℕ) (bytes : List ℕ) → (a % 16 == 0) ≡ true → is_lent s.memory a 16 ≡ true
    → step_of s (event.Poke16 a bytes) ≡ gives Done (record s { memory = write_at s.memory a bytes })
unfolding step_of
poked_is s a bytes straight lent = rw (straight, lent) refl

-- Which blocks are lent, after an event.

pub only_lent_stays : OnlyLentStays
unfolding step_of
only_lent_stays = record {
  others = λ own known s e none only n is has. grind (arith, keeps_blocks s e, get-insert_other, get-remove_other);
  lend = λ own known s block only n is has. grind (arith, get-insert_other);
  take = λ own known s number block only reported n is has. grind (arith, get-remove_same, get-remove_other);
  again = λ own known s block only. grind arith;
}

pub not_so : (b c : Bool) → (b ≡ true → c ≡ true) → c ≡ false → b ≡ false
not_so b c so none = grind arith

-- The blocks that one half of a driver has lent after one of its own events, computed from the reply and the blocks
-- lent before. A block that the event lends is added, a returned block may be removed, and all other blocks stay.
abbrev pub Follows : Blocks → Blocks → Event Block → Reply Block → ℕ → Type 0
Follows had has (event.Lend b) Done n = has n ≡ (n == b.number || had n)
Follows had has (event.Take t) (Buf b) n = (n ≢ t → had n ≡ true → has n ≡ true) × (has n ≡ true → had n ≡ true)
Follows had has e r n = has n ≡ had n

abbrev pub AllFollow : Blocks → (Reply Block → Blocks) → Event Block → Type 0
AllFollow had has e = (r : Reply Block) (n : ℕ) → Follows had (has r) e r n

-- Suppose that each lent block of a given set was lent by the half or by others.
module _ (own others : Blocks) (s : State) (had : Blocks) (only : OnlyLent own (either had others) s.memory) where
  -- After an event that neither lends nor takes a block, each lent block of the set is still known.
  pub still_known : (e : Event Block) (has : Blocks) → LendsNone own e → ((k : ℕ) → had k ≡ true → has k ≡ true)
      → OnlyLent own (either has others) (after s e).memory
  still_known e has none keeps k is there =
      grind (arith, only_lent_stays.others own (either had others) s e none only k is, keeps k)

  pub follows_known : (e : Event Block) (has : Reply Block → Blocks) → AllFollow had has e
      → OnlyLent own (either (has (reply_to s e)) others) (after s e).memory
  unfolding step_of
  follows_known e has f k is there =
      let follows = f (reply_to s e) k in
      grind (arith, only k is, keeps_blocks s e, get-insert_other, get-remove_same, get-remove_other)

-- The blocks that a half has lent stay among some numbers, if each block that the half lends has one of these numbers.
pub follows_in : (mine had : Blocks) → ((n : ℕ) → had n ≡ true → mine n ≡ true) → (e : Event Block)
    → (has : Reply Block → Blocks) → AllFollow had has e → (r : Reply Block) → LendsOneOf mine e r
    → (n : ℕ) → has r n ≡ true → mine n ≡ true
follows_in mine had all e has f r is n there = let follows = f r n in grind (arith, common_steps)

-- The frames that wait after an event.

-- After a reset of a pool, the frames for its queues are gone; after a reset of the device, all frames are gone.
pub record Resets (P : List Waiting → Type 0) (s : State) (p : Place) (word : ℕ) : Type 0 where
  pub device : asks_reset (row_of p.row).kind word ≡ true → P []
  pub pool :
      asks_pool_reset (row_of p.row).kind word ≡ true
      → P (filter (λ (w : Waiting). not (has_queue (mode_in s.registers) p.index w.queue)) s.waiting)

-- The changes that an event can make to these frames. In addition to resets, a frame of at most the limit may be
-- accepted, and a receive side that becomes disabled removes its partly written frame.
abbrev pub Changes : (List Waiting → Type 0) → State → Event Block → Type 0
Changes P s event.RxStep = P (after s event.RxStep).waiting
Changes P s (event.Write port n word) =
    (p : Place) (view : ℕ) → named s port n ≡ Register p view → Resets P s p word
Changes P s (event.Arrive frame) =
    (t : Target) → length frame ≤ frame_limit s.registers → P (s.waiting ++ let_in frame t ∷ [])
Changes P s (event.QueueStep Rx on) = is_wanted s.registers Rx on ≡ false → P (without_part on s.waiting)
Changes P s other = ⊤

module _ (P : List Waiting → Type 0) (s : State) (now : P s.waiting) where
  written : (word : ℕ) (m : Named) → ((p : Place) (view : ℕ) → m ≡ Register p view → Resets P s p word)
      → P (named_written s m word).state.waiting
  written word (Nothing seen) resets = now
  written word (Register p view) resets = let reset = resets p view refl in grind (arith, is_reset s)

  pub waiting_changed : (e : Event Block) → Changes P s e → P (after s e).waiting
  unfolding step_of
  waiting_changed event.RxStep received = received
  waiting_changed (event.Write port n word) resets = written word (named s port n) resets
  waiting_changed (event.Arrive frame) comes = grind (arith, arrived_cases)
  waiting_changed (event.QueueStep dir on) parts = grind arith
  waiting_changed e none = subst P (sym ((stays_within s e).waiting (grind arith))) now
