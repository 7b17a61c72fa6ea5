-- What register accesses leave unchanged.
use Rattle.std.proofs.Common.{◌≡◌, ◌≢◌, ℕ, false, refl, ap, ◌∙◌, subst, cond, inl, inr}
use Rattle.std.specs.Prelude.{IsFalse}
use Rattle.nic_device.specs.RegisterFile.declared.owner.Owner.TheVariants as owner
use Rattle.nic_device.specs.RegisterLaws.Footprint.{Misses, is_own, of_owner, of_side, of_group, of_read, of_write}
use Rattle.nic_device.proofs.RegisterLaws.Covers.{misses-narrower, misses-owner, misses-nothing}
use Rattle.nic_device.proofs.RegisterLaws.Accessed.{covers-of_read, covers-of_write, read_misses_sides}
use Rattle.nic_device.proofs.RegisterLaws.ReadBack.{owners_differ}
use Rattle.nic_device.specs.Footprint.{Reach, StaysWithin, in_registers, read_reach, write_reach, reset_reach, pool_reach, below_reset_reach}
use Rattle.device_laws.specs.Prelude.{Dir, Group, Mode, Named, Nothing, Place, Port, Register, Rx, State, Tx, after}
use Rattle.device_laws.specs.Prelude.{asks_pool_reset, asks_reset, mode_in, named, owner_of, row_of}
use Rattle.device_laws.proofs.Prelude.{cases_Bool, write_cases}
use Rattle.device_laws.specs.Leaving.{ReadLeavesTheRest, WriteLeavesTheRest, WriteLeavesMemory}
use Rattle.device_laws.proofs.Reaching.{reaching_misses_sides}
use Rattle.device_laws.proofs.Standing.{stays_within, missed, leaves_missed, same_memory}
use Rattle.nic_device.specs.declared.event.Event.TheVariants as event

-- A read affects no part of a side.
misses_side : (m : Named) (dir : Dir) (queue : ℕ) → Misses (read_reach m).registers (of_side dir queue)
misses_side (Nothing seen) dir queue = misses-nothing (of_side dir queue)
misses_side (Register p view) dir queue = read_misses_sides p dir queue

misses_read : (m : Named) (g : Group)
    → ((p : Place) (view : ℕ) → m ≡ Register p view → owner_of p ≢ owner.Group g)
    → Misses (read_reach m).registers (of_group g)
misses_read (Nothing seen) g other = misses-nothing (of_group g)
misses_read (Register p view) g other =
    misses-narrower (of_owner (owner_of p)) (of_read p) (of_group g) (covers-of_read p)
    (misses-owner (owner_of p) (owner.Group g) (owners_differ (owner_of p) (owner.Group g) (other p view refl)))

record OfRead (m : Named) : Type 0 where
  blocks : (number : ℕ) → (read_reach m).blocks number ≡ false
  staged : (queue : ℕ) → (read_reach m).staged queue ≡ false
  waiting : (read_reach m).waiting ≡ false
  out : (read_reach m).out ≡ false

of_a_read : (m : Named) → OfRead m
of_a_read (Nothing seen) = record { blocks = λ number. refl; staged = λ queue. refl; waiting = refl; out = refl }
of_a_read (Register p view) = record { blocks = λ number. refl; staged = λ queue. refl; waiting = refl; out = refl }

pub read_rest : ReadLeavesTheRest
read_rest s port n =
    let stays = stays_within s (event.Read port n) in
    let m = named s port n in
    let none = of_a_read m in
    let rest = leaves_missed s (event.Read port n) in
    record {
      queues = record {
        receive = λ queue. rest.receive queue (misses_side m Rx queue);
        transmit = λ queue. rest.transmit queue (misses_side m Tx queue) (none.staged queue);
      };
      groups = λ g other. rest.group g (misses_read m g other);
      memory = same_memory s.memory _ (λ number. stays.blocks number (none.blocks number));
      frames = record { waiting = stays.waiting none.waiting; out = stays.out none.out };
    }

-- A write that requests no reset changes only the registers.
written_stays : (s : State) (port : Port) (n word : ℕ) (p : Place) (view : ℕ) → named s port n ≡ Register p view
    → IsFalse (asks_reset (row_of p.row).kind word) → IsFalse (asks_pool_reset (row_of p.row).kind word)
    → StaysWithin (in_registers (of_write p)) s (after s (event.Write port n word))
written_stays s port n word p view found none plain =
    let mode = mode_in s.registers in
    let reach : write_reach mode (named s port n) word ≡ in_registers (of_write p) =
    ap (λ m. write_reach mode m word) found
    ∙ ap (λ b. cond b reset_reach (below_reset_reach mode p word)) none
    ∙ ap (λ b. cond b (pool_reach mode p.index) (in_registers (of_write p))) plain in
    subst (λ r. StaysWithin r s (after s (event.Write port n word))) reach (stays_within s (event.Write port n word))

misses_write : (p : Place) (dir : Dir) (queue : ℕ) → owner_of p ≢ owner.Side dir queue
    → Misses (of_write p) (of_side dir queue)
misses_write p dir queue other =
    elim (cases_Bool (is_own (row_of p.row).kind)) as (λ _. Misses (of_write p) (of_side dir queue)) [
      | inr reaching ↦ reaching_misses_sides p reaching dir queue
      | inl own ↦ misses-narrower (of_owner (owner_of p)) (of_write p) (of_side dir queue) (covers-of_write p own)
          (misses-owner (owner_of p) (owner.Side dir queue) (owners_differ (owner_of p) (owner.Side dir queue) other))
    ]

pub write_rest : WriteLeavesTheRest
write_rest s port n word p view found none plain =
    let stays = written_stays s port n word p view found none plain in
    let rest = missed _ s (after s (event.Write port n word)) stays in
    record {
      receive = λ queue other. rest.receive queue (misses_write p Rx queue other);
      transmit = λ queue other. rest.transmit queue (misses_write p Tx queue other) refl;
      groups = rest.group;
      frames = record { waiting = stays.waiting refl; out = stays.out refl };
    }

no_block_written : (mode : Mode) (m : Named) (word number : ℕ) → (write_reach mode m word).blocks number ≡ false
no_block_written mode m word number =
    write_cases (λ (r : Reach). r.blocks number ≡ false) mode m word
    (record { nothing = refl; reset = refl; pool = λ v. refl; word = λ p. refl })

pub write_memory : WriteLeavesMemory
write_memory s port n word =
    same_memory s.memory _ (λ number. (stays_within s (event.Write port n word)).blocks number
    (no_block_written (mode_in s.registers) (named s port n) word number))
