-- Memory calls leave the device sound and change nothing outside their reach.
use Rattle.std.proofs.Common.{◌≡◌, ◌+◌, ◌*◌, inl, inr, ℕ, false, List, length, refl, ap}
use Rattle.std.specs.Prelude.{is_some, nat_lt}
use Rattle.std.proofs.lemmas.Bool.{cases_lt, eqb-false, lt-ltb, and_from, both_ways}
use Rattle.rx_ring.specs.DmaArena.Block.{Block}
use Rattle.rx_ring.specs.DmaArena.Memory.{Avoids}
use Rattle.rx_ring.proofs.DmaArena.Blocks.{get-write_at_out}
use Rattle.rx_ring.proofs.DmaArena.Bus.{get-insert_other, get-remove_other, SameLent-write_at}
use Rattle.nic_device.specs.Footprint.{has_some_of}
use Rattle.nic_device.specs.Lending.{lent, taken, peeked, poked}
use Rattle.nic_device.specs.State.{State}
use Rattle.nic_device.proofs.Blocks.{AreBlocks-insert, AreBlocks-remove, AreBlocks-write_at}
use Rattle.nic_device.proofs.Cases.{lent_cases, taken_cases, peeked_cases, poked_cases}
use Rattle.nic_device.proofs.Leads.{Leads, leads-still, leads-memory}
use Rattle.nic_device.specs.declared.event.Event.TheVariants as event
use Rattle.nic_device.specs.declared.event.Reply.TheVariants.{Done, NotLent, Misaligned, Bytes, Buf, Twice}

-- A write doesn't affect a block that contains none of the written bytes.
pub avoids-none : (number address len : ℕ) → has_some_of number address len ≡ false → Avoids number address len
avoids-none number address len none =
    elim (cases_lt (2048 * number) (address + len)) as (λ _. Avoids number address len) [
      | inr low ↦ inl low
      | inl above ↦ elim (cases_lt address (2048 * number + 2048)) as (λ _. Avoids number address len) [
        | inr high ↦ inr high
        | inl below ↦
            absurd (both_ways (has_some_of number address len) none
            (and_from (nat_lt (2048 * number) (address + len)) (nat_lt address (2048 * number + 2048))
            (lt-ltb _ _ above) (lt-ltb _ _ below)))
      ]
    ]

pub lend_leads : (s : State) (block : Block) → Leads s (event.Lend block) (lent s block)
lend_leads s block = lent_cases (Leads s (event.Lend block)) s block
    (leads-still s (event.Lend block) (Twice block) (λ no. cc))
    (leads-memory s (event.Lend block) Done _ (λ h is. AreBlocks-insert s.memory block h.blocks is)
    (λ n other. get-insert_other s.memory block.number block.bytes n (eqb-false n block.number other))
    (λ n other. ap is_some
    (get-insert_other s.memory block.number block.bytes n (eqb-false n block.number other)))
    (λ no. refl) refl)

pub take_leads : (s : State) (number : ℕ) → Leads s (event.Take number) (taken s number)
take_leads s number = taken_cases (Leads s (event.Take number)) s number
    (leads-still s (event.Take number) NotLent (λ no. refl))
    (λ block. leads-memory s (event.Take number) (Buf block) _ (λ h is. AreBlocks-remove s.memory number h.blocks)
    (λ n other. get-remove_other s.memory number n (eqb-false n number other))
    (λ n other. ap is_some (get-remove_other s.memory number n (eqb-false n number other))) (λ no. cc) refl)

pub peek_leads : (s : State) (address : ℕ) → Leads s (event.Peek16 address) (peeked s address)
peek_leads s address =
    let still = leads-still s (event.Peek16 address) in
    peeked_cases (Leads s (event.Peek16 address)) s address (still Misaligned (λ no. refl)) (still NotLent (λ no. refl))
    (λ bytes. still (Bytes bytes) (λ no. refl))

pub poke_leads : (s : State) (address : ℕ) (bytes : List ℕ)
    → Leads s (event.Poke16 address bytes) (poked s address bytes)
poke_leads s address bytes =
    let still = leads-still s (event.Poke16 address bytes) in
    poked_cases (Leads s (event.Poke16 address bytes)) s address bytes (still Misaligned (λ no. refl))
    (still NotLent (λ no. refl))
    (leads-memory s (event.Poke16 address bytes) Done _
    (λ h is. AreBlocks-write_at s.memory address bytes h.blocks is.2)
    (λ n none. get-write_at_out s.memory address bytes n (avoids-none n address (length bytes) none))
    (λ n no. SameLent-write_at s.memory address bytes n) (λ no. refl) refl)
