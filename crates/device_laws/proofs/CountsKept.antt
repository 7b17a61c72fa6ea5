-- Counters that an event may not change.
use Rattle.std.proofs.Common.{◌≡◌, ◌≢◌, ◌∙◌, ℕ, false, cond, inl, inr, refl, ap, sym}
use Rattle.std.specs.Prelude.{IsFalse}
use Rattle.nic_device.specs.RegTable.declared.kind.Kind.TheVariants as kind
use Rattle.nic_device.specs.RegTable.declared.bank.Bank.TheVariants as bank
use Rattle.nic_device.specs.RegisterFile.declared.owner.Owner.TheVariants as owner
use Rattle.nic_device.specs.RegisterLaws.Footprint.{LacksWord, is_alone, is_place, pool_has, of_write, written_by}
use Rattle.nic_device.proofs.RegisterLaws.Accessed.{none_read_by, none_written_by}
use Rattle.nic_device.proofs.RegisterLaws.NoSide.{counters_own}
use Rattle.nic_device.specs.Footprint.{Reach, read_reach, write_reach, reset_reach, below_reset_reach, switch_reach}
use Rattle.device_laws.specs.Prelude.{Bank, Dir, Mode, Named, Nothing, Place, Register, Rx, Tx, asks_pool_reset}
use Rattle.device_laws.specs.Prelude.{asks_reset, is_of_pool_by, is_owner, owner_in, row_of}
use Rattle.device_laws.proofs.Prelude.{cases_Bool, either_way, is_place-other, is_place-same, lacks-renewed}

-- Other events can't change a counter that they don't read.

not_written : (q p : Place) → (row_of p.row).kind ≡ kind.Rc → LacksWord (of_write q) p
not_written q p is bit =
    elim (cases_Bool (is_place q p)) as (λ _. (of_write q).bits p bit ≡ false) [
      | inl same ↦
          ap (λ k. (written_by k q).bits p bit) (ap (λ (x : Place). (row_of x.row).kind) (is_place-same q p same) ∙ is)
      | inr other ↦ none_written_by p (ap is_alone is) (row_of q.row).kind q other bit
    ]

pub read_misses : (m : Named) (p : Place) → (row_of p.row).kind ≡ kind.Rc
    → ((q : Place) (view : ℕ) → m ≡ Register q view → q ≢ p) → LacksWord (read_reach m).registers p
read_misses (Nothing seen) p is n = λ bit. refl
read_misses (Register q view) p is n =
    none_read_by p (ap is_alone is) (row_of q.row).kind q (is_place-other q p (λ e. n q view refl (sym e)))

-- A counter belongs to no pool.
no_pools_by : (b : Bank) (mode : Mode) (v index : ℕ) → owner_in b index ≡ owner.Counters
    → is_of_pool_by b mode v index ≡ false
no_pools_by bank.Counters mode v index is = refl
no_pools_by other mode v index is = cc

pub write_misses : (mode : Mode) (m : Named) (word : ℕ) (p : Place) → (row_of p.row).kind ≡ kind.Rc
    → ((q : Place) (view : ℕ) → m ≡ Register q view → IsFalse (asks_reset (row_of q.row).kind word))
    → LacksWord (write_reach mode m word).registers p
write_misses mode (Nothing seen) word p is none bit = refl
write_misses mode (Register q view) word p is none bit =
    ap (λ b. (cond b reset_reach (below_reset_reach mode q word)).registers.bits p bit) (none q view refl)
    ∙ either_way (λ (r : Reach). r.registers.bits p bit ≡ false) (asks_pool_reset (row_of q.row).kind word) _ _
    (lacks-renewed (pool_has mode q.index) p
    (λ at. no_pools_by (row_of p.row).bank mode q.index p.index (counters_own p is)) bit)
    (not_written q p is bit)

pub switch_misses : (dir : Dir) (queue : ℕ) (p : Place) → (row_of p.row).kind ≡ kind.Rc
    → LacksWord (switch_reach dir queue).registers p
switch_misses Rx queue p is bit = ap (is_owner (owner.Side Rx queue)) (counters_own p is)
switch_misses Tx queue p is bit = ap (is_owner (owner.Side Tx queue)) (counters_own p is)
