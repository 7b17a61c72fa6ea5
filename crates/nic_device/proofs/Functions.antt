-- The virtual functions that queues belong to, and their counters.
use Rattle.std.proofs.Common.{◌≡◌, ◌<◌, ℕ, ◌*◌, ◌/◌, Option, Some, None, nat_lt, ap, sym, ◌∙◌}
use Rattle.std.specs.Prelude.{IfSome}
use Rattle.std.proofs.lemmas.Bool.{cond_both, cond-true}
use Rattle.register_file.specs.RegTable.Rows.{row_of}
use Rattle.register_file.specs.RegTable.declared.bank.Bank.TheVariants.{VfCounters}
use Rattle.register_file.specs.RegTable.declared.kind.Kind.TheVariants.{Ro}
use Rattle.register_file.specs.RegTable.declared.place.Place.{Place}
use Rattle.register_file.specs.RegTable.declared.rows.RowId.{RowId}
use Rattle.register_file.specs.VfMap.Pools.{pool_of, pools_in, queues_each}
use Rattle.register_file.specs.VfMap.declared.mode.Mode.{Mode}
use Rattle.register_file.proofs.VfMap.Numbers.{few_pools as few, queue_of_pool}
use Rattle.register_file.specs.Columns.{place}
use Rattle.register_file.specs.Registers.{Registers}
use Rattle.register_laws.specs.Footprint.{Footprint, Covers, the_word}
use Rattle.register_laws.proofs.Covers.{covers-trans}
use Rattle.register_laws.proofs.Owners.{is_place-same}
use Rattle.register_laws.proofs.Sound.{sound-counted_wrapping}
use Rattle.register_laws.proofs.Within.{within-counted_wrapping}
use Rattle.nic_device.specs.Footprint.{function_counts, is_function_count}
use Rattle.nic_device.specs.Interrupt.{function_counted}
use Rattle.nic_device.proofs.Coming.{Comes, then_within}

-- A queue's pool is below 64.
pub few_pools : (mode : Mode) (queue : ℕ) → IfSome (pool_of mode queue) (λ v. v < 64)
few_pools mode queue =
    let all : ℕ = pools_in mode * queues_each mode in
    let v : ℕ = queue / queues_each mode in
    cond_both (nat_lt queue all) (Some v) None (λ o. IfSome o (λ w. w < 64))
    (λ t. few mode v (queue_of_pool mode queue v (cond-true (nat_lt queue all) (Some v) None t)).pool) (λ none. tt)

-- A row of counters of the virtual functions.
pub record IsFunctionCounter (row : RowId) : Type 0 where
  pub bank : (row_of row).bank ≡ VfCounters
  pub kind : (row_of row).kind ≡ Ro

covers-function_count : (row : RowId) (v : ℕ) → IsFunctionCounter row → Covers function_counts (the_word (place row v))
covers-function_count row v is = record {
  bits = λ p bit same.
      ap (λ (q : Place). is_function_count (row_of q.row).bank) (sym (is_place-same (place row v) p same))
      ∙ ap is_function_count is.bank;
  wanted = λ dir queue no. cc;
  reported = λ g no. cc;
}

-- Counting frames of virtual functions.
pub function_counted_in : {good : Type 0} (f : Footprint) (r s : Registers) (o : Option ℕ) (row : RowId)
    → Covers f function_counts → IsFunctionCounter row → Comes good f r s → Comes good f r (function_counted s o row)
function_counted_in f r s None row has counter first = first
function_counted_in f r s (Some v) row has counter first =
    then_within f (the_word (place row v)) r s _ first
    (covers-trans f function_counts (the_word (place row v)) has (covers-function_count row v counter))
    (within-counted_wrapping s row v) (λ is h. sound-counted_wrapping s row v counter.kind h)
