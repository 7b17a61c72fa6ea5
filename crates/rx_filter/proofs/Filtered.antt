-- Which frames the filter drops.
use Rattle.std.proofs.Common.{◌≡◌, ◌≢◌, ℕ, Bool, true, false, cond, List, Option, Some, None, Ok, Err}
use Rattle.std.proofs.Common.{refl, ap}
use Rattle.std.specs.Prelude.{Result}
use Rattle.std.proofs.lemmas.Bool.{cond-false}
use Rattle.register_file.specs.Registers.{Registers}
use Rattle.rx_filter.specs.Address.{passes}
use Rattle.rx_filter.specs.Pools.{uses_pools, takes_frames, parting_in, has_queues, checked_pool, selected_pool, chosen_pool}
use Rattle.rx_filter.specs.Sorting.{pool_target, sorted}
use Rattle.rx_filter.specs.Laws.{FilteredIsNotLetIn}
use Rattle.rx_filter.specs.declared.unwanted.Unwanted.{Unwanted}
use Rattle.rx_filter.specs.declared.unwanted.Unwanted.TheVariants.{Filter, NoPool, PoolOff}

pub sorted-refused : (r : Registers) (frame : List ℕ) → passes r frame ≡ false → sorted r frame ≡ Err Filter
unfolding sorted
sorted-refused r frame refused =
    cond-false (passes r frame) (pool_target r frame (chosen_pool r frame)) (Err Filter) refused

checked-other : (pool : ℕ) (has takes : Bool) → cond has (cond takes (Ok pool) (Err PoolOff)) (Err NoPool) ≢ Err Filter
checked-other pool true true e = cc
checked-other pool true false e = cc
checked-other pool false takes e = cc

pool-other : (r : Registers) (o : Option ℕ) → checked_pool r o ≢ Err Filter
pool-other r None e = cc
pool-other r (Some pool) e =
    checked-other pool (has_queues (parting_in r) pool) (takes_frames r pool) e

chosen-other : (r : Registers) (o : Option ℕ) (parted : Bool) → cond parted (checked_pool r o) (Ok 0) ≢ Err Filter
chosen-other r o true e = pool-other r o e
chosen-other r o false e = cc

target-other : (r : Registers) (frame : List ℕ) (chosen : Result ℕ Unwanted) → chosen ≢ Err Filter →
    pool_target r frame chosen ≢ Err Filter
target-other r frame (Ok pool) other e = cc
target-other r frame (Err why) other e = let same : why ≡ Filter = cc in other (ap Err same)

let_in-other : (r : Registers) (frame : List ℕ) (goes_in : Bool) →
    cond goes_in (pool_target r frame (chosen_pool r frame)) (Err Filter) ≡ Err Filter → goes_in ≡ false
unfolding chosen_pool
let_in-other r frame true e =
    absurd (target-other r frame (chosen_pool r frame) (chosen-other r (selected_pool r frame) (uses_pools r)) e)
let_in-other r frame false e = refl

pub filtered : FilteredIsNotLetIn
unfolding sorted
filtered r frame = (λ e. let_in-other r frame (passes r frame) e, λ refused. sorted-refused r frame refused)
