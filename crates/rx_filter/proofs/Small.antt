-- A frame's pool is below 64.
use Rattle.std.proofs.Common.{ℕ, zero, suc, ◌+◌, ◌/◌, ◌%◌, ◌^◌, ◌<◌, ◌≤◌, Bool, List, Option, Some, None, arith}
use Rattle.std.specs.Prelude.{IfSome, find}
use Rattle.std.specs.List.{range_with_len}
use Rattle.std.proofs.lemmas.Bool.{cond_both}
use Rattle.register_file.specs.RegTable.declared.rows.RowId.TheVariants.{VtCtl}
use Rattle.register_file.specs.Bits.{has_bit}
use Rattle.register_file.specs.Registers.{Registers, word_of}
use Rattle.rx_filter.specs.Address.{first_match}
use Rattle.rx_filter.specs.Pools.{selects, lowest_pool, matched_pool, or_default, selected_pool}
use Rattle.rx_filter.specs.Fields.{DIS_DEF_POOL}

abbrev IsSmall : Option ℕ → Type 0
IsSmall o = IfSome o (λ pool. pool < 64)

found-small : (test : ℕ → Bool) (from count : ℕ) → from + count ≤ 64 → IsSmall (find test (range_with_len from count))
found-small test from zero few = tt
found-small test from (suc count) few =
    cond_both (test from) (Some from) (find test (range_with_len (from + 1) count)) IsSmall (λ is. omega arith)
    (λ no. found-small test (from + 1) count (omega arith))

matched-small : (r : Registers) (o : Option ℕ) → IsSmall (matched_pool r o)
unfolding lowest_pool
matched-small r None = tt
matched-small r (Some index) = found-small (selects r index) 0 64 (omega arith)

default-small : (r : Registers) (o : Option ℕ) → IsSmall o → IsSmall (or_default r o)
default-small r None small =
    cond_both (has_bit DIS_DEF_POOL (word_of r VtCtl 0)) None (Some (word_of r VtCtl 0 / 2 ^ 7 % 64)) IsSmall
    (λ none. tt) (λ some. omega arith)
default-small r (Some pool) small = small

pub selected_pool-small : (r : Registers) (frame : List ℕ) → IfSome (selected_pool r frame) (λ pool. pool < 64)
selected_pool-small r frame =
    default-small r (matched_pool r (first_match r frame)) (matched-small r (first_match r frame))
