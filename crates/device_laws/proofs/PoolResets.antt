-- A write that requests a pool reset resets the pool and has no other effect.
use Rattle.std.proofs.Common.{◌≡◌, ℕ, true, false, refl, ap, sym, ◌∙◌, subst}
use Rattle.nic_device.specs.RegTable.declared.rows.RowId.TheVariants as row
use Rattle.nic_device.proofs.RegisterLaws.PoolReset.{renewed-pool}
use Rattle.device_laws.specs.Prelude.{IsSound, Place, RowId, State, asks_pool_reset, asks_reset, mode_in, named_written}
use Rattle.device_laws.specs.Prelude.{reset, row_of, state_written, step_of, with_pool_reset, written_below_reset}
use Rattle.device_laws.proofs.Prelude.{cond-false, cond-true, none_staged_of}
use Rattle.device_laws.specs.Pool.{IsPoolReset, AskedPoolResetResets}
use Rattle.device_laws.proofs.PoolAlone.{reset_alone}

-- PVFCTRL requests no device reset.
pool_only : (r : RowId) (word : ℕ) → asks_pool_reset (row_of r).kind word ≡ true
    → asks_reset (row_of r).kind word ≡ false
pool_only row.Pvfctrl word e = refl
pool_only other word e = cc

pool_state : (s : State) (p : Place) (view word : ℕ) → asks_pool_reset (row_of p.row).kind word ≡ true
    → state_written s p view word ≡ with_pool_reset s p.index
pool_state s p view word asks =
    cond-false (asks_reset (row_of p.row).kind word) (reset s) (written_below_reset s p view word)
    (pool_only p.row word asks)
    ∙ cond-true (asks_pool_reset (row_of p.row).kind word) (with_pool_reset s p.index) _ asks

is_pool_reset : (s : State) (v : ℕ) → IsSound s → IsPoolReset v s (with_pool_reset s v)
is_pool_reset s v h = record {
  alone = reset_alone s v;
  registers =
      let new = renewed-pool s.registers (mode_in s.registers) v in
      let shape = h.registers.shape in
      record { bits = new.bits shape; wanted = new.wanted shape; reported = new.reported shape };
  staged = λ queue has. none_staged_of (mode_in s.registers) v s.staged queue has;
  waiting = refl;
}

pub asked_pool_resets : AskedPoolResetResets
unfolding step_of
asked_pool_resets s h port number word p view found asks =
    let there = ap (λ m. (named_written s m word).state) found ∙ pool_state s p view word asks in
    subst (IsPoolReset p.index s) (sym there) (is_pool_reset s p.index h)
