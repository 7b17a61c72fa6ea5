-- Which registers a pool reset resets.
use Rattle.std.proofs.Common.{◌≡◌, ◌≢◌, ℕ, ◌*◌, ◌<◌, refl, ap, sym, ◌∙◌, arith}
use Rattle.std.proofs.lemmas.Bool.{lt-ltb, le-ltb}
use Rattle.reg_table.specs.declared.rows.RowId.TheVariants as row
use Rattle.register_laws.specs.Footprint.{pool_renews}
use Rattle.register_laws.proofs.PoolReset.{renewed-pool}
use Rattle.vf_map.specs.Owner.{has_queue}
use Rattle.vf_map.specs.declared.mode.Mode.TheVariants.{Off, Pools16, Pools32, Pools64}
use Rattle.datasheet_laws.specs.NumberPrelude.{Mode, RowId, has_bit, pool_reset}
use Rattle.datasheet_laws.specs.PoolResets.{PoolResetsTake, pool_has, takes}
use Rattle.datasheet_laws.specs.Table.{line_of}
use Rattle.datasheet_laws.proofs.ByAddress.{word-at}
use Rattle.datasheet_laws.proofs.Table.{at, listed}

same_queues : (mode : Mode) (v q : ℕ) → q < 128 → has_queue mode v q ≡ pool_has mode v q
same_queues Off v q small = rw (le-ltb q 0 (omega arith)) refl
same_queues Pools16 v q small = rw (lt-ltb q 128 small) refl
same_queues Pools32 v q small = rw (lt-ltb q 128 small) refl
same_queues Pools64 v q small = rw (lt-ltb q 128 small) refl

-- A row that the reset affects for each of the pool's queues.
same_takes : (mode : Mode) (v : ℕ) (y : RowId) (j bit : ℕ) → j < (line_of y).count → y ≢ row.Pvfmailbox
    → (pool_renews mode v).bits (at y j) bit ≡ takes mode v y j
same_takes mode v row.Rdbal j bit small isnt = same_queues mode v j small
same_takes mode v row.Rdbah j bit small isnt = same_queues mode v j small
same_takes mode v row.Rdlen j bit small isnt = same_queues mode v j small
same_takes mode v row.Rdh j bit small isnt = same_queues mode v j small
same_takes mode v row.Srrctl j bit small isnt = same_queues mode v j small
same_takes mode v row.Rdt j bit small isnt = same_queues mode v j small
same_takes mode v row.Rxdctl j bit small isnt = same_queues mode v j small
same_takes mode v row.Tdbal j bit small isnt = same_queues mode v j small
same_takes mode v row.Tdbah j bit small isnt = same_queues mode v j small
same_takes mode v row.Tdlen j bit small isnt = same_queues mode v j small
same_takes mode v row.Tdh j bit small isnt = same_queues mode v j small
same_takes mode v row.Tdt j bit small isnt = same_queues mode v j small
same_takes mode v row.Txdctl j bit small isnt = same_queues mode v j small
same_takes mode v row.Tdwbal j bit small isnt = same_queues mode v j small
same_takes mode v row.Tdwbah j bit small isnt = same_queues mode v j small
same_takes mode v row.Pvtivar j bit small isnt = same_queues mode v (2 * j) (omega arith)
same_takes mode v row.Pvfmailbox j bit small isnt = absurd (isnt refl)
same_takes mode v other j bit small isnt = refl

pub taken : PoolResetsTake
taken r h mode v y j bit small isnt =
    let new = renewed-pool r mode v in
    let same = same_takes mode v y j bit small isnt in
    let at_new = ap (has_bit bit) (word-at (pool_reset mode v r) y j small) in
    record {
      taken = λ is. at_new ∙ new.bits h (at y j) bit (same ∙ is) (rw (listed y).count small)
          ∙ ap (has_bit bit) (listed y).reset;
      left = λ isnt_taken. at_new ∙ new.alone.bits (at y j) bit (same ∙ isnt_taken)
          ∙ sym (ap (has_bit bit) (word-at r y j small));
    }
