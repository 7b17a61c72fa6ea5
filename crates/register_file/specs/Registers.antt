-- What the registers hold between two events.
use Rattle.std.specs.Prelude.{ℕ, Bool, false, List, replicate, slice_index_or, slice_set, refl}
use Rattle.std.specs.Coded.{Coded, code_by, coded×, coded_ℕ, coded_bool, coded_list}
use Rattle.reg_table.specs.declared.rows.RowId.{RowId}
use Rattle.register_file.specs.Words.{Words, word_at, put, reset_words}
use Rattle.register_file.specs.Columns.{place}
use Rattle.dma_ring.specs.declared.dir.Dir.{Dir}
use Rattle.dma_ring.specs.declared.dir.Dir.TheVariants.{Rx, Tx}

-- The words of the registers; the enable requests of each queue's receive side and transmit side; and the causes that
-- messages reported, for the physical function and for each virtual function.
pub record Registers : Type 0 where
  pub words : Words
  pub wanted_rx : List Bool
  pub wanted_tx : List Bool
  pub reported_pf : ℕ
  pub reported_vf : List ℕ

-- Registers are encoded as nested pairs of their fields.
abbrev pub registers_code : Coded Registers
registers_code =
    code_by (Words × (List Bool × (List Bool × (ℕ × List ℕ))))
    (coded× (coded_list (coded_list coded_ℕ))
    (coded× (coded_list coded_bool) (coded× (coded_list coded_bool) (coded× coded_ℕ (coded_list coded_ℕ)))))
    (λ r. (r.words, (r.wanted_rx, (r.wanted_tx, (r.reported_pf, r.reported_vf)))))
    (λ p. record {
      words = p.0;
      wanted_rx = p.1.0;
      wanted_tx = p.1.1.0;
      reported_pf = p.1.1.1.0;
      reported_vf = p.1.1.1.1;
    })
    (λ _. refl)

-- After a reset every register has its reset value, no side of a queue has an enable request, and no bit is reported.
abbrev pub reset_registers : Registers
reset_registers =
    record {
      words = reset_words;
      wanted_rx = replicate 128 false;
      wanted_tx = replicate 128 false;
      reported_pf = 0;
      reported_vf = replicate 64 0;
    }

-- The word of a row at an index.
abbrev pub word_of : Registers → RowId → ℕ → ℕ
word_of r row index = word_at r.words (place row index)

-- The registers with the word of a row at an index replaced.
abbrev pub with_word : Registers → RowId → ℕ → ℕ → Registers
with_word r row index word = record r { words = put r.words (place row index) word }

-- Whether a side of a queue has an enable request.
abbrev pub is_wanted : Registers → Dir → ℕ → Bool
is_wanted r Rx queue = slice_index_or r.wanted_rx queue false
is_wanted r Tx queue = slice_index_or r.wanted_tx queue false

-- The registers after a request that a side of a queue be enabled or disabled.
abbrev pub with_wanted : Registers → Dir → ℕ → Bool → Registers
with_wanted r Rx queue wanted = record r { wanted_rx = slice_set r.wanted_rx queue wanted }
with_wanted r Tx queue wanted = record r { wanted_tx = slice_set r.wanted_tx queue wanted }
