-- The pool reset.
use Rattle.std.specs.Prelude.{ℕ, ◌/◌, ◌==◌, Bool, true, false, ◌&&◌, ◌||◌, List, [], ◌∷◌, ◌++◌, fold, Option, Some, None, bit_and, bit_xor, if◌then◌else◌}
use Rattle.std.specs.List.{list_any, range_with_len}
use Rattle.reg_table.specs.Rows.{row_of, number_of}
use Rattle.reg_table.specs.declared.rows.RowId.{RowId}
use Rattle.reg_table.specs.declared.rows.RowId.TheVariants.{Pvfctrl, Pvteicr, Pvteics, Pvteims, Pvteimc, Pvteiac, Pvteiam, Psrtype, Vfgprc, Vfgptc, PvtivarMisc, Pvfmailbox, Pvtivar, Rdbal, Rdbah, Rdlen, Rdh, Srrctl, Rdt, Rxdctl, Tdbal, Tdbah, Tdlen, Tdh, Tdt, Txdctl, Tdwbal, Tdwbah}
use Rattle.intr_unit.specs.declared.group.Group.TheVariants.{Vf}
use Rattle.vf_map.specs.Pools.{queues_of}
use Rattle.vf_map.specs.declared.mode.Mode.{Mode}
use Rattle.register_file.specs.Bits.{has_bit}
use Rattle.register_file.specs.Groups.{with_reported}
use Rattle.register_file.specs.Registers.{Registers, word_of, with_word, with_wanted}
use Rattle.dma_ring.specs.declared.dir.Dir.{Dir}
use Rattle.dma_ring.specs.declared.dir.Dir.TheVariants.{Rx, Tx}

-- The bits of a row's words that a pool reset affects: all of them, or the bits of a mask.
pub record Renewal : Type 0 where
  pub row : RowId
  pub whole : Bool
  pub mask : ℕ

abbrev pub all_bits : RowId → Renewal
all_bits row = record { row = row; whole = true; mask = 0 }

abbrev pub some_bits : RowId → ℕ → Renewal
some_bits row mask = record { row = row; whole = false; mask = mask }

-- The tables that list the rows and bits that a pool reset affects. They cover the rows that exist once per pool; the
-- mailbox; the rows of each side of a queue; and the word with the vectors of two queues. For the mailbox, they cover
-- the function's hold on it, what was sent to the function, and the mailbox's vector.
abbrev pub own_renewals : List Renewal
own_renewals =
    all_bits Pvfctrl ∷ all_bits Pvteicr ∷ all_bits Pvteics ∷ all_bits Pvteims ∷ all_bits Pvteimc ∷ all_bits Pvteiac
    ∷ all_bits Pvteiam ∷ all_bits Psrtype ∷ all_bits Vfgprc ∷ all_bits Vfgptc ∷ []

abbrev pub mailbox_renewals : List Renewal
mailbox_renewals = all_bits PvtivarMisc ∷ some_bits Pvfmailbox 0x34 ∷ []

abbrev pub function_renewals : List Renewal
function_renewals = own_renewals ++ mailbox_renewals

abbrev pub side_renewals : Dir → List Renewal
side_renewals Rx =
    all_bits Rdbal ∷ all_bits Rdbah ∷ all_bits Rdlen ∷ all_bits Rdh ∷ all_bits Srrctl ∷ all_bits Rdt ∷ all_bits Rxdctl
    ∷ []
side_renewals Tx =
    all_bits Tdbal ∷ all_bits Tdbah ∷ all_bits Tdlen ∷ all_bits Tdh ∷ all_bits Tdt ∷ all_bits Txdctl ∷ all_bits Tdwbal
    ∷ all_bits Tdwbah ∷ []

abbrev pub vector_renewals : List Renewal
vector_renewals = all_bits Pvtivar ∷ []

abbrev pub renewals : List Renewal
renewals = function_renewals ++ (side_renewals Rx ++ (side_renewals Tx ++ vector_renewals))

-- Whether a renewal affects a bit, whether a table's renewals affect a bit of a row's words, and whether a pool reset
-- affects that bit.
abbrev pub takes : Renewal → ℕ → Bool
takes renewal bit = renewal.whole || has_bit bit renewal.mask

abbrev pub has_renewal : List Renewal → RowId → ℕ → Bool
has_renewal table row bit = list_any (λ renewal. number_of renewal.row == number_of row && takes renewal bit) table

abbrev pub is_renewed : RowId → ℕ → Bool
is_renewed row bit = has_renewal renewals row bit

-- `old` with the bits of `mask` taken from `new`.
abbrev pub mixed : (mask old new : ℕ) → ℕ
mixed mask old new = bit_xor old (bit_and (bit_xor old new) mask)

-- A word after a renewal: the affected bits take their values from the row's reset value.
abbrev pub renewed : Renewal → ℕ → ℕ
renewed renewal old =
    if renewal.whole then (row_of renewal.row).reset else mixed renewal.mask old (row_of renewal.row).reset

-- The registers after one renewal, and after a table of renewals, are applied to the words at an index.
abbrev pub word_reset : ℕ → Registers → Renewal → Registers
word_reset index r renewal = with_word r renewal.row index (renewed renewal (word_of r renewal.row index))

abbrev pub rows_reset : Registers → List Renewal → ℕ → Registers
rows_reset r table index = fold (word_reset index) r table

-- The registers after a side of a queue is reset: its registers have their reset values, and the side has no enable
-- request.
abbrev pub side_reset : Dir → Registers → ℕ → Registers
side_reset dir r queue = with_wanted (rows_reset r (side_renewals dir) queue) dir queue false

abbrev pub queue_reset : Registers → ℕ → Registers
queue_reset r queue = side_reset Tx (side_reset Rx r queue) queue

-- The registers after a word of vectors is reset.
abbrev pub vectors_reset : Registers → ℕ → Registers
vectors_reset r index = rows_reset r vector_renewals index

-- The registers after the words that exist once per pool are reset: they have their reset values, and no bit of the
-- virtual function is reported.
abbrev pub function_reset : Registers → ℕ → Registers
function_reset r v = with_reported (rows_reset r function_renewals v) (Vf v) 0

-- The registers after a range of queues and their vectors are reset.
abbrev pub queues_reset : Registers → Option (ℕ × ℕ) → Registers
queues_reset r None = r
queues_reset r (Some queues) =
    fold vectors_reset (fold queue_reset r (range_with_len queues.0 queues.1))
    (range_with_len (queues.0 / 2) (queues.1 / 2))

-- The registers after a pool reset, which resets the words that exist once per pool and the queues that the mode
-- assigns to the pool.
unfoldable pub pool_reset : Mode → ℕ → Registers → Registers
pool_reset mode v r = queues_reset (function_reset r v) (queues_of mode v)
