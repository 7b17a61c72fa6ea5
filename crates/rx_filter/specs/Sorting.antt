-- Queue selection: the queue that receives a frame, and the frame's hash.
use Rattle.std.specs.Prelude.{ℕ, ◌==◌, List, Result, Ok, Err, if◌then◌else◌}
use Rattle.register_file.specs.RegTable.declared.rows.RowId.TheVariants.{Mrqc, Reta, Rssrk, Rxcsum}
use Rattle.register_file.specs.RssHash.Choice.{code_of, rss_type_of, hashed_part}
use Rattle.register_file.specs.RssHash.Flow.{flow_of}
use Rattle.register_file.specs.RssHash.Mrqc.{queue_mode_of}
use Rattle.register_file.specs.RssHash.Registers.{bytes_of_registers, entry_of}
use Rattle.register_file.specs.RssHash.Toeplitz.{toeplitz_hash}
use Rattle.register_file.specs.RssHash.declared.choice.RssType.{RssType}
use Rattle.register_file.specs.RssHash.declared.mrqc.QueueMode.{QueueMode}
use Rattle.register_file.specs.RssHash.declared.mrqc.QueueMode.TheVariants.{Single, Rss}
use Rattle.register_file.specs.VfMap.Pools.{queue_in}
use Rattle.register_file.specs.VfMap.declared.mode.Mode.{Mode}
use Rattle.register_file.specs.Pools.{mode_in}
use Rattle.register_file.specs.Bits.{has_bit}
use Rattle.register_file.specs.Registers.{Registers, word_of}
use Rattle.register_file.specs.Words.{row_words}
use Rattle.rx_filter.specs.Address.{passes}
use Rattle.rx_filter.specs.Pools.{parting, chosen_pool}
use Rattle.rx_filter.specs.declared.unwanted.Unwanted.{Unwanted}
use Rattle.rx_filter.specs.declared.unwanted.Unwanted.TheVariants.{Filter}
use Rattle.rx_filter.specs.Fields.{PCSD}
use Rattle.rx_filter.specs.declared.target.Target.{Target}

-- The queue for a pool and a redirection table entry, given the code in MRQC and the mode in GCR_EXT. With a code for
-- pools, the entry selects one of the pool's own queues.
abbrev pub queue_of : QueueMode → Mode → (pool entry : ℕ) → ℕ
queue_of Single mode pool entry = 0
queue_of Rss mode pool entry = entry
queue_of code mode pool entry = queue_in (parting code mode) pool entry

-- A frame's RSS type, and the hash, keyed by RSSRK, of the bytes that the type covers.
abbrev pub rss_type : Registers → List ℕ → RssType
rss_type r frame = rss_type_of (word_of r Mrqc 0) (flow_of frame)

abbrev pub rss_hash : Registers → List ℕ → ℕ
rss_hash r frame =
    toeplitz_hash (bytes_of_registers (row_words r.words Rssrk)) (hashed_part (rss_type r frame) (flow_of frame).input)

-- The RETA entry that the hash selects, or 0 for a frame of RSS type 0.
abbrev pub rss_entry : Registers → List ℕ → ℕ
rss_entry r frame =
    if code_of (rss_type r frame) == 0 then 0 else entry_of (row_words r.words Reta) (rss_hash r frame)

-- The queue for a frame that goes to a pool, and what the frame's descriptors report: the RSS type, and the hash if
-- RXCSUM bit 13, PCSD, is 1.
unfoldable pub target_of : Registers → List ℕ → ℕ → Target
target_of r frame pool =
    record {
      queue = queue_of (queue_mode_of (word_of r Mrqc 0)) (mode_in r) pool (rss_entry r frame);
      rss = code_of (rss_type r frame);
      hash = if has_bit PCSD (word_of r Rxcsum 0) then rss_hash r frame else 0;
    }

abbrev pub pool_target : Registers → List ℕ → Result ℕ Unwanted → Result Target Unwanted
pool_target r frame (Ok pool) = Ok (target_of r frame pool)
pool_target r frame (Err why) = Err why

-- A frame's receive queue. The filter checks the frame's destination first; then the pool is chosen, and then the
-- queue.
unfoldable pub sorted : Registers → List ℕ → Result Target Unwanted
sorted r frame = if passes r frame then pool_target r frame (chosen_pool r frame) else Err Filter
