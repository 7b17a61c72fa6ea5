-- The register MRQC, which selects how receive queues are chosen and which frames are hashed.
use Rattle.std.specs.Prelude.{ℕ, ◌%◌, ◌==◌, Bool, true, false, if◌then◌else◌}
use Rattle.std.specs.Int.{bit_at}
use Rattle.rss_hash.specs.declared.mrqc.QueueMode.{QueueMode}
use Rattle.rss_hash.specs.declared.mrqc.QueueMode.TheVariants.{Single, Rss, Vmdq64, Vmdq32Rss, Vmdq64Rss}

-- Whether a bit of MRQC is 1.
abbrev pub enables : ℕ → ℕ → Bool
enables mrqc bit = bit_at mrqc bit == 1

-- The mode that bits 3:0 select.
unfoldable pub queue_mode_of : ℕ → QueueMode
queue_mode_of mrqc =
    if mrqc % 16 == 0x1 then Rss
    else (if mrqc % 16 == 0x8 then Vmdq64
    else (if mrqc % 16 == 0xA then Vmdq32Rss
    else (if mrqc % 16 == 0xB then Vmdq64Rss else Single)))

-- Whether the mode uses the hash.
abbrev pub is_hashing : QueueMode → Bool
is_hashing Single = false
is_hashing Rss = true
is_hashing Vmdq64 = false
is_hashing Vmdq32Rss = true
is_hashing Vmdq64Rss = true
