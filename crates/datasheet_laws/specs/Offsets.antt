-- What each offset of a virtual function is, by the physical function's address that an access to it reaches.
use Rattle.std.specs.Prelude.{ℕ, ◌≡◌, ◌<◌, ◌≤◌, ◌+◌, ◌*◌, ◌/◌, ◌%◌, ◌==◌, false, List, [], ◌∷◌, ◌++◌, map, if◌then◌else◌}
use Rattle.std.specs.List.{flat_map, list_any, range_with_len}
use Rattle.vf_map.specs.Map.{mapped}
use Rattle.vf_map.specs.declared.mapped.Mapped.TheVariants.{Absent, Hole, Pf}
use Rattle.datasheet_laws.specs.NumberPrelude.{Mode, mode_of}
use Rattle.datasheet_laws.specs.Table.{halves}

-- How many pools GCR_EXT bits 1 to 0 select, and how many queues each of them has.
abbrev pub pools_by : ℕ → ℕ
pools_by bits = if bits == 1 then 16 else (if bits == 2 then 32 else (if bits == 3 then 64 else 0))

abbrev pub queues_by : ℕ → ℕ
queues_by bits = if bits == 1 then 8 else (if bits == 2 then 4 else (if bits == 3 then 2 else 0))

-- A register of receive queue q, `after` bytes after the queue's first, and one of transmit queue q.
abbrev pub receive_address : (q after : ℕ) → ℕ
receive_address q after = halves 64 (0x01000 + after) (0x0D000 + after) 0x40 q

abbrev pub transmit_address : (q after : ℕ) → ℕ
transmit_address q after = 0x06000 + after + 0x40 * q

-- The registers that function v has only once.
pub record HasOwn (mode : Mode) (vfs v : ℕ) : Type 0 where
  pub control : mapped mode vfs v 0x0000 ≡ Pf (0x00300 + 4 * v)
  pub status : mapped mode vfs v 0x0008 ≡ Pf 0x00008
  pub links : mapped mode vfs v 0x0010 ≡ Pf 0x042A4
  pub causes : mapped mode vfs v 0x0100 ≡ Pf (0x00B00 + 4 * v)
  pub causes_set : mapped mode vfs v 0x0104 ≡ Pf (0x00C00 + 4 * v)
  pub masks_set : mapped mode vfs v 0x0108 ≡ Pf (0x00D00 + 4 * v)
  pub masks_cleared : mapped mode vfs v 0x010C ≡ Pf (0x00E00 + 4 * v)
  pub auto_clear : mapped mode vfs v 0x0110 ≡ Pf (0x00F00 + 4 * v)
  pub auto_mask : mapped mode vfs v 0x0114 ≡ Pf (0x04D00 + 4 * v)
  pub mail_vector : mapped mode vfs v 0x0140 ≡ Pf (0x04E00 + 4 * v)
  pub mailbox : mapped mode vfs v 0x02FC ≡ Pf (0x04C00 + 4 * v)
  pub packet_types : mapped mode vfs v 0x0300 ≡ Pf (0x0EA00 + 4 * v)
  pub received : mapped mode vfs v 0x101C ≡ Pf (0x0101C + 0x40 * v)
  pub sent : mapped mode vfs v 0x201C ≡ Pf (0x08300 + 4 * v)
  pub messages : (x : ℕ) → x < 16 → mapped mode vfs v (0x0200 + 4 * x) ≡ Pf (0x13000 + 4 * (16 * v + x))

-- The registers of queue x, counted from 0, of a function with k queues.
pub record HasQueue (mode : Mode) (vfs v k x : ℕ) : Type 0 where
  pub receive_base_low : mapped mode vfs v (0x1000 + 0x40 * x) ≡ Pf (receive_address (v * k + x) 0)
  pub receive_base_high : mapped mode vfs v (0x1004 + 0x40 * x) ≡ Pf (receive_address (v * k + x) 0x04)
  pub receive_length : mapped mode vfs v (0x1008 + 0x40 * x) ≡ Pf (receive_address (v * k + x) 0x08)
  pub receive_head : mapped mode vfs v (0x1010 + 0x40 * x) ≡ Pf (receive_address (v * k + x) 0x10)
  pub receive_control : mapped mode vfs v (0x1014 + 0x40 * x) ≡ Pf (receive_address (v * k + x) 0x14)
  pub receive_tail : mapped mode vfs v (0x1018 + 0x40 * x) ≡ Pf (receive_address (v * k + x) 0x18)
  pub receive_enable : mapped mode vfs v (0x1028 + 0x40 * x) ≡ Pf (receive_address (v * k + x) 0x28)
  pub transmit_base_low : mapped mode vfs v (0x2000 + 0x40 * x) ≡ Pf (transmit_address (v * k + x) 0)
  pub transmit_base_high : mapped mode vfs v (0x2004 + 0x40 * x) ≡ Pf (transmit_address (v * k + x) 0x04)
  pub transmit_length : mapped mode vfs v (0x2008 + 0x40 * x) ≡ Pf (transmit_address (v * k + x) 0x08)
  pub transmit_head : mapped mode vfs v (0x2010 + 0x40 * x) ≡ Pf (transmit_address (v * k + x) 0x10)
  pub transmit_tail : mapped mode vfs v (0x2018 + 0x40 * x) ≡ Pf (transmit_address (v * k + x) 0x18)
  pub transmit_enable : mapped mode vfs v (0x2028 + 0x40 * x) ≡ Pf (transmit_address (v * k + x) 0x28)
  pub write_back_low : mapped mode vfs v (0x2038 + 0x40 * x) ≡ Pf (transmit_address (v * k + x) 0x38)
  pub write_back_high : mapped mode vfs v (0x203C + 0x40 * x) ≡ Pf (transmit_address (v * k + x) 0x3C)

-- A function has all these registers, and a word of PVTIVAR for each two queues.
pub record HasOffsets (mode : Mode) (vfs v k : ℕ) : Type 0 where
  pub own : HasOwn mode vfs v
  pub queues : (x : ℕ) → x < k → HasQueue mode vfs v k x
  pub vectors : (x : ℕ) → x < k / 2 → mapped mode vfs v (0x0120 + 4 * x) ≡ Pf (0x12500 + 4 * (v * k / 2 + x))

abbrev pub OffsetsAreListed : Type 0
OffsetsAreListed =
    (gcr_ext vfs v : ℕ) → v < vfs → v < pools_by (gcr_ext % 4) →
    HasOffsets (mode_of gcr_ext) vfs v (queues_by (gcr_ext % 4))

-- The offsets of queue x of a function.
abbrev pub queue_offsets : (x : ℕ) → List ℕ
queue_offsets x =
    map (λ after. 0x1000 + 0x40 * x + after) (0x00 ∷ 0x04 ∷ 0x08 ∷ 0x10 ∷ 0x14 ∷ 0x18 ∷ 0x28 ∷ [])
    ++ map (λ after. 0x2000 + 0x40 * x + after)
    (0x00 ∷ 0x04 ∷ 0x08 ∷ 0x10 ∷ 0x18 ∷ 0x28 ∷ 0x38 ∷ 0x3C ∷ [])

-- All offsets of a function with k queues: those of the registers that it has only once, of its mailbox memory, of its
-- vectors, and of its queues.
abbrev pub offsets_of : (k : ℕ) → List ℕ
offsets_of k =
    (0x0000 ∷ 0x0008 ∷ 0x0010 ∷ 0x0100 ∷ 0x0104 ∷ 0x0108 ∷ 0x010C ∷ 0x0110 ∷ 0x0114 ∷ 0x0140 ∷ 0x02FC ∷ 0x0300
    ∷ 0x101C ∷ 0x201C ∷ [])
    ++ map (λ x. 0x0200 + 4 * x) (range_with_len 0 16) ++ map (λ x. 0x0120 + 4 * x) (range_with_len 0 (k / 2))
    ++ flat_map queue_offsets (range_with_len 0 k)

-- For a function that doesn't exist, or has no pool, each offset is absent. For any other function, an offset that
-- isn't listed is a hole.
pub record HasNoOther (gcr_ext vfs v offset : ℕ) : Type 0 where
  pub absent : vfs ≤ v → mapped (mode_of gcr_ext) vfs v offset ≡ Absent
  pub no_pool : pools_by (gcr_ext % 4) ≤ v → mapped (mode_of gcr_ext) vfs v offset ≡ Absent
  pub hole : v < vfs → v < pools_by (gcr_ext % 4) →
      list_any (λ o. o == offset) (offsets_of (queues_by (gcr_ext % 4))) ≡ false →
      mapped (mode_of gcr_ext) vfs v offset ≡ Hole

abbrev pub OtherOffsetsAreHoles : Type 0
OtherOffsetsAreHoles = (gcr_ext vfs v offset : ℕ) → HasNoOther gcr_ext vfs v offset
