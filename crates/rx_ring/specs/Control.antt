-- How SRRCTL, a receive queue's control register, describes the queue's buffers.
use Rattle.std.specs.Prelude.{ℕ, ◌*◌, ◌/◌, ◌%◌, ◌^◌}

-- The descriptor type, in bits 27:25. Type 1 means advanced descriptors with one buffer.
abbrev pub descriptor_type_of : ℕ → ℕ
descriptor_type_of srrctl = srrctl / 2 ^ 25 % 2 ^ 3

-- The size of a buffer in bytes. Bits 4:0 count units of 1,024 bytes.
abbrev pub buffer_size_of : ℕ → ℕ
buffer_size_of srrctl = 1024 * (srrctl % 2 ^ 5)
