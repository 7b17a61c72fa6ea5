-- The frame that a transmit queue sends from its staged bytes.
use Rattle.std.specs.Prelude.{ℕ, ◌-◌, ◌++◌, Bool, if◌then◌else◌, List, length, replicate}

-- The frame that is sent: the staged bytes, padded with zeros to 60 bytes if `pad` is set.
abbrev pub frame_of : Bool → List ℕ → List ℕ
frame_of pad bytes = if pad then bytes ++ replicate (60 - length bytes) 0 else bytes
