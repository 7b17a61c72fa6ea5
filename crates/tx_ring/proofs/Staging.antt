-- Lemmas about the bytes that a fetched descriptor adds to a packet.
use Rattle.std.proofs.Common.{◌≡◌, ℕ, ◌+◌, ◌-◌, Bool, true, false, ◌&&◌, if◌then◌else◌, List, [], ◌++◌, length, replicate, Some, None, refl, add-zero, ap}
use Rattle.std.specs.Prelude.{unwrap_or}
use Rattle.std.proofs.lemmas.List.{length-append, length-replicate, append-nil}
use Rattle.tx_ring.specs.Frame.{frame_of}

-- A packet's bytes, followed by its padding if it ends.

abbrev pub held_of : Bool → Bool → List ℕ → List ℕ
held_of end pad bytes = bytes ++ replicate (if end && pad then 60 - length bytes else 0) 0

pub frame-held_of : (end pad : Bool) (bytes : List ℕ)
    → (if end then Some (held_of end pad bytes) else None) ≡ (if end then Some (frame_of pad bytes) else None)
frame-held_of false pad bytes = refl
frame-held_of true true bytes = refl
frame-held_of true false bytes = ap Some (append-nil bytes)

-- The number of bytes held is the length of the packet with its padding.
pub length-bytes_held : (end pad : Bool) (bytes : List ℕ)
    → length (unwrap_or (if end then Some (frame_of pad bytes) else None) (if end then [] else bytes)) ≡ length bytes +
    (if end && pad then 60 - length bytes else 0)
length-bytes_held false pad bytes = rw add-zero refl
length-bytes_held true false bytes = rw add-zero refl
length-bytes_held true true bytes =
    rw (length-append bytes (replicate (60 - length bytes) 0), length-replicate {A = ℕ} (60 - length bytes) 0) refl
