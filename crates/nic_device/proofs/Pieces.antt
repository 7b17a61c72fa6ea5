-- Each piece that is written lies within its frame.
use Rattle.std.proofs.Common.{◌≡◌, ◌≤◌, ◌+◌, ℕ, length, arith, ap}
use Rattle.std.specs.Prelude.{Ok}
use Rattle.rx_ring.specs.DmaArena.Memory.{Memory}
use Rattle.rx_ring.specs.DmaRing.declared.ring.Ring.{Ring}
use Rattle.rx_ring.specs.Fill.{Rest, fill_of}
use Rattle.rx_ring.specs.declared.filled.Filled.{Filled}
use Rattle.rx_ring.proofs.Fills.{takes_piece}

-- A piece is no longer than the rest of the frame.
pub piece_fits : (m : Memory) (r : Ring) (srrctl : ℕ) (rest : Rest) (f : Filled)
    → (fill_of m r srrctl rest).answer ≡ Ok f → f.len ≤ length rest.bytes
piece_fits m r srrctl rest f e = rw (takes_piece m r srrctl rest f e).len (omega arith)

-- A piece therefore ends inside the frame.
pub piece_inside : (m : Memory) (r : Ring) (srrctl : ℕ) (rest left : Rest) (offset length_of : ℕ) (f : Filled)
    → (fill_of m r srrctl rest).answer ≡ Ok f → rest ≡ left → length left.bytes + offset ≡ length_of
    → offset + f.len ≤ length_of
piece_inside m r srrctl rest left offset length_of f e same whole =
    let fits = piece_fits m r srrctl rest f e in
    let as_long = ap (λ (x : Rest). length x.bytes) same in
    omega (arith, fits, as_long, whole)
