-- Lemmas about exchanging blocks with the arena that they came from.
use Rattle.std.proofs.Common.{ℕ, false, List, [], ◌∷◌, ◌++◌, arith}
use Rattle.device_lock.specs.NicDevice.DmaArena.Numbers.{Numbers, with_free}
use Rattle.pmd_access.specs.Home.{AreOut, IsDrawn, Exchanges}
use Rattle.pmd_access.proofs.Outside.{times-append, all_drawn}

-- Two successive exchanges are together one exchange.

drawn_both : (a : Numbers) (m : List ℕ) (b : Numbers) (n : List ℕ) (d : Numbers) → IsDrawn a m b → IsDrawn b n d
    → IsDrawn a (m ++ n) d
drawn_both a [] b n d is then = rw (← is) then
drawn_both a (k ∷ m) b n d (free, is) then = (free, drawn_both (with_free a k false) m b n d is then)

pub exchanges_both : (a b d : Numbers) (out mid new : List ℕ) → Exchanges a out b mid → Exchanges b mid d new
    → Exchanges a out d new
exchanges_both a b d out mid new (m, is, same) (n, then, also) = (
  m ++ n,
  drawn_both a m b n d is then,
  λ k.
      omega (
        arith,
        also k,
        same k,
        times-append n mid k,
        times-append m out k,
        times-append (m ++ n) out k,
        times-append m n k,
      ),
)

-- If `AreOut` holds before an exchange, it holds after it.
pub out_kept : (a : Numbers) (out : List ℕ) (b : Numbers) (new : List ℕ) → AreOut a out → Exchanges a out b new
    → AreOut b new
out_kept a out b new are (drawn, is, same) =
    all_drawn a drawn b out new is are (λ k. omega (arith, same k, times-append drawn out k))
