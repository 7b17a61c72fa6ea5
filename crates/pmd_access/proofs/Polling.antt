-- Lemmas about polling a side until it shows the requested state.
use Rattle.std.proofs.Common.{◌≡◌, ℕ, ◌+◌, ◌-◌, ◌<◌, ◌≤◌, Bool, true, false, not, List, [], ◌∷◌, ◌++◌, replicate, refl, sym, subst, arith}
use Rattle.std.proofs.lemmas.List.{replicate-append-replicate}
use Rattle.std.proofs.Math.Bool.{beq}
use Rattle.device_lock.specs.declared.entry.Call.{Call}
use Rattle.device_lock.specs.NicDevice.RegisterFile.Queue.{enable_row}
use Rattle.device_lock.specs.NicDevice.DmaRing.declared.dir.Dir.{Dir}
use Rattle.device_lock.specs.NicDevice.DmaRing.declared.dir.Dir.TheVariants.{Rx, Tx}
use Rattle.pmd_access.specs.declared.fault.PmdFault.{PmdFault}
use Rattle.pmd_access.specs.Named.{AtPort}
use Rattle.pmd_access.specs.QueueMade.{Access, Sees, AreMade, IsSeen}
use Rattle.pmd_access.specs.Sides.{missed, polled, PollsEnd}
use Rattle.pmd_access.proofs.QueueSequences.{both_made, next_made}

-- A list of one more equal access is the shorter list followed by that access.
replicate-last : (n : ℕ) (a : Access) → replicate (n + 1) a ≡ replicate n a ++ a ∷ []
replicate-last n a = sym (replicate-append-replicate n 1 a)

-- What the comparison of two Booleans says about them.
alike : (a b : Bool) → beq a b ≡ true → a ≡ b
alike true true e = refl
alike true false e = cc
alike false true e = cc
alike false false e = refl

other : (a b : Bool) → beq a b ≡ false → a ≡ not b
other true true e = cc
other true false e = refl
other false true e = refl
other false false e = cc

pub missed_next : (q : AtPort) (old mid new : List Call) (side : Dir) (on shown : Bool) (misses : ℕ)
    → AreMade q old mid (missed side on misses) → IsSeen q mid new (enable_row side) shown → beq shown on ≡ false
    → AreMade q old new (missed side on (misses + 1))
missed_next q old mid new side on shown misses made seen differs =
    subst (λ (l : List Access). AreMade q old new l) (sym (replicate-last misses (Sees (enable_row side) (not on))))
    (next_made q old mid new (missed side on misses) (Sees (enable_row side) (not on)) made
    (subst (λ (b : Bool). IsSeen q mid new (enable_row side) b) (other shown on differs) seen))

pub polled_here : (q : AtPort) (old mid new : List Call) (side : Dir) (on shown : Bool) (misses polls : ℕ)
    → misses < polls → AreMade q old mid (missed side on misses) → IsSeen q mid new (enable_row side) shown
    → beq shown on ≡ true
    → AreMade q old new (polled side on (polls - (polls - misses)))
polled_here q old mid new side on shown misses polls below made seen same =
    let count : misses ≡ polls - (polls - misses) = omega (arith, below) in
    subst (λ (n : ℕ). AreMade q old new (polled side on n)) count
    (next_made q old mid new (missed side on misses) (Sees (enable_row side) on) made
    (subst (λ (b : Bool). IsSeen q mid new (enable_row side) b) (alike shown on same) seen))

-- Both sides are polled in turn, the second side with the polls that remain after the first.
pub polled_left : (q : AtPort) (old asked mid new : List Call) (xs : List Access) (on : Bool) (polls left last : ℕ)
    → 0 < left → left ≤ polls → 0 < last → last ≤ left → AreMade q old asked xs
    → AreMade q asked mid (polled Rx on (polls - left)) → AreMade q mid new (polled Tx on (left - last))
    → (first : ℕ) × (second : ℕ) × (first + second < polls)
    × AreMade q old new ((xs ++ polled Rx on first) ++ polled Tx on second)
polled_left q old asked mid new xs on polls left last some few more fewer made first then = (
  polls - left,
  left - last,
  omega arith,
  both_made q old mid new (xs ++ polled Rx on (polls - left)) (polled Tx on (left - last))
      (both_made q old asked mid xs (polled Rx on (polls - left)) made first) then,
)

pub left_end : (q : AtPort) (f : PmdFault) (old asked mid new : List Call) (xs : List Access) (on : Bool)
    (polls left : ℕ)
    → 0 < left → left ≤ polls → AreMade q old asked xs → AreMade q asked mid (polled Rx on (polls - left))
    → PollsEnd f q mid new Tx on left
    → (first : ℕ) × (at : List Call) × (first < polls) × AreMade q old at (xs ++ polled Rx on first)
    × PollsEnd f q at new Tx on (polls - first)
left_end q f old asked mid new xs on polls left some few made first ends =
    let rest : left ≡ polls - (polls - left) = omega arith in (
      polls - left,
      mid,
      omega arith,
      both_made q old asked mid xs (polled Rx on (polls - left)) made first,
      subst (λ (n : ℕ). PollsEnd f q mid new Tx on n) rest ends,
    )
