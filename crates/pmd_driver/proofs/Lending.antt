-- Lemmas: blocks are taken and lent in order.
use Rattle.std.proofs.Common.{◌≡◌, ℕ, zero, suc, ◌+◌, ◌-◌, ◌<◌, true, false, List, [], ◌∷◌, ◌++◌, None, refl, sym, ap, subst, ◌∙◌, arith}
use Rattle.std.specs.List.{range_with_len}
use Rattle.std.proofs.lemmas.List.{append-nil}
use Rattle.pmd_access.specs.NicDevice.DmaArena.Block.{zero_block}
use Rattle.pmd_access.specs.NicDevice.DmaArena.Numbers.{Numbers, is_free, with_free}
use Rattle.pmd_access.specs.NicDevice.DmaRing.declared.dir.Dir.{Dir}
use Rattle.pmd_access.specs.NicDevice.DmaRing.declared.dir.Dir.TheVariants.{Rx, Tx}
use Rattle.pmd_access.specs.DeviceLock.declared.entry.Call.{Call}
use Rattle.pmd_access.specs.DeviceLock.declared.fault.CallFault.{CallFault}
use Rattle.pmd_access.specs.Accesses.{IsLent}
use Rattle.pmd_access.specs.Home.{IsDrawn}
use Rattle.pmd_access.proofs.Rings.{range_more}
use Rattle.pmd_access.specs.Named.{AtPort}
use Rattle.pmd_access.specs.QueueMade.{StopsBy}
use Rattle.pmd_access.specs.Sides.{ring_words}
use Rattle.pmd_access.specs.declared.fault.PmdFault.{PmdFault}
use Rattle.pmd_access.specs.declared.fault.PmdFault.TheVariants as fault
use Rattle.pmd_access.specs.NicDevice.DmaArena.Run.{IsFreeRun}
use Rattle.pmd_driver.specs.Starting.{LendsEach, LendingFails, StopsLending}
use Rattle.pmd_driver.proofs.Starting.{drawn_keeps, none_past}

-- If some blocks were taken or lent, and then one more block, all of them were taken or lent in order.

drawn_more : (a : Numbers) (xs : List ℕ) (b : Numbers) (n : ℕ) → IsDrawn a xs b → is_free b n ≡ true
    → IsDrawn a (xs ++ n ∷ []) (with_free b n false)
drawn_more a [] b n is free =
    (sym (ap (λ (x : Numbers). is_free x n) is) ∙ free, ap (λ (x : Numbers). with_free x n false) is)
drawn_more a (x ∷ xs) b n (here, is) free = (here, drawn_more (with_free a x false) xs b n is free)

lends_more : (old mid new : List Call) (xs : List ℕ) (n : ℕ) → LendsEach old mid xs
    → IsLent mid new (zero_block n) None → LendsEach old new (xs ++ n ∷ [])
lends_more old mid new [] n is lent =
    (new, subst (λ (calls : List Call). IsLent calls new (zero_block n) None) is lent, refl)
lends_more old mid new (x ∷ xs) n (next, one, rest) lent = (next, one, lends_more next mid new xs n rest lent)

-- The next block of a free run is still free.
pub next_free : (a : Numbers) (first count k : ℕ) (b : Numbers) → IsDrawn a (range_with_len first k) b → k < count
    → IsFreeRun a first count → is_free b (first + k) ≡ true
next_free a first count k b drawn below free =
    drawn_keeps a (range_with_len first k) b (first + k) drawn (free k below)
    (none_past k first (first + k) (omega arith))

pub drawn_next : (a : Numbers) (first count k : ℕ) (b : Numbers) → IsDrawn a (range_with_len first k) b → k < count
    → IsFreeRun a first count → IsDrawn a (range_with_len first (k + 1)) (with_free b (first + k) false)
drawn_next a first count k b is below free =
    subst (λ (l : List ℕ). IsDrawn a l (with_free b (first + k) false)) (sym (range_more first k))
    (drawn_more a (range_with_len first k) b (first + k) is (next_free a first count k b is below free))

pub lends_next : (old mid new : List Call) (first k : ℕ) → LendsEach old mid (range_with_len first k)
    → IsLent mid new (zero_block (first + k)) None → LendsEach old new (range_with_len first (k + 1))
lends_next old mid new first k is lent =
    subst (λ (l : List ℕ). LendsEach old new l) (sym (range_more first k))
    (lends_more old mid new (range_with_len first k) (first + k) is lent)

-- Splits the run into the blocks lent, the next block, and the remaining blocks.
split_at : (first k rest many : ℕ) → k + (rest + 1) ≡ many
    → range_with_len first k ++ (first + k) ∷ range_with_len (first + k + 1) rest ≡ range_with_len first many
split_at first zero rest many is =
    let at : first + 0 ≡ first = omega arith in
    let all : suc rest ≡ many = omega (arith, is) in
    ap (λ (n : ℕ). n ∷ range_with_len (n + 1) rest) at ∙ ap (λ (n : ℕ). range_with_len first n) all
split_at first (suc k) rest zero is = absurd (omega (arith, is))
split_at first (suc k) rest (suc many) is =
    let at : first + suc k ≡ first + 1 + k = omega arith in
    ap (λ (n : ℕ). first ∷ (range_with_len (first + 1) k ++ n ∷ range_with_len (n + 1) rest)) at
    ∙ ap (λ (l : List ℕ). first ∷ l) (split_at (first + 1) k rest many (omega (arith, is)))

-- If the next block isn't lent, lending the run stops there.
pub stops_next : (f : PmdFault) (first count k : ℕ) (old : List Call) (a : Numbers) (mid : List Call) (b : Numbers)
    (new : List Call) (out : List ℕ) → k < count → LendsEach old mid (range_with_len first k)
    → IsDrawn a (range_with_len first k) b → IsFreeRun a first count
    → LendingFails f mid new (zero_block (first + k)) → out ≡ range_with_len first k
    → StopsLending f (range_with_len first count) old a new b out
stops_next f first count k old a mid b new out below lent drawn free fails is =
    let left : k + (count - k - 1 + 1) ≡ count = omega (arith, below) in
    subst (λ (l : List ℕ). StopsLending f (range_with_len first count) old a new b l) (sym is) (record {
      next = first + k;
      rest = range_with_len (first + k + 1) (count - k - 1);
      parts = split_at first k (count - k - 1) count left;
      drawn = drawn;
      free = next_free a first count k b drawn below free;
      mid = mid;
      lent = lent;
      fails = fails;
    })

-- If a call is refused at the start for lack of memory, the writes to the ring's registers stop before the first one.
pub unwritten : (q : AtPort) (side : Dir) (ring size : ℕ) (made : List Call) (refusal : CallFault (Unit {0}))
    → StopsBy (fault.Call refusal) q made made (ring_words side ring size)
unwritten q Rx ring size made refusal = ([], _, _, made, refl, refl, ([], sym (append-nil made), tt))
unwritten q Tx ring size made refusal = ([], _, _, made, refl, refl, ([], sym (append-nil made), tt))
