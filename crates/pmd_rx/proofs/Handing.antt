-- Proves that the steps of a refill complete the waiting packet.
use Rattle.std.proofs.Common.{◌≡◌, ℕ, ◌+◌, ◌<◌, ◌≤◌, true, false, List, [], ◌∷◌, ◌++◌, length, Result, Ok, Err, OnOk, OnErr, refl, sym, ap, subst, ◌∙◌, arith}
use Rattle.std.proofs.lemmas.List.{append-nil, length-append}
use Rattle.pmd_access.specs.NicDevice.DmaArena.Block.{Block}
use Rattle.pmd_access.specs.NicDevice.DmaArena.Numbers.{Numbers, free_count, is_free, with_free}
use Rattle.pmd_access.proofs.NicDevice.DmaArena.Arenas.{free_count_taken}
use Rattle.pmd_access.specs.declared.packet.Packet.{Packet}
use Rattle.pmd_rx.specs.Keeping.{IsRunning, IsDuring, vacated}
use Rattle.pmd_rx.specs.Receive.{Receive, reach, names, lent_one, ended_of, if_any, next_stage, HasLent}
use Rattle.pmd_rx.specs.Shown.{IsOneLess, OneMore, WaitsStill, refilled, rounds}
use Rattle.pmd_rx.specs.Wrong.{PacketWaits, wanted, owed}
use Rattle.pmd_rx.specs.declared.ring.Stage.{Stage}
use Rattle.pmd_rx.specs.declared.ring.Stage.TheVariants.{Looks, Takes, Owes, Lent}
use Rattle.pmd_rx.specs.declared.ring.Reported.{Reported}

-- A fresh block is lent and named.

pub lent_named : {E : Type 0} (r : Result Unit E) (a b : Numbers) (v w x : Receive) (n : ℕ)
    → is_free a n ≡ true → b ≡ with_free a n false → w ≡ lent_one v n → OnOk r (x ≡ names w)
    → OnOk r ((m : ℕ) × (is_free a m ≡ true) × (b ≡ with_free a m false) × (x ≡ refilled v m))
lent_named (Ok o) a b v w x n free taken is then = (n, free, taken, then ∙ ap (λ (y : Receive). names y) is)
lent_named (Err e) a b v w x n free taken is then = tt

-- Naming a block keeps the packets handed out.
pub named_same : {E : Type 0} (r : Result Unit E) (v w : Receive) → OnOk r (w ≡ names v) → OnErr r (w ≡ v)
    → w.handed ≡ v.handed
named_same (Ok o) v w is same = ap (λ (y : Receive). y.handed) is
named_same (Err e) v w is same = ap (λ (y : Receive). y.handed) same

-- A running driver has room for the block it owes.
pub owes_room : (v : Receive) → IsRunning v → v.stage ≡ Owes → length (reach v).blocks + 1 < v.layout.size
owes_room v runs owes =
    let full : length v.layout.blocks + length v.named + 1 + 1 ≡ v.layout.size =
    subst (λ (s : Stage). length v.layout.blocks + length v.named + vacated s + 1 ≡ v.layout.size) owes runs.full in
    omega (arith, full, length-append v.layout.blocks v.named)

-- A part that was seen needs a free block.
pub owed_some : (v : Receive) (a : Numbers) → 0 < length v.seen → wanted v ≤ free_count a → free_count a ≡ 0 → ⊥
owed_some v a some free none = omega (arith, some, free, none)

-- A part whose replacement is still owed needs a free block too.
pub owed_here : (v : Receive) (a : Numbers) → v.stage ≡ Owes → wanted v ≤ free_count a → free_count a ≡ 0 → ⊥
owed_here v a owes free none = omega (arith, free, none, ap owed owes)

-- After naming a block while holding a part, one round fewer remains; the packet is still waiting, or it is complete.

ended_some : (bs : List Block) (p : Packet) → 0 < length bs → if_any bs p ≡ p ∷ []
ended_some [] p some = absurd (omega (arith, some))
ended_some (b ∷ bs) p some = refl

next_vacated : (seen : List Reported) → vacated (next_stage seen) ≡ 0
next_vacated [] = refl
next_vacated (t ∷ seen) = refl

named_waits : (v : Receive) (seen : List Reported) → 0 < length seen
    → PacketWaits (next_stage seen) × (v.whole ++ ended_of seen v.held ≡ v.whole)
named_waits v [] some = absurd (omega (arith, some))
named_waits v (t ∷ seen) some = (tt, append-nil v.whole)

named_more : (v : Receive) (seen : List Reported) → 0 < length v.held.bufs → length seen ≡ 0
    → (p : Packet) × (v.whole ++ ended_of seen v.held ≡ v.whole ++ p ∷ [])
named_more v [] held none =
    (v.held, ap (λ (ps : List Packet). v.whole ++ ps) (ended_some v.held.bufs v.held held))
named_more v (t ∷ seen) held none = absurd (omega (arith, none))

lent_rounds : (v : Receive) (s : Stage) → HasLent s → IsDuring v s
    → (vacated s ≡ 1) × (owed s ≡ 0) × (0 < length v.held.bufs)
lent_rounds v Looks lent during = absurd lent
lent_rounds v Takes lent during = absurd lent
lent_rounds v Owes lent during = absurd lent
lent_rounds v (Lent b) lent during = (refl, refl, during)

next_owed : (seen : List Reported) → 0 < length seen → owed (next_stage seen) ≡ 0
next_owed [] some = absurd (omega (arith, some))
next_owed (t ∷ seen) some = refl

pub less_lent : (a : Numbers) (v : Receive) → HasLent v.stage → IsDuring v v.stage → IsOneLess a v a (names v)
less_lent a v lent during =
    let here = lent_rounds v v.stage lent during in
    let none = next_vacated v.seen in
    record {
      rounds_are = omega (arith, none, here.0);
      waits = λ left.
          let some : 0 < length v.seen = omega (arith, left, none) in
          let waits = named_waits v v.seen some in
          record {
            stage = waits.0;
            whole = waits.1;
            free = λ free. omega (arith, free, next_owed v.seen some, here.1);
          };
      more = λ left. named_more v v.seen here.2 (omega (arith, left, none));
    }

owes_during : (v : Receive) (s : Stage) → s ≡ Owes → IsDuring v s → 0 < length v.held.bufs
owes_during v s owes during = subst (λ (t : Stage). IsDuring v t) owes during

pub less_owes : (a : Numbers) (v : Receive) (n : ℕ) → v.stage ≡ Owes → IsDuring v v.stage → is_free a n ≡ true
    → IsOneLess a v (with_free a n false) (refilled v n)
less_owes a v n owes during free =
    let held = owes_during v v.stage owes during in
    let lent = less_lent (with_free a n false) (lent_one v n) tt held in
    let one : vacated v.stage ≡ 1 = ap vacated owes in
    let block : owed v.stage ≡ 1 = ap owed owes in
    record {
      rounds_are = omega (arith, lent.rounds_are, one);
      waits = λ left.
          let still = lent.waits left in
          record {
            stage = still.stage;
            whole = still.whole;
            free = λ enough. still.free (omega (arith, enough, block, free_count_taken a n free));
          };
      more = lent.more;
    }

-- One round fewer remains if the part was taken just before.
pub less_takes : (a b : Numbers) (u v w : Receive) → v.stage ≡ Takes → u.stage ≡ Owes
    → length u.seen + 1 ≡ length v.seen → u.whole ≡ v.whole → IsOneLess a u b w → IsOneLess a v b w
less_takes a b u v w takes owes seen same less =
    let none : vacated v.stage ≡ 0 = ap vacated takes in
    let one : vacated u.stage ≡ 1 = ap vacated owes in
    let old : owed v.stage ≡ 0 = ap owed takes in
    let block : owed u.stage ≡ 1 = ap owed owes in
    record {
      rounds_are = omega (arith, less.rounds_are, none, one, seen);
      waits = λ left.
          let still = less.waits left in
          record {
            stage = still.stage;
            whole = still.whole ∙ same;
            free = λ enough. still.free (omega (arith, enough, old, block, seen));
          };
      more = λ left.
          let whole = less.more left in
          (whole.0, whole.1 ∙ ap (λ (ps : List Packet). ps ++ whole.0 ∷ []) same);
    }

-- One round fewer remains, given a result.

pub owes_less : {E : Type 0} (r : Result Unit E) (a b : Numbers) (v w : Receive) → v.stage ≡ Owes → IsDuring v v.stage
    → OnOk r ((n : ℕ) × (is_free a n ≡ true) × (b ≡ with_free a n false) × (w ≡ refilled v n))
    → OnOk r (IsOneLess a v b w)
owes_less (Ok o) a b v w owes during (n, free, taken, is) = rw (taken, is) (less_owes a v n owes during free)
owes_less (Err e) a b v w owes during is = tt

pub takes_less : {E : Type 0} (r : Result Unit E) (a b : Numbers) (u v w : Receive) → v.stage ≡ Takes
    → u.stage ≡ Owes → length u.seen + 1 ≡ length v.seen → u.whole ≡ v.whole → OnOk r (IsOneLess a u b w)
    → OnOk r (IsOneLess a v b w)
takes_less (Ok o) a b u v w takes owes seen same less = less_takes a b u v w takes owes seen same less
takes_less (Err e) a b u v w takes owes seen same less = tt

pub lent_less : {E : Type 0} (r : Result Unit E) (a : Numbers) (v w : Receive) → HasLent v.stage → IsDuring v v.stage
    → OnOk r (w ≡ names v) → OnOk r (IsOneLess a v a w)
lent_less (Ok o) a v w lent during is = subst (IsOneLess a v a) (sym is) (less_lent a v lent during)
lent_less (Err e) a v w lent during is = tt

-- A waiting packet needs a round, and one round can follow another.

pub some_rounds : (v : Receive) (s : Stage) → v.stage ≡ s → PacketWaits s → IsRunning v → rounds v ≡ 0 → ⊥
some_rounds v Looks is waits runs none = waits
some_rounds v Takes is waits runs none =
    let during : 0 < length v.seen = subst (λ (s : Stage). IsDuring v s) is runs.stage in
    omega (arith, none, during)
some_rounds v Owes is waits runs none = omega (arith, none, ap vacated is)
some_rounds v (Lent b) is waits runs none = omega (arith, none, ap vacated is)

pub still_both : (a b d : Numbers) (v w x : Receive) → WaitsStill a v b w → WaitsStill b w d x → WaitsStill a v d x
still_both a b d v w x p q = record {
  stage = q.stage;
  whole = q.whole ∙ p.whole;
  free = λ enough. q.free (p.free enough);
}

pub more_after : (v w x : Receive) → w.whole ≡ v.whole → OneMore w x → OneMore v x
more_after v w x same (p, is) = (p, is ∙ ap (λ (ps : List Packet). ps ++ p ∷ []) same)
