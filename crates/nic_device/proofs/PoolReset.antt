-- A pool reset keeps a device sound and leaves everything outside the pool unchanged.
use Rattle.std.proofs.Common.{◌≡◌, ◌≢◌, ◌≤◌, ◌<◌, ◌+◌, ℕ, zero, suc, Bool, true, false, List, [], ◌∷◌, length, get_or, Option, Some, None, refl, ap, sym, ◌∙◌, inl, inr, arith}
use Rattle.std.specs.Prelude.{All, filter, not, slice_set}
use Rattle.std.proofs.lemmas.Bool.{cases_Bool, cases_eq, cond_both, eq-eqb, eqb-true, not-true}
use Rattle.std.proofs.lemmas.List.{get_or-set_other}
use Rattle.std.proofs.lemmas.List.Elements.{All-nil, All-cons, All-head, All-tail, All-filter}
use Rattle.register_file.specs.RegTable.Rows.{row_of}
use Rattle.register_file.specs.VfMap.Laws.{IsAmong}
use Rattle.register_file.specs.VfMap.Owner.{is_pool, has_queue}
use Rattle.register_file.specs.VfMap.Pools.{pool_of, queues_of}
use Rattle.register_file.specs.VfMap.declared.mode.Mode.{Mode}
use Rattle.register_file.proofs.VfMap.Inverse.{inverse}
use Rattle.register_file.specs.Access.{asks_pool_reset}
use Rattle.register_file.specs.PoolReset.{pool_reset}
use Rattle.register_file.specs.Pools.{mode_in}
use Rattle.register_file.specs.Registers.{Registers}
use Rattle.rx_ring.specs.DmaRing.declared.dir.Dir.TheVariants.{Rx, Tx}
use Rattle.register_laws.specs.Laws.{after_write}
use Rattle.register_laws.proofs.PoolReset.{renewed-pool}
use Rattle.register_laws.proofs.PoolSound.{sound-pool_reset}
use Rattle.nic_device.specs.Footprint.{pool_reach, StaysWithin}
use Rattle.nic_device.specs.PoolReset.{unstaged, pool_unstaged, others_waiting, with_pool_reset, written_below_reset}
use Rattle.nic_device.specs.Sound.{AreStaged, AreStagedWhileOn, AreWaiting, IsBegunWhileOn, IsSound, IsUnbegun}
use Rattle.nic_device.specs.State.{State, Waiting}
use Rattle.register_file.specs.RegTable.declared.place.Place.{Place}
use Rattle.register_laws.proofs.Sound.{sound-written}
use Rattle.nic_device.proofs.Cases.{either_way}
use Rattle.nic_device.proofs.Keeping.{sound-changed, sound-registers, AreStaged-set, IsStaged-none, dropped-none}
use Rattle.nic_device.proofs.SidesOn.{on_kept, others_pooled, sides-after_write}

-- Waiting frames, some of which are dropped.

AreWaiting-unbegun : (ws : List Waiting) → All IsUnbegun ws → AreWaiting ws
AreWaiting-unbegun [] h = tt
AreWaiting-unbegun (w ∷ ws) h = ((All-head IsUnbegun w ws h).waits, All-tail IsUnbegun w ws h)

pub AreWaiting-filter : (p : Waiting → Bool) (ws : List Waiting) → AreWaiting ws → AreWaiting (filter p ws)
AreWaiting-filter p [] h = tt
AreWaiting-filter p (w ∷ ws) h =
    let rest = All-filter p IsUnbegun ws h.1 in
    cond_both (p w) (w ∷ filter p ws) (filter p ws) AreWaiting (λ kept. (h.0, rest))
    (λ gone. AreWaiting-unbegun (filter p ws) rest)

pub filter-shorter : (p : Waiting → Bool) (ws : List Waiting) → length (filter p ws) ≤ length ws
filter-shorter p [] = omega arith
filter-shorter p (w ∷ ws) =
    let rest = filter-shorter p ws in
    cond_both (p w) (w ∷ filter p ws) (filter p ws) (λ (vs : List Waiting). length vs ≤ length (w ∷ ws))
    (λ kept. omega arith) (λ gone. omega arith)

-- Staged bytes that are dropped.

AreStaged-unstaged : (staged : List (List ℕ)) (first count : ℕ) → AreStaged staged
    → AreStaged (unstaged staged first count)
AreStaged-unstaged staged first zero h = h
AreStaged-unstaged staged first (suc count) h =
    AreStaged-set (unstaged staged first count) (first + count) [] (AreStaged-unstaged staged first count h)
    IsStaged-none

pub AreStaged-pool : (staged : List (List ℕ)) (o : Option (ℕ × ℕ)) → AreStaged staged
    → AreStaged (pool_unstaged staged o)
AreStaged-pool staged None h = h
AreStaged-pool staged (Some queues) h = AreStaged-unstaged staged queues.0 queues.1 h

-- Other queues keep their staged bytes.

unstaged-other : (staged : List (List ℕ)) (first count queue : ℕ) → ((first ≤ queue) × (queue < first + count) → ⊥)
    → get_or (unstaged staged first count) queue [] ≡ get_or staged queue []
unstaged-other staged first zero queue out = refl
unstaged-other staged first (suc count) queue out =
    let apart : queue ≢ first + count = λ e. out (omega arith, omega arith) in
    get_or-set_other (unstaged staged first count) (first + count) queue [] [] apart
    ∙ unstaged-other staged first count queue (λ within. out (within.0, omega (arith, within.1)))

pool-other : (staged : List (List ℕ)) (o : Option (ℕ × ℕ)) (queue : ℕ) → (IsAmong o queue → ⊥)
    → get_or (pool_unstaged staged o) queue [] ≡ get_or staged queue []
pool-other staged None queue out = refl
pool-other staged (Some queues) queue out = unstaged-other staged queues.0 queues.1 queue out

-- The pool's queues lose their staged bytes.

unstaged-own : (staged : List (List ℕ)) (first count queue : ℕ) → first ≤ queue → queue < first + count
    → get_or (unstaged staged first count) queue [] ≡ []
unstaged-own staged first zero queue low high = absurd (omega arith)
unstaged-own staged first (suc count) queue low high =
    let before = unstaged staged first count in
    elim (cases_eq queue (first + count)) as (λ _. get_or (slice_set before (first + count) []) queue [] ≡ []) [
      | inl last ↦ rw last (dropped-none before (first + count))
      | inr apart ↦ get_or-set_other before (first + count) queue [] [] apart
          ∙ unstaged-own staged first count queue low (omega arith)
    ]

pool-own : (staged : List (List ℕ)) (o : Option (ℕ × ℕ)) (queue : ℕ) → IsAmong o queue
    → get_or (pool_unstaged staged o) queue [] ≡ []
pool-own staged None queue among = absurd among
pool-own staged (Some queues) queue among = unstaged-own staged queues.0 queues.1 queue among.0 among.1

is_the_pool : (v : ℕ) (o : Option ℕ) → is_pool v o ≡ true → o ≡ Some v
is_the_pool v None e = cc
is_the_pool v (Some pool) e = ap (λ x. Some x) (eqb-true pool v e)

pub none_staged_of : (mode : Mode) (v : ℕ) (staged : List (List ℕ)) (queue : ℕ) → has_queue mode v queue ≡ true
    → get_or (pool_unstaged staged (queues_of mode v)) queue [] ≡ []
none_staged_of mode v staged queue has =
    pool-own staged (queues_of mode v) queue ((inverse mode v queue).0 (is_the_pool v (pool_of mode queue) has))

pool_has : (v : ℕ) (o : Option ℕ) → o ≡ Some v → is_pool v o ≡ true
pool_has v o e = ap (is_pool v) e ∙ eq-eqb v v refl

pub not_among : (mode : Mode) (v queue : ℕ) → has_queue mode v queue ≡ false → IsAmong (queues_of mode v) queue → ⊥
not_among mode v queue none among =
    let has = pool_has v (pool_of mode queue) ((inverse mode v queue).1 among) in
    cc

-- The remaining frames are for queues that aren't reset, and the reset queues stage nothing.

stays_begun : (r : Registers) (mode : Mode) (v : ℕ) (w : Waiting) → not (has_queue mode v w.queue) ≡ true
    → IsBegunWhileOn r w → IsBegunWhileOn (pool_reset mode v r) w
stays_begun r mode v w kept was some =
    let none : has_queue mode v w.queue ≡ false = not-true (has_queue mode v w.queue) kept in
    others_pooled r mode v Rx w.queue none ∙ was some

pool_begun : (r : Registers) (mode : Mode) (v : ℕ) (ws : List Waiting) → All (IsBegunWhileOn r) ws
    → All (IsBegunWhileOn (pool_reset mode v r)) (others_waiting mode v ws)
pool_begun r mode v [] h = All-nil (IsBegunWhileOn (pool_reset mode v r))
pool_begun r mode v (w ∷ ws) h =
    let new = pool_reset mode v r in
    let rest = pool_begun r mode v ws (All-tail (IsBegunWhileOn r) w ws h) in
    cond_both (not (has_queue mode v w.queue)) (w ∷ others_waiting mode v ws) (others_waiting mode v ws)
    (All (IsBegunWhileOn new))
    (λ kept. All-cons (IsBegunWhileOn new) w (others_waiting mode v ws)
    (stays_begun r mode v w kept (All-head (IsBegunWhileOn r) w ws h)) rest)
    (λ gone. rest)

pool_bare : (s : State) (mode : Mode) (v : ℕ) → AreStagedWhileOn s.registers s.staged
    → AreStagedWhileOn (pool_reset mode v s.registers) (pool_unstaged s.staged (queues_of mode v))
pool_bare s mode v bare queue off =
    elim (cases_Bool (has_queue mode v queue))
    as (λ _. get_or (pool_unstaged s.staged (queues_of mode v)) queue [] ≡ []) [
      | inl own ↦ none_staged_of mode v s.staged queue own
      | inr other ↦ pool-other s.staged (queues_of mode v) queue (not_among mode v queue other)
          ∙ bare queue (sym (others_pooled s.registers mode v Tx queue other) ∙ off)
    ]

pub pool_reset_sound : (s : State) (v : ℕ) → IsSound s → IsSound (with_pool_reset s v)
pool_reset_sound s v h =
    let mode = mode_in s.registers in
    let keeps : Waiting → Bool = λ w. not (has_queue mode v w.queue) in
    let shorter = filter-shorter keeps s.waiting in
    let room = h.room in
    sound-changed s (pool_reset mode v s.registers) (others_waiting mode v s.waiting)
    (pool_unstaged s.staged (queues_of mode v)) h (sound-pool_reset s.registers mode v h.registers)
    (AreWaiting-filter keeps s.waiting h.waiting) (pool_begun s.registers mode v s.waiting h.begun) (omega arith)
    (AreStaged-pool s.staged (queues_of mode v) h.staged) (pool_bare s mode v h.bare)

-- A write that doesn't request a device reset keeps a device sound.
pub written_sound : (s : State) (p : Place) (view word : ℕ) → IsSound s
    → IsSound (record s { registers = after_write s.registers p view word })
written_sound s p view word h =
    let r = after_write s.registers p view word in
    sound-registers s r h (sound-written s.registers p view word h.registers)
    (on_kept s.registers r (sides-after_write s.registers h.registers view word p))

pub below_reset_sound : (s : State) (p : Place) (view word : ℕ) → IsSound s
    → IsSound (written_below_reset s p view word)
below_reset_sound s p view word h =
    either_way IsSound (asks_pool_reset (row_of p.row).kind word) (with_pool_reset s p.index) _
    (pool_reset_sound s p.index h) (written_sound s p view word h)

pub pool_reset_stays : (s : State) (v : ℕ) → StaysWithin (pool_reach (mode_in s.registers) v) s (with_pool_reset s v)
pool_reset_stays s v =
    let mode = mode_in s.registers in
    let fewer : true ≡ false → others_waiting mode v s.waiting ≡ s.waiting = λ no. cc in
    let others : (queue : ℕ) → has_queue mode v queue ≡ false → get_or (with_pool_reset s v).staged queue []
    ≡ get_or s.staged queue [] = λ queue none. pool-other s.staged (queues_of mode v) queue
    (not_among mode v queue none) in
    assumption ((renewed-pool s.registers mode v).alone, others, fewer)
