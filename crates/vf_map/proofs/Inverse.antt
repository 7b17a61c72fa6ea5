-- Lemmas about the pool of a queue, the queues of a pool, and the listed offsets.
use Rattle.std.proofs.Common.{◌≡◌, ◌≢◌, ℕ, ◌*◌, ◌-◌, ◌+◌, ◌<◌, ◌≤◌, Bool, true, ◌==◌, ◌&&◌, not, nat_lt, List, [], ◌∷◌, Some, None, refl, ap, sym, ◌∙◌, subst, inl, inr, arith, ◌↔◌}
use Rattle.std.specs.Prelude.{All, AllPairs}
use Rattle.std.specs.List.{list_all}
use Rattle.std.proofs.lemmas.Bool.{cases_Bool, cond-true, cond-false, eq-eqb, ltb-true, lt-ltb, and_parts, both_ways, not-true}
use Rattle.std.proofs.lemmas.List.Kept.{AllPairs-cons}
use Rattle.std.proofs.lemmas.List.Elements.{All-cons, All-nil}
use Rattle.reg_table.specs.Rows.{rows}
use Rattle.vf_map.specs.declared.mode.Mode.{Mode}
use Rattle.vf_map.specs.declared.mode.Mode.TheVariants.{Off, Pools16, Pools32, Pools64}
use Rattle.vf_map.specs.Pools.{queues_of, pool_of, queues_each, pools_in}
use Rattle.vf_map.specs.Laws.{IsAmong}
use Rattle.vf_map.proofs.Numbers.{queue_of_pool, placed}
use Rattle.vf_map.specs.Map.{Entry, entries}

pub Some-one : {A : Type 0} {x y : A} → Some x ≡ Some y → x ≡ y
Some-one e = cc

-- The queue is one of the queues of pool `v`, if each pool has `each` queues.
pub record IsWithin (pools each v queue : ℕ) : Type 0 where
  pub pool : v < pools
  pub low : v * each ≤ queue
  pub high : queue < v * each + each

pub pool_within : (mode : Mode) (v queue : ℕ) → pool_of mode queue ≡ Some v →
    IsWithin (pools_in mode) (queues_each mode) v queue
pool_within mode v queue e =
    let i = queue_of_pool mode queue v e in
    let own = i.own in
    let is = i.is in
    record { pool = i.pool; low = omega (arith, is); high = omega (arith, is, own) }

within_pool : (mode : Mode) (v queue : ℕ) → IsWithin (pools_in mode) (queues_each mode) v queue →
    pool_of mode queue ≡ Some v
within_pool mode v queue w =
    let low = w.low in
    let high = w.high in
    (placed mode v (queue - v * queues_each mode) queue
    (record { pool = w.pool; own = omega (arith, low, high); is = omega (arith, low) })).pool

within_among : (mode : Mode) (v queue : ℕ) → IsWithin (pools_in mode) (queues_each mode) v queue →
    IsAmong (queues_of mode v) queue
within_among mode v queue w =
    let is : queues_of mode v ≡ Some (v * queues_each mode, queues_each mode) =
    cond-true (nat_lt v (pools_in mode)) _ _ (lt-ltb _ _ w.pool) in
    subst (λ o. IsAmong o queue) (sym is) (w.low, w.high)

among_within : (mode : Mode) (v queue : ℕ) → IsAmong (queues_of mode v) queue →
    IsWithin (pools_in mode) (queues_each mode) v queue
among_within mode v queue a =
    elim (cases_Bool (nat_lt v (pools_in mode))) [
      | inl t ↦
          let is : queues_of mode v ≡ Some (v * queues_each mode, queues_each mode) =
          cond-true (nat_lt v (pools_in mode)) _ _ t in
          let both : IsAmong (Some (v * queues_each mode, queues_each mode)) queue =
          subst (λ o. IsAmong o queue) is a in
          record { pool = ltb-true _ _ t; low = both.0; high = both.1 }
      | inr f ↦
          let is : queues_of mode v ≡ None = cond-false (nat_lt v (pools_in mode)) _ _ f in
          absurd (subst (λ o. IsAmong o queue) is a)
    ]

-- `pool_of` returns pool v for a queue if and only if the range of queues that `queues_of` returns for v contains the
-- queue.
pub inverse : (mode : Mode) (v queue : ℕ) → (pool_of mode queue ≡ Some v) ↔ IsAmong (queues_of mode v) queue
inverse mode v queue = (
  λ e. within_among mode v queue (pool_within mode v queue e),
  λ a. within_pool mode v queue (among_within mode v queue a),
)

-- Whether all entries have different offsets.
abbrev all_differ : List Entry → Bool
all_differ [] = true
all_differ (e ∷ es) = list_all (λ f. not (e.0 == f.0)) es && all_differ es

all_apart : (e : Entry) (es : List Entry) → list_all (λ f. not (e.0 == f.0)) es ≡ true → All (λ f. e.0 ≢ f.0) es
all_apart e [] t = All-nil (λ f. e.0 ≢ f.0)
all_apart e (f ∷ es) t =
    let both = and_parts (not (e.0 == f.0)) (list_all (λ f. not (e.0 == f.0)) es) t in
    All-cons (λ f. e.0 ≢ f.0) f es (λ s. both_ways _ (not-true _ both.0) (eq-eqb _ _ s)) (all_apart e es both.1)

pairs_apart : (es : List Entry) → all_differ es ≡ true → AllPairs (λ e f. e.0 ≢ f.0) es
pairs_apart [] t = λ i j d h k. absurd (omega arith)
pairs_apart (e ∷ es) t =
    let both = and_parts (list_all (λ f. not (e.0 == f.0)) es) (all_differ es) t in
    AllPairs-cons (λ e f. e.0 ≢ f.0) e es (all_apart e es both.0) (pairs_apart es both.1)

entries_differ : (mode : Mode) (v first : ℕ) → all_differ (entries v first (queues_each mode)) ≡ true
unfolding entries rows
entries_differ Off v first = refl
entries_differ Pools16 v first = refl
entries_differ Pools32 v first = refl
entries_differ Pools64 v first = refl

-- Each offset is listed only once.
pub listed_once : (mode : Mode) (v first count : ℕ) → queues_of mode v ≡ Some (first, count) →
    AllPairs (λ e f. e.0 ≢ f.0) (entries v first count)
listed_once mode v first count e =
    elim (cases_Bool (nat_lt v (pools_in mode))) [
      | inl t ↦
          let is : Some (v * queues_each mode, queues_each mode) ≡ Some (first, count) =
          sym (cond-true (nat_lt v (pools_in mode)) (Some (v * queues_each mode, queues_each mode)) None t) ∙ e in
          let same : (v * queues_each mode, queues_each mode) ≡ (first, count) = Some-one is in
          subst (λ n. AllPairs (λ e f. e.0 ≢ f.0) (entries v first n)) (ap (λ p. p.1) same)
          (pairs_apart (entries v first (queues_each mode)) (entries_differ mode v first))
      | inr f ↦
          let none : queues_of mode v ≡ None = cond-false (nat_lt v (pools_in mode)) _ _ f in
          let is : queues_of mode v ≡ Some (first, count) = e in
          cc
    ]
