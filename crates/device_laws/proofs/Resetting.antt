-- A write that requests a device reset.
use Rattle.std.proofs.Common.{cond, ◌≡◌, ◌+◌, ℕ, zero, suc, true, List, [], ◌∷◌, refl, ap, sym, ◌∙◌, subst, Option, Some, None}
use Rattle.std.specs.Prelude.{slice_index_or, slice_set, replicate}
use Rattle.std.proofs.lemmas.List.{get_or-replicate}
use Rattle.std.proofs.Math.ListN.{set}
use Rattle.nic_device.specs.PoolReset.{unstaged, pool_unstaged, others_waiting, with_pool_reset, written_below_reset}
use Rattle.nic_device.proofs.RegisterLaws.ReadBack.{off-reset}
use Rattle.nic_device.proofs.RegisterLaws.SoundReset.{none_reported}
use Rattle.nic_device.specs.Eeprom.{is_stepped_over, triple_written, with_triple, with_triples, reset}
use Rattle.nic_device.specs.State.{State, cleared, none_staged}
use Rattle.nic_device.proofs.Triples.{reset_leaves}
use Rattle.device_laws.specs.Prelude.{Names, Place, asks_pool_reset, asks_reset, mode_in, place_among, queues_of}
use Rattle.device_laws.specs.Prelude.{row_of, runs, triples_of, view_among}
use Rattle.device_laws.proofs.Prelude.{either_way, word_at-reset}
use Rattle.device_laws.specs.Laws.{IsReset, AskedResetResets, HasResetValues, ResetGivesResetValues, after_write}
use Rattle.device_laws.proofs.Accesses.{state-written}

-- The receive list is empty, and nothing is staged.
record IsEmpty (s : State) : Type 0 where
  waiting : s.waiting ≡ []
  staged : s.staged ≡ none_staged

set-empty : (n i : ℕ) → set (replicate n []) i [] ≡ replicate {A = List ℕ} n []
set-empty zero i = refl
set-empty (suc n) zero = refl
set-empty (suc n) (suc i) = ap (λ (ys : List (List ℕ)). [] ∷ ys) (set-empty n i)

unstaged-empty : (staged : List (List ℕ)) (first count : ℕ) → staged ≡ none_staged
    → unstaged staged first count ≡ none_staged
unstaged-empty staged first zero none = none
unstaged-empty staged first (suc count) none =
    ap (λ xs. slice_set xs (first + count) []) (unstaged-empty staged first count none)
    ∙ set-empty 128 (first + count)

pool-empty : (staged : List (List ℕ)) (o : Option (ℕ × ℕ)) → staged ≡ none_staged
    → pool_unstaged staged o ≡ none_staged
pool-empty staged None none = none
pool-empty staged (Some queues) none = unstaged-empty staged queues.0 queues.1 none

triple_empty : (s : State) (o : Option Place) (view word : ℕ) → IsEmpty s → IsEmpty (triple_written s o view word)
triple_empty s None view word h = h
triple_empty s (Some p) view word h =
    either_way IsEmpty (is_stepped_over p.row) s (written_below_reset s p view word) h
    (either_way IsEmpty (asks_pool_reset (row_of p.row).kind word) (with_pool_reset s p.index) _ (record {
      waiting = ap (others_waiting (mode_in s.registers) p.index) h.waiting;
      staged = pool-empty s.staged (queues_of (mode_in s.registers) p.index) h.staged;
    })
    (record { waiting = h.waiting; staged = h.staged }))

triples_empty : (s : State) (ts : List (ℕ × ℕ)) → IsEmpty s → IsEmpty (with_triples s ts)
triples_empty s [] h = h
triples_empty s (t ∷ ts) h =
    triples_empty (with_triple s t) ts (triple_empty s (place_among runs t.0) (view_among runs t.0) t.1 h)

reset_empty : (s : State) → IsEmpty (reset s)
reset_empty s = triples_empty (cleared s) (triples_of s.image) (record { waiting = refl; staged = refl })

pub is_reset : (s : State) → IsReset s (reset s)
is_reset s = record {
  waiting = (reset_empty s).waiting;
  staged = λ queue small.
      ap (λ staged. slice_index_or staged queue []) (reset_empty s).staged ∙ get_or-replicate 128 queue [] [] small;
  memory = (reset_leaves s).memory;
  out = (reset_leaves s).out;
  link = (reset_leaves s).link;
  image = (reset_leaves s).image;
  vfs = (reset_leaves s).vfs;
  fifo = (reset_leaves s).fifo;
}

-- A write that requests a reset performs one.
pub asked-reset : (s : State) (a word : ℕ) (p : Place) → Names a p → asks_reset (row_of p.row).kind word ≡ true
    → after_write s a word ≡ reset s
asked-reset s a word p named asks =
    state-written s a word p named
    ∙ ap (λ b. cond b (reset s) (written_below_reset s p (view_among runs a) word)) asks

pub asked_resets : AskedResetResets
asked_resets s a word p named asks = subst (IsReset s) (sym (asked-reset s a word p named asks)) (is_reset s)

cleared_values : (s : State) → HasResetValues (cleared s)
cleared_values s = record {
  words = λ p inside. word_at-reset p inside;
  wanted = λ dir queue small. (off-reset dir queue small).1;
  reported = none_reported;
}

pub reset_values : ResetGivesResetValues
reset_values s a word p named asks none =
    subst HasResetValues
    (sym (asked-reset s a word p named asks ∙ ap (λ ts. with_triples (cleared s) ts) none)) (cleared_values s)
