-- Which of the device's queues belong to a virtual function, according to the field of GCR_EXT.
use Rattle.std.proofs.Common.{◌≡◌, ℕ, ◌+◌, ◌*◌, ◌%◌, ◌<◌, cond, nat_lt, Option, Some, None, refl, ap, sym, ◌∙◌, subst, arith, inl, inr}
use Rattle.std.proofs.lemmas.Bool.{lt-ltb, ltb-true, cases_Bool}
use Rattle.std.proofs.lemmas.Bool.Decides.{nat_tests}
use Rattle.nic_device.specs.VfMap.Pools.{queues_each, pool_of}
use Rattle.nic_device.proofs.VfMap.Numbers.{IsQueue, placed, queue_of_pool}
use Rattle.nic_device.specs.Interrupt.{function_in, function_of_queue, group_of, group_of_queue}
use Rattle.datasheet_laws.specs.Prelude.{GcrExt, IsSound, Pf, State, Vf, mode_in, word_of}
use Rattle.datasheet_laws.specs.Queues.{queues_by, queues_in_pool, IsQueueOf, IsOfPf}
use Rattle.datasheet_laws.specs.Steps.{pools_of}
use Rattle.datasheet_laws.proofs.SettingsShown.{mode_word, mode_by, pools_there}

queues_same : (n : ℕ) → n < 4 → queues_by n ≡ queues_each (mode_by n)
queues_same n h = grind (arith, nat_tests)

pub queues_there : (s : State) → IsSound s → queues_in_pool s ≡ queues_each (mode_in s.registers)
queues_there s h =
    ap (λ w. queues_by (w % 4)) (mode_word s h)
    ∙ queues_same (word_of s.registers GcrExt 0 % 4) (omega arith)

-- Queue x of a pool.
pub is_in : (s : State) → IsSound s → (v x queue : ℕ) → v < pools_of s → x < queues_in_pool s
    → queue ≡ v * queues_in_pool s + x → IsQueue (mode_in s.registers) v x queue
is_in s h v x queue pool own is = record {
  pool = subst (λ n. v < n) (pools_there s h) pool;
  own = subst (λ n. x < n) (queues_there s h) own;
  is = subst (λ n. queue ≡ v * n + x) (queues_there s h) is;
}

-- The group in which a queue raises causes.

pub group_vf : (s : State) → IsSound s → (v x queue : ℕ) → IsQueueOf s v x queue
    → group_of_queue s.registers s.vfs queue ≡ Vf v
unfolding function_of_queue
group_vf s h v x queue q =
    ap (λ o. group_of (function_in s.vfs o))
    (placed (mode_in s.registers) v x queue (is_in s h v x queue q.pool q.own q.is)).pool
    ∙ ap (λ b. group_of (cond b (Some v) None)) (lt-ltb v s.vfs q.function)

no_function : (s : State) → IsSound s → (queue : ℕ) → IsOfPf s queue → (o : Option ℕ)
    → pool_of (mode_in s.registers) queue ≡ o → group_of (function_in s.vfs o) ≡ Pf
no_function s h queue of None e = refl
no_function s h queue of (Some pool) e =
    elim (cases_Bool (nat_lt pool s.vfs)) [
      | inl t ↦
          let k = queues_there s h in
          let i = queue_of_pool (mode_in s.registers) queue pool e in
          let x : ℕ = queue % queues_each (mode_in s.registers) in
          absurd (of.none pool x (record {
            function = ltb-true pool s.vfs t;
            pool = subst (λ n. pool < n) (sym (pools_there s h)) i.pool;
            own = subst (λ n. x < n) (sym k) i.own;
            is = subst (λ n. queue ≡ pool * n + x) (sym k) i.is;
          }))
      | inr f ↦ ap (λ b. group_of (cond b (Some pool) None)) f
    ]

pub group_pf : (s : State) → IsSound s → (queue : ℕ) → IsOfPf s queue → group_of_queue s.registers s.vfs queue ≡ Pf
unfolding function_of_queue
group_pf s h queue of = no_function s h queue of (pool_of (mode_in s.registers) queue) refl
