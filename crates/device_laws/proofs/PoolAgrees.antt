-- If two states agree on a pool, its virtual function gets the same replies in both, and the states still agree
-- afterwards.
use Rattle.std.proofs.Common.{◌≡◌, ℕ, Bool, true, false, [], refl, ap, sym, ◌∙◌, subst}
use Rattle.std.specs.Prelude.{cond}
use Rattle.nic_device.specs.VfMap.declared.located.Located.TheVariants as located_as
use Rattle.nic_device.specs.RegisterFile.PoolReset.{pool_reset}
use Rattle.nic_device.specs.RegisterLaws.Laws.{after_write as word_written}
use Rattle.nic_device.proofs.RegisterLaws.PoolAfterReset.{agree-reset}
use Rattle.nic_device.proofs.RegisterLaws.PoolAgreement.{agree-write}
use Rattle.device_laws.specs.Prelude.{AgreeWithin, IsSound, Located, Mode, Place, State, asks_pool_reset, at_location}
use Rattle.device_laws.specs.Prelude.{has_queue, located, mode_in, mode_of, named_read, named_written, pool_agrees}
use Rattle.device_laws.specs.Prelude.{row_of, staged_by, state_written, step_of, with_pool_reset, written_below_reset}
use Rattle.device_laws.proofs.Prelude.{none_staged_of, shared-written}
use Rattle.device_laws.specs.Pool.{AgreeOnPool, VfSeesItsPoolAlone, waiting_of}
use Rattle.device_laws.proofs.PoolAlone.{IsReached, own, shared, reached, below_reset, own_reset, changes_alone}
use Rattle.device_laws.proofs.PoolParts.{none_of_the_pool}
use Rattle.device_laws.proofs.PoolReadsAgree.{PartsAgree, same_parts, agree_after, read_reply, read_parts}

-- Writes.

write_registers : (v : ℕ) (a b : State) → IsSound a → IsSound b → AgreeOnPool v a b → (p : Place) (view word : ℕ)
    → IsReached (mode_in a.registers) v p
    → AgreeWithin (pool_agrees (mode_in a.registers) v) (word_written a.registers p view word)
    (word_written b.registers p view word)
write_registers v a b good sound h p view word (own is) =
    agree-write (mode_in a.registers) v a.registers b.registers good.registers.shape sound.registers.shape h.registers p
    is view word
write_registers v a b good sound h p view word (shared is) =
    let f = pool_agrees (mode_in a.registers) v in
    subst (λ r. AgreeWithin f r (word_written b.registers p view word))
    (sym (shared-written a.registers p view word is))
    (subst (λ r. AgreeWithin f a.registers r) (sym (shared-written b.registers p view word is)) h.registers)

same_mode : (v : ℕ) (a b : State) → AgreeOnPool v a b → mode_in a.registers ≡ mode_in b.registers
same_mode v a b h = ap mode_of h.mode

reset_parts : (v : ℕ) (a b : State) → IsSound a → IsSound b → (mode : Mode) → mode_in a.registers ≡ mode
    → mode_in b.registers ≡ mode → AgreeWithin (pool_agrees mode v) a.registers b.registers
    → PartsAgree mode v (with_pool_reset a v) (with_pool_reset b v)
reset_parts v a b good sound mode first second same = record {
  registers = subst (λ m. AgreeWithin (pool_agrees mode v) (pool_reset m v a.registers) (with_pool_reset b v).registers)
      (sym first)
      (subst (λ m. AgreeWithin (pool_agrees mode v) (pool_reset mode v a.registers) (pool_reset m v b.registers))
      (sym second)
      (agree-reset mode v a.registers b.registers good.registers.shape sound.registers.shape same));
  staged = λ queue has. none_left a first queue has ∙ sym (none_left b second queue has);
  waiting = none_waiting a first ∙ sym (none_waiting b second);
}
  where
    none_left : (s : State) → mode_in s.registers ≡ mode → (queue : ℕ) → has_queue mode v queue ≡ true
        → staged_by (with_pool_reset s v) queue ≡ []
    none_left s same queue has =
        none_staged_of (mode_in s.registers) v s.staged queue (ap (λ m. has_queue m v queue) same ∙ has)

    none_waiting : (s : State) → mode_in s.registers ≡ mode → waiting_of mode v (with_pool_reset s v).waiting ≡ []
    none_waiting s same =
        subst (λ m. waiting_of m v (with_pool_reset s v).waiting ≡ []) same
        (none_of_the_pool (mode_in s.registers) v s.waiting)

below_parts : (v : ℕ) (a b : State) → IsSound a → IsSound b → AgreeOnPool v a b → (p : Place) (view word : ℕ)
    → IsReached (mode_in a.registers) v p
    → PartsAgree (mode_in a.registers) v (written_below_reset a p view word) (written_below_reset b p view word)
below_parts v a b good sound h p view word is =
    let mode = mode_in a.registers in
    both_ways_agree (asks_pool_reset (row_of p.row).kind word) (λ asks.
    subst (λ i. PartsAgree mode v (with_pool_reset a i) (with_pool_reset b i)) (sym (own_reset mode v p word is asks))
    (reset_parts v a b good sound mode refl (sym (same_mode v a b h)) h.registers))
    (record { registers = write_registers v a b good sound h p view word is; staged = h.staged; waiting = h.waiting })
  where
    both_ways_agree : (t : Bool) → (t ≡ true
        → PartsAgree (mode_in a.registers) v (with_pool_reset a p.index) (with_pool_reset b p.index))
        → PartsAgree (mode_in a.registers) v (record a { registers = word_written a.registers p view word })
        (record b { registers = word_written b.registers p view word })
        → PartsAgree (mode_in a.registers) v
        (cond t (with_pool_reset a p.index) (record a { registers = word_written a.registers p view word }))
        (cond t (with_pool_reset b p.index) (record b { registers = word_written b.registers p view word }))
    both_ways_agree true x y = x refl
    both_ways_agree false x y = y

write_parts : (v : ℕ) (a b : State) → IsSound a → IsSound b → AgreeOnPool v a b → (o word : ℕ) (m : Located)
    → located (mode_in a.registers) a.vfs v o ≡ m
    → PartsAgree (mode_in a.registers) v (named_written a (at_location m) word).state
    (named_written b (at_location m) word).state
write_parts v a b good sound h o word located_as.Absent e = same_parts v a b h
write_parts v a b good sound h o word located_as.Hole e = same_parts v a b h
write_parts v a b good sound h o word (located_as.Register p) e =
    let mode = mode_in a.registers in
    let is = reached mode a.vfs v o p e in
    let there = subst (λ m. IsReached m v p) (same_mode v a b h) is in
    subst (λ t. PartsAgree mode v t (state_written b p 0xFFFFFFFF word))
    (sym (below_reset a mode v p 0xFFFFFFFF word is))
    (subst (λ t. PartsAgree mode v (written_below_reset a p 0xFFFFFFFF word) t)
    (sym (below_reset b (mode_in b.registers) v p 0xFFFFFFFF word there))
    (below_parts v a b good sound h p 0xFFFFFFFF word is))

write_reply : (a b : State) (m : Located) (word : ℕ)
    → (named_written a (at_location m) word).reply ≡ (named_written b (at_location m) word).reply
write_reply a b located_as.Absent word = refl
write_reply a b located_as.Hole word = refl
write_reply a b (located_as.Register p) word = refl

-- Every access.

same_location : (v : ℕ) (a b : State) → AgreeOnPool v a b → (o : ℕ)
    → located (mode_in a.registers) a.vfs v o ≡ located (mode_in b.registers) b.vfs v o
same_location v a b h o =
    ap (λ m. located m a.vfs v o) (same_mode v a b h) ∙ ap (λ vfs. located (mode_in b.registers) vfs v o) h.vfs

pub sees_alone : VfSeesItsPoolAlone
unfolding step_of
sees_alone v a b good sound h o =
    let m = located (mode_in a.registers) a.vfs v o in
    let same = same_location v a b h o in
    record {
      read_reply = read_reply v a b h o m refl ∙ ap (λ n. (named_read b (at_location n)).reply) same;
      read = agree_after v a b _ _ h (changes_alone a v o).read (changes_alone b v o).read
          (subst (λ n. PartsAgree (mode_in a.registers) v (named_read a (at_location m)).state
          (named_read b (at_location n)).state) same (read_parts v a b good sound h o m refl));
      write_reply = λ word. write_reply a b m word ∙ ap (λ n. (named_written b (at_location n) word).reply) same;
      write = λ word. agree_after v a b _ _ h ((changes_alone a v o).write word) ((changes_alone b v o).write word)
          (subst (λ n. PartsAgree (mode_in a.registers) v (named_written a (at_location m) word).state
          (named_written b (at_location n) word).state) same (write_parts v a b good sound h o word m refl));
    }
