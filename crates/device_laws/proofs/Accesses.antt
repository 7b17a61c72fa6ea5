-- What a register read returns right after another register access.
use Rattle.std.proofs.Common.{cond, ◌≡◌, ◌≢◌, ℕ, refl, ap, sym, ◌∙◌, Some, None, Option}
use Rattle.nic_device.specs.RegisterFile.Access.{read_word, after_read, written, stored, asks_reset, asks_pool_reset}
use Rattle.nic_device.proofs.RegisterLaws.Puts.{word_at-put_other}
use Rattle.device_laws.specs.Prelude.{IsSound, Names, Pf, Place, Registers, State, Stray, Word, around, at_place, gives}
use Rattle.device_laws.specs.Prelude.{merged, named_read, named_written, new_state, place_among, reset, row_of, runs}
use Rattle.device_laws.specs.Prelude.{state_read, state_written, step_of, view_among, with_pool_reset, word_at}
use Rattle.device_laws.proofs.Prelude.{found-named, named_in_range, put_stands, word_at-reset}
use Rattle.device_laws.specs.Laws.{IsPlain, reply_to_read, after_write, shown}
use Rattle.nic_device.specs.declared.event.Event.TheVariants as event

-- What a read and a write at a register's address do.

reply-read : (s : State) (a : ℕ) (p : Place) → IsPlain a p
    → reply_to_read s a ≡ Word (shown a (word_at s.registers.words p))
unfolding step_of
reply-read s a p plain =
    ap (λ o. (named_read s (at_place o (view_among runs a))).reply) ((found-named a p).1 plain.named)
    ∙ ap (λ k. Word (shown a (read_word k s.registers (around s) p))) plain.plain

pub state-read : (s : State) (a : ℕ) (p : Place) → Names a p → (step_of s (event.Read Pf a)).state ≡ state_read s p
unfolding step_of
state-read s a p named = ap (λ o. (named_read s (at_place o (view_among runs a))).state) ((found-named a p).1 named)

pub state-written : (s : State) (a word : ℕ) (p : Place) → Names a p
    → after_write s a word ≡ state_written s p (view_among runs a) word
unfolding step_of
state-written s a word p named =
    ap (λ o. (named_written s (at_place o (view_among runs a)) word).state) ((found-named a p).1 named)

registers-written : (s : State) (a word : ℕ) (p : Place) → IsPlain a p
    → (after_write s a word).registers ≡ stored s.registers p (view_among runs a) word
registers-written s a word p plain =
    ap (λ (t : State). t.registers) (state-written s a word p plain.named)
    ∙ ap (λ k. (cond (asks_reset k word) (reset s) (cond (asks_pool_reset k word) (with_pool_reset s p.index)
    (record s { registers = written k s.registers p (view_among runs a) word }))).registers) plain.plain

pub new_reads : (vfs fifo a : ℕ) (p : Place) → IsPlain a p
    → reply_to_read (new_state vfs fifo) a ≡ Word (shown a (row_of p.row).reset)
new_reads vfs fifo a p plain =
    reply-read (new_state vfs fifo) a p plain
    ∙ ap (λ w. Word (shown a w)) (word_at-reset p (named_in_range a p plain.named))

pub write_shows : (s : State) → IsSound s → (a b word : ℕ) (p : Place) → IsPlain a p → IsPlain b p
    → reply_to_read (after_write s a word) b
    ≡ Word (shown b (merged (shown a (row_of p.row).mask) (word_at s.registers.words p) word))
write_shows s h a b word p at through =
    reply-read (after_write s a word) b p through
    ∙ ap (λ (x : Registers). Word (shown b (word_at x.words p))) (registers-written s a word p at)
    ∙ ap (λ w. Word (shown b w)) (put_stands s.registers p _ h.registers.shape (named_in_range a p at.named))

pub write_leaves : (s : State) → IsSound s → (a b word : ℕ) (p q : Place) → IsPlain a p → IsPlain b q → q ≢ p
    → reply_to_read (after_write s a word) b ≡ reply_to_read s b
write_leaves s h a b word p q at through n =
    reply-read (after_write s a word) b q through
    ∙ ap (λ (x : Registers). Word (shown b (word_at x.words q))) (registers-written s a word p at)
    ∙ ap (λ w. Word (shown b w)) (word_at-put_other s.registers.words p q _ n)
    ∙ sym (reply-read s b q through)

pub read_changes_nothing : (s : State) (a : ℕ) (p : Place) → IsPlain a p → (step_of s (event.Read Pf a)).state ≡ s
read_changes_nothing s a p plain =
    state-read s a p plain.named
    ∙ ap (λ k. record s { registers = after_read k s.registers p }) plain.plain

found_or_none : (o : Option Place) → ((p : Place) → o ≡ Some p → ⊥) → o ≡ None
found_or_none None h = refl
found_or_none (Some p) h = absurd (h p refl)

pub stray_changes_nothing : (s : State) (a word : ℕ) → ((p : Place) → Names a p → ⊥)
    → (step_of s (event.Read Pf a) ≡ gives (Stray 0) s) × (step_of s (event.Write Pf a word) ≡ gives (Stray 0) s)
unfolding step_of
stray_changes_nothing s a word none =
    let nothing = found_or_none (place_among runs a) (λ p e. none p ((found-named a p).0 e)) in (
      ap (λ o. named_read s (at_place o (view_among runs a))) nothing,
      ap (λ o. named_written s (at_place o (view_among runs a)) word) nothing,
    )
