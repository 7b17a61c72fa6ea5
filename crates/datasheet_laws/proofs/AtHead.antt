-- Which slot a receive step writes.
use Rattle.std.proofs.Common.{◌≡◌, ◌+◌, ◌*◌, ◌%◌, ◌^◌, ℕ, Bool, length, Ok, ap, sym, ◌∙◌, subst, arith}
use Rattle.nic_device.specs.DmaRing.Receive.{buffer_of}
use Rattle.nic_device.specs.RxRing.Control.{buffer_size_of}
use Rattle.datasheet_laws.specs.FramePrelude.{Block, Filled, Outcome, Rdbah, Rdbal, Rdh, Reply, Srrctl, State, Waiting, Wrote}
use Rattle.datasheet_laws.specs.FramePrelude.{first_half, read_at, rest_of, step_of, word_of}
use Rattle.datasheet_laws.proofs.FramePrelude.{both_ways, filled_by, received_cases, takes_piece}
use Rattle.datasheet_laws.specs.Bits.{field}
use Rattle.datasheet_laws.specs.Receiving.{WritesAtHead, SlotsAreWrittenAtHead}
use Rattle.datasheet_laws.proofs.Slots.{low-half}

pub size-is : (word : ℕ) → buffer_size_of word ≡ 1024 * field 4 0 word
size-is word = omega arith

abbrev Written : State → Outcome → Type 0
Written s o =
    (queue slot : ℕ) (end : Bool) (desc at len : ℕ) → o.reply ≡ Wrote queue slot end desc at len →
    WritesAtHead s queue slot end desc at len

filled-at : (s : State) (w : Waiting) (f : Filled) → (filled_by s w).answer ≡ Ok f
    → WritesAtHead s w.queue f.slot f.end f.desc f.at f.len
filled-at s w f is =
    let taken = takes_piece _ _ _ _ f is in
    let control = word_of s.registers Srrctl w.queue in
    let base = word_of s.registers Rdbah w.queue * 2 ^ 32 + word_of s.registers Rdbal w.queue in
    let size = size-is control in
    let len = taken.len in
    record {
      head = taken.slot ∙ sym (low-half (word_of s.registers Rdh w.queue));
      descriptor = taken.desc ∙ ap (λ n. (base + 16 * n) % 2 ^ 64) (sym taken.slot);
      buffer = taken.at ∙ ap (λ a. buffer_of (first_half (read_at s.memory a 16))) (sym taken.desc);
      type = taken.set_up.one_buffer;
      room = omega (arith, taken.len);
      full = λ on.
          let part : f.len ≡ length (rest_of w).bytes → ⊥ = λ whole. both_ways f.end on (taken.end.1 whole) in
          omega (arith, taken.len);
    }

reported-at : (s : State) (queue slot : ℕ) (end : Bool) (desc at len own : ℕ) (f : Filled)
    → ◌≡◌ {A = Reply Block} (Wrote own f.slot f.end f.desc f.at f.len) (Wrote queue slot end desc at len)
    → WritesAtHead s own f.slot f.end f.desc f.at f.len → WritesAtHead s queue slot end desc at len
reported-at s queue slot end desc at len own f e h =
    let q : own ≡ queue = cc in
    let a : f.slot ≡ slot = cc in
    let b : f.end ≡ end = cc in
    let c : f.desc ≡ desc = cc in
    let d : f.at ≡ at = cc in
    let l : f.len ≡ len = cc in
    subst (λ n. WritesAtHead s n slot end desc at len) q
    (subst (λ n. WritesAtHead s own n end desc at len) a
    (subst (λ n. WritesAtHead s own f.slot n desc at len) b
    (subst (λ n. WritesAtHead s own f.slot f.end n at len) c
    (subst (λ n. WritesAtHead s own f.slot f.end f.desc n len) d
    (subst (λ n. WritesAtHead s own f.slot f.end f.desc f.at n) l h)))))

pub written_at_head : SlotsAreWrittenAtHead
unfolding step_of
written_at_head s = received_cases (Written s) s (record {
  idle = λ queue slot end desc at len e. cc;
  dropped = λ w others first why queue slot end desc at len e. cc;
  slotless = λ w others first queue slot end desc at len e. cc;
  fault = λ w others first fault queue slot end desc at len e. cc;
  filled = λ w others first f is queue slot end desc at len e.
      reported-at s queue slot end desc at len w.queue f e (filled-at s w f is);
})
