-- The state after an enable step.
use Rattle.std.proofs.Common.{◌≡◌, ◌≢◌, ◌⊎◌, ◌<◌, ◌-◌, ◌+◌, ◌^◌, ◌&&◌, ◌==◌, ℕ, Bool, true, false, cond, not, List, [], ◌∷◌, refl, ap, sym, ◌∙◌, subst, inl, inr, arith}
use Rattle.std.proofs.lemmas.Bool.{cond-true, cond-false, cond_both, and_from, and_left, and_right, eq-eqb, ne_eqb}
use Rattle.nic_device.specs.RegisterFile.Bits.{has_bit, bit_set, bit_cleared}
use Rattle.nic_device.specs.RegisterFile.Queue.{enable_row, switched, switched_on, switched_off}
use Rattle.nic_device.specs.RegisterFile.Registers.{Registers, word_of, with_word, is_wanted}
use Rattle.nic_device.specs.RegisterLaws.Laws.{HasShape}
use Rattle.nic_device.proofs.RegisterLaws.Fields.{is_wanted-put}
use Rattle.nic_device.specs.Switching.{side_switched, emptied, without_part}
use Rattle.datasheet_laws.specs.FramePrelude.{Dir, IsSound, Outcome, Rx, State, Tx, Waiting, place, step_of}
use Rattle.datasheet_laws.proofs.FramePrelude.{get_or-set_same, put_stands}
use Rattle.datasheet_laws.specs.Bits.{bit}
use Rattle.datasheet_laws.specs.Switching.{enable_word, IsToSwitch, LosesPart, FramesAfter}
use Rattle.datasheet_laws.specs.Switching.{WordAfter, BecomesAsWanted, SwitchedSideIsAsWanted}
use Rattle.datasheet_laws.proofs.FrameBits.{has-one, has-zero}
use Rattle.datasheet_laws.proofs.Switching.{enable-is, done-comes, reported}

-- The enable word, replaced by another.

row-there : (r : Registers) (dir : Dir) (queue v : ℕ) → HasShape r → queue < 128
    → word_of (with_word r (enable_row dir) queue v) (enable_row dir) queue ≡ v
row-there r Rx queue v h small = put_stands r (place (enable_row Rx) queue) v h small
row-there r Tx queue v h small = put_stands r (place (enable_row Tx) queue) v h small

word-there : (r : Registers) (dir : Dir) (queue v : ℕ) → HasShape r → queue < 128
    → enable_word (with_word r (enable_row dir) queue v) dir queue ≡ v
word-there r dir queue v h small =
    sym (enable-is (with_word r (enable_row dir) queue v) dir queue) ∙ row-there r dir queue v h small

bit-up : (w : ℕ) → bit 25 w ≡ 0 → bit 25 (w + 2 ^ 25) ≡ 1
bit-up w e = omega arith

bit-down : (w : ℕ) → bit 25 w ≡ 1 → bit 25 (w - 2 ^ 25) ≡ 0
bit-down w e = omega arith

down-up : (w : ℕ) → bit 25 w ≡ 1 → w ≡ (w - 2 ^ 25) + 2 ^ 25
down-up w e = omega arith

bit-not-one : (w : ℕ) → bit 25 w ≢ 1 → bit 25 w ≡ 0
bit-not-one w e = omega arith

bit-not-zero : (w : ℕ) → bit 25 w ≢ 0 → bit 25 w ≡ 1
bit-not-zero w e = omega arith

module _ (s : State) (dir : Dir) (queue : ℕ) (shape : HasShape s.registers) (small : queue < 128) where
  abbrev word : ℕ
  word = enable_word s.registers dir queue

  word-is : word_of s.registers (enable_row dir) queue ≡ word
  word-is = enable-is s.registers dir queue

  on-word : bit 25 word ≡ 0 → enable_word (switched_on s.registers dir queue) dir queue ≡ word + 2 ^ 25
  on-word zero =
      word-there s.registers dir queue (bit_set 25 (word_of s.registers (enable_row dir) queue)) shape small
      ∙ ap (bit_set 25) word-is
      ∙ cond-false (has_bit 25 word) word (word + 2 ^ 25) (has-zero 25 word zero)

  off-word : bit 25 word ≡ 1 → enable_word (switched_off s.registers dir queue) dir queue ≡ word - 2 ^ 25
  off-word one =
      word-there s.registers dir queue (bit_cleared 25 (word_of s.registers (enable_row dir) queue)) shape small
      ∙ ap (bit_cleared 25) word-is
      ∙ cond-true (has_bit 25 word) (word - 2 ^ 25) word (has-one 25 word one)

-- The waiting frames and the staged bytes after an enable step.

part-of : (queue : ℕ) (w : Waiting) (others : List Waiting) → w.queue ≡ queue → w.offset ≢ 0
    → without_part queue (w ∷ others) ≡ others
part-of queue w others own begun =
    cond-true (w.queue == queue && not (w.offset == 0)) others (w ∷ others)
    (and_from (w.queue == queue) (not (w.offset == 0)) (eq-eqb w.queue queue own)
    (ap not (ne_eqb w.offset 0 begun)))

no-part : (queue : ℕ) (w : Waiting) → (w.queue ≢ queue) ⊎ (w.offset ≡ 0)
    → (w.queue == queue && not (w.offset == 0)) ≡ false
no-part queue w (inl other) = and_left (w.queue == queue) (not (w.offset == 0)) (ne_eqb w.queue queue other)
no-part queue w (inr unbegun) =
    and_right (w.queue == queue) (not (w.offset == 0)) (ap not (eq-eqb w.offset 0 unbegun))

loses-part : (queue : ℕ) (ws : List Waiting) → LosesPart queue ws (without_part queue ws)
loses-part queue ws = record {
  begun = λ w others e own begun. ap (without_part queue) e ∙ part-of queue w others own begun;
  other = λ w others e apart.
      ap (without_part queue) e
      ∙ cond-false (w.queue == queue && not (w.offset == 0)) others (w ∷ others) (no-part queue w apart) ∙ sym e;
  none = λ e. ap (without_part queue) e;
}

frames-off : (s : State) (h : IsSound s) (dir : Dir) (queue : ℕ) → queue < 128
    → FramesAfter false dir queue s (record (emptied s dir queue) { registers = switched s.registers dir queue })
frames-off s h Rx queue small = (loses-part queue s.waiting, refl)
frames-off s h Tx queue small =
    (refl, get_or-set_same s.staged queue [] [] (subst (λ n. queue < n) (sym h.staged.queues) small))

wanted-stays : (r : Registers) (dir : Dir) (queue : ℕ)
    → is_wanted (switched r dir queue) dir queue ≡ is_wanted r dir queue
wanted-stays r dir queue =
    let at = place (enable_row dir) queue in
    let word = word_of r (enable_row dir) queue in
    cond_both (is_wanted r dir queue) (switched_on r dir queue) (switched_off r dir queue)
    (λ (t : Registers). is_wanted t dir queue ≡ is_wanted r dir queue)
    (λ on. is_wanted-put r at (bit_set 25 word) dir queue) (λ off. is_wanted-put r at (bit_cleared 25 word) dir queue)

module _ (s : State) (h : IsSound s) (dir : Dir) (queue : ℕ) (small : queue < 128) (t : IsToSwitch s dir queue) where
  abbrev old_word : ℕ
  old_word = enable_word s.registers dir queue

  abbrev new_registers : Registers
  new_registers = switched s.registers dir queue

  abbrev wanted : Bool
  wanted = is_wanted s.registers dir queue

  -- The side becomes enabled.

  was-off : wanted ≡ true → bit 25 old_word ≡ 0
  was-off on = bit-not-one old_word (λ one. t.differs (one ∙ ap (λ b. cond b 1 0) (sym on)))

  word-on : wanted ≡ true → enable_word new_registers dir queue ≡ old_word + 2 ^ 25
  word-on on =
      ap (λ r. enable_word r dir queue)
      (cond-true wanted (switched_on s.registers dir queue) (switched_off s.registers dir queue) on)
      ∙ on-word s dir queue h.registers.shape small (was-off on)

  becomes-on : wanted ≡ true → BecomesAsWanted s dir queue (record s { registers = new_registers })
  becomes-on on = record {
    as_wanted = ap (bit 25) (word-on on) ∙ bit-up old_word (was-off on) ∙ ap (λ b. cond b 1 0) (sym on);
    word = subst (λ b. WordAfter b old_word (enable_word new_registers dir queue)) (sym on) (word-on on);
    wanted = wanted-stays s.registers dir queue;
    frames =
        subst (λ b. FramesAfter b dir queue s (record s { registers = new_registers })) (sym on) (refl, refl);
  }

  -- The side becomes disabled.

  was-on : wanted ≡ false → bit 25 old_word ≡ 1
  was-on off = bit-not-zero old_word (λ zero. t.differs (zero ∙ ap (λ b. cond b 1 0) (sym off)))

  word-off : wanted ≡ false → enable_word new_registers dir queue ≡ old_word - 2 ^ 25
  word-off off =
      ap (λ r. enable_word r dir queue)
      (cond-false wanted (switched_on s.registers dir queue) (switched_off s.registers dir queue) off)
      ∙ off-word s dir queue h.registers.shape small (was-on off)

  becomes-off : wanted ≡ false
      → BecomesAsWanted s dir queue (record (emptied s dir queue) { registers = new_registers })
  becomes-off off =
      let new = record (emptied s dir queue) { registers = new_registers } in
      record {
        as_wanted = ap (bit 25) (word-off off) ∙ bit-down old_word (was-on off) ∙ ap (λ b. cond b 1 0) (sym off);
        word =
            subst (λ b. WordAfter b old_word (enable_word new_registers dir queue)) (sym off)
            (down-up old_word (was-on off) ∙ ap (λ n. n + 2 ^ 25) (sym (word-off off)));
        wanted = wanted-stays s.registers dir queue;
        frames = subst (λ b. FramesAfter b dir queue s new) (sym off) (frames-off s h dir queue small);
      }

  becomes : BecomesAsWanted s dir queue (side_switched s dir queue)
  becomes =
      cond_both wanted (record s { registers = new_registers })
      (record (emptied s dir queue) { registers = new_registers }) (BecomesAsWanted s dir queue) becomes-on becomes-off

pub as_wanted : SwitchedSideIsAsWanted
unfolding step_of
as_wanted s h dir queue done =
    let is = (reported s dir queue).done done in
    subst (λ (o : Outcome). BecomesAsWanted s dir queue o.state) (sym (done-comes s dir queue is.0 is.1))
    (becomes s h dir queue is.0 is.1)
