-- Lemmas about a side of a queue after a switch, a fault, or a write to the side's enable word.
use Rattle.std.proofs.Common.{[], ◌≡◌, ℕ, ◌<◌, Bool, true, false, cond, refl, ap, sym, ◌∙◌, subst}
use Rattle.std.proofs.lemmas.List.{get_or-set_same, set-get_or}
use Rattle.register_file.specs.RegTable.declared.rows.RowId.TheVariants.{Rxdctl, Txdctl}
use Rattle.register_file.specs.Queue.{is_on, enable_row, switched, shut}
use Rattle.register_laws.specs.Prelude.{Dir, Place, Registers, RowId, Rx, Tx, bit_cleared, bit_set, has_bit, is_wanted}
use Rattle.register_laws.specs.Prelude.{number_of, place, put, row_words, with_wanted, with_word, word_at, word_of}
use Rattle.register_laws.proofs.Prelude.{cond-false, cond-true, set}
use Rattle.register_laws.specs.Laws.{HasShape, after_write, word_after}
use Rattle.register_laws.specs.Sides.{ReceiveQueue, TransmitQueue, receive_queue_of, transmit_queue_of}
use Rattle.register_laws.proofs.Bits.{has_bit-switch, has_bit-cleared, has_bit-enable}
use Rattle.register_laws.proofs.SideWords.{receive-with_word, transmit-with_word}

if_with_word : (b : Bool) (r : Registers) (row : RowId) (queue v w : ℕ)
    → cond b (with_word r row queue v) (with_word r row queue w) ≡ with_word r row queue (cond b v w)
if_with_word true r row queue v w = refl
if_with_word false r row queue v w = refl

module _ (r : Registers) (h : HasShape r) (queue : ℕ) (b : queue < 128) where
  pub receive-switched : receive_queue_of (switched r Rx queue) queue
      ≡ record (receive_queue_of r queue) { on = (receive_queue_of r queue).wanted }
  receive-switched =
      let word = word_of r Rxdctl queue in
      let wanted = is_wanted r Rx queue in
      ap (λ (s : Registers). receive_queue_of s queue)
      (if_with_word wanted r Rxdctl queue (bit_set 25 word) (bit_cleared 25 word))
      ∙ receive-with_word r h Rxdctl queue (cond wanted (bit_set 25 word) (bit_cleared 25 word)) b
      ∙ (λ k. record (receive_queue_of r queue) { on = has_bit-switch wanted word k })

  pub transmit-switched : transmit_queue_of (switched r Tx queue) queue
      ≡ record (transmit_queue_of r queue) { on = (transmit_queue_of r queue).wanted }
  transmit-switched =
      let word = word_of r Txdctl queue in
      let wanted = is_wanted r Tx queue in
      ap (λ (s : Registers). transmit_queue_of s queue)
      (if_with_word wanted r Txdctl queue (bit_set 25 word) (bit_cleared 25 word))
      ∙ transmit-with_word r h Txdctl queue (cond wanted (bit_set 25 word) (bit_cleared 25 word)) b
      ∙ (λ k. record (transmit_queue_of r queue) { on = has_bit-switch wanted word k })

  -- A side after a request, with its enable word.
  receive-asked_with : (word : ℕ) (wanted : Bool)
      → receive_queue_of (with_wanted (with_word r Rxdctl queue word) Rx queue wanted) queue
      ≡ record (receive_queue_of r queue) { on = has_bit 25 word; wanted = wanted }
  receive-asked_with word wanted =
      let there = get_or-set_same r.wanted_rx queue wanted false (subst (λ n. queue < n) (sym h.wanted_rx) b) in
      (λ k. record (receive_queue_of (with_word r Rxdctl queue word) queue) { wanted = there k })
      ∙ ap (λ (x : ReceiveQueue). record x { wanted = wanted }) (receive-with_word r h Rxdctl queue word b)

  transmit-asked_with : (word : ℕ) (wanted : Bool)
      → transmit_queue_of (with_wanted (with_word r Txdctl queue word) Tx queue wanted) queue
      ≡ record (transmit_queue_of r queue) { on = has_bit 25 word; wanted = wanted }
  transmit-asked_with word wanted =
      let there = get_or-set_same r.wanted_tx queue wanted false (subst (λ n. queue < n) (sym h.wanted_tx) b) in
      (λ k. record (transmit_queue_of (with_word r Txdctl queue word) queue) { wanted = there k })
      ∙ ap (λ (x : TransmitQueue). record x { wanted = wanted }) (transmit-with_word r h Txdctl queue word b)

  pub receive-shut : receive_queue_of (shut r Rx queue) queue
      ≡ record (receive_queue_of r queue) { on = false; wanted = false }
  receive-shut =
      receive-asked_with (bit_cleared 25 (word_of r Rxdctl queue)) false
      ∙ (λ k. record (receive_queue_of r queue) { on = has_bit-cleared (word_of r Rxdctl queue) k; wanted = false })

  pub transmit-shut : transmit_queue_of (shut r Tx queue) queue
      ≡ record (transmit_queue_of r queue) { on = false; wanted = false }
  transmit-shut =
      transmit-asked_with (bit_cleared 25 (word_of r Txdctl queue)) false
      ∙ (λ k. record (transmit_queue_of r queue) { on = has_bit-cleared (word_of r Txdctl queue) k; wanted = false })

  -- A write to an enable word only requests a state of its side.
  pub receive-asked : (view word : ℕ) → receive_queue_of (after_write r (place Rxdctl queue) view word) queue
      ≡ record (receive_queue_of r queue) { wanted = has_bit 25 word }
  receive-asked view word =
      let on = has_bit-enable view (word_of r Rxdctl queue) word in
      receive-asked_with (word_after r (place Rxdctl queue) view word) (has_bit 25 word)
      ∙ (λ k. record (receive_queue_of r queue) { on = on k; wanted = has_bit 25 word })

  pub transmit-asked : (view word : ℕ) → transmit_queue_of (after_write r (place Txdctl queue) view word) queue
      ≡ record (transmit_queue_of r queue) { wanted = has_bit 25 word }
  transmit-asked view word =
      let on = has_bit-enable view (word_of r Txdctl queue) word in
      transmit-asked_with (word_after r (place Txdctl queue) view word) (has_bit 25 word)
      ∙ (λ k. record (transmit_queue_of r queue) { on = on k; wanted = has_bit 25 word })

-- A switch that leaves the enable word unchanged changes nothing.
put-itself : (r : Registers) (p : Place) → put r.words p (word_at r.words p) ≡ r.words
put-itself r p =
    ap (λ row. set r.words (number_of p.row) row) (set-get_or (row_words r.words p.row) p.index 0)
    ∙ set-get_or r.words (number_of p.row) []

switch_word : (wanted : Bool) (word : ℕ) → has_bit 25 word ≡ wanted
    → cond wanted (bit_set 25 word) (bit_cleared 25 word) ≡ word
switch_word true word e = cond-true (has_bit 25 word) word _ e
switch_word false word e = cond-false (has_bit 25 word) _ word e

pub switched-stays : (r : Registers) (dir : Dir) (queue : ℕ) → is_on r dir queue ≡ is_wanted r dir queue
    → switched r dir queue ≡ r
switched-stays r dir queue e =
    let p : Place = place (enable_row dir) queue in
    let word : ℕ = word_at r.words p in
    if_with_word (is_wanted r dir queue) r (enable_row dir) queue (bit_set 25 word) (bit_cleared 25 word)
    ∙ ap (with_word r (enable_row dir) queue) (switch_word (is_wanted r dir queue) word e)
    ∙ ap (λ ws. record r { words = ws }) (put-itself r p)
