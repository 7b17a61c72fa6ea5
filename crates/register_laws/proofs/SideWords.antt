-- Lemmas about a side of a queue after another word for one of its rows, or another request, was stored.
use Rattle.std.proofs.Common.{◌≡◌, ℕ, ◌<◌, Bool, cond, ap, sym, ◌∙◌, inl, inr, ◌==◌}
use Rattle.std.proofs.Math.Nat.{mod-eq_of_lt}
use Rattle.register_file.specs.RegTable.declared.bank.Bank.TheVariants as bank
use Rattle.register_file.specs.RegTable.declared.rows.RowId.TheVariants.{Rdh, Tdh}
use Rattle.register_file.specs.Access.{written, stored, is_running}
use Rattle.register_laws.specs.Prelude.{Dir, Place, Registers, RowId, Rx, Tx, is_on, is_wanted, number_of, owner_in}
use Rattle.register_laws.specs.Prelude.{place, ring_of, row_of, with_head, with_word, word_of}
use Rattle.register_laws.proofs.Prelude.{cases_Bool, cond-false, cond-true, eqb-false, eqb-true, same_number}
use Rattle.register_laws.specs.Laws.{HasShape, after_write, word_after, IsOpen}
use Rattle.register_laws.specs.Sides.{receive_queue_of, transmit_queue_of, with_row, receive_queue_by, transmit_queue_by}
use Rattle.register_laws.proofs.Puts.{word_at-put_other}
use Rattle.register_laws.proofs.Shape.{put_stands}

-- The words of a queue, with another word for one row.
with_word-rows : (r : Registers) → HasShape r → (row : RowId) (queue v : ℕ) → queue < (row_of row).count → (own : RowId)
    → word_of (with_word r row queue v) own queue ≡ with_row (λ x. word_of r x queue) row v own
with_word-rows r h row queue v b own =
    let kept : ℕ = word_of r own queue in
    let test : Bool = number_of own == number_of row in
    elim (cases_Bool test) as (λ _. word_of (with_word r row queue v) own queue ≡ cond test v kept) [
      | inl t ↦ ap (λ x. word_of (with_word r row queue v) x queue) (same_number own row (eqb-true _ _ t))
          ∙ put_stands r (place row queue) v h b ∙ sym (cond-true test v kept t)
      | inr f ↦ word_at-put_other r.words (place row queue) (place own queue) v
          (λ e. eqb-false _ _ f (ap (λ (q : Place). number_of q.row) e)) ∙ sym (cond-false test v kept f)
    ]

pub receive-with_word : (r : Registers) → HasShape r → (row : RowId) (queue v : ℕ) → queue < (row_of row).count
    → receive_queue_of (with_word r row queue v) queue
    ≡ receive_queue_by (with_row (λ x. word_of r x queue) row v) (is_wanted r Rx queue)
receive-with_word r h row queue v b =
    λ k. receive_queue_by (λ own. with_word-rows r h row queue v b own k) (is_wanted r Rx queue)

pub transmit-with_word : (r : Registers) → HasShape r → (row : RowId) (queue v : ℕ) → queue < (row_of row).count
    → transmit_queue_of (with_word r row queue v) queue
    ≡ transmit_queue_by (with_row (λ x. word_of r x queue) row v) (is_wanted r Tx queue)
transmit-with_word r h row queue v b =
    λ k. transmit_queue_by (λ own. with_word-rows r h row queue v b own k) (is_wanted r Tx queue)

-- A row of a side that accepts a write.
written-open : (r : Registers) (dir : Dir) (row : RowId) (queue view word : ℕ)
    → is_running r (owner_in (row_of row).bank queue) ≡ is_on r dir queue
    → IsOpen r dir queue row → after_write r (place row queue) view word ≡ stored r (place row queue) view word
written-open r dir row queue view word same (inl plain) = ap (λ k. written k r (place row queue) view word) plain
written-open r dir row queue view word same (inr takes) =
    ap (λ k. written k r (place row queue) view word) takes.0
    ∙ cond-false (is_running r (owner_in (row_of row).bank queue)) r (stored r (place row queue) view word)
    (same ∙ takes.1)

pub receive-written : (r : Registers) → HasShape r → (row : RowId) (queue : ℕ) → (row_of row).bank ≡ bank.Receive
    → queue < (row_of row).count → IsOpen r Rx queue row → (view word : ℕ)
    → receive_queue_of (after_write r (place row queue) view word) queue
    ≡ receive_queue_by (with_row (λ x. word_of r x queue) row (word_after r (place row queue) view word))
    (is_wanted r Rx queue)
receive-written r h row queue own b takes view word =
    ap (λ (s : Registers). receive_queue_of s queue)
    (written-open r Rx row queue view word (ap (λ x. is_running r (owner_in x queue)) own) takes)
    ∙ receive-with_word r h row queue (word_after r (place row queue) view word) b

pub transmit-written : (r : Registers) → HasShape r → (row : RowId) (queue : ℕ) → (row_of row).bank ≡ bank.Transmit
    → queue < (row_of row).count → IsOpen r Tx queue row → (view word : ℕ)
    → transmit_queue_of (after_write r (place row queue) view word) queue
    ≡ transmit_queue_by (with_row (λ x. word_of r x queue) row (word_after r (place row queue) view word))
    (is_wanted r Tx queue)
transmit-written r h row queue own b takes view word =
    ap (λ (s : Registers). transmit_queue_of s queue)
    (written-open r Tx row queue view word (ap (λ x. is_running r (owner_in x queue)) own) takes)
    ∙ transmit-with_word r h row queue (word_after r (place row queue) view word) b

module _ (r : Registers) (h : HasShape r) (queue : ℕ) (b : queue < 128) where
  pub receive-with_head : (head : ℕ) → head < 65536 → receive_queue_of (with_head r Rx queue head) queue
      ≡ record (receive_queue_of r queue) { ring = record (ring_of r Rx queue) { head = head } }
  receive-with_head head small =
      receive-with_word r h Rdh queue head b
      ∙ (λ k. record (receive_queue_of r queue) { ring = record (ring_of r Rx queue) { head = mod-eq_of_lt small k } })

  pub transmit-with_head : (head : ℕ) → head < 65536 → transmit_queue_of (with_head r Tx queue head) queue
      ≡ record (transmit_queue_of r queue) { ring = record (ring_of r Tx queue) { head = head } }
  transmit-with_head head small =
      transmit-with_word r h Tdh queue head b
      ∙ (λ k. record (transmit_queue_of r queue) { ring = record (ring_of r Tx queue) { head = mod-eq_of_lt small k } })
