-- If a footprint has nothing in common with a side of a queue or a group, the side or the group is unchanged.
use Rattle.std.proofs.Common.{◌≡◌, ℕ, ◌+◌, ◌*◌, ◌/◌, ◌%◌, ◌^◌, if◌then◌else◌, Option, Some, None, refl, ap, ◌∙◌}
use Rattle.register_file.specs.RegTable.declared.bank.Bank.TheVariants as bank
use Rattle.register_file.specs.RegTable.declared.rows.RowId.TheVariants.{Rdbal, Rdbah, Rdlen, Rdh, Rdt, Srrctl, Rxdctl, Tdbal, Tdbah, Tdlen, Tdh, Tdt, Tdwbal, Tdwbah, Txdctl}
use Rattle.register_file.specs.IntrUnit.Interrupts.{of_words}
use Rattle.register_file.specs.Groups.{cause_row, mask_row, auto_clear_row, auto_mask_row, index_of, interrupts_of}
use Rattle.register_file.specs.declared.owner.Owner.TheVariants as owner
use Rattle.register_laws.specs.Prelude.{Group, Pf, Place, Registers, RowId, Rx, Tx, Vf, has_bit, is_owner, is_wanted}
use Rattle.register_laws.specs.Prelude.{owner_in, owner_of, place, row_of, word_at, word_of}
use Rattle.register_laws.specs.Footprint.{Footprint, ChangesWithin, Misses, of_side, of_group}
use Rattle.register_laws.specs.Sides.{receive_queue_of, transmit_queue_of}
use Rattle.register_laws.proofs.Footprints.{word_stands}
use Rattle.register_laws.proofs.Owners.{is_group-itself, is_owner-itself}

-- A side is determined by its words and its request.
pub receive_same : (old new : Registers) (queue : ℕ)
    → ((row : RowId) → (row_of row).bank ≡ bank.Receive → word_of new row queue ≡ word_of old row queue)
    → is_wanted new Rx queue ≡ is_wanted old Rx queue → receive_queue_of new queue ≡ receive_queue_of old queue
receive_same old new queue words wanted = λ k. record {
  ring = record {
    base = words Rdbah refl k * 2 ^ 32 + words Rdbal refl k;
    length = words Rdlen refl k % 2 ^ 20;
    head = words Rdh refl k % 2 ^ 16;
    tail = words Rdt refl k % 2 ^ 16;
  };
  control = words Srrctl refl k;
  on = has_bit 25 (words Rxdctl refl k);
  wanted = wanted k;
}

writeback_from : ℕ → ℕ → Option ℕ
writeback_from high low = if has_bit 0 low then Some (high * 2 ^ 32 + 4 * (low / 4)) else None

pub transmit_same : (old new : Registers) (queue : ℕ)
    → ((row : RowId) → (row_of row).bank ≡ bank.Transmit → word_of new row queue ≡ word_of old row queue)
    → is_wanted new Tx queue ≡ is_wanted old Tx queue → transmit_queue_of new queue ≡ transmit_queue_of old queue
unfolding writeback_from
transmit_same old new queue words wanted = λ k. record {
  ring = record {
    base = words Tdbah refl k * 2 ^ 32 + words Tdbal refl k;
    length = words Tdlen refl k % 2 ^ 20;
    head = words Tdh refl k % 2 ^ 16;
    tail = words Tdt refl k % 2 ^ 16;
  };
  writeback = writeback_from (words Tdwbah refl k) (words Tdwbal refl k);
  on = has_bit 25 (words Txdctl refl k);
  wanted = wanted k;
}

pub receive_stands : (f : Footprint) (old new : Registers) (queue : ℕ) → Misses f (of_side Rx queue)
    → ChangesWithin f old new → receive_queue_of new queue ≡ receive_queue_of old queue
receive_stands f old new queue out only =
    let own = is_owner-itself (owner.Side Rx queue) in
    receive_same old new queue
    (λ row is. word_stands only (place row queue)
    (λ bit. out.bits (place row queue) bit (ap (λ b. is_owner (owner.Side Rx queue) (owner_in b queue)) is ∙ own)))
    (only.wanted Rx queue (out.wanted Rx queue own))

pub transmit_stands : (f : Footprint) (old new : Registers) (queue : ℕ) → Misses f (of_side Tx queue)
    → ChangesWithin f old new → transmit_queue_of new queue ≡ transmit_queue_of old queue
transmit_stands f old new queue out only =
    let own = is_owner-itself (owner.Side Tx queue) in
    transmit_same old new queue
    (λ row is. word_stands only (place row queue)
    (λ bit. out.bits (place row queue) bit (ap (λ b. is_owner (owner.Side Tx queue) (owner_in b queue)) is ∙ own)))
    (only.wanted Tx queue (out.wanted Tx queue own))

-- The four words of a group belong to it.
own_words : (g : Group) (P : Place → Type 0) → ((p : Place) → owner_of p ≡ owner.Group g → P p)
    → P (place (cause_row g) (index_of g)) × P (place (mask_row g) (index_of g))
    × P (place (auto_clear_row g) (index_of g)) × P (place (auto_mask_row g) (index_of g))
own_words Pf P all = (all _ refl, all _ refl, all _ refl, all _ refl)
own_words (Vf v) P all = (all _ refl, all _ refl, all _ refl, all _ refl)

pub group_stands : (f : Footprint) (old new : Registers) (g : Group) → Misses f (of_group g)
    → ChangesWithin f old new → interrupts_of new g ≡ interrupts_of old g
group_stands f old new g out only =
    let same = own_words g (λ p. word_at new.words p ≡ word_at old.words p)
    (λ p is. word_stands only p (λ bit. out.bits p bit (ap (is_owner (owner.Group g)) is ∙ is_group-itself g))) in
    let reported = only.reported g (out.reported g (is_group-itself g)) in
    λ k. of_words g (same.0 k) (same.1 k) (same.2 k) (same.3 k) (reported k)
