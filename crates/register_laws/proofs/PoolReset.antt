-- The reset of a pool resets everything that belongs to the pool.
use Rattle.std.proofs.Common.{◌≡◌, ℕ, ◌*◌, ◌/◌, Bool, true, false, cond, ◌==◌, nat_lt, ◌&&◌, ◌||◌, not, Option, Some, None, refl, ap, sym, ◌∙◌, subst, inl, inr}
use Rattle.std.proofs.lemmas.Bool.{ltb-true, eqb-true, or_cases, or_left}
use Rattle.std.proofs.Math.Bool.{or-false}
use Rattle.register_file.specs.RegTable.declared.bank.Bank.TheVariants as bank
use Rattle.register_file.specs.RegTable.declared.rows.RowId.TheVariants as row
use Rattle.register_file.specs.VfMap.Owner.{has_queue, is_of_pool_by, is_receive_bank, is_transmit_bank}
use Rattle.register_file.specs.VfMap.Pools.{queues_of, queues_each, pools_in}
use Rattle.register_file.proofs.VfMap.Numbers.{has_queue-none}
use Rattle.register_file.specs.PoolReset.{is_renewed, function_reset, pool_reset}
use Rattle.register_file.specs.declared.owner.Owner.TheVariants as owner
use Rattle.register_laws.specs.Prelude.{Bank, Dir, Group, Mode, Place, Registers, RowId, Rx, Tx, Vf, has_bit, is_group}
use Rattle.register_laws.specs.Prelude.{is_owner, owner_in, range_with_len, row_of}
use Rattle.register_laws.specs.Footprint.{Footprint, ChangesWithin, either, pool_has, pool_renews}
use Rattle.register_laws.specs.PoolReset.{PoolResetTakesTheRest, is_left}
use Rattle.register_laws.proofs.Covers.{covers-renewed}
use Rattle.register_laws.proofs.Footprints.{within-wider}
use Rattle.register_laws.proofs.PoolParts.{has_own, of_function, of_queue, of_vectors, of_queues, renewed-function, renewed-queues}
use Rattle.register_laws.proofs.Renewed.{IsRenewed, IsSame, any_of, taken-either, taken-same}
use Rattle.register_laws.proofs.PoolQueues.{turned, among, queues-among, words-among, any-among}
use Rattle.register_laws.proofs.PoolTests.{and-true, and-false, both_ways_round, first_alone, second_alone, own_alone}

-- What a pool reset resets, starting from the queues that the mode assigns to the pool.
abbrev whole : ℕ → Option (ℕ × ℕ) → Footprint
whole v o = either (of_function v) (of_queues o)

-- The owner of a register in a bank.
abbrev is_side : Bank → Bool
is_side b = is_receive_bank b || is_transmit_bank b

abbrev is_vectors : Bank → Bool
is_vectors bank.Vectors = true
is_vectors other = false

queue_has : (b : Bank) (q i : ℕ)
    → (is_owner (owner.Side Rx q) (owner_in b i) || is_owner (owner.Side Tx q) (owner_in b i))
    ≡ ((q == i) && is_side b)
queue_has bank.Receive q i = both_ways_round (q == i)
queue_has bank.Transmit q i = sym (and-true (q == i))
queue_has other q i = sym (and-false (q == i))

vectors_has : (b : Bank) (n i : ℕ) → is_owner (owner.Vectors n) (owner_in b i) ≡ ((n == i) && is_vectors b)
vectors_has bank.Vectors n i = sym (and-true (n == i))
vectors_has other n i = sym (and-false (n == i))

-- The places in a bank that belong to queues, and those that belong to words of vectors.
queues_bits : (count first : ℕ) (p : Place) (bit : ℕ)
    → (any_of of_queue (range_with_len first count)).bits p bit
    ≡ (among first count p.index && is_side (row_of p.row).bank)
queues_bits count first p bit =
    any-among of_queue (λ f. f.bits p bit) p.index (is_side (row_of p.row).bank) refl (λ g h. refl)
    (λ q. queue_has (row_of p.row).bank q p.index) count first

vectors_bits : (count first : ℕ) (p : Place) (bit : ℕ)
    → (any_of of_vectors (range_with_len first count)).bits p bit
    ≡ (among first count p.index && is_vectors (row_of p.row).bank)
vectors_bits count first p bit =
    any-among of_vectors (λ f. f.bits p bit) p.index (is_vectors (row_of p.row).bank) refl (λ g h. refl)
    (λ n. vectors_has (row_of p.row).bank n p.index) count first

queue_wanted : (dir : Dir) (q number : ℕ) → (of_queue q).wanted dir number ≡ ((q == number) && true)
queue_wanted Rx q number = both_ways_round (q == number)
queue_wanted Tx q number = sym (and-true (q == number))

queues_wanted : (count first : ℕ) (dir : Dir) (number : ℕ)
    → (any_of of_queue (range_with_len first count)).wanted dir number ≡ among first count number
queues_wanted count first dir number =
    any-among of_queue (λ f. f.wanted dir number) number true refl (λ g h. refl)
    (λ q. queue_wanted dir q number) count first ∙ and-true (among first count number)

vectors_wanted : (count first : ℕ) (dir : Dir) (number : ℕ)
    → (any_of of_vectors (range_with_len first count)).wanted dir number ≡ false
vectors_wanted count first dir number =
    any-among of_vectors (λ f. f.wanted dir number) number false refl (λ g h. refl)
    (λ n. sym (and-false (n == number))) count first ∙ and-false (among first count number)

reported_none : (f : ℕ → Footprint) (g : Group) → ((n : ℕ) → (f n).reported g ≡ false) → (count first : ℕ)
    → (any_of f (range_with_len first count)).reported g ≡ false
reported_none f g none count first =
    any-among f (λ e. e.reported g) 0 false refl (λ a b. refl) (λ n. none n ∙ sym (and-false (n == 0))) count first
    ∙ and-false (among first count 0)

-- All of these places belong to the pool.
by_bank : (b : Bank) (mode : Mode) (v i : ℕ)
    → (has_own b v i || ((has_queue mode v i && is_side b) || (has_queue mode v (2 * i) && is_vectors b)))
    ≡ is_of_pool_by b mode v i
by_bank bank.Receive mode v i = first_alone (has_queue mode v i) (has_queue mode v (2 * i))
by_bank bank.Transmit mode v i = first_alone (has_queue mode v i) (has_queue mode v (2 * i))
by_bank bank.VfInterrupts mode v i = own_alone (v == i) (has_queue mode v i) (has_queue mode v (2 * i)) ∙ turned v i
by_bank bank.Pool mode v i = own_alone (v == i) (has_queue mode v i) (has_queue mode v (2 * i)) ∙ turned v i
by_bank bank.VfCounters mode v i = own_alone (v == i) (has_queue mode v i) (has_queue mode v (2 * i)) ∙ turned v i
by_bank bank.Vectors mode v i = second_alone (has_queue mode v i) (has_queue mode v (2 * i))
by_bank bank.Messages mode v i =
    own_alone (v == i / 16) (has_queue mode v i) (has_queue mode v (2 * i)) ∙ turned v (i / 16)
by_bank other mode v i = own_alone false (has_queue mode v i) (has_queue mode v (2 * i))

with_none : (b : Bank) (mode : Mode) (v i : ℕ) → ((queue : ℕ) → has_queue mode v queue ≡ false)
    → (has_own b v i || false) ≡ is_of_pool_by b mode v i
with_none b mode v i none =
    ap (λ q. has_own b v i || (q && is_side b || false)) (sym (none i))
    ∙ ap (λ q. has_own b v i || ((has_queue mode v i && is_side b) || (q && is_vectors b))) (sym (none (2 * i)))
    ∙ by_bank b mode v i

same_none : (mode : Mode) (v : ℕ) → ((queue : ℕ) → has_queue mode v queue ≡ false)
    → IsSame (whole v None) (pool_has mode v)
same_none mode v none = record {
  bits = λ p bit. with_none (row_of p.row).bank mode v p.index none;
  wanted = λ dir queue. sym (none queue);
  reported = λ g. or-false (is_group (Vf v) g);
}

same_some : (mode : Mode) (v : ℕ) → nat_lt v (pools_in mode) ≡ true
    → IsSame (whole v (Some (v * queues_each mode, queues_each mode))) (pool_has mode v)
same_some mode v e =
    let small = ltb-true v (pools_in mode) e in
    let each = queues_each mode in
    record {
      bits = λ p bit.
          let b = (row_of p.row).bank in
          let own = has_own b v p.index in
          ap (λ x. own || (x || (any_of of_vectors (range_with_len (v * each / 2) (each / 2))).bits p bit))
          (queues_bits each (v * each) p bit ∙ ap (λ x. x && is_side b) (queues-among mode v p.index small))
          ∙ ap (λ x. own || ((has_queue mode v p.index && is_side b) || x))
          (vectors_bits (each / 2) (v * each / 2) p bit
          ∙ ap (λ x. x && is_vectors b) (words-among mode v p.index small))
          ∙ by_bank b mode v p.index;
      wanted = λ dir queue.
          ap (λ x. x || (any_of of_vectors (range_with_len (v * each / 2) (each / 2))).wanted dir queue)
          (queues_wanted each (v * each) dir queue ∙ queues-among mode v queue small)
          ∙ ap (λ x. has_queue mode v queue || x) (vectors_wanted (each / 2) (v * each / 2) dir queue)
          ∙ or-false (has_queue mode v queue);
      reported = λ g.
          ap (λ x. is_group (Vf v) g || (x
          || (any_of of_vectors (range_with_len (v * each / 2) (each / 2))).reported g))
          (reported_none of_queue g (λ n. refl) each (v * each))
          ∙ ap (λ x. is_group (Vf v) g || x) (reported_none of_vectors g (λ n. refl) (each / 2) (v * each / 2))
          ∙ or-false (is_group (Vf v) g);
    }

same_if : (mode : Mode) (v : ℕ) (b : Bool) → nat_lt v (pools_in mode) ≡ b
    → IsSame (whole v (cond b (Some (v * queues_each mode, queues_each mode)) None)) (pool_has mode v)
same_if mode v true e = same_some mode v e
same_if mode v false e = same_none mode v (λ queue. has_queue-none mode v queue e)

pub renewed-pool : (r : Registers) (mode : Mode) (v : ℕ) → IsRenewed (pool_renews mode v) r (pool_reset mode v r)
unfolding pool_reset
renewed-pool r mode v =
    let o : Option (ℕ × ℕ) = queues_of mode v in
    let reset : Registers = function_reset r v in
    taken-same (whole v o) (pool_has mode v) r (pool_reset mode v r)
    (same_if mode v (nat_lt v (pools_in mode)) refl)
    (taken-either (of_function v) (of_queues o) r reset (pool_reset mode v r) (renewed-function r v)
    (renewed-queues reset o))

-- Everything that the reset changes belongs to the pool.
pub within-pool_reset : (r : Registers) (mode : Mode) (v : ℕ) → ChangesWithin (pool_has mode v) r (pool_reset mode v r)
within-pool_reset r mode v =
    within-wider (pool_has mode v) (pool_renews mode v) r (pool_reset mode v r)
    (covers-renewed (pool_has mode v)) (renewed-pool r mode v).alone

-- The pool reset covers all of the pool's words, except the part of the mailbox that it leaves unchanged.
abbrev is_pooled : Bank → Bool
is_pooled bank.Device = false
is_pooled bank.Counters = false
is_pooled bank.Interrupts = false
is_pooled other = true

of_a_pool : (b : Bank) (mode : Mode) (v i : ℕ) → is_of_pool_by b mode v i ≡ true → is_pooled b ≡ true
of_a_pool bank.Device mode v i is = cc
of_a_pool bank.Counters mode v i is = cc
of_a_pool bank.Interrupts mode v i is = cc
of_a_pool other mode v i is = refl

-- The bits of a mailbox's word that the reset covers.
mail_taken : (bit : ℕ) → (bit == 2 || bit == 4 || bit == 5) ≡ true → has_bit bit 0x34 ≡ true
mail_taken bit is =
    elim (or_cases (bit == 2 || bit == 4) (bit == 5) is) as (λ _. has_bit bit 0x34 ≡ true) [
      | inr five ↦ subst (λ n. has_bit n 0x34 ≡ true) (sym (eqb-true bit 5 five)) refl
      | inl less ↦ elim (or_cases (bit == 2) (bit == 4) less) as (λ _. has_bit bit 0x34 ≡ true) [
        | inl two ↦ subst (λ n. has_bit n 0x34 ≡ true) (sym (eqb-true bit 2 two)) refl
        | inr four ↦ subst (λ n. has_bit n 0x34 ≡ true) (sym (eqb-true bit 4 four)) refl
      ]
    ]

either_way : (taken named : Bool) → (named ≡ true → taken ≡ true) → ((taken || false) || not named) ≡ true
either_way true named has = refl
either_way false true has = has refl
either_way false false has = refl

taken_or_left : (x : RowId) (bit : ℕ) → (is_renewed x bit || is_left x bit) ≡ is_pooled (row_of x).bank
taken_or_left row.Pvfmailbox bit = either_way (has_bit bit 0x34) (bit == 2 || bit == 4 || bit == 5) (mail_taken bit)
taken_or_left row.Ctrl bit = refl
taken_or_left other bit = refl

of_taken : (taken left : Bool) → (taken || left) ≡ true → ((taken && true) || left) ≡ true
of_taken true left is = refl
of_taken false left is = is

pub covers-pool : PoolResetTakesTheRest
covers-pool mode v = record {
  bits = λ p bit is.
      ap (λ own. (is_renewed p.row bit && own) || is_left p.row bit) is
      ∙ of_taken (is_renewed p.row bit) (is_left p.row bit)
      (taken_or_left p.row bit ∙ of_a_pool (row_of p.row).bank mode v p.index is);
  wanted = λ dir queue is. or_left _ false is;
  reported = λ g is. or_left _ false is;
}
