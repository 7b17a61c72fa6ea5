-- Lemmas about the number of queues in a pool, and about the offsets at which a function finds its queues' registers.
use Rattle.std.proofs.Common.{◌≡◌, ◌≢◌, ℕ, ◌+◌, ◌-◌, ◌*◌, ◌/◌, ◌%◌, ◌<◌, ◌≤◌, true, nat_lt, List, Option, Some, None, refl, ap, sym, ◌∙◌, subst, inl, inr, arith}
use Rattle.std.proofs.lemmas.Bool.{cases_Bool, cond-true, cond-false, ne_eqb, lt-ltb}
use Rattle.reg_table.specs.Rows.{rows}
use Rattle.reg_table.specs.declared.place.Place.{Place}
use Rattle.reg_table.specs.declared.rows.RowId.{RowId}
use Rattle.reg_table.specs.declared.rows.RowId.TheVariants.{Rdbal, Rdbah, Rdlen, Rdh, Srrctl, Rdt, Rxdctl, Tdbal, Tdbah, Tdlen, Tdh, Tdt, Txdctl, Tdwbal, Tdwbah, Pvtivar}
use Rattle.vf_map.specs.declared.mode.Mode.{Mode}
use Rattle.vf_map.specs.declared.mode.Mode.TheVariants.{Off, Pools16, Pools32, Pools64}
use Rattle.vf_map.specs.declared.located.Located.TheVariants.{Register}
use Rattle.vf_map.specs.Pools.{pools_in, queues_each, most_queues, queues_of, pool_of}
use Rattle.vf_map.specs.Owner.{is_receive, is_transmit}
use Rattle.vf_map.specs.Map.{distance, own_entries, message_entries, function_entries, receive_rows, transmit_rows, located}
use Rattle.vf_map.specs.Parts.{place_at, of_queue, queues_entries, row_after}
use Rattle.vf_map.proofs.LocatedAt.{located_at}
use Rattle.vf_map.specs.Laws.{EachQueueHasOnePool, QueueRegistersAreThere}
use Rattle.vf_map.proofs.Chains.{in_second}
use Rattle.vf_map.proofs.Inverse.{Some-one, inverse, pool_within}
use Rattle.vf_map.proofs.Numbers.{few_each}
use Rattle.vf_map.proofs.Places.{message_absent, vector_there, vector_absent, receive_at, transmit_at}
use Rattle.vf_map.proofs.Whole.{entries_vector, entries_queues, located_some}

-- ---- the number of queues

pub few_queues : (mode : Mode) (v first count : ℕ) → queues_of mode v ≡ Some (first, count) → count ≤ most_queues
few_queues mode v first count e =
    let each = queues_each mode in
    elim (cases_Bool (nat_lt v (pools_in mode))) [
      | inl t ↦
          let same : (v * each, each) ≡ (first, count) =
          Some-one (sym (cond-true (nat_lt v (pools_in mode)) (Some (v * each, each)) None t) ∙ e) in
          subst (λ n. n ≤ most_queues) (ap (λ (p : ℕ × ℕ). p.1) same) (few_each mode)
      | inr f ↦
          let none : ◌≡◌ {A = Option (ℕ × ℕ)} None (Some (first, count)) =
          sym (cond-false (nat_lt v (pools_in mode)) (Some (v * each, each)) None f) ∙ e in cc
    ]

-- ---- one pool for each queue

all_parted : (mode : Mode) (queue : ℕ) → mode ≢ Off → queue < 128 → queue < pools_in mode * queues_each mode
all_parted Off queue other small = absurd (other refl)
all_parted Pools16 queue other small = omega arith
all_parted Pools32 queue other small = omega arith
all_parted Pools64 queue other small = omega arith

pub each_queue : EachQueueHasOnePool
each_queue mode queue other small =
    let v : ℕ = queue / queues_each mode in
    let all : ℕ = pools_in mode * queues_each mode in
    let own : pool_of mode queue ≡ Some v =
    cond-true (nat_lt queue all) (Some v) None (lt-ltb queue all (all_parted mode queue other small)) in (
      v,
      (pool_within mode v queue own).pool,
      (inverse mode v queue).0 own,
      λ w there. Some-one (sym ((inverse mode w queue).1 there) ∙ own),
    )

-- ---- the registers of queues

-- A row of a side is at distance `b`, in bytes, from the side's first row.
record StandsAt (first row : RowId) (rows : List RowId) (b : ℕ) : Type 0 where
  same : distance first row ≡ b
  near : b < 0x40
  own : b ≢ 0x1C
  is : row_after first rows b ≡ Some row

abbrev Stands : RowId → RowId → List RowId → Type 0
Stands first row rows = (b : ℕ) × StandsAt first row rows b

receive_stands : (row : RowId) → is_receive row ≡ true → Stands Rdbal row receive_rows
unfolding rows
receive_stands Rdbal e = (0x00, record { same = refl; near = omega arith; own = omega arith; is = refl })
receive_stands Rdbah e = (0x04, record { same = refl; near = omega arith; own = omega arith; is = refl })
receive_stands Rdlen e = (0x08, record { same = refl; near = omega arith; own = omega arith; is = refl })
receive_stands Rdh e = (0x10, record { same = refl; near = omega arith; own = omega arith; is = refl })
receive_stands Srrctl e = (0x14, record { same = refl; near = omega arith; own = omega arith; is = refl })
receive_stands Rdt e = (0x18, record { same = refl; near = omega arith; own = omega arith; is = refl })
receive_stands Rxdctl e = (0x28, record { same = refl; near = omega arith; own = omega arith; is = refl })
receive_stands other e = cc

transmit_stands : (row : RowId) → is_transmit row ≡ true → Stands Tdbal row transmit_rows
unfolding rows
transmit_stands Tdbal e = (0x00, record { same = refl; near = omega arith; own = omega arith; is = refl })
transmit_stands Tdbah e = (0x04, record { same = refl; near = omega arith; own = omega arith; is = refl })
transmit_stands Tdlen e = (0x08, record { same = refl; near = omega arith; own = omega arith; is = refl })
transmit_stands Tdh e = (0x10, record { same = refl; near = omega arith; own = omega arith; is = refl })
transmit_stands Tdt e = (0x18, record { same = refl; near = omega arith; own = omega arith; is = refl })
transmit_stands Txdctl e = (0x28, record { same = refl; near = omega arith; own = omega arith; is = refl })
transmit_stands Tdwbal e = (0x38, record { same = refl; near = omega arith; own = omega arith; is = refl })
transmit_stands Tdwbah e = (0x3C, record { same = refl; near = omega arith; own = omega arith; is = refl })
transmit_stands other e = cc

-- If an offset is after the interrupt registers and isn't the offset of a single register, searching the single
-- registers finds nothing.
own_absent : (v o : ℕ) → 0x120 ≤ o → o ≢ 0x140 → o ≢ 0x2FC → o ≢ 0x300 → o ≢ 0x101C → o ≢ 0x201C
    → place_at (own_entries v) o ≡ None
own_absent v o past a b c d e =
    rw (
      ne_eqb 0x0000 o (omega arith),
      ne_eqb 0x0008 o (omega arith),
      ne_eqb 0x0010 o (omega arith),
      ne_eqb 0x0100 o (omega arith),
      ne_eqb 0x0104 o (omega arith),
      ne_eqb 0x0108 o (omega arith),
      ne_eqb 0x010C o (omega arith),
      ne_eqb 0x0110 o (omega arith),
      ne_eqb 0x0114 o (omega arith),
      ne_eqb 0x0140 o (omega arith),
      ne_eqb 0x02FC o (omega arith),
      ne_eqb 0x0300 o (omega arith),
      ne_eqb 0x101C o (omega arith),
      ne_eqb 0x201C o (omega arith),
    ) refl

-- The next lemmas are for offsets that aren't in mailbox memory either: those of queues' registers and of vector
-- registers.
function_absent : (v o : ℕ) → 0x1000 ≤ o → o % 0x40 ≢ 0x1C → place_at (function_entries v) o ≡ None
function_absent v o high other =
    in_second (own_entries v) (message_entries v) o
    (own_absent v o (omega arith) (omega arith) (omega arith) (omega arith) (omega arith) (omega arith))
    ∙ message_absent v o (λ w few is. omega arith)

function_no_vector : (v w : ℕ) → w < 4 → place_at (function_entries v) (0x120 + 4 * w) ≡ None
function_no_vector v w small =
    in_second (own_entries v) (message_entries v) (0x120 + 4 * w)
    (own_absent v (0x120 + 4 * w) (omega arith) (omega arith) (omega arith) (omega arith) (omega arith) (omega arith))
    ∙ message_absent v (0x120 + 4 * w) (λ x few is. omega arith)

module _ (mode : Mode) (vfs v first count x : ℕ) (there : v < vfs) (pool : queues_of mode v ≡ Some (first, count)) where
  few : count ≤ most_queues
  few = few_queues mode v first count pool

  at : (o : ℕ) (p : Place) → 0x1000 ≤ o → o % 0x40 ≢ 0x1C → place_at (queues_entries first count) o ≡ Some p
      → located mode vfs v o ≡ Register p
  at o p high other is =
      located_some mode vfs v o first count there pool
      ∙ ap located_at
      (entries_queues v first count o (function_absent v o high other)
      (vector_absent first count o (λ w less. let small = few in omega (arith, small)))
      ∙ is)

  receive_row : (row : RowId) (b : ℕ) → x < count → b < 0x40 → b ≢ 0x1C → row_after Rdbal receive_rows b ≡ Some row
      → located mode vfs v (0x1000 + 0x40 * x + b) ≡ Register (record { row = row; index = first + x })
  receive_row row b low near other is =
      let small = few in
      let o = 0x1000 + 0x40 * x + b in
      let here : o % 0x40 ≡ b = omega arith in
      at o (record { row = row; index = first + x }) (omega arith) (omega arith)
      (receive_at first count o (first + x) small (omega (arith, small, low)) (omega (arith, small, low))
      (ap (λ n. first + n) (omega (arith, small, low)))
      ∙ ap (λ n. of_queue (row_after Rdbal receive_rows n) (first + x)) here ∙ ap (λ r. of_queue r (first + x)) is)

  transmit_row : (row : RowId) (b : ℕ) → x < count → b < 0x40 → b ≢ 0x1C → row_after Tdbal transmit_rows b ≡ Some row
      → located mode vfs v (0x2000 + 0x40 * x + b) ≡ Register (record { row = row; index = first + x })
  transmit_row row b low near other is =
      let small = few in
      let o = 0x2000 + 0x40 * x + b in
      let here : o % 0x40 ≡ b = omega arith in
      at o (record { row = row; index = first + x }) (omega arith) (omega arith)
      (transmit_at first count o (first + x) small (omega (arith, small, low)) (omega (arith, small, low))
      (ap (λ n. first + n) (omega (arith, small, low)))
      ∙ ap (λ n. of_queue (row_after Tdbal transmit_rows n) (first + x)) here ∙ ap (λ r. of_queue r (first + x)) is)

  vector_word : x < count / 2
      → located mode vfs v (0x120 + 4 * x) ≡ Register (record { row = Pvtivar; index = first / 2 + x })
  vector_word low =
      let small = few in
      let o = 0x120 + 4 * x in
      let here : (o - 0x120) / 4 ≡ x = omega arith in
      located_some mode vfs v o first count there pool
      ∙ ap located_at
      (entries_vector v first count o _ (function_no_vector v x (omega (arith, small, low)))
      (vector_there first count o (omega arith) (omega arith) (omega (arith, low))))
      ∙ ap (λ n. Register (record { row = Pvtivar; index = first / 2 + n })) here

pub queue_registers : QueueRegistersAreThere
queue_registers = record {
  receive = λ mode vfs v first count x row there pool low side.
      let at = receive_stands row side in
      ap (λ b. located mode vfs v (0x1000 + 0x40 * x + b)) at.1.same
      ∙ receive_row mode vfs v first count x there pool row at.0 low at.1.near at.1.own at.1.is;
  transmit = λ mode vfs v first count x row there pool low side.
      let at = transmit_stands row side in
      ap (λ b. located mode vfs v (0x2000 + 0x40 * x + b)) at.1.same
      ∙ transmit_row mode vfs v first count x there pool row at.0 low at.1.near at.1.own at.1.is;
  vectors = λ mode vfs v first count x there pool low. vector_word mode vfs v first count x there pool low;
}
