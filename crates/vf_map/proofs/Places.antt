-- Lemmas about the offsets of each part of a function's registers.
use Rattle.std.proofs.Common.{◌≡◌, ◌≢◌, ℕ, ◌+◌, ◌-◌, ◌*◌, ◌/◌, ◌%◌, ◌<◌, ◌≤◌, List, Some, None, refl, sym, ◌∙◌, arith, ap}
use Rattle.std.specs.Prelude.{nat_lt, true}
use Rattle.std.specs.List.{list_all}
use Rattle.reg_table.specs.Rows.{rows}
use Rattle.reg_table.specs.declared.rows.RowId.TheVariants.{Pvtivar, Pfmbmem, Rdbal, Tdbal}
use Rattle.vf_map.specs.Map.{Entry, message_entries, vector_entries, side_entries, distance, queue_entries, receive_rows, transmit_rows}
use Rattle.vf_map.specs.Parts.{place_at, row_after, of_queue, queues_entries}
use Rattle.vf_map.specs.Pools.{most_queues}
use Rattle.vf_map.proofs.Chains.{in_second, in_either, in_no_word, in_word, in_no_piece, in_piece, in_side, in_no_side}

-- At a vector register's offset, the search finds that register.
pub vector_there : (first count o : ℕ) → 0x120 ≤ o → o % 4 ≡ 0 → (o - 0x120) / 4 < count / 2 →
    place_at (vector_entries first count) o ≡ Some (record { row = Pvtivar; index = first / 2 + (o - 0x120) / 4 })
vector_there first count o l e h =
    in_word (λ x. 0x120 + 4 * x) (λ x. record { row = Pvtivar; index = first / 2 + x }) 0 (count / 2) o
    ((o - 0x120) / 4) (omega arith) (omega arith) (omega arith) (λ y s. omega arith)

-- If no vector register has the offset, searching the vector registers finds nothing.
pub vector_absent : (first count o : ℕ) → ((w : ℕ) → w < count / 2 → 0x120 + 4 * w ≢ o) →
    place_at (vector_entries first count) o ≡ None
vector_absent first count o free =
    in_no_word (λ x. 0x120 + 4 * x) (λ x. record { row = Pvtivar; index = first / 2 + x }) 0 (count / 2) o
    (λ w l h. free w (omega arith))

-- At the offset of a word of mailbox memory, the search finds that word. At any other offset, the search of the mailbox
-- memory finds nothing.
pub message_there : (v o : ℕ) → 0x200 ≤ o → o % 4 ≡ 0 → (o - 0x200) / 4 < 16 →
    place_at (message_entries v) o ≡ Some (record { row = Pfmbmem; index = 16 * v + (o - 0x200) / 4 })
message_there v o l e h =
    in_word (λ x. 0x200 + 4 * x) (λ x. record { row = Pfmbmem; index = 16 * v + x }) 0 16 o ((o - 0x200) / 4)
    (omega arith) (omega arith) (omega arith) (λ y s. omega arith)

pub message_absent : (v o : ℕ) → ((w : ℕ) → w < 16 → 0x200 + 4 * w ≢ o) → place_at (message_entries v) o ≡ None
message_absent v o free =
    in_no_word (λ x. 0x200 + 4 * x) (λ x. record { row = Pfmbmem; index = 16 * v + x }) 0 16 o
    (λ w l h. free w (omega arith))

-- If an offset is outside a block, it differs from each offset in the block.
no_block : (side x o r : ℕ) → x < 0x40 → (o / 0x1000 ≢ side) → r < 0x40 → 0x1000 * side + 0x40 * x + r ≢ o
no_block side x o r l s h e = s (omega arith)

other_block : (side x o r : ℕ) → x < 0x40 → x ≢ o % 0x1000 / 0x40 → r < 0x40 → 0x1000 * side + 0x40 * x + r ≢ o
other_block side x o r l s h e = s (omega arith)

block_at : (side x o : ℕ) → o / 0x1000 ≡ side → o % 0x1000 / 0x40 ≡ x → o ≡ 0x1000 * side + 0x40 * x + o % 0x40
block_at side x o s e = omega arith

-- The registers of a queue's two sides.
abbrev receive_block : (x q : ℕ) → List Entry
receive_block x q = side_entries (0x1000 + 0x40 * x) Rdbal receive_rows q

abbrev transmit_block : (x q : ℕ) → List Entry
transmit_block x q = side_entries (0x2000 + 0x40 * x) Tdbal transmit_rows q

receive_near : list_all (λ x. nat_lt (distance Rdbal x) 0x40) receive_rows ≡ true
unfolding rows
receive_near = refl

transmit_near : list_all (λ x. nat_lt (distance Tdbal x) 0x40) transmit_rows ≡ true
unfolding rows
transmit_near = refl

receive_absent : (x q o : ℕ) → ((r : ℕ) → r < 0x40 → 0x1000 + 0x40 * x + r ≢ o) →
    place_at (receive_block x q) o ≡ None
receive_absent x q o free = in_no_side (0x1000 + 0x40 * x) q o Rdbal receive_rows receive_near free

transmit_absent : (x q o : ℕ) → ((r : ℕ) → r < 0x40 → 0x2000 + 0x40 * x + r ≢ o) →
    place_at (transmit_block x q) o ≡ None
transmit_absent x q o free = in_no_side (0x2000 + 0x40 * x) q o Tdbal transmit_rows transmit_near free

-- At an offset in a queue's receive block, the search finds the receive register at that distance from the block's
-- start.
receive_there : (x q o : ℕ) → x < 0x40 → o / 0x1000 ≡ 1 → o % 0x1000 / 0x40 ≡ x →
    place_at (queue_entries x q) o ≡ of_queue (row_after Rdbal receive_rows (o % 0x40)) q
receive_there x q o l s e =
    in_either (receive_block x q) (transmit_block x q) o
    (transmit_absent x q o (λ r h. no_block 2 x o r l (omega arith) h))
    ∙ ap (λ p. place_at (receive_block x q) p) (block_at 1 x o s e)
    ∙ in_side (0x1000 + 0x40 * x) q (o % 0x40) Rdbal receive_rows

-- At an offset in a queue's transmit block, the search finds the transmit register at that distance from the block's
-- start.
transmit_there : (x q o : ℕ) → x < 0x40 → o / 0x1000 ≡ 2 → o % 0x1000 / 0x40 ≡ x →
    place_at (queue_entries x q) o ≡ of_queue (row_after Tdbal transmit_rows (o % 0x40)) q
transmit_there x q o l s e =
    in_second (receive_block x q) (transmit_block x q) o
    (receive_absent x q o (λ r h. no_block 1 x o r l (omega arith) h))
    ∙ ap (λ p. place_at (transmit_block x q) p) (block_at 2 x o s e)
    ∙ in_side (0x2000 + 0x40 * x) q (o % 0x40) Tdbal transmit_rows

neither_there : (x q o : ℕ) → ((r : ℕ) → r < 0x40 → 0x1000 + 0x40 * x + r ≢ o) →
    ((r : ℕ) → r < 0x40 → 0x2000 + 0x40 * x + r ≢ o) → place_at (queue_entries x q) o ≡ None
neither_there x q o a b =
    in_second (receive_block x q) (transmit_block x q) o (receive_absent x q o a) ∙ transmit_absent x q o b

other_queue : (x q o : ℕ) → x < 0x40 → x ≢ o % 0x1000 / 0x40 → place_at (queue_entries x q) o ≡ None
other_queue x q o l s =
    neither_there x q o (λ r h. other_block 1 x o r l s h) (λ r h. other_block 2 x o r l s h)

-- If the function doesn't have the queue whose block contains the offset, searching the queues' registers finds
-- nothing.
pub queue_absent : (first count o : ℕ) → count ≤ most_queues → count ≤ o % 0x1000 / 0x40 →
    place_at (queues_entries first count) o ≡ None
queue_absent first count o l h =
    in_no_piece (λ x. queue_entries x (first + x)) 0 count o
    (λ w a b. other_queue w (first + w) o (omega arith) (omega arith))

-- If the offset is outside the receive blocks and the transmit blocks, searching the queues' registers finds nothing.
pub side_absent : (first count o : ℕ) → count ≤ most_queues → o / 0x1000 ≢ 1 → o / 0x1000 ≢ 2 →
    place_at (queues_entries first count) o ≡ None
side_absent first count o l a b =
    in_no_piece (λ x. queue_entries x (first + x)) 0 count o
    (λ w i j. neither_there w (first + w) o
    (λ r h. no_block 1 w o r (omega arith) a h) (λ r h. no_block 2 w o r (omega arith) b h))

queue_there : (first count o : ℕ) → count ≤ most_queues → o % 0x1000 / 0x40 < count →
    place_at (queues_entries first count) o
    ≡ place_at (queue_entries (o % 0x1000 / 0x40) (first + o % 0x1000 / 0x40)) o
queue_there first count o l h =
    in_piece (λ x. queue_entries x (first + x)) 0 count o (o % 0x1000 / 0x40) (omega arith) (omega arith)
    (λ y a b c. other_queue y (first + y) o (omega arith) c)

pub receive_at : (first count o q : ℕ) → count ≤ most_queues → o % 0x1000 / 0x40 < count → o / 0x1000 ≡ 1 →
    q ≡ first + o % 0x1000 / 0x40 →
    place_at (queues_entries first count) o ≡ of_queue (row_after Rdbal receive_rows (o % 0x40)) q
receive_at first count o q l h s e =
    queue_there first count o l h
    ∙ receive_there (o % 0x1000 / 0x40) (first + o % 0x1000 / 0x40) o (omega arith) s refl
    ∙ ap (λ x. of_queue (row_after Rdbal receive_rows (o % 0x40)) x) (sym e)

pub transmit_at : (first count o q : ℕ) → count ≤ most_queues → o % 0x1000 / 0x40 < count → o / 0x1000 ≡ 2 →
    q ≡ first + o % 0x1000 / 0x40 →
    place_at (queues_entries first count) o ≡ of_queue (row_after Tdbal transmit_rows (o % 0x40)) q
transmit_at first count o q l h s e =
    queue_there first count o l h
    ∙ transmit_there (o % 0x1000 / 0x40) (first + o % 0x1000 / 0x40) o (omega arith) s refl
    ∙ ap (λ x. of_queue (row_after Tdbal transmit_rows (o % 0x40)) x) (sym e)
