-- The mailbox memory: what one side writes, the other reads.
use Rattle.std.proofs.Common.{◌≡◌, ◌≢◌, ℕ, ◌+◌, ◌-◌, ◌*◌, ◌/◌, ◌<◌, ◌||◌, false, cond, List, [], ◌∷◌, Some, None, refl, ap, sym, ◌∙◌, inl, inr, arith}
use Rattle.std.specs.Prelude.{bit_and}
use Rattle.nic_device.specs.RegTable.declared.rows.RowId.TheVariants as row
use Rattle.nic_device.specs.VfMap.Map.{own_entries, message_entries, located}
use Rattle.nic_device.specs.VfMap.Parts.{place_at}
use Rattle.nic_device.proofs.VfMap.LocatedAt.{located_at}
use Rattle.nic_device.specs.VfMap.declared.located.Located.TheVariants as located_as
use Rattle.nic_device.proofs.VfMap.Chains.{in_second}
use Rattle.nic_device.proofs.VfMap.Places.{message_there}
use Rattle.nic_device.proofs.VfMap.Whole.{entries_own, located_some}
use Rattle.nic_device.specs.RegisterFile.Access.{asks_reset, asks_pool_reset}
use Rattle.nic_device.specs.RegisterLaws.Footprint.{LacksWord, is_place, of_read}
use Rattle.nic_device.specs.RegisterLaws.Laws.{after_write as word_written}
use Rattle.nic_device.proofs.RegisterLaws.Keeps.{keeps}
use Rattle.nic_device.proofs.RegisterLaws.Owners.{is_place-other, is_place-same}
use Rattle.nic_device.proofs.RegisterLaws.Pending.{none_pending}
use Rattle.nic_device.specs.Footprint.{reach_of, read_reach, receive_reach, switch_reach}
use Rattle.nic_device.specs.declared.event.Event.TheVariants as event
use Rattle.nic_device.specs.declared.event.Port.TheVariants as port
use Rattle.device_laws.proofs.Standing.{stays_within}
use Rattle.datasheet_laws.specs.Prelude.{Block, Dir, Event, IsSound, Mode, Named, Nothing, Place, Port, Register, Reply}
use Rattle.datasheet_laws.specs.Prelude.{Rx, State, Tx, Waiting, after, at_location, has_bit, merged, mode_in, mode_of}
use Rattle.datasheet_laws.specs.Prelude.{named, named_read, named_written, place, queues_of, reply_to, reset, row_of}
use Rattle.datasheet_laws.specs.Prelude.{runs, state_written, step_of, view_among, with_pool_reset, word_at, word_of}
use Rattle.datasheet_laws.specs.Prelude.{written_below_reset}
use Rattle.datasheet_laws.proofs.Prelude.{both_ways, cases_Bool, cond_both, first_address, ne_eqb, put_stands}
use Rattle.datasheet_laws.proofs.Prelude.{renewed-pool, within-written, word_at-put_other, word_stands}
use Rattle.datasheet_laws.proofs.Addresses.{address_of}
use Rattle.datasheet_laws.proofs.Bits.{has_bit-all, has_bit-merged, has_bit-whole}
use Rattle.datasheet_laws.proofs.Lasting.{in_range}
use Rattle.datasheet_laws.proofs.LastingAccesses.{asks_device}
use Rattle.datasheet_laws.proofs.MailEvents.{Made, reading, writing, silent, made}
use Rattle.datasheet_laws.proofs.Words.{named-at, reply-read}
use Rattle.datasheet_laws.specs.Holding.{IsSparing}
use Rattle.datasheet_laws.specs.Messages.{message, message_address, message_offset, MessagesHaveNumbers, MessagesAreShared}
use Rattle.datasheet_laws.specs.Messages.{MessagesLast, SparesMessage}
use Rattle.datasheet_laws.specs.Names.{IsAddressOf}
use Rattle.datasheet_laws.specs.Shown.{word_in}

-- The address and the offset of a word of mailbox memory.

own_no_message : (v x : ℕ) → x < 16 → place_at (own_entries v) (message_offset x) ≡ None
own_no_message v x small =
    rw (
      ne_eqb 0x0000 (0x200 + 4 * x) (omega arith),
      ne_eqb 0x0008 (0x200 + 4 * x) (omega arith),
      ne_eqb 0x0010 (0x200 + 4 * x) (omega arith),
      ne_eqb 0x0100 (0x200 + 4 * x) (omega arith),
      ne_eqb 0x0104 (0x200 + 4 * x) (omega arith),
      ne_eqb 0x0108 (0x200 + 4 * x) (omega arith),
      ne_eqb 0x010C (0x200 + 4 * x) (omega arith),
      ne_eqb 0x0110 (0x200 + 4 * x) (omega arith),
      ne_eqb 0x0114 (0x200 + 4 * x) (omega arith),
      ne_eqb 0x0140 (0x200 + 4 * x) (omega arith),
      ne_eqb 0x02FC (0x200 + 4 * x) (omega arith),
      ne_eqb 0x0300 (0x200 + 4 * x) (omega arith),
      ne_eqb 0x101C (0x200 + 4 * x) (omega arith),
      ne_eqb 0x201C (0x200 + 4 * x) (omega arith),
    ) refl

message_located : (mode : Mode) (vfs v x first count : ℕ) → x < 16 → v < vfs → queues_of mode v ≡ Some (first, count)
    → located mode vfs v (message_offset x) ≡ located_as.Register (message v x)
message_located mode vfs v x first count small there pool =
    let here : (0x200 + 4 * x - 0x200) / 4 ≡ x = omega arith in
    located_some mode vfs v (message_offset x) first count there pool
    ∙ ap located_at
    (entries_own v first count (message_offset x) _
    (in_second (own_entries v) (message_entries v) (message_offset x) (own_no_message v x small)
    ∙ message_there v (message_offset x) (omega arith) (omega arith) (omega arith)))
    ∙ ap (λ n. located_as.Register (place row.Pfmbmem (16 * v + n))) here

module _ (v x : ℕ) (there : v < 64) (small : x < 16) where
  inside : 16 * v + x < 1024
  inside = omega arith

  physical_address : IsAddressOf (message v x) (message_address v x) 0xFFFFFFFF
  physical_address =
      let same : 0x13000 + 4 * (16 * v + x) ≡ message_address v x = omega arith in
      address_of (message v x) (message_address v x)
      (first_address (message v x) inside ∙ ap Some same)

  physical_named : (s : State) → named s port.Pf (message_address v x) ≡ Register (message v x) 0xFFFFFFFF
  physical_named s =
      named-at s (message_address v x) (message v x) physical_address.named
      ∙ ap (Register (message v x)) physical_address.view

pub messages_numbered : MessagesHaveNumbers
messages_numbered s v x there small = record {
  physical = physical_named v x there small s;
  function = λ first count has pool.
      ap at_location (message_located (mode_in s.registers) s.vfs v x first count small has pool);
}

-- A word that was written.

module _ (s : State) (h : IsSound s) (v x : ℕ) (there : v < 64) (small : x < 16) where
  abbrev Word_at : State → ℕ
  Word_at t = word_at t.registers.words (message v x)

  -- A number names the same register after a write of the word.
  same_named : (t : State) → t.vfs ≡ s.vfs → word_of t.registers row.GcrExt 0 ≡ word_of s.registers row.GcrExt 0
      → (other : Port) (again : ℕ) → named t other again ≡ named s other again
  same_named t vfs setting port.Pf again = refl
  same_named t vfs setting (port.Vf w) again = λ k. at_location (located (mode_of (setting k)) (vfs k) w again)

  abbrev New : ℕ → ℕ
  New word = merged 0xFFFFFFFF (Word_at s) word

  module _ (port : Port) (number word : ℕ) (is : named s port number ≡ Register (message v x) 0xFFFFFFFF) where
    abbrev Then : State
    Then = after s (event.Write port number word)

    put_word : Then ≡ (named_written s (Register (message v x) 0xFFFFFFFF) word).state
    unfolding step_of
    put_word = ap (λ m. (named_written s m word).state) is

    then_word : Word_at Then ≡ New word
    then_word =
        ap Word_at put_word
        ∙ put_stands s.registers (message v x) (New word) h.registers.shape (inside v x there small)

    then_named : (other : Port) (again : ℕ) → named Then other again ≡ named s other again
    then_named other again =
        same_named Then (ap (λ (t : State). t.vfs) put_word)
        (ap (λ (t : State). word_of t.registers row.GcrExt 0) put_word
        ∙ word_at-put_other s.registers.words (message v x) (place row.GcrExt 0) (New word)
        (λ same. let rows : row.GcrExt ≡ row.Pfmbmem = ap (λ (q : Place). q.row) same in cc)) other again

    shared : (other : Port) (again : ℕ) → named s other again ≡ Register (message v x) 0xFFFFFFFF → (bit : ℕ)
        → bit < 32 → has_bit bit (word_in (reply_to Then (event.Read other again))) ≡ has_bit bit word
    unfolding step_of
    shared other again names bit b =
        ap (λ m. has_bit bit (word_in (named_read Then m).reply)) (then_named other again ∙ names)
        ∙ has_bit-whole (Word_at Then) bit b ∙ ap (has_bit bit) then_word
        ∙ has_bit-merged bit 0xFFFFFFFF (Word_at s) word b (omega arith)
        ∙ ap (λ m. cond m (has_bit bit word) (has_bit bit (Word_at s))) (has_bit-all bit b)

pub messages_shared : MessagesAreShared
messages_shared s h v x there small port other number again word is names bit b =
    shared s h v x there small port number word is other again names bit b

-- Every other event.

module _ (v x : ℕ) where
  abbrev Kept : State → State → Type 0
  Kept s t = word_at t.registers.words (message v x) ≡ word_at s.registers.words (message v x)

  kept_by : (s : State) (e : Event Block) → LacksWord (reach_of s e).registers (message v x) → Kept s (after s e)
  kept_by s e none = word_stands (stays_within s e).registers (message v x) none

  read_lacks : (p : Place) → LacksWord (of_read p) (message v x)
  read_lacks p bit =
      elim (cases_Bool (is_place p (message v x))) as (λ _. (of_read p).bits (message v x) bit ≡ false) [
        | inl same ↦ ap (λ q. (of_read q).bits (message v x) bit) (is_place-same p (message v x) same)
        | inr other ↦ (keeps (row_of p.row).kind).read.calm p (message v x) other refl bit
      ]

  read_reaches : (m : Named) → LacksWord (read_reach m).registers (message v x)
  read_reaches (Nothing seen) bit = refl
  read_reaches (Register p view) bit = read_lacks p bit

  received_reach : (ws : List Waiting) (reply : Reply Block)
      → LacksWord (receive_reach ws reply).registers (message v x)
  received_reach [] reply bit = refl
  received_reach (w ∷ others) reply bit = refl

  switched_reach : (dir : Dir) (queue : ℕ) → LacksWord (switch_reach dir queue).registers (message v x)
  switched_reach Rx queue bit = refl
  switched_reach Tx queue bit = refl

  silent_keeps : (s : State) (e : Event Block) → ((port : Port) (number word : ℕ) → e ≢ event.Write port number word)
      → Kept s (after s e)
  unfolding step_of
  silent_keeps s (event.Read port number) quiet =
      kept_by s (event.Read port number) (read_reaches (named s port number))
  silent_keeps s (event.Write port number word) quiet = absurd (quiet port number word refl)
  silent_keeps s event.RxStep quiet = kept_by s event.RxStep (received_reach s.waiting _)
  silent_keeps s (event.IntStep g) quiet = kept_by s (event.IntStep g) (none_pending (message v x) refl g)
  silent_keeps s (event.QueueStep dir queue) quiet = kept_by s (event.QueueStep dir queue) (switched_reach dir queue)
  silent_keeps s e quiet = kept_by s e (λ bit. refl)

  module _ (s : State) (p : Place) (view word : ℕ) (spares : SparesMessage v x p word) where
    word_kept : Kept s (record s { registers = word_written s.registers p view word })
    word_kept =
        word_stands (within-written s.registers p view word) (message v x)
        ((keeps (row_of p.row).kind).write.calm p (message v x)
        (is_place-other p (message v x) (λ same. spares.own (sym same))) refl)

    pool_kept : Kept s (with_pool_reset s p.index)
    pool_kept =
        word_stands (renewed-pool s.registers (mode_in s.registers) p.index).alone (message v x) (λ bit. refl)

    written_keeps : p.index < (row_of p.row).count → Kept s (state_written s p view word)
    written_keeps is_in =
        cond_both (asks_reset (row_of p.row).kind word) (reset s) (written_below_reset s p view word) (Kept s)
        (λ asks. let found = asks_device p.row p.index word is_in asks in
        absurd (both_ways (has_bit 3 word || has_bit 26 word) (spares.control found.0) found.1))
        (λ none. cond_both (asks_pool_reset (row_of p.row).kind word) (with_pool_reset s p.index)
        (record s { registers = word_written s.registers p view word }) (Kept s) (λ asks. pool_kept)
        (λ rest. word_kept))

  named_keeps : (s : State) (port : Port) (number word : ℕ) (m : Named) → named s port number ≡ m
      → ((p : Place) (view : ℕ) → m ≡ Register p view → SparesMessage v x p word)
      → Kept s (named_written s m word).state
  named_keeps s port number word (Nothing seen) is spares = refl
  named_keeps s port number word (Register p view) is spares =
      written_keeps s p view word (spares p view refl) (in_range s port number p view is)

  event_keeps : (s : State) (e : Event Block) → Made e → IsSparing (SparesMessage v x) s e → Kept s (after s e)
  unfolding step_of
  event_keeps s e (reading port number) spares = silent_keeps s (event.Read port number) (λ a b c e. cc)
  event_keeps s e (writing port number word) spares =
      named_keeps s port number word (named s port number) refl spares
  event_keeps s e (silent other no_read quiet) spares = silent_keeps s other quiet

pub messages_last : MessagesLast
messages_last s h v x there small e spares =
    let at = physical_address v x there small in
    ap (λ (r : Reply Block). word_in r) (reply-read (after s e) (message_address v x) (message v x) at.named)
    ∙ ap (λ w. bit_and w (view_among runs (message_address v x))) (event_keeps v x s e (made e) spares)
    ∙ sym (ap (λ (r : Reply Block). word_in r) (reply-read s (message_address v x) (message v x) at.named))
