-- Which events change a bit of a mailbox.
use Rattle.std.proofs.Common.{◌≡◌, ◌≢◌, ℕ, ◌<◌, Bool, true, false, ◌==◌, ◌&&◌, ◌||◌, List, [], ◌∷◌, refl, ap, sym, ◌∙◌}
use Rattle.std.specs.Prelude.{IsFalse}
use Rattle.nic_device.specs.RegTable.declared.kind.Kind.TheVariants as kind
use Rattle.nic_device.specs.RegTable.declared.rows.RowId.TheVariants as row
use Rattle.nic_device.specs.RegisterFile.Access.{asks_reset, asks_pool_reset}
use Rattle.nic_device.specs.RegisterFile.Mailbox.{mail_of}
use Rattle.nic_device.specs.RegisterLaws.Footprint.{is_place, read_by, written_by}
use Rattle.nic_device.specs.RegisterLaws.Laws.{after_write as word_written}
use Rattle.nic_device.proofs.RegisterLaws.MailPools.{mail_row}
use Rattle.nic_device.proofs.RegisterLaws.Pending.{none_pending, none_pending_of}
use Rattle.nic_device.specs.Footprint.{reach_of, read_reach, receive_reach, switch_reach}
use Rattle.nic_device.specs.declared.event.Event.TheVariants as event
use Rattle.device_laws.proofs.Standing.{stays_within}
use Rattle.datasheet_laws.specs.Prelude.{Block, Dir, Event, Kind, Named, Nothing, Place, Port, Register, Reply, RowId}
use Rattle.datasheet_laws.specs.Prelude.{Rx, State, Tx, Waiting, after, has_bit, named, owner_of, place, reset, row_of}
use Rattle.datasheet_laws.specs.Prelude.{state_written, step_of, with_pool_reset, written_below_reset}
use Rattle.datasheet_laws.proofs.Prelude.{both_ways, cond_both, is_place-other, within-written}
use Rattle.datasheet_laws.proofs.LastingAccesses.{asks_device}

-- Places of different kinds differ.
pub elsewhere : (k : Kind) (p : Place) (v : ℕ) → (row_of p.row).kind ≡ k → k ≢ kind.Vfmail
    → is_place p (place row.Pvfmailbox v) ≡ false
elsewhere k p v e other =
    is_place-other p (place row.Pvfmailbox v)
    (λ same. other (sym e ∙ ap (λ (q : Place). (row_of q.row).kind) (sym same)))

pub apart_mail : (w v : ℕ) → w ≢ v → is_place (place row.Pvfmailbox w) (place row.Pvfmailbox v) ≡ false
apart_mail w v apart =
    is_place-other (place row.Pvfmailbox w) (place row.Pvfmailbox v)
    (λ same. apart (ap (λ (q : Place). q.index) (sym same)))

-- A read changes no bit of a mailbox, except that a read of the mailbox itself changes the bits that are reported once.
abbrev pub IsUnread : Place → (v n : ℕ) → Type 0
IsUnread p v n =
    (row_of p.row).kind ≡ kind.Vfmail → (is_place (place row.Pvfmailbox p.index) (place row.Pvfmailbox v)
    && (n == 4 || n == 5 || n == 7)) ≡ false

read_lacks : (k : Kind) (p : Place) (v n : ℕ) → (row_of p.row).kind ≡ k → IsUnread p v n
    → (read_by k p).bits (place row.Pvfmailbox v) n ≡ false
read_lacks kind.Rc p v n e other = elsewhere kind.Rc p v e (λ x. cc)
read_lacks kind.Cause p v n e other = none_pending_of (place row.Pvfmailbox v) refl (owner_of p) n
read_lacks kind.Vfmail p v n e other = other e
read_lacks k p v n e other = refl

-- A write changes no bit of a mailbox, unless it is a write to the mailbox by either side or a write to CTRL_EXT.
pub record IsOther (k : Kind) (p : Place) (v n : ℕ) : Type 0 where
  pub own : k ≡ kind.Vfmail → (is_place (place row.Pvfmailbox p.index) (place row.Pvfmailbox v) && n == 2) ≡ false
  pub physical :
      k ≡ kind.Pfmail → (is_place (place row.Pvfmailbox p.index) (place row.Pvfmailbox v)
      && (n == 2 || n == 3 || n == 4 || n == 5)) ≡ false
  pub extended : k ≡ kind.Ctrlext → (n == 6 || n == 7) ≡ false

write_lacks : (k : Kind) (p : Place) (v n : ℕ) → (row_of p.row).kind ≡ k → IsOther k p v n
    → (written_by k p).bits (place row.Pvfmailbox v) n ≡ false
write_lacks kind.Rw p v n e other = elsewhere kind.Rw p v e (λ x. cc)
write_lacks kind.Cause p v n e other = none_pending_of (place row.Pvfmailbox v) refl (owner_of p) n
write_lacks kind.Ones p v n e other = none_pending_of (place row.Pvfmailbox v) refl (owner_of p) n
write_lacks kind.Set p v n e other = none_pending_of (place row.Pvfmailbox v) refl (owner_of p) n
write_lacks kind.Clear p v n e other = none_pending_of (place row.Pvfmailbox v) refl (owner_of p) n
write_lacks kind.Held p v n e other = elsewhere kind.Held p v e (λ x. cc)
write_lacks kind.Enable p v n e other = elsewhere kind.Enable p v e (λ x. cc)
write_lacks kind.Ctrl p v n e other = elsewhere kind.Ctrl p v e (λ x. cc)
write_lacks kind.Eerd p v n e other = elsewhere kind.Eerd p v e (λ x. cc)
write_lacks kind.W1c p v n e other = elsewhere kind.W1c p v e (λ x. cc)
write_lacks kind.Vfmail p v n e other = ap (λ b. b || false) (other.own refl)
write_lacks kind.Pfmail p v n e other = ap (λ b. b || false) (other.physical refl)
write_lacks kind.Ctrlext p v n e other = λ k. elsewhere kind.Ctrlext p v e (λ x. cc) k || other.extended refl k
write_lacks k p v n e other = refl

module _ (v n : ℕ) (value : Bool) where
  -- The bit has this value.
  abbrev Is : State → Type 0
  Is s = has_bit n (mail_of s.registers v) ≡ value

  bit_kept : (s : State) (e : Event Block) → (reach_of s e).registers.bits (place row.Pvfmailbox v) n ≡ false
      → Is s → Is (after s e)
  bit_kept s e none is = (stays_within s e).registers.bits (place row.Pvfmailbox v) n none ∙ is

  read_reaches : (m : Named) → ((p : Place) (view : ℕ) → m ≡ Register p view → IsUnread p v n)
      → (read_reach m).registers.bits (place row.Pvfmailbox v) n ≡ false
  read_reaches (Nothing seen) other = refl
  read_reaches (Register p view) other = read_lacks (row_of p.row).kind p v n refl (other p view refl)

  received_reach : (ws : List Waiting) (reply : Reply Block)
      → (receive_reach ws reply).registers.bits (place row.Pvfmailbox v) n ≡ false
  received_reach [] reply = refl
  received_reach (w ∷ others) reply = refl

  switched_reach : (dir : Dir) (queue : ℕ) → (switch_reach dir queue).registers.bits (place row.Pvfmailbox v) n ≡ false
  switched_reach Rx queue = refl
  switched_reach Tx queue = refl

  -- An event that isn't an access.
  pub still_holds : (s : State) (e : Event Block) → ((port : Port) (number : ℕ) → e ≢ event.Read port number)
      → ((port : Port) (number word : ℕ) → e ≢ event.Write port number word) → Is s → Is (after s e)
  unfolding step_of
  still_holds s (event.Read port number) no_read quiet is = absurd (no_read port number refl)
  still_holds s (event.Write port number word) no_read quiet is = absurd (quiet port number word refl)
  still_holds s event.RxStep no_read quiet is = bit_kept s event.RxStep (received_reach s.waiting _) is
  still_holds s (event.IntStep g) no_read quiet is =
      bit_kept s (event.IntStep g) (none_pending (place row.Pvfmailbox v) refl g n) is
  still_holds s (event.QueueStep dir queue) no_read quiet is =
      bit_kept s (event.QueueStep dir queue) (switched_reach dir queue) is
  still_holds s e no_read quiet is = bit_kept s e refl is

  -- A read that doesn't report the bit.
  pub read_holds : (s : State) (port : Port) (number : ℕ)
      → ((p : Place) (view : ℕ) → named s port number ≡ Register p view → IsUnread p v n) → Is s
      → Is (after s (event.Read port number))
  unfolding step_of
  read_holds s port number other is =
      bit_kept s (event.Read port number) (read_reaches (named s port number) other) is

  -- A write to a register that requests no reset, and doesn't change the bit.
  pub word_holds : (s : State) (p : Place) (view word : ℕ) → IsOther (row_of p.row).kind p v n → Is s
      → Is (record s { registers = word_written s.registers p view word })
  word_holds s p view word other is =
      (within-written s.registers p view word).bits (place row.Pvfmailbox v) n
      (write_lacks (row_of p.row).kind p v n refl other) ∙ is

  -- A write, in terms of the state after it.
  pub write_holds : (s : State) (p : Place) (view word : ℕ) → p.index < (row_of p.row).count
      → (p ≡ place row.Ctrl 0 → IsFalse (has_bit 3 word || has_bit 26 word))
      → (asks_pool_reset (row_of p.row).kind word ≡ true → Is (with_pool_reset s p.index))
      → Is (record s { registers = word_written s.registers p view word }) → Is (state_written s p view word)
  write_holds s p view word inside control pool plain =
      cond_both (asks_reset (row_of p.row).kind word) (reset s) (written_below_reset s p view word) Is
      (λ asks. let found = asks_device p.row p.index word inside asks in
      absurd (both_ways (has_bit 3 word || has_bit 26 word) (control found.0) found.1))
      (λ none. cond_both (asks_pool_reset (row_of p.row).kind word) (with_pool_reset s p.index)
      (record s { registers = word_written s.registers p view word }) Is pool (λ rest. plain))

-- The rows of the two kinds.
pub mail_place : (p : Place) → (row_of p.row).kind ≡ kind.Vfmail → p ≡ place row.Pvfmailbox p.index
mail_place p e = ap (λ x. place x p.index) (mail_row p.row e)

physical_row : (x : RowId) → (row_of x).kind ≡ kind.Pfmail → x ≡ row.Pfmailbox
physical_row row.Pfmailbox e = refl
physical_row row.Ctrl e = cc
physical_row other e = cc

pub physical_place : (p : Place) → (row_of p.row).kind ≡ kind.Pfmail → p ≡ place row.Pfmailbox p.index
physical_place p e = ap (λ x. place x p.index) (physical_row p.row e)

-- The kinds of the two sides' writes, and any other.
pub data Side (k : Kind) : Type 0 where
  function : k ≡ kind.Vfmail → Side k
  physical : k ≡ kind.Pfmail → Side k
  neither : k ≢ kind.Vfmail → k ≢ kind.Pfmail → Side k

pub side_of : (k : Kind) → Side k
side_of kind.Vfmail = function refl
side_of kind.Pfmail = physical refl
side_of kind.Rw = neither (λ e. cc) (λ e. cc)
side_of other = neither (λ e. cc) (λ e. cc)

-- The kind of an event.
pub data Made : Event Block → Type 0 where
  reading : (port : Port) (number : ℕ) → Made (event.Read port number)
  writing : (port : Port) (number word : ℕ) → Made (event.Write port number word)
  silent :
      (e : Event Block) → ((port : Port) (number : ℕ) → e ≢ event.Read port number)
      → ((port : Port) (number word : ℕ) → e ≢ event.Write port number word) → Made e

pub made : (e : Event Block) → Made e
made (event.Read port number) = reading port number
made (event.Write port number word) = writing port number word
made other = silent _ (λ a b e. cc) (λ a b c e. cc)
