-- Registers of the whole device that change only when they are written or the device is reset.
use Rattle.std.proofs.Common.{◌≡◌, ◌≢◌, ◌||◌, ℕ, true, false, List, [], ◌∷◌, refl, ap, sym, ◌∙◌, subst, inl, inr}
use Rattle.nic_device.specs.RegTable.declared.bank.Bank.TheVariants.{Device}
use Rattle.nic_device.specs.IntrUnit.declared.group.Group.TheVariants as group
use Rattle.nic_device.specs.RegisterFile.declared.owner.Owner.TheVariants as owner
use Rattle.nic_device.proofs.RegisterLaws.Accessed.{none_pending, none_read_by, none_written_by}
use Rattle.nic_device.proofs.RegisterLaws.Pending.{alone_steady}
use Rattle.nic_device.specs.Footprint.{read_reach, write_reach, receive_reach, reach_by, switch_reach, Reach, pool_reach, is_function_count}
use Rattle.device_laws.specs.Prelude.{Block, Ctrl, Dir, Eerd, Event, LacksWord, Mode, Named, Nothing, Owner, Place}
use Rattle.device_laws.specs.Prelude.{Port, Register, Reply, RowId, Rx, State, Tx, Waiting, after, asks_pool_reset}
use Rattle.device_laws.specs.Prelude.{asks_reset, is_alone, is_of_pool_by, is_owner, is_pending, is_place, mode_in}
use Rattle.device_laws.specs.Prelude.{named, of_read, owner_in, owner_of, place, pool_has, row_of, step_of, word_of}
use Rattle.device_laws.proofs.Prelude.{cases_Bool, either_way, is_place-other, is_place-same, lacks-renewed}
use Rattle.device_laws.proofs.Prelude.{word_stands}
use Rattle.device_laws.proofs.Missed.{neither}
use Rattle.nic_device.proofs.Steps.{step_leads}
use Rattle.nic_device.specs.declared.event.Event.TheVariants as event

-- A row of the whole device that no device step, no read and no access to another register changes.
pub record IsSetting (row : RowId) : Type 0 where
  pub bank : (row_of row).bank ≡ Device
  pub alone : is_alone (row_of row).kind ≡ true
  pub still : LacksWord (of_read (place row 0)) (place row 0)
  pub unread : Eerd ≢ row

-- A write to a place of another row, other than CTRL.
pub record IsOther (row : RowId) (p : Place) : Type 0 where
  pub control : p.row ≢ Ctrl
  pub other : p.row ≢ row

pub no_reset : (row : RowId) (word : ℕ) → row ≢ Ctrl → asks_reset (row_of row).kind word ≡ false
no_reset Ctrl word n = absurd (n refl)
no_reset other word n = refl

module _ (row : RowId) (is : IsSetting row) where
  abbrev here : Place
  here = place row 0

  -- The row contains neither causes nor masks.
  quiet : is_pending (row_of row).kind ≡ false
  quiet = alone_steady (row_of row).kind is.alone

  other_place : (p : Place) → p.row ≢ row → is_place p here ≡ false
  other_place p n = is_place-other p here (λ e. n (ap (λ (q : Place). q.row) (sym e)))

  none_pooled : (mode : Mode) (v : ℕ) → LacksWord (pool_reach mode v).registers here
  none_pooled mode v =
      lacks-renewed (pool_has mode v) here (λ bit. ap (λ b. is_of_pool_by b mode v 0) is.bank)

  none_written : (mode : Mode) (m : Named) (word : ℕ) → ((p : Place) (view : ℕ) → m ≡ Register p view → IsOther row p)
      → LacksWord (write_reach mode m word).registers here
  none_written mode (Nothing seen) word other = λ bit. refl
  none_written mode (Register p view) word other =
      let o = other p view refl in
      rw (no_reset p.row word o.control)
      (either_way (λ (r : Reach). LacksWord r.registers here) (asks_pool_reset (row_of p.row).kind word) _ _
      (none_pooled mode p.index) (none_written_by here is.alone (row_of p.row).kind p (other_place p o.other)))

  none_owned : (o : Owner) → is_owner o owner.Device ≡ false → is_owner o (owner_of here) ≡ false
  none_owned o n = ap (λ b. is_owner o (owner_in b 0)) is.bank ∙ n

  none_stepped : (dir : Dir) (queue : ℕ)
      → (is_owner (owner.Side dir queue) (owner_of here)
      || ((is_owner owner.Counters (owner_of here) || is_function_count (row_of row).bank)
      || is_pending (row_of row).kind)) ≡ false
  none_stepped dir queue =
      neither _ _ (none_owned (owner.Side dir queue) refl)
      (neither _ _ (neither _ _ (none_owned owner.Counters refl) (ap is_function_count is.bank)) quiet)

  none_received : (ws : List Waiting) (reply : Reply Block) → LacksWord (receive_reach ws reply).registers here
  none_received [] reply bit = refl
  none_received (w ∷ others) reply bit = none_stepped Rx w.queue

  none_switched : (dir : Dir) (queue : ℕ) → LacksWord (switch_reach dir queue).registers here
  none_switched Rx queue bit = none_owned (owner.Side Rx queue) refl
  none_switched Tx queue bit = none_owned (owner.Side Tx queue) refl

  none_read_at : (p : Place) → LacksWord (of_read p) here
  none_read_at p =
      elim (cases_Bool (is_place p here)) as (λ _. LacksWord (of_read p) here) [
        | inl same ↦ subst (λ (q : Place). LacksWord (of_read q) here) (sym (is_place-same p here same)) is.still
        | inr other ↦ none_read_by here is.alone (row_of p.row).kind p other
      ]

  none_read : (m : Named) → LacksWord (read_reach m).registers here
  none_read (Nothing seen) = λ bit. refl
  none_read (Register p view) = none_read_at p

  stays : (s : State) (e : Event Block)
      → LacksWord (reach_by s e (step_of s e).reply).registers here
      → word_of (after s e).registers row 0 ≡ word_of s.registers row 0
  stays s e none = word_stands (step_leads s e).stays.registers here none

  pub setting_stands : (s : State) (e : Event Block)
      → ((port : Port) (n word : ℕ) (p : Place) (view : ℕ) → e ≡ event.Write port n word
      → named s port n ≡ Register p view → IsOther row p)
      → word_of (after s e).registers row 0 ≡ word_of s.registers row 0
  unfolding step_of
  setting_stands s (event.Read port n) other = stays s (event.Read port n) (none_read (named s port n))
  setting_stands s (event.Write port n word) other =
      stays s (event.Write port n word)
      (none_written (mode_in s.registers) (named s port n) word (λ p view found. other port n word p view refl found))
  setting_stands s (event.Arrive frame) other =
      stays s (event.Arrive frame)
      (λ bit. neither _ _ (none_owned owner.Counters refl) (none_pending here quiet group.Pf bit))
  setting_stands s event.RxStep other = stays s event.RxStep (none_received s.waiting _)
  setting_stands s (event.TxStep queue) other = stays s (event.TxStep queue) (λ bit. none_stepped Tx queue)
  setting_stands s (event.IntStep g) other = stays s (event.IntStep g) (none_pending here quiet g)
  setting_stands s (event.QueueStep dir queue) other =
      stays s (event.QueueStep dir queue) (none_switched dir queue)
  setting_stands s event.EepromStep other = stays s event.EepromStep (λ bit. other_place (place Eerd 0) is.unread)
  setting_stands s (event.Link up) other = stays s (event.Link up) (none_pending here quiet group.Pf)
  setting_stands s e other = stays s e (λ bit. refl)
