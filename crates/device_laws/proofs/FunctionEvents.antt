-- Each event increments exactly the virtual functions' counters that its reply implies.
use Rattle.std.proofs.Common.{◌≡◌, ◌≢◌, ℕ, false, refl, ap, sym, ◌∙◌}
use Rattle.std.specs.Prelude.{cond, ◌==◌, ◌&&◌, IsFalse}
use Rattle.std.proofs.lemmas.Bool.{cond_both, or_parts}
use Rattle.nic_device.specs.RegTable.declared.bank.Bank.TheVariants as bank
use Rattle.nic_device.specs.RegTable.declared.rows.RowId.TheVariants.{CtrlExt, Eerd, Eicr, Pfmailbox, Pfmbicr, Pvfmailbox, Pvteicr, Qprdc, Vfgprc, Vfgptc}
use Rattle.nic_device.specs.IntrUnit.declared.group.Group.TheVariants as group
use Rattle.nic_device.specs.RegisterFile.declared.owner.Owner.TheVariants as owner
use Rattle.nic_device.specs.RegisterLaws.Footprint.{LacksWord, pool_has, of_read, of_write}
use Rattle.nic_device.proofs.RegisterLaws.Accessed.{covers-of_read, covers-of_write}
use Rattle.nic_device.specs.Footprint.{Reach, read_reach, write_reach, reset_reach, below_reset_reach, pool_reach, in_registers, switch_reach}
use Rattle.nic_device.specs.declared.event.Event.TheVariants as event
use Rattle.device_laws.specs.Prelude.{Block, Dir, Event, IsSound, Mode, Named, Nothing, Outcome, Place, Register, RowId}
use Rattle.device_laws.specs.Prelude.{Rx, State, Tx, VfCounters, asks_pool_reset, asks_reset, counter_of, is_of_pool_by}
use Rattle.device_laws.specs.Prelude.{mode_in, named, owner_of, place, received, row_of, step_of, transmitted, word_at}
use Rattle.device_laws.proofs.Prelude.{fails, lacks-renewed, received_cases, transmitted_cases, word_stands}
use Rattle.device_laws.specs.FunctionCounting.{counts_for_function, with_one_round, resets_count, EventsCountForFunctions}
use Rattle.device_laws.proofs.FunctionCounting.{not_owned, not_there, not_pending, counted_keeps, failed_keeps, piece_there, reported_there}
use Rattle.device_laws.proofs.Missed.{neither}
use Rattle.device_laws.proofs.Reaching.{IsAway, write_lacks}
use Rattle.device_laws.proofs.Standing.{stays_within}

-- Which virtual functions' counters an event increments, given its reply and the state after it.
abbrev Counts : State → Event Block → Outcome → Type 0
Counts s e o =
    (p : Place) → (row_of p.row).bank ≡ VfCounters
    → word_at o.state.registers.words p
    ≡ with_one_round (counts_for_function s e o.reply p) (word_at s.registers.words p)

received_counts : (s : State) → IsSound s → Counts s event.RxStep (received s)
received_counts s h = received_cases (Counts s event.RxStep) s (record {
  idle = λ p is. refl;
  dropped = λ w others e why p is. refl;
  slotless = λ w others e p is. counted_keeps p is s.registers Qprdc (counter_of s.registers Rx w.queue) refl;
  fault = λ w others e fault p is. failed_keeps p is s.registers Rx w.queue;
  filled = λ w others e f made p is. piece_there p is s.registers s.vfs w.queue f h.registers.shape h.vfs;
})

transmitted_counts : (s : State) (queue : ℕ) → IsSound s → Counts s (event.TxStep queue) (transmitted s queue)
transmitted_counts s queue h = transmitted_cases (Counts s (event.TxStep queue)) s queue (record {
  none = λ p is. refl;
  idle = λ p is. refl;
  fault = λ fault p is. failed_keeps p is s.registers Tx queue;
  fetched = λ f made p is. reported_there p is s queue f h;
})

-- Accesses.
module _ (p : Place) (is : (row_of p.row).bank ≡ VfCounters) where
  not_read : (row : RowId) (index : ℕ) → LacksWord (of_read (place row index)) p
  not_read Vfgprc index bit = refl
  not_read Vfgptc index bit = refl
  not_read other index bit =
      fails _ _ ((covers-of_read (place other index)).bits p bit) (not_owned p is (owner_of (place other index)) refl)

  apart : (row : RowId) → (row_of row).bank ≢ VfCounters → p.row ≢ row
  apart row other e = other (ap (λ x. (row_of x).bank) (sym e) ∙ is)

  away : IsAway p
  away = record {
    mailbox = apart Pvfmailbox (λ e. cc);
    requests = apart Pfmbicr (λ e. cc);
    physical = apart Eicr (λ e. cc);
    function = apart Pvteicr (λ e. cc);
    extended = apart CtrlExt (λ e. cc);
  }

  not_written : (row : RowId) (index : ℕ) → LacksWord (of_write (place row index)) p
  not_written Vfgprc index bit = refl
  not_written Vfgptc index bit = refl
  not_written Pvfmailbox index bit = write_lacks (place Pvfmailbox index) p refl away bit
  not_written Pfmailbox index bit = write_lacks (place Pfmailbox index) p refl away bit
  not_written CtrlExt index bit = write_lacks (place CtrlExt index) p refl away bit
  not_written other index bit =
      fails _ _ ((covers-of_write (place other index) refl).bits p bit)
      (not_owned p is (owner_of (place other index)) refl)

  read_misses : (m : Named) → LacksWord (read_reach m).registers p
  read_misses (Nothing seen) = λ bit. refl
  read_misses (Register q view) = not_read q.row q.index

  write_misses : (mode : Mode) (m : Named) (word : ℕ)
      → ((q : Place) (view : ℕ) → m ≡ Register q view → IsFalse (resets_count q word p))
      → LacksWord (write_reach mode m word).registers p
  write_misses mode (Nothing seen) word none bit = refl
  write_misses mode (Register q view) word none bit =
      let asks = asks_pool_reset (row_of q.row).kind word in
      let parts = or_parts (asks_reset (row_of q.row).kind word) (asks && p.index == q.index) (none q view refl) in
      ap (λ b. (cond b reset_reach (below_reset_reach mode q word)).registers.bits p bit) parts.0
      ∙ cond_both asks (pool_reach mode q.index) (in_registers (of_write q))
      (λ (r : Reach). r.registers.bits p bit ≡ false)
      (λ pool. lacks-renewed (pool_has mode q.index) p (λ at. ap (λ b. is_of_pool_by b mode q.index p.index) is
      ∙ sym (ap (λ b. b && p.index == q.index) pool) ∙ parts.1) bit)
      (λ plain. not_written q.row q.index bit)

  switch_misses : (dir : Dir) (queue : ℕ) → LacksWord (switch_reach dir queue).registers p
  switch_misses Rx queue bit = not_owned p is (owner.Side Rx queue) refl
  switch_misses Tx queue bit = not_owned p is (owner.Side Tx queue) refl

-- Every event.
pub events_count_for_functions : EventsCountForFunctions
unfolding step_of
events_count_for_functions s h (event.Read port n) p is keeps =
    word_stands (stays_within s (event.Read port n)).registers p (read_misses p is (named s port n))
events_count_for_functions s h (event.Write port n word) p is keeps =
    word_stands (stays_within s (event.Write port n word)).registers p
    (write_misses p is (mode_in s.registers) (named s port n) word keeps)
events_count_for_functions s h (event.Arrive frame) p is keeps =
    word_stands (stays_within s (event.Arrive frame)).registers p
    (λ bit. neither _ _ (not_owned p is owner.Counters refl) (not_pending p is group.Pf bit))
events_count_for_functions s h event.RxStep p is keeps = received_counts s h p is
events_count_for_functions s h (event.TxStep queue) p is keeps = transmitted_counts s queue h p is
events_count_for_functions s h (event.IntStep g) p is keeps =
    word_stands (stays_within s (event.IntStep g)).registers p (not_pending p is g)
events_count_for_functions s h (event.QueueStep dir queue) p is keeps =
    word_stands (stays_within s (event.QueueStep dir queue)).registers p (switch_misses p is dir queue)
events_count_for_functions s h event.EepromStep p is keeps =
    word_stands (stays_within s event.EepromStep).registers p
    (λ bit. not_there p is (place Eerd 0) (λ (e : bank.Device ≡ VfCounters). cc))
events_count_for_functions s h (event.Link up) p is keeps =
    word_stands (stays_within s (event.Link up)).registers p (not_pending p is group.Pf)
events_count_for_functions s h other p is keeps = word_stands (stays_within s other).registers p (λ bit. refl)
