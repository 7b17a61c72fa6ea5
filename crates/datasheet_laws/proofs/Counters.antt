-- Which counters count a queue's frames.
use Rattle.std.proofs.Common.{◌≡◌, ℕ, ◌+◌, ◌*◌, ◌/◌, ◌%◌, ◌^◌, ◌<◌, ◌==◌, refl, ap, sym, ◌∙◌, subst, arith}
use Rattle.nic_device.specs.RegTable.declared.rows.RowId.TheVariants.{Qprc, Qprdc, Qptc, Rqsmr, Tqsm}
use Rattle.nic_device.specs.RegisterFile.Counters.{counter_of}
use Rattle.nic_device.specs.Sound.{IsSound, AreWaiting}
use Rattle.nic_device.specs.declared.event.Event.TheVariants as event
use Rattle.device_laws.specs.Counting.{counts_received, counts_slotless, counts_sent, with_one}
use Rattle.device_laws.proofs.Counts.{events_count}
use Rattle.datasheet_laws.specs.Prelude.{Rx, State, Tx, after, place, word_at}
use Rattle.datasheet_laws.proofs.Prelude.{first_address, keeps_sound}
use Rattle.datasheet_laws.specs.Queues.{receive_counter, transmit_counter, MappingsNameCounters}
use Rattle.datasheet_laws.proofs.Addresses.{address_of}
use Rattle.datasheet_laws.proofs.Reading.{read-word, word_lt}

-- The counter that a queue's field names.

receive_number : (s : State) → IsSound s → (queue : ℕ) → queue < 128
    → counter_of s.registers Rx queue ≡ receive_counter s queue
receive_number s h queue small =
    let p = place Rqsmr (queue / 4) in
    let a : ℕ = 0x02300 + 4 * (queue / 4) in
    let word = read-word s a p (address_of p a (first_address p (omega arith))) (word_lt s h p) in
    ap (λ w. w / 2 ^ (8 * (queue % 4)) % 16) (sym word)

transmit_number : (s : State) → IsSound s → (queue : ℕ) → queue < 128
    → counter_of s.registers Tx queue ≡ transmit_counter s queue
transmit_number s h queue small =
    let p = place Tqsm (queue / 4) in
    let a : ℕ = 0x08600 + 4 * (queue / 4) in
    let word = read-word s a p (address_of p a (first_address p (omega arith))) (word_lt s h p) in
    ap (λ w. w / 2 ^ (8 * (queue % 4)) % 16) (sym word)

pub mappings : MappingsNameCounters
mappings s h = record {
  written = λ queue slot desc at len small is i b.
      let p = place Qprc i in
      let a : ℕ = 0x01030 + 0x40 * i in
      let there = address_of p a (first_address p b) in
      let new = keeps_sound s h event.RxStep tt in
      read-word (after s event.RxStep) a p there (word_lt (after s event.RxStep) new p)
      ∙ events_count s h event.RxStep p refl tt
      ∙ ap (λ r. with_one (counts_received s.registers s.waiting r p) (word_at s.registers.words p)) is
      ∙ ap (λ n. with_one (n == i) (word_at s.registers.words p)) (receive_number s h queue small)
      ∙ ap (λ w. with_one (receive_counter s queue == i) w) (sym (read-word s a p there (word_lt s h p)));
  dropped = λ w others waits is i b.
      let p = place Qprdc i in
      let a : ℕ = 0x01430 + 0x40 * i in
      let there = address_of p a (first_address p b) in
      let new = keeps_sound s h event.RxStep tt in
      let first = subst AreWaiting waits h.waiting in
      read-word (after s event.RxStep) a p there (word_lt (after s event.RxStep) new p)
      ∙ events_count s h event.RxStep p refl tt
      ∙ ap (λ r. with_one (counts_received s.registers s.waiting r p) (word_at s.registers.words p)) is
      ∙ ap (λ ws. with_one (counts_slotless s.registers ws p) (word_at s.registers.words p)) waits
      ∙ ap (λ n. with_one (n == i) (word_at s.registers.words p)) (receive_number s h w.queue first.0.queue)
      ∙ ap (λ c. with_one (receive_counter s w.queue == i) c) (sym (read-word s a p there (word_lt s h p)));
  sent = λ queue len back small is i b.
      let p = place Qptc i in
      let a : ℕ = 0x06030 + 0x40 * i in
      let there = address_of p a (first_address p b) in
      let new = keeps_sound s h (event.TxStep queue) (omega arith) in
      read-word (after s (event.TxStep queue)) a p there (word_lt (after s (event.TxStep queue)) new p)
      ∙ events_count s h (event.TxStep queue) p refl tt
      ∙ ap (λ r. with_one (counts_sent s.registers r p) (word_at s.registers.words p)) is
      ∙ ap (λ n. with_one (n == i) (word_at s.registers.words p)) (transmit_number s h queue small)
      ∙ ap (λ w. with_one (transmit_counter s queue == i) w) (sym (read-word s a p there (word_lt s h p)));
}
