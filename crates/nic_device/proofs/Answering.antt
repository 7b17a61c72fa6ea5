-- The reply to each event is a possible one, and its note fits into the reserved room.
use Rattle.std.proofs.Common.{◌≡◌, ◌≤◌, ℕ, true, List, [], ◌∷◌, length, refl, sym, subst, arith, Option, Some, None, eq-eqb}
use Rattle.std.specs.Prelude.{Result, Ok, Err, IfOk, option_map}
use Rattle.std.specs.FinMap as map
use Rattle.rx_ring.specs.DmaArena.Block.{Block}
use Rattle.rx_ring.specs.DmaArena.Memory.{IsWhole}
use Rattle.register_file.specs.IntrUnit.declared.group.Group.{Group}
use Rattle.register_file.specs.Groups.{message_of}
use Rattle.nic_device.specs.Access.{named_read, named_written}
use Rattle.nic_device.specs.Answering.{may_answer, note_length, note_room}
use Rattle.nic_device.specs.Arrival.{arrived}
use Rattle.nic_device.specs.Interrupt.{interrupted, message_reply}
use Rattle.nic_device.specs.Lending.{lent, taken, block_taken}
use Rattle.nic_device.specs.Link.{oldest_collected}
use Rattle.nic_device.specs.Outcome.{gives}
use Rattle.nic_device.specs.Receive.{received}
use Rattle.nic_device.specs.Sound.{IsSound, IsEvent}
use Rattle.nic_device.specs.State.{State}
use Rattle.nic_device.specs.Step.{step_of}
use Rattle.nic_device.specs.Transmit.{transmitted, fetched_reply}
use Rattle.nic_device.proofs.Cases.{either_way, lent_cases, peeked_cases, poked_cases, arrived_cases, link_cases, switched_cases, interrupted_cases}
use Rattle.nic_device.proofs.QueueCases.{received_cases, transmitted_cases}
use Rattle.nic_device.proofs.Trimmed.{kept_len_le}
use Rattle.tx_ring.specs.declared.fetched.Fetched.{Fetched}
use Rattle.nic_device.specs.declared.event.Event.{Event}
use Rattle.nic_device.specs.declared.event.Event.TheVariants as event
use Rattle.nic_device.specs.declared.event.Port.{Port}
use Rattle.nic_device.specs.declared.event.Reply.TheVariants.{Idle}
use Rattle.nic_device.specs.declared.named.Named.{Named}
use Rattle.nic_device.specs.declared.named.Named.TheVariants.{Nothing, Register}
use Rattle.nic_device.specs.Eeprom.{word_answered, eeprom_stepped}
use Rattle.nic_device.specs.Named.{named}
use Rattle.register_file.specs.Eeprom.{eeprom_asked}
use Rattle.register_file.specs.Settings.{is_stopped}
use Rattle.nic_device.specs.declared.event.Reply.{Reply}

zero_le : 0 ≤ 0
zero_le = omega arith

-- The reply is possible for the event, and its note fits into the reserved room.
pub record Suits (s : State) (e : Event Block) (reply : Reply Block) : Type 0 where
  pub fits : may_answer e reply ≡ true
  pub room : note_length reply ≤ note_room s e

read_suits : (s : State) (port : Port) (n : ℕ) (m : Named) → Suits s (event.Read port n) (named_read s m).reply
read_suits s port n (Nothing seen) = assumption zero_le
read_suits s port n (Register p view) = assumption zero_le

write_suits : (s : State) (port : Port) (n word : ℕ) (m : Named)
    → Suits s (event.Write port n word) (named_written s m word).reply
write_suits s port n word (Nothing seen) = assumption zero_le
write_suits s port n word (Register p view) = assumption zero_le

answered_suits : (s : State) (o : Option ℕ) → Suits s event.EepromStep (word_answered s o).reply
answered_suits s None = assumption zero_le
answered_suits s (Some index) = assumption zero_le

eeprom_suits : (s : State) → Suits s event.EepromStep (eeprom_stepped s).reply
eeprom_suits s =
    either_way (λ o. Suits s event.EepromStep o.reply) (is_stopped s.registers) (gives Idle s)
    (word_answered s (eeprom_asked s.registers)) (assumption zero_le) (answered_suits s (eeprom_asked s.registers))

lend_suits : (s : State) (block : Block) → length block.bytes ≡ 2048 → Suits s (event.Lend block) (lent s block).reply
lend_suits s block size =
    let few = kept_len_le block.bytes in
    lent_cases (λ o. Suits s (event.Lend block) o.reply) s block
    (record { fits = eq-eqb block.number block.number refl; room = omega (arith, size, few) })
    (record { fits = refl; room = omega arith })

took_suits : (s : State) (number : ℕ) (o : Option (List ℕ))
    → ((bytes : List ℕ) → o ≡ Some bytes → length bytes ≡ 2048)
    → Suits s (event.Take number)
    (block_taken s number (option_map (λ bytes. record { number = number; bytes = bytes }) o)).reply
took_suits s number None size = record { fits = refl; room = omega arith }
took_suits s number (Some bytes) size =
    let n = size bytes refl in
    let few = kept_len_le bytes in
    record { fits = eq-eqb number number refl; room = omega (arith, n, few) }

take_suits : (s : State) (number : ℕ) → IsWhole s.memory → Suits s (event.Take number) (taken s number).reply
take_suits s number whole =
    took_suits s number (map.get s.memory number) (λ bytes is. (whole.block number bytes is).size)

arrive_suits : (s : State) (frame : List ℕ) → Suits s (event.Arrive frame) (arrived s frame).reply
arrive_suits s frame = arrived_cases (λ o. Suits s (event.Arrive frame) o.reply) s frame (assumption zero_le)

receive_suits : (s : State) → Suits s event.RxStep (received s).reply
receive_suits s = received_cases (λ o. Suits s event.RxStep o.reply) s (assumption zero_le)

fetched_suits : (s : State) (queue : ℕ) (f : Fetched) (o : Option (List ℕ))
    → Suits s (event.TxStep queue) (fetched_reply queue f o)
fetched_suits s queue f None = assumption (zero_le, eq-eqb queue queue refl)
fetched_suits s queue f (Some frame) = assumption (zero_le, eq-eqb queue queue refl)

transmit_suits : (s : State) (queue : ℕ) → Suits s (event.TxStep queue) (transmitted s queue).reply
transmit_suits s queue =
    let fetched : (f : Fetched) → Suits s (event.TxStep queue) (fetched_reply queue f f.frame) =
    λ f. fetched_suits s queue f f.frame in
    transmitted_cases (λ o. Suits s (event.TxStep queue) o.reply) s queue
    (record {
      none = assumption zero_le;
      idle = assumption zero_le;
      fault = λ fault. assumption (zero_le, eq-eqb queue queue refl);
      fetched = λ f is. fetched f;
    })

message_suits : (s : State) (g : Group) (o : Option ℕ) → Suits s (event.IntStep g) (message_reply g o)
message_suits s g None = assumption zero_le
message_suits s g (Some vector) = assumption zero_le

interrupt_suits : (s : State) (g : Group) → Suits s (event.IntStep g) (interrupted s g).reply
interrupt_suits s g =
    interrupted_cases (λ o. Suits s (event.IntStep g) o.reply) s g (assumption zero_le) (assumption zero_le)
    (message_suits s g (message_of s.registers g))

out_suits : (s t : State) (out : List (ℕ × List ℕ)) → t.out ≡ out
    → Suits t event.Collect (oldest_collected s out).reply
out_suits s t [] is = record { fits = refl; room = omega arith }
out_suits s t (frame ∷ others) is = record { fits = refl; room = rw is (omega arith) }

-- If the device is sound, the reply to each event is possible for the event, and the reply's note fits.
pub step_suits : (s : State) (e : Event Block) → IsSound s → IsEvent e → Suits s e (step_of s e).reply
unfolding step_of
step_suits s (event.Read port n) h is = read_suits s port n (named s port n)
step_suits s (event.Write port n word) h is = write_suits s port n word (named s port n)
step_suits s (event.Lend block) h is = lend_suits s block is.whole.size
step_suits s (event.Take number) h is = take_suits s number h.blocks.whole
step_suits s (event.Peek16 a) h is =
    peeked_cases (λ o. Suits s (event.Peek16 a) o.reply) s a (assumption zero_le) (assumption zero_le)
    (λ bytes. assumption zero_le)
step_suits s (event.Poke16 a bytes) h is =
    poked_cases (λ o. Suits s (event.Poke16 a bytes) o.reply) s a bytes (assumption zero_le) (assumption zero_le)
    (assumption zero_le)
step_suits s (event.Arrive frame) h is = arrive_suits s frame
step_suits s event.RxStep h is = receive_suits s
step_suits s (event.TxStep queue) h is = transmit_suits s queue
step_suits s (event.IntStep g) h is = interrupt_suits s g
step_suits s (event.QueueStep dir queue) h is =
    switched_cases (λ o. Suits s (event.QueueStep dir queue) o.reply) s dir queue (assumption zero_le)
    (assumption zero_le) (assumption zero_le)
step_suits s event.EepromStep h is = eeprom_suits s
step_suits s (event.Link up) h is =
    link_cases (λ o. Suits s (event.Link up) o.reply) s up (assumption zero_le) (assumption zero_le)
step_suits s event.Collect h is = out_suits s s s.out refl

-- The same holds if memory runs out and there is no reply.
pub step_fits : {E : Type 0} (s : State) (e : Event Block) (result : Result (Reply Block) E) → IsSound s → IsEvent e
    → IfOk result (λ reply. reply ≡ (step_of s e).reply) → IfOk result (λ reply. may_answer e reply ≡ true)
step_fits s e (Ok reply) h is made = subst (λ r. may_answer e r ≡ true) (sym made) (step_suits s e h is).fits
step_fits s e (Err refused) h is made = tt
