-- Where the head of a ring advances to.
use Rattle.std.proofs.Common.{ap, subst}
use Rattle.nic_device.specs.RegisterLaws.Sides.{ReceiveQueue, TransmitQueue}
use Rattle.nic_device.specs.declared.event.Event.TheVariants as event
use Rattle.device_laws.specs.Replies.{received_tells, sent_tells}
use Rattle.device_laws.proofs.RepliesReceived.{receiving_tells}
use Rattle.device_laws.proofs.RepliesSent.{transmitting_tells}
use Rattle.datasheet_laws.specs.Prelude.{after}
use Rattle.datasheet_laws.specs.Heads.{HeadsMoveOn}

pub heads : HeadsMoveOn
heads s h = record {
  written = λ queue slot end desc at len is.
      let took = subst (λ r. received_tells r s (after s event.RxStep)) is (receiving_tells s h) in
      ap (λ (q : ReceiveQueue). q.ring.head) took.side;
  advanced = λ queue own slot back is.
      let new = after s (event.TxStep queue) in
      let took = subst (λ r. sent_tells queue r s new) is (transmitting_tells s h queue) in
      ap (λ (q : TransmitQueue). q.ring.head) took.0.side;
  sent = λ queue own len back is.
      let new = after s (event.TxStep queue) in
      let took = subst (λ r. sent_tells queue r s new) is (transmitting_tells s h queue) in
      ap (λ (q : TransmitQueue). q.ring.head) took.side;
}
