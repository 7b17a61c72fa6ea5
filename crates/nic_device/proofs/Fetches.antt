-- Fetching a slot with a fault.
use Rattle.std.proofs.Common.{◌≡◌, ℕ, List, length, ap, Some}
use Rattle.std.specs.Prelude.{Err}
use Rattle.rx_ring.specs.DmaArena.Memory.{Memory}
use Rattle.rx_ring.specs.DmaRing.declared.ring.Ring.{Ring}
use Rattle.rx_ring.specs.DmaRing.declared.fault.RingFault.{RingFault}
use Rattle.tx_ring.specs.declared.tx.Tx.{Tx}
use Rattle.tx_ring.specs.Fetch.{fetch_of, fault_of, fault_outcome, outcome_of}
use Rattle.register_laws.specs.Sides.{TransmitQueue}
use Rattle.nic_device.specs.State.{State}
use Rattle.nic_device.specs.Transmit.{slot_fetched, slot_done, staged_by, sending_of}

pub fetch-fault : (m : Memory) (staged : List ℕ) (r : Ring) (tx : Tx) (f : RingFault)
    → fault_of m r tx (length staged) ≡ Some f → fetch_of m staged r tx ≡ fault_outcome m staged f
unfolding fetch_of
fetch-fault m staged r tx f e = ap (outcome_of m staged r tx) e

pub slot_fetched-fault : (s : State) (queue : ℕ) (q : TransmitQueue) (f : RingFault) (m : Memory) (r : Ring) (tx : Tx)
    (staged : List ℕ)
    → fault_of m r tx (length staged) ≡ Some f → m ≡ s.memory → r ≡ q.ring → tx ≡ sending_of s.registers q
    → staged ≡ staged_by s queue → slot_fetched s queue q ≡ slot_done s queue (Err f) s.memory (staged_by s queue)
slot_fetched-fault s queue q f m r tx staged e memory ring sending by =
    let same : fault_of s.memory q.ring (sending_of s.registers q) (length (staged_by s queue)) ≡ Some f = cc in
    ap (λ o. slot_done s queue o.answer o.memory o.staged)
    (fetch-fault s.memory (staged_by s queue) q.ring (sending_of s.registers q) f same)
