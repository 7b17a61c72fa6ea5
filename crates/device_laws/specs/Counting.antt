-- Which counters an event increments, given its reply.
use Rattle.std.specs.Prelude.{ℕ, ◌≡◌, ◌≢◌, Bool, false, ◌&&◌, ◌||◌, ⊤, IsFalse, List, [], ◌∷◌, if◌then◌else◌}
use Rattle.nic_device.specs.declared.event.Event.TheVariants as event
use Rattle.nic_device.specs.declared.event.Why.TheVariants.{Short, Long, Full, NoSlot}
use Rattle.device_laws.specs.Prelude.{Block, Done, Dropped, Event, Gprc, Gptc, IsSound, Mpc, Place, Qprc, Qprdc, Qptc}
use Rattle.device_laws.specs.Prelude.{Rc, Register, Registers, Reply, Roc, Ruc, Rx, Sent, State, Tx, Waiting, Why}
use Rattle.device_laws.specs.Prelude.{Wrote, after, asks_reset, bumped, counter_of, is_place, named, place, reply_to}
use Rattle.device_laws.specs.Prelude.{row_of, word_at}

-- A frame that arrives: RUC counts frames that are too short, ROC frames that are too long, MPC frames that find the
-- list full, and GPRC accepted frames.
abbrev pub counts_dropped : Why → Place → Bool
counts_dropped Short p = is_place (place Ruc 0) p
counts_dropped Long p = is_place (place Roc 0) p
counts_dropped Full p = is_place (place Mpc 0) p
counts_dropped other p = false

abbrev pub counts_arrived : Reply Block → Place → Bool
counts_arrived Done p = is_place (place Gprc 0) p
counts_arrived (Dropped why) p = counts_dropped why p
counts_arrived other p = false

-- A receive step: QPRC counts a completely written frame, and QPRDC a frame dropped because its queue had no free slot.
-- Both use the counter that RQSMR assigns to the frame's queue.
abbrev pub counts_slotless : Registers → List Waiting → Place → Bool
counts_slotless r [] p = false
counts_slotless r (w ∷ others) p = is_place (place Qprdc (counter_of r Rx w.queue)) p

abbrev pub counts_unwritten : Registers → List Waiting → Why → Place → Bool
counts_unwritten r ws NoSlot p = counts_slotless r ws p
counts_unwritten r ws other p = false

abbrev pub counts_received : Registers → List Waiting → Reply Block → Place → Bool
counts_received r ws (Wrote queue slot end desc at len) p = end && is_place (place Qprc (counter_of r Rx queue)) p
counts_received r ws (Dropped why) p = counts_unwritten r ws why p
counts_received r ws other p = false

-- A transmit step: GPTC counts a transmitted frame. QPTC also counts it, in the counter that TQSM assigns to the
-- frame's queue.
abbrev pub counts_sent : Registers → Reply Block → Place → Bool
counts_sent r (Sent queue len back) p = is_place (place Gptc 0) p || is_place (place Qptc (counter_of r Tx queue)) p
counts_sent r other p = false

-- Whether an event increments the counter at a place.
abbrev pub counts : State → Event Block → Reply Block → Place → Bool
counts s (event.Arrive frame) reply p = counts_arrived reply p
counts s event.RxStep reply p = counts_received s.registers s.waiting reply p
counts s (event.TxStep queue) reply p = counts_sent s.registers reply p
counts s other reply p = false

-- The event neither reads the counter at this place nor requests a device reset.
abbrev pub KeepsCount : State → Place → Event Block → Type 0
KeepsCount s p (event.Read port number) = (q : Place) (view : ℕ) → named s port number ≡ Register q view → q ≢ p
KeepsCount s p (event.Write port number word) =
    (q : Place) (view : ℕ) → named s port number ≡ Register q view → IsFalse (asks_reset (row_of q.row).kind word)
KeepsCount s p other = ⊤

-- A counter's next value: one more if the event increments it, saturating at the largest word.
abbrev pub with_one : Bool → ℕ → ℕ
with_one counted word = if counted then bumped word else word

-- An event that requests no device reset adds one to each counter that counts it. Every other counter that the event
-- doesn't read is unchanged.
abbrev pub EventsCount : Type 0
EventsCount =
    (s : State) → IsSound s → (e : Event Block) (p : Place) → (row_of p.row).kind ≡ Rc → KeepsCount s p e →
    word_at (after s e).registers.words p ≡ with_one (counts s e (reply_to s e) p) (word_at s.registers.words p)
