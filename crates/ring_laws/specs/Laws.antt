-- Laws of a driver that sends on a queue of a shared device.
use Rattle.std.specs.Prelude.{[], ◌++◌, ◌<◌, ◌≡◌, ◌≢◌, List, false, ℕ}
use Rattle.ring_laws.specs.Prelude.{Block, Blocks, Event, State, Watched, after, reply_to}
use Rattle.ring_laws.specs.TransmitPrelude.{Move, Sender, descriptor_at, first_end, is_sent, moved}
use Rattle.ring_laws.specs.{Agreeing.Agrees, Agreeing.bytes_of, Moves.MayMove, Sent.sent_by, Sparing.IsLeft}
use Rattle.ring_laws.specs.{Sparing.Spares}
use Rattle.pmd_access.specs.NicDevice.declared.event.Event.TheVariants as event
use Rattle.pmd_access.specs.NicDevice.declared.event.Reply.TheVariants as reply

-- A transmit step of the driver's queue keeps the agreement. A frame that it sends is added to the frames sent.
abbrev pub StepsOfQueueKeep : Type 0
StepsOfQueueKeep =
    (s : State) (queue : ℕ) (sent : List (List ℕ)) (v : Sender) → Agrees s queue sent v →
    Agrees (after s (event.TxStep queue)) queue (sent ++ sent_by queue s (event.TxStep queue)) v

-- An event that spares the driver keeps the agreement too.
abbrev pub SparingEventsKeep : Type 0
SparingEventsKeep =
    (s : State) (queue : ℕ) (sent : List (List ℕ)) (v : Sender) (e : Event Block) → Agrees s queue sent v →
    Spares queue v s e → Agrees (after s e) queue (sent ++ sent_by queue s e) v

-- An event spares the driver if it leaves the driver's queue alone according to the clauses that judge histories.
abbrev pub LeftAloneIsSpared : Type 0
LeftAloneIsSpared =
    (w : Watched) (mine : Blocks) (v : Sender) (s : State) (e : Event Block) → IsLeft w mine v s e →
    Spares w.queue v s e

-- Each of the driver's moves keeps the agreement: after the move, the device agrees with the driver's new state, which
-- depends on the reply.
abbrev pub MovesKeep : Type 0
MovesKeep =
    (s : State) (queue : ℕ) (sent : List (List ℕ)) (v : Sender) (e : Event Block) (m : Move) → Agrees s queue sent v →
    MayMove queue v s e m → Agrees (after s e) queue (sent ++ sent_by queue s e) (moved v m (reply_to s e))

-- `xs` is a prefix of `ys`.
abbrev pub IsPrefixOf : List (List ℕ) → List (List ℕ) → Type 0
IsPrefixOf xs ys = (rest : List (List ℕ)) × (ys ≡ xs ++ rest)

-- If device and driver agree, the frames sent are a prefix of the frames that the driver accepted.
abbrev pub SentIsPrefix : Type 0
SentIsPrefix =
    (s : State) (queue : ℕ) (sent : List (List ℕ)) (v : Sender) → Agrees s queue sent v →
    IsPrefixOf sent (bytes_of v.accepted)

-- If no packet is outstanding, the frames sent are all frames that the driver accepted.
abbrev pub IdleIsAllSent : Type 0
IdleIsAllSent =
    (s : State) (queue : ℕ) (sent : List (List ℕ)) (v : Sender) → Agrees s queue sent v → v.outstanding ≡ [] →
    bytes_of v.accepted ≡ sent

-- In this state, a poll of the last descriptor of the oldest outstanding packet would find it not done.
pub record FindsWaiting (s : State) (v : Sender) : Type 0 where
  pub bytes : List ℕ
  pub posted : first_end v.outstanding < v.posted
  pub reported : reply_to s (event.Peek16 (descriptor_at v.layout (first_end v.outstanding))) ≡ reply.Bytes bytes
  pub waits : is_sent bytes ≡ false

-- If the next poll would find the oldest outstanding packet not done, at least one accepted frame hasn't been sent. The
-- same was true at every earlier time.
abbrev pub WaitingIsNotAllSent : Type 0
WaitingIsNotAllSent =
    (s : State) (queue : ℕ) (sent : List (List ℕ)) (v : Sender) → Agrees s queue sent v → FindsWaiting s v →
    (early more : List (List ℕ)) → sent ≡ early ++ more → bytes_of v.accepted ≢ early
