-- What the agreement implies for the packets that a driver returned, and for a poll that finds none.
use Rattle.std.specs.Prelude.{[], ◌++◌, ◌<◌, ◌≡◌, IsFalse, List, length, ℕ}
use Rattle.ring_laws.specs.Prelude.{Bytes, State, is_done, reply_to, second_half}
use Rattle.ring_laws.specs.ReceivePrelude.{Looks, Receive, descriptor_at, records_of}
use Rattle.ring_laws.specs.{Delivered.IsPrefixOf, Joint.Agree, Pieces.Piece, Pieces.packets_of}
use Rattle.pmd_access.specs.NicDevice.declared.event.Event.TheVariants as event

-- If the device and the driver agree, the packets that the driver returned are a prefix of the packets written since
-- the side was enabled.
abbrev pub HandedIsPrefix : Type 0
HandedIsPrefix =
    (queue : ℕ) (s : State) (out : List Piece) (v : Receive) → Agree queue s out v →
    IsPrefixOf v.handed (packets_of out)

-- In this state, a poll of the slot after those that the driver has seen would find the descriptor not done.
pub record ShowsNone (s : State) (v : Receive) : Type 0 where
  pub looks : v.stage ≡ Looks
  pub posted : length v.seen < length v.layout.blocks
  pub bytes : List ℕ
  pub reply : reply_to s (event.Peek16 (descriptor_at v.layout (length v.seen))) ≡ Bytes bytes
  pub waits : IsFalse (is_done (second_half bytes))

-- If the next poll finds the descriptor not done, all packets were taken: each packet was returned, or is complete and
-- will be returned when the tail advances.
abbrev pub NoneIsAllTaken : Type 0
NoneIsAllTaken =
    (queue : ℕ) (s : State) (out : List Piece) (v : Receive) → Agree queue s out v → ShowsNone s v →
    packets_of out ≡ v.handed ++ records_of v.whole

-- The next poll finds no packet, and no complete packet is waiting for the tail to advance.
pub record FindsNone (s : State) (v : Receive) : Type 0 where
  pub shows : ShowsNone s v
  pub none_whole : v.whole ≡ []

-- If the device and the driver agree in such a state, all written packets were returned.
abbrev pub NoneIsAll : Type 0
NoneIsAll =
    (queue : ℕ) (s : State) (out : List Piece) (v : Receive) → Agree queue s out v → FindsNone s v →
    packets_of out ≡ v.handed
