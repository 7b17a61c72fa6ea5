-- A queue with no enable request in effect for its receive side, and a queue with both sides off.
use Rattle.std.specs.Prelude.{◌≡◌, IsFalse, false, ℕ}
use Rattle.driver_laws.specs.StartPrelude.{Block, Blocks, Event, IsSound, Port, Rx, Rxdctl, State, Watched, after}
use Rattle.driver_laws.specs.StartPrelude.{has_bit}
use Rattle.driver_laws.specs.StartPrelude.{reply_to, side_of}
use Rattle.driver_laws.specs.{Moves.IsMet, Standing.IsLeft, Standing.Stand, Words.NamesRow}
use Rattle.pmd_driver.specs.NicDevice.declared.event.Event.TheVariants as event
use Rattle.pmd_driver.specs.NicDevice.declared.event.Reply.TheVariants as reply
use Rattle.ring_laws.specs.Sides as sides
use Rattle.ring_laws.specs.Off as transmit

-- No enable request is in effect for the receive side. For `IsOff`, the side is off too.
abbrev pub IsUnwanted : ℕ → State → Type 0
IsUnwanted queue s = sides.IsUnwanted (side_of Rx queue s)

abbrev pub IsOff : ℕ → State → Type 0
IsOff queue s = sides.IsOff (side_of Rx queue s)

-- After the enable word is written with bit 25 clear, no enable request is in effect for the receive side, whether the
-- side is enabled or disabled. Every event that leaves the queue alone preserves this. If a later read of the enable
-- word returns bit 25 as 0, the side is disabled.
pub record ReceiveGuardIsOff : Type 0 where
  pub written :
      (queue : ℕ) (s : State) (port : Port) (number word : ℕ) → IsMet queue s
      → NamesRow s port number Rxdctl queue → IsFalse (has_bit 25 word)
      → IsUnwanted queue (after s (event.Write port number word))
  pub left :
      (w : Watched) (mine : Blocks) (s : State) (e : Event Block) → IsLeft w mine s e → IsUnwanted w.queue s
      → IsUnwanted w.queue (after s e)
  pub read :
      (queue : ℕ) (s : State) (port : Port) (number word : ℕ) → IsUnwanted queue s
      → NamesRow s port number Rxdctl queue → reply_to s (event.Read port number) ≡ reply.Word word
      → IsFalse (has_bit 25 word) → IsOff queue (after s (event.Read port number))

-- No block.
abbrev pub no_block : Blocks
no_block number = false

-- In a sound device, two sides that are disabled with no enable request pending stay as they are.
abbrev pub OffSidesStand : Type 0
OffSidesStand =
    (queue : ℕ) (s : State) → IsSound s → IsOff queue s → transmit.IsOff queue s →
    Stand queue (λ dir. side_of dir queue s) no_block s
