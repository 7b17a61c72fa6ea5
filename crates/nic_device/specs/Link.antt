-- The link, and the frames transmitted on it.
use Rattle.std.specs.Prelude.{ℕ, Bool, List, [], ◌∷◌, length, if◌then◌else◌}
use Rattle.std.specs.Bool.{beq}
use Rattle.nic_device.specs.Interrupt.{device_raised, link_cause}
use Rattle.nic_device.specs.State.{State}
use Rattle.nic_device.specs.Outcome.{Outcome, gives}
use Rattle.nic_device.specs.declared.event.Reply.TheVariants.{Done, Idle, Frame}

-- The link goes up or down. A change raises the link cause.
abbrev pub link_set : State → Bool → Outcome
link_set s up =
    if beq s.link up then gives Idle s
    else gives Done (record s { link = up; registers = device_raised s.registers link_cause })

-- The oldest transmitted frame is collected.
abbrev pub oldest_collected : State → List (ℕ × List ℕ) → Outcome
oldest_collected s [] = gives Idle s
oldest_collected s (frame ∷ others) = gives (Frame frame.0 frame.1) (record s { out = others })

abbrev pub collected : State → Outcome
collected s = oldest_collected s s.out

-- The length in bytes of the oldest transmitted frame, or 0 without one.
abbrev pub next_out_of : List (ℕ × List ℕ) → ℕ
next_out_of [] = 0
next_out_of (frame ∷ others) = length frame.1
