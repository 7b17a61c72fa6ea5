-- What STATUS and LINKS read.
use Rattle.std.specs.Prelude.{ℕ, ◌≡◌, Bool, if◌then◌else◌}
use Rattle.nic_device.specs.declared.event.Event.TheVariants as event
use Rattle.datasheet_laws.specs.Prelude.{State, Word, after, reply_to_read}
use Rattle.datasheet_laws.specs.Shown.{reads_one}
use Rattle.datasheet_laws.specs.Steps.{control_address}

abbrev pub status_address : ℕ
status_address = 0x00008

abbrev pub links_address : ℕ
links_address = 0x042A4

-- STATUS reads 0x00080000, or 0 while CTRL bit 2 is 1.
abbrev pub StatusTellsOfSteps : Type 0
StatusTellsOfSteps =
    (s : State) →
    reply_to_read s status_address ≡ Word (if reads_one s control_address 2 then 0 else 0x00080000)

-- LINKS reads 0x70000000 while the link is up, otherwise 0.
abbrev pub links_word : Bool → ℕ
links_word up = if up then 0x70000000 else 0

abbrev pub LinksTellsTheLink : Type 0
LinksTellsTheLink = (s : State) → reply_to_read s links_address ≡ Word (links_word s.link)

-- LINKS reads this also right after the link was set up or down.
abbrev pub LinksTellsTheLinkSet : Type 0
LinksTellsTheLinkSet =
    (s : State) (up : Bool) → reply_to_read (after s (event.Link up)) links_address ≡ Word (links_word up)
