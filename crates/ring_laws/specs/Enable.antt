-- Which writes to the enable register of a queue's transmit side keep the agreement.
use Rattle.std.specs.Prelude.{[], ◌≡◌, List, true, ℕ}
use Rattle.ring_laws.specs.Prelude.{IsEvent, Port, State, after, has_bit}
use Rattle.ring_laws.specs.TransmitPrelude.{Sender}
use Rattle.ring_laws.specs.{Agreeing.Agrees, Off.NamesEnable}
use Rattle.pmd_access.specs.NicDevice.declared.event.Event.TheVariants as event

-- Suppose that the written value doesn't request that the side be enabled, or that no packet is outstanding. If the
-- device and the driver agree before the write, they also agree after it.
abbrev pub EnableWordsKeep : Type 0
EnableWordsKeep =
    (s : State) (queue : ℕ) (sent : List (List ℕ)) (v : Sender) (port : Port) (number word : ℕ) →
    IsEvent (event.Write port number word) → NamesEnable queue s port number →
    (has_bit 25 word ≡ true → v.outstanding ≡ []) → Agrees s queue sent v →
    Agrees (after s (event.Write port number word)) queue sent v
