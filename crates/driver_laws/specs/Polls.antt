-- The polls of a start that timed out, among the calls that its pass made.
use Rattle.std.specs.Prelude.{[], ◌&&◌, ◌++◌, ◌+◌, ◌==◌, ◌∷◌, ◌≡◌, Bool, List, false, if◌then◌else◌, not, true, ℕ}
use Rattle.driver_laws.specs.StartPrelude.{AtPort, Block, Call, Event, IsNumberOf, Pf, Port, Reply, Rxdctl, Txdctl, Vf}
use Rattle.driver_laws.specs.StartPrelude.{has_bit}
use Rattle.driver_laws.specs.TimedOut.{Asked, TimesOut, none_asked}
use Rattle.pmd_driver.specs.NicDevice.declared.event.Event.TheVariants as event
use Rattle.pmd_driver.specs.NicDevice.declared.event.Reply.TheVariants as reply

abbrev pub same_port : Port → Port → Bool
same_port Pf Pf = true
same_port (Vf v) (Vf u) = v == u
same_port p other = false

-- A port, and the register numbers that a queue's RXDCTL and TXDCTL have at that port.
pub record Enables : Type 0 where
  pub port : Port
  pub receive : ℕ
  pub transmit : ℕ

pub record AreEnables (q : AtPort) (w : Enables) : Type 0 where
  pub port : w.port ≡ q.port
  pub receive : IsNumberOf q.port Rxdctl q.queue w.receive
  pub transmit : IsNumberOf q.port Txdctl q.queue w.transmit

-- Whether the value last written at a register number has bit 25 set, and the state after another write.

abbrev pub is_asked : Enables → Asked → ℕ → Bool
is_asked w x number =
    if number == w.receive then x.receive else (if number == w.transmit then x.transmit else false)

abbrev pub with_asked : Enables → Asked → ℕ → Bool → Asked
with_asked w x number on =
    if number == w.receive then record x { receive = on }
    else (if number == w.transmit then record x { transmit = on } else x)

-- The state after an event.
abbrev pub asked_after : Enables → Asked → Event Block → Asked
asked_after w x (event.Write port number word) =
    if same_port port w.port then with_asked w x number (has_bit 25 word) else x
asked_after w x other = x

-- Whether an event is a miss: a read of one of the two registers returns bit 25 as 0, although the last write to that
-- register set the bit.
abbrev pub is_missed : Enables → Asked → Event Block → Reply Block → Bool
is_missed w x (event.Read port number) (reply.Word word) =
    same_port port w.port && (is_asked w x number && not (has_bit 25 word))
is_missed w x e r = false

-- The number of misses among these calls.
abbrev pub missed_in : Enables → Asked → List Call → ℕ
missed_in w x [] = 0
missed_in w x (c ∷ cs) = (if is_missed w x c.event c.reply then 1 else 0) + missed_in w (asked_after w x c.event) cs

-- If a start timed out, exactly 1,000 of its pass's calls after a certain point are misses, whatever numbers the two
-- registers have at the port.
abbrev pub PollsAreReported : Type 0
PollsAreReported =
    (q : AtPort) (old new : List Call) (x : TimesOut q old new) (w : Enables) → AreEnables q w →
    (these : List Call) × (new ≡ (old ++ x.before) ++ these) × (missed_in w none_asked these ≡ 1000)
