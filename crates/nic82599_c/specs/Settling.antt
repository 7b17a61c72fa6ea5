-- The device's steps, run in rounds until no step has anything left to do.
use Rattle.std.specs.Prelude.{◌≡◌, ◌⊎◌, ℕ, zero, suc, ◌==◌, ◌||◌, Bool, true, false, nat_lt, List, [], ◌∷◌, ◌++◌, length, take, if◌then◌else◌}
use Rattle.nic_device.specs.DmaArena.Block.{Block}
use Rattle.nic_device.specs.DmaRing.declared.dir.Dir.TheVariants as dir
use Rattle.nic_device.specs.Step.{reply_to, TakesMemory}
use Rattle.nic_device.specs.declared.event.Event.{Event}
use Rattle.nic_device.specs.declared.event.Event.TheVariants as event
use Rattle.card.specs.Card.{Holdings, made}
use Rattle.nic82599_c.specs.Outcome.{status_of, outcome_of, group_of}
use Rattle.nic82599_c.specs.declared.settling.Step.{Step}
use Rattle.nic82599_c.specs.declared.settling.Step.TheVariants as step
use Rattle.nic82599_c.specs.declared.outcome.Outcome.{Outcome}

-- The event that runs a step.
abbrev pub event_of : Step → Event Block
event_of (step.RxEnable queue) = event.QueueStep dir.Rx queue
event_of (step.TxEnable queue) = event.QueueStep dir.Tx queue
event_of step.Eeprom = event.EepromStep
event_of (step.Transmit queue) = event.TxStep queue
event_of step.Receive = event.RxStep
event_of (step.Interrupt group) = event.IntStep (group_of group)

-- The number of a step's kind, and the number of its queue or group.
abbrev pub number_of : Step → ℕ
number_of (step.RxEnable queue) = 0
number_of (step.TxEnable queue) = 1
number_of step.Eeprom = 2
number_of (step.Transmit queue) = 3
number_of step.Receive = 4
number_of (step.Interrupt group) = 5

abbrev pub place_of : Step → ℕ
place_of (step.RxEnable queue) = queue
place_of (step.TxEnable queue) = queue
place_of step.Eeprom = 0
place_of (step.Transmit queue) = queue
place_of step.Receive = 0
place_of (step.Interrupt group) = group

-- The report on a step, with the numbers of the step's kind and of its queue or group.
abbrev pub named : Outcome → Step → Outcome
named outcome s = record outcome { step = number_of s; of = place_of s }

-- The enable steps for each queue below a number.
unfoldable pub enables : ℕ → List Step
enables zero = []
enables (suc queue) = (enables queue ++ step.RxEnable queue ∷ []) ++ step.TxEnable queue ∷ []

-- One step for each queue or group below a number.
unfoldable pub of_each : (ℕ → Step) → ℕ → List Step
of_each step_of zero = []
of_each step_of (suc place) = of_each step_of place ++ step_of place ∷ []

-- The steps of a round: the receive enable step and the transmit enable step for each queue below a number; the EEPROM
-- step; one transmit step for each of these queues; one receive step; and the interrupt steps for the physical function
-- and for 63 virtual functions.
abbrev pub round_of : ℕ → List Step
round_of queues =
    (((enables queues ++ step.Eeprom ∷ []) ++ of_each step.Transmit queues) ++ step.Receive ∷ [])
    ++ of_each step.Interrupt 64

-- The progress of a call to `nic_settle`: the card, the reports so far, and the status with which it ended, 0 while it
-- continues.
pub record Course : Type 0 where
  pub card : Holdings
  pub outcome : List Outcome
  pub ended : ℕ

-- Whether a status means that the step did nothing.
abbrev pub is_quiet : ℕ → Bool
is_quiet status = status == 2 || status == 18 || status == 19

-- A step runs, and is reported if the step did something.
abbrev pub step_made : Course → Step → Course
step_made c s =
    if is_quiet (status_of (reply_to c.card.device (event_of s)))
    then record c { card = made c.card (event_of s) }
    else record c {
      card = made c.card (event_of s);
      outcome = c.outcome ++ named (outcome_of (reply_to c.card.device (event_of s))) s ∷ [];
    }

-- The next step runs, unless the array is full or settling has ended.
abbrev pub stepped : ℕ → Course → Step → Course
stepped room c s =
    if c.ended == 0 then (if nat_lt (length c.outcome) room then step_made c s else record c { ended = 38 }) else c

-- Steps run in order.
unfoldable pub walked : ℕ → Course → List Step → Course
walked room c [] = c
walked room c (s ∷ rest) = walked room (stepped room c s) rest

-- A round is the last one if settling ended during the round or the round reported nothing. Otherwise another round
-- follows.
abbrev pub is_over : ℕ → ℕ → ℕ → Bool
is_over ended before after = if ended == 0 then before == after else true

abbrev pub is_last : Course → Course → Bool
is_last before after = is_over after.ended (length before.outcome) (length after.outcome)

-- The progress after at most this many rounds.
unfoldable pub rounds : ℕ → ℕ → List Step → Course → Course
rounds zero room steps c = record c { ended = 38 }
rounds (suc more) room steps c =
    if is_last c (walked room c steps) then walked room c steps else rounds more room steps (walked room c steps)

-- The result of settling with an array of `room` entries. Each round except the last fills at least one entry.
abbrev pub settled : ℕ → ℕ → Holdings → Course
settled queues room card = rounds room room (round_of queues) (record { card = card; outcome = []; ended = 0 })

-- The progress of which the reports are the first `count` entries of an array.
abbrev pub course : Holdings → List Outcome → ℕ → ℕ → Course
course card outcome count ended = record { card = card; outcome = take count outcome; ended = ended }

-- Running the steps of a round stops because memory ran out for a step that needs memory. The steps before this step
-- have run; this step and the later steps haven't.
pub record Stops (room : ℕ) (steps : List Step) (before after : Course) : Type 0 where
  pub done : List Step
  pub step : Step
  pub rest : List Step
  pub whole : steps ≡ done ++ step ∷ rest
  pub leads : after ≡ walked room before done
  pub wants : TakesMemory after.card.device (event_of step)

-- One of at most this many rounds stops because memory ran out, and none of the rounds before it was the last one.
unfoldable pub StopsIn : ℕ → ℕ → List Step → Course → Course → Type 0
StopsIn zero room steps before after = ⊥
StopsIn (suc more) room steps before after =
    Stops room steps before after
    ⊎ ((is_last before (walked room before steps) ≡ false) × StopsIn more room steps (walked room before steps) after)
