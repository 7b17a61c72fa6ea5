-- What a driver that was started and later stopped handed out and sent.
use Rattle.std.specs.Prelude.{◌≡◌, List, ◌++◌, Option}
use Rattle.driver_laws.specs.StartPrelude.{calls_of, Call, left_accepted, left_handed, Rest, PmdFault}
use Rattle.driver_laws.specs.Course.{Course, IsHandedInOrder, IsSentInOrder}
use Rattle.driver_laws.specs.Prelude.{IsAlong, BeginsWell}
use Rattle.pmd_driver.specs.Life.{HasLived}

-- A driver whose start brought both rings up, and which was later stopped. The history is a legal history of a sound
-- device and leaves the queue alone.
pub record Ended : Type 0 where
  pub course : Course
  pub open course use *
  pub new : List Call
  pub left : Rest
  pub late : Option PmdFault
  pub lived : HasLived q size frame old a new left late
  pub along : IsAlong w origin h
  pub begins : BeginsWell w origin h q size frame old a lived.lives.made lived.lives.fresh lived.lives.up

-- The history ends just before the driver's stop.
abbrev pub IsToStop : Ended → Type 0
IsToStop x = calls_of x.w.pass x.h ≡ x.lived.made

-- The history ends during or after the stop, successful or not: `since` contains the calls of the stop made so far.
pub record IsOver (x : Ended) : Type 0 where
  pub since : List Call
  pub rest : List Call
  pub all : x.new ≡ (x.lived.made ++ since) ++ rest
  pub calls : calls_of x.w.pass x.h ≡ x.lived.made ++ since

abbrev pub LeavesHanded : Ended → Type 0
LeavesHanded x = IsHandedInOrder x.course (left_handed x.left)

abbrev pub LeavesSent : Ended → Type 0
LeavesSent x = IsSentInOrder x.course (left_accepted x.left)

-- The packets that the driver's stop returns as handed out are a prefix of those delivered. The frames sent are a
-- prefix of those that the stop returns as accepted.
abbrev pub LeftIsPrefix : Type 0
LeftIsPrefix = (x : Ended) → IsToStop x → LeavesHanded x × LeavesSent x

-- Packets and frames are also in order during and after the stop, including everything delivered and sent since the
-- stop began.

abbrev pub HandedOverStop : Type 0
HandedOverStop = (x : Ended) → IsOver x → LeavesHanded x

abbrev pub SentOverStop : Type 0
SentOverStop = (x : Ended) → IsOver x → LeavesSent x
