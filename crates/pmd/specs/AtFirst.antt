-- What the laws about a driver's life require when the driver starts, in terms of the entries of a history.
use Rattle.std.specs.Prelude.{◌*◌, ◌<◌, ◌≤◌, All, List, ℕ, length}
use Rattle.pmd_driver.specs.NicDevice.DmaArena.Numbers.{count_of}
use Rattle.driver_laws.specs.StartPrelude.{AreEvents, Call, Entry, FitsBlocks, IsLegal, Numbers, State, Watched}
use Rattle.driver_laws.specs.StartPrelude.{most_blocks, new_state}
use Rattle.driver_laws.specs.{Asked.asked_of, Faultless.NoneLent, Prelude.HasGround, Prelude.IsQuiet}
use Rattle.pmd.specs.{Beginning.BeginsWell, Fitting.FramesFit, Lending.OthersLendNone, Lending.are_from}
use Rattle.pmd.specs.{Points.HoldsAtFirst, Points.JustBefore, Quiet.NeverAskedOn}
use Rattle.pmd.specs.declared.beginning.Given.{Given}
use Rattle.driver_laws.specs.Asked as asked

-- Take a history of a new device in which a driver begins well. Just before the driver's first event, its port and
-- queue number identify the watched queue, and the device's frame limit matches the maximum length of the driver's
-- frames.
abbrev pub BegunHasGround : Type 0
BegunHasGround =
    (w : Watched) (fifo : ℕ) (old : List Call) (given : Given) (h : List Entry) →
    (w.vfs ≤ 63) × (0 < fifo) × (fifo ≤ 4096) → AreEvents h → BeginsWell w (length old) given h →
    HoldsAtFirst w fifo old h (HasGround w.queue (record { port = given.port; queue = given.queue }) given.frame)

-- Take a history in which a driver begins well and no entry before its first entry tries to enable its queue. Just
-- before that first entry, both sides of the queue are off, with no enable request pending.
abbrev pub NeverAskedIsQuiet : Type 0
NeverAskedIsQuiet =
    (w : Watched) (fifo : ℕ) (old : List Call) (given : Given) (h : List Entry) →
    (w.vfs ≤ 63) × (0 < fifo) × (fifo ≤ 4096) → AreEvents h → BeginsWell w (length old) given h →
    NeverAskedOn w (length old) h →
    JustBefore w.vfs fifo w.pass old h
    (IsQuiet w.queue (record { port = given.port; queue = given.queue }) given.frame)

-- Take a legal history whose entries show that nobody else lends an arena's blocks. After the first entry of the
-- driver's pass, no other pass tries to lend any of these blocks that the driver's pass tries to lend. None of those
-- blocks is lent just before the driver's first event.
abbrev pub OthersLendNoneIsAlone : Type 0
OthersLendNoneIsAlone =
    (w : Watched) (fifo : ℕ) (old : List Call) (a : Numbers) (h : List Entry) → IsLegal (new_state w.vfs fifo) h →
    AreEvents h → OthersLendNone w (length old) (are_from a.first (count_of a)) h →
    asked.OthersLendNone w.pass (asked_of w a h) h × HoldsAtFirst w fifo old h (NoneLent (asked_of w a h))

-- The frames that wait for the queue fit the number of blocks that a packet of the driver may take.
abbrev pub AllFitBlocks : (queue frame : ℕ) → State → Type 0
AllFitBlocks queue frame s = All (FitsBlocks queue (most_blocks frame)) s.waiting

-- Take a legal history whose entries show that the frames fit. Just before the driver's first event, the frames that
-- wait for the queue fit the number of blocks that a packet of the driver may take.
abbrev pub FramesFitIsShort : Type 0
FramesFitIsShort =
    (w : Watched) (fifo : ℕ) (old : List Call) (frame : ℕ) (h : List Entry) → IsLegal (new_state w.vfs fifo) h →
    FramesFit w (length old) (2048 * most_blocks frame) h → HoldsAtFirst w fifo old h (AllFitBlocks w.queue frame)
