-- Re-exports the names that the proofs of this crate use most. Declares nothing.
pub use Rattle.pmd_driver.proofs.DeviceLock.Histories.{events-append, leads-append, legal-append, legal_past}
pub use Rattle.pmd_driver.specs.DeviceLock.Alone.{has_begun, lent_in}
pub use Rattle.driver_laws.specs.Places.{Balances, EachInOnePlace, IsReportedAlone, LentIsOut, OutIsLent, is_out}
pub use Rattle.driver_laws.specs.Places.{memory_after}
pub use Rattle.driver_laws.specs.Prelude.{AreMadeOf, BeforeLast, EndsOnceOff, FaultsEarly, FaultsFilling, TakesOnceOff}
pub use Rattle.driver_laws.specs.Prelude.{AreOn, Ends, HasGround, IsAlong, IsAsking, IsEnding, IsQuiet, IsSilent}
pub use Rattle.driver_laws.specs.Reported.{
  AllFollow,
  Drove,
  Follows,
  HasNoneOut,
  IsReported,
  IsReportedOf,
  Moment,
  Reported,
  last,
}
pub use Rattle.driver_laws.specs.{Beside.Beside, Beside.GoesOn, Beside.IsReportedBy, Beside.WasReported, Beside.now}
pub use Rattle.driver_laws.specs.{Course.Course, Faultless.BeginsApart, Faultless.IsFresh, Faultless.NoneLent}
pub use Rattle.driver_laws.specs.{Life.IsLife, Life.Life}
pub use Rattle.driver_laws.{specs.Ends.Ended, specs.Ends.IsOver, specs.Lends.first_of, specs.Stopped.IsStopping}
pub use Rattle.pmd_driver.proofs.NicDevice.{Cases.either_way, DmaArena.Arenas.is_own-of_free, Steps.new_sound}
pub use Rattle.pmd_driver.specs.NicDevice.{DmaArena.Numbers.count_of, State.Waiting}
pub use Rattle.pmd_driver.specs.NicDevice.{State.cleared, VfMap.Owner.has_queue}
pub use Rattle.pmd_driver.proofs.PmdAccess.Rings.{among_times, ring_block_among, times_among}
pub use Rattle.pmd_driver.proofs.{Apart.apart_on, Apart.receiving_apart, Followed.receiving_drives}
pub use Rattle.pmd_driver.proofs.Followed.{sending_drives}
pub use Rattle.pmd_driver.specs.{Apart.OwnsSame, Halves.Drives}
pub use Rattle.pmd_driver.specs.PmdAccess.{Begun.LeadsTo, Both.receive_polled}
pub use Rattle.pmd_driver.specs.{PmdAccess.QueueMade.IsStrayRead, PmdRx.Plays.PlaysFrom}
pub use Rattle.pmd_driver.specs.PmdTx.Plays.{LooksLast}
pub use Rattle.pmd_driver.specs.Starting.{IsTransmitReady, LendsEach, PreparingFails}
pub use Rattle.pmd_driver.specs.{Starting.ReceiveFails, Stopping.closed}
pub use Rattle.pmd_driver.{proofs.PmdAccess.Outside.times-append, specs.Life.HasLived}
pub use Rattle.pmd_driver.specs.Life.{IsStopped}
pub use Rattle.pmd_driver.specs.{Life.Lives, PmdAccess.Home.IsDrawn}
pub use Rattle.pmd_driver.specs.PmdAccess.Scheduled.{own_calls}
pub use Rattle.pmd_driver.specs.PmdAccess.Sides.{PollsEnd, missed}
pub use Rattle.pmd_driver.specs.PmdAccess.Sides.{polled}
pub use Rattle.pmd_driver.specs.PmdAccess.Sides.{quiet}
pub use Rattle.driver_laws.proofs.Meeting.{LeadsApart, drives_lead, harmless_apart, leads_on, left}
pub use Rattle.driver_laws.proofs.Parts.{Parts, around, calls_joined, none_past, one_begins, parts}
pub use Rattle.driver_laws.proofs.Parts.{events_same, legal_same, same_delivers, same_leads, same_sends}
pub use Rattle.ring_laws.proofs.InOrder.{calls_other, calls_own, image_stays, since-append, vfs_stays}
pub use Rattle.driver_laws.proofs.CallKinds.{none_made, some_made, then_made}
pub use Rattle.driver_laws.proofs.SwitchedOff.{IsSettled, Settles, ending_plain, left_settles}
pub use Rattle.{driver_laws.proofs.TimedOut.faults_are_early_or_filling, ring_laws.proofs.InOrder.sent_is_counted}
pub use Rattle.{driver_laws.proofs.Ground.ground_kept, ring_laws.proofs.Alone.lent_before}
pub use Rattle.{ring_laws.proofs.Left.left-setting}
pub use Rattle.driver_laws.proofs.Ground.{ground_same, plain_keeps, plain_setting}
pub use Rattle.{pmd_driver.proofs.DeviceLock.Histories.events_before}
pub use Rattle.{pmd_driver.proofs.DeviceLock.Histories.legal_before, ring_laws.proofs.Left.left-side}
pub use Rattle.driver_laws.specs.StartPrelude.{Access, AllOwn, AtPort, Blocks, Halted, lent_by, mode_in, sent_by}
pub use Rattle.driver_laws.specs.StartPrelude.{sent_in}
pub use Rattle.driver_laws.specs.StartPrelude.{Adds, AllLendApart, WritesOutside, left_accepted, pieces_since}
pub use Rattle.driver_laws.specs.StartPrelude.{times_in_hand}
pub use Rattle.driver_laws.specs.StartPrelude.{AreEvents, FindsNone, delivered, halted_of, halves_of, ring_words}
pub use Rattle.driver_laws.specs.StartPrelude.{sent_since}
pub use Rattle.driver_laws.specs.StartPrelude.{AreMade, PmdFault, Receives, Register, arena_of, bytes_of, calls_of}
pub use Rattle.driver_laws.specs.StartPrelude.{has_lent}
pub use Rattle.driver_laws.specs.StartPrelude.{AreSteps, OnlyLent, Rx, handed_of, has_block, new_state, places_of}
pub use Rattle.driver_laws.specs.StartPrelude.{played_by}
pub use Rattle.driver_laws.specs.StartPrelude.{AreUp, FitsBlocks, IsNumberOf, IsPrepared, IsSwitched, both_quiet}
pub use Rattle.driver_laws.specs.StartPrelude.{enable_row}
pub use Rattle.driver_laws.specs.StartPrelude.{Block, StopsBy, Watched, WhereUp, call_in, call_of, has_bit, is_free}
pub use Rattle.driver_laws.specs.StartPrelude.{is_step}
pub use Rattle.driver_laws.specs.StartPrelude.{Call, Doer, Mode, Port, Rest, Sees, Sets, Tx, Up, lends, named, place}
pub use Rattle.driver_laws.specs.StartPrelude.{DeviceFault, IsReceiveReady, LeavesAloneFrom, asks_pool_reset}
pub use Rattle.driver_laws.specs.StartPrelude.{packets_if_any}
pub use Rattle.driver_laws.specs.StartPrelude.{Dir, IsEvent, IsLegal, IsSound, Numbers, Receive, Running, leads_to}
pub use Rattle.driver_laws.specs.StartPrelude.{reply_to}
pub use Rattle.driver_laws.specs.StartPrelude.{DrivesApart, DrivesRings, accepted_of, left_handed, most_blocks}
pub use Rattle.driver_laws.specs.StartPrelude.{ring_blocks}
pub use Rattle.driver_laws.specs.StartPrelude.{Entry, Halves, IsMade, Memory, Packet, Rxdctl, Sender, is_own, pieces}
pub use Rattle.driver_laws.specs.StartPrelude.{Event, Piece, Place, Reply, Rings, RowId, Sends, State, after, is_on}
pub use Rattle.driver_laws.specs.StartPrelude.{row_of}
pub use Rattle.{driver_laws.specs.Along.AtCalls, driver_laws.specs.Before.OnlyPassLends}
pub use Rattle.{driver_laws.specs.Harmless.OthersHarmless, ring_laws.specs.Laws.IsPrefixOf}
pub use Rattle.driver_laws.specs.{Along.AtEntries, Along.IsKept, Harmless.Leads, Ending.Each, Stopping.Asks}
pub use Rattle.driver_laws.{proofs.InOrder.led, proofs.On.sized, specs.Agreeing.AreLent, specs.Agreeing.BothAgree}
pub use Rattle.std.proofs.Common.{[], ◌+◌, ◌-◌, ◌<◌, ◌∙◌, ◌∷◌, ◌≡◌, ◌≢◌, ◌≤◌, ◌⊎◌, ap, max, not, suc, sym}
pub use Rattle.std.proofs.Common.{⊎_elim, Bool, Option, append_assoc, arith, false, length, nat_cmp, nat_lt, option_map}
pub use Rattle.std.proofs.Common.{◌&&◌, ◌++◌, ◌||◌, List, None, Some, cond, inl, inr, refl, rules, subst, true, zero, ℕ}
pub use Rattle.std.proofs.lemmas.Bool.{and_parts, both_ways, cases_Bool, eq-eqb, false_from_ne_true, true_from_ne_false}
pub use Rattle.std.proofs.{lemmas.List.append-nil, lemmas.List.append_cancel_left, lemmas.List.same_from_push}
pub use Rattle.std.specs.{Prelude.All, Prelude.IsFalse, Prelude.IsTrue, Prelude.is_some, Prelude.⊤, Prelude.◌==◌}
pub use Rattle.std.{proofs.lemmas.Bool.or_cases, proofs.lemmas.Grind.common_steps, specs.List.list_any}
