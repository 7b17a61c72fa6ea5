-- Re-exports the definitions that the proofs of these laws use most. Declares nothing.
unfoldable pub use Rattle.pmd_driver.specs.NicDevice.Step.{step_of}
pub use Rattle.pmd_driver.proofs.DeviceLock.Histories.{events_before, events_after, leads-append, legal_past}
pub use Rattle.pmd_driver.specs.DeviceLock.Alone.{WritesOutside, is_setting}
pub use Rattle.pmd_driver.specs.NicDevice.RegTable.{Rows.row_of, Runs.runs, declared.rows.RowId.TheVariants.Tdwbah}
pub use Rattle.pmd_driver.specs.NicDevice.RegisterFile.Access.{asks_pool_reset, asks_reset}
pub use Rattle.pmd_driver.specs.NicDevice.RegisterFile.{Owner.owner_of, Registers.word_of}
pub use Rattle.pmd_driver.specs.NicDevice.declared.event.Reply.TheVariants.{Done, Wrote}
pub use Rattle.pmd_driver.specs.NicDevice.{Access.named_written, Outcome.Outcome}
pub use Rattle.pmd_driver.specs.NicDevice.{Outcome.gives, VfMap.Owner.is_transmit}
pub use Rattle.pmd_driver.proofs.DeviceLock.{NicDevice.Cases.lent_cases, NicDevice.Steps.keeps_sound}
pub use Rattle.pmd_driver.specs.NicDevice.VfMap.Owner.{is_receive}
pub use Rattle.pmd_driver.specs.PmdAccess.QueueMade.{IsOtherwise, IsStrayRead, StopsBy}
pub use Rattle.pmd_driver.proofs.Apart.{both_apart}
pub use Rattle.pmd_driver.specs.PmdAccess.Sides.{PollsEnd}
pub use Rattle.pmd_driver.specs.PmdTx.Sending.{IsOwn}
pub use Rattle.ring_laws.proofs.InOrder.{calls_other, calls_own, since-append, vfs_stays}
pub use Rattle.ring_laws.proofs.DeviceLaws.Standing.{memory_blocks, memory_rest, stays_within}
pub use Rattle.ring_laws.proofs.DeviceLaws.StandingAccesses.{read_rest, write_memory, write_rest}
pub use Rattle.ring_laws.proofs.Left.{plain-write, queues_left, transmit_left}
pub use Rattle.ring_laws.proofs.Steady.{IsIdle, asked, idle_silent, idle_steady, not_again, steady_kept}
pub use Rattle.ring_laws.proofs.{Alone.histories_sound, Deeds.left_deed, Deeds.left_did, Steady.reported_on}
pub use Rattle.ring_laws.proofs.{InOrder.sent_is_counted, ReceiveLent.mine_driven, TransmitLent.mine-moved}
pub use Rattle.ring_laws.proofs.{DeviceLaws.KeptSettings.settings_stand, Fitting.none_begun_while_off}
pub use Rattle.ring_laws.specs.{Delivered.gathered, DeviceLaws.Laws.WritesNoSetting, Fitting.AreFitting, ReceiveUp.IsUp}
pub use Rattle.ring_laws.specs.{Sides.IsOff, Pieces.Piece, Pieces.packets_of, Sparing.Spares}
pub use Rattle.ring_laws.{proofs.Begun.begun_stays, proofs.Foreign.no_registers, specs.Left.Deed}
pub use Rattle.driver_laws.specs.Along.{AtCalls, AtEntries, BeforeLast, IsAlong, IsKept, Leads}
pub use Rattle.driver_laws.specs.Points.{AllMay, HasGround, IsEnable, Point, Sides, after_access, after_accesses}
pub use Rattle.driver_laws.specs.{Agreeing.AreLent, Agreeing.BothAgree, Stopping.AreMadeOf, Stopping.Ends}
pub use Rattle.driver_laws.specs.{Ending.IsEnding, Ending.IsPlain, FaultlessStart.BeforeNext, Points.seen_by}
pub use Rattle.driver_laws.specs.{Quiet.no_block}
pub use Rattle.driver_laws.specs.{FaultlessStart.Never, Moves.IsMet, Moves.IsSized, Moves.and_one, Moves.side_seen}
pub use Rattle.driver_laws.specs.{Healthy.IsHealthy, Quieting.IsQuiet, TimedOut.AllAre, Unused.AreUnused}
pub use Rattle.driver_laws.specs.{Histories.IsDriven, Histories.doer_of, Histories.doers_after, Standing.Stands}
pub use Rattle.driver_laws.specs.{Standing.IsZero, Words.Fits, Words.NamesRow, Words.across, Words.side_with}
pub use Rattle.{pmd_driver.specs.PmdRx.Receive.block_at, pmd_driver.specs.PmdRx.Receive.reach}
pub use Rattle.driver_laws.specs.Standing.{Stand}
