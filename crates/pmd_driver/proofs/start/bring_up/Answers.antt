use Rattle.pmd_driver.proofs.Stages.{both_empty, first_place, is_up, second_place, starts_up, stops_after, stops_before, stops_late}
use Rattle.pmd_driver.proofs.Starting.{before_out, after_out, filled_rings}
use Rattle.pmd_driver.proofs.start.bring_up.Goals as goal

pub receive_ring-requires-clause-place : goal.receive_ring-requires-clause-place
receive_ring-requires-clause-place g c = first_place c.requires

pub transmit_ring-requires-clause-place : goal.transmit_ring-requires-clause-place
transmit_ring-requires-clause-place g c = second_place c.requires c.in-Ok.ensures.prepares.1

pub left_before_one-requires : goal.left_before_one-requires
left_before_one-requires g c = before_out _ _ _ _ _ _ _ _ c.in-Err.ensures.prepares

pub left_after_one-requires : goal.left_after_one-requires
left_after_one-requires g c =
    after_out c.in-Ok.ensures.prepares.0 _ _ c.in-Err-transmit_ring.ensures.prepares

pub go_on-requires : goal.go_on-requires
go_on-requires g c = both_empty c.in-Ok.ensures.prepares.0 c.requires c.in-Ok-transmit_ring.ensures.prepares

pub new-running-requires : goal.new-running-requires
new-running-requires g c =
    is_up c.in-Ok.ensures.prepares.0 c.requires c.in-Ok-transmit_ring.ensures.prepares c.in-Ok-go_on.ensures.goes

pub of_rings-halted-requires : goal.of_rings-halted-requires
of_rings-halted-requires g c =
    filled_rings c.in-Ok.ensures.prepares.0 c.in-Ok-transmit_ring.ensures.prepares c.go_on.ensures.goes.keeps

pub returns-in-Err-clause-stops : goal.returns-in-Err-clause-stops
returns-in-Err-clause-stops g c =
    let left = c.left_before_one in
    stops_before left.result left.ensures.fault c.in-Err.ensures.prepares left.ensures.rest

pub returns-in-Err-transmit_ring-clause-stops : goal.returns-in-Err-transmit_ring-clause-stops
returns-in-Err-transmit_ring-clause-stops g c =
    rw c.left_after_one.ensures
    (stops_after c.in-Ok.ensures.prepares.0 c.in-Err-transmit_ring.ensures.prepares)

pub returns-in-Ok-go_on-clause-starts : goal.returns-in-Ok-go_on-clause-starts
returns-in-Ok-go_on-clause-starts g c =
    rw (c.of.ensures, c.new-running.ensures)
    (starts_up c.in-Ok.ensures.prepares.0 c.requires c.in-Ok-transmit_ring.ensures.prepares
    c.in-Ok-go_on.ensures.goes)

pub returns-in-Err-go_on-clause-stops : goal.returns-in-Err-go_on-clause-stops
returns-in-Err-go_on-clause-stops g c =
    rw (c.half_started.ensures, c.of_rings-halted.ensures)
    (stops_late c.in-Ok.ensures.prepares.0 c.requires c.in-Ok-transmit_ring.ensures.prepares
    c.in-Err-go_on.ensures.goes)
