use Rattle.std.proofs.Common.{arith}
use Rattle.pmd.proofs.reports.Collector.with_room.Goals as goal

pub returns-clause-room : goal.returns-clause-room
returns-clause-room c =
    let places = c.max-places.ensures in
    let ring = c.in_ok-producer.ensures.producer in
    (omega (arith, places, ring), omega (arith, places, c.in_ok-reports.ensures.capacity))
