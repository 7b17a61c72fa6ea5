use Rattle.std.proofs.Common.{◌≡◌, take}
use Rattle.std.specs.Vec.{vec_len}
use Rattle.pmd.specs.Coming.{AreWays}
use Rattle.pmd.proofs.room.make_room.Given as goal

abbrev pub invariant-loop-job : goal.invariant-loop-job
invariant-loop-job l =
    record {
      starts : vec_len l.starts ≡ l.job-index;
      ways : AreWays (take l.job-index l.jobs) l.producers.items l.collectors.items;
    }
