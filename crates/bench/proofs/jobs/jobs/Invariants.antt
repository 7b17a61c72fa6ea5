use Rattle.std.proofs.Common.{◌≡◌, ◌+◌, vec_len}
use Rattle.std.specs.Vec.{vec_capacity}
use Rattle.std.specs.Vec.Iter.{into_iter_len}
use Rattle.bench.proofs.jobs.jobs.Given as goal

abbrev pub invariant-loop-pass : goal.invariant-loop-pass
invariant-loop-pass l =
    record {
      left : vec_len l.jobs + into_iter_len l.pass-iterator ≡ vec_len l.fn.passes;
      room : vec_capacity l.jobs ≡ vec_len l.fn.passes;
      number : l.worker ≡ vec_len l.jobs;
    }
