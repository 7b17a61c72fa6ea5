use Rattle.std.proofs.Common.{rules}
use Rattle.bench.proofs.Lines.{bytes-more}
use Rattle.bench.proofs.summary.byte_count.Goals as goal

pub loop-report-preserved : goal.loop-report-preserved
loop-report-preserved c =
    record {
      sum = bytes-more c.args.reports.now c.loop-report.report-index _ _ _ c.loop-report.invariant.sum
          c.from-bytes.ensures c.loop-report-test.true;
      bound = search rules;
    }
