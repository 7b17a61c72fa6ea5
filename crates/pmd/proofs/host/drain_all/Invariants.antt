use Rattle.pmd.specs.Coming.{AreDrained}
use Rattle.pmd.proofs.host.drain_all.Given as goal

abbrev pub invariant-loop-collector : goal.invariant-loop-collector
invariant-loop-collector l = AreDrained l.fn.collectors l.collectors
