use Rattle.std.proofs.Common.{◌∙◌, ◌+◌, ℕ, ap, arith, sym}
use Rattle.std.proofs.lemmas.List.Sums.{count_by_more_no, count_by_more_yes}
use Rattle.bench.specs.Summary.{is_sent}
use Rattle.pmd.specs.DeviceLock.declared.entry.Entry.{Entry}
use Rattle.bench.proofs.summary.sent_in.Goals as goal
use Rattle.bench.proofs.summary.sent_in.Goals.{else-is_sent, then-is_sent}

pub loop-entry-preserved : goal.loop-entry-preserved
loop-entry-preserved c =
    let p = λ (e : Entry). is_sent e.reply in
    let here = ap p (sym c.entry-item.is) ∙ sym c.is_sent.ensures in
    let few = c.loop-entry.invariant.bound in
    elim c.if-is_sent.branch [
      | then-is_sent w ↦
          let more = count_by_more_yes p c.args.history.now c.loop-entry.entry-index c.entry-item.result
          c.loop-entry-test.true (here ∙ w.if-is_sent.true) in
          record {
            sent = w.sent-is ∙ ap (λ (k : ℕ). k + 1) c.loop-entry.invariant.sent ∙ sym more;
            bound = rw w.sent-is (omega (arith, few));
          }
      | else-is_sent w ↦
          let same = count_by_more_no p c.args.history.now c.loop-entry.entry-index c.entry-item.result
          c.loop-entry-test.true (here ∙ w.if-is_sent.false) in
          record {
            sent = w.sent-is ∙ c.loop-entry.invariant.sent ∙ sym same;
            bound = rw w.sent-is (omega (arith, few));
          }
    ]
