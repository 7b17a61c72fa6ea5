use Rattle.std.proofs.Common.{sym, ◌∙◌, arith}
use Rattle.register_file.specs.Mailbox.{done_reported}
use Rattle.register_file.proofs.Repeated.{fold-range_more}
use Rattle.register_file.proofs.register_file.RegisterFile.tell_resets_of.Goals as goal

pub loop-v-preserved : goal.loop-v-preserved
loop-v-preserved c =
    c.tell_reset.ensures
    ∙ (λ k. done_reported (c.loop-v.invariant k) c.from.result)
    ∙ sym (fold-range_more done_reported c.args.self.now 0 c.loop-v.v c.from.result (omega arith))
