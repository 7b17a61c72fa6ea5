use Rattle.std.proofs.Common.{sym, ◌∙◌, arith}
use Rattle.register_file.specs.PoolReset.{vectors_reset}
use Rattle.register_file.proofs.Repeated.{fold-range_more}
use Rattle.register_file.proofs.register_file.RegisterFile.reset_vectors.Goals as goal

pub loop-x-preserved : goal.loop-x-preserved
loop-x-preserved c =
    c.set_word.ensures
    ∙ (λ k. vectors_reset (c.loop-x.invariant k) c.from.result)
    ∙ sym (fold-range_more vectors_reset c.args.self.now c.args.first c.loop-x.x c.from.result (omega arith))
