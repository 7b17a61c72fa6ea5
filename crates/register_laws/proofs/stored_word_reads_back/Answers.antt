use Rattle.std.proofs.Common.{ap, ◌∙◌}
use Rattle.register_laws.specs.Prelude.{read_word, written}
use Rattle.register_laws.proofs.Shape.{put_stands}
use Rattle.register_laws.proofs.stored_word_reads_back.Goals as goal

pub returns : goal.returns
returns c =
    λ r h p b plain view word link.
    ap (λ k. read_word k (written k r p view word) link p) plain ∙ put_stands r p _ h b
