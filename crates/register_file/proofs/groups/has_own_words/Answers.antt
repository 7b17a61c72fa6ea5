use Rattle.std.proofs.Common.{arith}
use Rattle.register_file.proofs.Own.{own_words}
use Rattle.register_file.proofs.groups.has_own_words.Goals as goal

pub returns : goal.returns
returns c =
    own_words c.args.causes.now c.causes-causes.ensures.consistent (omega arith) (omega arith) (omega arith)
    (omega arith) (omega arith)
