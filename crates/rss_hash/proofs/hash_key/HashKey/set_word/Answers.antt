use Rattle.std.proofs.Common.{arith}
use Rattle.rss_hash.proofs.Beyond.{beyond_a_word}
use Rattle.rss_hash.proofs.hash_key.HashKey.set_word.Goals as goal

pub refill_tables-requires-clause-beyond : goal.refill_tables-requires-clause-beyond
refill_tables-requires-clause-beyond c =
    beyond_a_word c.self.inside.tables c.self.inside.words c.args.index c.args.word (omega arith)
    c.self.invariant.windows
