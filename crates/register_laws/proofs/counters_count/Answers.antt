use Rattle.register_laws.proofs.ReadBack.{counts_and_clears}
use Rattle.register_laws.proofs.counters_count.Goals as goal

pub returns : goal.returns
returns c = λ r h p b counter. counts_and_clears r p h b
