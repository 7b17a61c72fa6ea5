use Rattle.register_laws.proofs.ReadBack.{goes_round}
use Rattle.register_laws.proofs.read_only_counters_go_round.Goals as goal

pub returns : goal.returns
returns c = λ r h p b counter. goes_round r p h b
