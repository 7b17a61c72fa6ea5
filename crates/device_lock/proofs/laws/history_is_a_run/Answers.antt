use Rattle.device_lock.proofs.Runs.{legal_is_replies, leads_to_state_after}
use Rattle.device_lock.proofs.laws.history_is_a_run.Goals as goal

pub returns-clause-replies : goal.returns-clause-replies
returns-clause-replies c = legal_is_replies

pub returns-clause-state : goal.returns-clause-state
returns-clause-state c = leads_to_state_after
