use Rattle.rx_filter.proofs.Reset.{sorted-reset}
use Rattle.rx_filter.proofs.laws.reset_refuses_all.Goals as goal

pub returns : goal.returns
returns c = sorted-reset
