use Rattle.driver_laws.proofs.Order.{all_apart}

pub returns : Rattle.driver_laws.proofs.lives_lend_apart.Goals.returns
returns c q size frame old a new r x = all_apart x
