use Rattle.pmd.proofs.InOrder.{ends_in_order}

pub returns : Rattle.pmd.proofs.laws.ends_are_in_order.Goals.returns
returns c = ends_in_order
