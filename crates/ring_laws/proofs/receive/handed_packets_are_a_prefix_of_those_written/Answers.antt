use Rattle.ring_laws.proofs.InOrder.{all_taken, drained, handed_first}

pub returns : Rattle.ring_laws.proofs.receive.handed_packets_are_a_prefix_of_those_written.Goals.returns
returns c = record { prefix = handed_first; taken = all_taken; all = drained }
