-- `get_mut` follows from the proof for any handle.
use Rattle.nic82599_c.specs.contracts.handle.Handle.get_mut.Key.{name as #self}
use Rattle.nic82599_c.proofs.Handles.{of_card}
use Rattle.nic82599_c.proofs.Lending.{meets}
use Rattle.nic82599_c.proofs.handle.Handle.get_mut.Statement.{statement}
use Rattle.nic82599_c.proofs.handle.Handle.get_mut.Code.{unfolded}

pub get_mut_spec : {M : Type 1} → statement M
get_mut_spec 𝓤 𝓛 𝓜 𝓡 wired = meets of_card 𝓛 𝓜 𝓡 #self (unfolded 𝓤 𝓛.H 𝓜 𝓡 wired)
