-- `into_parts` follows from the proof for any handle.
use Rattle.nic82599_c.specs.contracts.handle.KeptHandle.into_parts.Key.{name as #self}
use Rattle.nic82599_c.proofs.Handles.{of_kept}
use Rattle.nic82599_c.proofs.IntoParts.{meets}
use Rattle.nic82599_c.proofs.handle.KeptHandle.into_parts.Statement.{statement}
use Rattle.nic82599_c.proofs.handle.KeptHandle.into_parts.Code.{unfolded}

pub into_parts_spec : {M : Type 1} → statement M
into_parts_spec 𝓤 𝓛 𝓜 𝓡 wired = meets of_kept 𝓛 𝓜 𝓡 #self (unfolded 𝓤 𝓛.H 𝓜 𝓡 wired)
