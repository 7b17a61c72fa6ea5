-- What a caller knows about a shared device and its own calls.
use Rattle.std.specs.Prelude.{◌≡◌, ℕ, ◌+◌, ◌<◌, ⊤, List, [], ◌∷◌, ◌++◌}
use Rattle.nic_device.specs.DmaArena.Block.{Block}
use Rattle.nic_device.specs.declared.event.Event.{Event}
use Rattle.nic_device.specs.declared.event.Reply.{Reply}
use Rattle.device_lock.specs.declared.entry.Call.{Call}

-- A pass: its bench number, its tag, and its calls with their replies, oldest first.
pub record PassValue : Type 0 where
  pub bench : ℕ
  pub tag : ℕ
  pub calls : List Call

abbrev pub call_of : Event Block → Reply Block → Call
call_of event reply = record { event = event; reply = reply }

-- A shared device: its bench number and its number of passes.
pub record SharedValue : Type 0 where
  pub bench : ℕ
  pub passes : ℕ

-- The pass belongs to the bench with this number, which has `count` passes.
abbrev pub IsOwn : ℕ → ℕ → PassValue → Type 0
IsOwn bench count p = (p.bench ≡ bench) × (p.tag < count)

-- A pass without calls.
abbrev pub fresh_pass : ℕ → ℕ → PassValue
fresh_pass bench tag = record { bench = bench; tag = tag; calls = [] }

-- A pass after one more call.
abbrev pub with_call : PassValue → Event Block → Reply Block → PassValue
with_call p event reply = record p { calls = p.calls ++ call_of event reply ∷ [] }

-- The passes have no calls, and their tags are consecutive, starting with this tag.
abbrev pub AreFresh : ℕ → ℕ → List PassValue → Type 0
AreFresh bench tag [] = ⊤
AreFresh bench tag (p ∷ ps) = (p ≡ fresh_pass bench tag) × AreFresh bench (tag + 1) ps
