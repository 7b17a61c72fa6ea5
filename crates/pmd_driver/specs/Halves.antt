-- A driver with two halves, receive and transmit, that make calls through one pass.
use Rattle.std.specs.Prelude.{◌≡◌, Bool, true, false, List, [], ◌∷◌, ◌++◌, map, ⊤}
use Rattle.pmd_access.specs.DeviceLock.declared.entry.Call.{Call}
use Rattle.pmd_access.specs.Made.{AddsSome, StepsWhere}
use Rattle.pmd_rx.specs.Plays as receive
use Rattle.pmd_rx.specs.Receive as receiving
use Rattle.pmd_rx.specs.Receive.{Receive}
use Rattle.pmd_tx.specs.Plays as transmit
use Rattle.pmd_tx.specs.Sending as sending
use Rattle.pmd_tx.specs.Sending.{Sender, Move, Elsewhere}
use Rattle.pmd_driver.specs.Running.{Running}

-- What the halves know about their rings.
pub record Halves : Type 0 where
  pub receive : Receive
  pub transmit : Sender

abbrev pub halves_of : Running → Halves
halves_of r = record { receive = r.receive; transmit = r.transmit }

-- Who makes a call: the receive half, or the transmit half with one of its moves. The move `Elsewhere` belongs to
-- neither half.
pub data Doer : Type 0 where
  Receives : Doer
  Sends : Move → Doer

-- The halves after one call, given its reply.
abbrev pub after_call : Halves → Doer → Call → Halves
after_call h Receives n = record h { receive = receiving.drive h.receive n.event n.reply }
after_call h (Sends m) n = record h { transmit = sending.moved h.transmit m n.reply }

-- The halves after these calls. This is all that the driver's code knows about its rings.
abbrev pub played_by : Halves → List Doer → List Call → Halves
played_by h [] calls = h
played_by h (d ∷ doers) [] = h
played_by h (d ∷ doers) (n ∷ calls) = played_by (after_call h d n) doers calls

-- The doer may make this call in state `h`. `AllOwn`: each doer may make its call in the state in which it makes the
-- call.
abbrev pub OwnCall : Halves → Doer → Call → Type 0
OwnCall h Receives n = receiving.IsOwn h.receive n.event
OwnCall h (Sends m) n = sending.IsOwn h.transmit m n.event

abbrev pub AllOwn : Halves → List Doer → List Call → Type 0
AllOwn h [] [] = ⊤
AllOwn h [] (n ∷ calls) = ⊥
AllOwn h (d ∷ doers) [] = ⊥
AllOwn h (d ∷ doers) (n ∷ calls) = OwnCall h d n × AllOwn (after_call h d n) doers calls

-- Whether a call belongs to neither half.
abbrev pub is_neither : Doer → Bool
is_neither Receives = false
is_neither (Sends m) = transmit.is_elsewhere m

-- The calls that belong to neither half, and those after the last doer, are device steps.
abbrev pub OthersStep : List Doer → List Call → Type 0
OthersStep doers calls = StepsWhere is_neither doers calls

-- Some calls were made, which take the halves from state `h` to state `k`. Those that belong to neither half are device
-- steps.
abbrev pub Drives : List Call → Halves → List Call → Halves → Type 0
Drives old h new k =
    (doers : List Doer) × (since : List Call) × (new ≡ old ++ since) × AllOwn h doers since
    × (k ≡ played_by h doers since) × OthersStep doers since

-- The doers of a sequence of calls in which only the receive half made calls, only the transmit half did, or neither
-- did.

abbrev pub doer_marked : Bool → Doer
doer_marked true = Receives
doer_marked false = Sends Elsewhere

abbrev pub doers_marked : List Bool → List Doer
doers_marked marks = map doer_marked marks

abbrev pub doers_moved : List Move → List Doer
doers_moved moves = map Sends moves

abbrev pub doers_other : List Call → List Doer
doers_other calls = map (λ (n : Call). Sends Elsewhere) calls

-- `Drives` holds for calls that one half made while the other half didn't change. It holds for device steps, which
-- change neither half. If it holds for each of two sequences of calls, it holds for one sequence followed by the other.
abbrev pub ReceivingDrives : Type 0
ReceivingDrives =
    (old new : List Call) (h k : Halves) → receive.Plays old h.receive new k.receive → k.transmit ≡ h.transmit →
    Drives old h new k

abbrev pub SendingDrives : Type 0
SendingDrives =
    (old new : List Call) (h k : Halves) → transmit.Plays old h.transmit new k.transmit → k.receive ≡ h.receive →
    Drives old h new k

abbrev pub OthersDrive : Type 0
OthersDrive = (old new : List Call) (h : Halves) → AddsSome old new → Drives old h new h

abbrev pub DrivesOn : Type 0
DrivesOn =
    (old mid new : List Call) (h j k : Halves) → Drives old h mid j → Drives mid j new k → Drives old h new k
