-- A start that times out, and its polls: the reads that found a side of its queue still off.
use Rattle.std.specs.Prelude.{[], ⊤, ◌&&◌, ◌++◌, ◌+◌, ◌∷◌, ◌≡◌, Bool, Err, List, None, false, if◌then◌else◌, not, ℕ}
use Rattle.pmd_driver.specs.Started.{IsShut}
use Rattle.driver_laws.specs.StartPrelude.{Access, AreMade, AtPort, Call, Numbers, Rxdctl, Sees, Sets, StartRefused}
use Rattle.driver_laws.specs.StartPrelude.{StartTimeout, StopsStarting, Txdctl, has_bit, start_gate}

-- Whether the value last written to RXDCTL has bit 25 set, and the same for TXDCTL.
pub record Asked : Type 0 where
  pub receive : Bool
  pub transmit : Bool

-- The initial state: nothing is written to RXDCTL or TXDCTL yet.
abbrev pub none_asked : Asked
none_asked = record { receive = false; transmit = false }

-- The state after an access.
abbrev pub asked_by : Access → Asked → Asked
asked_by (Sets Rxdctl word) x = record x { receive = has_bit 25 word }
asked_by (Sets Txdctl word) x = record x { transmit = has_bit 25 word }
asked_by other x = x

-- Whether an access is a miss: a read of RXDCTL or TXDCTL returns bit 25 as 0, although the value last written to the
-- register set the bit.
abbrev pub is_miss : Asked → Access → Bool
is_miss x (Sees Rxdctl on) = x.receive && not on
is_miss x (Sees Txdctl on) = x.transmit && not on
is_miss x other = false

-- The number of misses among these accesses.
abbrev pub misses : Asked → List Access → ℕ
misses x [] = 0
misses x (a ∷ rest) = (if is_miss x a then 1 else 0) + misses (asked_by a x) rest

-- An access to RXDCTL or TXDCTL.
abbrev pub IsOfEnable : Access → Type 0
IsOfEnable (Sees Rxdctl on) = ⊤
IsOfEnable (Sees Txdctl on) = ⊤
IsOfEnable (Sets Rxdctl word) = ⊤
IsOfEnable (Sets Txdctl word) = ⊤
IsOfEnable other = ⊥

-- `K` holds for each of these accesses.
abbrev pub AllAre : (Access → Type 0) → List Access → Type 0
AllAre K [] = ⊤
AllAre K (a ∷ rest) = K a × AllAre K rest

-- The start's last calls are accesses to RXDCTL and TXDCTL. Exactly 1,000 of them are misses, where only writes among
-- these accesses count.
pub record TimesOut (q : AtPort) (old new : List Call) : Type 0 where
  pub before : List Call
  pub all : List Access
  pub enables : AllAre IsOfEnable all
  pub made : AreMade q (old ++ before) new all
  pub polls : misses none_asked all ≡ 1000

-- A start that returns `StartTimeout`, refused before or during its events, times out in this way.
abbrev pub TimeoutsPoll : Type 0
TimeoutsPoll =
    (q : AtPort) (size frame : ℕ) (old : List Call) (a : Numbers) (new : List Call) (e : StartRefused) →
    IsShut (start_gate a q size frame) a old new (Err e) →
    (start_gate a q size frame ≡ None → StopsStarting q size frame old a new e) →
    e.fault ≡ StartTimeout → TimesOut q old new
