-- The state of the sides of a queue at a point of a history, and how a driver's accesses change it.
use Rattle.std.specs.Prelude.{[], ⊤, ◌<◌, ◌∷◌, ◌≡◌, ◌≢◌, Bool, IsFalse, IsTrue, List, ℕ}
use Rattle.driver_laws.specs.StartPrelude.{Access, AreMade, AtPort, Blocks, Call, Dir, Entry, RowId, Rxdctl, Sees, Sets}
use Rattle.driver_laws.specs.StartPrelude.{Side, State, Txdctl, Watched, frame_limit, lent_by, packet_limit}
use Rattle.driver_laws.specs.{Along.AtCalls, Along.IsAlong, Moves.MayGoOn, Moves.side_seen, Numbers.NamesQueue}
use Rattle.driver_laws.specs.{Standing.Stand, Words.Fits, Words.side_with}

-- What a driver relies on in addition to its sides: its port and queue number identify this queue, and the device's
-- frame limit is the driver's packet limit.
pub record HasGround (queue : ℕ) (q : AtPort) (frame : ℕ) (s : State) : Type 0 where
  pub names : NamesQueue s q queue
  pub limit : frame_limit s.registers ≡ packet_limit frame

-- The state of the two sides, and the lent blocks of their rings.
pub record Sides : Type 0 where
  pub side : Dir → Side
  pub rings : Blocks

-- The sides and the blocks are in this state, and the blocks are among `mine`.
pub record Point (queue : ℕ) (mine : Blocks) (q : AtPort) (frame : ℕ) (p : Sides) (s : State) : Type 0 where
  pub stand : Stand queue p.side p.rings s
  pub ground : HasGround queue q frame s
  pub covers : (number : ℕ) → IsTrue (p.rings number) → IsTrue (mine number)
  pub low : (number : ℕ) → IsTrue (p.rings number) → number < 65536

-- The sides after an access.

abbrev pub seen_by : RowId → Bool → Sides → Sides
seen_by row on p = record p { side = λ dir. side_seen dir row on (p.side dir) }

abbrev pub after_access : Access → Sides → Sides
after_access (Sees row on) p = seen_by row on p
after_access (Sets row word) p = record p { side = λ dir. side_with dir row word (p.side dir) }

abbrev pub after_accesses : List Access → Sides → Sides
after_accesses [] p = p
after_accesses (a ∷ rest) p = after_accesses rest (after_access a p)

-- An access that keeps the sides at rest: a read of an enable word, or a write to a register of a side for which no
-- enable request is in effect.

abbrev pub IsEnable : RowId → Type 0
IsEnable Rxdctl = ⊤
IsEnable Txdctl = ⊤
IsEnable other = ⊥

pub record MayWrite (dir : Dir) (row : RowId) (word : ℕ) (x : Side) : Type 0 where
  pub unwanted : IsFalse x.wanted
  pub fits : Fits dir row word
  pub goes : MayGoOn (side_with dir row word x)

abbrev pub May : Access → Sides → Type 0
May (Sees row on) p = IsEnable row
May (Sets row word) p = (dir : Dir) × MayWrite dir row word (p.side dir)

abbrev pub AllMay : List Access → Sides → Type 0
AllMay [] p = ⊤
AllMay (a ∷ rest) p = May a p × AllMay rest (after_access a p)

-- Over a history that leaves the queue alone, the sides are in a known state after the pass has made some calls. If the
-- pass then makes accesses that keep the sides at rest, the sides are afterwards in the state to which these accesses
-- lead.
abbrev pub AccessesLead : Type 0
AccessesLead =
    (w : Watched) (q : AtPort) (frame : ℕ) (origin : State) (h : List Entry) (known : Sides → Bool) (F : Sides → Sides)
    (all : List Access) (old new : List Call) → IsAlong w origin h →
    ((p : Sides) → IsTrue (known p) → AllMay all (F p)) → AreMade q old new all → old ≢ [] →
    AtCalls w origin h old (λ s. (p : Sides) × IsTrue (known p) × Point w.queue (lent_by w.pass h) q frame (F p) s) →
    AtCalls w origin h new
    (λ s. (p : Sides) × IsTrue (known p) × Point w.queue (lent_by w.pass h) q frame (after_accesses all (F p)) s)
