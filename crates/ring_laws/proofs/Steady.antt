-- Properties of a queue's side that stay true whatever the device does to the side. Also, properties that stay true
-- when a driver requests that the side be enabled or disabled.
use Rattle.device_laws.proofs.StandingAccesses.{read_rest, write_rest}
use Rattle.ring_laws.specs.Prelude.{Port, Register, State, after, has_bit, named, place, reply_to, step_of}
use Rattle.ring_laws.specs.Sides.{IsOff, IsTried, IsUnwanted, IsUp, LeavesSide, Side, as_wanted, shut, side_of}
use Rattle.ring_laws.specs.{Left.IsSilent, Left.Shuts, Prelude.Block, Prelude.Dir, Prelude.Event, Prelude.IsSound}
use Rattle.ring_laws.{proofs.Left.queues_left, specs.Left.Deed, specs.Left.Rests, specs.Sides.taken}
use Rattle.device_lock.proofs.NicDevice.RegisterLaws.Switches.{receive-asked, transmit-asked}
use Rattle.device_lock.specs.NicDevice.{RegisterFile.Queue.enable_row, declared.event.Reply.TheVariants.Word}
use Rattle.std.proofs.Common.{Bool, List, [], arith, false, not, true, ℕ, ◌&&◌, ◌<◌, ◌≡◌, ◌⊎◌}
use Rattle.std.{proofs.lemmas.Grind.common_steps, specs.Prelude.IsFalse, specs.Prelude.IsTrue}
use Rattle.device_lock.specs.NicDevice.declared.event.Event.TheVariants as event

-- Properties of a side that stay true whatever the device does to the side.

-- A property that stays true when the side's slot is taken, when the side is shut, and when it gets its requested
-- state.
pub record IsSteady (P : Side → Type 0) : Type 0 where
  pub takes : (x : Side) (staged : List ℕ) → IsTried x → P x → P (taken staged x)
  pub shuts : (x : Side) → IsTried x → P x → P (shut x)
  pub switches : (x : Side) → P x → P (as_wanted x)

-- A property of sides whose slot isn't tried. It stays true when the side gets its requested state.
pub record IsIdle (P : Side → Type 0) : Type 0 where
  pub idle : (x : Side) → P x → IsTried x → ⊥
  pub switches : (x : Side) → P x → P (as_wanted x)

pub idle_steady : (P : Side → Type 0) → IsIdle P → IsSteady P
idle_steady P is = grind arith

-- Two sides have the same ring, control word and head write-back, and one has nothing staged if the other has nothing.
pub record HaveSameRing (x y : Side) : Type 0 where
  pub ring : y.ring ≡ x.ring
  pub control : y.control ≡ x.control
  pub writeback : y.writeback ≡ x.writeback
  pub staged : x.staged ≡ [] → y.staged ≡ []

module _ (dir : Dir) (queue : ℕ) (s : State) (e : Event Block) where
  module _ (P : Side → Type 0) (p : P (side_of dir queue s)) where
    pub steady_kept : IsSteady P → Deed dir queue s e → P (side_of dir queue (after s e))
    steady_kept steady did = grind arith

    -- Nothing is received or sent while an idle property is true.
    pub idle_silent : IsIdle P → Deed dir queue s e → IsSilent dir queue s e
    idle_silent is did = grind arith

  -- An event that takes no slot leaves the ring unchanged.
  pub resting_same : Rests dir queue s e → HaveSameRing (side_of dir queue s) (side_of dir queue (after s e))
  resting_same rests = grind arith

  -- A side that is up stays up, if no fault can shut it.
  pub up_kept : IsUp (side_of dir queue s) → (Shuts dir queue s e → ⊥) → Deed dir queue s e
      → IsUp (side_of dir queue (after s e))
  up_kept up never did = grind arith

-- If no enable request is in effect for a side, none is in effect later, and a side that is also off stays off.

pub unwanted_steady : IsSteady IsUnwanted
unwanted_steady = grind arith

pub off_idle : IsIdle IsOff
off_idle = grind arith

pub off_steady : IsSteady IsOff
off_steady = idle_steady IsOff off_idle

-- A side that is on, or for which no enable request is in effect, doesn't become enabled.

abbrev pub IsSettled : Side → Type 0
IsSettled x = IsTrue x.on ⊎ IsUnwanted x

-- The side is still settled and didn't become enabled.
pub record Settles (x y : Side) : Type 0 where
  pub settled : IsSettled y
  pub never : (not x.on && y.on) ≡ false

-- A side doesn't become enabled if it was on, or is off afterwards.
pub not_again : (was is : Bool) → (was ≡ true) ⊎ (is ≡ false) → (not was && is) ≡ false
not_again was is only = grind arith

-- A side that is unchanged, or for which a disable request is made, stays settled.
pub same_settles : (x y : Side) → y ≡ x → IsSettled x → Settles x y
same_settles x y same is = grind arith

pub asked_settles : (x y : Side) (wanted : Bool) → y ≡ record x { wanted = wanted } → wanted ≡ false → Settles x y
asked_settles x y wanted same none = grind arith

pub deed_settles : (dir : Dir) (queue : ℕ) (s : State) (e : Event Block) → Deed dir queue s e
    → IsSettled (side_of dir queue s) → Settles (side_of dir queue s) (side_of dir queue (after s e))
deed_settles dir queue s e did is = grind arith

-- A value written to the enable register of a queue's side only requests that the side be enabled or disabled. A read
-- shows whether the side is on.

-- This number at this port identifies the enable register of a side, and gives access to all its bits.
abbrev pub NamesEnable : Dir → ℕ → State → Port → ℕ → Type 0
NamesEnable dir queue s port n = named s port n ≡ Register (place (enable_row dir) queue) 0xFFFFFFFF

module _ (queue : ℕ) (s : State) (sound : IsSound s) (small : queue < 128) (port : Port) (n word : ℕ) where
  -- The side's requested state becomes bit 25 of the value, and the rest of the side is unchanged.
  abbrev Asks : Dir → Type 0
  Asks dir =
      side_of dir queue (after s (event.Write port n word)) ≡ record (side_of dir queue s) { wanted = has_bit 25 word }

  pub asked : (dir : Dir) → NamesEnable dir queue s port n → Asks dir
  unfolding step_of
  asked dir names =
      let receive = receive-asked s.registers sound.registers.shape queue small 0xFFFFFFFF word in
      let transmit = transmit-asked s.registers sound.registers.shape queue small 0xFFFFFFFF word in
      grind arith

  -- The other side is unchanged.
  pub asked_or_left : (side dir : Dir) → NamesEnable side queue s port n
      → Asks dir ⊎ LeavesSide dir queue s (after s (event.Write port n word))
  asked_or_left side dir names =
      let rest = write_rest s port n word (place (enable_row side) queue) 0xFFFFFFFF names in
      grind (arith, asked)

module _ (queue : ℕ) (s : State) (port : Port) (n word : ℕ) (reported : reply_to s (event.Read port n) ≡ Word word)
  where
    -- Bit 25 shows whether the side is on.
    pub reported_on : (dir : Dir) → NamesEnable dir queue s port n → has_bit 25 word ≡ (side_of dir queue s).on
    unfolding step_of
    reported_on dir names = grind (arith, common_steps)

    -- If no enable request is in effect for a side and bit 25 is read as 0, the side is off.
    pub seen_off : (dir : Dir) → NamesEnable dir queue s port n → IsFalse (has_bit 25 word)
        → IsUnwanted (side_of dir queue s) → IsOff (side_of dir queue (after s (event.Read port n)))
    seen_off dir names zero none = grind (arith, common_steps, queues_left, read_rest, reported_on)
