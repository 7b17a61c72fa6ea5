-- What a driver lends over its life: blocks of the arena handed to the driver, none of which the driver's other half
-- has lent.
use Rattle.std.specs.Prelude.{ℕ, List}
use Rattle.driver_laws.specs.StartPrelude.{Numbers, is_own, Call, Halves, halves_of, Running, AtPort, DrivesApart}
use Rattle.pmd_driver.specs.Life.{Lives}

-- The halves at the point where both sides are on and nothing is posted yet.
abbrev pub first_of : (q : AtPort) (size frame : ℕ) (old : List Call) (a : Numbers) (new : List Call) (r : Running)
    → Lives q size frame old a new r → Halves
first_of q size frame old a new r x = record { receive = x.up.empty; transmit = x.fresh.transmit }

-- After both sides are on, each call of the driver's pass is made by one of the halves or is a device step. Each half
-- lends only blocks of the driver's arena that the other half hasn't lent.
abbrev pub LifeLendsApart : Type 0
LifeLendsApart =
    (q : AtPort) (size frame : ℕ) (old : List Call) (a : Numbers) (new : List Call) (r : Running)
    (x : Lives q size frame old a new r) →
    DrivesApart (is_own a) x.up.on.mid (first_of q size frame old a new r x) new (halves_of r)
