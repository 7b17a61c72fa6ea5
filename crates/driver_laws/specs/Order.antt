-- What a driver handed out and sent in its life, over a history that leaves its queue alone.
use Rattle.std.specs.Prelude.{[], ◌++◌, ◌≡◌}
use Rattle.driver_laws.specs.StartPrelude.{FindsNone, ShowsNone, calls_of, delivered, leads_to, records_of}
use Rattle.driver_laws.specs.{Course.IsAllSent, Course.IsHandedInOrder, Course.IsSentInOrder, Life.Life}

-- The pass made exactly the calls of this life in its history.
abbrev pub IsLived : Life → Type 0
IsLived x = calls_of x.w.pass x.h ≡ x.made

-- What the driver handed out is a prefix of what was delivered on its queue since the receive side was last enabled.
abbrev pub HandedIsPrefix : Type 0
HandedIsPrefix =
    (x : Life) → IsLived x → IsHandedInOrder x.course x.k.receive.handed

-- If the next poll finds its slot not done, everything delivered was taken: it was handed out, or is complete and will
-- be handed out when the tail advances. If, in addition, no packet is complete, everything was handed out.

abbrev pub NoneIsAllTaken : Type 0
NoneIsAllTaken =
    (x : Life) → IsLived x → ShowsNone (leads_to x.origin x.h) x.k.receive →
    x.k.receive.handed ++ records_of x.k.receive.whole ≡ delivered x.w.queue x.origin x.h

abbrev pub NoneIsAll : Type 0
NoneIsAll =
    (x : Life) → IsLived x → FindsNone (leads_to x.origin x.h) x.k.receive →
    x.k.receive.handed ≡ delivered x.w.queue x.origin x.h

-- What was sent on the queue since its transmit side was last enabled is a prefix of what the driver accepted, and all
-- of it if no packet is outstanding.
abbrev pub SentIsPrefix : Type 0
SentIsPrefix =
    (x : Life) → IsLived x → IsSentInOrder x.course x.k.transmit.accepted

abbrev pub IdleIsAllSent : Type 0
IdleIsAllSent =
    (x : Life) → IsLived x → x.k.transmit.outstanding ≡ [] → IsAllSent x.course x.k.transmit.accepted
