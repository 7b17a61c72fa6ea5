-- What happens on a driver's queue after the driver's stop has switched both sides off: nothing is delivered or sent.
use Rattle.std.proofs.Common.{inl, inr}
use Rattle.std.specs.Prelude.{◌++◌, ◌≡◌, List, None, Option, Some}
use Rattle.driver_laws.specs.StartPrelude.{AtPort, Call, Entry, Halted, PmdFault, Rest, Up, calls_of, halted_of}
use Rattle.driver_laws.specs.{Ends.Ended, Ends.IsOver, Life.Life, Stopped.IsStopping}
use Rattle.driver_laws.specs.Prelude.{EndsOnceOff, IsSilent}
use Rattle.pmd_driver.specs.Life.{IsStopped}
use Rattle.pmd_driver.specs.declared.start.Rest.TheVariants as rest

-- A life is followed by the calls of the driver's stop. After these calls have switched both sides of the queue off,
-- nothing more is delivered or sent on the queue.
abbrev pub SilentOnceOff : Type 0
SilentOnceOff =
    (x : Life) (new : List Call) (done rest : List Entry) → IsStopping x new → (y : EndsOnceOff x.q x.made new) →
    done ++ rest ≡ x.h → calls_of x.w.pass done ≡ y.off → IsSilent x.w x.origin x.h done

-- When the pass had made the calls `off`, the driver's stop had just switched both sides off. The stop succeeded, or it
-- failed only after these calls.
abbrev pub SwitchesOff : (q : AtPort) (old : List Call) (h : Halted) (new : List Call) (left : Rest)
    (late : Option PmdFault) → IsStopped q old h new left late → List Call → Type 0
SwitchesOff q old h new (rest.Home home) None (mid, switched, comes) off = off ≡ mid
SwitchesOff q old h new (rest.Home home) (Some f) x off = ⊥
SwitchesOff q old h new (rest.Running p) None x off = ⊥
SwitchesOff q old h new (rest.Running p) (Some f) (after, is, inl unclosed) off = ⊥
SwitchesOff q old h new (rest.Running p) (Some f) (after, is, inr (inl unswitched)) off = ⊥
SwitchesOff q old h new (rest.Running p) (Some f) (after, is, inr (inr (mid, switched, during))) off = off ≡ mid

-- If the driver's start brought both rings up and the driver was later stopped, nothing is delivered or sent on the
-- queue after that point. This covers any point during the rest of the stop, and the end of the stop.
abbrev pub SilentOverStop : Type 0
SilentOverStop =
    (x : Ended) (off : List Call) (done rest : List Entry) → IsOver x →
    SwitchesOff x.q x.lived.made (halted_of (Up x.lived.last)) x.new x.left x.late x.lived.stopped off →
    done ++ rest ≡ x.h → calls_of x.w.pass done ≡ off → IsSilent x.w x.origin x.h done
