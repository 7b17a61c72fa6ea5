-- Calls as stored. For idle device steps, only which steps ran is stored.
use Rattle.std.specs.Prelude.{List, [], ◌∷◌, ◌++◌}
use Rattle.device_lock.specs.declared.calls.Made.{Made}
use Rattle.device_lock.specs.declared.entry.Call.{Call}
use Rattle.device_lock.specs.declared.resting.IdleSteps.{IdleSteps}
use Rattle.device_lock.specs.Resting.{idle_calls, steps_in}

-- The calls of idle device steps.
abbrev pub rested_calls : IdleSteps → List Call
rested_calls s = idle_calls (steps_in s)

-- Each call, preceded by the idle steps that ran before it.
abbrev pub made_calls : List Made → List Call
made_calls [] = []
made_calls (m ∷ more) = rested_calls m.rested ++ (m.call ∷ made_calls more)

-- These calls, followed by the idle steps after the last call.
abbrev pub calls_in : List Made → IdleSteps → List Call
calls_in made rested = made_calls made ++ rested_calls rested
