-- Why a run prints nothing.
use Rattle.std.specs.Prelude.{ℕ, Result, Ok, Err}
use Rattle.bench.specs.declared.refused.Refused.{Refused}
use Rattle.bench.specs.declared.refused.Refused.TheVariants.{OutOfMemory, Other}

-- The exit status after this refusal.
abbrev pub status_of : Refused → ℕ
status_of OutOfMemory = 4
status_of Other = 2

-- Two results combined. The combined result is done if both are done. Otherwise it is refused, for lack of memory if
-- either was refused for that reason.
abbrev pub both_done : Result (Unit {0}) Refused → Result (Unit {0}) Refused → Result (Unit {0}) Refused
both_done (Ok done) second = second
both_done (Err OutOfMemory) second = Err OutOfMemory
both_done (Err Other) (Err OutOfMemory) = Err OutOfMemory
both_done (Err Other) second = Err Other
