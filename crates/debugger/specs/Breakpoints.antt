-- Breakpoints: a list of instruction numbers without duplicates.
use Rattle.std.specs.Prelude.{ℕ, Bool, ◌==◌, not, nat_lt, List, [], ◌∷◌, ◌++◌, length, filter, Result, Ok, Err, if◌then◌else◌}
use Rattle.std.specs.List.{list_any}
use Rattle.debugger.specs.declared.command.DebugRefusal.{DebugRefusal}
use Rattle.debugger.specs.declared.command.DebugRefusal.TheVariants.{NoSuchPc, TooManyBreaks}

-- Whether an instruction has a breakpoint.
abbrev pub has_break : List ℕ → ℕ → Bool
has_break breakpoints pc = list_any (λ set. set == pc) breakpoints

-- Sets a breakpoint at an instruction of a program with `count` instructions. At most 32 breakpoints can be set. If
-- this breakpoint is already set, nothing changes.
abbrev pub with_break : ℕ → List ℕ → ℕ → Result (List ℕ) DebugRefusal
with_break count breakpoints pc =
    if nat_lt pc count
    then (if has_break breakpoints pc then Ok breakpoints
    else if nat_lt (length breakpoints) 32 then Ok (breakpoints ++ pc ∷ []) else Err TooManyBreaks)
    else Err NoSuchPc

-- Removes the breakpoint at an instruction.
abbrev pub without_break : List ℕ → ℕ → Result (List ℕ) DebugRefusal
without_break breakpoints pc =
    if has_break breakpoints pc then Ok (filter (λ set. not (set == pc)) breakpoints) else Err NoSuchPc
