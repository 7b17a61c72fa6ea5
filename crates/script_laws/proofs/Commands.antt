-- Proves what the debugger's commands do.
use Rattle.std.proofs.Common.{◌≡◌, ◌≢◌, ℕ, true, false, length, refl}
use Rattle.std.proofs.lemmas.Bool.{lt-ltb, le-ltb, le-leb, lt-leb}
use Rattle.debugger.specs.Running.{is_stopped, run_on}
use Rattle.debugger.specs.Session.{Session}
use Rattle.machine.specs.declared.machine.StepAnswer.{StepAnswer}
use Rattle.machine.specs.declared.machine.StepAnswer.TheVariants as answer
use Rattle.script_laws.specs.Commands.{BreaksAreSet, BreaksAreCleared, GoesBack, StepsAreMade, RunsAreMade}
use Rattle.script_laws.specs.Commands.{BreakpointsAreBounded, BreakpointsHoldRuns, SessionsGoBack, next_answer}

breaks_set : (s : Session) (pc : ℕ) → BreaksAreSet s pc
breaks_set s pc = record {
  outside = λ far. let at = le-ltb pc (length s.program.instructions) far in record {
    answer = rw at refl;
    session = rw at refl;
  };
  again = λ near set. let at = lt-ltb pc (length s.program.instructions) near in record {
    answer = rw (at, set) refl;
    session = rw (at, set) refl;
  };
  room = λ near none few.
      let at = lt-ltb pc (length s.program.instructions) near in
      let room = lt-ltb (length s.breakpoints) 32 few in
      record {
        answer = rw (at, none, room) refl;
        session = rw (at, none, room) refl;
      };
  full = λ near none many.
      let at = lt-ltb pc (length s.program.instructions) near in
      let full = le-ltb (length s.breakpoints) 32 many in
      record {
        answer = rw (at, none, full) refl;
        session = rw (at, none, full) refl;
      };
}

breaks_cleared : (s : Session) (pc : ℕ) → BreaksAreCleared s pc
breaks_cleared s pc = record {
  set = λ is. record { answer = rw is refl; session = rw is refl };
  none = λ isnt. record { answer = rw isnt refl; session = rw isnt refl };
}

pub breakpoints : BreakpointsAreBounded
breakpoints s pc = (breaks_set s pc, breaks_cleared s pc)

goes_back : (s : Session) (count : ℕ) → GoesBack s count
goes_back s count = record {
  back = λ few. let at = le-leb count s.steps few in record { answer = rw at refl; session = rw at refl };
  refused = λ many. let at = lt-leb count s.steps many in record { answer = rw at refl; session = rw at refl };
}

pub back : SessionsGoBack
back s count = goes_back s count

-- A machine stopped exactly if its step returned `Stopped`.
stops : (a : StepAnswer) → a ≡ answer.Stopped → is_stopped a ≡ true
stops a is = rw is refl

goes_on : (a : StepAnswer) → a ≢ answer.Stopped → is_stopped a ≡ false
goes_on (answer.Made reply) isnt = refl
goes_on answer.Local isnt = refl
goes_on answer.NoBlock isnt = refl
goes_on answer.Stopped isnt = absurd (isnt refl)

steps_made : (s : Session) (more : ℕ) → StepsAreMade s more
unfolding run_on
steps_made s more = record {
  none = record { answer = refl; session = refl };
  stopped = λ is. let at = stops (next_answer s) is in record { answer = rw at refl; session = rw at refl };
  one = λ isnt. rw (goes_on (next_answer s) isnt) refl;
}

runs_made : (s : Session) (more : ℕ) → RunsAreMade s more
unfolding run_on
runs_made s more = record {
  none = record { answer = refl; session = refl };
  stopped = λ is. let at = stops (next_answer s) is in record { answer = rw at refl; session = rw at refl };
  met = λ isnt set.
      let at = goes_on (next_answer s) isnt in record { answer = rw (at, set) refl; session = rw (at, set) refl };
  one = λ isnt none. rw (goes_on (next_answer s) isnt, none) refl;
}

pub held : BreakpointsHoldRuns
held s more = (steps_made s more, runs_made s more)
