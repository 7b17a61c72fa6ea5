-- The result of reading an object, unless memory runs out.
use Rattle.std.specs.Prelude.{◌≡◌, ◌≢◌, Result, Ok, Err}
use Rattle.program.specs.declared.fault.ObjectFault.{ObjectFault}
use Rattle.program.specs.declared.fault.ObjectFault.TheVariants.{OutOfMemory}

-- The result, seen through `view`, is the expected one, unless memory ran out.
abbrev pub Gives : {X Y : Type 0} → (X → Y) → Result X ObjectFault → Result Y ObjectFault → Type 0
Gives view (Ok x) given = given ≡ Ok (view x)
Gives view (Err fault) given = fault ≢ OutOfMemory → given ≡ Err fault
