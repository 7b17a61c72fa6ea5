-- Re-exports the names of the laws on a start that the laws on a whole life use most. Declares nothing.
pub use Rattle.driver_laws.specs.{Along.BeforeLast, Along.IsAlong, Ending.IsAsking, Ending.IsEnding}
pub use Rattle.driver_laws.specs.{FaultlessStart.BeforeNext, Filling.FaultsEarly, Filling.FaultsFilling, On.AreOn}
pub use Rattle.driver_laws.specs.{Points.HasGround, Quieting.IsQuiet, SwitchedOff.IsSilent, Start.BeginsWell}
pub use Rattle.driver_laws.specs.Laid.{Empty, Laid, Off}
pub use Rattle.driver_laws.specs.Stopping.{AreMadeOf, Ends, EndsOnceOff, TakesOnceOff}
