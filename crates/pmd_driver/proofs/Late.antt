-- Lemmas about which faults occur during events.
use Rattle.std.proofs.Common.{◌≡◌, ℕ, ◌+◌, ◌≤◌, ◌<◌, Bool, List, Result, Ok, Err, IfErr, inl, inr, refl, arith}
use Rattle.pmd_access.specs.NicDevice.DmaArena.Numbers.{Numbers}
use Rattle.pmd_access.specs.DeviceLock.declared.entry.Call.{Call}
use Rattle.pmd_access.specs.NicDevice.DmaRing.declared.dir.Dir.{Dir}
use Rattle.pmd_access.specs.NicDevice.DmaRing.declared.dir.Dir.TheVariants.{Rx}
use Rattle.pmd_access.specs.declared.fault.PmdFault.{PmdFault}
use Rattle.pmd_access.specs.declared.fault.PmdFault.TheVariants as fault
use Rattle.pmd_access.specs.Both.{SwitchFails}
use Rattle.pmd_access.specs.QueueMade.{StopsBy}
use Rattle.pmd_access.specs.declared.registers.Access.{Access}
use Rattle.pmd_access.specs.Named.{AtPort}
use Rattle.pmd_access.specs.Sides.{PollsEnd}
use Rattle.pmd_rx.specs.Filling.{StopsFilling}
use Rattle.pmd_rx.specs.Receive.{Receive}
use Rattle.pmd_driver.specs.Starting.{ComesLate, PreparingFails, LendingFails, ReceiveFails}
use Rattle.pmd_access.specs.NicDevice.DmaArena.Block.{Block}

stops_late : (f : PmdFault) (q : AtPort) (old new : List Call) (all : List Access) → StopsBy f q old new all
    → ComesLate f
stops_late fault.BadSize q old new all (done, a, rest, mid, is, made, fails) = fails
stops_late fault.ForeignBlock q old new all (done, a, rest, mid, is, made, fails) = fails
stops_late fault.StartTimeout q old new all (done, a, rest, mid, is, made, fails) = tt
stops_late fault.NoBuffer q old new all (done, a, rest, mid, is, made, fails) = fails
stops_late fault.DeviceFault q old new all stops = tt
stops_late (fault.Call refusal) q old new all stops = tt

polls_late : (f : PmdFault) (q : AtPort) (old new : List Call) (side : Dir) (on : Bool) (polls : ℕ)
    → PollsEnd f q old new side on polls → ComesLate f
polls_late fault.BadSize q old new side on polls ends = ends
polls_late fault.ForeignBlock q old new side on polls ends = ends
polls_late fault.StartTimeout q old new side on polls ends = tt
polls_late fault.NoBuffer q old new side on polls ends = ends
polls_late fault.DeviceFault q old new side on polls ends = tt
polls_late (fault.Call refusal) q old new side on polls ends = tt

pub switching_late : (f : PmdFault) (q : AtPort) (old new : List Call) (on : Bool) (polls : ℕ)
    → SwitchFails f q old new on polls → ComesLate f
switching_late f q old new on polls (inl stops) = stops_late f q old new _ stops
switching_late f q old new on polls (inr (inl (mid, made, ends))) = polls_late f q mid new _ on polls ends
switching_late f q old new on polls (inr (inr (first, mid, few, made, ends))) = polls_late f q mid new _ on _ ends

lending_late : (f : PmdFault) (old new : List Call) (block : Block) → LendingFails f old new block → ComesLate f
lending_late fault.BadSize old new block fails = fails
lending_late fault.ForeignBlock old new block fails = fails
lending_late fault.StartTimeout old new block fails = tt
lending_late fault.NoBuffer old new block fails = fails
lending_late fault.DeviceFault old new block fails = tt
lending_late (fault.Call refusal) old new block fails = tt

pub preparing_late : (f : PmdFault) (q : AtPort) (side : Dir) (size : ℕ) (old : List Call) (a : Numbers)
    (new : List Call) (b : Numbers) (out : List ℕ) → PreparingFails f q side size old a new b out → ComesLate f
preparing_late f q side size old a new b out (ring, free, inl (stops, same, none)) = stops_late f q old new _ stops
preparing_late f q side size old a new b out (ring, free, inr (mid, words, stops)) =
    lending_late f stops.mid new _ stops.fails

pub receive_late : (f : PmdFault) (q : AtPort) (size : ℕ) (old : List Call) (a : Numbers) (new : List Call)
    (b : Numbers) (out : List ℕ) → ReceiveFails f q size old a new b out → ComesLate f
receive_late f q size old a new b out (inl (stops, same, none)) = stops_late f q old new _ stops
receive_late f q size old a new b out (inr (mid, made, fails)) = preparing_late f q Rx size mid a new b out fails

-- If enough blocks are free, filling fails only during events.
pub filling_late : (r : Result (Unit {0}) PmdFault) (old : List Call) (a : Numbers) (v : Receive) (new : List Call)
    (b : Numbers) (w : Receive) (free size : ℕ) → IfErr r (λ f. StopsFilling f old a v new b w)
    → (r ≡ Err fault.NoBuffer → free + 1 < size) → size ≤ free + 1 → IfErr r (λ f. ComesLate f)
filling_late (Ok x) old a v new b w free size stops short enough = tt
filling_late (Err fault.BadSize) old a v new b w free size stops short enough = stops.fails
filling_late (Err fault.ForeignBlock) old a v new b w free size stops short enough = stops.fails
filling_late (Err fault.StartTimeout) old a v new b w free size stops short enough = tt
filling_late (Err fault.NoBuffer) old a v new b w free size stops short enough =
    absurd (omega (arith, short refl, enough))
filling_late (Err fault.DeviceFault) old a v new b w free size stops short enough = tt
filling_late (Err (fault.Call refusal)) old a v new b w free size stops short enough = tt
