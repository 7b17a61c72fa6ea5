use Rattle.std.proofs.Common.{◌≡◌, ℕ, ◌<◌, length, get_or}
use Rattle.intr_unit.specs.Interrupts.{reset_of}
use Rattle.intr_unit.specs.declared.group.Group.TheVariants.{Pf, Vf}
use Rattle.register_file.proofs.groups.Groups.new.Given as goal

-- Each group built so far has its position as its number.
abbrev pub invariant-loop-v : goal.invariant-loop-v
invariant-loop-v l =
    record {
      all : length l.vf ≡ 64;
      numbered : (k : ℕ) → k < l.v → get_or l.vf k (reset_of Pf) ≡ reset_of (Vf k);
    }
