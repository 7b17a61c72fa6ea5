-- Lemmas about the answers for controllers that can't be created.
use Rattle.std.proofs.Common.{refl, ◌≡◌, ◌<◌, ◌≤◌, ◌==◌, ◌||◌, Bool, true, false, inl, inr, codes}
use Rattle.std.proofs.lemmas.Bool.{le-ltb, lt-ltb}
use Rattle.nic_device.specs.Config.{IsBadFifo}
use Rattle.nic_device.specs.declared.Config.{Config}
use Rattle.bench_commands.specs.Answer.{Answer, refused_as}
use Rattle.bench_commands.specs.Run.{made_with}

pub too-many-vfs : (config : Config) (answer : Answer) → 63 < config.vfs
    → refused_as (codes "TooManyVfs") ≡ made_with config answer
too-many-vfs config answer many = rw (lt-ltb 63 config.vfs many) refl

pub bad-fifo : (config : Config) (answer : Answer) → config.vfs ≤ 63 → IsBadFifo config.fifo
    → refused_as (codes "Fifo") ≡ made_with config answer
bad-fifo config answer few (inl none) = rw (le-ltb 63 config.vfs few, none) refl
bad-fifo config answer few (inr many) =
    rw (le-ltb 63 config.vfs few, lt-ltb 4096 config.fifo many, or-true (config.fifo == 0)) refl
  where
    or-true : (b : Bool) → (b || true) ≡ true
    or-true true = refl
    or-true false = refl
