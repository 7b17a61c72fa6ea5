use Rattle.std.proofs.Common.{◌≡◌, ◌<◌, ℕ, false}
use Rattle.nic_device.specs.DmaArena.Memory.{has_block}
use Rattle.nic_device.specs.DmaArena.Numbers.{count_of}
use Rattle.card.specs.Card.{AreShared}
use Rattle.card.proofs.card.close.Given as goal

-- The blocks before the current one are taken back.
abbrev pub invariant-loop-number : goal.invariant-loop-number
invariant-loop-number l = record {
  shared : AreShared l.memory l.arena;
  count : count_of l.arena ≡ l.count;
  taken : (k : ℕ) → k < l.number → has_block l.memory k ≡ false;
}
