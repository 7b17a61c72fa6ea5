-- Only lending and taking blocks changes which blocks are lent.
use Rattle.std.proofs.Common.{◌≡◌, ℕ, false, List, [], ◌∷◌, refl}
use Rattle.rx_ring.specs.DmaArena.Block.{Block}
use Rattle.rx_ring.specs.DmaRing.declared.dir.Dir.{Dir}
use Rattle.rx_ring.specs.DmaRing.declared.dir.Dir.TheVariants.{Rx, Tx}
use Rattle.nic_device.specs.Footprint.{Reach, read_reach, write_reach, reach_by, receive_reach, switch_reach}
use Rattle.nic_device.specs.Kept.{OtherEventsKeepBlocks}
use Rattle.nic_device.specs.Named.{named}
use Rattle.nic_device.specs.State.{State, Waiting}
use Rattle.nic_device.specs.Step.{step_of, moves_block}
use Rattle.nic_device.proofs.Cases.{write_cases}
use Rattle.register_file.specs.Pools.{mode_in}
use Rattle.register_file.specs.VfMap.declared.mode.Mode.{Mode}
use Rattle.nic_device.proofs.Steps.{step_leads}
use Rattle.nic_device.specs.declared.event.Event.{Event}
use Rattle.nic_device.specs.declared.event.Event.TheVariants as event
use Rattle.nic_device.specs.declared.event.Reply.{Reply}
use Rattle.nic_device.specs.declared.named.Named.{Named}
use Rattle.nic_device.specs.declared.named.Named.TheVariants.{Nothing, Register}

none_lent_written : (mode : Mode) (m : Named) (word number : ℕ) → (write_reach mode m word).lent number ≡ false
none_lent_written mode m word number =
    write_cases (λ (r : Reach). r.lent number ≡ false) mode m word
    (record { nothing = refl; reset = refl; pool = λ v. refl; word = λ p. refl })

none_lent_read : (m : Named) (number : ℕ) → (read_reach m).lent number ≡ false
none_lent_read (Nothing seen) number = refl
none_lent_read (Register p view) number = refl

none_lent_received : (ws : List Waiting) (reply : Reply Block) (number : ℕ)
    → (receive_reach ws reply).lent number ≡ false
none_lent_received [] reply number = refl
none_lent_received (w ∷ others) reply number = refl

none_lent_switched : (dir : Dir) (queue number : ℕ) → (switch_reach dir queue).lent number ≡ false
none_lent_switched Rx queue number = refl
none_lent_switched Tx queue number = refl

none_lent : (s : State) (e : Event Block) (reply : Reply Block) (number : ℕ) → moves_block e ≡ false
    → (reach_by s e reply).lent number ≡ false
none_lent s (event.Read port n) reply number none = none_lent_read (named s port n) number
none_lent s (event.Write port n word) reply number none =
    none_lent_written (mode_in s.registers) (named s port n) word number
none_lent s (event.Lend block) reply number none = cc
none_lent s (event.Take taken) reply number none = cc
none_lent s event.RxStep reply number none = none_lent_received s.waiting reply number
none_lent s (event.QueueStep dir queue) reply number none = none_lent_switched dir queue number
none_lent s other reply number none = refl

pub keeps_blocks : OtherEventsKeepBlocks
keeps_blocks s e none = record {
  lent = λ number. (step_leads s e).stays.lent number (none_lent s e (step_of s e).reply number none);
  none = (step_leads s e).hands none;
}
