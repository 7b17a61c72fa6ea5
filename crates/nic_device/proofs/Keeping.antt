-- A state is still sound after parts of it are replaced, and nothing outside the reach changes.
use Rattle.std.proofs.Common.{◌≡◌, ◌<◌, ◌≤◌, ℕ, zero, suc, Bool, false, List, [], ◌∷◌, length, get_or, refl, ◌∙◌, subst, inl, inr, arith}
use Rattle.std.specs.Prelude.{All, slice_set}
use Rattle.std.proofs.lemmas.Bool.{cases_eq, cases_lt}
use Rattle.std.proofs.lemmas.List.{get_or_past, get_or-replicate, get_or-set_other, length-replicate, length-set}
use Rattle.std.proofs.lemmas.List.Elements.{All-nil, All-replicate, All-set, All-weaker}
use Rattle.rx_ring.specs.DmaArena.Memory.{Memory}
use Rattle.rx_ring.specs.DmaRing.declared.dir.Dir.TheVariants.{Rx, Tx}
use Rattle.eeprom_image.specs.Image.{IsImage}
use Rattle.register_file.specs.Queue.{is_on}
use Rattle.register_file.specs.Registers.{Registers}
use Rattle.register_laws.specs.Footprint.{ChangesWithin}
use Rattle.register_laws.specs.Sound.{AreSound}
use Rattle.register_laws.proofs.Footprints.{within-refl}
use Rattle.nic_device.specs.Footprint.{Reach, StaysWithin}
use Rattle.nic_device.specs.Sound.{AreBlocks, AreStaged, AreStagedWhileOn, AreWaiting, IsBegunWhileOn, IsOut, IsSound, IsStaged}
use Rattle.nic_device.specs.State.{State, Waiting, none_staged}
use Rattle.nic_device.proofs.SidesOn.{KeepsOn, was_off}

-- Sound parts.

-- Replaced registers, waiting frames and staged bytes that are sound together.
pub sound-changed : (s : State) (r : Registers) (ws : List Waiting) (staged : List (List ℕ)) → IsSound s → AreSound r
    → AreWaiting ws → All (IsBegunWhileOn r) ws → length ws ≤ s.fifo → AreStaged staged → AreStagedWhileOn r staged
    → IsSound (record s { registers = r; waiting = ws; staged = staged })
sound-changed s r ws staged h sound waiting begun room short bare = assumption

-- Registers are replaced, and each enabled side is still enabled.
pub sound-registers : (s : State) (r : Registers) → IsSound s → AreSound r → KeepsOn s.registers r
    → IsSound (record s { registers = r })
sound-registers s r h sound on =
    let begun = All-weaker (IsBegunWhileOn s.registers) (IsBegunWhileOn r) (λ w was some. on Rx w.queue (was some))
    s.waiting h.begun in
    sound-changed s r s.waiting s.staged h sound h.waiting begun h.room h.staged
    (λ queue off. h.bare queue (was_off s.registers r on Tx queue off))

pub sound-memory : (s : State) (m : Memory) → IsSound s → AreBlocks m → IsSound (record s { memory = m })
sound-memory s m h blocks = assumption

pub sound-waiting : (s : State) (ws : List Waiting) → IsSound s → AreWaiting ws → All (IsBegunWhileOn s.registers) ws
    → length ws ≤ s.fifo → IsSound (record s { waiting = ws })
sound-waiting s ws h waiting begun room = assumption

pub sound-staged : (s : State) (staged : List (List ℕ)) → IsSound s → AreStaged staged
    → AreStagedWhileOn s.registers staged → IsSound (record s { staged = staged })
sound-staged s staged h short bare = assumption

pub sound-out : (s : State) (out : List (ℕ × List ℕ)) → IsSound s → All IsOut out → IsSound (record s { out = out })
sound-out s out h sent = assumption

-- The link goes up or down.
pub sound-link : (s : State) (link : Bool) → IsSound s → IsSound (record s { link = link })
sound-link s link h = assumption

pub sound-image : (s : State) (image : List ℕ) → IsSound s → IsImage image → IsSound (record s { image = image })
sound-image s image h is = assumption

-- Staged bytes.

pub IsStaged-none : IsStaged []
IsStaged-none = record { bytes = All-nil (λ byte. byte < 256); short = omega arith }

pub AreStaged-none : AreStaged none_staged
AreStaged-none = record {
  queues = length-replicate {A = List ℕ} 128 [];
  each = All-replicate IsStaged 128 [] IsStaged-none;
}

pub bare-none : (r : Registers) → AreStagedWhileOn r none_staged
bare-none r queue off = elim (cases_lt queue 128) as (λ _. get_or none_staged queue [] ≡ []) [
  | inl small ↦ get_or-replicate 128 queue [] [] small
  | inr past ↦ get_or_past none_staged queue [] past
]

pub AreStaged-set : (staged : List (List ℕ)) (queue : ℕ) (bytes : List ℕ) → AreStaged staged → IsStaged bytes
    → AreStaged (slice_set staged queue bytes)
AreStaged-set staged queue bytes h short = record {
  queues = simp length-set h.queues;
  each = All-set IsStaged staged queue bytes short h.each;
}

-- A queue whose staged bytes were dropped has no staged bytes.
pub dropped-none : (staged : List (List ℕ)) (i : ℕ) → get_or (slice_set staged i []) i [] ≡ []
dropped-none [] i = refl
dropped-none (x ∷ xs) zero = refl
dropped-none (x ∷ xs) (suc i) = dropped-none xs i

-- Replacing a queue's staged bytes. The queue's transmit side is enabled, or the new bytes are empty.
pub bare-set : (r : Registers) (staged : List (List ℕ)) (queue : ℕ) (bytes : List ℕ) → AreStagedWhileOn r staged
    → (is_on r Tx queue ≡ false → bytes ≡ []) → AreStagedWhileOn r (slice_set staged queue bytes)
bare-set r staged queue bytes bare own other off =
    elim (cases_eq other queue) as (λ _. get_or (slice_set staged queue bytes) other [] ≡ []) [
      | inl same ↦
          let none = own (subst (λ n. is_on r Tx n ≡ false) same off) in
          rw (same, none) (dropped-none staged queue)
      | inr apart ↦ get_or-set_other staged queue other bytes [] apart ∙ bare other off
    ]

-- What is unchanged.

pub stays-still : (r : Reach) (s : State) → StaysWithin r s s
stays-still r s = assumption (within-refl r.registers s.registers)

pub stays-registers : (r : Reach) (s : State) (g : Registers) → ChangesWithin r.registers s.registers g
    → StaysWithin r s (record s { registers = g })
stays-registers r s g within = assumption
