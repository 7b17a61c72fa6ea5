-- What reads of CTRL, GCR_EXT and IVAR_MISC show.
use Rattle.std.proofs.Common.{◌≡◌, ℕ, ◌<◌, ◌%◌, ◌==◌, if◌then◌else◌, ap, ◌∙◌, arith, lit<}
use Rattle.std.proofs.lemmas.Bool.Decides.{nat_tests}
use Rattle.nic_device.specs.VfMap.declared.mode.Mode.TheVariants.{Off, Pools16, Pools32, Pools64}
use Rattle.datasheet_laws.specs.Prelude.{Ctrl, GcrExt, IsSound, IvarMisc, Mode, State, is_stopped, mode_in, place}
use Rattle.datasheet_laws.specs.Prelude.{pools_in, word_of}
use Rattle.datasheet_laws.proofs.Prelude.{first_address}
use Rattle.datasheet_laws.specs.Shown.{read_at, reads_one}
use Rattle.datasheet_laws.specs.Steps.{control_address, mode_address, misc_address, pools_by, pools_of}
use Rattle.datasheet_laws.proofs.Addresses.{address_of}
use Rattle.datasheet_laws.proofs.Reading.{read-word, word_lt}
use Rattle.datasheet_laws.proofs.Words.{whole-read}

pub stops : (s : State) → reads_one s control_address 2 ≡ is_stopped s.registers
stops s =
    whole-read s control_address 2 (place Ctrl 0)
    (address_of (place Ctrl 0) control_address (first_address (place Ctrl 0) (lit< tt))) (omega arith)

pub misc_word : (s : State) → IsSound s → read_at s misc_address ≡ word_of s.registers IvarMisc 0
misc_word s h =
    read-word s misc_address (place IvarMisc 0)
    (address_of (place IvarMisc 0) misc_address (first_address (place IvarMisc 0) (lit< tt)))
    (word_lt s h (place IvarMisc 0))

pub mode_word : (s : State) → IsSound s → read_at s mode_address ≡ word_of s.registers GcrExt 0
mode_word s h =
    read-word s mode_address (place GcrExt 0)
    (address_of (place GcrExt 0) mode_address (first_address (place GcrExt 0) (lit< tt)))
    (word_lt s h (place GcrExt 0))

-- The mode that the field of GCR_EXT selects.
abbrev pub mode_by : ℕ → Mode
mode_by n =
    if n == 0 then Off else (if n == 1 then Pools16 else (if n == 2 then Pools32 else Pools64))

pools_same : (n : ℕ) → n < 4 → pools_by n ≡ pools_in (mode_by n)
pools_same n h = grind (arith, nat_tests)

pub pools_there : (s : State) → IsSound s → pools_of s ≡ pools_in (mode_in s.registers)
pools_there s h =
    ap (λ w. pools_by (w % 4)) (mode_word s h)
    ∙ pools_same (word_of s.registers GcrExt 0 % 4) (omega arith)
