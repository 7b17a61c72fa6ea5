-- The properties of the words of sound registers.
use Rattle.std.specs.Prelude.{ℕ, ◌%◌, ◌^◌, ◌≡◌, ◌<◌, Bool, IsTrue, IsFalse}
use Rattle.register_file.specs.DmaRing.declared.ring.Ring.{Ring}
use Rattle.register_laws.specs.Prelude.{Dir, Kind, Place, Registers, asks_reset, behaviour_of, ring_of, row_of, word_at}
use Rattle.register_laws.specs.Sound.{AreSound}

-- Each word of sound registers has 32 bits.
abbrev pub SoundWordsAreSmall : Type 0
SoundWordsAreSmall = (r : Registers) → AreSound r → (p : Place) → word_at r.words p < 2 ^ 32

-- Whether a register of this kind stores no word because it only triggers actions or is calculated.
abbrev pub keeps_none : Kind → Bool
keeps_none k = (behaviour_of k).keeps_none

-- If a register only triggers actions or is calculated, its word is 0.
abbrev pub ActingWordsAreNone : Type 0
ActingWordsAreNone =
    (r : Registers) → AreSound r → (p : Place) → IsTrue (keeps_none (row_of p.row).kind) → word_at r.words p ≡ 0

-- Writing a word back to its register never requests a reset: bits 3 and 26 of CTRL are 0.
abbrev pub NoWordAsksReset : Type 0
NoWordAsksReset =
    (r : Registers) → AreSound r → (p : Place) → IsFalse (asks_reset (row_of p.row).kind (word_at r.words p))

-- A ring's base and length are multiples of 128.
pub record IsAligned (ring : Ring) : Type 0 where
  pub base : ring.base % 128 ≡ 0
  pub length : ring.length % 128 ≡ 0

abbrev pub RingsAreAligned : Type 0
RingsAreAligned = (r : Registers) → AreSound r → (dir : Dir) (queue : ℕ) → IsAligned (ring_of r dir queue)
