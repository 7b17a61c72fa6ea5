-- What the setup of the whole device writes, in numbers: the address of each register, in the order of the writes, and
-- its value.
use Rattle.std.specs.Prelude.{ℕ, ◌≡◌, ◌*◌, ◌<◌, ◌≤◌, List, [], ◌∷◌, Option, Some, drop, map, take, true, false}
use Rattle.pmd_driver.specs.NicDevice.RegTable.Place.{address_among}
use Rattle.pmd_driver.specs.NicDevice.RegTable.Runs.{runs}
use Rattle.pmd_driver.specs.NicDevice.VfMap.declared.mode.Mode.TheVariants.{Off, Pools16, Pools32, Pools64}
use Rattle.pmd_driver.specs.PmdAccess.Setup.{settings_of, word_in}
use Rattle.pmd_driver.specs.PmdAccess.declared.setup.Setting.{Setting}
use Rattle.pmd_driver.specs.PmdAccess.declared.setup.Setup.{Setup}

-- The registers' addresses, and their values.

abbrev pub addresses_of : List Setting → List (Option ℕ)
addresses_of ss = map (λ s. address_among runs s.place) ss

abbrev pub words_of : List Setting → List ℕ
words_of ss = map (λ s. s.word) ss

-- The settings before the key, the key, the redirection table, and the settings after it.

abbrev pub front : Setup → List Setting
front s = take 7 (settings_of s)

abbrev pub key : Setup → List Setting
key s = take 10 (drop 7 (settings_of s))

abbrev pub table : Setup → List Setting
table s = take 32 (drop 17 (settings_of s))

abbrev pub back : Setup → List Setting
back s = drop 49 (settings_of s)

-- The values of `front`: for GCR_EXT and VT_CTL, then the four values that enable all pools, then for MRQC.
abbrev pub front_words : ℕ → ℕ → ℕ → List ℕ
front_words mode pools mrqc =
    mode ∷ pools ∷ 0xFFFFFFFF ∷ 0xFFFFFFFF ∷ 0xFFFFFFFF ∷ 0xFFFFFFFF ∷ mrqc ∷ []

-- The 32-bit values that the list of bytes contains at the given indexes.
abbrev pub first_words : List ℕ → List ℕ → List ℕ
first_words bytes indexes = map (word_in bytes) indexes

-- The writes: GCR_EXT, VT_CTL, VFRE and VFTE of both halves of the pools, and MRQC; the key's 10 registers and the
-- table's 32; RXCSUM, FCTRL, MAXFRS if frames may be longer than 1,518 bytes, HLREG0, DMATXCTL and RXCTRL.
pub record SetUp (s : Setup) : Type 0 where
  pub front_addresses :
      addresses_of (front s)
      ≡ map Some (0x11050 ∷ 0x051B0 ∷ 0x051E0 ∷ 0x051E4 ∷ 0x08110 ∷ 0x08114 ∷ 0x05818 ∷ [])
  pub off : s.mode ≡ Off → words_of (front s) ≡ front_words 0 0 s.mrqc
  pub pools_of_16 : s.mode ≡ Pools16 → words_of (front s) ≡ front_words 1 1 s.mrqc
  pub pools_of_32 : s.mode ≡ Pools32 → words_of (front s) ≡ front_words 2 1 s.mrqc
  pub pools_of_64 : s.mode ≡ Pools64 → words_of (front s) ≡ front_words 3 1 s.mrqc
  pub key_addresses :
      addresses_of (key s)
      ≡ map Some (0x05C80 ∷ 0x05C84 ∷ 0x05C88 ∷ 0x05C8C ∷ 0x05C90 ∷ 0x05C94 ∷ 0x05C98 ∷ 0x05C9C ∷ 0x05CA0
      ∷ 0x05CA4 ∷ [])
  pub key_words :
      words_of (key s) ≡ first_words s.key (0 ∷ 1 ∷ 2 ∷ 3 ∷ 4 ∷ 5 ∷ 6 ∷ 7 ∷ 8 ∷ 9 ∷ [])
  pub table_addresses :
      addresses_of (table s)
      ≡ map Some
      (0x05C00 ∷ 0x05C04 ∷ 0x05C08 ∷ 0x05C0C ∷ 0x05C10 ∷ 0x05C14 ∷ 0x05C18 ∷ 0x05C1C ∷ 0x05C20 ∷ 0x05C24
      ∷ 0x05C28 ∷ 0x05C2C ∷ 0x05C30 ∷ 0x05C34 ∷ 0x05C38 ∷ 0x05C3C ∷ 0x05C40 ∷ 0x05C44 ∷ 0x05C48 ∷ 0x05C4C
      ∷ 0x05C50 ∷ 0x05C54 ∷ 0x05C58 ∷ 0x05C5C ∷ 0x05C60 ∷ 0x05C64 ∷ 0x05C68 ∷ 0x05C6C ∷ 0x05C70 ∷ 0x05C74
      ∷ 0x05C78 ∷ 0x05C7C ∷ [])
  pub table_words :
      words_of (table s)
      ≡ first_words s.reta
      (0 ∷ 1 ∷ 2 ∷ 3 ∷ 4 ∷ 5 ∷ 6 ∷ 7 ∷ 8 ∷ 9 ∷ 10 ∷ 11 ∷ 12 ∷ 13 ∷ 14 ∷ 15 ∷ 16 ∷ 17 ∷ 18 ∷ 19 ∷ 20 ∷ 21 ∷ 22
      ∷ 23 ∷ 24 ∷ 25 ∷ 26 ∷ 27 ∷ 28 ∷ 29 ∷ 30 ∷ 31 ∷ [])
  pub short :
      s.frame ≤ 1518 → addresses_of (back s)
      ≡ map Some (0x05000 ∷ 0x05080 ∷ 0x04240 ∷ 0x04A80 ∷ 0x03000 ∷ [])
  pub short_some : s.frame ≤ 1518 → s.promiscuous ≡ false → words_of (back s) ≡ 0x2000 ∷ 0x400 ∷ 0x403 ∷ 1 ∷ 1 ∷ []
  pub short_all : s.frame ≤ 1518 → s.promiscuous ≡ true → words_of (back s) ≡ 0x2000 ∷ 0x700 ∷ 0x403 ∷ 1 ∷ 1 ∷ []
  pub long :
      1518 < s.frame → addresses_of (back s)
      ≡ map Some (0x05000 ∷ 0x05080 ∷ 0x04268 ∷ 0x04240 ∷ 0x04A80 ∷ 0x03000 ∷ [])
  pub long_some :
      1518 < s.frame → s.promiscuous ≡ false
      → words_of (back s) ≡ 0x2000 ∷ 0x400 ∷ 0x10000 * s.frame ∷ 0x407 ∷ 1 ∷ 1 ∷ []
  pub long_all :
      1518 < s.frame → s.promiscuous ≡ true
      → words_of (back s) ≡ 0x2000 ∷ 0x700 ∷ 0x10000 * s.frame ∷ 0x407 ∷ 1 ∷ 1 ∷ []

abbrev pub SetUpIsWritten : Type 0
SetUpIsWritten = (s : Setup) → SetUp s

-- The two 32-bit values of eight bytes.
pub record BytesAreLowestFirst : Type 0 where
  pub first : word_in (1 ∷ 2 ∷ 3 ∷ 4 ∷ 5 ∷ 6 ∷ 7 ∷ 8 ∷ []) 0 ≡ 0x04030201
  pub second : word_in (1 ∷ 2 ∷ 3 ∷ 4 ∷ 5 ∷ 6 ∷ 7 ∷ 8 ∷ []) 1 ≡ 0x08070605
