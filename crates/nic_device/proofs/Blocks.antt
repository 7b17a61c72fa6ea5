-- Lent blocks stay whole, and their elements stay bytes.
use Rattle.std.proofs.Common.{◌≡◌, ℕ, zero, suc, ◌+◌, ◌/◌, ◌%◌, ◌<◌, inl, inr, List, [], ◌∷◌, length, get_or, refl, sym, subst, ◌∙◌, arith, Option, Some, None}
use Rattle.std.specs.Prelude.{IfSome, unwrap_or}
use Rattle.std.proofs.Math.ListN.{set}
use Rattle.std.specs.FinMap as map
use Rattle.std.specs.Ordering.{nat_cmp}
use Rattle.std.specs.Int.{Width, w64, byte_at, bytes_low_first, byte_len, to_le_bytes}
use Rattle.std.proofs.lemmas.Bool.{cases_eq, cases_lt}
use Rattle.std.proofs.lemmas.List.{get_or_past}
use Rattle.std.proofs.lemmas.List.Elements.{All-nil, All-cons, All-head, All-tail, All-append, All-set}
use Rattle.rx_ring.specs.DmaArena.Block.{Block}
use Rattle.rx_ring.specs.DmaArena.Memory.{Memory, byte_at as memory_byte, read_at, with_byte, set_byte, write_at}
use Rattle.rx_ring.proofs.DmaArena.Bus.{get-insert_same, get-insert_other, get-remove_same, get-remove_other, IsWhole-write_at}
use Rattle.rx_ring.proofs.DmaArena.Moves.{IsWhole-insert, IsWhole-remove}
use Rattle.rx_ring.specs.DmaRing.Descriptor.{of_halves}
use Rattle.nic_device.specs.Sound.{AreBytes, AreBlocks, IsLendable}

-- The bytes of a word.
byte-small : (at word : ℕ) → byte_at at word < 256
byte-small zero word = omega arith
byte-small (suc at) word = omega arith

bytes_low_first-small : (from count word : ℕ) → AreBytes (bytes_low_first from count word)
bytes_low_first-small from zero word = All-nil (λ byte. byte < 256)
bytes_low_first-small from (suc count) word =
    All-cons (λ byte. byte < 256) (byte_at from word) (bytes_low_first (suc from) count word) (byte-small from word)
    (bytes_low_first-small (suc from) count word)

pub to_le_bytes-small : (w : Width) (word : ℕ) → AreBytes (to_le_bytes w word)
to_le_bytes-small w word = bytes_low_first-small 0 (byte_len w) word

pub of_halves-small : (first second : ℕ) → AreBytes (of_halves first second)
unfolding of_halves
of_halves-small first second =
    All-append (λ byte. byte < 256) (to_le_bytes w64 first) (to_le_bytes w64 second) (to_le_bytes-small w64 first)
    (to_le_bytes-small w64 second)

abbrev HasBytes : Memory → Type 0
HasBytes m = (number : ℕ) (block : List ℕ) → map.get m number ≡ Some block → AreBytes block

-- Memory calls.

HasBytes-insert : (m : Memory) (number : ℕ) (bytes : List ℕ) → HasBytes m → AreBytes bytes
    → HasBytes (map.insert m number bytes)
HasBytes-insert m number bytes h small other block got =
    elim (cases_eq other number) as (λ _. AreBytes block) [
      | inl e ↦ let same : Some bytes ≡ Some block = sym (rw e (get-insert_same m number bytes)) ∙ got in
          let is : bytes ≡ block = cc in subst AreBytes is small
      | inr n ↦ h other block (sym (get-insert_other m number bytes other n) ∙ got)
    ]

pub AreBlocks-insert : (m : Memory) (b : Block) → AreBlocks m → IsLendable b → AreBlocks (map.insert m b.number b.bytes)
AreBlocks-insert m b h is = record {
  whole = IsWhole-insert m b.number b.bytes h.whole is.whole;
  bytes = HasBytes-insert m b.number b.bytes h.bytes is.bytes;
}

HasBytes-remove : (m : Memory) (number : ℕ) → HasBytes m → HasBytes (map.remove m number)
HasBytes-remove m number h other block got =
    elim (cases_eq other number) as (λ _. AreBytes block) [
      | inl e ↦ let none : None ≡ Some block = sym (rw e (get-remove_same m number)) ∙ got in cc
      | inr n ↦ h other block (sym (get-remove_other m number other n) ∙ got)
    ]

pub AreBlocks-remove : (m : Memory) (number : ℕ) → AreBlocks m → AreBlocks (map.remove m number)
AreBlocks-remove m number h = record {
  whole = IsWhole-remove m number h.whole;
  bytes = HasBytes-remove m number h.bytes;
}

-- Bytes that are written.

HasBytes-with_byte : (m : Memory) (a byte : ℕ) (o : Option (List ℕ)) → map.get m (a / 2048) ≡ o → HasBytes m
    → byte < 256 → HasBytes (with_byte m a byte o)
HasBytes-with_byte m a byte None is h small = h
HasBytes-with_byte m a byte (Some bytes) is h small =
    HasBytes-insert m (a / 2048) (set bytes (a % 2048) byte) h
    (All-set (λ b. b < 256) bytes (a % 2048) byte small (h (a / 2048) bytes is))

HasBytes-set_byte : (m : Memory) (a byte : ℕ) → HasBytes m → byte < 256 → HasBytes (set_byte m a byte)
unfolding set_byte
HasBytes-set_byte m a byte h small = HasBytes-with_byte m a byte (map.get m (a / 2048)) refl h small

HasBytes-write_at : (m : Memory) (a : ℕ) (bytes : List ℕ) → HasBytes m → AreBytes bytes
    → HasBytes (write_at m a bytes)
unfolding write_at
HasBytes-write_at m a [] h small = h
HasBytes-write_at m a (byte ∷ bytes) h small =
    HasBytes-write_at (set_byte m a byte) (a + 1) bytes
    (HasBytes-set_byte m a byte h (All-head (λ b. b < 256) byte bytes small)) (All-tail (λ b. b < 256) byte bytes small)

pub AreBlocks-write_at : (m : Memory) (a : ℕ) (bytes : List ℕ) → AreBlocks m → AreBytes bytes
    → AreBlocks (write_at m a bytes)
AreBlocks-write_at m a bytes h small = record {
  whole = IsWhole-write_at m a bytes h.whole;
  bytes = HasBytes-write_at m a bytes h.bytes small;
}

-- Bytes that are read.
byte-of : (o : Option (List ℕ)) (i : ℕ) → IfSome o AreBytes → get_or (unwrap_or o []) i 0 < 256
byte-of None i is = omega arith
byte-of (Some bytes) i is = elim (cases_lt i (length bytes)) as (λ _. get_or bytes i 0 < 256) [
  | inl inside ↦ is i 0 inside
  | inr past ↦ rw (get_or_past bytes i 0 past) (omega arith)
]

bytes-of : (m : Memory) (number : ℕ) (o : Option (List ℕ)) → HasBytes m → map.get m number ≡ o → IfSome o AreBytes
bytes-of m number None h got = tt
bytes-of m number (Some block) h got = h number block got

byte_at-small : (m : Memory) (a : ℕ) → HasBytes m → memory_byte m a < 256
unfolding memory_byte
byte_at-small m a h =
    byte-of (map.get m (a / 2048)) (a % 2048) (bytes-of m (a / 2048) (map.get m (a / 2048)) h refl)

pub read_at-small : (m : Memory) → AreBlocks m → (a n : ℕ) → AreBytes (read_at m a n)
unfolding read_at
read_at-small m h a zero = All-nil (λ byte. byte < 256)
read_at-small m h a (suc n) =
    All-cons (λ byte. byte < 256) (memory_byte m a) (read_at m (a + 1) n) (byte_at-small m a h.bytes)
    (read_at-small m h (a + 1) n)

-- No block is lent.
pub AreBlocks-empty : AreBlocks map.empty
AreBlocks-empty = record {
  whole = record {
    block = λ number block got. let no : None ≡ Some block = sym (map.get-empty nat_cmp number) ∙ got in absurd (cc);
  };
  bytes = λ number block got. let no : None ≡ Some block = sym (map.get-empty nat_cmp number) ∙ got in absurd (cc);
}
