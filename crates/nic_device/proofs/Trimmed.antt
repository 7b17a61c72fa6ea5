-- Bytes without the trailing zeros, followed by zeros.
use Rattle.std.proofs.Common.{◌≡◌, ◌≢◌, ℕ, zero, suc, ◌-◌, ◌<◌, ◌≤◌, List, [], ◌∷◌, ◌++◌, length, take, replicate, get_or, refl, sym, ap, ◌∙◌, arith, ◌⊎◌, inl, inr, Bool, true, false, eqb}
use Rattle.std.specs.Prelude.{not}
use Rattle.std.proofs.lemmas.Bool.{eqb-true, cases_lt}
use Rattle.std.proofs.lemmas.List.{length-append, length-replicate, length-take-le, take_at, get_or_past}
use Rattle.rx_ring.specs.DmaArena.Block.{Block, IsZeroFrom}
use Rattle.nic_device.specs.NotesHolding.{Held}
use Rattle.nic_device.specs.NotesTrimming.{kept_with, kept_len}

with_le : (kept byte n : ℕ) → kept ≤ n → kept_with kept byte ≤ suc n
with_le (suc kept) byte n h = omega arith
with_le zero zero n h = omega arith
with_le zero (suc byte) n h = omega arith

pub kept_len_le : (bytes : List ℕ) → kept_len bytes ≤ length bytes
unfolding kept_len
kept_len_le [] = omega arith
kept_len_le (b ∷ bytes) = with_le (kept_len bytes) b (length bytes) (kept_len_le bytes)

kept-zeros : (n : ℕ) → kept_len (replicate n 0) ≡ 0
unfolding kept_len
kept-zeros zero = refl
kept-zeros (suc n) = ap (λ (k : ℕ). kept_with k 0) (kept-zeros n)

pub kept-zeros_after : (bytes : List ℕ) (n : ℕ) → kept_len (bytes ++ replicate n 0) ≡ kept_len bytes
unfolding kept_len
kept-zeros_after [] n = kept-zeros n
kept-zeros_after (b ∷ bytes) n = ap (λ (k : ℕ). kept_with k b) (kept-zeros_after bytes n)

whole_with : (k b : ℕ) (bytes : List ℕ) → take k bytes ++ replicate (length bytes - k) 0 ≡ bytes
    → take (kept_with k b) (b ∷ bytes) ++ replicate (suc (length bytes) - kept_with k b) 0 ≡ b ∷ bytes
whole_with (suc k) b bytes is =
    let less : suc (length bytes) - suc (suc k) ≡ length bytes - suc k = omega arith in
    ap (λ (m : ℕ). b ∷ (take (suc k) bytes ++ replicate m 0)) less ∙ ap (λ (l : List ℕ). b ∷ l) is
whole_with zero zero bytes is =
    let less : suc (length bytes) - 0 ≡ suc (length bytes - 0) = omega arith in
    ap (λ (m : ℕ). replicate m 0) less ∙ ap (λ (l : List ℕ). 0 ∷ l) is
whole_with zero (suc b) bytes is =
    let less : suc (length bytes) - 1 ≡ length bytes - 0 = omega arith in
    ap (λ (m : ℕ). suc b ∷ replicate m 0) less ∙ ap (λ (l : List ℕ). suc b ∷ l) is

-- Only zero bytes follow the kept bytes.
pub kept-whole : (bytes : List ℕ)
    → take (kept_len bytes) bytes ++ replicate (length bytes - kept_len bytes) 0 ≡ bytes
unfolding kept_len
kept-whole [] = refl
kept-whole (b ∷ bytes) = whole_with (kept_len bytes) b bytes (kept-whole bytes)

pub kept-none : (bytes : List ℕ) → ((k : ℕ) → get_or bytes k 0 ≡ 0) → kept_len bytes ≡ 0
unfolding kept_len
kept-none [] zeros = refl
kept-none (b ∷ bytes) zeros =
    ap (λ (k : ℕ). kept_with k b) (kept-none bytes (λ k. zeros (suc k))) ∙ ap (λ (x : ℕ). kept_with 0 x) (zeros 0)

with-last : (b : ℕ) → b ≢ 0 → kept_with 0 b ≡ 1
with-last zero last = absurd (last refl)
with-last (suc b) last = refl

-- If the last nonzero byte is at index m, the bytes up to this index are kept.
pub kept-last : (bytes : List ℕ) (m : ℕ) → ((k : ℕ) → m < k → get_or bytes k 0 ≡ 0) → get_or bytes m 0 ≢ 0
    → kept_len bytes ≡ suc m
unfolding kept_len
kept-last [] m zeros last = absurd (last refl)
kept-last (b ∷ bytes) zero zeros last =
    ap (λ (k : ℕ). kept_with k b) (kept-none bytes (λ k. zeros (suc k) (omega arith))) ∙ with-last b last
kept-last (b ∷ bytes) (suc m) zeros last =
    ap (λ (k : ℕ). kept_with k b) (kept-last bytes m (λ k h. zeros (suc k) (omega arith)) last)

-- Trimming the kept bytes again keeps all of them.
pub kept-take : (bytes : List ℕ) → kept_len (take (kept_len bytes) bytes) ≡ length (take (kept_len bytes) bytes)
kept-take bytes =
    let kept = take (kept_len bytes) bytes in
    let after = kept-zeros_after kept (length bytes - kept_len bytes) in
    let all : kept_len bytes ≡ kept_len kept = ap kept_len (sym (kept-whole bytes)) ∙ after in
    sym all ∙ sym (length-take-le (kept_len bytes) bytes (kept_len_le bytes))

module _ (kept : List ℕ) (zeros : ℕ) (trimmed : kept_len kept ≡ length kept) where
  after : kept_len (kept ++ replicate zeros 0) ≡ length kept
  after = kept-zeros_after kept zeros ∙ trimmed

  -- Trimming kept bytes followed by zeros keeps the same bytes.
  pub kept_of_all : take (kept_len (kept ++ replicate zeros 0)) (kept ++ replicate zeros 0) ≡ kept
  kept_of_all =
      ap (λ (n : ℕ). take n (kept ++ replicate zeros 0)) after ∙ take_at kept (replicate zeros 0) (length kept) refl

  pub zeros_of_all : length (kept ++ replicate zeros 0) - kept_len (kept ++ replicate zeros 0) ≡ zeros
  zeros_of_all =
      let all = length-append kept (replicate zeros 0) in
      let rest = length-replicate {A = ℕ} zeros 0 in
      omega (arith, after, all, rest)

-- A block, given its number, its kept bytes and the number of zeros that follow.
abbrev pub block : ℕ → List ℕ → ℕ → Block
block number kept zeros = record { number = number; bytes = kept ++ replicate zeros 0 }

-- A block, given its number and its bytes.
abbrev pub block_of : ℕ → List ℕ → Block
block_of number bytes = record { number = number; bytes = bytes }

pub block-same : (n m : ℕ) (kept other : List ℕ) (zeros others : ℕ) → n ≡ m → kept ≡ other → zeros ≡ others
    → block n kept zeros ≡ block m other others
block-same n m kept other zeros others number bytes after =
    ap (λ (i : ℕ). block i kept zeros) number ∙ ap (λ (l : List ℕ). block m l zeros) bytes ∙ ap (block m other) after

-- Two equal blocks are stored with the same number, kept bytes and number of zeros.
pub same-block : (n m : ℕ) (kept other : List ℕ) (zeros others : ℕ)
    → kept_len kept ≡ length kept → kept_len other ≡ length other → block n kept zeros ≡ block m other others
    → (n ≡ m) × (kept ≡ other) × (zeros ≡ others)
same-block n m kept other zeros others trimmed short is = (
  ap (λ (b : Block). b.number) is,
  sym (kept_of_all kept zeros trimmed) ∙ ap (λ (b : Block). take (kept_len b.bytes) b.bytes) is
      ∙ kept_of_all other others short,
  sym (zeros_of_all kept zeros trimmed) ∙ ap (λ (b : Block). length b.bytes - kept_len b.bytes) is
      ∙ zeros_of_all other others short,
)

zero_beyond : (bytes : List ℕ) (from k : ℕ) → length bytes ≡ 2048 → IsZeroFrom from bytes → from ≤ k
    → (k < 2048) ⊎ (2048 ≤ k) → get_or bytes k 0 ≡ 0
zero_beyond bytes from k size zeros le (inl lt) = zeros k le lt
zero_beyond bytes from k size zeros le (inr past) = get_or_past bytes k 0 (omega (arith, size, past))

-- Past a block's end, nothing is read.
pub zeros_on : (bytes : List ℕ) (from : ℕ) → length bytes ≡ 2048 → IsZeroFrom from bytes
    → (k : ℕ) → from ≤ k → get_or bytes k 0 ≡ 0
zeros_on bytes from size zeros k le = zero_beyond bytes from k size zeros le (cases_lt k 2048)

zero_when : (b : Bool) → not b ≡ false → b ≡ true
zero_when true is = refl
zero_when false is = sym is

pub zero_from_not : (byte : ℕ) → not (eqb byte 0) ≡ false → byte ≡ 0
zero_from_not byte is = eqb-true byte 0 (zero_when (eqb byte 0) is)

-- Two notes hold the same contents if each part is equal.
pub held-same : (h g : Held) → (h.number ≡ g.number) × (h.kept ≡ g.kept) × (h.zeros ≡ g.zeros) → h ≡ g
held-same h g all =
    ap (λ (n : ℕ). record { number = n; zeros = h.zeros; kept = h.kept }) all.0
    ∙ ap (λ (l : List ℕ). record { number = g.number; zeros = h.zeros; kept = l }) all.1
    ∙ ap (λ (z : ℕ). record { number = g.number; zeros = z; kept = g.kept }) all.2

-- What a note stores about a block: the block's number, its kept bytes, and the number of zeros that follow.
module _ (buf : Block) (bytes : List ℕ) (kept n z : ℕ) (h : Held)
    (is : h ≡ record { number = n; zeros = z; kept = bytes })
    (all : kept ≡ kept_len buf.bytes) (front : bytes ≡ take kept buf.bytes) where
  held : h.kept ≡ take (kept_len buf.bytes) buf.bytes
  held = ap (λ (x : Held). x.kept) is ∙ front ∙ ap (λ (k : ℕ). take k buf.bytes) all

  pub held-trimmed : kept_len h.kept ≡ length h.kept
  held-trimmed = ap kept_len held ∙ kept-take buf.bytes ∙ sym (ap length held)

  pub held-whole : n ≡ buf.number → z ≡ length buf.bytes - kept → block h.number h.kept h.zeros ≡ buf
  held-whole number after =
      let zeros : h.zeros ≡ length buf.bytes - kept_len buf.bytes =
      ap (λ (x : Held). x.zeros) is ∙ after ∙ ap (λ (k : ℕ). length buf.bytes - k) all in
      block-same _ _ _ _ _ _ (ap (λ (x : Held). x.number) is ∙ number) held zeros
      ∙ ap (block_of buf.number) (kept-whole buf.bytes)
