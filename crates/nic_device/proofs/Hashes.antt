-- Hashes and RSS types fit into their descriptor fields.
use Rattle.std.proofs.Common.{◌≡◌, ℕ, ◌^◌, ◌<◌, List, [], ◌∷◌, map, fold, bit_xor, refl, subst, arith}
use Rattle.std.proofs.lemmas.Nat.{xor_lt}
use Rattle.register_file.specs.RssHash.Bits.{set_bits, bits_from}
use Rattle.register_file.specs.RssHash.Choice.{code_of, hashed_part}
use Rattle.register_file.specs.RssHash.Toeplitz.{toeplitz_hash}
use Rattle.register_file.specs.RssHash.declared.choice.RssType.{RssType}
use Rattle.register_file.specs.RssHash.declared.choice.RssType.TheVariants.{NoHash, TcpIpv4, Ipv4, TcpIpv6, Ipv6, UdpIpv4, UdpIpv6}
use Rattle.register_file.proofs.RssHash.Sliding.{bits_from-lt}
use Rattle.nic_device.specs.Sound.{IsTypeNumber}

fold_windows-lt : (key ks : List ℕ) (acc : ℕ) → acc < 2 ^ 32
    → fold bit_xor acc (map (λ k. bits_from key k 32) ks) < 2 ^ 32
fold_windows-lt key [] acc small = small
fold_windows-lt key (k ∷ ks) acc small =
    fold_windows-lt key ks (bit_xor acc (bits_from key k 32))
    (xor_lt 32 acc (bits_from key k 32) small (bits_from-lt key k 32))

pub hash-lt : (key input : List ℕ) → toeplitz_hash key input < 2 ^ 32
unfolding toeplitz_hash
hash-lt key input = fold_windows-lt key (set_bits input) 0 (omega arith)

-- The hash of an empty input is 0.
pub hash-none : (key : List ℕ) → toeplitz_hash key [] ≡ 0
unfolding toeplitz_hash
hash-none key = refl

pub code-lt : (t : RssType) → code_of t < 16
code-lt NoHash = omega arith
code-lt TcpIpv4 = omega arith
code-lt Ipv4 = omega arith
code-lt TcpIpv6 = omega arith
code-lt Ipv6 = omega arith
code-lt UdpIpv4 = omega arith
code-lt UdpIpv6 = omega arith

-- An RSS type's number fits into four bits.
pub type-lt : (number : ℕ) → IsTypeNumber number → number < 16
type-lt number is = subst (λ n. n < 16) is.1 (code-lt is.0)

-- A frame without a type has hash 0.
pub unhashed : (key input : List ℕ) (t : RssType) → code_of t ≡ 0 → toeplitz_hash key (hashed_part t input) ≡ 0
unhashed key input NoHash none = hash-none key
unhashed key input other none = absurd (omega (arith, none))
