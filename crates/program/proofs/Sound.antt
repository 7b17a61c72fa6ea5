-- Lemmas about data strings that were read: their number and their contents.
use Rattle.std.proofs.Common.{◌≡◌, ℕ, ◌+◌, ◌≤◌, Bool, true, false, cond, nat_le, ◌&&◌, List, ◌++◌, length, take, drop, Some, None}
use Rattle.std.proofs.Common.{refl, sym, ap, ◌∙◌, arith, length-drop}
use Rattle.std.proofs.lemmas.Bool.{and_parts}
use Rattle.std.proofs.lemmas.List.{length-take-le, take-append-drop}
use borrow.Author.Tests.{leb-true}
use Rattle.program.specs.Bytes.{number16_at}
use Rattle.program.specs.Object.{string_in}

-- If a value that depends on a test is present, the test was true.
passed : {A : Type 0} (test : Bool) (x y : A) → cond test (Some x) None ≡ Some y → (test ≡ true) × (x ≡ y)
passed true x y is = (refl, cc)
passed false x y is = cc

-- What holds for a data string that was split off from bytes.
pub record IsSplit (bytes string more : List ℕ) : Type 0 where
  pub some : 1 ≤ length string
  pub short : length string ≤ 16384
  pub size : length string ≡ number16_at bytes 0
  pub spelled : string ++ more ≡ drop 2 bytes
  pub long : 2 ≤ length bytes

pub string_in-split : (bytes string more : List ℕ) → string_in bytes ≡ Some (string, more) →
    IsSplit bytes string more × (more ≡ drop (number16_at bytes 0) (drop 2 bytes))
unfolding string_in
string_in-split bytes string more is =
    let size = number16_at bytes 0 in
    let both = passed _ (take size (drop 2 bytes), drop size (drop 2 bytes)) (string, more) is in
    let inside = and_parts (nat_le 1 size && nat_le size 16384) (nat_le (2 + size) (length bytes)) both.0 in
    let limits = and_parts (nat_le 1 size) (nat_le size 16384) inside.0 in
    let some = leb-true 1 size limits.0 in
    let short = leb-true size 16384 limits.1 in
    let long = leb-true (2 + size) (length bytes) inside.1 in
    let front : take size (drop 2 bytes) ≡ string = ap (λ split. split.0) both.1 in
    let back : drop size (drop 2 bytes) ≡ more = ap (λ split. split.1) both.1 in
    let count : length string ≡ size =
    ap length (sym front) ∙ length-take-le size (drop 2 bytes) (omega (arith, length-drop 2 bytes)) in (
      record {
        some = omega arith;
        short = omega arith;
        size = count;
        spelled = ap (λ front. front ++ more) (sym front) ∙ ap (λ more. take size (drop 2 bytes) ++ more) (sym back)
            ∙ take-append-drop size (drop 2 bytes);
        long = omega arith;
      },
      sym back,
    )
