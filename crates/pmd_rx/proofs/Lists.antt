-- Lemmas about the first elements of a list, and the remaining ones.
use Rattle.std.proofs.Common.{◌≡◌, ℕ, ◌+◌, ◌≤◌, List, [], ◌∷◌, ◌++◌, take, drop, length, refl, sym, ap, ◌∙◌, append_assoc, drop-drop, arith}
use Rattle.std.proofs.lemmas.List.{length-append, length-map, take-append-le, drop-append-le, drop-take, take-append-drop, map-append, length-drop, drop-map, drop_all}
use Rattle.pmd_access.specs.Bufs.{numbers_of}
use Rattle.pmd_access.specs.Packet.{Kept, kept_of}
use Rattle.pmd_access.specs.declared.packet.Packet.{Packet}
use Rattle.pmd_rx.specs.Keeping.{numbers_of_all}
use Rattle.pmd_rx.specs.Receive.{records_of}
use Rattle.pmd_rx.specs.Shown.{AreRecords}

-- One element fewer.

pub take_less : {A : Type 0} (p q : ℕ) (xs : List A) → 1 + q ≡ p → take q (drop 1 xs) ≡ drop 1 (take p xs)
take_less p q xs is = sym (drop-take 1 q xs) ∙ ap (λ (n : ℕ). drop 1 (take n xs)) is

pub drop_less : {A : Type 0} (p q : ℕ) (xs : List A) → 1 + q ≡ p → drop q (drop 1 xs) ≡ drop p xs
drop_less p q xs is = drop-drop q 1 xs ∙ ap (λ (n : ℕ). drop n xs) is

-- The blocks of packets.

pub all-append : (ps qs : List Packet) → numbers_of_all (ps ++ qs) ≡ numbers_of_all ps ++ numbers_of_all qs
all-append [] qs = refl
all-append (p ∷ ps) qs =
    ap (λ (ns : List ℕ). numbers_of p.bufs ++ ns) (all-append ps qs)
    ∙ sym (append_assoc (numbers_of p.bufs) (numbers_of_all ps) (numbers_of_all qs))

pub all-split : (n : ℕ) (ps : List Packet)
    → numbers_of_all ps ≡ numbers_of_all (take n ps) ++ numbers_of_all (drop n ps)
all-split n ps = sym (ap numbers_of_all (take-append-drop n ps)) ∙ all-append (take n ps) (drop n ps)

-- The records of handed-out packets and of complete ones.

pub records_more : (handed : ℕ) (records more : List Kept) (whole ps : List Packet) → AreRecords handed records whole
    → more ≡ records ++ records_of ps → AreRecords handed more (whole ++ ps)
records_more handed records more whole ps are is = record {
  few = omega (arith, are.few, ap (λ (xs : List Kept). length xs) is, length-append records (records_of ps));
  after = ap (λ (xs : List Kept). drop handed xs) is ∙ drop-append-le handed records (records_of ps) are.few
      ∙ ap (λ (xs : List Kept). xs ++ records_of ps) are.after ∙ sym (map-append _ whole ps);
}

pub records_same : (handed : ℕ) (records more : List Kept) (whole ps : List Packet) → AreRecords handed records whole
    → more ≡ records ++ records_of ps → take handed more ≡ take handed records
records_same handed records more whole ps are is =
    ap (λ (xs : List Kept). take handed xs) is ∙ take-append-le handed records (records_of ps) are.few

pub records_count : (handed : ℕ) (records : List Kept) (whole : List Packet) → AreRecords handed records whole
    → length records ≡ handed + length whole
records_count handed records whole are =
    omega (
      arith,
      are.few,
      ap (λ (xs : List Kept). length xs) are.after,
      length-drop handed records,
      length-map whole (λ (p : Packet). kept_of p),
    )

pub records_fewer : (handed m : ℕ) (records : List Kept) (whole left : List Packet) → AreRecords handed records whole
    → m ≤ length whole → left ≡ drop m whole → AreRecords (handed + m) records left
records_fewer handed m records whole left are few is = record {
  few = omega (arith, few, records_count handed records whole are);
  after = sym (drop-drop m handed records) ∙ ap (λ (xs : List Kept). drop m xs) are.after ∙ drop-map _ m whole
      ∙ ap records_of (sym is);
}

pub records_all : (handed reported : ℕ) (records : List Kept) (whole left : List Packet) →
    AreRecords handed records whole
    → reported ≡ length records → left ≡ [] → AreRecords reported records left
records_all handed reported records whole left are all is = record {
  few = omega (arith, all);
  after = drop_all reported records (omega (arith, all)) ∙ sym (ap records_of is);
}
