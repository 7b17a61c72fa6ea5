-- Lemmas about mailboxes and pools: the owners of their places, what the mailboxes of two functions share, and what
-- must agree.
use Rattle.std.proofs.Common.{◌≡◌, ◌≢◌, ℕ, ◌+◌, ◌/◌, ◌%◌, Bool, true, false, ◌==◌, ◌&&◌, ◌||◌, refl, ap, sym, ◌∙◌, subst, inl, inr, arith}
use Rattle.std.specs.Prelude.{IsTrue, ◌⊎◌}
use Rattle.std.proofs.lemmas.Bool.{and_parts, or_cases, eqb-true, eq-eqb}
use Rattle.register_file.specs.RegTable.declared.kind.Kind.TheVariants as kind
use Rattle.register_file.specs.RegTable.declared.rows.RowId.TheVariants as row
use Rattle.register_file.specs.Mailbox.{is_request, is_mail_cause, by_sending, by_function}
use Rattle.register_laws.specs.Prelude.{Mode, Place, RowId, is_of_pool, is_of_pool_by, place, row_of}
use Rattle.register_laws.specs.Footprint.{Footprint, Covers, Misses, is_place, the_bits, pool_has, pool_changes}
use Rattle.register_laws.proofs.Covers.{fails, covers-trans, covers-first, covers-second, covers-either}
use Rattle.register_laws.proofs.Owners.{is_place-same}

-- The rows of each kind of mailbox.
pub mail_row : (x : RowId) → (row_of x).kind ≡ kind.Vfmail → x ≡ row.Pvfmailbox
mail_row row.Pvfmailbox e = refl
mail_row row.Ctrl e = cc
mail_row other e = cc

pub physical_is_the_devices : (x : RowId) (mode : Mode) (v i : ℕ) → (row_of x).kind ≡ kind.Pfmail
    → is_of_pool_by (row_of x).bank mode v i ≡ false
physical_is_the_devices row.Pfmailbox mode v i e = refl
physical_is_the_devices row.Ctrl mode v i e = cc
physical_is_the_devices other mode v i e = cc

pub extended_is_the_devices : (x : RowId) (mode : Mode) (v i : ℕ) → (row_of x).kind ≡ kind.Ctrlext
    → is_of_pool_by (row_of x).bank mode v i ≡ false
extended_is_the_devices row.CtrlExt mode v i e = refl
extended_is_the_devices row.Ctrl mode v i e = cc
extended_is_the_devices other mode v i e = cc

pub causes_are_the_devices : (x : RowId) (mode : Mode) (v i : ℕ) → (row_of x).kind ≡ kind.W1c
    → is_of_pool_by (row_of x).bank mode v i ≡ false
causes_are_the_devices row.Pfmbicr mode v i e = refl
causes_are_the_devices row.Ctrl mode v i e = cc
causes_are_the_devices other mode v i e = cc

-- What a function's write to its mailbox may change belongs to the function's pool, or is what the function sends.
mail_is_the_pools : (mode : Mode) (v : ℕ) (has : ℕ → Bool)
    → Covers (pool_has mode v) (the_bits (place row.Pvfmailbox v) has)
mail_is_the_pools mode v has = record {
  bits = λ p bit is.
      subst (λ q. is_of_pool mode v q ≡ true)
      (is_place-same (place row.Pvfmailbox v) p (and_parts (is_place (place row.Pvfmailbox v) p) (has bit) is).0)
      (eq-eqb v v refl);
  wanted = λ dir queue is. cc;
  reported = λ g is. cc;
}

pub covers-function : (mode : Mode) (v : ℕ) → Covers (pool_changes mode v) (by_function v)
covers-function mode v =
    let mail : Footprint = the_bits (place row.Pvfmailbox v) (λ bit. bit == 2) in
    covers-either (pool_changes mode v) mail (by_sending v)
    (covers-trans (pool_changes mode v) (pool_has mode v) mail (covers-first (pool_has mode v) (by_sending v))
    (mail_is_the_pools mode v (λ bit. bit == 2)))
    (covers-second (pool_has mode v) (by_sending v))

-- No bit that a function sends is in a register of a pool.
at_devices : (x : RowId) (i : ℕ) (mode : Mode) (w : ℕ) → ((n : ℕ) → is_of_pool_by (row_of x).bank mode w n ≡ false)
    → (p : Place) → is_of_pool mode w p ≡ true → is_place (place x i) p ≡ false
at_devices x i mode w none p is =
    fails (is_place (place x i) p) (is_of_pool mode w (place x i))
    (λ same. subst (λ q. is_of_pool mode w q ≡ true) (sym (is_place-same (place x i) p same)) is) (none i)

pub sending_misses : (mode : Mode) (v w : ℕ) → Misses (by_sending v) (pool_has mode w)
sending_misses mode v w = record {
  bits = λ p bit is.
      let none = λ (x : RowId) (i : ℕ). at_devices x i mode w in
      (λ k. (none row.Pfmbicr (v / 16) (λ n. refl) p is k && (bit == v % 16 || bit == 16 + v % 16))
      || (none row.Eicr 0 (λ n. refl) p is k && bit == 19));
  wanted = λ dir queue is. refl;
  reported = λ g is. refl;
}

-- Two functions send requests in different bits, and share only the physical function's cause.
one_of_asked : (v bit : ℕ) → (bit == v % 16 || bit == 16 + v % 16) ≡ true → (bit ≡ v % 16) ⊎ (bit ≡ 16 + v % 16)
one_of_asked v bit is = elim (or_cases (bit == v % 16) (bit == 16 + v % 16) is) [
  | inl low ↦ inl (eqb-true _ _ low)
  | inr high ↦ inr (eqb-true _ _ high)
]

same_asked : (v w bit : ℕ) → v / 16 ≡ w / 16 → (bit ≡ v % 16) ⊎ (bit ≡ 16 + v % 16)
    → (bit ≡ w % 16) ⊎ (bit ≡ 16 + w % 16) → v ≡ w
same_asked v w bit words (inl a) (inl b) = omega arith
same_asked v w bit words (inl a) (inr b) = absurd (omega arith)
same_asked v w bit words (inr a) (inl b) = absurd (omega arith)
same_asked v w bit words (inr a) (inr b) = omega arith

requests_apart : (v w : ℕ) (p : Place) (bit : ℕ) → is_request v p bit ≡ true → is_request w p bit ≡ true → v ≡ w
requests_apart v w p bit own others =
    let mine = and_parts (is_place (place row.Pfmbicr (v / 16)) p) (bit == v % 16 || bit == 16 + v % 16) own in
    let its = and_parts (is_place (place row.Pfmbicr (w / 16)) p) (bit == w % 16 || bit == 16 + w % 16) others in
    let words : v / 16 ≡ w / 16 =
    ap (λ (q : Place). q.index)
    (is_place-same (place row.Pfmbicr (v / 16)) p mine.0 ∙ sym (is_place-same (place row.Pfmbicr (w / 16)) p its.0)) in
    same_asked v w bit words (one_of_asked v bit mine.1) (one_of_asked w bit its.1)

pub sending_apart : (v w : ℕ) → v ≢ w → (p : Place) (bit : ℕ) → (by_sending v).bits p bit ≡ true
    → (by_sending w).bits p bit ≡ true → IsTrue (is_mail_cause p bit)
sending_apart v w apart p bit own others =
    elim (or_cases (is_request v p bit) (is_mail_cause p bit) own) as (λ _. IsTrue (is_mail_cause p bit)) [
      | inr cause ↦ cause
      | inl mine ↦ elim (or_cases (is_request w p bit) (is_mail_cause p bit) others) as
          (λ _. IsTrue (is_mail_cause p bit)) [
            | inr cause ↦ cause
            | inl its ↦ absurd (apart (requests_apart v w p bit mine its))
          ]
    ]
