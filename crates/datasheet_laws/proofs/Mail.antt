-- What the two sides of a mailbox write into its word, bit by bit.
use Rattle.std.proofs.Common.{◌≡◌, ◌≢◌, ℕ, Bool, true, false, cond, ◌==◌, ◌&&◌, ◌||◌, ◌⊎◌, refl, ap, sym, ◌∙◌, inl, inr, arith}
use Rattle.std.specs.Prelude.{not}
use Rattle.std.proofs.lemmas.Bool.{cond_both, cond-true, cond-false, cases_eq, eq-eqb, ne_eqb}
use Rattle.register_file.specs.Bits.{has_bit, bit_set, bit_cleared}
use Rattle.register_file.specs.Mailbox.{function_wrote, released, taken, physical_wrote, reported_once}
use Rattle.register_laws.proofs.Bits.{has_bit-set, has_bit-clear}
use Rattle.register_laws.proofs.MailBits.{has_bit-set_other, has_bit-clear_other, function_keeps}

module _ (mail w : ℕ) where
  -- The function's write.
  function_on : has_bit 2 w ≡ true → function_wrote mail w ≡ cond (has_bit 3 mail) mail (bit_set 2 mail)
  function_on on = cond-true (has_bit 2 w) (cond (has_bit 3 mail) mail (bit_set 2 mail)) (bit_cleared 2 mail) on

  pub function_takes : has_bit 2 w ≡ true → has_bit 3 mail ≡ false → has_bit 2 (function_wrote mail w) ≡ true
  function_takes on free =
      ap (has_bit 2) (function_on on ∙ cond-false (has_bit 3 mail) mail (bit_set 2 mail) free) ∙ has_bit-set 2 mail

  pub function_waits : has_bit 2 w ≡ true → has_bit 3 mail ≡ true
      → has_bit 2 (function_wrote mail w) ≡ has_bit 2 mail
  function_waits on held = ap (has_bit 2) (function_on on ∙ cond-true (has_bit 3 mail) mail (bit_set 2 mail) held)

  pub function_gives_up : has_bit 2 w ≡ false → has_bit 2 (function_wrote mail w) ≡ false
  function_gives_up off =
      ap (has_bit 2)
      (cond-false (has_bit 2 w) (cond (has_bit 3 mail) mail (bit_set 2 mail)) (bit_cleared 2 mail) off)
      ∙ has_bit-clear 2 mail

  pub function_leaves : has_bit 3 (function_wrote mail w) ≡ has_bit 3 mail
  function_leaves = function_keeps mail w 3 refl

  -- The physical function's write: what it frees, what it takes, and what it sends.
  abbrev pub Free : ℕ
  Free = released mail w

  abbrev pub Held : ℕ
  Held = taken Free w

  freed : has_bit 4 w ≡ true → Free ≡ bit_cleared 2 mail
  freed on = cond-true (has_bit 4 w) (bit_cleared 2 mail) mail on

  kept : has_bit 4 w ≡ false → Free ≡ mail
  kept off = cond-false (has_bit 4 w) (bit_cleared 2 mail) mail off

  sent : (b : Bool) (m n word : ℕ) → m ≢ n → has_bit m (cond b (bit_set n word) word) ≡ has_bit m word
  sent true m n word apart = has_bit-set_other n m word apart
  sent false m n word apart = refl

  both_sent : (m : ℕ) → m ≢ 4 → m ≢ 5 → has_bit m (physical_wrote mail w) ≡ has_bit m Held
  both_sent m four five = sent (has_bit 0 w) m 4 _ four ∙ sent (has_bit 1 w) m 5 Held five

  -- A bit other than the physical function's hold stays unchanged when it takes or releases the mailbox.
  taking_keeps : (m : ℕ) → m ≢ 3 → has_bit m Held ≡ has_bit m Free
  taking_keeps m apart =
      cond_both (has_bit 3 w) (cond (has_bit 2 Free) Free (bit_set 3 Free)) (bit_cleared 3 Free)
      (λ x. has_bit m x ≡ has_bit m Free)
      (λ on. cond_both (has_bit 2 Free) Free (bit_set 3 Free) (λ x. has_bit m x ≡ has_bit m Free) (λ a. refl)
      (λ b. has_bit-set_other 3 m Free apart))
      (λ off. has_bit-clear_other 3 m Free apart)

  freeing_keeps : (m : ℕ) → m ≢ 2 → has_bit m Free ≡ has_bit m mail
  freeing_keeps m apart =
      cond_both (has_bit 4 w) (bit_cleared 2 mail) mail (λ x. has_bit m x ≡ has_bit m mail)
      (λ on. has_bit-clear_other 2 m mail apart) (λ off. refl)

  pub physical_frees : has_bit 4 w ≡ true → has_bit 2 (physical_wrote mail w) ≡ false
  physical_frees on =
      both_sent 2 (λ e. omega arith) (λ e. omega arith) ∙ taking_keeps 2 (λ e. omega arith)
      ∙ ap (has_bit 2) (freed on) ∙ has_bit-clear 2 mail

  pub physical_leaves : has_bit 4 w ≡ false → has_bit 2 (physical_wrote mail w) ≡ has_bit 2 mail
  physical_leaves off =
      both_sent 2 (λ e. omega arith) (λ e. omega arith) ∙ taking_keeps 2 (λ e. omega arith) ∙ ap (has_bit 2) (kept off)

  is_free : (has_bit 4 w ≡ true) ⊎ (has_bit 2 mail ≡ false) → has_bit 2 Free ≡ false
  is_free (inl on) = ap (has_bit 2) (freed on) ∙ has_bit-clear 2 mail
  is_free (inr free) =
      cond_both (has_bit 4 w) (bit_cleared 2 mail) mail (λ x. has_bit 2 x ≡ false) (λ on. has_bit-clear 2 mail)
      (λ off. free)

  taken_on : has_bit 3 w ≡ true → Held ≡ cond (has_bit 2 Free) Free (bit_set 3 Free)
  taken_on on = cond-true (has_bit 3 w) (cond (has_bit 2 Free) Free (bit_set 3 Free)) (bit_cleared 3 Free) on

  pub physical_takes : has_bit 3 w ≡ true → (has_bit 4 w ≡ true) ⊎ (has_bit 2 mail ≡ false)
      → has_bit 3 (physical_wrote mail w) ≡ true
  physical_takes on why =
      both_sent 3 (λ e. omega arith) (λ e. omega arith)
      ∙ ap (has_bit 3) (taken_on on ∙ cond-false (has_bit 2 Free) Free (bit_set 3 Free) (is_free why))
      ∙ has_bit-set 3 Free

  pub physical_waits : has_bit 3 w ≡ true → has_bit 4 w ≡ false → has_bit 2 mail ≡ true
      → has_bit 3 (physical_wrote mail w) ≡ has_bit 3 mail
  physical_waits on off held =
      both_sent 3 (λ e. omega arith) (λ e. omega arith)
      ∙ ap (has_bit 3) (taken_on on
      ∙ cond-true (has_bit 2 Free) Free (bit_set 3 Free) (ap (has_bit 2) (kept off) ∙ held))
      ∙ ap (has_bit 3) (kept off)

  pub physical_gives_up : has_bit 3 w ≡ false → has_bit 3 (physical_wrote mail w) ≡ false
  physical_gives_up off =
      both_sent 3 (λ e. omega arith) (λ e. omega arith)
      ∙ ap (has_bit 3)
      (cond-false (has_bit 3 w) (cond (has_bit 2 Free) Free (bit_set 3 Free)) (bit_cleared 3 Free) off)
      ∙ has_bit-clear 3 Free

  set_if-own : (b : Bool) (n word old : ℕ) → has_bit n word ≡ has_bit n old
      → has_bit n (cond b (bit_set n word) word) ≡ (b || has_bit n old)
  set_if-own true n word old same = has_bit-set n word
  set_if-own false n word old same = same

  pub physical_status : has_bit 4 (physical_wrote mail w) ≡ (has_bit 0 w || has_bit 4 mail)
  physical_status =
      set_if-own (has_bit 0 w) 4 _ mail
      (sent (has_bit 1 w) 4 5 Held (λ e. omega arith) ∙ taking_keeps 4 (λ e. omega arith)
      ∙ freeing_keeps 4 (λ e. omega arith))

  pub physical_acknowledged : has_bit 5 (physical_wrote mail w) ≡ (has_bit 1 w || has_bit 5 mail)
  physical_acknowledged =
      sent (has_bit 0 w) 5 4 _ (λ e. omega arith)
      ∙ set_if-own (has_bit 1 w) 5 Held mail (taking_keeps 5 (λ e. omega arith) ∙ freeing_keeps 5 (λ e. omega arith))

none : (b same : Bool) → same ≡ true → (b && not same) ≡ false
none true true e = refl
none false true e = refl
none b false e = cc

all : (b same : Bool) → same ≡ false → (b && not same) ≡ b
all true false e = refl
all false false e = refl
all b true e = cc

-- A bit of a word with one bit cleared.
cleared : (n word bit : ℕ) → has_bit bit (bit_cleared n word) ≡ (has_bit bit word && not (bit == n))
cleared n word bit =
    elim (cases_eq bit n) as (λ _. has_bit bit (bit_cleared n word) ≡ (has_bit bit word && not (bit == n))) [
      | inl same ↦ ap (λ m. has_bit m (bit_cleared n word)) same ∙ has_bit-clear n word
          ∙ sym (none (has_bit bit word) (bit == n) (eq-eqb bit n same))
      | inr apart ↦ has_bit-clear_other n bit word apart
          ∙ sym (all (has_bit bit word) (bit == n) (ne_eqb bit n apart))
    ]

three : (b x y z : Bool) → (b && not z && not y && not x) ≡ (b && not (x || y || z))
three b x y z = grind arith

pub reported : (mail bit : ℕ) → has_bit bit (reported_once mail)
    ≡ (has_bit bit mail && not (bit == 4 || bit == 5 || bit == 7))
reported mail bit =
    cleared 4 (bit_cleared 5 (bit_cleared 7 mail)) bit
    ∙ ap (λ b. b && not (bit == 4)) (cleared 5 (bit_cleared 7 mail) bit
    ∙ ap (λ b. b && not (bit == 5)) (cleared 7 mail bit))
    ∙ three (has_bit bit mail) (bit == 4) (bit == 5) (bit == 7)
