-- The handshake of the mailboxes, by their addresses.
use Rattle.std.proofs.Common.{◌≡◌, ◌≢◌, ℕ, ◌+◌, ◌-◌, ◌*◌, ◌/◌, ◌%◌, ◌^◌, ◌<◌, Bool, true, false, cond, ◌==◌, ◌&&◌, ◌||◌, nat_le, ◌⊎◌, refl, ap, sym, ◌∙◌, inl, inr, arith, lit<}
use Rattle.std.specs.Prelude.{not, bit_and, min}
use Rattle.std.proofs.Math.Nat.{div-one}
use Rattle.std.proofs.lemmas.Bool.{cond_both, cases_eq, eq-eqb, ne_eqb, eqb-true, agree_below_at}
use Rattle.std.proofs.lemmas.Bool.Decides.{nat_tests}
use Rattle.std.proofs.lemmas.Nat.{and_le_r}
use Rattle.std.proofs.lemmas.Nat.Bits.{bit_at_and, bit_at_not, bit_at-lt}
use Rattle.intr_unit.specs.BitSet.{contains, only, no_bits}
use Rattle.intr_unit.specs.Group.{queue_causes}
use Rattle.intr_unit.proofs.SetLaws.{contains-only, contains-no_bits}
use Rattle.reg_table.specs.declared.rows.RowId.TheVariants as row
use Rattle.register_file.specs.Effects.{ones_cleared}
use Rattle.register_file.specs.Mailbox.{mail_of, with_mail, function_wrote, physical_wrote, reported_once, cause_set, with_requests, function_writes, physical_writes, mail_read, sends}
use Rattle.register_file.specs.Registers.{Registers, word_of, with_word}
use Rattle.register_laws.proofs.MailBits.{has_bit-or, has_bit-pow_other}
use Rattle.register_laws.proofs.Puts.{word_at-put_other}
use Rattle.register_laws.proofs.Shape.{put_stands, HasShape-put}
use Rattle.datasheet_laws.specs.NumberPrelude.{HasShape, Pf, Place, RowId, Surroundings, Vf, bit_at, has_bit, row_of, w32}
use Rattle.datasheet_laws.specs.ByAddress.{word, reads, read_at, write_at}
use Rattle.datasheet_laws.specs.Mailbox.{own, other, names, FunctionShakes, PhysicalShakes, ReadAlike, IsReportedOnce, MailboxesShake, OnesAreCleared, FunctionsRaise, PhysicalRaises}
use Rattle.datasheet_laws.specs.Table.{whole}
use Rattle.datasheet_laws.proofs.ByAddress.{has_bit-shown, word-at, reads-at, left-at, wrote-at}
use Rattle.datasheet_laws.proofs.Mail.{function_takes, function_waits, function_gives_up, function_leaves, physical_frees, physical_leaves, physical_takes, physical_waits, physical_gives_up, physical_status, physical_acknowledged, reported}
use Rattle.datasheet_laws.proofs.Table.{at}

-- A digit that a mask doesn't contain.
unmasked : (a b : ℕ) → b < 2 → (b == 1) ≡ false → (min a b == 1) ≡ false
unmasked a b small off = grind (arith, nat_tests)

-- A stored word is the register's, and another row's words stay unchanged.
put_here : (r : Registers) → HasShape r → (x : RowId) (i w : ℕ) → i < (row_of x).count
    → word_of (with_word r x i w) x i ≡ w
put_here r h x i w inside = put_stands r (at x i) w h inside

put_there : (r : Registers) (x y : RowId) (i j w : ℕ) → y ≢ x → word_of (with_word r x i w) y j ≡ word_of r y j
put_there r x y i j w apart =
    word_at-put_other r.words (at x i) (at y j) w (λ same. apart (ap (λ (q : Place). q.row) same))

module _ (around : Surroundings) (r : Registers) (h : HasShape r) (v w : ℕ) (there : v < 64) where
  -- What the function reads in its mailbox.
  own_reads : (s : Registers) (bit : ℕ) → bit < 32 → reads around s (own v) bit ≡ has_bit bit (mail_of s v)
  own_reads s bit low = reads-at s row.Pvfmailbox v there around bit low

  other_reads : (bit : ℕ) → bit < 32 → reads around r (other v) bit ≡ has_bit bit (bit_and (mail_of r v) 0xC)
  other_reads bit low = reads-at r row.Pfmailbox v there around bit low

  -- The mailbox's word after a write by either side, and after a read.
  Asked : Registers
  Asked = with_requests (with_mail r v (function_wrote (mail_of r v) w)) v w

  asked_mail : mail_of Asked v ≡ function_wrote (mail_of r v) w
  unfolding Asked
  asked_mail =
      put_there (with_mail r v (function_wrote (mail_of r v) w)) row.Pfmbicr row.Pvfmailbox (v / 16) v _ (λ e. cc)
      ∙ put_here r h row.Pvfmailbox v (function_wrote (mail_of r v) w) there

  function_mail : mail_of (function_writes r v w) v ≡ function_wrote (mail_of r v) w
  unfolding Asked
  function_mail =
      cond_both (sends w && has_bit (v % 32) (word_of Asked row.Pfmbimr (v / 32))) (cause_set Asked Pf (2 ^ 19)) Asked
      (λ t. mail_of t v ≡ mail_of Asked v) (λ on. put_there Asked row.Eicr row.Pvfmailbox 0 v _ (λ e. cc))
      (λ off. refl)
      ∙ asked_mail

  Sent : Registers
  Sent = with_mail r v (physical_wrote (mail_of r v) w)

  physical_mail : mail_of (physical_writes r v w) v ≡ physical_wrote (mail_of r v) w
  unfolding Sent
  physical_mail =
      cond_both (sends w) (cause_set Sent (Vf v) (queue_causes (Vf v) (word_of Sent row.PvtivarMisc v % 256))) Sent
      (λ t. mail_of t v ≡ mail_of Sent v) (λ on. put_there Sent row.Pvteicr row.Pvfmailbox v v _ (λ e. cc))
      (λ off. refl)
      ∙ put_here r h row.Pvfmailbox v (physical_wrote (mail_of r v) w) there

  by_function : (bit : ℕ) → bit < 32
      → reads around (write_at r (own v) w) (own v) bit ≡ has_bit bit (function_wrote (mail_of r v) w)
  by_function bit low =
      ap (λ s. reads around s (own v) bit) (wrote-at r row.Pvfmailbox v there w)
      ∙ own_reads (function_writes r v w) bit low ∙ ap (has_bit bit) function_mail

  by_physical : (bit : ℕ) → bit < 32
      → reads around (write_at r (other v) w) (own v) bit ≡ has_bit bit (physical_wrote (mail_of r v) w)
  by_physical bit low =
      ap (λ s. reads around s (own v) bit) (wrote-at r row.Pfmailbox v there w)
      ∙ own_reads (physical_writes r v w) bit low ∙ ap (has_bit bit) physical_mail

  by_read : (bit : ℕ) → bit < 32
      → reads around (read_at r (own v)) (own v) bit ≡ has_bit bit (reported_once (mail_of r v))
  by_read bit low =
      ap (λ s. reads around s (own v) bit) (left-at r row.Pvfmailbox v there)
      ∙ own_reads (mail_read r v) bit low
      ∙ ap (has_bit bit) (put_here r h row.Pvfmailbox v (reported_once (mail_of r v)) there)

  here : (bit : ℕ) → bit < 32 → reads around r (own v) bit ≡ has_bit bit (mail_of r v)
  here bit low = own_reads r bit low

  mine : FunctionShakes around r v w
  mine =
      let mail = mail_of r v in
      record {
        takes = λ on free. by_function 2 (lit< tt) ∙ function_takes mail w on (sym (here 3 (lit< tt)) ∙ free);
        waits = λ on held. by_function 2 (lit< tt)
            ∙ function_waits mail w on (sym (here 3 (lit< tt)) ∙ held) ∙ sym (here 2 (lit< tt));
        gives_up = λ off. by_function 2 (lit< tt) ∙ function_gives_up mail w off;
        leaves = by_function 3 (lit< tt) ∙ function_leaves mail w ∙ sym (here 3 (lit< tt));
      }

  either : (has_bit 4 w ≡ true) ⊎ (reads around r (own v) 2 ≡ false)
      → (has_bit 4 w ≡ true) ⊎ (has_bit 2 (mail_of r v) ≡ false)
  either (inl on) = inl on
  either (inr free) = inr (sym (here 2 (lit< tt)) ∙ free)

  theirs : PhysicalShakes around r v w
  theirs =
      let mail = mail_of r v in
      record {
        frees = λ on. by_physical 2 (lit< tt) ∙ physical_frees mail w on;
        leaves = λ off. by_physical 2 (lit< tt) ∙ physical_leaves mail w off ∙ sym (here 2 (lit< tt));
        takes = λ on why. by_physical 3 (lit< tt) ∙ physical_takes mail w on (either why);
        waits = λ on off held. by_physical 3 (lit< tt)
            ∙ physical_waits mail w on off (sym (here 2 (lit< tt)) ∙ held) ∙ sym (here 3 (lit< tt));
        gives_up = λ off. by_physical 3 (lit< tt) ∙ physical_gives_up mail w off;
      }

  least : (n : ℕ) → n < 2 → min n 1 ≡ n
  least n small = omega arith

  cut : (bit : ℕ) → bit < 32 → bit_at 0xC bit ≡ 1 → has_bit bit (bit_and (mail_of r v) 0xC) ≡ has_bit bit (mail_of r v)
  cut bit low shows =
      ap (λ n. n == 1) (bit_at_and (mail_of r v) 0xC bit ∙ ap (λ n. min (bit_at (mail_of r v) bit) n) shows
      ∙ least (bit_at (mail_of r v) bit) (bit_at-lt (mail_of r v) bit))

  hidden : (bit : ℕ) → bit < 32 → (bit == 2 || bit == 3) ≡ false → has_bit bit (bit_and (mail_of r v) 0xC) ≡ false
  hidden bit low apart =
      ap (λ n. n == 1) (bit_at_and (mail_of r v) 0xC bit)
      ∙ unmasked (bit_at (mail_of r v) bit) (bit_at 0xC bit) (bit_at-lt 0xC bit)
      (agree_below_at (λ n. has_bit n 0xC) (λ n. n == 2 || n == 3) 32 bit refl low ∙ apart)

  alike : ReadAlike around r v
  alike = record {
    function = other_reads 2 (lit< tt) ∙ cut 2 (lit< tt) refl ∙ sym (here 2 (lit< tt));
    physical = other_reads 3 (lit< tt) ∙ cut 3 (lit< tt) refl ∙ sym (here 3 (lit< tt));
    no_more = λ bit low apart. other_reads bit low ∙ hidden bit low apart;
  }

  once : IsReportedOnce around r v w
  once =
      let mail = mail_of r v in
      record {
        status = by_physical 4 (lit< tt) ∙ physical_status mail w ∙ ap (λ b. has_bit 0 w || b) (sym (here 4 (lit< tt)));
        acknowledged = by_physical 5 (lit< tt) ∙ physical_acknowledged mail w
            ∙ ap (λ b. has_bit 1 w || b) (sym (here 5 (lit< tt)));
        read = λ bit low. by_read bit low ∙ reported mail bit
            ∙ ap (λ b. b && not (bit == 4 || bit == 5 || bit == 7)) (sym (here bit low));
      }

pub shake : MailboxesShake
shake around r h v w there = record {
  function = mine around r h v w there;
  physical = theirs around r h v w there;
  alike = alike around r h v w there;
  once = once around r h v w there;
}

-- A bit that is written as 1 is cleared.

cleared_digit : (a b : ℕ) → a < 2 → b < 2 → (min a (1 - b) == 1) ≡ ((a == 1) && not (b == 1))
cleared_digit a b p q = grind (arith, nat_tests)

cleared : (old w bit : ℕ) → bit < 32
    → has_bit bit (bit_and old (0xFFFFFFFF - bit_and w whole)) ≡ (has_bit bit old && not (has_bit bit w))
cleared old w bit low =
    let m = bit_and w whole in
    let few : m < 2 ^ 32 = omega (arith, and_le_r w whole) in
    ap (λ n. n == 1)
    (bit_at_and old (0xFFFFFFFF - m) bit ∙ ap (λ n. min (bit_at old bit) n) (bit_at_not w32 m bit few low))
    ∙ cleared_digit (bit_at old bit) (bit_at m bit) (bit_at-lt old bit) (bit_at-lt m bit)
    ∙ ap (λ b. has_bit bit old && not b) (has_bit-shown w bit low)

pub keep : (b c : Bool) → c ≡ false → b ≡ (b && not c)
keep true false e = refl
keep false false e = refl
keep b true e = cc

pub ones : OnesAreCleared
ones around r h k j w bit k_there j_there low =
    let before = reads-at r row.Pfmbicr j j_there around bit low in
    ap (λ s. reads around s (0x00710 + 4 * j) bit) (wrote-at r row.Pfmbicr k k_there w)
    ∙ reads-at (ones_cleared r (at row.Pfmbicr k) (bit_and w whole)) row.Pfmbicr j j_there around bit low
    ∙ elim (cases_eq j k) as (λ _.
    has_bit bit (word_of (ones_cleared r (at row.Pfmbicr k) (bit_and w whole)) row.Pfmbicr j)
    ≡ (reads around r (0x00710 + 4 * j) bit && not (j == k && has_bit bit w))) [
      | inl same ↦
          ap (λ i. has_bit bit (word_of (ones_cleared r (at row.Pfmbicr k) (bit_and w whole)) row.Pfmbicr i)) same
          ∙ ap (has_bit bit) (put_here r h row.Pfmbicr k _ k_there)
          ∙ cleared (word_of r row.Pfmbicr k) w bit low
          ∙ ap (λ i. has_bit bit (word_of r row.Pfmbicr i) && not (has_bit bit w)) (sym same)
          ∙ (λ n. sym before n && not (sym (eq-eqb j k same) n && has_bit bit w))
      | inr apart ↦
          ap (has_bit bit) (word_at-put_other r.words (at row.Pfmbicr k) (at row.Pfmbicr j) _
          (λ same. apart (ap (λ (q : Place). q.index) same)))
          ∙ sym before
          ∙ keep (reads around r (0x00710 + 4 * j) bit) (j == k && has_bit bit w)
          (ap (λ b. b && has_bit bit w) (ne_eqb j k apart))
    ]

-- The causes of mailboxes.

seven : (n : ℕ) → n % 256 / 2 ^ 7 % 2 ≡ n / 2 ^ 7 % 2
seven n = omega arith

low_six : (n : ℕ) → n % 256 % 64 ≡ n % 64
low_six n = omega arith

pow_bit : (n bit : ℕ) → has_bit n (2 ^ n) ≡ true → has_bit bit (2 ^ n) ≡ (bit == n)
pow_bit n bit on =
    elim (cases_eq bit n) as (λ _. has_bit bit (2 ^ n) ≡ (bit == n)) [
      | inl same ↦ ap (λ m. has_bit m (2 ^ n)) same ∙ on ∙ sym (eq-eqb bit n same)
      | inr apart ↦ has_bit-pow_other n bit apart ∙ sym (ne_eqb bit n apart)
    ]

with_none : (b c d : Bool) → c ≡ false → b ≡ (b || (c && d))
with_none true false d e = refl
with_none false false d e = refl
with_none b true d e = cc

with_one : (b c d e : Bool) → c ≡ true → d ≡ e → (b || d) ≡ (b || (c && e))
with_one b true d e on same = ap (λ x. b || x) same
with_one b false d e on same = cc

module _ (around : Surroundings) (r : Registers) (h : HasShape r) (v w bit : ℕ) (there : v < 64) (low : bit < 32) where
  abbrev Reported : Registers
  Reported = with_requests (with_mail r v (function_wrote (mail_of r v) w)) v w

  reported_shape : HasShape Reported
  reported_shape =
      HasShape-put (with_mail r v (function_wrote (mail_of r v) w)) (at row.Pfmbicr (v / 16)) _
      (HasShape-put r (at row.Pvfmailbox v) (function_wrote (mail_of r v) w) h)

  reported_other : (y : RowId) (j : ℕ) → y ≢ row.Pvfmailbox → y ≢ row.Pfmbicr → word_of Reported y j ≡ word_of r y j
  reported_other y j mail asks =
      put_there (with_mail r v (function_wrote (mail_of r v) w)) row.Pfmbicr y (v / 16) j _ asks
      ∙ put_there r row.Pvfmailbox y v j _ mail

  masked : reads around r (0x00720 + 4 * (v / 32)) (v % 32) ≡ has_bit (v % 32) (word_of r row.Pfmbimr (v / 32))
  masked = reads-at r row.Pfmbimr (v / 32) (omega arith) around (v % 32) (omega arith)

  caused : reads around r 0x00800 bit ≡ has_bit bit (word_of r row.Eicr 0)
  caused = reads-at r row.Eicr 0 (lit< tt) around bit low

  raised : has_bit bit (word_of (function_writes r v w) row.Eicr 0)
      ≡ (has_bit bit (word_of r row.Eicr 0)
      || ((sends w && has_bit (v % 32) (word_of r row.Pfmbimr (v / 32))) && bit == 19))
  raised =
      let acts = sends w && has_bit (v % 32) (word_of Reported row.Pfmbimr (v / 32)) in
      let stays = reported_other row.Eicr 0 (λ e. cc) (λ e. cc) in
      cond_both acts (cause_set Reported Pf (2 ^ 19)) Reported
      (λ t. has_bit bit (word_of t row.Eicr 0) ≡ (has_bit bit (word_of r row.Eicr 0) || (acts && bit == 19)))
      (λ on. ap (has_bit bit) (put_here Reported reported_shape row.Eicr 0 _ (lit< tt))
      ∙ has_bit-or bit (word_of Reported row.Eicr 0) (2 ^ 19)
      ∙ ap (λ n. has_bit bit n || has_bit bit (2 ^ 19)) stays
      ∙ with_one (has_bit bit (word_of r row.Eicr 0)) acts _ (bit == 19) on (pow_bit 19 bit refl))
      (λ off. ap (has_bit bit) stays ∙ with_none (has_bit bit (word_of r row.Eicr 0)) acts (bit == 19) off)
      ∙ ap (λ n. has_bit bit (word_of r row.Eicr 0) || ((sends w && has_bit (v % 32) n) && bit == 19))
      (reported_other row.Pfmbimr (v / 32) (λ e. cc) (λ e. cc))

  function_raises : reads around (write_at r (own v) w) 0x00800 bit
      ≡ (reads around r 0x00800 bit
      || (sends w && reads around r (0x00720 + 4 * (v / 32)) (v % 32) && bit == 19))
  function_raises =
      ap (λ s. reads around s 0x00800 bit) (wrote-at r row.Pvfmailbox v there w)
      ∙ reads-at (function_writes r v w) row.Eicr 0 (lit< tt) around bit low
      ∙ raised
      ∙ (λ k. sym caused k || ((sends w && sym masked k) && bit == 19))

  -- The cause that a vector names.
  valid : (c l e now : Bool) → (e ≡ true → now ≡ l) → cond (c && l) e false ≡ (c && e && now)
  valid c l e now same = grind arith

  chosen : (b : Bool) (f : ℕ) → contains (cond b (only f) no_bits) bit ≡ cond b (bit == f) false
  chosen true f = contains-only f bit low
  chosen false f = contains-no_bits bit

  named : (vector : ℕ) → has_bit bit (queue_causes (Vf v) (vector % 256)) ≡ names vector bit
  unfolding queue_causes contains
  named vector =
      let f = vector % 256 % 64 in
      ap (λ n. contains (cond (has_bit 7 (vector % 256) && nat_le (n % 64) 2) (only (n % 64)) no_bits) bit)
      (div-one (vector % 256))
      ∙ chosen (has_bit 7 (vector % 256) && nat_le f 2) f
      ∙ valid (has_bit 7 (vector % 256)) (nat_le f 2) (bit == f) (nat_le bit 2)
      (λ e. ap (λ n. nat_le n 2) (eqb-true bit f e))
      ∙ (λ k. (seven vector k == 1) && bit == low_six vector k && nat_le bit 2)

  abbrev Posted : Registers
  Posted = with_mail r v (physical_wrote (mail_of r v) w)

  posted_other : (y : RowId) (j : ℕ) → y ≢ row.Pvfmailbox → word_of Posted y j ≡ word_of r y j
  posted_other y j mail = put_there r row.Pvfmailbox y v j _ mail

  physical_raised : has_bit bit (word_of (physical_writes r v w) row.Pvteicr v)
      ≡ (has_bit bit (word_of r row.Pvteicr v) || (sends w && names (word_of r row.PvtivarMisc v) bit))
  physical_raised =
      let causes = queue_causes (Vf v) (word_of Posted row.PvtivarMisc v % 256) in
      let stays = posted_other row.Pvteicr v (λ e. cc) in
      cond_both (sends w) (cause_set Posted (Vf v) causes) Posted
      (λ t. has_bit bit (word_of t row.Pvteicr v)
      ≡ (has_bit bit (word_of r row.Pvteicr v) || (sends w && names (word_of Posted row.PvtivarMisc v) bit)))
      (λ on. ap (has_bit bit) (put_here Posted (HasShape-put r (at row.Pvfmailbox v) _ h) row.Pvteicr v _ there)
      ∙ has_bit-or bit (word_of Posted row.Pvteicr v) causes
      ∙ ap (λ n. has_bit bit n || has_bit bit causes) stays
      ∙ with_one (has_bit bit (word_of r row.Pvteicr v)) (sends w) _ _ on (named (word_of Posted row.PvtivarMisc v)))
      (λ off. ap (has_bit bit) stays ∙ with_none (has_bit bit (word_of r row.Pvteicr v)) (sends w) _ off)
      ∙ ap (λ n. has_bit bit (word_of r row.Pvteicr v) || (sends w && names n bit))
      (posted_other row.PvtivarMisc v (λ e. cc))

  physical_raises : reads around (write_at r (other v) w) (0x00B00 + 4 * v) bit
      ≡ (reads around r (0x00B00 + 4 * v) bit || (sends w && names (word r (0x04E00 + 4 * v)) bit))
  physical_raises =
      ap (λ s. reads around s (0x00B00 + 4 * v) bit) (wrote-at r row.Pfmailbox v there w)
      ∙ reads-at (physical_writes r v w) row.Pvteicr v there around bit low
      ∙ physical_raised
      ∙ (λ k. sym (reads-at r row.Pvteicr v there around bit low) k
      || (sends w && names (sym (word-at r row.PvtivarMisc v there) k) bit))

pub function_raises_all : FunctionsRaise
function_raises_all around r h v w bit there low = function_raises around r h v w bit there low

pub physical_raises_all : PhysicalRaises
physical_raises_all around r h v w bit there low = physical_raises around r h v w bit there low
