-- What accesses do to a register's word, by its listed kind.
use Rattle.std.proofs.Common.{◌≡◌, ℕ, ◌+◌, ◌-◌, ◌*◌, ◌/◌, ◌%◌, ◌^◌, ◌<◌, ◌==◌, Bool, true, false, cond, ◌&&◌, Some, None, if◌then◌else◌, refl, ap, sym, ◌∙◌, subst, arith, lit<}
use Rattle.std.specs.Prelude.{bit_and, min, max}
use Rattle.std.proofs.lemmas.List.{get_or-set_same}
use Rattle.std.proofs.lemmas.Nat.{and_le_r}
use Rattle.std.proofs.lemmas.Bool.Decides.{nat_tests}
use Rattle.std.proofs.lemmas.Nat.Bits.{bit_at_and, bit_at_or, bit_at_not, bit_at_ones, bit_at-lt}
use Rattle.reg_table.specs.declared.kind.Kind.TheVariants as kind
use Rattle.reg_table.specs.declared.rows.RowId.TheVariants as row
use Rattle.register_file.specs.Bits.{has_bit, merged}
use Rattle.register_file.specs.Eeprom.{eeprom_answered, eeprom_index}
use Rattle.register_file.specs.Effects.{stored, asked}
use Rattle.register_file.specs.declared.owner.Owner.{Owner}
use Rattle.register_file.specs.declared.owner.Owner.TheVariants as owner
use Rattle.register_laws.proofs.MailBits.{has_bit-zero}
use Rattle.register_laws.proofs.Shape.{put_stands}
use Rattle.datasheet_laws.specs.NumberPrelude.{HasShape, Kind, Place, Registers, RowId, Rx, Surroundings, Tx, after_read}
use Rattle.datasheet_laws.specs.NumberPrelude.{bit_at, is_wanted, owner_of, read_word, row_of, w32, word_at, word_of, written}
use Rattle.datasheet_laws.specs.ByAddress.{reads, read_at, write_at}
use Rattle.datasheet_laws.specs.ByKind.{at, is_silent, WordsAreStored, KindsAreRead, SidesAreAsked, EepromIsRead}
use Rattle.datasheet_laws.specs.Table.{line_of, whole}
use Rattle.datasheet_laws.proofs.ByAddress.{has_bit-shown, word-at, reads-at, left-at, wrote-at}
use Rattle.datasheet_laws.proofs.Table.{at as place, listed}

chosen : (m old new : ℕ) → m < 2 → old < 2 → new < 2
    → (max (min old (1 - m)) (min new m) == 1) ≡ (if m == 1 then new == 1 else old == 1)
chosen m old new a b c = grind (arith, nat_tests)

-- A bit of a merged word is the new one if the mask contains it.
merged_bit : (bit mask old new : ℕ) → bit < 32 → has_bit bit (merged (bit_and mask whole) old new)
    ≡ (if has_bit bit mask then has_bit bit new else has_bit bit old)
merged_bit bit mask old new low =
    let m = bit_and mask whole in
    let few : m < 2 ^ 32 = omega (arith, and_le_r mask whole) in
    ap (λ n. n == 1) (
    bit_at_or (bit_and old (0xFFFFFFFF - m)) (bit_and new m) bit
    ∙ ap (λ n. max n (bit_at (bit_and new m) bit)) (bit_at_and old (0xFFFFFFFF - m) bit
    ∙ ap (λ n. min (bit_at old bit) n) (bit_at_not w32 m bit few low))
    ∙ ap (λ n. max (min (bit_at old bit) (1 - bit_at m bit)) n) (bit_at_and new m bit)
    )
    ∙ chosen (bit_at m bit) (bit_at old bit) (bit_at new bit) (bit_at-lt m bit) (bit_at-lt old bit) (bit_at-lt new bit)
    ∙ ap (λ b. cond b (has_bit bit new) (has_bit bit old)) (has_bit-shown mask bit low)

both : (x y : ℕ) → x < 2 → y < 2 → (min x y == 1) ≡ ((x == 1) && (y == 1))
both x y p q = grind (arith, nat_tests)

module _ (around : Surroundings) (r : Registers) (h : HasShape r) (x : RowId) (i w : ℕ) (inside : i < (line_of x).count)
    (k : Kind) (is : (line_of x).kind ≡ k) where
  kinded : (row_of x).kind ≡ k
  kinded = (listed x).kind ∙ is

  pub reads_kind : (s : Registers) (bit : ℕ) → bit < 32
      → reads around s (at x i) bit ≡ has_bit bit (read_word k s around (place x i))
  reads_kind s bit low =
      reads-at s x i inside around bit low ∙ ap (λ n. has_bit bit (read_word n s around (place x i))) kinded

  pub left_kind : read_at r (at x i) ≡ after_read k r (place x i)
  left_kind = left-at r x i inside ∙ ap (λ n. after_read n r (place x i)) kinded

  pub wrote_kind : write_at r (at x i) w ≡ written k r (place x i) whole w
  wrote_kind = wrote-at r x i inside w ∙ ap (λ n. written n r (place x i) whole w) kinded

  -- A word that is stored.
  pub stores : ((s : Registers) → read_word k s around (place x i) ≡ word_at s.words (place x i)) → (v : ℕ)
      → word_at (written k r (place x i) whole w).words (place x i)
      ≡ word_at (stored r (place x i) whole v).words (place x i)
      → (bit : ℕ) → bit < 32 → reads around (write_at r (at x i) w) (at x i) bit
      ≡ (if has_bit bit (line_of x).mask then has_bit bit v else reads around r (at x i) bit)
  stores gives v same bit low =
      let p = place x i in
      ap (λ s. reads around s (at x i) bit) wrote_kind
      ∙ reads_kind (written k r p whole w) bit low
      ∙ ap (has_bit bit) (gives (written k r p whole w) ∙ same
      ∙ put_stands r p _ h (subst (λ n. i < n) (sym (listed x).count) inside))
      ∙ merged_bit bit (row_of x).mask (word_at r.words p) v low
      ∙ (λ n. if has_bit bit ((listed x).mask n) then has_bit bit v
      else (ap (has_bit bit) (sym (gives r)) ∙ sym (reads_kind r bit low)) n)

asked_words : (s : Registers) (o : Owner) (b : Bool) → (asked s o b).words ≡ s.words
asked_words s owner.Device b = refl
asked_words s (owner.Side Rx queue) b = refl
asked_words s (owner.Side Tx queue) b = refl
asked_words s other b = refl

-- The masks of CTRL and of the enable words.
control_mask : (x : RowId) → (line_of x).kind ≡ kind.Ctrl → (line_of x).mask ≡ 0xFBFFFFF7
control_mask row.Ctrl e = refl
control_mask other e = cc

enable_mask : (x : RowId) → (line_of x).kind ≡ kind.Enable → (line_of x).mask ≡ 0xFDFFFFFF
enable_mask row.Rxdctl e = refl
enable_mask row.Txdctl e = refl
enable_mask other e = cc

pub stored_words : WordsAreStored
stored_words around r h x i w inside =
    let p = place x i in
    let masked : (m bit : ℕ) → (line_of x).mask ≡ m
    → (if has_bit bit (line_of x).mask then has_bit bit w else reads around r (at x i) bit)
    ≡ (if has_bit bit m then has_bit bit w else reads around r (at x i) bit) =
    λ m bit e. ap (λ n. cond (has_bit bit n) (has_bit bit w) (reads around r (at x i) bit)) e in
    record {
      plain = λ is bit low. stores around r h x i w inside kind.Rw is (λ s. refl) w refl bit low;
      control = λ is bit low. stores around r h x i w inside kind.Ctrl is (λ s. refl) w refl bit low
          ∙ masked 0xFBFFFFF7 bit (control_mask x is);
      enable = λ is bit low. stores around r h x i w inside kind.Enable is (λ s. refl) w
          (ap (λ words. word_at words p) (asked_words (stored r p whole w) (owner_of p) (has_bit 25 w))) bit low
          ∙ masked 0xFDFFFFFF bit (enable_mask x is);
    }

-- Reads.

silent : (k : Kind) (r : Registers) (p : Place) → is_silent k ≡ true → after_read k r p ≡ r
silent kind.Rc r p e = cc
silent kind.Cause r p e = cc
silent kind.Vfmail r p e = cc
silent other r p e = refl

pub read_kinds : KindsAreRead
read_kinds around r h x i w bit inside low =
    let p = place x i in
    record {
      silent = λ is. left_kind around r h x i w inside (line_of x).kind refl ∙ silent (line_of x).kind r p is;
      counter = λ is. ap (λ s. reads around s (at x i) bit) (left_kind around r h x i w inside kind.Rc is)
          ∙ reads_kind around r h x i w inside kind.Rc is (after_read kind.Rc r p) bit low
          ∙ ap (has_bit bit) (put_stands r p 0 h (subst (λ n. i < n) (sym (listed x).count) inside))
          ∙ has_bit-zero bit;
      uncleared = λ is. wrote_kind around r h x i w inside kind.Rc is;
      fixed = λ is. wrote_kind around r h x i w inside kind.Ro is;
      calculated = λ is. wrote_kind around r h x i w inside kind.Calc is;
      setting = λ is. reads_kind around r h x i w inside kind.Set is r bit low ∙ has_bit-zero bit;
      clearing = λ is. reads_kind around r h x i w inside kind.Clear is r bit low ∙ has_bit-zero bit;
      resetting = λ is. reads_kind around r h x i w inside kind.Vreset is r bit low ∙ has_bit-zero bit;
      idle = λ is. wrote_kind around r h x i w inside kind.Vreset is;
    }

-- Enable words and EERD.

pub asked_sides : SidesAreAsked
asked_sides r h q w there = record {
  receive = ap (λ s. is_wanted s Rx q) (wrote-at r row.Rxdctl q there w)
      ∙ get_or-set_same r.wanted_rx q (has_bit 25 w) false (omega (arith, h.wanted_rx));
  transmit = ap (λ s. is_wanted s Tx q) (wrote-at r row.Txdctl q there w)
      ∙ get_or-set_same r.wanted_tx q (has_bit 25 w) false (omega (arith, h.wanted_tx));
}

asks : (b : Bool) (n : ℕ) → b ≡ true → cond b (Some n) None ≡ Some n
asks true n e = refl
asks false n e = cc

asks_none : (b : Bool) (n : ℕ) → b ≡ false → cond b (Some n) None ≡ None
asks_none true n e = cc
asks_none false n e = refl

pub read_eeprom : EepromIsRead
read_eeprom around r h w =
    let here = word-at r row.Eerd 0 (lit< tt) in
    let start = reads-at r row.Eerd 0 (lit< tt) around 0 (lit< tt) in
    let index = eeprom_index r in
    record {
      stores = λ bit low. stores around r h row.Eerd 0 w (lit< tt) kind.Eerd refl (λ s. refl) (bit_and w 0xFFFD) refl
          bit low
          ∙ ap (λ b. cond b (has_bit bit (bit_and w 0xFFFD)) (reads around r 0x10014 bit))
          (ap (λ n. n == 1) (bit_at_ones 32 bit low))
          ∙ ap (λ n. n == 1) (bit_at_and w 0xFFFD bit)
          ∙ both (bit_at w bit) (bit_at 0xFFFD bit) (bit_at-lt w bit) (bit_at-lt 0xFFFD bit);
      asked = λ on. asks (has_bit 0 (word_of r row.Eerd 0)) index (sym start ∙ on)
          ∙ ap (λ n. Some (n / 4 % 16384)) (sym here);
      unasked = λ off. asks_none (has_bit 0 (word_of r row.Eerd 0)) index (sym start ∙ off);
      answered = word-at (eeprom_answered r w) row.Eerd 0 (lit< tt)
          ∙ put_stands r (place row.Eerd 0) (index * 4 + 2 + w * 65536) h (lit< tt)
          ∙ ap (λ n. n / 4 % 16384 * 4 + 2 + w * 65536) (sym here);
    }
