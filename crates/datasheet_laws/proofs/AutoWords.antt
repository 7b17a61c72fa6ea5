-- The registers after writes to EIAC and EIAM, and to PVTEIAC and PVTEIAM.
use Rattle.std.proofs.Common.{◌≡◌, ◌≢◌, ℕ, ◌-◌, ◌<◌, ◌^◌, true, ◌&&◌, if◌then◌else◌, cond, refl, ap, sym, ◌∙◌, arith, lit<, ◌==◌}
use Rattle.std.specs.Prelude.{bit_and}
use Rattle.std.proofs.lemmas.Nat.{and_le_l}
use Rattle.std.proofs.lemmas.Nat.Bits.{bit_at_ones}
use Rattle.nic_device.specs.RegTable.declared.rows.RowId.TheVariants.{Eicr, Eims, Eiac, Eiam, Pvteicr, Pvteims, Pvteiac, Pvteiam}
use Rattle.nic_device.specs.RegisterFile.Access.{stored}
use Rattle.nic_device.specs.RegisterFile.Words.{word_at}
use Rattle.nic_device.specs.RegisterLaws.Sound.{HasShape}
use Rattle.datasheet_laws.specs.Prelude.{Group, IsSound, Names, Pf, Place, Registers, State, Vf, after_write, has_bit}
use Rattle.datasheet_laws.specs.Prelude.{interrupts_of, merged, place, row_of, runs, state_written, view_among}
use Rattle.datasheet_laws.specs.Prelude.{RowId}
use Rattle.datasheet_laws.proofs.Prelude.{put_stands, state-written, word_at-put_other}
use Rattle.datasheet_laws.specs.Accesses.{written_bit, WriteOfAutoClearIsKept, WriteOfAutoMaskIsKept}
use Rattle.datasheet_laws.specs.Names.{IsGroup, bits_in, auto_clear_register, auto_mask_register}
use Rattle.datasheet_laws.specs.Shown.{Bit, bit_of}
use Rattle.datasheet_laws.proofs.Alone.{write_alone}
use Rattle.datasheet_laws.proofs.Bits.{has_bit-and, has_bit-merged}
use Rattle.datasheet_laws.proofs.Groups.{shows_then}
use Rattle.datasheet_laws.proofs.Words.{by_words, bit_of-words, small}

-- A written word has the new bit if the mask and the view contain that bit.
stored_bit : (mask view old word bit : ℕ) → bit < 32 → mask < 2 ^ 32 → has_bit bit mask ≡ true
    → has_bit bit (merged (bit_and mask view) old word)
    ≡ (if has_bit bit view then has_bit bit word else has_bit bit old)
stored_bit mask view old word bit b small own =
    has_bit-merged bit (bit_and mask view) old word b (omega (arith, and_le_l mask view))
    ∙ ap (λ x. cond x (has_bit bit word) (has_bit bit old))
    (has_bit-and mask view bit ∙ ap (λ x. x && has_bit bit view) own)

-- The words of row x and of another row, after a word was stored at place i of row x.
module _ (r : Registers) (h : HasShape r) (i view word bit : ℕ) where
  own : (x : RowId) → i < (row_of x).count → bit < 32 → (row_of x).mask < 2 ^ 32 → has_bit bit (row_of x).mask ≡ true
      → has_bit bit (word_at (stored r (place x i) view word).words (place x i))
      ≡ (if has_bit bit view then has_bit bit word else has_bit bit (word_at r.words (place x i)))
  own x there low small has =
      ap (has_bit bit) (put_stands r (place x i) _ h there)
      ∙ stored_bit (row_of x).mask view (word_at r.words (place x i)) word bit low small has

  stays : (x y : RowId) → y ≢ x
      → has_bit bit (word_at (stored r (place x i) view word).words (place y i))
      ≡ has_bit bit (word_at r.words (place y i))
  stays x y apart =
      ap (has_bit bit) (word_at-put_other r.words (place x i) (place y i) _ (λ e. apart (ap (λ (p : Place). p.row) e)))

-- The rows have the bits of their group.
own_bits : (n : ℕ) (bit : ℕ) → bit < n → has_bit bit (2 ^ n - 1) ≡ true
own_bits n bit b = ap (λ n. n == 1) (bit_at_ones n bit b)

clear_stored : (r : Registers) (g : Group) (view word : ℕ) → HasShape r → IsGroup g → (bit : ℕ) → bit < bits_in g
    → by_words (stored r (auto_clear_register g) view word) g bit
    ≡ record (by_words r g bit) {
      auto_clear = if has_bit bit view then has_bit bit word else (by_words r g bit).auto_clear;
    }
clear_stored r Pf view word h there bit b = λ k. record {
  cause = stays r h 0 view word bit Eiac Eicr (λ e. cc) k;
  mask = stays r h 0 view word bit Eiac Eims (λ e. cc) k;
  auto_clear = own r h 0 view word bit Eiac (lit< tt) (small Pf bit b) (lit< tt) (own_bits 31 bit b) k;
  auto_mask = stays r h 0 view word bit Eiac Eiam (λ e. cc) k;
}
clear_stored r (Vf v) view word h there bit b = λ k. record {
  cause = stays r h v view word bit Pvteiac Pvteicr (λ e. cc) k;
  mask = stays r h v view word bit Pvteiac Pvteims (λ e. cc) k;
  auto_clear = own r h v view word bit Pvteiac there (small (Vf v) bit b) (lit< tt) (own_bits 3 bit b) k;
  auto_mask = stays r h v view word bit Pvteiac Pvteiam (λ e. cc) k;
}

mask_stored : (r : Registers) (g : Group) (view word : ℕ) → HasShape r → IsGroup g → (bit : ℕ) → bit < bits_in g
    → by_words (stored r (auto_mask_register g) view word) g bit
    ≡ record (by_words r g bit) {
      auto_mask = if has_bit bit view then has_bit bit word else (by_words r g bit).auto_mask;
    }
mask_stored r Pf view word h there bit b = λ k. record {
  cause = stays r h 0 view word bit Eiam Eicr (λ e. cc) k;
  mask = stays r h 0 view word bit Eiam Eims (λ e. cc) k;
  auto_clear = stays r h 0 view word bit Eiam Eiac (λ e. cc) k;
  auto_mask = own r h 0 view word bit Eiam (lit< tt) (small Pf bit b) (lit< tt) (own_bits 31 bit b) k;
}
mask_stored r (Vf v) view word h there bit b = λ k. record {
  cause = stays r h v view word bit Pvteiam Pvteicr (λ e. cc) k;
  mask = stays r h v view word bit Pvteiam Pvteims (λ e. cc) k;
  auto_clear = stays r h v view word bit Pvteiam Pvteiac (λ e. cc) k;
  auto_mask = own r h v view word bit Pvteiam there (small (Vf v) bit b) (lit< tt) (own_bits 3 bit b) k;
}

-- Writes to the auto-clear register.

registers_clear : (s : State) (g : Group) (view word : ℕ)
    → (state_written s (auto_clear_register g) view word).registers
    ≡ stored s.registers (auto_clear_register g) view word
registers_clear s Pf view word = refl
registers_clear s (Vf v) view word = refl

clear_alone : (s : State) (g : Group) (a word : ℕ) → Names a (auto_clear_register g) → (h : Group) → h ≢ g
    → interrupts_of (after_write s a word).registers h ≡ interrupts_of s.registers h
clear_alone s Pf a word is h other = write_alone s Pf (place Eiac 0) a word is refl refl refl h other
clear_alone s (Vf v) a word is h other = write_alone s (Vf v) (place Pvteiac v) a word is refl refl refl h other

auto_cleared : ℕ → ℕ → ℕ → Bit → Bit
auto_cleared view word bit b =
    record b { auto_clear = if has_bit bit view then has_bit bit word else b.auto_clear }

pub clear_at : (s : State) (g : Group) (view word : ℕ) → IsSound s → IsGroup g → (bit : ℕ) → bit < bits_in g
    → bit_of (state_written s (auto_clear_register g) view word) g bit ≡ record (bit_of s g bit) {
      auto_clear = if has_bit bit view then has_bit bit word else (bit_of s g bit).auto_clear;
    }
unfolding auto_cleared
clear_at s g view word h there bit b =
    bit_of-words (state_written s (auto_clear_register g) view word) g there bit (small g bit b)
    ∙ ap (λ r. by_words r g bit) (registers_clear s g view word)
    ∙ clear_stored s.registers g view word h.registers.shape there bit b
    ∙ ap (auto_cleared view word bit) (sym (bit_of-words s g there bit (small g bit b)))

pub auto_clear_kept : WriteOfAutoClearIsKept
auto_clear_kept s h g there a word is =
    shows_then s (after_write s a word) (state_written s (auto_clear_register g) (view_among runs a) word) g
    (λ bit. record (bit_of s g bit) { auto_clear = written_bit a word bit (bit_of s g bit).auto_clear })
    (state-written s a word (auto_clear_register g) is) (clear_alone s g a word is)
    (clear_at s g (view_among runs a) word h there)

-- Writes to the auto-mask register.

registers_mask : (s : State) (g : Group) (view word : ℕ)
    → (state_written s (auto_mask_register g) view word).registers
    ≡ stored s.registers (auto_mask_register g) view word
registers_mask s Pf view word = refl
registers_mask s (Vf v) view word = refl

mask_alone : (s : State) (g : Group) (a word : ℕ) → Names a (auto_mask_register g) → (h : Group) → h ≢ g
    → interrupts_of (after_write s a word).registers h ≡ interrupts_of s.registers h
mask_alone s Pf a word is h other = write_alone s Pf (place Eiam 0) a word is refl refl refl h other
mask_alone s (Vf v) a word is h other = write_alone s (Vf v) (place Pvteiam v) a word is refl refl refl h other

auto_masked : ℕ → ℕ → ℕ → Bit → Bit
auto_masked view word bit b =
    record b { auto_mask = if has_bit bit view then has_bit bit word else b.auto_mask }

pub mask_at : (s : State) (g : Group) (view word : ℕ) → IsSound s → IsGroup g → (bit : ℕ) → bit < bits_in g
    → bit_of (state_written s (auto_mask_register g) view word) g bit ≡ record (bit_of s g bit) {
      auto_mask = if has_bit bit view then has_bit bit word else (bit_of s g bit).auto_mask;
    }
unfolding auto_masked
mask_at s g view word h there bit b =
    bit_of-words (state_written s (auto_mask_register g) view word) g there bit (small g bit b)
    ∙ ap (λ r. by_words r g bit) (registers_mask s g view word)
    ∙ mask_stored s.registers g view word h.registers.shape there bit b
    ∙ ap (auto_masked view word bit) (sym (bit_of-words s g there bit (small g bit b)))

pub auto_mask_kept : WriteOfAutoMaskIsKept
auto_mask_kept s h g there a word is =
    shows_then s (after_write s a word) (state_written s (auto_mask_register g) (view_among runs a) word) g
    (λ bit. record (bit_of s g bit) { auto_mask = written_bit a word bit (bit_of s g bit).auto_mask })
    (state-written s a word (auto_mask_register g) is) (mask_alone s g a word is)
    (mask_at s g (view_among runs a) word h there)
