-- Which register a number at a port identifies, and the low bits of the values written to that register.
use Rattle.device_lock.specs.Alone.{place_at}
use Rattle.ring_laws.specs.Prelude.{Maxfrs, Named, Nothing, Place, Port, Rdt, Register, Registers, State, Tdt}
use Rattle.ring_laws.specs.Prelude.{after_write, mode_in, named, place, receive_queue_of, row_of, transmit_queue_of}
use Rattle.device_lock.proofs.NicDevice.RegTable.{Finding.found-named, InRange.named_in_range}
use Rattle.device_lock.proofs.NicDevice.RegisterLaws.SideWords.{receive-written, transmit-written}
use Rattle.device_lock.specs.NicDevice.RegTable.{Place.view_among, Rows.number_of, Run.Run, Run.has_address, Runs.runs}
use Rattle.device_lock.specs.NicDevice.{RegisterFile.Bits.merged, RegisterLaws.Laws.HasShape}
use Rattle.device_lock.{proofs.NicDevice.VfMap.Owners.located_in_range, specs.NicDevice.Named.at_place, specs.NicDevice.RegTable.Place.place_among}
use Rattle.std.proofs.Common.{List, None, Option, Some, [], arith, inl, inr, not, refl, true, ℕ, ◌%◌, ◌&&◌, ◌/◌, ◌<◌}
use Rattle.std.proofs.lemmas.Nat.{and_mask, and_mod, and_shr, or_mod, or_shr}
use Rattle.std.proofs.lemmas.{Bool.and_parts, Bool.cases_Bool, Bool.eq-eqb, Grind.common_steps, Nat.and_le_r}
use Rattle.std.proofs.{Common.◌^◌, Common.◌∙◌, Common.◌∷◌, Common.◌≡◌, Common.◌⊎◌, Math.Nat.mod-eq_of_lt}
use Rattle.std.specs.{List.list_all, Prelude.bit_and, Prelude.bit_or, Prelude.⊤, Prelude.◌==◌}

-- Low bits of a value that is written through a view that shows these bits.

none_or : (x : ℕ) → bit_or 0 x ≡ x
none_or x = grind arith

no_bits : (x : ℕ) → bit_and x 0 ≡ 0
no_bits x = let low = and_le_r x 0 in omega (arith, low)

-- The low 16 bits of a word merged under a mask that contains them are those of the new word.
pub merged_low : (old new : ℕ) → merged 0xFFFF old new % 2 ^ 16 ≡ new % 2 ^ 16
merged_low old new =
    simp (or_mod (bit_and old 0xFFFF0000) (bit_and new 0xFFFF) 16, and_mod old 0xFFFF0000 16, no_bits, none_or)
    (grind (arith, common_steps))

-- A word merged under a full mask is the new word.
pub merged_all : (old new : ℕ) → merged 0xFFFFFFFF old new ≡ new % 2 ^ 32
merged_all old new = simp (no_bits, none_or, and_mask new 32)

-- Bits 31 to 16 of a word merged under a mask of only these bits are those of the new word.
pub merged_high : (old new : ℕ) → merged 0xFFFF0000 old new / 2 ^ 16 ≡ new / 2 ^ 16 % 2 ^ 16
merged_high old new =
    simp (or_shr (bit_and old 0xFFFF) (bit_and new 0xFFFF0000) 16, and_shr old 0xFFFF 16, no_bits, none_or)
    (and_shr new 0xFFFF0000 16 ∙ and_mask (new / 2 ^ 16) 16)

-- An address shows the low 16 bits, or all bits.
abbrev pub ShowsLow : ℕ → Type 0
ShowsLow view = (view ≡ 0xFFFF) ⊎ (view ≡ 0xFFFFFFFF)

pub shows_low : (rs : List Run) (a : ℕ) → ShowsLow (view_among rs a)
shows_low [] a = inr refl
shows_low (r ∷ rs) a = grind (arith, common_steps, shows_low rs a)

-- After a write to an address that shows the low bits, the register has the written value's low bits.
pub low_shown : (view old new : ℕ) → ShowsLow view → merged (bit_and 0xFFFFFFFF view) old new % 2 ^ 16 ≡ new % 2 ^ 16
low_shown view old new shows = grind (arith, common_steps, merged_low, merged_all)

-- Each address of MAXFRS shows all bits, because the row has no low run.
pub all_shown : (rs : List Run) (a : ℕ) (p : Place)
    → list_all (λ (r : Run). not (r.low && (number_of r.row == number_of Maxfrs))) rs ≡ true
    → place_among rs a ≡ Some p → p.row ≡ Maxfrs → view_among rs a ≡ 0xFFFFFFFF
all_shown [] a p none is same = refl
all_shown (r ∷ rs) a p none is same =
    grind (arith, common_steps, all_shown rs a p, and_parts, eq-eqb, cases_Bool (has_address r a))

-- Which register a number at a port identifies.

abbrev pub place_in : Named → Option Place
place_in (Nothing seen) = None
place_in (Register p view) = Some p

pub place_named : (s : State) (port : Port) (number : ℕ)
    → place_at (mode_in s.registers) s.vfs port number ≡ place_in (named s port number)
place_named s port number = grind (arith, common_steps)

-- A named register is in its row, and its low bits are shown; for MAXFRS, all bits are shown.

pub record IsReal (p : Place) (view : ℕ) : Type 0 where
  pub inside : p.index < (row_of p.row).count
  pub shown : ShowsLow view
  pub whole : p.row ≡ Maxfrs → view ≡ 0xFFFFFFFF

abbrev pub AreReal : Named → Type 0
AreReal (Nothing seen) = ⊤
AreReal (Register p view) = IsReal p view

real_placed : (a : ℕ) (o : Option Place) → place_among runs a ≡ o → AreReal (at_place o (view_among runs a))
unfolding runs
real_placed a None e = tt
real_placed a (Some p) e =
    search (named_in_range a p ((found-named a p).0 e), shows_low runs a, all_shown runs a p refl e)

pub real : (s : State) (port : Port) (number : ℕ) → AreReal (named s port number)
real s port number = grind (arith, common_steps, located_in_range, real_placed)

-- A 16-bit value written to a side's tail register becomes the tail, and everything else in the side is unchanged.

module _ (r : Registers) (queue word : ℕ) (h : HasShape r) (b : queue < 128) (small : word < 65536) where
  pub receive-tail : receive_queue_of (after_write r (place Rdt queue) 0xFFFFFFFF word) queue
      ≡ record (receive_queue_of r queue) { ring = record (receive_queue_of r queue).ring { tail = word } }
  receive-tail = simp (receive-written r h Rdt queue refl b (inl refl) 0xFFFFFFFF, merged_low, mod-eq_of_lt)

  pub transmit-tail : transmit_queue_of (after_write r (place Tdt queue) 0xFFFFFFFF word) queue
      ≡ record (transmit_queue_of r queue) { ring = record (transmit_queue_of r queue).ring { tail = word } }
  transmit-tail = simp (transmit-written r h Tdt queue refl b (inl refl) 0xFFFFFFFF, merged_low, mod-eq_of_lt)
