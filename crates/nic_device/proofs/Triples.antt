-- A reset, including the image's register writes, keeps the device sound and changes only the registers, the receive
-- list and the staged bytes.
use Rattle.std.proofs.Common.{length, ap, sym, zero, suc, take, add-one, ◌+◌, ◌≡◌, ◌<◌, ℕ, [], ◌∷◌, List, arith, ◌∙◌, Option, Some, None}
use Rattle.std.specs.List.{slice_get}
use Rattle.std.proofs.lemmas.List.Elements.{All-nil}
use Rattle.eeprom_image.specs.Triples.{triples_of}
use Rattle.register_file.specs.RegTable.Place.{place_among, view_among}
use Rattle.register_file.specs.RegTable.Runs.{runs}
use Rattle.register_file.specs.RegTable.declared.place.Place.{Place}
use Rattle.register_file.specs.Registers.{reset_registers}
use Rattle.register_file.specs.RegTable.Rows.{row_of}
use Rattle.register_file.specs.Access.{asks_pool_reset}
use Rattle.register_laws.proofs.Sound.{sound-reset}
use Rattle.nic_device.specs.Eeprom.{is_stepped_over, triple_written, with_triple, with_triples, reset}
use Rattle.nic_device.specs.PoolReset.{with_pool_reset, written_below_reset}
use Rattle.nic_device.proofs.PoolReset.{below_reset_sound}
use Rattle.nic_device.specs.Sound.{IsBegunWhileOn, IsSound}
use Rattle.nic_device.specs.State.{State, cleared, none_staged}
use Rattle.nic_device.proofs.Cases.{either_way}
use Rattle.nic_device.proofs.Keeping.{sound-changed, AreStaged-none, bare-none}

-- Everything except the registers, the receive list and the staged bytes is unchanged.
pub record LeavesRest (s t : State) : Type 0 where
  pub memory : t.memory ≡ s.memory
  pub out : t.out ≡ s.out
  pub link : t.link ≡ s.link
  pub image : t.image ≡ s.image
  pub vfs : t.vfs ≡ s.vfs
  pub fifo : t.fifo ≡ s.fifo

leaves-refl : (s : State) → LeavesRest s s
leaves-refl s = assumption

leaves-trans : (s t u : State) → LeavesRest s t → LeavesRest t u → LeavesRest s u
leaves-trans s t u a b = record {
  memory = b.memory ∙ a.memory;
  out = b.out ∙ a.out;
  link = b.link ∙ a.link;
  image = b.image ∙ a.image;
  vfs = b.vfs ∙ a.vfs;
  fifo = b.fifo ∙ a.fifo;
}

-- Triples.

triple_leaves : (s : State) (o : Option Place) (view word : ℕ) → LeavesRest s (triple_written s o view word)
triple_leaves s None view word = leaves-refl s
triple_leaves s (Some p) view word =
    either_way (LeavesRest s) (is_stepped_over p.row) s (written_below_reset s p view word) (leaves-refl s)
    (either_way (LeavesRest s) (asks_pool_reset (row_of p.row).kind word) (with_pool_reset s p.index) _ (assumption)
    (assumption))

pub triples_leave : (s : State) (ts : List (ℕ × ℕ)) → LeavesRest s (with_triples s ts)
triples_leave s [] = leaves-refl s
triples_leave s (t ∷ ts) =
    leaves-trans s (with_triple s t) (with_triples s (t ∷ ts))
    (triple_leaves s (place_among runs t.0) (view_among runs t.0) t.1) (triples_leave (with_triple s t) ts)

next : (s : State) (ts : List (ℕ × ℕ)) (index : ℕ) (t : ℕ × ℕ) → slice_get ts index ≡ Some t
    → with_triples s (take (suc index) ts) ≡ with_triple (with_triples s (take index ts)) t
next s [] index t h = cc
next s (u ∷ ts) zero t h = cc
next s (u ∷ ts) (suc index) t h = next (with_triple s u) ts index t h

-- Some triples, followed by the next one.
pub one_more : (s now then : State) (ts : List (ℕ × ℕ)) (index : ℕ) (t : ℕ × ℕ)
    → now ≡ with_triples s (take index ts) → slice_get ts index ≡ Some t → then ≡ with_triple now t
    → then ≡ with_triples s (take (index + 1) ts)
one_more s now then ts index t done is made =
    rw add-one (made ∙ ap (λ (u : State). with_triple u t) done ∙ sym (next s ts index t is))

-- An index within the list has a triple.
pub none_inside : (ts : List (ℕ × ℕ)) (index : ℕ) → index < length ts → slice_get ts index ≡ None → ⊥
none_inside [] index inside h = omega arith
none_inside (t ∷ ts) zero inside h = cc
none_inside (t ∷ ts) (suc index) inside h = none_inside ts index (omega arith) h

triple_sound : (s : State) (o : Option Place) (view word : ℕ) → IsSound s → IsSound (triple_written s o view word)
triple_sound s None view word h = h
triple_sound s (Some p) view word h =
    either_way IsSound (is_stepped_over p.row) s (written_below_reset s p view word) h
    (below_reset_sound s p view word h)

triples_sound : (s : State) (ts : List (ℕ × ℕ)) → IsSound s → IsSound (with_triples s ts)
triples_sound s [] h = h
triples_sound s (t ∷ ts) h =
    triples_sound (with_triple s t) ts (triple_sound s (place_among runs t.0) (view_among runs t.0) t.1 h)

-- A reset.

cleared_sound : (s : State) → IsSound s → IsSound (cleared s)
cleared_sound s h =
    sound-changed s reset_registers [] none_staged h sound-reset tt (All-nil (IsBegunWhileOn reset_registers))
    (omega arith) AreStaged-none (bare-none reset_registers)

pub reset_sound : (s : State) → IsSound s → IsSound (reset s)
reset_sound s h =
    triples_sound (cleared s) (triples_of s.image) (cleared_sound s h)

pub reset_leaves : (s : State) → LeavesRest s (reset s)
reset_leaves s =
    leaves-trans s (cleared s) (reset s) (assumption) (triples_leave (cleared s) (triples_of s.image))
