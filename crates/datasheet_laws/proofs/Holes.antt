-- An offset that isn't listed by hand isn't in the map.
use Rattle.std.proofs.Common.{◌≡◌, ℕ, zero, suc, ◌%◌, ◌*◌, ◌<◌, ◌≤◌, ◌==◌, false, nat_lt, List, [], ◌∷◌, map, None, refl, ap, ◌∙◌, inl, inr, arith}
use Rattle.std.proofs.lemmas.Bool.{cases_lt, cond-false, le-ltb, or_parts}
use Rattle.reg_table.specs.Rows.{rows}
use Rattle.vf_map.specs.Map.{Entry, entries, mapped, mapped_to}
use Rattle.vf_map.proofs.LocatedAt.{located_at}
use Rattle.vf_map.specs.declared.mapped.Mapped.TheVariants.{Absent}
use Rattle.vf_map.proofs.Whole.{located_beyond, located_none, located_some}
use Rattle.datasheet_laws.specs.NumberPrelude.{Mode, list_any, mode_of, place_at, queues_of}
use Rattle.datasheet_laws.specs.Offsets.{OtherOffsetsAreHoles, offsets_of, pools_by, queues_by}
use Rattle.datasheet_laws.proofs.Offsets.{mode_by, parted}

abbrev offset_in : Entry → ℕ
offset_in e = e.0

none_at : (es : List Entry) (o : ℕ) → list_any (λ n. n == o) (map offset_in es) ≡ false → place_at es o ≡ None
none_at [] o free = refl
none_at (x ∷ es) o free =
    let both = or_parts (x.0 == o) (list_any (λ n. n == o) (map offset_in es)) free in
    cond-false (x.0 == o) _ _ both.0 ∙ none_at es o both.1

-- The map contains exactly the listed offsets.
same_offsets : (n v first : ℕ) → n < 4 → v < pools_by n
    → map offset_in (entries v first (queues_by n)) ≡ offsets_of (queues_by n)
unfolding entries rows
same_offsets zero v first small h = absurd (omega arith)
same_offsets (suc zero) v first small h = refl
same_offsets (suc (suc zero)) v first small h = refl
same_offsets (suc (suc (suc zero))) v first small h = refl
same_offsets (suc (suc (suc (suc n)))) v first small h = absurd (omega arith)

unparted : (n v : ℕ) → n < 4 → pools_by n ≤ v → queues_of (mode_by n) v ≡ None
unparted zero v small h = cond-false (nat_lt v 0) _ _ (le-ltb v 0 h)
unparted (suc zero) v small h = cond-false (nat_lt v 16) _ _ (le-ltb v 16 h)
unparted (suc (suc zero)) v small h = cond-false (nat_lt v 32) _ _ (le-ltb v 32 h)
unparted (suc (suc (suc zero))) v small h = cond-false (nat_lt v 64) _ _ (le-ltb v 64 h)
unparted (suc (suc (suc (suc n)))) v small h = absurd (omega arith)

absent : (mode : Mode) (vfs v o : ℕ) → vfs ≤ v → mapped mode vfs v o ≡ Absent
absent mode vfs v o beyond = ap mapped_to (located_beyond mode vfs v o beyond)

no_pool : (mode : Mode) (vfs v o : ℕ) → queues_of mode v ≡ None → mapped mode vfs v o ≡ Absent
no_pool mode vfs v o none =
    elim (cases_lt v vfs) [
      | inl there ↦ ap mapped_to (located_none mode vfs v o there none)
      | inr beyond ↦ absent mode vfs v o beyond
    ]

pub holes : OtherOffsetsAreHoles
holes gcr_ext vfs v o =
    let n = gcr_ext % 4 in
    let k = queues_by n in
    let mode = mode_of gcr_ext in
    let small : n < 4 = omega arith in
    record {
      absent = λ beyond. absent mode vfs v o beyond;
      no_pool = λ beyond. no_pool mode vfs v o (unparted n v small beyond);
      hole = λ there pool free.
          let free_there : list_any (λ m. m == o) (map offset_in (entries v (v * k) k)) ≡ false =
          ap (λ os. list_any (λ m. m == o) os) (same_offsets n v (v * k) small pool) ∙ free in
          ap mapped_to (located_some mode vfs v o (v * k) k there (parted n v small pool)
          ∙ ap located_at (none_at (entries v (v * k) k) o free_there));
    }
