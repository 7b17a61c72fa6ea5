-- Lemmas about which footprints contain other footprints, and which footprints have nothing in common.
use Rattle.std.proofs.Common.{◌≡◌, ℕ, Bool, true, false, ◌||◌, refl, ap, sym, ◌∙◌, subst, inl, inr}
use Rattle.std.proofs.lemmas.Bool.{both_ways, and_parts, or_cases, or_left, or_right}
use Rattle.register_file.specs.declared.owner.Owner.TheVariants as owner
use Rattle.register_laws.specs.Prelude.{Group, Owner, Pf, Place, Vf, cause_row, index_of, is_owner, is_renewed}
use Rattle.register_laws.specs.Prelude.{mask_row, owner_of, place, row_of}
use Rattle.register_laws.specs.Footprint.{Footprint, LacksWord, Covers, Misses, nothing, either, renewed_of, is_place, the_word, the_enable, of_owner, of_group, pending, any_pending, is_pending}
use Rattle.register_laws.proofs.HasWord.{HasWord}
use Rattle.register_laws.proofs.Owners.{is_group-itself, is_owner-itself, is_owner-same, is_place-itself, is_place-same}

-- If a condition implies a test that fails, the condition fails.
pub fails : (b c : Bool) → (b ≡ true → c ≡ true) → c ≡ false → b ≡ false
fails true c follows off = absurd (both_ways c off (follows refl))
fails false c follows off = refl

pub covers-trans : (f g h : Footprint) → Covers f g → Covers g h → Covers f h
covers-trans f g h wide narrow = record {
  bits = λ p bit is. wide.bits p bit (narrow.bits p bit is);
  wanted = λ dir queue is. wide.wanted dir queue (narrow.wanted dir queue is);
  reported = λ i is. wide.reported i (narrow.reported i is);
}

-- If a footprint is within a larger footprint, it has nothing in common with what the larger footprint misses.
pub misses-narrower : (f e g : Footprint) → Covers f e → Misses f g → Misses e g
misses-narrower f e g has none = record {
  bits = λ p bit is. fails (e.bits p bit) (f.bits p bit) (has.bits p bit) (none.bits p bit is);
  wanted =
      λ dir queue is. fails (e.wanted dir queue) (f.wanted dir queue) (has.wanted dir queue) (none.wanted dir queue is);
  reported = λ h is. fails (e.reported h) (f.reported h) (has.reported h) (none.reported h is);
}

pub misses-within : (f g h : Footprint) → Covers g h → Misses f g → Misses f h
misses-within f g h has none = record {
  bits = λ p bit is. none.bits p bit (has.bits p bit is);
  wanted = λ dir queue is. none.wanted dir queue (has.wanted dir queue is);
  reported = λ i is. none.reported i (has.reported i is);
}

-- The part of a footprint that a pool reset covers is within the footprint, and lacks what the footprint lacks.
pub covers-renewed : (f : Footprint) → Covers f (renewed_of f)
covers-renewed f = record {
  bits = λ p bit is. (and_parts (is_renewed p.row bit) (f.bits p bit) is).1;
  wanted = λ dir queue is. is;
  reported = λ g is. is;
}

pub lacks-renewed : (f : Footprint) (p : Place) → LacksWord f p → LacksWord (renewed_of f) p
lacks-renewed f p none bit = fails _ _ ((covers-renewed f).bits p bit) (none bit)

pub misses-nothing : (g : Footprint) → Misses nothing g
misses-nothing g = record { bits = λ p bit is. refl; wanted = λ dir queue is. refl; reported = λ h is. refl }

-- A union of footprints contains everything that each of the footprints contains.
pub covers-first : (f g : Footprint) → Covers (either f g) f
covers-first f g = record {
  bits = λ p bit is. or_left _ (g.bits p bit) is;
  wanted = λ dir queue is. or_left _ (g.wanted dir queue) is;
  reported = λ h is. or_left _ (g.reported h) is;
}

pub covers-second : (f g : Footprint) → Covers (either f g) g
covers-second f g = record {
  bits = λ p bit is. or_right (f.bits p bit) _ is;
  wanted = λ dir queue is. or_right (f.wanted dir queue) _ is;
  reported = λ h is. or_right (f.reported h) _ is;
}

pub covers-either : (f g h : Footprint) → Covers f g → Covers f h → Covers f (either g h)
covers-either f g h one other = record {
  bits = λ p bit is. elim (or_cases (g.bits p bit) (h.bits p bit) is) as (λ _. f.bits p bit ≡ true) [
    | inl a ↦ one.bits p bit a
    | inr b ↦ other.bits p bit b
  ];
  wanted = λ dir queue is. elim (or_cases (g.wanted dir queue) (h.wanted dir queue) is) as
      (λ _. f.wanted dir queue ≡ true) [
        | inl a ↦ one.wanted dir queue a
        | inr b ↦ other.wanted dir queue b
      ];
  reported = λ i is. elim (or_cases (g.reported i) (h.reported i) is) as (λ _. f.reported i ≡ true) [
    | inl a ↦ one.reported i a
    | inr b ↦ other.reported i b
  ];
}

neither : (a b : Bool) → a ≡ false → b ≡ false → (a || b) ≡ false
neither false b none also = also
neither true b none also = cc

pub misses-either : (f e g : Footprint) → Misses f g → Misses e g → Misses (either f e) g
misses-either f e g one other = record {
  bits = λ p bit is. neither (f.bits p bit) (e.bits p bit) (one.bits p bit is) (other.bits p bit is);
  wanted = λ dir queue is.
      neither (f.wanted dir queue) (e.wanted dir queue) (one.wanted dir queue is) (other.wanted dir queue is);
  reported = λ h is. neither (f.reported h) (e.reported h) (one.reported h is) (other.reported h is);
}

-- The footprints of two owners have nothing in common.
none_shared : (o other third : Owner) → is_owner o other ≡ false → is_owner other third ≡ true
    → is_owner o third ≡ false
none_shared o other third n is = ap (is_owner o) (sym (is_owner-same other third is)) ∙ n

pub misses-owner : (o other : Owner) → is_owner o other ≡ false → Misses (of_owner o) (of_owner other)
misses-owner o other n = record {
  bits = λ p bit is. none_shared o other (owner_of p) n is;
  wanted = λ dir queue is. none_shared o other (owner.Side dir queue) n is;
  reported = λ g is. none_shared o other (owner.Group g) n is;
}

-- What belongs to a place belongs to the place's owner.
pub covers-nothing : (f : Footprint) → Covers f nothing
covers-nothing f = record { bits = λ p bit is. cc; wanted = λ dir queue is. cc; reported = λ g is. cc }

owned : (p q : Place) → is_place p q ≡ true → is_owner (owner_of p) (owner_of q) ≡ true
owned p q is =
    ap (λ (x : Place). is_owner (owner_of p) (owner_of x)) (sym (is_place-same p q is)) ∙ is_owner-itself (owner_of p)

pub covers-the_word : (p : Place) → Covers (of_owner (owner_of p)) (the_word p)
covers-the_word p = record { bits = λ q bit. owned p q; wanted = λ dir queue is. cc; reported = λ g is. cc }

pub covers-the_enable : (p : Place) → Covers (of_owner (owner_of p)) (the_enable p)
covers-the_enable p = record { bits = λ q bit. owned p q; wanted = λ dir queue is. is; reported = λ g is. cc }

-- The places of what is pending.
pub cause_is_pending : (g : Group) → HasWord (pending g) (place (cause_row g) (index_of g))
cause_is_pending g bit =
    or_left _ (is_place (place (mask_row g) (index_of g)) _) (is_place-itself (place (cause_row g) (index_of g)))

pub mask_is_pending : (g : Group) → HasWord (pending g) (place (mask_row g) (index_of g))
mask_is_pending g bit =
    or_right (is_place (place (cause_row g) (index_of g)) _) _ (is_place-itself (place (mask_row g) (index_of g)))

cause_owner : (g : Group) → owner_of (place (cause_row g) (index_of g)) ≡ owner.Group g
cause_owner Pf = refl
cause_owner (Vf v) = refl

mask_owner : (g : Group) → owner_of (place (mask_row g) (index_of g)) ≡ owner.Group g
mask_owner Pf = refl
mask_owner (Vf v) = refl

-- A place with something pending is the place of the causes or of the masks.
pending_cases : (P : Place → Type 0) (g : Group) (p : Place) (bit : ℕ) → (pending g).bits p bit ≡ true
    → P (place (cause_row g) (index_of g)) → P (place (mask_row g) (index_of g)) → P p
pending_cases P g p bit is cause mask =
    elim (or_cases (is_place (place (cause_row g) (index_of g)) p) (is_place (place (mask_row g) (index_of g)) p) is) as
    (λ _. P p) [
      | inl e ↦ subst P (is_place-same _ p e) cause
      | inr e ↦ subst P (is_place-same _ p e) mask
    ]

pub covers-pending : (g : Group) → Covers (of_group g) (pending g)
covers-pending g = record {
  bits = λ p bit is. pending_cases (λ q. is_owner (owner.Group g) (owner_of q) ≡ true) g p bit is
      (ap (is_owner (owner.Group g)) (cause_owner g) ∙ is_group-itself g)
      (ap (is_owner (owner.Group g)) (mask_owner g) ∙ is_group-itself g);
  wanted = λ dir queue is. cc;
  reported = λ h is. is;
}

pub cause_pending : (g : Group) → is_pending (row_of (cause_row g)).kind ≡ true
cause_pending Pf = refl
cause_pending (Vf v) = refl

pub mask_pending : (g : Group) → is_pending (row_of (mask_row g)).kind ≡ true
mask_pending Pf = refl
mask_pending (Vf v) = refl

pub covers-any_pending : (g : Group) → Covers any_pending (pending g)
covers-any_pending g = record {
  bits = λ p bit is.
      pending_cases (λ q. is_pending (row_of q.row).kind ≡ true) g p bit is (cause_pending g) (mask_pending g);
  wanted = λ dir queue is. cc;
  reported = λ h is. refl;
}
