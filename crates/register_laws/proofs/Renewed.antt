-- Lemmas about what a reset of a part of the registers does.
use Rattle.std.proofs.Common.{◌≡◌, ℕ, ◌<◌, Bool, true, false, cond, ◌&&◌, ◌||◌, List, [], ◌∷◌, refl, ap, sym, ◌∙◌, subst, inl, inr}
use Rattle.std.specs.Prelude.{fold}
use Rattle.std.proofs.Math.Bool.{and-false}
use Rattle.register_file.specs.PoolReset.{Renewal, takes, mixed, renewed, word_reset, is_renewed}
use Rattle.register_file.specs.declared.owner.Owner.TheVariants as owner
use Rattle.register_laws.specs.Prelude.{Dir, Group, Place, Registers, Rx, Tx, has_bit, index_of, is_group, is_owner}
use Rattle.register_laws.specs.Prelude.{is_wanted, place, put, reported_by, row_of, with_reported, with_wanted, word_at}
use Rattle.register_laws.proofs.Prelude.{and_parts, cond-false, cond-true, eqb-true, get_or-set_same, or_cases}
use Rattle.register_laws.specs.Footprint.{Footprint, ChangesWithin, nothing, either, is_place, the_bits, renewed_of}
use Rattle.register_laws.specs.Sound.{HasShape}
use Rattle.register_laws.proofs.Bits.{has_bit-mixed}
use Rattle.register_laws.proofs.Footprints.{within-refl, within-either}
use Rattle.register_laws.proofs.Owners.{is_dir-same, is_group-itself, is_group-same, is_owner-itself, is_place-same}
use Rattle.register_laws.proofs.Shape.{put_stands, HasShape-put, HasShape-with_wanted, HasShape-with_reported}
use Rattle.register_laws.proofs.Standing.{reported_by-with_reported}
use Rattle.register_laws.proofs.WithinParts.{within-bits, within-with_wanted, within-with_reported}

-- If the registers have their shape, everything in the footprint is as after a reset. Everything else is unchanged.
pub record IsRenewed (f : Footprint) (old new : Registers) : Type 0 where
  pub alone : ChangesWithin f old new
  pub shape : HasShape old → HasShape new
  pub bits : HasShape old → (p : Place) (bit : ℕ) → f.bits p bit ≡ true → p.index < (row_of p.row).count
      → has_bit bit (word_at new.words p) ≡ has_bit bit (row_of p.row).reset
  pub wanted : HasShape old → (dir : Dir) (queue : ℕ) → f.wanted dir queue ≡ true → queue < 128
      → is_wanted new dir queue ≡ false
  pub reported : HasShape old → (g : Group) → f.reported g ≡ true → index_of g < 64 → reported_by new g ≡ 0

pub renewed-refl : (r : Registers) → IsRenewed nothing r r
renewed-refl r = record {
  alone = within-refl nothing r;
  shape = λ h. h;
  bits = λ h p bit is b. cc;
  wanted = λ h dir queue is b. cc;
  reported = λ h g is b. cc;
}

-- One reset after another.
one_of : {A : Type 0} (x y : Bool) → (x || y) ≡ true → (y ≡ true → A) → (x ≡ true → y ≡ false → A) → A
one_of x true is late early = late refl
one_of x false is late early = elim (or_cases x false is) [ inl e ↦ early e refl | inr e ↦ absurd (cc) ]

pub renewed-either : (f g : Footprint) (r s t : Registers) → IsRenewed f r s → IsRenewed g s t
    → IsRenewed (either f g) r t
renewed-either f g r s t first then = record {
  alone = within-either f g r s t first.alone then.alone;
  shape = λ h. then.shape (first.shape h);
  bits = λ h p bit is b. one_of (f.bits p bit) (g.bits p bit) is (λ e. then.bits (first.shape h) p bit e b)
      (λ e n. then.alone.bits p bit n ∙ first.bits h p bit e b);
  wanted = λ h dir queue is b. one_of (f.wanted dir queue) (g.wanted dir queue) is
      (λ e. then.wanted (first.shape h) dir queue e b)
      (λ e n. then.alone.wanted dir queue n ∙ first.wanted h dir queue e b);
  reported = λ h k is b. one_of (f.reported k) (g.reported k) is (λ e. then.reported (first.shape h) k e b)
      (λ e n. then.alone.reported k n ∙ first.reported h k e b);
}

abbrev pub any_of : {A : Type 0} → (A → Footprint) → List A → Footprint
any_of f [] = nothing
any_of f (x ∷ xs) = either (f x) (any_of f xs)

pub renewed-each : {A : Type 0} (f : A → Footprint) (step : Registers → A → Registers)
    → ((r : Registers) (x : A) → IsRenewed (f x) r (step r x))
    → (xs : List A) (r : Registers) → IsRenewed (any_of f xs) r (fold step r xs)
renewed-each f step each [] r = renewed-refl r
renewed-each f step each (x ∷ xs) r =
    renewed-either (f x) (any_of f xs) r (step r x) (fold step (step r x) xs) (each r x)
    (renewed-each f step each xs (step r x))

-- Two footprints with the same contents.
pub record IsSame (f g : Footprint) : Type 0 where
  pub bits : (p : Place) (bit : ℕ) → f.bits p bit ≡ g.bits p bit
  pub wanted : (dir : Dir) (queue : ℕ) → f.wanted dir queue ≡ g.wanted dir queue
  pub reported : (h : Group) → f.reported h ≡ g.reported h

pub renewed-same : (f g : Footprint) (r s : Registers) → IsSame f g → IsRenewed f r s → IsRenewed g r s
renewed-same f g r s same new = record {
  alone = record {
    bits = λ p bit n. new.alone.bits p bit (same.bits p bit ∙ n);
    wanted = λ dir queue n. new.alone.wanted dir queue (same.wanted dir queue ∙ n);
    reported = λ h n. new.alone.reported h (same.reported h ∙ n);
  };
  shape = new.shape;
  bits = λ h p bit is b. new.bits h p bit (same.bits p bit ∙ is) b;
  wanted = λ h dir queue is b. new.wanted h dir queue (same.wanted dir queue ∙ is) b;
  reported = λ h k is b. new.reported h k (same.reported k ∙ is) b;
}

-- The part that a pool reset covers of an empty footprint, of one part after another, and of equal footprints.
pub taken-refl : (r : Registers) → IsRenewed (renewed_of nothing) r r
taken-refl r =
    renewed-same nothing (renewed_of nothing) r r (record {
      bits = λ p bit. sym (and-false (is_renewed p.row bit));
      wanted = λ dir queue. refl;
      reported = λ g. refl;
    })
    (renewed-refl r)

of_either : (t a b : Bool) → ((t && a) || (t && b)) ≡ (t && (a || b))
of_either true a b = refl
of_either false a b = refl

pub taken-either : (f g : Footprint) (r s t : Registers) → IsRenewed (renewed_of f) r s → IsRenewed (renewed_of g) s t
    → IsRenewed (renewed_of (either f g)) r t
taken-either f g r s t first then =
    renewed-same (either (renewed_of f) (renewed_of g)) (renewed_of (either f g)) r t (record {
      bits = λ p bit. of_either (is_renewed p.row bit) (f.bits p bit) (g.bits p bit);
      wanted = λ dir queue. refl;
      reported = λ h. refl;
    })
    (renewed-either (renewed_of f) (renewed_of g) r s t first then)

pub taken-each : {A : Type 0} (f : A → Footprint) (step : Registers → A → Registers)
    → ((r : Registers) (x : A) → IsRenewed (renewed_of (f x)) r (step r x))
    → (xs : List A) (r : Registers) → IsRenewed (renewed_of (any_of f xs)) r (fold step r xs)
taken-each f step each [] r = taken-refl r
taken-each f step each (x ∷ xs) r =
    taken-either (f x) (any_of f xs) r (step r x) (fold step (step r x) xs) (each r x)
    (taken-each f step each xs (step r x))

pub taken-same : (f g : Footprint) (r s : Registers) → IsSame f g → IsRenewed (renewed_of f) r s
    → IsRenewed (renewed_of g) r s
taken-same f g r s same new =
    renewed-same (renewed_of f) (renewed_of g) r s (record {
      bits = λ p bit. ap (λ b. is_renewed p.row bit && b) (same.bits p bit);
      wanted = same.wanted;
      reported = same.reported;
    })
    new

-- The bits of a word after a renewal: the bits that the renewal covers are those of the reset value.
has_bit-renewed : (renewal : Renewal) (old bit : ℕ)
    → has_bit bit (renewed renewal old)
    ≡ cond (takes renewal bit) (has_bit bit (row_of renewal.row).reset) (has_bit bit old)
has_bit-renewed renewal old bit = all_or_some renewal.whole
  where
    all_or_some : (whole : Bool) → has_bit bit (cond whole (row_of renewal.row).reset
        (mixed renewal.mask old (row_of renewal.row).reset))
        ≡ cond (whole || has_bit bit renewal.mask) (has_bit bit (row_of renewal.row).reset) (has_bit bit old)
    all_or_some true = refl
    all_or_some false = has_bit-mixed bit renewal.mask old (row_of renewal.row).reset

-- A word, the request for a side, and the reported bits of a group.
abbrev pub of_renewal : ℕ → Renewal → Footprint
of_renewal index renewal = the_bits (place renewal.row index) (takes renewal)

pub renewed-word : (index : ℕ) (r : Registers) (renewal : Renewal)
    → IsRenewed (of_renewal index renewal) r (word_reset index r renewal)
renewed-word index r renewal =
    let there : Place = place renewal.row index in
    let new : ℕ = renewed renewal (word_at r.words there) in
    let is_new = has_bit-renewed renewal (word_at r.words there) in
    record {
      alone = within-bits r there new (takes renewal) (λ bit off. is_new bit ∙ cond-false _ _ _ off);
      shape = HasShape-put r there new;
      bits = λ h p bit is b.
          let parts = and_parts (is_place there p) (takes renewal bit) is in
          subst (λ (q : Place). q.index < (row_of q.row).count
          → has_bit bit (word_at (put r.words there new) q) ≡ has_bit bit (row_of q.row).reset)
          (is_place-same there p parts.0)
          (λ inside. ap (has_bit bit) (put_stands r there new h inside) ∙ is_new bit ∙ cond-true _ _ _ parts.1) b;
      wanted = λ h dir queue is b. cc;
      reported = λ h g is b. cc;
    }

abbrev pub wanted_of : Dir → ℕ → Footprint
wanted_of dir queue =
    record nothing { wanted = λ other number. is_owner (owner.Side dir queue) (owner.Side other number) }

unwanted : (r : Registers) → HasShape r → (dir : Dir) (queue : ℕ) → queue < 128
    → is_wanted (with_wanted r dir queue false) dir queue ≡ false
unwanted r h Rx queue b =
    get_or-set_same r.wanted_rx queue false false (subst (λ n. queue < n) (sym h.wanted_rx) b)
unwanted r h Tx queue b =
    get_or-set_same r.wanted_tx queue false false (subst (λ n. queue < n) (sym h.wanted_tx) b)

pub renewed-with_wanted : (dir : Dir) (r : Registers) (queue : ℕ)
    → IsRenewed (wanted_of dir queue) r (with_wanted r dir queue false)
renewed-with_wanted dir r queue = record {
  alone = within-with_wanted (wanted_of dir queue) r dir queue false (is_owner-itself (owner.Side dir queue));
  shape = HasShape-with_wanted r dir queue false;
  bits = λ h p bit is b. cc;
  wanted = λ h other number is b.
      let parts = and_parts _ _ is in
      let same = eqb-true queue number parts.1 in
      (λ k. is_wanted (with_wanted r dir queue false) (sym (is_dir-same dir other parts.0) k) (sym same k))
      ∙ unwanted r h dir queue (subst (λ n. n < 128) (sym same) b);
  reported = λ h g is b. cc;
}

abbrev pub reported_of : Group → Footprint
reported_of g = record nothing { reported = is_group g }

pub renewed-with_reported : (r : Registers) (g : Group) → IsRenewed (reported_of g) r (with_reported r g 0)
renewed-with_reported r g = record {
  alone = within-with_reported (reported_of g) r g 0 (is_group-itself g);
  shape = HasShape-with_reported r g 0;
  bits = λ h p bit is b. cc;
  wanted = λ h dir queue is b. cc;
  reported = λ h other is b.
      let same = is_group-same g other is in
      ap (reported_by (with_reported r g 0)) (sym same)
      ∙ reported_by-with_reported r g 0 h.reported_vf (subst (λ x. index_of x < 64) (sym same) b);
}
