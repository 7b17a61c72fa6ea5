-- Lemmas about equal places and equal owners.
use Rattle.std.proofs.Common.{◌≡◌, ◌≢◌, Bool, true, false, refl, ap, sym, ◌∙◌}
use Rattle.std.proofs.lemmas.Bool.{both_ways, false_from_ne_true, and_parts, and_from, eqb-true, eq-eqb}
use Rattle.register_file.specs.Owner.{is_dir, is_group, is_owner}
use Rattle.register_file.specs.declared.owner.Owner.TheVariants as owner
use Rattle.register_laws.specs.Prelude.{Dir, Group, Owner, Pf, Place, Rx, Tx, Vf, number_of}
use Rattle.register_laws.proofs.Prelude.{same_number}
use Rattle.register_laws.specs.Footprint.{is_place}

-- A value that passes a test differs from a value that fails the test.
pub apart : {A : Type 0} (test : A → Bool) (x y : A) → test x ≡ true → test y ≡ false → y ≢ x
apart test x y on off e = both_ways (test y) off (ap test e ∙ on)

pub is_dir-itself : (dir : Dir) → is_dir dir dir ≡ true
is_dir-itself Rx = refl
is_dir-itself Tx = refl

pub is_dir-same : (dir other : Dir) → is_dir dir other ≡ true → dir ≡ other
is_dir-same Rx Rx e = refl
is_dir-same Rx Tx e = cc
is_dir-same Tx Rx e = cc
is_dir-same Tx Tx e = refl

pub is_group-itself : (g : Group) → is_group g g ≡ true
is_group-itself Pf = refl
is_group-itself (Vf v) = eq-eqb v v refl

pub is_group-same : (g h : Group) → is_group g h ≡ true → g ≡ h
is_group-same Pf Pf e = refl
is_group-same Pf (Vf w) e = cc
is_group-same (Vf v) Pf e = cc
is_group-same (Vf v) (Vf w) e = ap Vf (eqb-true v w e)

pub is_owner-itself : (o : Owner) → is_owner o o ≡ true
is_owner-itself owner.Device = refl
is_owner-itself owner.Counters = refl
is_owner-itself (owner.Side dir queue) = and_from _ _ (is_dir-itself dir) (eq-eqb queue queue refl)
is_owner-itself (owner.Group g) = is_group-itself g
is_owner-itself (owner.Pool number) = eq-eqb number number refl
is_owner-itself (owner.VfCounters number) = eq-eqb number number refl
is_owner-itself (owner.Vectors number) = eq-eqb number number refl

pub is_owner-same : (o other : Owner) → is_owner o other ≡ true → o ≡ other
is_owner-same owner.Device owner.Device e = refl
is_owner-same owner.Counters owner.Counters e = refl
is_owner-same (owner.Side dir queue) (owner.Side other number) e =
    let parts = and_parts _ _ e in
    λ k. owner.Side (is_dir-same dir other parts.0 k) (eqb-true queue number parts.1 k)
is_owner-same (owner.Group g) (owner.Group h) e = ap owner.Group (is_group-same g h e)
is_owner-same (owner.Pool pool) (owner.Pool number) e = ap owner.Pool (eqb-true pool number e)
is_owner-same (owner.VfCounters own) (owner.VfCounters number) e = ap owner.VfCounters (eqb-true own number e)
is_owner-same (owner.Vectors own) (owner.Vectors number) e = ap owner.Vectors (eqb-true own number e)
is_owner-same own other e = cc

pub is_place-itself : (p : Place) → is_place p p ≡ true
is_place-itself p = and_from _ _ (eq-eqb (number_of p.row) (number_of p.row) refl) (eq-eqb p.index p.index refl)

pub is_place-same : (p q : Place) → is_place p q ≡ true → p ≡ q
is_place-same p q e =
    let parts = and_parts _ _ e in
    λ k. record { row = same_number p.row q.row (eqb-true _ _ parts.0) k; index = eqb-true p.index q.index parts.1 k }

pub is_place-other : (p q : Place) → q ≢ p → is_place p q ≡ false
is_place-other p q n = false_from_ne_true (is_place p q) (λ e. n (sym (is_place-same p q e)))
