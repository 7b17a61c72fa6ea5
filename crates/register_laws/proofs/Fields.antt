-- Lemmas that prove that a change of one part of the registers leaves the other parts unchanged.
use Rattle.std.proofs.Common.{◌≡◌, ◌≢◌, ℕ, Bool, false, refl, ap, sym}
use Rattle.register_laws.specs.Prelude.{Dir, Group, Pf, Place, Registers, Rx, Tx, Vf, is_wanted, put, reported_by}
use Rattle.register_laws.specs.Prelude.{with_reported, with_wanted}
use Rattle.register_laws.proofs.Prelude.{get_or-set_other}

pub is_wanted-put : (r : Registers) (p : Place) (v : ℕ) (dir : Dir) (queue : ℕ)
    → is_wanted (record r { words = put r.words p v }) dir queue ≡ is_wanted r dir queue
is_wanted-put r p v Rx queue = refl
is_wanted-put r p v Tx queue = refl

pub reported_by-put : (r : Registers) (p : Place) (v : ℕ) (g : Group)
    → reported_by (record r { words = put r.words p v }) g ≡ reported_by r g
reported_by-put r p v Pf = refl
reported_by-put r p v (Vf w) = refl

pub words-with_wanted : (r : Registers) (dir : Dir) (queue : ℕ) (wanted : Bool)
    → (with_wanted r dir queue wanted).words ≡ r.words
words-with_wanted r Rx queue wanted = refl
words-with_wanted r Tx queue wanted = refl

pub is_wanted-with_wanted_other : (r : Registers) (at dir : Dir) (i queue : ℕ) (wanted : Bool) → (at ≡ dir → i ≢ queue)
    → is_wanted (with_wanted r at i wanted) dir queue ≡ is_wanted r dir queue
is_wanted-with_wanted_other r Rx Rx i queue wanted n =
    get_or-set_other r.wanted_rx i queue wanted false (λ e. n refl (sym e))
is_wanted-with_wanted_other r Rx Tx i queue wanted n = refl
is_wanted-with_wanted_other r Tx Rx i queue wanted n = refl
is_wanted-with_wanted_other r Tx Tx i queue wanted n =
    get_or-set_other r.wanted_tx i queue wanted false (λ e. n refl (sym e))

pub reported_by-with_wanted : (r : Registers) (dir : Dir) (queue : ℕ) (wanted : Bool) (g : Group)
    → reported_by (with_wanted r dir queue wanted) g ≡ reported_by r g
reported_by-with_wanted r Rx queue wanted Pf = refl
reported_by-with_wanted r Rx queue wanted (Vf v) = refl
reported_by-with_wanted r Tx queue wanted Pf = refl
reported_by-with_wanted r Tx queue wanted (Vf v) = refl

pub words-with_reported : (r : Registers) (g : Group) (reported : ℕ) → (with_reported r g reported).words ≡ r.words
words-with_reported r Pf reported = refl
words-with_reported r (Vf v) reported = refl

pub is_wanted-with_reported : (r : Registers) (g : Group) (reported : ℕ) (dir : Dir) (queue : ℕ)
    → is_wanted (with_reported r g reported) dir queue ≡ is_wanted r dir queue
is_wanted-with_reported r Pf reported Rx queue = refl
is_wanted-with_reported r Pf reported Tx queue = refl
is_wanted-with_reported r (Vf v) reported Rx queue = refl
is_wanted-with_reported r (Vf v) reported Tx queue = refl

pub reported_by-with_reported_other : (r : Registers) (g h : Group) (reported : ℕ) → h ≢ g
    → reported_by (with_reported r g reported) h ≡ reported_by r h
reported_by-with_reported_other r Pf Pf reported n = absurd (n refl)
reported_by-with_reported_other r Pf (Vf w) reported n = refl
reported_by-with_reported_other r (Vf v) Pf reported n = refl
reported_by-with_reported_other r (Vf v) (Vf w) reported n = get_or-set_other r.reported_vf v w reported 0
    (λ e. n (ap Vf e))
