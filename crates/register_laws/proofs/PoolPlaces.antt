-- Lemmas about the places of a pool, and about what accesses to these places may change.
use Rattle.std.proofs.Common.{◌≡◌, ℕ, ◌*◌, Bool, true, false, ◌==◌, refl, ap, sym, ◌∙◌, subst, inl, inr}
use Rattle.register_file.specs.RegTable.declared.kind.Kind.TheVariants as kind
use Rattle.register_file.specs.RegTable.declared.bank.Bank.TheVariants as bank
use Rattle.register_file.specs.RegTable.declared.rows.RowId.TheVariants as row
use Rattle.register_file.specs.declared.owner.Owner.TheVariants as owner
use Rattle.register_laws.specs.Prelude.{Bank, Kind, Mode, Owner, Pf, Place, RowId, Vf, after_read, by_function}
use Rattle.register_laws.specs.Prelude.{by_sending, has_queue, is_group, is_of_pool, is_of_pool_by, is_owner, is_shared}
use Rattle.register_laws.specs.Prelude.{number_of, owner_in, owner_of, row_of}
use Rattle.register_laws.proofs.Prelude.{cases_Bool, eqb-true, or_cases, same_number}
use Rattle.register_laws.specs.Agreement.{PoolReadsStayWithin, PoolWritesStayWithin, SharedReadsChangeNothing, SharedWritesChangeNothing}
use Rattle.register_laws.specs.Footprint.{Footprint, Covers, pool_has, pool_changes, is_own, of_owner, of_read, written_by, of_write}
use Rattle.register_laws.specs.Laws.{after_write}
use Rattle.register_laws.proofs.Accessed.{covers-of_read, covers-of_write}
use Rattle.register_laws.proofs.Covers.{covers-trans, covers-first}
use Rattle.register_laws.proofs.MailPools.{mail_row, physical_is_the_devices, extended_is_the_devices, covers-function}
use Rattle.register_laws.proofs.PoolAccessed.{group_of_pool, side_of_pool}
use Rattle.register_laws.proofs.Owners.{is_group-itself, is_owner-same}

-- Whether an owner is the pool or belongs to it.
owns : Mode → ℕ → Owner → Bool
owns mode v owner.Device = false
owns mode v owner.Counters = false
owns mode v (owner.Side dir queue) = has_queue mode v queue
owns mode v (owner.Group Pf) = false
owns mode v (owner.Group (Vf w)) = w == v
owns mode v (owner.Pool number) = number == v
owns mode v (owner.VfCounters number) = number == v
owns mode v (owner.Vectors index) = has_queue mode v (2 * index)

owned : (b : Bank) (mode : Mode) (v i : ℕ) → is_of_pool_by b mode v i ≡ owns mode v (owner_in b i)
unfolding owns
owned bank.Device mode v i = refl
owned other mode v i = refl

-- If two places have the same owner, both places belong to the pool or neither does.
one_owner : (b c : Bank) (mode : Mode) (v i j : ℕ) → is_owner (owner_in b i) (owner_in c j) ≡ true
    → is_of_pool_by b mode v i ≡ true → is_of_pool_by c mode v j ≡ true
one_owner b c mode v i j same is =
    owned c mode v j ∙ ap (owns mode v) (sym (is_owner-same (owner_in b i) (owner_in c j) same))
    ∙ sym (owned b mode v i) ∙ is

covers-owner : (mode : Mode) (v : ℕ) (p : Place) → is_of_pool mode v p ≡ true
    → Covers (pool_has mode v) (of_owner (owner_of p))
covers-owner mode v p is = record {
  bits = λ q bit same. one_owner (row_of p.row).bank (row_of q.row).bank mode v p.index q.index same is;
  wanted = λ dir queue same. side_of_pool (row_of p.row).bank mode v p.index dir queue is
      (is_owner-same (owner_of p) (owner.Side dir queue) same);
  reported = λ g same.
      let mine = group_of_pool (row_of p.row).bank mode v p.index g is
      (is_owner-same (owner_of p) (owner.Group g) same) in
      ap (is_group (Vf v)) mine ∙ is_group-itself (Vf v);
}

pub covers-has : (mode : Mode) (v : ℕ) → Covers (pool_changes mode v) (pool_has mode v)
covers-has mode v = covers-first (pool_has mode v) (by_sending v)

covers-own : (mode : Mode) (v : ℕ) (p : Place) → is_of_pool mode v p ≡ true → (f : Footprint)
    → Covers (of_owner (owner_of p)) f → Covers (pool_changes mode v) f
covers-own mode v p is f own =
    covers-trans (pool_changes mode v) (pool_has mode v) f (covers-has mode v)
    (covers-trans (pool_has mode v) (of_owner (owner_of p)) f (covers-owner mode v p is) own)

pub covers-read : PoolReadsStayWithin
covers-read mode v p is = covers-own mode v p is (of_read p) (covers-of_read p)

-- If a write to a pool's place affects other owners, it is a write to the function's mailbox.
covers-reaching : (k : Kind) → is_own k ≡ false → (mode : Mode) (v : ℕ) (p : Place) → (row_of p.row).kind ≡ k
    → is_of_pool mode v p ≡ true → Covers (pool_changes mode v) (written_by k p)
covers-reaching kind.Vfmail other mode v p e is =
    let own : p.index ≡ v = eqb-true p.index v (ap (λ x. is_of_pool_by (row_of x).bank mode v p.index)
    (sym (mail_row p.row e)) ∙ is) in
    subst (λ n. Covers (pool_changes mode v) (by_function n)) (sym own) (covers-function mode v)
covers-reaching kind.Pfmail other mode v p e is =
    let none = physical_is_the_devices p.row mode v p.index e in cc
covers-reaching kind.Ctrlext other mode v p e is =
    let none = extended_is_the_devices p.row mode v p.index e in cc
covers-reaching k other mode v p e is = cc

pub covers-write : PoolWritesStayWithin
covers-write mode v p is =
    let k = (row_of p.row).kind in
    elim (cases_Bool (is_own k)) as (λ _. Covers (pool_changes mode v) (of_write p)) [
      | inl own ↦ covers-own mode v p is (of_write p) (covers-of_write p own)
      | inr other ↦ covers-reaching k other mode v p refl is
    ]

-- STATUS and LINKS
pub shared_rows : (P : RowId → Type 0) → P row.Status → P row.Links → (p : Place) → is_shared p ≡ true → P p.row
shared_rows P status links p is =
    elim (or_cases (number_of p.row == number_of row.Status) (number_of p.row == number_of row.Links) is) as
    (λ _. P p.row) [
      | inl e ↦ subst P (sym (same_number p.row row.Status (eqb-true _ _ e))) status
      | inr e ↦ subst P (sym (same_number p.row row.Links (eqb-true _ _ e))) links
    ]

pub shared-read : SharedReadsChangeNothing
shared-read r p is = shared_rows (λ x. after_read (row_of x).kind r p ≡ r) refl refl p is

pub shared-written : SharedWritesChangeNothing
shared-written r p view word is =
    shared_rows (λ x. after_write r (record { row = x; index = p.index }) view word ≡ r) refl refl p is
