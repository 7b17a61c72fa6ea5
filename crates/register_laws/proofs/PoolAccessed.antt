-- Lemmas that prove that registers which agree in a pool still agree after the same part of an access to one of the
-- pool's places.
use Rattle.std.proofs.Common.{◌≡◌, ℕ, Bool, true, refl, ap, sym, ◌∙◌}
use Rattle.std.specs.Prelude.{bit_and}
use Rattle.std.proofs.lemmas.Bool.{eq-eqb, eqb-true}
use Rattle.register_file.specs.RegTable.declared.bank.Bank.TheVariants as bank
use Rattle.register_file.specs.RegTable.declared.rows.RowId.TheVariants.{Pvteicr, Pvteims, Pvteiac, Pvteiam}
use Rattle.register_file.specs.IntrUnit.Group.{bits_cleared_by_read}
use Rattle.register_file.specs.IntrUnit.Interrupts.{Interrupts, of_words, after_read as causes_read}
use Rattle.register_file.specs.Access.{stored, group_in, in_group, group_read, is_running, asked}
use Rattle.register_file.specs.declared.owner.Owner.TheVariants as owner
use Rattle.register_laws.specs.Prelude.{Bank, Dir, Group, Mode, Owner, Place, Registers, Rx, Tx, Vf, clears_others}
use Rattle.register_laws.specs.Prelude.{enable_row, has_bit, has_queue, interrupts_of, is_of_pool, is_of_pool_by, is_on}
use Rattle.register_laws.specs.Prelude.{merged, option_map_or, owner_in, owner_of, place, row_of, with_interrupts}
use Rattle.register_laws.specs.Footprint.{AgreeWithin, pool_agrees}
use Rattle.register_laws.specs.Sound.{HasShape}
use Rattle.register_laws.proofs.Agreeing.{agree-put, agree-with_wanted, agree-with_interrupts}
use Rattle.register_laws.proofs.Shape.{HasShape-put}

-- The owner of a pool's place owns only what belongs to the pool.
pub group_of_pool : (b : Bank) (mode : Mode) (v i : ℕ) (g : Group) → is_of_pool_by b mode v i ≡ true
    → owner_in b i ≡ owner.Group g → g ≡ Vf v
group_of_pool bank.VfInterrupts mode v i g is e = let same : i ≡ v = eqb-true i v is in cc
group_of_pool other mode v i g is e = cc

pub side_of_pool : (b : Bank) (mode : Mode) (v i : ℕ) (dir : Dir) (queue : ℕ) → is_of_pool_by b mode v i ≡ true
    → owner_in b i ≡ owner.Side dir queue → has_queue mode v queue ≡ true
side_of_pool bank.Receive mode v i dir queue is e = let same : i ≡ queue = cc in ap (has_queue mode v) (sym same) ∙ is
side_of_pool bank.Transmit mode v i dir queue is e = let same : i ≡ queue = cc in ap (has_queue mode v) (sym same) ∙ is
side_of_pool other mode v i dir queue is e = cc

module _ (mode : Mode) (v : ℕ) (a b : Registers) (same : AgreeWithin (pool_agrees mode v) a b) where
  -- The interrupts of the pool's virtual function.
  pub interrupts_same : interrupts_of a (Vf v) ≡ interrupts_of b (Vf v)
  interrupts_same =
      let own = eq-eqb v v refl in
      λ k. of_words (Vf v) (same.words (place Pvteicr v) own k) (same.words (place Pvteims v) own k)
      (same.words (place Pvteiac v) own k) (same.words (place Pvteiam v) own k) (same.reported (Vf v) own k)

  -- A read of a virtual function's causes clears all of them.
  causes_read_same : causes_read (interrupts_of a (Vf v)) (clears_others a) true
      ≡ causes_read (interrupts_of b (Vf v)) (clears_others b) true
  unfolding bits_cleared_by_read
  causes_read_same = ap (λ i. causes_read (record i { group = Vf v }) true true) interrupts_same

  module _ (ha : HasShape a) (hb : HasShape b) where
    pub agree-group_read : AgreeWithin (pool_agrees mode v) (group_read a (Vf v)) (group_read b (Vf v))
    agree-group_read = agree-with_interrupts (pool_agrees mode v) a b ha hb same _ _ causes_read_same

    in_the_group : (left right : Group → Registers) → AgreeWithin (pool_agrees mode v) (left (Vf v)) (right (Vf v))
        → (o : Owner) → ((g : Group) → o ≡ owner.Group g → g ≡ Vf v)
        → AgreeWithin (pool_agrees mode v) (option_map_or left (group_in o) a) (option_map_or right (group_in o) b)
    in_the_group left right agree (owner.Group g) mine = rw (mine g refl) agree
    in_the_group left right agree other mine = same

    pub agree-stored : (p : Place) (view word : ℕ) → is_of_pool mode v p ≡ true
        → AgreeWithin (pool_agrees mode v) (stored a p view word) (stored b p view word)
    agree-stored p view word is =
        agree-put (pool_agrees mode v) a b ha hb same p _ _
        (ap (λ old. merged (bit_and (row_of p.row).mask view) old word) (same.words p is))

    on_same : (dir : Dir) (queue : ℕ) → has_queue mode v queue ≡ true → is_on a dir queue ≡ is_on b dir queue
    on_same Rx queue is = ap (has_bit 25) (same.words (place (enable_row Rx) queue) is)
    on_same Tx queue is = ap (has_bit 25) (same.words (place (enable_row Tx) queue) is)

    running_same : (o : Owner) → ((dir : Dir) (queue : ℕ) → o ≡ owner.Side dir queue → has_queue mode v queue ≡ true)
        → is_running a o ≡ is_running b o
    running_same (owner.Side dir queue) mine = on_same dir queue (mine dir queue refl)
    running_same other mine = refl

    pub agree-asked : (p : Place) (view word : ℕ) → is_of_pool mode v p ≡ true → (o : Owner) (wanted : Bool)
        → AgreeWithin (pool_agrees mode v) (asked (stored a p view word) o wanted)
        (asked (stored b p view word) o wanted)
    agree-asked p view word is (owner.Side dir queue) wanted =
        agree-with_wanted (pool_agrees mode v) (stored a p view word) (stored b p view word) (HasShape-put a p _ ha)
        (HasShape-put b p _ hb) (agree-stored p view word is) dir queue wanted
    agree-asked p view word is other wanted = agree-stored p view word is

    -- The group of a pool's place is the pool's virtual function.
    pub agree-in_group : (p : Place) (left right : Group → Registers) → is_of_pool mode v p ≡ true
        → AgreeWithin (pool_agrees mode v) (left (Vf v)) (right (Vf v))
        → AgreeWithin (pool_agrees mode v) (in_group a p left) (in_group b p right)
    agree-in_group p left right is agree =
        in_the_group left right agree (owner_of p) (λ g e. group_of_pool (row_of p.row).bank mode v p.index g is e)

    -- The side of a pool's place is one of the pool's queues.
    pub running_at : (p : Place) → is_of_pool mode v p ≡ true → is_running a (owner_of p) ≡ is_running b (owner_of p)
    running_at p is =
        running_same (owner_of p) (λ dir queue e. side_of_pool (row_of p.row).bank mode v p.index dir queue is e)

-- A change to a group's interrupts keeps agreement in the pool of the group's virtual function.
abbrev pub KeepsGroupAgreement : (Registers → Group → ℕ → Registers) → Type 0
KeepsGroupAgreement change =
    (mode : Mode) (v : ℕ) (a b : Registers) → HasShape a → HasShape b → AgreeWithin (pool_agrees mode v) a b →
    (bits : ℕ) → AgreeWithin (pool_agrees mode v) (change a (Vf v) bits) (change b (Vf v) bits)

-- The change keeps agreement if it computes the new interrupts from the group's interrupts, with the auto-mask that
-- applies to accesses.
pub keeps_group_agreement : (made : Interrupts → ℕ → Interrupts)
    → KeepsGroupAgreement (λ r g bits. with_interrupts r (made (interrupts_of r g) bits))
keeps_group_agreement made mode v a b ha hb same bits =
    agree-with_interrupts (pool_agrees mode v) a b ha hb same _ _
    (ap (λ i. made i bits) (interrupts_same mode v a b same))
