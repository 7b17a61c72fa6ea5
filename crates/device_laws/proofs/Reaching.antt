-- Mailbox writes affect no places of other rows and no sides of queues.
use Rattle.std.proofs.Common.{◌≡◌, ◌≢◌, ℕ, ◌+◌, ◌/◌, ◌%◌, true, false, ◌==◌, ◌&&◌, ◌||◌, refl, ap, sym, ◌∙◌}
use Rattle.nic_device.specs.RegTable.Rows.{row_of, number_of}
use Rattle.nic_device.specs.RegTable.declared.kind.Kind.TheVariants as kind
use Rattle.nic_device.specs.RegTable.declared.rows.RowId.TheVariants as row
use Rattle.nic_device.specs.RegisterFile.Mailbox.{by_function, by_physical, by_telling}
use Rattle.nic_device.specs.RegisterFile.declared.owner.Owner.TheVariants as owner
use Rattle.nic_device.specs.RegisterLaws.Footprint.{LacksWord, Misses, either, is_place, is_own, the_word, of_side, written_by, of_write}
use Rattle.nic_device.proofs.RegTable.FirstAddresses.{same_number}
use Rattle.device_laws.specs.Prelude.{Dir, Kind, Place, RowId, is_owner, owner_in, owner_of, place}
use Rattle.device_laws.proofs.Prelude.{eqb-true, false_from_ne_true, is_place-other}

-- A place outside the rows that mailbox writes affect: PVFMAILBOX, PFMBICR, EICR, PVTEICR and CTRL_EXT.
pub record IsAway (q : Place) : Type 0 where
  pub mailbox : q.row ≢ row.Pvfmailbox
  pub requests : q.row ≢ row.Pfmbicr
  pub physical : q.row ≢ row.Eicr
  pub function : q.row ≢ row.Pvteicr
  pub extended : q.row ≢ row.CtrlExt

off : (x : RowId) (i : ℕ) (q : Place) → q.row ≢ x → is_place (place x i) q ≡ false
off x i q other = is_place-other (place x i) q (λ e. other (ap (λ (z : Place). z.row) e))

off_row : (q : Place) → q.row ≢ row.Pvfmailbox → (number_of row.Pvfmailbox == number_of q.row) ≡ false
off_row q other =
    false_from_ne_true (number_of row.Pvfmailbox == number_of q.row)
    (λ same. other (sym (same_number row.Pvfmailbox q.row (eqb-true _ _ same))))

function_lacks : (v : ℕ) (q : Place) → IsAway q → LacksWord (by_function v) q
function_lacks v q away bit k =
    (off row.Pvfmailbox v q away.mailbox k && bit == 2)
    || ((off row.Pfmbicr (v / 16) q away.requests k && (bit == v % 16 || bit == 16 + v % 16))
    || (off row.Eicr 0 q away.physical k && bit == 19))

physical_lacks : (v : ℕ) (q : Place) → IsAway q → LacksWord (by_physical v) q
physical_lacks v q away bit k =
    (off row.Pvfmailbox v q away.mailbox k && (bit == 2 || bit == 3 || bit == 4 || bit == 5))
    || (off row.Pvteicr v q away.function k && (bit == 0 || bit == 1 || bit == 2))

extended_lacks : (p q : Place) → IsAway q → p.row ≡ row.CtrlExt → LacksWord (either (the_word p) by_telling) q
extended_lacks p q away e bit k =
    is_place-other p q (λ same. away.extended (ap (λ (z : Place). z.row) same ∙ e)) k
    || (off_row q away.mailbox k && (bit == 6 || bit == 7))

extended_row : (x : RowId) → (row_of x).kind ≡ kind.Ctrlext → x ≡ row.CtrlExt
extended_row row.CtrlExt e = refl
extended_row row.Ctrl e = cc
extended_row other e = cc

-- A write of a kind that reaches other places changes no bit of such a place.
reaching_lacks : (k : Kind) → is_own k ≡ false → (p q : Place) → (row_of p.row).kind ≡ k → IsAway q
    → LacksWord (written_by k p) q
reaching_lacks kind.Vfmail other p q e away = function_lacks p.index q away
reaching_lacks kind.Pfmail other p q e away = physical_lacks p.index q away
reaching_lacks kind.Ctrlext other p q e away = extended_lacks p q away (extended_row p.row e)
reaching_lacks k other p q e away = cc

pub write_lacks : (p q : Place) → is_own (row_of p.row).kind ≡ false → IsAway q → LacksWord (of_write p) q
write_lacks p q other away = reaching_lacks (row_of p.row).kind other p q refl away

-- Such a write changes no part of a side of a queue.
no_wanted : (k : Kind) → is_own k ≡ false → (p : Place) (dir : Dir) (queue : ℕ)
    → (written_by k p).wanted dir queue ≡ false
no_wanted kind.Vfmail other p dir queue = refl
no_wanted kind.Pfmail other p dir queue = refl
no_wanted kind.Ctrlext other p dir queue = refl
no_wanted k other p dir queue = cc

apart_side : (dir : Dir) (queue : ℕ) (q : Place) (x : RowId)
    → is_owner (owner.Side dir queue) (owner_in (row_of x).bank q.index) ≡ false
    → is_owner (owner.Side dir queue) (owner_of q) ≡ true → q.row ≢ x
apart_side dir queue q x none is e =
    let no = sym is ∙ ap (λ y. is_owner (owner.Side dir queue) (owner_in (row_of y).bank q.index)) e ∙ none in cc

away_side : (dir : Dir) (queue : ℕ) (q : Place) → is_owner (owner.Side dir queue) (owner_of q) ≡ true → IsAway q
away_side dir queue q is = record {
  mailbox = apart_side dir queue q row.Pvfmailbox refl is;
  requests = apart_side dir queue q row.Pfmbicr refl is;
  physical = apart_side dir queue q row.Eicr refl is;
  function = apart_side dir queue q row.Pvteicr refl is;
  extended = apart_side dir queue q row.CtrlExt refl is;
}

pub reaching_misses_sides : (p : Place) → is_own (row_of p.row).kind ≡ false → (dir : Dir) (queue : ℕ)
    → Misses (of_write p) (of_side dir queue)
reaching_misses_sides p other dir queue = record {
  bits = λ q bit is. write_lacks p q other (away_side dir queue q is) bit;
  wanted = λ at number is. no_wanted (row_of p.row).kind other p at number;
  reported = λ g is. cc;
}
