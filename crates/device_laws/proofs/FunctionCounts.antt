-- Counting for virtual functions changes nothing else.
use Rattle.std.proofs.Common.{◌≡◌, ℕ, false, true, Option, Some, None, refl, ap, sym, ◌∙◌}
use Rattle.nic_device.specs.RegTable.declared.bank.Bank.TheVariants as bank
use Rattle.nic_device.specs.RegTable.declared.kind.Kind.TheVariants.{Rc, Ro}
use Rattle.nic_device.specs.RegisterFile.declared.owner.Owner.TheVariants as owner
use Rattle.nic_device.proofs.RegisterLaws.Puts.{word_at-put_other}
use Rattle.nic_device.specs.Footprint.{function_counts, is_function_count}
use Rattle.device_laws.specs.Prelude.{Bank, Dir, Misses, Place, Registers, RowId, function_counted, is_owner, of_side}
use Rattle.device_laws.specs.Prelude.{owner_in, place, row_of, word_at}

-- Counting for virtual functions leaves all other counters unchanged.
pub function_keeps : (r : Registers) (o : Option ℕ) (row : RowId) → (row_of row).kind ≡ Ro → (p : Place)
    → (row_of p.row).kind ≡ Rc → word_at (function_counted r o row).words p ≡ word_at r.words p
function_keeps r None row ro p is = refl
function_keeps r (Some v) row ro p is =
    word_at-put_other r.words (place row v) p _
    (λ e. let same : (row_of p.row).kind ≡ (row_of row).kind = ap (λ (q : Place). (row_of q.row).kind) e in
    let differ : Rc ≡ Ro = sym is ∙ same ∙ ro in cc)

-- A virtual function's counter belongs to no side of a queue.
side_bank : (b : Bank) (index : ℕ) (dir : Dir) (queue : ℕ) → is_owner (owner.Side dir queue) (owner_in b index) ≡ true
    → is_function_count b ≡ false
side_bank bank.VfCounters index dir queue e = cc
side_bank other index dir queue e = refl

pub function_counts-miss_side : (dir : Dir) (queue : ℕ) → Misses function_counts (of_side dir queue)
function_counts-miss_side dir queue = record {
  bits = λ p bit is. side_bank (row_of p.row).bank p.index dir queue is;
  wanted = λ other number is. refl;
  reported = λ g is. refl;
}
