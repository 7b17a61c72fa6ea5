-- Which properties accesses to each kind of register preserve: one record for each kind.
use Rattle.std.proofs.Common.{◌^◌, true, refl}
use Rattle.std.specs.Prelude.{bit_and}
use Rattle.register_file.specs.RegTable.declared.kind.Kind.TheVariants as kind
use Rattle.register_file.proofs.IntrUnit.Subsets.{IsSubset-itself}
use Rattle.register_file.specs.Access.{read_word, after_read, written, causes_written, masks_set, causes_set, masks_cleared}
use Rattle.register_laws.specs.Prelude.{Kind, after_mask_clear, after_mask_set, after_write_one, raised, row_of}
use Rattle.register_laws.specs.Footprint.{read_by, written_by}
use Rattle.register_laws.proofs.Giving.{GivesTheSame, same_word, same_none, same_calculated}
use Rattle.register_laws.proofs.GroupChanges.{change-causes_written, change-masks_set, change-causes_set, change-masks_cleared}
use Rattle.register_laws.proofs.MailKeeps.{mail_reading, function_write, physical_given, physical_write, extended_write, ones_write}
use Rattle.register_laws.proofs.PoolAccessed.{keeps_group_agreement}
use Rattle.register_laws.proofs.Reading.{KeepsReading, quiet_read, counter_read, causes_read}
use Rattle.register_laws.proofs.RowBits.{IsSubset-or_left, IsSubset-ones, mask_small}
use Rattle.register_laws.proofs.Writing.{KeepsWriting, no_write, stored_write, held_write, enable_write, group_write}

-- Registers that agree in a pool return the same words at its places, and reads and writes preserve the required
-- properties.
pub record Keeps (k : Kind) : Type 0 where
  pub given : GivesTheSame k (read_word k)
  pub read : KeepsReading k (after_read k) (read_by k)
  pub write : KeepsWriting k (written k) (written_by k)

pub keeps : (k : Kind) → Keeps k
keeps kind.Rw = record {
  given = same_word kind.Rw;
  read = quiet_read kind.Rw;
  write = stored_write kind.Rw (λ word. word) refl refl (λ row. IsSubset-itself _);
}
keeps kind.Ro = record { given = same_word kind.Ro; read = quiet_read kind.Ro; write = no_write kind.Ro }
keeps kind.Calc = record { given = same_calculated; read = quiet_read kind.Calc; write = no_write kind.Calc }
keeps kind.Rc = record { given = same_word kind.Rc; read = counter_read; write = no_write kind.Rc }
keeps kind.Cause = record {
  given = same_word kind.Cause;
  read = causes_read kind.Cause;
  write = group_write kind.Cause causes_written change-causes_written
      (keeps_group_agreement (λ i bits. after_write_one i bits true));
}
keeps kind.Ones = record {
  given = same_word kind.Ones;
  read = quiet_read kind.Ones;
  write = group_write kind.Ones masks_set change-masks_set (keeps_group_agreement after_mask_set);
}
keeps kind.Set = record {
  given = same_none kind.Set;
  read = quiet_read kind.Set;
  write = group_write kind.Set causes_set change-causes_set (keeps_group_agreement (λ i bits. raised i bits true));
}
keeps kind.Clear = record {
  given = same_none kind.Clear;
  read = quiet_read kind.Clear;
  write = group_write kind.Clear masks_cleared change-masks_cleared (keeps_group_agreement after_mask_clear);
}
keeps kind.Held = record {
  given = same_word kind.Held;
  read = quiet_read kind.Held;
  write = held_write kind.Held refl refl (λ row. IsSubset-itself _);
}
keeps kind.Enable = record {
  given = same_word kind.Enable;
  read = quiet_read kind.Enable;
  write = enable_write kind.Enable refl refl (λ row. IsSubset-or_left (row_of row).mask (2 ^ 25));
}
keeps kind.Ctrl = record {
  given = same_word kind.Ctrl;
  read = quiet_read kind.Ctrl;
  write = stored_write kind.Ctrl (λ word. word) refl refl (λ row. IsSubset-itself _);
}
keeps kind.Vreset = record {
  given = same_none kind.Vreset;
  read = quiet_read kind.Vreset;
  write = no_write kind.Vreset;
}
keeps kind.Eerd = record {
  given = same_word kind.Eerd;
  read = quiet_read kind.Eerd;
  write = stored_write kind.Eerd (λ word. bit_and word 0xFFFD) refl refl
      (λ row. IsSubset-ones 32 (row_of row).mask (mask_small row));
}
keeps kind.W1c = record { given = same_word kind.W1c; read = quiet_read kind.W1c; write = ones_write }
keeps kind.Vfmail = record { given = same_word kind.Vfmail; read = mail_reading; write = function_write }
keeps kind.Pfmail = record { given = physical_given; read = quiet_read kind.Pfmail; write = physical_write }
keeps kind.Ctrlext = record {
  given = same_word kind.Ctrlext;
  read = quiet_read kind.Ctrlext;
  write = extended_write;
}
