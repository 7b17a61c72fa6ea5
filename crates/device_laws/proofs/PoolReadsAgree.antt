-- If two states agree on a pool, its virtual function's read gets the same reply in both, and the states still agree
-- afterwards.
use Rattle.std.proofs.Common.{◌≡◌, ◌≢◌, ℕ, true, false, refl, ap, sym, ◌∙◌, subst}
use Rattle.std.specs.Prelude.{cond, bit_and}
use Rattle.nic_device.specs.RegTable.declared.kind.Kind.TheVariants as kind
use Rattle.nic_device.specs.RegTable.declared.rows.RowId.TheVariants as row
use Rattle.nic_device.specs.VfMap.Owner.{is_of_pool_by, is_of_pool, has_queue}
use Rattle.nic_device.specs.VfMap.declared.located.Located.TheVariants as located_as
use Rattle.nic_device.specs.RegisterFile.Access.{read_word, calculated}
use Rattle.nic_device.specs.RegisterFile.declared.surroundings.Surroundings.{Surroundings}
use Rattle.nic_device.specs.RegisterLaws.Agreement.{answered_at}
use Rattle.nic_device.proofs.RegisterLaws.PoolAgreement.{agree-read}
use Rattle.nic_device.proofs.RegisterLaws.PoolReads.{same_shared, same_reported}
use Rattle.nic_device.specs.Access.{around, named_read, state_read, word_read}
use Rattle.device_laws.specs.Prelude.{AgreeWithin, IsSound, Kind, Located, Mode, Place, Registers, RowId, State, Word}
use Rattle.device_laws.specs.Prelude.{at_location, located, mode_in, mode_of, place, pool_agrees, row_of, staged_by}
use Rattle.device_laws.proofs.Prelude.{shared-read, shared_rows, word_stands}
use Rattle.device_laws.specs.Pool.{ChangesPoolAlone, AgreeOnPool, waiting_of}
use Rattle.device_laws.proofs.PoolAlone.{IsReached, own, shared, reached}

-- Two states still agree after each of them changed only in the pool.

pub record PartsAgree (mode : Mode) (v : ℕ) (a b : State) : Type 0 where
  pub registers : AgreeWithin (pool_agrees mode v) a.registers b.registers
  pub staged : (queue : ℕ) → has_queue mode v queue ≡ true → staged_by a queue ≡ staged_by b queue
  pub waiting : waiting_of mode v a.waiting ≡ waiting_of mode v b.waiting

pub same_parts : (v : ℕ) (a b : State) → AgreeOnPool v a b → PartsAgree (mode_in a.registers) v a b
same_parts v a b h = record { registers = h.registers; staged = h.staged; waiting = h.waiting }

pub agree_after : (v : ℕ) (a b c d : State) → AgreeOnPool v a b → ChangesPoolAlone v a c → ChangesPoolAlone v b d
    → PartsAgree (mode_in a.registers) v c d → AgreeOnPool v c d
agree_after v a b c d h first second parts =
    let mode : mode_in c.registers ≡ mode_in a.registers =
    ap mode_of (word_stands first.registers (place row.GcrExt 0) (λ bit. refl)) in
    let now : PartsAgree (mode_in c.registers) v c d = subst (λ m. PartsAgree m v c d) (sym mode) parts in
    record {
      vfs = first.vfs ∙ h.vfs ∙ sym second.vfs;
      mode = word_stands first.registers (place row.GcrExt 0) (λ bit. refl) ∙ h.mode
          ∙ sym (word_stands second.registers (place row.GcrExt 0) (λ bit. refl));
      steps = first.registers.bits (place row.Ctrl 0) 2 refl ∙ h.steps
          ∙ sym (second.registers.bits (place row.Ctrl 0) 2 refl);
      link = first.link ∙ h.link ∙ sym second.link;
      registers = now.registers;
      staged = now.staged;
      waiting = now.waiting;
    }

-- Outside the registers, only the link affects what a place other than EEC reports.

calculated-around : (x : RowId) (r : Registers) (n m : Surroundings) → n.link ≡ m.link → x ≢ row.Eec
    → calculated x r n ≡ calculated x r m
calculated-around row.Status r n m e apart = refl
calculated-around row.Links r n m e apart = ap (λ link. cond link 0x70000000 0) e
calculated-around row.Eec r n m e apart = absurd (apart refl)
calculated-around other r n m e apart = refl

read-around : (k : Kind) (r : Registers) (n m : Surroundings) (p : Place) → n.link ≡ m.link → p.row ≢ row.Eec
    → read_word k r n p ≡ read_word k r m p
read-around kind.Calc r n m p e apart = calculated-around p.row r n m e apart
read-around other r n m p e apart = refl

no_eec : (mode : Mode) (v : ℕ) (p : Place) → IsReached mode v p → p.row ≢ row.Eec
no_eec mode v p (own is) e =
    let none : is_of_pool mode v p ≡ false = ap (λ r. is_of_pool_by (row_of r).bank mode v p.index) e in cc
no_eec mode v p (shared is) e = shared_rows (λ r. r ≢ row.Eec) (λ e. cc) (λ e. cc) p is e

same_at : (v : ℕ) (a b : State) → AgreeOnPool v a b → (n : Surroundings) (p : Place)
    → IsReached (mode_in a.registers) v p
    → answered_at a.registers n p ≡ answered_at b.registers n p
same_at v a b h n p (own is) = same_reported (mode_in a.registers) v a.registers b.registers h.registers n p is
same_at v a b h n p (shared is) = same_shared a.registers b.registers h.steps n p is

same_word : (v : ℕ) (a b : State) → AgreeOnPool v a b → (p : Place) → IsReached (mode_in a.registers) v p
    → word_read a p ≡ word_read b p
same_word v a b h p is =
    same_at v a b h (around a) p is
    ∙ read-around (row_of p.row).kind b.registers (around a) (around b) p h.link (no_eec (mode_in a.registers) v p is)

-- Reads.

read_registers : (v : ℕ) (a b : State) → IsSound a → IsSound b → AgreeOnPool v a b → (p : Place)
    → IsReached (mode_in a.registers) v p
    → AgreeWithin (pool_agrees (mode_in a.registers) v) (state_read a p).registers (state_read b p).registers
read_registers v a b good sound h p (own is) =
    agree-read (mode_in a.registers) v a.registers b.registers good.registers.shape sound.registers.shape h.registers p
    is
read_registers v a b good sound h p (shared is) =
    let f = pool_agrees (mode_in a.registers) v in
    subst (λ r. AgreeWithin f r (state_read b p).registers) (sym (shared-read a.registers p is))
    (subst (λ r. AgreeWithin f a.registers r) (sym (shared-read b.registers p is)) h.registers)

pub read_reply : (v : ℕ) (a b : State) → AgreeOnPool v a b → (o : ℕ) (m : Located)
    → located (mode_in a.registers) a.vfs v o ≡ m
    → (named_read a (at_location m)).reply ≡ (named_read b (at_location m)).reply
read_reply v a b h o located_as.Absent e = refl
read_reply v a b h o located_as.Hole e = refl
read_reply v a b h o (located_as.Register p) e =
    ap (λ w. Word (bit_and w 0xFFFFFFFF)) (same_word v a b h p (reached (mode_in a.registers) a.vfs v o p e))

pub read_parts : (v : ℕ) (a b : State) → IsSound a → IsSound b → AgreeOnPool v a b → (o : ℕ) (m : Located)
    → located (mode_in a.registers) a.vfs v o ≡ m
    → PartsAgree (mode_in a.registers) v (named_read a (at_location m)).state (named_read b (at_location m)).state
read_parts v a b good sound h o located_as.Absent e = same_parts v a b h
read_parts v a b good sound h o located_as.Hole e = same_parts v a b h
read_parts v a b good sound h o (located_as.Register p) e = record {
  registers = read_registers v a b good sound h p (reached (mode_in a.registers) a.vfs v o p e);
  staged = h.staged;
  waiting = h.waiting;
}
