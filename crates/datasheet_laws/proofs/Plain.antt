-- A write to a plain register leaves all other registers unchanged, and EITR has no effect.
use Rattle.std.proofs.Common.{◌≡◌, ◌≢◌, ℕ, ◌+◌, ◌-◌, ◌*◌, ◌<◌, Bool, true, false, ◌&&◌, nat_lt, cond, if◌then◌else◌, Some, refl, ap, sym, ◌∙◌, subst, arith}
use Rattle.std.specs.Prelude.{bit_and, is_some}
use Rattle.std.proofs.lemmas.Bool.{cond_both, ltb-true, ltb-false}
use Rattle.nic_device.specs.RegTable.declared.kind.Kind.TheVariants as kind
use Rattle.nic_device.specs.RegTable.declared.rows.RowId.TheVariants as row
use Rattle.nic_device.proofs.RegTable.FirstAddresses.{first_address, further_address}
use Rattle.nic_device.specs.IntrUnit.Interrupts.{next_vector}
use Rattle.nic_device.specs.RegisterFile.Access.{read_word, calculated, written, stored, asks_reset, asks_pool_reset}
use Rattle.nic_device.specs.declared.event.Event.TheVariants as event
use Rattle.device_laws.proofs.Accesses.{state-written, write_shows}
use Rattle.device_laws.proofs.CausesKept.{word_kept}
use Rattle.datasheet_laws.specs.Prelude.{Block, Group, Idle, IsPlain, IsSound, Kind, Names, NoGroup, Pf, Place}
use Rattle.datasheet_laws.specs.Prelude.{Registers, Reply, RowId, State, Surroundings, Vf, Word, address_among}
use Rattle.datasheet_laws.specs.Prelude.{after_write, around, gives, has_bit, has_group, is_stopped, merged, message_of}
use Rattle.datasheet_laws.specs.Prelude.{message_reply, mode_of, place, queues_of, reply_to, reply_to_read, reset}
use Rattle.datasheet_laws.specs.Prelude.{row_of, runs, step_of, view_among, with_pool_reset, word_at, word_of}
use Rattle.datasheet_laws.proofs.Prelude.{word_at-put_other}
use Rattle.datasheet_laws.specs.Names.{IsAddressOf, auto_clear_register, auto_mask_register}
use Rattle.datasheet_laws.specs.Plain.{PlainWriteIsAlone, ArePlain, TimersHaveNoEffect, timer_address}
use Rattle.datasheet_laws.specs.Shown.{word_in}
use Rattle.datasheet_laws.proofs.Addresses.{address_of, addresses}
use Rattle.datasheet_laws.proofs.Bits.{has_bit-all, has_bit-merged, has_bit-whole}
use Rattle.datasheet_laws.proofs.Words.{reply-read}

-- The state after a write to a plain register.
abbrev kept_word : State → Place → ℕ → ℕ → State
kept_word s p view word = record s { registers = stored s.registers p view word }

plain_written : (s : State) (a word : ℕ) (p : Place) → IsPlain a p
    → after_write s a word ≡ kept_word s p (view_among runs a) word
plain_written s a word p is =
    state-written s a word p is.named
    ∙ ap (λ k. cond (asks_reset k word) (reset s) (cond (asks_pool_reset k word) (with_pool_reset s p.index)
    (record s { registers = written k s.registers p (view_among runs a) word }))) is.plain

-- What other registers read.

same_formula : (r : RowId) (old new : Registers) (around : Surroundings)
    → word_of new row.Ctrl 0 ≡ word_of old row.Ctrl 0 → calculated r new around ≡ calculated r old around
same_formula row.Status old new around control = ap (λ w. if has_bit 2 w then 0 else 0x00080000) control
same_formula other old new around control = refl

pub same_read : (k : Kind) (old new : Registers) (around : Surroundings) (q : Place)
    → word_at new.words q ≡ word_at old.words q → word_of new row.Ctrl 0 ≡ word_of old row.Ctrl 0
    → word_of new row.Pvfmailbox q.index ≡ word_of old row.Pvfmailbox q.index
    → read_word k new around q ≡ read_word k old around q
same_read kind.Calc old new around q word control mail = same_formula q.row old new around control
same_read kind.Set old new around q word control mail = refl
same_read kind.Clear old new around q word control mail = refl
same_read kind.Vreset old new around q word control mail = refl
same_read kind.Pfmail old new around q word control mail = ap (λ w. bit_and w 0xC) mail
same_read other old new around q word control mail = word

-- Neither CTRL nor a mailbox is plain.
no_control : (p : Place) → (row_of p.row).kind ≡ kind.Rw → place row.Ctrl 0 ≢ p
no_control p plain e =
    let other : kind.Ctrl ≡ kind.Rw = ap (λ (x : Place). (row_of x.row).kind) e ∙ plain in cc

no_mail : (p : Place) (v : ℕ) → (row_of p.row).kind ≡ kind.Rw → place row.Pvfmailbox v ≢ p
no_mail p v plain e =
    let other : kind.Vfmail ≡ kind.Rw = ap (λ (x : Place). (row_of x.row).kind) e ∙ plain in cc

others_read : (s : State) (p : Place) (view word : ℕ) → (row_of p.row).kind ≡ kind.Rw → (a : ℕ) (q : Place)
    → Names a q → q ≢ p → reply_to_read (kept_word s p view word) a ≡ reply_to_read s a
others_read s p view word plain a q named apart =
    let t = kept_word s p view word in
    let new : ℕ = merged (bit_and (row_of p.row).mask view) (word_at s.registers.words p) word in
    reply-read t a q named
    ∙ ap (λ w. Word (bit_and w (view_among runs a))) (same_read (row_of q.row).kind s.registers t.registers (around s) q
    (word_at-put_other s.registers.words p q new apart)
    (word_at-put_other s.registers.words p (place row.Ctrl 0) new (no_control p plain))
    (word_at-put_other s.registers.words p (place row.Pvfmailbox q.index) new (no_mail p q.index plain)))
    ∙ sym (reply-read s a q named)

pub plain_alone : PlainWriteIsAlone
plain_alone s a word p is =
    let same = plain_written s a word p is in
    record {
      reads = λ b q named apart. ap (λ t. reply_to_read t b) same
          ∙ others_read s p (view_among runs a) word is.plain b q named apart;
      rest = subst (λ t. t ≡ record s { registers = record s.registers { words = t.registers.words } }) (sym same)
          refl;
    }

-- The plain interrupt registers.

timer_there : (i : ℕ) → i < 128 → address_among runs (place row.Eitr i) ≡ Some (timer_address i)
timer_there i b =
    cond_both (nat_lt i 24) (0x00820 + 4 * i) (0x12300 + 4 * (i - 24))
    (λ a. address_among runs (place row.Eitr i) ≡ Some a)
    (λ low. first_address (place row.Eitr i) (ltb-true i 24 low))
    (λ high. further_address (place row.Eitr i) b (ltb-false i 24 high))

timer_address_of : (i : ℕ) → i < 128 → IsAddressOf (place row.Eitr i) (timer_address i) 0xFFFFFFFF
timer_address_of i b = address_of (place row.Eitr i) (timer_address i) (timer_there i b)

clear_plain : (g : Group) → (row_of (auto_clear_register g).row).kind ≡ kind.Rw
clear_plain Pf = refl
clear_plain (Vf v) = refl

mask_plain : (g : Group) → (row_of (auto_mask_register g).row).kind ≡ kind.Rw
mask_plain Pf = refl
mask_plain (Vf v) = refl

pub plain : ArePlain
plain = record {
  auto_clear = λ g h. record { named = (addresses g h).auto_clear.named; plain = clear_plain g };
  auto_mask = λ g h. record { named = (addresses g h).auto_mask.named; plain = mask_plain g };
  timer = λ i b. record { named = (timer_address_of i b).named; plain = refl };
}

-- EITR.

answers : (has stops : Bool) (s t : State) (reply : Reply Block)
    → (cond has (cond stops (gives Idle s) (gives reply t)) (gives NoGroup s)).reply
    ≡ cond has (cond stops Idle reply) NoGroup
answers true true s t reply = refl
answers true false s t reply = refl
answers false stops s t reply = refl

by_parts : (s : State) (g : Group)
    → reply_to s (event.IntStep g)
    ≡ cond (has_group s g) (cond (is_stopped s.registers) Idle (message_reply g (message_of s.registers g))) NoGroup
unfolding step_of
by_parts s g = answers (has_group s g) (is_stopped s.registers) s _ (message_reply g (message_of s.registers g))

module _ (s : State) (i view word : ℕ) where
  timer_word : ℕ
  timer_word = merged (bit_and 0xFFFFFFFF view) (word_at s.registers.words (place row.Eitr i)) word

  stays : (r : RowId) → (r ≡ row.Eitr → ⊥) → word_of (kept_word s (place row.Eitr i) view word).registers r 0
      ≡ word_of s.registers r 0
  unfolding timer_word
  stays r other =
      word_at-put_other s.registers.words (place row.Eitr i) (place r 0) timer_word
      (λ e. other (ap (λ (x : Place). x.row) e))

  same_group : (g : Group) → has_group (kept_word s (place row.Eitr i) view word) g ≡ has_group s g
  same_group Pf = refl
  same_group (Vf v) =
      ap (λ w. nat_lt v s.vfs && is_some (queues_of (mode_of w) v)) (stays row.GcrExt (λ e. cc))

  same_message : (g : Group)
      → message_of (kept_word s (place row.Eitr i) view word).registers g ≡ message_of s.registers g
  unfolding timer_word
  same_message g =
      let own = word_kept s.registers (place row.Eitr i) timer_word g refl in
      let misc = stays row.IvarMisc (λ e. cc) in
      λ k. next_vector (own k) (misc k)

  same_stop : is_stopped (kept_word s (place row.Eitr i) view word).registers ≡ is_stopped s.registers
  same_stop = ap (has_bit 2) (stays row.Ctrl (λ e. cc))

  same_answer : (g : Group) → reply_to (kept_word s (place row.Eitr i) view word) (event.IntStep g)
      ≡ reply_to s (event.IntStep g)
  same_answer g =
      by_parts (kept_word s (place row.Eitr i) view word) g
      ∙ (λ k. cond (same_group g k) (cond (same_stop k) Idle (message_reply g (same_message g k))) NoGroup)
      ∙ sym (by_parts s g)

timer_bit : (s : State) → IsSound s → (i word : ℕ) (b : i < 128) (bit : ℕ) → bit < 32
    → has_bit bit (word_in (reply_to_read (after_write s (timer_address i) word) (timer_address i)))
    ≡ has_bit bit word
timer_bit s h i word b bit high =
    let p = place row.Eitr i in
    let a = timer_address i in
    let at = timer_address_of i b in
    let is = plain.timer i b in
    let old = word_at s.registers.words p in
    ap (λ (r : Reply Block). has_bit bit (word_in r)) (write_shows s h a a word p is is)
    ∙ ap (λ v. has_bit bit (bit_and (merged (bit_and 0xFFFFFFFF v) old word) v)) at.view
    ∙ has_bit-whole (merged 0xFFFFFFFF old word) bit high
    ∙ has_bit-merged bit 0xFFFFFFFF old word high (omega arith)
    ∙ ap (λ x. cond x (has_bit bit word) (has_bit bit old)) (has_bit-all bit high)

pub no_effect : TimersHaveNoEffect
no_effect s h i word b = record {
  kept = λ bit high. timer_bit s h i word b bit high;
  messages = λ g. ap (λ t. reply_to t (event.IntStep g))
      (plain_written s (timer_address i) word (place row.Eitr i) (plain.timer i b))
      ∙ same_answer s i (view_among runs (timer_address i)) word g;
}
