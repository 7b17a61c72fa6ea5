-- The holder of a mailbox keeps it.
use Rattle.std.proofs.Common.{◌≡◌, ◌≢◌, ℕ, ◌<◌, ◌%◌, Bool, true, false, cond, ◌==◌, ◌&&◌, ◌||◌, ◌⊎◌, refl, ap, sym, ◌∙◌, subst, inl, inr, arith, lit<}
use Rattle.nic_device.specs.RegTable.declared.rows.RowId.TheVariants as row
use Rattle.nic_device.specs.RegisterFile.Mailbox.{mail_of, with_mail, function_wrote, released, taken, physical_wrote, cause_set, sends, function_signalled, function_writes, physical_writes}
use Rattle.nic_device.specs.RegisterLaws.Laws.{HasShape, after_write as word_written}
use Rattle.nic_device.proofs.RegisterLaws.MailBits.{has_bit-set_other, has_bit-clear_other, function_keeps}
use Rattle.nic_device.proofs.RegisterLaws.Mailbox.{within-sent}
use Rattle.datasheet_laws.specs.Prelude.{Block, Event, IsSound, Named, Nothing, Place, Port, Register, Registers, State}
use Rattle.datasheet_laws.specs.Prelude.{Vf, after, bit_cleared, bit_set, has_bit, mode_in, named, named_written, place}
use Rattle.datasheet_laws.specs.Prelude.{queue_causes, row_of, state_written, step_of, with_pool_reset, word_of}
use Rattle.datasheet_laws.proofs.Prelude.{and-false, both_ways, cases_eq, cond_both, has_bit-set, ne_eqb, put_stands}
use Rattle.datasheet_laws.proofs.Prelude.{renewed-pool, within-pool_reset, word_at-put_other, word_stands}
use Rattle.datasheet_laws.proofs.LastingAccesses.{asks_pool}
use Rattle.datasheet_laws.proofs.Lasting.{in_range}
use Rattle.datasheet_laws.proofs.MailEvents.{apart_mail, still_holds, read_holds, word_holds, write_holds, mail_place}
use Rattle.datasheet_laws.proofs.MailEvents.{physical_place, Side, function, physical, neither, side_of, Made, reading}
use Rattle.datasheet_laws.proofs.MailEvents.{writing, silent, made}
use Rattle.datasheet_laws.proofs.SharedMailbox.{own}
use Rattle.datasheet_laws.specs.Holding.{SparesFunction, SparesPhysical, IsSparing, FunctionHoldsOn, PhysicalHoldsOn}

-- Writes by the two sides after which the mailbox is still held.
function_holds : (mail word : ℕ) → has_bit 2 word ≡ true → has_bit 2 mail ≡ true
    → has_bit 2 (function_wrote mail word) ≡ true
function_holds mail word on held =
    cond_both (has_bit 2 word) (cond (has_bit 3 mail) mail (bit_set 2 mail)) (bit_cleared 2 mail)
    (λ w. has_bit 2 w ≡ true)
    (λ yes. cond_both (has_bit 3 mail) mail (bit_set 2 mail) (λ w. has_bit 2 w ≡ true) (λ a. held)
    (λ b. has_bit-set 2 mail))
    (λ no. absurd (both_ways (has_bit 2 word) no on))

sent_still : (b : Bool) (m n mail : ℕ) → m ≢ n → has_bit m (cond b (bit_set n mail) mail) ≡ has_bit m mail
sent_still true m n mail apart = has_bit-set_other n m mail apart
sent_still false m n mail apart = refl

both_sent : (mail word m : ℕ) → m ≢ 4 → m ≢ 5
    → has_bit m (physical_wrote mail word) ≡ has_bit m (taken (released mail word) word)
both_sent mail word m four five =
    sent_still (has_bit 0 word) m 4 _ four ∙ sent_still (has_bit 1 word) m 5 _ five

not_taken : (mail word : ℕ) → has_bit 2 mail ≡ true → has_bit 2 (taken mail word) ≡ true
not_taken mail word held =
    cond_both (has_bit 3 word) (cond (has_bit 2 mail) mail (bit_set 3 mail)) (bit_cleared 3 mail)
    (λ w. has_bit 2 w ≡ true)
    (λ yes. cond_both (has_bit 2 mail) mail (bit_set 3 mail) (λ w. has_bit 2 w ≡ true) (λ a. held)
    (λ b. absurd (both_ways (has_bit 2 mail) b held)))
    (λ no. has_bit-clear_other 3 2 mail (λ same. omega arith) ∙ held)

function_left : (mail word : ℕ) → has_bit 4 word ≡ false → has_bit 2 mail ≡ true
    → has_bit 2 (physical_wrote mail word) ≡ true
function_left mail word none held =
    both_sent mail word 2 (λ same. omega arith) (λ same. omega arith)
    ∙ not_taken (released mail word) word
    (ap (λ b. has_bit 2 (cond b (bit_cleared 2 mail) mail)) none ∙ held)

physical_holds : (mail word : ℕ) → has_bit 3 word ≡ true → has_bit 3 mail ≡ true
    → has_bit 3 (physical_wrote mail word) ≡ true
physical_holds mail word on held =
    let free = released mail word in
    let kept : has_bit 3 free ≡ true = cond_both (has_bit 4 word) (bit_cleared 2 mail) mail
    (λ w. has_bit 3 w ≡ true) (λ yes. has_bit-clear_other 2 3 mail (λ same. omega arith) ∙ held) (λ no. held) in
    both_sent mail word 3 (λ same. omega arith) (λ same. omega arith)
    ∙ cond_both (has_bit 3 word) (cond (has_bit 2 free) free (bit_set 3 free)) (bit_cleared 3 free)
    (λ w. has_bit 3 w ≡ true)
    (λ yes. cond_both (has_bit 2 free) free (bit_set 3 free) (λ w. has_bit 3 w ≡ true) (λ a. kept)
    (λ b. has_bit-set 3 free))
    (λ no. absurd (both_ways (has_bit 3 word) no on))

-- The mailbox's word after a write by the function and after a write by the physical function.
function_mailed : (r : Registers) → HasShape r → (v word : ℕ) → v < 64
    → mail_of (function_writes r v word) v ≡ function_wrote (mail_of r v) word
function_mailed r h v word there =
    word_stands (within-sent (with_mail r v (function_wrote (mail_of r v) word)) v word) (place row.Pvfmailbox v)
    (λ bit. refl)
    ∙ put_stands r (place row.Pvfmailbox v) (function_wrote (mail_of r v) word) h there

reported_still : (r : Registers) (v word : ℕ) → mail_of (function_signalled r v word) v ≡ mail_of r v
reported_still r v word =
    cond_both (sends word) (cause_set r (Vf v) (queue_causes (Vf v) (word_of r row.PvtivarMisc v % 256))) r
    (λ t. mail_of t v ≡ mail_of r v)
    (λ on. word_at-put_other r.words (place row.Pvteicr v) (place row.Pvfmailbox v) _
    (λ same. let rows : row.Pvfmailbox ≡ row.Pvteicr = ap (λ (q : Place). q.row) same in cc))
    (λ off. refl)

physical_mailed : (r : Registers) → HasShape r → (v word : ℕ) → v < 64
    → mail_of (physical_writes r v word) v ≡ physical_wrote (mail_of r v) word
physical_mailed r h v word there =
    reported_still (with_mail r v (physical_wrote (mail_of r v) word)) v word
    ∙ put_stands r (place row.Pvfmailbox v) (physical_wrote (mail_of r v) word) h there

-- A bit of a mailbox after a write, by the side that writes.
module _ (s : State) (h : IsSound s) (v : ℕ) (there : v < 64) (n : ℕ) (low : (n == 6 || n == 7) ≡ false)
    (held : has_bit n (mail_of s.registers v) ≡ true) (p : Place) (view word : ℕ)
    (own : p ≡ place row.Pvfmailbox v → has_bit n (function_wrote (mail_of s.registers v) word) ≡ true)
    (sent : p ≡ place row.Pfmailbox v → has_bit n (physical_wrote (mail_of s.registers v) word) ≡ true) where
  abbrev Left : Place → Type 0
  Left q = has_bit n (mail_of (word_written s.registers q view word) v) ≡ true

  elsewhere_left : p.index ≢ v → Left p
  elsewhere_left apart = word_holds v n true s p view word (record {
    own = λ is. ap (λ b. b && n == 2) (apart_mail p.index v apart);
    physical = λ is. ap (λ b. b && (n == 2 || n == 3 || n == 4 || n == 5)) (apart_mail p.index v apart);
    extended = λ is. low;
  }) held

  left_by : Side (row_of p.row).kind → (p.index ≡ v) ⊎ (p.index ≢ v) → Left p
  left_by (function e) (inl same) =
      let here : p ≡ place row.Pvfmailbox v = mail_place p e ∙ ap (place row.Pvfmailbox) same in
      subst Left (sym here)
      (ap (has_bit n) (function_mailed s.registers h.registers.shape v word there) ∙ own here)
  left_by (physical e) (inl same) =
      let here : p ≡ place row.Pfmailbox v = physical_place p e ∙ ap (place row.Pfmailbox) same in
      subst Left (sym here)
      (ap (has_bit n) (physical_mailed s.registers h.registers.shape v word there) ∙ sent here)
  left_by (function e) (inr apart) = elsewhere_left apart
  left_by (physical e) (inr apart) = elsewhere_left apart
  left_by (neither one other) where_it_is = word_holds v n true s p view word (record {
    own = λ is. absurd (one is);
    physical = λ is. absurd (other is);
    extended = λ is. low;
  }) held

  pub left : Left p
  left = left_by (side_of (row_of p.row).kind) (cases_eq p.index v)

-- A reset of a pool doesn't affect who holds another function's mailbox, nor the physical function's hold of any
-- mailbox.
function_stays : (s : State) (v w : ℕ) → w ≢ v → has_bit 2 (mail_of (with_pool_reset s w).registers v)
    ≡ has_bit 2 (mail_of s.registers v)
function_stays s v w apart =
    (within-pool_reset s.registers (mode_in s.registers) w).bits (place row.Pvfmailbox v) 2
    (ne_eqb v w (λ same. apart (sym same)))

physical_stays : (s : State) (v w : ℕ) → has_bit 3 (mail_of (with_pool_reset s w).registers v)
    ≡ has_bit 3 (mail_of s.registers v)
physical_stays s v w =
    (renewed-pool s.registers (mode_in s.registers) w).alone.bits (place row.Pvfmailbox v) 3 refl

function_write : (s : State) → IsSound s → (v : ℕ) → v < 64 → has_bit 2 (mail_of s.registers v) ≡ true
    → (p : Place) (view word : ℕ) → p.index < (row_of p.row).count → SparesFunction v p word
    → has_bit 2 (mail_of (state_written s p view word).registers v) ≡ true
function_write s h v there held p view word inside spares =
    write_holds v 2 true s p view word inside spares.control
    (λ asks.
    let is = asks_pool p.row p.index word asks in
    let apart : p.index ≢ v = λ e. both_ways (has_bit 26 word) (spares.pool (is.0 ∙ ap (place row.Pvfctrl) e)) is.1 in
    function_stays s v p.index apart ∙ held)
    (left s h v there 2 refl held p view word
    (λ here. function_holds (mail_of s.registers v) word (spares.own here) held)
    (λ here. function_left (mail_of s.registers v) word (spares.physical here) held))

physical_write : (s : State) → IsSound s → (v : ℕ) → v < 64 → has_bit 3 (mail_of s.registers v) ≡ true
    → (p : Place) (view word : ℕ) → p.index < (row_of p.row).count → SparesPhysical v p word
    → has_bit 3 (mail_of (state_written s p view word).registers v) ≡ true
physical_write s h v there held p view word inside spares =
    write_holds v 3 true s p view word inside spares.control (λ asks. physical_stays s v p.index ∙ held)
    (left s h v there 3 refl held p view word
    (λ here. function_keeps (mail_of s.registers v) word 3 refl ∙ held)
    (λ here. physical_holds (mail_of s.registers v) word (spares.physical here) held))

function_named : (s : State) → IsSound s → (v : ℕ) → v < 64 → has_bit 2 (mail_of s.registers v) ≡ true
    → (port : Port) (number word : ℕ) (m : Named) → named s port number ≡ m
    → ((p : Place) (view : ℕ) → m ≡ Register p view → SparesFunction v p word)
    → has_bit 2 (mail_of (named_written s m word).state.registers v) ≡ true
function_named s h v there held port number word (Nothing seen) is spares = held
function_named s h v there held port number word (Register p view) is spares =
    function_write s h v there held p view word (in_range s port number p view is) (spares p view refl)

physical_named : (s : State) → IsSound s → (v : ℕ) → v < 64 → has_bit 3 (mail_of s.registers v) ≡ true
    → (port : Port) (number word : ℕ) (m : Named) → named s port number ≡ m
    → ((p : Place) (view : ℕ) → m ≡ Register p view → SparesPhysical v p word)
    → has_bit 3 (mail_of (named_written s m word).state.registers v) ≡ true
physical_named s h v there held port number word (Nothing seen) is spares = held
physical_named s h v there held port number word (Register p view) is spares =
    physical_write s h v there held p view word (in_range s port number p view is) (spares p view refl)

function_event : (s : State) → IsSound s → (v : ℕ) → v < 64 → has_bit 2 (mail_of s.registers v) ≡ true
    → (e : Event Block) → Made e → IsSparing (SparesFunction v) s e
    → has_bit 2 (mail_of (after s e).registers v) ≡ true
unfolding step_of
function_event s h v there held e (writing port number word) spares =
    function_named s h v there held port number word (named s port number) refl spares
function_event s h v there held e (reading port number) spares = read_holds v 2 true s port number
    (λ p view is e. and-false _) held
function_event s h v there held e (silent other no_read quiet) spares = still_holds v 2 true s other no_read quiet held

physical_event : (s : State) → IsSound s → (v : ℕ) → v < 64 → has_bit 3 (mail_of s.registers v) ≡ true
    → (e : Event Block) → Made e → IsSparing (SparesPhysical v) s e
    → has_bit 3 (mail_of (after s e).registers v) ≡ true
unfolding step_of
physical_event s h v there held e (writing port number word) spares =
    physical_named s h v there held port number word (named s port number) refl spares
physical_event s h v there held e (reading port number) spares = read_holds v 3 true s port number
    (λ p view is e. and-false _) held
physical_event s h v there held e (silent other no_read quiet) spares = still_holds v 3 true s other no_read quiet held

pub function_holds_on : FunctionHoldsOn
function_holds_on s h v there e spares reads =
    own (after s e) v there 2 (lit< tt)
    ∙ function_event s h v there (sym (own s v there 2 (lit< tt)) ∙ reads) e (made e) spares

pub physical_holds_on : PhysicalHoldsOn
physical_holds_on s h v there e spares reads =
    own (after s e) v there 3 (lit< tt)
    ∙ physical_event s h v there (sym (own s v there 3 (lit< tt)) ∙ reads) e (made e) spares
