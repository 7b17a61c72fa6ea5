-- Which causes the end of a frame and a report raise.
use Rattle.std.proofs.Common.{◌≡◌, ◌≢◌, ℕ, Bool, true, false, ◌||◌, cond, Some, refl, ap, sym, ◌∙◌, arith}
use Rattle.nic_device.specs.IntrUnit.Group.{last_queue_cause, queue_causes}
use Rattle.nic_device.specs.declared.event.Event.TheVariants as event
use Rattle.device_laws.specs.Raising.{Causes, IsOfTheDevice, queue_cause, raises, after_causes}
use Rattle.datasheet_laws.specs.Prelude.{Block, Dir, Event, Group, IsSound, Pf, State, Vf, after, contains}
use Rattle.datasheet_laws.specs.Prelude.{group_of_queue, interrupts_of, is_group, raised, reply_to, vector_entry}
use Rattle.datasheet_laws.proofs.Prelude.{events_raise, false_from_ne_true, is_group-itself, is_group-same}
use Rattle.datasheet_laws.specs.Accesses.{cause_set}
use Rattle.datasheet_laws.specs.Names.{IsGroup}
use Rattle.datasheet_laws.specs.Queues.{RaisesFor, ended, sent, advanced, names_cause, raised_bit, pf_byte, vf_byte}
use Rattle.datasheet_laws.specs.Queues.{IvarNamesCauses, PvtivarNamesCauses}
use Rattle.datasheet_laws.specs.Shown.{Bit, bit_of, ShowsThen}
use Rattle.datasheet_laws.proofs.Bytes.{named, pf_entry, vf_entry}
use Rattle.datasheet_laws.proofs.Causes.{set_bit}
use Rattle.datasheet_laws.proofs.Groups.{bit_in, bit_of-in, bit_left, bit_stands}
use Rattle.datasheet_laws.proofs.Pools.{group_pf, group_vf}
use Rattle.datasheet_laws.proofs.Words.{small}

of_the_device : (s : State) (e : Event Block) (dir : Dir) (queue : ℕ) → RaisesFor s e dir queue → IsOfTheDevice e
of_the_device s e dir queue (ended q slot desc at len is) = tt
of_the_device s e dir queue (sent q len back is) = tt
of_the_device s e dir queue (advanced q slot back is) = tt

raises_own : (s : State) (e : Event Block) (dir : Dir) (queue : ℕ) → RaisesFor s e dir queue
    → raises s e (reply_to s e) ≡ Some (queue_cause s dir queue)
raises_own s e dir queue (ended q slot desc at len is) = ap (raises s event.RxStep) is
raises_own s e dir queue (sent q len back is) = ap (raises s (event.TxStep q)) is
raises_own s e dir queue (advanced q slot back is) = ap (raises s (event.TxStep q)) is

-- Which causes are raised in a group.
abbrev caused : State → Dir → ℕ → Group → Causes
caused s dir queue g = record { group = g; bits = queue_causes g (vector_entry s.registers g dir queue) }

module _ (s : State) (h : IsSound s) (e : Event Block) (dir : Dir) (queue : ℕ) (does : RaisesFor s e dir queue)
    (own : Group) (is_own : group_of_queue s.registers s.vfs queue ≡ own) where
  after_own : (g : Group) → interrupts_of (after s e).registers g
      ≡ after_causes (Some (caused s dir queue own)) g (interrupts_of s.registers g)
  after_own g =
      events_raise s h e (of_the_device s e dir queue does) g
      ∙ ap (λ o. after_causes o g (interrupts_of s.registers g)) (raises_own s e dir queue does)
      ∙ ap (λ o. after_causes (Some (caused s dir queue o)) g (interrupts_of s.registers g)) is_own

  raised_own : interrupts_of (after s e).registers own
      ≡ raised (interrupts_of s.registers own) (caused s dir queue own).bits false
  raised_own =
      after_own own
      ∙ ap (λ b. cond b (raised (interrupts_of s.registers own) (caused s dir queue own).bits false)
      (interrupts_of s.registers own)) (is_group-itself own)

  others_stand : (g : Group) → g ≢ own → interrupts_of (after s e).registers g ≡ interrupts_of s.registers g
  others_stand g apart =
      after_own g
      ∙ ap (λ b. cond b (raised (interrupts_of s.registers g) (caused s dir queue own).bits false)
      (interrupts_of s.registers g))
      (false_from_ne_true (is_group own g) (λ t. apart (sym (is_group-same own g t))))

or_false : (x : Bool) → (x || false) ≡ x
or_false true = refl
or_false false = refl

pub only_cause : (one : Bool) (x : Bit) → cause_set false one x ≡ raised_bit one x
only_cause one x = λ k. record {
  cause = x.cause || one;
  mask = or_false x.mask k;
  auto_clear = x.auto_clear;
  auto_mask = x.auto_mask;
}

shows : (s : State) → IsSound s → (e : Event Block) (dir : Dir) (queue : ℕ) → RaisesFor s e dir queue
    → (own : Group) → IsGroup own → group_of_queue s.registers s.vfs queue ≡ own
    → (last byte : ℕ) → last_queue_cause own ≡ last → vector_entry s.registers own dir queue ≡ byte
    → ShowsThen s (after s e) own (λ bit. raised_bit (names_cause last byte bit) (bit_of s own bit))
shows s h e dir queue does own there is last byte ends entry = record {
  own = λ bit b.
      let i = interrupts_of s.registers own in
      let bits = (caused s dir queue own).bits in
      bit_left (after s e) own (raised i bits false) there (raised_own s h e dir queue does own is) bit b
      ∙ set_bit i bits false bit b ∙ only_cause (contains bits bit) (bit_in i bit)
      ∙ ap (λ one. raised_bit one (bit_in i bit)) (named own (vector_entry s.registers own dir queue) bit
      (small own bit b))
      ∙ (λ k. raised_bit (names_cause (ends k) (entry k) bit) (sym (bit_of-in s own there bit b) k));
  others = λ other small_other apart bit b.
      bit_stands s (after s e) other small_other (others_stand s h e dir queue does own is other apart) bit b;
}

pub ivar_names : IvarNamesCauses
ivar_names s h e dir queue does of =
    shows s h e dir queue does Pf tt (group_pf s h queue of) 15 (pf_byte s dir queue) refl
    (sym (pf_entry s h dir queue of.small))

pub pvtivar_names : PvtivarNamesCauses
pvtivar_names s h e dir queue does v x q =
    let few = h.vfs in
    let function = q.function in
    shows s h e dir queue does (Vf v) (omega arith) (group_vf s h v x queue q) 2 (vf_byte s dir v x) refl
    (sym (vf_entry s h dir v x queue q))
