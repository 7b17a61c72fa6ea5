-- The causes that a fetched slot raises.
use Rattle.std.proofs.Common.{cond, ◌≡◌, ◌∙◌, ℕ, Bool, true, false, List, refl, ap, sym, subst, inl, inr, Option, Some, None, Result, Ok, Err}
use Rattle.std.specs.Prelude.{⊤, is_some}
use Rattle.nic_device.specs.TxRing.Fetch as tx
use Rattle.device_laws.specs.Prelude.{Fetched, Gptc, Group, HasShape, IsSound, Qptc, Registers, RingFault, State, Tx}
use Rattle.device_laws.specs.Prelude.{Vfgptc, counted, counter_of, fetched_reply, function_of_queue, head_row}
use Rattle.device_laws.specs.Prelude.{interrupts_of, place, raised_by, slot_counted, slot_reported, with_head}
use Rattle.device_laws.proofs.Prelude.{HasShape-put, fetched_by, takes_slot}
use Rattle.device_laws.specs.Raising.{raised_reported, raised_sent, after_causes, queue_cause}
use Rattle.device_laws.proofs.Caused.{queue_raises}
use Rattle.nic_device.proofs.Raising.{slot_counted-comes}
use Rattle.device_laws.proofs.CausesKept.{word_kept, head_kept, function_kept, function_shape}

-- A slot that requests a report has one written back.
Reports : Result Fetched RingFault → Type 0
Reports (Ok f) = f.rs ≡ is_some f.back
Reports (Err fault) = ⊤

some_where : (b : Bool) (address : ℕ) → b ≡ is_some (cond b (Some address) None)
some_where true address = refl
some_where false address = refl

reports : (s : State) (queue : ℕ) (f : Fetched) → (fetched_by s queue).answer ≡ Ok f → f.rs ≡ is_some f.back
unfolding Reports
reports s queue f is =
    elim (takes_slot _ _ _ _ f is).done as (λ _. Reports (Ok f)) [
      | inl context ↦ subst Reports (sym (ap (λ (o : tx.Outcome). o.answer) context.1) ∙ is) refl
      | inr sends ↦ subst Reports (sym (ap (λ (o : tx.Outcome). o.answer) sends.2) ∙ is) (some_where _ _)
    ]

slot_kept : (r : Registers) (vfs queue : ℕ) (f : Fetched) (o : Option (List ℕ)) (g : Group)
    → interrupts_of (slot_counted r vfs queue f o) g ≡ interrupts_of r g
slot_kept r vfs queue f (Some frame) g =
    let moved = with_head r Tx queue f.head in
    function_kept (counted (counted moved Gptc 0) Qptc (counter_of r Tx queue)) (function_of_queue r vfs queue) Vfgptc
    refl g
    ∙ word_kept (counted moved Gptc 0) (place Qptc (counter_of r Tx queue)) _ g refl
    ∙ word_kept moved (place Gptc 0) _ g refl ∙ head_kept r Tx queue f.head g
slot_kept r vfs queue f None g = head_kept r Tx queue f.head g

slot_shape : (r : Registers) (vfs queue : ℕ) (f : Fetched) (o : Option (List ℕ)) → HasShape r
    → HasShape (slot_counted r vfs queue f o)
slot_shape r vfs queue f (Some frame) h =
    let moved = with_head r Tx queue f.head in
    function_shape (counted (counted moved Gptc 0) Qptc (counter_of r Tx queue)) (function_of_queue r vfs queue) Vfgptc
    (HasShape-put (counted moved Gptc 0) (place Qptc (counter_of r Tx queue)) _
    (HasShape-put moved (place Gptc 0) _ (HasShape-put r (place (head_row Tx) queue) f.head h)))
slot_shape r vfs queue f None h = HasShape-put r (place (head_row Tx) queue) f.head h

reported : (s : State) (queue : ℕ) (f : Fetched) (o : Option (List ℕ))
    → raised_reported s queue f.back ≡ raised_sent s (fetched_reply queue f o)
reported s queue f (Some frame) = refl
reported s queue f None = refl

by_report : (s : State) (t : Registers) (queue : ℕ) (b : Bool) (o : Option ℕ) (g : Group) → b ≡ is_some o
    → interrupts_of (raised_by t s.vfs Tx queue) g
    ≡ after_causes (Some (queue_cause s Tx queue)) g (interrupts_of s.registers g)
    → interrupts_of t g ≡ interrupts_of s.registers g
    → interrupts_of (cond b (raised_by t s.vfs Tx queue) t) g
    ≡ after_causes (raised_reported s queue o) g (interrupts_of s.registers g)
by_report s t queue true (Some back) g e p q = p
by_report s t queue true None g e p q = cc
by_report s t queue false (Some back) g e p q = cc
by_report s t queue false None g e p q = q

pub slot_raises : (s : State) (queue : ℕ) (f : Fetched) → (fetched_by s queue).answer ≡ Ok f → IsSound s → (g : Group)
    → interrupts_of (slot_reported s.registers s.vfs queue f) g
    ≡ after_causes (raised_sent s (fetched_reply queue f f.frame)) g (interrupts_of s.registers g)
slot_raises s queue f is h g =
    let t = slot_counted s.registers s.vfs queue f f.frame in
    let same = slot_kept s.registers s.vfs queue f f.frame g in
    by_report s t queue f.rs f.back g (reports s queue f is)
    (queue_raises s t Tx queue (slot_shape s.registers s.vfs queue f f.frame h.registers.shape) h.vfs
    (slot_counted-comes s.registers s.vfs queue f f.frame).within g same) same
    ∙ ap (λ o. after_causes o g (interrupts_of s.registers g)) (reported s queue f f.frame)
