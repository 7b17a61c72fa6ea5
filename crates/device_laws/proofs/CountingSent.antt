-- What a fetched slot counts.
use Rattle.std.proofs.Common.{cond, ◌≡◌, ℕ, Bool, true, false, List, refl, ap, sym, ◌∙◌, arith, Option, Some, None}
use Rattle.std.specs.Prelude.{◌||◌}
use Rattle.device_laws.specs.Prelude.{Fetched, Gptc, HasShape, Place, Qptc, Rc, Registers, Tdh, Tx, Vfgptc, bumped}
use Rattle.device_laws.specs.Prelude.{counted, counter_of, fetched_reply, function_of_queue, is_place, place, raised_by}
use Rattle.device_laws.specs.Prelude.{row_of, slot_counted, slot_reported, with_head, word_at, word_of}
use Rattle.device_laws.proofs.Prelude.{HasShape-put, is_place-same}
use Rattle.device_laws.specs.Counting.{with_one, counts_sent}
use Rattle.device_laws.proofs.FunctionCounts.{function_keeps}
use Rattle.device_laws.proofs.Counting.{counted_there, raised_keeps, head_keeps}

-- A fetched slot.
twice : (b c : Bool) (w : ℕ) → (b ≡ true → c ≡ false) → with_one c (with_one b w) ≡ with_one (b || c) w
twice true c w n = ap (λ d. with_one d (bumped w)) (n refl)
twice false c w n = refl

apart_counters : (index : ℕ) (p : Place) → is_place (place Gptc 0) p ≡ true → is_place (place Qptc index) p ≡ false
apart_counters index p same = ap (is_place (place Qptc index)) (sym (is_place-same (place Gptc 0) p same))

counts_of : Registers → ℕ → Option (List ℕ) → Place → Bool
counts_of r queue (Some frame) p = is_place (place Gptc 0) p || is_place (place Qptc (counter_of r Tx queue)) p
counts_of r queue None p = false

slot_counts : (r : Registers) (vfs queue : ℕ) (f : Fetched) (o : Option (List ℕ)) → HasShape r → (p : Place)
    → (row_of p.row).kind ≡ Rc
    → word_at (slot_counted r vfs queue f o).words p ≡ with_one (counts_of r queue o p) (word_at r.words p)
unfolding counts_of
slot_counts r vfs queue f (Some frame) h p is =
    let moved = with_head r Tx queue f.head in
    let shape : HasShape moved = HasShape-put r (place Tdh queue) f.head h in
    let one : HasShape (counted moved Gptc 0) =
    HasShape-put moved (place Gptc 0) (bumped (word_of moved Gptc 0)) shape in
    function_keeps (counted (counted moved Gptc 0) Qptc (counter_of r Tx queue)) (function_of_queue r vfs queue) Vfgptc
    refl p is
    ∙ counted_there (counted moved Gptc 0) Qptc (counter_of r Tx queue) one (omega arith) p
    ∙ ap (with_one (is_place (place Qptc (counter_of r Tx queue)) p))
    (counted_there moved Gptc 0 shape (omega arith) p
    ∙ ap (with_one (is_place (place Gptc 0) p)) (head_keeps r Tx queue f.head p is))
    ∙ twice _ _ (word_at r.words p) (apart_counters (counter_of r Tx queue) p)
slot_counts r vfs queue f None h p is = head_keeps r Tx queue f.head p is

reported_keeps : (r : Registers) (vfs queue : ℕ) (b : Bool) (p : Place) → (row_of p.row).kind ≡ Rc
    → word_at (cond b (raised_by r vfs Tx queue) r).words p ≡ word_at r.words p
unfolding raised_by
reported_keeps r vfs queue true p is = raised_keeps r _ _ p is
reported_keeps r vfs queue false p is = refl

reports_counts : (r : Registers) (queue : ℕ) (f : Fetched) (o : Option (List ℕ)) (p : Place)
    → counts_of r queue o p ≡ counts_sent r (fetched_reply queue f o) p
unfolding counts_of
reports_counts r queue f (Some frame) p = refl
reports_counts r queue f None p = refl

pub reported_counts : (r : Registers) (vfs queue : ℕ) (f : Fetched) → HasShape r → (p : Place)
    → (row_of p.row).kind ≡ Rc
    → word_at (slot_reported r vfs queue f).words p
    ≡ with_one (counts_sent r (fetched_reply queue f f.frame) p) (word_at r.words p)
reported_counts r vfs queue f h p is =
    reported_keeps (slot_counted r vfs queue f f.frame) vfs queue f.rs p is
    ∙ slot_counts r vfs queue f f.frame h p is
    ∙ ap (λ b. with_one b (word_at r.words p)) (reports_counts r queue f f.frame p)
