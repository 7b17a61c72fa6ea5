-- Each counter's word after a step, given what the step counts.
use Rattle.std.proofs.Common.{cond, ◌≡◌, ◌≢◌, ◌<◌, ◌^◌, ◌*◌, ◌/◌, ◌%◌, ℕ, Bool, true, false, ap, sym, ◌∙◌, inl, inr, arith, refl}
use Rattle.std.specs.Prelude.{◌&&◌}
use Rattle.nic_device.specs.RegTable.declared.kind.Kind.TheVariants as kind
use Rattle.nic_device.specs.RegTable.declared.rows.RowId.TheVariants.{Mpc, Qprc, Rdh, Tdh, Rxdctl, Txdctl, Rqsmr, Tqsm, Vfgprc}
use Rattle.nic_device.specs.IntrUnit.declared.group.Group.TheVariants as group
use Rattle.nic_device.specs.RegisterFile.Words.{word_at, put}
use Rattle.nic_device.proofs.RegisterLaws.Accessed.{none_pending}
use Rattle.nic_device.proofs.RegisterLaws.Owners.{apart, is_place-itself, is_place-other, is_place-same}
use Rattle.nic_device.proofs.RegisterLaws.Puts.{word_at-put_other}
use Rattle.device_laws.specs.Prelude.{Dir, Filled, Group, HasShape, LacksWord, Place, Rc, Registers, RowId, Rx, Tx}
use Rattle.device_laws.specs.Prelude.{bumped, causes_raised, counted, counter_of, frame_counted, is_pending, is_place}
use Rattle.device_laws.specs.Prelude.{pending, piece_done, place, row_of, shut, with_head, with_word, word_of}
use Rattle.device_laws.proofs.Prelude.{HasShape-put, cases_Bool, put_stands, within-causes_raised, word_stands}
use Rattle.device_laws.specs.Counting.{with_one}
use Rattle.device_laws.proofs.FunctionCounts.{function_keeps}
use Rattle.nic_device.specs.Interrupt.{function_of_queue, device_raised, raised_by, fault_cause, missed_cause}

-- A counter isn't at a place of another kind.
pub elsewhere : (q p : Place) → (row_of q.row).kind ≢ Rc → (row_of p.row).kind ≡ Rc → is_place q p ≡ false
elsewhere q p n is = is_place-other q p (λ e. n (ap (λ (r : Place). (row_of r.row).kind) (sym e) ∙ is))

pub not_pending : (g : Group) (p : Place) → (row_of p.row).kind ≡ Rc → LacksWord (pending g) p
not_pending g p is = none_pending p (ap is_pending is) g

-- A word changed at one place.
pub changed_there : (f : ℕ → ℕ) (r : Registers) (row : RowId) (index : ℕ) → HasShape r → index < (row_of row).count
    → (p : Place) → word_at (with_word r row index (f (word_of r row index))).words p
    ≡ cond (is_place (place row index) p) (f (word_at r.words p)) (word_at r.words p)
changed_there f r row index h b p =
    let there = place row index in
    let new = f (word_of r row index) in
    let w = word_at r.words p in
    elim (cases_Bool (is_place there p)) as (λ _. word_at (with_word r row index new).words p
    ≡ cond (is_place there p) (f w) w) [
      | inl same ↦
          let at = is_place-same there p same in
          ap (word_at (with_word r row index new).words) (sym at) ∙ put_stands r there new h b
          ∙ ap (λ q. f (word_at r.words q)) at ∙ sym (ap (λ c. cond c (f w) w) same)
      | inr other ↦
          word_at-put_other r.words there p new (apart (is_place there) there p (is_place-itself there) other)
          ∙ sym (ap (λ c. cond c (f w) w) other)
    ]

-- The counter at a place is incremented.
pub counted_there : (r : Registers) (row : RowId) (index : ℕ) → HasShape r → index < (row_of row).count
    → (p : Place) → word_at (counted r row index).words p ≡ with_one (is_place (place row index) p) (word_at r.words p)
counted_there r row index h b p = changed_there bumped r row index h b p

-- Raised causes and words of other kinds count nothing.
pub raised_keeps : (r : Registers) (g : Group) (bits : ℕ) (p : Place) → (row_of p.row).kind ≡ Rc
    → word_at (causes_raised r g bits).words p ≡ word_at r.words p
raised_keeps r g bits p is = word_stands (within-causes_raised r g bits) p (not_pending g p is)

pub put_keeps : (r : Registers) (q : Place) (word : ℕ) (p : Place) → (row_of q.row).kind ≢ Rc → (row_of p.row).kind ≡ Rc
    → word_at (put r.words q word) p ≡ word_at r.words p
put_keeps r q word p n is =
    word_at-put_other r.words q p word (λ e. n (ap (λ (r : Place). (row_of r.row).kind) (sym e) ∙ is))

pub head_keeps : (r : Registers) (dir : Dir) (queue head : ℕ) (p : Place) → (row_of p.row).kind ≡ Rc
    → word_at (with_head r dir queue head).words p ≡ word_at r.words p
head_keeps r Rx queue head p is = put_keeps r (place Rdh queue) head p (λ (e : kind.Held ≡ Rc). cc) is
head_keeps r Tx queue head p is = put_keeps r (place Tdh queue) head p (λ (e : kind.Held ≡ Rc). cc) is

off_keeps : (r : Registers) (dir : Dir) (queue : ℕ) (p : Place) → (row_of p.row).kind ≡ Rc
    → word_at (shut r dir queue).words p ≡ word_at r.words p
off_keeps r Rx queue p is = put_keeps r (place Rxdctl queue) _ p (λ (e : kind.Enable ≡ Rc). cc) is
off_keeps r Tx queue p is = put_keeps r (place Txdctl queue) _ p (λ (e : kind.Enable ≡ Rc). cc) is

-- A fault counts nothing.
pub failed_keeps : (r : Registers) (dir : Dir) (queue : ℕ) (p : Place) → (row_of p.row).kind ≡ Rc
    → word_at (device_raised (shut r dir queue) fault_cause).words p ≡ word_at r.words p
failed_keeps r dir queue p is = raised_keeps (shut r dir queue) group.Pf fault_cause p is ∙ off_keeps r dir queue p is

-- A missed frame.
pub missed_counts : (r : Registers) → HasShape r → (p : Place) → (row_of p.row).kind ≡ Rc
    → word_at (device_raised (counted r Mpc 0) missed_cause).words p
    ≡ with_one (is_place (place Mpc 0) p) (word_at r.words p)
missed_counts r h p is =
    raised_keeps (counted r Mpc 0) group.Pf missed_cause p is ∙ counted_there r Mpc 0 h (omega arith) p

-- Moving a head doesn't change which counters the queues use.
same_counter : (r : Registers) (dir : Dir) (queue head : ℕ)
    → counter_of (with_head r dir queue head) dir queue ≡ counter_of r dir queue
same_counter r Rx queue head =
    ap (λ w. w / 2 ^ (8 * (queue % 4)) % 16)
    (word_at-put_other r.words (place Rdh queue) (place Rqsmr (queue / 4)) head
    (λ e. let same : Rqsmr ≡ Rdh = ap (λ (p : Place). p.row) e in cc))
same_counter r Tx queue head =
    ap (λ w. w / 2 ^ (8 * (queue % 4)) % 16)
    (word_at-put_other r.words (place Tdh queue) (place Tqsm (queue / 4)) head
    (λ e. let same : Tqsm ≡ Tdh = ap (λ (p : Place). p.row) e in cc))

-- The counters after a piece of a frame, whether or not the frame ends.
pub either_end : (b : Bool) (P : Bool → Registers → Type 0) (x y : Registers) → P true x → P false y → P b (cond b x y)
either_end true P x y p q = p
either_end false P x y p q = q

-- A piece of a frame.
pub piece_counts : (r : Registers) (vfs queue : ℕ) (f : Filled) → HasShape r → (p : Place) → (row_of p.row).kind ≡ Rc
    → word_at (piece_done r vfs queue f).words p
    ≡ with_one (f.end && is_place (place Qprc (counter_of r Rx queue)) p) (word_at r.words p)
unfolding raised_by
piece_counts r vfs queue f h p is =
    let moved = with_head r Rx queue f.head in
    let there = place Qprc (counter_of r Rx queue) in
    let old = word_at r.words p in
    either_end f.end (λ b t. word_at t.words p ≡ with_one (b && is_place there p) old)
    (raised_by (frame_counted moved vfs queue) vfs Rx queue) moved
    (raised_keeps (frame_counted moved vfs queue) _ _ p is
    ∙ function_keeps (counted moved Qprc (counter_of moved Rx queue)) (function_of_queue moved vfs queue) Vfgprc refl p
    is
    ∙ counted_there moved Qprc (counter_of moved Rx queue) (HasShape-put r (place Rdh queue) f.head h) (omega arith) p
    ∙ (λ k. with_one (is_place (place Qprc (same_counter r Rx queue f.head k)) p)
    (head_keeps r Rx queue f.head p is k)))
    (head_keeps r Rx queue f.head p is)
