-- What queue steps do to the registers: a side changes, frames are counted and causes raised.
use Rattle.std.proofs.Common.{◌≡◌, ◌<◌, ◌^◌, ℕ, List, Option, Some, None, refl}
use Rattle.std.specs.Prelude.{⊤}
use Rattle.register_file.specs.IntrUnit.declared.group.Group.TheVariants.{Pf}
use Rattle.register_file.specs.RegTable.declared.rows.RowId.{RowId}
use Rattle.register_file.specs.RegTable.declared.rows.RowId.TheVariants.{Mpc, Gptc, Qprc, Qprdc, Qptc, Vfgprc, Vfgptc}
use Rattle.rx_ring.specs.declared.filled.Filled.{Filled}
use Rattle.tx_ring.specs.declared.fetched.Fetched.{Fetched}
use Rattle.register_file.specs.Columns.{place}
use Rattle.register_file.specs.Counters.{counted, counter_of}
use Rattle.register_file.specs.Queue.{enable_row, head_row, is_on, with_head, shut}
use Rattle.register_file.specs.Registers.{Registers}
use Rattle.rx_ring.specs.DmaRing.declared.dir.Dir.{Dir}
use Rattle.rx_ring.specs.DmaRing.declared.dir.Dir.TheVariants.{Rx, Tx}
use Rattle.register_laws.specs.Footprint.{Footprint, LacksWord, Covers, either, counters, any_pending, pending, the_word, of_side}
use Rattle.register_laws.proofs.Covers.{covers-trans}
use Rattle.register_laws.proofs.Footprints.{within-refl, covers-the_word}
use Rattle.register_laws.proofs.Sound.{sound-causes_raised, sound-with_head, sound-shut}
use Rattle.register_laws.proofs.Within.{within-causes_raised, within-with_head, within-shut}
use Rattle.nic_device.specs.Footprint.{counts_and_causes, function_counts}
use Rattle.nic_device.proofs.Functions.{function_counted_in}
use Rattle.nic_device.specs.Interrupt.{function_of_queue, device_raised, side_failed, raised_by, missed_cause, fault_cause}
use Rattle.nic_device.specs.Receive.{frame_counted, slotless_counted, piece_done}
use Rattle.nic_device.specs.Transmit.{slot_counted, slot_reported}
use Rattle.nic_device.proofs.Cases.{either_way}
use Rattle.nic_device.proofs.SidesOn.{KeepsSides, of_move, on_stays, sides_kept, spares-counts, spares-move}
use Rattle.nic_device.proofs.Coming.{covers-first, covers-second, Comes, IsCounter, then_within, raised, counted_in, raised_by_queue}

-- What a step that serves a side may change: the side, counters and causes.
abbrev pub of_step : Dir → ℕ → Footprint
of_step dir queue = either (of_side dir queue) counts_and_causes

covers-side : (dir : Dir) (queue : ℕ) → Covers (of_step dir queue) (of_side dir queue)
covers-side dir queue = covers-first (of_side dir queue) counts_and_causes

-- `counts_and_causes` covers the counters, the functions' counters, and pending causes.
pub have_counters : Covers counts_and_causes counters
have_counters =
    covers-trans _ _ _ (covers-first (either counters function_counts) any_pending)
    (covers-first counters function_counts)

pub have_functions : Covers counts_and_causes function_counts
have_functions =
    covers-trans _ _ _ (covers-first (either counters function_counts) any_pending)
    (covers-second counters function_counts)

pub have_causes : Covers counts_and_causes any_pending
have_causes = covers-second (either counters function_counts) any_pending

pub covers-counts : (dir : Dir) (queue : ℕ) {f : Footprint} → Covers counts_and_causes f → Covers (of_step dir queue) f
covers-counts dir queue has = covers-trans _ _ _ (covers-second (of_side dir queue) counts_and_causes) has

pub comes-itself : {good : Type 0} (f : Footprint) (r : Registers) → Comes good f r r
comes-itself f r = record { sound = λ is h. h; within = within-refl f r }

-- The head moves, and a fault disables the side.

covers-head : (dir : Dir) (queue : ℕ) → Covers (of_side dir queue) (the_word (place (head_row dir) queue))
covers-head Rx queue = covers-the_word (place (head_row Rx) queue)
covers-head Tx queue = covers-the_word (place (head_row Tx) queue)

-- A footprint with the head, counters and causes.
record HasMove (f : Footprint) (dir : Dir) (queue : ℕ) : Type 0 where
  head : Covers f (the_word (place (head_row dir) queue))
  counts : Covers f counts_and_causes

step_has : (dir : Dir) (queue : ℕ) → HasMove (of_step dir queue) dir queue
step_has dir queue = record {
  head = covers-trans (of_step dir queue) (of_side dir queue) (the_word (place (head_row dir) queue))
      (covers-side dir queue) (covers-head dir queue);
  counts = covers-second (of_side dir queue) counts_and_causes;
}

move_has : (dir : Dir) (queue : ℕ) → HasMove (of_move dir queue) dir queue
move_has dir queue = record {
  head = covers-first (the_word (place (head_row dir) queue)) counts_and_causes;
  counts = covers-second (the_word (place (head_row dir) queue)) counts_and_causes;
}

head_in : {good : Type 0} (f : Footprint) (r : Registers) (dir : Dir) (queue head : ℕ) → HasMove f dir queue
    → (good → head < 2 ^ 16) → Comes good f r (with_head r dir queue head)
head_in f r dir queue head has small =
    then_within f (the_word (place (head_row dir) queue)) r r (with_head r dir queue head) (comes-itself f r) has.head
    (within-with_head r dir queue head) (λ is h. sound-with_head r dir queue head h (small is))

pub head_moved : {good : Type 0} (r : Registers) (dir : Dir) (queue head : ℕ) → (good → head < 2 ^ 16)
    → Comes good (of_step dir queue) r (with_head r dir queue head)
head_moved r dir queue head small = head_in (of_step dir queue) r dir queue head (step_has dir queue) small

pub side_failed-comes : (r : Registers) (dir : Dir) (queue : ℕ)
    → Comes ⊤ (of_step dir queue) r (side_failed r dir queue)
side_failed-comes r dir queue =
    raised (of_step dir queue) r (shut r dir queue) Pf fault_cause (covers-counts dir queue have_causes)
    (then_within (of_step dir queue) (of_side dir queue) r r (shut r dir queue) (comes-itself (of_step dir queue) r)
    (covers-side dir queue) (within-shut r dir queue) (λ is h. sound-shut r dir queue h))

-- A fault changes no other side.
pub sides-failed : (r : Registers) (dir side : Dir) (queue other : ℕ)
    → LacksWord (of_step dir queue) (place (enable_row side) other)
    → is_on (side_failed r dir queue) side other ≡ is_on r side other
sides-failed r dir side queue other apart =
    on_stays (of_step dir queue) r (side_failed r dir queue) side other apart (side_failed-comes r dir queue).within

-- A frame without a slot, and a piece of a frame.

pub slotless-comes : (r : Registers) (queue : ℕ) → Comes ⊤ (of_step Rx queue) r (slotless_counted r queue)
slotless-comes r queue =
    counted_in (of_step Rx queue) r r Qprdc (counter_of r Rx queue) (covers-counts Rx queue have_counters)
    (record { bank = refl; kind = refl }) (comes-itself (of_step Rx queue) r)

pub sides-slotless : (r : Registers) (queue : ℕ) → KeepsSides r (slotless_counted r queue)
sides-slotless r queue =
    sides_kept counts_and_causes r (slotless_counted r queue) spares-counts
    (counted_in {good = ⊤} counts_and_causes r r Qprdc (counter_of r Rx queue) have_counters
    (record { bank = refl; kind = refl }) (comes-itself counts_and_causes r)).within

piece_in : (e : Footprint) (r : Registers) (vfs queue : ℕ) (f : Filled) → HasMove e Rx queue
    → Comes (f.head < 2 ^ 16) e r (piece_done r vfs queue f)
piece_in e r vfs queue f has =
    let moved = with_head r Rx queue f.head in
    let ended = frame_counted moved vfs queue in
    let head = head_in e r Rx queue f.head has (λ (is : f.head < 2 ^ 16). is) in
    either_way (Comes (f.head < 2 ^ 16) e r) f.end (raised_by ended vfs Rx queue) moved
    (raised_by_queue e r ended vfs Rx queue (covers-trans _ _ _ has.counts have_causes)
    (function_counted_in e r _ (function_of_queue moved vfs queue) Vfgprc
    (covers-trans _ _ _ has.counts have_functions) (record { bank = refl; kind = refl })
    (counted_in e r moved Qprc (counter_of moved Rx queue) (covers-trans _ _ _ has.counts have_counters)
    (record { bank = refl; kind = refl }) head)))
    head

pub piece-comes : (r : Registers) (vfs queue : ℕ) (f : Filled)
    → Comes (f.head < 2 ^ 16) (of_step Rx queue) r (piece_done r vfs queue f)
piece-comes r vfs queue f = piece_in (of_step Rx queue) r vfs queue f (step_has Rx queue)

pub sides-piece : (r : Registers) (vfs queue : ℕ) (f : Filled) → KeepsSides r (piece_done r vfs queue f)
sides-piece r vfs queue f =
    sides_kept (of_move Rx queue) r (piece_done r vfs queue f) (spares-move Rx queue)
    (piece_in (of_move Rx queue) r vfs queue f (move_has Rx queue)).within

-- A fetched slot.

slot_counted_in : (e : Footprint) (r : Registers) (vfs queue : ℕ) (f : Fetched) (o : Option (List ℕ))
    → HasMove e Tx queue → Comes (f.head < 2 ^ 16) e r (slot_counted r vfs queue f o)
slot_counted_in e r vfs queue f (Some frame) has =
    let moved = with_head r Tx queue f.head in
    function_counted_in e r _ (function_of_queue r vfs queue) Vfgptc
    (covers-trans _ _ _ has.counts have_functions) (record { bank = refl; kind = refl })
    (counted_in e r (counted moved Gptc 0) Qptc (counter_of r Tx queue)
    (covers-trans _ _ _ has.counts have_counters) (record { bank = refl; kind = refl })
    (counted_in e r moved Gptc 0 (covers-trans _ _ _ has.counts have_counters)
    (record { bank = refl; kind = refl })
    (head_in e r Tx queue f.head has (λ (is : f.head < 2 ^ 16). is))))
slot_counted_in e r vfs queue f None has = head_in e r Tx queue f.head has (λ (is : f.head < 2 ^ 16). is)

pub slot_counted-comes : (r : Registers) (vfs queue : ℕ) (f : Fetched) (o : Option (List ℕ))
    → Comes (f.head < 2 ^ 16) (of_step Tx queue) r (slot_counted r vfs queue f o)
slot_counted-comes r vfs queue f o = slot_counted_in (of_step Tx queue) r vfs queue f o (step_has Tx queue)

slot_in : (e : Footprint) (r : Registers) (vfs queue : ℕ) (f : Fetched) → HasMove e Tx queue
    → Comes (f.head < 2 ^ 16) e r (slot_reported r vfs queue f)
slot_in e r vfs queue f has =
    let counted = slot_counted r vfs queue f f.frame in
    let kept = slot_counted_in e r vfs queue f f.frame has in
    either_way (Comes (f.head < 2 ^ 16) e r) f.rs (raised_by counted vfs Tx queue) counted
    (raised_by_queue e r counted vfs Tx queue (covers-trans _ _ _ has.counts have_causes) kept) kept

pub slot-comes : (r : Registers) (vfs queue : ℕ) (f : Fetched)
    → Comes (f.head < 2 ^ 16) (of_step Tx queue) r (slot_reported r vfs queue f)
slot-comes r vfs queue f = slot_in (of_step Tx queue) r vfs queue f (step_has Tx queue)

pub sides-slot : (r : Registers) (vfs queue : ℕ) (f : Fetched) → KeepsSides r (slot_reported r vfs queue f)
sides-slot r vfs queue f =
    sides_kept (of_move Tx queue) r (slot_reported r vfs queue f) (spares-move Tx queue)
    (slot_in (of_move Tx queue) r vfs queue f (move_has Tx queue)).within

-- A frame that arrives is counted. A frame that finds the receive list full raises the receive-miss cause.

abbrev of_arrival : Footprint
of_arrival = either counters (pending Pf)

pub arrival_counted : (r : Registers) (row : RowId) → IsCounter row → Comes ⊤ of_arrival r (counted r row 0)
arrival_counted r row counter =
    counted_in of_arrival r r row 0 (covers-first counters (pending Pf)) counter (comes-itself of_arrival r)

pub missed-comes : (r : Registers) → Comes ⊤ of_arrival r (device_raised (counted r Mpc 0) missed_cause)
missed-comes r =
    then_within of_arrival (pending Pf) r (counted r Mpc 0) (device_raised (counted r Mpc 0) missed_cause)
    (arrival_counted r Mpc (record { bank = refl; kind = refl })) (covers-second counters (pending Pf))
    (within-causes_raised (counted r Mpc 0) Pf missed_cause)
    (λ is h. sound-causes_raised (counted r Mpc 0) Pf missed_cause h)
