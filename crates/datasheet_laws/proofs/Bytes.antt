-- Which causes the bytes of IVAR and PVTIVAR name.
use Rattle.std.proofs.Common.{◌≡◌, ℕ, ◌+◌, ◌*◌, ◌/◌, ◌%◌, ◌^◌, ◌<◌, Bool, true, false, ◌&&◌, nat_le, ◌==◌, cond, refl, ap, sym, ◌∙◌, arith}
use Rattle.std.proofs.Math.Nat.{div-one}
use Rattle.nic_device.specs.RegTable.declared.rows.RowId.TheVariants.{Ivar, Pvtivar}
use Rattle.nic_device.specs.IntrUnit.BitSet.{contains, only, no_bits}
use Rattle.nic_device.specs.IntrUnit.Group.{last_queue_cause, queue_causes}
use Rattle.nic_device.proofs.IntrUnit.SetLaws.{contains-only, contains-no_bits}
use Rattle.nic_device.specs.RegisterFile.Groups.{vector_row, vector_entry}
use Rattle.datasheet_laws.specs.Prelude.{Dir, Group, IsSound, Pf, Registers, Rx, State, Tx, Vf, has_bit, mode_in, place}
use Rattle.datasheet_laws.specs.Prelude.{word_of}
use Rattle.datasheet_laws.proofs.Prelude.{eqb-true, first_address}
use Rattle.datasheet_laws.specs.Queues.{IsQueueOf, byte_of, side_byte, pf_byte, vf_byte, names_cause}
use Rattle.datasheet_laws.specs.Shown.{read_at}
use Rattle.datasheet_laws.proofs.Addresses.{address_of}
use Rattle.nic_device.proofs.VfMap.Numbers.{placed}
use Rattle.datasheet_laws.proofs.Pools.{is_in, queues_there}
use Rattle.datasheet_laws.proofs.Reading.{read-word, word_lt}

-- The cause that a byte names.

valid : (c l e now : Bool) → (e ≡ true → now ≡ l) → cond (c && l) e false ≡ (c && e && now)
valid c l e now same = grind arith

chosen : (b : Bool) (f bit : ℕ) → bit < 32 → contains (cond b (only f) no_bits) bit ≡ cond b (bit == f) false
chosen true f bit h = contains-only f bit h
chosen false f bit h = contains-no_bits bit

pub named : (g : Group) (byte bit : ℕ) → bit < 32
    → contains (queue_causes g byte) bit ≡ names_cause (last_queue_cause g) byte bit
unfolding queue_causes contains
named g byte bit h =
    let last = last_queue_cause g in
    let f = byte % 64 in
    ap (λ n. contains (cond (has_bit 7 byte && nat_le (n % 64) last) (only (n % 64)) no_bits) bit) (div-one byte)
    ∙ chosen (has_bit 7 byte && nat_le f last) f bit h
    ∙ valid (has_bit 7 byte) (nat_le f last) (bit == f) (nat_le bit last)
    (λ e. ap (λ n. nat_le n last) (eqb-true bit f e))

-- The byte of a queue.

same_byte : (dir : Dir) (w x queue : ℕ) → x % 2 ≡ queue % 2 → (g : Group) (r : Registers)
    → word_of r (vector_row g) (queue / 2) ≡ w
    → byte_of w (2 * (x % 2) + side_byte dir) ≡ vector_entry r g dir queue
same_byte Rx w x queue half g r is =
    let e : 8 * (2 * (x % 2) + 0) ≡ 16 * (queue % 2) = omega arith in
    ap (λ n. w / 2 ^ n % 256) e ∙ ap (λ n. n / 2 ^ (16 * (queue % 2)) % 256) (sym is)
same_byte Tx w x queue half g r is =
    let e : 8 * (2 * (x % 2) + 1) ≡ 16 * (queue % 2) + 8 = omega arith in
    ap (λ n. w / 2 ^ n % 256) e ∙ ap (λ n. n / 2 ^ (16 * (queue % 2) + 8) % 256) (sym is)

pub pf_entry : (s : State) → IsSound s → (dir : Dir) (queue : ℕ) → queue < 128
    → pf_byte s dir queue ≡ vector_entry s.registers Pf dir queue
pf_entry s h dir queue small =
    let p = place Ivar (queue / 2) in
    let a : ℕ = 0x00900 + 4 * (queue / 2) in
    let word = read-word s a p (address_of p a (first_address p (omega arith))) (word_lt s h p) in
    same_byte dir (read_at s a) queue queue refl Pf s.registers (sym word)

pub vf_entry : (s : State) → IsSound s → (dir : Dir) (v x queue : ℕ) → IsQueueOf s v x queue
    → vf_byte s dir v x ≡ vector_entry s.registers (Vf v) dir queue
vf_entry s h dir v x queue q =
    let k = queues_there s h in
    let parts = placed (mode_in s.registers) v x queue (is_in s h v x queue q.pool q.own q.is) in
    let small = parts.small in
    let p = place Pvtivar (queue / 2) in
    let a : ℕ = 0x12500 + 4 * (queue / 2) in
    let word = read-word s a p (address_of p a (first_address p (omega arith))) (word_lt s h p) in
    ap (λ n. byte_of (read_at s (0x12500 + 4 * (v * n / 2 + x / 2))) (2 * (x % 2) + side_byte dir)) k
    ∙ ap (λ n. byte_of (read_at s (0x12500 + 4 * n)) (2 * (x % 2) + side_byte dir)) parts.word
    ∙ same_byte dir (read_at s a) x queue parts.half (Vf v) s.registers (sym word)
