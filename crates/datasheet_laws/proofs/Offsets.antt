-- Each offset of a virtual function is the one listed by hand.
use Rattle.std.proofs.Common.{◌≡◌, ℕ, zero, suc, ◌+◌, ◌*◌, ◌/◌, ◌%◌, ◌<◌, ◌≤◌, ◌==◌, true, nat_lt, Some, None, if◌then◌else◌, refl, ap, ◌∙◌, arith, lit<}
use Rattle.std.proofs.lemmas.Bool.{cond-true, lt-ltb, ne_eqb}
use Rattle.std.proofs.lemmas.Bool.Decides.{nat_tests}
use Rattle.reg_table.specs.declared.rows.RowId.TheVariants as row
use Rattle.vf_map.specs.Map.{mapped, mapped_to, at_address, located, function_entries, own_entries, message_entries, distance}
use Rattle.vf_map.specs.Owner.{is_receive, is_transmit}
use Rattle.vf_map.proofs.LocatedAt.{located_at}
use Rattle.vf_map.specs.declared.located.Located.TheVariants.{Register}
use Rattle.vf_map.specs.declared.mapped.Mapped.TheVariants.{Pf}
use Rattle.vf_map.specs.declared.mode.Mode.TheVariants.{Off, Pools16, Pools32, Pools64}
use Rattle.vf_map.proofs.Chains.{in_second}
use Rattle.vf_map.proofs.Places.{message_there}
use Rattle.vf_map.proofs.Queues.{queue_registers}
use Rattle.vf_map.proofs.Whole.{entries_own, located_some}
use Rattle.datasheet_laws.specs.NumberPrelude.{Mode, Place, RowId, address_among, mode_of, place_at, queues_of, runs}
use Rattle.datasheet_laws.specs.Offsets.{OffsetsAreListed, HasOwn, HasQueue, pools_by, queues_by}
use Rattle.datasheet_laws.specs.Table.{line_of}
use Rattle.datasheet_laws.proofs.Table.{at, first}

-- The mode that GCR_EXT bits 1 to 0 select.
abbrev pub mode_by : ℕ → Mode
mode_by n = if n == 0 then Off else (if n == 1 then Pools16 else (if n == 2 then Pools32 else Pools64))

pub parted : (n v : ℕ) → n < 4 → v < pools_by n → queues_of (mode_by n) v ≡ Some (v * queues_by n, queues_by n)
parted zero v small h = absurd (omega arith)
parted (suc zero) v small h = cond-true (nat_lt v 16) _ _ (lt-ltb v 16 h)
parted (suc (suc zero)) v small h = cond-true (nat_lt v 32) _ _ (lt-ltb v 32 h)
parted (suc (suc (suc zero))) v small h = cond-true (nat_lt v 64) _ _ (lt-ltb v 64 h)
parted (suc (suc (suc (suc n)))) v small h = absurd (omega arith)

few_pools : (n : ℕ) → n < 4 → pools_by n ≤ 64
few_pools n small = grind (arith, nat_tests)

-- The pool's queues are queues of the device, and its vectors are words of PVTIVAR.
within : (n v x : ℕ) → n < 4 → v < pools_by n → x < queues_by n → v * queues_by n + x < 128
within n v x small h l = grind (arith, nat_tests)

words : (n v x : ℕ) → n < 4 → v < pools_by n → x < queues_by n / 2 → v * queues_by n / 2 + x < 64
words n v x small h l = grind (arith, nat_tests)

module _ (mode : Mode) (vfs v k : ℕ) (there : v < vfs) (inside : v < 64)
    (pool : queues_of mode v ≡ Some (v * k, k)) where
  -- A register by the place that an offset names.
  by_place : (o : ℕ) (p : Place) (a : ℕ) → located mode vfs v o ≡ Register p → address_among runs p ≡ Some a
      → mapped mode vfs v o ≡ Pf a
  by_place o p a is e = ap mapped_to is ∙ ap at_address e

  by_entry : (o : ℕ) (p : Place) (a : ℕ) → place_at (function_entries v) o ≡ Some p → address_among runs p ≡ Some a
      → mapped mode vfs v o ≡ Pf a
  by_entry o p a is e =
      by_place o p a
      (located_some mode vfs v o (v * k) k there pool ∙ ap located_at (entries_own v (v * k) k o p is)) e

  -- No word of the mailbox memory is an offset of a register that the function has once.
  none : (x : ℕ) → x < 16 → place_at (own_entries v) (0x0200 + 4 * x) ≡ None
  none x h =
      rw (
        ne_eqb 0x0000 (0x0200 + 4 * x) (omega arith),
        ne_eqb 0x0008 (0x0200 + 4 * x) (omega arith),
        ne_eqb 0x0010 (0x0200 + 4 * x) (omega arith),
        ne_eqb 0x0100 (0x0200 + 4 * x) (omega arith),
        ne_eqb 0x0104 (0x0200 + 4 * x) (omega arith),
        ne_eqb 0x0108 (0x0200 + 4 * x) (omega arith),
        ne_eqb 0x010C (0x0200 + 4 * x) (omega arith),
        ne_eqb 0x0110 (0x0200 + 4 * x) (omega arith),
        ne_eqb 0x0114 (0x0200 + 4 * x) (omega arith),
        ne_eqb 0x0140 (0x0200 + 4 * x) (omega arith),
        ne_eqb 0x02FC (0x0200 + 4 * x) (omega arith),
        ne_eqb 0x0300 (0x0200 + 4 * x) (omega arith),
        ne_eqb 0x101C (0x0200 + 4 * x) (omega arith),
        ne_eqb 0x201C (0x0200 + 4 * x) (omega arith),
      ) refl

  message : (x : ℕ) → x < 16 → place_at (function_entries v) (0x0200 + 4 * x) ≡ Some (at row.Pfmbmem (16 * v + x))
  message x h =
      in_second (own_entries v) (message_entries v) (0x0200 + 4 * x) (none x h)
      ∙ message_there v (0x0200 + 4 * x) (omega arith) (omega arith) (omega arith)
      ∙ ap (λ n. Some (at row.Pfmbmem (16 * v + n))) (omega arith)

  own : HasOwn mode vfs v
  own = record {
    control = by_entry 0x0000 (at row.Pvfctrl v) _ refl (first row.Pvfctrl v inside);
    status = by_entry 0x0008 (at row.Status 0) _ refl (first row.Status 0 (lit< tt));
    links = by_entry 0x0010 (at row.Links 0) _ refl (first row.Links 0 (lit< tt));
    causes = by_entry 0x0100 (at row.Pvteicr v) _ refl (first row.Pvteicr v inside);
    causes_set = by_entry 0x0104 (at row.Pvteics v) _ refl (first row.Pvteics v inside);
    masks_set = by_entry 0x0108 (at row.Pvteims v) _ refl (first row.Pvteims v inside);
    masks_cleared = by_entry 0x010C (at row.Pvteimc v) _ refl (first row.Pvteimc v inside);
    auto_clear = by_entry 0x0110 (at row.Pvteiac v) _ refl (first row.Pvteiac v inside);
    auto_mask = by_entry 0x0114 (at row.Pvteiam v) _ refl (first row.Pvteiam v inside);
    mail_vector = by_entry 0x0140 (at row.PvtivarMisc v) _ refl (first row.PvtivarMisc v inside);
    mailbox = by_entry 0x02FC (at row.Pvfmailbox v) _ refl (first row.Pvfmailbox v inside);
    packet_types = by_entry 0x0300 (at row.Psrtype v) _ refl (first row.Psrtype v inside);
    received = by_entry 0x101C (at row.Vfgprc v) _ refl (first row.Vfgprc v inside);
    sent = by_entry 0x201C (at row.Vfgptc v) _ refl (first row.Vfgptc v inside);
    messages = λ x h. by_entry (0x0200 + 4 * x) (at row.Pfmbmem (16 * v + x)) _ (message x h)
        (first row.Pfmbmem (16 * v + x) (omega arith));
  }

  module _ (x : ℕ) (low : x < k) (queue : v * k + x < 128) where
    receive : (r : RowId) (o : ℕ) → is_receive r ≡ true → o ≡ 0x1000 + 0x40 * x + distance row.Rdbal r
        → (line_of r).count ≡ 128 → mapped mode vfs v o ≡ Pf ((line_of r).address (v * k + x))
    receive r o side is many =
        by_place o (at r (v * k + x)) _
        (ap (located mode vfs v) is ∙ queue_registers.receive mode vfs v (v * k) k x r there pool low side)
        (first r (v * k + x) (omega arith))

    transmit : (r : RowId) (o : ℕ) → is_transmit r ≡ true → o ≡ 0x2000 + 0x40 * x + distance row.Tdbal r
        → (line_of r).count ≡ 128 → mapped mode vfs v o ≡ Pf ((line_of r).address (v * k + x))
    transmit r o side is many =
        by_place o (at r (v * k + x)) _
        (ap (located mode vfs v) is ∙ queue_registers.transmit mode vfs v (v * k) k x r there pool low side)
        (first r (v * k + x) (omega arith))

    queues : HasQueue mode vfs v k x
    queues = record {
      receive_base_low = receive row.Rdbal (0x1000 + 0x40 * x) refl (omega arith) refl;
      receive_base_high = receive row.Rdbah (0x1004 + 0x40 * x) refl (omega arith) refl;
      receive_length = receive row.Rdlen (0x1008 + 0x40 * x) refl (omega arith) refl;
      receive_head = receive row.Rdh (0x1010 + 0x40 * x) refl (omega arith) refl;
      receive_control = receive row.Srrctl (0x1014 + 0x40 * x) refl (omega arith) refl;
      receive_tail = receive row.Rdt (0x1018 + 0x40 * x) refl (omega arith) refl;
      receive_enable = receive row.Rxdctl (0x1028 + 0x40 * x) refl (omega arith) refl;
      transmit_base_low = transmit row.Tdbal (0x2000 + 0x40 * x) refl (omega arith) refl;
      transmit_base_high = transmit row.Tdbah (0x2004 + 0x40 * x) refl (omega arith) refl;
      transmit_length = transmit row.Tdlen (0x2008 + 0x40 * x) refl (omega arith) refl;
      transmit_head = transmit row.Tdh (0x2010 + 0x40 * x) refl (omega arith) refl;
      transmit_tail = transmit row.Tdt (0x2018 + 0x40 * x) refl (omega arith) refl;
      transmit_enable = transmit row.Txdctl (0x2028 + 0x40 * x) refl (omega arith) refl;
      write_back_low = transmit row.Tdwbal (0x2038 + 0x40 * x) refl (omega arith) refl;
      write_back_high = transmit row.Tdwbah (0x203C + 0x40 * x) refl (omega arith) refl;
    }

  vector : (x : ℕ) → x < k / 2 → v * k / 2 + x < 64
      → mapped mode vfs v (0x0120 + 4 * x) ≡ Pf (0x12500 + 4 * (v * k / 2 + x))
  vector x low fits =
      by_place (0x0120 + 4 * x) (at row.Pvtivar (v * k / 2 + x)) _
      (queue_registers.vectors mode vfs v (v * k) k x there pool low) (first row.Pvtivar (v * k / 2 + x) fits)

pub offsets : OffsetsAreListed
offsets gcr_ext vfs v there pool =
    let n = gcr_ext % 4 in
    let k = queues_by n in
    let small : n < 4 = omega arith in
    let has = parted n v small pool in
    let few = few_pools n small in
    let inside : v < 64 = omega (arith, few, pool) in
    record {
      own = own (mode_of gcr_ext) vfs v k there inside has;
      queues = λ x low. queues (mode_of gcr_ext) vfs v k there inside has x low (within n v x small pool low);
      vectors = λ x low. vector (mode_of gcr_ext) vfs v k there inside has x low (words n v x small pool low);
    }
