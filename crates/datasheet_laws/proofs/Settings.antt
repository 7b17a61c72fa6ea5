-- What single bits and fields set.
use Rattle.std.proofs.Common.{◌+◌, ◌-◌, ◌*◌, ◌/◌, Some, None, refl, ap, sym, ◌∙◌, lit<}
use Rattle.std.proofs.lemmas.Bool.{cond-true, cond-false}
use Rattle.reg_table.specs.declared.rows.RowId.TheVariants as row
use Rattle.datasheet_laws.specs.NumberPrelude.{has_bit, word_of}
use Rattle.datasheet_laws.specs.Settings.{DevicesAreSet, QueuesAreSet, CountersStay}
use Rattle.datasheet_laws.proofs.ByAddress.{word-at}

pub devices_set : DevicesAreSet
devices_set r =
    let high = word-at r row.Hlreg0 0 (lit< tt) in
    let most = word-at r row.Maxfrs 0 (lit< tt) in
    let general = word-at r row.Gpie 0 (lit< tt) in
    let jumbo = has_bit 2 (word_of r row.Hlreg0 0) in
    record {
      stopped = ap (has_bit 2) (sym (word-at r row.Ctrl 0 (lit< tt)));
      receives = ap (has_bit 0) (sym (word-at r row.Rxctrl 0 (lit< tt)));
      transmits = ap (has_bit 0) (sym (word-at r row.Dmatxctl 0 (lit< tt)));
      pads_frames = ap (has_bit 10) (sym high);
      jumbo = λ on. cond-true jumbo (word_of r row.Maxfrs 0 / 65536 - 4) 1514 (sym (ap (has_bit 2) high) ∙ on)
          ∙ ap (λ n. n / 65536 - 4) (sym most);
      plain = λ off.
          cond-false jumbo (word_of r row.Maxfrs 0 / 65536 - 4) 1514 (sym (ap (has_bit 2) high) ∙ off);
      others = ap (has_bit 5) (sym general);
      messages = ap (has_bit 30) (sym general);
    }

pub queues_set : QueuesAreSet
queues_set r q there =
    let low = word-at r row.Tdwbal q there in
    let high = word-at r row.Tdwbah q there in
    let reports = has_bit 0 (word_of r row.Tdwbal q) in
    let address = word_of r row.Tdwbah q * 4294967296 + 4 * (word_of r row.Tdwbal q / 4) in
    record {
      drops_frames = ap (has_bit 28) (sym (word-at r row.Srrctl q there));
      reports = λ on. cond-true reports (Some address) None (sym (ap (has_bit 0) low) ∙ on)
          ∙ (λ k. Some (sym high k * 4294967296 + 4 * (sym low k / 4)));
      no_reports = λ off. cond-false reports (Some address) None (sym (ap (has_bit 0) low) ∙ off);
    }

pub counters_stay : CountersStay
counters_stay w = refl
