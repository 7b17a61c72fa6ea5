-- Lemmas about what is read from stored and counted words, and from registers after a reset.
use Rattle.std.proofs.Common.{◌≡◌, ℕ, ◌+◌, ◌-◌, ◌*◌, ◌/◌, ◌%◌, ◌^◌, ◌<◌, false, if◌then◌else◌, refl, ap}
use Rattle.register_file.specs.RegTable.declared.rows.RowId.TheVariants.{Ctrl, Rxctrl, Dmatxctl, Hlreg0, Maxfrs, Gpie, Srrctl, Rxdctl, Txdctl}
use Rattle.register_file.specs.IntrUnit.BitSet.{bits_below, bits_where, bits_from_to}
use Rattle.register_file.specs.IntrUnit.Group.{group_bits, auto_mask_acts}
use Rattle.register_laws.specs.Prelude.{Dir, Group, Pf, Place, Registers, Rx, Tx, Vf, bumped, has_bit, is_owner}
use Rattle.register_laws.specs.Prelude.{mapping_row, place, row_of, vector_entry, vector_row, word_at, word_of}
use Rattle.register_laws.proofs.Prelude.{false_from_ne_true, get_or-replicate, word_at-reset}
use Rattle.register_laws.specs.Footprint.{Footprint, ChangesWithin}
use Rattle.register_laws.specs.Laws.{HasShape, CountsAndClears, GoesRound, GroupBitsAreMasks, EnableReadTellsOn, ResetSwitchesOff, WordIsOnePlace, OwnersDiffer, SettingsStand}
use Rattle.register_laws.proofs.Footprints.{word_stands}
use Rattle.register_laws.proofs.Owners.{is_place-other, is_owner-same}
use Rattle.register_laws.proofs.Shape.{put_stands}

pub counts_and_clears : (r : Registers) (p : Place) → HasShape r → p.index < (row_of p.row).count → CountsAndClears r p
counts_and_clears r p h b = record {
  counts = λ link. put_stands r p (bumped (word_at r.words p)) h b;
  clears = λ link. put_stands r p 0 h b;
}

pub goes_round : (r : Registers) (p : Place) → HasShape r → p.index < (row_of p.row).count → GoesRound r p
goes_round r p h b = record {
  counts = λ around. put_stands r p ((word_at r.words p + 1) % 2 ^ 32) h b;
  stays = refl;
  kept = λ view word. refl;
}

-- After a reset, no side of a queue is enabled or has an enable request.
pub off-reset : ResetSwitchesOff
off-reset Rx queue b =
    (ap (has_bit 25) (word_at-reset (place Rxdctl queue) b), get_or-replicate 128 queue false false b)
off-reset Tx queue b =
    (ap (has_bit 25) (word_at-reset (place Txdctl queue) b), get_or-replicate 128 queue false false b)

-- The bits of a group.
pub masks : GroupBitsAreMasks
unfolding group_bits bits_from_to bits_where bits_below
masks Pf = (refl, refl, refl, refl)
masks (Vf v) = (refl, refl, refl, refl)

pub enable_read : EnableReadTellsOn
enable_read r Rx queue link = refl
enable_read r Tx queue link = refl

-- Places and owners that differ.
pub one_place : WordIsOnePlace
one_place p q n bit = is_place-other p q n

pub owners_differ : OwnersDiffer
owners_differ o other n = false_from_ne_true (is_owner o other) (λ e. n (is_owner-same o other e))

-- The settings in single words.
vector_stands : (old new : Registers) (g : Group) (dir : Dir) (queue : ℕ)
    → word_of new (vector_row g) (queue / 2) ≡ word_of old (vector_row g) (queue / 2)
    → vector_entry new g dir queue ≡ vector_entry old g dir queue
vector_stands old new g Rx queue e = ap (λ w. w / 2 ^ (16 * (queue % 2)) % 256) e
vector_stands old new g Tx queue e = ap (λ w. w / 2 ^ (16 * (queue % 2) + 8) % 256) e

pub settings_stand : (f : Footprint) (old new : Registers) → ChangesWithin f old new → SettingsStand f old new
settings_stand f old new only = record {
  stopped = λ out. only.bits (place Ctrl 0) 2 (out 2);
  can_receive = λ out. only.bits (place Rxctrl 0) 0 (out 0);
  can_transmit = λ out. only.bits (place Dmatxctl 0) 0 (out 0);
  limit = λ out past k.
      if only.bits (place Hlreg0 0) 2 (out 2) k then word_stands only (place Maxfrs 0) past k / 2 ^ 16 - 4 else 1514;
  padding = λ out. only.bits (place Hlreg0 0) 10 (out 10);
  dropping = λ queue out. only.bits (place Srrctl queue) 28 (out 28);
  clearing = λ out. only.bits (place Gpie 0) 5 (out 5);
  masking = λ out g. ap (auto_mask_acts g) (only.bits (place Gpie 0) 30 (out 30));
  vector = λ g dir queue out.
      vector_stands old new g dir queue (word_stands only (place (vector_row g) (queue / 2)) out);
  counter = λ dir queue out.
      ap (λ w. w / 2 ^ (8 * (queue % 4)) % 16) (word_stands only (place (mapping_row dir) (queue / 4)) out);
}
