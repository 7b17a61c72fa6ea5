use Rattle.register_laws.proofs.RowBits.{word_small}
use Rattle.register_laws.proofs.SoundWords.{acting_none, no_word_asks, rings_aligned}
use Rattle.register_laws.proofs.sound_words_are_of_their_rows.Goals as goal

pub returns : goal.returns
returns c = record { small = word_small; none = acting_none; reset = no_word_asks; rings = rings_aligned }
