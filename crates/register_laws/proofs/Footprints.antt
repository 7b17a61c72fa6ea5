-- Lemmas about changes within footprints.
use Rattle.std.proofs.Common.{◌≡◌, Bool, true, false, cond, refl, ◌∙◌}
use Rattle.std.proofs.lemmas.Bool.{or_parts}
use Rattle.register_laws.specs.Prelude.{Place, Registers, word_at}
use Rattle.register_laws.specs.Footprint.{Footprint, LacksWord, ChangesWithin, Covers, either}
use Rattle.register_laws.proofs.Bits.{same_word}
use Rattle.register_laws.proofs.Covers.{fails}
pub use Rattle.register_laws.proofs.Covers.{misses-narrower, misses-within, misses-owner}
pub use Rattle.register_laws.proofs.Covers.{covers-the_word, covers-the_enable, covers-pending, covers-any_pending}

-- If the footprint contains no bit of a word, the word is unchanged.
pub word_stands : {f : Footprint} {old new : Registers} → ChangesWithin f old new → (p : Place) → LacksWord f p
    → word_at new.words p ≡ word_at old.words p
word_stands only p none = same_word (λ bit. only.bits p bit (none bit))

pub within-refl : (f : Footprint) (r : Registers) → ChangesWithin f r r
within-refl f r = record { bits = λ p bit n. refl; wanted = λ dir queue n. refl; reported = λ g n. refl }

pub within-trans : (f : Footprint) (r s t : Registers) → ChangesWithin f r s → ChangesWithin f s t → ChangesWithin f r t
within-trans f r s t first then = record {
  bits = λ p bit n. then.bits p bit n ∙ first.bits p bit n;
  wanted = λ dir queue n. then.wanted dir queue n ∙ first.wanted dir queue n;
  reported = λ g n. then.reported g n ∙ first.reported g n;
}

pub within-wider : (f e : Footprint) (r s : Registers) → Covers f e → ChangesWithin e r s → ChangesWithin f r s
within-wider f e r s has only = record {
  bits = λ p bit n. only.bits p bit (fails (e.bits p bit) (f.bits p bit) (has.bits p bit) n);
  wanted =
      λ dir queue n. only.wanted dir queue (fails (e.wanted dir queue) (f.wanted dir queue) (has.wanted dir queue) n);
  reported = λ g n. only.reported g (fails (e.reported g) (f.reported g) (has.reported g) n);
}

pub within-either : (f g : Footprint) (r s t : Registers) → ChangesWithin f r s → ChangesWithin g s t
    → ChangesWithin (either f g) r t
within-either f g r s t first then = record {
  bits = λ p bit n.
      let no = or_parts (f.bits p bit) (g.bits p bit) n in then.bits p bit no.1 ∙ first.bits p bit no.0;
  wanted = λ dir queue n.
      let no = or_parts (f.wanted dir queue) (g.wanted dir queue) n in then.wanted dir queue no.1
      ∙ first.wanted dir queue no.0;
  reported = λ h n. let no = or_parts (f.reported h) (g.reported h) n in then.reported h no.1 ∙ first.reported h no.0;
}

pub within-if : (f : Footprint) (b : Bool) (r s t : Registers) → ChangesWithin f r s → ChangesWithin f r t
    → ChangesWithin f r (cond b s t)
within-if f true r s t on off = on
within-if f false r s t on off = off
