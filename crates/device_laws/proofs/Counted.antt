-- What reads of counters return.
use Rattle.std.proofs.Common.{◌≡◌, ◌<◌, ◌^◌, ℕ, List, refl, ap, ◌∙◌, arith}
use Rattle.std.proofs.Math.Nat.{mod-eq_of_lt}
use Rattle.std.specs.Int.Bits.{and_zero_l}
use Rattle.nic_device.specs.RegisterFile.Access.{read_word, after_read}
use Rattle.nic_device.proofs.RegisterLaws.RowBits.{word_small}
use Rattle.nic_device.proofs.RegisterLaws.Sound.{bumped-lt}
use Rattle.device_laws.specs.Prelude.{Done, Gprc, IsSound, Outcome, Pf, Place, State, Word, around, at_place, bumped}
use Rattle.device_laws.specs.Prelude.{named_read, place, runs, step_of, view_among, word_at, word_of}
use Rattle.device_laws.proofs.Prelude.{and_mask, found-named, named_in_range, put_stands}
use Rattle.device_laws.specs.Laws.{IsCounter, reply_to_read, shown, good_frames, ReadCounterStartsAgain, LetInFrameIsCounted}
use Rattle.device_laws.proofs.Accesses.{state-read}
use Rattle.nic_device.proofs.Cases.{arrived_cases}
use Rattle.nic_device.specs.declared.event.Event.TheVariants as event

counter-read : (s : State) (a : ℕ) (p : Place) → IsCounter a p
    → reply_to_read s a ≡ Word (shown a (word_at s.registers.words p))
unfolding step_of
counter-read s a p counter =
    ap (λ o. (named_read s (at_place o (view_among runs a))).reply) ((found-named a p).1 counter.named)
    ∙ ap (λ k. Word (shown a (read_word k s.registers (around s) p))) counter.counter

-- A counter that was read.
word-read : (s : State) (a : ℕ) (p : Place) → IsSound s → IsCounter a p
    → word_at (step_of s (event.Read Pf a)).state.registers.words p ≡ 0
word-read s a p h counter =
    ap (λ (t : State). word_at t.registers.words p) (state-read s a p counter.named)
    ∙ ap (λ k. word_at (after_read k s.registers p).words p) counter.counter
    ∙ put_stands s.registers p 0 h.registers.shape (named_in_range a p counter.named)

pub read_starts_again : ReadCounterStartsAgain
read_starts_again s h a b p at through =
    counter-read (step_of s (event.Read Pf a)).state b p through
    ∙ ap (λ w. Word (shown b w)) (word-read s a p h at)
    ∙ ap Word (and_zero_l (view_among runs b))

counts_good_frames : IsCounter good_frames (place Gprc 0)
unfolding runs
counts_good_frames = record { named = (found-named good_frames (place Gprc 0)).0 refl; counter = refl }

-- Its address shows all 32 bits.
shown-good_frames : (w : ℕ) → w < 2 ^ 32 → shown good_frames w ≡ w
unfolding runs
shown-good_frames w small = and_mask w 32 ∙ mod-eq_of_lt small

abbrev Counts : State → Outcome → Type 0
Counts s o = o.reply ≡ Done → word_of o.state.registers Gprc 0 ≡ bumped (word_of s.registers Gprc 0)

word-arrived : (s : State) (frame : List ℕ) → IsSound s → Counts s (step_of s (event.Arrive frame))
unfolding step_of
word-arrived s frame h = arrived_cases (Counts s) s frame (record {
  dropped = λ why no. cc;
  short = λ no. cc;
  long = λ no. cc;
  missed = λ no. cc;
  joined = λ t is room long short _. put_stands s.registers (place Gprc 0) _ h.registers.shape (omega arith);
})

-- GPRC reads as its word.
good_frames-read : (s : State) → word_of s.registers Gprc 0 < 2 ^ 32
    → reply_to_read s good_frames ≡ Word (word_of s.registers Gprc 0)
good_frames-read s small =
    counter-read s good_frames (place Gprc 0) counts_good_frames ∙ ap Word (shown-good_frames _ small)

pub let_in_is_counted : LetInFrameIsCounted
let_in_is_counted s h frame done word reported =
    let small = word_small s.registers h.registers (place Gprc 0) in
    let more = word-arrived s frame h done in
    let read = good_frames-read s small in
    let same : word_of s.registers Gprc 0 ≡ word = cc in
    good_frames-read (step_of s (event.Arrive frame)).state (rw more (bumped-lt _ small))
    ∙ ap Word (more ∙ ap bumped same)
