-- A reset with one image, compared with a reset with an image that contains one more register write.
use Rattle.std.proofs.Common.{cond, ◌≡◌, ◌≢◌, ◌⊎◌, inl, inr, ℕ, Bool, true, false, List, [], ◌∷◌, refl, ap, sym, ◌∙◌, Option, Some, None}
use Rattle.std.proofs.lemmas.List.Sums.{fold-append}
use Rattle.nic_device.specs.Eeprom.{is_stepped_over, triple_written, with_triple, with_triples, reset}
use Rattle.device_laws.specs.Prelude.{Ctrl, Eerd, Place, RowId, State, asks_pool_reset, at_place, cleared}
use Rattle.device_laws.specs.Prelude.{named_written, place_among, row_of, runs, step_of, triples_of, view_among}
use Rattle.device_laws.specs.Prelude.{with_pool_reset, written, written_below_reset}
use Rattle.device_laws.proofs.Prelude.{found-named}
use Rattle.device_laws.specs.Eeprom.{with_image, HasOneMore, IsWritten, LastWriteIsMade, SteppedOverWriteIsNotMade}
use Rattle.device_laws.specs.Laws.{after_write}
use Rattle.device_laws.proofs.Resetting.{asked-reset}
use Rattle.device_laws.proofs.Settings.{no_reset}

-- A write doesn't depend on the device's image.

cond_imaged : (b : Bool) (s t : State) (image : List ℕ)
    → cond b (with_image s image) (with_image t image) ≡ with_image (cond b s t) image
cond_imaged true s t image = refl
cond_imaged false s t image = refl

below_imaged : (s : State) (image : List ℕ) (p : Place) (view word : ℕ)
    → written_below_reset (with_image s image) p view word ≡ with_image (written_below_reset s p view word) image
below_imaged s image p view word =
    cond_imaged (asks_pool_reset (row_of p.row).kind word) (with_pool_reset s p.index)
    (record s { registers = written (row_of p.row).kind s.registers p view word }) image

triple_imaged : (s : State) (image : List ℕ) (o : Option Place) (view word : ℕ)
    → triple_written (with_image s image) o view word ≡ with_image (triple_written s o view word) image
triple_imaged s image None view word = refl
triple_imaged s image (Some p) view word =
    ap (λ t. cond (is_stepped_over p.row) (with_image s image) t) (below_imaged s image p view word)
    ∙ cond_imaged (is_stepped_over p.row) s (written_below_reset s p view word) image

triples_imaged : (s : State) (image : List ℕ) (ts : List (ℕ × ℕ))
    → with_triples (with_image s image) ts ≡ with_image (with_triples s ts) image
triples_imaged s image [] = refl
triples_imaged s image (t ∷ ts) =
    ap (λ (u : State). with_triples u ts) (triple_imaged s image (place_among runs t.0) (view_among runs t.0) t.1)
    ∙ triples_imaged (with_triple s t) image ts

-- One more write at the end of an image is performed after the others.
one_more : (s : State) (image : List ℕ) (offset value : ℕ) → HasOneMore s.image image offset value
    → reset (with_image s image) ≡ with_image (with_triple (reset s) (offset, value)) image
one_more s image offset value more =
    let ts = triples_of s.image in
    let start = cleared (with_image s image) in
    ap (λ us. with_triples start us) more ∙ fold-append with_triple start ts ((offset, value) ∷ [])
    ∙ ap (λ (u : State). with_triple u (offset, value)) (triples_imaged (cleared s) image ts)
    ∙ triple_imaged (reset s) image (place_among runs offset) (view_among runs offset) value

-- An image's write to a register other than CTRL and EERD is performed like an ordinary write.

not_over : (row : RowId) → row ≢ Ctrl → row ≢ Eerd → is_stepped_over row ≡ false
not_over Ctrl n m = absurd (n refl)
not_over Eerd n m = absurd (m refl)
not_over other n m = refl

triple-write : (t : State) (o : Option Place) (view value : ℕ)
    → ((p : Place) → o ≡ Some p → (p.row ≢ Ctrl) × (p.row ≢ Eerd))
    → triple_written t o view value ≡ (named_written t (at_place o view) value).state
triple-write t None view value h = refl
triple-write t (Some p) view value h =
    let n = h p refl in
    ap (λ b. cond b t (written_below_reset t p view value)) (not_over p.row n.0 n.1)
    ∙ sym (ap (λ b. cond b (reset t) (written_below_reset t p view value)) (no_reset p.row value n.0))

with_triple-write : (t : State) (offset value : ℕ) → IsWritten offset
    → with_triple t (offset, value) ≡ after_write t offset value
unfolding step_of
with_triple-write t offset value writes =
    triple-write t (place_among runs offset) (view_among runs offset) value
    (λ p found. writes p ((found-named offset p).0 found))

pub last_write : LastWriteIsMade
last_write s image offset value more writes a word p named asks =
    asked-reset (with_image s image) a word p named asks ∙ one_more s image offset value more
    ∙ ap (λ (u : State). with_image u image)
    (with_triple-write (reset s) offset value writes
    ∙ sym (ap (λ (u : State). after_write u offset value) (asked-reset s a word p named asks)))

-- A write to CTRL or EERD changes nothing.

over : (q : Place) → (q.row ≡ Ctrl) ⊎ (q.row ≡ Eerd) → is_stepped_over q.row ≡ true
over q (inl e) = ap is_stepped_over e
over q (inr e) = ap is_stepped_over e

pub stepped_over : SteppedOverWriteIsNotMade
stepped_over s image offset value more q named_q which a word p named asks =
    let found = (found-named offset q).1 named_q in
    let view = view_among runs offset in
    let skips : with_triple (reset s) (offset, value) ≡ reset s =
    ap (λ o. triple_written (reset s) o view value) found
    ∙ ap (λ b. cond b (reset s) (written_below_reset (reset s) q view value)) (over q which) in
    asked-reset (with_image s image) a word p named asks ∙ one_more s image offset value more
    ∙ ap (λ (u : State). with_image u image) (skips ∙ sym (asked-reset s a word p named asks))
