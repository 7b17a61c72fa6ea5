-- Lemmas about the calls that a pass made in a history. They split a history into parts by these calls, find the entry
-- of one of the calls, and retag the history.
use Rattle.driver_laws.proofs.StartPrelude.{calls_other, calls_own, gathered}
use Rattle.driver_laws.specs.StartPrelude.{AreEvents, Call, Entry, IsEvent, IsLegal, Piece, State, after, call_in}
use Rattle.driver_laws.specs.StartPrelude.{calls_of}
use Rattle.driver_laws.specs.StartPrelude.{entries_in, leads_to, pieces, pieces_since, reply_to, sent_since}
use Rattle.driver_laws.specs.Retagged.{AreSame, RetaggedIsSame, SameDelivers, SameIsLegal, SameLeads, SameSends}
use Rattle.std.proofs.Common.{Bool, List, Option, [], ap, arith, false, inl, inr, map, refl, subst, sym}
use Rattle.std.proofs.Common.{true, ℕ, ◌++◌, ◌∙◌, ◌∷◌, ◌≡◌, ◌≢◌, ◌⊎◌}
use Rattle.std.proofs.lemmas.Bool.{cases_Bool, eq-eqb, eqb-true}
use Rattle.std.proofs.lemmas.{Grind.common_steps, List.Elements.filter-append, List.append-nil, List.map-append}
use Rattle.pmd_driver.specs.DeviceLock.Alone.{has_begun}
use Rattle.ring_laws.specs.Sent.{counted_by}
use Rattle.std.specs.Prelude.{◌==◌}

pub ends_some : (old before : List Call) (c : Call) → old ++ (before ++ c ∷ []) ≢ []
ends_some [] [] c e = cc
ends_some [] (b ∷ before) c e = cc
ends_some (o ∷ old) before c e = cc

pub more_some : (old more : List Call) → old ≢ [] → old ++ more ≢ []
more_some [] more some = absurd (some refl)
more_some (o ∷ old) more some = λ e. cc

-- A history split into two parts: in the first, the pass made the calls `xs`, and in the second, `ys`.
pub record Parts (pass : ℕ) (h : List Entry) (xs ys : List Call) : Type 0 where
  pub front : List Entry
  pub back : List Entry
  pub both : front ++ back ≡ h
  pub fronts : calls_of pass front ≡ xs
  pub backs : calls_of pass back ≡ ys

pub begun : (pass : ℕ) (h : List Entry) → calls_of pass h ≢ [] → has_begun pass h ≡ true
begun pass [] some = absurd (some refl)
begun pass (e ∷ h) some = grind (arith, common_steps, calls_other, begun pass h)

-- The calls of a pass in one history followed by another are its calls in the first, followed by its calls in the
-- second.
pub calls_joined : (pass : ℕ) (g h : List Entry) → calls_of pass (g ++ h) ≡ calls_of pass g ++ calls_of pass h
calls_joined pass g h = rw (filter-append, map-append) refl

pub own_some : (pass : ℕ) (g : List Entry) (e : Entry) → e.pass ≡ pass → calls_of pass (g ++ e ∷ []) ≢ []
own_some pass g e own none = grind (arith, common_steps)

-- Lemmas about the calls of a pass, depending on whether an entry belongs to the pass.

abbrev pub with_call : Bool → Entry → List Call → List Call
with_call true e calls = call_in e ∷ calls
with_call false e calls = calls

pub calls_are : (pass : ℕ) (e : Entry) (es : List Entry) (b : Bool) → (e.pass == pass) ≡ b
    → calls_of pass (e ∷ es) ≡ with_call b e (calls_of pass es)
calls_are pass e es b is = grind (arith, common_steps, calls_own, calls_other)

-- A history split around the entry of one call that the pass made.
pub record Around (pass : ℕ) (h : List Entry) (calls : List Call) (c : Call) (more : List Call) : Type 0 where
  pub before : List Entry
  pub entry : Entry
  pub following : List Entry
  pub all : before ++ entry ∷ following ≡ h
  pub made : calls_of pass before ≡ calls
  pub own : entry.pass ≡ pass
  pub call : call_in entry ≡ c
  pub later : calls_of pass following ≡ more

module _ (pass : ℕ) where
  -- If a history is split around one of a pass's calls, it still is after an entry is added at its front.
  ahead : (e : Entry) (es : List Entry) (xs calls : List Call) (c : Call) (more : List Call)
      → ((g : List Entry) → calls_of pass g ≡ xs → calls_of pass (e ∷ g) ≡ calls) → Around pass es xs c more
      → Around pass (e ∷ es) calls c more
  ahead e es xs calls c more adds f = record {
    before = e ∷ f.before;
    entry = f.entry;
    following = f.following;
    all = ap (λ (l : List Entry). e ∷ l) f.all;
    made = adds f.before f.made;
    own = f.own;
    call = f.call;
    later = f.later;
  }

  pub around : (h : List Entry) (calls : List Call) (c : Call) (more : List Call)
      → calls_of pass h ≡ calls ++ c ∷ more → Around pass h calls c more
  around [] [] c more is = cc
  around [] (x ∷ xs) c more is = cc
  around (e ∷ es) [] c more is = elim (cases_Bool (e.pass == pass)) as (λ _. Around pass (e ∷ es) [] c more) [
    | inl own ↦
        let here : call_in e ∷ calls_of pass es ≡ c ∷ more = sym (calls_own pass e es own) ∙ is in record {
          before = [];
          entry = e;
          following = es;
          all = refl;
          made = refl;
          own = eqb-true e.pass pass own;
          call = cc;
          later = cc;
        }
    | inr other ↦
        ahead e es [] [] c more (λ g made. calls_other pass e g other ∙ made)
        (around es [] c more (sym (calls_other pass e es other) ∙ is))
  ]
  around (e ∷ es) (x ∷ xs) c more is =
      elim (cases_Bool (e.pass == pass)) as (λ _. Around pass (e ∷ es) (x ∷ xs) c more) [
        | inl own ↦
            let here : call_in e ∷ calls_of pass es ≡ x ∷ (xs ++ c ∷ more) = sym (calls_own pass e es own) ∙ is in
            let first : call_in e ≡ x = cc in
            ahead e es xs (x ∷ xs) c more (λ g made. calls_own pass e g own ∙ (λ k. first k ∷ made k))
            (around es xs c more (cc))
        | inr other ↦
            ahead e es (x ∷ xs) (x ∷ xs) c more (λ g made. calls_other pass e g other ∙ made)
            (around es (x ∷ xs) c more (sym (calls_other pass e es other) ∙ is))
      ]

  pub parts : (h : List Entry) (xs ys : List Call) → calls_of pass h ≡ xs ++ ys → Parts pass h xs ys
  parts h xs [] is = record { front = h; back = []; both = append-nil h; fronts = is ∙ append-nil xs; backs = refl }
  parts h xs (y ∷ ys) is =
      let a = around h xs y ys is in record {
        front = a.before;
        back = a.entry ∷ a.following;
        both = a.all;
        fronts = a.made;
        backs = calls_own pass a.entry a.following (eq-eqb a.entry.pass pass a.own) ∙ (λ k. a.call k ∷ a.later k);
      }

-- Lemmas: of two prefixes of a list, for example of a history or of a pass's calls, one is a prefix of the other.

abbrev pub Begins : {A : Type 0} → List A → List A → Type 0
Begins {A} xs zs = (back : List A) × (xs ++ back ≡ zs)

pub one_begins : {A : Type 0} (xs ys zs ws : List A) → xs ++ ys ≡ zs ++ ws → Begins xs zs ⊎ Begins zs xs
one_begins [] ys zs ws is = inl (zs, refl)
one_begins (x ∷ xs) ys [] ws is = inr (x ∷ xs, refl)
one_begins (x ∷ xs) ys (z ∷ zs) ws is = grind (arith, common_steps, one_begins xs ys zs ws (cc))

pub none_past : (xs ys : List Call) → xs ++ ys ≡ xs → ys ≡ []
none_past [] ys is = is
none_past (x ∷ xs) ys is = none_past xs ys (cc)

-- Lemmas: an entry with another tag contains the same call.

pub retagged_same : RetaggedIsSame
retagged_same other [] h = refl
retagged_same other (is ∷ own) [] = refl
retagged_same other (is ∷ own) (e ∷ es) = grind (arith, common_steps, retagged_same other own es)

-- Lemmas: what depends only on a history's calls doesn't change if all entries get the tag of one pass.

abbrev alike : List Entry → List Entry
alike h = entries_in (map call_in h)

same_by {ℓ} : {A : Type ℓ} (F : List Entry → A) → ((h : List Entry) → F h ≡ F (alike h)) → (h g : List Entry)
    → AreSame h g → F h ≡ F g
same_by F by h g same = by h ∙ ap (λ (cs : List Call). F (entries_in cs)) same ∙ sym (by g)

events_alike : (h : List Entry) → AreEvents h ≡ AreEvents (alike h)
events_alike [] = refl
events_alike (e ∷ es) = ap (λ (T : Type 0). IsEvent e.event × T) (events_alike es)

pub events_same : (h g : List Entry) → AreSame h g → AreEvents h → AreEvents g
events_same h g same = subst (λ (T : Type 0). T) (same_by AreEvents events_alike h g same)

legal_alike : (s : State) (h : List Entry) → IsLegal s h ≡ IsLegal s (alike h)
legal_alike s [] = refl
legal_alike s (e ∷ es) = ap (λ (T : Type 0). (e.reply ≡ reply_to s e.event) × T) (legal_alike (after s e.event) es)

pub legal_same : (s : State) (h g : List Entry) → AreSame h g → IsLegal s h → IsLegal s g
legal_same s h g same = subst (λ (T : Type 0). T) (same_by (IsLegal s) (legal_alike s) h g same)

pub same_is_legal : SameIsLegal
same_is_legal s h g same made legal = (events_same h g same made, legal_same s h g same legal)

leads_alike : (s : State) (h : List Entry) → leads_to s h ≡ leads_to s (alike h)
leads_alike s [] = refl
leads_alike s (e ∷ es) = leads_alike (after s e.event) es

pub same_leads : SameLeads
same_leads s = same_by (leads_to s) (leads_alike s)

pieces_alike : (queue : ℕ) (s : State) (so_far : Option (List Piece)) (h : List Entry)
    → pieces_since queue s so_far h ≡ pieces_since queue s so_far (alike h)
pieces_alike queue s so_far [] = refl
pieces_alike queue s so_far (e ∷ es) =
    pieces_alike queue (after s e.event) (gathered queue s (after s e.event) (pieces queue s e.event) so_far) es

pub same_delivers : SameDelivers
same_delivers queue s h g same = grind (arith, common_steps, same_by, pieces_alike)

sent_alike : (queue : ℕ) (s : State) (sent : List (List ℕ)) (h : List Entry)
    → sent_since queue s sent h ≡ sent_since queue s sent (alike h)
sent_alike queue s sent [] = refl
sent_alike queue s sent (e ∷ es) = sent_alike queue (after s e.event) (counted_by queue s e.event sent) es

pub same_sends : SameSends
same_sends queue s = same_by (sent_since queue s []) (sent_alike queue s [])
