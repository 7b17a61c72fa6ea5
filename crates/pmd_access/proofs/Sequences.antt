-- Lemmas about writing registers in order.
use Rattle.std.proofs.Common.{◌≡◌, ℕ, zero, suc, ◌+◌, ◌-◌, ◌<◌, List, [], ◌∷◌, ◌++◌, length, get_or, take, drop, Result, Ok, Err, IfErr, refl, sym, ap, ◌∙◌, subst, append_assoc, add-zero, add-suc, add-one, arith}
use Rattle.std.proofs.lemmas.List.{append-nil, take_more, take-append-drop}
use Rattle.device_lock.specs.declared.entry.Call.{Call}
use Rattle.device_lock.specs.NicDevice.RegTable.declared.rows.RowId.{RowId}
use Rattle.pmd_access.specs.Parts.{all_settings, settings_in}
use Rattle.pmd_access.specs.Setup.{AreSet, SettingFails, StopsSetting, packed, setting, word_in}
use Rattle.pmd_access.specs.declared.fault.PmdFault.{PmdFault}
use Rattle.pmd_access.specs.declared.setup.Part.{Part}
use Rattle.pmd_access.specs.declared.setup.Setting.{Setting}

pub set_both : (old mid new : List Call) (ss ts : List Setting) → AreSet old mid ss → AreSet mid new ts
    → AreSet old new (ss ++ ts)
set_both old mid new [] ts a b = subst (λ (m : List Call). AreSet m new ts) a b
set_both old mid new (s ∷ ss) ts (next, one, rest) b = (next, one, set_both next mid new ss ts rest b)

-- If writing stops within the first or the second of two lists, it stops within both lists taken together.
pub stops_first : (f : PmdFault) (old new : List Call) (ss ts : List Setting) → StopsSetting f old new ss
    → StopsSetting f old new (ss ++ ts)
stops_first f old new ss ts (done, s, rest, mid, is, set, fails) =
    (done, s, rest ++ ts, mid, ap (λ (l : List Setting). l ++ ts) is ∙ append_assoc done (s ∷ rest) ts, set, fails)

pub stops_second : (f : PmdFault) (old mid new : List Call) (ss ts : List Setting) → AreSet old mid ss
    → StopsSetting f mid new ts → StopsSetting f old new (ss ++ ts)
stops_second f old mid new ss ts before (done, s, rest, last, is, set, fails) = (
  ss ++ done,
  s,
  rest,
  last,
  ap (λ (l : List Setting). ss ++ l) is ∙ sym (append_assoc ss done (s ∷ rest)),
  set_both old mid last ss done before set,
  fails,
)

-- Writing stops at the next setting.
stops_here : (f : PmdFault) (old mid new : List Call) (ss rest all : List Setting) (s : Setting) → AreSet old mid ss
    → SettingFails f mid new s → all ≡ ss ++ s ∷ rest → StopsSetting f old new all
stops_here f old mid new ss rest all s before fails is = (ss, s, rest, mid, is, before, fails)

pub stops_alone : {A : Type 0} (r : Result A PmdFault) (old new : List Call) (s : Setting)
    → IfErr r (λ f. SettingFails f old new s) → IfErr r (λ f. StopsSetting f old new (s ∷ []))
stops_alone (Ok x) old new s fails = tt
stops_alone (Err f) old new s fails = stops_here f old old new [] [] (s ∷ []) s refl fails refl

packed_rest : (row : RowId) (bytes : List ℕ) (index more : ℕ)
    → (rest : List Setting) × (packed row bytes (index + more) ≡ packed row bytes index ++ rest)
unfolding packed
packed_rest row bytes index zero =
    ([], ap (λ n. packed row bytes n) (add-zero index) ∙ sym (append-nil (packed row bytes index)))
packed_rest row bytes index (suc more) =
    let rest = packed_rest row bytes index more in
    let last : List Setting = setting row (index + more) (word_in bytes (index + more)) ∷ [] in (
      rest.0 ++ last,
      ap (λ n. packed row bytes n) (add-suc index more) ∙ ap (λ (l : List Setting). l ++ last) rest.1
          ∙ append_assoc (packed row bytes index) rest.0 last,
    )

pub packed_next : (old mid new : List Call) (row : RowId) (bytes : List ℕ) (index word : ℕ)
    → AreSet old mid (packed row bytes index) → AreSet mid new (setting row index word ∷ [])
    → word ≡ word_in bytes index
    → AreSet old new (packed row bytes (index + 1))
unfolding packed
packed_next old mid new row bytes index word before one is =
    subst (λ (n : ℕ). AreSet old new (packed row bytes n)) (sym (add-one index))
    (set_both old mid new (packed row bytes index) (setting row index (word_in bytes index) ∷ []) before
    (subst (λ (w : ℕ). AreSet mid new (setting row index w ∷ [])) is one))

pub packed_stops : (f : PmdFault) (old mid new : List Call) (row : RowId) (bytes : List ℕ) (index count word : ℕ)
    → index < count → AreSet old mid (packed row bytes index) → SettingFails f mid new (setting row index word)
    → word ≡ word_in bytes index → StopsSetting f old new (packed row bytes count)
unfolding packed
packed_stops f old mid new row bytes index count word within before fails is =
    let sum : suc index + (count - suc index) ≡ count = omega arith in
    let rest = packed_rest row bytes (suc index) (count - suc index) in
    let s : Setting = setting row index (word_in bytes index) in
    stops_here f old mid new (packed row bytes index) rest.0 (packed row bytes count) s before
    (subst (λ (w : ℕ). SettingFails f mid new (setting row index w)) is fails)
    (ap (λ n. packed row bytes n) (sym sum) ∙ rest.1 ∙ append_assoc (packed row bytes index) (s ∷ []) rest.0)

-- The settings of two lists of parts.

all-append : (ps qs : List Part) → all_settings (ps ++ qs) ≡ all_settings ps ++ all_settings qs
all-append [] qs = refl
all-append (p ∷ ps) qs =
    ap (λ (l : List Setting). settings_in p ++ l) (all-append ps qs)
    ∙ sym (append_assoc (settings_in p) (all_settings ps) (all_settings qs))

module _ (all : List Part) (i : ℕ) (d : Part) (below : i < length all) (old mid new : List Call)
    (before : AreSet old mid (all_settings (take i all))) where
  up_to : all_settings (take (i + 1) all) ≡ all_settings (take i all) ++ settings_in (get_or all i d)
  up_to =
      ap (λ (ps : List Part). all_settings ps) (take_more all i d below)
      ∙ all-append (take i all) (get_or all i d ∷ [])
      ∙ ap (λ (l : List Setting). all_settings (take i all) ++ l) (append-nil (settings_in (get_or all i d)))

  -- One more part is written.
  pub part_set : AreSet mid new (settings_in (get_or all i d)) → AreSet old new (all_settings (take (i + 1) all))
  part_set one =
      subst (λ (l : List Setting). AreSet old new l) (sym up_to)
      (set_both old mid new (all_settings (take i all)) (settings_in (get_or all i d)) before one)

  -- Writing stops within a part.
  pub part_stops : (f : PmdFault) → StopsSetting f mid new (settings_in (get_or all i d))
      → StopsSetting f old new (all_settings all)
  part_stops f one =
      let part = settings_in (get_or all i d) in
      let later = all_settings (drop (i + 1) all) in
      let whole : all_settings all ≡ (all_settings (take i all) ++ part) ++ later =
      ap (λ (ps : List Part). all_settings ps) (sym (take-append-drop (i + 1) all))
      ∙ all-append (take (i + 1) all) (drop (i + 1) all)
      ∙ ap (λ (l : List Setting). l ++ later) up_to in
      subst (λ (l : List Setting). StopsSetting f old new l) (sym whole)
      (stops_first f old new (all_settings (take i all) ++ part) later
      (stops_second f old mid new (all_settings (take i all)) part before one))
