-- Lemmas about where a driver's blocks are after its stop failed.
use Rattle.std.proofs.Common.{◌≡◌, ℕ, zero, suc, inl, inr, cond, List, [], ◌++◌, refl, sym, ap, subst, ◌∙◌, arith}
use Rattle.std.proofs.lemmas.List.{append-nil}
use Rattle.pmd_access.specs.NicDevice.DmaArena.Numbers.{Numbers, is_free}
use Rattle.pmd_access.specs.NicDevice.DmaArena.Whereabouts.{times_in_hand}
use Rattle.pmd_access.specs.DeviceLock.declared.entry.Call.{Call}
use Rattle.pmd_access.specs.Bufs.{with_all_free}
use Rattle.pmd_access.specs.Home.{AreOut, Bringing, BringsOne, Brings}
use Rattle.pmd_access.specs.declared.fault.PmdFault.{PmdFault}
use Rattle.pmd_access.proofs.Outside.{times-append, out_fewer, out_first}
use Rattle.pmd_access.specs.Named.{AtPort}
use Rattle.pmd_driver.specs.Halted.{Halted, all_out}
use Rattle.pmd_driver.specs.Stopping.{StopFails, IsInPart, IsLeft, IsLeftDuring, bringing, closed}
use Rattle.pmd_driver.proofs.Bringing.{brings_out, brings_own, brings_few}
use Rattle.pmd_driver.specs.Blocks.{KeepsEach, HasAll, LosesNone}
use Rattle.pmd_driver.proofs.Several.{all_given, all_own_same}
use Rattle.pmd_driver.proofs.Whole.{has_out, keeps_then, keeps_counted, one_given}

-- If some of the blocks in hand are returned to the arena, the driver still has all its blocks.

part_has : (a : Numbers) (h : Halted) (gone kept : List ℕ) → gone ++ kept ≡ h.held → HasAll a h []
    → HasAll a (record h { arena = with_all_free h.arena gone; held = kept }) []
part_has a h gone kept is has =
    let lent : List ℕ = h.way.lent in
    let same : (n : ℕ) → times_in_hand (gone ++ (lent ++ kept)) n ≡ times_in_hand (all_out h ++ []) n =
    λ n. omega (
      arith,
      ap (λ (l : List ℕ). times_in_hand l n) is,
      times-append gone kept n,
      times-append gone (lent ++ kept) n,
      times-append lent kept n,
      times-append (all_out h) [] n,
      times-append lent h.held n,
    ) in
    let out : AreOut h.arena (gone ++ (lent ++ kept)) =
    out_fewer h.arena (all_out h ++ []) (gone ++ (lent ++ kept)) (has_out a h [] has)
    (λ n. omega (arith, same n)) in
    keeps_counted a (with_all_free h.arena gone) [] (lent ++ kept) ((lent ++ kept) ++ [])
    (λ n. omega (arith, times-append (lent ++ kept) [] n))
    (keeps_then a h.arena (with_all_free h.arena gone) [] (gone ++ (lent ++ kept)) (lent ++ kept)
    (keeps_counted a h.arena [] (all_out h ++ []) (gone ++ (lent ++ kept)) same has)
    (all_given h.arena gone (lent ++ kept) out))

pub part_loses : (a : Numbers) (h left : Halted) → IsInPart h left → LosesNone a h → LosesNone a left
part_loses a h left part (owns, has) =
    subst (λ (x : Halted). LosesNone a x) (sym part.left_is) (
      λ n. all_own_same h.arena part.gone n ∙ owns n,
      λ none. part_has a h part.gone part.kept part.parts (has none),
    )

closed_loses : (a : Numbers) (h : Halted) → LosesNone a h → LosesNone a (closed h)
closed_loses a h loses =
    part_loses a h (closed h)
    (record { gone = h.held; kept = []; parts = append-nil h.held; left_is = refl }) loses

-- If a lent block is returned and not lost, the count of each block is kept.

one_keeps : (s t : Bringing) → BringsOne s t → AreOut s.arena s.way.lent → t.way.lost ≡ s.way.lost
    → KeepsEach s.arena s.way.lent t.arena t.way.lent
one_keeps s t (n, is, inl home) out none =
    let here = out_first s.arena t.way.lent n (subst (λ (xs : List ℕ). AreOut s.arena xs) is out) in
    rw (home.arena, is) (one_given s.arena t.way.lent n here.0 here.1)
one_keeps s t (n, is, inr missed) out none = absurd (omega (arith, missed.lost, none))

brings_keeps : (count : ℕ) (s t : Bringing) → Brings count s t → AreOut s.arena s.way.lent
    → t.way.lost ≡ s.way.lost → KeepsEach s.arena s.way.lent t.arena t.way.lent
brings_keeps zero s t same out none =
    subst (λ (b : Bringing). KeepsEach s.arena s.way.lent b.arena b.way.lent) (sym same)
    (record { owns = λ n. refl; each = λ n. refl })
brings_keeps (suc count) s t (mid, before, one) out none =
    let first = brings_few count s mid before in
    let then = brings_few (suc zero) mid t (mid, refl, one) in
    let early : mid.way.lost ≡ s.way.lost = omega (arith, first.0, then.0, none) in
    let late : t.way.lost ≡ mid.way.lost = omega (arith, first.0, then.0, none) in
    keeps_then s.arena mid.arena t.arena s.way.lent mid.way.lent t.way.lent
    (brings_keeps count s mid before out early)
    (one_keeps mid t one (brings_out count s mid before out) late)

unheld : (xs : List ℕ) (n : ℕ) → times_in_hand ((xs ++ []) ++ []) n ≡ times_in_hand xs n
unheld xs n = omega (arith, times-append (xs ++ []) [] n, times-append xs [] n)

left_has : (a : Numbers) (k left : Halted) (count : ℕ) (s t : Bringing) → k.held ≡ [] → left.held ≡ []
    → s.arena ≡ k.arena → s.way ≡ k.way → left.arena ≡ t.arena → left.way ≡ t.way → Brings count s t
    → t.way.lost ≡ s.way.lost → HasAll a k [] → HasAll a left []
left_has a k left count s t none unheld_left is way arena same brings lost has =
    let out : AreOut s.arena s.way.lent =
    rw (is, way) (out_fewer k.arena (all_out k ++ []) k.way.lent (has_out a k [] has)
    (λ n. omega (
      arith,
      times-append (all_out k) [] n,
      times-append k.way.lent k.held n,
    ))) in
    let keeps = brings_keeps count s t brings out lost in
    record {
      owns = λ n. rw arena (keeps.owns n ∙ rw is (has.owns n));
      each = λ n. omega (
        arith,
        keeps.each n,
        has.each n,
        ap {B = ℕ} (λ (x : Numbers). cond (is_free x n) 1 0) is,
        ap {B = ℕ} (λ (x : Numbers). cond (is_free x n) 1 0) arena,
        ap (λ x. times_in_hand x.lent n) way,
        ap (λ x. times_in_hand x.lent n) same,
        ap (λ (o : List ℕ). times_in_hand ((k.way.lent ++ o) ++ []) n) none,
        unheld k.way.lent n,
        ap (λ (o : List ℕ). times_in_hand ((left.way.lent ++ o) ++ []) n) unheld_left,
        unheld left.way.lent n,
      );
    }

-- A stop that failed while blocks were being returned loses no block without counting it.

during_loses : (a : Numbers) (f : PmdFault) (old new : List Call) (h left : Halted)
    → IsLeftDuring f old (closed h) new left → LosesNone a (closed h) → LosesNone a left
during_loses a f old new h left (refusal, is, (count, mid, brings, adds, arena, way, waits), same) (owns, has) =
    let s : Bringing = bringing old (closed h) in
    let few = brings_few count s mid brings in (
      λ n. rw arena (brings_own count s mid brings n ∙ owns n),
      λ none.
          let late : mid.way.lost ≡ 0 = ap (λ x. x.lost) (sym way) ∙ none in
          left_has a (closed h) left count s mid refl (ap (λ (x : Halted). x.held) same) refl refl arena way brings
          (omega (arith, few.0, late)) (has (omega (arith, few.0, late))),
    )

left_loses : (a : Numbers) (f : PmdFault) (q : AtPort) (old new : List Call) (h left : Halted)
    → IsLeft f q old (closed h) new left → LosesNone a (closed h) → LosesNone a left
left_loses a f q old new h left (inl (fails, same)) loses =
    subst (λ (x : Halted). LosesNone a x) (sym same) loses
left_loses a f q old new h left (inr (mid, off, during)) loses = during_loses a f mid new h left during loses

pub fails_after : (a : Numbers) (f : PmdFault) (q : AtPort) (old new : List Call) (h left : Halted)
    → StopFails f q old h new left → LosesNone a h → LosesNone a left
fails_after a f q old new h left (inl (is, made, part)) loses = part_loses a h left part loses
fails_after a f q old new h left (inr left_at) loses =
    left_loses a f q old new h left left_at (closed_loses a h loses)
