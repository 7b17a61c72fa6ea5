-- `get_mut` lends the value. When the borrow ends, the memory contains the value last written through it. Assumes
-- `Logic`.
use Rattle.std.proofs.Common.{◌≡◌, ℕ, List, [], ◌∷◌, refl}
use mir.Syntax.{a_type, dcons, dnil, named}
use mir.Val.{Val, vptr}
use mir.MapTy.{inst_fn}
use base.Fraction.{full_share}
use base.Logic.{SProp, emp, id⊢}
use base.Fml.{Lft, GName, Fml, ftrue, fsep, flft}
use types.Logic.{sem}
use types.Kit.{‵, raw, ◌⊛◌, some, later, at_ret, ◌$◌, ◌∵◌, !, qed, by, move, keep, split, split3, join, group}
use types.Kit.{fsplit, fsplit3, fjoin, pick, await, rewrite, use0, use1}
use types.Run.{stop, fld, hop, addr, of_opd, first, blocks, exec, returns, enter}
use types.ByLocal.{alloc_all, pass_all, free_all, look_at, get, through, sets, sets_last, env}
use types.Part.{sub, whole, look_in}
use contract.Running.{tables}
use contract.Monad.{fact, fact_i}
use denote.Exit.{no}
use denote.RattleType.{RattleType, owns}
use denote.Signature.{types_at, plain, mut_ref_to}
use denote.Steps.{nothing, opens}
use denote.Memory.{cell_at}
use denote.Param.{param, bounded}
use denote.Param.Laws.{param_laws}
use denote.Ref.{MutBor, MutRef, mut_vals, mut_Tells}
use denote.Follow.{follows, Part, lends_Part}
use denote.Triple.Walked.{Stays, stay_dropped, walk_of, Goes-spent_ref}
use Rattle.core.proofs.alloc.Shapes.{after}
use Rattle.std.proofs.raw_atomic.Walks.{proved, leaves}
use Rattle.dma_arena.specs.Raw.{with_value}
use Rattle.dma_arena.specs.contracts.raw.Raw as C
use Rattle.dma_arena.specs.contracts.raw.Raw.get_mut.{ended, clauses}
use Rattle.dma_arena.specs.contracts.raw.Raw.get_mut.Key.{name as #self}
use Rattle.dma_arena.proofs.RawSteps.{raw_out, Rest, back}
use Rattle.dma_arena.proofs.raw.Raw.get_mut.Statement.{statement}
use Rattle.dma_arena.proofs.raw.Raw.get_mut.Code as code

pub get_mut_spec : {M : Type 1} → statement M
get_mut_spec 𝓤 𝓛 𝓜 𝓡 wired T A L LA g d dd allocator glued =
    let H = 𝓛.H in let 𝓣 = tables 𝓤 H 𝓜 𝓡 𝓡.env in
    let R : RattleType = param 0 T in let Z : RattleType = param 1 A in let LZ = param_laws 1 A LA in
    let En = ended T A g d dd in let c = clauses T A g d dd 𝓛 𝓜.mem 𝓡.returns in
    let inst = bounded (a_type ∷ a_type ∷ []) (T, (A, tt)) (dcons d (dcons dd dnil)) in
    let fn = inst_fn inst code.function in
    let Row : RattleType = C.the_row R Z g in
    let self = mut_ref_to (0 ∷ []) tt (plain (λ _. Row)) in
    let hs : Stays En.signature.params En.kept = (stay_dropped self no, tt) in
    proved 𝓛 En hs c 𝓜 𝓡 (Goes-spent_ref 𝓛 3 (0 ∷ []) tt (plain (λ _. Row)), tt) (#self inst) fn
    (code.unfolded 𝓤 H 𝓜 𝓡 wired (T, (A, tt)) d dd)
    (λ κs. (mut_vals, tt)) (λ κs. (mut_Tells (named 0) κs.0 Row, tt)) (λ κs qs bounds a gh are.
    let b : ℕ = a.0.ref_ptr.0 in let o : ℕ = a.0.ref_ptr.1 in let γ : GName = a.0.ghost_name in
    let κ : Lft = κs.0 in let r : Row.Denot = a.0.now in
    let others : Fml = fsep (flft κs.1.0 qs.1.0) (fsep (flft κs.1.1.0 qs.1.1.0) ftrue) in
    let y : (walk_of 𝓛 En hs c).Ghost = ((κs, qs, bounds, a, (vptr b o ∷ [], tt)), gh) in
    let Post : Val → SProp 𝓤 = (walk_of 𝓛 En hs c).post y in
    qed 𝓛 (((‵ (flft κ qs.0) ⊛ ‵ others) ⊛ ‵ (owns (types_at En.signature.params κs) a y.0.4))
    ∷ raw ((c κs a).requires gh) ∷ []) ∵
    split ! $ split ! $ move ! (2 ∷ []) $ fsplit ! $ keep ! (0 ∷ 2 ∷ 3 ∷ []) $
    enter ! 𝓣.C 𝓣.Λ fn (vptr b o ∷ []) Post $ alloc_all ! (λ l. pass_all ! refl ((tt, tt), tt) $
    let Ev = env fn.locals l in
    fsplit3 ! $ move ! (1 ∷ 2 ∷ 3 ∷ []) $ opens ! tt Row b o (λ us.
    move ! (1 ∷ []) $ raw_out R Z LZ g ! r us (λ b' o' h lies ws fits.
    rewrite ! 2 (λ (vs : List Val). ‵ (cell_at full_share Row.mir vs b o)) ws refl $ fsplit ! $
    -- [the value; the right to free it; the handle; the struct's cell; the open borrow, in three entries]
    first ! $ blocks ! $
    sets_last ! (addr ! (through ! refl (fld ! refl (hop ! (look_in ! 3 (sub ! 0 refl (whole !))) (stop !)))))
    refl (tt, tt) $
    exec ! 𝓣.C 𝓣.Λ Ev (after 1 fn.body) (at_ret Ev Post) $ sets ! (of_opd ! (get ! refl)) refl (tt, tt) $
    move ! (1 ∷ 2 ∷ []) $ fjoin ! $ move ! (0 ∷ 2 ∷ []) $ fjoin ! $
    move ! (2 ∷ 3 ∷ 4 ∷ 1 ∷ 0 ∷ []) $ group ! 5 $
    let rest = sem 𝓛 (Rest R Z LZ g 𝓛 r b o b' o' h) in
    let again = back R Z LZ g 𝓛 r b o b' o' h lies in
    use1 𝓛 (later (some (λ (δ : GName).
    raw (Part 𝓛 Row R (with_value r) (named 0) κ qs.0 b o b' o' γ rest again r.value δ))))
    (lends_Part 𝓛 Row R (with_value r) (named 0) κ qs.0 b o b' o' γ rest again
    (Row.coded.code r) (Row.coded.code r) r.value) $
    await ! tt $ pick ! (λ δ.
    let lent : MutBor T.Denot = record { ref_ptr = (b', o'); ghost_name = δ; now = r.value } in
    use1 𝓛 (‵ ((MutRef (named 0) κ R).own_val lent (vptr b' o' ∷ [])) ⊛ ‵ (flft κ qs.0)
    ⊛ ‵ (follows Row R γ δ (with_value r))) (id⊢ 𝓤 _) $ split3 ! $
    returns ! (look_at ! 0 refl) $ free_all ! refl $
    -- [the loan; the token of the borrow; what follows; the pointer; the other tokens]
    move ! (1 ∷ 4 ∷ []) $ join ! $
    use0 𝓛 (raw (fact 𝓤 (r.value ≡ r.value))) (fact_i 𝓤 (r.value ≡ r.value) (emp 𝓤) refl) $
    move ! (3 ∷ 0 ∷ []) $ join ! $ nothing ! $ nothing ! $ fjoin ! $ keep ! (2 ∷ 0 ∷ 3 ∷ 1 ∷ []) $
    by ! (leaves 𝓛 En hs c y (vptr b' o') lent (tt, tt) (tt, tt)))))))
