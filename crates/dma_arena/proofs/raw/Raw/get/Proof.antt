-- `get` follows the address to the value, which a shared borrow of the memory lends. Assumes `Logic`.
use Rattle.std.proofs.Common.{◌≡◌, ℕ, ◌+◌, List, [], ◌∷◌, refl}
use mir.Syntax.{a_type, dcons, dnil, named}
use mir.Val.{Val, vptr}
use mir.MapTy.{inst_fn}
use base.Logic.{SProp, emp}
use base.Fml.{Lft, Fml, ftrue, fsep, fhide, flft}
use types.Kit.{‵, raw, ◌⊛◌, at_ret, ◌$◌, ◌∵◌, !, qed, by, move, keep, split, join, fsplit, fjoin, use0, use1, feq_i}
use types.Run.{look, stop, fld, hop, addr, of_opd, first, blocks, exec, returns, enter}
use types.ByLocal.{alloc_all, pass_all, free_all, look_at, get, through, sets, sets_last, env}
use contract.Running.{tables}
use contract.Monad.{fact, fact_i}
use denote.Exit.{yes}
use denote.RattleType.{RattleType, owns}
use denote.Signature.{types_at, plain}
use denote.RawPtr.{Ptr, InBlock, block_of, count_of}
use denote.Steps.{nothing, heard}
use denote.Opens.{unhide, hide}
use denote.Memory.{hidden_shr}
use denote.Param.{param, bounded}
use denote.Param.Laws.{param_laws}
use denote.Builtin.{RefOf}
use denote.Ref.{shr_vals, shr_Tells}
use denote.Struct.Struct.{Struct}
use denote.Struct.Owning.{shape}
use denote.Struct.Lending.{lent_out, in_block_says}
use denote.Triple.Walked.{Stays, stay_dropped, walk_of, Goes-dropped}
use Rattle.core.proofs.alloc.Shapes.{after}
use Rattle.std.proofs.raw_atomic.Walks.{proved, leaves}
use Rattle.std_alloc.proofs.Words.{pointer_in, pointer_out}
use Rattle.dma_arena.specs.contracts.raw.Raw as C
use Rattle.dma_arena.specs.contracts.raw.Raw.get.{ended, clauses}
use Rattle.dma_arena.specs.contracts.raw.Raw.get.Key.{name as #self}
use Rattle.dma_arena.proofs.RawSteps.{shows_at}
use Rattle.dma_arena.proofs.raw.Raw.get.Statement.{statement}
use Rattle.dma_arena.proofs.raw.Raw.get.Code as code

pub get_spec : {M : Type 1} → statement M
get_spec 𝓤 𝓛 𝓜 𝓡 wired T A L LA g d dd allocator glued =
    let H = 𝓛.H in let 𝓣 = tables 𝓤 H 𝓜 𝓡 𝓡.env in
    let R : RattleType = param 0 T in let Z : RattleType = param 1 A in let LZ = param_laws 1 A LA in
    let En = ended T A g d dd in let c = clauses T A g d dd 𝓛 𝓜.mem 𝓡.returns in
    let inst = bounded (a_type ∷ a_type ∷ []) (T, (A, tt)) (dcons d (dcons dd dnil)) in
    let fn = inst_fn inst code.function in
    let Row : RattleType = C.the_row R Z g in let Words : RattleType = Struct (shape (C.the_type R Z g)) in
    let self = RefOf (0 ∷ []) tt (plain (λ _. Row)) (λ _. tt) in
    let hs : Stays En.signature.params En.kept = (stay_dropped self yes, tt) in
    proved 𝓛 En hs c 𝓜 𝓡 (Goes-dropped 𝓛 3 self yes (λ κs x f. refl), tt) (#self inst) fn
    (code.unfolded 𝓤 H 𝓜 𝓡 wired (T, (A, tt)) d dd)
    (λ κs. (shr_vals, tt)) (λ κs. (shr_Tells (named 0) κs.0 Row, tt)) (λ κs qs bounds a gh are.
    let b : ℕ = a.0.ref_ptr.0 in let o : ℕ = a.0.ref_ptr.1 in let κ : Lft = κs.0 in
    let r : Row.Denot = a.0.now in let p : Ptr = r.at in let there : Val = vptr (block_of p) (count_of p) in
    let others : Fml = fsep (flft κs.1.0 qs.1.0) (fsep (flft κs.1.1.0 qs.1.1.0) ftrue) in
    let y : (walk_of 𝓛 En hs c).Ghost = ((κs, qs, bounds, a, (vptr b o ∷ [], tt)), gh) in
    let Post : Val → SProp 𝓤 = (walk_of 𝓛 En hs c).post y in
    let S : Fml = hidden_shr Words κ (p, (r.alloc, tt)) b o in
    qed 𝓛 (((‵ (flft κ qs.0) ⊛ ‵ others) ⊛ ‵ (owns (types_at En.signature.params κs) a y.0.4))
    ∷ raw ((c κs a).requires gh) ∷ []) ∵
    split ! $ split ! $ move ! (2 ∷ []) $ fsplit ! $ fsplit ! $ keep ! (1 ∷ 3 ∷ 4 ∷ []) $
    enter ! 𝓣.C 𝓣.Λ fn (vptr b o ∷ []) Post $ alloc_all ! (λ l. pass_all ! refl ((tt, tt), tt) $
    let Ev = env fn.locals l in
    use1 𝓛 (‵ S ⊛ ‵ (fhide (C.the_lent R Z g r p κ)))
    (lent_out 𝓛 (C.struct R Z g) (C.the_codes T.Denot A.Denot R.coded Z.coded) (C.the_heap R Z g) (C.the_lent R Z g)
    κ r b o) $
    split ! $ move ! (1 ∷ []) $ unhide ! $ fsplit ! $
    use1 𝓛 (raw (fact 𝓤 (InBlock p))) (in_block_says 𝓛 p) $ heard ! (InBlock p) (λ inb. hide ! $
    -- [the lent value; the fields; the token of the borrow; the other tokens]
    move ! (1 ∷ 2 ∷ []) $ pointer_in ! tt p inb b (o + 0) (shows_at R Z LZ g 𝓛 κ b o r) (λ q.
    first ! $ blocks ! $
    sets_last ! (addr ! (through ! refl (fld ! refl (hop ! (look ! 1 refl) (stop !))))) refl (tt, tt) $
    exec ! 𝓣.C 𝓣.Λ Ev (after 1 fn.body) (at_ret Ev Post) $ sets ! (of_opd ! (get ! refl)) refl (tt, tt) $
    pointer_out ! tt p inb b (o + 0) $
    -- [the token of the borrow; the fields; the lent value; the other tokens]
    move ! (0 ∷ 3 ∷ []) $ join ! $ move ! (2 ∷ []) $
    feq_i ! (List Val) (there ∷ []) (there ∷ []) refl $ fjoin ! $
    use0 𝓛 (raw (fact 𝓤 (r.value ≡ r.value))) (fact_i 𝓤 (r.value ≡ r.value) (emp 𝓤) refl) $
    nothing ! $ nothing ! $ fjoin ! $ returns ! (look_at ! 0 refl) $ free_all ! refl $ keep ! (3 ∷ 0 ∷ 2 ∷ 1 ∷ []) $
    by ! (leaves 𝓛 En hs c y there (record { ref_ptr = (block_of p, count_of p); now = r.value }) (tt, tt) (tt, tt))))))
