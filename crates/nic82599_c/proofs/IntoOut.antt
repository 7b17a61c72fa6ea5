-- `of` for any out-parameter: it moves two fields, and what the fields own moves with them. Assumes `Logic`.
use Rattle.std.proofs.Common.{◌≡◌, List, [], ◌∷◌, ◌++◌, refl, sym, subst, ap}
use seplogic.Ra.Ura.{Ura}
use mir.Syntax.{Fn, Callee, ty_ptr, local, value_local, place, field, copy, assign, rv_opd, aggregate, seq, return}
use mir.Val.{Val}
use base.Logic.{SProp, ent, emp, id⊢}
use base.Fml.{ftrue, fsep}
use prog.Model.{Model}
use prog.Wp.{Closed, WpFn}
use types.Logic.{Logic}
use types.Kit.{‵, raw, ◌⊛◌, ◌$◌, ◌∵◌, !, qed, by, move, keep, drop, split, fsplit, fjoin, rewrite, suffices, use0, use1}
use types.Run.{stop, fld, no_more, and_then, of_opd, returns, enter}
use types.ByLocal.{alloc_all, pass_all, free_all, look_at, get, get_in, sets}
use types.Part.{sub, whole, agg}
use contract.Running.{Running, tables}
use contract.Monad.{fact, fact_i}
use contract.Notation.{connectives}
use denote.Exit.{no}
use denote.RattleType.{RattleType}
use denote.Signature.{Signature, plain}
use denote.Steps.{nothing}
use denote.Param.{layout}
use denote.Triple.Clauses.{Clauses, Ended, closing}
use denote.Triple.Spec.{Meets}
use denote.Triple.Walked.{Stays, stay_dropped, walk_of}
use Rattle.std.proofs.raw_atomic.Walks.{proved_at, leaves}
use Rattle.core.proofs.alloc.Calls.{Goes-blank}
use Rattle.std_alloc.proofs.BoxSteps.Form.{word, box_typed}
use Rattle.std_alloc.proofs.BoxSteps.Form as box
use Rattle.std_alloc.proofs.BoxSteps.Steps.{box_out, box_in}
use Rattle.std_heap.specs.contracts.Global as Heap
use Rattle.std_heap.specs.contracts.GlobalAllocator.TheImpl.{ghosts}
use Rattle.nic82599_c.specs.contracts.parts.Parts as Parts
use Rattle.std.specs.Prelude.{Option, Some}
use Rattle.std_alloc.specs.declared.boxed.Box.{Box}
use Rattle.std_heap.specs.declared.Global.{Global}
use Rattle.nic82599_c.proofs.HandleForm.{Out, E, R, B}

-- The out-parameter whose record is the box's own.
abbrev plainly : Out → Out
plainly F = record {
  of = F.of;
  laws = F.laws;
  name = F.name;
  D = Box (Option F.of.Denot) Global;
  box = λ v. v;
  made = λ v. v;
  eta = λ v. refl;
  beta = λ v. refl;
  codes = F.codes;
}

module _ (F : Out) where
  abbrev From : RattleType
  From = Parts.the_row (R F) Heap.the_row ghosts

  -- The code, at the types of any out-parameter and its value.
  abbrev pub function : Fn
  function = record {
    lifetimes = 0;
    outlives = [];
    ty_params = [];
    givens = 0;
    params = 1;
    locals = local (layout (B F)) value_local ∷ local (layout From) value_local ∷ local ty_ptr value_local
        ∷ local (layout Heap.the_row) value_local ∷ local ty_ptr value_local ∷ [];
    body = seq (assign (place 2 []) (rv_opd (copy (place 1 (field 0 ∷ [])))))
        (seq (assign (place 3 []) (rv_opd (copy (place 1 (field 1 ∷ [])))))
        (seq (assign (place 4 []) (rv_opd (copy (place 2 []))))
        (seq (assign (place 0 []) (aggregate (copy (place 4 []) ∷ copy (place 3 []) ∷ []))) return)));
  }

  abbrev pub signature : Signature
  signature = record {
    lifetimes = 0;
    outlives = [];
    params = plain (λ κs. From) ∷ [];
    result = plain (λ κs. B F);
  }

  abbrev pub ended : Ended
  ended = record { signature = signature; kept = (no, tt) }

  abbrev stayed : Stays ended.signature.params ended.kept
  stayed = (stay_dropped (plain (λ κs. From)) no, tt)

  module _ {M : Type 1} {𝓤 : Ura M} (𝓛 : Logic 𝓤) where
    abbrev pub clauses : Clauses 𝓤 ended
    clauses = λ κs a. record {
      ghost = Unit {0};
      requires = λ g. (connectives 𝓤).⊤ₛ;
      ensures = λ g r e. fact 𝓤 ((F.box r).value ≡ Some a.0.value);
    }

    module _ (𝓜 : Model 𝓤 𝓛.H) (𝓡 : Running 𝓤 𝓛.H 𝓜) (k : Callee) where
      pub meets : Closed 𝓤 𝓛.H (tables 𝓤 𝓛.H 𝓜 𝓡 𝓡.env).C (tables 𝓤 𝓛.H 𝓜 𝓡 𝓡.env).Λ k function
          → Meets 𝓛 signature ((tables 𝓤 𝓛.H 𝓜 𝓡 𝓡.env).C k) (closing 𝓛 ended clauses)
      meets closed =
          let 𝓣 = tables 𝓤 𝓛.H 𝓜 𝓡 𝓡.env in
          proved_at 𝓛 ended stayed clauses 𝓜 𝓡 (Goes-blank 𝓛 0 (plain (λ κs. From)) no (λ κs x f. tt), tt) k
          function closed (λ z are.
          let v : box.D (E F) = record { ptr = z.0.3.0.ptr; alloc = z.0.3.0.alloc; value = z.0.3.0.value } in
          let held : Box (Option F.of.Denot) Global = record { ptr = v.ptr; alloc = v.alloc; value = Some v.value } in
          let made : F.D = F.made held in
          let Post : Val → SProp 𝓤 = (walk_of 𝓛 ended stayed clauses).post z in
          let Run : List Val → SProp 𝓤 = λ ws. WpFn 𝓤 𝓛.H 𝓣.C 𝓣.Λ function ws Post in
          qed 𝓛 ((‵ ftrue ⊛ ‵ (fsep ((box.B (E F)).own_val v z.0.4.0) ftrue)) ∷ raw (emp 𝓤) ∷ []) ∵
          split ! $ drop ! $ fsplit ! $
          box_out (E F) ! v z.0.4.0 (λ b o hv lies ws fits. box_in (E F) ! v b o v.value lies refl $
          let w : Val = word (E F) hv b o in let typed = box_typed (E F) hv b o fits in
          let own = λ (x : Box (Option F.of.Denot) Global). ‵ ((B (plainly F)).own_val x (w ∷ [])) in
          use1 𝓛 (own held) (id⊢ 𝓤 _) $ rewrite ! 0 own (sym (F.beta held)) refl $
          use1 𝓛 (‵ ((B F).own_val made (w ∷ []))) (id⊢ 𝓤 _) $ move ! (1 ∷ 2 ∷ []) $ drop ! $ drop ! $
          suffices ! (Run (w ∷ []))
          (subst (λ (us : List Val). ent 𝓤 (Run (w ∷ [])) (Run us)) (sym (λ i. ws i ++ [])) (id⊢ 𝓤 (Run (w ∷ [])))) $
          enter ! 𝓣.C 𝓣.Λ function (w ∷ []) Post $ alloc_all ! (λ l. pass_all ! refl (typed, tt) $
          sets ! (of_opd ! (get_in ! (fld ! refl (stop !)) (sub ! 0 refl (whole !)))) refl (tt, tt) $
          sets ! (of_opd ! (get_in ! (fld ! refl (stop !)) (sub ! 1 refl (whole !)))) refl fits $
          sets ! (of_opd ! (get ! refl)) refl (tt, tt) $
          sets ! (agg ! (and_then ! (get ! refl) (and_then ! (get ! refl) (no_more !)))) refl typed $
          returns ! (look_at ! 0 refl) $ free_all ! refl $
          let is : (F.box made).value ≡ Some v.value = ap (λ (x : Box (Option F.of.Denot) Global). x.value)
          (F.beta held) in
          use0 𝓛 (raw (fact 𝓤 ((F.box made).value ≡ Some v.value))) (fact_i 𝓤 ((F.box made).value ≡ Some v.value)
          (emp 𝓤) is) $
          nothing ! $ nothing ! $ fjoin ! $ nothing ! $ keep ! (0 ∷ 1 ∷ 3 ∷ 2 ∷ []) $
          by ! (leaves 𝓛 ended stayed clauses z w made (tt, tt) (tt, tt)))))
