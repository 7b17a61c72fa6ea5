-- `lend` for any handle: it reads the pointer and lends the value to which the pointer points. When the borrow ends,
-- the handle contains the value last written. Assumes `Logic`.
use Rattle.std.proofs.Common.{◌≡◌, ℕ, List, [], ◌∷◌, refl, sym}
use seplogic.Ra.Ura.{Ura}
use mir.Syntax.{Fn, Callee, named, erased, mut, ty_ptr, ty_ref, local, value_local, place, deref, field, copy, assign, rv_opd, addr_of, block, seq, return}
use mir.Raw.{raw as bare}
use mir.Val.{Val, vptr}
use base.Fraction.{full_share}
use base.Logic.{SProp, ent, sep, emp, id⊢}
use base.Fml.{Lft, GName, Fml, ftrue, fsep, flft}
use prog.Model.{Model}
use prog.Wp.{Closed}
use types.Logic.{Logic, sem}
use types.Kit.{‵, raw, ◌⊛◌, some, later, at_ret, ◌$◌, ◌∵◌, !, qed, done, by, move, keep, split, split3, join, group}
use types.Kit.{fsplit, fsplit3, fjoin, fpack, pick, await, rewrite, use0, use1}
use types.Run.{stop, fld, load, addr, of_opd, first, blocks, exec, returns, enter}
use types.ByLocal.{alloc_all, pass_all, free_all, look_at, get, through, sets, sets_last, env}
use types.Part.{sub, whole, look_in}
use contract.Running.{Running, tables}
use contract.Monad.{fact, fact_i}
use contract.Notation.{connectives}
use denote.Exit.{no}
use denote.RattleType.{owns}
use denote.Memory.{cell_at, mem, part_at, part_of}
use denote.RawPtr.{block_ptr}
use denote.Ref.{MutBor, MutRef, mut_vals, mut_Tells}
use denote.Follow.{follows, Part, lends_Part}
use denote.Signature.{Signature, types_at, plain, mut_ref_to}
use denote.Steps.{nothing, opens}
use denote.Param.{layout}
use denote.Triple.Clauses.{Clauses, Ended, closing}
use denote.Triple.Spec.{Meets}
use denote.Triple.Walked.{Stays, stay_dropped, walk_of, Goes-spent_ref}
use Rattle.core.proofs.alloc.Calls.{token}
use Rattle.core.proofs.alloc.Shapes.{after}
use Rattle.std.proofs.raw_atomic.Walks.{proved, leaves}
use Rattle.std_alloc.proofs.BoxSteps.Form.{word, handle}
use Rattle.std_alloc.proofs.BoxSteps.Form as box
use Rattle.std_alloc.proofs.BoxSteps.Steps.{box_out, box_in}
use Rattle.nic82599_c.specs.Lends.{lends}
use Rattle.nic82599_c.proofs.HandleForm.{Handle, E, R, B, with_value}

module _ (F : Handle) where
  -- The code, at the types of any handle and its value.
  abbrev pub function : Fn
  function = record {
    lifetimes = 1;
    outlives = [];
    ty_params = [];
    givens = 0;
    params = 1;
    locals = local (ty_ref (named 0) mut F.of.written.ty) value_local
        ∷ local (ty_ref (named 0) mut (B F).written.ty) value_local
        ∷ local (ty_ref erased mut F.of.written.ty) value_local ∷ local ty_ptr value_local
        ∷ local ty_ptr value_local ∷ [];
    body = seq (block (seq (assign (place 3 []) (rv_opd (copy (place 1 (deref (layout (B F)) ∷ field 0 ∷ [])))))
        (seq (assign (place 4 []) (rv_opd (copy (place 3 []))))
        (assign (place 2 []) (addr_of (place 4 (deref (layout F.of) ∷ [])))))))
        (seq (assign (place 0 []) (rv_opd (copy (place 2 [])))) return);
  }

  abbrev pub signature : Signature
  signature = record {
    lifetimes = 1;
    outlives = [];
    params = mut_ref_to (0 ∷ []) tt (plain (λ κs. B F)) ∷ [];
    result = mut_ref_to (0 ∷ []) tt (plain (λ κs. R F));
  }

  abbrev pub ended : Ended
  ended = record { signature = signature; kept = (no, tt) }

  abbrev stayed : Stays ended.signature.params ended.kept
  stayed = (stay_dropped (mut_ref_to (0 ∷ []) tt (plain (λ κs. B F))) no, tt)

  module _ {M : Type 1} {𝓤 : Ura M} (𝓛 : Logic 𝓤) where
    abbrev pub clauses : Clauses 𝓤 ended
    clauses = λ κs a. record {
      ghost = Unit {0};
      requires = λ g. (connectives 𝓤).⊤ₛ;
      ensures = λ g r e. sep 𝓤 (sem 𝓛 (lends (B F) (R F) (with_value F) a.0 r))
          (fact 𝓤 (r.now ≡ (F.box a.0.now).value));
    }

    -- Everything in the handle except the value to which it points, and the complete handle with another value.
    module _ (h : F.D) (rb ro b o : ℕ) (hv : Val) where
      abbrev Rest : Fml
      Rest = fsep (fsep (token (E F).al (F.box h).alloc (bare (box.τ (E F))) (block_ptr b o))
          (handle (E F) (F.box h).alloc hv)) (cell_at full_share (B F).mir (word (E F) hv b o ∷ []) rb ro)

      back : (F.box h).ptr ≡ block_ptr b o → (w : F.of.Denot)
          → ent 𝓤 (sep 𝓤 (sem 𝓛 ((mem (R F)).own_at w b o)) (sem 𝓛 Rest))
          (sem 𝓛 ((mem (B F)).own_at (with_value F h w) rb ro))
      unfolding part_of
      back lies w =
          let us : List Val = word (E F) hv b o ∷ [] in let v : box.D (E F) = record (F.box h) { value = w } in
          qed 𝓛 (‵ (part_at (R F) full_share w b o) ∷ ‵ Rest ∷ []) ∵ move ! (1 ∷ []) $ fsplit ! $ fsplit ! $
          move ! (3 ∷ []) $ box_in (E F) ! v b o w lies refl $
          rewrite ! 0 (λ (z : box.D (E F)). ‵ ((box.B (E F)).own_val z us)) (sym (F.beta v)) refl $
          use1 𝓛 (‵ ((B F).own_val (with_value F h w) us)) (id⊢ 𝓤 _) $ move ! (1 ∷ 0 ∷ []) $ fjoin ! $
          let own = λ (vs : List Val). (B F).own_val (with_value F h w) vs in
          fpack ! (List Val) (λ vs. fsep (cell_at full_share (B F).mir vs rb ro) (own vs)) us $ done !

    module _ (𝓜 : Model 𝓤 𝓛.H) (𝓡 : Running 𝓤 𝓛.H 𝓜) (k : Callee) where
      pub meets : Closed 𝓤 𝓛.H (tables 𝓤 𝓛.H 𝓜 𝓡 𝓡.env).C (tables 𝓤 𝓛.H 𝓜 𝓡 𝓡.env).Λ k function
          → Meets 𝓛 signature ((tables 𝓤 𝓛.H 𝓜 𝓡 𝓡.env).C k) (closing 𝓛 ended clauses)
      meets closed =
          let 𝓣 = tables 𝓤 𝓛.H 𝓜 𝓡 𝓡.env in
          proved 𝓛 ended stayed clauses 𝓜 𝓡 (Goes-spent_ref 𝓛 1 (0 ∷ []) tt (plain (λ κs. B F)), tt) k function closed
          (λ κs. (mut_vals, tt)) (λ κs. (mut_Tells (named 0) κs.0 (B F), tt)) (λ κs qs bounds a gh are.
          let rb : ℕ = a.0.ref_ptr.0 in let ro : ℕ = a.0.ref_ptr.1 in let γ : GName = a.0.ghost_name in
          let κ : Lft = κs.0 in let q = qs.0 in let h : F.D = a.0.now in let x = (F.box h).value in
          let y : (walk_of 𝓛 ended stayed clauses).Ghost = ((κs, qs, bounds, a, (vptr rb ro ∷ [], tt)), gh) in
          let Post : Val → SProp 𝓤 = (walk_of 𝓛 ended stayed clauses).post y in
          qed 𝓛 (((‵ (flft κ q) ⊛ ‵ ftrue) ⊛ ‵ (owns (types_at signature.params κs) a y.0.4))
          ∷ raw ((clauses κs a).requires gh) ∷ []) ∵
          split ! $ split ! $ move ! (2 ∷ []) $ fsplit ! $ keep ! (0 ∷ 2 ∷ 3 ∷ []) $
          enter ! 𝓣.C 𝓣.Λ function (vptr rb ro ∷ []) Post $ alloc_all ! (λ l. pass_all ! refl ((tt, tt), tt) $
          let Ev = env function.locals l in
          fsplit3 ! $ move ! (1 ∷ 2 ∷ 3 ∷ []) $ opens ! tt (B F) {h = h} rb ro (λ vs. move ! (1 ∷ []) $
          use1 𝓛 (‵ ((box.B (E F)).own_val (F.box h) vs)) (id⊢ 𝓤 _) $
          box_out (E F) ! (F.box h) vs (λ b o hv lies ws fits. move ! (1 ∷ 2 ∷ []) $ fjoin ! $ move ! (1 ∷ []) $
          rewrite ! 2 (λ (us : List Val). ‵ (cell_at full_share (B F).mir us rb ro)) ws refl $
          -- [the value; the right to free it and the allocator; the handle's cell; the open borrow, in three entries]
          first ! $ blocks ! $
          sets ! (of_opd ! (load ! (through ! refl (fld ! refl (stop !))) (look_in ! 2 (sub ! 0 refl (whole !))))) refl
          (tt, tt) $
          sets ! (of_opd ! (get ! refl)) refl (tt, tt) $ sets_last ! (addr ! (through ! refl (stop !))) refl (tt, tt) $
          exec ! 𝓣.C 𝓣.Λ Ev (after 1 function.body) (at_ret Ev Post) $ sets ! (of_opd ! (get ! refl)) refl (tt, tt) $
          move ! (1 ∷ 2 ∷ []) $ fjoin ! $ move ! (2 ∷ 3 ∷ 4 ∷ 1 ∷ 0 ∷ []) $ group ! 5 $
          let rest = sem 𝓛 (Rest h rb ro b o hv) in let again = back h rb ro b o hv lies in
          use1 𝓛 (later (some (λ (δ : GName).
          raw (Part 𝓛 (B F) (R F) (with_value F h) (named 0) κ q rb ro b o γ rest again x δ))))
          (lends_Part 𝓛 (B F) (R F) (with_value F h) (named 0) κ q rb ro b o γ rest again ((B F).coded.code h)
          ((B F).coded.code h) x) $ await ! tt $ pick ! (λ δ.
          let lent : MutBor F.of.Denot = record { ref_ptr = (b, o); ghost_name = δ; now = x } in
          use1 𝓛 (‵ ((MutRef (named 0) κ (R F)).own_val lent (vptr b o ∷ [])) ⊛ ‵ (flft κ q)
          ⊛ ‵ (follows (B F) (R F) γ δ (with_value F h))) (id⊢ 𝓤 _) $ split3 ! $
          returns ! (look_at ! 0 refl) $ free_all ! refl $
          -- [the loan; the token of the borrow; what follows; the pointer; the other tokens]
          move ! (1 ∷ 4 ∷ []) $ join ! $
          use0 𝓛 (raw (fact 𝓤 (x ≡ x))) (fact_i 𝓤 (x ≡ x) (emp 𝓤) refl) $
          move ! (3 ∷ 0 ∷ []) $ join ! $ nothing ! $ nothing ! $ fjoin ! $ keep ! (2 ∷ 0 ∷ 3 ∷ 1 ∷ []) $
          by ! (leaves 𝓛 ended stayed clauses y (vptr b o) lent (tt, tt) (tt, tt)))))))
