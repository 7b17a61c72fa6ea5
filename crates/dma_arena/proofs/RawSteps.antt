-- The machine value of a `Raw`: its address and its allocator's handle. Assumes `Logic`.
use Rattle.std.proofs.Common.{◌≡◌, ℕ, ◌+◌, List, [], ◌∷◌, ◌++◌, refl, sym, subst}
use mathlib.Core.Bool.{true, ◌&&◌}
use lib.Dec.{T}
use seplogic.Ra.Ura.{Ura}
use mir.Syntax.{impl, tnil, dnil}
use mir.Raw.{raw as bare}
use mir.Val.{Val, vptr, vstruct, vcons, vnil, of_list, has_ty, WT}
use base.Logic.{ent, sep, never, fst∗}
use base.Fml.{Lft, Fml, fsep}
use base.Fraction.{full_share}
use types.Logic.{Logic, sem}
use types.Kit.{Item, Goal, Seq, Step, step, ‵, ◌$◌, ◌∵◌, !, qed, done, keep, move, drop}
use types.Kit.{fsplit, fjoin, fpick, fpack, feq_i, feq_l, rewrite}
use denote.RattleType.{RattleType, RowLaws, Valss}
use denote.Builtin.{RawPtr}
use denote.Memory.{lone, hidden_shr, mem, cell_at, part_at, part_of}
use denote.Opens.{shr_dup, unhide, hide}
use denote.RawPtr.{Ptr, block_ptr, null_ptr, ptr_val, in_a_block, ptr_row_laws}
use denote.Steps.{nothing}
use denote.Param.{layout}
use denote.Param.Laws.{Laws}
use denote.Struct.Struct.{Struct, Struct-row_laws, within}
use denote.Struct.Owning.{shape}
use Rattle.core.specs.declared.alloc.Allocator.{Ghosts}
use Rattle.core.proofs.alloc.Calls.{Al, handle_tells}
use Rattle.core.proofs.cell.Inside.{Good}
use Rattle.std_alloc.specs.Box.Ownership.{box_owns}
use Rattle.std_alloc.proofs.ResultValues.{and_tt}
use Rattle.dma_arena.specs.Raw.{with_value}
use Rattle.dma_arena.specs.contracts.raw.Raw as C

-- An address and a handle.
abbrev pub both : ℕ → ℕ → Val → Val
both b o h = vstruct (vcons (vptr b o) (vcons h vnil))

module _ (R Z : RattleType) (L : Laws Z) (g : Ghosts Z.Denot) where
  abbrev pub Row : RattleType
  Row = C.the_row R Z g

  abbrev al : Al
  al = record { row = Z; laws = L; g = g; d = impl [] tnil dnil; drops = impl [] tnil dnil }

  pub good : (b o : ℕ) (h : Val) → Good (layout Z) h → T (has_ty (layout Z) h && true) × WT (both b o h)
  good b o h fits = (and_tt (has_ty (layout Z) h) fits.0, (tt, (fits.1, tt)))

  module _ {M : Type 1} {𝓤 : Ura M} {𝓛 : Logic 𝓤} {K : Type 0} {Γ : List (Item 𝓤)} {G : Goal 𝓤 𝓛.H} where
    -- A `Raw` that is held by value consists of what it owns at its address, and of the handle.
    pub raw_out : K → (d : Row.Denot) (vs : List Val)
        → ((b o : ℕ) (h : Val) → d.at ≡ block_ptr b o → vs ≡ both b o h ∷ [] → Good (layout Z) h
        → Seq K 𝓛 (‵ (box_owns (g.dealloc_token d.alloc) R (block_ptr b o) d.value)
        ∷ ‵ (Z.own_val d.alloc (h ∷ [])) ∷ Γ) G)
        → Seq K 𝓛 (‵ (Row.own_val d vs) ∷ Γ) G
    raw_out t d vs k =
        fsplit t $ fpick t (λ vss. fsplit t $ feq_l t (λ ev. fsplit t $ feq_l t (λ ep. fsplit t $
        handle_tells al t d.alloc vss.1.0 (λ h ea fits. move t (1 ∷ []) $ drop t $ move t (1 ∷ []) $
        in_a_block t d.at (λ p. box_owns (g.dealloc_token d.alloc) R p d.value)
        (fst∗ 𝓤 (never 𝓤) (sem 𝓛 (g.dealloc_token d.alloc (bare (lone R.mir)) null_ptr))) (λ b o e. k b o h e
        (subst (λ (p : Ptr). vs ≡ vstruct (of_list (ptr_val p ∷ h ∷ [])) ∷ []) e
        (subst (λ (ws : List Val). vs ≡ vstruct (of_list (ptr_val d.at ∷ (ws ++ []))) ∷ []) ea
        (subst (λ (ps : List Val). vs ≡ vstruct (of_list (ps ++ (vss.1.0 ++ []))) ∷ []) ep ev))) fits)))))

    pub raw_in : K → (b o : ℕ) (h : Val) (a : Z.Denot) (x : R.Denot)
        → Step K 𝓛 (‵ (Row.own_val (record { at = block_ptr b o; alloc = a; value = x }) (both b o h ∷ [])) ∷ Γ) G
        (‵ (box_owns (g.dealloc_token a) R (block_ptr b o) x) ∷ ‵ (Z.own_val a (h ∷ [])) ∷ Γ) G
    raw_in t b o h a x = step (λ s. let v : Val = both b o h in
        nothing t $ move t (2 ∷ 0 ∷ []) $ fjoin t $
        feq_i t (List Val) (vptr b o ∷ []) (vptr b o ∷ []) refl $ fjoin t $
        feq_i t (List Val) (v ∷ []) (v ∷ []) refl $ fjoin t $
        fpack t (Valss (RawPtr ∷ Z ∷ [])) (within (shape (C.the_type R Z g)) (block_ptr b o, (a, tt)) (v ∷ []))
        (vptr b o ∷ [], (h ∷ [], tt)) $ fjoin t $ s)

  -- What a shared borrow of the fields implies about the address.
  module _ {M : Type 1} {𝓤 : Ura M} (𝓛 : Logic 𝓤) (κ : Lft) (b o : ℕ) (d : Row.Denot) where
    abbrev Words : RattleType
    Words = Struct (shape (C.the_type R Z g))

    abbrev S : Fml
    S = hidden_shr Words κ (d.at, (d.alloc, tt)) b o

    laws : RowLaws Words
    laws = Struct-row_laws (shape (C.the_type R Z g)) (ptr_row_laws, (L.shr_laws, tt))

    pub shows_at : ent 𝓤 (sem 𝓛 S) (sep 𝓤 (sem 𝓛 (hidden_shr RawPtr κ d.at b (o + 0))) (sem 𝓛 S))
    shows_at =
        qed 𝓛 (‵ S ∷ []) ∵ shr_dup ! Words laws (d.at, (d.alloc, tt)) b o κ $ unhide ! $
        fsplit ! $ fsplit ! $ hide ! $ keep ! (0 ∷ 3 ∷ []) $ done !

  -- The memory without its value, and the complete memory with another value.
  module _ {M : Type 1} {𝓤 : Ura M} (𝓛 : Logic 𝓤) (d : Row.Denot) (at_b at_o b o : ℕ) (h : Val) where
    abbrev pub Rest : Fml
    Rest =
        fsep (fsep (g.dealloc_token d.alloc (bare (lone R.mir)) (block_ptr b o)) (Z.own_val d.alloc (h ∷ [])))
        (cell_at full_share Row.mir (both b o h ∷ []) at_b at_o)

    pub back : d.at ≡ block_ptr b o → (w : R.Denot)
        → ent 𝓤 (sep 𝓤 (sem 𝓛 ((mem R).own_at w b o)) (sem 𝓛 Rest))
        (sem 𝓛 ((mem Row).own_at (with_value d w) at_b at_o))
    unfolding part_of
    back lies w =
        qed 𝓛 (‵ (part_at R full_share w b o) ∷ ‵ Rest ∷ []) ∵ move ! (1 ∷ []) $ fsplit ! $ fsplit ! $
        move ! (3 ∷ 0 ∷ []) $ fjoin ! $ raw_in ! b o h d.alloc w $
        rewrite ! 0 (λ (p : Ptr). ‵ (Row.own_val (record { at = p; alloc = d.alloc; value = w }) (both b o h ∷ [])))
        (sym lies) refl $ move ! (1 ∷ 0 ∷ []) $ fjoin ! $
        fpack ! (List Val)
        (λ us. fsep (cell_at full_share Row.mir us at_b at_o) (Row.own_val (with_value d w) us)) (both b o h ∷ []) $
        done !
