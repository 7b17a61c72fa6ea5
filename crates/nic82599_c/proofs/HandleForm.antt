-- What all handles and out-parameters have in common, whatever they point to: each owns what a box with its value owns.
--     Form           a struct with the record of a box under another name: a box of a value or of an option
--     E, R, B        the box, the value and the struct as rows.        with_value     the struct with another value
use mathlib.Core.Path.{◌≡◌}
use mathlib.Core.List.{List, [], ◌∷◌}
use mir.Syntax.{Sym, impl, tnil, dnil}
use base.Fml.{Fml}
use base.Stored.{Coded}
use denote.RawPtr.{Ptr}
use denote.RattleType.{RattleType}
use denote.Param.Laws.{Laws}
use denote.Struct.Field.{Field, RawPtr-field}
use denote.Struct.Values.{Values}
use denote.Struct.Record.{Record, Also, Done}
use denote.Struct.Owning.{owning, row}
use Rattle.core.proofs.alloc.Calls.{Al}
use Rattle.std_alloc.specs.declared.boxed.Box.{Box}
use Rattle.std_alloc.proofs.BoxSteps.Form.{Bx}
use Rattle.std_alloc.proofs.BoxSteps.Form as box
use Rattle.std_heap.specs.contracts.Global as Heap
use Rattle.std_heap.specs.contracts.GlobalAllocator.TheImpl.{ghosts, dict}
use Rattle.std_heap.specs.declared.Global.{Global}
use Rattle.std_heap.proofs.Global.TheLaws as heap
use Rattle.std.specs.Prelude.{Option}
use Rattle.nic82599_c.specs.Handle.{owns_box, owns_some}

-- The fields: a pointer and an allocator.
abbrev pub parts : List Field
parts = RawPtr-field ∷ Heap.the_field ∷ []

pub record Form (Held : Type 0 → Type 0) (owns : (R : RattleType) → Global → Ptr → Held R.Denot → Fml) : Type 2 where
  pub of : RattleType
  pub laws : Laws of
  pub name : Sym
  pub D : Type 0
  pub box : D → Box (Held of.Denot) Global
  pub made : Box (Held of.Denot) Global → D
  pub eta : (d : D) → made (box d) ≡ d
  pub beta : (v : Box (Held of.Denot) Global) → box (made v) ≡ v
  pub codes : Values parts → Coded (Also (Held of.Denot) (λ x. Done))

-- A handle contains a value; an out-parameter contains a value or nothing.
abbrev pub Handle : Type 2
Handle = Form (λ T. T) owns_box

abbrev pub Out : Type 2
Out = Form Option owns_some

abbrev pub heap_al : Al
heap_al =
    record { row = Heap.the_row; laws = heap.the_row_laws; g = ghosts; d = dict; drops = impl [] tnil dnil }

module _ {Held : Type 0 → Type 0} {owns : (R : RattleType) → Global → Ptr → Held R.Denot → Fml}
    (F : Form Held owns) where
  abbrev pub E : Bx
  E = record { row = F.of; laws = F.laws; al = heap_al }

  abbrev pub R : RattleType
  R = box.R E

  abbrev pub with_value : F.D → Held F.of.Denot → F.D
  with_value d x = F.made (record (F.box d) { value = x })

  abbrev struct : Record
  struct = record {
    name = F.name;
    args = [];
    types = [];
    parts = parts;
    D = F.D;
    as_values = λ d. ((F.box d).ptr, ((F.box d).alloc, tt));
    Ghost = λ v. Also (Held F.of.Denot) (λ x. Done);
    ghosts = λ d. ((F.box d).value, tt);
    make = λ v g. F.made (record { ptr = v.0; alloc = v.1.0; value = g.0 });
    eta = F.eta;
    beta = λ v g i. let z = F.beta (record { ptr = v.0; alloc = v.1.0; value = g.0 }) i in (z.ptr, (z.alloc, tt));
  }

  abbrev pub B : RattleType
  B = row (owning struct F.codes (λ d. owns R (F.box d).alloc (F.box d).ptr (F.box d).value))
