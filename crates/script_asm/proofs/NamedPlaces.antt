-- Proves that a name has exactly the number that the statements define.
use Rattle.std.proofs.Common.{◌≡◌, refl, ◌∙◌, ap, ℕ, ◌+◌, Bool, true, false, cond, List, [], ◌∷◌, ◌++◌, length, Some, None, arith}
use Rattle.std.proofs.lemmas.Slice.Eq.{bytes_eq-Decides}
use Rattle.script_asm.specs.Prelude.{bytes_eq}
use Rattle.script_asm.specs.Laws.{strings_in, drafts_in, label_from, data_from, NamesHaveTheirPlaces}
use Rattle.script_asm.specs.declared.statements.Statement.{Statement}
use Rattle.script_asm.specs.declared.statements.Statement.TheVariants.{Empty, Label, Data, Instruction}
use Rattle.script_asm.proofs.Marks.{data_from-append, is_itself, label_from-append, or_else}

label-here : (before after : List Statement) (name : List ℕ) → label_from 0 before name ≡ None
    → label_from 0 (before ++ Label name ∷ after) name ≡ Some (length (drafts_in before))
label-here before after name none =
    label_from-append 0 before (Label name ∷ after) name
    ∙ ap (λ o. or_else o (label_from (0 + length (drafts_in before)) (Label name ∷ after) name)) none
    ∙ is_itself name (0 + length (drafts_in before)) _ ∙ ap Some (omega arith)

data-here : (before after : List Statement) (name string : List ℕ) → data_from 0 before name ≡ None
    → data_from 0 (before ++ Data name string ∷ after) name ≡ Some (length (strings_in before))
data-here before after name string none =
    data_from-append 0 before (Data name string ∷ after) name
    ∙ ap (λ o. or_else o (data_from (0 + length (strings_in before)) (Data name string ∷ after) name)) none
    ∙ is_itself name (0 + length (strings_in before)) _ ∙ ap Some (omega arith)

abbrev GivenLabel : List Statement → List ℕ → Type 0
GivenLabel statements name = (before : List Statement) × (after : List Statement)
    × (statements ≡ before ++ Label name ∷ after)

one_label_more : (s : Statement) (more : List Statement) (name : List ℕ) → GivenLabel more name
    → GivenLabel (s ∷ more) name
one_label_more s more name given = (s ∷ given.0, given.1, ap (λ ss. s ∷ ss) given.2)

first_label : (n : ℕ) (label name : List ℕ) (more : List Statement) (place : ℕ) (b : Bool) → bytes_eq label name ≡ b
    → cond b (Some n) (label_from n more name) ≡ Some place
    → (label_from n more name ≡ Some place → GivenLabel more name) → GivenLabel (Label label ∷ more) name
first_label n label name more place true is e rest =
    ([], more, ap (λ l. Label l ∷ more) ((bytes_eq-Decides label name).0 is))
first_label n label name more place false is e rest = one_label_more (Label label) more name (rest e)

given_label : (n : ℕ) (statements : List Statement) (name : List ℕ) (place : ℕ)
    → label_from n statements name ≡ Some place → GivenLabel statements name
given_label n [] name place e = cc
given_label n (Empty ∷ more) name place e = one_label_more Empty more name (given_label n more name place e)
given_label n (Label label ∷ more) name place e =
    first_label n label name more place (bytes_eq label name) refl e (given_label n more name place)
given_label n (Data other string ∷ more) name place e =
    one_label_more (Data other string) more name (given_label n more name place e)
given_label n (Instruction d ∷ more) name place e =
    one_label_more (Instruction d) more name (given_label (n + 1) more name place e)

abbrev GivenData : List Statement → List ℕ → Type 0
GivenData statements name = (before : List Statement) × (string : List ℕ) × (after : List Statement)
    × (statements ≡ before ++ Data name string ∷ after)

one_data_more : (s : Statement) (more : List Statement) (name : List ℕ) → GivenData more name
    → GivenData (s ∷ more) name
one_data_more s more name given = (s ∷ given.0, given.1, given.2, ap (λ ss. s ∷ ss) given.3)

first_data : (n : ℕ) (other string name : List ℕ) (more : List Statement) (number : ℕ) (b : Bool)
    → bytes_eq other name ≡ b
    → cond b (Some n) (data_from (n + 1) more name) ≡ Some number
    → (data_from (n + 1) more name ≡ Some number → GivenData more name)
    → GivenData (Data other string ∷ more) name
first_data n other string name more number true is e rest =
    ([], string, more, ap (λ l. Data l string ∷ more) ((bytes_eq-Decides other name).0 is))
first_data n other string name more number false is e rest = one_data_more (Data other string) more name (rest e)

given_data : (n : ℕ) (statements : List Statement) (name : List ℕ) (number : ℕ)
    → data_from n statements name ≡ Some number → GivenData statements name
given_data n [] name number e = cc
given_data n (Empty ∷ more) name number e = one_data_more Empty more name (given_data n more name number e)
given_data n (Label label ∷ more) name number e =
    one_data_more (Label label) more name (given_data n more name number e)
given_data n (Data other string ∷ more) name number e =
    first_data n other string name more number (bytes_eq other name) refl e (given_data (n + 1) more name number)
given_data n (Instruction d ∷ more) name number e =
    one_data_more (Instruction d) more name (given_data n more name number e)

pub names_have_their_places : NamesHaveTheirPlaces
names_have_their_places = record {
  label = label-here;
  «data» = data-here;
  given_label = given_label 0;
  given_data = given_data 0;
}
