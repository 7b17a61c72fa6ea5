-- Proves that the outline of lines matches their statements.
use Rattle.std.proofs.Common.{◌≡◌, refl, sym, ◌∙◌, ap, subst, List, [], ◌∷◌, ◌++◌, Result, Ok, Err, append_assoc, append-nil}
use Rattle.script_asm.specs.Prelude.{NumberedLine}
use Rattle.script_asm.specs.Fault.{◌then◌, at_line}
use Rattle.script_asm.specs.Laws.{reading_of, Say, Fit}
use Rattle.script_asm.specs.Outline.{Outline}
use Rattle.script_asm.specs.Script.{with_statement, with_line, with_lines}
use Rattle.script_asm.specs.declared.faults.LineFault.{LineFault}
use Rattle.script_asm.specs.declared.statements.Statement.{Statement}
use Rattle.script_asm.proofs.Leading.{leads, fits}
use Rattle.script_asm.proofs.Tied.{Ties}
use Rattle.script_asm.proofs.Lines.{with_lines-added}
use Rattle.script_asm.proofs.Outcomes.{stepped}

joined : {X : Type 0} (before : List X) (x : X) (more : List X) → (before ++ x ∷ []) ++ more ≡ before ++ x ∷ more
joined before x more = append_assoc before (x ∷ []) more

moved : (r : Outline) (before : List Statement) (s : Statement) (more : List Statement)
    → Ties r ((before ++ s ∷ []) ++ more) → Ties r (before ++ s ∷ more)
moved r before s more ties = subst (λ (ss : List Statement). Ties r ss) (joined before s more) ties

line-Ok : (b a : Outline) (line : NumberedLine) (s : Statement) → reading_of line ≡ Ok s
    → with_statement b line.number s ≡ Ok a → with_line b line ≡ Ok a
line-Ok b a line s here e = ap (λ r. at_line line.number r then λ s. with_statement b line.number s) here ∙ e

-- The lines are read without a fault, and the outline afterwards matches the statements.
abbrev pub Reached : Outline → List Statement → List NumberedLine → List Statement → Type 0
Reached o before lines ss = (r : Outline) × (with_lines o lines ≡ Ok r) × Ties r (before ++ ss)

pub reach : (o : Outline) (before : List Statement) (lines : List NumberedLine) (ss : List Statement) → Ties o before
    → Say lines ss → Fit before ss → Reached o before lines ss
unfolding with_lines
reach o before [] [] ties say fit = (o, refl, subst (λ (ss : List Statement). Ties o ss) (sym (append-nil before)) ties)
reach o before [] (s ∷ ss) ties say fit = cc
reach o before (line ∷ lines) [] ties say fit = cc
reach o before (line ∷ lines) (s ∷ ss) ties say fit =
    let here : reading_of line ≡ Ok s = cc in
    let others : Say lines ss = cc in
    let next = leads o before line.number s ties fit.0 in
    let rest = reach next.0 (before ++ s ∷ []) lines ss next.2 others fit.1 in (
      rest.0,
      with_lines-added o next.0 (line ∷ lines) line lines refl (line-Ok o next.0 line s here next.1) ∙ rest.1,
      moved rest.0 before s ss rest.2,
    )

-- The statements of lines that were read, with proof that they fit and match the outline.
pub record Said (before : List Statement) (lines : List NumberedLine) (r : Outline) : Type 0 where
  pub statements : List Statement
  pub say : Say lines statements
  pub fit : Fit before statements
  pub ties : Ties r (before ++ statements)

said-line : (o a r : Outline) (before : List Statement) (line : NumberedLine) (lines : List NumberedLine)
    (reading : Result Statement LineFault) → reading_of line ≡ reading
    → Ties o before → (at_line line.number reading then λ s. with_statement o line.number s) ≡ Ok a
    → ((after : List Statement) → Ties a after → Said after lines r) → Said before (line ∷ lines) r
said-line o a r before line lines (Err fault) is ties here rest = cc
said-line o a r before line lines (Ok s) is ties here rest =
    let fit = fits o a before line.number s ties here in
    let next = leads o before line.number s ties fit in
    let same : next.0 ≡ a = (let e : Ok next.0 ≡ Ok a = sym next.1 ∙ here in cc) in
    let others = rest (before ++ s ∷ []) (subst (λ (x : Outline). Ties x (before ++ s ∷ [])) same next.2) in
    let all : Say lines others.statements = others.say in
    record {
      statements = s ∷ others.statements;
      say = cc;
      fit = (fit, others.fit);
      ties =
          moved r before s others.statements others.ties;
    }

pub said : (o : Outline) (before : List Statement) (lines : List NumberedLine) (r : Outline) → Ties o before
    → with_lines o lines ≡ Ok r → Said before lines r
unfolding with_lines
said o before [] r ties done =
    let same : o ≡ r = cc in
    record {
      statements = [];
      say = refl;
      fit = tt;
      ties =
          subst (λ (ss : List Statement). Ties r ss) (sym (append-nil before))
          (subst (λ (x : Outline). Ties x before) same ties);
    }
said o before (line ∷ lines) r ties done =
    let next = stepped (with_line o line) (λ a. with_lines a lines) r done in
    said-line o next.0 r before line lines (reading_of line) refl ties next.1
    (λ after is. said next.0 after lines r is next.2)
