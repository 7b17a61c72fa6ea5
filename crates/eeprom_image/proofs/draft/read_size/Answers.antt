use Rattle.std.proofs.Common.{refl, inl, inr, ◌≡◌, ◌+◌, ◌∙◌, ap, sym, subst, length, Err, arith}
use Rattle.text_format.specs.Lines.{lines_of, line_of}
use Rattle.eeprom_image.specs.Content.{sized}
use Rattle.eeprom_image.specs.declared.line.TextLine.TheVariants.{Empty, Size, Word, Csr, Malformed}
use Rattle.eeprom_image.specs.declared.line.TextLine.{TextLine}
use Rattle.eeprom_image.specs.declared.text.AsmFault.TheVariants.{Syntax}
use Rattle.eeprom_image.proofs.LineCount.{length-lines_of-le}
use Rattle.eeprom_image.proofs.Numbered.{IsNumberedFrom, IsNumberedFrom-lines_of}
use Rattle.eeprom_image.proofs.CountedLines.{CountsOn, CountsOn-next, CountsOn-le}
use Rattle.eeprom_image.proofs.Started.{content_of-sized, content_of-refused, content_of-none, sized-first, sized-nothing}
use Rattle.eeprom_image.proofs.draft.read_size.Goals as goal

pub empty_lines-init : goal.empty_lines-init
empty_lines-init c =
    let text = c.args.text.now in
    record {
      counts = record {
        numbered = subst (IsNumberedFrom 1) (sym c.of-lines.ensures) (IsNumberedFrom-lines_of text);
        whole = omega (arith, ap length c.of-lines.ensures);
      };
      same = ap sized c.of-lines.ensures;
    }

pub empty_lines-preserved : goal.empty_lines-preserved
empty_lines-preserved c =
    let all = length (lines_of c.args.text.now) in
    let next = CountsOn-next c.empty_lines.count all c.empty_lines.lines c.next.new.self (line_of c.in-Some.line)
    c.empty_lines.invariant.counts c.in-Some.ensures.steps in
    let said = sized-first c.empty_lines.lines c.next.new.self (line_of c.in-Some.line) Empty c.in-Some.ensures.steps
    (sym c.text_line.ensures ∙ c.in-Empty.is) in
    record {
      counts = subst (λ count. CountsOn count c.next.new.self all) (sym next.0) next.1;
      same = sym said ∙ c.empty_lines.invariant.same;
    }

pub returns-in-Size-clause-ok : goal.returns-in-Size-clause-ok
returns-in-Size-clause-ok c =
    let said = sized-first c.empty_lines.lines c.next.new.self (line_of c.in-Some.line) (Size c.in-Size.size)
    c.in-Some.ensures.steps (sym c.text_line.ensures ∙ c.in-Size.is) in
    content_of-sized c.args.text.now c.in-Size.size c.next.new.self (sym c.empty_lines.invariant.same ∙ said)

pub returns-in-Word : goal.returns-in-Word
returns-in-Word c =
    let refused = λ (says : TextLine) (is : c.text_line.result ≡ says).
    content_of-refused c.args.text.now c.empty_lines.lines c.next.new.self (line_of c.in-Some.line) says
    c.empty_lines.invariant.same c.in-Some.ensures.steps (sym c.text_line.ensures ∙ is) in
    record {
      ok = tt;
      err = elim c.in-Word.is [
        | inl (index, value, is) ↦ refused (Word index value) is refl
        | inr other ↦ elim other [
          | inl (offset, value, is) ↦ refused (Csr offset value) is refl
          | inr is ↦ refused Malformed is refl
        ]
      ];
    }

pub overflow_add-result : goal.overflow_add-result
overflow_add-result c =
    let all = length (lines_of c.args.text.now) in
    omega (
      arith,
      CountsOn-le c.empty_lines.count all c.empty_lines.lines c.empty_lines.invariant.counts,
      length-lines_of-le c.args.text.now,
    )

pub returns-clause-err : goal.returns-clause-err
returns-clause-err c =
    let whole = c.empty_lines.invariant.counts.whole in
    let none = ap length c.in_default.ensures.steps.0 in
    let all : length (lines_of c.args.text.now) ≡ c.empty_lines.count = omega arith in
    content_of-none c.args.text.now (sym c.empty_lines.invariant.same
    ∙ sized-nothing c.empty_lines.lines c.in_default.ensures.steps.0)
    ∙ ap (λ n. Err (Syntax (n + 1))) all
