use Rattle.std.proofs.Common.{◌≡◌, ◌*◌, [], ◌++◌, sym, ap, ◌∙◌, arith, rules, append_assoc, append-nil, length, length-append, length-drop, List, ℕ}
use Rattle.std.proofs.Output.{has_written_append, has_written_of_eq}
use Rattle.std.proofs.lemmas.List.{length-take-le, nil_from_length}
use Rattle.std.specs.Slice.Iter.{chunks_rest}
use Rattle.text_format.specs.Bytes.{bytes_text}
use Rattle.text_format.proofs.HexBytes.{bytes_text-append, bytes_text-nil, bytes_text-utf8, length-bytes_text}
use Rattle.text_format.proofs.bytes.BytesTextDisplay.fmt.Goals as goal

pub loop-chunk-init : goal.loop-chunk-init
loop-chunk-init g c = (search rules, tt, search rules, search rules, λ plain. ([], search rules, search rules))

pub slice_bounds-digits-end : goal.slice_bounds-digits-end
slice_bounds-digits-end g c =
    let few = c.in-Some.ensures.steps.1.1 in
    omega (arith, c.loop-chunk.invariant.2, few, c.loop-chunk.invariant.3)

pub slice_bounds-digits-end-in-loop-chunk : goal.slice_bounds-digits-end-in-loop-chunk
slice_bounds-digits-end-in-loop-chunk g c =
    let few = c.in-Some.ensures.steps.1.1 in
    sym (length-take-le _ c.loop-chunk.digits (omega (arith, c.loop-chunk.invariant.2, few, c.loop-chunk.invariant.3)))

pub unreachable-requires-in_default-from_utf8 : goal.unreachable-requires-in_default-from_utf8
unreachable-requires-in_default-from_utf8 g c =
    c.in_default-from_utf8.ensures.cases.0 (rw c.in-Ok.ensures.written (bytes_text-utf8 c.in-Some.chunk.now))

pub loop-chunk-preserved : goal.loop-chunk-preserved
loop-chunk-preserved g c =
    let chunk = c.in-Some.chunk.now in
    let steps = c.in-Some.ensures.steps in
    let size = c.loop-chunk.invariant.2 in
    let digits = c.loop-chunk.invariant.3 in
    let shown : c.in-Ok-from_utf8.text.now ≡ bytes_text chunk =
    c.in-Ok-from_utf8.ensures.cases.0 ∙ c.in-Ok.ensures.written in
    let two = ap length c.in-Ok.ensures.written ∙ length-bytes_text chunk in
    let rest = length-drop (2 * length chunk) c.loop-chunk.digits in (
      search rules,
      tt,
      steps.0 ∙ size,
      length-append c.encode_to_slice.new.output _ ∙ omega (arith, steps.1.1, size, digits, two, rest),
      λ plain.
          let so_far = c.loop-chunk.invariant.4 plain in (
            so_far.0 ++ c.in-Ok-from_utf8.text.now,
            has_written_append _ _ _ _ _ _ so_far.1 (search rules),
            append_assoc so_far.0 _ _
                ∙ ap (λ (t : List ℕ). so_far.0 ++ t)
                (rw shown (sym (bytes_text-append chunk (chunks_rest c.next.new.self)) ∙ ap bytes_text (sym steps.1.0)))
                ∙ so_far.2,
          ),
    )

pub returns-clause-writes : goal.returns-clause-writes
returns-clause-writes g c = λ plain _.
    let so_far = c.loop-chunk.invariant.4 plain in
    let none = nil_from_length _ c.in-None.ensures.steps.1.0 in
    has_written_of_eq _ _ _ _ _ (rw (none, bytes_text-nil, append-nil) at so_far.2) so_far.1
