use Rattle.std.proofs.Common.{◌≡◌, ◌+◌, ◌-◌, suc, [], ◌∷◌, ◌++◌, ℕ, List, Result, Ok, Some, None, sym, ap, ◌∙◌, arith, rules}
use Rattle.std.specs.Option.{ok_or}
use Rattle.program.specs.Object.{string_in, strings_in}
use Rattle.program.specs.declared.fault.ObjectFault.TheVariants.{Length}
use Rattle.program.proofs.Strings.{after, after-none, after-more, after-stopped, after-all, after-too_long}
use Rattle.program.proofs.reading.strings_in.Goals as goal

ok_ok : {E : Type 0} {a b : List ℕ} → ◌≡◌ {A = Result (List ℕ) E} (Ok a) (Ok b) → a ≡ b
ok_ok h = cc

pub loop-init : goal.loop-init
loop-init c =
    let whole : c.args.count - 0 ≡ c.args.count = omega arith in
    rw (c.new-strings.ensures.items, whole) (after-none (strings_in c.args.count c.args.bytes.now))

pub returns-in_default : goal.returns-in_default
returns-in_default c =
    let left : c.args.count - c.loop.counter ≡ suc (c.args.count - (c.loop.counter + 1)) = omega arith in
    let none : None ≡ string_in c.loop.rest.now = search rules in
    let stopped = after-stopped c.loop.strings.items _ _ c.loop.rest.now left none in
    let is = sym c.loop.invariant ∙ stopped in
    λ _. ap (λ read. ok_or read Length) is

pub loop-preserved : goal.loop-preserved
loop-preserved c =
    let left : c.args.count - c.loop.counter ≡ suc (c.args.count - (c.loop.counter + 1)) = omega arith in
    let some : Some (c.in-Some.string.now, c.in-Some.after.now) ≡ string_in c.loop.rest.now = search rules in
    let more = after-more c.loop.strings.items _ _ c.loop.rest.now _ _ left some in
    let pushed : c.push.new.self.items ≡ c.loop.strings.items ++ c.in-Some.string.now ∷ [] =
    c.in_ok-push.ensures.items ∙ ap (λ string. c.loop.strings.items ++ string ∷ [])
    (sym (ok_ok c.in_ok-copy_of.ensures)) in
    ap (λ strings. after strings (strings_in (c.args.count - (c.loop.counter + 1)) c.in-Some.after.now)) pushed
    ∙ sym more ∙ c.loop.invariant

pub returns-then-is_empty : goal.returns-then-is_empty
returns-then-is_empty c =
    let none : c.args.count - c.loop.counter ≡ 0 = omega arith in
    let all = after-all c.loop.strings.items c.loop.rest.now c.if-is_empty.ensures in
    let is = sym (rw none at c.loop.invariant) ∙ all in
    ap (λ read. ok_or read Length) is

pub returns-else-is_empty : goal.returns-else-is_empty
returns-else-is_empty c =
    let none : c.args.count - c.loop.counter ≡ 0 = omega arith in
    let long = after-too_long c.loop.strings.items c.loop.rest.now c.if-is_empty.ensures in
    let is = sym (rw none at c.loop.invariant) ∙ long in
    λ _. ap (λ read. ok_or read Length) is
