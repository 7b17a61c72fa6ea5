use Rattle.std.proofs.Common.{sym, ap, ◌∙◌}
use Rattle.script_asm.specs.Places.{Places, place_of, shown}
use Rattle.script_asm.proofs.Naming.{place_of-shown}
use Rattle.script_asm.proofs.places.Places.place_of.Goals as goal

pub returns : goal.returns
returns c =
    c.copied.ensures ∙ c.get.ensures.value ∙ sym (place_of-shown c.self.inside.numbers c.as_str.result.now)
    ∙ ap (place_of (shown c.self.inside.numbers)) c.as_str.ensures
    ∙ ap (λ (places : Places). place_of places c.args.name.now) c.self.view_is
