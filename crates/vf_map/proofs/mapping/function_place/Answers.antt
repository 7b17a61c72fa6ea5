use Rattle.std.proofs.Common.{sym, ◌∙◌}
use Rattle.vf_map.specs.Map.{own_entries, message_entries}
use Rattle.vf_map.proofs.Chains.{in_first, in_second}
use Rattle.vf_map.proofs.mapping.function_place.Goals as goal

pub returns-in-Some : goal.returns-in-Some
returns-in-Some c =
    sym (in_first (own_entries c.args.v) (message_entries c.args.v) c.args.offset c.in-Some.place
    (sym c.in-Some.ensures))

pub returns : goal.returns
returns c =
    c.message_place.ensures
    ∙ sym (in_second (own_entries c.args.v) (message_entries c.args.v) c.args.offset
    (sym c.own_place.ensures ∙ c.in_default.is))
