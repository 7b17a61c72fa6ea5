-- What an offset reaches, given the place that the offset is mapped to, if any.
use Rattle.std.specs.Prelude.{Option, Some, None}
use Rattle.reg_table.specs.declared.place.Place.{Place}
use Rattle.vf_map.specs.declared.located.Located.{Located}
use Rattle.vf_map.specs.declared.located.Located.TheVariants.{Hole, Register}

-- What an offset reaches, given the place that the offset is mapped to, if any.
abbrev pub located_at : Option Place → Located
located_at None = Hole
located_at (Some place) = Register place
