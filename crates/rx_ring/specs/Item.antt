use Rattle.std.specs.Prelude.{drop}
use Rattle.rx_ring.specs.Fill.{Rest}
use Rattle.rx_ring.specs.declared.item.Item.{Item}

-- The remaining bytes of an item's frame, and the item's first half.
abbrev pub rest_of : Item → Rest
rest_of item = record { bytes = drop item.offset item.frame.now; first = item.first }
