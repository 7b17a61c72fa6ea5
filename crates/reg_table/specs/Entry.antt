use Rattle.reg_table.specs.declared.row.Entry.{Entry}
use Rattle.reg_table.specs.Row.{Row, row}

-- The row that an entry of the code's table describes.
abbrev pub row_in : Entry → Row
row_in e = row e.name.now e.count e.kind e.bank e.mask e.reset
