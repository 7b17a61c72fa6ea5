-- Re-exports definitions of lower layers that several files here use. Declares nothing.
pub use Rattle.program.specs.DmaRing.declared.dir.Dir.{Dir}
pub use Rattle.program.specs.DmaRing.declared.dir.Dir.TheVariants.{Rx, Tx}
pub use Rattle.program.specs.Encoding.{HaveWidths, fields_of}
pub use Rattle.program.specs.IntrUnit.declared.Group.{Group}
pub use Rattle.program.specs.IntrUnit.declared.Group.TheVariants.{Pf, Vf}
pub use Rattle.program.specs.Listing.{IsDataString, IsGroup, IsListing, IsSound, Listing, string_at}
pub use Rattle.program.specs.declared.instruction.Instruction.{Instruction}
pub use Rattle.reg_table.specs.Place.{address_among, place_among}
pub use Rattle.reg_table.specs.Rows.{row_of}
pub use Rattle.reg_table.specs.Runs.{runs}
pub use Rattle.reg_table.specs.declared.place.Place.{Place}
pub use Rattle.reg_table.specs.declared.rows.RowId.{RowId}
pub use Rattle.std.specs.BTreeMap.{BTreeMap}
pub use Rattle.std.specs.Cmp.Lexicographic.{slice_cmp}
pub use Rattle.std.specs.List.{AllByRecursion, after_first, before_first, list_all, list_any, position_or_len}
pub use Rattle.std.specs.Option.{ok_or}
pub use Rattle.std.specs.Ordering.{nat_cmp}
pub use Rattle.std.specs.Str.{bytes_eq}
pub use Rattle.text_format.specs.Bytes.{bytes_text}
pub use Rattle.text_format.specs.HexData.{hex_bytes_of}
pub use Rattle.text_format.specs.Lines.{NumberedLine}
unfoldable pub use Rattle.text_format.specs.Lines.{lines_of}
unfoldable pub use Rattle.text_format.specs.Name.{is_name}
pub use Rattle.text_format.specs.Word.{word_text}
unfoldable pub use Rattle.text_format.specs.Words.{words_of}
