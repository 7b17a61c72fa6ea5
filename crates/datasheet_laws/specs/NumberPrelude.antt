-- Re-exports the definitions of the lower layers that several files of this crate use. Declares nothing.
pub use Rattle.intr_unit.specs.declared.group.Group.TheVariants.{Pf, Vf}
pub use Rattle.reg_table.specs.Access.{access, access_at, access_of}
pub use Rattle.reg_table.specs.Place.{address_among}
pub use Rattle.reg_table.specs.Rows.{row_of}
unfoldable pub use Rattle.reg_table.specs.Runs.{runs}
pub use Rattle.reg_table.specs.declared.access.Access.{Access}
pub use Rattle.reg_table.specs.declared.kind.Kind.{Kind}
pub use Rattle.reg_table.specs.declared.place.Place.{Place}
pub use Rattle.reg_table.specs.declared.rows.RowId.{RowId}
pub use Rattle.reg_table.specs.declared.rows.RowId.TheVariants.{Ctrl, Eerd, Eicr, Pvfctrl, Srrctl}
pub use Rattle.register_file.specs.Access.{after_read, asks_pool_reset, asks_reset, read_word, written}
pub use Rattle.register_file.specs.Bits.{has_bit}
pub use Rattle.register_file.specs.DmaRing.declared.dir.Dir.TheVariants.{Rx, Tx}
pub use Rattle.register_file.specs.Owner.{owner_of}
pub use Rattle.register_file.specs.PoolReset.{pool_reset}
pub use Rattle.register_file.specs.Registers.{Registers, is_wanted, word_of}
pub use Rattle.register_file.specs.Words.{row_words, word_at}
pub use Rattle.register_file.specs.declared.surroundings.Surroundings.{Surroundings}
pub use Rattle.register_laws.specs.Sound.{HasShape}
pub use Rattle.rss_hash.specs.declared.flow.Flow.{Flow}
pub use Rattle.rx_filter.specs.Sorting.{rss_entry, rss_hash, rss_type}
unfoldable pub use Rattle.rx_filter.specs.Sorting.{sorted}
pub use Rattle.rx_filter.specs.declared.target.Target.{Target}
pub use Rattle.std.specs.Int.{bit_at, to_le_bytes, w32}
pub use Rattle.std.specs.List.{list_any, range_with_len}
pub use Rattle.vf_map.specs.Parts.{place_at}
pub use Rattle.vf_map.specs.Pools.{mode_of, queues_of}
pub use Rattle.vf_map.specs.declared.mode.Mode.{Mode}
