-- Re-exports definitions of lower layers that several files cite. Declares nothing.
pub use Rattle.register_file.specs.Access.{after_read, asked, asks_reset, group_in, read_word, stored, written}
pub use Rattle.register_file.specs.Behaviour.{behaviour_of}
pub use Rattle.register_file.specs.Bits.{bit_cleared, bit_set, has_bit, merged}
pub use Rattle.register_file.specs.Columns.{place}
pub use Rattle.register_file.specs.Counters.{counted, counted_wrapping, mapping_row}
pub use Rattle.register_file.specs.DmaRing.declared.dir.Dir.{Dir}
pub use Rattle.register_file.specs.DmaRing.declared.dir.Dir.TheVariants.{Rx, Tx}
pub use Rattle.register_file.specs.Eeprom.{eeprom_answered, eeprom_index}
pub use Rattle.register_file.specs.Groups.{cause_row, causes_raised, clears_others, index_of, interrupts_of, mask_row}
pub use Rattle.register_file.specs.Groups.{message_made, queue_raised, reported_by, vector_entry, vector_row}
pub use Rattle.register_file.specs.Groups.{with_interrupts, with_reported}
pub use Rattle.register_file.specs.IntrUnit.BitSet.{BitSet, IsSubset, intersection}
unfoldable pub use Rattle.register_file.specs.IntrUnit.BitSet.{contains}
unfoldable pub use Rattle.register_file.specs.IntrUnit.Group.{group_bits}
pub use Rattle.register_file.specs.IntrUnit.Interrupts.{Interrupts, IsConsistent, after_mask_clear, after_mask_set}
pub use Rattle.register_file.specs.IntrUnit.Interrupts.{after_write_one, raised}
pub use Rattle.register_file.specs.IntrUnit.declared.group.Group.{Group}
pub use Rattle.register_file.specs.IntrUnit.declared.group.Group.TheVariants.{Pf, Vf}
pub use Rattle.register_file.specs.Mailbox.{by_function, by_sending, is_mail_cause, mail_of}
pub use Rattle.register_file.specs.Owner.{is_group, is_owner, owner_in, owner_of}
unfoldable pub use Rattle.register_file.specs.PoolReset.{pool_reset}
pub use Rattle.register_file.specs.PoolReset.{is_renewed, mixed}
pub use Rattle.register_file.specs.Queue.{enable_row, is_on, ring_of, with_head}
pub use Rattle.register_file.specs.RegTable.Counter.{bumped}
pub use Rattle.register_file.specs.RegTable.Rows.{number_of, row_of, rows}
pub use Rattle.register_file.specs.RegTable.declared.bank.Bank.{Bank}
pub use Rattle.register_file.specs.RegTable.declared.kind.Kind.{Kind}
pub use Rattle.register_file.specs.RegTable.declared.place.Place.{Place}
pub use Rattle.register_file.specs.RegTable.declared.rows.RowId.{RowId}
pub use Rattle.register_file.specs.RegTable.declared.rows.RowId.TheVariants.{Eerd, Pvfmailbox}
pub use Rattle.register_file.specs.Registers.{Registers, is_wanted, reset_registers, with_wanted, with_word, word_of}
pub use Rattle.register_file.specs.VfMap.Owner.{has_queue, is_of_pool, is_of_pool_by, is_shared}
pub use Rattle.register_file.specs.VfMap.declared.mode.Mode.{Mode}
pub use Rattle.register_file.specs.Words.{put, row_words, word_at}
pub use Rattle.register_file.specs.declared.owner.Owner.{Owner}
pub use Rattle.std.specs.Int.{bit_at}
pub use Rattle.std.specs.List.{range_with_len}
pub use Rattle.std.specs.Option.{option_map_or}
