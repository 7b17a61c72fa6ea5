-- This crate's handles and out-parameters, as instances of `Form`.
use mathlib.Core.Path.{refl}
use denote.Array.{Array}
use denote.Builtin.{u8}
use denote.Param.Laws.{of_field, array_laws}
use denote.Param.Shared.{copy_shared}
use denote.Struct.Field.{u8-field}
use denote.Struct.Laws.{u8-laws, u8-copy}
use Rattle.std_heap.specs.contracts.Global as Heap
use Rattle.card.specs.contracts.card.Card as Card
use Rattle.card.specs.contracts.kept.Kept as Kept
use Rattle.card.proofs.card.Card.TheLaws as card
use Rattle.card.proofs.kept.Kept.TheLaws as kept
use Rattle.nic82599_c.specs.contracts.handle.Handle as Handle
use Rattle.nic82599_c.specs.contracts.handle.KeptHandle as KeptHandle
use Rattle.nic82599_c.specs.contracts.exchange.BlockHandle as BlockHandle
use Rattle.nic82599_c.specs.contracts.handed.HandleOut as HandleOut
use Rattle.nic82599_c.specs.contracts.handed.KeptHandleOut as KeptHandleOut
use Rattle.nic82599_c.specs.contracts.exchange.BlockHandleOut as BlockHandleOut
use Rattle.nic82599_c.proofs.HandleForm.{Handle as Holding, Out}

abbrev pub of_card : Holding
of_card = record {
  of = Card.the_row;
  laws = card.the_row_laws;
  name = Handle.struct.name;
  D = Handle.struct.D;
  box = λ h. record { ptr = h.ptr; alloc = h.alloc; value = h.card };
  made = λ v. record { ptr = v.ptr; alloc = v.alloc; card = v.value };
  eta = λ h. refl;
  beta = λ v. refl;
  codes = Handle.the_codes Heap.the_row.coded;
}

abbrev pub of_kept : Holding
of_kept = record {
  of = Kept.the_row;
  laws = kept.the_row_laws;
  name = KeptHandle.struct.name;
  D = KeptHandle.struct.D;
  box = λ h. record { ptr = h.ptr; alloc = h.alloc; value = h.kept };
  made = λ v. record { ptr = v.ptr; alloc = v.alloc; kept = v.value };
  eta = λ h. refl;
  beta = λ v. refl;
  codes = KeptHandle.the_codes Heap.the_row.coded;
}

abbrev pub of_block : Holding
of_block = record {
  of = Array u8 2048;
  laws = array_laws u8 (of_field u8-field u8-laws refl (copy_shared u8-field u8-copy)) 2048;
  name = BlockHandle.struct.name;
  D = BlockHandle.struct.D;
  box = λ h. record { ptr = h.ptr; alloc = h.alloc; value = h.bytes };
  made = λ v. record { ptr = v.ptr; alloc = v.alloc; bytes = v.value };
  eta = λ h. refl;
  beta = λ v. refl;
  codes = BlockHandle.the_codes Heap.the_row.coded;
}

abbrev pub out_of_card : Out
out_of_card = record {
  of = Card.the_row;
  laws = card.the_row_laws;
  name = HandleOut.struct.name;
  D = HandleOut.struct.D;
  box = λ d. record { ptr = d.ptr; alloc = d.alloc; value = d.card };
  made = λ v. record { ptr = v.ptr; alloc = v.alloc; card = v.value };
  eta = λ d. refl;
  beta = λ v. refl;
  codes = HandleOut.the_codes Heap.the_row.coded;
}

abbrev pub out_of_kept : Out
out_of_kept = record {
  of = Kept.the_row;
  laws = kept.the_row_laws;
  name = KeptHandleOut.struct.name;
  D = KeptHandleOut.struct.D;
  box = λ d. record { ptr = d.ptr; alloc = d.alloc; value = d.kept };
  made = λ v. record { ptr = v.ptr; alloc = v.alloc; kept = v.value };
  eta = λ d. refl;
  beta = λ v. refl;
  codes = KeptHandleOut.the_codes Heap.the_row.coded;
}

abbrev pub out_of_block : Out
out_of_block = record {
  of = Array u8 2048;
  laws = array_laws u8 (of_field u8-field u8-laws refl (copy_shared u8-field u8-copy)) 2048;
  name = BlockHandleOut.struct.name;
  D = BlockHandleOut.struct.D;
  box = λ d. record { ptr = d.ptr; alloc = d.alloc; value = d.bytes };
  made = λ v. record { ptr = v.ptr; alloc = v.alloc; bytes = v.value };
  eta = λ d. refl;
  beta = λ v. refl;
  codes = BlockHandleOut.the_codes Heap.the_row.coded;
}
