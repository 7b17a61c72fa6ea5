-- Proves the bytes of each instruction in an object, and the faults of bytes that aren't an object.
use Rattle.std.proofs.Common.{refl}
use Rattle.program.specs.Object.{laid_out, header_in, string_in, strings_in, all_fields_in, meanings, read_of}
use Rattle.script_laws.specs.Objects.{InstructionsAreBytes, ObjectsAreBytes, ObjectsHaveFaults}

pub instructions : InstructionsAreBytes
instructions = record {
  write = λ address word. refl;
  read = λ address. refl;
  vf_write = λ v offset word. refl;
  vf_read = λ v offset. refl;
  lend = λ block. refl;
  unlend = λ block. refl;
  poke = λ address string. refl;
  peek = λ address word. refl;
  arrive = λ string. refl;
  rx = refl;
  tx = λ queue. refl;
  int_pf = refl;
  int_vf = λ v. refl;
  switch_rx = λ queue. refl;
  switch_tx = λ queue. refl;
  eeprom = refl;
  link_down = refl;
  link_up = refl;
  collect = refl;
  expect = λ want mask. refl;
  mask = λ word. refl;
  jump_if = λ word target. refl;
  jump_unless = λ word target. refl;
  jump = λ target. refl;
  halt = refl;
}

pub objects : ObjectsAreBytes
unfolding laid_out
objects = refl

pub faults : ObjectsHaveFaults
unfolding read_of header_in string_in strings_in all_fields_in meanings
faults = record {
  headers = record {
    none = refl;
    three = refl;
    four = refl;
    five = refl;
    six = refl;
    fifteen = refl;
    all = refl;
    magic = refl;
    version = refl;
    next_version = refl;
    unused = refl;
    too_many = refl;
    too_few = refl;
    instructions = refl;
    instruction = refl;
    strings = refl;
    empty_string = refl;
    short_string = refl;
    more = refl;
  };
  instructions = record {
    none = refl;
    after_all = refl;
    first = refl;
    second = refl;
    operation = refl;
    kind = refl;
    number = refl;
    word = refl;
    other_word = refl;
    function = refl;
    no_function = refl;
    no_group = refl;
    no_word = refl;
    no_kind_of_int = refl;
    no_kind_of_qstep = refl;
    no_kind_of_link = refl;
    no_string = refl;
    short_poke = refl;
    target = refl;
    no_target = refl;
    operand = refl;
  };
}
