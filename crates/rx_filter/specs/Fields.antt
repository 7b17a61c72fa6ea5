-- The bit numbers of the receive registers' flags, under the datasheet's names.
use Rattle.std.specs.Prelude.{ℕ}

-- FCTRL: accept all multicast frames, all unicast frames, and broadcast frames.
abbrev pub MPE : ℕ
MPE = 8

abbrev pub UPE : ℕ
UPE = 9

abbrev pub BAM : ℕ
BAM = 10

-- MCSTCTRL: accept multicast frames listed in MTA.
abbrev pub MFE : ℕ
MFE = 2

-- RAH: the address is valid.
abbrev pub AV : ℕ
AV = 31

-- VT_CTL: frames are distributed among pools; there is no default pool.
abbrev pub VT_ENA : ℕ
VT_ENA = 0

abbrev pub DIS_DEF_POOL : ℕ
DIS_DEF_POOL = 29

-- RXCSUM: descriptors report hashes.
abbrev pub PCSD : ℕ
PCSD = 13
