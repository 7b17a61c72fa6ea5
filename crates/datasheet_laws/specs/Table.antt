-- The registers as the datasheet lists them for driver authors, a second time and by hand: no generator writes this
-- file, and no line of it comes from the table that the code searches.
use Rattle.std.specs.Prelude.{ℕ, ◌≡◌, ◌<◌, ◌+◌, ◌-◌, ◌*◌, ◌⊎◌, List, [], ◌∷◌, codes, nat_lt, Some, if◌then◌else◌}
use Rattle.reg_table.specs.declared.kind.Kind.TheVariants as kind
use Rattle.reg_table.specs.declared.rows.RowId.TheVariants.{Ctrl, Status, CtrlExt, Ledctl, Pvfctrl, Pfmbicr, Pfmbimr, Eicr, Eics, Eiac, Eitr, Eims, Eimc, Eiam, Gpie, Ivar, IvarMisc, Pvteicr, Pvteics, Pvteims, Pvteimc, Pvteiac, Pvteiam, Rdbal, Rdbah, Rdlen, Rdh, Srrctl, Rdt, Rxdctl, Vfgprc, Qprc, Qprdc, Rqsmr, Rdrxctl, Rxctrl, Mpc, Gprc, Gptc, Ruc, Roc, Hlreg0, Maxfrs, Autoc, Links, Dmatxctl, Pfmailbox, Pvfmailbox, PvtivarMisc, Rxcsum, Fctrl, Mcstctrl, VtCtl, Vfre, Vfte, Mta, Ral, Rah, Mrqc, Reta, Rssrk, Tdbal, Tdbah, Tdlen, Tdh, Tdt, Txdctl, Tdwbal, Tdwbah, Qptc, Mtqc, Vfgptc, Tqsm, Mpsar, Psrtype, Eec, Eerd, GcrExt, Pvtivar, Pfmbmem}
use Rattle.datasheet_laws.specs.NumberPrelude.{Access, Kind, Place, RowId, access, access_at, address_among, row_of, runs}

-- A register: its name, its number of indices, the address of each, its kind, the bits that a write reaches, and the
-- word after a reset.
pub record Line : Type 0 where
  pub name : List ℕ
  pub count : ℕ
  pub address : ℕ → ℕ
  pub kind : Kind
  pub mask : ℕ
  pub reset : ℕ

abbrev pub line : List ℕ → ℕ → (ℕ → ℕ) → Kind → ℕ → ℕ → Line
line name count address kind mask reset =
    record { name = name; count = count; address = address; kind = kind; mask = mask; reset = reset }

abbrev pub whole : ℕ
whole = 0xFFFFFFFF

-- Addresses at equal steps (`steps`), and addresses in two ranges, of which the first contains `count` addresses
-- (`halves`).
abbrev pub steps : (first step : ℕ) → ℕ → ℕ
steps first step i = first + step * i

abbrev pub halves : (count first further step : ℕ) → ℕ → ℕ
halves count first further step i = if nat_lt i count then first + step * i else further + step * (i - count)

abbrev pub line_of : RowId → Line
line_of Ctrl = line (codes "CTRL") 1 (steps 0x00000 4) kind.Ctrl 0xFBFFFFF7 0
line_of Status = line (codes "STATUS") 1 (steps 0x00008 4) kind.Calc whole 0
line_of CtrlExt = line (codes "CTRL_EXT") 1 (steps 0x00018 4) kind.Ctrlext whole 0
line_of Ledctl = line (codes "LEDCTL") 1 (steps 0x00200 4) kind.Rw whole 0
line_of Pvfctrl = line (codes "PVFCTRL") 64 (steps 0x00300 4) kind.Vreset whole 0
line_of Pfmbicr = line (codes "PFMBICR") 4 (steps 0x00710 4) kind.W1c whole 0
line_of Pfmbimr = line (codes "PFMBIMR") 2 (steps 0x00720 4) kind.Rw whole 0xFFFFFFFF
line_of Eicr = line (codes "EICR") 1 (steps 0x00800 4) kind.Cause 0x7FFFFFFF 0
line_of Eics = line (codes "EICS") 1 (steps 0x00808 4) kind.Set whole 0
line_of Eiac = line (codes "EIAC") 1 (steps 0x00810 4) kind.Rw 0x7FFFFFFF 0
line_of Eitr = line (codes "EITR") 128 (halves 24 0x00820 0x12300 4) kind.Rw whole 0
line_of Eims = line (codes "EIMS") 1 (steps 0x00880 4) kind.Ones 0x7FFFFFFF 0
line_of Eimc = line (codes "EIMC") 1 (steps 0x00888 4) kind.Clear whole 0
line_of Eiam = line (codes "EIAM") 1 (steps 0x00890 4) kind.Rw 0x7FFFFFFF 0
line_of Gpie = line (codes "GPIE") 1 (steps 0x00898 4) kind.Rw whole 0
line_of Ivar = line (codes "IVAR") 64 (steps 0x00900 4) kind.Rw whole 0
line_of IvarMisc = line (codes "IVAR_MISC") 1 (steps 0x00A00 4) kind.Rw whole 0
line_of Pvteicr = line (codes "PVTEICR") 64 (steps 0x00B00 4) kind.Cause 7 0
line_of Pvteics = line (codes "PVTEICS") 64 (steps 0x00C00 4) kind.Set whole 0
line_of Pvteims = line (codes "PVTEIMS") 64 (steps 0x00D00 4) kind.Ones 7 0
line_of Pvteimc = line (codes "PVTEIMC") 64 (steps 0x00E00 4) kind.Clear whole 0
line_of Pvteiac = line (codes "PVTEIAC") 64 (steps 0x00F00 4) kind.Rw 7 0
line_of Pvteiam = line (codes "PVTEIAM") 64 (steps 0x04D00 4) kind.Rw 7 0
line_of Rdbal = line (codes "RDBAL") 128 (halves 64 0x01000 0x0D000 0x40) kind.Held 0xFFFFFF80 0
line_of Rdbah = line (codes "RDBAH") 128 (halves 64 0x01004 0x0D004 0x40) kind.Held whole 0
line_of Rdlen = line (codes "RDLEN") 128 (halves 64 0x01008 0x0D008 0x40) kind.Held 0x000FFF80 0
line_of Rdh = line (codes "RDH") 128 (halves 64 0x01010 0x0D010 0x40) kind.Held 0xFFFF 0
line_of Srrctl = line (codes "SRRCTL") 128 (halves 64 0x01014 0x0D014 0x40) kind.Rw whole 0x00000402
line_of Rdt = line (codes "RDT") 128 (halves 64 0x01018 0x0D018 0x40) kind.Rw 0xFFFF 0
line_of Rxdctl = line (codes "RXDCTL") 128 (halves 64 0x01028 0x0D028 0x40) kind.Enable 0xFDFFFFFF 0
line_of Vfgprc = line (codes "VFGPRC") 64 (steps 0x0101C 0x40) kind.Ro whole 0
line_of Qprc = line (codes "QPRC") 16 (steps 0x01030 0x40) kind.Rc whole 0
line_of Qprdc = line (codes "QPRDC") 16 (steps 0x01430 0x40) kind.Rc whole 0
line_of Rqsmr = line (codes "RQSMR") 32 (steps 0x02300 4) kind.Rw whole 0
line_of Rdrxctl = line (codes "RDRXCTL") 1 (steps 0x02F00 4) kind.Rw 0xFFFFFFF7 8
line_of Rxctrl = line (codes "RXCTRL") 1 (steps 0x03000 4) kind.Rw whole 0
line_of Mpc = line (codes "MPC") 1 (steps 0x03FA0 4) kind.Rc whole 0
line_of Gprc = line (codes "GPRC") 1 (steps 0x04074 4) kind.Rc whole 0
line_of Gptc = line (codes "GPTC") 1 (steps 0x04080 4) kind.Rc whole 0
line_of Ruc = line (codes "RUC") 1 (steps 0x040A4 4) kind.Rc whole 0
line_of Roc = line (codes "ROC") 1 (steps 0x040AC 4) kind.Rc whole 0
line_of Hlreg0 = line (codes "HLREG0") 1 (steps 0x04240 4) kind.Rw whole 0x00000403
line_of Maxfrs = line (codes "MAXFRS") 1 (steps 0x04268 4) kind.Rw 0xFFFF0000 0x05EE0000
line_of Autoc = line (codes "AUTOC") 1 (steps 0x042A0 4) kind.Rw whole 0
line_of Links = line (codes "LINKS") 1 (steps 0x042A4 4) kind.Calc whole 0
line_of Dmatxctl = line (codes "DMATXCTL") 1 (steps 0x04A80 4) kind.Rw whole 0x81000000
line_of Pfmailbox = line (codes "PFMAILBOX") 64 (steps 0x04B00 4) kind.Pfmail whole 0
line_of Pvfmailbox = line (codes "PVFMAILBOX") 64 (steps 0x04C00 4) kind.Vfmail whole 0x40
line_of PvtivarMisc = line (codes "PVTIVAR_MISC") 64 (steps 0x04E00 4) kind.Rw whole 0
line_of Rxcsum = line (codes "RXCSUM") 1 (steps 0x05000 4) kind.Rw whole 0
line_of Fctrl = line (codes "FCTRL") 1 (steps 0x05080 4) kind.Rw whole 0
line_of Mcstctrl = line (codes "MCSTCTRL") 1 (steps 0x05090 4) kind.Rw whole 0
line_of VtCtl = line (codes "VT_CTL") 1 (steps 0x051B0 4) kind.Rw whole 0
line_of Vfre = line (codes "VFRE") 2 (steps 0x051E0 4) kind.Rw whole 0
line_of Vfte = line (codes "VFTE") 2 (steps 0x08110 4) kind.Rw whole 0
line_of Mta = line (codes "MTA") 128 (steps 0x05200 4) kind.Rw whole 0
line_of Ral = line (codes "RAL") 128 (steps 0x0A200 8) kind.Rw whole 0
line_of Rah = line (codes "RAH") 128 (steps 0x0A204 8) kind.Rw whole 0
line_of Mrqc = line (codes "MRQC") 1 (steps 0x05818 4) kind.Rw whole 0
line_of Reta = line (codes "RETA") 32 (steps 0x05C00 4) kind.Rw whole 0
line_of Rssrk = line (codes "RSSRK") 10 (steps 0x05C80 4) kind.Rw whole 0
line_of Tdbal = line (codes "TDBAL") 128 (steps 0x06000 0x40) kind.Held 0xFFFFFF80 0
line_of Tdbah = line (codes "TDBAH") 128 (steps 0x06004 0x40) kind.Held whole 0
line_of Tdlen = line (codes "TDLEN") 128 (steps 0x06008 0x40) kind.Held 0x000FFF80 0
line_of Tdh = line (codes "TDH") 128 (steps 0x06010 0x40) kind.Held 0xFFFF 0
line_of Tdt = line (codes "TDT") 128 (steps 0x06018 0x40) kind.Rw 0xFFFF 0
line_of Txdctl = line (codes "TXDCTL") 128 (steps 0x06028 0x40) kind.Enable 0xFDFFFFFF 0
line_of Tdwbal = line (codes "TDWBAL") 128 (steps 0x06038 0x40) kind.Rw 0xFFFFFFFD 0
line_of Tdwbah = line (codes "TDWBAH") 128 (steps 0x0603C 0x40) kind.Rw whole 0
line_of Qptc = line (codes "QPTC") 16 (steps 0x06030 0x40) kind.Rc whole 0
line_of Mtqc = line (codes "MTQC") 1 (steps 0x08120 4) kind.Rw whole 0
line_of Vfgptc = line (codes "VFGPTC") 64 (steps 0x08300 4) kind.Ro whole 0
line_of Tqsm = line (codes "TQSM") 32 (steps 0x08600 4) kind.Rw whole 0
line_of Mpsar = line (codes "MPSAR") 256 (steps 0x0A600 4) kind.Rw whole 0
line_of Psrtype = line (codes "PSRTYPE") 64 (steps 0x0EA00 4) kind.Rw whole 0
line_of Eec = line (codes "EEC") 1 (steps 0x10010 4) kind.Calc whole 0
line_of Eerd = line (codes "EERD") 1 (steps 0x10014 4) kind.Eerd whole 0
line_of GcrExt = line (codes "GCR_EXT") 1 (steps 0x11050 4) kind.Rw whole 0
line_of Pvtivar = line (codes "PVTIVAR") 64 (steps 0x12500 4) kind.Rw whole 0
line_of Pfmbmem = line (codes "PFMBMEM") 1024 (steps 0x13000 4) kind.Rw whole 0

-- A register has its line's name, count, kind, mask and reset value. Its first address for each index is the line's,
-- and an access at that address reaches it, with all its bits.
pub record IsListed (row : RowId) : Type 0 where
  pub name : (row_of row).name ≡ (line_of row).name
  pub count : (row_of row).count ≡ (line_of row).count
  pub kind : (row_of row).kind ≡ (line_of row).kind
  pub mask : (row_of row).mask ≡ (line_of row).mask
  pub reset : (row_of row).reset ≡ (line_of row).reset
  pub first : (i : ℕ) → i < (line_of row).count →
      address_among runs (record { row = row; index = i }) ≡ Some ((line_of row).address i)
  pub met : (i : ℕ) → i < (line_of row).count → access_at ((line_of row).address i) ≡ Some (access row i whole)

abbrev pub RegistersAreListed : Type 0
RegistersAreListed = (row : RowId) → IsListed row

-- These further addresses show all bits of their registers.
pub record HasAliases : Type 0 where
  pub control : access_at 0x00004 ≡ Some (access Ctrl 0 whole)
  pub receive_control : (i : ℕ) → i < 16 → access_at (0x02100 + 4 * i) ≡ Some (access Srrctl i whole)
  pub address_low : (i : ℕ) → i < 16 → access_at (0x05400 + 8 * i) ≡ Some (access Ral i whole)
  pub address_high : (i : ℕ) → i < 16 → access_at (0x05404 + 8 * i) ≡ Some (access Rah i whole)
  pub queues : access_at 0x0EC80 ≡ Some (access Mrqc 0 whole)
  pub redirection : (i : ℕ) → i < 32 → access_at (0x0EB00 + 4 * i) ≡ Some (access Reta i whole)
  pub key : (i : ℕ) → i < 10 → access_at (0x0EB80 + 4 * i) ≡ Some (access Rssrk i whole)
  pub packet_types : (v : ℕ) → v < 16 → access_at (0x05480 + 4 * v) ≡ Some (access Psrtype v whole)

-- These further addresses show only bits 15 to 0 of their registers.
pub record HasLowViews : Type 0 where
  pub causes_set : access_at 0x00A90 ≡ Some (access Eics 0 0xFFFF)
  pub masks : access_at 0x00AA0 ≡ Some (access Eims 0 0xFFFF)
  pub masks_cleared : access_at 0x00AB0 ≡ Some (access Eimc 0 0xFFFF)
  pub auto_mask : access_at 0x00AD0 ≡ Some (access Eiam 0 0xFFFF)

-- A series of `count` addresses at equal steps.
pub record Series : Type 0 where
  pub first : ℕ
  pub step : ℕ
  pub count : ℕ

abbrev pub stepping : (first step count : ℕ) → Series
stepping first step count = record { first = first; step = step; count = count }

abbrev pub IsAmong : List Series → (address : ℕ) → Type 0
IsAmong [] address = ⊥
IsAmong (s ∷ more) address = ((i : ℕ) × (i < s.count × (address ≡ s.first + s.step * i))) ⊎ IsAmong more address

-- All further addresses, including those that show only bits 15 to 0.
abbrev pub further_addresses : List Series
further_addresses =
    stepping 0x00004 4 1 ∷ stepping 0x02100 4 16 ∷ stepping 0x05400 8 16 ∷ stepping 0x05404 8 16
    ∷ stepping 0x05480 4 16 ∷ stepping 0x0EB00 4 32 ∷ stepping 0x0EB80 4 10 ∷ stepping 0x0EC80 4 1
    ∷ stepping 0x00A90 4 1 ∷ stepping 0x00AA0 4 1 ∷ stepping 0x00AB0 4 1 ∷ stepping 0x00AD0 4 1 ∷ []

-- An address is a first address of a register, according to its line.
abbrev pub IsFirst : (address : ℕ) → Place → Type 0
IsFirst address p = p.index < (line_of p.row).count × (address ≡ (line_of p.row).address p.index)

-- No other address reaches a register.
abbrev pub OtherAddressesMeetNone : Type 0
OtherAddressesMeetNone =
    (address : ℕ) (a : Access) → access_at address ≡ Some a →
    IsFirst address a.place ⊎ IsAmong further_addresses address
