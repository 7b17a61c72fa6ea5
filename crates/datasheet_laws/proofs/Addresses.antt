-- The addresses of the interrupt registers.
use Rattle.std.proofs.Common.{◌≡◌, ℕ, Some, refl, lit<}
use Rattle.nic_device.specs.RegTable.declared.rows.RowId.TheVariants.{Eicr, Eics, Eims, Eimc, Eiac, Eiam, Gpie, Pvteicr, Pvteics, Pvteims, Pvteimc, Pvteiac, Pvteiam}
use Rattle.nic_device.proofs.RegTable.Finding.{found-named}
use Rattle.nic_device.proofs.RegTable.FirstAddresses.{first_address, first_address_names}
use Rattle.nic_device.proofs.RegTable.FirstViews.{first_view}
use Rattle.datasheet_laws.specs.Prelude.{Pf, Place, Vf, address_among, place, runs}
use Rattle.datasheet_laws.specs.Names.{IsAddressOf, RegistersHaveAddresses, HasLowViews}

-- The first address of a place shows all bits.
pub address_of : (p : Place) (a : ℕ) → address_among runs p ≡ Some a → IsAddressOf p a 0xFFFFFFFF
address_of p a e = record { named = first_address_names p a e; view = first_view p a e }

pub general_there : IsAddressOf (place Gpie 0) 0x00898 0xFFFFFFFF
general_there = address_of (place Gpie 0) 0x00898 (first_address (place Gpie 0) (lit< tt))

pub addresses : RegistersHaveAddresses
addresses Pf h = record {
  cause = address_of (place Eicr 0) 0x00800 (first_address (place Eicr 0) (lit< tt));
  cause_set = address_of (place Eics 0) 0x00808 (first_address (place Eics 0) (lit< tt));
  mask = address_of (place Eims 0) 0x00880 (first_address (place Eims 0) (lit< tt));
  mask_clear = address_of (place Eimc 0) 0x00888 (first_address (place Eimc 0) (lit< tt));
  auto_clear = address_of (place Eiac 0) 0x00810 (first_address (place Eiac 0) (lit< tt));
  auto_mask = address_of (place Eiam 0) 0x00890 (first_address (place Eiam 0) (lit< tt));
  general = general_there;
}
addresses (Vf v) h = record {
  cause = address_of (place Pvteicr v) _ (first_address (place Pvteicr v) h);
  cause_set = address_of (place Pvteics v) _ (first_address (place Pvteics v) h);
  mask = address_of (place Pvteims v) _ (first_address (place Pvteims v) h);
  mask_clear = address_of (place Pvteimc v) _ (first_address (place Pvteimc v) h);
  auto_clear = address_of (place Pvteiac v) _ (first_address (place Pvteiac v) h);
  auto_mask = address_of (place Pvteiam v) _ (first_address (place Pvteiam v) h);
  general = general_there;
}

pub low_views : HasLowViews
unfolding runs
low_views = record {
  cause_set = record { named = (found-named 0x00A90 (place Eics 0)).0 refl; view = refl };
  mask = record { named = (found-named 0x00AA0 (place Eims 0)).0 refl; view = refl };
  mask_clear = record { named = (found-named 0x00AB0 (place Eimc 0)).0 refl; view = refl };
  auto_mask = record { named = (found-named 0x00AD0 (place Eiam 0)).0 refl; view = refl };
}
