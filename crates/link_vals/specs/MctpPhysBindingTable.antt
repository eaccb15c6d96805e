-- The physical bindings of MCTP links: numbers, as DSP0239 of DMTF assigns them, and texts.
use Rattle.std.specs.Prelude.{ℕ, List, [], ◌∷◌, codes, ◌++◌}
use Rattle.std.specs.Fmt.{decimal}
use Rattle.link_vals.specs.Table.{value_of}
use Rattle.link_vals.specs.declared.mctp_phys_binding.MctpPhysBinding.{MctpPhysBinding}
use Rattle.link_vals.specs.declared.mctp_phys_binding.MctpPhysBinding.TheVariants.{Smbus, PcieVdm, Usb, Kcs, Serial}
use Rattle.link_vals.specs.declared.mctp_phys_binding.MctpPhysBinding.TheVariants.{I3c, Mmbi, Pcc, Ucie, Vendor}
use Rattle.link_vals.specs.declared.mctp_phys_binding.MctpPhysBinding.TheVariants.{Other}

-- the listed values, in the order of their numbers
abbrev pub mctp_phys_binding_listed : List MctpPhysBinding
mctp_phys_binding_listed =
    Smbus ∷ PcieVdm ∷ Usb ∷ Kcs ∷ Serial ∷ I3c ∷ Mmbi ∷ Pcc ∷ Ucie ∷ Vendor ∷ []

-- the number of a value
unfoldable pub mctp_phys_binding_number : MctpPhysBinding → ℕ
mctp_phys_binding_number Smbus = 1
mctp_phys_binding_number PcieVdm = 2
mctp_phys_binding_number Usb = 3
mctp_phys_binding_number Kcs = 4
mctp_phys_binding_number Serial = 5
mctp_phys_binding_number I3c = 6
mctp_phys_binding_number Mmbi = 7
mctp_phys_binding_number Pcc = 8
mctp_phys_binding_number Ucie = 9
mctp_phys_binding_number Vendor = 255
mctp_phys_binding_number (Other n) = n

-- the value of a number: the listed one, else `Other`
unfoldable pub mctp_phys_binding_of : ℕ → MctpPhysBinding
mctp_phys_binding_of n = value_of mctp_phys_binding_number mctp_phys_binding_listed (Other n) n

-- the text of a value
unfoldable pub mctp_phys_binding_text : MctpPhysBinding → List ℕ
mctp_phys_binding_text Smbus = codes "SMBus"
mctp_phys_binding_text PcieVdm = codes "PCIe VDM"
mctp_phys_binding_text Usb = codes "USB"
mctp_phys_binding_text Kcs = codes "KCS"
mctp_phys_binding_text Serial = codes "Serial"
mctp_phys_binding_text I3c = codes "I3C"
mctp_phys_binding_text Mmbi = codes "MMBI"
mctp_phys_binding_text Pcc = codes "PCC"
mctp_phys_binding_text Ucie = codes "UCIE"
mctp_phys_binding_text Vendor = codes "Vendor"
mctp_phys_binding_text (Other n) = codes "other(" ++ decimal n ++ codes ")"
