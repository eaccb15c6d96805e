-- What a variant's list was read as, where the variant was read.
use Rattle.std.proofs.Common.{◌≡◌, ℕ, ◌<◌, List, [], ◌∷◌, length, arith, Result, Ok, Err}
use Rattle.nla_wire.specs.Grammar.{unless_empty}
use Rattle.nla_wire.specs.Reading.{◌>>=◌}
use Rattle.nla_wire.specs.declared.error.Cause.{Cause}
use Rattle.link_vf.specs.declared.vf_list.LinkVfInfo.{LinkVfInfo}
use Rattle.link_vf.specs.declared.port_list.LinkVfPort.{LinkVfPort}
use Rattle.link_msg.specs.declared.attribute.LinkAttribute.{LinkAttribute}
use Rattle.link_msg.specs.declared.attribute.LinkAttribute.TheVariants as Attributes

pub functions_read : (r : Result (List LinkVfInfo) Cause) (vs : List LinkVfInfo)
    → (r >>= λ ws. Ok (Attributes.VfInfoList ws)) ≡ Ok (Attributes.VfInfoList vs) → r ≡ Ok vs
functions_read (Ok ws) vs e = cc
functions_read (Err c) vs e = absurd cc

pub ports_read : (p : List ℕ) (r : Result (List LinkVfPort) Cause) (vs : List LinkVfPort)
    → (unless_empty p r >>= λ ws. Ok (Attributes.VfPorts ws)) ≡ Ok (Attributes.VfPorts vs) → r ≡ Ok vs
unfolding unless_empty
ports_read [] r vs e = absurd cc
ports_read (x ∷ p) (Ok ws) vs e = cc
ports_read (x ∷ p) (Err c) vs e = absurd cc

pub variant_fault : {V : Type 0} (of : V → LinkAttribute) (r : Result V Cause) (c : Cause)
    → (r >>= λ v. Ok (of v)) ≡ Err c → r ≡ Err c
variant_fault of (Ok v) c e = absurd cc
variant_fault of (Err d) c e = cc

pub some_fault : {V : Type 0} (of : V → LinkAttribute) (p : List ℕ) (r : Result V Cause) (c : Cause) → 0 < length p
    → (unless_empty p r >>= λ v. Ok (of v)) ≡ Err c → r ≡ Err c
unfolding unless_empty
some_fault of [] r c some e = absurd (omega (arith, some))
some_fault of (x ∷ p) r c some e = variant_fault of r c e
