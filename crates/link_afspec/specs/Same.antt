-- Whether two addresses are the same.
use Rattle.std.specs.Prelude.{◌≡◌, ◌==◌}
use Rattle.std.specs.Bool.{Decides}
use Rattle.std.proofs.Common.{ap}
use Rattle.std.proofs.lemmas.Slice.Eq.{bytes_eq-Decides}
use lib.Pointwise.{pointwise}
use Rattle.std.specs.declared.net.ipv6_addr.Ipv6Addr.{Ipv6Addr}

pub address_exact : (a b : Ipv6Addr) → Decides (pointwise ◌==◌ a.segments b.segments) (a ≡ b)
address_exact a b =
    let same = bytes_eq-Decides a.segments b.segments in
    (λ e. ap (λ s. record { segments = s }) (same.0 e), λ e. same.1 (ap (λ c. c.segments) e))
