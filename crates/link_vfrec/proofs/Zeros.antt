-- Addresses of zeros.
use Rattle.std.proofs.Common.{◌≡◌, ℕ, ◌<◌, List, replicate, sym, ◌∙◌, arith}
use Rattle.std.proofs.lemmas.List.{ext_get_or, get_or-replicate}
use Rattle.std.specs.Array.{AllOfLen}

-- an address of which each byte is zero
pub address_zeros : (xs : List ℕ) → AllOfLen (λ x. x ≡ 0) xs 32 → xs ≡ replicate 32 0
address_zeros xs all =
    ext_get_or 0 xs (replicate 32 0) all.long (λ i h.
    let below : i < 32 = omega (arith, h, all.long) in
    all.at i 0 below ∙ sym (get_or-replicate 32 i 0 0 below))
