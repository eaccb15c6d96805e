-- The bit 0x4000 of a kind.
use Rattle.std.proofs.Common.{◌≡◌, ℕ, ◌*◌, ◌/◌, ◌%◌, sym, ap, ◌∙◌, arith, nat_eq, nat_le, not, inl, inr}
use Rattle.std.specs.Prelude.{bit_and}
use Rattle.std.proofs.lemmas.Nat.Bits.{and_pow}
use Rattle.std.proofs.lemmas.Bool.Decides.{leb_tells, eqb_tells}

pub network_flag : (n : ℕ) → not (nat_eq (bit_and n 16384) 0) ≡ nat_le 16384 (n % 32768)
network_flag n =
    let bit : bit_and n 16384 ≡ n / 16384 % 2 * 16384 = and_pow n 14 in
    elim (eqb_tells (bit_and n 16384) 0) [
      | inl h ↦ elim (leb_tells 16384 (n % 32768)) [
        | inl k ↦ absurd (omega (arith, bit, h.1, k.1))
        | inr k ↦ ap not h.0 ∙ sym k.0
      ]
      | inr h ↦ elim (leb_tells 16384 (n % 32768)) [
        | inl k ↦ ap not h.0 ∙ sym k.0
        | inr k ↦ absurd (h.1 (omega (arith, bit, k.1)))
      ]
    ]
