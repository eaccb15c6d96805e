-- Physical ids: their bytes, read again.
use Rattle.std.proofs.Common.{◌≡◌, ℕ, ◌-◌, ◌≤◌, List, ◌++◌, sym, ap, ◌∙◌, length, take, min, replicate, arith}
use Rattle.std.proofs.Math.Nat.{min_comm}
use Rattle.std.proofs.lemmas.List.{length-take, take_all}
use Rattle.std.proofs.Math.Seq.{take-append_seam}
use Rattle.nla_wire.specs.Fields.{zero_filled}
use Rattle.link_vals.specs.declared.phys_id.LinkPhysId.{LinkPhysId}
use Rattle.link_vals.specs.LinkPhysIdBytes.{phys_id_of, phys_id_bytes}

-- an id that was read fits
pub phys_id_len_le : (p : List ℕ) → (phys_id_of p).len ≤ 32
unfolding phys_id_of
phys_id_len_le p = omega arith

-- the first n bytes of what is filled up to n are those of the payload
take_filled : (n : ℕ) (p : List ℕ) → take (min (length p) n) (take n p ++ replicate (n - length p) 0) ≡ take n p
take_filled n p =
    let len : length (take n p) ≡ min (length p) n = length-take n p ∙ min_comm n (length p) in
    ap (λ m. take m (take n p ++ replicate (n - length p) 0)) (sym len)
    ∙ take-append_seam (take n p) (replicate (n - length p) 0)

-- the bytes of an id that was read
pub phys_id_bytes_is : (p : List ℕ) → phys_id_bytes (phys_id_of p) ≡ take 32 p
unfolding phys_id_of zero_filled
phys_id_bytes_is p = take_filled 32 p

pub length-phys_id_bytes : (p : List ℕ) → length (phys_id_bytes (phys_id_of p)) ≡ min (length p) 32
length-phys_id_bytes p = ap length (phys_id_bytes_is p) ∙ length-take 32 p ∙ min_comm 32 (length p)

record_of : List ℕ → ℕ → LinkPhysId
record_of bytes n = record { id = bytes; len = n }

-- bytes past the 32nd mean nothing
pub phys_id_of_cut : (p : List ℕ) → phys_id_of (take 32 p) ≡ phys_id_of p
unfolding phys_id_of zero_filled record_of
phys_id_of_cut p =
    let short : length (take 32 p) ≡ min 32 (length p) = length-take 32 p in
    let within : length (take 32 p) ≤ 32 = omega (arith, short) in
    let left : 32 - length (take 32 p) ≡ 32 - length p = omega (arith, short) in
    let long : min (length (take 32 p)) 32 ≡ min (length p) 32 = omega (arith, short) in
    let id : zero_filled 32 (take 32 p) ≡ zero_filled 32 p =
    ap (λ t. t ++ replicate (32 - length (take 32 p)) 0) (take_all 32 (take 32 p) within)
    ∙ ap (λ k. take 32 p ++ replicate k 0) left in
    ap (λ t. record_of t (min (length (take 32 p)) 32)) id ∙ ap (record_of (zero_filled 32 p)) long

-- an id that was read is what its bytes mean
pub phys_id_again : (p : List ℕ) → phys_id_of (phys_id_bytes (phys_id_of p)) ≡ phys_id_of p
phys_id_again p = ap phys_id_of (phys_id_bytes_is p) ∙ phys_id_of_cut p
