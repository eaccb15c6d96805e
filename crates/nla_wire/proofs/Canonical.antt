-- Canonical encoding at the front of a buffer: a frame around a value, and encodings one after the other.
use Rattle.std.proofs.Common.{◌≡◌, ℕ, suc, ◌+◌, ◌-◌, ◌*◌, ◌/◌, ◌%◌, ◌<◌, ◌≤◌, List, [], ◌∷◌, ◌++◌}
use Rattle.std.proofs.Common.{append_assoc, append-nil, get_or, slice_set, length, take, drop, replicate}
use Rattle.std.proofs.Common.{length-append, length-drop, length-take, refl, ap, sym, ◌∙◌, subst, arith}
use Rattle.std.specs.Int.{w16, to_le_bytes}
use Rattle.std.specs.Net.Addr.{segments_of, octets_of}
use Rattle.std.proofs.lemmas.List.{take_at, take_all, drop_at, drop_more, take_rest, drop_all}
use Rattle.std.proofs.Math.Seq.{drop-drop, set-append_seam}
use Rattle.std.proofs.lemmas.Slice.{drop-append-drop}
use borrow.Rule.Slice.PartMut.{put_mid}
use Rattle.nla_wire.specs.Fields.{zero_filled}
use Rattle.nla_wire.specs.Frames.{Frame, IsBytes, missing}
use Rattle.nla_wire.specs.Canon.{canon, Filled, Writes}
use Rattle.nla_wire.proofs.Bounds.{length-canon}
use Rattle.nla_wire.proofs.FieldLemmas.{length-zero_filled}

-- ** one encoding after another

-- the end of a buffer from `at` on, lent and given back
pub lent_back : (at : ℕ) (now part : List ℕ) → put_mid at (length now - at) now part ≡ take at now ++ part
lent_back at now part =
    let none : drop (length now - at) (drop at now) ≡ [] =
    drop_all (length now - at) (drop at now) (simp length-drop (omega arith)) in
    ap (λ (rest : List ℕ). take at now ++ (part ++ rest)) none
    ∙ ap (λ (xs : List ℕ). take at now ++ xs) (append-nil part)

pub write_on : (done encoding old now part : List ℕ) (at n : ℕ) → Writes done old now at
    → Writes encoding (take (length now - at) (drop at now)) part n
    → Writes (done ++ encoding) old (put_mid at (length now - at) now part) (at + n)
write_on done encoding old now part at n before w =
    let front : take at now ≡ done =
    ap (take at) before.new_is ∙ take_at done (drop at old) at (sym before.length_is) in
    let rest : drop at now ≡ drop at old =
    ap (drop at) before.new_is ∙ drop_at done (drop at old) at (sym before.length_is) in
    let after : drop n (take (length now - at) (drop at now)) ≡ drop (at + n) old =
    ap (drop n) (take_rest now at ∙ rest) ∙ drop-drop n at old ∙ ap (λ k. drop k old) (omega arith) in
    record {
      length_is = omega (arith, before.length_is, w.length_is, length-append done encoding);
      new_is =
          lent_back at now part
          ∙ ap (λ (xs : List ℕ). xs ++ part) front
          ∙ ap (λ (xs : List ℕ). done ++ xs) (w.new_is ∙ ap (λ (xs : List ℕ). encoding ++ xs) after)
          ∙ sym (append_assoc done encoding (drop (at + n) old));
    }

-- one NUL after the text
pub nul_after : (text old now : List ℕ) (n : ℕ) → n < length old → Writes text old now n
    → Writes (text ++ 0 ∷ []) old (slice_set now n 0) (n + 1)
nul_after text old now n room w =
    let front : now ≡ text ++ get_or old n 0 ∷ drop (n + 1) old =
    w.new_is ∙ ap (λ (xs : List ℕ). text ++ xs) (drop_more old n 0 room) in
    record {
      length_is = omega (arith, w.length_is, length-append text (0 ∷ []));
      new_is =
          (λ i. slice_set (front i) (w.length_is i) 0)
          ∙ set-append_seam text (get_or old n 0) (drop (n + 1) old) 0
          ∙ sym (append_assoc text (0 ∷ []) (drop (n + 1) old));
    }

-- ** the frame around a value

four_taken : (a b c d : ℕ) (t : List ℕ) (n m : ℕ) → m ≡ 4 + n → take m (a ∷ b ∷ c ∷ d ∷ t) ≡ a ∷ b ∷ c ∷ d ∷ take n t
four_taken a b c d t n m e = let same : m ≡ suc (suc (suc (suc n))) = omega (arith, e) in
    ap (λ k. take k (a ∷ b ∷ c ∷ d ∷ t)) same

four_dropped : (a b c d : ℕ) (t : List ℕ) (n m : ℕ) → m ≡ 4 + n → drop m (a ∷ b ∷ c ∷ d ∷ t) ≡ drop n t
four_dropped a b c d t n m e = let same : m ≡ suc (suc (suc (suc n))) = omega (arith, e) in
    ap (λ k. drop k (a ∷ b ∷ c ∷ d ∷ t)) same

around : (kind end : ℕ) (value zeros rest : List ℕ) → end ≡ 4 + length value
    → zeros ≡ replicate (missing (length value)) 0
    → (to_le_bytes w16 end ++ to_le_bytes w16 kind ++ value) ++ (zeros ++ rest)
    ≡ canon (record { kind = kind; payload = value }) ++ rest
around kind end value zeros rest end_is zeros_are =
    (λ i. (to_le_bytes w16 (end_is i) ++ to_le_bytes w16 kind ++ value) ++ (zeros_are i ++ rest))
    ∙ sym (append_assoc (to_le_bytes w16 (4 + length value) ++ to_le_bytes w16 kind ++ value)
    (replicate (missing (length value)) 0) rest)

-- header and padding, around the value that stands after four bytes
pub finished : (kind len : ℕ) (old headed zeros : List ℕ) (end padded : ℕ) → 4 + len + missing len ≤ length old
    → end ≡ 4 + len → padded ≡ (end + 3) / 4 * 4
    → headed ≡ to_le_bytes w16 end ++ to_le_bytes w16 kind ++ drop 4 old
    → zeros ≡ replicate (length (take (padded - end) (drop end headed))) 0
    → Writes (canon (record { kind = kind; payload = take len (drop 4 old) })) old
    (put_mid end (padded - end) headed zeros) padded
finished kind len old headed zeros end padded room end_is padded_is headed_is zeros_are =
    let t = drop 4 old in
    let value = take len t in
    let size : length value ≡ len = simp (length-take, length-drop) (omega arith) in
    let missing_is : padded - end ≡ missing (length value) = omega arith in
    let front : take end headed ≡ to_le_bytes w16 end ++ to_le_bytes w16 kind ++ value =
    ap (take end) headed_is
    ∙ four_taken (end % 256) (end / 256 % 256) (kind % 256) (kind / 256 % 256) t len end end_is in
    let lent : drop end headed ≡ drop len t =
    ap (drop end) headed_is
    ∙ four_dropped (end % 256) (end / 256 % 256) (kind % 256) (kind / 256 % 256) t len end end_is in
    let zero : zeros ≡ replicate (missing (length value)) 0 =
    let count : length (take (padded - end) (drop end headed)) ≡ missing (length value) =
    rw lent (simp (length-take, length-drop) (omega arith)) in
    zeros_are ∙ ap (λ n. replicate n 0) count in
    let after : drop (padded - end) (drop end headed) ≡ drop padded old =
    ap (drop (padded - end)) lent ∙ drop-drop (padded - end) len t ∙ drop-drop (len + (padded - end)) 4 old
    ∙ ap (λ n. drop n old) (let same : 4 + (len + (padded - end)) ≡ padded = omega arith in same) in
    record {
      length_is = omega (arith, length-canon (record { kind = kind; payload = value }));
      new_is =
          (λ i. front i ++ (zeros ++ after i))
          ∙ around kind end value zeros (drop padded old) (omega arith) zero;
    }

-- a value that stands after four bytes, whose frame was written round it
finished_round : (kind : ℕ) (value old lent : List ℕ) (len : ℕ) (new : List ℕ) (n : ℕ) → 4 ≤ length old
    → len ≡ length value
    → lent ≡ take 4 old ++ (value ++ drop len (drop 4 old))
    → Writes (canon (record { kind = kind; payload = take len (drop 4 lent) })) lent new n
    → Writes (canon (record { kind = kind; payload = value })) old new n
finished_round kind value old lent len new n long len_is lent_is finishing =
    let header : length (take 4 old) ≡ 4 = simp length-take (omega arith) in
    let after : drop 4 lent ≡ value ++ drop len (drop 4 old) =
    ap (drop 4) lent_is ∙ drop_at (take 4 old) (value ++ drop len (drop 4 old)) 4 header in
    let there = ap (take len) after ∙ take_at value (drop len (drop 4 old)) len (sym len_is) in
    let h = subst (λ v. Writes (canon (record { kind = kind; payload = v })) lent new n) there finishing in
    let far : 4 + len ≤ n =
    omega (arith, h.length_is, len_is, length-canon (record { kind = kind; payload = value })) in
    let split : n ≡ 4 + (n - 4) = omega (arith, far) in
    let whole : drop n lent ≡ drop (n - 4) (drop 4 lent) =
    ap (λ k. drop k lent) split ∙ sym (drop-drop (n - 4) 4 lent) in
    let kept : drop n lent ≡ drop n old =
    whole ∙ ap (drop (n - 4)) after ∙ drop-append-drop len (drop 4 old) value (n - 4) (omega (arith, far)) (sym len_is)
    ∙ drop-drop (n - 4) 4 old ∙ ap (λ k. drop k old) (sym split) in
    record {
      length_is = h.length_is;
      new_is = h.new_is ∙ ap (λ (rest : List ℕ). canon (record { kind = kind; payload = value }) ++ rest) kept;
    }

-- the value was written to the front of all that is after the header
pub finished_value : (kind : ℕ) (value old part : List ℕ) (len : ℕ) (new : List ℕ) (n : ℕ) → 4 ≤ length old
    → Writes value (take (length old - 4) (drop 4 old)) part len
    → Writes (canon (record { kind = kind; payload = take len (drop 4 (put_mid 4 (length old - 4) old part)) }))
    (put_mid 4 (length old - 4) old part) new n
    → Writes (canon (record { kind = kind; payload = value })) old new n
finished_value kind value old part len new n long w finishing =
    finished_round kind value old (put_mid 4 (length old - 4) old part) len new n long w.length_is
    (lent_back 4 old part ∙ ap (λ (xs : List ℕ). take 4 old ++ xs)
    (w.new_is ∙ ap (λ (xs : List ℕ). value ++ drop len xs) (take_rest old 4))) finishing

-- the value was written to exactly its bytes
pub finished_part : (kind : ℕ) (value old part : List ℕ) (len count : ℕ) (new : List ℕ) (n : ℕ) → 4 ≤ length old
    → part ≡ value → len ≡ length value → count ≡ len
    → Writes (canon (record { kind = kind; payload = take len (drop 4 (put_mid 4 count old part)) }))
    (put_mid 4 count old part) new n
    → Writes (canon (record { kind = kind; payload = value })) old new n
finished_part kind value old part len count new n long part_is len_is count_is finishing =
    finished_round kind value old (put_mid 4 count old part) len new n long len_is
    (λ i. take 4 old ++ (part_is i ++ drop (count_is i) (drop 4 old))) finishing

-- the value was filled into exactly its bytes
pub finished_filled : (kind : ℕ) (f : Frame) (old part : List ℕ) (len count start : ℕ) (new : List ℕ) (n : ℕ)
    → kind ≡ f.kind → length (canon f) ≤ length old → len ≡ length f.payload
    → count ≡ len → Filled (take count (drop 4 old)) part f.payload start
    → Writes (canon (record { kind = kind; payload = take len (drop 4 (put_mid 4 count old part)) }))
    (put_mid 4 count old part) new n
    → Writes (canon f) old new n
finished_filled kind f old part len count start new n kind_is room len_is count_is filled finishing =
    let long : 4 + count ≤ length old = omega (arith, room, length-canon f, len_is, count_is) in
    let size : length (take count (drop 4 old)) ≡ count = simp (length-take, length-drop) (omega (arith, long)) in
    let none : start ≡ 0 = omega (arith, filled.0, size, len_is, count_is) in
    let part_is : part ≡ f.payload = filled.1 ∙ ap (λ k. take k (take count (drop 4 old)) ++ f.payload) none in
    subst (λ m. Writes (canon (record { kind = m; payload = f.payload })) old new n) kind_is
    (finished_part kind f.payload old part len count new n (omega (arith, long)) part_is len_is count_is finishing)

-- ** what is written as it was read

two_octets : (a b : ℕ) → b < 256 → ((a * 256 + b) / 256 ≡ a) × ((a * 256 + b) % 256 ≡ b)
two_octets a b small = (omega arith, omega arith)

pub octets_again : (p : List ℕ) → length p % 2 ≡ 0 → IsBytes p → octets_of (segments_of p) ≡ p
octets_again [] e small = refl
octets_again (a ∷ []) e small = absurd (omega arith)
octets_again (a ∷ b ∷ p) e small =
    let here = two_octets a b small.1.0 in
    let after = octets_again p (omega arith) small.1.1 in
    λ i. here.0 i ∷ here.1 i ∷ after i

-- ** a payload that is filled up with zeros

pub filled_up : (p old now zeros : List ℕ) (size len : ℕ) → length p < size → size ≤ length old → Writes p old now len
    → zeros ≡ replicate (length (take (size - len) (drop len now))) 0
    → Writes (zero_filled size p) old (put_mid len (size - len) now zeros) size
unfolding zero_filled
filled_up p old now zeros size len short room w zeros_are =
    let front : take len now ≡ take size p = ap (take len) w.new_is ∙ take_at p (drop len old) len (sym w.length_is)
    ∙ sym (take_all size p (omega arith)) in
    let rest : drop len now ≡ drop len old = ap (drop len) w.new_is ∙ drop_at p (drop len old) len (sym w.length_is) in
    let count : length (take (size - len) (drop len now)) ≡ size - length p =
    ap (λ xs. length (take (size - len) xs)) rest ∙ simp (length-take, length-drop) (omega (arith, w.length_is)) in
    let zero : zeros ≡ replicate (size - length p) 0 = zeros_are ∙ ap (λ n. replicate n 0) count in
    let after : drop (size - len) (drop len now) ≡ drop size old =
    ap (drop (size - len)) rest ∙ drop-drop (size - len) len old
    ∙ ap (λ n. drop n old) (let same : len + (size - len) ≡ size = omega (arith, w.length_is) in same) in
    record {
      length_is = sym (length-zero_filled size p);
      new_is = (λ i. front i ++ (zero i ++ after i))
          ∙ sym (append_assoc (take size p) (replicate (size - length p) 0) (drop size old));
    }
