-- Kinds of links.
use Rattle.std.proofs.Common.{◌≡◌, ◌<◌, ℕ, true, false, List, [], ◌∷◌, length, take, refl, sym, ap, ◌∙◌}
use Rattle.std.proofs.Common.{arith, get_or}
use Rattle.std.specs.Prelude.{Bool, Option, None, Some, ◌==◌, cond, not, option_and_then}
use Rattle.std.specs.Cmp.Lexicographic.{nat_list_eq_equiv}
use Rattle.std.specs.List.{prefix_len}
use Rattle.std.proofs.lemmas.List.{take_all}
use Rattle.std.proofs.lemmas.List.Sums.{prefix_len_is}
use Rattle.memchr.specs.Find.{IsFirstByte, is_byte}
use Rattle.link_msg.specs.declared.numbers.TheConstants.{IFLA_LINKINFO}
use Rattle.message_diff.specs.Announced.{are_two, is_another, kind_in, kind_or, name_in, payload_of}
use Rattle.message_diff.specs.Frames.{frames_in, frames_of}

-- what is the same is of one kind
pub one_kind : (kind earlier : Option (List ℕ)) → are_two (kind_or kind earlier) kind ≡ false
one_kind None None = refl
one_kind None (Some known) = refl
one_kind (Some name) earlier = ap not (nat_list_eq_equiv.refl name)

pub same_kind : (last new : List ℕ) (earlier : Option (List ℕ)) → last ≡ new
    → is_another (kind_or (kind_in last) earlier) new ≡ false
same_kind last new earlier is =
    ap (λ t. is_another (kind_or (kind_in t) earlier) new) is ∙ one_kind (kind_in new) earlier

-- a kind that is known once more, and one that another one took the place of
pub kind_twice : (kind earlier : Option (List ℕ)) → kind_or kind (kind_or kind earlier) ≡ kind_or kind earlier
kind_twice None earlier = refl
kind_twice (Some name) earlier = refl

pub kind_other : (known kind : Option (List ℕ)) → are_two known kind ≡ true → kind_or kind None ≡ kind_or kind known
kind_other None kind h = absurd cc
kind_other (Some name) None h = absurd cc
kind_other (Some name) (Some other) h = refl

-- ** names up to a NUL
no_nul : (b : Bool) → (b ≡ true → ⊥) → not b ≡ true
no_nul true h = absurd (h refl)
no_nul false h = refl

nul : (b : Bool) → b ≡ true → not b ≡ false
nul true h = refl
nul false h = sym h

named : (x : ℕ) (payload : List ℕ) (k : ℕ) → not (x == 0) ≡ true
    → prefix_len (λ byte. not (byte == 0)) (x ∷ payload) ≡ k → name_in (x ∷ payload) ≡ Some (take k (x ∷ payload))
named x payload k some is =
    let other : (b : Bool) → not b ≡ true → cond b None (Some (take k (x ∷ payload))) ≡ Some (take k (x ∷ payload)) =
    λ b. elim b as (λ v. not v ≡ true → cond v None (Some (take k (x ∷ payload))) ≡ Some (take k (x ∷ payload)))
    [ true ↦ λ h. absurd cc | false ↦ λ h. refl ] in
    ap (λ n. cond (x == 0) None (Some (take n (x ∷ payload)))) is ∙ other (x == 0) some

-- where no NUL is found
pub name_whole : (payload : List ℕ) → IsFirstByte (is_byte 0) payload None → name_in payload ≡ Some payload
name_whole [] h = refl
name_whole (x ∷ payload) h =
    let len : prefix_len (λ byte. not (byte == 0)) (x ∷ payload) ≡ length (x ∷ payload) =
    prefix_len_is (λ byte. not (byte == 0)) (x ∷ payload) (length (x ∷ payload)) 0 (omega arith)
    (λ k lt. no_nul (get_or (x ∷ payload) k 0 == 0) (h k (omega arith) lt)) (λ lt. absurd (omega arith)) in
    named x payload (length (x ∷ payload)) (no_nul (x == 0) (h 0 (omega arith) (omega arith))) len
    ∙ ap Some (take_all (length (x ∷ payload)) (x ∷ payload) (omega arith))

-- where one is found behind it
pub name_before : (payload : List ℕ) (k : ℕ) → (k ≡ 0 → ⊥) → IsFirstByte (is_byte 0) payload (Some k)
    → name_in payload ≡ Some (take k payload)
name_before [] k some h = absurd (omega (arith, h.0.high))
name_before (x ∷ payload) k some h =
    let within : k < length (x ∷ payload) = h.0.high in
    let more : 0 < k = omega arith in
    let len : prefix_len (λ byte. not (byte == 0)) (x ∷ payload) ≡ k =
    prefix_len_is (λ byte. not (byte == 0)) (x ∷ payload) k 0 (omega arith)
    (λ i lt. no_nul (get_or (x ∷ payload) i 0 == 0) (h.0.before i (omega arith) lt))
    (λ lt. nul (get_or (x ∷ payload) k 0 == 0) h.1) in
    named x payload k (no_nul (x == 0) (h.0.before 0 (omega arith) more)) len

-- ** the kind of a message
pub kind_named : (message info payload : List ℕ) → payload_of IFLA_LINKINFO (frames_of message) ≡ Some info
    → payload_of 1 (frames_in info) ≡ Some payload → kind_in message ≡ name_in payload
unfolding kind_in
kind_named message info payload h k =
    ap (λ (o : Option (List ℕ)). option_and_then name_in (option_and_then (λ i. payload_of 1 (frames_in i)) o)) h
    ∙ ap (option_and_then name_in) k
