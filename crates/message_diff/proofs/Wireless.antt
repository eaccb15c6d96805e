-- What a wireless driver announces, frame by frame.
use Rattle.std.proofs.Common.{◌≡◌, ◌≢◌, ◌≤◌, ℕ, Bool, true, false, List, length, refl, sym, ap, ◌∙◌, arith}
use Rattle.std.specs.Prelude.{◌==◌, ◌&&◌, ◌||◌, not, nat_le}
use Rattle.std.proofs.lemmas.Bool.{eqb-true}
use Rattle.std.proofs.lemmas.Bool.Decides.{nat_tests}
use Rattle.link_msg.specs.declared.numbers.TheConstants.{IFLA_IFNAME, IFLA_WIRELESS}
use Rattle.message_diff.specs.Announced.{is_more}
use Rattle.message_diff.specs.Frames.{frame_number}

-- ** tests
is_not : (b : Bool) → (b ≡ true → ⊥) → b ≡ false
is_not true h = absurd (h refl)
is_not false h = refl

long_enough : (n : ℕ) → 4 ≤ n → nat_le 4 n ≡ true
long_enough n h = grind (arith, nat_tests)

and_false : (b : Bool) → (b && false) ≡ false
and_false true = refl
and_false false = refl

more_of : (long wireless name : Bool) → long ≡ true → wireless ≡ false → name ≡ false
    → (long && not wireless && not name) ≡ true
more_of long wireless name a b c = λ i. a i && not (b i) && not (c i)

pub others_more : (frame : List ℕ) → 4 ≤ length frame → frame_number frame ≢ IFLA_WIRELESS
    → frame_number frame ≢ IFLA_IFNAME → is_more frame ≡ true
others_more frame long a b =
    more_of (nat_le 4 (length frame)) (frame_number frame == IFLA_WIRELESS) (frame_number frame == IFLA_IFNAME)
    (long_enough (length frame) long)
    (is_not (frame_number frame == IFLA_WIRELESS) (λ is. a (eqb-true (frame_number frame) IFLA_WIRELESS is)))
    (is_not (frame_number frame == IFLA_IFNAME) (λ is. b (eqb-true (frame_number frame) IFLA_IFNAME is)))

-- ** one frame more
pub more_met : (x b r m : Bool) → b ≡ true → (b || r) ≡ m → false ≡ (x && not m)
more_met x b r m is h = sym (and_false x) ∙ ap (λ c. x && not c) (sym (ap (λ c. c || r) is) ∙ h)

-- all frames were met
at_last : (a : Bool) → a ≡ ((a || false) && not false)
at_last true = refl
at_last false = refl

pub all_met : (a x m : Bool) → (a || false) ≡ x → false ≡ m → a ≡ (x && not m)
all_met a x m h k = at_last a ∙ (λ i. h i && not (k i))
