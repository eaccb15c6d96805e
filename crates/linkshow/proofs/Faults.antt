-- Which answers begin with a fault.
use Rattle.std.proofs.Common.{◌≡◌, ℕ, List, [], ◌∷◌, ◌++◌, Bool, true, false, get_or, refl, sym, ap, ◌∙◌, arith}
use Rattle.std.specs.Prelude.{Ok, Err, cond}
use Rattle.std.specs.List.{flat_map}
use Rattle.std.proofs.lemmas.Grind.{flat_map-append}
use Rattle.std.proofs.lemmas.List.{append_assoc, append_cancel_left}
use Rattle.json.specs.Token.{Token, begin_object, key}
use Rattle.shown.specs.Print.{print_from, escape_byte, escape_from, separator, token_text, ends}
use Rattle.nla_wire.specs.declared.error.Cause.{Cause}
use Rattle.link_msg.specs.Lenient.{MeansNoneLeniently}
use Rattle.link_msg.specs.Messages.{FirstFault, MeansNothing}
use Rattle.link_msg.specs.declared.message.LinkMessage.{LinkMessage}
use Rattle.link_msg.proofs.Reading.{message_agrees}
use Rattle.shown.specs.Drafts.{Members}
use Rattle.shown.specs.Pages.{IsObject}
use Rattle.message_shown.specs.Leniently.{IsLenientAnswerTo}
use Rattle.message_shown.specs.Lines.{IsAnswerTo, fault_head, message_head, fault_member, family_member}
use Rattle.linkshow.specs.Laws.{FaultsAreRefusals, LenientFaultsAreRefusals}

no_message : (b : List ℕ) (c : Cause) → FirstFault b c → MeansNothing b
no_message b c h = λ m means.
    let clash : Err c ≡ Ok m = sym (message_agrees.refused b c h) ∙ message_agrees.only b m means in absurd cc

members : Members → List Token
members = flat_map (λ m. key m.0 ∷ m.1)

-- where the first letter of a name stands: behind its quote, and a comma after a value
letter_at : Bool → ℕ
letter_at after_value = cond after_value 2 1

fault_letter : (b : Bool) (c : Cause) (rest : List Token)
    → get_or (print_from b (members (fault_member c ∷ []) ++ rest)) (letter_at b) 0 ≡ 102
unfolding print_from escape_from escape_byte members letter_at
fault_letter true c rest = refl
fault_letter false c rest = refl

family_letter : (b : Bool) (m : LinkMessage) (rest : List Token)
    → get_or (print_from b (members (family_member m ∷ []) ++ rest)) (letter_at b) 0 ≡ 105
unfolding print_from escape_from escape_byte members letter_at
family_letter true m rest = refl
family_letter false m rest = refl

letters_differ : (x y : ℕ) → x ≡ 102 → y ≡ 105 → x ≡ y → ⊥
letters_differ x y h k e = omega arith

names_differ : (c : Cause) (m : LinkMessage) (r s : List Token) (b : Bool)
    → print_from b (members (fault_member c ∷ []) ++ r) ≡ print_from b (members (family_member m ∷ []) ++ s) → ⊥
names_differ c m r s b e =
    letters_differ _ _ (fault_letter b c r) (family_letter b m s) (ap (λ t. get_or t (letter_at b) 0) e)

-- what is printed differently is so behind the same tokens too
differ_behind : (front : List Token) (b : Bool) (x y : List Token)
    → ((after : Bool) → print_from after x ≡ print_from after y → ⊥)
    → print_from b (front ++ x) ≡ print_from b (front ++ y) → ⊥
unfolding print_from
differ_behind [] b x y differ e = differ b e
differ_behind (t ∷ ts) b x y differ e = differ_behind ts (ends t) x y differ
    (append_cancel_left (token_text t) _ _ (append_cancel_left (separator b t) _ _ e))

last_apart : (words : Members) (member : List ℕ × List Token) (rest : List Token)
    → members (words ++ member ∷ []) ++ rest ≡ members words ++ (members (member ∷ []) ++ rest)
unfolding members
last_apart words member rest =
    ap (λ t. t ++ rest) (flat_map-append (λ m. key m.0 ∷ m.1) words (member ∷ []))
    ∙ append_assoc (members words) (members (member ∷ [])) rest

not_both : (words : Members) (c : Cause) (m : LinkMessage) (answer : List ℕ) → IsObject (fault_head words c) answer
    → IsObject (message_head words m) answer → ⊥
unfolding print_from members
not_both words c m answer h k = differ_behind (begin_object ∷ members words) false _ _
    (names_differ c m h.rest k.rest)
    (ap (λ t. print_from false (begin_object ∷ t)) (sym (last_apart words (fault_member c) h.rest))
    ∙ (sym h.printed ∙ k.printed)
    ∙ ap (λ t. print_from false (begin_object ∷ t)) (last_apart words (family_member m) k.rest))

refused : (words : Members) (bytes answer : List ℕ) → IsAnswerTo words bytes answer → MeansNothing bytes
    → (c : Cause) × FirstFault bytes c × IsObject (fault_head words c) answer
refused words bytes answer (IsAnswerTo.fault c h o) none = (c, h, o)
refused words bytes answer (IsAnswerTo.message m h o) none = absurd (none m h)

only : (words : Members) (bytes answer : List ℕ) (c : Cause) → IsAnswerTo words bytes answer
    → IsObject (fault_head words c) answer → MeansNothing bytes
only words bytes answer c (IsAnswerTo.fault d h o) k = no_message bytes d h
only words bytes answer c (IsAnswerTo.message m h o) k = absurd (not_both words c m answer k o)

pub faults_are_refusals : FaultsAreRefusals
faults_are_refusals = record { refused = refused; only = only }

-- ** what is read leniently

refused_leniently : (words : Members) (bytes answer : List ℕ) → IsLenientAnswerTo words bytes answer
    → MeansNoneLeniently bytes → (c : Cause) × FirstFault bytes c × IsObject (fault_head words c) answer
refused_leniently words bytes answer (IsLenientAnswerTo.fault c h _ o) none = (c, h, o)
refused_leniently words bytes answer (IsLenientAnswerTo.message m h o) none = absurd (none m h)

only_leniently : (words : Members) (bytes answer : List ℕ) (c : Cause) → IsLenientAnswerTo words bytes answer
    → IsObject (fault_head words c) answer → MeansNoneLeniently bytes
only_leniently words bytes answer c (IsLenientAnswerTo.fault d h none o) k = none
only_leniently words bytes answer c (IsLenientAnswerTo.message m h o) k = absurd (not_both words c m answer k o)

pub lenient_faults_are_refusals : LenientFaultsAreRefusals
lenient_faults_are_refusals = record { refused = refused_leniently; only = only_leniently }
