-- How the lines of a text follow from a cut of it, and what a search for an LF says.
use Rattle.std.proofs.Common.{◌≡◌, ◌≢◌, ℕ, ◌<◌, ◌==◌, Bool, false, List, [], ◌∷◌, ◌++◌, refl, sym, ap, ◌∙◌}
use Rattle.std.proofs.Common.{append_assoc, arith, length, take, drop, inl, inr, drop-cons, get_or, suc, ◌-◌}
use Rattle.std.specs.List.{flat_map, All}
use Rattle.std.specs.Prelude.{None, Some}
use Rattle.std.proofs.lemmas.List.{take-append-drop, take_all, length-drop, length-take-le, get_or-take}
use Rattle.std.proofs.lemmas.List.Concat.{flat_map-append}
use Rattle.std.proofs.lemmas.List.Elements.{All-append, All-head, All-tail, All-from_get_or}
use Rattle.std.proofs.lemmas.Bool.Decides.{eqb_tells}
use Rattle.std.proofs.lemmas.Bool.{eq-eqb, eqb-true}
use Rattle.memchr.specs.Find.{IsFirstByte, is_byte}
use Rattle.line_filter.specs.Lines.{complete_lines, lines_of, with_lf}
use Rattle.line_filter.specs.Steps.{NoLf, Cut}

not_ten : (x : ℕ) → x ≢ 10 → (x == 10) ≡ false
not_ten x h = elim (eqb_tells x 10) [ inl both ↦ absurd (h both.1) | inr both ↦ both.0 ]

-- a line that an LF ends is the first of the text's lines
pub complete_lines-first : (e : Bool) (line more : List ℕ) → NoLf line
    → complete_lines e (line ++ 10 ∷ more) ≡ line ∷ complete_lines e more
complete_lines-first e [] more h = refl
complete_lines-first e (x ∷ xs) more h =
    let later = complete_lines-first e xs more (All-tail (λ x. x ≢ 10) x xs h) in
    let other = not_ten x (All-head (λ x. x ≢ 10) x xs h) in
    rw (other, later) refl

-- lines that LFs end are the first of the text's lines
pub complete_lines-joined : (e : Bool) (lines : List (List ℕ)) (rest : List ℕ) → All NoLf lines
    → complete_lines e (flat_map with_lf lines ++ rest) ≡ lines ++ complete_lines e rest
complete_lines-joined e [] rest h = refl
complete_lines-joined e (line ∷ lines) rest h =
    let later = complete_lines-joined e lines rest (All-tail NoLf line lines h) in
    let whole : flat_map with_lf (line ∷ lines) ++ rest ≡ line ++ 10 ∷ (flat_map with_lf lines ++ rest) =
    append_assoc (with_lf line) (flat_map with_lf lines) rest
    ∙ append_assoc line (10 ∷ []) (flat_map with_lf lines ++ rest) in
    ap (complete_lines e) whole ∙ complete_lines-first e line (flat_map with_lf lines ++ rest)
    (All-head NoLf line lines h) ∙ ap (λ ls. line ∷ ls) later

pub complete_lines-cut : (e : Bool) (text : List ℕ) (lines : List (List ℕ)) (rest : List ℕ) → Cut text lines rest
    → complete_lines e text ≡ lines ++ complete_lines e rest
complete_lines-cut e text lines rest h = ap (complete_lines e) h.whole ∙ complete_lines-joined e lines rest h.each

-- a text with no LF has no line that an LF ends
pub complete_lines-none : (xs : List ℕ) → NoLf xs → complete_lines false xs ≡ []
complete_lines-none [] h = refl
complete_lines-none (x ∷ xs) h =
    let later = complete_lines-none xs (All-tail (λ x. x ≢ 10) x xs h) in
    let other = not_ten x (All-head (λ x. x ≢ 10) x xs h) in
    rw (other, later) refl

-- what no LF ends is a line of its own, unless it is empty
lines_of-last : (x : ℕ) (xs : List ℕ) → NoLf (x ∷ xs) → lines_of (x ∷ xs) ≡ (x ∷ xs) ∷ []
lines_of-last x [] h =
    let other = not_ten x (All-head (λ x. x ≢ 10) x [] h) in
    rw other refl
lines_of-last x (y ∷ ys) h =
    let later = lines_of-last y ys (All-tail (λ x. x ≢ 10) x (y ∷ ys) h) in
    let other = not_ten x (All-head (λ x. x ≢ 10) x (y ∷ ys) h) in
    rw (other, later) refl

pub lines_of-rest : (xs : List ℕ) → 0 < length xs → NoLf xs → lines_of xs ≡ xs ∷ []
lines_of-rest [] h k = absurd (omega arith)
lines_of-rest (x ∷ xs) h k = lines_of-last x xs k

-- a cut text, and then one whose lines the rest begins
pub Cut-join : (text more : List ℕ) (lines later : List (List ℕ)) (rest last : List ℕ) → Cut text lines rest
    → Cut (rest ++ more) later last → Cut (text ++ more) (lines ++ later) last
Cut-join text more lines later rest last h k =
    let joined : text ++ more ≡ flat_map with_lf (lines ++ later) ++ last =
    ap (λ t. t ++ more) h.whole ∙ append_assoc (flat_map with_lf lines) rest more
    ∙ ap (λ t. flat_map with_lf lines ++ t) k.whole
    ∙ sym (append_assoc (flat_map with_lf lines) (flat_map with_lf later) last)
    ∙ ap (λ t. t ++ last) (sym (flat_map-append with_lf lines later)) in
    record { whole = joined; each = All-append NoLf lines later h.each k.each; last = k.last }

pub no_lf_before : (k : ℕ) (xs : List ℕ) → IsFirstByte (is_byte 10) xs (Some k) → NoLf (take k xs)
no_lf_before k xs h = All-from_get_or (λ x. x ≢ 10) (take k xs) 0 (λ i lt e.
    let within : i < k = omega (arith, h.0.high, length-take-le k xs (omega (arith, h.0.high))) in
    h.0.before i (omega arith) within (eq-eqb (get_or xs i 0) 10 (sym (get_or-take k xs i 0 within) ∙ e)))

pub cut_at_lf : (k : ℕ) (xs : List ℕ) → IsFirstByte (is_byte 10) xs (Some k) → xs ≡ take k xs ++ 10 ∷ drop 1 (drop k xs)
cut_at_lf k xs h =
    let here : drop k xs ≡ get_or xs k 0 ∷ drop (suc k) xs = drop-cons xs k 0 h.0.high in
    let lf : get_or xs k 0 ≡ 10 = eqb-true (get_or xs k 0) 10 h.1 in
    sym (take-append-drop k xs)
    ∙ ap (λ t. take k xs ++ t) (here ∙ ap (λ x. x ∷ drop (suc k) xs) lf ∙ ap (λ t. 10 ∷ drop 1 t) (sym here))

pub no_lf_at_all : (xs : List ℕ) → IsFirstByte (is_byte 10) xs None → NoLf xs
no_lf_at_all xs h = All-from_get_or (λ x. x ≢ 10) xs 0 (λ i lt e. h i (omega arith) lt (eq-eqb (get_or xs i 0) 10 e))

-- `&xs[n..]`
pub take_rest : (n : ℕ) (xs : List ℕ) → take (length xs - n) (drop n xs) ≡ drop n xs
take_rest n xs = take_all (length xs - n) (drop n xs) (omega (arith, length-drop n xs))
