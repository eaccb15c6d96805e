-- What one more token does to a text.
use Rattle.std.proofs.Common.{◌≡◌, ℕ, ◌^◌, ◌<◌, Bool, true, false, List, [], ◌∷◌, ◌++◌, cond, ◌&&◌, decimal}
use Rattle.std.proofs.Common.{append_assoc, refl, ap, sym, ◌∙◌}
use Rattle.std.proofs.Common.{subst}
use Rattle.std.specs.Bool.{OnTrue, OnFalse}
use Rattle.json.specs.Token.{Token, key, number}
use Rattle.json.specs.Lex.{tokens}
use Rattle.shown.specs.Print.{print, print_from, ends, ends_value, separator, token_text, IsPrintable, ArePrintable}
use Rattle.shown.proofs.Printed.{tokens-print, print_from_push, ends_push, ArePrintable-push}
use Rattle.json.proofs.Printed.Decimals.{IsNumber-decimal}
use Rattle.shown.specs.Nesting.{opening, closing}
use Rattle.shown.specs.Sheets.{IsText, comma_if}
use Rattle.shown.specs.declared.page.Nest.{Nest}
use Rattle.shown.specs.declared.page.Nest.TheVariants.{Object, List as Items}

shown : (text : List ℕ) (after : Bool) (h : IsText text after) → tokens text ≡ h.printed
shown text after h = ap tokens h.says ∙ tokens-print h.printed h.printable

-- the text is the print of what is seen of it
pub says_tokens : (text : List ℕ) (after : Bool) → IsText text after → text ≡ print (tokens text)
says_tokens text after h = h.says ∙ ap print (sym (shown text after h))

module _ (old new : List ℕ) (after : Bool) (t : Token) (comma : List ℕ) (due : separator after t ≡ comma)
    (h : IsText old after) (printable : IsPrintable t) (is : new ≡ old ++ (comma ++ token_text t)) where
  pub token_added : IsText new (ends t)
  token_added = record {
    printed = h.printed ++ t ∷ [];
    printable = ArePrintable-push h.printed t h.printable printable;
    says = is ∙ ap (λ l. old ++ (l ++ token_text t)) (sym due)
        ∙ (λ i. h.says i ++ (separator (h.place i) t ++ token_text t)) ∙ sym (print_from_push false h.printed t);
    place = sym (ends_push false h.printed t);
  }

  pub token_seen : tokens new ≡ tokens old ++ t ∷ []
  unfolding token_added
  token_seen = shown new (ends t) token_added ∙ ap (λ ts. ts ++ t ∷ []) (sym (shown old after h))

-- whether the last token ends a value
pub end_seen : (text : List ℕ) (after : Bool) → IsText text after → after ≡ ends_value (tokens text)
end_seen text after h = h.place ∙ ap ends_value (sym (shown text after h))

-- no token
pub none_said : IsText [] false
unfolding print_from ArePrintable
none_said = record { printed = []; printable = tt; says = refl; place = refl }

-- a comma before what begins
pub due_if : (after : Bool) → cond (after && true) (44 ∷ []) [] ≡ comma_if after
due_if true = refl
due_if false = refl

module _ (old new : List ℕ) (after : Bool) (name : List ℕ) (t : Token) (first : separator false t ≡ [])
    (h : IsText old after) (printable : IsPrintable t)
    (is : new ≡ old ++ ((comma_if after ++ token_text (key name)) ++ token_text t)) where
  abbrev between : List ℕ
  between = old ++ (comma_if after ++ token_text (key name))

  named_between : IsText between false
  named_between = token_added old between after (key name) _ (due_if after) h tt refl

  behind : new ≡ between ++ token_text t
  behind = is ∙ sym (append_assoc old (comma_if after ++ token_text (key name)) (token_text t))

  -- a name and a value of one token, or its first one, are two tokens
  pub named_added : IsText new (ends t)
  named_added = token_added between new false t [] first named_between printable behind

  pub named_seen : tokens new ≡ (tokens old ++ key name ∷ []) ++ t ∷ []
  named_seen =
      token_seen between new false t [] first named_between printable behind
      ∙ ap (λ ts. ts ++ t ∷ []) (token_seen old between after (key name) _ (due_if after) h tt refl)

module _ (old new : List ℕ) (after : Bool) (name : List ℕ) (n : ℕ) (h : IsText old after) (fits : n < 2 ^ 64)
    (is : new ≡ old ++ ((comma_if after ++ token_text (key name)) ++ decimal n)) where
  pub numbered_added : IsText new true
  numbered_added = named_added old new after name (number (decimal n)) refl h (IsNumber-decimal n fits) is

  pub numbered_seen : tokens new ≡ (tokens old ++ key name ∷ []) ++ number (decimal n) ∷ []
  numbered_seen = named_seen old new after name (number (decimal n)) refl h (IsNumber-decimal n fits) is

-- tokens that were added, or not
pub added_or_kept : (P : List Token → Type 0) (is_added : Bool) {new added old : List Token}
    → OnTrue is_added (new ≡ added) → OnFalse is_added (new ≡ old) → P added → P old → P new
added_or_kept P true is kept h _ = subst P (sym is) h
added_or_kept P false added is _ h = subst P (sym is) h

-- what begins an object or a list
pub opens : (after : Bool) (nest : Nest)
    → (separator after (opening nest) ≡ comma_if after) × IsPrintable (opening nest) × (ends (opening nest) ≡ false)
opens after Object = (due_if after, tt, refl)
opens after Items = (due_if after, tt, refl)

-- what ends one: no comma stands before it
pub closes : (after : Bool) (nest : Nest)
    → (separator after (closing nest) ≡ []) × IsPrintable (closing nest) × (ends (closing nest) ≡ true)
closes true Object = (refl, tt, refl)
closes true Items = (refl, tt, refl)
closes false Object = (refl, tt, refl)
closes false Items = (refl, tt, refl)
