-- What tokens do to a page, and what its text is.
use Rattle.std.proofs.Common.{◌≡◌, ℕ, false, List, [], ◌∷◌, ◌++◌, length}
use Rattle.std.proofs.Common.{refl, sym, ap, subst, ◌∙◌, append_assoc, arith}
use Rattle.std.specs.Prelude.{Option, Some, None, option_and_then}
use Rattle.std.specs.List.{All}
use Rattle.std.proofs.lemmas.List.Elements.{All-nil, All-cons, All-push}
use Rattle.std.proofs.lemmas.List.Sums.{fold-append}
use Rattle.json.specs.Token.{Token, begin_object, end_object, key}
use Rattle.shown.specs.Print.{print}
use Rattle.shown.specs.Nesting.{Spot, due, object, list, after_token, after_tokens, spot_of}
use Rattle.shown.specs.Nesting.{opening, closing, IsValue}
use Rattle.shown.specs.Pages.{IsOneLine, IsPlain, IsScalar, IsPage, IsWholeText, IsObject, ended, spots_of}
use Rattle.shown.specs.Drafts.{Draft, Members, named, empty_object, with_members, object_of}
use Rattle.shown.specs.declared.page.Nest.{Nest}
use Rattle.shown.specs.declared.page.Nest.TheVariants.{Object, List as Items}
use Rattle.shown.proofs.Lines.{print_on_line}
use Rattle.shown.proofs.Drafts.{members_added}

-- ** more tokens
and_then-step : (f g : List Spot → Option (List Spot)) (mid : List Spot) (r : Option (List Spot))
    → ((next : List Spot) → f next ≡ Some mid → g next ≡ r)
    → (o : Option (List Spot)) → option_and_then f o ≡ Some mid → option_and_then g o ≡ r
and_then-step f g mid r step None h = absurd cc
and_then-step f g mid r step (Some next) h = step next h

pub after-append : (spots mid : List Spot) (ts us : List Token) → after_tokens spots ts ≡ Some mid
    → after_tokens spots (ts ++ us) ≡ after_tokens mid us
unfolding after_tokens
after-append spots mid [] us h = let same : spots ≡ mid = cc in ap (λ s. after_tokens s us) same
after-append spots mid (t ∷ ts) us h =
    and_then-step (λ next. after_tokens next ts) (λ next. after_tokens next (ts ++ us)) mid (after_tokens mid us)
    (λ next k. after-append next mid ts us k) (after_token spots t) h

after-one : (spots next : List Spot) (t : Token) → after_token spots t ≡ Some next
    → after_tokens spots (t ∷ []) ≡ Some next
unfolding after_tokens
after-one spots next t h = ap (λ (o : Option (List Spot)). option_and_then (λ n. Some n) o) h

after-push : (spots mid next : List Spot) (ts : List Token) (t : Token) → after_tokens spots ts ≡ Some mid
    → after_token mid t ≡ Some next → after_tokens spots (ts ++ t ∷ []) ≡ Some next
after-push spots mid next ts t h k = after-append spots mid ts (t ∷ []) h ∙ after-one mid next t k

more_first : (ts : List Token) (t : Token) → ((members : List Token) × (ts ≡ begin_object ∷ members))
    → (members : List Token) × (ts ++ t ∷ [] ≡ begin_object ∷ members)
more_first ts t h = (h.0 ++ t ∷ [], ap (λ l. l ++ t ∷ []) h.1)

-- ** pages
-- a token after a page's
pushed : (ts : List Token) (t : Token) (inside inside' : Nest) (outer outer' : List Nest)
    → IsPage ts inside outer → IsPlain t
    → after_token (spot_of inside ∷ spots_of outer) t ≡ Some (spot_of inside' ∷ spots_of outer')
    → IsPage (ts ++ t ∷ []) inside' outer'
pushed ts t inside inside' outer outer' h p k = record {
  first = more_first ts t h.first;
  nested = after-push _ _ _ ts t h.nested k;
  plain = All-push IsPlain ts t h.plain p;
}

-- a token after a name
name_pushed : (ts : List Token) (name : List ℕ) (t : Token) (inside' : Nest) (outer outer' : List Nest)
    → IsPage ts Object outer → IsPlain t
    → after_token (due ∷ object ∷ spots_of outer) t ≡ Some (spot_of inside' ∷ spots_of outer')
    → IsPage ((ts ++ key name ∷ []) ++ t ∷ []) inside' outer'
name_pushed ts name t inside' outer outer' h p k = record {
  first = more_first (ts ++ key name ∷ []) t (more_first ts (key name) h.first);
  nested = after-push _ (due ∷ object ∷ spots_of outer) _ (ts ++ key name ∷ []) t
      (after-push _ _ (due ∷ object ∷ spots_of outer) ts (key name) h.nested refl) k;
  plain = All-push IsPlain (ts ++ key name ∷ []) t (All-push IsPlain ts (key name) h.plain tt) p;
}

pub page_value : (ts : List Token) (inside : Nest) (outer : List Nest) (name : List ℕ) (t : Token)
    → IsPage ts inside outer → IsScalar t → IsPlain t
    → IsPage (named inside name ts ++ t ∷ []) inside outer
page_value ts Object outer name t h s p =
    name_pushed ts name t Object outer outer h p (s (due ∷ object ∷ spots_of outer))
page_value ts Items outer name t h s p = pushed ts t Items Items outer outer h p (s (list ∷ spots_of outer))

spots_pushed : (outer : List Nest) (inside : Nest) → spots_of (outer ++ inside ∷ []) ≡ spot_of inside ∷ spots_of outer
spots_pushed outer inside = fold-append (λ spots nest. spot_of nest ∷ spots) [] outer (inside ∷ [])

opening_plain : (nest : Nest) → IsPlain (opening nest)
opening_plain Object = tt
opening_plain Items = tt

closing_plain : (nest : Nest) → IsPlain (closing nest)
closing_plain Object = tt
closing_plain Items = tt

opened : (spots : List Spot) (nest : Nest) → after_token (due ∷ spots) (opening nest) ≡ Some (spot_of nest ∷ spots)
opened spots Object = refl
opened spots Items = refl

opened_item : (spots : List Spot) (nest : Nest)
    → after_token (list ∷ spots) (opening nest) ≡ Some (spot_of nest ∷ list ∷ spots)
opened_item spots Object = refl
opened_item spots Items = refl

closed : (spots : List Spot) (nest : Nest) → after_token (spot_of nest ∷ spots) (closing nest) ≡ Some spots
closed spots Object = refl
closed spots Items = refl

pub page_begin : (ts : List Token) (inside nest : Nest) (outer : List Nest) (name : List ℕ) → IsPage ts inside outer
    → IsPage (named inside name ts ++ opening nest ∷ []) nest (outer ++ inside ∷ [])
page_begin ts Object nest outer name h =
    name_pushed ts name (opening nest) nest outer (outer ++ Object ∷ []) h (opening_plain nest)
    (opened (object ∷ spots_of outer) nest ∙ ap (λ s. Some (spot_of nest ∷ s)) (sym (spots_pushed outer Object)))
page_begin ts Items nest outer name h =
    pushed ts (opening nest) Items nest outer (outer ++ Items ∷ []) h (opening_plain nest)
    (opened_item (spots_of outer) nest ∙ ap (λ s. Some (spot_of nest ∷ s)) (sym (spots_pushed outer Items)))

pub page_end : (ts : List Token) (inside around : Nest) (outer : List Nest) → IsPage ts inside (outer ++ around ∷ [])
    → IsPage (ts ++ closing inside ∷ []) around outer
page_end ts inside around outer h =
    pushed ts (closing inside) inside around (outer ++ around ∷ []) outer h (closing_plain inside)
    (closed (spots_of (outer ++ around ∷ [])) inside ∙ ap Some (spots_pushed outer around))

pub page_new : IsPage (begin_object ∷ []) Object []
unfolding after_tokens
page_new = record { first = ([], refl); nested = refl; plain = All-cons IsPlain begin_object [] tt (All-nil IsPlain) }

-- ** whole texts
pub page_text : (page : Draft) (ts : List Token) (inside : Nest) → ts ≡ page.tokens → inside ≡ page.inside
    → IsPage ts inside [] → IsWholeText page (print (ts ++ closing inside ∷ []))
page_text page ts inside tokens nest h =
    let same : ts ++ closing inside ∷ [] ≡ ended page = λ k. tokens k ++ closing (nest k) ∷ [] in
    record {
      first = (h.first.0 ++ closing inside ∷ [], sym same ∙ ap (λ l. l ++ closing inside ∷ []) h.first.1);
      printed = ap print same;
      value = subst IsValue same (after-push _ _ [] ts (closing inside) h.nested (closed [] inside));
      plain = subst (λ (l : List Token). All IsPlain l) same
          (All-push IsPlain ts (closing inside) h.plain (closing_plain inside));
    }

-- the text of a page that begins with these tokens is an object that begins so
pub object_found : (page : Draft) (head : List Token) (more : List Token) (text : List ℕ) → page.tokens ≡ head ++ more
    → IsWholeText page text → IsObject head text
object_found page head more text begins whole =
    let same : ended page ≡ head ++ (more ++ closing page.inside ∷ []) =
    ap (λ l. l ++ closing page.inside ∷ []) begins ∙ append_assoc head more (closing page.inside ∷ []) in
    record {
      rest = more ++ closing page.inside ∷ [];
      printed = whole.printed ∙ ap print same;
      value = subst IsValue same whole.value;
      line = subst IsOneLine (sym whole.printed) (print_on_line false (ended page) whole.plain);
    }

-- the text of a page of these members
pub whole_text : (ms : Members) (page : Draft) (text : List ℕ) → page ≡ with_members ms empty_object
    → IsWholeText page text → text ≡ print (object_of ms)
whole_text ms page text is whole =
    whole.printed ∙ ap (λ (d : Draft). print (ended d)) (is ∙ members_added ms (begin_object ∷ []) [])

-- ** the object of one member
head_nested : (name : List ℕ) (t : Token) → IsScalar t
    → after_tokens (due ∷ []) (begin_object ∷ key name ∷ t ∷ []) ≡ Some (object ∷ [])
unfolding after_tokens
head_nested name t s = ap (λ (o : Option (List Spot)). option_and_then (λ n. Some n) o) (s (due ∷ object ∷ []))

head_plain : (name : List ℕ) (t : Token) → IsPlain t → All IsPlain (begin_object ∷ key name ∷ t ∷ [])
head_plain name t p =
    All-cons IsPlain begin_object (key name ∷ t ∷ []) tt
    (All-cons IsPlain (key name) (t ∷ []) tt (All-cons IsPlain t [] p (All-nil IsPlain)))

-- the object with no further member
pub least : (name : List ℕ) (t : Token) → IsScalar t → IsPlain t
    → IsObject (begin_object ∷ key name ∷ t ∷ []) (print (begin_object ∷ key name ∷ t ∷ end_object ∷ []))
least name t s p = record {
  rest = end_object ∷ [];
  printed = refl;
  value =
      after-push (due ∷ []) (object ∷ []) [] (begin_object ∷ key name ∷ t ∷ []) end_object (head_nested name t s) refl;
  line = print_on_line false (begin_object ∷ key name ∷ t ∷ end_object ∷ [])
      (All-push IsPlain (begin_object ∷ key name ∷ t ∷ []) end_object (head_plain name t p) tt);
}

pub no_items : {A : Type 0} (xs : List A) → length xs ≡ 0 → xs ≡ []
no_items [] h = refl
no_items (x ∷ xs) h = absurd (omega arith)
