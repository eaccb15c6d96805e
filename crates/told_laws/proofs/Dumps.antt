-- What a dump of a host leaves known of an interface, and what it tells of it.
use Rattle.std.proofs.Common.{◌≡◌, ◌≢◌, ◌≤◌, ◌<◌, ◌++◌, ℕ, suc, Bool, true, false, List, [], ◌∷◌, refl, sym, ap, ◌∙◌}
use Rattle.std.proofs.Common.{subst, arith}
use Rattle.std.specs.Prelude.{MatchBool, Option, None, Some, cond, not, nat_le, ◌&&◌, ◌||◌}
use Rattle.std.specs.List.{list_all, list_any}
use Rattle.std.proofs.lemmas.Bool.Decides.{nat_tests}
use Rattle.std.proofs.lemmas.List.{append-nil, append_assoc}
use Rattle.message_diff.specs.declared.key.Key.{Key}
use Rattle.message_diff.specs.declared.snapshot.Compared.{Compared}
use Rattle.message_diff.specs.Announced as announced
use Rattle.message_diff.specs.Announced.{is_another, kind_in, kind_or}
use Rattle.message_diff.specs.Shots.{Shot}
use Rattle.message_diff.specs.Known.{Item, Seen, is_key}
use Rattle.message_diff.specs.Known.{value_or_nothing}
use Rattle.message_diff.specs.Told.{kept_of}
use Rattle.message_diff.specs.Files.{Found, Missing, News, are_two, gone_of, news_of}
use Rattle.told_laws.specs.Entries.{Entry}
use Rattle.told_laws.specs.TwoWays.{IsDump, Once}
use Rattle.told_laws.specs.TwoWays.{found_of, found_with, is_end, is_message, is_of_key, news_entries}
use Rattle.told_laws.proofs.Entries.{gone_entry, new_entry}
use Rattle.told_laws.proofs.Views.{Last, View, closes, last_in, last_kind, last_shot}
use Rattle.told_laws.proofs.Views.{message_entries, missing, of_step, step, step_entries, walk}
use Rattle.told_laws.proofs.Views.{walk_entries}

-- ** messages

pub data Message : Type 0 where
  none : Message
  refused : Message
  accepted : Shot → Message

abbrev pub mine_one : Key → Item → Message
mine_one q (Item.is key shot words) = cond (is_key key q) (Message.accepted shot) Message.none
mine_one q (Item.refused key) = cond (is_key key q) Message.refused Message.none
mine_one q x = Message.none

abbrev pub first_of : Message → Message → Message
first_of Message.none m = m
first_of Message.refused m = Message.refused
first_of (Message.accepted shot) m = Message.accepted shot

-- the message of an interface
abbrev pub mine : Key → List Item → Message
mine q [] = Message.none
mine q (x ∷ xs) = first_of (mine_one q x) (mine q xs)

-- what is known of it then
abbrev pub put : ℕ → Message → Option Last → Option Last
put at Message.none o = o
put at Message.refused o = Some (record { at = at; shot = last_shot o; kind = last_kind o })
put at (Message.accepted shot) o =
    Some (record { at = at; shot = Some shot; kind = kind_or (kind_in shot.text) (last_kind o) })

-- and what it tells
abbrev pub told_of : Key → Message → Option Last → Bool → List Entry
told_of q Message.none o whole = []
told_of q Message.refused o whole = []
told_of q (Message.accepted shot) o whole = message_entries q shot o whole

abbrev pub is_blind : Item → Bool
is_blind Item.blind = true
is_blind x = false

put_if : (t : Bool) (at : ℕ) (m : Message) (o : Option Last) → cond t (put at m o) o ≡ put at (cond t m Message.none) o
put_if true at m o = refl
put_if false at m o = refl

told_if : (t : Bool) (q : Key) (m : Message) (o : Option Last) (w : Bool)
    → cond t (told_of q m o w) [] ≡ told_of q (cond t m Message.none) o w
told_if true q m o w = refl
told_if false q m o w = refl

-- of one
abbrev pub with_message : Key → ℕ → Item → View → View
with_message q at x v =
    record { of = put at (mine_one q x) v.of; run = cond (is_blind x) None v.run; whole = v.whole }

message_step : (q : Key) (at : ℕ) (x : Item) (v : View) → is_message x ≡ true → step q at x v ≡ with_message q at x v
message_step q at (Item.is key shot words) v h =
    ap (λ o. record { of = o; run = v.run; whole = v.whole }) (put_if (is_key key q) at (Message.accepted shot) v.of)
message_step q at (Item.refused key) v h =
    ap (λ o. record { of = o; run = v.run; whole = v.whole }) (put_if (is_key key q) at Message.refused v.of)
message_step q at Item.blind v h = refl
message_step q at Item.nothing v h = refl
message_step q at (Item.went key shot) v h = absurd cc
message_step q at (Item.started dump) v h = absurd cc
message_step q at (Item.finished dump f) v h = absurd cc

message_told : (q : Key) (x : Item) (v : View) → is_message x ≡ true
    → step_entries q x v ≡ told_of q (mine_one q x) v.of v.whole
message_told q (Item.is key shot words) v h = told_if (is_key key q) q (Message.accepted shot) v.of v.whole
message_told q (Item.refused key) v h =
    cond_none (is_key key q) ∙ told_if (is_key key q) q Message.refused v.of v.whole
  where
    cond_none : (t : Bool) → [] ≡ cond {A = List Entry} t [] []
    cond_none true = refl
    cond_none false = refl
message_told q Item.blind v h = refl
message_told q Item.nothing v h = refl
message_told q (Item.went key shot) v h = absurd cc
message_told q (Item.started dump) v h = absurd cc
message_told q (Item.finished dump f) v h = absurd cc

-- none of the interface
none_one : (q : Key) (x : Item) → is_of_key q x ≡ false → mine_one q x ≡ Message.none
none_one q (Item.is key shot words) h = ap (λ t. cond t (Message.accepted shot) Message.none) h
none_one q (Item.refused key) h = ap (λ t. cond t Message.refused Message.none) h
none_one q Item.blind h = refl
none_one q Item.nothing h = refl
none_one q (Item.went key shot) h = refl
none_one q (Item.started dump) h = refl
none_one q (Item.finished dump f) h = refl

none_of : (a b : Bool) → (a || b) ≡ false → (a ≡ false) × (b ≡ false)
none_of false b h = (refl, h)
none_of true b h = absurd cc

both_of : (a b : Bool) → (a && b) ≡ true → (a ≡ true) × (b ≡ true)
both_of true b h = (refl, h)
both_of false b h = absurd cc

none_mine : (q : Key) (xs : List Item) → list_any (is_of_key q) xs ≡ false → mine q xs ≡ Message.none
none_mine q [] h = refl
none_mine q (x ∷ xs) h =
    let n = none_of (is_of_key q x) (list_any (is_of_key q) xs) h in
    ap (λ m. first_of m (mine q xs)) (none_one q x n.0) ∙ none_mine q xs n.1

none_once : (q : Key) (xs : List Item) → list_any (is_of_key q) xs ≡ false → Once q xs
none_once q [] h = tt
none_once q (x ∷ xs) h =
    let n = none_of (is_of_key q x) (list_any (is_of_key q) xs) h in
    subst (λ t. MatchBool t (list_any (is_of_key q) xs ≡ false) (Once q xs)) (sym n.0) (none_once q xs n.1)

first_none : (m : Message) → first_of m Message.none ≡ m
first_none Message.none = refl
first_none Message.refused = refl
first_none (Message.accepted shot) = refl

run_both : (a b : Bool) (r : Option (List ℕ × ℕ)) → cond b None (cond a None r) ≡ cond (a || b) None r
run_both true true r = refl
run_both true false r = refl
run_both false b r = refl

-- ** all messages of a dump
pub record MessagesDo (q : Key) (at : ℕ) (v : View) (ms : List Item) : Type 0 where
  pub place : ℕ
  pub later : at < place
  pub to : walk q at v ms
      ≡ record { of = put place (mine q ms) v.of; run = cond (list_any is_blind ms) None v.run; whole = v.whole }
  pub tell : walk_entries q at v ms ≡ told_of q (mine q ms) v.of v.whole

module _ (q : Key) (at : ℕ) (v : View) (x : Item) (ms : List Item) (is : is_message x ≡ true)
    (more : MessagesDo q (suc at) (with_message q (suc at) x v) ms) where
  abbrev blind : Option (List ℕ × ℕ)
  blind = cond (is_blind x || list_any is_blind ms) None v.run

  stepped : walk q at v (x ∷ ms)
      ≡ record { of = put more.place (mine q ms) (put (suc at) (mine_one q x) v.of); run = blind; whole = v.whole }
  stepped =
      ap (λ w. walk q (suc at) w ms) (message_step q (suc at) x v is)
      ∙ more.to
      ∙ ap (λ r. record {
        of = put more.place (mine q ms) (put (suc at) (mine_one q x) v.of);
        run = r;
        whole = v.whole;
      }) (run_both (is_blind x) (list_any is_blind ms) v.run)

  told_next : walk_entries q at v (x ∷ ms)
      ≡ told_of q (mine_one q x) v.of v.whole ++ told_of q (mine q ms) (put (suc at) (mine_one q x) v.of) v.whole
  told_next =
      ap (λ l. l ++ walk_entries q (suc at) (step q (suc at) x v) ms) (message_told q x v is)
      ∙ ap (λ w. told_of q (mine_one q x) v.of v.whole ++ walk_entries q (suc at) w ms) (message_step q (suc at) x v is)
      ∙ ap (λ l. told_of q (mine_one q x) v.of v.whole ++ l) more.tell

  one_message : (t : Bool) → is_of_key q x ≡ t
      → MatchBool t (list_any (is_of_key q) ms ≡ false) (Once q ms) → MessagesDo q at v (x ∷ ms)
  one_message true h without =
      let n : mine q ms ≡ Message.none = none_mine q ms without in
      let m : mine_one q x ≡ mine q (x ∷ ms) =
      sym (ap (λ o. first_of (mine_one q x) o) n ∙ first_none (mine_one q x)) in
      record {
        place = suc at;
        later = omega arith;
        to =
            stepped
            ∙ ap (λ o. record {
              of = put more.place o (put (suc at) (mine_one q x) v.of);
              run = blind;
              whole = v.whole;
            }) n
            ∙ ap (λ o. record { of = put (suc at) o v.of; run = blind; whole = v.whole }) m;
        tell =
            told_next
            ∙ ap (λ o. told_of q (mine_one q x) v.of v.whole
            ++ told_of q o (put (suc at) (mine_one q x) v.of) v.whole) n
            ∙ append-nil (told_of q (mine_one q x) v.of v.whole)
            ∙ ap (λ o. told_of q o v.of v.whole) m;
      }
  one_message false h once =
      let n : mine_one q x ≡ Message.none = none_one q x h in
      let m : mine q ms ≡ mine q (x ∷ ms) = sym (ap (λ o. first_of o (mine q ms)) n) in
      record {
        place = more.place;
        later = omega (arith, more.later);
        to =
            stepped
            ∙ ap (λ o. record {
              of = put more.place (mine q ms) (put (suc at) o v.of);
              run = blind;
              whole = v.whole;
            }) n
            ∙ ap (λ o. record { of = put more.place o v.of; run = blind; whole = v.whole }) m;
        tell =
            told_next
            ∙ ap (λ o. told_of q o v.of v.whole ++ told_of q (mine q ms) (put (suc at) o v.of) v.whole) n
            ∙ ap (λ o. told_of q o v.of v.whole) m;
      }

once_rest : (q : Key) (x : Item) (xs : List Item) (t : Bool) → is_of_key q x ≡ t
    → MatchBool t (list_any (is_of_key q) xs ≡ false) (Once q xs) → Once q xs
once_rest q x xs true h without = none_once q xs without
once_rest q x xs false h once = once

pub messages_do : (q : Key) (at : ℕ) (v : View) (ms : List Item) → list_all is_message ms ≡ true → Once q ms
    → MessagesDo q at v ms
messages_do q at v [] all once =
    record { place = suc at; later = omega arith; to = refl; tell = refl }
messages_do q at v (x ∷ ms) all once =
    let a = both_of (is_message x) (list_all is_message ms) all in
    one_message q at v x ms a.0
    (messages_do q (suc at) (with_message q (suc at) x v) ms a.1 (once_rest q x ms (is_of_key q x) refl once))
    (is_of_key q x) refl once

-- ** the ends of a dump

abbrev pub closes_by : Key → Option (List ℕ × ℕ) → Item → Bool
closes_by q r (Item.finished dump f) = closes q r dump f
closes_by q r x = false

-- whether the dump of its family is whole
abbrev pub is_whole : Key → Option (List ℕ × ℕ) → List Item → Bool
is_whole q r xs = list_any (closes_by q r) xs

cond_one : {A : Type 0} (t : Bool) (a : A) → cond t a a ≡ a
cond_one true a = refl
cond_one false a = refl

or_assoc : (a b c : Bool) → ((a || b) || c) ≡ (a || (b || c))
or_assoc true b c = refl
or_assoc false b c = refl

or_none : (a : Bool) → (a || false) ≡ a
or_none true = refl
or_none false = refl

and_none : (a : Bool) → (a && false) ≡ false
and_none true = refl
and_none false = refl

-- one end, and those behind it
of_ends : (r : Option (List ℕ × ℕ)) (o : Option Last) (c w m : Bool) → missing r o ≡ m
    → cond (w && missing r (cond (c && m) None o)) None (cond (c && m) None o) ≡ cond ((c || w) && m) None o
of_ends r o true w true h = cond_one (w && missing r None) None
of_ends r o true w false h = ap (λ t. cond (w && t) None o) h ∙ ap (λ t. cond t None o) (and_none w)
of_ends r o false w m h = ap (λ t. cond (w && t) None o) h

told_ends : (q : Key) (r : Option (List ℕ × ℕ)) (o : Option Last) (c w m : Bool) → missing r o ≡ m
    → cond (c && m) (gone_entry q (last_shot o)) []
    ++ cond (w && missing r (cond (c && m) None o)) (gone_entry q (last_shot (cond (c && m) None o))) []
    ≡ cond ((c || w) && m) (gone_entry q (last_shot o)) []
told_ends q r o true w true h =
    ap (λ l. gone_entry q (last_shot o) ++ l) (cond_one (w && missing r None) [])
    ∙ append-nil (gone_entry q (last_shot o))
told_ends q r o true w false h =
    ap (λ t. cond (w && t) (gone_entry q (last_shot o)) []) h
    ∙ ap (λ t. cond t (gone_entry q (last_shot o)) []) (and_none w)
told_ends q r o false w m h = ap (λ t. cond (w && t) (gone_entry q (last_shot o)) []) h

pub record EndsDo (q : Key) (at : ℕ) (v : View) (xs : List Item) : Type 0 where
  pub to : walk q at v xs
      ≡ record {
        of = cond (is_whole q v.run xs && missing v.run v.of) None v.of;
        run = v.run;
        whole = v.whole || is_whole q v.run xs;
      }
  pub tell : walk_entries q at v xs
      ≡ cond (is_whole q v.run xs && missing v.run v.of) (gone_entry q (last_shot v.of)) []

end_next : (q : Key) (at : ℕ) (v : View) (dump : List ℕ) (f : ℕ) (xs : List Item)
    → EndsDo q (suc at) (step q (suc at) (Item.finished dump f) v) xs
    → EndsDo q at v (Item.finished dump f ∷ xs)
end_next q at v dump f xs more =
    let c : Bool = closes q v.run dump f in
    let w : Bool = is_whole q v.run xs in
    record {
      to =
          more.to
          ∙ ap (λ o. record { of = o; run = v.run; whole = (v.whole || c) || w })
          (of_ends v.run v.of c w (missing v.run v.of) refl)
          ∙ ap (λ b. record { of = cond ((c || w) && missing v.run v.of) None v.of; run = v.run; whole = b })
          (or_assoc v.whole c w);
      tell =
          ap (λ l. cond (c && missing v.run v.of) (gone_entry q (last_shot v.of)) [] ++ l) more.tell
          ∙ told_ends q v.run v.of c w (missing v.run v.of) refl;
    }

pub ends_do : (q : Key) (at : ℕ) (v : View) (xs : List Item) → list_all is_end xs ≡ true → EndsDo q at v xs
ends_do q at v [] all =
    record { to = ap (λ b. record { of = v.of; run = v.run; whole = b }) (sym (or_none v.whole)); tell = refl }
ends_do q at v (Item.finished dump f ∷ xs) all =
    end_next q at v dump f xs (ends_do q (suc at) (step q (suc at) (Item.finished dump f) v) xs all)
ends_do q at v (Item.nothing ∷ xs) all =
    let more : EndsDo q (suc at) v xs = ends_do q (suc at) v xs all in
    record { to = more.to; tell = more.tell }
ends_do q at v (Item.is key shot words ∷ xs) all = absurd cc
ends_do q at v (Item.refused key ∷ xs) all = absurd cc
ends_do q at v (Item.went key shot ∷ xs) all = absurd cc
ends_do q at v (Item.started dump ∷ xs) all = absurd cc
ends_do q at v (Item.blind ∷ xs) all = absurd cc

-- ** a dump

abbrev pub end_at : ℕ → List Item → ℕ
end_at at [] = at
end_at at (x ∷ xs) = end_at (suc at) xs

pub walk_both : (q : Key) (at : ℕ) (v : View) (xs ys : List Item)
    → walk q at v (xs ++ ys) ≡ walk q (end_at at xs) (walk q at v xs) ys
walk_both q at v [] ys = refl
walk_both q at v (x ∷ xs) ys = walk_both q (suc at) (step q (suc at) x v) xs ys

pub entries_both : (q : Key) (at : ℕ) (v : View) (xs ys : List Item)
    → walk_entries q at v (xs ++ ys) ≡ walk_entries q at v xs ++ walk_entries q (end_at at xs) (walk q at v xs) ys
entries_both q at v [] ys = refl
entries_both q at v (x ∷ xs) ys =
    ap (λ l. step_entries q x v ++ l) (entries_both q (suc at) (step q (suc at) x v) xs ys)
    ∙ sym
    (append_assoc (step_entries q x v) (walk_entries q (suc at) (step q (suc at) x v) xs)
    (walk_entries q (end_at (suc at) xs) (walk q (suc at) (step q (suc at) x v) xs) ys))

-- what is known of it is not of later lines
abbrev pub Below : ℕ → Option Last → Type 0
Below at None = Unit {0}
Below at (Some last) = last.at ≤ at

below_more : (at by : ℕ) (o : Option Last) → at ≤ by → Below at o → Below by o
below_more at by None h b = tt
below_more at by (Some last) h b = omega (arith, b)

below_if : (at : ℕ) (t : Bool) (a b : Option Last) → Below at a → Below at b → Below at (cond t a b)
below_if at true a b h i = h
below_if at false a b h i = i

below_step : (q : Key) (at : ℕ) (x : Item) (v : View) → Below at v.of → Below (suc at) (of_step q (suc at) x v)
below_step q at (Item.is key shot words) v b =
    below_if (suc at) (is_key key q) _ v.of (omega arith) (below_more at (suc at) v.of (omega arith) b)
below_step q at (Item.refused key) v b =
    below_if (suc at) (is_key key q) _ v.of (omega arith) (below_more at (suc at) v.of (omega arith) b)
below_step q at (Item.went key shot) v b =
    below_if (suc at) (is_key key q) None v.of tt (below_more at (suc at) v.of (omega arith) b)
below_step q at (Item.started dump) v b = below_more at (suc at) v.of (omega arith) b
below_step q at (Item.finished dump f) v b =
    below_if (suc at) (closes q v.run dump f && missing v.run v.of) None v.of tt
    (below_more at (suc at) v.of (omega arith) b)
below_step q at Item.blind v b = below_more at (suc at) v.of (omega arith) b
below_step q at Item.nothing v b = below_more at (suc at) v.of (omega arith) b

pub below_walk : (q : Key) (at : ℕ) (v : View) (xs : List Item) → Below at v.of
    → Below (end_at at xs) (walk q at v xs).of
below_walk q at v [] b = b
below_walk q at v (x ∷ xs) b = below_walk q (suc at) (step q (suc at) x v) xs (below_step q at x v b)

-- the dump that runs
abbrev pub run_of : (torn : Bool) → List ℕ → ℕ → Option (List ℕ × ℕ)
run_of torn name at = cond torn None (Some (name, at))

-- which dump that is depends on its name alone
closes_same : (q : Key) (torn : Bool) (name : List ℕ) (at by : ℕ) (x : Item)
    → closes_by q (run_of torn name at) x ≡ closes_by q (run_of torn name by) x
closes_same q true name at by (Item.finished dump f) = refl
closes_same q false name at by (Item.finished dump f) = refl
closes_same q torn name at by (Item.is key shot words) = refl
closes_same q torn name at by (Item.refused key) = refl
closes_same q torn name at by (Item.went key shot) = refl
closes_same q torn name at by (Item.started dump) = refl
closes_same q torn name at by Item.blind = refl
closes_same q torn name at by Item.nothing = refl

pub whole_same : (q : Key) (torn : Bool) (name : List ℕ) (at by : ℕ) (xs : List Item)
    → is_whole q (run_of torn name at) xs ≡ is_whole q (run_of torn name by) xs
whole_same q torn name at by [] = refl
whole_same q torn name at by (x ∷ xs) =
    ap (λ t. t || is_whole q (run_of torn name at) xs) (closes_same q torn name at by x)
    ∙ ap (λ w. closes_by q (run_of torn name by) x || w) (whole_same q torn name at by xs)

none_closes : (q : Key) (x : Item) → closes_by q None x ≡ false
none_closes q (Item.finished dump f) = refl
none_closes q (Item.is key shot words) = refl
none_closes q (Item.refused key) = refl
none_closes q (Item.went key shot) = refl
none_closes q (Item.started dump) = refl
none_closes q Item.blind = refl
none_closes q Item.nothing = refl

none_whole : (q : Key) (xs : List Item) → is_whole q None xs ≡ false
none_whole q [] = refl
none_whole q (x ∷ xs) = ap (λ t. t || is_whole q None xs) (none_closes q x) ∙ none_whole q xs

-- ** what is missed

abbrev pub is_none : Message → Bool
is_none Message.none = true
is_none m = false

since_place : (at place : ℕ) → at < place → not (nat_le at place) ≡ false
since_place at place h = grind (arith, nat_tests)

not_since : (at by : ℕ) → by < at → not (nat_le at by) ≡ true
not_since at by h = grind (arith, nat_tests)

-- without a message what is known is of earlier lines
missing_old : (torn : Bool) (name : List ℕ) (at by : ℕ) (o : Option Last) → by < at → Below by o
    → missing (run_of torn name at) o ≡ true
missing_old true name at by o h b = refl
missing_old false name at by None h b = refl
missing_old false name at by (Some last) h b = not_since at last.at (omega (arith, b))

-- with one nothing is missed
none_missed : (q : Key) (torn : Bool) (name : List ℕ) (at place : ℕ) (xs : List Item) (last : Last)
    → last.at ≡ place → at < place
    → (is_whole q (run_of torn name at) xs && missing (run_of torn name at) (Some last)) ≡ false
none_missed q true name at place xs last is h = ap (λ w. w && true) (none_whole q xs)
none_missed q false name at place xs last is h =
    ap (λ p. is_whole q (Some (name, at)) xs && not (nat_le at p)) is
    ∙ ap (λ t. is_whole q (Some (name, at)) xs && t) (since_place at place h)
    ∙ and_none (is_whole q (Some (name, at)) xs)

missed_is : (q : Key) (torn : Bool) (name : List ℕ) (at by place : ℕ) (xs : List Item) (m : Message) (o : Option Last)
    → by < at → at < place → Below by o
    → (is_whole q (run_of torn name at) xs && missing (run_of torn name at) (put place m o))
    ≡ (is_whole q (run_of torn name at) xs && is_none m)
missed_is q torn name at by place xs Message.none o h i b =
    ap (λ t. is_whole q (run_of torn name at) xs && t) (missing_old torn name at by o h b)
missed_is q torn name at by place xs Message.refused o h i b =
    none_missed q torn name at place xs _ refl i ∙ sym (and_none (is_whole q (run_of torn name at) xs))
missed_is q torn name at by place xs (Message.accepted shot) o h i b =
    none_missed q torn name at place xs _ refl i ∙ sym (and_none (is_whole q (run_of torn name at) xs))

-- ** a dump, from what was known before it

-- whether it was cut
abbrev pub is_torn : (items : List Item) → IsDump items → Bool
is_torn items d = list_any is_blind d.messages

abbrev pub whole_at : Key → ℕ → (items : List Item) → IsDump items → Bool
whole_at q at items d = is_whole q (run_of (is_torn items d) d.name at) d.ends

pub record DumpDoes (q : Key) (at : ℕ) (v : View) (items : List Item) (d : IsDump items) : Type 0 where
  pub place : ℕ
  pub to : walk q at v items
      ≡ record {
        of =
            cond (whole_at q (suc at) items d && is_none (mine q d.messages)) None (put place (mine q d.messages) v.of);
        run = run_of (is_torn items d) d.name (suc at);
        whole = v.whole || whole_at q (suc at) items d;
      }
  pub tell : walk_entries q at v items
      ≡ told_of q (mine q d.messages) v.of v.whole
      ++ cond (whole_at q (suc at) items d && is_none (mine q d.messages))
      (gone_entry q (last_shot (put place (mine q d.messages) v.of))) []

module _ (q : Key) (at : ℕ) (v : View) (items : List Item) (d : IsDump items) (b : Below at v.of) where
  abbrev begun : View
  begun = record { of = v.of; run = Some (d.name, suc at); whole = v.whole }

  messages : MessagesDo q (suc at) begun d.messages
  messages = messages_do q (suc at) begun d.messages d.all_messages (d.once q)

  abbrev between : View
  between = record {
    of = put messages.place (mine q d.messages) v.of;
    run = run_of (is_torn items d) d.name (suc at);
    whole = v.whole;
  }

  ends : EndsDo q (end_at (suc at) d.messages) between d.ends
  ends = ends_do q (end_at (suc at) d.messages) between d.ends d.all_ends

  missed : (whole_at q (suc at) items d && missing between.run between.of)
      ≡ (whole_at q (suc at) items d && is_none (mine q d.messages))
  missed =
      missed_is q (is_torn items d) d.name (suc at) at messages.place d.ends (mine q d.messages) v.of (omega arith)
      messages.later b

  pub dump_does : DumpDoes q at v items d
  dump_does = record {
    place = messages.place;
    to =
        ap (λ xs. walk q at v xs) d.are
        ∙ walk_both q (suc at) begun d.messages d.ends
        ∙ ap (λ w. walk q (end_at (suc at) d.messages) w d.ends) messages.to
        ∙ ends.to
        ∙ ap (λ t. record {
          of = cond t None between.of;
          run = between.run;
          whole = v.whole || whole_at q (suc at) items d;
        }) missed;
    tell =
        ap (λ xs. walk_entries q at v xs) d.are
        ∙ entries_both q (suc at) begun d.messages d.ends
        ∙ ap (λ l. l ++ walk_entries q (end_at (suc at) d.messages) (walk q (suc at) begun d.messages) d.ends)
        messages.tell
        ∙ ap (λ w. told_of q (mine q d.messages) v.of v.whole ++ walk_entries q (end_at (suc at) d.messages) w d.ends)
        messages.to
        ∙ ap (λ l. told_of q (mine q d.messages) v.of v.whole ++ l) ends.tell
        ∙ ap (λ t. told_of q (mine q d.messages) v.of v.whole
        ++ cond t (gone_entry q (last_shot (put messages.place (mine q d.messages) v.of))) []) missed;
  }

-- ** from nothing

abbrev pub none_yet : View
none_yet = record { of = None; run = None; whole = false }

pub stays : (w : Bool) (k : ℕ) (m : Message) → cond (w && is_none m) None (put k m None) ≡ put k m None
stays w k Message.none = cond_one (w && true) None
stays w k Message.refused = ap (λ t. cond t None (put k Message.refused None)) (and_none w)
stays w k (Message.accepted shot) = ap (λ t. cond t None (put k (Message.accepted shot) None)) (and_none w)

pub none_told : (q : Key) (w : Bool) (k : ℕ) (m : Message)
    → told_of q m None false ++ cond (w && is_none m) (gone_entry q (last_shot (put k m None))) [] ≡ []
none_told q w k Message.none = cond_one (w && true) []
none_told q w k Message.refused = cond_one (w && false) []
none_told q w k (Message.accepted shot) = ap (λ t. cond t (gone_entry q (Some shot)) []) (and_none w)

-- ** what files have

abbrev pub as_found : List ℕ → Message → Found
as_found front Message.none = Found.nothing
as_found front Message.refused = Found.refusals
as_found front (Message.accepted shot) = Found.last front shot (kind_or (kind_in shot.text) None)

pub found_as : (o : Option Seen) (k : ℕ) (m : Message) → last_in o ≡ put k m None
    → (front : List ℕ) × (found_of o ≡ as_found front m)
found_as None k Message.none e = ([], refl)
found_as None k Message.refused e = absurd cc
found_as None k (Message.accepted shot) e = absurd cc
found_as (Some seen) k Message.none e = absurd cc
found_as (Some seen) k Message.refused e =
    ([], ap (λ s. found_with seen.words s seen.kind) (ap last_shot e))
found_as (Some seen) k (Message.accepted shot) e = (
  value_or_nothing seen.words,
  ap (λ s. found_with seen.words s seen.kind) (ap last_shot e)
      ∙ ap (λ j. Found.last (value_or_nothing seen.words) shot j) (ap last_kind e),
)

-- what files tell by what they have
abbrev pub files_by : Compared → Key → Bool → Bool → Missing → Missing → Found → Found → List Entry
files_by by q was is m n old new =
    news_entries q (news_of by was m (are_two old new) old new) ++ news_entries q (gone_of is n old new)

none_kind : (k : Option (List ℕ)) → kind_or k None ≡ k
none_kind None = refl
none_kind (Some k) = refl

-- both accept it
both_by : (by : Compared) (q : Key) (a b : List ℕ) (s t : Shot) (k : Option (List ℕ)) (was c : Bool)
    → news_entries q (cond c (News.replaced a s b t) (News.changed by b s t)) ++ []
    ≡ (cond c (gone_entry q (Some s)) [] ++ new_entry (c || was) (kept_of c (Some s)) q t) ++ []
both_by by q a b s t k was true = refl
both_by by q a b s t k was false = refl

pub table : (by : Compared) (q : Key) (m n : Missing) (a b : List ℕ) (k l : ℕ) (was is : Bool) (old new : Message)
    → as_found a old ≢ Found.refusals
    → files_by by q was is m n (as_found a old) (as_found b new)
    ≡ told_of q new (put k old None) was
    ++ cond (is && is_none new) (gone_entry q (last_shot (put l new (put k old None)))) []
table by q m n a b k l was is Message.refused new h = absurd (h refl)
table by q m n a b k l was is Message.none Message.none h = sym (cond_one (is && true) [])
table by q m n a b k l was is Message.none Message.refused h = sym (cond_one (is && false) [])
table by q m n a b k l true is Message.none (Message.accepted t) h =
    ap (λ (u : Bool). Entry.came q t ∷ cond u (gone_entry q (Some t)) []) (sym (and_none is))
table by q m n a b k l false is Message.none (Message.accepted t) h =
    ap (λ (u : Bool). cond u (gone_entry q (Some t)) []) (sym (and_none is))
table by q m n a b k l was true (Message.accepted s) Message.none h = refl
table by q m n a b k l was false (Message.accepted s) Message.none h = refl
table by q m n a b k l was is (Message.accepted s) Message.refused h =
    ap (λ (u : Bool). cond u (gone_entry q (Some s)) []) (sym (and_none is))
table by q m n a b k l was is (Message.accepted s) (Message.accepted t) h =
    ap (λ j. news_entries q
    (cond (announced.are_two (kind_or (kind_in s.text) None) j) (News.replaced a s b t) (News.changed by b s t)) ++ [])
    (none_kind (kind_in t.text))
    ∙ both_by by q a b s t None was (is_another (kind_or (kind_in s.text) None) t.text)
    ∙ ap (λ (u : Bool). message_entries q t (put k (Message.accepted s) None) was
    ++ cond u (gone_entry q (Some t)) []) (sym (and_none is))
