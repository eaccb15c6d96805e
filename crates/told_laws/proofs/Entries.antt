-- What a line tells, as entries: of each interface those that what is known of it asks for.
use Rattle.std.proofs.Common.{◌≡◌, ◌++◌, ℕ, Bool, true, false, List, [], ◌∷◌, refl, sym, ap, ◌∙◌, subst}
use Rattle.std.specs.Prelude.{Option, None, Some, MatchBool, cond, is_some, ◌&&◌, ◌||◌}
use Rattle.std.specs.List.{flat_map, AllByRecursion, IsDistinct}
use Rattle.std.specs.Ordering.{eq_by_cmp}
use Rattle.message_diff.specs.declared.key.Key.{Key}
use Rattle.message_diff.specs.declared.snapshot.Compared.{Compared}
use Rattle.message_diff.specs.declared.telling.Telling.{Telling}
use Rattle.std.proofs.lemmas.List.{append-nil, append_assoc}
use Rattle.std.proofs.lemmas.Map.Keys.{IsDistinct-from_sorted}
use Rattle.message_diff.specs.Announced.{is_another}
use Rattle.message_diff.specs.Changed.{IsChanged}
use Rattle.message_diff.specs.Shots.{Shot}
use Rattle.message_diff.specs.Known.{Item, Picture, ends, is_among, is_key, is_text, key_cmp, kind_of, shot_of}
use Rattle.message_diff.specs.Told.{AreEnded, AreGone, IsGone, IsNew, IsNews, Tells, gone_shot, is_new_told}
use Rattle.message_diff.specs.Told.{is_told, kept_of, says, told_shot}
use Rattle.message_diff.proofs.Missed.{laws, same_key}
use Rattle.told_laws.specs.Entries.{AreEntries, Entry, IsEntry, key_of, of_key}
use Rattle.told_laws.specs.Turns.{AllWent}

-- ** what is told of each interface

abbrev pub gone_entry : Key → Option Shot → List Entry
gone_entry q None = []
gone_entry q (Some shot) = Entry.went q shot ∷ []

abbrev pub new_entry : Bool → Option Shot → Key → Shot → List Entry
new_entry is_told None key shot = cond is_told (Entry.came key shot ∷ []) []
new_entry is_told (Some last) key shot = cond (is_text last.text shot.text) [] (Entry.changed key last shot ∷ [])

abbrev pub news_entry : Telling → Picture → Item → List Entry
news_entry told p (Item.is key shot words) =
    cond (says told.told)
    (new_entry (is_new_told told.told p.whole (is_another (kind_of (p.of key)) shot.text) key)
    (kept_of (is_another (kind_of (p.of key)) shot.text) (shot_of (p.of key))) key shot) []
news_entry told p x = []

abbrev pub gone_at : Telling → Picture → Item → Key → List Entry
gone_at told p x q = cond (ends p x q) (gone_entry q (told_shot told p x q)) []

abbrev pub entries_at : Telling → Picture → Item → Key → List Entry
entries_at told p x q = gone_at told p x q ++ of_key q (news_entry told p x)

-- ** lists of them

cond_both : (t : Bool) (e : Entry) (a b c : List Entry) → c ≡ a ++ b
    → cond t (e ∷ c) c ≡ (cond t (e ∷ a) a) ++ b
cond_both true e a b c h = ap (λ es. e ∷ es) h
cond_both false e a b c h = h

pub of_key_both : (q : Key) (a b : List Entry) → of_key q (a ++ b) ≡ of_key q a ++ of_key q b
of_key_both q [] b = refl
of_key_both q (e ∷ a) b =
    cond_both (is_key (key_of e) q) e (of_key q a) (of_key q b) (of_key q (a ++ b)) (of_key_both q a b)

pub are_both : (by : Compared) (front : List ℕ) (a b : List Entry) (s t : List ℕ) → AreEntries by front a s
    → AreEntries by front b t → AreEntries by front (a ++ b) (s ++ t)
are_both by front [] b s t h i = subst (λ l. AreEntries by front b (l ++ t)) (sym h) i
are_both by front (e ∷ a) b s t h i = (
  h.0,
  h.1 ++ t,
  h.2,
  are_both by front a b h.1 t h.3 i,
  ap (λ l. l ++ t) h.4 ∙ append_assoc h.0 h.1 t,
)

pub one_entry : (by : Compared) (front : List ℕ) (e : Entry) (line : List ℕ) → IsEntry by front e line
    → AreEntries by front (e ∷ []) line
one_entry by front e line h = (line, [], h, refl, sym (append-nil line))

-- ** what went

abbrev pub all_gone : Telling → Picture → Item → List Key → List Entry
all_gone told p x keys = flat_map (λ q. gone_entry q (told_shot told p x q)) keys

one_gone : (by : Compared) (front : List ℕ) (q : Key) (shot : Option Shot) (line : List ℕ) → IsGone front shot line
    → AreEntries by front (gone_entry q shot) line
one_gone by front q None line h = h
one_gone by front q (Some shot) line h = one_entry by front (Entry.went q shot) line h

are_gone : (by : Compared) (front : List ℕ) (told : Telling) (p : Picture) (x : Item) (keys : List Key)
    (lines : List ℕ) → AreGone front (told_shot told p x) keys lines
    → AreEntries by front (all_gone told p x keys) lines
are_gone by front told p x [] lines h = h
are_gone by front told p x (key ∷ keys) lines h =
    subst (λ l. AreEntries by front (all_gone told p x (key ∷ keys)) l) (sym h.4)
    (are_both by front (gone_entry key (told_shot told p x key)) (all_gone told p x keys) h.0 h.1
    (one_gone by front key (told_shot told p x key) h.0 h.2) (are_gone by front told p x keys h.1 h.3))

one_went : (q : Key) (s : Option Shot) (es : List Entry) → AllWent es → AllWent (gone_entry q s ++ es)
one_went q None es h = h
one_went q (Some shot) es h = h

all_went : (told : Telling) (p : Picture) (x : Item) (keys : List Key) → AllWent (all_gone told p x keys)
all_went told p x [] = tt
all_went told p x (key ∷ keys) =
    one_went key (told_shot told p x key) (all_gone told p x keys) (all_went told p x keys)

-- an interface is among others once

own_entry : (key q : Key) (s : Option Shot) (t : Bool) → is_key key q ≡ t
    → of_key q (gone_entry key s) ≡ cond t (gone_entry key s) []
own_entry key q None true h = refl
own_entry key q None false h = refl
own_entry key q (Some shot) t h = ap (λ u. cond u (Entry.went key shot ∷ []) []) h

none_among : (key q : Key) (keys : List Key) → key ≡ q → AllByRecursion (λ y. is_key key y ≡ false) keys
    → is_among keys q ≡ false
none_among key q [] e h = refl
none_among key q (k ∷ keys) e h =
    ap (λ t. t || is_among keys q) (laws.symm k q ∙ ap (λ o. is_key o k) (sym e) ∙ h.0)
    ∙ none_among key q keys e h.1

-- the entries of the first of some, and of those behind it
gone_next : (told : Telling) (p : Picture) (x : Item) (key q : Key) (keys : List Key) (rest : List Entry) (t a : Bool)
    → is_key key q ≡ t → (t ≡ true → a ≡ false) → rest ≡ cond a (gone_entry q (told_shot told p x q)) []
    → of_key q (gone_entry key (told_shot told p x key)) ++ rest
    ≡ cond (t || a) (gone_entry q (told_shot told p x q)) []
gone_next told p x key q keys rest true a h none is =
    ap (λ es. es ++ rest) (own_entry key q (told_shot told p x key) true h)
    ∙ ap (λ k. gone_entry k (told_shot told p x k) ++ rest) (same_key key q h)
    ∙ ap (λ es. gone_entry q (told_shot told p x q) ++ es)
    (is ∙ ap (λ u. cond u (gone_entry q (told_shot told p x q)) []) (none refl))
    ∙ append-nil (gone_entry q (told_shot told p x q))
gone_next told p x key q keys rest false a h none is =
    ap (λ es. es ++ rest) (own_entry key q (told_shot told p x key) false h) ∙ is

gone_once : (told : Telling) (p : Picture) (x : Item) (q : Key) (keys : List Key)
    → IsDistinct (eq_by_cmp key_cmp) keys
    → of_key q (all_gone told p x keys) ≡ cond (is_among keys q) (gone_entry q (told_shot told p x q)) []
unfolding IsDistinct
gone_once told p x q [] h = refl
gone_once told p x q (key ∷ keys) h =
    of_key_both q (gone_entry key (told_shot told p x key)) (all_gone told p x keys)
    ∙ gone_next told p x key q keys (of_key q (all_gone told p x keys)) (is_key key q) (is_among keys q) refl
    (λ e. none_among key q keys (same_key key q e) h.0) (gone_once told p x q keys h.1)

-- and those that are ended are told
by_shot : (tells : Bool) (q : Key) (s : Option Shot) (a b : Bool) → (is_some s && a) ≡ (is_some s && b)
    → cond a (gone_entry q (cond tells s None)) [] ≡ cond b (gone_entry q (cond tells s None)) []
by_shot true q None true true h = refl
by_shot true q None true false h = refl
by_shot true q None false true h = refl
by_shot true q None false false h = refl
by_shot false q None true true h = refl
by_shot false q None true false h = refl
by_shot false q None false true h = refl
by_shot false q None false false h = refl
by_shot tells q (Some shot) a b h = ap (λ t. cond t (gone_entry q (cond tells (Some shot) None)) []) h

gone_is : (told : Telling) (p : Picture) (x : Item) (keys : List Key) (q : Key) → AreEnded p x keys
    → of_key q (all_gone told p x keys) ≡ gone_at told p x q
gone_is told p x keys q h =
    gone_once told p x q keys (IsDistinct-from_sorted key_cmp keys h.sorted)
    ∙ by_shot (says told.told) q (gone_shot p x q) (is_among keys q) (ends p x q) (h.each q)

-- ** what came or changed

turned_entry : (by : Compared) (front : List ℕ) (key : Key) (last shot : Shot) (line : List ℕ) (same : Bool)
    → MatchBool same (line ≡ []) (IsChanged by front last shot line)
    → AreEntries by front (cond same [] (Entry.changed key last shot ∷ [])) line
turned_entry by front key last shot line true h = h
turned_entry by front key last shot line false h = one_entry by front (Entry.changed key last shot) line h

is_new_entry : (by : Compared) (front : List ℕ) (is_told : Bool) (last : Option Shot) (key : Key) (shot : Shot)
    (line : List ℕ) → IsNew by front is_told last shot line
    → AreEntries by front (new_entry is_told last key shot) line
is_new_entry by front true None key shot line h = one_entry by front (Entry.came key shot) line h
is_new_entry by front false None key shot line h = h
is_new_entry by front is_told (Some last) key shot line h =
    turned_entry by front key last shot line (is_text last.text shot.text) h

news_if : (told : Telling) (front : List ℕ) (is_told : Bool) (last : Option Shot) (key : Key) (shot : Shot)
    (line : List ℕ) (tells : Bool) → MatchBool tells (IsNew told.by front is_told last shot line) (line ≡ [])
    → AreEntries told.by front (cond tells (new_entry is_told last key shot) []) line
news_if told front is_told last key shot line true h = is_new_entry told.by front is_told last key shot line h
news_if told front is_told last key shot line false h = h

are_news : (front : List ℕ) (told : Telling) (p : Picture) (x : Item) (line : List ℕ) → IsNews front told p x line
    → AreEntries told.by front (news_entry told p x) line
are_news front told p (Item.is key shot words) line h =
    news_if told front (is_new_told told.told p.whole (is_another (kind_of (p.of key)) shot.text) key)
    (kept_of (is_another (kind_of (p.of key)) shot.text) (shot_of (p.of key))) key shot line (says told.told) h
are_news front told p (Item.refused key) line h = h
are_news front told p (Item.went key shot) line h = h
are_news front told p (Item.started dump) line h = h
are_news front told p (Item.finished dump f) line h = h
are_news front told p Item.blind line h = h
are_news front told p Item.nothing line h = h

-- ** both

-- lines that a line tells, with those that it tells of each interface
pub record AreTold (front : List ℕ) (told : Telling) (p : Picture) (x : Item) (added : List ℕ) : Type 0 where
  pub gone : List Entry
  pub all : AllWent gone
  pub went : (q : Key) → of_key q gone ≡ gone_at told p x q
  pub are : AreEntries told.by front (gone ++ news_entry told p x) added

pub are_told : (front : List ℕ) (told : Telling) (p : Picture) (x : Item) (added : List ℕ)
    → Tells front told p x added → AreTold front told p x added
are_told front told p x added h = record {
  gone = all_gone told p x h.keys;
  all = all_went told p x h.keys;
  went = λ q. gone_is told p x h.keys q h.ended;
  are =
      subst (λ l. AreEntries told.by front (all_gone told p x h.keys ++ news_entry told p x) l) (sym h.all)
      (are_both told.by front (all_gone told p x h.keys) (news_entry told p x) h.gone h.news
      (are_gone told.by front told p x h.keys h.gone h.lines) (are_news front told p x h.news h.new));
}
