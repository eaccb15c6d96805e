-- The lines of interfaces that went, and of one that came.
use Rattle.std.proofs.Common.{◌≡◌, ℕ, Bool, true, false, List, [], ◌∷◌, ◌++◌, refl, sym, ap, subst, ◌∙◌, append_assoc}
use Rattle.std.proofs.Common.{append-nil, arith, drop, get_or, length, ◌<◌, ◌≤◌, ◌+◌}
use Rattle.std.proofs.lemmas.List.{drop_all}
use Rattle.std.specs.Prelude.{Result, Ok, Err, OnOk, Option, None, Some, MatchBool, cond, ◌&&◌, ◌||◌, ◌==◌}
use Rattle.std.specs.Ordering.{eq_by_cmp, nat_cmp, ordering_then}
use Rattle.std.specs.declared.cmp.Ordering.TheVariants.{Less}
use Rattle.std.proofs.lemmas.Bool.Decides.{nat_tests}
use Rattle.std.specs.List.{AllByRecursion, list_any}
use Rattle.std.specs.List.Sorted.{IsStrictlySortedBy}
use Rattle.std.proofs.lemmas.Map.Keys.{IsDistinct-from_sorted, IsDistinct-head, sorted_tail}
use Rattle.message_diff.specs.declared.key.Key.{Key}
use Rattle.message_diff.specs.declared.store.Entry.{Entry}
use Rattle.message_diff.specs.declared.store.Host.{Host}
use Rattle.message_diff.specs.declared.store.Known.{Known}
use Rattle.message_diff.specs.declared.telling.Telling.{Telling}
use Rattle.frame_shown.specs.declared.form.Order.{Order}
use Rattle.message_diff.specs.Shots.{Shot}
use Rattle.message_diff.specs.Announced.{is_another, kind_in, kind_or}
use Rattle.message_diff.specs.Changed.{IsChanged}
use Rattle.message_diff.specs.declared.snapshot.Compared.{Compared}
use Rattle.std.proofs.lemmas.Slice.Eq.{bytes_eq-Decides}
use Rattle.message_diff.specs.Known.{Item, Picture, Seen, key_cmp, is_key}
use Rattle.message_diff.specs.Known.{is_among, in_family, parts, ends, kind_of, shot_of}
use Rattle.message_diff.specs.Known.{is_ended_with, is_now, of_after, run_after, whole_after}
use Rattle.message_diff.specs.Told.{says, is_told, told_shot, own_shot, is_new_told, AreEnded, IsGone, AreGone}
use Rattle.message_diff.specs.Told.{IsTurned, kept_of, NewsOf, IsNews, AddsGone, AddsAllGone, AddsNews, AddsTold}
use Rattle.message_diff.specs.Held.{IsAfter, held, held_in, run_in, taken, picture, seen_in, shot_in, whole_in}
use Rattle.message_diff.specs.Held.{come_again, kind_at, kind_known, shot_told, text_at, words_at}
use Rattle.message_diff.proofs.Pictures.{drop_is}
use Rattle.message_diff.proofs.Missed.{laws, same_key}
use Rattle.message_diff.proofs.TwoKinds.{kind_twice, same_kind}

-- ** two clauses of one call
pub on_ok_both : {A E : Type 0} {P Q R : Type 0} (r : Result A E) → (P → Q → R) → OnOk r P → OnOk r Q → OnOk r R
on_ok_both (Ok _) f p q = f p q
on_ok_both (Err _) f p q = tt

-- ** among keys in order
or_true : (a b : Bool) → b ≡ true → (a || b) ≡ true
or_true true b h = refl
or_true false b h = h

among_first : (key : Key) (keys : List Key) → is_among (key ∷ keys) key ≡ true
among_first key keys = ap (λ b. b || is_among keys key) (laws.refl key)

apart_either : (k y : Key) (ys : List Key) (q : Key) (b : Bool) → is_key y q ≡ b → is_key k y ≡ false
    → (b || is_among ys q) ≡ true → (is_among ys q ≡ true → is_key k q ≡ false) → is_key k q ≡ false
apart_either k y ys q true is apart h rest = subst (λ (x : Key). is_key k x ≡ false) (same_key y q is) apart
apart_either k y ys q false is apart h rest = rest h

apart_from : (k : Key) (ks : List Key) (q : Key) → AllByRecursion (λ y. is_key k y ≡ false) ks
    → is_among ks q ≡ true → is_key k q ≡ false
apart_from k [] q all h = absurd cc
apart_from k (y ∷ ys) q all h = apart_either k y ys q (is_key y q) refl all.0 h (apart_from k ys q all.1)

pub apart : (k : Key) (ks : List Key) → IsStrictlySortedBy key_cmp (k ∷ ks) → (q : Key) → is_among ks q ≡ true
    → is_key k q ≡ false
apart k ks sorted q h =
    apart_from k ks q (IsDistinct-head (eq_by_cmp key_cmp) k ks (IsDistinct-from_sorted key_cmp (k ∷ ks) sorted)) h

-- ** lines of the same encodings
gone_same : (front : List ℕ) (f g : Key → Option Shot) (keys : List Key) (lines : List ℕ)
    → ((q : Key) → is_among keys q ≡ true → f q ≡ g q) → AreGone front f keys lines → AreGone front g keys lines
gone_same front f g [] lines same h = h
gone_same front f g (key ∷ keys) lines same h = (
  h.0,
  h.1,
  subst (λ (t : Option Shot). IsGone front t h.0) (same key (among_first key keys)) h.2,
  gone_same front f g keys h.1 (λ q is. same q (or_true (is_key key q) (is_among keys q) is)) h.3,
  h.4,
)

-- the line of one, and those of the ones after it
pub gone_first : (front : List ℕ) (f g : Key → Option Shot) (key : Key) (keys : List Key) (old mid new : List ℕ)
    → IsStrictlySortedBy key_cmp (key ∷ keys) → ((q : Key) → is_key key q ≡ false → g q ≡ f q)
    → AddsGone front (f key) old mid → AddsAllGone front g keys mid new → AddsAllGone front f (key ∷ keys) old new
gone_first front f g key keys old mid new sorted same one rest = (
  one.0 ++ rest.0,
  (
    one.0,
    rest.0,
    one.1,
    gone_same front g f keys rest.0 (λ q is. same q (apart key keys sorted q is)) rest.1,
    refl,
  ),
  rest.2 ∙ ap (λ l. l ++ rest.0) one.2 ∙ append_assoc old one.0 rest.0,
)

-- those of the others stay as one is taken out
pub told_after : (told : Telling) (a b : Host) (key : Key) → ((q : Key) → held b q ≡ taken key (held a) q)
    → (q : Key) → is_key key q ≡ false → shot_told told b q ≡ shot_told told a q
told_after told a b key is q other =
    ap (λ o. cond (says told.told) (shot_of (seen_in o)) None) (is q ∙ ap (λ c. cond c None (held a q)) other)

-- the same of the keys from a place on
next_sorted : (keys : List Key) (i : ℕ) (d : Key) → i < length keys → IsStrictlySortedBy key_cmp (drop i keys)
    → IsStrictlySortedBy key_cmp (drop (i + 1) keys)
next_sorted keys i d within sorted =
    sorted_tail key_cmp (get_or keys i d) (drop (i + 1) keys)
    (subst (λ (ks : List Key). IsStrictlySortedBy key_cmp ks) (drop_is keys i d within) sorted)

pub sorted_next : (keys : List Key) (i : ℕ) → i < length keys → IsStrictlySortedBy key_cmp (drop i keys)
    → IsStrictlySortedBy key_cmp (drop (i + 1) keys)
sorted_next keys i within = next_sorted keys i (record { family = 0; index = 0 }) within

pub gone_next : (front : List ℕ) (told : Telling) (keys : List Key) (i : ℕ) (d : Key) (a b : Host)
    (old mid new : List ℕ) → i < length keys → IsStrictlySortedBy key_cmp (drop i keys)
    → ((q : Key) → held b q ≡ taken (get_or keys i d) (held a) q)
    → AddsGone front (shot_told told a (get_or keys i d)) old mid
    → AddsAllGone front (shot_told told b) (drop (i + 1) keys) mid new
    → AddsAllGone front (shot_told told a) (drop i keys) old new
gone_next front told keys i d a b old mid new within sorted known one rest =
    let is = drop_is keys i d within in
    subst (λ (ks : List Key). AddsAllGone front (shot_told told a) ks old new) (sym is)
    (gone_first front (shot_told told a) (shot_told told b) (get_or keys i d) (drop (i + 1) keys) old mid new
    (subst (λ (ks : List Key). IsStrictlySortedBy key_cmp ks) is sorted)
    (told_after told a b (get_or keys i d) known) one rest)

pub gone_last : (front : List ℕ) (told : Telling) (keys : List Key) (i : ℕ) (a : Host) (old : List ℕ)
    → length keys ≤ i → AddsAllGone front (shot_told told a) (drop i keys) old old
gone_last front told keys i a old over =
    subst (λ (ks : List Key). AddsAllGone front (shot_told told a) ks old old) (sym (drop_all i keys over))
    ([], refl, sym (append-nil old))

-- ** one that went, and its parts
is_zero : (n : ℕ) → (n == 0) ≡ true → n ≡ 0
is_zero n h = grind (arith, nat_tests)

sorted_by : (key : Key) (b : Bool) → (key.family == 0) ≡ b
    → IsStrictlySortedBy key_cmp (key ∷ cond b (in_family 7 key ∷ in_family 10 key ∷ []) [])
unfolding IsStrictlySortedBy
sorted_by key false is = (tt, tt)
sorted_by key true is =
    let below : (n : ℕ) → nat_cmp 0 n ≡ Less → key_cmp key (in_family n key) ≡ Less =
    λ n less. ap (λ f. ordering_then (nat_cmp f n) (nat_cmp key.index key.index)) (is_zero key.family is)
    ∙ ap (λ o. ordering_then o (nat_cmp key.index key.index)) less in
    ((below 7 refl, (below 10 refl, tt)), ((refl, tt), (tt, tt)))

pub own_sorted : (key : Key) → IsStrictlySortedBy key_cmp (key ∷ parts key)
own_sorted key = sorted_by key (key.family == 0) refl

-- ** nothing went
pub tells_news : (front : List ℕ) (told : Telling) (p : Picture) (x : Item) (old line new : List ℕ)
    → ((q : Key) → ends p x q ≡ false) → IsNews front told p x line → new ≡ old ++ line
    → AddsTold front told p x old new
unfolding IsStrictlySortedBy
tells_news front told p x old line new none news is = (
  line,
  record {
    keys = [];
    gone = [];
    news = line;
    ended = record { sorted = tt; each = λ q. ap (λ b. is_told p x q && b) (sym (none q)) };
    lines = refl;
    new = news;
    all = refl;
  },
  is,
)

pub tells_nothing : (front : List ℕ) (told : Telling) (p : Picture) (x : Item) (old : List ℕ)
    → ((q : Key) → ends p x q ≡ false) → IsNews front told p x [] → AddsTold front told p x old old
tells_nothing front told p x old none news =
    tells_news front told p x old [] old none news (sym (append-nil old))

-- ** some went
pub tells_gone : (front : List ℕ) (told : Telling) (p : Picture) (x : Item) (keys : List Key)
    (line old mid new : List ℕ) → AreEnded p x keys → AddsAllGone front (told_shot told p x) keys old mid
    → IsNews front told p x line
    → new ≡ mid ++ line → AddsTold front told p x old new
tells_gone front told p x keys line old mid new ended gone news is = (
  gone.0 ++ line,
  record {
    keys = keys;
    gone = gone.0;
    news = line;
    ended = ended;
    lines = gone.1;
    new = news;
    all = refl;
  },
  is ∙ ap (λ l. l ++ line) gone.2 ∙ append_assoc old gone.0 line,
)

pub tells_went : (front : List ℕ) (told : Telling) (a b : Host) (key : Key) (gone : Option Shot)
    (old mid new : List ℕ) → ((q : Key) → held b q ≡ taken key (held a) q)
    → AddsGone front (cond (says told.told) (own_shot key gone (seen_in (held a key))) None) old mid
    → AddsAllGone front (shot_told told b) (parts key) mid new
    → AddsTold front told (picture a) (Item.went key gone) old new
tells_went front told a b key gone old mid new known one rest =
    let x : Item = Item.went key gone in
    let own : Option Shot = own_shot key gone (seen_in (held a key)) in
    let text : Bool → Key → Option Shot =
    λ c q. cond (says told.told) (cond c own (shot_of (seen_in (held a q)))) None in
    tells_gone front told (picture a) x (key ∷ parts key) [] old new new
    (record { sorted = own_sorted key; each = λ q. refl })
    (gone_first front (told_shot told (picture a) x) (shot_told told b) key (parts key) old mid new (own_sorted key)
    (λ q other. told_after told a b key known q other ∙ ap (λ c. text c q) (sym other))
    (subst (λ (t : Option Shot). AddsGone front t old mid) (ap (λ c. text c key) (sym (laws.refl key))) one) rest)
    refl (sym (append-nil new))

-- ** one that came, or goes on
pub whole_same : (a b : Host) (f : ℕ) → b.whole ≡ a.whole → whole_in b f ≡ whole_in a f
whole_same a b f is =
    let same : b.whole.items ≡ a.whole.items = ap (λ w. w.items) is in
    ap (λ (fs : List ℕ). list_any (λ g. g == f) fs) same

new_same : (told : Telling) (a b : Host) (c d : Bool) (key : Key) → a.whole ≡ b.whole → d ≡ c
    → is_new_told told.told (whole_in a) c key ≡ is_new_told told.told (whole_in b) d key
new_same told a b c d key is other =
    let same : a.whole.items ≡ b.whole.items = ap (λ w. w.items) is in
    ap (λ (fs : List ℕ). is_new_told told.told (λ f. list_any (λ g. g == f) fs) c key) same
    ∙ ap (λ o. is_new_told told.told (whole_in b) o key) (sym other)

news_same : (front : List ℕ) (told : Telling) (a b : Host) (c d : Bool) (key : Key) (last : Option Shot)
    (shot : Shot) (line : List ℕ) → a.whole ≡ b.whole → d ≡ c
    → NewsOf front told (is_new_told told.told (whole_in a) c key) last shot line
    → NewsOf front told (is_new_told told.told (whole_in b) d key) last shot line
news_same front told a b c d key last shot line is other news =
    subst (λ (n : Bool). NewsOf front told n last shot line) (new_same told a b c d key is other) news

pub tells_put : (front : List ℕ) (told : Telling) (a b : Host) (key : Key) (last : Option Shot)
    (text : Shot) (words : Option (List ℕ))
    (old new : List ℕ) → b.whole ≡ a.whole → shot_of (seen_in (held a key)) ≡ last
    → is_another (kind_of (seen_in (held a key))) text.text ≡ false
    → AddsNews front told (is_new_told told.told (whole_in b) false key) last text old new
    → AddsTold front told (picture a) (Item.is key text words) old new
tells_put front told a b key last text words old new whole is kept added =
    tells_news front told (picture a) (Item.is key text words) old added.0 new
    (λ q. ap (λ b. b && is_ended_with key q) kept)
    (subst (λ (t : Option Shot). NewsOf front told
    (is_new_told told.told (whole_in a) (is_another (kind_of (seen_in (held a key))) text.text) key) t text added.0)
    (sym (ap (λ b. kept_of b (shot_of (seen_in (held a key)))) kept ∙ is))
    (news_same front told b a false _ key last text added.0 whole kept added.1)) added.2

pub tells_other : (front : List ℕ) (told : Telling) (a b c : Host) (key : Key) (last text : Shot)
    (words : Option (List ℕ)) (old mid next new : List ℕ)
    → ((q : Key) → held b q ≡ taken key (held a) q) → c.whole ≡ a.whole
    → shot_of (seen_in (held a key)) ≡ Some last → is_another (kind_of (seen_in (held a key))) text.text ≡ true
    → AddsGone front (cond (says told.told) (Some last) None) old mid
    → AddsAllGone front (shot_told told b) (parts key) mid next
    → AddsNews front told (is_new_told told.told (whole_in c) true key) None text next new
    → AddsTold front told (picture a) (Item.is key text words) old new
tells_other front told a b c key last text words old mid next new known whole is other one rest added =
    let x : Item = Item.is key text words in
    tells_gone front told (picture a) x (key ∷ parts key) added.0 old next new
    (record {
      sorted = own_sorted key;
      each = λ q. ap (λ b. is_told (picture a) x q && (b && is_ended_with key q)) (sym other);
    })
    (gone_first front (shot_told told a) (shot_told told b) key (parts key) old mid next (own_sorted key)
    (told_after told a b key known)
    (subst (λ (t : Option Shot). AddsGone front (cond (says told.told) t None) old mid) (sym is) one) rest)
    (subst (λ (t : Option Shot). NewsOf front told
    (is_new_told told.told (whole_in a) (is_another (kind_of (seen_in (held a key))) text.text) key) t text added.0)
    (sym (ap (λ b. kept_of b (shot_of (seen_in (held a key)))) other))
    (news_same front told c a true _ key None text added.0 whole other added.1)) added.2

-- the same once more
match_both : {A B : Type 0} (b : Bool) → A → B → MatchBool b A B
match_both true x y = x
match_both false x y = y

-- nothing of it turned
turned_same : (by : Compared) (front : List ℕ) (last text : Shot) → last.text ≡ text.text
    → IsTurned by front last text []
turned_same by front last text is =
    subst (λ b. MatchBool b (◌≡◌ {A = List ℕ} [] []) (IsChanged by front last text []))
    (sym ((bytes_eq-Decides last.text text.text).1 is)) refl

pub tells_same : (front : List ℕ) (told : Telling) (a : Host) (key : Key) (last text : Shot)
    (words : Option (List ℕ)) (old : List ℕ) → shot_of (seen_in (held a key)) ≡ Some last → last.text ≡ text.text
    → is_another (kind_of (seen_in (held a key))) text.text ≡ false
    → AddsTold front told (picture a) (Item.is key text words) old old
tells_same front told a key last text words old is same kept =
    tells_nothing front told (picture a) (Item.is key text words) old (λ q. ap (λ b. b && is_ended_with key q) kept)
    (subst (λ (t : Option Shot). NewsOf front told
    (is_new_told told.told (whole_in a) (is_another (kind_of (seen_in (held a key))) text.text) key) t text [])
    (sym (ap (λ b. kept_of b (shot_of (seen_in (held a key)))) kept ∙ is))
    (match_both (says told.told) (turned_same told.by front last text same) refl))

-- what is known of an interface that goes on, and of one whose place another one has
pub of_kept : (a : Host) (at : ℕ) (key : Key) (kind : Option (List ℕ)) (text : Shot)
    (words : Option (List ℕ)) (q : Key)
    → is_another (kind_of (seen_in (held a key))) text.text ≡ false
    → kind_or (kind_in text.text) kind ≡ kind_or (kind_in text.text) (kind_of (seen_in (held a key)))
    → is_now at key kind text words (picture a).of q ≡ of_after (picture a) at (Item.is key text words) q
of_kept a at key kind text words q kept known =
    let seen : Option (List ℕ) → Seen = λ k. record { at = at; shot = Some text; kind = k; words = words } in
    ap (λ k. cond (is_key key q) (Some (seen k)) (seen_in (held a q))) known
    ∙ ap (λ b. cond (is_key key q) (Some (seen (kind_or (kind_in text.text) (kind_of (seen_in (held a key))))))
    (cond (b && is_ended_with key q) None (seen_in (held a q)))) (sym kept)

pub of_other : (a : Host) (at : ℕ) (key : Key) (kind : Option (List ℕ)) (text : Shot)
    (words : Option (List ℕ)) (q : Key)
    → is_another (kind_of (seen_in (held a key))) text.text ≡ true
    → kind_or (kind_in text.text) kind ≡ kind_or (kind_in text.text) (kind_of (seen_in (held a key)))
    → is_now at key kind text words (λ r. cond (is_ended_with key r) None (seen_in (held a r))) q
    ≡ of_after (picture a) at (Item.is key text words) q
of_other a at key kind text words q other known =
    let seen : Option (List ℕ) → Seen = λ k. record { at = at; shot = Some text; kind = k; words = words } in
    ap (λ k. cond (is_key key q) (Some (seen k)) (cond (is_ended_with key q) None (seen_in (held a q)))) known
    ∙ ap (λ b. cond (is_key key q) (Some (seen (kind_or (kind_in text.text) (kind_of (seen_in (held a key))))))
    (cond (b && is_ended_with key q) None (seen_in (held a q)))) (sym other)

pub seen_put : (b : Bool) (at : ℕ) (last : Option Entry) (shot : Option Shot) (kind words : Option (List ℕ))
    (o : Option Known) → shot_in last ≡ shot → kind_at last ≡ kind → words_at last ≡ words
    → seen_in (cond b (Some (record { at = at; last = last })) o)
    ≡ cond b (Some (record { at = at; shot = shot; kind = kind; words = words })) (seen_in o)
seen_put true at last shot kind words o is known kept =
    λ i. Some (record { at = at; shot = is i; kind = known i; words = kept i })
seen_put false at last shot kind words o is known kept = refl

-- where the last message has the same encoding
pub shot_same : (last : Option Entry) (new : Shot) → text_at last ≡ Some new.text
    → shot_in (come_again new.order last) ≡ Some new
shot_same None new is = absurd cc
shot_same (Some entry) new is =
    let same : entry.snapshot.text ≡ new.text = cc in
    ap (λ t. Some (record { order = new.order; text = t })) same

pub some_shot : (last : Option Entry) (text : List ℕ) → text_at last ≡ Some text
    → (shot : Shot) × (shot_in last ≡ Some shot) × (shot.text ≡ text)
some_shot None text is = absurd cc
some_shot (Some entry) text is = (entry.snapshot, refl, cc)

pub kind_same : (last : Option Entry) (order : Order) (text : List ℕ) → text_at last ≡ Some text
    → kind_at (come_again order last) ≡ kind_or (kind_in text) (kind_at last)
kind_same None order text is = absurd cc
kind_same (Some entry) order text is =
    let same : entry.snapshot.text ≡ text = cc in
    sym (ap (λ t. kind_or (kind_in t) (kind_known entry)) (sym same) ∙ kind_twice (kind_in entry.snapshot.text) _)

pub kind_kept : (last : Option Entry) (text : List ℕ) → text_at last ≡ Some text
    → is_another (kind_at last) text ≡ false
kind_kept None text is = absurd cc
kind_kept (Some entry) text is =
    let same : entry.snapshot.text ≡ text = cc in
    same_kind entry.snapshot.text text _ same

pub words_none : (order : Order) (last : Option Entry) → words_at (come_again order last) ≡ None
words_none order None = refl
words_none order (Some entry) = refl

-- ** a line that ends nothing, and of which no interface is
pub stays : (front : List ℕ) (told : Telling) (at : ℕ) (a b : Host) (x : Item) (out : List ℕ) → b.known ≡ a.known
    → b.whole ≡ a.whole → run_in b.dump ≡ run_after (picture a) at x
    → ((q : Key) → of_after (picture a) at x q ≡ (picture a).of q) → ((q : Key) → ends (picture a) x q ≡ false)
    → ((f : ℕ) → whole_after (picture a) x f ≡ (picture a).whole f) → IsNews front told (picture a) x []
    → IsAfter (picture a) at x (picture b) × AddsTold front told (picture a) x out out
stays front told at a b x out known whole run of none same news = (
  record {
    of = λ q. ap (λ k. seen_in (held_in k.entries q)) known ∙ sym (of q);
    run = run;
    whole = λ f. whole_same a b f whole ∙ sym (same f);
  },
  tells_nothing front told (picture a) x out none news,
)
