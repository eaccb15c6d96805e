-- What is known of a host at two places, where only the places differ, and lines have the same order by them.
use Rattle.std.proofs.Common.{◌≡◌, ◌≤◌, ◌<◌, ℕ, Bool, true, false, List, [], ◌∷◌, refl, sym, ap, ◌∙◌, subst, arith}
use Rattle.std.specs.Prelude.{Option, None, Some, cond, is_some, not, nat_le, ◌&&◌, ◌||◌, ◌==◌}
use Rattle.std.proofs.lemmas.Bool.Decides.{nat_tests}
use Rattle.message_diff.specs.declared.key.Key.{Key}
use Rattle.message_diff.specs.declared.telling.Telling.{Telling}
use Rattle.message_diff.specs.declared.telling.Told.{Told}
use Rattle.message_diff.specs.declared.telling.Told.TheVariants as Tellings
use Rattle.message_diff.specs.Announced.{is_another, kind_in, kind_or}
use Rattle.message_diff.specs.Shots.{Shot}
use Rattle.message_diff.specs.Held.{IsAfter}
use Rattle.message_diff.specs.Known.{Item, Seen, Picture, after, ends, is_since, is_missed, is_missed_by}
use Rattle.message_diff.specs.Known.{in_family, is_among, is_key, is_run, is_text, reaches, kind_of, shot_of}
use Rattle.message_diff.specs.Known.{of_after, run_after, whole_after, without, words_kept}
use Rattle.message_diff.specs.Told.{AreEnded, AreGone, IsGone, IsNews, NewsOf, Tells, gone_shot, is_new_told, is_told}
use Rattle.message_diff.specs.Told.{is_told_gone, kept_of, own_shot, says, told_shot}

-- ** one interface

-- the same, seen at another place; neither is behind its own last place
abbrev pub AreAlike : ℕ → ℕ → Option Seen → Option Seen → Type 0
AreAlike m n None None = Unit {0}
AreAlike m n (Some a) (Some b) =
    (a.at ≤ m) × (b.at ≤ n) × (a.shot ≡ b.shot) × (a.kind ≡ b.kind) × (a.words ≡ b.words)
AreAlike m n a b = ⊥

pub later : (m n k l : ℕ) (a b : Option Seen) → m ≤ k → n ≤ l → AreAlike m n a b → AreAlike k l a b
later m n k l None None h i e = tt
later m n k l (Some a) (Some b) h i e = (omega arith, omega arith, e.2, e.3, e.4)
later m n k l None (Some b) h i e = absurd e
later m n k l (Some a) None h i e = absurd e

pub one_shot : (m n : ℕ) (a b : Option Seen) → AreAlike m n a b → shot_of a ≡ shot_of b
one_shot m n None None e = refl
one_shot m n (Some a) (Some b) e = e.2
one_shot m n None (Some b) e = absurd e
one_shot m n (Some a) None e = absurd e

pub one_kind : (m n : ℕ) (a b : Option Seen) → AreAlike m n a b → kind_of a ≡ kind_of b
one_kind m n None None e = refl
one_kind m n (Some a) (Some b) e = e.3
one_kind m n None (Some b) e = absurd e
one_kind m n (Some a) None e = absurd e

one_words : (m n : ℕ) (a b : Option Seen) → AreAlike m n a b → words_kept a ≡ words_kept b
one_words m n None None e = refl
one_words m n (Some a) (Some b) e = e.4
one_words m n None (Some b) e = absurd e
one_words m n (Some a) None e = absurd e

one_gone : (key : Key) (m n : ℕ) (a b : Option Seen) → AreAlike m n a b → is_told_gone key a ≡ is_told_gone key b
one_gone key m n None None e = refl
one_gone key m n (Some a) (Some b) e = refl
one_gone key m n None (Some b) e = absurd e
one_gone key m n (Some a) None e = absurd e

one_own : (key : Key) (shot : Option Shot) (m n : ℕ) (a b : Option Seen) → AreAlike m n a b
    → own_shot key shot a ≡ own_shot key shot b
one_own key None m n a b e = one_shot m n a b e
one_own key (Some shot) m n a b e = ap (λ t. cond t (Some shot) None) (one_gone key m n a b e)

alike_if : (m n : ℕ) (t u : Bool) (a b c d : Option Seen) → t ≡ u → AreAlike m n a b → AreAlike m n c d
    → AreAlike m n (cond t a c) (cond u b d)
alike_if m n true true a b c d e x y = x
alike_if m n false false a b c d e x y = y
alike_if m n true false a b c d e x y = absurd cc
alike_if m n false true a b c d e x y = absurd cc

-- ** the dump that runs

-- lines since it began are the same ones
abbrev pub RunAlike : ℕ → ℕ → (Key → Option Seen) → (Key → Option Seen) → Option (List ℕ × ℕ) → Option (List ℕ × ℕ)
    → Type 0
RunAlike m n of from None None = Unit {0}
RunAlike m n of from (Some r) (Some s) =
    (r.0 ≡ s.0) × (r.1 ≤ m) × (s.1 ≤ n) × ((q : Key) → is_since r.1 (of q) ≡ is_since s.1 (from q))
RunAlike m n of from r s = ⊥

-- what is known of a host at these last places
pub record Alike (m n : ℕ) (p o : Picture) : Type 0 where
  pub of : (q : Key) → AreAlike m n (p.of q) (o.of q)
  pub run : RunAlike m n p.of o.of p.run o.run
  pub whole : (f : ℕ) → p.whole f ≡ o.whole f

-- ** what a line ends

missed_alike : (m n : ℕ) (of from : Key → Option Seen) (r s : Option (List ℕ × ℕ)) (dump : List ℕ) (f : ℕ) (q : Key)
    → RunAlike m n of from r s → is_missed_by of r dump f q ≡ is_missed_by from s dump f q
missed_alike m n of from None None dump f q e = refl
missed_alike m n of from (Some r) (Some s) dump f q e =
    ap (λ d. is_text d dump && is_missed of r.1 f q) e.0
    ∙ ap (λ t. is_text s.0 dump && (not t && (reaches f q.family && not (is_since r.1 (of (in_family f q))))))
    (e.3 q)
    ∙ ap (λ t. is_text s.0 dump && (not (is_since s.1 (from q)) && (reaches f q.family && not t)))
    (e.3 (in_family f q))
missed_alike m n of from None (Some s) dump f q e = absurd e
missed_alike m n of from (Some r) None dump f q e = absurd e

run_alike : (m n : ℕ) (of from : Key → Option Seen) (r s : Option (List ℕ × ℕ)) (dump : List ℕ)
    → RunAlike m n of from r s → is_run r dump ≡ is_run s dump
run_alike m n of from None None dump e = refl
run_alike m n of from (Some r) (Some s) dump e = ap (λ d. is_text d dump) e.0
run_alike m n of from None (Some s) dump e = absurd e
run_alike m n of from (Some r) None dump e = absurd e

module _ (m n : ℕ) (p o : Picture) (e : Alike m n p o) where
  pub kind_alike : (q : Key) → kind_of (p.of q) ≡ kind_of (o.of q)
  kind_alike q = one_kind m n (p.of q) (o.of q) (e.of q)

  pub shot_alike : (q : Key) → shot_of (p.of q) ≡ shot_of (o.of q)
  shot_alike q = one_shot m n (p.of q) (o.of q) (e.of q)

  pub ends_alike : (x : Item) (q : Key) → ends p x q ≡ ends o x q
  ends_alike (Item.is key shot words) q =
      ap (λ k. is_another k shot.text && ends p (Item.went key None) q) (kind_alike key)
  ends_alike (Item.refused key) q = refl
  ends_alike (Item.went key shot) q = refl
  ends_alike (Item.started dump) q = refl
  ends_alike (Item.finished dump f) q = missed_alike m n p.of o.of p.run o.run dump f q e.run
  ends_alike Item.blind q = refl
  ends_alike Item.nothing q = refl

  pub gone_alike : (x : Item) (q : Key) → gone_shot p x q ≡ gone_shot o x q
  gone_alike (Item.is key shot words) q = shot_alike q
  gone_alike (Item.refused key) q = shot_alike q
  gone_alike (Item.went key shot) q =
      ap (λ s. cond (is_key key q) s (shot_of (p.of q))) (one_own key shot m n (p.of key) (o.of key) (e.of key))
      ∙ ap (λ s. cond (is_key key q) (own_shot key shot (o.of key)) s) (shot_alike q)
  gone_alike (Item.started dump) q = shot_alike q
  gone_alike (Item.finished dump f) q = shot_alike q
  gone_alike Item.blind q = shot_alike q
  gone_alike Item.nothing q = shot_alike q

  -- ** what a line tells
  ended_alike : (x : Item) (keys : List Key) → AreEnded p x keys → AreEnded o x keys
  ended_alike x keys h = record {
    sorted = h.sorted;
    each = λ q.
        ap (λ s. is_some s && is_among keys q) (sym (gone_alike x q))
        ∙ h.each q
        ∙ ap (λ s. is_some s && ends p x q) (gone_alike x q)
        ∙ ap (λ t. is_told o x q && t) (ends_alike x q);
  }

  lines_alike : (front : List ℕ) (told : Telling) (x : Item) (keys : List Key) (lines : List ℕ)
      → AreGone front (told_shot told p x) keys lines → AreGone front (told_shot told o x) keys lines
  lines_alike front told x [] lines h = h
  lines_alike front told x (key ∷ keys) lines h = (
    h.0,
    h.1,
    subst (λ s. IsGone front s h.0) (ap (λ s. cond (says told.told) s None) (gone_alike x key)) h.2,
    lines_alike front told x keys h.1 h.3,
    h.4,
  )

  new_alike : (t : Told) (a b : Bool) (key : Key) → a ≡ b → is_new_told t p.whole a key ≡ is_new_told t o.whole b key
  new_alike Tellings.All a b key h = refl
  new_alike Tellings.Changes a b key h = ap (λ c. c || p.whole key.family) h ∙ ap (λ w. b || w) (e.whole key.family)
  new_alike Tellings.Faults a b key h = refl

  news_alike : (front : List ℕ) (told : Telling) (x : Item) (line : List ℕ) → IsNews front told p x line
      → IsNews front told o x line
  news_alike front told (Item.is key shot words) line h =
      let another = ap (λ k. is_another k shot.text) (kind_alike key) in
      subst (λ s. NewsOf front told (is_new_told told.told o.whole (is_another (kind_of (o.of key)) shot.text) key)
      s shot line)
      (ap (λ t. kept_of t (shot_of (p.of key))) another
      ∙ ap (λ s. kept_of (is_another (kind_of (o.of key)) shot.text) s) (shot_alike key))
      (subst (λ t. NewsOf front told t
      (kept_of (is_another (kind_of (p.of key)) shot.text) (shot_of (p.of key))) shot line)
      (new_alike told.told (is_another (kind_of (p.of key)) shot.text) (is_another (kind_of (o.of key)) shot.text) key
      another) h)
  news_alike front told (Item.refused key) line h = h
  news_alike front told (Item.went key shot) line h = h
  news_alike front told (Item.started dump) line h = h
  news_alike front told (Item.finished dump f) line h = h
  news_alike front told Item.blind line h = h
  news_alike front told Item.nothing line h = h

  pub tells_alike : (front : List ℕ) (told : Telling) (x : Item) (added : List ℕ) → Tells front told p x added
      → Tells front told o x added
  tells_alike front told x added h = record {
    keys = h.keys;
    gone = h.gone;
    news = h.news;
    ended = ended_alike x h.keys h.ended;
    lines = lines_alike front told x h.keys h.gone h.lines;
    new = news_alike front told x h.news h.new;
    all = h.all;
  }

-- ** what is known after it

since_if : (r s : ℕ) (t u : Bool) (a b c d : Option Seen) → t ≡ u → is_since r a ≡ is_since s b
    → is_since r c ≡ is_since s d → is_since r (cond t a c) ≡ is_since s (cond u b d)
since_if r s true true a b c d e x y = x
since_if r s false false a b c d e x y = y
since_if r s true false a b c d e x y = absurd cc
since_if r s false true a b c d e x y = absurd cc

since_now : (r s at by : ℕ) → r ≤ at → s ≤ by → nat_le r at ≡ nat_le s by
since_now r s at by h i = grind (arith, nat_tests)

not_since : (m n at by : ℕ) (a b : Option Seen) → m < at → n < by → AreAlike m n a b → is_since at a ≡ is_since by b
not_since m n at by None None h i e = refl
not_since m n at by (Some a) (Some b) h i e =
    let x : a.at < at = omega (arith, e.0) in
    let y : b.at < by = omega (arith, e.1) in
    grind (arith, nat_tests)
not_since m n at by None (Some b) h i e = absurd e
not_since m n at by (Some a) None h i e = absurd e

module _ (m n at by : ℕ) (p o : Picture) (e : Alike m n p o) (h : m < at) (i : n < by) where
  without_alike : (x : Item) (q : Key) → AreAlike at by (without p x q) (without o x q)
  without_alike x q =
      alike_if at by (ends p x q) (ends o x q) None None (p.of q) (o.of q) (ends_alike m n p o e x q) tt
      (later m n at by (p.of q) (o.of q) (omega arith) (omega arith) (e.of q))

  of_alike : (x : Item) (q : Key) → AreAlike at by (of_after p at x q) (of_after o by x q)
  of_alike (Item.is key shot words) q =
      alike_if at by (is_key key q) (is_key key q) _ _ (without p (Item.is key shot words) q)
      (without o (Item.is key shot words) q) refl
      (omega arith, omega arith, refl, ap (λ k. kind_or (kind_in shot.text) k) (kind_alike m n p o e key), refl)
      (without_alike (Item.is key shot words) q)
  of_alike (Item.refused key) q =
      alike_if at by (is_key key q) (is_key key q) _ _ (p.of q) (o.of q) refl (
        omega arith,
        omega arith,
        shot_alike m n p o e key,
        kind_alike m n p o e key,
        one_words m n (p.of key) (o.of key) (e.of key),
      )
      (later m n at by (p.of q) (o.of q) (omega arith) (omega arith) (e.of q))
  of_alike (Item.went key shot) q = without_alike (Item.went key shot) q
  of_alike (Item.started dump) q = without_alike (Item.started dump) q
  of_alike (Item.finished dump f) q = without_alike (Item.finished dump f) q
  of_alike Item.blind q = without_alike Item.blind q
  of_alike Item.nothing q = without_alike Item.nothing q

  since_without : (r s : ℕ) → r ≤ m → s ≤ n → ((q : Key) → is_since r (p.of q) ≡ is_since s (o.of q)) → (x : Item)
      (q : Key) → is_since r (without p x q) ≡ is_since s (without o x q)
  since_without r s j k same x q =
      since_if r s (ends p x q) (ends o x q) None None (p.of q) (o.of q) (ends_alike m n p o e x q) refl (same q)

  -- lines since the dump began that ran before
  since_alike : (r s : ℕ) → r ≤ m → s ≤ n → ((q : Key) → is_since r (p.of q) ≡ is_since s (o.of q)) → (x : Item)
      (q : Key) → is_since r (of_after p at x q) ≡ is_since s (of_after o by x q)
  since_alike r s j k same (Item.is key shot words) q =
      since_if r s (is_key key q) (is_key key q) _ _ (without p (Item.is key shot words) q)
      (without o (Item.is key shot words) q) refl (since_now r s at by (omega arith) (omega arith))
      (since_without r s j k same (Item.is key shot words) q)
  since_alike r s j k same (Item.refused key) q =
      since_if r s (is_key key q) (is_key key q) _ _ (p.of q) (o.of q) refl
      (since_now r s at by (omega arith) (omega arith)) (same q)
  since_alike r s j k same (Item.went key shot) q = since_without r s j k same (Item.went key shot) q
  since_alike r s j k same (Item.started dump) q = since_without r s j k same (Item.started dump) q
  since_alike r s j k same (Item.finished dump f) q = since_without r s j k same (Item.finished dump f) q
  since_alike r s j k same Item.blind q = since_without r s j k same Item.blind q
  since_alike r s j k same Item.nothing q = since_without r s j k same Item.nothing q

  run_stays : (r s : Option (List ℕ × ℕ)) → RunAlike m n p.of o.of r s → (x : Item)
      → RunAlike at by (of_after p at x) (of_after o by x) r s
  run_stays None None k x = tt
  run_stays (Some r) (Some s) k x = (k.0, omega (arith, k.1), omega (arith, k.2), since_alike r.1 s.1 k.1 k.2 k.3 x)
  run_stays None (Some s) k x = absurd k
  run_stays (Some r) None k x = absurd k

  run_goes : (x : Item)
      → RunAlike at by (of_after p at x) (of_after o by x) (run_after p at x) (run_after o by x)
  run_goes (Item.started dump) =
      (refl, omega arith, omega arith, λ q. not_since m n at by (p.of q) (o.of q) h i (e.of q))
  run_goes Item.blind = tt
  run_goes (Item.is key shot words) = run_stays p.run o.run e.run (Item.is key shot words)
  run_goes (Item.refused key) = run_stays p.run o.run e.run (Item.refused key)
  run_goes (Item.went key shot) = run_stays p.run o.run e.run (Item.went key shot)
  run_goes (Item.finished dump f) = run_stays p.run o.run e.run (Item.finished dump f)
  run_goes Item.nothing = run_stays p.run o.run e.run Item.nothing

  whole_goes : (x : Item) (f : ℕ) → whole_after p x f ≡ whole_after o x f
  whole_goes (Item.finished dump g) f =
      ap (λ t. t || (is_run p.run dump && g == f)) (e.whole f)
      ∙ ap (λ t. o.whole f || (t && g == f)) (run_alike m n p.of o.of p.run o.run dump e.run)
  whole_goes (Item.started dump) f = e.whole f
  whole_goes Item.blind f = e.whole f
  whole_goes (Item.is key shot words) f = e.whole f
  whole_goes (Item.refused key) f = e.whole f
  whole_goes (Item.went key shot) f = e.whole f
  whole_goes Item.nothing f = e.whole f

  pub after_alike : (x : Item) → Alike at by (after p (at, x)) (after o (by, x))
  after_alike x = record { of = of_alike x; run = run_goes x; whole = whole_goes x }

-- ** where what is known is said point by point

is_run_alike : (m n : ℕ) (of to from : Key → Option Seen) (r s : Option (List ℕ × ℕ))
    → ((q : Key) → to q ≡ of q) → RunAlike m n of from r s → RunAlike m n to from r s
is_run_alike m n of to from None None e k = k
is_run_alike m n of to from (Some r) (Some s) e k = (k.0, k.1, k.2, λ q. ap (λ o. is_since r.1 o) (e q) ∙ k.3 q)
is_run_alike m n of to from None (Some s) e k = absurd k
is_run_alike m n of to from (Some r) None e k = absurd k

pub goes_alike : (m n : ℕ) (at by : ℕ) (p o new : Picture) (x : Item) → Alike m n p o → m < at → n < by
    → IsAfter p at x new → Alike at by new (after o (by, x))
goes_alike m n at by p o new x e h i is =
    let a = after_alike m n at by p o e h i x in
    record {
      of = λ q. subst (λ s. AreAlike at by s (of_after o by x q)) (sym (is.of q)) (a.of q);
      run =
          subst (λ r. RunAlike at by new.of (of_after o by x) r (run_after o by x)) (sym is.run)
          (is_run_alike at by (of_after p at x) new.of (of_after o by x) (run_after p at x) (run_after o by x) is.of
          a.run);
      whole = λ f. is.whole f ∙ a.whole f;
    }

-- on one side other lines came
pub waits_alike : (m n k : ℕ) (p o new : Picture) → new ≡ p → m ≤ k → Alike m n p o → Alike k n new o
waits_alike m n k p o new is h e =
    subst (λ s. Alike k n s o) (sym is)
    (record {
      of = λ q. later m n k n (p.of q) (o.of q) h (omega arith) (e.of q);
      run = run_waits p.run o.run e.run;
      whole = e.whole;
    })
  where
    run_waits : (r s : Option (List ℕ × ℕ)) → RunAlike m n p.of o.of r s → RunAlike k n p.of o.of r s
    run_waits None None x = tt
    run_waits (Some r) (Some s) x = (x.0, omega (arith, x.1), x.2, x.3)
    run_waits None (Some s) x = absurd x
    run_waits (Some r) None x = absurd x
