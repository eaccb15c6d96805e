-- The entries of an interface take turns: what is there is its last message that was accepted.
use Rattle.std.proofs.Common.{◌≡◌, ◌++◌, ℕ, Bool, true, false, List, [], ◌∷◌, refl, sym, ap, ◌∙◌, subst}
use Rattle.std.specs.Prelude.{Option, None, Some, cond, is_some, ◌&&◌, ◌||◌}
use Rattle.std.proofs.lemmas.Slice.Eq.{bytes_eq-Decides}
use Rattle.message_diff.specs.declared.key.Key.{Key}
use Rattle.message_diff.specs.declared.snapshot.Compared.{Compared}
use Rattle.message_diff.specs.Announced.{is_another}
use Rattle.message_diff.specs.Shots.{Shot}
use Rattle.message_diff.specs.Known.{Item, Picture, Seen, is_among, is_key, is_missed_by, is_text}
use Rattle.message_diff.specs.Known.{kind_of, of_after, parts, shot_of}
use Rattle.message_diff.specs.Told.{is_told_gone, kept_of, own_shot}
use Rattle.message_diff.proofs.Missed.{laws, same_key}
use Rattle.told_laws.specs.Entries.{Entry, of_key}
use Rattle.told_laws.specs.Turns.{HaveTurns, all_by, may_go, there_after}
use Rattle.told_laws.proofs.Entries.{entries_at, gone_entry, new_entry}

-- ** what is there

abbrev pub text_of : Option Shot → Option (List ℕ)
text_of None = None
text_of (Some shot) = Some shot.text

abbrev pub there : Option Seen → Option (List ℕ)
there o = text_of (shot_of o)

-- the entries have their turns, and this is there behind them
abbrev pub Lead : Bool → Option (List ℕ) → List Entry → Option (List ℕ) → Type 0
Lead may from es to = HaveTurns may from es × (there_after from es ≡ to)

-- one that is there goes, and is not there
gone_leads : (may : Bool) (q : Key) (s : Option Shot) → Lead may (text_of s) (gone_entry q s ++ []) None
gone_leads may q None = (tt, refl)
gone_leads may q (Some shot) = ((refl, tt), refl)

ended_leads : (may b : Bool) (q : Key) (o : Option Seen)
    → Lead may (there o) (cond b (gone_entry q (shot_of o)) [] ++ []) (there (cond b None o))
ended_leads may true q o = gone_leads may q (shot_of o)
ended_leads may false q o = (tt, refl)

-- ** a message of the interface

came_leads : (may : Bool) (key : Key) (shot : Shot) (t : Bool) → t ≡ true
    → Lead may None (cond t (Entry.came key shot ∷ []) []) (Some shot.text)
came_leads may key shot true h = ((refl, tt), refl)
came_leads may key shot false h = absurd cc

changed_leads : (may : Bool) (key : Key) (last shot : Shot) (t same : Bool) → t ≡ true
    → is_text last.text shot.text ≡ same
    → Lead may (Some last.text) (of_key key (cond same [] (Entry.changed key last shot ∷ []))) (Some shot.text)
changed_leads may key last shot t true h e = (tt, ap Some ((bytes_eq-Decides last.text shot.text).0 e))
changed_leads may key last shot t false h e = by (is_key key key) (laws.refl key)
  where
    by : (u : Bool) → u ≡ true
        → Lead may (Some last.text) (cond u (Entry.changed key last shot ∷ []) []) (Some shot.text)
    by true k = ((refl, e, tt), refl)
    by false k = absurd cc

-- where it is another one, the last one goes first
put_leads : (may a : Bool) (key : Key) (shot : Shot) (s : Option Shot)
    → Lead may (text_of s)
    (cond a (gone_entry key s) [] ++ of_key key (new_entry true (kept_of a s) key shot)) (Some shot.text)
put_leads may true key shot None = came_leads may key shot (is_key key key) (laws.refl key)
put_leads may true key shot (Some last) =
    let more = came_leads may key shot (is_key key key) (laws.refl key) in
    ((refl, more.0), more.1)
put_leads may false key shot None = came_leads may key shot (is_key key key) (laws.refl key)
put_leads may false key shot (Some last) =
    changed_leads may key last shot true (is_text last.text shot.text) refl refl

-- ** a line `type=del` of the interface

and_true : (a : Bool) → a ≡ (a && true)
and_true true = refl
and_true false = refl

or_true : (b : Bool) → (b || true) ≡ true
or_true true = refl
or_true false = refl

del_leads : (key : Key) (shot : Shot) (o : Option Seen) (t : Bool) → is_told_gone key o ≡ t
    → Lead t (there o) (gone_entry key (cond t (Some shot) None) ++ []) None
del_leads key shot o true h = ((or_true (is_some (there o)), tt), refl)
del_leads key shot None false h = (tt, refl)
del_leads key shot (Some seen) false h = absurd cc

-- ** by what a line says

-- whether a line of this interface is the other one's
module _ (by : Compared) (p : Picture) (key q : Key) where
  went_leads : (shot : Option Shot) (t r : Bool) → is_key key q ≡ t
      → Lead (may_go p (Item.went key shot) q) (there (p.of q))
      (cond (t || r) (gone_entry q (cond t (own_shot key shot (p.of key)) (shot_of (p.of q)))) [] ++ [])
      (there (cond (t || r) None (p.of q)))
  went_leads None true r h =
      subst (λ k. Lead false (there (p.of k)) (gone_entry k (shot_of (p.of key)) ++ []) None) (same_key key q h)
      (gone_leads false key (shot_of (p.of key)))
  went_leads (Some shot) true r h =
      subst (λ (t : Bool). Lead (t && is_told_gone q (p.of q)) (there (p.of q))
      (gone_entry q (own_shot key (Some shot) (p.of key)) ++ []) None) (sym h)
      (subst (λ k. Lead (is_told_gone k (p.of k)) (there (p.of k))
      (gone_entry k (own_shot key (Some shot) (p.of key)) ++ []) None) (same_key key q h)
      (del_leads key shot (p.of key) (is_told_gone key (p.of key)) refl))
  went_leads None false r h = ended_leads false r q (p.of q)
  went_leads (Some shot) false r h =
      subst (λ (t : Bool). Lead (t && is_told_gone q (p.of q)) (there (p.of q))
      (cond r (gone_entry q (shot_of (p.of q))) [] ++ []) (there (cond r None (p.of q)))) (sym h)
      (ended_leads false r q (p.of q))

  other_new : (is_told : Bool) (s : Option Shot) (shot : Shot) → is_key key q ≡ false
      → of_key q (new_entry is_told s key shot) ≡ []
  other_new true None shot h = ap (λ t. cond t (Entry.came key shot ∷ []) []) h
  other_new false None shot h = refl
  other_new is_told (Some last) shot h = by_same (is_text last.text shot.text)
    where
      by_same : (same : Bool) → of_key q (cond same [] (Entry.changed key last shot ∷ [])) ≡ []
      by_same true = refl
      by_same false = ap (λ t. cond t (Entry.changed key last shot ∷ []) []) h

  is_leads : (may : Bool) (seen : Seen) (shot : Shot) (a t r : Bool) → is_key key q ≡ t → seen.shot ≡ Some shot
      → Lead may (there (p.of q))
      (cond (a && (t || r)) (gone_entry q (shot_of (p.of q))) []
      ++ of_key q (new_entry true (kept_of a (shot_of (p.of key))) key shot))
      (there (cond t (Some seen) (cond (a && (t || r)) None (p.of q))))
  is_leads may seen shot a true r h e =
      let own : Lead may (there (p.of key))
      (cond (a && true) (gone_entry key (shot_of (p.of key))) []
      ++ of_key key (new_entry true (kept_of a (shot_of (p.of key))) key shot)) (text_of seen.shot) =
      subst (λ (b : Bool). Lead may (there (p.of key))
      (cond b (gone_entry key (shot_of (p.of key))) []
      ++ of_key key (new_entry true (kept_of a (shot_of (p.of key))) key shot)) (text_of seen.shot)) (and_true a)
      (subst (λ s. Lead may (there (p.of key))
      (cond a (gone_entry key (shot_of (p.of key))) []
      ++ of_key key (new_entry true (kept_of a (shot_of (p.of key))) key shot)) (text_of s)) (sym e)
      (put_leads may a key shot (shot_of (p.of key)))) in
      subst (λ k. Lead may (there (p.of k))
      (cond (a && true) (gone_entry k (shot_of (p.of k))) []
      ++ of_key k (new_entry true (kept_of a (shot_of (p.of key))) key shot)) (text_of seen.shot)) (same_key key q h)
      own
  is_leads may seen shot a false r h e =
      subst (λ l. Lead may (there (p.of q)) (cond (a && r) (gone_entry q (shot_of (p.of q))) [] ++ l)
      (there (cond (a && r) None (p.of q)))) (sym (other_new true (kept_of a (shot_of (p.of key))) shot h))
      (ended_leads may (a && r) q (p.of q))

  refused_leads : (may : Bool) (seen : Seen) (t : Bool) → is_key key q ≡ t → seen.shot ≡ shot_of (p.of key)
      → Lead may (there (p.of q)) [] (there (cond t (Some seen) (p.of q)))
  refused_leads may seen true h e = (tt, sym (ap text_of e ∙ ap (λ k. there (p.of k)) (same_key key q h)))
  refused_leads may seen false h e = (tt, refl)

pub leads : (by : Compared) (p : Picture) (at : ℕ) (x : Item) (q : Key)
    → Lead (may_go p x q) (there (p.of q)) (entries_at (all_by by) p x q) (there (of_after p at x q))
leads by p at (Item.is key shot words) q =
    is_leads by p key q false _ shot (is_another (kind_of (p.of key)) shot.text) (is_key key q)
    (is_among (parts key) q) refl refl
leads by p at (Item.refused key) q = refused_leads by p key q false _ (is_key key q) refl refl
leads by p at (Item.went key shot) q = went_leads by p key q shot (is_key key q) (is_among (parts key) q) refl
leads by p at (Item.started dump) q = (tt, refl)
leads by p at (Item.finished dump f) q = ended_leads false (is_missed_by p.of p.run dump f q) q (p.of q)
leads by p at Item.blind q = (tt, refl)
leads by p at Item.nothing q = (tt, refl)
