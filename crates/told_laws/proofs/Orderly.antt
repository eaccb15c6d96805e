-- Entries of a run take turns, and nothing else is told.
use Rattle.std.proofs.Common.{◌≡◌, ◌++◌, ℕ, suc, Bool, true, false, List, [], ◌∷◌, refl, sym, ap, ◌∙◌, subst}
use Rattle.std.proofs.Common.{inl, inr}
use Rattle.std.specs.Prelude.{Option, None, Some, MatchBool, cond, not, ◌&&◌, ◌||◌}
use Rattle.std.proofs.lemmas.List.{append-nil}
use Rattle.std.proofs.lemmas.Slice.Eq.{bytes_eq-Decides}
use Rattle.line_filter.specs.Words.{front_of}
use Rattle.message_diff.specs.declared.key.Key.{Key}
use Rattle.message_diff.specs.declared.reading.Said.{Said}
use Rattle.message_diff.specs.declared.reading.Said.TheVariants as Saids
use Rattle.message_diff.specs.declared.snapshot.Compared.{Compared}
use Rattle.message_diff.specs.declared.telling.Telling.{Telling}
use Rattle.message_diff.specs.Announced.{are_two, is_another, kind_in, kind_or}
use Rattle.message_diff.specs.Shots.{Shot}
use Rattle.message_diff.specs.Held.{item_of}
use Rattle.message_diff.specs.Known.{Item, Picture, Seen, after, ends, is_among, is_ended_with, is_key, is_text}
use Rattle.message_diff.specs.Known.{kind_of, nothing_known, of_after, parts, shot_of, without}
use Rattle.message_diff.specs.Told.{Tells, kept_of, says}
use Rattle.message_diff.specs.Watched.{lost_line}
use Rattle.message_diff.proofs.Missed.{laws}
use Rattle.told_laws.specs.Entries.{AreEntries, AreSteps, Entry, IsStep, IsToldAs, Step, key_of, of_key}
use Rattle.told_laws.specs.Hosts.{HostTells, IsPiece, Piece}
use Rattle.told_laws.specs.Turns.{AllWent, HaveTurns, Orderly, TakeTurns, TellNothingElse, TellsItem}
use Rattle.told_laws.specs.Turns.{TellsMessage, TellsOther, all_by, is_del, may_go, there_after}
use Rattle.told_laws.proofs.Entries.{are_told, entries_at, gone_at, gone_entry, new_entry, news_entry, of_key_both}
use Rattle.told_laws.proofs.Following.{turns_lead}
use Rattle.told_laws.proofs.Turns.{leads, text_of, there}

-- ** the kind that is known is that of the last message, if it names one

abbrev pub IsSound : Option Shot → Option (List ℕ) → Type 0
IsSound None kind = kind ≡ None
IsSound (Some shot) kind = kind ≡ kind_or (kind_in shot.text) kind

abbrev pub Sound : Option Seen → Type 0
Sound o = IsSound (shot_of o) (kind_of o)

sound_if : (t : Bool) (a b : Option Seen) → Sound a → Sound b → Sound (cond t a b)
sound_if true a b h i = h
sound_if false a b h i = i

twice : (a b : Option (List ℕ)) → kind_or a b ≡ kind_or a (kind_or a b)
twice None b = refl
twice (Some k) b = refl

module _ (p : Picture) (sound : (q : Key) → Sound (p.of q)) where
  sound_without : (x : Item) (q : Key) → Sound (without p x q)
  sound_without x q = sound_if (ends p x q) None (p.of q) refl (sound q)

  pub sound_after : (at : ℕ) (x : Item) (q : Key) → Sound (of_after p at x q)
  sound_after at (Item.is key shot words) q =
      sound_if (is_key key q) _ (without p (Item.is key shot words) q)
      (twice (kind_in shot.text) (kind_of (p.of key))) (sound_without (Item.is key shot words) q)
  sound_after at (Item.refused key) q = sound_if (is_key key q) _ (p.of q) (sound key) (sound q)
  sound_after at (Item.went key shot) q = sound_without (Item.went key shot) q
  sound_after at (Item.started dump) q = sound_without (Item.started dump) q
  sound_after at (Item.finished dump f) q = sound_without (Item.finished dump f) q
  sound_after at Item.blind q = sound_without Item.blind q
  sound_after at Item.nothing q = sound_without Item.nothing q

-- a message of which nothing was known, or whose encoding is that of the last one, is of no other kind
same_text : (a : List ℕ) → not (is_text a a) ≡ false
same_text a = ap not ((bytes_eq-Decides a a).1 refl)

no_two : (k named : Option (List ℕ)) → k ≡ kind_or named k → are_two k named ≡ false
no_two k None h = no_named k
  where
    no_named : (j : Option (List ℕ)) → are_two j None ≡ false
    no_named None = refl
    no_named (Some was) = refl
no_two k (Some is) h = ap (λ j. are_two j (Some is)) h ∙ same_text is

none_another : (o : Option Seen) (text : List ℕ) → Sound o → shot_of o ≡ None → is_another (kind_of o) text ≡ false
none_another o text sound none =
    ap (λ k. are_two k (kind_in text)) (subst (λ s. IsSound s (kind_of o)) none sound)

same_another : (o : Option Seen) (last : Shot) (text : List ℕ) → Sound o → shot_of o ≡ Some last
    → is_text last.text text ≡ true → is_another (kind_of o) text ≡ false
same_another o last text sound some same =
    let e : last.text ≡ text = (bytes_eq-Decides last.text text).0 same in
    no_two (kind_of o) (kind_in text)
    (subst (λ t. kind_of o ≡ kind_or (kind_in t) (kind_of o)) e
    (subst (λ s. IsSound s (kind_of o)) some sound))

-- ** what a line tells

-- entries of no interface are none
none_left : (es : List Entry) → ((q : Key) → of_key q es ≡ []) → es ≡ []
none_left [] h = refl
none_left (e ∷ es) h =
    absurd (by (is_key (key_of e) (key_of e)) (laws.refl (key_of e)) (h (key_of e)))
  where
    by : (t : Bool) → t ≡ true
        → cond t (e ∷ of_key (key_of e) es) (of_key (key_of e) es) ≡ [] → ⊥
    by true k none = cc
    by false k none = cc

-- a line, as the entries that it tells
pub record Read (told : Telling) (p : Picture) (piece : Piece) : Type 0 where
  pub step : Step
  pub is : IsStep told piece step
  pub gone : List Entry
  pub all : AllWent gone
  pub went : (q : Key) → of_key q gone ≡ gone_at told p step.item q
  pub entries : step.entries ≡ gone ++ news_entry told p step.item

-- where it tells of interfaces
read_told : (told : Telling) (p : Picture) (piece : Piece) (said : Said) (is : IsPiece told p piece said)
    → Tells (front_of piece.0) told p (item_of (front_of piece.0) told said) is.more
    → ((es : List Entry) → AreEntries told.by (front_of piece.0) es is.more
    → IsToldAs (front_of piece.0) told.by said es is.more)
    → Read told p piece
read_told told p piece said is tells given =
    let x : Item = item_of (front_of piece.0) told said in
    let h = are_told (front_of piece.0) told p x is.more tells in
    record {
      step = record { item = x; entries = h.gone ++ news_entry told p x };
      is = record {
        said = said;
        fault = is.fault;
        more = is.more;
        says = is.says;
        item = refl;
        tells = given (h.gone ++ news_entry told p x) h.are;
        all = is.all;
      };
      gone = h.gone;
      all = h.all;
      went = h.went;
      entries = refl;
    }

-- and where it does not
read_none : (told : Telling) (p : Picture) (piece : Piece) (said : Said) (is : IsPiece told p piece said)
    → item_of (front_of piece.0) told said ≡ Item.nothing
    → IsToldAs (front_of piece.0) told.by said [] is.more → Read told p piece
read_none told p piece said is nothing given = record {
  step = record { item = Item.nothing; entries = [] };
  is = record {
    said = said;
    fault = is.fault;
    more = is.more;
    says = is.says;
    item = sym nothing;
    tells = given;
    all = is.all;
  };
  gone = [];
  all = tt;
  went = λ q. refl;
  entries = refl;
}

pub read : (told : Telling) → says told.told ≡ true → (p : Picture) (piece : Piece) (said : Said)
    → IsPiece told p piece said → (r : Read told p piece) × (r.step.item ≡ item_of (front_of piece.0) told said)
unfolding read_told read_none
read told loud p piece (Saids.Is key shot) is =
    (read_told told p piece (Saids.Is key shot) is is.tells (λ es h. h), refl)
read told loud p piece (Saids.Refused key) is =
    (read_told told p piece (Saids.Refused key) is is.tells (λ es h. h), refl)
read told loud p piece (Saids.Went key shot) is =
    (read_told told p piece (Saids.Went key shot) is is.tells (λ es h. h), refl)
read told loud p piece (Saids.Begin dump) is =
    (read_told told p piece (Saids.Begin dump) is is.tells (λ es h. h), refl)
read told loud p piece (Saids.Done dump f) is =
    (read_told told p piece (Saids.Done dump f) is is.tells (λ es h. h), refl)
read told loud p piece Saids.Lost is =
    let told_lost : is.more ≡ lost_line (front_of piece.0) =
    is.tells ∙ ap (λ t. cond t (lost_line (front_of piece.0)) []) loud in
    (read_none told p piece Saids.Lost is refl (refl, told_lost), refl)
read told loud p piece Saids.Blind is = (read_told told p piece Saids.Blind is is.tells (λ es h. h), refl)
read told loud p piece Saids.Nothing is = (read_none told p piece Saids.Nothing is refl is.tells, refl)

-- and so all that it tells of an interface is what is known of it asks for
pub read_at : (told : Telling) (p : Picture) (piece : Piece) (r : Read told p piece) (q : Key)
    → of_key q r.step.entries ≡ entries_at told p r.step.item q
read_at told p piece r q =
    ap (λ es. of_key q es) r.entries
    ∙ of_key_both q r.gone (news_entry told p r.step.item)
    ∙ ap (λ es. es ++ of_key q (news_entry told p r.step.item)) (r.went q)

-- ** which entries those are

module _ (by : Compared) (p : Picture) (sound : (q : Key) → Sound (p.of q)) where
  -- of a message
  abbrev pub Gone : Key → Shot → Option (List ℕ) → List Entry → Type 0
  Gone key shot words gone = (q : Key) → of_key q gone ≡ gone_at (all_by by) p (Item.is key shot words) q

  none_gone : (key : Key) (shot : Shot) (words : Option (List ℕ)) (gone : List Entry) → Gone key shot words gone
      → is_another (kind_of (p.of key)) shot.text ≡ false → gone ≡ []
  none_gone key shot words gone h e =
      none_left gone
      (λ q. h q ∙ ap (λ a. cond (a && is_ended_with key q) (gone_entry q (shot_of (p.of q))) []) e)

  module _ (key : Key) (shot : Shot) (words : Option (List ℕ)) (gone : List Entry) (h : Gone key shot words gone)
      (all : AllWent gone) where
    abbrev another : Bool
    another = is_another (kind_of (p.of key)) shot.text

    -- of the same kind nothing went
    one_kind : (s : Option Shot) → another ≡ false
        → gone ++ new_entry true (kept_of another s) key shot ≡ new_entry true s key shot
    one_kind s e =
        ap (λ g. g ++ new_entry true (kept_of another s) key shot) (none_gone key shot words gone h e)
        ∙ ap (λ a. new_entry true (kept_of a s) key shot) e

    other_by : (last : Shot) (a : Bool) → another ≡ a → is_text last.text shot.text ≡ false
        → TellsOther last.text key shot (gone ++ new_entry true (kept_of a (Some last)) key shot)
    other_by last true e f = inr (gone, all, refl)
    other_by last false e f =
        inl (
          last,
          refl,
          ap (λ g. g ++ new_entry true (Some last) key shot) (none_gone key shot words gone h e)
              ∙ ap (λ t. cond t [] (Entry.changed key last shot ∷ [])) f,
        )

    same_by : (last : Shot) (t : Bool) → shot_of (p.of key) ≡ Some last → is_text last.text shot.text ≡ t
        → MatchBool t (gone ++ new_entry true (kept_of another (Some last)) key shot ≡ [])
        (TellsOther last.text key shot (gone ++ new_entry true (kept_of another (Some last)) key shot))
    same_by last true is same =
        one_kind (Some last) (same_another (p.of key) last shot.text (sound key) is same)
        ∙ ap (λ t. cond t [] (Entry.changed key last shot ∷ [])) same
    same_by last false is same = other_by last another refl same

    message_by : (s : Option Shot) → shot_of (p.of key) ≡ s
        → TellsMessage (text_of s) key shot (gone ++ new_entry true (kept_of another s) key shot)
    message_by None is = one_kind None (none_another (p.of key) shot.text (sound key) is)
    message_by (Some last) is = same_by last (is_text last.text shot.text) is refl

  -- and of each line
  tells_item : (there_is : Key → Option (List ℕ)) → ((q : Key) → there_is q ≡ there (p.of q)) → (x : Item)
      (gone : List Entry) → AllWent gone → ((q : Key) → of_key q gone ≡ gone_at (all_by by) p x q)
      → TellsItem there_is x (gone ++ news_entry (all_by by) p x)
  tells_item there_is same (Item.is key shot words) gone all h =
      subst (λ t. TellsMessage t key shot (gone ++ news_entry (all_by by) p (Item.is key shot words)))
      (sym (same key)) (message_by key shot words gone h all (shot_of (p.of key)) refl)
  tells_item there_is same (Item.went key shot) gone all h = subst AllWent (sym (append-nil gone)) all
  tells_item there_is same (Item.finished dump f) gone all h = subst AllWent (sym (append-nil gone)) all
  tells_item there_is same (Item.refused key) gone all h = append-nil gone ∙ none_left gone h
  tells_item there_is same (Item.started dump) gone all h = append-nil gone ∙ none_left gone h
  tells_item there_is same Item.blind gone all h = append-nil gone ∙ none_left gone h
  tells_item there_is same Item.nothing gone all h = append-nil gone ∙ none_left gone h

-- a line `type=del` leaves nothing there
del_none : (p : Picture) (at : ℕ) (x : Item) (q : Key) → is_del x q ≡ true → there (of_after p at x q) ≡ None
del_none p at (Item.went key shot) q h =
    ap (λ (t : Bool). there (cond (t || is_among (parts key) q) None (p.of q))) h
del_none p at (Item.is key shot words) q h = absurd cc
del_none p at (Item.refused key) q h = absurd cc
del_none p at (Item.started dump) q h = absurd cc
del_none p at (Item.finished dump f) q h = absurd cc
del_none p at Item.blind q h = absurd cc
del_none p at Item.nothing q h = absurd cc

-- ** a run

pub record OrderlyFrom (by : Compared) (at : ℕ) (p : Picture) (there_is : Key → Option (List ℕ))
    (pieces : List Piece) : Type 0 where
  pub steps : List Step
  pub are : AreSteps (all_by by) pieces steps
  pub turns : (q : Key) → TakeTurns q (there_is q) at p steps
  pub nothing : TellNothingElse there_is steps

module _ (by : Compared) (p : Picture) (there_is : Key → Option (List ℕ))
    (same : (q : Key) → there_is q ≡ there (p.of q)) (at : ℕ) (piece : Piece) (r : Read (all_by by) p piece) where
  have_turns : (q : Key) → HaveTurns (may_go p r.step.item q) (there_is q) (of_key q r.step.entries)
  have_turns q =
      subst (λ t. HaveTurns (may_go p r.step.item q) t (of_key q r.step.entries)) (sym (same q))
      (subst (λ es. HaveTurns (may_go p r.step.item q) (there (p.of q)) es) (sym (read_at (all_by by) p piece r q))
      (leads by p at r.step.item q).0)

  there_then : (q : Key) → there_after (there_is q) (of_key q r.step.entries) ≡ there (of_after p at r.step.item q)
  there_then q =
      ap (λ t. there_after t (of_key q r.step.entries)) (same q)
      ∙ ap (λ es. there_after (there (p.of q)) es) (read_at (all_by by) p piece r q)
      ∙ (leads by p at r.step.item q).1

orderly_from : (by : Compared) (at : ℕ) (p : Picture) (there_is : Key → Option (List ℕ)) (pieces : List Piece)
    → HostTells (all_by by) at p pieces → ((q : Key) → there_is q ≡ there (p.of q)) → ((q : Key) → Sound (p.of q))
    → OrderlyFrom by at p there_is pieces
orderly_from by at p there_is [] h same sound =
    record { steps = []; are = refl; turns = λ q. tt; nothing = tt }
orderly_from by at p there_is (piece ∷ pieces) h same sound =
    let found = read (all_by by) refl p piece h.0 h.1 in
    let r : Read (all_by by) p piece = found.0 in
    let rest : HostTells (all_by by) (suc at) (after p (suc at, r.step.item)) pieces =
    subst (λ x. HostTells (all_by by) (suc at) (after p (suc at, x)) pieces) (sym found.1) h.2 in
    let then = there_then by p there_is same (suc at) piece r in
    let more : OrderlyFrom by (suc at) (after p (suc at, r.step.item))
    (λ q. there_after (there_is q) (of_key q r.step.entries)) pieces =
    orderly_from by (suc at) (after p (suc at, r.step.item)) (λ q. there_after (there_is q) (of_key q r.step.entries))
    pieces rest then (sound_after p sound (suc at) r.step.item) in
    record {
      steps = r.step ∷ more.steps;
      are = (r.is, more.are);
      turns = λ q. (
        have_turns by p there_is same (suc at) piece r q,
        λ del. then q ∙ del_none p (suc at) r.step.item q del,
        more.turns q,
      );
      nothing = (
        subst (λ es. TellsItem there_is r.step.item es) (sym r.entries)
            (tells_item by p sound there_is same r.step.item r.gone r.all r.went),
        more.nothing,
      );
    }

pub orderly : Orderly
orderly by pieces h =
    let from : OrderlyFrom by 0 nothing_known (λ q. None) pieces =
    orderly_from by 0 nothing_known (λ q. None) pieces h (λ q. refl) (λ q. refl) in
    record {
      steps = from.steps;
      are = from.are;
      turns = from.turns;
      nothing = from.nothing;
      lead = λ q. turns_lead by q 0 nothing_known from.steps (from.turns q);
    }
