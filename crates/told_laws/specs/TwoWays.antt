-- Two files tell of an interface what a stream of both, one after the other, tells where only changes are told.
use Rattle.std.specs.Prelude.{◌≡◌, ◌≢◌, ◌++◌, ℕ, suc, Bool, true, false, MatchBool, List, [], ◌∷◌, Option, None, Some}
use Rattle.std.specs.Prelude.{cond, map}
use Rattle.std.specs.List.{list_all, list_any}
use Rattle.message_diff.specs.declared.key.Key.{Key}
use Rattle.message_diff.specs.declared.store.Host.{Host}
use Rattle.message_diff.specs.declared.snapshot.Compared.{Compared}
use Rattle.message_diff.specs.Files.{Found, News, found, gone_at, news_at}
use Rattle.message_diff.specs.Known.{Item, Picture, Seen, after, is_key, is_part, is_text, nothing_known}
use Rattle.message_diff.specs.Known.{value_or_nothing}
use Rattle.message_diff.specs.Shots.{Shot}
use Rattle.message_diff.specs.Watched.{known_of}
use Rattle.told_laws.specs.Entries.{AreSteps, Entry, Step, all_entries, of_key}
use Rattle.told_laws.specs.Fewer.{changes_by}
use Rattle.told_laws.specs.Hosts.{HostTells, Piece}

-- what is known of a host behind lines that say this
abbrev pub known_behind : ℕ → Picture → List Item → Picture
known_behind at p [] = p
known_behind at p (x ∷ xs) = known_behind (suc at) (after p (suc at, x)) xs

-- ** a dump

-- a message, and words that say nothing; and the end of a family
abbrev pub is_message : Item → Bool
is_message (Item.is key shot words) = true
is_message (Item.refused key) = true
is_message Item.blind = true
is_message Item.nothing = true
is_message x = false

abbrev pub is_end : Item → Bool
is_end (Item.finished dump family) = true
is_end Item.nothing = true
is_end x = false

abbrev pub is_of_key : Key → Item → Bool
is_of_key q (Item.is key shot words) = is_key key q
is_of_key q (Item.refused key) = is_key key q
is_of_key q x = false

abbrev pub Once : Key → List Item → Type 0
Once q [] = Unit {0}
Once q (x ∷ xs) = MatchBool (is_of_key q x) (list_any (is_of_key q) xs ≡ false) (Once q xs)

-- its begin, at most one message of each interface, and the ends of some families
pub record IsDump (items : List Item) : Type 0 where
  pub name : List ℕ
  pub messages : List Item
  pub ends : List Item
  pub are : items ≡ Item.started name ∷ (messages ++ ends)
  pub all_messages : list_all is_message messages ≡ true
  pub once : (q : Key) → Once q messages
  pub all_ends : list_all is_end ends ≡ true

-- ** two files

-- what a file has of an interface at its end, by what is known then
abbrev pub found_with : Option (List ℕ) → Option Shot → Option (List ℕ) → Found
found_with words None kind = Found.refusals
found_with words (Some shot) kind = Found.last (value_or_nothing words) shot kind

abbrev pub found_of : Option Seen → Found
found_of None = Found.nothing
found_of (Some seen) = found_with seen.words seen.shot seen.kind

-- what a file has of a host is what is known of it
pub record IsKnown (host : Option Host) (p : Picture) : Type 0 where
  pub found : (q : Key) → found host q ≡ found_of (p.of q)
  pub whole : (f : ℕ) → (known_of host).whole f ≡ p.whole f

-- the lines of what is told of an interface, their words aside
abbrev pub news_entries : Key → News → List Entry
news_entries q News.same = []
news_entries q (News.came front shot) = Entry.came q shot ∷ []
news_entries q (News.went front shot) = Entry.went q shot ∷ []
news_entries q (News.changed by front was is) = cond (is_text was.text is.text) [] (Entry.changed q was is ∷ [])
news_entries q (News.replaced old_front was front is) = Entry.went q was ∷ Entry.came q is ∷ []
news_entries q (News.untold missing) = []

-- files that have dumps
abbrev pub files_tell : Compared → List ℕ → Option Host → Option Host → Key → List Entry
files_tell by name old new q =
    news_entries q (news_at by true name old new q) ++ news_entries q (gone_at true name old new q)

-- ** the law

-- without the words that are kept with a message
abbrev pub unworded : Item → Item
unworded (Item.is key shot words) = Item.is key shot None
unworded x = x

-- two dumps, one after the other: of each interface that is not of family 7 or 10, and that the first file does not
-- refuse, they tell as files what their stream tells
abbrev pub AreTwoWays : Compared → List Step → Type 0
AreTwoWays by steps =
    (olds news : List Item) → map (λ step. step.item) steps ≡ map unworded (olds ++ news) → IsDump olds → IsDump news
    → (name : List ℕ) (old new : Option Host) → IsKnown old (known_behind 0 nothing_known olds)
    → IsKnown new (known_behind 0 nothing_known news)
    → (q : Key) → is_part q.family ≡ false → found old q ≢ Found.refusals
    → of_key q (all_entries steps) ≡ files_tell by name old new q

pub record TellsTwoWays (by : Compared) (pieces : List Piece) : Type 0 where
  pub steps : List Step
  pub are : AreSteps (changes_by by) pieces steps
  pub both : AreTwoWays by steps

abbrev pub TwoWays : Type 0
TwoWays =
    (by : Compared) (pieces : List Piece) → HostTells (changes_by by) 0 nothing_known pieces → TellsTwoWays by pieces
