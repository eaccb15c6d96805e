-- What a host's map has, and what is known by it.
use Rattle.std.specs.Prelude.{◌≡◌, ◌==◌, ◌&&◌, ◌||◌, ℕ, suc, not, nat_le, nat_lt, Bool, List, length, Option, None}
use Rattle.std.specs.Prelude.{Some, cond, is_some, option_map}
use Rattle.std.specs.List.{filter, list_any}
use Rattle.std.specs.BTreeMap.{is_at}
use Rattle.std.specs.BTreeMap.Range.{entries_between}
use Rattle.std.specs.declared.ops.Bound.{Bound}
use Rattle.std.specs.declared.ops.Bound.TheVariants.{Included, Excluded, Unbounded}
use Rattle.std.specs.Map.{lookup}
use Rattle.message_diff.specs.declared.key.Key.{Key}
use Rattle.message_diff.specs.declared.store.Known.{Known}
use Rattle.message_diff.specs.declared.store.Dump.{Dump}
use Rattle.message_diff.specs.declared.store.Host.{Host}
use Rattle.message_diff.specs.declared.store.Entry.{Entry}
use Rattle.message_diff.specs.declared.reading.Said.{Said}
use Rattle.message_diff.specs.declared.reading.Said.TheVariants as Saids
use Rattle.message_diff.specs.declared.telling.Telling.{Telling}
use Rattle.frame_shown.specs.declared.form.Order.{Order}
use Rattle.message_diff.specs.Shots.{Shot}
use Rattle.message_diff.specs.Announced.{kind_in, kind_or}
use Rattle.message_diff.specs.Known.{Item, Seen, Picture, is_text, key_cmp, is_key, is_since, reaches, in_family}
use Rattle.message_diff.specs.Known.{shot_of, of_after, run_after, whole_after}
use Rattle.message_diff.specs.Told.{AddsTold, says}

-- what the map has at an interface
abbrev pub held_in : List (Key × Known) → Key → Option Known
held_in entries key = lookup (is_at (key_cmp key)) entries

abbrev pub held : Host → Key → Option Known
held host = held_in host.known.entries

-- with an interface taken out, and put in
abbrev pub taken : Key → (Key → Option Known) → Key → Option Known
taken key of q = cond (is_key key q) None (of q)

abbrev pub put : Key → Known → (Key → Option Known) → Key → Option Known
put key known of q = cond (is_key key q) (Some known) (of q)

abbrev pub last_of : Option Known → Option Entry
last_of None = None
last_of (Some known) = known.last

-- ** what is known by it

abbrev pub shot_in : Option Entry → Option Shot
shot_in None = None
shot_in (Some entry) = Some entry.snapshot

abbrev pub text_at : Option Entry → Option (List ℕ)
text_at None = None
text_at (Some entry) = Some entry.snapshot.text

-- where it comes again, in this order
abbrev pub come_again : Order → Option Entry → Option Entry
come_again order None = None
come_again order (Some entry) =
    Some (record entry { front = None; snapshot = record { order = order; text = entry.snapshot.text } })

-- the kind: that of its message, or else of earlier ones
abbrev pub kind_known : Entry → Option (List ℕ)
kind_known entry = kind_or (kind_in entry.snapshot.text) (option_map (λ kind. kind.items) entry.earlier)

abbrev pub kind_at : Option Entry → Option (List ℕ)
kind_at None = None
kind_at (Some entry) = kind_known entry

-- the words that are kept
abbrev pub words_in : Entry → Option (List ℕ)
words_in entry = option_map (λ words. words.items) entry.front

abbrev pub words_at : Option Entry → Option (List ℕ)
words_at None = None
words_at (Some entry) = words_in entry

abbrev pub seen_in : Option Known → Option Seen
seen_in None = None
seen_in (Some known) =
    Some (record {
      at = known.at;
      shot = shot_in known.last;
      kind = kind_at known.last;
      words = words_at known.last;
    })

-- whether a dump of this family that began there should have had an entry, and did not
abbrev pub is_left : List (Key × Known) → ℕ → ℕ → Key × Known → Bool
is_left entries family begin e =
    not (nat_le begin e.1.at)
    && (reaches family e.0.family && not (is_since begin (seen_in (held_in entries (in_family family e.0)))))

abbrev pub left : Host → ℕ → ℕ → List (Key × Known)
left host family begin = filter (is_left host.known.entries family begin) host.known.entries

-- the interfaces of one family, from the first one to before the first one of the next
abbrev pub start_of : ℕ → Bound Key
start_of family = Included (record { family = family; index = 0 })

abbrev pub end_of : ℕ → Bound Key
end_of family = cond (nat_lt family 255) (Excluded (record { family = suc family; index = 0 })) Unbounded

-- those in one family that a dump of another one should have had and did not
abbrev pub left_in : Host → ℕ → ℕ → ℕ → List (Key × Known)
left_in host within family begin =
    filter (is_left host.known.entries family begin)
    (entries_between key_cmp (start_of within) (end_of within) host.known.entries)

-- where the dump that runs began, if it has this name
abbrev pub begin_of : Option Dump → List ℕ → Option ℕ
begin_of None name = None
begin_of (Some dump) name = cond (is_text dump.name.items name) (Some dump.begin) None

abbrev pub run_in : Option Dump → Option (List ℕ × ℕ)
run_in None = None
run_in (Some dump) = Some (dump.name.items, dump.begin)

abbrev pub whole_in : Host → ℕ → Bool
whole_in host family = list_any (λ f. f == family) host.whole.items

abbrev pub picture : Host → Picture
picture host = record { of = λ q. seen_in (held host q); run = run_in host.dump; whole = whole_in host }

-- whether anything is known of a host, or a dump of it runs
abbrev pub knows_any : Host → Bool
knows_any host =
    not (length host.known.entries == 0) || (is_some host.dump || not (length host.whole.items == 0))

-- the message that has a line where an interface went
abbrev pub shot_told : Telling → Host → Key → Option Shot
shot_told told host q = cond (says told.told) (shot_of (seen_in (held host q))) None

-- ** what a line says, and what is known after it

-- the words in front of it are kept where what it tells is told at the end
abbrev pub words_for : Telling → List ℕ → Option (List ℕ)
words_for told front = cond (says told.told) None (Some front)

abbrev pub item_with : Option (List ℕ) → Said → Item
item_with words (Saids.Is key shot) = Item.is key shot words
item_with words (Saids.Refused key) = Item.refused key
item_with words (Saids.Went key gone) = Item.went key gone
item_with words (Saids.Begin dump) = Item.started dump.items
item_with words (Saids.Done dump family) = Item.finished dump.items family
item_with words Saids.Lost = Item.nothing
item_with words Saids.Blind = Item.blind
item_with words Saids.Nothing = Item.nothing

abbrev pub item_of : List ℕ → Telling → Said → Item
item_of front told said = item_with (words_for told front) said

-- what is known after a line at a place that says this
pub record IsAfter (old : Picture) (at : ℕ) (item : Item) (new : Picture) : Type 0 where
  pub of : (q : Key) → new.of q ≡ of_after old at item q
  pub run : new.run ≡ run_after old at item
  pub whole : (f : ℕ) → new.whole f ≡ whole_after old item f

-- what is known after a line with these words that says this, and what it adds
abbrev pub Applies : List ℕ → Telling → ℕ → Said → Picture → Picture → List ℕ → List ℕ → Type 0
Applies front told at said old new before now =
    IsAfter old at (item_of front told said) new × AddsTold front told old (item_of front told said) before now

-- an interface is this from then on: it goes on, or went, with its parts, and is new
abbrev pub Puts : List ℕ → Telling → ℕ → Key → Shot → Picture → Picture → List ℕ → List ℕ → Type 0
Puts front told at key shot old new before now =
    ((q : Key) → new.of q ≡ of_after old at (Item.is key shot (words_for told front)) q)
    × AddsTold front told old (Item.is key shot (words_for told front)) before now
