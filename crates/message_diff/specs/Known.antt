-- What is known of the interfaces of a host after some lines, and which of them the next line ends. No map stands here:
-- what is known is a function of what the lines say, and the code's map has to have the same at each interface.
use Rattle.std.specs.Prelude.{ℕ, ◌==◌, ◌&&◌, ◌||◌, not, nat_le, Bool, false, List, [], ◌∷◌, ◌++◌, codes}
use Rattle.std.specs.Prelude.{Option, None, Some, cond}
use Rattle.std.specs.List.{fold, list_any}
use Rattle.std.specs.declared.cmp.Ordering.{Ordering}
use Rattle.std.specs.Ordering.{nat_cmp, ordering_then, is_eq}
use lib.Pointwise.{pointwise}
use Rattle.line_filter.specs.Words.{value_in}
use Rattle.message_diff.specs.declared.key.Key.{Key}
use Rattle.message_diff.specs.Shots.{Shot}
use Rattle.message_diff.specs.Announced.{is_another, kind_in, kind_or}

-- the order of a host's interfaces: by family and index
abbrev pub key_cmp : Key → Key → Ordering
key_cmp a b = ordering_then (nat_cmp a.family b.family) (nat_cmp a.index b.index)

abbrev pub is_key : Key → Key → Bool
is_key a b = is_eq (key_cmp a b)

abbrev pub is_text : List ℕ → List ℕ → Bool
is_text = pointwise ◌==◌

-- the value of a word, or nothing
abbrev pub value_or_nothing : Option (List ℕ) → List ℕ
value_or_nothing None = []
value_or_nothing (Some value) = value

-- the name of the dump that a line with these words is of: its number and its port, with a blank between
abbrev pub dump_name : List (List ℕ × List ℕ) → List ℕ
dump_name words =
    value_or_nothing (value_in (codes "seq") words) ++ 32 ∷ value_or_nothing (value_in (codes "port") words)

-- what a line says of its host: what an interface is, by the message that is compared, with
-- the words that are kept with it, if they are; that it is there; that it went,
-- and by its message what it was, unless that is refused; where a dump begins and ends, by its name; something of an
-- interface, and not of which one; or nothing
pub data Item : Type 0 where
  is : Key → Shot → (words : Option (List ℕ)) → Item
  refused : Key → Item
  went : Key → Option Shot → Item
  started : (dump : List ℕ) → Item
  finished : (dump : List ℕ) (family : ℕ) → Item
  blind : Item
  nothing : Item

-- what is known of an interface: the place of its last line; its last message that was accepted, if
-- there was one; the kind that the last one of them named that names one; and the
-- words of its line, where they are kept
pub record Seen : Type 0 where
  pub at : ℕ
  pub shot : Option Shot
  pub kind : Option (List ℕ)
  pub words : Option (List ℕ)

-- what is known of a host: of each interface, of the dump that runs its name and the place where it began, and of each
-- family whether a dump of it was whole
pub record Picture : Type 0 where
  pub of : Key → Option Seen
  pub run : Option (List ℕ × ℕ)
  pub whole : ℕ → Bool

abbrev pub nothing_known : Picture
nothing_known = record { of = λ _. None; run = None; whole = λ _. false }

-- ** which interfaces a line ends

-- the families whose messages are parts of what is said of an interface
abbrev pub is_part : ℕ → Bool
is_part family = family == 7 || family == 10

-- what an end in this family ends: in AF_UNSPEC the parts too
abbrev pub reaches : ℕ → ℕ → Bool
reaches family other = other == family || (family == 0 && is_part other)

abbrev pub in_family : ℕ → Key → Key
in_family family key = record { family = family; index = key.index }

-- the parts of an interface, and whether an interface ends with another one
abbrev pub parts : Key → List Key
parts key = cond (key.family == 0) (in_family 7 key ∷ in_family 10 key ∷ []) []

abbrev pub is_among : List Key → Key → Bool
is_among keys other = list_any (λ key. is_key key other) keys

abbrev pub is_ended_with : Key → Key → Bool
is_ended_with key other = is_among (key ∷ parts key) other

abbrev pub is_since : ℕ → Option Seen → Bool
is_since at None = false
is_since at (Some seen) = nat_le at seen.at

-- of a whole dump: neither the interface nor the part had a line since the dump began
abbrev pub is_missed : (Key → Option Seen) → ℕ → ℕ → Key → Bool
is_missed of begin family key =
    not (is_since begin (of key)) && (reaches family key.family && not (is_since begin (of (in_family family key))))

-- a dump that is not the one that runs ends nothing
abbrev pub is_missed_by : (Key → Option Seen) → Option (List ℕ × ℕ) → List ℕ → ℕ → Key → Bool
is_missed_by of None dump family key = false
is_missed_by of (Some run) dump family key = is_text run.0 dump && is_missed of run.1 family key

abbrev pub shot_of : Option Seen → Option Shot
shot_of None = None
shot_of (Some seen) = seen.shot

abbrev pub kind_of : Option Seen → Option (List ℕ)
kind_of None = None
kind_of (Some seen) = seen.kind

abbrev pub words_kept : Option Seen → Option (List ℕ)
words_kept None = None
words_kept (Some seen) = seen.words

-- whether the line ends this interface, if it is known: one that is of another kind than is known of the one that had
-- its place ends that one
abbrev pub ends : Picture → Item → Key → Bool
ends p (is key shot words) q = is_another (kind_of (p.of key)) shot.text && is_ended_with key q
ends p (refused key) q = false
ends p (went key shot) q = is_ended_with key q
ends p (started dump) q = false
ends p (finished dump family) q = is_missed_by p.of p.run dump family q
ends p blind q = false
ends p nothing q = false

-- ** what is known after a line, and after all lines

abbrev pub without : Picture → Item → Key → Option Seen
without p x q = cond (ends p x q) None (p.of q)

abbrev pub with_seen : Key → Seen → (Key → Option Seen) → Key → Option Seen
with_seen key seen of q = cond (is_key key q) (Some seen) (of q)

-- an interface is this from then on, of which this kind is known: it stays so where the message names none
abbrev pub is_now : ℕ → Key → Option (List ℕ) → Shot → Option (List ℕ) → (Key → Option Seen) → Key → Option Seen
is_now at key kind shot words of =
    with_seen key (record { at = at; shot = Some shot; kind = kind_or (kind_in shot.text) kind; words = words }) of

abbrev pub of_after : Picture → ℕ → Item → Key → Option Seen
of_after p at (is key shot words) =
    is_now at key (kind_of (p.of key)) shot words (without p (is key shot words))
of_after p at (refused key) =
    with_seen key
    (record { at = at; shot = shot_of (p.of key); kind = kind_of (p.of key); words = words_kept (p.of key) }) p.of
of_after p at x = without p x

-- the dump that began last; a line of no interface leaves it unknown whether it is whole. It need not be forgotten at
-- its end: what stood before it is gone by then, so that the same end once more ends nothing
abbrev pub run_after : Picture → ℕ → Item → Option (List ℕ × ℕ)
run_after p at (started dump) = Some (dump, at)
run_after p at blind = None
run_after p at x = p.run

-- the families of which a dump was whole: the dump that runs is, once it ends
abbrev pub is_run : Option (List ℕ × ℕ) → List ℕ → Bool
is_run None dump = false
is_run (Some run) dump = is_text run.0 dump

abbrev pub whole_after : Picture → Item → ℕ → Bool
whole_after p (finished dump family) other = p.whole other || (is_run p.run dump && family == other)
whole_after p x other = p.whole other

abbrev pub after : Picture → ℕ × Item → Picture
after p x = record { of = of_after p x.0 x.1; run = run_after p x.0 x.1; whole = whole_after p x.1 }

-- what the lines of a host tell, each with its place among all lines
abbrev pub known : List (ℕ × Item) → Picture
known items = fold after nothing_known items
