-- Lines `changed` of a run follow one another, and lead from the message of a line `new` to the last one.
use Rattle.std.proofs.Common.{◌≡◌, ◌++◌, ℕ, suc, Bool, true, false, List, [], ◌∷◌, refl, sym, subst}
use Rattle.std.specs.Prelude.{Option, None, Some, is_some, ◌||◌}
use Rattle.message_diff.specs.declared.key.Key.{Key}
use Rattle.message_diff.specs.declared.snapshot.Compared.{Compared}
use Rattle.message_diff.specs.Compared.{is_state}
use Rattle.message_diff.specs.Known.{Picture, after}
use Rattle.message_diff.specs.Shots.{Shot}
use Rattle.told_laws.specs.Entries.{Entry, Step, all_entries, of_key}
use Rattle.told_laws.specs.Leading.{AreInOrder, EntriesLead, Follow, Turn, turn_entries}
use Rattle.told_laws.specs.Turns.{HaveTurns, TakeTurns, may_go, there_after}
use Rattle.told_laws.proofs.Entries.{of_key_both}
use Rattle.told_laws.proofs.Leading.{lead_there}

abbrev pub There : Type 0
There = Option (List ℕ)

-- ** the turns of all entries of an interface

or_more : (a b : Bool) → (a || b) ≡ true → (a || true) ≡ true
or_more true b h = refl
or_more false b h = refl

may_more : (may : Bool) (there : There) (es : List Entry) → HaveTurns may there es → HaveTurns true there es
may_more may there [] h = tt
may_more may there (Entry.came key shot ∷ es) h = (h.0, may_more may (Some shot.text) es h.1)
may_more may there (Entry.changed key was is ∷ es) h = (h.0, h.1, may_more may (Some is.text) es h.2)
may_more may there (Entry.went key shot ∷ es) h =
    (or_more (is_some there) may h.0, may_more may None es h.1)

turns_both : (there : There) (a b : List Entry) → HaveTurns true there a → HaveTurns true (there_after there a) b
    → HaveTurns true there (a ++ b)
turns_both there [] b h i = i
turns_both there (Entry.came key shot ∷ a) b h i = (h.0, turns_both (Some shot.text) a b h.1 i)
turns_both there (Entry.changed key was is ∷ a) b h i = (h.0, h.1, turns_both (Some is.text) a b h.2 i)
turns_both there (Entry.went key shot ∷ a) b h i = (h.0, turns_both None a b h.1 i)

turns_behind : (there : There) (a b : List Entry) → HaveTurns true there (a ++ b)
    → HaveTurns true (there_after there a) b
turns_behind there [] b h = h
turns_behind there (Entry.came key shot ∷ a) b h = turns_behind (Some shot.text) a b h.1
turns_behind there (Entry.changed key was is ∷ a) b h = turns_behind (Some is.text) a b h.2
turns_behind there (Entry.went key shot ∷ a) b h = turns_behind None a b h.1

all_turns : (q : Key) (there : There) (at : ℕ) (p : Picture) (steps : List Step) → TakeTurns q there at p steps
    → HaveTurns true there (of_key q (all_entries steps))
all_turns q there at p [] h = tt
all_turns q there at p (step ∷ steps) h =
    let own : List Entry = of_key q step.entries in
    subst (HaveTurns true there) (sym (of_key_both q step.entries (all_entries steps)))
    (turns_both there own (of_key q (all_entries steps)) (may_more (may_go p step.item q) there own h.0)
    (all_turns q (there_after there own) (suc at) (after p (suc at, step.item)) steps h.2))

-- ** lines `changed` behind a line `new`

follow : (by : Compared) (key : Key) (shot : Shot) (ts : List Turn) (more : List Entry)
    → (is_state by ≡ false → AreInOrder shot ts)
    → HaveTurns true (Some shot.text) (turn_entries key ts ++ more) → Follow by shot ts
follow by key shot [] more one h = tt
follow by key shot (t ∷ ts) more one h =
    let text : shot.text ≡ t.was.text = let same = h.0 in cc in
    ((sym text, λ counts. (one counts).0), follow by key t.is ts more (λ counts. (one counts).1) h.2)

pub turns_lead : (by : Compared) (q : Key) (at : ℕ) (p : Picture) (steps : List Step) → TakeTurns q None at p steps
    → EntriesLead by q (of_key q (all_entries steps))
turns_lead by q at p steps turns before more shot ts are one =
    let all : HaveTurns true None (before ++ Entry.came q shot ∷ (turn_entries q ts ++ more)) =
    subst (HaveTurns true None) are (all_turns q None at p steps turns) in
    let here = turns_behind None before (Entry.came q shot ∷ (turn_entries q ts ++ more)) all in
    lead_there by shot ts (follow by q shot ts more one here.1)
