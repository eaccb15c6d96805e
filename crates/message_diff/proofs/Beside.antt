-- What is told of two files, interface after interface.
use Rattle.std.proofs.Common.{◌≡◌, ◌-◌, ℕ, Bool, true, false, List, [], ◌∷◌, ◌++◌, length, map}
use Rattle.std.proofs.Common.{refl, sym, ap, ◌∙◌, subst, append_assoc, inl, inr, arith, Bor}
use Rattle.std.specs.Prelude.{◌↔◌, IsTrue, Option, None, Some, cond, is_some, option_map, codes}
use Rattle.std.specs.Option.{option_copied}
use Rattle.std.specs.List.{flat_map, slice_get}
use Rattle.std.specs.Map.{keys_of}
use Rattle.std.specs.Cmp.{IsTotalOrder}
use Rattle.std.specs.Cmp.Lexicographic.{slice_cmp, nat_list_cmp_total}
use Rattle.std.specs.Ordering.{nat_cmp}
use Rattle.std.proofs.lemmas.Cmp.{on_total}
use Rattle.std.proofs.lemmas.List.{append-nil, length-map, map-append}
use Rattle.std.proofs.lemmas.List.Concat.{flat_map-append}
use Rattle.std.proofs.lemmas.Option.{slice_get-map}
use Rattle.message_diff.specs.declared.key.Key.{Key}
use Rattle.message_diff.specs.declared.store.Known.{Known}
use Rattle.message_diff.specs.declared.store.Host.{Host}
use Rattle.message_diff.specs.declared.store.Entry.{Entry}
use Rattle.message_diff.specs.declared.files.Untold.{Untold}
use Rattle.message_diff.specs.declared.files.written.Written.{Written}
use Rattle.std.specs.Io.KnownBytes.{Appends}
use Rattle.line_filter.specs.Steps.{FailedWrite}
use Rattle.line_filter.specs.declared.error.RunError.{RunError}
use Rattle.message_diff.specs.declared.snapshot.Compared.{Compared}
use Rattle.message_diff.specs.declared.watch.Watch.{Watch}
use Rattle.message_diff.specs.Alone.{AddsAlone}
use Rattle.message_diff.specs.Changed.{AddsChanged, changed_line}
use Rattle.message_diff.specs.Shots.{Shot}
use Rattle.message_diff.specs.Watched.{host_in}
use Rattle.message_diff.specs.Files.{host_gone, host_news, gone_at, gone_of, keys_in, all_missing, all_news}
use Rattle.message_diff.specs.Files.{StopsAtEnds, TellsNews}
use Rattle.message_diff.specs.Files.{Found, words_told, found, found_in, found_last, is_replaced, known_at, news_at}
use Rattle.message_diff.specs.Files.{news_of, tells}
use Rattle.message_diff.specs.Files.{News, Missing, AreLines, IsLine, Adds, AddsMissing, is_missing, missing_in}
use Rattle.message_diff.specs.Files.{missing_of, missings, is_any, is_last, is_same_as, once}
use Rattle.message_diff.proofs.Once.{twice, dedup_same, dedup_more}

-- ** lines
lines_one : (n : News) (line : List ℕ) → IsLine n line → AreLines (n ∷ []) line
lines_one n line h = (line, [], h, refl, sym (append-nil line))

lines_join : (a b : List News) (s t : List ℕ) → AreLines a s → AreLines b t → AreLines (a ++ b) (s ++ t)
lines_join [] b s t f g = subst (λ (u : List ℕ). AreLines b (u ++ t)) (sym f) g
lines_join (n ∷ ns) b s t f g = (
  f.0,
  f.1 ++ t,
  f.2,
  lines_join ns b f.1 t f.3 g,
  ap (λ u. u ++ t) f.4 ∙ append_assoc f.0 f.1 t,
)

-- ** what is not told
missing_none : (u : List Missing) → AddsMissing [] u u
missing_none u one = sym one ∙ ap once (sym (append-nil u))

once_once : (u : List Missing) → once (once u) ≡ once u
once_once u = ap once (sym (append-nil (once u))) ∙ twice is_missing u [] ∙ ap once (append-nil u)

missing_join : (a b u v w : List Missing) → AddsMissing a u v → AddsMissing b v w → AddsMissing (a ++ b) u w
missing_join a b u v w f g one =
    let first : v ≡ once (u ++ a) = f one in
    let front : once v ≡ v = ap once first ∙ once_once (u ++ a) ∙ sym first in
    g front ∙ ap (λ t. once (t ++ b)) first ∙ twice is_missing (u ++ a) b ∙ ap once (append_assoc u a b)

last_at : (items : List Untold) → slice_get (missings items) (length (missings items) - 1)
    ≡ option_map missing_in (slice_get items (length items - 1))
last_at items =
    ap (λ (n : ℕ). slice_get (missings items) (n - 1)) (length-map items missing_in)
    ∙ slice_get-map missing_in items (length items - 1)

-- the last one is this
last_same : (m : Missing) (o : Option Untold) → is_same_as m o ≡ true
    → (l : Missing) × (option_map missing_in o ≡ Some l) × (is_missing m l ≡ true)
last_same m None is = absurd cc
last_same m (Some one) is = (missing_in one, refl, is)

-- it is not
last_other : (m l : Missing) (o : Option Untold) → is_same_as m o ≡ false → option_map missing_in o ≡ Some l
    → is_missing m l ≡ false
last_other m l None is at = absurd cc
last_other m l (Some one) is at =
    let e : missing_in one ≡ l = cc in
    ap (is_missing m) (sym e) ∙ is

-- ** both
pub none : (w : Written) → Adds [] w w
none w = record {
  lines = [];
  told = refl;
  added = sym (append-nil w.out.items);
  untold = missing_none (missings w.untold.items);
}

pub join : (a b : List News) (w x y : Written) → Adds a w x → Adds b x y → Adds (a ++ b) w y
join a b w x y f g = record {
  lines = f.lines ++ g.lines;
  told = lines_join a b f.lines g.lines f.told g.told;
  added = g.added ∙ ap (λ t. t ++ g.lines) f.added ∙ append_assoc w.out.items f.lines g.lines;
  untold = subst (λ (ms : List Missing). AddsMissing ms (missings w.untold.items) (missings y.untold.items))
      (sym (flat_map-append missing_of a b))
      (missing_join (flat_map missing_of a) (flat_map missing_of b) (missings w.untold.items)
      (missings x.untold.items) (missings y.untold.items) f.untold g.untold);
}

-- one after another
pub next_told : {K : Type 0} (f : K → News) (key : K) (keys : List K) (w x y : Written) → Adds (f key ∷ []) w x
    → Adds (map f keys) x y → Adds (map f (key ∷ keys)) w y
next_told f key keys w x y first rest = join (f key ∷ []) (map f keys) w x y first rest

pub all_told : {K : Type 0} (f : K → List News) (key : K) (keys : List K) (w x y : Written) → Adds (f key) w x
    → Adds (flat_map f keys) x y → Adds (flat_map f (key ∷ keys)) w y
all_told f key keys w x y first rest = join (f key) (flat_map f keys) w x y first rest

-- one interface, of which a line is told, or nothing
pub one : (n : News) (w x : Written) (line : List ℕ) → missing_of n ≡ [] → IsLine n line
    → x.out.items ≡ w.out.items ++ line → x.untold ≡ w.untold → Adds (n ∷ []) w x
one n w x line told is out same = record {
  lines = line;
  told = lines_one n line is;
  added = out;
  untold = subst (λ (ms : List Missing). AddsMissing ms (missings w.untold.items) (missings x.untold.items))
      (sym (ap (λ ms. ms ++ []) told))
      (subst (λ (u : List Missing). AddsMissing [] (missings w.untold.items) u)
      (ap (λ u. missings u.items) (sym same)) (missing_none (missings w.untold.items)));
}

-- a family of which it is not told, where it was the last one and where it was not
pub untold_again : (m : Missing) (w : Written) → is_last w.untold.items m ≡ true → Adds (News.untold m ∷ []) w w
untold_again m w is =
    let items = w.untold.items in
    let last = last_same m (slice_get items (length items - 1)) is in
    record {
      lines = [];
      told = lines_one (News.untold m) [] refl;
      added = sym (append-nil w.out.items);
      untold = dedup_same is_missing (missings items) last.0 m (last_at items ∙ last.1) last.2;
    }

pub untold_more : (m : Missing) (w x : Written) (new : Untold) → is_last w.untold.items m ≡ false
    → missing_in new ≡ m → x.out ≡ w.out → x.untold.items ≡ w.untold.items ++ new ∷ []
    → Adds (News.untold m ∷ []) w x
untold_more m w x new other is out more =
    let items = w.untold.items in
    let longer : missings x.untold.items ≡ missings items ++ m ∷ [] =
    ap missings more ∙ map-append missing_in items (new ∷ []) ∙ ap (λ n. missings items ++ n ∷ []) is in
    record {
      lines = [];
      told = lines_one (News.untold m) [] refl;
      added = ap (λ o. o.items) out ∙ sym (append-nil w.out.items);
      untold = λ same. longer ∙ dedup_more is_missing (missings items) m
          (λ l at. last_other m l (slice_get items (length items - 1)) other (sym (last_at items) ∙ at)) same;
    }

-- ** of one interface

as_one : (n m : News) (w x : Written) → n ≡ m → Adds (m ∷ []) w x → Adds (n ∷ []) w x
as_one n m w x is h = subst (λ (k : News). Adds (k ∷ []) w x) (sym is) h

-- a line is told of one that came
came_told : (front : List ℕ) (shot : Shot) (w x : Written)
    → AddsAlone front (codes "new") shot.text w.out.items x.out.items
    → x.untold ≡ w.untold → Adds (News.came front shot ∷ []) w x
came_told front shot w x h same = one (News.came front shot) w x h.0 refl h.1 h.2 same

-- two lines of another one at its place
pub replaced_told : (by : Compared) (old_front : List ℕ) (was : Shot) (front : List ℕ) (is : Shot) (w x : Written)
    (mid : List ℕ) (b : Bool)
    → b ≡ true
    → AddsAlone old_front (codes "gone") was.text w.out.items mid
    → AddsAlone front (codes "new") is.text mid x.out.items
    → x.untold ≡ w.untold
    → Adds (cond b (News.replaced old_front was front is) (News.changed by front was is) ∷ []) w x
replaced_told by old_front was front is w x mid b other gone new same =
    as_one _ (News.replaced old_front was front is) w x
    (ap (λ (t : Bool). cond t (News.replaced old_front was front is) (News.changed by front was is)) other)
    (one (News.replaced old_front was front is) w x (gone.0 ++ new.0) refl (gone.0, new.0, gone.1, new.1, refl)
    (new.2 ∙ ap (λ t. t ++ new.0) gone.2 ∙ append_assoc w.out.items gone.0 new.0) same)

clash : true ≡ false → ⊥
clash e = let z : ◌≡◌ {A = ℕ} 0 1 = cc in omega arith

-- a line is told of one that changed, where it did
pub changed_told : (by : Compared) (old_front front : List ℕ) (was is : Shot) (w x : Written) (b told : Bool)
    → b ≡ false → (told ≡ false) ↔ (was.text ≡ is.text) → (told ≡ false → x.out ≡ w.out)
    → (IsTrue told → AddsChanged by front was is w.out.items x.out.items) → x.untold ≡ w.untold
    → Adds (cond b (News.replaced old_front was front is) (News.changed by front was is) ∷ []) w x
changed_told by old_front front was is w x b told other tells silent line same =
    as_one _ (News.changed by front was is) w x
    (ap (λ (t : Bool). cond t (News.replaced old_front was front is) (News.changed by front was is)) other)
    (each told tells silent line)
  where
    each : (t : Bool) → (t ≡ false) ↔ (was.text ≡ is.text) → (t ≡ false → x.out ≡ w.out)
        → (IsTrue t → AddsChanged by front was is w.out.items x.out.items)
        → Adds (News.changed by front was is ∷ []) w x
    each false decides nothing more =
        one (News.changed by front was is) w x [] refl (inl (decides.0 refl, refl))
        (ap (λ o. o.items) (nothing refl) ∙ sym (append-nil w.out.items)) same
    each true decides nothing more =
        one (News.changed by front was is) w x (changed_line by front was is) refl
        (inr (λ e. clash (decides.1 e), refl)) (more refl) same

-- ** by what the files have

refused : (by : Compared) (t : Bool) (m : Missing) (o : Bool) (old : Found)
    → news_of by t m o old Found.refusals ≡ News.same
refused by t m o Found.nothing = refl
refused by t m o Found.refusals = refl
refused by t m o (Found.last front text kind) = refl

found_is : (host : Option Host) (key : Key) (known : Known) (last : Option Entry) → known_at host key ≡ Some known
    → last ≡ known.last → found host key ≡ found_last last
found_is host key known last is at = ap found_in is ∙ ap found_last (sym at)

pub told_refused : (by : Compared) (dumps : Bool) (name : List ℕ) (old new : Option Host) (key : Key) (known : Known)
    (w : Written) → known_at new key ≡ Some known → None ≡ known.last
    → Adds (news_at by dumps name old new key ∷ []) w w
told_refused by dumps name old new key known w is none =
    as_one _ News.same w w
    (ap (news_of by (tells dumps old key.family) (record { is_new = false; family = key.family; host = name })
    (is_replaced (found old) (found new) key) (found old key)) (found_is new key known None is none)
    ∙ refused by _ _ _ (found old key))
    (one News.same w w [] refl refl (sym (append-nil w.out.items)) refl)

pub told_came : (by : Compared) (dumps : Bool) (name : List ℕ) (old new : Option Host) (key : Key) (known : Known)
    (entry : Entry) (w x : Written) → known_at new key ≡ Some known → Some entry ≡ known.last → None ≡ known_at old key
    → true ≡ tells dumps old key.family
    → AddsAlone (words_told entry) (codes "new") entry.snapshot.text w.out.items x.out.items → x.untold ≡ w.untold
    → Adds (news_at by dumps name old new key ∷ []) w x
told_came by dumps name old new key known entry w x is at none tells_it h same =
    let missing : Missing = record { is_new = false; family = key.family; host = name } in
    let other : Bool = is_replaced (found old) (found new) key in
    as_one _ (News.came (words_told entry) entry.snapshot) w x
    (ap (λ (f : Found). news_of by (tells dumps old key.family) missing other f (found new key))
    (ap found_in (sym none))
    ∙ ap (λ (f : Found). news_of by (tells dumps old key.family) missing other Found.nothing f)
    (found_is new key known (Some entry) is at)
    ∙ ap (λ (t : Bool). cond t (News.came (words_told entry) entry.snapshot) (News.untold missing)) (sym tells_it))
    (came_told (words_told entry) entry.snapshot w x h same)

-- ** of a host

pub host_told : (old new : Watch) (by : Compared) (name other : List ℕ) (dumps : Bool) (was is : Option Host)
    (host : Host) (w x : Written) → by ≡ old.told.by → dumps ≡ old.has_dumps → other ≡ name
    → was ≡ host_in old name → is ≡ host_in new name
    → is ≡ Some host → Adds (map (news_at by dumps other was is) (keys_of host.known.entries)) w x
    → Adds (host_news old new name) w x
host_told old new by name other dumps was is host w x compared has named old_is new_is at h =
    subst (λ (ns : List News). Adds ns w x)
    (ap (λ (c : Compared). map (news_at c dumps other was is) (keys_of host.known.entries)) compared
    ∙ ap (λ (d : Bool). map (news_at old.told.by d other was is) (keys_of host.known.entries)) has
    ∙ ap (λ (n : List ℕ). map (news_at old.told.by old.has_dumps n was is) (keys_of host.known.entries)) named
    ∙ ap (λ (o : Option Host). map (news_at old.told.by old.has_dumps name o is) (keys_of host.known.entries)) old_is
    ∙ ap (λ (o : Option Host). map (news_at old.told.by old.has_dumps name (host_in old name) is) (keys_in o)) (sym at)
    ∙ ap (λ (o : Option Host). map (news_at old.told.by old.has_dumps name (host_in old name) o) (keys_in o)) new_is)
    h

pub host_left : (old new : Watch) (name other : List ℕ) (dumps : Bool) (is : Option Host) (host : Host)
    (w x : Written) → dumps ≡ new.has_dumps → other ≡ name → host_in old name ≡ Some host → is ≡ host_in new name
    → Adds (map (gone_at dumps other (Some host) is) (keys_of host.known.entries)) w x
    → Adds (host_gone old new name) w x
host_left old new name other dumps is host w x has named at new_is h =
    subst (λ (ns : List News). Adds ns w x)
    (ap (λ (d : Bool). map (gone_at d other (Some host) is) (keys_of host.known.entries)) has
    ∙ ap (λ (n : List ℕ). map (gone_at new.has_dumps n (Some host) is) (keys_of host.known.entries)) named
    ∙ ap (λ (o : Option Host). map (gone_at new.has_dumps name (Some host) o) (keys_of host.known.entries)) new_is
    ∙ ap (λ (o : Option Host). map (gone_at new.has_dumps name o (host_in new name)) (keys_in o)) (sym at))
    h

pub name_total : {K : Type 0} (items : K → List ℕ) → IsTotalOrder (λ a b. slice_cmp nat_cmp (items a) (items b))
name_total items = on_total items nat_list_cmp_total

-- ** of all

pub told_all : (ns : List News) (w x : Written) → w.out.items ≡ [] → w.untold.items ≡ [] → Adds ns w x
    → AreLines ns x.out.items × (missings x.untold.items ≡ all_missing ns)
told_all ns w x empty none_yet h = (
  subst (λ (t : List ℕ). AreLines ns t) (sym (h.added ∙ ap (λ t. t ++ h.lines) empty)) h.told,
  h.untold (ap (λ u. once (missings u)) none_yet ∙ sym (ap missings none_yet))
      ∙ ap (λ u. once (missings u ++ flat_map missing_of ns)) none_yet,
)

pub tells_all : (old new : Watch) (u v : Option (List ℕ)) (w x : Written) (differs : Bool)
    → differs ≡ is_any x.out.items → w.out.items ≡ [] → w.untold.items ≡ [] → Adds (all_news old new) w x
    → Appends u v x.out.items → TellsNews old new u v differs (missings x.untold.items)
tells_all old new u v w x differs any empty none_yet h appended =
    let all = told_all (all_news old new) w x empty none_yet h in
    record { lines = x.out.items; told = all.0; appended = appended; differing = any; not_told = all.1 }

pub stops_writing : (e : RunError) (old new : Watch) (u v : Option (List ℕ)) (w x : Written) → w.out.items ≡ []
    → w.untold.items ≡ [] → Adds (all_news old new) w x → FailedWrite e u v x.out.items → StopsAtEnds e old new u v
stops_writing e old new u v w x empty none_yet h failed =
    let all = told_all (all_news old new) w x empty none_yet h in
    subst (λ (error : RunError). StopsAtEnds error old new u v) (sym failed.0)
    (x.out.items, all.0, (refl, failed.1))

-- ** of one that is left

pub copied_some : {T : Type 0} (o : Option (Bor T)) → is_some (option_copied o) ≡ is_some o
copied_some None = refl
copied_some (Some x) = refl

pub told_went : (is_told : Bool) (missing : Missing) (was : Option Entry) (is : Option Known) (entry : Entry)
    (w x : Written) → Some entry ≡ was → is_some is ≡ false → true ≡ is_told
    → AddsAlone (words_told entry) (codes "gone") entry.snapshot.text w.out.items x.out.items → x.untold ≡ w.untold
    → Adds (gone_of is_told missing (found_last was) (found_in is) ∷ []) w x
told_went is_told missing was None entry w x at none tells_it h same =
    as_one _ (News.went (words_told entry) entry.snapshot) w x
    (ap (λ (o : Option Entry). gone_of is_told missing (found_last o) Found.nothing) (sym at)
    ∙ ap (λ (t : Bool). cond t (News.went (words_told entry) entry.snapshot) (News.untold missing)) (sym tells_it))
    (one (News.went (words_told entry) entry.snapshot) w x h.0 refl h.1 h.2 same)
told_went is_told missing was (Some known) entry w x at none tells_it h same = absurd (clash none)
