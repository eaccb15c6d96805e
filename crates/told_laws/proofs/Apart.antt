-- What is told of one host is what its lines tell alone.
use Rattle.std.proofs.Common.{◌≡◌, ◌<◌, ◌+◌, ◌-◌, ◌^◌, ◌++◌, ℕ, suc, Bool, true, false, List, [], ◌∷◌, refl, sym, ap}
use Rattle.std.proofs.Common.{◌∙◌, subst, length, arith}
use Rattle.std.specs.Prelude.{cond, map, min}
use Rattle.std.specs.List.{flat_map}
use Rattle.std.proofs.Math.Nat.{min-eq_left}
use Rattle.std.proofs.lemmas.Slice.Eq.{bytes_eq-Decides}
use Rattle.line_filter.specs.Runs.{Runs}
use Rattle.line_filter.specs.Words.{front_of, rest_of}
use Rattle.message_diff.specs.declared.reading.Said.{Said}
use Rattle.message_diff.specs.declared.reading.Said.TheVariants as Saids
use Rattle.message_diff.specs.declared.telling.Telling.{Telling}
use Rattle.message_diff.specs.declared.watch.Watch.{Watch}
use Rattle.message_diff.specs.Held.{IsAfter, item_of}
use Rattle.message_diff.specs.Known.{Item, Picture, after, is_text, nothing_known}
use Rattle.message_diff.specs.Said.{Says}
use Rattle.message_diff.specs.Watched.{IsTaken, TakesSaid, host_of, known_in, next_line}
use Rattle.message_diff.specs.Watched.{takes_line}
use Rattle.told_laws.specs.Hosts.{Apart, HostTells, Piece, TellsSaid, is_of, of_host}
use Rattle.told_laws.proofs.Alike.{Alike, goes_alike, tells_alike, waits_alike}

-- ** what a line does to its host

hosts_stay : (old new : Watch) (name : List ℕ) → new.hosts ≡ old.hosts → known_in new name ≡ known_in old name
hosts_stay old new name is = rw is

stays_after : (p new : Picture) (at : ℕ) → new ≡ p → IsAfter p at Item.nothing new
stays_after p new at is =
    subst (λ s. IsAfter p at Item.nothing s) (sym is) (record { of = λ q. refl; run = refl; whole = λ f. refl })

own_after : (front : List ℕ) (told : Telling) (at : ℕ) (said : Said) (old new : Watch) (more : List ℕ)
    → TakesSaid front told at said old new more
    → IsAfter (known_in old (host_of front)) at (item_of front told said) (known_in new (host_of front))
own_after front told at (Saids.Is key shot) old new more h = h.own.0
own_after front told at (Saids.Refused key) old new more h = h.own.0
own_after front told at (Saids.Went key was) old new more h = h.own.0
own_after front told at (Saids.Begin dump) old new more h = h.own.0
own_after front told at (Saids.Done dump f) old new more h = h.own.0
own_after front told at Saids.Lost old new more h =
    stays_after (known_in old (host_of front)) (known_in new (host_of front)) at
    (hosts_stay old new (host_of front) h.0)
own_after front told at Saids.Blind old new more h = h.own.0
own_after front told at Saids.Nothing old new more h =
    stays_after (known_in old (host_of front)) (known_in new (host_of front)) at
    (hosts_stay old new (host_of front) h.0)

own_told : (front : List ℕ) (told : Telling) (at : ℕ) (said : Said) (old new : Watch) (more : List ℕ) (m n : ℕ)
    (o : Picture) → Alike m n (known_in old (host_of front)) o → TakesSaid front told at said old new more
    → TellsSaid front told o said more
own_told front told at (Saids.Is key shot) old new more m n o e h =
    tells_alike m n (known_in old (host_of front)) o e front told _ more h.own.1
own_told front told at (Saids.Refused key) old new more m n o e h =
    tells_alike m n (known_in old (host_of front)) o e front told _ more h.own.1
own_told front told at (Saids.Went key was) old new more m n o e h =
    tells_alike m n (known_in old (host_of front)) o e front told _ more h.own.1
own_told front told at (Saids.Begin dump) old new more m n o e h =
    tells_alike m n (known_in old (host_of front)) o e front told _ more h.own.1
own_told front told at (Saids.Done dump f) old new more m n o e h =
    tells_alike m n (known_in old (host_of front)) o e front told _ more h.own.1
own_told front told at Saids.Lost old new more m n o e h = h.1
own_told front told at Saids.Blind old new more m n o e h =
    tells_alike m n (known_in old (host_of front)) o e front told _ more h.own.1
own_told front told at Saids.Nothing old new more m n o e h = h.1

others_stay : (front : List ℕ) (told : Telling) (at : ℕ) (said : Said) (old new : Watch) (more name : List ℕ)
    → is_text (host_of front) name ≡ false → TakesSaid front told at said old new more
    → known_in new name ≡ known_in old name
others_stay front told at (Saids.Is key shot) old new more name other h = h.others name other
others_stay front told at (Saids.Refused key) old new more name other h = h.others name other
others_stay front told at (Saids.Went key was) old new more name other h = h.others name other
others_stay front told at (Saids.Begin dump) old new more name other h = h.others name other
others_stay front told at (Saids.Done dump f) old new more name other h = h.others name other
others_stay front told at Saids.Lost old new more name other h = hosts_stay old new name h.0
others_stay front told at Saids.Blind old new more name other h = h.others name other
others_stay front told at Saids.Nothing old new more name other h = hosts_stay old new name h.0

-- ** a run from some state on

-- what its lines add, each; and of each host what it tells alone, from what is known of it there
pub record TellsFrom (told : Telling) (first : Watch) (lines : List (List ℕ)) (added : List ℕ) : Type 0 where
  pub pieces : List Piece
  pub lines_are : map (λ p. p.0) pieces ≡ lines
  pub added_are : added ≡ flat_map (λ p. p.1) pieces
  pub apart : (name : List ℕ) (n : ℕ) (o : Picture) → Alike first.lines n (known_in first name) o
      → HostTells told n o (of_host name pieces)

-- a line and what comes behind it, where the line is of this host, and where it is not
module _ (told : Telling) (old mid : Watch) (piece : Piece) (pieces : List Piece) (name : List ℕ)
    (is : IsTaken piece.0 old mid piece.1) (by : old.reader.by ≡ told.by) (same : old.told ≡ told)
    (up : mid.lines ≡ suc old.lines)
    (rest : (n : ℕ) (o : Picture) → Alike mid.lines n (known_in mid name) o
    → HostTells told n o (of_host name pieces))
  where
    abbrev front : List ℕ
    front = front_of piece.0

    takes : TakesSaid front told mid.lines is.said old mid is.more
    takes = subst (λ t. TakesSaid front t mid.lines is.said old mid is.more) same is.takes

    own : (n : ℕ) (o : Picture) → Alike old.lines n (known_in old name) o → host_of front ≡ name
        → HostTells told n o (piece ∷ of_host name pieces)
    own n o e named =
        let x : Item = item_of front told is.said in
        let a : Alike old.lines n (known_in old (host_of front)) o =
        subst (λ h. Alike old.lines n (known_in old h) o) (sym named) e in
        let b : Alike mid.lines (suc n) (known_in mid (host_of front)) (after o (suc n, x)) =
        goes_alike old.lines n mid.lines (suc n) (known_in old (host_of front)) o (known_in mid (host_of front)) x a
        (omega arith) (omega arith) (own_after front told mid.lines is.said old mid is.more takes) in (
          is.said,
          record {
            fault = is.fault;
            more = is.more;
            says = subst (λ c. Says c front (rest_of piece.0) is.said is.fault) by is.says;
            tells = own_told front told mid.lines is.said old mid is.more old.lines n o a takes;
            all = is.all;
          },
          rest (suc n) (after o (suc n, x))
              (subst (λ h. Alike mid.lines (suc n) (known_in mid h) (after o (suc n, x))) named b),
        )

    other : (n : ℕ) (o : Picture) → Alike old.lines n (known_in old name) o → is_text (host_of front) name ≡ false
        → HostTells told n o (of_host name pieces)
    other n o e named =
        rest n o
        (waits_alike old.lines n mid.lines (known_in old name) o (known_in mid name)
        (others_stay front told mid.lines is.said old mid is.more name named takes) (omega arith) e)

    pub one_more : (n : ℕ) (o : Picture) → Alike old.lines n (known_in old name) o
        → HostTells told n o (of_host name (piece ∷ pieces))
    one_more n o e = by_name (is_of name piece) refl
      where
        by_name : (t : Bool) → is_of name piece ≡ t
            → HostTells told n o (cond t (piece ∷ of_host name pieces) (of_host name pieces))
        by_name true h = own n o e ((bytes_eq-Decides (host_of front) name).0 h)
        by_name false h = other n o e h

counted : (m n k : ℕ) → n ≡ next_line m → m + suc k < 2 ^ 64 → n ≡ suc m
counted m n k is small =
    let e : min (m + 1) (2 ^ 64 - 1) ≡ m + 1 = min-eq_left (omega arith) in
    omega arith

tells_from : (told : Telling) (first last : Watch) (lines : List (List ℕ)) (added : List ℕ)
    → first.reader.by ≡ told.by → first.told ≡ told → first.lines + length lines < 2 ^ 64
    → Runs takes_line first lines last added → TellsFrom told first lines added
tells_from told first last [] added by same small h =
    record { pieces = []; lines_are = refl; added_are = h.1; apart = λ name n o e. tt }
tells_from told first last (line ∷ lines) added by same small h =
    let mid : Watch = h.0 in
    let up : mid.lines ≡ suc first.lines = counted first.lines mid.lines (length lines) h.3.lines small in
    let more : TellsFrom told mid lines h.2 =
    tells_from told mid last lines h.2 (h.3.by ∙ by) (h.3.told ∙ same) (omega arith) h.4 in
    record {
      pieces = (line, h.1) ∷ more.pieces;
      lines_are = ap (λ ls. line ∷ ls) more.lines_are;
      added_are = h.5 ∙ ap (λ rest. h.1 ++ rest) more.added_are;
      apart = λ name. one_more told first mid (line, h.1) more.pieces name h.3 by same up (more.apart name);
    }

-- ** from nothing

nothing_alike : (p : Picture) → p ≡ nothing_known → Alike 0 0 p nothing_known
nothing_alike p is =
    subst (λ s. Alike 0 0 s nothing_known) (sym is) (record { of = λ q. tt; run = tt; whole = λ f. refl })

pub apart : Apart
apart by told first last lines added fresh short h =
    let all : Telling = record { told = told; by = by } in
    let from : TellsFrom all first lines added =
    tells_from all first last lines added fresh.compares fresh.tells (omega (arith, fresh.lines)) h in
    record {
      pieces = from.pieces;
      lines_are = from.lines_are;
      added_are = from.added_are;
      apart = λ name.
          from.apart name 0 nothing_known
          (subst (λ n. Alike n 0 (known_in first name) nothing_known) (sym fresh.lines)
          (nothing_alike (known_in first name) (fresh.known name)));
    }
