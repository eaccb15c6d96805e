-- Two dumps tell as files what they tell one after the other.
use Rattle.std.proofs.Common.{◌≡◌, ◌≢◌, ◌++◌, ℕ, suc, Bool, true, false, List, [], ◌∷◌, refl, sym, ap, ◌∙◌, subst}
use Rattle.std.specs.Prelude.{Option, None, cond, map, ◌&&◌, ◌||◌}
use Rattle.message_diff.specs.declared.key.Key.{Key}
use Rattle.message_diff.specs.declared.store.Host.{Host}
use Rattle.message_diff.specs.declared.snapshot.Compared.{Compared}
use Rattle.message_diff.specs.Known.{Item, Picture, after, in_family, is_part, nothing_known}
use Rattle.message_diff.specs.Files.{Found, Missing, are_two, found, gone_of, news_of}
use Rattle.message_diff.specs.Watched.{known_of}
use Rattle.told_laws.specs.Entries.{AreSteps, Step, all_entries, of_key}
use Rattle.told_laws.specs.Fewer.{changes_by}
use Rattle.told_laws.specs.Hosts.{HostTells, Piece}
use Rattle.told_laws.specs.TwoWays.{IsDump, IsKnown, TwoWays, files_tell}
use Rattle.told_laws.specs.TwoWays.{known_behind, news_entries, unworded}
use Rattle.told_laws.proofs.Dumps.{DumpDoes, as_found, below_walk, dump_does, end_at, entries_both, files_by, found_as}
use Rattle.told_laws.proofs.Dumps.{is_none, is_torn, mine, none_told, none_yet, put, stays, table, told_of, whole_at}
use Rattle.told_laws.proofs.Dumps.{whole_same}
use Rattle.told_laws.proofs.Entries.{entries_at, gone_entry, of_key_both}
use Rattle.told_laws.proofs.Orderly.{Read, read, read_at}
use Rattle.told_laws.proofs.Views.{View, entries_of, entries_walk, last_shot, view, view_walk, walk}
use Rattle.told_laws.proofs.Views.{walk_entries, walk_unworded}

-- ** the entries of a stream

pub record Listed (by : Compared) (at : ℕ) (p : Picture) (pieces : List Piece) : Type 0 where
  pub steps : List Step
  pub are : AreSteps (changes_by by) pieces steps
  pub each : (q : Key) → of_key q (all_entries steps) ≡ entries_of by at p (map (λ step. step.item) steps) q

listed : (by : Compared) (at : ℕ) (p : Picture) (pieces : List Piece) → HostTells (changes_by by) at p pieces
    → Listed by at p pieces
listed by at p [] h = record { steps = []; are = refl; each = λ q. refl }
listed by at p (piece ∷ pieces) h =
    let got = read (changes_by by) refl p piece h.0 h.1 in
    let r : Read (changes_by by) p piece = got.0 in
    let rest : HostTells (changes_by by) (suc at) (after p (suc at, r.step.item)) pieces =
    subst (λ x. HostTells (changes_by by) (suc at) (after p (suc at, x)) pieces) (sym got.1) h.2 in
    let more : Listed by (suc at) (after p (suc at, r.step.item)) pieces =
    listed by (suc at) (after p (suc at, r.step.item)) pieces rest in
    record {
      steps = r.step ∷ more.steps;
      are = (r.is, more.are);
      each = λ q.
          of_key_both q r.step.entries (all_entries more.steps)
          ∙ ap (λ l. l ++ of_key q (all_entries more.steps)) (read_at (changes_by by) p piece r q)
          ∙ ap (λ l. entries_at (changes_by by) p r.step.item q ++ l) (more.each q);
    }

-- ** two dumps

module _ (by : Compared) (q : Key) (part : is_part q.family ≡ false) (olds news : List Item) (d : IsDump olds)
    (e : IsDump news) where
  abbrev at : ℕ
  at = end_at 0 olds

  abbrev then : View
  then = walk q 0 none_yet olds

  -- each as a file, and the second one in the stream
  old_alone : DumpDoes q 0 none_yet olds d
  old_alone = dump_does q 0 none_yet olds d tt

  new_alone : DumpDoes q 0 none_yet news e
  new_alone = dump_does q 0 none_yet news e tt

  behind : DumpDoes q at then news e
  behind = dump_does q at then news e (below_walk q 0 none_yet olds tt)

  then_of : then.of ≡ put old_alone.place (mine q d.messages) None
  then_of = ap (λ v. v.of) old_alone.to ∙ stays (whole_at q 1 olds d) old_alone.place (mine q d.messages)

  then_whole : then.whole ≡ whole_at q 1 olds d
  then_whole = ap (λ v. v.whole) old_alone.to

  new_of : (walk q 0 none_yet news).of ≡ put new_alone.place (mine q e.messages) None
  new_of = ap (λ v. v.of) new_alone.to ∙ stays (whole_at q 1 news e) new_alone.place (mine q e.messages)

  new_whole : (walk q 0 none_yet news).whole ≡ whole_at q 1 news e
  new_whole = ap (λ v. v.whole) new_alone.to

  -- what the stream tells
  streamed : walk_entries q 0 none_yet (olds ++ news)
      ≡ told_of q (mine q e.messages) (put old_alone.place (mine q d.messages) None) (whole_at q 1 olds d)
      ++ cond (whole_at q 1 news e && is_none (mine q e.messages))
      (gone_entry q (last_shot (put behind.place (mine q e.messages)
      (put old_alone.place (mine q d.messages) None)))) []
  streamed =
      entries_both q 0 none_yet olds news
      ∙ ap (λ l. l ++ walk_entries q at then news)
      (old_alone.tell ∙ none_told q (whole_at q 1 olds d) old_alone.place (mine q d.messages))
      ∙ behind.tell
      ∙ ap (λ o. told_of q (mine q e.messages) o then.whole
      ++ cond (whole_at q (suc at) news e && is_none (mine q e.messages))
      (gone_entry q (last_shot (put behind.place (mine q e.messages) o))) []) then_of
      ∙ ap (λ w. told_of q (mine q e.messages) (put old_alone.place (mine q d.messages) None) w
      ++ cond (whole_at q (suc at) news e && is_none (mine q e.messages))
      (gone_entry q (last_shot (put behind.place (mine q e.messages)
      (put old_alone.place (mine q d.messages) None)))) []) then_whole
      ∙ ap (λ w. told_of q (mine q e.messages) (put old_alone.place (mine q d.messages) None) (whole_at q 1 olds d)
      ++ cond (w && is_none (mine q e.messages))
      (gone_entry q (last_shot (put behind.place (mine q e.messages)
      (put old_alone.place (mine q d.messages) None)))) [])
      (whole_same q (is_torn news e) e.name (suc at) 1 e.ends)

  -- what files have
  module _ (name : List ℕ) (old new : Option Host) (had : IsKnown old (known_behind 0 nothing_known olds))
      (has : IsKnown new (known_behind 0 nothing_known news)) where
    old_view : view q (known_behind 0 nothing_known olds) ≡ then
    old_view = view_walk by q part 0 nothing_known olds

    new_view : view q (known_behind 0 nothing_known news) ≡ walk q 0 none_yet news
    new_view = view_walk by q part 0 nothing_known news

    old_found : (front : List ℕ) × (found old q ≡ as_found front (mine q d.messages))
    old_found =
        let f = found_as ((known_behind 0 nothing_known olds).of q) old_alone.place (mine q d.messages)
        (ap (λ v. v.of) old_view ∙ then_of) in
        (f.0, had.found q ∙ f.1)

    new_found : (front : List ℕ) × (found new q ≡ as_found front (mine q e.messages))
    new_found =
        let f = found_as ((known_behind 0 nothing_known news).of q) new_alone.place (mine q e.messages)
        (ap (λ v. v.of) new_view ∙ new_of) in
        (f.0, has.found q ∙ f.1)

    old_whole : (known_of old).whole q.family ≡ whole_at q 1 olds d
    old_whole = had.whole q.family ∙ ap (λ v. v.whole) old_view ∙ then_whole

    is_whole_new : (known_of new).whole q.family ≡ whole_at q 1 news e
    is_whole_new = has.whole q.family ∙ ap (λ v. v.whole) new_view ∙ new_whole

    abbrev miss : Bool → Missing
    miss is_new = record { is_new = is_new; family = q.family; host = name }

    or_part : (a b : Bool) → (a || (is_part q.family && b)) ≡ a
    or_part true b = refl
    or_part false b = ap (λ t. t && b) part

    filed : files_tell by name old new q
        ≡ files_by by q (whole_at q 1 olds d) (whole_at q 1 news e) (miss false) (miss true)
        (as_found old_found.0 (mine q d.messages)) (as_found new_found.0 (mine q e.messages))
    filed =
        ap (λ t. news_entries q
        (news_of by ((known_of old).whole q.family) (miss false) t (found old q) (found new q))
        ++ news_entries q (gone_of ((known_of new).whole q.family) (miss true) (found old q) (found new q)))
        (or_part (are_two (found old q) (found new q))
        (are_two (found old (in_family 0 q)) (found new (in_family 0 q))))
        ∙ ap (λ f. files_by by q ((known_of old).whole q.family) ((known_of new).whole q.family) (miss false)
        (miss true) f (found new q)) old_found.1
        ∙ ap (λ f. files_by by q ((known_of old).whole q.family) ((known_of new).whole q.family) (miss false)
        (miss true) (as_found old_found.0 (mine q d.messages)) f) new_found.1
        ∙ ap (λ w. files_by by q w ((known_of new).whole q.family) (miss false) (miss true)
        (as_found old_found.0 (mine q d.messages)) (as_found new_found.0 (mine q e.messages))) old_whole
        ∙ ap (λ w. files_by by q (whole_at q 1 olds d) w (miss false) (miss true)
        (as_found old_found.0 (mine q d.messages)) (as_found new_found.0 (mine q e.messages))) is_whole_new

    pub both_tell : found old q ≢ Found.refusals
        → walk_entries q 0 none_yet (olds ++ news) ≡ files_tell by name old new q
    both_tell accepted =
        streamed
        ∙ sym (filed ∙ table by q (miss false) (miss true) old_found.0 new_found.0 old_alone.place behind.place
        (whole_at q 1 olds d) (whole_at q 1 news e) (mine q d.messages) (mine q e.messages)
        (λ h. accepted (old_found.1 ∙ h)))

pub two_ways : TwoWays
two_ways by pieces h =
    let all : Listed by 0 nothing_known pieces = listed by 0 nothing_known pieces h in
    record {
      steps = all.steps;
      are = all.are;
      both = λ olds news items d e name old new had has q part accepted.
          all.each q
          ∙ ap (λ xs. entries_of by 0 nothing_known xs q) items
          ∙ entries_walk by q part 0 nothing_known (map unworded (olds ++ news))
          ∙ walk_unworded q 0 none_yet (olds ++ news)
          ∙ both_tell by q part olds news d e name old new had has accepted;
    }
