use Rattle.std.proofs.Common.{List, ℕ, Vec, Global, sym, ap, ◌∙◌, subst}
use Rattle.std.specs.List.{flat_map}
use Rattle.std.specs.BTreeMap.{is_at}
use Rattle.std.specs.Cmp.Lexicographic.{slice_cmp}
use Rattle.std.specs.Ordering.{nat_cmp}
use Rattle.std.specs.Option.{option_copied}
use Rattle.std.specs.Map.{lookup}
use Rattle.std.specs.Map.Iter.{deref_pair}
use Rattle.std.proofs.lemmas.Map.Iter.{btree_map_turn}
use Rattle.message_diff.specs.declared.store.Host.{Host}
use Rattle.message_diff.specs.Files.{Adds, host_gone, names_of}
use Rattle.message_diff.specs.Watched.{host_in}
use Rattle.message_diff.proofs.Beside.{all_told, host_left, name_total, none}
use Rattle.message_diff.proofs.files.went.push_went.Goals as goal

pub loop-name-preserved : goal.loop-name-preserved
loop-name-preserved c = λ all more.
    let old = c.args.old.now in
    let new = c.args.new.now in
    let n = c.in-Some.name.now.items in
    let f = host_gone old new in
    let w = c.loop-name.written in
    let x = c.push_left_of.new.written in
    let named = c.as_slice-name.ensures.value in
    let at = ap (λ m. lookup (is_at (λ k. slice_cmp nat_cmp n k.items)) m.entries) (sym c.hosts.ensures)
    ∙ (btree_map_turn deref_pair c.loop-name.yielded c.into_iter-name-iterator.result c.loop-name.name-iterator
    c.next.new.self c.next.result (c.in-Some.name, c.in-Some.host) c.loop-name.yielded_by c.in-Some.is
    c.next.ensures.steps (name_total (λ k. k.items)) c.hosts.result.now
    (c.into_iter-name-iterator.ensures.into_iter_gives ∙ c.iter-name-items.ensures.rest)
    c.iter-name-items.ensures.ordered).1 in
    let here = host_left old new n c.of-is.result.name.now c.of-is.result.has_dumps (option_copied c.of-is.result.host)
    c.in-Some.host.now w x c.of-is.ensures.has_dumps (c.of-is.ensures.name ∙ named) at
    (c.of-is.ensures.host ∙ ap (host_in new) named) c.in_ok-push_left_of.ensures in
    c.loop-name.invariant all
    (subst (λ (es : List (Vec ℕ Global × Host)). Adds (flat_map f (names_of es)) w all) (sym c.in-Some.ensures.steps)
    (all_told f n (names_of c.next.new.self) w x all here more))

pub returns : goal.returns
returns c =
    let f = host_gone c.args.old.now c.args.new.now in
    let w = c.loop-name.written in
    c.loop-name.invariant w
    (subst (λ (es : List (Vec ℕ Global × Host)). Adds (flat_map f (names_of es)) w w) (sym c.in-None.ensures.steps.0)
    (none w))
