use Rattle.std.proofs.Common.{◌≡◌, ◌∷◌, [], List, sym, ap, ◌∙◌, subst, map}
use Rattle.std.specs.Prelude.{Some, true}
use Rattle.std.specs.Option.{option_copied}
use Rattle.std.specs.Map.{keys_of}
use Rattle.std.specs.Map.Iter.{deref_pair}
use Rattle.std.proofs.lemmas.Map.Iter.{btree_map_turn}
use Rattle.message_diff.specs.declared.key.Key.{Key}
use Rattle.message_diff.specs.declared.store.Known.{Known}
use Rattle.message_diff.specs.Files.{Adds, Found, Missing, found, found_in, found_last, gone_at, gone_of, tells}
use Rattle.message_diff.proofs.Beside.{next_told, none}
use Rattle.message_diff.proofs.Pictures.{key_total}
use Rattle.message_diff.proofs.files.went.push_left_of.Goals as goal

pub loop-key-preserved : goal.loop-key-preserved
loop-key-preserved c = λ all more.
    let name = c.args.new.name.now in
    let other = option_copied c.args.new.host in
    let key = c.in-Some.key.now in
    let known = c.in-Some.known.now in
    let missing : Missing = record { is_new = true; family = key.family; host = name } in
    let f = gone_at c.args.new.has_dumps name (Some c.args.host.now) other in
    let w = c.loop-key.written in
    let x = c.push_left.new.written in
    let here : found (Some c.args.host.now) key ≡ found_last known.last =
    ap found_in (btree_map_turn deref_pair c.loop-key.yielded c.into_iter-key-iterator.result c.loop-key.key-iterator
    c.next.new.self c.next.result (c.in-Some.key, c.in-Some.known) c.loop-key.yielded_by c.in-Some.is
    c.next.ensures.steps key_total c.args.host.now.known
    (c.into_iter-key-iterator.ensures.into_iter_gives ∙ c.iter-key-items.ensures.rest)
    c.iter-key-items.ensures.ordered).1 in
    let one : Adds (f key ∷ []) w x =
    subst (λ (was : Found). Adds (gone_of (tells c.args.new.has_dumps other key.family) missing was
    (found other key) ∷ []) w x)
    (sym here) c.in_ok-push_left.ensures in
    c.loop-key.invariant all
    (subst (λ (es : List (Key × Known)). Adds (map f (keys_of es)) w all) (sym c.in-Some.ensures.steps)
    (next_told f key (keys_of c.next.new.self) w x all one more))

pub returns : goal.returns
returns c =
    let f = gone_at c.args.new.has_dumps c.args.new.name.now (Some c.args.host.now) (option_copied c.args.new.host) in
    let w = c.loop-key.written in
    c.loop-key.invariant w
    (subst (λ (es : List (Key × Known)). Adds (map f (keys_of es)) w w) (sym c.in-None.ensures.steps.0) (none w))
