use Rattle.std.proofs.Common.{List, sym, ap, ◌∙◌, subst, map}
use Rattle.std.specs.Option.{option_copied}
use Rattle.std.specs.Map.{keys_of}
use Rattle.std.specs.Map.Iter.{deref_pair}
use Rattle.std.proofs.lemmas.Map.Iter.{btree_map_turn}
use Rattle.message_diff.specs.declared.key.Key.{Key}
use Rattle.message_diff.specs.declared.store.Known.{Known}
use Rattle.message_diff.specs.Files.{Adds, known_at, news_at}
use Rattle.message_diff.proofs.Beside.{next_told, none}
use Rattle.message_diff.proofs.Pictures.{key_total}
use Rattle.message_diff.proofs.files.came.push_host.Goals as goal

pub push_news-requires : goal.push_news-requires
push_news-requires c =
    let k = c.in-Some.key in
    ap (λ host. known_at host k.now) c.requires
    ∙ (btree_map_turn deref_pair c.loop-key.yielded c.into_iter-key-iterator.result c.loop-key.key-iterator
    c.next.new.self c.next.result (k, c.in-Some.known) c.loop-key.yielded_by c.in-Some.is c.next.ensures.steps
    key_total c.args.host.now.known
    (c.into_iter-key-iterator.ensures.into_iter_gives ∙ c.iter-key-items.ensures.rest)
    c.iter-key-items.ensures.ordered).1

pub loop-key-preserved : goal.loop-key-preserved
loop-key-preserved c = λ all more.
    let f = news_at c.args.old.by c.args.old.has_dumps c.args.old.name.now (option_copied c.args.old.host)
    (option_copied c.args.new.host) in
    let w = c.loop-key.written in
    c.loop-key.invariant all
    (subst (λ (es : List (Key × Known)). Adds (map f (keys_of es)) w all) (sym c.in-Some.ensures.steps)
    (next_told f c.in-Some.key.now (keys_of c.next.new.self) w c.push_news.new.written all c.in_ok-push_news.ensures
    more))

pub returns : goal.returns
returns c =
    let f = news_at c.args.old.by c.args.old.has_dumps c.args.old.name.now (option_copied c.args.old.host)
    (option_copied c.args.new.host) in
    let w = c.loop-key.written in
    c.loop-key.invariant w
    (subst (λ (es : List (Key × Known)). Adds (map f (keys_of es)) w w) (sym c.in-None.ensures.steps.0) (none w))
