use Rattle.std.proofs.Common.{◌≡◌, ◌∷◌, [], ◌∙◌, Some, ap, rules, subst, sym, true, false}
use Rattle.std.proofs.lemmas.Result.{on_ok_weaker}
use Rattle.std.specs.Prelude.{option_map}
use Rattle.nla_wire.specs.Items.{items}
use Rattle.link_info.specs.Tables.{frames_in}
use Rattle.shown.specs.Drafts.{with_members}
use Rattle.frame_shown.specs.Items.{objects}
use Rattle.frame_shown.specs.Tables.{is_listed, lists_of}
use Rattle.frame_diff.specs.Arrays.{arrays_at, has_values}
use Rattle.frame_diff.specs.Forests.{Step, find, forest}
use Rattle.frame_diff.specs.Groups.{group_by, group_held, is_entries}
use Rattle.frame_diff.specs.Items.{items_told, joined}
use Rattle.frame_diff.specs.Members.{arrays_of, inside_with, is_own_key, values_with}
use Rattle.frame_diff.specs.Walked.{HasNames, listed_items, reading_at}
use Rattle.frame_diff.specs.declared.walk.Attributes.{Attributes}
use Rattle.frame_diff.proofs.ArraysTold.{empty, nothing_told, row_told, same_kind, stand_beside, unlisted}
use Rattle.frame_diff.proofs.Inside.{same_written}
use Rattle.frame_diff.proofs.arrays.tell_array.Goals as goal

pub returns-then-not-is_listed : goal.returns-then-not-is_listed
returns-then-not-is_listed g c =
    let nest = g.W.Depth.nest in
    let inner = g.W.Walk.inner in
    let is_state = c.args.pass.is_state in
    let own = c.args.own in
    let r = reading_at nest inner is_state own.around.now in
    let fs = frames_in (items own.bytes.now) in
    let others = forest (arrays_at nest inner is_state c.args.others) in
    let row = c.args.row.now in
    let none : is_listed row.2 ≡ false = cc (c.is_listed.ensures, c.if-not-is_listed.true) in
    nothing_told c.args.pass.side c.args.path.now r own.list fs others row c.args.page.now
    (unlisted c.args.pass.side c.args.path.now r own.list fs others row none)

pub returns-then-not-has_values : goal.returns-then-not-has_values
returns-then-not-has_values g c =
    let nest = g.W.Depth.nest in
    let inner = g.W.Walk.inner in
    let is_state = c.args.pass.is_state in
    let own = c.args.own in
    let r = reading_at nest inner is_state own.around.now in
    let fs = frames_in (items own.bytes.now) in
    let others = forest (arrays_at nest inner is_state c.args.others) in
    let row = c.args.row.now in
    let listed : is_listed row.2 ≡ true = cc (c.is_listed.ensures, c.if-not-is_listed.false) in
    let none : has_values own.around.now own.list fs row.0 ≡ false =
    cc (c.has_values.ensures, c.if-not-has_values.true) in
    nothing_told c.args.pass.side c.args.path.now r own.list fs others row c.args.page.now
    (empty c.args.pass.side c.args.path.now r own.list fs others row listed none)

pub returns : goal.returns
returns g c =
    let nest = g.W.Depth.nest in
    let inner = g.W.Walk.inner in
    let is_state = c.args.pass.is_state in
    let own = c.args.own in
    let r = reading_at nest inner is_state own.around.now in
    let fs = frames_in (items own.bytes.now) in
    let others = forest (arrays_at nest inner is_state c.args.others) in
    let row = c.args.row.now in
    let side = c.args.pass.side in
    let text = c.args.path.now in
    let listed : is_listed row.2 ≡ true = cc (c.is_listed.ensures, c.if-not-is_listed.false) in
    let some : has_values own.around.now own.list fs row.0 ≡ true =
    cc (c.has_values.ensures, c.if-not-has_values.false) in
    let held =
    group_by (is_own_key (Some row.0) own.list) (values_with r own.list row.0 fs) (inside_with r own.list row.0 fs) in
    let path : c.as_str.result.now ≡ joined text row.1.now = search rules in
    let picked : group_held nest inner is_state c.of_number.result ≡ held =
    ap (group_held nest inner is_state) c.of_number.ensures in
    let beside : option_map (group_held nest inner is_state) c.array_beside-there.result
    ≡ find (Step.array row.1.now) others = c.array_beside-there.ensures.held nest inner is_state in
    on_ok_weaker c.tell_values.result (λ is. same_written
    (listed_items side (joined text row.1.now) held (find (Step.array row.1.now) others))
    (items_told side text (forest (arrays_of r own.list (lists_of (row ∷ [])) fs)) others) c.args.page.now
    c.tell_values.new.page (row_told side text r own.list fs others row listed some)
    (is ∙ (λ k. with_members (objects (listed_items side (path k) (picked k) (beside k))) c.args.page.now)))
    c.tell_values.ensures

pub tell_values-requires-clause-names : goal.tell_values-requires-clause-names
tell_values-requires-clause-names g c =
    subst HasNames (sym (ap (λ (a : Attributes). a.around.now) c.of_number.ensures)) c.requires.names

pub tell_values-requires-clause-same : goal.tell_values-requires-clause-same
tell_values-requires-clause-same g c =
    same_kind c.of_number.result c.array_beside-there.result
    (ap (λ (a : Attributes). is_entries a.list) c.of_number.ensures ∙ c.requires.entries)
    c.array_beside-there.ensures.entries

pub tell_values-requires-clause-alike : goal.tell_values-requires-clause-alike
tell_values-requires-clause-alike g c h =
    stand_beside c.args.own c.args.others c.of_number.result c.array_beside-there.result (c.requires.rows h)
    (ap (λ (a : Attributes). a.around.now) c.of_number.ensures) c.array_beside-there.ensures.around
