use Rattle.std.proofs.Common.{◌≡◌, [], ◌∷◌, ap, sym, ◌∙◌}
use Rattle.std.specs.Prelude.{bit_and, codes, decimal}
use Rattle.std.proofs.lemmas.List.Sums.{fold-append}
use Rattle.std.proofs.lemmas.Result.{on_ok_weaker}
use Rattle.hex.specs.Hex.{encode_lower}
use Rattle.json.specs.Token.{number, string}
use Rattle.shown.specs.Drafts.{Draft, Members, with_begun, with_members, with_value}
use Rattle.shown.specs.Values.{flags_of}
use Rattle.shown.specs.declared.page.Nest.TheVariants.{Object}
use Rattle.shown.proofs.Drafts.{object_ended}
use Rattle.frame_shown.specs.Kept.{frame_flags, frame_members, text_unless_empty}
use Rattle.frame_diff.proofs.leaf.show.show_kept.Goals as goal

pub returns : goal.returns
returns c =
    let kind = c.args.kind in
    let begun : Draft = with_begun c.args.name.now Object c.args.page.now in
    let text = text_unless_empty (codes "name") c.args.text.now in
    let bits = flags_of frame_flags (bit_and kind 0xc000) in
    let all = frame_members c.args.text.now kind c.args.payload.now in
    let behind : Members =
    (codes "flags", bits) ∷ (codes "payload", string (encode_lower c.args.payload.now) ∷ []) ∷ [] in
    let number_told = with_value (codes "number") (number (decimal (bit_and kind 0x3fff)) ∷ []) begun in
    let numbered : c.keyed_number.new.self ≡ number_told = cc (c.in_ok-begin.ensures, c.in_ok-keyed_number.ensures) in
    let flagged : c.show_flags.new.page ≡ with_value (codes "flags") bits c.show_name.new.page = cc
    c.in_ok-show_flags.ensures in
    let filled : c.hex.new.self ≡ with_members all begun =
    c.in_ok-hex.ensures
    ∙ ap (λ (d : Draft). with_value (codes "payload") (string (encode_lower c.args.payload.now) ∷ []) d)
    (flagged ∙ ap (λ (d : Draft). with_value (codes "flags") bits d)
    (c.in_ok-show_name.ensures ∙ ap (with_members text) numbered))
    ∙ sym (fold-append (λ (d : Draft) m. with_value m.0 m.1 d) number_told text behind) in
    on_ok_weaker c.end.result (λ ends. object_ended c.args.name.now all c.args.page.now _ _ filled ends) c.end.ensures
