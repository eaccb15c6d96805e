use Rattle.std.proofs.Common.{◌∙◌, ap, arith}
use Rattle.link_info.specs.Styles.{are_frames}
use Rattle.nla_wire.proofs.Front.{all_bytes}
use Rattle.nla_wire.specs.Items.{items}
use Rattle.message_shown.proofs.Leniently.{fits_or_not, none_short}
use Rattle.message_shown.proofs.lenient.fits.Goals as goal

pub returns-then-bytes-lt-HEADER_SIZE : goal.returns-then-bytes-lt-HEADER_SIZE
returns-then-bytes-lt-HEADER_SIZE c = none_short c.args.bytes.now c.if-bytes-lt-HEADER_SIZE.true

pub returns : goal.returns
returns c =
    fits_or_not c.args.bytes.now (all_bytes c.args.bytes.now (λ i. omega (arith, c.type_inv.bytes i)))
    (omega (arith, c.if-bytes-lt-HEADER_SIZE.false)) c.are_frames.result
    (c.are_frames.ensures ∙ ap (λ d. are_frames (items d)) c.split_at.ensures.back)
