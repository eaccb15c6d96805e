use Rattle.std.proofs.Common.{◌≡◌, ◌≤◌, ◌∙◌, List, ℕ, length, take, drop, sym, ap, subst, take_at}
use Rattle.link_msg.specs.Header.{header_size}
use Rattle.link_msg.specs.Messages.{message_text}
use Rattle.link_state.proofs.States.{has_header}
use Rattle.link_state.proofs.state_encoding.state_lenient_within.Goals as goal

pub clear_message-requires : goal.clear_message-requires
clear_message-requires c =
    let m = c.in_ok-len.ensures.0 in
    let written = c.in_ok-len.ensures.2 in
    let front : take c.in_ok-len.len c.canonical_lenient_within.new.out ≡ message_text m =
    ap (take c.in_ok-len.len) written.new_is
    ∙ take_at (message_text m) (drop c.in_ok-len.len c.args.out.now) c.in_ok-len.len (sym written.length_is) in
    subst (λ (t : List ℕ). header_size ≤ length t) (sym front) (has_header m)
