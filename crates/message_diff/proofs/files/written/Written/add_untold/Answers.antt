use Rattle.std.proofs.Common.{ℕ, List, refl, sym, ap}
use Rattle.message_diff.specs.Files.{Missing}
use Rattle.message_diff.proofs.Beside.{untold_again, untold_more}
use Rattle.message_diff.proofs.files.written.Written.add_untold.Goals as goal

pub returns-then-is_last : goal.returns-then-is_last
returns-then-is_last c = untold_again _ _ (sym c.if-is_last.ensures)

pub returns : goal.returns
returns c =
    let named = c.in_ok-host.ensures.items_if_clones_equal (λ x y e. e) in
    let missing : List ℕ → Missing = λ host. record { is_new = c.args.is_new; family = c.args.family; host = host } in
    untold_more _ c.args.self.now _ _ (sym c.if-is_last.ensures) (ap missing named) refl c.in_ok-push.ensures.items
