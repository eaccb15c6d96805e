-- Equality of messages decides, where it does at the header and at the attributes.
use Rattle.std.specs.Prelude.{◌≡◌, ◌&&◌, Bool, List}
use Rattle.std.specs.Bool.{Decides}
use Rattle.std.proofs.Common.{ap, ◌∙◌}
use Rattle.nla_wire.specs.Decided.{both_exact}
use Rattle.link_msg.specs.declared.attribute.LinkAttribute.{LinkAttribute}
use Rattle.link_msg.specs.declared.header.LinkHeader.{LinkHeader}
use Rattle.link_msg.specs.declared.message.LinkMessage.{LinkMessage}

made : LinkHeader → List LinkAttribute → LinkMessage
made header attributes = record { header = header; attributes = attributes }

joined : (x y : LinkMessage) → x.header ≡ y.header → x.attributes ≡ y.attributes → x ≡ y
unfolding made
joined x y h a = ap (λ k. made k x.attributes) h ∙ ap (λ k. made y.header k) a

pub message_decides : {H : LinkHeader → LinkHeader → Bool} {A : List LinkAttribute → List LinkAttribute → Bool}
    → ((a b : LinkHeader) → Decides (H a b) (a ≡ b)) → ((a b : List LinkAttribute) → Decides (A a b) (a ≡ b))
    → (x y : LinkMessage) → Decides (H x.header y.header && A x.attributes y.attributes) (x ≡ y)
message_decides header attributes x y =
    let fields = both_exact _ _ (header x.header y.header) (attributes x.attributes y.attributes) in
    (λ e. joined x y (fields.0 e).0 (fields.0 e).1, λ e. fields.1 (ap (λ m. m.header) e, ap (λ m. m.attributes) e))
