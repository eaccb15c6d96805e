-- Whether the text of a message means it, from what is read from the text.
use Rattle.std.proofs.Common.{◌≡◌, List, ℕ, sym, ◌∙◌, subst, false}
use Rattle.std.specs.Prelude.{Bool, IsTrue, ◌↔◌}
use Rattle.link_msg.specs.Messages.{Means, MeansNothing, message_text, MessageFits}
use Rattle.link_msg.specs.declared.message.LinkMessage.{LinkMessage}
use Rattle.link_msg.proofs.Reading.{message_agrees}

-- the message fits, and its text means it
abbrev pub IsMeantByText : LinkMessage → Type 0
IsMeantByText m = MessageFits m × Means (message_text m) m

-- no bytes mean two messages
meant_once : (t : List ℕ) (m n : LinkMessage) → Means t m → Means t n → m ≡ n
meant_once t m n one other = let both = sym (message_agrees.only t m one) ∙ message_agrees.only t n other in cc

-- the text means the message n
pub read_again : (t : List ℕ) (m n : LinkMessage) (same : Bool) → MessageFits m → t ≡ message_text m → Means t n
    → (IsTrue same ↔ (n ≡ m)) → IsTrue same ↔ IsMeantByText m
read_again t m n same fits is means decided = (
  λ yes. (fits, subst (λ x. Means x m) is (subst (λ k. Means t k) (decided.0 yes) means)),
  λ meant. decided.1 (meant_once t n m means (subst (λ x. Means x m) (sym is) meant.1)),
)

-- the text means nothing
pub not_read_again : (t : List ℕ) (m : LinkMessage) → t ≡ message_text m → MeansNothing t
    → IsTrue false ↔ IsMeantByText m
not_read_again t m is refused =
    (λ yes. absurd cc, λ meant. absurd (refused m (subst (λ x. Means x m) (sym is) meant.1)))
