-- The line that tells why a line is refused.
use Rattle.std.specs.Prelude.{◌≡◌, ◌-◌, ◌==◌, ℕ, nat_lt, List, [], ◌∷◌, ◌++◌, codes, cond, drop, length, take}
use Rattle.shown.specs.Print.{print}
use Rattle.link_msg.specs.declared.encoding.CanonError.{CanonError}
use Rattle.link_msg.specs.declared.encoding.CanonError.TheVariants as Errors
use Rattle.line_filter.specs.Lines.{with_lf}
use Rattle.shown.specs.Drafts.{object_of}
use Rattle.frame_shown.specs.declared.form.Order.TheVariants as Orders
use Rattle.message_shown.specs.Whole.{IsWholeAnswerTo, ToLine}
use Rattle.message_diff.specs.Alone.{told_words, member_line}

-- ** the words that are told, as an object begins

abbrev pub without_last : List ℕ → List ℕ
without_last text = take (length text - 1) text

-- with a comma, if there is more than the brace
abbrev pub with_comma : List ℕ → List ℕ
with_comma text = cond (nat_lt 1 (length text)) (text ++ 44 ∷ []) text

unfoldable pub told_front : List ℕ → List ℕ
told_front front = 123 ∷ drop 1 (with_comma (without_last (print (object_of (told_words front)))))

-- ** faults

-- what follows the brace that a text begins with
abbrev pub behind_brace : List ℕ → List ℕ
behind_brace [] = []
behind_brace (x ∷ text) = cond (x == 123) text []

-- the words that are told, and then all that linkshow answers to the bytes alone: by the kernel that the words name
abbrev pub IsAnswered : List ℕ → List ℕ → List ℕ → Type 0
IsAnswered front bytes line = (answer : List ℕ) × ToLine IsWholeAnswerTo Orders.Unknown front [] bytes answer
    × (line ≡ told_front front ++ behind_brace (with_lf answer))

abbrev pub fault_line : List ℕ → List ℕ → List ℕ
fault_line front name = member_line front (codes "fault") name

-- the line of bytes of which what is compared is refused for this reason
abbrev pub IsFault : List ℕ → List ℕ → CanonError → List ℕ → Type 0
IsFault front bytes (Errors.Decode error) line = IsAnswered front bytes line
IsFault front bytes Errors.DoesNotFit line = line ≡ fault_line front (codes "unfit")
IsFault front bytes Errors.EmptyVfPorts line = line ≡ fault_line front (codes "empty-ports")
IsFault front bytes Errors.OutOfMemory line = ⊥

-- it was added
abbrev pub AddsFault : List ℕ → List ℕ → CanonError → List ℕ → List ℕ → Type 0
AddsFault front bytes error old new = (line : List ℕ) × IsFault front bytes error line × (new ≡ old ++ line)
