-- What is told of messages by the rows of all places depends on the orders of the counters alone.
use Rattle.std.proofs.Common.{◌≡◌, Bool, refl}
use Rattle.frame_shown.specs.Plain.{IsPlain, plain}
use Rattle.frame_shown.specs.declared.form.Around.{Around}
use Rattle.frame_shown.specs.declared.form.Order.{Order}
use Rattle.frame_shown.proofs.PlainRows.{plain_is}
use Rattle.frame_diff.specs.Laws.{messages_by, messages_moved, messages_told}
use Rattle.frame_diff.specs.Members.{Parts}
use Rattle.frame_diff.specs.Messages.{with_order}
use Rattle.frame_diff.specs.Ranges.{both_by, moved_by}
use Rattle.frame_diff.specs.Wholes.{between}
use Rattle.frame_diff.proofs.Plain.{forests_alike, made_alike}

ordered : (order other : Order) (cx : Around) → IsPlain order cx → IsPlain other (with_order cx other)
ordered order other cx is =
    record { tables = is.tables; counters = is.counters; order_is = refl; address = is.address }

pub plainly_told : (is_state : Bool) (order other : Order) (cx : Around) → IsPlain order cx → (old new : Parts)
    → messages_told is_state cx (with_order cx other) old new
    ≡ messages_told is_state (plain order) (plain other) old new
plainly_told is_state order other cx is old new =
    (λ k. between (forests_alike order cx (plain order) is (plain_is order) is_state old k)
    (forests_alike other (with_order cx other) (plain other) (ordered order other cx is) (plain_is other) is_state
    new k))

-- and what is written of them
pub plainly_by : (is_state : Bool) (order other : Order) (cx : Around) → IsPlain order cx → (old new : Parts)
    → messages_by is_state cx (with_order cx other) old new
    ≡ messages_by is_state (plain order) (plain other) old new
plainly_by is_state order other cx is old new =
    (λ k. both_by (made_alike order cx (plain order) is (plain_is order) is_state old k)
    (made_alike other (with_order cx other) (plain other) (ordered order other cx is) (plain_is other) is_state
    new k))

-- of lists in another order
pub plainly_moved : (is_state : Bool) (order other : Order) (cx : Around) → IsPlain order cx → (old new : Parts)
    → messages_moved is_state cx (with_order cx other) old new
    ≡ messages_moved is_state (plain order) (plain other) old new
plainly_moved is_state order other cx is old new =
    (λ k. moved_by (made_alike order cx (plain order) is (plain_is order) is_state old k)
    (made_alike other (with_order cx other) (plain other) (ordered order other cx is) (plain_is other) is_state
    new k))
