-- What is known where interfaces are taken out and put in.
use Rattle.std.proofs.Common.{◌≡◌, ◌<◌, ◌+◌, ℕ, Bool, true, false, List, ◌∷◌, get_or, drop, length}
use Rattle.std.proofs.Common.{refl, sym, ap, ◌∙◌, add-one, drop-cons}
use Rattle.std.specs.Prelude.{Option, None, Some, cond, ◌||◌}
use Rattle.std.specs.Cmp.{IsTotalOrder, nat_cmp_total}
use Rattle.std.proofs.lemmas.Cmp.{then_total, on_total}
use Rattle.message_diff.specs.declared.key.Key.{Key}
use Rattle.message_diff.specs.declared.store.Known.{Known}
use Rattle.message_diff.specs.Known.{Seen, key_cmp, is_key, is_among, kind_of, shot_of, words_kept}
use Rattle.message_diff.specs.Held.{kind_at, seen_in, shot_in, last_of, words_at}

pub key_total : IsTotalOrder key_cmp
key_total = then_total (on_total (λ k. k.family) nat_cmp_total) (on_total (λ k. k.index) nat_cmp_total)

-- ** one interface
pub seen_taken : (b : Bool) (o : Option Known) → seen_in (cond b None o) ≡ cond b None (seen_in o)
seen_taken true o = refl
seen_taken false o = refl

-- taken out and put in again
pub put_over : (b : Bool) (s : Seen) (o n : Option Known) → n ≡ cond b None o
    → cond b (Some s) (seen_in n) ≡ cond b (Some s) (seen_in o)
put_over true s o n is = refl
put_over false s o n is = ap seen_in is

-- ** more of them
pub taken_both : {A : Type 0} (a b : Bool) (o : Option A) → cond b None (cond a None o) ≡ cond (a || b) None o
taken_both true true o = refl
taken_both true false o = refl
taken_both false true o = refl
taken_both false false o = refl

pub taken_next : {A : Type 0} (a b : Bool) (o n : Option A) → n ≡ cond a None o → cond b None n ≡ cond (a || b) None o
taken_next a b o n is = ap (λ x. cond b None x) is ∙ taken_both a b o

pub drop_is : (keys : List Key) (i : ℕ) (d : Key) → i < length keys → drop i keys ≡ get_or keys i d ∷ drop (i + 1) keys
drop_is keys i d h = rw (add-one, drop-cons keys i d)

-- the next of them
pub taken_at : (keys : List Key) (i : ℕ) (d : Key) (q : Key) (old new : Option Known) → i < length keys
    → new ≡ cond (is_key (get_or keys i d) q) None old
    → cond (is_among (drop (i + 1) keys) q) None new ≡ cond (is_among (drop i keys) q) None old
taken_at keys i d q old new h is =
    taken_next (is_key (get_or keys i d) q) (is_among (drop (i + 1) keys) q) old new is
    ∙ ap (λ (ks : List Key). cond (is_among ks q) None old) (sym (drop_is keys i d h))

-- ** the last message
pub shot_is : (o : Option Known) → shot_of (seen_in o) ≡ shot_in (last_of o)
shot_is None = refl
shot_is (Some known) = refl

-- and the kind that is known
pub kind_is : (o : Option Known) → kind_of (seen_in o) ≡ kind_at (last_of o)
kind_is None = refl
kind_is (Some known) = refl

-- and the words that are kept
pub words_is : (o : Option Known) → words_kept (seen_in o) ≡ words_at (last_of o)
words_is None = refl
words_is (Some known) = refl
