use Rattle.std.proofs.Common.{ℕ, List, [], ◌∷◌, ◌++◌, refl, map}
use Rattle.std.specs.Prelude.{Option, None, Some, codes}
use Rattle.line_filter.specs.Words.{value_in, words_of}
use Rattle.message_shown.specs.WordKeys.{answer_keys, own_keys}
use Rattle.message_shown.specs.Worded.{AreNew}
use Rattle.message_diff.specs.Alone.{word_member}
use Rattle.message_diff.proofs.words.law_words.Goals as goal

-- whichever of the three a line has
told_new : (one two three : Option (List ℕ))
    → AreNew (codes "change" ∷ codes "changes" ∷ answer_keys) (map (λ m. m.0)
    (word_member (codes "type") one ++ (word_member (codes "time") two ++ (word_member (codes "host") three ++ []))))
unfolding answer_keys own_keys
told_new None None None = tt
told_new None None (Some c) = (refl, tt)
told_new None (Some b) None = (refl, tt)
told_new None (Some b) (Some c) = (refl, (refl, tt))
told_new (Some a) None None = (refl, tt)
told_new (Some a) None (Some c) = (refl, (refl, tt))
told_new (Some a) (Some b) None = (refl, (refl, tt))
told_new (Some a) (Some b) (Some c) = (refl, (refl, (refl, tt)))

pub returns : goal.returns
returns c front =
    told_new (value_in (codes "type") (words_of front)) (value_in (codes "time") (words_of front))
    (value_in (codes "host") (words_of front))
