-- What is added for the words in front of a line, word by word.
use Rattle.std.proofs.Common.{◌≡◌, ℕ, suc, ◌+◌, ◌<◌, ◌≤◌, Bool, true, false, not, List, [], ◌∷◌, ◌++◌, length, take}
use Rattle.std.proofs.Common.{drop, get_or, map, refl, sym, ap, ◌∙◌, subst, inl, inr, arith, append-nil, append_assoc}
use Rattle.std.proofs.Common.{length-append}
use Rattle.std.specs.Prelude.{◌==◌, ◌||◌, codes}
use Rattle.std.specs.List.{flat_map}
use Rattle.std.specs.Cmp.Lexicographic.{same_text}
use Rattle.std.proofs.Math.Bool.{or_assoc}
use Rattle.std.proofs.lemmas.Bool.{true≢false, and_parts, or_from, or_parts}
use lib.Pointwise.{pointwise}
use Rattle.std.proofs.Math.Seq.{drop-cons, take-append_seam}
use Rattle.std.proofs.lemmas.Bool.Decides.{nat_tests}
use Rattle.std.proofs.lemmas.List.{map-append, take-append-drop}
use Rattle.std.proofs.lemmas.List.Folds.{drop_split, list_any-append}
use Rattle.std.proofs.lemmas.List.Sums.{fold-append, prefix_len_stops}
use Rattle.json.specs.Token.{string}
use Rattle.line_filter.specs.Words.{has_word, key_len, part_len, first_key, first_value, step_len, words_of}
use Rattle.line_filter.proofs.Front.{words_of-word, part_within}
use Rattle.shown.specs.Drafts.{Draft, Ends, Members, list_of, with_begun, with_members, with_value}
use Rattle.shown.specs.declared.page.Nest.TheVariants.{List as Items}
use Rattle.shown.proofs.Drafts.{list_ended}
use Rattle.shown.proofs.Pages.{no_items}
use Rattle.frame_shown.specs.Items.{are_any}
use Rattle.message_shown.specs.WordKeys.{answer_keys, is_among, is_member, own_keys, with_key, written_keys}
use Rattle.message_shown.specs.Worded.{Word, word_text, member_if, text_unless, members_in, others_in}
use Rattle.message_shown.specs.Worded.{as_items, list_shown, shown_words, words_shown}
use Rattle.message_shown.specs.Worded.{AreNew, EachWordIsShown, IsSplit, WordsAreApart}

-- ** a word as it stands

not_false : (b : Bool) → not b ≡ false → b ≡ true
not_false true h = refl
not_false false h = absurd cc

an_equals : (x : ℕ) → (x == 61) ≡ true → x ≡ 61
an_equals x h = grind (arith, nat_tests)

key_within : (line : List ℕ) → has_word line ≡ true → key_len line < part_len line
key_within line h = grind (arith, nat_tests)

-- a line begins with its first word
pub word_first : (line : List ℕ) → has_word line ≡ true
    → line ≡ (first_key line ++ 61 ∷ first_value line) ++ drop (part_len line) line
word_first line h =
    let key : ℕ = key_len line in
    let part : ℕ = part_len line in
    let less : key < part = key_within line h in
    let within : key < length line = omega (arith, less, part_within line) in
    let sign : get_or line key 0 ≡ 61 =
    an_equals (get_or line key 0) (not_false _ (prefix_len_stops (λ byte. not (byte == 61)) line 0 within)) in
    let next : suc key ≡ key + 1 = omega arith in
    let later : drop (suc key) line ≡ first_value line ++ drop part line =
    ap (λ n. drop n line) next ∙ drop_split line (key + 1) part (omega (arith, less)) in
    sym (take-append-drop key line)
    ∙ ap (λ l. take key line ++ l) (drop-cons line key 0 within ∙ (λ k. sign k ∷ later k))
    ∙ sym (append_assoc (take key line) (61 ∷ first_value line) (drop part line))

pub word_taken : (line key value : List ℕ) → has_word line ≡ true → key ≡ first_key line → value ≡ first_value line
    → (n : ℕ) → n ≡ length key + 1 + length value
    → (n ≤ length line) × (take n line ≡ first_key line ++ 61 ∷ first_value line)
word_taken line key value h k v n is =
    let text : List ℕ = first_key line ++ 61 ∷ first_value line in
    let size : length text ≡ n =
    omega (
      arith,
      is,
      length-append (first_key line) (61 ∷ first_value line),
      ap (λ (l : List ℕ). length l) k,
      ap (λ (l : List ℕ). length l) v,
    ) in
    let whole : length line ≡ length text + length (drop (part_len line) line) =
    ap (λ (l : List ℕ). length l) (word_first line h) ∙ length-append text (drop (part_len line) line) in (
      omega (arith, size, whole),
      ap (take n) (word_first line h) ∙ ap (λ m. take m (text ++ drop (part_len line) line)) (sym size)
          ∙ take-append_seam text (drop (part_len line) line),
    )

-- ** members

pub step_members : (written : List (List ℕ)) (line : List ℕ) (keys keys' : List (List ℕ)) (page page' : Draft)
    → has_word line ≡ true
    → keys' ≡ with_key (is_member written keys (first_key line)) (first_key line) keys
    → page' ≡ with_members (member_if (is_member written keys (first_key line)) (first_key line, first_value line)) page
    → with_members (members_in written keys' (words_of (drop (step_len line) line))) page'
    ≡ with_members (members_in written keys (words_of line)) page
step_members written line keys keys' page page' word more shown =
    let is : Bool = is_member written keys (first_key line) in
    let rest : List Word = words_of (drop (step_len line) line) in
    (λ k. with_members (members_in written (more k) rest) (shown k))
    ∙ sym (fold-append (λ (d : Draft) m. with_value m.0 m.1 d) page (member_if is (first_key line, first_value line))
    (members_in written (with_key is (first_key line) keys) rest))
    ∙ ap (λ words. with_members (members_in written keys words) page) (sym (words_of-word line word))

any_next : (is : Bool) (word : Word) (texts : List (List ℕ))
    → are_any (text_unless is word ++ texts) ≡ (not is || are_any texts)
any_next true word texts = refl
any_next false word texts = refl

pub step_any : (written : List (List ℕ)) (line : List ℕ) (keys keys' : List (List ℕ)) (others other : Bool)
    → has_word line ≡ true
    → keys' ≡ with_key (is_member written keys (first_key line)) (first_key line) keys
    → other ≡ not (is_member written keys (first_key line))
    → ((others || other) || are_any (others_in written keys' (words_of (drop (step_len line) line))))
    ≡ (others || are_any (others_in written keys (words_of line)))
step_any written line keys keys' others other word more is =
    let rest : List Word = words_of (drop (step_len line) line) in
    or_assoc others other (are_any (others_in written keys' rest))
    ∙ (λ k. others || (is k || are_any (others_in written (more k) rest)))
    ∙ ap (λ b. others || b) (sym (any_next (is_member written keys (first_key line))
    (first_key line, first_value line)
    (others_in written (with_key (is_member written keys (first_key line)) (first_key line) keys) rest)))
    ∙ ap (λ words. others || are_any (others_in written keys words)) (sym (words_of-word line word))

-- ** the others

items_next : (is : Bool) (word : Word) (texts : List (List ℕ)) (page page' : Draft) → (is ≡ true → page' ≡ page)
    → (is ≡ false → page' ≡ with_members (as_items ((word.0 ++ 61 ∷ word.1) ∷ [])) page)
    → with_members (as_items texts) page' ≡ with_members (as_items (text_unless is word ++ texts)) page
items_next true word texts page page' member other = ap (with_members (as_items texts)) (member refl)
items_next false word texts page page' member other = ap (with_members (as_items texts)) (other refl)

pub step_items : (written : List (List ℕ)) (line text : List ℕ) (keys keys' : List (List ℕ)) (page page' : Draft)
    → has_word line ≡ true → text ≡ first_key line ++ 61 ∷ first_value line
    → keys' ≡ with_key (is_member written keys (first_key line)) (first_key line) keys
    → (is_member written keys (first_key line) ≡ true → page' ≡ page)
    → (is_member written keys (first_key line) ≡ false → page' ≡ with_members (as_items (text ∷ [])) page)
    → with_members (as_items (others_in written keys' (words_of (drop (step_len line) line)))) page'
    ≡ with_members (as_items (others_in written keys (words_of line))) page
step_items written line text keys keys' page page' word stands more member other =
    let is : Bool = is_member written keys (first_key line) in
    let rest : List Word = words_of (drop (step_len line) line) in
    (λ k. with_members (as_items (others_in written (more k) rest)) page')
    ∙ items_next is (first_key line, first_value line) (others_in written (with_key is (first_key line) keys) rest)
    page page' member (λ no. other no ∙ ap (λ t. with_members (as_items (t ∷ [])) page) stands)
    ∙ ap (λ words. with_members (as_items (others_in written keys words)) page) (sym (words_of-word line word))

items_values : (texts : List (List ℕ)) → flat_map (λ m. m.1) (as_items texts) ≡ map (λ t. string (word_text t)) texts
items_values [] = refl
items_values (text ∷ texts) = ap (λ l. string (word_text text) ∷ l) (items_values texts)

listed : (texts : List (List ℕ)) → are_any texts ≡ true
    → list_shown texts ≡ (codes "words", list_of (map (λ t. string (word_text t)) texts)) ∷ []
listed [] any = absurd cc
listed (text ∷ texts) any = refl

pub others_ended : (texts : List (List ℕ)) (old last new : Draft) → are_any texts ≡ true
    → last ≡ with_members (as_items texts) (with_begun (codes "words") Items old) → Ends last new
    → new ≡ with_members (list_shown texts) old
others_ended texts old last new any is ends =
    list_ended (codes "words") (as_items texts) old last new is ends
    ∙ (λ k. with_value (codes "words") (list_of (items_values texts k)) old)
    ∙ ap (λ members. with_members members old) (sym (listed texts any))

none_listed : (texts : List (List ℕ)) → are_any texts ≡ false → list_shown texts ≡ []
none_listed [] none = refl
none_listed (text ∷ texts) none = absurd cc

-- ** all words

pub all_shown : (written : List (List ℕ)) (words : List Word) (page mid new : Draft)
    → mid ≡ with_members (members_in written [] words) page
    → new ≡ with_members (list_shown (others_in written [] words)) mid
    → new ≡ with_members (shown_words written words) page
all_shown written words page mid new members others =
    others ∙ ap (with_members (list_shown (others_in written [] words))) members
    ∙ sym (fold-append (λ (d : Draft) m. with_value m.0 m.1 d) page (members_in written [] words)
    (list_shown (others_in written [] words)))

pub members_shown : (written : List (List ℕ)) (words : List Word) (page new : Draft)
    → are_any (others_in written [] words) ≡ false → new ≡ with_members (members_in written [] words) page
    → new ≡ with_members (shown_words written words) page
members_shown written words page new none members =
    all_shown written words page new new members
    (ap (λ ms. with_members ms new) (sym (none_listed (others_in written [] words) none)))

pub no_words : (line : List ℕ) (page : Draft) → (length line == 0) ≡ true
    → page ≡ with_members (words_shown line) page
no_words line page none =
    let size : length line ≡ 0 = grind (arith, nat_tests) in
    ap (λ l. with_members (words_shown l) page) (sym (no_items line size))

split_next : (is : Bool) (word : Word) (words : List Word) (ms : Members) (texts : List (List ℕ))
    → IsSplit words ms texts → IsSplit (word ∷ words) (member_if is word ++ ms) (text_unless is word ++ texts)
split_next true word words ms texts split = inl (ms, refl, split)
split_next false word words ms texts split = inr (texts, refl, split)

each_split : (written keys : List (List ℕ)) (words : List Word)
    → IsSplit words (members_in written keys words) (others_in written keys words)
each_split written keys [] = (refl, refl)
each_split written keys (word ∷ words) =
    let is : Bool = is_member written keys word.0 in
    split_next is word words _ _ (each_split written (with_key is word.0 keys) words)

pub each_word : EachWordIsShown
each_word line = (_, _, each_split written_keys [] (words_of line), refl)

-- ** no key comes twice

not_true : (b : Bool) → not b ≡ true → b ≡ false
not_true true h = absurd cc
not_true false h = refl

free_key : (written keys : List (List ℕ)) (key : List ℕ) → is_member written keys key ≡ true
    → (is_among key written ≡ false) × (is_among key keys ≡ false)
free_key written keys key is =
    let few = and_parts _ _ is in
    let own = and_parts _ _ few.1 in
    let other = and_parts _ _ own.1 in (
      not_true _ own.0,
      not_true _ other.0,
    )

new_append : (before xs ys : List (List ℕ)) → AreNew before xs → AreNew (before ++ xs) ys → AreNew before (xs ++ ys)
new_append before [] ys one two = subst (λ (l : List (List ℕ)). AreNew l ys) (append-nil before) two
new_append before (x ∷ xs) ys one two = (
  one.0,
  new_append (before ++ x ∷ []) xs ys one.1
      (subst (λ (l : List (List ℕ)). AreNew l ys) (sym (append_assoc before (x ∷ []) xs)) two),
)

next_new : (written before keys : List (List ℕ)) (word : Word) (names : List (List ℕ))
    → ((key : List ℕ) → is_among key written ≡ false → is_among key before ≡ false)
    → (is : Bool) → is_member written keys word.0 ≡ is
    → AreNew (before ++ with_key is word.0 keys) names
    → AreNew (before ++ keys) (map (λ m. m.0) (member_if is word) ++ names)
next_new written before keys word names free true is rest =
    let own = free_key written keys word.0 is in (
      list_any-append (λ k. pointwise ◌==◌ k word.0) before keys ∙ or_from _ _ (free word.0 own.0) own.1,
      subst (λ (l : List (List ℕ)). AreNew l names) (sym (append_assoc before keys (word.0 ∷ []))) rest,
    )
next_new written before keys word names free false is rest = rest

names_next : (is : Bool) (word : Word) (ms : Members)
    → map (λ m. m.0) (member_if is word ++ ms) ≡ map (λ m. m.0) (member_if is word) ++ map (λ m. m.0) ms
names_next true word ms = refl
names_next false word ms = refl

members_new : (written before keys : List (List ℕ)) (words : List Word)
    → ((key : List ℕ) → is_among key written ≡ false → is_among key before ≡ false)
    → AreNew (before ++ keys) (map (λ m. m.0) (members_in written keys words))
members_new written before keys [] free = tt
members_new written before keys (word ∷ words) free =
    let is : Bool = is_member written keys word.0 in
    let rest : Members = members_in written (with_key is word.0 keys) words in
    subst (λ (l : List (List ℕ)). AreNew (before ++ keys) l) (sym (names_next is word rest))
    (next_new written before keys word (map (λ m. m.0) rest) free is refl
    (members_new written before (with_key is word.0 keys) words free))

none_next : (name : List ℕ) (written keys : List (List ℕ)) (word : Word) (ms : Members)
    → ((key : List ℕ) → is_among key written ≡ false → pointwise ◌==◌ key name ≡ false)
    → (is : Bool) → is_member written keys word.0 ≡ is → is_among name (map (λ m. m.0) ms) ≡ false
    → is_among name (map (λ m. m.0) (member_if is word ++ ms)) ≡ false
none_next name written keys word ms other true is rest =
    or_from _ _ (other word.0 (free_key written keys word.0 is).0) rest
none_next name written keys word ms other false is rest = rest

none_named : (name : List ℕ) (written keys : List (List ℕ)) (words : List Word)
    → ((key : List ℕ) → is_among key written ≡ false → pointwise ◌==◌ key name ≡ false)
    → is_among name (map (λ m. m.0) (members_in written keys words)) ≡ false
none_named name written keys [] other = refl
none_named name written keys (word ∷ words) other =
    let is : Bool = is_member written keys word.0 in
    none_next name written keys word (members_in written (with_key is word.0 keys) words) other is refl
    (none_named name written (with_key is word.0 keys) words other)

other_name : (key : List ℕ) → pointwise ◌==◌ (codes "words") key ≡ false → (same : Bool)
    → pointwise ◌==◌ key (codes "words") ≡ same → same ≡ false
other_name key none true is = absurd (true≢false
    (ap (λ k. pointwise ◌==◌ (codes "words") k) (sym (same_text key (codes "words") (sym is))) ∙ none))
other_name key none false is = refl

-- what a key is that is not written
parts_written : (key : List ℕ) → is_among key written_keys ≡ false
    → (pointwise ◌==◌ (codes "words") key ≡ false) × (is_among key answer_keys ≡ false)
unfolding written_keys
parts_written key none = or_parts (pointwise ◌==◌ (codes "words") key) (is_among key answer_keys) none

list_apart : is_among (codes "words") answer_keys ≡ false
unfolding answer_keys own_keys
list_apart = refl

list_new : (before texts : List (List ℕ)) → is_among (codes "words") before ≡ false
    → AreNew before (map (λ m. m.0) (list_shown texts))
list_new before [] none = tt
list_new before (text ∷ texts) none = (none, tt)

pub words_apart : WordsAreApart
words_apart line =
    let words : List Word = words_of line in
    let ms : Members = members_in written_keys [] words in
    let names : List (List ℕ) = map (λ m. m.0) ms in
    let texts : List (List ℕ) = others_in written_keys [] words in
    let one : AreNew answer_keys names =
    subst (λ (l : List (List ℕ)). AreNew l names) (append-nil answer_keys)
    (members_new written_keys answer_keys [] words (λ key none. (parts_written key none).1)) in
    let none : is_among (codes "words") (answer_keys ++ names) ≡ false =
    list_any-append (λ k. pointwise ◌==◌ k (codes "words")) answer_keys names
    ∙ or_from _ _ list_apart (none_named (codes "words") written_keys [] words
    (λ key free. other_name key (parts_written key free).0 _ refl)) in
    subst (λ (l : List (List ℕ)). AreNew answer_keys l) (sym (map-append (λ m. m.0) ms (list_shown texts)))
    (new_append answer_keys names (map (λ m. m.0) (list_shown texts)) one
    (list_new (answer_keys ++ names) texts none))
