-- Where only changes are told, a line adds the same, or all but its line `new`.
use Rattle.std.proofs.Common.{◌≡◌, ◌++◌, ℕ, suc, Bool, true, false, List, [], ◌∷◌, refl, sym, ap, ◌∙◌, subst, inl, inr}
use Rattle.std.specs.Prelude.{◌⊎◌, Option, None, Some, codes, ◌||◌}
use Rattle.std.proofs.lemmas.List.{append-nil, append_assoc}
use Rattle.line_filter.specs.Words.{front_of}
use Rattle.message_diff.specs.declared.key.Key.{Key}
use Rattle.message_diff.specs.declared.reading.Said.{Said}
use Rattle.message_diff.specs.declared.reading.Said.TheVariants as Saids
use Rattle.message_diff.specs.declared.snapshot.Compared.{Compared}
use Rattle.message_diff.specs.Alone.{IsAlone}
use Rattle.message_diff.specs.Announced.{is_another}
use Rattle.message_diff.specs.Held.{item_of}
use Rattle.message_diff.specs.Known.{Item, Picture, after, kind_of, nothing_known, shot_of}
use Rattle.message_diff.specs.Shots.{Shot}
use Rattle.message_diff.specs.Told.{IsNew, IsNews, Tells, kept_of}
use Rattle.told_laws.specs.Fewer.{AreLess, FewerLines, IsLess, LeavesOut, changes_by}
use Rattle.told_laws.specs.Hosts.{HostTells, IsPiece, Piece, TellsSaid}
use Rattle.told_laws.specs.Turns.{all_by}

-- ** what came or changed

-- the line stays, or is a line `new`, and nothing stays of it
abbrev pub NewLess : Compared → List ℕ → Bool → Option Shot → Shot → List ℕ → Type 0
NewLess by front is_told last shot line =
    (less : List ℕ) × IsNew by front is_told last shot less
    × ((less ≡ line) ⊎ ((is_told ≡ false) × IsAlone front (codes "new") shot.text line × (less ≡ [])))

new_less : (by : Compared) (front : List ℕ) (is_told : Bool) (last : Option Shot) (shot : Shot) (line : List ℕ)
    → IsNew by front true last shot line → NewLess by front is_told last shot line
new_less by front true None shot line h = (line, h, inl refl)
new_less by front false None shot line h = ([], refl, inr (refl, h, refl))
new_less by front is_told (Some last) shot line h = (line, h, inl refl)

none_of : (a b : Bool) → (a || b) ≡ false → (a ≡ false) × (b ≡ false)
none_of false b h = (refl, h)
none_of true b h = absurd cc

-- what a line tells where only changes are told
pub record TellsLess (by : Compared) (front : List ℕ) (p : Picture) (x : Item) (added : List ℕ) : Type 0 where
  pub less : List ℕ
  pub tells : Tells front (changes_by by) p x less
  pub is : (less ≡ added) ⊎ LeavesOut p front x added less

-- the line of news is this one
news_with : (by : Compared) (front : List ℕ) (p : Picture) (x : Item) (added : List ℕ)
    (h : Tells front (all_by by) p x added) (news : List ℕ) → IsNews front (changes_by by) p x news
    → Tells front (changes_by by) p x (h.gone ++ news)
news_with by front p x added h news new = record {
  keys = h.keys;
  gone = h.gone;
  news = news;
  ended = h.ended;
  lines = h.lines;
  new = new;
  all = refl;
}

news_same : (by : Compared) (front : List ℕ) (p : Picture) (x : Item) (added : List ℕ)
    (h : Tells front (all_by by) p x added) → IsNews front (changes_by by) p x h.news
    → TellsLess by front p x added
news_same by front p x added h new = record {
  less = h.gone ++ h.news;
  tells = news_with by front p x added h h.news new;
  is = inl (sym h.all);
}

module _ (by : Compared) (front : List ℕ) (p : Picture) (key : Key) (shot : Shot) (words : Option (List ℕ))
    (added : List ℕ) (h : Tells front (all_by by) p (Item.is key shot words) added) where
  abbrev another : Bool
  another = is_another (kind_of (p.of key)) shot.text

  new_is : (less : List ℕ)
      → IsNew by front (another || p.whole key.family) (kept_of another (shot_of (p.of key))) shot less
      → (less ≡ h.news) ⊎ (((another || p.whole key.family) ≡ false) × IsAlone front (codes "new") shot.text h.news
      × (less ≡ []))
      → TellsLess by front p (Item.is key shot words) added
  new_is less new (inl same) = record {
    less = h.gone ++ less;
    tells = news_with by front p (Item.is key shot words) added h less new;
    is = inl (ap (λ l. h.gone ++ l) same ∙ sym h.all);
  }
  new_is less new (inr (left)) =
      let none = none_of another (p.whole key.family) left.0 in
      record {
        less = h.gone ++ less;
        tells = news_with by front p (Item.is key shot words) added h less new;
        is =
            inr
            (record {
              key = key;
              shot = shot;
              words = words;
              says = refl;
              before = none.1;
              same_kind = none.0;
              line = h.news;
              new = left.1;
              left_out =
                  h.all
                  ∙ ap (λ l. l ++ h.news) (sym (append-nil h.gone) ∙ ap (λ l. h.gone ++ l) (sym left.2));
            });
      }

  is_less : TellsLess by front p (Item.is key shot words) added
  is_less =
      let n = new_less by front (another || p.whole key.family) (kept_of another (shot_of (p.of key))) shot h.news h.new
      in
      new_is n.0 n.1 n.2

tells_less : (by : Compared) (front : List ℕ) (p : Picture) (x : Item) (added : List ℕ)
    → Tells front (all_by by) p x added → TellsLess by front p x added
tells_less by front p (Item.is key shot words) added h = is_less by front p key shot words added h
tells_less by front p (Item.refused key) added h = news_same by front p (Item.refused key) added h h.new
tells_less by front p (Item.went key shot) added h = news_same by front p (Item.went key shot) added h h.new
tells_less by front p (Item.started dump) added h = news_same by front p (Item.started dump) added h h.new
tells_less by front p (Item.finished dump f) added h = news_same by front p (Item.finished dump f) added h h.new
tells_less by front p Item.blind added h = news_same by front p Item.blind added h h.new
tells_less by front p Item.nothing added h = news_same by front p Item.nothing added h h.new

-- ** a line

abbrev pub OneLess : Compared → Picture → Said → Piece → Type 0
OneLess by p said piece = (less : Piece) × IsLess by p said piece less

behind_fault : (p : Picture) (front : List ℕ) (x : Item) (fault more less all : List ℕ) → all ≡ fault ++ more
    → (less ≡ more) ⊎ LeavesOut p front x more less
    → (fault ++ less ≡ all) ⊎ LeavesOut p front x all (fault ++ less)
behind_fault p front x fault more less all is (inl same) = inl (ap (λ l. fault ++ l) same ∙ sym is)
behind_fault p front x fault more less all is (inr left) =
    inr
    (record {
      key = left.key;
      shot = left.shot;
      words = left.words;
      says = left.says;
      before = left.before;
      same_kind = left.same_kind;
      line = left.line;
      new = left.new;
      left_out = is ∙ ap (λ l. fault ++ l) left.left_out ∙ sym (append_assoc fault less left.line);
    })

one_less : (by : Compared) (p : Picture) (said : Said) (piece : Piece) (is : IsPiece (all_by by) p piece said)
    (less : List ℕ) → TellsSaid (front_of piece.0) (changes_by by) p said less
    → (less ≡ is.more) ⊎ LeavesOut p (front_of piece.0) (item_of (front_of piece.0) (all_by by) said) is.more less
    → OneLess by p said piece
one_less by p said piece is less tells left = (
  (piece.0, is.fault ++ less),
  record {
    line = refl;
    all = is;
    changes = record { fault = is.fault; more = less; says = is.says; tells = tells; all = refl };
    adds =
        behind_fault p (front_of piece.0) (item_of (front_of piece.0) (all_by by) said) is.fault is.more less piece.1
        is.all left;
  },
)

less_told : (by : Compared) (p : Picture) (said : Said) (piece : Piece) (is : IsPiece (all_by by) p piece said)
    → TellsLess by (front_of piece.0) p (item_of (front_of piece.0) (all_by by) said) is.more
    → ((less : List ℕ) → Tells (front_of piece.0) (changes_by by) p (item_of (front_of piece.0) (all_by by) said) less
    → TellsSaid (front_of piece.0) (changes_by by) p said less)
    → OneLess by p said piece
less_told by p said piece is h given = one_less by p said piece is h.less (given h.less h.tells) h.is

piece_less : (by : Compared) (p : Picture) (said : Said) (piece : Piece) → IsPiece (all_by by) p piece said
    → OneLess by p said piece
piece_less by p (Saids.Is key shot) piece is =
    less_told by p (Saids.Is key shot) piece is (tells_less by (front_of piece.0) p _ is.more is.tells) (λ l h. h)
piece_less by p (Saids.Refused key) piece is =
    less_told by p (Saids.Refused key) piece is (tells_less by (front_of piece.0) p _ is.more is.tells) (λ l h. h)
piece_less by p (Saids.Went key shot) piece is =
    less_told by p (Saids.Went key shot) piece is (tells_less by (front_of piece.0) p _ is.more is.tells) (λ l h. h)
piece_less by p (Saids.Begin dump) piece is =
    less_told by p (Saids.Begin dump) piece is (tells_less by (front_of piece.0) p _ is.more is.tells) (λ l h. h)
piece_less by p (Saids.Done dump f) piece is =
    less_told by p (Saids.Done dump f) piece is (tells_less by (front_of piece.0) p _ is.more is.tells) (λ l h. h)
piece_less by p Saids.Lost piece is = one_less by p Saids.Lost piece is is.more is.tells (inl refl)
piece_less by p Saids.Blind piece is =
    less_told by p Saids.Blind piece is (tells_less by (front_of piece.0) p _ is.more is.tells) (λ l h. h)
piece_less by p Saids.Nothing piece is = one_less by p Saids.Nothing piece is is.more is.tells (inl refl)

-- ** a run

fewer_from : (by : Compared) (at : ℕ) (p : Picture) (pieces : List Piece) → HostTells (all_by by) at p pieces
    → (fewer : List Piece) × HostTells (changes_by by) at p fewer × AreLess by at p pieces fewer
fewer_from by at p [] h = ([], tt, refl)
fewer_from by at p (piece ∷ pieces) h =
    let one = piece_less by p h.0 piece h.1 in
    let rest = fewer_from by (suc at) (after p (suc at, item_of (front_of piece.0) (all_by by) h.0)) pieces h.2 in (
      one.0 ∷ rest.0,
      (
        h.0,
        one.1.changes,
        subst (λ line. HostTells (changes_by by) (suc at)
            (after p (suc at, item_of (front_of line) (all_by by) h.0)) rest.0) (sym one.1.line) rest.1,
      ),
      (h.0, one.1, rest.2),
    )

pub fewer_lines : FewerLines
fewer_lines by pieces h = fewer_from by 0 nothing_known pieces h
