-- Lists of attributes that are read by a table, and written.
use Rattle.std.proofs.Common.{◌≡◌, ℕ, List, [], ◌∷◌, ◌++◌, map, None, Ok, refl, ap, ◌∙◌}
use Rattle.std.specs.List.{AllByRecursion}
use Rattle.std.proofs.lemmas.List.{map-id}
use Rattle.nla_wire.specs.Frames.{Frame, Frames, IsBytes, number}
use Rattle.nla_wire.specs.Items.{Item, items, items_of}
use Rattle.nla_wire.specs.Canon.{canon, canons}
use Rattle.nla_wire.proofs.Cuts.{cut_frames}
use Rattle.nla_wire.proofs.Back.{canons_frames}
use Rattle.link_info.specs.declared.style.Row.{Row}
use Rattle.link_info.specs.Tables.{FieldItem, row_at, style_of, field_of, fields_of, read_field, frames_in}
use Rattle.link_info.specs.Tables.{rewritten}
use Rattle.link_info.specs.Laws.{IsCanonicalFrame, OneFieldEach, ListAsItWas, ListReadAgain, RewrittenAsItWas}
use Rattle.link_info.proofs.Styles.{written_as_it_was, read_again}

items_frames : (b : List ℕ) (fs : List Frame) → Frames b fs → items b ≡ items_of fs None
unfolding items
items_frames b fs h = ap (λ c. items_of c.frames c.stop) (cut_frames b fs h)

fields_frames : (rows : List Row) (fs : List Frame)
    → fields_of rows (items_of fs None) ≡ map (read_field rows) fs
fields_frames rows [] = refl
fields_frames rows (f ∷ fs) = ap (λ (ks : List FieldItem). Ok (field_of rows f) ∷ ks) (fields_frames rows fs)

pub one_field_each : OneFieldEach
one_field_each rows b fs h = ap (fields_of rows) (items_frames b fs h) ∙ fields_frames rows fs

frame_as_it_was : (rows : List Row) (f : Frame) → IsCanonicalFrame rows f → rewritten rows f ≡ f
frame_as_it_was rows f h =
    ap (λ (p : List ℕ). record { kind = f.kind; payload = p })
    (written_as_it_was (style_of (row_at rows (number f))) f.payload h.0 h.1)

pub list_as_it_was : ListAsItWas
list_as_it_was rows [] h = refl
list_as_it_was rows (f ∷ fs) h =
    let here = frame_as_it_was rows f h.0 in
    let after = list_as_it_was rows fs h.1 in
    λ i. canon (here i) ++ after i

field_again : (rows : List Row) (f : Frame) → IsBytes f.payload → field_of rows (rewritten rows f) ≡ field_of rows f
field_again rows f b =
    let row = row_at rows (number f) in
    let again = read_again (style_of row) f.payload b in
    λ i. record { row = row; kind = f.kind; value = again i }

fields_again : (rows : List Row) (fs : List Frame) → AllByRecursion (λ f. IsBytes f.payload) fs
    → map (read_field rows) (map (rewritten rows) fs) ≡ map (read_field rows) fs
fields_again rows [] h = refl
fields_again rows (f ∷ fs) h =
    let here = field_again rows f h.0 in
    let after = fields_again rows fs h.1 in
    λ i. Ok (here i) ∷ after i

pub list_read_again : ListReadAgain
list_read_again rows fs small fit =
    one_field_each rows (canons (rewritten rows) fs) (map (rewritten rows) fs) (canons_frames (rewritten rows) fs fit)
    ∙ fields_again rows fs small

frames_again : (fs : List Frame) → frames_in (items_of fs None) ≡ fs
frames_again [] = refl
frames_again (f ∷ fs) = ap (λ (gs : List Frame). f ∷ gs) (frames_again fs)

pub rewritten_as_it_was : RewrittenAsItWas
rewritten_as_it_was rows fs fit canonical =
    let read = items_frames (canons (λ f. f) fs) (map (λ f. f) fs) (canons_frames (λ f. f) fs fit) in
    ap (λ (xs : List Item). canons (rewritten rows) (frames_in xs)) read
    ∙ ap (λ (gs : List Frame). canons (rewritten rows) (frames_in (items_of gs None))) (map-id fs)
    ∙ ap (canons (rewritten rows)) (frames_again fs) ∙ list_as_it_was rows fs canonical
