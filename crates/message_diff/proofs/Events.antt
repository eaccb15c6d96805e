-- Messages without the attributes that say why they were announced.
use Rattle.std.proofs.Common.{◌≡◌, ◌<◌, ◌≤◌, ◌+◌, ◌*◌, ◌%◌, ◌^◌, ℕ, zero, suc, Bool, true, false, List, [], ◌∷◌, ◌++◌}
use Rattle.std.proofs.Common.{length, take, drop, refl, sym, ap, ◌∙◌, arith, get_or, Bor, inl, inr}
use Rattle.std.proofs.lemmas.List.{length-drop, take-append-drop}
use Rattle.std.proofs.lemmas.Bool.{eq-eqb, eqb-true}
use Rattle.std.specs.Option.{is_some, unwrap_or}
use Rattle.std.specs.Slice.{IsGetRangeResult}
use Rattle.std.specs.Prelude.{Option, None, Some, ◌==◌, ◌&&◌, ◌||◌, cond, not}
use Rattle.std.specs.Int.{w16}
use Rattle.std.specs.List.{All, concat, filter, list_any}
use Rattle.std.proofs.lemmas.List.Elements.{All-take, All-drop, All-get_or, All-from_get_or}
use Rattle.memchr.specs.Find.{IsFirstByte, is_byte}
use Rattle.nla_wire.specs.Fields.{number_at}
use Rattle.link_msg.specs.declared.numbers.TheConstants.{IFLA_EVENT}
use Rattle.message_diff.specs.Announced.{is_event, without_event}
use Rattle.message_diff.specs.Frames.{frame_len, frame_number, frames_in, frames_of, frames_within}
use Rattle.message_diff.proofs.Cuts.{frames_joined, frames_none}

-- a byte, and not that of the number of IFLA_EVENT
pub record IsOther (x : ℕ) : Type 0 where
  pub byte : x < 256
  pub other : (x == 44) ≡ false

-- ** the number of IFLA_EVENT has its byte
low_byte : (a b : ℕ) → a < 256 → (a + b * 256 ^ 1) % 2 ^ 14 ≡ 44 → a ≡ 44
low_byte a b h is = omega arith

number_is : (frame : List ℕ) → number_at w16 frame 2 ≡ get_or frame 2 0 + get_or frame 3 0 * 256 ^ 1
unfolding number_at
number_is frame = refl

both_of : (a b : Bool) → (a && b) ≡ true → (a ≡ true) × (b ≡ true)
both_of true b h = (refl, h)
both_of false b h = absurd cc

event_parts : (frame : List ℕ) → is_event frame ≡ true → (length frame ≡ 8) × (frame_number frame ≡ 44)
event_parts frame h =
    let outer = both_of (length frame == 8) (number_at w16 frame 0 == 8 && frame_number frame == IFLA_EVENT) h in
    let inner = both_of (number_at w16 frame 0 == 8) (frame_number frame == IFLA_EVENT) outer.1 in
    (eqb-true (length frame) 8 outer.0, eqb-true (frame_number frame) IFLA_EVENT inner.1)

no_event : (b : Bool) → (b ≡ true → ⊥) → b ≡ false
no_event true h = absurd (h refl)
no_event false h = refl

frame_other : (frame : List ℕ) → All IsOther frame → is_event frame ≡ false
frame_other frame all = no_event (is_event frame) (λ is.
    let parts = event_parts frame is in
    let one = All-get_or IsOther frame 2 0 (omega (arith, parts.0)) all in
    let low : get_or frame 2 0 ≡ 44 =
    low_byte (get_or frame 2 0) (get_or frame 3 0) one.byte (ap (λ n. n % 2 ^ 14) (sym (number_is frame)) ∙ parts.1) in
    let clash : true ≡ false = sym (eq-eqb (get_or frame 2 0) 44 low) ∙ one.other in
    cc)

frames_other : (n : ℕ) (list : List ℕ) → All IsOther list → list_any is_event (frames_within n list) ≡ false
frames_other zero list all = refl
frames_other (suc n) [] all = refl
frames_other (suc n) (x ∷ list) all =
    let len : ℕ = frame_len (x ∷ list) in
    ap (λ b. b || list_any is_event (frames_within n (drop len (x ∷ list))))
    (frame_other (take len (x ∷ list)) (All-take IsOther len (x ∷ list) all))
    ∙ frames_other n (drop len (x ∷ list)) (All-drop IsOther len (x ∷ list) all)

-- a message without the byte has no IFLA_EVENT
pub none_found : (message : List ℕ) → ((i : ℕ) → i < length message → get_or message i 0 < 256)
    → IsFirstByte (is_byte 44) message None → list_any is_event (frames_of message) ≡ false
unfolding frames_in
none_found message bytes h =
    frames_other (length (drop 16 message)) (drop 16 message) (All-drop IsOther 16 message
    (All-from_get_or IsOther message 0 (λ i lt. record {
      byte = bytes i lt;
      other = no_event (get_or message i 0 == 44) (h i (omega arith) lt);
    })))

-- ** what is left
-- one of two tests, of which neither passes
neither : (a b : Bool) → (a || b) ≡ false → (a ≡ false) × (b ≡ false)
neither true b h = absurd cc
neither false b h = (refl, h)

kept_all : (frames : List (List ℕ)) → list_any is_event frames ≡ false
    → filter (λ frame. not (is_event frame)) frames ≡ frames
kept_all [] h = refl
kept_all (frame ∷ frames) h =
    let parts = neither (is_event frame) (list_any is_event frames) h in
    let test : List ℕ → Bool = λ f. not (is_event f) in
    ap (λ b. cond (not b) (frame ∷ filter test frames) (filter test frames)) parts.0
    ∙ ap (λ (fs : List (List ℕ)). frame ∷ fs) (kept_all frames parts.1)

pub without_none : (message : List ℕ) → list_any is_event (frames_of message) ≡ false → without_event message ≡ message
unfolding without_event
without_none message h =
    ap (λ (frames : List (List ℕ)). take 16 message ++ concat frames) (kept_all (frames_of message) h)
    ∙ ap (λ (t : List ℕ). take 16 message ++ t) (frames_joined (drop 16 message)) ∙ take-append-drop 16 message

-- a message with one has a header
no_frames : (list : List ℕ) → length list ≡ 0 → list_any is_event (frames_in list) ≡ false
no_frames list h = ap (list_any is_event) (frames_none list h)

pub has_header : (message : List ℕ) → list_any is_event (frames_of message) ≡ true → 16 ≤ length message
has_header message h =
    let some : length (drop 16 message) ≡ 0 → ⊥ =
    λ none. let e : true ≡ false = sym h ∙ no_frames (drop 16 message) none in absurd cc in
    omega (arith, length-drop 16 message)

-- where the byte is not found
pub none_there : (message : List ℕ) (r : Option ℕ) → ((i : ℕ) → get_or message i 0 < 256)
    → IsFirstByte (is_byte 44) message r → is_some r ≡ false → false ≡ list_any is_event (frames_of message)
none_there message None bytes h none = sym (none_found message (λ i lt. bytes i) h)
none_there message (Some i) bytes h none = absurd cc

-- the header is there
pub header_of : (message : List ℕ) (r : Option (Bor (List ℕ))) (other : Bor (List ℕ)) → 16 ≤ length message
    → IsGetRangeResult message 0 16 r → (unwrap_or r other).now ≡ take 16 message
header_of message None other long (inl low, some) = absurd (omega (arith, low))
header_of message None other long (inr short, some) = absurd (omega (arith, short))
header_of message (Some x) other long ((low, high, is, len), some) = is
