-- The kind of a link, and what announcements have and dumps have not.
use Rattle.std.specs.Prelude.{ℕ, ◌==◌, ◌&&◌, not, nat_le, Bool, false, List, [], ◌∷◌, ◌++◌, length, take, cond}
use Rattle.std.specs.Prelude.{Option, None, Some, option_and_then, slice_range}
use Rattle.std.specs.Int.{w16}
use Rattle.std.specs.List.{concat, filter, fold, list_any, take_while}
use lib.Pointwise.{pointwise}
use Rattle.nla_wire.specs.Fields.{number_at}
use Rattle.link_msg.specs.declared.numbers.TheConstants.{IFLA_EVENT, IFLA_IFNAME, IFLA_LINKINFO, IFLA_WIRELESS}
use Rattle.message_diff.specs.Frames.{frame_number, frames_in, frames_of}

-- whether a frame has a header, and this number
abbrev pub is_of : ℕ → List ℕ → Bool
is_of number frame = nat_le 4 (length frame) && frame_number frame == number

-- ** the kind of a link

-- the payload of a frame: as many bytes as its header says, if they are there
abbrev pub payload_in : List ℕ → Option (List ℕ)
payload_in frame =
    cond (nat_le 4 (number_at w16 frame 0) && nat_le (number_at w16 frame 0) (length frame))
    (Some (slice_range frame 4 (number_at w16 frame 0))) None

-- that of the last frame with this number, which counts for the kernel too
abbrev pub payload_or : ℕ → Option (List ℕ) → List ℕ → Option (List ℕ)
payload_or number last frame = cond (is_of number frame) (payload_in frame) last

abbrev pub payload_of : ℕ → List (List ℕ) → Option (List ℕ)
payload_of number frames = fold (payload_or number) None frames

-- the name that a payload has, up to a NUL: none where that is its first byte
abbrev pub name_in : List ℕ → Option (List ℕ)
name_in [] = Some []
name_in (x ∷ payload) = cond (x == 0) None (Some (take_while (λ byte. not (byte == 0)) (x ∷ payload)))

-- the kind that a message names: in its last IFLA_LINKINFO the last IFLA_INFO_KIND, whose number is 1
unfoldable pub kind_in : List ℕ → Option (List ℕ)
kind_in message =
    option_and_then name_in
    (option_and_then (λ info. payload_of 1 (frames_in info)) (payload_of IFLA_LINKINFO (frames_of message)))

abbrev pub are_two : Option (List ℕ) → Option (List ℕ) → Bool
are_two None is = false
are_two (Some was) None = false
are_two (Some was) (Some is) = not (pointwise ◌==◌ was is)

-- a kind, or else the one that was known before
abbrev pub kind_or : Option (List ℕ) → Option (List ℕ) → Option (List ℕ)
kind_or None known = known
kind_or (Some kind) known = Some kind

-- whether a message with this encoding names another kind than the one that is known of its interface: then it is of
-- another link
abbrev pub is_another : Option (List ℕ) → List ℕ → Bool
is_another known text = are_two known (kind_in text)

-- ** what announcements have

-- whether a frame is an attribute IFLA_EVENT of the length that the kernel's have
abbrev pub is_event : List ℕ → Bool
is_event frame = length frame == 8 && (number_at w16 frame 0 == 8 && frame_number frame == IFLA_EVENT)

-- a message without these: its header and the other frames, in order
unfoldable pub without_event : List ℕ → List ℕ
without_event message = take 16 message ++ concat (filter (λ frame. not (is_event frame)) (frames_of message))

-- the shorter message, or the whole one where none was made
abbrev pub shorter_or : Option (List ℕ) → List ℕ → List ℕ
shorter_or None message = message
shorter_or (Some shorter) message = shorter

-- whether a frame with a header is neither what a wireless driver announces nor a name
abbrev pub is_more : List ℕ → Bool
is_more frame =
    nat_le 4 (length frame)
    && not (frame_number frame == IFLA_WIRELESS) && not (frame_number frame == IFLA_IFNAME)

-- whether a message has what a wireless driver announces, and nothing else but a name
unfoldable pub is_wireless_alone : List ℕ → Bool
is_wireless_alone message =
    list_any (is_of IFLA_WIRELESS) (frames_of message) && not (list_any is_more (frames_of message))
