-- What is told of two encodings is what differs between all their leaves, and which interface one is of is what its
-- message says.
use Rattle.std.specs.Prelude.{◌≡◌, ℕ, List, []}
use Rattle.std.specs.List.{flat_map}
use Rattle.link_msg.specs.Lenient.{MeansLeniently}
use Rattle.link_msg.specs.declared.message.LinkMessage.{LinkMessage}
use Rattle.frame_diff.specs.Differences.{changes}
use Rattle.frame_diff.specs.Forests.{leaves}
use Rattle.frame_diff.specs.Laws.{AreOnce}
use Rattle.frame_diff.specs.Ranges.{apart}
use Rattle.frame_diff.specs.Wholes.{opened, wholes}
use Rattle.message_diff.specs.declared.snapshot.Compared.{Compared}
use Rattle.message_diff.specs.Alone.{head_in}
use Rattle.message_diff.specs.Changed.{changes_between, forest_by, items_between, items_moved, ranges_between}
use Rattle.message_diff.specs.Named.{head_of}
use Rattle.message_diff.specs.Shots.{Shot}

-- a value with a label that stands alone is one leaf; leaf by leaf, what is told is what differs between all leaves. Of
-- an encoding beside itself, in one order, nothing is told; and each path is told once. VLAN by VLAN, what is written
-- is what is told. Nothing is written where nothing is told; and where neither that is written nor a list in another
-- order, nothing is told
pub record ChangesAreTold : Type 0 where
  pub all : (by : Compared) (old new : Shot) → changes_between by old new
      ≡ changes (leaves (wholes (forest_by by old) (forest_by by new)))
      (leaves (wholes (forest_by by new) (forest_by by old)))
  pub by_leaves : (by : Compared) (old new : Shot)
      → flat_map (opened (forest_by by old) (forest_by by new)) (changes_between by old new)
      ≡ changes (leaves (forest_by by old)) (leaves (forest_by by new))
  pub once : (by : Compared) (old new : Shot) → AreOnce (changes_between by old new)
  pub silent : (by : Compared) (shot : Shot) → changes_between by shot shot ≡ []
  pub written : (by : Compared) (old new : Shot)
      → flat_map apart (ranges_between by old new) ≡ changes_between by old new
  pub silent_written : (by : Compared) (old new : Shot)
      → changes_between by old new ≡ [] → items_between by old new ≡ []
  pub moved : (by : Compared) (old new : Shot)
      → items_between by old new ≡ [] → items_moved by old new ≡ [] → changes_between by old new ≡ []

-- of each message that an encoding means, read leniently or not
abbrev pub HeadsAreMeant : Type 0
HeadsAreMeant = (text : List ℕ) (m : LinkMessage) → MeansLeniently text m → head_of text ≡ head_in text m
