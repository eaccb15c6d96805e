-- What reading the rest of a list gives.
use Rattle.std.proofs.Common.{◌≡◌, ℕ, ◌<◌, ◌≤◌, Bool, true, false, List, [], ◌∷◌, ◌++◌, refl, sym, ap, ◌∙◌, arith}
use Rattle.std.proofs.Common.{Ok, cond, subst, append-nil, append_assoc}
use Rattle.std.specs.Prelude.{Option, None, Some, ◌==◌, ◌&&◌, nat_le, nat_lt, option_map}
use Rattle.std.proofs.lemmas.Bool.{and_from, and_parts, cond-false, le-leb, lt-ltb, ltb-true}
use Rattle.std.proofs.lemmas.List.Elements.{All-head, All-tail}
use Rattle.nla_wire.specs.Frames.{Frame, number}
use Rattle.nla_wire.specs.Items.{Item}
use Rattle.link_info.specs.Tables.{frames_in}
use Rattle.link_vlans.specs.Reading.{AreSmall, add_behind, add_run, kept_of, read_next, read_vlan}
use Rattle.link_vlans.specs.Runs.{apart_ones, are_apart, ends_of, is_below, is_range, is_run, is_said, run_of}
use Rattle.link_vlans.specs.Runs.{runs_behind, said, vlan_by, vlans_with}
use Rattle.link_vlans.specs.declared.run.Reader.{Reader}
use Rattle.link_vlans.specs.declared.run.Run.{Run}
use Rattle.link_vlans.specs.declared.vlan.Vlan.{Vlan}

-- runs so far, and those behind
abbrev pub whole : List Run → Option Vlan → List (Option Vlan) → Option (List Run)
whole runs begun vs = apart_ones (option_map (λ rs. runs ++ rs) (runs_behind begun vs))

-- those so far are apart, and end here
abbrev pub EndAt : List Run → Option ℕ → Type 0
EndAt runs last = (rs : List Run) → are_apart None (runs ++ rs) ≡ are_apart last rs

-- a list that is read so far goes on so
abbrev pub Reads : Option (List Run) → List (Option Vlan) → Option Reader × List Run → Type 0
Reads all vs (None, runs) = all ≡ None
Reads all vs (Some next, runs) = AreSmall runs → EndAt runs next.last × (whole runs next.begun vs ≡ all)

last_small : (runs : List Run) (r : Run) → AreSmall (runs ++ r ∷ []) → r.last < 65536
last_small [] r small = All-head (λ (q : Run). q.last < 65536) r [] small
last_small (q ∷ runs) r small = last_small runs r (All-tail (λ (q : Run). q.last < 65536) q (runs ++ r ∷ []) small)

module _ (all : Option (List Run)) (vs : List (Option Vlan)) (runs : List Run) where
  -- a run comes next
  run_read : (last : Option ℕ) (begin end : Vlan) → EndAt runs last → begin.vid ≤ end.vid
      → apart_ones (option_map (λ rs. runs ++ rs)
      (option_map (λ rs. run_of begin end ∷ rs) (runs_behind None vs))) ≡ all
      → Reads all vs (kept_of runs (add_run last begin end))
  run_read last begin end ends up was = by (is_below last begin.vid) refl
    where
      joined : (found : Option (List Run))
          → apart_ones (option_map (λ rs. runs ++ rs) (option_map (λ rs. run_of begin end ∷ rs) found))
          ≡ apart_ones (option_map (λ rs. (runs ++ run_of begin end ∷ []) ++ rs) found)
      joined None = refl
      joined (Some rs) = ap (λ xs. apart_ones (Some xs)) (sym (append_assoc runs (run_of begin end ∷ []) rs))

      none : (found : Option (List Run)) → is_below last begin.vid ≡ false
          → apart_ones (option_map (λ rs. runs ++ rs) (option_map (λ rs. run_of begin end ∷ rs) found)) ≡ None
      none None below = refl
      none (Some rs) below =
          cond-false (are_apart None (runs ++ run_of begin end ∷ rs)) (Some (runs ++ run_of begin end ∷ rs)) None
          (ends (run_of begin end ∷ rs) ∙ (λ i. below i && (is_run (run_of begin end) && are_apart (Some end.vid) rs)))

      by : (below : Bool) → is_below last begin.vid ≡ below
          → Reads all vs (kept_of runs (cond below
          (Some ((record { begun = None; last = Some end.vid }), Some (run_of begin end))) None))
      by true below = λ small.
          let run : is_run (run_of begin end) ≡ true = and_from (nat_le begin.vid end.vid) (nat_lt end.vid 65536)
          (le-leb begin.vid end.vid up) (lt-ltb end.vid 65536 (last_small runs (run_of begin end) small)) in (
            λ rs. ap (are_apart None) (append_assoc runs (run_of begin end ∷ []) rs) ∙ ends (run_of begin end ∷ rs)
                ∙ (λ i. below i && (run i && are_apart (Some end.vid) rs)),
            sym (joined (runs_behind None vs)) ∙ was,
          )
      by false below = sym was ∙ none (runs_behind None vs) below

  behind_read : (begun : Option Vlan) (last : Option ℕ) (v : Vlan) → EndAt runs last
      → whole runs begun (Some v ∷ vs) ≡ all → Reads all vs (kept_of runs (add_behind begun last v))
  behind_read None last v ends was = by (ends_of v == 0) (ends_of v == 8) was
    where
      by : (alone begins : Bool) → apart_ones (option_map (λ rs. runs ++ rs)
          (cond alone (option_map (λ rs. run_of v v ∷ rs) (runs_behind None vs))
          (cond begins (runs_behind (Some v) vs) None))) ≡ all
          → Reads all vs (kept_of runs (cond alone (add_run last v v)
          (cond begins (Some ((record { begun = Some v; last = last }), None)) None)))
      by true begins was = run_read last v v ends (omega arith) was
      by false true was = λ small. (ends, was)
      by false false was = sym was
  behind_read (Some begin) last v ends was = by (is_range begin v) refl was
    where
      by : (range : Bool) → is_range begin v ≡ range → apart_ones (option_map (λ rs. runs ++ rs)
          (cond range (option_map (λ rs. run_of begin v ∷ rs) (runs_behind None vs)) None)) ≡ all
          → Reads all vs (kept_of runs (cond range (add_run last begin v) None))
      by true is was =
          let both = and_parts (ends_of v == 16) (nat_lt begin.vid v.vid && is_said (said begin) (said v)) is in
          let up = and_parts (nat_lt begin.vid v.vid) (is_said (said begin) (said v)) both.1 in
          let below = ltb-true begin.vid v.vid up.0 in
          run_read last begin v ends (omega arith) was
      by false is was = sym was

  vlan_read : (reader : Reader) (o : Option Vlan) → EndAt runs reader.last
      → whole runs reader.begun (o ∷ vs) ≡ all → Reads all vs (read_vlan runs reader o)
  vlan_read reader None ends was = by reader.begun was
    where
      by : (begun : Option Vlan) → whole runs begun (None ∷ vs) ≡ all → all ≡ None
      by None was = sym was
      by (Some begin) was = sym was
  vlan_read reader (Some v) ends was = behind_read reader.begun reader.last v ends was

pub next_read : (all : Option (List Run)) (n : ℕ) (f : Frame) (fs : List Frame) (runs : List Run) (reader : Reader)
    → EndAt runs reader.last → whole runs reader.begun (vlans_with n (f ∷ fs)) ≡ all
    → Reads all (vlans_with n fs) (read_next runs reader n f)
next_read all n f fs runs reader ends was = by (number f == n) was
  where
    by : (is : Bool) → whole runs reader.begun (cond is (vlan_by n f.payload ∷ []) [] ++ vlans_with n fs) ≡ all
        → Reads all (vlans_with n fs) (cond is (read_vlan runs reader (vlan_by n f.payload)) (Some reader, runs))
    by true was = vlan_read all (vlans_with n fs) runs reader (vlan_by n f.payload) ends was
    by false was = λ small. (ends, was)

-- ** of items

-- one is read, and reading goes on
pub read_on : (all : Option (List Run)) (n : ℕ) (f : Frame) (it more : List Item) (runs new : List Run)
    (reader next : Reader) → it ≡ Ok f ∷ more → (Some next, new) ≡ read_next runs reader n f
    → EndAt runs reader.last → whole runs reader.begun (vlans_with n (frames_in it)) ≡ all → AreSmall new
    → EndAt new next.last × (whole new next.begun (vlans_with n (frames_in more)) ≡ all)
read_on all n f it more runs new reader next here is ends was =
    subst (Reads all (vlans_with n (frames_in more))) (sym is)
    (next_read all n f (frames_in more) runs reader ends
    ((λ i. whole runs reader.begun (vlans_with n (frames_in (sym here i)))) ∙ was))

-- no kernel writes this
pub read_end : (all : Option (List Run)) (n : ℕ) (f : Frame) (it more : List Item) (runs new : List Run)
    (reader : Reader) → it ≡ Ok f ∷ more → (None, new) ≡ read_next runs reader n f
    → EndAt runs reader.last → whole runs reader.begun (vlans_with n (frames_in it)) ≡ all → all ≡ None
read_end all n f it more runs new reader here is ends was =
    subst (Reads all (vlans_with n (frames_in more))) (sym is)
    (next_read all n f (frames_in more) runs reader ends
    ((λ i. whole runs reader.begun (vlans_with n (frames_in (sym here i)))) ∙ was))

-- none is left
pub all_read : (runs : List Run) (last : Option ℕ) (all : Option (List Run)) → EndAt runs last
    → whole runs None [] ≡ all → Some runs ≡ all
all_read runs last all ends was =
    sym ((λ i. cond (ends [] i) (Some (runs ++ [])) None) ∙ ap Some (append-nil runs)) ∙ was
