-- The first fault of bytes that are no message, and where it is.
use Rattle.std.specs.Prelude.{◌≡◌, ℕ, List, Option, None, Some, Result, Ok, Err, MatchOption, IfSome}
use Rattle.std.proofs.Common.{sym, subst}
use Rattle.nla_wire.specs.declared.error.Cause.{Cause}
use Rattle.link_msg.specs.Messages.{Means, FirstFault, MeansNothing}
use Rattle.link_msg.specs.FaultAt.{FaultsAt, FaultsAlong}
use Rattle.link_msg.specs.declared.message.LinkMessage.{LinkMessage}
use Rattle.link_msg.specs.FaultPath.{numbers_to, IsPathOf}
use Rattle.link_msg.specs.declared.fault_path.FaultPath.{FaultPath}
use Rattle.link_msg.proofs.OneAnswer.{fault_once}
use Rattle.link_c.specs.Paths.{Tells, IsLookAlong}
use Rattle.link_c.specs.declared.path.Path.{Path}
use Rattle.link_c.specs.Messages.{MeansOrFaults, IsLookAt}
use Rattle.link_c.specs.declared.refusal.Refusal.{Refusal}
use Rattle.link_c.specs.declared.refusal.Refusal.TheVariants as Refusals

-- a place that was found, or none, beside what was found
pub look_at : (b : List ℕ) (old new : ℕ) (place : Option ℕ) (r : Result (Unit {0}) Refusal)
    → MatchOption place ((m : LinkMessage) × Means b m) (λ at. (c : Cause) × FirstFault b c × FaultsAt b c at)
    → IfSome place (λ at. MeansNothing b)
    → MatchOption place (new ≡ old) (λ at. new ≡ at)
    → MeansOrFaults b r → IsLookAt b old new r
look_at b old new None (Ok fine) found refused moved h = (h, moved)
look_at b old new None (Err (Refusals.Fault c)) found refused moved h = absurd (h.refused found.0 found.1)
look_at b old new (Some at) (Ok fine) found refused moved h = absurd (refused h.0 h.1)
look_at b old new (Some at) (Err (Refusals.Fault c)) found refused moved h =
    let there = subst (λ d. FaultsAt b d at) (fault_once b found.0 c found.1 h.first) found.2 in
    (h, subst (λ n. FaultsAt b c n) (sym moved) there)
look_at b old new place (Err e) found refused moved h = absurd h

-- the same of a path
pub look_along : (b : List ℕ) (old new : Path) (place : Option FaultPath) (r : Result (Unit {0}) Refusal)
    → IsPathOf b place → IfSome place (λ found. MeansNothing b)
    → MatchOption place (new ≡ old) (λ found. Tells new found)
    → MeansOrFaults b r → IsLookAlong b old new r
look_along b old new None (Ok fine) found refused moved h = (h, moved)
look_along b old new None (Err (Refusals.Fault c)) found refused moved h = absurd (h.refused found.0 found.1)
look_along b old new (Some path) (Ok fine) found refused moved h = absurd (refused h.0 h.1)
look_along b old new (Some path) (Err (Refusals.Fault c)) found refused moved h =
    let there = subst (λ d. FaultsAlong b d path.offset (numbers_to path)) (fault_once b found.0 c found.1 h.first)
    found.2 in
    (h, (numbers_to path, moved.1, subst (λ n. FaultsAlong b c n (numbers_to path)) (sym moved.0) there))
look_along b old new place (Err e) found refused moved h = absurd h
