-- The links of a server: what comes in, what goes out and a clock, for one connection after another.
use Rattle.std.specs.Prelude.{◌≡◌, ◌≤◌, ℕ, List, [], ◌∷◌, Option, Some, None, ⊤}
use Rattle.request_lines.specs.Causes.{Rose}
use Rattle.tracker_server.specs.declared.links.NextLink.{NextLink}
use Rattle.tracker_server.specs.declared.links.NextLink.TheVariants as link

-- the next of the links that are told comes, none is left, or all stay where it failed
abbrev pub TakesLink : {S T C : Type 0} → Option (List (S × T × C)) → Option (List (S × T × C))
    → NextLink S T C → Type 0
TakesLink None later next = ⊤
TakesLink (Some ahead) None next = ⊥
TakesLink (Some ahead) (Some later) (link.Link source sink clock) =
    ahead ≡ (source, sink, clock) ∷ later
TakesLink (Some ahead) (Some later) link.End = (ahead ≡ []) × (later ≡ [])
TakesLink (Some ahead) (Some later) link.Failed = later ≡ ahead

-- the links failed
abbrev pub HasFailed : {S T C : Type 0} → NextLink S T C → Type 0
HasFailed link.Failed = ⊤
HasFailed next = ⊥

-- the count of faults never falls, and a fault is told only where it rose
pub record HasLinkCause {S T C : Type 0} (before now : ℕ) (next : NextLink S T C) : Type 0 where
  pub later : before ≤ now
  pub failed : HasFailed next → Rose before now
