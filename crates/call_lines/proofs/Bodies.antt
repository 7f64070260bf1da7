-- What a body asks for, by what a line of the same members asks for.
use Rattle.std.proofs.Common.{◌≡◌, ℕ, List, [], ◌∷◌, codes, Option, Some, None, Ok, Err, Bool, true, false, cond, refl, subst, ap, ◌∙◌}
use Rattle.std.specs.Prelude.{Result, ⊤, not}
use Rattle.serde_json.specs.Data.{object, Members}
use Rattle.call_lines.specs.declared.kind.CallKind.{CallKind}
use Rattle.call_lines.specs.declared.kind.CallKind.TheVariants as kind
use Rattle.tracker_calls.specs.declared.cause.Cause.{Cause}
use Rattle.tracker_calls.specs.declared.reply.Refusal.{Refusal}
use Rattle.tracker_calls.specs.declared.reply.Refusal.TheVariants as refusal
use Rattle.call_lines.specs.Asked.{Asked, asked_by, need, no_other, names_of, is_member, first_other, UnlessMemory, ErrUnlessMemory, number_at, moment_at, other_than}
use Rattle.json_texts.specs.JsonMembers.{text_at, title_at}
use Rattle.tracker_calls.specs.declared.call.Call.{Call}
use Rattle.call_lines.specs.Given.{set_at, set_if_there}
use Rattle.call_lines.specs.Named.{external_if_there, names_at, fields_if_there}
use Rattle.call_lines.specs.Part.{from_if_there, count_if_there, count_at}
use Rattle.call_lines.specs.Body.{is_body_member, first_unknown, asked_alone, asked_beside, misses_other, fault_beside, of_line}

-- ---- a line looks at the call's members first, and then at the names

abbrev NamesMember : CallKind → Cause → Type 0
NamesMember kind c = misses_other kind c ≡ false

-- a fault of the members names one of them
abbrev FaultNamesMember : CallKind → Asked → Type 0
FaultNamesMember kind (Ok asked) = ⊤
FaultNamesMember kind (Err r) = NamesMember kind r

-- what a line is answered, by what its members alone are
record IsLooked (kind : CallKind) (other : Option (List ℕ)) (user : List ℕ) (line alone : Asked) : Type 0 where
  same : line ≡ asked_beside other user alone
  names : FaultNamesMember kind alone

told : (kind : CallKind) (other : Option (List ℕ)) (user : List ℕ) (call : Call) → IsLooked kind other user (no_other other (Ok (user, call))) (Ok ([], call))
told kind other user call = record { same = refl; names = tt }

module _ {A : Type 0} {kind : CallKind} {other : Option (List ℕ)} {user : List ℕ} where
  -- at one member, and then at the others
  first : (o : Option A) (name : List ℕ) (line alone : A → Asked) → is_member kind name ≡ true → ((x : A) → IsLooked kind other user (line x) (alone x))
      → IsLooked kind other user (need o name line) (need o name alone)
  first None name line alone is later = record { same = refl; names = rw is refl }
  first (Some x) name line alone is later = later x

module _ (ms : Members) (user : List ℕ) where
  looked : (kind : CallKind) → IsLooked kind (first_other kind (names_of ms)) user (asked_by kind (object ms) ms user) (asked_alone kind ms)
  looked kind.Create = first (text_at (codes "project") (object ms)) (codes "project") _ _ refl (λ project.
      first (text_at (codes "type") (object ms)) (codes "type") _ _ refl (λ type.
      first (text_at (codes "summary") (object ms)) (codes "summary") _ _ refl (λ summary.
      first (set_if_there (object ms)) (codes "set") _ _ refl (λ set.
      first (external_if_there (object ms)) (codes "external") _ _ refl (λ external.
      told _ _ _ _)))))
  looked kind.Edit = first (text_at (codes "issue") (object ms)) (codes "issue") _ _ refl (λ issue.
      first (set_at (object ms)) (codes "set") _ _ refl (λ set.
      told _ _ _ _))
  looked kind.Transition = first (text_at (codes "issue") (object ms)) (codes "issue") _ _ refl (λ issue.
      first (text_at (codes "transition") (object ms)) (codes "transition") _ _ refl (λ transition.
      first (set_if_there (object ms)) (codes "set") _ _ refl (λ set.
      told _ _ _ _)))
  looked kind.Tick = first (moment_at (codes "to") (object ms)) (codes "to") _ _ refl (λ to.
      told _ _ _ _)
  looked kind.MoveBefore = first (text_at (codes "issue") (object ms)) (codes "issue") _ _ refl (λ issue.
      first (other_than issue (object ms)) (codes "other") _ _ refl (λ other.
      told _ _ _ _))
  looked kind.MoveAfter = first (text_at (codes "issue") (object ms)) (codes "issue") _ _ refl (λ issue.
      first (other_than issue (object ms)) (codes "other") _ _ refl (λ other.
      told _ _ _ _))
  looked kind.RebalanceStart = told _ _ _ _
  looked kind.RebalanceStep = first (count_at 1000 (object ms)) (codes "count") _ _ refl (λ count.
      told _ _ _ _)
  looked kind.SaveFilter = first (title_at (codes "name") (object ms)) (codes "name") _ _ refl (λ name.
      first (text_at (codes "jql") (object ms)) (codes "jql") _ _ refl (λ jql.
      told _ _ _ _))
  looked kind.DropFilter = first (number_at (codes "filter") (object ms)) (codes "filter") _ _ refl (λ filter.
      told _ _ _ _)
  looked kind.MakeBoard = first (title_at (codes "name") (object ms)) (codes "name") _ _ refl (λ name.
      first (number_at (codes "filter") (object ms)) (codes "filter") _ _ refl (λ filter.
      told _ _ _ _))
  looked kind.DropBoard = first (number_at (codes "board") (object ms)) (codes "board") _ _ refl (λ board.
      told _ _ _ _)
  looked kind.MakeSprint = first (title_at (codes "name") (object ms)) (codes "name") _ _ refl (λ name.
      told _ _ _ _)
  looked kind.StartSprint = first (number_at (codes "sprint") (object ms)) (codes "sprint") _ _ refl (λ sprint.
      told _ _ _ _)
  looked kind.CloseSprint = first (number_at (codes "sprint") (object ms)) (codes "sprint") _ _ refl (λ sprint.
      told _ _ _ _)
  looked kind.SetGroup = first (text_at (codes "group") (object ms)) (codes "group") _ _ refl (λ group.
      first (names_at (codes "members") (object ms)) (codes "members") _ _ refl (λ names.
      told _ _ _ _))
  looked kind.Show = first (text_at (codes "issue") (object ms)) (codes "issue") _ _ refl (λ issue.
      told _ _ _ _)
  looked kind.History = first (text_at (codes "issue") (object ms)) (codes "issue") _ _ refl (λ issue.
      first (from_if_there (object ms)) (codes "from") _ _ refl (λ from.
      first (count_if_there 50 (object ms)) (codes "count") _ _ refl (λ count.
      told _ _ _ _)))
  looked kind.Search = first (text_at (codes "jql") (object ms)) (codes "jql") _ _ refl (λ jql.
      first (from_if_there (object ms)) (codes "from") _ _ refl (λ from.
      first (count_if_there 1000 (object ms)) (codes "count") _ _ refl (λ count.
      told _ _ _ _)))
  looked kind.Ranks = first (from_if_there (object ms)) (codes "from") _ _ refl (λ from.
      first (count_if_there 1000 (object ms)) (codes "count") _ _ refl (λ count.
      told _ _ _ _))
  looked kind.Balance = told _ _ _ _
  looked kind.Filter = first (number_at (codes "filter") (object ms)) (codes "filter") _ _ refl (λ filter.
      first (from_if_there (object ms)) (codes "from") _ _ refl (λ from.
      first (count_if_there 1000 (object ms)) (codes "count") _ _ refl (λ count.
      told _ _ _ _)))
  looked kind.Board = first (number_at (codes "board") (object ms)) (codes "board") _ _ refl (λ board.
      first (from_if_there (object ms)) (codes "from") _ _ refl (λ from.
      first (count_if_there 1000 (object ms)) (codes "count") _ _ refl (λ count.
      told _ _ _ _)))
  looked kind.Burndown = first (number_at (codes "sprint") (object ms)) (codes "sprint") _ _ refl (λ sprint.
      first (from_if_there (object ms)) (codes "from") _ _ refl (λ from.
      first (count_if_there 1000 (object ms)) (codes "count") _ _ refl (λ count.
      told _ _ _ _)))
  looked kind.List = first (text_at (codes "jql") (object ms)) (codes "jql") _ _ refl (λ jql.
      first (fields_if_there (object ms)) (codes "fields") _ _ refl (λ fields.
      first (from_if_there (object ms)) (codes "from") _ _ refl (λ from.
      first (count_if_there 100 (object ms)) (codes "count") _ _ refl (λ count.
      told _ _ _ _))))
  looked kind.Filters = first (from_if_there (object ms)) (codes "from") _ _ refl (λ from.
      first (count_if_there 1000 (object ms)) (codes "count") _ _ refl (λ count.
      told _ _ _ _))
  looked kind.Boards = first (from_if_there (object ms)) (codes "from") _ _ refl (λ from.
      first (count_if_there 1000 (object ms)) (codes "count") _ _ refl (λ count.
      told _ _ _ _))
  looked kind.Sprints = first (from_if_there (object ms)) (codes "from") _ _ refl (λ from.
      first (count_if_there 1000 (object ms)) (codes "count") _ _ refl (λ count.
      told _ _ _ _))
  looked kind.Describe = told _ _ _ _

-- ---- what a line of the members is answered tells what is answered of the body

keeps_fault : (kind : CallKind) (other : List ℕ) (c : Cause) → NamesMember kind c → fault_beside kind other c ≡ c
keeps_fault kind other c is = rw is refl

-- the first unknown name of a line is no member of the call, and then a body has an unknown name too
abbrev Beside : CallKind → Option (List ℕ) → Option (List ℕ) → Type 0
Beside kind None unknown = ⊤
Beside kind (Some other) None = ⊥
Beside kind (Some other) (Some unknown) = is_member kind other ≡ false

beside_at : (kind : CallKind) (name : List ℕ) (names : List (List ℕ)) (is own : Bool) → is_member kind name ≡ is → is_body_member kind name ≡ own
    → (is ≡ false → own ≡ false) → Beside kind (first_other kind names) (first_unknown kind names)
    → Beside kind (cond (not is) (Some name) (first_other kind names)) (cond (not own) (Some name) (first_unknown kind names))
beside_at kind name names true true e f less later = later
beside_at kind name names true false e f less later = of_either (first_other kind names) (first_unknown kind names) later where
  of_either : (o u : Option (List ℕ)) → Beside kind o u → Beside kind o (Some name)
  of_either None u b = tt
  of_either (Some other) None b = absurd b
  of_either (Some other) (Some unknown) b = b
beside_at kind name names false true e f less later = cc
beside_at kind name names false false e f less later = e

beside : (kind : CallKind) (names : List (List ℕ)) → Beside kind (first_other kind names) (first_unknown kind names)
beside kind [] = tt
beside kind (name ∷ names) = beside_at kind name names (is_member kind name) (is_body_member kind name) refl refl (λ e. rw e refl) (beside kind names)

of_line_at : (kind : CallKind) (other unknown : Option (List ℕ)) (u user : List ℕ) (alone : Asked) → FaultNamesMember kind alone → Beside kind other unknown
    → of_line kind unknown user (asked_beside other u alone) ≡ asked_beside unknown user alone
of_line_at kind other None u user (Err r) names b = refl
of_line_at kind other (Some name) u user (Err r) names b = ap Err (keeps_fault kind name r names)
of_line_at kind None None u user (Ok asked) names b = refl
of_line_at kind None (Some name) u user (Ok asked) names b = refl
of_line_at kind (Some other) None u user (Ok asked) names b = absurd b
of_line_at kind (Some other) (Some name) u user (Ok asked) names b = rw b refl

pub of_line_is : (kind : CallKind) (ms : Members) (u user : List ℕ) (asked result : Result (List ℕ × Call) Refusal) → UnlessMemory asked (asked_by kind (object ms) ms u)
    → ((expected : Asked) → UnlessMemory asked expected → UnlessMemory result (of_line kind (first_unknown kind (names_of ms)) user expected))
    → UnlessMemory result (asked_beside (first_unknown kind (names_of ms)) user (asked_alone kind ms))
of_line_is kind ms u user asked result line told = subst (λ r. UnlessMemory result r)
    (ap (of_line kind (first_unknown kind (names_of ms)) user) (looked ms u kind).same ∙ of_line_at kind _ _ u user _ ((looked ms u kind).names) (beside kind (names_of ms)))
    (told (asked_by kind (object ms) ms u) line)

-- what refuses a line refuses the body, whoever its user is
pub refused_beside : (r : Refusal) (user : List ℕ) (expected : Asked) → ErrUnlessMemory r expected → ErrUnlessMemory r (asked_beside None user expected)
refused_beside (refusal.Cause c) user expected is = subst (λ a. Err c ≡ asked_beside None user a) is refl
refused_beside refusal.Keeper user expected is = absurd is
refused_beside refusal.Memory user expected is = tt
