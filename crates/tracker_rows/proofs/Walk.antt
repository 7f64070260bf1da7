-- Rows that are read one after the other: what holds of the tracker in the making, and that its rows are those.
use Rattle.std.proofs.Common.{◌≡◌, ℕ, ◌+◌, ◌==◌, ◌&&◌, ◌||◌, Bool, true, false, List, [], ◌∷◌, ◌++◌, Option, Some, IfSome, option_map, refl, sym, ap, ◌∙◌, subst, append-nil}
use Rattle.std.specs.Prelude.{if◌then◌else◌, cond}
use Rattle.std.specs.List.{All}
use Rattle.std.proofs.lemmas.List.Sums.{sum_by_push}
use Rattle.std.proofs.lemmas.List.Elements.{All-head}
use Rattle.field_forms.specs.Known.{Names}
use Rattle.fields.specs.SetupParts.{names_in}
use Rattle.tracker_keeper.specs.declared.row.Row.{Row}
use Rattle.tracker_keeper.specs.declared.part.Format.{Format}
use Rattle.tracker_keeper.specs.declared.part.Part.{Part}
use Rattle.tracker_keeper.specs.declared.part.Part.TheVariants as part
use Rattle.tracker_keeper.specs.Bodies.{body_text}
use Rattle.tracker_keeper.specs.Parts.{part_kind, part_number}
use Rattle.tracker_keeper.specs.Rows.{found}
use Rattle.tracker_machine.specs.Machine.{Machine}
use Rattle.tracker_rows.specs.Listed.{IsAhead, IsAlone, changes_in}
use Rattle.tracker_rows.specs.Gathered.{Gathered, joined, told_with, with_part, due}
use Rattle.tracker_rows.specs.Gathered.Gathered.{Nothing, HasSetup, Stands}
use Rattle.tracker_rows.specs.Rules.{MayJoin, MayFollow}
use Rattle.tracker_rows.specs.Loading.{IsInTime, IsGood, AreRead}
use Rattle.tracker_rows.proofs.Reading.{names_stay}
use Rattle.tracker_rows.proofs.Rising.{Rise, one_by_one, counts_one}
use Rattle.tracker_rows.proofs.Found.{alone_found, found_pushed}
use Rattle.tracker_rows.proofs.Told.{told_at, told_rows}
use Rattle.tracker_rows.proofs.Making.{IsBefore, IsInMaking}
use Rattle.tracker_rows.proofs.Steps.{changes_by, step, parts_step}

-- the rows that have been read are those that the tracker in the making tells
abbrev pub SameRows : List Row → Format → ℕ → Machine → Type 0
SameRows front format told m = (k n : ℕ) → found front k n ≡ told_rows format told m k n

pub record IsMade (rows front : List Row) (format : Format) (told : ℕ) (m : Machine) (kind number : ℕ) : Type 0 where
  pub making : IsInMaking rows format told m (changes_in front) kind number
  pub same : SameRows front format told m

-- ---- one row

abbrev pub is_change : ℕ → Bool
is_change kind = (kind == 3) || (kind == 4)

pub changes_of_kind : (p : Part) → counts_one (is_change (part_kind p)) ≡ changes_by p
changes_of_kind (part.Setup text) = refl
changes_of_kind (part.Present balance change format moment) = refl
changes_of_kind (part.Issue issue key change at author values) = refl
changes_of_kind (part.Group issue group) = refl
changes_of_kind (part.Rank issue rank) = refl
changes_of_kind (part.External issue external) = refl
changes_of_kind (part.Sprint sprint_no sprint) = refl
changes_of_kind (part.Filter filter_no owner name jql) = refl
changes_of_kind (part.Board board_no name filter) = refl
changes_of_kind (part.Members group members) = refl

picked : (names : Names) (p : Part) (b : Bool) (o : Option Part)
    → option_map (body_text names) (if b then Some p else o) ≡ (if b then Some (body_text names p) else option_map (body_text names) o)
picked names p true o = refl
picked names p false o = refl

follows_stands : (rows : List Row) (format : Format) (told : ℕ) (m : Machine) (p : Part) → MayFollow rows (Stands format told m) p → MayJoin format m p
unfolding MayFollow
follows_stands rows format told m p may = may

module _ (rows front more : List Row) (row : Row) (format : Format) (told : ℕ) (m : Machine) (kind number : ℕ) (p : Part)
    (is : IsMade rows front format told m kind number) (apart : rows ≡ front ++ row ∷ more) (ahead : IsAhead kind number row)
    (timely : IsInTime (Stands format told m) row) (good : IsGood rows (Stands format told m) row p) where
  kind_is : part_kind p ≡ row.kind
  kind_is = good.tells.at.kind_is

  number_is : part_number p ≡ row.no
  number_is = good.tells.at.number_is

  may : MayJoin format m p
  may = follows_stands rows format told m p good.follows

  before : IsBefore kind number (part_kind p) (part_number p)
  before = subst (λ k. IsBefore kind number k (part_number p)) (sym kind_is) (subst (λ n. IsBefore kind number row.kind n) (sym number_is) ahead)

  in_time : IfSome (due (Stands format told m)) (λ wanted. ¬ IsBefore wanted.0 wanted.1 (part_kind p) (part_number p))
  in_time =
      subst (λ k. IfSome (due (Stands format told m)) (λ wanted. ¬ IsBefore wanted.0 wanted.1 k (part_number p))) (sym kind_is)
      (subst (λ n. IfSome (due (Stands format told m)) (λ wanted. ¬ IsBefore wanted.0 wanted.1 row.kind n)) (sym number_is) timely)

  -- it is counted where it is a change
  counts : changes_in front + changes_by p ≡ changes_in (front ++ row ∷ [])
  counts =
      let pushed = sum_by_push (λ (r : Row). cond ((r.kind == 3) || (r.kind == 4)) 1 0) front row in
      let own : changes_by p ≡ counts_one (is_change row.kind) = sym (changes_of_kind p) ∙ ap (λ k. counts_one (is_change k)) kind_is in
      ap (λ n. changes_in front + n) own ∙ sym pushed

  making : IsInMaking rows format (told_with told p) (joined m p) (changes_in (front ++ row ∷ [])) row.kind row.no
  making =
      subst (λ c. IsInMaking rows format (told_with told p) (joined m p) c row.kind row.no) counts
      (subst (λ k. IsInMaking rows format (told_with told p) (joined m p) (changes_in front + changes_by p) k row.no) kind_is
      (subst (λ n. IsInMaking rows format (told_with told p) (joined m p) (changes_in front + changes_by p) (part_kind p) n) number_is
      (step rows format told m (changes_in front) kind number is.making p may good.tells.at.is_part good.sprints before in_time)))

  rows_joined : (k n : ℕ) → told_rows format (told_with told p) (joined m p) k n
      ≡ (if (row.kind == k) && (row.no == n) then Some row.body else told_rows format told m k n)
  rows_joined k n =
      let names : Names = names_in m.setup in
      ap (λ (ns : Names). option_map (body_text ns) (told_at format (told_with told p) (joined m p) k n)) (names_stay m p)
      ∙ ap (option_map (body_text names)) (parts_step rows format told m (changes_in front) kind number is.making p may good.tells.at.is_part before in_time k n)
      ∙ picked names p ((part_kind p == k) && (part_number p == n)) (told_at format told m k n)
      ∙ ap (λ (body : List ℕ). if (part_kind p == k) && (part_number p == n) then Some body else told_rows format told m k n) good.tells.text_is
      ∙ ap (λ (j : ℕ). if (j == k) && (part_number p == n) then Some row.body else told_rows format told m k n) kind_is
      ∙ ap (λ (j : ℕ). if (row.kind == k) && (j == n) then Some row.body else told_rows format told m k n) number_is

  same : SameRows (front ++ row ∷ []) format (told_with told p) (joined m p)
  same k n =
      found_pushed front row k n (alone_found front row more (subst (λ all. IsAlone all row) apart good.alone))
      ∙ ap (λ (o : Option (List ℕ)). if (row.kind == k) && (row.no == n) then Some row.body else o) (is.same k n)
      ∙ sym (rows_joined k n)

  pub row_made : IsMade rows (front ++ row ∷ []) format (told_with told p) (joined m p) row.kind row.no
  row_made = record { making = making; same = same }

-- ---- all rows

-- what is made of a front of the rows, up to some place
pub record IsAllMade (rows front : List Row) (format : Format) (told : ℕ) (m : Machine) : Type 0 where
  pub kind : ℕ
  pub number : ℕ
  pub made : IsMade rows front format told m kind number

abbrev IsMadeOf : List Row → List Row → Gathered → Type 0
IsMadeOf rows front Nothing = Unit {0}
IsMadeOf rows front (HasSetup text setup) = Unit {0}
IsMadeOf rows front (Stands format told m) = IsAllMade rows front format told m

walk_to : (rows front list left : List Row) (format : Format) (told : ℕ) (m : Machine) (after : Gathered) (kind number : ℕ) → rows ≡ front ++ (list ++ left)
    → IsMade rows front format told m kind number → Rise list → All (IsAhead kind number) list → AreRead rows (Stands format told m) list after
    → IsMadeOf rows (front ++ list) after
unfolding with_part
walk_to rows front [] left format told m after kind number apart is rise ahead read =
    subst (λ list. IsMadeOf rows list after) (sym (append-nil front))
    (subst (IsMadeOf rows front) (sym read) (record { kind = kind; number = number; made = is }))
walk_to rows front (row ∷ more) left format told m after kind number apart is rise ahead read =
    subst (λ list. IsMadeOf rows list after) (sym (one_by_one front row more))
    (walk_to rows (front ++ row ∷ []) more left format (told_with told read.1.0) (joined m read.1.0) after row.kind row.no (apart ∙ one_by_one front row (more ++ left))
    (row_made rows front (more ++ left) row format told m kind number read.1.0 is apart (All-head (IsAhead kind number) row more ahead) read.0 read.1.1) rise.1 rise.0 read.1.2)

pub walk : (rows front list left : List Row) (format end_format : Format) (told end_told : ℕ) (m end : Machine) (kind number : ℕ) → rows ≡ front ++ (list ++ left)
    → IsMade rows front format told m kind number → Rise list → All (IsAhead kind number) list → AreRead rows (Stands format told m) list (Stands end_format end_told end)
    → IsAllMade rows (front ++ list) end_format end_told end
walk rows front list left format end_format told end_told m end kind number apart is rise ahead read =
    walk_to rows front list left format told m (Stands end_format end_told end) kind number apart is rise ahead read
