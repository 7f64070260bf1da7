-- What holds once the rows before a place have been read, up to the last one of them.
use Rattle.std.proofs.Common.{◌≡◌, ℕ, suc, ◌==◌, ◌&&◌, Bool, true, false, List, [], ◌∷◌, ◌++◌, take, drop, Some, None, IfSome, All, sym, ap, ◌∙◌, subst, arith, append-nil}
use Rattle.std.specs.Prelude.{if◌then◌else◌, cond}
use Rattle.std.proofs.lemmas.Bool.{true≢false}
use Rattle.std.proofs.lemmas.List.Sums.{sum_by-cons}
use Rattle.std.proofs.lemmas.List.Elements.{All-head}
use Rattle.tracker_keeper.specs.declared.row.Row.{Row}
use Rattle.tracker_keeper.specs.declared.part.Format.{Format}
use Rattle.tracker_keeper.specs.declared.part.Part.{Part}
use Rattle.tracker_keeper.specs.Parts.{part_kind, part_number}
use Rattle.tracker_keeper.specs.Rows.{IsBelow}
use Rattle.tracker_machine.specs.Machine.{Machine}
use Rattle.tracker_rows.specs.Listed.{InOrder, IsAhead, IsAlone, changes_in}
use Rattle.tracker_rows.specs.Gathered.{Gathered, standing, joined, told_with, with_part, due}
use Rattle.tracker_rows.specs.Gathered.Gathered.{Nothing, HasSetup, Stands}
use Rattle.tracker_rows.specs.Loading.{IsInTime, IsGood, AreRead}
use Rattle.tracker_rows.proofs.Rising.{Rise, rising, one_by_one, counts_one}
use Rattle.tracker_rows.proofs.Found.{alone_found}
use Rattle.tracker_rows.proofs.Making.{IsBefore}
use Rattle.tracker_rows.proofs.Told.{told_rows}
use Rattle.tracker_rows.proofs.Walk.{SameRows, IsMade, is_change, row_made}
use Rattle.tracker_rows.proofs.Loaded.{start_made, start_rows, IsFirst, first_row, IsSecond, second_row}
use Rattle.tracker_loading.specs.Making.{IsNextPart}
use Rattle.tracker_loading.specs.Reading.{StandsAt, IsReadTo, IsOwnPart}
use Rattle.tracker_loading.proofs.Order.{all_back, apart_at}
use Rattle.tracker_loading.proofs.Alone.{all_below}
use Rattle.tracker_loading.proofs.Next.{next_part}

-- what is made of a front of the rows, up to its last row
pub record IsMadeTo (rows front : List Row) (format : Format) (told : ℕ) (m : Machine) : Type 0 where
  pub kind : ℕ
  pub number : ℕ
  pub made : IsMade rows front format told m kind number
  -- a row behind all of the front is behind that place
  pub last : (row : Row) → All (λ other. IsBelow other row) front → IsAhead kind number row

-- ---- one row more

module _ (rows front more : List Row) (row : Row) (format : Format) (told : ℕ) (m : Machine) (kind number : ℕ) (p : Part)
    (is : IsMade rows front format told m kind number) (apart : rows ≡ front ++ row ∷ more) (ahead : IsAhead kind number row)
    (timely : IsInTime (Stands format told m) row) (own : IsOwnPart rows m.setup row p) where
  before : IsBefore kind number (part_kind p) (part_number p)
  before = subst (λ k. IsBefore kind number k (part_number p)) (sym own.tells.at.kind_is)
      (subst (λ n. IsBefore kind number row.kind n) (sym own.tells.at.number_is) ahead)

  in_time : IfSome (due (Stands format told m)) (λ wanted. ¬ IsBefore wanted.0 wanted.1 (part_kind p) (part_number p))
  in_time =
      subst (λ k. IfSome (due (Stands format told m)) (λ wanted. ¬ IsBefore wanted.0 wanted.1 k (part_number p))) (sym own.tells.at.kind_is)
      (subst (λ n. IfSome (due (Stands format told m)) (λ wanted. ¬ IsBefore wanted.0 wanted.1 row.kind n)) (sym own.tells.at.number_is) timely)

  -- no row of its place has been read
  free : told_rows format told m (part_kind p) (part_number p) ≡ None
  free =
      subst (λ k. told_rows format told m k (part_number p) ≡ None) (sym own.tells.at.kind_is)
      (subst (λ n. told_rows format told m row.kind n ≡ None) (sym own.tells.at.number_is)
      (sym (is.same row.kind row.no) ∙ alone_found front row more (subst (λ all. IsAlone all row) apart own.alone)))

  pub next_row : IsNextPart format told m p
  next_row = next_part rows format told m (changes_in front) kind number is.making p own.tells.at.is_part before in_time free

-- ---- from row to row

abbrev IsMadeOf : List Row → List Row → Gathered → Type 0
IsMadeOf rows front Nothing = Unit {0}
IsMadeOf rows front (HasSetup text setup) = Unit {0}
IsMadeOf rows front (Stands format told m) = IsMadeTo rows front format told m

last_of : (front : List Row) (row next : Row) → All (λ other. IsBelow other next) (front ++ row ∷ []) → IsAhead row.kind row.no next
last_of front row next all = All-head (λ other. IsBelow other next) row [] (all_back (λ other. IsBelow other next) front (row ∷ []) all)

walk_to : (rows front list left : List Row) (format : Format) (told : ℕ) (m : Machine) (after : Gathered) (kind number : ℕ) → rows ≡ front ++ (list ++ left)
    → IsMade rows front format told m kind number → ((row : Row) → All (λ other. IsBelow other row) front → IsAhead kind number row)
    → Rise list → All (IsAhead kind number) list → AreRead rows (Stands format told m) list after → IsMadeOf rows (front ++ list) after
unfolding with_part
walk_to rows front [] left format told m after kind number apart is last rise ahead read =
    subst (λ list. IsMadeOf rows list after) (sym (append-nil front))
    (subst (IsMadeOf rows front) (sym read) (record { kind = kind; number = number; made = is; last = last }))
walk_to rows front (row ∷ more) left format told m after kind number apart is last rise ahead read =
    let first : IsAhead kind number row = All-head (IsAhead kind number) row more ahead in
    let good : IsGood rows (Stands format told m) row read.1.0 = read.1.1 in
    subst (λ list. IsMadeOf rows list after) (sym (one_by_one front row more))
    (walk_to rows (front ++ row ∷ []) more left format (told_with told read.1.0) (joined m read.1.0) after row.kind row.no (apart ∙ one_by_one front row (more ++ left))
    (row_made rows front (more ++ left) row format told m kind number read.1.0 is apart first read.0 good)
    (λ r all. last_of front row r all) rise.1 rise.0 read.1.2)

-- ---- from the first row on

abbrev is_standing : Gathered → Bool
is_standing Nothing = false
is_standing (HasSetup text setup) = false
is_standing (Stands format told m) = true

no_changes : (first second : Row) → first.kind ≡ 1 → second.kind ≡ 2 → changes_in (first ∷ second ∷ []) ≡ 0
no_changes first second one two =
    let count : Row → ℕ = λ r. cond (is_change r.kind) 1 0 in
    omega (arith, sum_by-cons count first (second ∷ []), sum_by-cons count second [], ap (λ k. counts_one (is_change k)) one, ap (λ k. counts_one (is_change k)) two)

module _ (rows rest left : List Row) (first second : Row) (format : Format) (told : ℕ) (m : Machine) (p q : Part)
    (apart : rows ≡ first ∷ second ∷ (rest ++ left)) (rise : Rise (first ∷ second ∷ rest))
    (one : IsFirst rows first p) (two : IsSecond rows first.body one.setup second q) where
  abbrev begun : Machine
  begun = standing first.body one.setup two.balance two.change two.moment

  begun_rows : SameRows (first ∷ second ∷ []) two.format 0 begun
  begun_rows k n =
      ap (λ (j : ℕ). if (k == j) && (n == first.no) then Some first.body else if (k == second.kind) && (n == second.no) then Some second.body else None) one.kind_is
      ∙ ap (λ (j : ℕ). if (k == 1) && (n == j) then Some first.body else if (k == second.kind) && (n == second.no) then Some second.body else None) one.number_is
      ∙ ap (λ (j : ℕ). if (k == 1) && (n == 0) then Some first.body else if (k == j) && (n == second.no) then Some second.body else None) two.kind_is
      ∙ ap (λ (j : ℕ). if (k == 1) && (n == 0) then Some first.body else if (k == 2) && (n == j) then Some second.body else None) two.number_is
      ∙ ap (λ (body : List ℕ). if (k == 1) && (n == 0) then Some first.body else if (k == 2) && (n == 0) then Some body else None) (sym two.body_is)
      ∙ sym (start_rows first.body one.setup two.balance two.change two.format two.moment k n)

  all_made_to : AreRead rows (Stands two.format 0 begun) rest (Stands format told m) → IsMadeTo rows (first ∷ second ∷ rest) format told m
  all_made_to read =
      walk_to rows (first ∷ second ∷ []) rest left two.format 0 begun (Stands format told m) second.kind second.no apart
      (record {
        making = start_made first.body one.setup two.balance two.change two.format two.moment rows (changes_in (first ∷ second ∷ [])) second.kind second.no
            two.counted two.timely two.balanced (no_changes first second one.kind_is two.kind_is);
        same = begun_rows;
      })
      (λ row all. all 1 second (omega arith)) rise.1.1 rise.1.0 read

-- what holds once a front of the rows has been read
made_to : (rows front left : List Row) (format : Format) (told : ℕ) (m : Machine) → InOrder rows → rows ≡ front ++ left
    → AreRead rows Nothing front (Stands format told m) → IsMadeTo rows front format told m
made_to rows [] left format told m ordered is read = absurd (true≢false (ap is_standing read))
made_to rows (first ∷ []) left format told m ordered is read =
    let one = first_row rows first read.1.0 read.1.1 in
    absurd (true≢false (ap is_standing (read.1.2 ∙ one.leads)))
made_to rows (first ∷ second ∷ rest) left format told m ordered is read =
    let after : Gathered = Stands format told m in
    let rise = rising rows [] (first ∷ second ∷ rest) left Nothing after is (subst InOrder is ordered) read in
    let one = first_row rows first read.1.0 read.1.1 in
    let next : AreRead rows (HasSetup first.body one.setup) (second ∷ rest) after = subst (λ g. AreRead rows g (second ∷ rest) after) one.leads read.1.2 in
    let two = second_row rows first.body one.setup second next.1.0 next.1.1.follows next.1.1.tells in
    all_made_to rows rest left first second format told m read.1.0 next.1.0 is rise one two
    (subst (λ g. AreRead rows g rest after) {y = Stands two.format 0 (standing first.body one.setup two.balance two.change two.moment)} two.leads next.1.2)

-- ---- the row at a place

-- its part is the next one
pub next_at : (rows : List Row) (place : ℕ) (row : Row) (format : Format) (told : ℕ) (m : Machine) (p : Part) → IsReadTo rows place (Stands format told m)
    → StandsAt rows place row → IsInTime (Stands format told m) row → IsOwnPart rows m.setup row p → IsNextPart format told m p
next_at rows place row format told m p is there timely own =
    let apart : rows ≡ take place rows ++ row ∷ drop (suc place) rows = apart_at rows place row there in
    let made = made_to rows (take place rows) (row ∷ drop (suc place) rows) format told m is.ordered apart is.read in
    next_row rows (take place rows) (drop (suc place) rows) row format told m made.kind made.number p made.made apart
    (made.last row (all_below rows place row is.ordered there own.alone)) timely own
