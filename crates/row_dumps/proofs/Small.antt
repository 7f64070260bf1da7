-- The numbers of a tracker's rows are below 2 ^ 63.
use Rattle.std.proofs.Common.{◌≡◌, ℕ, zero, suc, ◌+◌, ◌<◌, ◌≤◌, ◌^◌, ◌==◌, ◌&&◌, true, inl, inr, List, [], ◌∷◌, map, filter, length, Option, Some, None, refl, sym, ap, ◌∙◌, subst, arith, eqb-true, eq-eqb, All}
use Rattle.std.specs.Prelude.{option_map, slice_get, if◌then◌else◌}
use Rattle.std.specs.Option.{option_or}
use Rattle.std.proofs.lemmas.Bool.{cases_Bool}
use Rattle.std.proofs.lemmas.Option.{none-some, same_Some}
use Rattle.std.proofs.lemmas.List.{length-map}
use Rattle.std.proofs.lemmas.List.Elements.{All-cons, All-nil, All-head, All-tail}
use Rattle.field_values.specs.Parts.{Parts}
use Rattle.fields.specs.SetupParts.{names_in}
use Rattle.change_history.specs.declared.entry.Entry.{Entry}
use Rattle.change_history.specs.History.{History}
use Rattle.tracker_keeper.specs.declared.row.Row.{Row}
use Rattle.tracker_keeper.specs.declared.part.Part.{Part}
use Rattle.tracker_keeper.specs.declared.part.Part.TheVariants as part
use Rattle.tracker_keeper.specs.Bodies.{body_text}
use Rattle.tracker_keeper.specs.Kept.{IsPart, IsPartAt}
use Rattle.tracker_keeper.specs.Parts.{part_kind, part_number}
use Rattle.tracker_keeper.specs.Rows.{IsListing, found}
use Rattle.tracker_machine.proofs.Chronicle.{few_groups}
use Rattle.tracker_machine.specs.Chronicle.{HasEntry, IsChangeAt}
use Rattle.tracker_machine.specs.Kept.{entries_of_change, group_numbered, group_of, group_part, issue_group, part_at, rows_of}
use Rattle.tracker_machine.specs.Laws.{PartsMayBeKept}
use Rattle.tracker_machine.specs.Machine.{Machine}
use Rattle.tracker_machine.specs.Members.{IsSetupOf}
use Rattle.tracker_machine.specs.Tracker.{IsTracker}
use Rattle.row_lines.specs.Telling.{CanTell}
use Rattle.row_dumps.specs.Dump.{HasForm}

-- ---- change groups

-- a change that has entries is one of the issue's
entry_there : (h : History) (n : ℕ) (es : List Entry) (p : Part) → option_map (group_part h) (group_of (entries_of_change n es)) ≡ Some p → (at : ℕ) × HasEntry es n at
entry_there h n [] p is = absurd (none-some p is)
entry_there h n (e ∷ es) p is = elim (cases_Bool (e.change == n)) [
  | inl same ↦ (e.at, inl (eqb-true e.change n same, refl))
  | inr other ↦ let more = entry_there h n es p (rw other at is) in (more.0, inr more.1)
]

-- the issue of a change group, and where it stands
group_there : (hs : List History) (n : ℕ) (p : Part) → group_numbered hs n ≡ Some p → (k : ℕ) × (at : ℕ) × IsChangeAt hs k n at
group_there [] n p is = absurd (none-some p is)
group_there (h ∷ hs) n p is = by (issue_group n h) refl is (group_there hs n p)
  where
    by : (o : Option Part) → issue_group n h ≡ o → option_or o (group_numbered hs n) ≡ Some p
        → (group_numbered hs n ≡ Some p → (k : ℕ) × (at : ℕ) × IsChangeAt hs k n at)
        → (k : ℕ) × (at : ℕ) × IsChangeAt (h ∷ hs) k n at
    by None own rest behind = let more = behind rest in (suc more.0, more.1, more.2)
    by (Some q) own first behind = let has = entry_there h n h.entries q own in (0, has.0, (h, refl, inr has.1))

changes_few : (m : Machine) → IsTracker m → m.change < 2 ^ 63
changes_few m is = omega (arith, is.numbered, few_groups m.histories, is.few_entries, is.few_issues)

group_small : (m : Machine) (n : ℕ) (p : Part) → IsTracker m → group_numbered m.histories n ≡ Some p → n < 2 ^ 63
group_small m n p is there =
    let at = group_there m.histories n p there in
    omega (arith, (is.chronicle.known at.0 n at.1 at.2).1, changes_few m is)

-- ---- all parts

part_small : (setup : Parts) (p : Part) → IsPart setup p → length setup.group ≤ 100 → (part_kind p ≡ 4 → part_number p < 2 ^ 63) → part_number p < 2 ^ 63
unfolding IsPart
part_small setup (part.Setup text) may few group = omega arith
part_small setup (part.Present balance change format moment) may few group = omega arith
part_small setup (part.Issue row_no key change at author values) may few group = omega (arith, may.numbered.1)
part_small setup (part.Group issue g) may few group = group refl
part_small setup (part.Rank issue rank) may few group = omega (arith, may.0.1)
part_small setup (part.External issue external) may few group = omega (arith, may.numbered.1)
part_small setup (part.Sprint row_no sprint) may few group = omega (arith, may.numbered.1)
part_small setup (part.Filter row_no owner name jql) may few group = omega (arith, may.numbered.1)
part_small setup (part.Board row_no name filter) may few group = omega (arith, may.numbered.1)
part_small setup (part.Members group_no members) may few group = omega (arith, may.there, length-map setup.group (λ g. g.name), few)

-- ---- rows

some_of_map : (f : Part → List ℕ) (o : Option Part) (body : List ℕ) → option_map f o ≡ Some body → (p : Part) × (o ≡ Some p)
some_of_map f None body is = absurd (none-some body is)
some_of_map f (Some p) body is = (p, refl)

four_is_group : (m : Machine) (n : ℕ) (p : Part) → part_at m 4 n ≡ Some p → group_numbered m.histories n ≡ Some p
unfolding part_at
four_is_group m n p is = is

number_small : PartsMayBeKept → (m : Machine) (k n : ℕ) (body : List ℕ) → IsTracker m → IsSetupOf m.text m.setup → rows_of m k n ≡ Some body → n < 2 ^ 63
unfolding rows_of
number_small kept m k n body is setup has =
    let found_part = some_of_map (body_text (names_in m.setup)) (part_at m k n) body has in
    let p = found_part.0 in
    let at = kept m k n p (setup.written, setup.reads) is found_part.1 in
    subst (λ j. j < 2 ^ 63) at.number_is
    (part_small m.setup p at.is_part is.few_groups
    (λ four. subst (λ j. j < 2 ^ 63) (sym at.number_is) (group_small m n p is (four_is_group m n p (subst (λ j. part_at m j n ≡ Some p) (sym at.kind_is ∙ four) found_part.1)))))

abbrev IsFoundIn : List Row → Row → Type 0
IsFoundIn list row = (body : List ℕ) × (found list row.kind row.no ≡ Some body)

found_first : (row : Row) (list : List Row) → IsFoundIn (row ∷ list) row
found_first row list = (row.body, rw (eq-eqb row.kind row.kind refl, eq-eqb row.no row.no refl) refl)

found_more : (row other : Row) (list : List Row) → IsFoundIn list other → IsFoundIn (row ∷ list) other
found_more row other list h = elim (cases_Bool ((other.kind == row.kind) && (other.no == row.no))) [
  | inl same ↦ (row.body, rw same refl)
  | inr apart ↦ (h.0, rw apart h.1)
]

all_more : (row : Row) (list rows : List Row) → All (IsFoundIn list) rows → All (IsFoundIn (row ∷ list)) rows
all_more row list [] h = All-nil (IsFoundIn (row ∷ list))
all_more row list (other ∷ rows) h =
    All-cons (IsFoundIn (row ∷ list)) other rows (found_more row other list (All-head (IsFoundIn list) other rows h)) (all_more row list rows (All-tail (IsFoundIn list) other rows h))

all_found : (list : List Row) → All (IsFoundIn list) list
all_found [] = All-nil (IsFoundIn [])
all_found (row ∷ list) = All-cons (IsFoundIn (row ∷ list)) row list (found_first row list) (all_more row list list (all_found list))

module _ (kept : PartsMayBeKept) (m : Machine) (list : List Row) (is : IsTracker m) (setup : IsSetupOf m.text m.setup) (listing : IsListing (rows_of m) list) where
  one_tells : (row : Row) → IsFoundIn list row → HasForm row → CanTell row
  one_tells row has form = record {
    kind_small = form.kind_small;
    number_small = number_small kept m row.kind row.no has.0 is setup (sym (listing.same row.kind row.no) ∙ has.1);
    utf8 = form.utf8;
  }

  each_tells : (rows : List Row) → All (IsFoundIn list) rows → All HasForm rows → All CanTell rows
  each_tells [] has formed = All-nil CanTell
  each_tells (row ∷ rows) has formed =
      All-cons CanTell row rows (one_tells row (All-head (IsFoundIn list) row rows has) (All-head HasForm row rows formed))
      (each_tells rows (All-tail (IsFoundIn list) row rows has) (All-tail HasForm row rows formed))

  pub can_tell : All HasForm list → All CanTell list
  can_tell formed = each_tells list (all_found list) formed
