-- Opening values that aren't empty stand in the order of the fields, and each may stand in its field.
use Rattle.std.proofs.Common.{◌≡◌, ℕ, ◌==◌, ◌&&◌, true, not, List, [], ◌∷◌, ◌++◌, refl, eq-eqb, inl, inr}
use Rattle.std.specs.List.{list_all}
use Rattle.std.proofs.lemmas.Bool.{cases_Bool}
use Rattle.field_values.specs.declared.numbers.FieldNo.{FieldNo}
use Rattle.field_values.specs.declared.numbers.UserNo.{UserNo}
use Rattle.field_values.specs.declared.value.Value.{Value}
use Rattle.field_values.specs.declared.value.Value.TheVariants as value
use Rattle.field_forms.specs.Known.{Names}
use Rattle.fields.specs.Naming.{field_numbers}
use Rattle.change_history.specs.declared.change.Change.{Change}
use Rattle.workflow.specs.Same.{is_empty}
use Rattle.workflow.specs.Laws.{AllFit}
use Rattle.workflow.specs.Difference.{entries_of}
use Rattle.tracker_keeper.specs.Forms.{is_filled, may_hold, are_among, are_opening}
use Rattle.tracker_machine.specs.declared.wanted.Wanted.{Wanted}
use Rattle.tracker_machine.specs.declared.wanted.Wanted.TheVariants as wanted
use Rattle.tracker_machine.specs.Wanted.{change_to, changes_to, changes_of}
use Rattle.tracker_machine.specs.Create.{filled}
use Rattle.tracker_machine.specs.Tracker.{AreSmall, AllSmall}
use Rattle.tracker_machine.proofs.Keepable.{fitting_may_stand}

-- ---- values that aren't empty

filled_is : (v : Value) → is_filled v ≡ not (is_empty v)
filled_is value.Empty = refl
filled_is (value.Text text) = refl
filled_is (value.Number z) = refl
filled_is (value.Choice choice) = refl
filled_is (value.User user) = refl
filled_is (value.Date day) = refl
filled_is (value.Set choices) = refl
filled_is (value.Labels labels) = refl
filled_is (value.Sprint sprint) = refl

filled_may_stand : (names : Names) (cs : List Change) → AllFit names cs → AreSmall cs → list_all (λ c. is_filled c.to && may_hold names c.field.0 c.to) (filled cs) ≡ true
filled_may_stand names [] fit small = refl
filled_may_stand names (c ∷ cs) fit small = elim (cases_Bool (not (is_empty c.to))) [
  | inl there ↦ rw (there, filled_is c.to, there, fitting_may_stand names c.field.0 c.to fit.0 small.0) (filled_may_stand names cs fit.1 small.1)
  | inr gone ↦ rw gone (filled_may_stand names cs fit.1 small.1)
]

-- ---- the order of the fields

none_among : (ns : List ℕ) → are_among ns [] ≡ true
none_among [] = refl
none_among (n ∷ ns) = refl

-- what is among some numbers is among them and one before them, where the changes behind its first are
among_more : (n : ℕ) (ns : List ℕ) (cs : List Change) → ((c : Change) (ds : List Change) → are_among ns (c ∷ ds) ≡ true → are_among ns ds ≡ true) → are_among ns cs ≡ true
    → are_among (n ∷ ns) cs ≡ true
among_more n ns [] behind among = refl
among_more n ns (c ∷ cs) behind among = elim (cases_Bool (c.field.0 == n)) [ inl is ↦ rw is (behind c cs among) | inr other ↦ rw other among ]

among_behind : (ns : List ℕ) (c : Change) (cs : List Change) → are_among ns (c ∷ cs) ≡ true → are_among ns cs ≡ true
among_behind [] c cs among = absurd (cc)
among_behind (n ∷ ns) c cs among = elim (cases_Bool (c.field.0 == n)) [
  | inl is ↦ among_more n ns cs (among_behind ns) (rw is at among)
  | inr other ↦ among_more n ns cs (among_behind ns) (among_behind ns c cs (rw other at among))
]

-- a change of the first field, and others of those behind it
among_first : (n : ℕ) (v : Value) (ns : List ℕ) (cs : List Change) → are_among ns cs ≡ true → are_among (n ∷ ns) (record { field = record { 0 = n }; to = v } ∷ cs) ≡ true
among_first n v ns cs among = rw (eq-eqb n n refl) among

among_given : (n : ℕ) (w : Wanted) (ns : List ℕ) (cs : List Change) → are_among ns (filled cs) ≡ true → are_among (n ∷ ns) (filled (change_to n w ++ cs)) ≡ true
among_given n wanted.Nothing ns cs among = among_more n ns (filled cs) (among_behind ns) among
among_given n wanted.NoValue ns cs among = among_more n ns (filled cs) (among_behind ns) among
among_given n (wanted.Value v) ns cs among = elim (cases_Bool (not (is_empty v))) [
  | inl there ↦ rw there (among_first n v ns (filled cs) among)
  | inr gone ↦ rw gone (among_more n ns (filled cs) (among_behind ns) among)
]

among_all : (wants : ℕ → Wanted) (ns : List ℕ) → are_among ns (filled (changes_to wants ns)) ≡ true
among_all wants [] = refl
among_all wants (n ∷ ns) = among_given n (wants n) ns (changes_to wants ns) (among_all wants ns)

-- the values that a create opens an issue with
pub created_listed : (names : Names) (wants : ℕ → Wanted) → AllFit names (changes_of names wants) → AreSmall (changes_of names wants)
    → are_opening names (filled (changes_of names wants)) ≡ true
unfolding changes_of
created_listed names wants fit small =
    rw (filled_may_stand names (changes_to wants (field_numbers names.fields)) fit small) (among_all wants (field_numbers names.fields))

-- ---- sprints' numbers

pub AllSmall-entries_of : (before : FieldNo → Value) (change at : ℕ) (author : UserNo) (cs : List Change) → AreSmall cs → AllSmall (entries_of before change at author cs)
AllSmall-entries_of before change at author [] small = tt
AllSmall-entries_of before change at author (c ∷ cs) small = (small.0, AllSmall-entries_of before change at author cs small.1)
