-- From the same rows one tracker is opened, and each issue of it has a rank.
use Rattle.std.proofs.Common.{◌≡◌, ℕ, Bool, true, false, List, [], Option, Some, None, Result, Ok, Err, inl, inr, refl, sym, ◌∙◌, ap, subst, arith}
use Rattle.std.specs.List.{AllPairs}
use Rattle.std.proofs.lemmas.Bool.{true≢false}
use Rattle.field_values.specs.Parts.{Parts}
use Rattle.setup_reading.specs.Reading.{setup_in}
use Rattle.tracker_keeper.specs.declared.row.Row.{Row}
use Rattle.tracker_keeper.specs.declared.part.Format.{Format}
use Rattle.tracker_keeper.specs.Rows.{Rows, IsBelow, IsListing, found}
use Rattle.tracker_machine.specs.Machine.{Machine, opening}
use Rattle.tracker_machine.specs.Tracker.{HasRanks}
use Rattle.tracker_rows.specs.Gathered.{Gathered}
use Rattle.tracker_rows.specs.Gathered.Gathered.{Nothing, HasSetup, Stands}
use Rattle.tracker_rows.specs.Loading.{Loads}
use Rattle.tracker_rows.proofs.Loaded.{loaded_are_trackers}
use Rattle.tracker_rows.proofs.Verdicts.{rows_load_one}
use Rattle.tracker_core.specs.Desk.{HasNoRow, IsNew, IsMadeOf, IsLoaded, IsOpened}
use Rattle.tracker_runs.proofs.RunRanks.{trackers_have_ranks, new_trackers_have_ranks}
use Rattle.run_laws.proofs.Listings.{one_list, one_listing}

-- ---- one tracker

abbrev stands : Gathered → Bool
stands (Stands format told m) = true
stands _ = false

-- no rows load no tracker
none_load : (format : Format) (m : Machine) → Loads format [] m → ⊥
none_load format m loads = true≢false (ap stands loads.read)

made_one : (list : List Row) (m other : Machine) → IsMadeOf list m → IsMadeOf list other → m ≡ other
made_one list m other one two = (rows_load_one one.0 two.0 list m other one.1 two.1).0

empty : (rows : Rows) (list : List Row) → IsListing rows list → HasNoRow rows → list ≡ []
empty rows list is none = one_list list [] is.rising (λ i j d less within. absurd (omega (arith, within))) (λ kind number. is.same kind number ∙ none kind number)

loaded_has : (rows : Rows) (m : Machine) → IsLoaded rows m → HasNoRow rows → ⊥
loaded_has rows m (list, is, (format, loads)) none = none_load format m (subst (λ l. Loads format l m) (empty rows list is none) loads)

read_or : {E A : Type 0} → A → Result A E → A
read_or d (Ok z) = z
read_or d (Err z) = d

same_Ok : {E A : Type 0} (r : Result A E) (x y : A) → r ≡ Ok x → r ≡ Ok y → x ≡ y
unfolding read_or
same_Ok r x y one other = ap (read_or x) (sym one ∙ other)

new_one : (text : List ℕ) (m other : Machine) → IsNew text m → IsNew text other → m ≡ other
new_one text m other (setup, reads, is) (setup_too, reads_too, is_too) =
    is ∙ ap (opening text) (same_Ok (setup_in text) setup setup_too reads reads_too) ∙ sym is_too

pub opened_one : (text : List ℕ) (rows : Rows) (m other : Machine) → IsOpened text rows m → IsOpened text rows other → m ≡ other
opened_one text rows m other (inl (list, is, made)) (inl (list_too, is_too, made_too)) =
    made_one list m other made (subst (λ l. IsMadeOf l other) (sym (one_listing rows list list_too is is_too)) made_too)
opened_one text rows m other (inl loaded) (inr new) = absurd (loaded_has rows m loaded new.0)
opened_one text rows m other (inr new) (inl loaded) = absurd (loaded_has rows other loaded new.0)
opened_one text rows m other (inr new) (inr new_too) = new_one text m other new.1 new_too.1

-- ---- its ranks

pub opened_has_ranks : (text : List ℕ) (rows : Rows) (m : Machine) → IsOpened text rows m → HasRanks m
opened_has_ranks text rows m (inl (list, is, (format, loads))) = trackers_have_ranks m (loaded_are_trackers format list m loads)
opened_has_ranks text rows m (inr (none, (setup, reads, is))) = subst HasRanks (sym is) (new_trackers_have_ranks text setup)
