-- A tracker whose setup was amended tells the same of every issue.
use Rattle.std.proofs.Common.{◌≡◌, ◌∙◌, ℕ, ◌==◌, ◌||◌, ◌⊎◌, Bool, true, false, List, [], refl, sym, ap, subst, inl, inr, eqb-true}
use Rattle.std.specs.Prelude.{if◌then◌else◌}
use Rattle.std.proofs.lemmas.Bool.{cases_Bool}
use Rattle.field_forms.specs.Known.{Names}
use Rattle.field_values.specs.Parts.{Parts}
use Rattle.fields.specs.Sound.{part_names, IsSound}
use Rattle.fields.specs.SetupParts.{names_in}
use Rattle.tracker_keeper.specs.declared.row.Row.{Row}
use Rattle.tracker_keeper.specs.declared.part.Format.{Format}
use Rattle.tracker_keeper.specs.Rows.{Rows, IsListing}
use Rattle.tracker_machine.specs.Kept.{rows_of}
use Rattle.tracker_machine.specs.Machine.{Machine}
use Rattle.tracker_rows.specs.Gathered.Gathered.{Nothing, Stands}
use Rattle.tracker_rows.specs.Loading.{Loads}
use Rattle.tracker_rows.proofs.Loaded.{loaded_are_trackers}
use Rattle.tracker_rows.proofs.Reading.{setup_read}
use Rattle.tracker_rows.proofs.Walk.{is_change}
use Rattle.amended_rows.specs.Amended.{amended}
use Rattle.amended_rows.specs.Amending.{IsAmended}
use Rattle.amended_rows.proofs.Operations.{AreLike, like_loaded}
use Rattle.amended_histories.specs.Laws.{HistoriesTellTheSame}
use Rattle.amended_histories.specs.Telling.{TellTheSame}
use Rattle.amended_histories.proofs.Alike.{AreAlike, Makes, make_alike}
use Rattle.amended_histories.proofs.Listed.{changes_of, same_changes}
use Rattle.amended_histories.proofs.Made.{AreMadeBy, made_of_rows}
use Rattle.amended_histories.proofs.Telling.{tell_the_same}

-- the rows of changes are those of before
change_kinds : (k : ℕ) → is_change k ≡ true → (k ≡ 3) ⊎ (k ≡ 4)
change_kinds k is = elim (cases_Bool (k == 3)) [
  | inl three ↦ inl (eqb-true k 3 three)
  | inr other ↦ inr (eqb-true k 4 (rw other at is))
]

unchanged : (m : Machine) (kept : Rows) (text : List ℕ) (setup : Parts) (n : ℕ) → AreLike kept m → (k : ℕ) → (k ≡ 3) ⊎ (k ≡ 4) → kept k n ≡ amended m text setup k n
unfolding amended
unchanged m kept text setup n like k (inl three) = subst (λ (j : ℕ). kept j n ≡ amended m text setup j n) (sym three) (like.same 3 n refl refl)
unchanged m kept text setup n like k (inr four) = subst (λ (j : ℕ). kept j n ≡ amended m text setup j n) (sym four) (like.same 4 n refl refl)

sound_of : (format : Format) (list : List Row) (m : Machine) → Loads format list m → IsSound m.setup
sound_of format list m loads = (setup_read list Nothing list (Stands format loads.told m) tt loads.read).sound

module _ (format last : Format) (list others : List Row) (kept : Rows) (m later : Machine) (text : List ℕ) (setup : Parts)
    (listing : IsListing kept list) (loads : Loads format list m) (listings : IsListing (amended m text setup) others) (loaded : Loads last others later) where
  same_rows : changes_of list ≡ changes_of others
  same_rows =
      same_changes kept (amended m text setup) list others listing listings
      (λ k n is. unchanged m kept text setup n (like_loaded format list kept m loads listing) k (change_kinds k is))

  all_alike : AreAlike (names_in m.setup) (names_in later.setup) m.histories later.histories
  all_alike =
      let one : AreMadeBy list m = made_of_rows format list m loads in
      let other : AreMadeBy others later = made_of_rows last others later loaded in
      subst (λ (ns : Names). AreAlike ns (names_in later.setup) m.histories later.histories) (sym one.names)
      (subst (λ (ns : Names). AreAlike (part_names one.setup) ns m.histories later.histories) (sym other.names)
      (make_alike one.setup other.setup one.sound other.sound (changes_of list) [] [] m.histories later.histories tt one.made
      (subst (λ rows. Makes other.setup [] rows later.histories) (sym same_rows) other.made)))

  all_the_same : TellTheSame m later
  all_the_same =
      tell_the_same m later (loaded_are_trackers format list m loads) (loaded_are_trackers last others later loaded) (sound_of format list m loads)
      (sound_of last others later loaded) all_alike

pub histories_tell_the_same : HistoriesTellTheSame
histories_tell_the_same text setup rows after is =
    all_the_same is.were.2.0 is.are.2.0 is.were.0 is.are.0 rows is.before is.later text setup is.were.1 is.were.2.1
    (subst (λ (r : Rows). IsListing r is.are.0) is.amended_are is.are.1) is.are.2.1
