-- The rows of changes of a tracker make its histories.
use Rattle.std.proofs.Common.{◌≡◌, ℕ, zero, suc, ◌-◌, ◌⊎◌, Bool, true, false, List, [], ◌∷◌, ◌++◌, Option, Some, None, refl, sym, ap, ◌∙◌, subst, inl, inr}
use Rattle.std.specs.Prelude.{map, if◌then◌else◌}
use Rattle.std.proofs.lemmas.Option.{none-some, same_Some}
use Rattle.field_forms.specs.Known.{Names}
use Rattle.field_values.specs.Parts.{Parts}
use Rattle.field_values.specs.declared.numbers.UserNo.{UserNo}
use Rattle.fields.specs.Sound.{part_names, IsSound}
use Rattle.fields.proofs.Sound.{sound_setup}
use Rattle.change_history.specs.declared.change.Change.{Change}
use Rattle.change_history.specs.declared.entry.Group.{Group}
use Rattle.change_history.specs.History.{History}
use Rattle.serde_json.specs.Written.{compact_text}
use Rattle.tracker_keeper.specs.declared.row.Row.{Row}
use Rattle.tracker_keeper.specs.declared.part.Format.{Format}
use Rattle.tracker_keeper.specs.declared.part.Part.{Part}
use Rattle.tracker_keeper.specs.declared.part.Part.TheVariants as part
use Rattle.tracker_keeper.specs.Bodies.{body_text, issue_data, group_data}
use Rattle.tracker_keeper.specs.Forms.{IsIssuePart, IsGroupPart}
use Rattle.tracker_keeper.specs.Kept.{IsPart, IsRowOf, part_keys}
use Rattle.tracker_keeper.specs.Parts.{part_kind}
use Rattle.tracker_machine.specs.Machine.{Machine}
use Rattle.tracker_machine.specs.Effect.{grown}
use Rattle.tracker_rows.specs.Gathered.{Gathered, opened, joined, standing, told_with, with_part}
use Rattle.tracker_rows.specs.Gathered.Gathered.{Nothing, HasSetup, Stands}
use Rattle.tracker_rows.specs.Loading.{AreRead, Loads}
use Rattle.tracker_rows.proofs.Loaded.{first_row, second_row}
use Rattle.tracker_rows.proofs.Reading.{names_stay}
use Rattle.tracker_rows.proofs.Walk.{is_change}
use Rattle.amended_histories.proofs.Alike.{Opens, Grows, Makes}
use Rattle.amended_histories.proofs.Listed.{changes_of}

-- ---- one row

-- the setups have the same names, and the same keys of projects
record IsSpelled (setup other : Parts) : Type 0 where
  names : part_names setup ≡ part_names other
  keys : part_keys setup ≡ part_keys other

keys_stay : (m : Machine) (p : Part) → part_keys (joined m p).setup ≡ part_keys m.setup
unfolding joined
keys_stay m (part.Setup text) = refl
keys_stay m (part.Present balance change format moment) = refl
keys_stay m (part.Issue issue key change at author values) = refl
keys_stay m (part.Group issue group) = refl
keys_stay m (part.Rank issue rank) = refl
keys_stay m (part.External issue external) = refl
keys_stay m (part.Sprint sprint_no sprint) = refl
keys_stay m (part.Filter filter_no owner name jql) = refl
keys_stay m (part.Board board_no name filter) = refl
keys_stay m (part.Members group members) = refl

spelled_joined : (m : Machine) (p : Part) (setup : Parts) → IsSpelled m.setup setup → IsSpelled (joined m p).setup setup
spelled_joined m p setup is = record { names = names_stay m p ∙ is.names; keys = keys_stay m p ∙ is.keys }

passed_over : (row : Row) (more : List Row) → is_change row.kind ≡ false → changes_of (row ∷ more) ≡ changes_of more
passed_over row more other = rw other refl

counted : (row : Row) (more : List Row) → is_change row.kind ≡ true → changes_of (row ∷ more) ≡ row ∷ changes_of more
counted row more is = rw is refl

issue_row : (setup own : Parts) (row : Row) (h : History) → IsSpelled own setup → 3 ≡ row.kind → h.entries ≡ []
    → IsIssuePart (part_names own) (part_keys own) h.no.0 h.key h.change h.at h.author h.opening
    → compact_text (issue_data (part_names own) h.key h.change h.at h.author h.opening) ≡ row.body → Opens setup row h
issue_row setup own row h is kind none may body = record {
  kind = sym kind;
  is_part = subst (λ (ns : Names). IsIssuePart ns (part_keys setup) h.no.0 h.key h.change h.at h.author h.opening) is.names
      (subst (λ (ks : List (List ℕ)). IsIssuePart (part_names own) ks h.no.0 h.key h.change h.at h.author h.opening) is.keys may);
  body = sym body ∙ ap (λ (ns : Names). compact_text (issue_data ns h.key h.change h.at h.author h.opening)) is.names;
  none = none;
}

group_row : (setup own : Parts) (row : Row) (issue : ℕ) (g : Group) → IsSpelled own setup → 4 ≡ row.kind → g.change ≡ row.no
    → IsGroupPart (part_names own) issue g.change g.at g.author g.entries
    → compact_text (group_data (part_names own) g.at g.author g.entries issue) ≡ row.body → Grows setup row issue g
group_row setup own row issue g is kind change may body = record {
  kind = sym kind;
  change = change;
  is_part = subst (λ (ns : Names). IsGroupPart ns issue g.change g.at g.author g.entries) is.names may;
  body = sym body ∙ ap (λ (ns : Names). compact_text (group_data ns g.at g.author g.entries issue)) is.names;
}

-- what a row adds
module _ (setup : Parts) (m : Machine) (row : Row) (more : List Row) (after : List History) (is : IsSpelled m.setup setup) where
  over : (k : ℕ) → k ≡ row.kind → is_change k ≡ false → Makes setup m.histories (changes_of more) after → Makes setup m.histories (changes_of (row ∷ more)) after
  over k kind other rest =
      subst (λ rows. Makes setup m.histories rows after) (sym (passed_over row more (ap is_change (sym kind) ∙ other))) rest

  adds : (p : Part) → IsRowOf m.setup row.kind row.no row.body p → Makes setup (joined m p).histories (changes_of more) after
      → Makes setup m.histories (changes_of (row ∷ more)) after
  unfolding joined IsPart body_text
  adds (part.Issue issue key change at author values) of rest =
      let h = opened issue key change at author values in
      subst (λ rows. Makes setup m.histories rows after) (sym (counted row more (ap is_change (sym of.at.kind_is))))
      (inl (h, issue_row setup m.setup row h is of.at.kind_is refl of.at.is_part of.text_is, rest))
  adds (part.Group issue group) of rest =
      subst (λ rows. Makes setup m.histories rows after) (sym (counted row more (ap is_change (sym of.at.kind_is))))
      (inr (issue.0, group, group_row setup m.setup row issue.0 group is of.at.kind_is of.at.number_is of.at.is_part of.text_is, rest))
  adds (part.Setup text) of rest = over 1 of.at.kind_is refl rest
  adds (part.Present balance change format moment) of rest = over 2 of.at.kind_is refl rest
  adds (part.Rank issue rank) of rest = over 5 of.at.kind_is refl rest
  adds (part.External issue external) of rest = over 6 of.at.kind_is refl rest
  adds (part.Sprint sprint_no sprint) of rest = over 7 of.at.kind_is refl rest
  adds (part.Filter filter_no owner name jql) of rest = over 8 of.at.kind_is refl rest
  adds (part.Board board_no name filter) of rest = over 9 of.at.kind_is refl rest
  adds (part.Members group members) of rest = over 10 of.at.kind_is refl rest

-- ---- all rows

record AreMade (setup : Parts) (hs : List History) (list : List Row) (m : Machine) : Type 0 where
  spelled : IsSpelled m.setup setup
  made : Makes setup hs (changes_of list) m.histories

abbrev machine_in : Gathered → Option Machine
machine_in Nothing = None
machine_in (HasSetup text setup) = None
machine_in (Stands format told m) = Some m

walk : (setup : Parts) (all list : List Row) (format last : Format) (told count : ℕ) (m end : Machine) → IsSpelled m.setup setup
    → AreRead all (Stands format told m) list (Stands last count end) → AreMade setup m.histories list end
unfolding with_part
walk setup all [] format last told count m end is read =
    let same : end ≡ m = same_Some end m (ap machine_in read) in
    record { spelled = subst (λ (e : Machine). IsSpelled e.setup setup) (sym same) is; made = ap (λ (e : Machine). e.histories) same }
walk setup all (row ∷ more) format last told count m end is read =
    let p = read.1.0 in
    let rest = walk setup all more format last (told_with told p) count (joined m p) end (spelled_joined m p setup is) read.1.2 in
    record { spelled = rest.spelled; made = adds setup m row more end.histories is p read.1.1.tells rest.made }

-- ---- the first two rows

-- a sound setup spells what the histories are made of
pub record AreMadeBy (list : List Row) (m : Machine) : Type 0 where
  pub setup : Parts
  pub sound : IsSound setup
  pub names : part_names m.setup ≡ part_names setup
  pub made : Makes setup [] (changes_of list) m.histories

from_nothing : (all list : List Row) (format : Format) (told : ℕ) (m : Machine) → AreRead all Nothing list (Stands format told m) → AreMadeBy list m
from_nothing all [] format told m read = absurd (none-some m (sym (ap machine_in read)))
from_nothing all (first ∷ []) format told m read =
    let one = first_row all first read.1.0 read.1.1 in absurd (none-some m (sym (ap machine_in (read.1.2 ∙ one.leads))))
from_nothing all (first ∷ second ∷ rest) format told m read =
    let after : Gathered = Stands format told m in
    let one = first_row all first read.1.0 read.1.1 in
    let next : AreRead all (HasSetup first.body one.setup) (second ∷ rest) after = subst (λ g. AreRead all g (second ∷ rest) after) one.leads read.1.2 in
    let two = second_row all first.body one.setup second next.1.0 next.1.1.follows next.1.1.tells in
    let start : Machine = standing first.body one.setup two.balance two.change two.moment in
    let made = walk one.setup all rest two.format format 0 told start m (record { names = refl; keys = refl })
    (subst (λ g. AreRead all g rest after) {y = Stands two.format 0 start} two.leads next.1.2) in
    record {
      setup = one.setup;
      sound = sound_setup first.body one.setup one.reads;
      names = made.spelled.names;
      made = subst (λ rows. Makes one.setup [] rows m.histories)
          (sym (passed_over second rest (ap is_change two.kind_is)) ∙ sym (passed_over first (second ∷ rest) (ap is_change one.kind_is))) made.made;
    }

-- the histories of what rows load are made by their rows of changes
pub made_of_rows : (format : Format) (list : List Row) (m : Machine) → Loads format list m → AreMadeBy list m
made_of_rows format list m loads = from_nothing list list format loads.told m loads.read
