-- The first two rows, and a row whose part doesn't follow.
use Rattle.std.proofs.Common.{◌≡◌, ℕ, ◌+◌, ◌≤◌, List, drop, All, refl, sym, ap, ◌∙◌, subst}
use Rattle.field_values.specs.Parts.{Parts}
use Rattle.rank_balancer.specs.declared.balance.Balance.{Balance}
use Rattle.setup_reading.specs.Reading.{setup_in}
use Rattle.tracker_keeper.specs.declared.row.Row.{Row}
use Rattle.tracker_keeper.specs.declared.part.Part.{Part}
use Rattle.tracker_keeper.specs.declared.part.Part.TheVariants as part
use Rattle.tracker_keeper.specs.declared.part.Format.{Format}
use Rattle.tracker_keeper.specs.Kept.{IsRowOf}
use Rattle.tracker_keeper.proofs.Lone.{setup_row}
use Rattle.tracker_machine.specs.Machine.{Machine}
use Rattle.tracker_rows.specs.Listed.{InOrder, IsAhead, changes_in}
use Rattle.tracker_rows.specs.Gathered.{Gathered, standing, joined, told_with, with_part, with_setup}
use Rattle.tracker_rows.specs.Gathered.Gathered.{Nothing, HasSetup, Stands}
use Rattle.tracker_rows.specs.Rules.{MayJoin, MayFollow}
use Rattle.tracker_rows.specs.Loading.{IsInTime, IsGood, IsFirstBad}
use Rattle.tracker_rows.proofs.Loaded.{first_row}
use Rattle.tracker_loading.specs.Reading.{StandsAt, IsReadTo, IsOwnPart, IsOnlyPart, IsSetupRow, IsStanding}
use Rattle.tracker_loading.proofs.Faults.{read_none, leads_on, bad_first, missing}

-- ---- the setup

setup_follows : (rows : List Row) (text : List ℕ) → MayFollow rows Nothing (part.Setup text)
unfolding MayFollow
setup_follows rows text = tt

with_first : (text : List ℕ) → with_part Nothing (part.Setup text) ≡ with_setup text (setup_in text)
unfolding with_part
with_first text = refl

setup_good : (rows : List Row) (row : Row) (setup : Parts) → IsSetupRow rows row setup → IsGood rows Nothing row (part.Setup row.body)
setup_good rows row setup is = record {
  alone = is.alone;
  tells = (
    setup,
    subst (λ k. IsRowOf setup k row.no row.body (part.Setup row.body)) (sym is.kind_is)
        (subst (λ n. IsRowOf setup 1 n row.body (part.Setup row.body)) (sym is.number_is) (setup_row row.body (setup, is.reads) setup)),
  );
  sprints = tt;
  follows = setup_follows rows row.body;
}

setup_bad : (rows : List Row) (row : Row) → ((setup : Parts) → ¬ IsSetupRow rows row setup) → (p : Part) → ¬ IsGood rows Nothing row p
setup_bad rows row none p good =
    let first = first_row rows row p good in
    none first.setup (record { alone = good.alone; kind_is = first.kind_is; number_is = first.number_is; reads = first.reads })

pub setup_leads : (rows : List Row) (row : Row) (text : List ℕ) (setup : Parts) → InOrder rows → StandsAt rows 0 row → ¬ IsAhead 1 0 row → IsSetupRow rows row setup
    → text ≡ row.body → IsReadTo rows 1 (HasSetup text setup)
setup_leads rows row text setup ordered there timely is own =
    subst (λ (t : List ℕ). IsReadTo rows 1 (HasSetup t setup)) (sym own)
    (subst (IsReadTo rows 1) (with_first row.body ∙ ap (with_setup row.body) is.reads)
    (leads_on rows 0 Nothing row (part.Setup row.body) (read_none rows ordered) there timely (setup_good rows row setup is)))

pub setup_missing : (rows : List Row) → InOrder rows → All (IsAhead 1 0) (drop 0 rows) → IsFirstBad rows 1 0
setup_missing rows ordered behind = missing rows 0 Nothing 1 0 (read_none rows ordered) refl behind

pub no_setup_first : (rows : List Row) (row : Row) → InOrder rows → StandsAt rows 0 row → ¬ IsAhead 1 0 row → ((setup : Parts) → ¬ IsSetupRow rows row setup)
    → IsFirstBad rows row.kind row.no
no_setup_first rows row ordered there timely none = bad_first rows 0 Nothing row (read_none rows ordered) there timely (setup_bad rows row none)

-- ---- a part behind it

-- the names that rows are spelled by
abbrev pub setup_of : Gathered → Parts → Type 0
setup_of Nothing setup = ⊥
setup_of (HasSetup text own) setup = own ≡ setup
setup_of (Stands format told m) setup = m.setup ≡ setup

good_of : (rows : List Row) (g : Gathered) (setup : Parts) (row : Row) (p : Part) → setup_of g setup → IsOwnPart rows setup row p → MayFollow rows g p → IsGood rows g row p
good_of rows Nothing setup row p is own follows = absurd is
good_of rows (HasSetup text s) setup row p is own follows =
    record { alone = own.alone; tells = subst (λ s. IsRowOf s row.kind row.no row.body p) (sym is) own.tells; sprints = own.sprints; follows = follows }
good_of rows (Stands format told m) setup row p is own follows =
    record { alone = own.alone; tells = subst (λ s. IsRowOf s row.kind row.no row.body p) (sym is) own.tells; sprints = own.sprints; follows = follows }

own_of_good : (rows : List Row) (g : Gathered) (setup : Parts) (row : Row) (p : Part) → setup_of g setup → IsGood rows g row p → IsOwnPart rows setup row p
own_of_good rows Nothing setup row p is good = absurd is
own_of_good rows (HasSetup text s) setup row p is good =
    record { alone = good.alone; tells = subst (λ s. IsRowOf s row.kind row.no row.body p) is good.tells; sprints = good.sprints }
own_of_good rows (Stands format told m) setup row p is good =
    record { alone = good.alone; tells = subst (λ s. IsRowOf s row.kind row.no row.body p) is good.tells; sprints = good.sprints }

module _ (rows : List Row) (place : ℕ) (g : Gathered) (setup : Parts) (row : Row) (is : IsReadTo rows place g) (names : setup_of g setup) (there : StandsAt rows place row)
    (timely : IsInTime g row) where
  -- a row that is no part's is bad
  pub none_own : ((p : Part) → ¬ IsOwnPart rows setup row p) → IsFirstBad rows row.kind row.no
  none_own none = bad_first rows place g row is there timely (λ p good. none p (own_of_good rows g setup row p names good))

  -- so is one whose part doesn't follow
  pub not_following : (p : Part) → IsOnlyPart rows setup row p → ¬ MayFollow rows g p → IsFirstBad rows row.kind row.no
  not_following p own broken =
      bad_first rows place g row is there timely
      (λ q good. broken (subst (MayFollow rows g) (own.only q (own_of_good rows g setup row q names good)) good.follows))

  pub follows_on : (p : Part) → IsOnlyPart rows setup row p → MayFollow rows g p → IsReadTo rows (place + 1) (with_part g p)
  follows_on p own follows = leads_on rows place g row p is there timely (good_of rows g setup row p names own.own follows)

-- ---- present

module _ (rows : List Row) (text : List ℕ) (setup : Parts) (is : IsReadTo rows 1 (HasSetup text setup)) where
  pub present_missing : All (IsAhead 2 0) (drop 1 rows) → IsFirstBad rows 2 0
  present_missing behind = missing rows 1 (HasSetup text setup) 2 0 is refl behind

  pub present_bad : (row : Row) → StandsAt rows 1 row → ¬ IsAhead 2 0 row → ((p : Part) → ¬ IsOwnPart rows setup row p) → IsFirstBad rows row.kind row.no
  present_bad row there timely none = none_own rows 1 (HasSetup text setup) setup row is refl there timely none

  pub not_present : (row : Row) (p : Part) → StandsAt rows 1 row → ¬ IsAhead 2 0 row → IsOnlyPart rows setup row p
      → ((t : List ℕ) (s : Parts) → ¬ MayFollow rows (HasSetup t s) p) → IsFirstBad rows row.kind row.no
  not_present row p there timely own broken = not_following rows 1 (HasSetup text setup) setup row is refl there timely p own (broken text setup)

  pub present_leads : (row : Row) (p : Part) (format : Format) (balance : Balance) (change moment : ℕ) → StandsAt rows 1 row → ¬ IsAhead 2 0 row → IsOnlyPart rows setup row p
      → ((t : List ℕ) (s : Parts) → IsStanding rows t s p format balance change moment) → IsReadTo rows 2 (Stands format 0 (standing text setup balance change moment))
  present_leads row p format balance change moment there timely own stands =
      let standing_is = stands text setup in
      subst (IsReadTo rows 2) standing_is.leads (follows_on rows 1 (HasSetup text setup) setup row is refl there timely p own standing_is.follows)

-- the part of present that agrees with the rows
pub present_stands : (rows : List Row) (text : List ℕ) (setup : Parts) (balance : Balance) (change : ℕ) (format : Format) (moment : ℕ) → change ≤ changes_in rows
    → IsStanding rows text setup (part.Present balance change format moment) format balance change moment
unfolding MayFollow with_part
present_stands rows text setup balance change format moment counted = record { follows = record { counted = counted }; leads = refl }

pub present_counted : (rows : List Row) (text : List ℕ) (setup : Parts) (balance : Balance) (change : ℕ) (format : Format) (moment : ℕ)
    → MayFollow rows (HasSetup text setup) (part.Present balance change format moment) → change ≤ changes_in rows
unfolding MayFollow
present_counted rows text setup balance change format moment may = may.counted

-- no other part follows the setup
pub only_present : (rows : List Row) (text : List ℕ) (setup : Parts) (p : Part)
    → ((balance : Balance) (change : ℕ) (format : Format) (moment : ℕ) → p ≡ part.Present balance change format moment → ⊥)
    → MayFollow rows (HasSetup text setup) p → ⊥
unfolding MayFollow
only_present rows text setup (part.Present balance change format moment) other may = other balance change format moment refl
only_present rows text setup (part.Setup own) other may = may
only_present rows text setup (part.Issue issue key change at author values) other may = may
only_present rows text setup (part.Group issue group) other may = may
only_present rows text setup (part.Rank issue rank) other may = may
only_present rows text setup (part.External issue external) other may = may
only_present rows text setup (part.Sprint sprint_no sprint) other may = may
only_present rows text setup (part.Filter filter_no owner name jql) other may = may
only_present rows text setup (part.Board board_no name filter) other may = may
only_present rows text setup (part.Members group members) other may = may

-- ---- behind present

module _ (rows : List Row) (place : ℕ) (format : Format) (told : ℕ) (m : Machine) (row : Row) (is : IsReadTo rows place (Stands format told m)) (there : StandsAt rows place row)
    (timely : IsInTime (Stands format told m) row) where
  pub row_bad : ((p : Part) → ¬ IsOwnPart rows m.setup row p) → IsFirstBad rows row.kind row.no
  row_bad none = none_own rows place (Stands format told m) m.setup row is refl there timely none

  pub row_not_joined : (p : Part) → IsOnlyPart rows m.setup row p → ¬ MayJoin format m p → IsFirstBad rows row.kind row.no
  unfolding MayFollow
  row_not_joined p own broken = not_following rows place (Stands format told m) m.setup row is refl there timely p own broken

  pub row_joined : (p : Part) → IsOnlyPart rows m.setup row p → MayJoin format m p → IsReadTo rows (place + 1) (Stands format (told_with told p) (joined m p))
  unfolding MayFollow with_part
  row_joined p own may = follows_on rows place (Stands format told m) m.setup row is refl there timely p own may
