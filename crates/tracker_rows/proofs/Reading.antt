-- A row is the row of one part, and so rows lead to one thing.
use Rattle.std.proofs.Common.{◌≡◌, ℕ, ◌-◌, true, List, [], ◌∷◌, ◌++◌, length, Result, Ok, Err, refl, sym, ap, ◌∙◌, subst}
use Rattle.field_values.specs.declared.numbers.GroupNo.{GroupNo}
use Rattle.field_values.specs.declared.numbers.UserNo.{UserNo}
use Rattle.field_values.specs.Parts.{Parts}
use Rattle.field_values.specs.GroupMembers.{is_user_list, with_members}
use Rattle.field_values.proofs.Members.{same_names}
use Rattle.setup_drafts.specs.declared.fault.SetupFault.{SetupFault}
use Rattle.setup_reading.specs.Reading.{setup_in}
use Rattle.fields.specs.Sound.{IsSound}
use Rattle.fields.specs.SetupParts.{names_in}
use Rattle.fields.proofs.Sound.{sound_setup, still_sound}
use Rattle.tracker_keeper.specs.declared.row.Row.{Row}
use Rattle.tracker_keeper.specs.declared.part.Format.{Format}
use Rattle.tracker_keeper.specs.declared.part.Format.TheVariants.{First, Second}
use Rattle.tracker_keeper.specs.declared.part.Part.{Part}
use Rattle.tracker_keeper.specs.declared.part.Part.TheVariants as part
use Rattle.tracker_keeper.specs.Bodies.{body_text}
use Rattle.tracker_keeper.specs.Kept.{IsPart, IsRowOf}
use Rattle.tracker_keeper.proofs.RowsBack.{tells_its_part}
use Rattle.tracker_machine.specs.Machine.{Machine}
use Rattle.tracker_machine.specs.Effect.{regrouped}
use Rattle.tracker_machine.specs.Members.{IsSetupOf}
use Rattle.tracker_machine.proofs.Regrouped.{names_regrouped}
use Rattle.tracker_rows.specs.Gathered.{Gathered, joined, with_part, with_setup}
use Rattle.tracker_rows.specs.Gathered.Gathered.{Nothing, HasSetup, Stands}
use Rattle.tracker_rows.specs.Rules.{MayJoin, MayFollow}
use Rattle.tracker_rows.specs.Loading.{Tells, IsGood, AreRead}

-- ---- the setup

-- the setup that rows of a format lead to is sound and that of its text, but for who is in its groups; in rows of the first format
-- it is all that of its text
pub record IsHeld (format : Format) (text : List ℕ) (setup : Parts) : Type 0 where
  pub of_text : IsSetupOf text setup
  pub sound : IsSound setup
  pub first : format ≡ First → setup_in text ≡ Ok setup

abbrev pub HasItsSetup : Gathered → Type 0
HasItsSetup Nothing = Unit {0}
HasItsSetup (HasSetup text setup) = setup_in text ≡ Ok setup
HasItsSetup (Stands format told m) = IsHeld format m.text m.setup

-- as it is read
pub held_at_first : (format : Format) (text : List ℕ) (setup : Parts) → setup_in text ≡ Ok setup → IsHeld format text setup
held_at_first format text setup reads = record {
  of_text = record { written = setup; reads = reads; same = refl; groups = refl };
  sound = sound_setup text setup reads;
  first = λ is. reads;
}

-- and where a row tells a group's members
held_regrouped : (format : Format) (text : List ℕ) (setup : Parts) (group : GroupNo) (members : List UserNo) → format ≡ Second
    → is_user_list (length setup.users) members ≡ true → IsHeld format text setup → IsHeld format text (regrouped setup group members)
held_regrouped format text setup group members second listed held = record {
  of_text = record {
    written = held.of_text.written;
    reads = held.of_text.reads;
    same = ap (λ (s : Parts). record s { group = with_members setup.group (group.0 - 1) members }) held.of_text.same;
    groups = same_names setup.group (group.0 - 1) members ∙ held.of_text.groups;
  };
  sound = still_sound setup (group.0 - 1) members held.sound listed;
  first = λ is. absurd (differ (sym is ∙ second));
}
  where
    differ : First ≡ Second → ⊥
    differ is = cc

-- names don't depend on members
pub names_stay : (m : Machine) (p : Part) → names_in (joined m p).setup ≡ names_in m.setup
unfolding joined
names_stay m (part.Setup text) = refl
names_stay m (part.Present balance change format moment) = refl
names_stay m (part.Issue issue key change at author values) = refl
names_stay m (part.Group issue group) = refl
names_stay m (part.Rank issue rank) = refl
names_stay m (part.External issue external) = refl
names_stay m (part.Sprint sprint_no sprint) = refl
names_stay m (part.Filter filter_no owner name jql) = refl
names_stay m (part.Board board_no name filter) = refl
names_stay m (part.Members group members) = names_regrouped m.setup group members

held_joined : (format : Format) (m : Machine) (p : Part) → MayJoin format m p → IsPart m.setup p → IsHeld format m.text m.setup
    → IsHeld format (joined m p).text (joined m p).setup
unfolding joined MayJoin IsPart
held_joined format m (part.Setup text) may form held = held
held_joined format m (part.Present balance change other moment) may form held = held
held_joined format m (part.Issue issue key change at author values) may form held = held
held_joined format m (part.Group issue group) may form held = held
held_joined format m (part.Rank issue rank) may form held = held
held_joined format m (part.External issue external) may form held = held
held_joined format m (part.Sprint sprint_no sprint) may form held = held
held_joined format m (part.Filter filter_no owner name jql) may form held = held
held_joined format m (part.Board board_no name filter) may form held = held
held_joined format m (part.Members group members) may form held = held_regrouped format m.text m.setup group members may form.listed held

own_setup : (text : List ℕ) (r : Result Parts SetupFault) → setup_in text ≡ r → HasItsSetup (with_setup text r)
own_setup text (Ok setup) is = is
own_setup text (Err fault) is = tt

-- the first part is a setup, and the second one present
first_kept : (rows : List Row) (p : Part) → MayFollow rows Nothing p → HasItsSetup (with_part Nothing p)
unfolding with_part MayFollow
first_kept rows (part.Setup text) may = own_setup text (setup_in text) refl
first_kept rows (part.Present balance change format moment) may = absurd may
first_kept rows (part.Issue issue key change at author values) may = absurd may
first_kept rows (part.Group issue group) may = absurd may
first_kept rows (part.Rank issue rank) may = absurd may
first_kept rows (part.External issue external) may = absurd may
first_kept rows (part.Sprint sprint_no sprint) may = absurd may
first_kept rows (part.Filter filter_no owner name jql) may = absurd may
first_kept rows (part.Board board_no name filter) may = absurd may
first_kept rows (part.Members group members) may = absurd may

second_kept : (rows : List Row) (text : List ℕ) (setup : Parts) (p : Part) → setup_in text ≡ Ok setup → MayFollow rows (HasSetup text setup) p
    → HasItsSetup (with_part (HasSetup text setup) p)
unfolding with_part MayFollow
second_kept rows text setup (part.Present balance change format moment) own may = held_at_first format text setup own
second_kept rows text setup (part.Setup other) own may = absurd may
second_kept rows text setup (part.Issue issue key change at author values) own may = absurd may
second_kept rows text setup (part.Group issue group) own may = absurd may
second_kept rows text setup (part.Rank issue rank) own may = absurd may
second_kept rows text setup (part.External issue external) own may = absurd may
second_kept rows text setup (part.Sprint sprint_no sprint) own may = absurd may
second_kept rows text setup (part.Filter filter_no owner name jql) own may = absurd may
second_kept rows text setup (part.Board board_no name filter) own may = absurd may
second_kept rows text setup (part.Members group members) own may = absurd may

stands_kept : (rows : List Row) (format : Format) (told : ℕ) (m : Machine) (p : Part) → IsHeld format m.text m.setup
    → MayFollow rows (Stands format told m) p → IsPart m.setup p → HasItsSetup (with_part (Stands format told m) p)
unfolding with_part MayFollow
stands_kept rows format told m p own may form = held_joined format m p may form own

pub setup_kept : (rows : List Row) (g : Gathered) (row : Row) (p : Part) → HasItsSetup g → IsGood rows g row p → HasItsSetup (with_part g p)
setup_kept rows Nothing row p own good = first_kept rows p good.follows
setup_kept rows (HasSetup text setup) row p own good = second_kept rows text setup p own good.follows
setup_kept rows (Stands format told m) row p own good = stands_kept rows format told m p own good.follows good.tells.at.is_part

-- ---- one part

-- before all others stands the setup alone
pub first_is_setup : (rows : List Row) (p : Part) → MayFollow rows Nothing p → (text : List ℕ) × (p ≡ part.Setup text)
unfolding MayFollow
first_is_setup rows (part.Setup text) may = (text, refl)
first_is_setup rows (part.Present balance change format moment) may = absurd may
first_is_setup rows (part.Issue issue key change at author values) may = absurd may
first_is_setup rows (part.Group issue group) may = absurd may
first_is_setup rows (part.Rank issue rank) may = absurd may
first_is_setup rows (part.External issue external) may = absurd may
first_is_setup rows (part.Sprint sprint_no sprint) may = absurd may
first_is_setup rows (part.Filter filter_no owner name jql) may = absurd may
first_is_setup rows (part.Board board_no name filter) may = absurd may
first_is_setup rows (part.Members group members) may = absurd may

-- its body is its text
pub setup_body : (setup : Parts) (kind number : ℕ) (body text : List ℕ) → IsRowOf setup kind number body (part.Setup text) → text ≡ body
unfolding body_text
setup_body setup kind number body text is = is.text_is

pub body_is_setup : (rows : List Row) (row : Row) (p : Part) → MayFollow rows Nothing p → Tells Nothing row p → p ≡ part.Setup row.body
body_is_setup rows row p may tells =
    let first = first_is_setup rows p may in
    first.1 ∙ ap part.Setup (setup_body tells.0 row.kind row.no row.body first.0 (subst (IsRowOf tells.0 row.kind row.no row.body) first.1 tells.1))

pub one_part : (rows : List Row) (g : Gathered) (row : Row) (p q : Part) → HasItsSetup g → IsGood rows g row p → IsGood rows g row q → p ≡ q
one_part rows Nothing row p q own one other = body_is_setup rows row p one.follows one.tells ∙ sym (body_is_setup rows row q other.follows other.tells)
one_part rows (HasSetup text setup) row p q own one other =
    tells_its_part setup (sound_setup text setup own) row.kind row.no row.body p q one.tells other.tells
one_part rows (Stands format told m) row p q own one other =
    tells_its_part m.setup own.sound row.kind row.no row.body p q one.tells other.tells

-- ---- rows one after the other

-- they lead to one thing
pub read_one : (rows : List Row) (g : Gathered) (list : List Row) (one other : Gathered) → HasItsSetup g → AreRead rows g list one → AreRead rows g list other
    → one ≡ other
read_one rows g [] one other own a b = a ∙ sym b
read_one rows g (row ∷ more) one other own a b =
    let same : b.1.0 ≡ a.1.0 = one_part rows g row b.1.0 a.1.0 own b.1.1 a.1.1 in
    read_one rows (with_part g a.1.0) more one other (setup_kept rows g row a.1.0 own a.1.1) a.1.2
    (subst (λ p. AreRead rows (with_part g p) more other) same b.1.2)

-- what comes of a front leads on to the end
pub read_on : (rows : List Row) (g : Gathered) (front left : List Row) (mid after : Gathered) → HasItsSetup g → AreRead rows g front mid
    → AreRead rows g (front ++ left) after → AreRead rows mid left after
read_on rows g [] left mid after own first all = subst (λ h. AreRead rows h left after) (sym first) all
read_on rows g (row ∷ front) left mid after own first all =
    let same : all.1.0 ≡ first.1.0 = one_part rows g row all.1.0 first.1.0 own all.1.1 first.1.1 in
    read_on rows (with_part g first.1.0) front left mid after (setup_kept rows g row first.1.0 own first.1.1) first.1.2
    (subst (λ p. AreRead rows (with_part g p) (front ++ left) after) same all.1.2)

-- and keeps the setup that its text says
pub setup_read : (rows : List Row) (g : Gathered) (list : List Row) (after : Gathered) → HasItsSetup g → AreRead rows g list after → HasItsSetup after
setup_read rows g [] after own read = subst HasItsSetup (sym read) own
setup_read rows g (row ∷ more) after own read =
    setup_read rows (with_part g read.1.0) more after (setup_kept rows g row read.1.0 own read.1.1) read.1.2
