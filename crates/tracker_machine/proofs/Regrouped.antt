-- What stays where a group has other members: names, and what texts ask for.
use Rattle.std.proofs.Common.{◌≡◌, ℕ, zero, suc, ◌-◌, ◌≤◌, true, List, [], ◌∷◌, ◌++◌, length, refl, ap, ◌∙◌, arith}
use Rattle.std.specs.List.{list_all}
use Rattle.std.proofs.lemmas.Bool.{and_parts}
use Rattle.std.proofs.lemmas.List.{length-map}
use Rattle.std.proofs.lemmas.List.Elements.{All-nil, All-cons, All-head, All-tail}
use Rattle.field_values.specs.declared.numbers.GroupNo.{GroupNo}
use Rattle.field_values.specs.declared.numbers.UserNo.{UserNo}
use Rattle.field_values.specs.declared.parts.Group.{Group}
use Rattle.field_values.specs.GroupMembers.{with_members, is_user_list}
use Rattle.field_values.specs.Parts.{Parts}
use Rattle.field_values.proofs.Members.{same_names}
use Rattle.field_forms.specs.Known.{Names}
use Rattle.fields.specs.Sound.{has_members_in, IsSound}
use Rattle.fields.specs.SetupParts.{names_in}
use Rattle.change_history.specs.History.{History}
use Rattle.jql_syntax.specs.Either.{QueryOrFault, text_is, text_has}
use Rattle.jql_syntax.proofs.Total.{text_decided}
use Rattle.jql_grammar.specs.Binding.{bound_in}
use Rattle.jql_grammar.specs.Scope.{Scope, scope_by}
use Rattle.board.specs.declared.board.Board.{Board}
use Rattle.tracker_machine.specs.Query.{bound_or_fault, asked_by, asked}
use Rattle.tracker_machine.specs.Saved.{SavedFilter, IsFilter, AreSaved}
use Rattle.tracker_machine.specs.Tracker.{AreKeyed, HaveUsers}
use Rattle.tracker_machine.specs.Effect.{regrouped}
use Rattle.tracker_machine.proofs.Saved.{all_then}

-- ---- users in groups

-- a setup that is read has users in its groups
pub users_in_groups : (users : ℕ) (groups : List Group) → list_all (has_members_in users) groups ≡ true → HaveUsers users groups
users_in_groups users [] all = All-nil (λ g. is_user_list users g.members ≡ true)
users_in_groups users (g ∷ gs) all =
    let parts = and_parts (has_members_in users g) (list_all (has_members_in users) gs) all in
    All-cons (λ g. is_user_list users g.members ≡ true) g gs parts.0 (users_in_groups users gs parts.1)

pub users_of_sound : (setup : Parts) → IsSound setup → HaveUsers (length setup.users) setup.group
users_of_sound setup sound = users_in_groups (length setup.users) setup.group sound.members

-- and at most 100 groups
pub groups_of_sound : (setup : Parts) → IsSound setup → length setup.group ≤ 100
groups_of_sound setup sound = omega (arith, length-map setup.group (λ g. g.name), sound.groups.few)

-- a group that has other users of the setup
pub have_users_set : (users : ℕ) (groups : List Group) (place : ℕ) (members : List UserNo) → is_user_list users members ≡ true → HaveUsers users groups
    → HaveUsers users (with_members groups place members)
have_users_set users [] place members listed all = all
have_users_set users (g ∷ gs) zero members listed all =
    All-cons (λ g. is_user_list users g.members ≡ true) (record { name = g.name; members = members }) gs listed
    (All-tail (λ g. is_user_list users g.members ≡ true) g gs all)
have_users_set users (g ∷ gs) (suc place) members listed all =
    All-cons (λ g. is_user_list users g.members ≡ true) g (with_members gs place members)
    (All-head (λ g. is_user_list users g.members ≡ true) g gs all)
    (have_users_set users gs place members listed (All-tail (λ g. is_user_list users g.members ≡ true) g gs all))

module _ (setup : Parts) (group : GroupNo) (members : List UserNo) where
  -- ---- names

  pub names_regrouped : names_in (regrouped setup group members) ≡ names_in setup
  names_regrouped =
      ap (λ (names : List (List ℕ)). let all : Names = record (names_in setup) { groups = names } in all) (same_names setup.group (group.0 - 1) members)

  -- ---- queries

  pub scope_regrouped : (user : UserNo) → scope_by (regrouped setup group members) user ≡ scope_by setup user
  scope_regrouped user = ap (λ (names : Names). let scope : Scope = record (scope_by setup user) { names = names } in scope) names_regrouped

  pub asked_regrouped : (user : ℕ) (text : List ℕ) → asked (regrouped setup group members) user text ≡ asked setup user text
  unfolding asked
  asked_regrouped user text = by (text_decided text) where
    by : (it : QueryOrFault text) → asked_by (regrouped setup group members) user text it ≡ asked_by setup user text it
    by (text_is q keys is) = ap (λ (scope : Scope). bound_or_fault (bound_in scope q keys)) (scope_regrouped (record { 0 = user }))
    by (text_has place kind is) = refl

  -- ---- filters and boards

  filter_regrouped : (f : SavedFilter) → IsFilter setup f → IsFilter (regrouped setup group members) f
  filter_regrouped f is = record {
    small = is.small;
    owned = is.owned;
    named = is.named;
    query = is.query;
    asks = asked_regrouped f.owner.0 f.text ∙ is.asks;
  }

  pub saved_regrouped : (fs : List SavedFilter) (bs : List Board) → AreSaved setup fs bs → AreSaved (regrouped setup group members) fs bs
  saved_regrouped fs bs are = record {
    rising = are.rising;
    names = are.names;
    few = are.few;
    each = all_then (IsFilter setup) (IsFilter (regrouped setup group members)) fs filter_regrouped are.each;
    rising_boards = are.rising_boards;
    few_boards = are.few_boards;
    each_board = are.each_board;
  }

  -- ---- keys

  pub keyed_regrouped : (before hs : List History) → AreKeyed setup before hs → AreKeyed (regrouped setup group members) before hs
  keyed_regrouped before [] keyed = tt
  keyed_regrouped before (h ∷ hs) keyed = (keyed.0, keyed_regrouped (before ++ h ∷ []) hs keyed.1)
