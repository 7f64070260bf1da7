-- What holds of a setup that is read, from its checks having found no fault.
use Rattle.std.proofs.Common.{◌≡◌, ℕ, zero, suc, List, [], ◌∷◌, length, map, true, Option, Some, None, Result, Ok, subst, refl, ap, sym, arith, ℤ}
use Rattle.std.specs.List.{list_all}
use Rattle.std.proofs.lemmas.Bool.{and_parts}
use Rattle.toml.specs.Data.{Members}
use Rattle.setup_drafts.specs.declared.fault.SetupFault.{SetupFault}
use Rattle.field_values.specs.declared.parts.Group.{Group}
use Rattle.field_values.specs.declared.numbers.UserNo.{UserNo}
use Rattle.setup_reading.specs.Resolving.{resolve_fault}
use Rattle.field_forms.specs.Known as known
use Rattle.toml.specs.Parse.{parse_document}
use Rattle.field_values.specs.Parts.{Parts}
use Rattle.setup_reading.specs.Reading.{parts_in, parts_or_fault, fault_or, first_fault, setup_in}
use Rattle.field_values.specs.GroupMembers.{is_user_list, with_members}
use Rattle.fields.specs.Sound.{has_members_in, IsSound}
use Rattle.setup_drafts.specs.Drafts.{draft_fault, tables_of, draft_of}
use Rattle.fields.proofs.Facts.{none_first, none_second}
use Rattle.field_values.proofs.Members.{same_names, same_length}
use Rattle.field_forms.specs.SoundRules.{rules_are_sound}
use Rattle.fields.specs.Sound.{part_names}
use Rattle.fields.proofs.DraftFacts.{users_are_right, types_are_right, priorities_are_right, resolutions_are_right, versions_are_right, groups_are_right, keys_are_right, statuses_are_right, transition_names_are_right, own_names_are_right, numbers_are_distinct, numbers_are_own, options_are_right, transitions_are_started, transitions_have_few}
use Rattle.fields.proofs.ResolveFacts.{first_is_inside, transitions_are_inside, rebalancer_is_inside, plan_is_inside, administer_is_inside, projects_are_inside, rules_are_inside, members_are_inside, keys_stay, group_names_stay, transition_names_stay, starts_stay, few_stay, tests_are_some, group_count}

pub ok_is : (p q : Parts) (r : Result Parts SetupFault) → r ≡ Ok p → r ≡ Ok q → p ≡ q
ok_is p q r one other = cc

-- what holds of each setup without faults
pub sound_parts : (ms : Members) → first_fault ms ≡ None → IsSound (parts_in ms)
unfolding first_fault parts_in draft_of tables_of
sound_parts ms none =
    let in_draft : draft_fault ms ≡ None = none_first (draft_fault ms) _ none in
    let in_ties : resolve_fault (draft_of ms) ≡ None = none_first (resolve_fault (draft_of ms)) _ (none_second (draft_fault ms) _ none) in
    record {
      users = users_are_right ms in_draft;
      types = types_are_right ms in_draft;
      priorities = priorities_are_right ms in_draft;
      resolutions = resolutions_are_right ms in_draft;
      versions = versions_are_right ms in_draft;
      groups = rw (group_names_stay (draft_of ms)) (groups_are_right ms in_draft);
      keys = rw (keys_stay (draft_of ms)) (keys_are_right ms in_draft);
      statuses = statuses_are_right ms in_draft;
      transition_names = rw (transition_names_stay (draft_of ms)) (transition_names_are_right ms in_draft);
      field_names = own_names_are_right ms in_draft;
      numbers = numbers_are_distinct ms in_draft;
      own_numbers = numbers_are_own ms in_draft;
      options = options_are_right ms in_draft;
      first_status = first_is_inside (draft_of ms) in_ties;
      rebalancer = rebalancer_is_inside (draft_of ms) in_ties;
      plan = rw (group_count (draft_of ms)) (plan_is_inside (draft_of ms) in_ties);
      administer = rw (group_count (draft_of ms)) (administer_is_inside (draft_of ms) in_ties);
      members = members_are_inside (draft_of ms);
      projects = rw (group_count (draft_of ms)) (projects_are_inside (draft_of ms) in_ties);
      transitions = transitions_are_inside (draft_of ms) in_ties;
      starts = starts_stay (draft_of ms) (transitions_are_started ms in_draft);
      tests = tests_are_some (draft_of ms);
      few_rules = few_stay (draft_of ms) (transitions_have_few ms in_draft);
      rules = rules_are_inside (draft_of ms);
    }

-- a setup that a text says is sound
pub sound_setup : (text : List ℕ) (parts : Parts) → setup_in text ≡ Ok parts → IsSound parts
unfolding setup_in parts_or_fault
sound_setup text parts reads = by_document (parse_document text) refl where
  by_fault : (ms : Members) (fault : Option SetupFault) → first_fault ms ≡ fault → fault_or fault (parts_in ms) ≡ Ok parts → IsSound parts
  by_fault ms None e same = subst IsSound (ok_is (parts_in ms) parts (Ok parts) (sym same) refl) (sound_parts ms e)
  by_fault ms (Some fault) e same = absurd (cc)

  by_document : (document : Option Members) → parse_document text ≡ document → IsSound parts
  by_document None e = absurd (grind (arith, e, reads))
  by_document (Some ms) e = by_fault ms (first_fault ms) refl (grind (arith, e, reads))

still_members : (count : ℕ) (groups : List Group) (place : ℕ) (members : List UserNo) → list_all (has_members_in count) groups ≡ true → is_user_list count members ≡ true → list_all (has_members_in count) (with_members groups place members) ≡ true
still_members count [] place members all new = refl
still_members count (group ∷ groups) zero members all new =
    let parts = and_parts (has_members_in count group) (list_all (has_members_in count) groups) all in
    grind (arith, parts, new)
still_members count (group ∷ groups) (suc place) members all new =
    let parts = and_parts (has_members_in count group) (list_all (has_members_in count) groups) all in
    let rest : list_all (has_members_in count) (with_members groups place members) ≡ true = still_members count groups place members parts.1 new in
    grind (arith, parts, rest)

-- a setup stays sound where a group gets members that are some of the users in their order
pub still_sound : (parts : Parts) (place : ℕ) (members : List UserNo) → IsSound parts → is_user_list (length parts.users) members ≡ true → IsSound (record parts { group = with_members parts.group place members })
still_sound parts place members sound new =
    let count : length (with_members parts.group place members) ≡ length parts.group = same_length parts.group place members in
    let called : map (λ g. g.name) (with_members parts.group place members) ≡ map (λ g. g.name) parts.group = same_names parts.group place members in
    let same : part_names parts ≡ part_names (record parts { group = with_members parts.group place members }) = ap (λ (groups : List (List ℕ)). record (part_names parts) { groups = groups }) (sym called) in
    record {
      users = sound.users;
      types = sound.types;
      priorities = sound.priorities;
      resolutions = sound.resolutions;
      versions = sound.versions;
      groups = rw called sound.groups;
      keys = sound.keys;
      statuses = sound.statuses;
      transition_names = sound.transition_names;
      field_names = sound.field_names;
      numbers = sound.numbers;
      own_numbers = sound.own_numbers;
      options = sound.options;
      first_status = sound.first_status;
      rebalancer = sound.rebalancer;
      plan = rw count sound.plan;
      administer = rw count sound.administer;
      members = still_members (length parts.users) parts.group place members sound.members new;
      projects = rw count sound.projects;
      transitions = sound.transitions;
      starts = sound.starts;
      tests = sound.tests;
      few_rules = sound.few_rules;
      rules = subst (λ (names : known.Names). list_all (rules_are_sound names) parts.transition ≡ true) same sound.rules;
    }

-- a setup's offset from UTC says nothing of its names
pub at_offset : (parts : Parts) (minutes : ℤ) → IsSound parts → IsSound (record parts { utc_offset_minutes = minutes })
at_offset parts minutes sound = record {
  users = sound.users;
  types = sound.types;
  priorities = sound.priorities;
  resolutions = sound.resolutions;
  versions = sound.versions;
  groups = sound.groups;
  keys = sound.keys;
  statuses = sound.statuses;
  transition_names = sound.transition_names;
  field_names = sound.field_names;
  numbers = sound.numbers;
  own_numbers = sound.own_numbers;
  options = sound.options;
  first_status = sound.first_status;
  rebalancer = sound.rebalancer;
  plan = sound.plan;
  administer = sound.administer;
  members = sound.members;
  projects = sound.projects;
  transitions = sound.transitions;
  starts = sound.starts;
  tests = sound.tests;
  few_rules = sound.few_rules;
  rules = sound.rules;
}
