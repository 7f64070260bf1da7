-- What the facts of a setup say of its transitions.
use Rattle.std.proofs.Common.{◌≡◌, ◌≢◌, ℕ, List, [], ◌∷◌, length, slice_get, Bool, true, false, nat_lt, Some, sym, ap, subst, ◌∙◌, arith}
use Rattle.std.specs.List.{list_all}
use Rattle.std.proofs.lemmas.Bool.{and_parts}
use Rattle.std.proofs.lemmas.List.Sums.{AllPass-from_list_all}
use Rattle.std.proofs.lemmas.Option.{slice_get_within, get_or_from_slice_get}
use Rattle.field_values.specs.Parts.{Parts}
use Rattle.field_values.specs.declared.parts.Project.{Project}
use Rattle.field_values.specs.declared.parts.Transition.{Transition}
use Rattle.field_values.specs.declared.rules.PostFunction.{PostFunction}
use Rattle.field_values.specs.declared.rules.PostFunction.TheVariants.{Set, Clear, AssignCaller, AssignReporter, AssignLead, Resolution}
use Rattle.field_forms.specs.Known.{Names}
use Rattle.field_forms.specs.Rules.{is_settable}
use Rattle.field_forms.specs.SoundRules.{post_is_sound, rules_are_sound, condition_is_sound, validator_is_sound}
use Rattle.fields.specs.Sound.{part_names, goes_inside, project_is_sound, IsSound}
use Rattle.fields.specs.SetupParts.{names_in}
use Rattle.workflow.specs.Laws.{PostFits, AllPostFit, AreLeadsKnown, IsSoundTransition}

-- the status isn't settable
not_status : (n : ℕ) → is_settable n ≡ true → n ≢ 4
not_status n settable same = refute (subst (λ k. is_settable k ≡ true) same settable) where
  refute : false ≡ true → ⊥
  refute e = cc

post_fits : (names : Names) (post : PostFunction) → post_is_sound names post ≡ true → PostFits names post
post_fits names (Set field v) sound =
    let parts = and_parts (is_settable field.0) _ sound in
    (not_status field.0 parts.0, parts.1)
post_fits names (Clear field) sound =
    let parts = and_parts (is_settable field.0) _ sound in
    (not_status field.0 parts.0, parts.1)
post_fits names AssignCaller sound = tt
post_fits names AssignReporter sound = tt
post_fits names AssignLead sound = tt
post_fits names (Resolution choice) sound = grind (arith, sound)

posts_fit : (names : Names) (posts : List PostFunction) → list_all (post_is_sound names) posts ≡ true → AllPostFit names posts
posts_fit names [] sound = tt
posts_fit names (post ∷ posts) sound =
    let parts = and_parts (post_is_sound names post) _ sound in
    (post_fits names post parts.0, posts_fit names posts parts.1)

leads_known : (users groups : ℕ) (projects : List Project) → list_all (project_is_sound users groups) projects ≡ true → AreLeadsKnown users projects
leads_known users groups [] sound = tt
leads_known users groups (p ∷ ps) sound =
    let parts = and_parts (project_is_sound users groups p) _ sound in
    let lead = and_parts (nat_lt p.lead.0 users) _ parts.0 in
    (grind (arith, lead.0), leads_known users groups ps parts.1)

-- what all of a list pass, the one at a place passes
at_place : {A : Type 0} (p : A → Bool) (xs : List A) (k : ℕ) (x : A) → list_all p xs ≡ true → slice_get xs k ≡ Some x → p x ≡ true
at_place p xs k x all is =
    ap p (sym (get_or_from_slice_get xs k x x is)) ∙ AllPass-from_list_all p xs all k x (slice_get_within xs k x is)

-- a transition of a setup leads to a status of it, and what its post functions set fits
pub sound_transition : (setup : Parts) (place : ℕ) (t : Transition) → IsSound setup → slice_get setup.transition place ≡ Some t → IsSoundTransition setup t
sound_transition setup place t sound is =
    let goes = and_parts (nat_lt t.to.0 (length setup.status)) _ (at_place (goes_inside (length setup.status)) setup.transition place t sound.transitions is) in
    let rules = at_place (rules_are_sound (part_names setup)) setup.transition place t sound.rules is in
    let checks = and_parts (list_all (condition_is_sound (length (part_names setup).groups)) t.conditions) _ rules in
    let posts = and_parts (list_all (validator_is_sound (part_names setup).fields) t.validators) _ checks.1 in
    record {
      to = grind (arith, goes.0);
      post = posts_fit (names_in setup) t.post posts.1;
      leads = leads_known (length setup.users) (length setup.group) setup.project sound.projects;
    }
