-- What a plan, and an edit, give fits.
use Rattle.std.proofs.Common.{◌≡◌, ◌≢◌, ◌==◌, ℕ, zero, suc, min, ◌<◌, List, [], ◌∷◌, ◌++◌, length, map, Bool, true, false, not, nat_lt, refl, sym, ap, ◌∙◌, subst, arith, Option, Some, None, option_map}
use Rattle.std.specs.Prelude.{if◌then◌else◌, filter, slice_get, option_and_then, ◌||◌}
use Rattle.std.specs.Option.{option_or, option_map_or}
use Rattle.std.proofs.lemmas.Bool.{eqb-true, eqb-false, ne_eqb, lt-ltb}
use Rattle.field_values.specs.declared.numbers.UserNo.{UserNo}
use Rattle.field_values.specs.declared.numbers.ChoiceNo.{ChoiceNo}
use Rattle.field_values.specs.declared.numbers.FieldNo.{FieldNo}
use Rattle.field_values.specs.declared.value.Value.{Value}
use Rattle.field_values.specs.declared.value.Value.TheVariants as value
use Rattle.field_values.specs.declared.rules.PostFunction.{PostFunction}
use Rattle.field_values.specs.declared.rules.PostFunction.TheVariants.{Set, Clear, AssignCaller, AssignReporter, AssignLead, Resolution}
use Rattle.field_values.specs.declared.parts.Project.{Project}
use Rattle.field_values.specs.declared.parts.Transition.{Transition}
use Rattle.field_values.specs.declared.status.Status.{Status}
use Rattle.field_values.specs.Parts.{Parts}
use Rattle.field_forms.specs.Known.{Names, form_of, choices_of, fits}
use Rattle.fields.specs.SetupParts.{names_in}
use Rattle.change_history.specs.declared.change.Change.{Change}
use Rattle.change_history.specs.History.{History, present}
use Rattle.workflow.specs.declared.fault.PlanFault.{PlanFault}
use Rattle.field_values.specs.declared.numbers.TheConstants.FieldNo.{STATUS as status, REPORTER as reporter}
use Rattle.workflow.specs.Net.{last_value, with_changes, put_change, put_changes, is_news, net_changes}
use Rattle.workflow.specs.Inputs.{is_refused, least_with, refused_input}
use Rattle.workflow.specs.Conditions.{project_number}
use Rattle.workflow.specs.PostFunctions.{change, lead_of, post_change, with_post}
use Rattle.workflow.specs.Plan.{first_fault, all_changes, planned}
use Rattle.workflow.specs.Laws.{AllFit, PostFits, AllPostFit, AreLeadsKnown, IsSoundTransition, EditFits, PlanFits}
use Rattle.workflow.proofs.Differing.{net_is}
use Rattle.workflow.specs.Difference.{AreNews}

-- ---- inputs that aren't refused

least_there : (ns : List ℕ) (n : ℕ) → least_with (Some n) ns ≡ None → ⊥
least_there [] n none = cc
least_there (m ∷ ms) n none = least_there ms (min n m) none

abbrev NoneOfStatus : List Change → Type 0
NoneOfStatus [] = Unit {0}
NoneOfStatus (c ∷ cs) = (c.field.0 ≢ 4) × NoneOfStatus cs

-- the parts of a test that fails
neither : (a b : Bool) → (a || not b) ≡ false → (a ≡ false) × (b ≡ true)
neither false true e = (refl, refl)
neither true b e = absurd (cc e)
neither false false e = absurd (cc e)

abbrev field_numbers : List Change → List ℕ
field_numbers cs = map (λ c. c.field.0) cs

fit_step : (names : Names) (c : Change) (cs : List Change) (refused : Bool) → is_refused names c ≡ refused
    → least_with None (field_numbers (if refused then c ∷ filter (is_refused names) cs else filter (is_refused names) cs)) ≡ None
    → (least_with None (field_numbers (filter (is_refused names) cs)) ≡ None → AllFit names cs × NoneOfStatus cs)
    → AllFit names (c ∷ cs) × NoneOfStatus (c ∷ cs)
fit_step names c cs true is none more = absurd (least_there (field_numbers (filter (is_refused names) cs)) c.field.0 none)
fit_step names c cs false is none more =
    let parts = neither (c.field.0 == 4) (fits names c.field.0 c.to) is in
    let rest = more none in
    ((parts.1, rest.0), (eqb-false c.field.0 4 parts.0, rest.1))

inputs_fit : (names : Names) (inputs : List Change) → least_with None (field_numbers (filter (is_refused names) inputs)) ≡ None → AllFit names inputs × NoneOfStatus inputs
inputs_fit names [] none = (tt, tt)
inputs_fit names (c ∷ cs) none = fit_step names c cs (is_refused names c) refl none (inputs_fit names cs)

pub unrefused_fit : (names : Names) (inputs : List Change) → refused_input names inputs ≡ None → AllFit names inputs × NoneOfStatus inputs
unfolding refused_input
unrefused_fit names inputs none = inputs_fit names inputs none

-- ---- changes that fit stay so

AllFit-append : (names : Names) (xs ys : List Change) → AllFit names xs → AllFit names ys → AllFit names (xs ++ ys)
AllFit-append names [] ys one other = other
AllFit-append names (x ∷ xs) ys one other = (one.0, AllFit-append names xs ys one.1 other)

put_fit_step : (names : Names) (d : Change) (ds : List Change) (c : Change) (below same : Bool) → AllFit names (d ∷ ds) → fits names c.field.0 c.to ≡ true → AllFit names (put_change ds c)
    → AllFit names (if below then d ∷ put_change ds c else if same then c ∷ ds else c ∷ d ∷ ds)
put_fit_step names d ds c true same fit new more = (fit.0, more)
put_fit_step names d ds c false true fit new more = (new, fit.1)
put_fit_step names d ds c false false fit new more = (new, fit)

AllFit-put : (names : Names) (cs : List Change) (c : Change) → AllFit names cs → fits names c.field.0 c.to ≡ true → AllFit names (put_change cs c)
AllFit-put names [] c fit new = (new, tt)
AllFit-put names (d ∷ ds) c fit new =
    put_fit_step names d ds c (nat_lt d.field.0 c.field.0) (d.field.0 == c.field.0) fit new (AllFit-put names ds c fit.1 new)

AllFit-puts : (names : Names) (sorted cs : List Change) → AllFit names sorted → AllFit names cs → AllFit names (put_changes sorted cs)
AllFit-puts names sorted [] one other = one
AllFit-puts names sorted (c ∷ cs) one other = AllFit-puts names (put_change sorted c) cs (AllFit-put names sorted c one other.0) other.1

filter_fit_step : (names : Names) (c : Change) (kept : List Change) (news : Bool) → fits names c.field.0 c.to ≡ true → AllFit names kept → AllFit names (if news then c ∷ kept else kept)
filter_fit_step names c kept true new fit = (new, fit)
filter_fit_step names c kept false new fit = fit

AllFit-filter : (names : Names) (test : Change → Bool) (cs : List Change) → AllFit names cs → AllFit names (filter test cs)
AllFit-filter names test [] fit = tt
AllFit-filter names test (c ∷ cs) fit = filter_fit_step names c (filter test cs) (test c) fit.0 (AllFit-filter names test cs fit.1)

AllFit-net : (names : Names) (before : FieldNo → Value) (cs : List Change) → AllFit names cs → AllFit names (net_changes before cs)
unfolding net_changes
AllFit-net names before cs fit = AllFit-filter names (is_news before) (put_changes [] cs) (AllFit-puts names [] cs tt fit)

value_fit_step : (names : Names) (v : Value) (c : Change) (f : FieldNo) (hits : Bool) → (c.field.0 == f.0) ≡ hits → fits names f.0 v ≡ true → fits names c.field.0 c.to ≡ true
    → fits names f.0 (if hits then c.to else v) ≡ true
value_fit_step names v c f true is was new = ap (λ (n : ℕ). fits names n c.to) (sym (eqb-true c.field.0 f.0 is)) ∙ new
value_fit_step names v c f false is was new = was

pub value_fits : (names : Names) (v : Value) (cs : List Change) (f : FieldNo) → fits names f.0 v ≡ true → AllFit names cs → fits names f.0 (last_value v cs f) ≡ true
value_fits names v [] f was fit = was
value_fits names v (c ∷ cs) f was fit =
    value_fits names (if c.field.0 == f.0 then c.to else v) cs f (value_fit_step names v c f (c.field.0 == f.0) refl was fit.0) fit.1

-- ---- the status

no_status : (v : Value) (cs : List Change) → NoneOfStatus cs → last_value v cs status ≡ v
no_status v [] none = refl
no_status v (c ∷ cs) none =
    ap (λ (b : Bool). last_value (if b then c.to else v) cs status) (ne_eqb c.field.0 4 none.0) ∙ no_status v cs none.1

last_value-append : (v : Value) (xs ys : List Change) (f : FieldNo) → last_value v (xs ++ ys) f ≡ last_value (last_value v xs f) ys f
last_value-append v [] ys f = refl
last_value-append v (x ∷ xs) ys f = last_value-append (if x.field.0 == f.0 then x.to else v) xs ys f

-- ---- edits

pub edit_fits : (names : Names) (before : FieldNo → Value) (inputs : List Change) → refused_input names inputs ≡ None → EditFits names before inputs
edit_fits names before inputs none =
    let fit = unrefused_fit names inputs none in
    let changes = AllFit-net names before inputs fit.0 in
    record {
      changes = changes;
      same_status = (net_is before inputs).gives status ∙ no_status (before status) inputs fit.1;
      values = λ f was. value_fits names (before f) (net_changes before inputs) f was changes;
    }

-- ---- what the status and the post functions set

status_fits : (names : Names) (to : ChoiceNo) → to.0 < length names.statuses → fits names 4 (value.Choice to) ≡ true
unfolding fits form_of choices_of
status_fits names to there = lt-ltb to.0 (length names.statuses) there

resolution_fits : (names : Names) (to : ChoiceNo) → to.0 < length names.resolutions → fits names 8 (value.Choice to) ≡ true
unfolding fits form_of choices_of
resolution_fits names to there = lt-ltb to.0 (length names.resolutions) there

user_fits : (names : Names) (user : UserNo) → user.0 < length names.users → fits names 5 (value.User user) ≡ true
unfolding fits form_of choices_of
user_fits names user there = lt-ltb user.0 (length names.users) there

nobody_fits : (names : Names) → fits names 5 value.Empty ≡ true
unfolding fits form_of choices_of
nobody_fits names = refl

-- who may be the reporter may be the assignee
reporter_fits : (names : Names) (v : Value) → fits names 6 v ≡ true → fits names 5 v ≡ true
unfolding fits form_of choices_of
reporter_fits names value.Empty fit = refl
reporter_fits names (value.User u) fit = fit
reporter_fits names (value.Text x) fit = fit
reporter_fits names (value.Number x) fit = fit
reporter_fits names (value.Choice x) fit = fit
reporter_fits names (value.Date x) fit = fit
reporter_fits names (value.Set x) fit = fit
reporter_fits names (value.Labels x) fit = fit
reporter_fits names (value.Sprint x) fit = fit

-- the lead of a project that is there is a user
lead_known : (users : ℕ) (projects : List Project) (n : ℕ) (p : Project) → AreLeadsKnown users projects → slice_get projects n ≡ Some p → p.lead.0 < users
lead_known users [] n p known at = absurd (cc at)
lead_known users (q ∷ qs) zero p known at = let same : q ≡ p = cc in subst (λ (r : Project). r.lead.0 < users) same known.0
lead_known users (q ∷ qs) (suc n) p known at = lead_known users qs n p known.1 at

lead_fits_at : (names : Names) (projects : List Project) (place : Option ℕ) (found : Option Project) → AreLeadsKnown (length names.users) projects
    → option_and_then (slice_get projects) place ≡ found → fits names 5 (option_map_or (λ p. value.User p.lead) found value.Empty) ≡ true
lead_fits_at names projects place None known is = nobody_fits names
lead_fits_at names projects None (Some p) known is = absurd (cc is)
lead_fits_at names projects (Some n) (Some p) known is = user_fits names p.lead (lead_known (length names.users) projects n p known is)

lead_fits : (setup : Parts) (h : History) → AreLeadsKnown (length setup.users) setup.project → fits (names_in setup) 5 (lead_of setup h) ≡ true
unfolding lead_of
lead_fits setup h known =
    lead_fits_at (names_in setup) setup.project (project_number setup h) (option_and_then (slice_get setup.project) (project_number setup h)) known refl

post_fits : (setup : Parts) (h : History) (caller : UserNo) (values : FieldNo → Value) (post : PostFunction)
    → PostFits (names_in setup) post → AreLeadsKnown (length setup.users) setup.project → caller.0 < length setup.users → fits (names_in setup) 6 (values reporter) ≡ true
    → let c = post_change setup h caller values post in (fits (names_in setup) c.field.0 c.to ≡ true) × (c.field.0 ≢ 4)
post_fits setup h caller values (Set field v) fit leads known reports = (fit.1, fit.0)
post_fits setup h caller values (Clear field) fit leads known reports = (fit.1, fit.0)
post_fits setup h caller values AssignCaller fit leads known reports = (user_fits (names_in setup) caller known, (λ e. cc))
post_fits setup h caller values AssignReporter fit leads known reports = (reporter_fits (names_in setup) (values reporter) reports, (λ e. cc))
post_fits setup h caller values AssignLead fit leads known reports = (lead_fits setup h leads, (λ e. cc))
post_fits setup h caller values (Resolution choice) fit leads known reports = (resolution_fits (names_in setup) choice fit, (λ e. cc))

pub posts_fit : (setup : Parts) (h : History) (caller : UserNo) (so_far : List Change) (posts : List PostFunction)
    → AllPostFit (names_in setup) posts → AreLeadsKnown (length setup.users) setup.project → caller.0 < length setup.users → fits (names_in setup) 6 (present h reporter) ≡ true
    → AllFit (names_in setup) so_far
    → AllFit (names_in setup) (with_post setup h caller so_far posts)
    × (last_value (present h status) (with_post setup h caller so_far posts) status ≡ last_value (present h status) so_far status)
posts_fit setup h caller so_far [] fit leads known reports before = (before, refl)
posts_fit setup h caller so_far (post ∷ posts) fit leads known reports before =
    let next = post_change setup h caller (with_changes (present h) so_far) post in
    let now = post_fits setup h caller (with_changes (present h) so_far) post fit.0 leads known (value_fits (names_in setup) (present h reporter) so_far reporter reports before) in
    let more = posts_fit setup h caller (so_far ++ next ∷ []) posts fit.1 leads known reports (AllFit-append (names_in setup) so_far (next ∷ []) before (now.0, tt)) in
    (more.0, more.1 ∙ last_value-append (present h status) so_far (next ∷ []) status ∙ no_status (last_value (present h status) so_far status) (next ∷ []) (now.1, tt))

length-names : (ss : List Status) → length (map (λ s. s.name) ss) ≡ length ss
length-names [] = refl
length-names (s ∷ ss) = omega (arith, length-names ss)

pub all_fit : (setup : Parts) (h : History) (caller : UserNo) (t : Transition) (inputs : List Change)
    → IsSoundTransition setup t → caller.0 < length setup.users → fits (names_in setup) 6 (present h reporter) ≡ true → AllFit (names_in setup) inputs
    → AllFit (names_in setup) (all_changes setup h caller t inputs)
    × (last_value (present h status) (all_changes setup h caller t inputs) status ≡ value.Choice t.to)
unfolding all_changes
all_fit setup h caller t inputs sound known reports fit =
    let to : Change = change status (value.Choice t.to) in
    let there : t.to.0 < length (names_in setup).statuses = omega (arith, sound.to, length-names setup.status) in
    let first = AllFit-append (names_in setup) inputs (to ∷ []) fit (status_fits (names_in setup) t.to there, tt) in
    let posts = posts_fit setup h caller (inputs ++ to ∷ []) t.post sound.post sound.leads known reports first in
    (posts.0, posts.1 ∙ last_value-append (present h status) inputs (to ∷ []) status)

-- ---- plans

none_or : (x y : Option PlanFault) → option_or x y ≡ None → (x ≡ None) × (y ≡ None)
none_or None y none = (refl, none)
none_or (Some x) y none = absurd (cc none)

none_map : {A : Type 0} (f : A → PlanFault) (x : Option A) → option_map f x ≡ None → x ≡ None
none_map f None none = refl
none_map f (Some x) none = absurd (cc none)

nothing_refused : (setup : Parts) (h : History) (caller : UserNo) (t : Transition) (inputs : List Change) (at : ℕ)
    → first_fault setup h caller t inputs at ≡ None → refused_input (names_in setup) inputs ≡ None
unfolding first_fault
nothing_refused setup h caller t inputs at none = none_map _ _ (none_or _ _ (none_or _ _ none).1).0

planned_is : (setup : Parts) (h : History) (caller : UserNo) (t : Transition) (inputs : List Change) → planned setup h caller t inputs ≡ net_changes (present h) (all_changes setup h caller t inputs)
unfolding planned
planned_is setup h caller t inputs = refl

-- the changes of a plan fit, whatever its checks say
pub planned_fit : (setup : Parts) (h : History) (caller : UserNo) (t : Transition) (inputs : List Change)
    → IsSoundTransition setup t → caller.0 < length setup.users → fits (names_in setup) 6 (present h reporter) ≡ true → AllFit (names_in setup) inputs
    → AllFit (names_in setup) (planned setup h caller t inputs)
planned_fit setup h caller t inputs sound known reports fit =
    subst (AllFit (names_in setup)) (sym (planned_is setup h caller t inputs))
    (AllFit-net (names_in setup) (present h) (all_changes setup h caller t inputs) (all_fit setup h caller t inputs sound known reports fit).0)

-- they are each of another value than the present one, by rising field number
pub planned_news : (setup : Parts) (h : History) (caller : UserNo) (t : Transition) (inputs : List Change) → AreNews (present h) 0 (planned setup h caller t inputs)
planned_news setup h caller t inputs =
    subst (AreNews (present h) 0) (sym (planned_is setup h caller t inputs)) (net_is (present h) (all_changes setup h caller t inputs)).news

pub plan_fits : (setup : Parts) (h : History) (caller : UserNo) (t : Transition) (inputs : List Change) (at : ℕ)
    → IsSoundTransition setup t → caller.0 < length setup.users → fits (names_in setup) 6 (present h reporter) ≡ true
    → first_fault setup h caller t inputs at ≡ None → PlanFits setup h caller t inputs
plan_fits setup h caller t inputs at sound known reports none =
    let fit = unrefused_fit (names_in setup) inputs (nothing_refused setup h caller t inputs at none) in
    let all = all_fit setup h caller t inputs sound known reports fit.0 in
    let net = AllFit-net (names_in setup) (present h) (all_changes setup h caller t inputs) all.0 in
    let changes : AllFit (names_in setup) (planned setup h caller t inputs) = subst (AllFit (names_in setup)) (sym (planned_is setup h caller t inputs)) net in
    record {
      changes = changes;
      has_status = ap (λ (cs : List Change). last_value (present h status) cs status) (planned_is setup h caller t inputs)
          ∙ (net_is (present h) (all_changes setup h caller t inputs)).gives status ∙ all.1;
      values = λ f was. value_fits (names_in setup) (present h f) (planned setup h caller t inputs) f was changes;
    }
