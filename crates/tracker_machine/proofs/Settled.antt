-- What holds of an issue holds as it opens, and as a group comes.
use Rattle.std.proofs.Common.{◌≡◌, ◌==◌, ℕ, zero, suc, ◌+◌, ◌<◌, ◌≤◌, List, [], ◌∷◌, ◌++◌, length, slice_get, Bool, true, false, Option, Some, IfSome, refl, sym, ap, ◌∙◌, subst, arith, inl, inr}
use Rattle.std.specs.Prelude.{if◌then◌else◌}
use Rattle.std.specs.List.{All}
use Rattle.std.proofs.lemmas.Bool.{eqb-true}
use Rattle.std.proofs.lemmas.Option.{slice_get_within, get_or_from_slice_get}
use Rattle.field_values.specs.declared.numbers.FieldNo.{FieldNo}
use Rattle.field_values.specs.declared.numbers.UserNo.{UserNo}
use Rattle.field_values.specs.declared.value.Value.{Value}
use Rattle.field_forms.specs.Known.{Names, fits}
use Rattle.change_history.specs.declared.change.Change.{Change}
use Rattle.change_history.specs.declared.entry.Entry.{Entry}
use Rattle.change_history.specs.History.{History, opening_value, value_after, present, last_change, last_moment, AreChanges, AreInOrder, AreGroupEntries, MayAdd}
use Rattle.change_history.proofs.Adding.{last_moment-group, IsHistory-add}
use Rattle.workflow.specs.Laws.{AllFit}
use Rattle.tracker_keeper.specs.Forms.{are_opening}
use Rattle.tracker_machine.specs.Tracker.{Holds, IsSettled, AllEntriesFit, AllEntriesHold, AllSmall, AreNamed, AreByUsers}

-- ---- what stands at a place

pub at_place : {A : Type 0} (xs : List A) (k : ℕ) → k < length xs → (x : A) × (slice_get xs k ≡ Some x)
at_place [] k in' = absurd (omega (arith, in'))
at_place (x ∷ xs) zero in' = (x, refl)
at_place (x ∷ xs) (suc k) in' = at_place xs k (omega (arith, in'))

pub from_found : {A : Type 0} (o : Option A) (x : A) (P : A → Type 0) → o ≡ Some x → IfSome o P → P x
from_found o x P is h = subst (λ o. IfSome o P) is h

pub to_found : {A : Type 0} (o : Option A) (x : A) (P : A → Type 0) → o ≡ Some x → P x → IfSome o P
to_found o x P is h = subst (λ o. IfSome o P) (sym is) h

-- ---- values that fit

opening_at : (names : Names) (c : Change) (rest : Value) (f : FieldNo) (b : Bool) → (c.field.0 == f.0) ≡ b → fits names c.field.0 c.to ≡ true → Holds names f rest → Holds names f (if b then c.to else rest)
opening_at names c rest f true is fit more = inr (ap (λ n. fits names n c.to) (sym (eqb-true c.field.0 f.0 is)) ∙ fit)
opening_at names c rest f false is fit more = more

pub opening_holds : (names : Names) (cs : List Change) (f : FieldNo) → AllFit names cs → Holds names f (opening_value cs f)
opening_holds names [] f all = inl refl
opening_holds names (c ∷ cs) f all = opening_at names c (opening_value cs f) f (c.field.0 == f.0) refl all.0 (opening_holds names cs f all.1)

entry_at : (names : Names) (e : Entry) (v : Value) (f : FieldNo) (b : Bool) → (e.field.0 == f.0) ≡ b → fits names e.field.0 e.to ≡ true → Holds names f v → Holds names f (if b then e.to else v)
entry_at names e v f true is fit more = inr (ap (λ n. fits names n e.to) (sym (eqb-true e.field.0 f.0 is)) ∙ fit)
entry_at names e v f false is fit more = more

entries_hold : (names : Names) (v : Value) (es : List Entry) (f : FieldNo) → AllEntriesFit names es → Holds names f v → Holds names f (value_after v es f)
entries_hold names v [] f all here = here
entries_hold names v (e ∷ es) f all here = entries_hold names (if e.field.0 == f.0 then e.to else v) es f all.1 (entry_at names e v f (e.field.0 == f.0) refl all.0 here)

pub value_after-append : (v : Value) (xs ys : List Entry) (f : FieldNo) → value_after v (xs ++ ys) f ≡ value_after (value_after v xs f) ys f
value_after-append v [] ys f = refl
value_after-append v (x ∷ xs) ys f = value_after-append (if x.field.0 == f.0 then x.to else v) xs ys f

-- both sides of a group's entries hold what fits, where the values before them do
group_holds : (names : Names) (values : FieldNo → Value) (low change at : ℕ) (author : UserNo) (es : List Entry)
    → ((f : FieldNo) → Holds names f (values f)) → AreGroupEntries values low change at author es → AllEntriesFit names es → AllEntriesHold names es
group_holds names values low change at author [] holds group fit = tt
group_holds names values low change at author (e ∷ es) holds group fit =
    (subst (λ v. Holds names e.field v) (sym group.4) (holds e.field), inr fit.0, group_holds names values (e.field.0 + 1) change at author es holds group.6 fit.1)

held_more : (names : Names) (xs es : List Entry) → AllEntriesHold names xs → AllEntriesHold names es → AllEntriesHold names (xs ++ es)
held_more names [] es before after = after
held_more names (x ∷ xs) es before after = (before.0, before.1, held_more names xs es before.2 after)

fit_more : (names : Names) (xs es : List Entry) → AllEntriesFit names xs → AllEntriesFit names es → AllEntriesFit names (xs ++ es)
fit_more names [] es before after = after
fit_more names (x ∷ xs) es before after = (before.0, fit_more names xs es before.1 after)

small_more : (xs es : List Entry) → AllSmall xs → AllSmall es → AllSmall (xs ++ es)
small_more [] es before after = after
small_more (x ∷ xs) es before after = (before.0, small_more xs es before.1 after)

-- ---- authors

by_users_more : (users : ℕ) (xs es : List Entry) → AreByUsers users xs → AreByUsers users es → AreByUsers users (xs ++ es)
by_users_more users [] es before after = after
by_users_more users (x ∷ xs) es before after = (before.0, by_users_more users xs es before.1 after)

group_by_user : (users : ℕ) (values : FieldNo → Value) (low change at : ℕ) (author : UserNo) (es : List Entry) → author.0 < users → AreGroupEntries values low change at author es → AreByUsers users es
group_by_user users values low change at author [] user group = tt
group_by_user users values low change at author (e ∷ es) user group =
    (subst (λ (u : UserNo). u.0 < users) (sym group.3) user, group_by_user users values (e.field.0 + 1) change at author es user group.6)

-- ---- issues that are settled

last_change-group : (values : FieldNo → Value) (low change at start : ℕ) (author : UserNo) (xs es : List Entry) → 0 < length es → AreGroupEntries values low change at author es
    → last_change start (xs ++ es) ≡ change
last_change-group values low change at start author (x ∷ xs) es some group = last_change-group values low change at x.change author xs es some group
last_change-group values low change at start author [] [] some group = absurd (omega arith)
last_change-group values low change at start author [] (e ∷ []) some group = group.1
last_change-group values low change at start author [] (e ∷ f ∷ fs) some group = last_change-group values (e.field.0 + 1) change at e.change author [] (f ∷ fs) (omega arith) group.6

pub settled_later : (names : Names) (at at' change change' : ℕ) (h : History) → at ≤ at' → change ≤ change' → IsSettled names at change h → IsSettled names at' change' h
settled_later names at at' change change' h later more is = record {
  timely = omega (arith, is.timely, later);
  earlier = omega (arith, is.earlier, more);
  history = is.history;
  holding = is.holding;
  held = is.held;
  opened = is.opened;
  fitting = is.fitting;
  fit = is.fit;
  listed = is.listed;
  small = is.small;
  author = is.author;
  authors = is.authors;
}

pub all_settled_later : (names : Names) (at at' change change' : ℕ) (hs : List History) → at ≤ at' → change ≤ change' → All (IsSettled names at change) hs → All (IsSettled names at' change') hs
all_settled_later names at at' change change' hs later more all = λ k d in'. settled_later names at at' change change' _ later more (all k d in')

-- an issue that opens now
pub settled_new : (names : Names) (at change : ℕ) (h : History) → h.at ≡ at → h.change ≡ change → h.entries ≡ [] → AllFit names h.opening → are_opening names h.opening ≡ true → AreNamed (opening_value h.opening) → h.author.0 < length names.users
    → IsSettled names at change h
settled_new names at change h now number none fit listed named user = record {
  timely = subst (λ es. last_moment h.at es ≤ at) (sym none) (omega (arith, now));
  earlier = subst (λ es. last_change h.change es ≤ change) (sym none) (omega (arith, number));
  history = record { changes = subst (AreChanges (opening_value h.opening)) (sym none) tt; order = subst (AreInOrder h.change h.at) (sym none) tt };
  holding = λ f. subst (λ es. Holds names f (value_after (opening_value h.opening f) es f)) (sym none) (opening_holds names h.opening f fit);
  held = subst (AllEntriesHold names) (sym none) tt;
  opened = named;
  fitting = fit;
  fit = subst (AllEntriesFit names) (sym none) tt;
  listed = listed;
  small = subst AllSmall (sym none) tt;
  author = user;
  authors = subst (AreByUsers (length names.users)) (sym none) tt;
}

-- an issue with a group that comes now
pub settled_added : (names : Names) (at old change : ℕ) (h : History) (author : UserNo) (es : List Entry) → MayAdd h change at author es → AllEntriesFit names es → AllSmall es → author.0 < length names.users
    → IsSettled names at old h → IsSettled names at change (record h { entries = h.entries ++ es })
settled_added names at old change h author es may fit small user is = record {
  timely = omega (arith, last_moment-group (present h) 0 change at h.at author h.entries es may.some may.group);
  earlier = omega (arith, last_change-group (present h) 0 change at h.change author h.entries es may.some may.group);
  history = IsHistory-add h change at author es is.history may;
  holding = λ f. subst (λ v. Holds names f v) (sym (value_after-append (opening_value h.opening f) h.entries es f)) (entries_hold names (present h f) es f fit (is.holding f));
  held = held_more names h.entries es is.held (group_holds names (present h) 0 change at author es is.holding may.group fit);
  opened = is.opened;
  fitting = is.fitting;
  fit = fit_more names h.entries es is.fit fit;
  listed = is.listed;
  small = small_more h.entries es is.small small;
  author = is.author;
  authors = by_users_more (length names.users) h.entries es is.authors (group_by_user (length names.users) (present h) 0 change at author es user may.group);
}

-- ---- the settled issue at a place
pub settled_at : (names : Names) (at change : ℕ) (hs : List History) (k : ℕ) (h : History) → slice_get hs k ≡ Some h → All (IsSettled names at change) hs → IsSettled names at change h
settled_at names at change hs k h is all = subst (λ x. IsSettled names at change x) (get_or_from_slice_get hs k h h is) (all k h (slice_get_within hs k h is))
