-- Names that are looked up once tell what looking each up again would.
use Rattle.std.proofs.Common.{◌≡◌, ◌==◌, ℕ, List, [], ◌∷◌, map, Bool, true, false, Option, Some, None, option_map, IfSome, refl, sym, ap, ◌∙◌}
use Rattle.std.specs.Prelude.{option_and_then, if◌then◌else◌}
use Rattle.std.specs.Option.{option_or, option_map_or, is_some}
use Rattle.field_values.specs.declared.field.Field.{Field}
use Rattle.field_forms.specs.Known.{field_named}
use Rattle.field_forms.specs.Values.{is_before}
use Rattle.tracker_calls.specs.declared.given.Given.{Given}
use Rattle.tracker_calls.specs.declared.given.GivenField.{GivenField}
use Rattle.tracker_calls.specs.declared.cause.Cause.{Cause}
use Rattle.tracker_calls.specs.declared.cause.Cause.TheVariants as cause
use Rattle.tracker_calls.specs.declared.cause.Thing.TheVariants as thing
use Rattle.tracker_machine.specs.Known.{names_field}
use Rattle.tracker_machine.specs.Wanted.{given_for, sprint_number}
use Rattle.sprints.specs.declared.sprint.Sprint.{Sprint}
use Rattle.tracker_machine.specs.Checks.{sprint_given, missing_sprint, sprint_refusal, name_refusal, names_refusal, refused_names, sooner, first_with}
use Rattle.wanted_values.specs.declared.resolved.ResolvedName.{ResolvedName}
use Rattle.wanted_values.specs.Resolved.{NamedField, named_in, resolved, IsResolved, last_given, refusal_of, sooner_of, found_with, first_of}

-- ---- what is given for a field

or_given : (later : Option Given) (named : Bool) (given : Given) (before : Option Given)
    → option_or (option_or later (if named then Some given else None)) before ≡ option_or later (if named then Some given else before)
or_given (Some g) named given before = refl
or_given None true given before = refl
or_given None false given before = refl

-- one more name: what it gives stands over what was given before it
given_more : (fields : List Field) (n : ℕ) (g : GivenField) (gs : List GivenField) (before : Option Given)
    → option_or (given_for fields n (g ∷ gs)) before ≡ option_or (given_for fields n gs) (if names_field fields n g.name then Some g.given else before)
given_more fields n g gs before = or_given (given_for fields n gs) (names_field fields n g.name) g.given before

-- the last of the resolved names of a field gives what `set` gives for it, and where none does, that is what was given before
last_given_over : (fields : List Field) (n : ℕ) (names : List ResolvedName) (set : List GivenField) (before : Option Given)
    → map resolved names ≡ map (named_in fields) set → map (λ r. r.given.now) names ≡ map (λ g. g.given) set
    → last_given n before names ≡ option_or (given_for fields n set) before
last_given_over fields n [] [] before named given = refl
last_given_over fields n [] (g ∷ gs) before named given = absurd (cc)
last_given_over fields n (r ∷ rs) [] before named given = absurd (cc)
last_given_over fields n (r ∷ rs) (g ∷ gs) before named given =
    let same : resolved r ≡ named_in fields g = cc in
    let field : option_map (λ f. f.0) r.field ≡ field_named fields g.name = ap (λ (p : NamedField). p.1) same in
    let gave : r.given.now ≡ g.given = cc in
    rw (field, gave)
    (last_given_over fields n rs gs (if names_field fields n g.name then Some g.given else before) (cc) (cc)
    ∙ sym (given_more fields n g gs before))

pub last_given_is : (fields : List Field) (n : ℕ) (names : List ResolvedName) (set : List GivenField)
    → IsResolved fields set names → last_given n None names ≡ given_for fields n set
last_given_is fields n names set resolved =
    last_given_over fields n names set None resolved.named resolved.given ∙ or_none (given_for fields n set) where
      or_none : (o : Option Given) → option_or o None ≡ o
      or_none None = refl
      or_none (Some g) = refl

-- ---- names that are refused

by_field : (missing : Option ℕ) (name : List ℕ) (field : Option ℕ)
    → (if is_some field then (if option_map_or (λ k. k == 13) field false then sprint_refusal missing else None) else Some (cause.Unknown thing.Field name)) ≡ refusal_of missing (name, field)
by_field missing name None = refl
by_field missing name (Some n) = refl

refusal_is : (fields : List Field) (missing : Option ℕ) (name : List ℕ) → name_refusal fields missing name ≡ refusal_of missing (name, field_named fields name)
refusal_is fields missing name = by_field missing name (field_named fields name)

-- the name found is the one that would be found among names alone
sooner_name : (found : Option NamedField) (named : NamedField) → sooner (option_map (λ p. p.0) found) named.0 ≡ (sooner_of found named).0
sooner_name None named = refl
sooner_name (Some found) named = either (is_before named.0 found.0) where
  either : (b : Bool) → (if b then named.0 else found.0) ≡ (if b then named else found).0
  either true = refl
  either false = refl

one_more : (found : Option NamedField) (named : NamedField) (names : List (List ℕ)) (missing : Option ℕ) (more : List NamedField) (b : Bool)
    → ((found : Option NamedField) → first_with (option_map (λ p. p.0) found) names ≡ option_map (λ p. p.0) (first_of missing found more))
    → first_with (option_map (λ p. p.0) found) (if b then named.0 ∷ names else names) ≡ option_map (λ p. p.0) (first_of missing (if b then Some (sooner_of found named) else found) more)
one_more found named names missing more true rest = ap (λ (name : List ℕ). first_with (Some name) names) (sooner_name found named) ∙ rest (Some (sooner_of found named))
one_more found named names missing more false rest = rest found

first_name : (fields : List Field) (missing : Option ℕ) (gs : List GivenField) (found : Option NamedField)
    → first_with (option_map (λ p. p.0) found) (refused_names fields missing gs) ≡ option_map (λ p. p.0) (first_of missing found (map (named_in fields) gs))
first_name fields missing [] found = refl
first_name fields missing (g ∷ gs) found =
    rw (refusal_is fields missing g.name)
    (one_more found (named_in fields g) (refused_names fields missing gs) missing (map (named_in fields) gs)
    (is_some (refusal_of missing (named_in fields g))) (first_name fields missing gs))

-- it has the field that it is looked up as
abbrev IsOwn : List Field → NamedField → Type 0
IsOwn fields named = named.1 ≡ field_named fields named.0

own_sooner : (fields : List Field) (found : Option NamedField) (g : GivenField) → IfSome found (IsOwn fields) → IsOwn fields (sooner_of found (named_in fields g))
own_sooner fields None g own = refl
own_sooner fields (Some found) g own = either (is_before g.name found.0) where
  either : (b : Bool) → IsOwn fields (if b then named_in fields g else found)
  either true = refl
  either false = own

own_first : (fields : List Field) (missing : Option ℕ) (found : Option NamedField) (gs : List GivenField) → IfSome found (IsOwn fields)
    → IfSome (first_of missing found (map (named_in fields) gs)) (IsOwn fields)
own_first fields missing found [] own = own
own_first fields missing found (g ∷ gs) own = own_first fields missing (found_with missing found (named_in fields g)) gs (either (is_some (refusal_of missing (named_in fields g)))) where
  either : (b : Bool) → IfSome (if b then Some (sooner_of found (named_in fields g)) else found) (IsOwn fields)
  either true = own_sooner fields found g own
  either false = own

refused_as : (fields : List Field) (missing : Option ℕ) (o : Option NamedField) → IfSome o (IsOwn fields)
    → option_and_then (name_refusal fields missing) (option_map (λ p. p.0) o) ≡ option_and_then (refusal_of missing) o
refused_as fields missing None own = refl
refused_as fields missing (Some named) own =
    refusal_is fields missing named.0 ∙ ap (λ (field : Option ℕ). refusal_of missing (named.0, field)) (sym own)

-- the first name that is refused, and why
pub names_refused : (fields : List Field) (set : List GivenField) (missing : Option ℕ) (names : List NamedField) (found : Option NamedField)
    → names ≡ map (named_in fields) set → found ≡ first_of missing None names
    → names_refusal fields missing set ≡ option_and_then (refusal_of missing) found
names_refused fields set missing names found are is = rw (is, are) (
    ap (option_and_then (name_refusal fields missing)) (first_name fields missing set None)
    ∙ refused_as fields missing (first_of missing None (map (named_in fields) set)) (own_first fields missing None set tt))

-- ---- where no name is refused, no sprint is missing

abbrev IsRefused : Option ℕ → NamedField → Type 0
IsRefused missing named = is_some (refusal_of missing named) ≡ true

abbrev NoneIsRefused : Option ℕ → List NamedField → Type 0
NoneIsRefused missing [] = Unit {0}
NoneIsRefused missing (named ∷ more) = (is_some (refusal_of missing named) ≡ false) × NoneIsRefused missing more

refused_sooner : (missing : Option ℕ) (found : Option NamedField) (named : NamedField) → IfSome found (IsRefused missing) → IsRefused missing named → IsRefused missing (sooner_of found named)
refused_sooner missing None named before now = now
refused_sooner missing (Some found) named before now = either (is_before named.0 found.0) where
  either : (b : Bool) → IsRefused missing (if b then named else found)
  either true = now
  either false = before

found_refused : (missing : Option ℕ) (found : Option NamedField) (named : NamedField) → IfSome found (IsRefused missing) → IfSome (found_with missing found named) (IsRefused missing)
found_refused missing found named before = either (is_some (refusal_of missing named)) refl where
  either : (b : Bool) → is_some (refusal_of missing named) ≡ b → IfSome (if b then Some (sooner_of found named) else found) (IsRefused missing)
  either true now = refused_sooner missing found named before now
  either false now = before

none_kept : (b : Bool) (named : NamedField) (found : Option NamedField) → (if b then Some named else found) ≡ None → (b ≡ false) × (found ≡ None)
none_kept true named found e = absurd (cc)
none_kept false named found e = (refl, e)

none_refused : (missing : Option ℕ) (found : Option NamedField) (names : List NamedField) → IfSome found (IsRefused missing)
    → option_and_then (refusal_of missing) (first_of missing found names) ≡ None → (found ≡ None) × NoneIsRefused missing names
none_refused missing None [] before passed = (refl, tt)
none_refused missing (Some found) [] before passed = absurd (some_not_none (refusal_of missing found) before passed) where
  some_not_none : (o : Option Cause) → is_some o ≡ true → o ≡ None → ⊥
  some_not_none None there gone = cc
  some_not_none (Some r) there gone = cc
none_refused missing found (named ∷ names) before passed =
    let rest = none_refused missing (found_with missing found named) names (found_refused missing found named before) passed in
    let here = none_kept (is_some (refusal_of missing named)) (sooner_of found named) found rest.0 in
    (here.1, (here.0, rest.1))

-- a name of the sprint field isn't refused
sprint_named : (missing : Option ℕ) (name : List ℕ) (field : Option ℕ) → is_some (refusal_of missing (name, field)) ≡ false → option_map_or (λ k. k == 13) field false ≡ true → missing ≡ None
sprint_named missing name None passed is = absurd (cc)
sprint_named missing name (Some k) passed is = unrefused missing (rw is at passed) where
  unrefused : (o : Option ℕ) → is_some (sprint_refusal o) ≡ false → o ≡ None
  unrefused None e = refl
  unrefused (Some n) e = absurd (cc)

sprint_set : (fields : List Field) (missing : Option ℕ) (gs : List GivenField) → NoneIsRefused missing (map (named_in fields) gs) → is_some (given_for fields 13 gs) ≡ true → missing ≡ None
sprint_set fields missing [] none there = absurd (cc)
sprint_set fields missing (g ∷ gs) none there =
    by_later (given_for fields 13 gs) (names_field fields 13 g.name) refl (sprint_set fields missing gs none.1) there where
      by_later : (later : Option Given) (named : Bool) → names_field fields 13 g.name ≡ named → (is_some later ≡ true → missing ≡ None)
          → is_some (option_or later (if named then Some g.given else None)) ≡ true → missing ≡ None
      by_later (Some given) named is rest there = rest refl
      by_later None true is rest there = sprint_named missing g.name (field_named fields g.name) none.0 is
      by_later None false is rest there = absurd (cc)

none_missing : (fields : List Field) (missing : Option ℕ) (set : List GivenField) → (given_for fields 13 set ≡ None → missing ≡ None) → names_refusal fields missing set ≡ None → missing ≡ None
none_missing fields missing set nothing passed = by_given (given_for fields 13 set) refl where
  by_given : (o : Option Given) → given_for fields 13 set ≡ o → missing ≡ None
  by_given None is = nothing is
  by_given (Some given) is =
      sprint_set fields missing set
      (none_refused missing None (map (named_in fields) set) tt
      (sym (names_refused fields set missing (map (named_in fields) set) (first_of missing None (map (named_in fields) set)) refl refl) ∙ passed)).1
      (ap is_some is)

-- the sprint that is given is there
pub sprint_there : (fields : List Field) (sprints : List Sprint) (set : List GivenField)
    → names_refusal fields (missing_sprint sprints (sprint_given fields set)) set ≡ None → missing_sprint sprints (sprint_given fields set) ≡ None
sprint_there fields sprints set passed =
    none_missing fields (missing_sprint sprints (sprint_given fields set)) set
    (λ is. ap (λ (o : Option Given). missing_sprint sprints (option_and_then sprint_number o)) is) passed
