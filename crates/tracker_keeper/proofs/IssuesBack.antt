-- The body of an issue is read as it, and what is read may be kept.
use Rattle.std.proofs.Common.{◌≡◌, ◌≢◌, ℕ, zero, suc, ◌+◌, ◌<◌, ◌≤◌, ◌^◌, ◌==◌, ◌&&◌, true, false, List, [], ◌∷◌, ◌++◌, length, get_or, drop, map, Option, Some, None, if◌then◌else◌, nat_le, refl, sym, ap, subst, ◌∙◌, arith, codes, le-leb, inl, inr, eqb-true}
use Rattle.std.specs.List.{All, list_all, list_any, AllPairs}
use Rattle.std.specs.Option.{option_and_then, option_or}
use Rattle.std.proofs.lemmas.Bool.{and_parts, cases_Bool}
use Rattle.std.proofs.lemmas.Bool.Decides.{nat_tests}
use Rattle.std.proofs.lemmas.List.{at_drop_more}
use Rattle.std.proofs.lemmas.Option.{same_Some, option_and_then_some}
use Rattle.field_values.specs.Parts.{Parts}
use Rattle.field_values.specs.declared.field.Field.{Field}
use Rattle.field_values.specs.declared.numbers.FieldNo.{FieldNo}
use Rattle.field_values.specs.declared.numbers.UserNo.{UserNo}
use Rattle.field_values.specs.declared.numbers.IssueNo.{IssueNo}
use Rattle.field_values.specs.declared.value.Value.{Value}
use Rattle.field_forms.specs.Known.{Names, field_named}
use Rattle.field_forms.specs.SoundRules.{is_field}
use Rattle.fields.specs.Naming.{built_in_numbers, field_numbers, field_name}
use Rattle.fields.specs.Sound.{part_names, has_own_number, IsSound}
use Rattle.fields.proofs.Choices.{choices_distinct}
use Rattle.fields.proofs.FieldNames.{numbers_are_fields, fields_are_found}
use Rattle.request_lines.specs.Readings.{last_moment}
use Rattle.change_history.specs.declared.change.Change.{Change}
use Rattle.serde_json.specs.Data.{Data, object, Members, no_members, put}
use Rattle.serde_json.specs.Find.{get, get_member}
use Rattle.serde_json.specs.Read.{read}
use Rattle.serde_json.specs.Written.{compact_text}
use Rattle.serde_json.proofs.Views.{get_member-put, get_member-put_other}
use Rattle.tracker_keeper.specs.declared.part.Part.{Part}
use Rattle.tracker_keeper.specs.declared.part.Part.TheVariants as part
use Rattle.tracker_keeper.specs.Bodies.{with_values, issue_data}
use Rattle.tracker_keeper.specs.Forms.{may_hold, is_filled, are_among, are_opening, IsIssuePart}
use Rattle.tracker_keeper.specs.Kept.{IsPart, IsPartAt, part_keys}
use Rattle.tracker_keeper.specs.Looking.{number_in, natural_of, moment_at, user_at}
use Rattle.tracker_keeper.specs.LookingAtValues.{change_in, change_at, filled_like, with_value, values_like, values_at, key_at, issue_like}
use Rattle.tracker_keeper.specs.ValueData.{value_data}
use Rattle.tracker_keeper.proofs.Clean.{HasClean, IsAscending, reads_clean, ascending_put, clean_put}
use Rattle.tracker_keeper.proofs.Found.{numbered, name_tells}
use Rattle.tracker_keeper.proofs.Fits.{option_map_some, number_tells, is_number, moment_at_tells, user_tells}
use Rattle.tracker_keeper.proofs.GroupsBack.{change_numbered, change_tells}
use Rattle.tracker_keeper.proofs.KeysBack.{key_found, key_at_tells}
use Rattle.tracker_keeper.proofs.ValuesBack.{filled_found, clean_value, held_field, IsHeld, filled_holds}

-- ---- numbers, each once

-- none of the numbers is that one
abbrev IsNew : ℕ → List ℕ → Type 0
IsNew n [] = Unit {0}
IsNew n (m ∷ ms) = ((n == m) ≡ false) × IsNew n ms

abbrev AreApart : List ℕ → Type 0
AreApart [] = Unit {0}
AreApart (n ∷ ns) = IsNew n ns × AreApart ns

new_before : (n : ℕ) (ms ns : List ℕ) → IsNew n ms → IsNew n ns → IsNew n (ms ++ ns)
new_before n [] ns first rest = rest
new_before n (m ∷ ms) ns first rest = (first.0, new_before n ms ns first.1 rest)

-- no own field has a number below 10,000
new_to_own : (n : ℕ) (fields : List Field) → n < 10_000 → list_all has_own_number fields ≡ true → IsNew n (map (λ f. f.number.0) fields)
new_to_own n [] small own = tt
new_to_own n (f ∷ fields) small own =
    let parts = and_parts (has_own_number f) (list_all has_own_number fields) own in
    let from = (and_parts (nat_le 10000 f.number.0) (nat_le f.number.0 19999) parts.0).0 in
    (grind (arith, nat_tests, small, from), new_to_own n fields small parts.1)

-- each of these is below 10,000
abbrev AreSmall : List ℕ → Type 0
AreSmall [] = Unit {0}
AreSmall (n ∷ ns) = (n < 10_000) × AreSmall ns

apart_before : (ns : List ℕ) (fields : List Field) → AreApart ns → AreSmall ns → list_all has_own_number fields ≡ true → AreApart (map (λ f. f.number.0) fields) → AreApart (ns ++ map (λ f. f.number.0) fields)
apart_before [] fields apart small own rest = rest
apart_before (n ∷ ns) fields apart small own rest =
    (new_before n ns (map (λ f. f.number.0) fields) apart.0 (new_to_own n fields small.0 own), apart_before ns fields apart.1 small.1 own rest)

new_by : (n : ℕ) (fields : List Field) → ((k : ℕ) (d : Field) → k < length fields → n ≢ (get_or fields k d).number.0) → IsNew n (map (λ f. f.number.0) fields)
new_by n [] other = tt
new_by n (f ∷ fields) other =
    let first = other zero f (omega arith) in
    (grind (arith, nat_tests, first), new_by n fields (λ k d inside. other (suc k) d (omega (arith, inside))))

own_apart : (fields : List Field) → AllPairs (λ one other. one.number.0 ≢ other.number.0) fields → AreApart (map (λ f. f.number.0) fields)
own_apart [] pairs = tt
own_apart (f ∷ fields) pairs = (
  new_by f.number.0 fields (λ k d inside. pairs zero (suc k) d (omega arith) (omega (arith, inside))),
  own_apart fields (λ i j d less inside. pairs (suc i) (suc j) d (omega (arith, less)) (omega (arith, inside))),
)

built_in_apart : AreApart built_in_numbers
built_in_apart = (
  (refl, (refl, (refl, (refl, (refl, (refl, (refl, (refl, (refl, (refl, (refl, (refl, tt)))))))))))),
  (
    (refl, (refl, (refl, (refl, (refl, (refl, (refl, (refl, (refl, (refl, (refl, tt))))))))))),
    (
      (refl, (refl, (refl, (refl, (refl, (refl, (refl, (refl, (refl, (refl, tt)))))))))),
      (
        (refl, (refl, (refl, (refl, (refl, (refl, (refl, (refl, (refl, tt))))))))),
        (
          (refl, (refl, (refl, (refl, (refl, (refl, (refl, (refl, tt)))))))),
          (
            (refl, (refl, (refl, (refl, (refl, (refl, (refl, tt))))))),
            (
              (refl, (refl, (refl, (refl, (refl, (refl, tt)))))),
              (
                (refl, (refl, (refl, (refl, (refl, tt))))),
                (
                  (refl, (refl, (refl, (refl, tt)))),
                  (
                    (refl, (refl, (refl, tt))),
                    (
                      (refl, (refl, tt)),
                      (
                        (refl, tt),
                        (tt, tt),
                      ),
                    ),
                  ),
                ),
              ),
            ),
          ),
        ),
      ),
    ),
  ),
)

built_in_small : AreSmall built_in_numbers
built_in_small =
    (omega arith, (omega arith, (omega arith, (omega arith, (omega arith, (omega arith, (omega arith, (omega arith, (omega arith, (omega arith, (omega arith, (omega arith, (omega arith, tt)))))))))))))

numbers_apart : (setup : Parts) → IsSound setup → AreApart (field_numbers setup.field)
numbers_apart setup sound = apart_before built_in_numbers setup.field built_in_apart built_in_small sound.own_numbers (own_apart setup.field sound.numbers)

-- ---- what the values tell of a field

-- the last of them that is of it
told : Names → ℕ → List Change → Option Data
told names n [] = None
told names n (c ∷ cs) = option_or (told names n cs) (if c.field.0 == n then Some (value_data names n c.to) else None)

or_or : (a b c : Option Data) → option_or (option_or a b) c ≡ option_or a (option_or b c)
or_or None b c = refl
or_or (Some x) b c = refl

or_none : (a : Option Data) → option_or a None ≡ a
or_none None = refl
or_none (Some x) = refl

-- the fields of the values are there
abbrev AreFields : Names → List Change → Type 0
AreFields names [] = Unit {0}
AreFields names (c ∷ cs) = (is_field names.fields c.field.0 ≡ true) × AreFields names cs

module _ (setup : Parts) (sound : IsSound setup) where
  same_field : (n m : ℕ) → is_field setup.field n ≡ true → is_field setup.field m ≡ true → field_name setup.field n ≡ field_name setup.field m → n ≡ m
  same_field n m n_is m_is e = same_Some n m (sym (fields_are_found setup n sound n_is) ∙ ap (field_named setup.field) e ∙ fields_are_found setup m sound m_is)

  got_first : (n : ℕ) (c : Change) (ms : Members) → is_field setup.field n ≡ true → is_field setup.field c.field.0 ≡ true
      → get_member (field_name setup.field n) (put (field_name setup.field c.field.0) (value_data (part_names setup) c.field.0 c.to) ms)
      ≡ option_or (if c.field.0 == n then Some (value_data (part_names setup) n c.to) else None) (get_member (field_name setup.field n) ms)
  got_first n c ms n_is c_is = elim (cases_Bool (c.field.0 == n)) [
    | inl same ↦
        let e = eqb-true c.field.0 n same in
        rw same (subst (λ (m : ℕ). get_member (field_name setup.field n) (put (field_name setup.field m) (value_data (part_names setup) m c.to) ms) ≡ Some (value_data (part_names setup) n c.to)) (sym e) (get_member-put (field_name setup.field n) (value_data (part_names setup) n c.to) ms))
    | inr other ↦
        rw other (get_member-put_other (field_name setup.field n) (field_name setup.field c.field.0) (value_data (part_names setup) c.field.0 c.to) ms
        (λ e. let same = same_field n c.field.0 n_is c_is e in absurd (grind (arith, nat_tests, same, other))))
  ]

  got : (n : ℕ) (cs : List Change) (ms : Members) → is_field setup.field n ≡ true → AreFields (part_names setup) cs
      → get_member (field_name setup.field n) (with_values (part_names setup) ms cs) ≡ option_or (told (part_names setup) n cs) (get_member (field_name setup.field n) ms)
  unfolding told
  got n [] ms n_is all = refl
  got n (c ∷ cs) ms n_is all =
      got n cs (put (field_name setup.field c.field.0) (value_data (part_names setup) c.field.0 c.to) ms) n_is all.1
      ∙ ap (option_or (told (part_names setup) n cs)) (got_first n c ms n_is all.0)
      ∙ sym (or_or (told (part_names setup) n cs) _ (get_member (field_name setup.field n) ms))

-- ---- reading back

-- of a field that isn't one of theirs they tell nothing
none_told : (names : Names) (n : ℕ) (ns : List ℕ) (cs : List Change) → IsNew n ns → are_among ns cs ≡ true → told names n cs ≡ None
unfolding told
none_told names n ns [] new among = refl
none_told names n [] (c ∷ cs) new among = absurd (cc)
none_told names n (m ∷ ns) (c ∷ cs) new among = elim (cases_Bool (c.field.0 == m)) [
  | inl same ↦
      let rest = none_told names n ns cs new.1 (rw same at among) in
      let new_here = new.0 in
      let other : (c.field.0 == n) ≡ false = grind (arith, nat_tests, same, new_here) in
      rw (rest, other) refl
  | inr other ↦ none_told names n ns (c ∷ cs) new.1 (rw other at among)
]

-- the data has of each of these fields what the values tell
abbrev Agrees : Names → Data → List ℕ → List Change → Type 0
Agrees names d [] cs = Unit {0}
Agrees names d (n ∷ ns) cs = (get (field_name names.fields n) d ≡ told names n cs) × Agrees names d ns cs

agrees_later : (names : Names) (d : Data) (ns : List ℕ) (c : Change) (cs : List Change) → IsNew c.field.0 ns → Agrees names d ns (c ∷ cs) → Agrees names d ns cs
unfolding told
agrees_later names d [] c cs new h = tt
agrees_later names d (n ∷ ns) c cs new h =
    let new_here = new.0 in
    (h.0 ∙ rw new_here (or_none (told names n cs)), agrees_later names d ns c cs new.1 h.1)

-- each value is filled, and its field may hold it
abbrev AreHeld : Names → List Change → Type 0
AreHeld names [] = Unit {0}
AreHeld names (c ∷ cs) = IsHeld names c.field.0 c.to × AreHeld names cs

module _ (setup : Parts) (sound : IsSound setup) where
  values_found : (d : Data) (ns : List ℕ) (cs : List Change) → AreApart ns → are_among ns cs ≡ true → AreHeld (part_names setup) cs → Agrees (part_names setup) d ns cs
      → values_like (part_names setup) d ns ≡ Some cs
  unfolding told
  values_found d [] [] apart among held h = refl
  values_found d [] (c ∷ cs) apart among held h = absurd (cc)
  values_found d (n ∷ ns) [] apart among held h =
      rw (h.0) (values_found d ns [] apart.1 (nothing_among ns) tt h.1)
    where
      nothing_among : (ms : List ℕ) → are_among ms [] ≡ true
      nothing_among [] = refl
      nothing_among (m ∷ ms) = refl
  values_found d (n ∷ ns) (c ∷ cs) apart among held h = elim (cases_Bool (c.field.0 == n)) [
    | inl same ↦
        let names = part_names setup in
        let is = eqb-true c.field.0 n same in
        let among_later = rw same at among in
        let new = subst (λ (m : ℕ). IsNew m ns) (sym is) apart.0 in
        let none = none_told names n ns cs apart.0 among_later in
        let here = h.0 in
        let first : get (field_name names.fields n) d ≡ Some (value_data names n c.to) = here ∙ rw (none, same) refl in
        let held_here = subst (λ (m : ℕ). IsHeld names m c.to) is held.0 in
        let found = filled_found names n c.to (choices_distinct setup sound n) held_here.filled held_here.held in
        let rest = values_found d ns cs apart.1 among_later held.1 (agrees_later names d ns c cs new h.1) in
        rw first (rw (found, rest) (ap (λ (k : ℕ). let head : Change = record { field = record { 0 = k }; to = c.to } in Some (head ∷ cs)) (sym is)))
    | inr other ↦
        let among_later = rw other at among in
        let none = none_told (part_names setup) n ns (c ∷ cs) apart.0 among_later in
        let here = h.0 in
        rw (here ∙ none) (values_found d ns (c ∷ cs) apart.1 among_later held h.1)
  ]

-- each is a field
abbrev AreAllFields : List Field → List ℕ → Type 0
AreAllFields fields [] = Unit {0}
AreAllFields fields (n ∷ ns) = (is_field fields n ≡ true) × AreAllFields fields ns

-- each is among all
abbrev AreIn : List ℕ → List ℕ → Type 0
AreIn all [] = Unit {0}
AreIn all (n ∷ ns) = (list_any (λ k. k == n) all ≡ true) × AreIn all ns

in_more : (m : ℕ) (all ns : List ℕ) → AreIn all ns → AreIn (m ∷ all) ns
in_more m all [] h = tt
in_more m all (n ∷ ns) h = let here = h.0 in (grind (arith, here), in_more m all ns h.1)

in_itself : (ns : List ℕ) → AreIn ns ns
in_itself [] = tt
in_itself (n ∷ ns) = let same : (n == n) ≡ true = grind (arith, nat_tests) in (rw same refl, in_more n ns ns (in_itself ns))

all_fields_by : (fields : List Field) (ns : List ℕ) → AreIn (field_numbers fields) ns → AreAllFields fields ns
all_fields_by fields [] h = tt
all_fields_by fields (n ∷ ns) h = (sym (numbers_are_fields fields n) ∙ h.0, all_fields_by fields ns h.1)

all_fields : (fields : List Field) → AreAllFields fields (field_numbers fields)
all_fields fields = all_fields_by fields (field_numbers fields) (in_itself (field_numbers fields))

held_fields : (names : Names) (cs : List Change) → AreHeld names cs → AreFields names cs
held_fields names [] h = tt
held_fields names (c ∷ cs) h = (held_field names c.field.0 c.to h.0.held, held_fields names cs h.1)

pub are_held : (names : Names) (cs : List Change) → list_all (λ c. is_filled c.to && may_hold names c.field.0 c.to) cs ≡ true → AreHeld names cs
are_held names [] h = tt
are_held names (c ∷ cs) h =
    let parts = and_parts (is_filled c.to && may_hold names c.field.0 c.to) (list_all (λ x. is_filled x.to && may_hold names x.field.0 x.to) cs) h in
    let here = and_parts (is_filled c.to) (may_hold names c.field.0 c.to) parts.0 in
    (record { filled = here.0; held = here.1 }, are_held names cs parts.1)

all_held : (names : Names) (cs : List Change) → AreHeld names cs → All (λ c. may_hold names c.field.0 c.to ≡ true) cs
all_held names (c ∷ cs) h zero d inside = h.0.held
all_held names (c ∷ cs) h (suc k) d inside = all_held names cs h.1 k d (omega (arith, inside))
all_held names [] h k d inside = absurd (omega (arith, inside))

-- the field of each opening value may hold it
pub held_values : (names : Names) (cs : List Change) → are_opening names cs ≡ true → All (λ c. may_hold names c.field.0 c.to ≡ true) cs
held_values names cs h =
    let parts = and_parts (list_all (λ c. is_filled c.to && may_hold names c.field.0 c.to) cs) (are_among (field_numbers names.fields) cs) h in
    all_held names cs (are_held names cs parts.0)

-- the values of the next field, and of those behind it
pub next_values : (names : Names) (d : Data) (fields : List FieldNo) (k : ℕ) (none : FieldNo) → k < length fields
    → values_like names d (map (λ f. f.0) (drop k fields))
    ≡ with_value names (get_or fields k none).0 (get (field_name names.fields (get_or fields k none).0) d) (values_like names d (map (λ f. f.0) (drop (k + 1) fields)))
next_values names d fields k none inside = at_drop_more (λ fs. values_like names d (map (λ f. f.0) fs)) fields k none inside

held_again : (names : Names) (cs : List Change) → AreHeld names cs → list_all (λ c. is_filled c.to && may_hold names c.field.0 c.to) cs ≡ true
held_again names [] h = refl
held_again names (c ∷ cs) h = rw (h.0.filled, h.0.held, held_again names cs h.1) refl

agree : (setup : Parts) (cs : List Change) (ns : List ℕ) → IsSound setup → AreHeld (part_names setup) cs → AreAllFields setup.field ns
    → Agrees (part_names setup) (object (with_values (part_names setup) no_members cs)) ns cs
agree setup cs [] sound held all = tt
agree setup cs (n ∷ ns) sound held all =
    (got setup sound n cs no_members all.0 (held_fields (part_names setup) cs held) ∙ or_none (told (part_names setup) n cs), agree setup cs ns sound held all.1)

clean_values : (names : Names) (ms : Members) (cs : List Change) → AreHeld names cs → HasClean 1 ms → HasClean 1 (with_values names ms cs)
clean_values names ms [] held clean = clean
clean_values names ms (c ∷ cs) held clean =
    clean_values names (put (field_name names.fields c.field.0) (value_data names c.field.0 c.to) ms) cs held.1
    (clean_put 1 (field_name names.fields c.field.0) (value_data names c.field.0 c.to) ms (clean_value 0 names c.field.0 c.to held.0.held) clean)

ascending_values : (names : Names) (ms : Members) (cs : List Change) → IsAscending ms → IsAscending (with_values names ms cs)
ascending_values names ms [] order = order
ascending_values names ms (c ∷ cs) order =
    ascending_values names (put (field_name names.fields c.field.0) (value_data names c.field.0 c.to) ms) cs
    (ascending_put (field_name names.fields c.field.0) (value_data names c.field.0 c.to) ms order)

pub reads_issue : (setup : Parts) (row_no : ℕ) (key : List ℕ) (change moment : ℕ) (author : UserNo) (values : List Change)
    → IsIssuePart (part_names setup) (part_keys setup) row_no key change moment author values
    → read (compact_text (issue_data (part_names setup) key change moment author values)) ≡ Some (issue_data (part_names setup) key change moment author values)
unfolding issue_data
reads_issue setup row_no key change moment author values h =
    let names = part_names setup in
    let timely = h.timely in
    let parts = and_parts (list_all (λ c. is_filled c.to && may_hold names c.field.0 c.to) values) (are_among (field_numbers names.fields) values) h.opened in
    let held = are_held names values parts.0 in
    reads_clean 3 (issue_data names key change moment author values) (
      (omega (arith, timely), (tt, (h.counted.1, ((clean_values names no_members values held tt, ascending_values names no_members values tt), (tt, tt))))),
      ((refl, (refl, (refl, (refl, tt)))), ((refl, (refl, (refl, tt))), ((refl, (refl, tt)), ((refl, tt), (tt, tt))))),
    )
    (omega arith)

pub issue_found : (setup : Parts) (row_no : IssueNo) (key : List ℕ) (change moment : ℕ) (author : UserNo) (values : List Change) → IsSound setup
    → IsIssuePart (part_names setup) (part_keys setup) row_no.0 key change moment author values
    → issue_like (part_names setup) (part_keys setup) row_no.0 (issue_data (part_names setup) key change moment author values) ≡ Some (part.Issue row_no key change moment author values)
unfolding issue_data issue_like
issue_found setup row_no key change moment author values sound h =
    let names = part_names setup in
    let parts = and_parts (list_all (λ c. is_filled c.to && may_hold names c.field.0 c.to) values) (are_among (field_numbers names.fields) values) h.opened in
    let held = are_held names values parts.0 in
    let agrees = agree setup values (field_numbers setup.field) sound held (all_fields setup.field) in
    let found = values_found setup sound (object (with_values names no_members values)) (field_numbers setup.field) values (numbers_apart setup sound) parts.1 held agrees in
    rw (
      numbered row_no.0 h.numbered,
      change_numbered change h.counted,
      le-leb moment last_moment h.timely,
      name_tells setup.users author sound.users.distinct h.authored,
      key_found (part_keys setup) key sound.keys.distinct sound.keys.formed h.keyed,
    ) (rw found refl)

-- ---- what is read may be kept

among_by : (n : ℕ) (ns : List ℕ) (cs : List Change) → ((c : Change) (rest : List Change) → are_among ns (c ∷ rest) ≡ true → are_among ns rest ≡ true) → are_among ns cs ≡ true → are_among (n ∷ ns) cs ≡ true
among_by n ns [] later h = refl
among_by n ns (c ∷ cs) later h = elim (cases_Bool (c.field.0 == n)) [
  | inl same ↦ rw same (later c cs h)
  | inr other ↦ rw other h
]

among_rest : (ns : List ℕ) (c : Change) (cs : List Change) → are_among ns (c ∷ cs) ≡ true → are_among ns cs ≡ true
among_rest [] c cs h = absurd (cc)
among_rest (n ∷ ns) c cs h = elim (cases_Bool (c.field.0 == n)) [
  | inl same ↦ among_by n ns cs (λ d ds e. among_rest ns d ds e) (rw same at h)
  | inr other ↦ among_by n ns cs (λ d ds e. among_rest ns d ds e) (among_rest ns c cs (rw other at h))
]

among_more : (n : ℕ) (ns : List ℕ) (cs : List Change) → are_among ns cs ≡ true → are_among (n ∷ ns) cs ≡ true
among_more n ns cs h = among_by n ns cs (among_rest ns) h

record HaveOpened (names : Names) (ns : List ℕ) (cs : List Change) : Type 0 where
  held : AreHeld names cs
  among : are_among ns cs ≡ true

opened_more : (names : Names) (n : ℕ) (ns : List ℕ) (to : Value) (cs : List Change) → IsHeld names n to → HaveOpened names ns cs → HaveOpened names (n ∷ ns) (record { field = record { 0 = n }; to = to } ∷ cs)
opened_more names n ns to cs h rest = let same : (n == n) ≡ true = grind (arith, nat_tests) in record { held = (h, rest.held); among = rw same rest.among }

opened_by : (names : Names) (n : ℕ) (ns : List ℕ) (found : Option Data) (rest : Option (List Change)) (cs : List Change) → is_field names.fields n ≡ true
    → ((more : List Change) → rest ≡ Some more → HaveOpened names ns more) → with_value names n found rest ≡ Some cs → HaveOpened names (n ∷ ns) cs
opened_by names n ns None rest cs is later e = let h = later cs e in record { held = h.held; among = among_more n ns cs h.among }
opened_by names n ns (Some d) rest cs is later e =
    option_and_then_some _ (filled_like names n d) cs e (λ to to_is e'.
    option_map_some _ rest cs e' (λ more more_is cs_is.
    subst (HaveOpened names (n ∷ ns)) cs_is (opened_more names n ns to more (filled_holds names n d to is to_is) (later more more_is))))

values_open : (names : Names) (d : Data) (ns : List ℕ) (cs : List Change) → AreAllFields names.fields ns → values_like names d ns ≡ Some cs → HaveOpened names ns cs
values_open names d [] cs all e = subst (HaveOpened names []) (same_Some [] cs e) (record { held = tt; among = refl })
values_open names d (n ∷ ns) cs all e =
    opened_by names n ns (get (field_name names.fields n) d) (values_like names d ns) cs all.0 (λ more more_is. values_open names d ns more all.1 more_is) e

values_tell : (names : Names) (d : Data) (cs : List Change) → values_at names d ≡ Some cs → are_opening names cs ≡ true
values_tell names d cs e =
    option_and_then_some (λ fields. values_like names fields (field_numbers names.fields)) (get (codes "fields") d) cs e (λ fields fields_is h.
    let t = values_open names fields (field_numbers names.fields) cs (all_fields names.fields) h in
    rw (held_again names cs t.held, t.among) refl)

change_at_tells : (name : List ℕ) (d : Data) (m : ℕ) → change_at name d ≡ Some m → (1 ≤ m) × (m < 2 ^ 64)
change_at_tells name d m e = option_and_then_some change_in (option_and_then natural_of (get name d)) m e (λ n n_is h. (change_tells n m h).1)

pub issue_fits : (setup : Parts) (n : ℕ) (d : Data) (p : Part) → issue_like (part_names setup) (part_keys setup) n d ≡ Some p → IsPartAt setup 3 n p
unfolding issue_like IsPart
issue_fits setup n d p e =
    option_and_then_some _ (number_in n) p e (λ m m_is e1.
    option_and_then_some _ (change_at (codes "change") d) p e1 (λ change change_is e2.
    option_and_then_some _ (moment_at (codes "at") d) p e2 (λ moment moment_is e3.
    option_and_then_some _ (user_at setup.users (codes "author") d) p e3 (λ author author_is e4.
    option_and_then_some _ (key_at (part_keys setup) d) p e4 (λ key key_is e5.
    option_map_some _ (values_at (part_names setup) d) p e5 (λ values values_is p_is.
    subst (IsPartAt setup 3 n) p_is (record {
      is_part = record {
        numbered = is_number n m m_is;
        keyed = key_at_tells (part_keys setup) d key key_is;
        counted = change_at_tells (codes "change") d change change_is;
        timely = moment_at_tells (codes "at") d moment moment_is;
        authored = user_tells setup.users (codes "author") d author author_is;
        opened = values_tell (part_names setup) d values values_is;
      };
      kind_is = refl;
      number_is = (number_tells n m m_is).0;
    })))))))
