-- What is told of the present values of issues whose histories are alike is the same.
use Rattle.std.proofs.Common.{◌≡◌, ℕ, ◌==◌, ◌&&◌, ◌||◌, Bool, true, false, List, [], ◌∷◌, map, Option, Some, None, refl, sym, ap, ◌∙◌, subst, codes, arith, inl, inr, eqb-true}
use Rattle.std.specs.Prelude.{option_map, if◌then◌else◌}
use Rattle.std.specs.List.{list_all, list_any}
use Rattle.std.specs.Option.{option_or}
use Rattle.std.specs.Str.{bytes_eq}
use Rattle.std.proofs.lemmas.Bool.{and_parts, cases_Bool, true≢false}
use Rattle.std.proofs.lemmas.Bool.Decides.{nat_tests}
use Rattle.std.proofs.lemmas.Slice.Eq.{bytes_eq-Decides}
use Rattle.field_values.specs.Parts.{Parts}
use Rattle.field_values.specs.declared.field.Field.{Field}
use Rattle.field_values.specs.declared.numbers.FieldNo.{FieldNo}
use Rattle.field_forms.specs.Known.{Names}
use Rattle.field_forms.specs.SoundRules.{is_field}
use Rattle.fields.specs.Naming.{field_name, field_numbers}
use Rattle.fields.specs.Sound.{part_names, IsSound}
use Rattle.fields.proofs.FieldNames.{numbers_are_fields}
use Rattle.change_history.specs.declared.entry.Entry.{Entry}
use Rattle.change_history.specs.History.{History, present, updated, last_moment}
use Rattle.serde_json.specs.Data.{Data, null, boolean, number, string, array, object, Members, no_members, member, put}
use Rattle.serde_json.specs.Find.{get_member}
use Rattle.serde_json.specs.Written.{compact_text}
use Rattle.serde_json.proofs.Views.{get_member-put, get_member-put_other}
use Rattle.json_texts.specs.JsonData.{natural}
use Rattle.tracker_calls.specs.declared.reply.Answer.TheVariants as answer
use Rattle.tracker_calls.specs.declared.reply.Reply.TheVariants as reply
use Rattle.tracker_calls.specs.declared.reply.Shown.{Shown}
use Rattle.tracker_calls.specs.declared.reply.Shown.TheVariants as shown
use Rattle.tracker_calls.specs.declared.reply.ShownField.{ShownField}
use Rattle.reply_texts.specs.Reply.{shown_data, shown_or_null, with_fields, reply_text}
use Rattle.tracker_keeper.specs.Bodies.{with_values}
use Rattle.tracker_keeper.specs.Forms.{is_filled, may_hold, are_among}
use Rattle.tracker_keeper.specs.ValueData.{value_data}
use Rattle.tracker_keeper.proofs.Clean.{IsAscending, ascending_put}
use Rattle.tracker_machine.specs.Show.{shown_value, with_shown, shown_fields, shown_issue}
use Rattle.tracker_machine.specs.Tracker.{IsSettled}
use Rattle.amended_histories.proofs.Alike.{Told, told, IsAlike}
use Rattle.amended_histories.proofs.Once.{HaveOnce, opening_once}
use Rattle.amended_histories.proofs.Present.{AreOfFields, AreOnFields, now_put, or_null, opening_fields, entry_fields, present_told, nothing_told}
use Rattle.amended_histories.proofs.SameMembers.{same_members}
use Rattle.amended_histories.proofs.Values.{shown_held}

-- ---- what is filled

abbrev unless_null : Data → Option Data
unless_null null = None
unless_null (boolean b) = Some (boolean b)
unless_null (number n) = Some (number n)
unless_null (string s) = Some (string s)
unless_null (array ds) = Some (array ds)
unless_null (object ms) = Some (object ms)

shown_is : (o : Option Shown) → option_map shown_data o ≡ unless_null (shown_or_null o)
shown_is None = refl
shown_is (Some (shown.Text text)) = refl
shown_is (Some (shown.List texts)) = refl
shown_is (Some (shown.Number n)) = refl

-- ---- what a name finds among what is shown

or_or : (a b c : Option Data) → option_or (option_or a b) c ≡ option_or a (option_or b c)
or_or None b c = refl
or_or (Some x) b c = refl

or_none : (a : Option Data) → option_or a None ≡ a
or_none None = refl
or_none (Some x) = refl

module _ (names : Names) (h : History) (q : List ℕ) where
  abbrev named : ℕ → Bool
  named n = bytes_eq (field_name names.fields n) q

  abbrev shown_now : ℕ → Option Shown
  shown_now n = shown_value names n (present h (record { 0 = n }))

  -- the last of these fields that has the name
  abbrev shown_at : List ℕ → Option Data
  shown_at [] = None
  shown_at (n ∷ ns) = option_or (shown_at ns) (if named n then option_map shown_data (shown_now n) else None)

  empty_either : (b : Bool) → (if b then option_map shown_data None else None) ≡ None
  empty_either true = refl
  empty_either false = refl

  shown_put : (n : ℕ) (s : Shown) (ms : Members) → get_member q (put (field_name names.fields n) (shown_data s) ms) ≡ option_or (if named n then Some (shown_data s) else None) (get_member q ms)
  shown_put n s ms = by (named n) refl
    where
      by : (b : Bool) → named n ≡ b → get_member q (put (field_name names.fields n) (shown_data s) ms) ≡ option_or (if b then Some (shown_data s) else None) (get_member q ms)
      by true is =
          let same : field_name names.fields n ≡ q = (bytes_eq-Decides (field_name names.fields n) q).0 is in
          subst (λ (r : List ℕ). get_member r (put (field_name names.fields n) (shown_data s) ms) ≡ Some (shown_data s)) same (get_member-put (field_name names.fields n) (shown_data s) ms)
      by false is =
          get_member-put_other q (field_name names.fields n) (shown_data s) ms
          (λ e. true≢false (sym ((bytes_eq-Decides (field_name names.fields n) q).1 (sym e)) ∙ is))

  with_one : (n : ℕ) (o : Option Shown) (more : List ShownField) (ms : Members) (rest : Option Data)
      → ((ms : Members) → get_member q (with_fields ms more) ≡ option_or rest (get_member q ms))
      → get_member q (with_fields ms (with_shown (field_name names.fields n) o more)) ≡ option_or (option_or rest (if named n then option_map shown_data o else None)) (get_member q ms)
  with_one n None more ms rest all =
      all ms ∙ sym (ap (λ x. option_or (option_or rest x) (get_member q ms)) (empty_either (named n)) ∙ ap (λ x. option_or x (get_member q ms)) (or_none rest))
  with_one n (Some s) more ms rest all =
      all (put (field_name names.fields n) (shown_data s) ms)
      ∙ (ap (option_or rest) (shown_put n s ms) ∙ sym (or_or rest (if named n then Some (shown_data s) else None) (get_member q ms)))

  shown_found : (ns : List ℕ) (ms : Members) → get_member q (with_fields ms (shown_fields names h ns)) ≡ option_or (shown_at ns) (get_member q ms)
  shown_found [] ms = refl
  shown_found (n ∷ ns) ms = with_one n (shown_now n) (shown_fields names h ns) ms (shown_at ns) (shown_found ns)

  -- each of them that has the name shows this
  abbrev Each : Option Data → List ℕ → Type 0
  Each x [] = Unit {0}
  Each x (n ∷ ns) = (named n ≡ true → option_map shown_data (shown_now n) ≡ x) × Each x ns

  twice : (b : Bool) (x : Option Data) → option_or (if b then x else None) x ≡ x
  twice false x = refl
  twice true None = refl
  twice true (Some d) = refl

  same_shown : (x : Option Data) (ns : List ℕ) → Each x ns → shown_at ns ≡ (if list_any named ns then x else None)
  same_shown x [] each = refl
  same_shown x (n ∷ ns) each = elim (cases_Bool (named n)) [
    | inl is ↦ rw (is, same_shown x ns each.1, each.0 is) (twice (list_any named ns) x)
    | inr other ↦ rw other (or_none (shown_at ns) ∙ same_shown x ns each.1)
  ]

-- ---- the fields of a setup

-- a field that has the name is one of these
any_named : (f : ℕ → Bool) (n : ℕ) (ns : List ℕ) → list_any (λ k. k == n) ns ≡ true → f n ≡ true → list_any f ns ≡ true
any_named f n [] there is = absurd (true≢false (sym there))
any_named f n (m ∷ ns) there is = elim (cases_Bool (m == n)) [
  | inl same ↦
      let e : f m ≡ true = ap f (eqb-true m n same) ∙ is in
      rw e refl
  | inr other ↦ later (f m) (any_named f n ns (rw other at there) is)
] where
  later : (b : Bool) → list_any f ns ≡ true → (b || list_any f ns) ≡ true
  later true more = refl
  later false more = more

abbrev AreIn : List ℕ → List ℕ → Type 0
AreIn all [] = Unit {0}
AreIn all (n ∷ ns) = (list_any (λ k. k == n) all ≡ true) × AreIn all ns

in_more : (m : ℕ) (all ns : List ℕ) → AreIn all ns → AreIn (m ∷ all) ns
in_more m all [] h = tt
in_more m all (n ∷ ns) h = let here = h.0 in (grind (arith, here), in_more m all ns h.1)

in_itself : (ns : List ℕ) → AreIn ns ns
in_itself [] = tt
in_itself (n ∷ ns) = let same : (n == n) ≡ true = grind (arith, nat_tests) in (rw same refl, in_more n ns ns (in_itself ns))

module _ (setup : Parts) (sound : IsSound setup) (moment change : ℕ) (h : History) (is : IsSettled (part_names setup) moment change h) where
  abbrev names : Names
  names = part_names setup

  of_fields : AreOfFields setup.field h.opening
  of_fields = opening_fields names h.opening (and_parts (list_all (λ c. is_filled c.to && may_hold names c.field.0 c.to) h.opening) (are_among (field_numbers setup.field) h.opening) is.listed).0

  on_fields : AreOnFields setup.field h.entries
  on_fields = entry_fields names h.entries is.fit

  once : HaveOnce h.opening
  once = opening_once setup h.opening sound (and_parts (list_all (λ c. is_filled c.to && may_hold names c.field.0 c.to) h.opening) (are_among (field_numbers setup.field) h.opening) is.listed).1

  -- what is told, the later over the earlier
  abbrev all_told : Members
  all_told = now_put (with_values names no_members h.opening) (map (told names) h.entries)

  field_shown : (q : List ℕ) (n : ℕ) → is_field setup.field n ≡ true → named names h q n ≡ true → option_map shown_data (shown_now names h q n) ≡ unless_null (or_null (get_member q all_told))
  field_shown q n n_is has =
      let f : FieldNo = record { 0 = n } in
      let name : field_name setup.field n ≡ q = (bytes_eq-Decides (field_name setup.field n) q).0 has in
      shown_is (shown_value (part_names setup) n (present h f))
      ∙ ap unless_null (shown_held (part_names setup) f (present h f) (is.holding f)
      ∙ (sym (present_told setup sound f n_is h.opening h.entries of_fields once on_fields)
      ∙ ap (λ (r : List ℕ). or_null (get_member r (now_put (with_values (part_names setup) no_members h.opening) (map (told (part_names setup)) h.entries)))) name))

  each_shown : (q : List ℕ) (ns : List ℕ) → AreIn (field_numbers setup.field) ns → Each names h q (unless_null (or_null (get_member q all_told))) ns
  each_shown q [] all = tt
  each_shown q (n ∷ ns) all = (field_shown q n (sym (numbers_are_fields setup.field n) ∙ all.0), each_shown q ns all.1)

  none_shown : (q : List ℕ) → list_any (named names h q) (field_numbers setup.field) ≡ false → unless_null (or_null (get_member q all_told)) ≡ None
  none_shown q none =
      ap (λ o. unless_null (or_null o))
      (nothing_told setup.field q
      (λ n n_is e. true≢false (sym (any_named (λ k. bytes_eq (field_name setup.field k) q) n (field_numbers setup.field) (numbers_are_fields setup.field n ∙ n_is)
      ((bytes_eq-Decides (field_name setup.field n) q).1 (sym e))) ∙ none))
      (part_names setup) h.opening h.entries refl of_fields on_fields)

  -- what a name finds among what is shown follows from what is told
  pub found_shown : (q : List ℕ) → get_member q (with_fields no_members (shown_fields (part_names setup) h (field_numbers setup.field)))
      ≡ unless_null (or_null (get_member q (now_put (with_values (part_names setup) no_members h.opening) (map (told (part_names setup)) h.entries))))
  found_shown q =
      shown_found (part_names setup) h q (field_numbers setup.field) no_members
      ∙ (or_none (shown_at (part_names setup) h q (field_numbers setup.field))
      ∙ (same_shown (part_names setup) h q (unless_null (or_null (get_member q all_told))) (field_numbers setup.field) (each_shown q (field_numbers setup.field) (in_itself (field_numbers setup.field)))
      ∙ by (list_any (named (part_names setup) h q) (field_numbers setup.field)) refl))
    where
      by : (b : Bool) → list_any (named (part_names setup) h q) (field_numbers setup.field) ≡ b
          → (if b then unless_null (or_null (get_member q all_told)) else None) ≡ unless_null (or_null (get_member q all_told))
      by true any = refl
      by false any = sym (none_shown q any)

ascending_fields : (ms : Members) (fs : List ShownField) → IsAscending ms → IsAscending (with_fields ms fs)
ascending_fields ms [] up = up
ascending_fields ms (f ∷ fs) up = ascending_fields (put f.name (shown_data f.value) ms) fs (ascending_put f.name (shown_data f.value) ms up)

-- ---- the reply

abbrev show_reply : ℕ → Members → List ℕ → ℕ → List ℕ
show_reply created ms issue moment = compact_text (object (member (codes "ok")
    (object (member (codes "created") (natural created) (member (codes "fields") (object ms)
    (member (codes "issue") (string issue) (member (codes "updated") (natural moment) no_members))))) no_members))

abbrev last_told : ℕ → List Told → ℕ
last_told at [] = at
last_told at (t ∷ ts) = last_told t.at ts

last_is : (all : Names) (at : ℕ) (es : List Entry) → last_moment at es ≡ last_told at (map (told all) es)
last_is all at [] = refl
last_is all at (e ∷ es) = last_is all e.at es

show_said : (all : Names) (h : History) → reply_text (reply.Ok (answer.Show h.at (shown_issue all h) h.key (updated h)))
    ≡ show_reply h.at (with_fields no_members (shown_fields all h (field_numbers all.fields))) h.key (last_told h.at (map (told all) h.entries))
unfolding reply_text shown_issue
show_said all h = ap (show_reply h.at (with_fields no_members (shown_fields all h (field_numbers all.fields))) h.key) (last_is all h.at h.entries)

module _ (one other : Parts) (sound : IsSound one) (sounds : IsSound other) (moment change later last : ℕ) (h g : History)
    (is : IsSettled (part_names one) moment change h) (also : IsSettled (part_names other) later last g) (alike : IsAlike (part_names one) (part_names other) h g) where
  same_fields : with_fields no_members (shown_fields (part_names other) g (field_numbers other.field)) ≡ with_fields no_members (shown_fields (part_names one) h (field_numbers one.field))
  same_fields =
      same_members _ _ (ascending_fields no_members (shown_fields (part_names other) g (field_numbers other.field)) tt)
      (ascending_fields no_members (shown_fields (part_names one) h (field_numbers one.field)) tt)
      (λ q. found_shown other sounds later last g also q
      ∙ (ap (λ ts. unless_null (or_null (get_member q (now_put (with_values (part_names other) no_members g.opening) ts)))) (sym alike.entries)
      ∙ (ap (λ ms. unless_null (or_null (get_member q (now_put ms (map (told (part_names one)) h.entries))))) (sym alike.opening)
      ∙ sym (found_shown one sound moment change h is q))))

  pub show_alike : reply_text (reply.Ok (answer.Show g.at (shown_issue (part_names other) g) g.key (updated g)))
      ≡ reply_text (reply.Ok (answer.Show h.at (shown_issue (part_names one) h) h.key (updated h)))
  show_alike =
      show_said (part_names other) g
      ∙ (ap (λ ms. show_reply g.at ms g.key (last_told g.at (map (told (part_names other)) g.entries))) same_fields
      ∙ (ap (λ (n : ℕ). show_reply n (with_fields no_members (shown_fields (part_names one) h (field_numbers one.field))) g.key (last_told n (map (told (part_names other)) g.entries))) (sym alike.at)
      ∙ (ap (λ (k : List ℕ). show_reply h.at (with_fields no_members (shown_fields (part_names one) h (field_numbers one.field))) k (last_told h.at (map (told (part_names other)) g.entries))) (sym alike.key)
      ∙ (ap (λ ts. show_reply h.at (with_fields no_members (shown_fields (part_names one) h (field_numbers one.field))) h.key (last_told h.at ts)) (sym alike.entries)
      ∙ sym (show_said (part_names one) h)))))
