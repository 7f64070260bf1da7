-- The body of a change group is read as it, and what is read may be kept.
use Rattle.std.proofs.Common.{◌≡◌, ℕ, zero, suc, ◌^◌, ◌&&◌, List, [], ◌∷◌, map, Some, nat_le, nat_lt, refl, sym, subst, arith, codes, le-leb, lt-ltb, leb-true, ltb-true}
use Rattle.std.specs.List.{All}
use Rattle.std.specs.Option.{option_and_then}
use Rattle.std.proofs.lemmas.Bool.{and_parts}
use Rattle.std.proofs.lemmas.Option.{cond_some, same_Some, option_and_then_some}
use Rattle.field_values.specs.Parts.{Parts}
use Rattle.field_values.specs.declared.numbers.UserNo.{UserNo}
use Rattle.field_values.specs.declared.numbers.IssueNo.{IssueNo}
use Rattle.field_forms.specs.Known.{Names}
use Rattle.fields.specs.Sound.{part_names, IsSound}
use Rattle.fields.proofs.Choices.{choices_distinct}
use Rattle.request_lines.specs.Readings.{last_moment}
use Rattle.change_history.specs.declared.entry.Entry.{Entry}
use Rattle.change_history.specs.declared.entry.Group.{Group}
use Rattle.serde_json.specs.Data.{Data, Items, no_items, item}
use Rattle.serde_json.specs.Find.{get, at, as_str}
use Rattle.serde_json.specs.Read.{read}
use Rattle.serde_json.specs.View.{items_of}
use Rattle.serde_json.specs.Written.{compact_text}
use Rattle.tracker_keeper.specs.declared.part.Part.{Part}
use Rattle.tracker_keeper.specs.declared.part.Part.TheVariants as part
use Rattle.tracker_keeper.specs.Bodies.{entry_data, group_data}
use Rattle.tracker_keeper.specs.Forms.{IsNumber, IsChangeNumber, IsGroupEntry, IsGroupPart}
use Rattle.tracker_keeper.specs.Kept.{IsPart, IsPartAt}
use Rattle.tracker_keeper.specs.Looking.{number_in, natural_of, moment_at, user_at}
use Rattle.tracker_keeper.specs.LookingAtValues.{change_in, field_in, field_at, value_at, value_like, entry_like, entries_like, entries_at, number_at, group_like, items_at}
use Rattle.tracker_keeper.proofs.Clean.{AreClean, reads_clean}
use Rattle.tracker_keeper.proofs.Found.{numbered, name_tells}
use Rattle.tracker_keeper.proofs.Fits.{option_map_some, is_number, moment_at_tells, user_tells}
use Rattle.tracker_keeper.proofs.ValuesBack.{value_found, clean_value, held_field, field_found, field_tells, value_holds}

-- what holds of all holds of the first, and of those behind it
pub first_of : {X : Type 0} (P : X → Type 0) (x : X) (xs : List X) → All P (x ∷ xs) → P x
first_of P x xs all = all zero x (omega arith)

pub rest_of : {X : Type 0} (P : X → Type 0) (x : X) (xs : List X) → All P (x ∷ xs) → All P xs
rest_of P x xs all = λ k d inside. all (suc k) d (omega (arith, inside))

pub change_numbered : (n : ℕ) → IsChangeNumber n → change_in n ≡ Some n
change_numbered n h = rw (le-leb 1 n h.0, lt-ltb n (2 ^ 64) h.1) refl

module _ (setup : Parts) (sound : IsSound setup) (change moment : ℕ) (author : UserNo) where
  entry_found : (e : Entry) → IsGroupEntry (part_names setup) change moment author e → entry_like (part_names setup) change moment author (entry_data (part_names setup) e) ≡ Some e
  entry_found e h =
      let names = part_names setup in
      let n = e.field.0 in
      let field = field_found setup n sound (held_field names n e.from h.from) in
      let from = value_found names n e.from (choices_distinct setup sound n) h.from in
      let to = value_found names n e.to (choices_distinct setup sound n) h.to in
      rw (sym h.change_is, sym h.at_is, sym h.author_is) (rw (field, from, to) refl)

  entries_found : (es : List Entry) → All (IsGroupEntry (part_names setup) change moment author) es
      → entries_like (part_names setup) change moment author (items_of (map (entry_data (part_names setup)) es)) ≡ Some es
  entries_found [] all = refl
  entries_found (e ∷ es) all =
      rw (entry_found e (first_of (IsGroupEntry (part_names setup) change moment author) e es all), entries_found es (rest_of (IsGroupEntry (part_names setup) change moment author) e es all)) refl

  clean_entries : (es : List Entry) → All (IsGroupEntry (part_names setup) change moment author) es → AreClean 2 (items_of (map (entry_data (part_names setup)) es))
  clean_entries [] all = tt
  clean_entries (e ∷ es) all =
      let names = part_names setup in
      let h = first_of (IsGroupEntry names change moment author) e es all in (
        (tt, (clean_value 0 names e.field.0 e.from h.from, (clean_value 0 names e.field.0 e.to h.to, tt))),
        clean_entries es (rest_of (IsGroupEntry names change moment author) e es all),
      )

pub reads_group : (setup : Parts) (issue change moment : ℕ) (author : UserNo) (entries : List Entry) → IsSound setup → IsGroupPart (part_names setup) issue change moment author entries
    → read (compact_text (group_data (part_names setup) moment author entries issue)) ≡ Some (group_data (part_names setup) moment author entries issue)
unfolding group_data
reads_group setup issue change moment author entries sound h =
    let timely = h.timely in
    let small = h.numbered.1 in
    reads_clean 4 (group_data (part_names setup) moment author entries issue) (
      (omega (arith, timely), (tt, (clean_entries setup sound change moment author entries h.each, (omega (arith, small), tt)))),
      ((refl, (refl, (refl, tt))), ((refl, (refl, tt)), ((refl, tt), (tt, tt)))),
    )
    (omega arith)

pub group_found : (setup : Parts) (issue : IssueNo) (group : Group) → IsSound setup → IsGroupPart (part_names setup) issue.0 group.change group.at group.author group.entries
    → group_like (part_names setup) group.change (group_data (part_names setup) group.at group.author group.entries issue.0) ≡ Some (part.Group issue group)
unfolding group_data group_like
group_found setup issue group sound h =
    rw (
      change_numbered group.change h.counted,
      le-leb group.at last_moment h.timely,
      name_tells setup.users group.author sound.users.distinct h.authored,
      numbered issue.0 h.numbered,
      entries_found setup sound group.change group.at group.author group.entries h.each,
    ) refl

-- ---- what is read may be kept

pub change_tells : (n m : ℕ) → change_in n ≡ Some m → (m ≡ n) × IsChangeNumber m
change_tells n m e =
    let c = cond_some (nat_le 1 n && nat_lt n (2 ^ 64)) n m e in
    let t = and_parts (nat_le 1 n) (nat_lt n (2 ^ 64)) c.0 in
    (sym c.1, subst IsChangeNumber c.1 (leb-true 1 n t.0, ltb-true n (2 ^ 64) t.1))

number_at_tells : (name : List ℕ) (d : Data) (m : ℕ) → number_at name d ≡ Some m → IsNumber m
number_at_tells name d m e = option_and_then_some number_in (option_and_then natural_of (get name d)) m e (λ n n_is h. is_number n m h)

module _ (names : Names) (change moment : ℕ) (author : UserNo) where
  entry_fits : (d : Data) (e : Entry) → entry_like names change moment author d ≡ Some e → IsGroupEntry names change moment author e
  entry_fits d e h =
      option_and_then_some _ (field_at names.fields d) e h (λ n n_is h1.
      option_and_then_some _ (value_at names n 1 d) e h1 (λ from from_is h2.
      option_map_some _ (value_at names n 2 d) e h2 (λ to to_is e_is.
      option_and_then_some (field_in names.fields) (option_and_then as_str (at 0 d)) n n_is (λ name name_is h3.
      let is = field_tells names.fields name n h3 in
      option_and_then_some (value_like names n) (at 1 d) from from_is (λ d1 d1_is h4.
      option_and_then_some (value_like names n) (at 2 d) to to_is (λ d2 d2_is h5.
      subst (IsGroupEntry names change moment author) e_is (record {
        change_is = refl;
        at_is = refl;
        author_is = refl;
        from = value_holds names n d1 from is h4;
        to = value_holds names n d2 to is h5;
      })))))))

  all_of_none : (es : List Entry) → [] ≡ es → All (IsGroupEntry names change moment author) es
  all_of_none es e = subst (All (IsGroupEntry names change moment author)) e (λ k d inside. absurd (omega (arith, inside)))

  all_of_more : (e : Entry) (es : List Entry) → IsGroupEntry names change moment author e → All (IsGroupEntry names change moment author) es → All (IsGroupEntry names change moment author) (e ∷ es)
  all_of_more e es h all zero d inside = h
  all_of_more e es h all (suc k) d inside = all k d (omega (arith, inside))

  entries_fit : (ds : Items) (es : List Entry) → entries_like names change moment author ds ≡ Some es → All (IsGroupEntry names change moment author) es
  entries_fit no_items es h = all_of_none es (same_Some [] es h)
  entries_fit (item d ds) es h =
      option_and_then_some _ (entry_like names change moment author d) es h (λ e e_is h'.
      option_map_some _ (entries_like names change moment author ds) es h' (λ more more_is es_is.
      subst (All (IsGroupEntry names change moment author)) es_is (all_of_more e more (entry_fits d e e_is) (entries_fit ds more more_is))))

pub group_fits : (setup : Parts) (n : ℕ) (d : Data) (p : Part) → group_like (part_names setup) n d ≡ Some p → IsPartAt setup 4 n p
unfolding group_like IsPart
group_fits setup n d p e =
    option_and_then_some _ (change_in n) p e (λ change change_is e1.
    option_and_then_some _ (moment_at (codes "at") d) p e1 (λ moment moment_is e2.
    option_and_then_some _ (user_at setup.users (codes "author") d) p e2 (λ author author_is e3.
    option_and_then_some _ (number_at (codes "issue") d) p e3 (λ issue issue_is e4.
    option_map_some _ (entries_at (part_names setup) change moment author d) p e4 (λ entries entries_is p_is.
    option_and_then_some (entries_like (part_names setup) change moment author) (items_at (codes "entries") d) entries entries_is (λ ds ds_is h.
    let t = change_tells n change change_is in
    subst (IsPartAt setup 4 n) p_is (record {
      is_part = record {
        numbered = number_at_tells (codes "issue") d issue issue_is;
        counted = t.1;
        timely = moment_at_tells (codes "at") d moment moment_is;
        authored = user_tells setup.users (codes "author") d author author_is;
        each = entries_fit (part_names setup) change moment author ds entries h;
      };
      kind_is = refl;
      number_is = t.0;
    })))))))
