-- What stays in an object once a member is taken out.
use Rattle.std.proofs.Common.{◌≡◌, ℕ, List, [], ◌∷◌, codes, Option, Some, find, Bool, true, false, cond, Ordering, Less, Equal, Greater, is_eq, string_bytes, String, Global, nat_cmp, refl, sym, ap, ◌∙◌, inl, inr}
use Rattle.std.specs.Prelude.{if◌then◌else◌, not}
use Rattle.std.specs.Ordering.{match_ordering}
use Rattle.std.specs.Cmp.Lexicographic.{slice_cmp}
use Rattle.std.specs.Map.{remove_entry}
use Rattle.std.specs.BTreeMap.{is_at}
use Rattle.std.specs.Str.{bytes_eq}
use Rattle.std.proofs.lemmas.Bool.{cases_Bool}
use Rattle.std.proofs.lemmas.Map.Text.{is_eq-slice_cmp}
use Rattle.std.proofs.lemmas.Slice.Eq.{bytes_eq-Decides}
use Rattle.serde_json.specs.Data.{Data, object, Members, no_members, member}
use Rattle.serde_json.specs.Find.{get_member}
use Rattle.serde_json.specs.View.{view, members_view}
use Rattle.serde_json.specs.declared.value.Value.{Value}
use Rattle.call_lines.specs.declared.kind.CallKind.{CallKind}
use Rattle.call_lines.specs.Asked.{names_of, first_other, is_member}
use Rattle.json_texts.specs.JsonMembers.{text_at}
use Rattle.call_lines.specs.Named.{external_if_there}
use Rattle.call_lines.specs.Part.{from_if_there, count_if_there}
use Rattle.call_lines.specs.Taken.{without}
use Rattle.tracker_calls.proofs.Twins.{bytes_eq_flips}

abbrev Entry : Type 0
Entry = String Global × Value

by_test : (b c : Bool) (xs ys : List Entry) → b ≡ c → members_view (cond b xs ys) ≡ (if c then members_view xs else members_view ys)
by_test true true xs ys e = refl
by_test false false xs ys e = refl
by_test true false xs ys e = cc
by_test false true xs ys e = cc

pub view_remove_entry : (name : List ℕ) (es : List Entry)
    → members_view (remove_entry (is_at (λ k. slice_cmp nat_cmp name (string_bytes k))) es) ≡ without name (members_view es)
view_remove_entry name [] = refl
view_remove_entry name (e ∷ es) =
    by_test _ (bytes_eq name (string_bytes e.0)) es _ (is_eq-slice_cmp name (string_bytes e.0))
    ∙ ap (λ ms. if bytes_eq name (string_bytes e.0) then members_view es else member (string_bytes e.0) (view e.1) ms) (view_remove_entry name es)

either : (o : Ordering) (a b : Option Data) → is_eq o ≡ false → match_ordering o a b a ≡ a
either Less a b e = refl
either Equal a b e = cc
either Greater a b e = refl

-- another member is found as before
pub get_without : (name other : List ℕ) (ms : Members) → bytes_eq name other ≡ false → get_member other (without name ms) ≡ get_member other ms
get_without name other no_members apart = refl
get_without name other (member k d more) apart = elim (cases_Bool (bytes_eq name k)) [
  | inl same ↦ rw same (sym (either (slice_cmp nat_cmp other k) (get_member other more) (Some d)
      (is_eq-slice_cmp other k ∙ ap (bytes_eq other) (sym ((bytes_eq-Decides name k).0 same)) ∙ bytes_eq_flips other name ∙ apart)))
  | inr differ ↦ rw differ (ap (λ r. match_ordering (slice_cmp nat_cmp other k) r (Some d) r) (get_without name other more apart))
]

pub text_at_without : (name other : List ℕ) (ms : Members) → bytes_eq name other ≡ false → text_at other (object (without name ms)) ≡ text_at other (object ms)
text_at_without name other ms apart = rw (get_without name other ms apart) refl

pub external_without : (name : List ℕ) (ms : Members) → bytes_eq name (codes "external") ≡ false → external_if_there (object (without name ms)) ≡ external_if_there (object ms)
external_without name ms apart = rw (get_without name (codes "external") ms apart) refl

-- so are the bounds of a part
pub from_without : (name : List ℕ) (ms : Members) → bytes_eq name (codes "from") ≡ false → from_if_there (object (without name ms)) ≡ from_if_there (object ms)
from_without name ms apart = rw (get_without name (codes "from") ms apart) refl

pub count_without : (most : ℕ) (name : List ℕ) (ms : Members) → bytes_eq name (codes "count") ≡ false → count_if_there most (object (without name ms)) ≡ count_if_there most (object ms)
count_without most name ms apart = rw (get_without name (codes "count") ms apart) refl

-- a name that passes no test isn't missed by it
pub find_without : (test : List ℕ → Bool) (name : List ℕ) (ms : Members) → test name ≡ false → find test (names_of (without name ms)) ≡ find test (names_of ms)
find_without test name no_members fails = refl
find_without test name (member k d more) fails = elim (cases_Bool (bytes_eq name k)) [
  | inl same ↦ rw (same, ap test (sym ((bytes_eq-Decides name k).0 same)) ∙ fails) refl
  | inr differ ↦ rw differ (ap (λ r. cond (test k) (Some k) r) (find_without test name more fails))
]

-- of a member of the call no other is missed
pub first_other_without : (kind : CallKind) (name : List ℕ) (ms : Members) → is_member kind name ≡ true → first_other kind (names_of (without name ms)) ≡ first_other kind (names_of ms)
first_other_without kind name ms is = find_without (λ n. not (is_member kind n)) name ms (ap not is)
