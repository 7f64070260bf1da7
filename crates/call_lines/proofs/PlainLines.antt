-- What the members of a plain line are, and which of them are found.
use Rattle.std.proofs.Common.{◌≡◌, ◌<◌, ◌≤◌, arith, length, get_or, Ok, ℕ, List, [], ◌∷◌, Bool, true, false, Option, Some, None, option_map, Ordering, Less, Equal, Greater, cond, refl, ap, sym, ◌∙◌, inl, inr, not, find, nat_cmp, codes, Bor, Vec, Global}
use Rattle.std.specs.Prelude.{option_and_then, if◌then◌else◌, ◌&&◌}
use Rattle.std.specs.List.{list_all}
use Rattle.std.specs.Option.{is_some}
use Rattle.std.specs.Ordering.{match_ordering}
use Rattle.std.specs.Cmp.Lexicographic.{slice_cmp}
use Rattle.std.specs.Str.{bytes_eq, IsUtf8}
use Rattle.std.specs.BTreeMap.{insert_entry}
use Rattle.std.proofs.lemmas.Bool.{cases_Bool}
use Rattle.std.proofs.lemmas.Slice.Eq.{bytes_eq-Decides}
use Rattle.json.specs.Json as json
use Rattle.json.specs.Find as json_find
use Rattle.json.specs.Token.{Token}
use Rattle.json.specs.Lex.{tokens}
use Rattle.json.specs.Value.{value_view, members_view}
use Rattle.json.specs.declared.value.Value.{Object}
use Rattle.json.proofs.Trees.{view-Object}
use Rattle.serde_json.specs.Data.{Data, string, object, Members, no_members, member, put}
use Rattle.serde_json.specs.Find.{get_member, as_str}
use Rattle.serde_json.specs.Read.{of_json, of_members}
use Rattle.serde_json.proofs.Views.{get_member-put, get_member-put_other}
use Rattle.tracker_calls.specs.declared.call.Call.TheVariants as call
use Rattle.call_lines.specs.declared.kind.CallKind.{CallKind}
use Rattle.call_lines.specs.Asked.{names_of, first_other, is_member, line_of, call_of, need}
use Rattle.call_lines.specs.Plain.{Named, is_text, text_in, text_of, texts_in, are_texts_in, is_plain, plain_data, with_texts, texts_of, with_values, values_of, last_value, texts_by, IsTextOf}
use Rattle.call_lines.proofs.AskedLines.{data_of-text}
use Rattle.short_lists.specs.ByName.{name_cmp}

both : (a b : Bool) → (a && b) ≡ true → (a ≡ true) × (b ≡ true)
both true true e = (refl, refl)
both true false e = absurd (cc)
both false b e = absurd (cc)

-- ---- what plain values are

text_read : (j : json.Json) → is_some (json_find.as_str j) ≡ true → of_json j ≡ Some (string (text_in j))
text_read json.null e = absurd (cc)
text_read (json.boolean b) e = absurd (cc)
text_read (json.number s) e = absurd (cc)
text_read (json.string s) e = refl
text_read (json.array js) e = absurd (cc)
text_read (json.object ms) e = absurd (cc)

texts_read : (ms : json.Members) (found : Members) → are_texts_in ms ≡ true → of_members ms found ≡ Some (texts_in ms found)
texts_read json.no_members found e = refl
texts_read (json.member k j ms) found e =
    let parts = both (is_some (json_find.as_str j)) (are_texts_in ms) e in
    ap (option_and_then (λ (d : Data). of_members ms (put k d found))) (text_read j parts.0)
    ∙ texts_read ms (put k (string (text_in j)) found) parts.1

plain_read : (j : json.Json) → is_plain j ≡ true → of_json j ≡ Some (plain_data j)
plain_read json.null e = absurd (cc)
plain_read (json.boolean b) e = absurd (cc)
plain_read (json.number s) e = absurd (cc)
plain_read (json.string s) e = refl
plain_read (json.array js) e = absurd (cc)
plain_read (json.object ms) e = ap (option_map object) (texts_read ms no_members e)

-- a text is plain
pub text_is_plain : (j : json.Json) → is_some (json_find.as_str j) ≡ true → is_plain j ≡ true
text_is_plain json.null e = absurd (cc)
text_is_plain (json.boolean b) e = absurd (cc)
text_is_plain (json.number s) e = absurd (cc)
text_is_plain (json.string s) e = refl
text_is_plain (json.array js) e = absurd (cc)
text_is_plain (json.object ms) e = absurd (cc)

listed_texts : (ms : List Named) → are_texts_in (members_view ms) ≡ list_all (λ m. is_text m.1) ms
listed_texts [] = refl
listed_texts (m ∷ ms) = ap (λ (b : Bool). is_text m.1 && b) (listed_texts ms)

-- so is an object of texts
pub object_is_plain : (v : Vec Named Global) → list_all (λ m. is_text m.1) v.items ≡ true → is_plain (value_view (Object v)) ≡ true
object_is_plain v e = ap is_plain (view-Object v) ∙ (listed_texts v.items ∙ e)

texts_as_listed : (ms : List Named) (found : Members) → texts_in (members_view ms) found ≡ with_texts ms found
texts_as_listed [] found = refl
texts_as_listed (m ∷ ms) found = texts_as_listed ms (put m.0.now (string (text_of m.1)) found)

-- an object of texts has these members
pub object_of_texts : (v : Vec Named Global) → plain_data (value_view (Object v)) ≡ object (texts_of v.items)
object_of_texts v = ap plain_data (view-Object v) ∙ ap object (texts_as_listed v.items no_members)

-- the text of a plain value
pub plain_text : (j : json.Json) → as_str (plain_data j) ≡ json_find.as_str j
plain_text json.null = refl
plain_text (json.boolean b) = refl
plain_text (json.number s) = refl
plain_text (json.string s) = refl
plain_text (json.array js) = refl
plain_text (json.object ms) = refl

values_read_on : (ms : List Named) (found : Members) → list_all (λ m. is_plain (value_view m.1)) ms ≡ true → of_members (members_view ms) found ≡ Some (with_values ms found)
values_read_on [] found e = refl
values_read_on (m ∷ ms) found e =
    let parts = both (is_plain (value_view m.1)) (list_all (λ m. is_plain (value_view m.1)) ms) e in
    ap (option_and_then (λ (d : Data). of_members (members_view ms) (put m.0.now d found))) (plain_read (value_view m.1) parts.0)
    ∙ values_read_on ms (put m.0.now (plain_data (value_view m.1)) found) parts.1

-- plain values are read as the members that they are
pub values_are_read : (ms : List Named) → list_all (λ m. is_plain (value_view m.1)) ms ≡ true → of_members (members_view ms) no_members ≡ Some (values_of ms)
values_are_read ms e = values_read_on ms no_members e

-- the line is what its only value asks for
pub line_read : (text : List ℕ) (j : json.Json) (rest : List Token) → IsUtf8 text → json.value 127 (tokens text) ≡ Some (j, rest)
    → need (option_and_then of_json (json.if_last j rest)) (codes "line") call_of ≡ line_of text
unfolding line_of
line_read text j rest utf8 is =
    sym (ap (λ o. need o (codes "line") call_of)
    (data_of-text text utf8
    ∙ ap (λ (o : Option (json.Json × List Token)). option_and_then of_json (option_and_then (λ p. json.if_last p.0 p.1) o)) is))

-- ---- which member is found

refute : (b : Bool) → b ≡ true → b ≡ false → ⊥
refute b holds never = cc

found_after : (q k : List ℕ) (d : Data) (found : Members) → get_member q (put k d found) ≡ (if bytes_eq q k then Some d else get_member q found)
found_after q k d found = elim (cases_Bool (bytes_eq q k)) [
  | inl same ↦ rw same (ap (λ (name : List ℕ). get_member name (put k d found)) ((bytes_eq-Decides q k).0 same) ∙ get_member-put k d found)
  | inr apart ↦ rw apart (get_member-put_other q k d found (λ same. refute (bytes_eq q k) ((bytes_eq-Decides q k).1 same) apart))
]

last_found : (q : List ℕ) (ms : List Named) (found : Members) → get_member q (with_values ms found) ≡ last_value q (get_member q found) ms
last_found q [] found = refl
last_found q (m ∷ ms) found =
    last_found q ms (put m.0.now (plain_data (value_view m.1)) found)
    ∙ ap (λ (o : Option Data). last_value q o ms) (found_after q m.0.now (plain_data (value_view m.1)) found)

-- the last value of a name is the member of that name
pub last_value_is : (q : List ℕ) (ms : List Named) → get_member q (values_of ms) ≡ last_value q None ms
last_value_is q ms = last_found q ms no_members

-- ---- names that are no members of the call

none_here : (b : Bool) (l : List ℕ) (rest : Option (List ℕ)) → cond b (Some l) rest ≡ None → (b ≡ false) × (rest ≡ None)
none_here true l rest h = absurd (cc)
none_here false l rest h = (refl, h)

none_at : (o : Ordering) (p : List ℕ → Bool) (k l : List ℕ) (d e : Data) (ms : Members) → p k ≡ false → find p (names_of (member l e ms)) ≡ None
    → find p (names_of (put k d ms)) ≡ None
    → find p (names_of (match_ordering o (member k d (member l e ms)) (member l d ms) (member l e (put k d ms)))) ≡ None
none_at Less p k l d e ms fails none later = rw fails none
none_at Equal p k l d e ms fails none later = none
none_at Greater p k l d e ms fails none later = rw (none_here (p l) l (find p (names_of ms)) none).0 later

none_put : (p : List ℕ → Bool) (k : List ℕ) (d : Data) (ms : Members) → p k ≡ false → find p (names_of ms) ≡ None → find p (names_of (put k d ms)) ≡ None
none_put p k d no_members fails none = rw fails refl
none_put p k d (member l e ms) fails none =
    none_at (slice_cmp nat_cmp k l) p k l d e ms fails none
    (none_put p k d ms fails (none_here (p l) l (find p (names_of ms)) none).1)

none_with : (p : List ℕ → Bool) (ms : List Named) (found : Members) → list_all (λ m. not (p m.0.now)) ms ≡ true → find p (names_of found) ≡ None → find p (names_of (with_values ms found)) ≡ None
none_with p [] found all none = none
none_with p (m ∷ ms) found all none =
    let parts = both (not (p m.0.now)) (list_all (λ m. not (p m.0.now)) ms) all in
    none_with p ms (put m.0.now (plain_data (value_view m.1)) found) parts.1 (none_put p m.0.now (plain_data (value_view m.1)) found (fails (p m.0.now) parts.0) none) where
      fails : (b : Bool) → not b ≡ true → b ≡ false
      fails true e = absurd (cc)
      fails false e = refl

members_pass : (kind : CallKind) (ms : List Named) → list_all (λ m. is_member kind m.0.now) ms ≡ list_all (λ m. not (not (is_member kind m.0.now))) ms
members_pass kind [] = refl
members_pass kind (m ∷ ms) = same (is_member kind m.0.now) ∙ ap (λ (b : Bool). not (not (is_member kind m.0.now)) && b) (members_pass kind ms) where
  same : (b : Bool) → (b && list_all (λ m. is_member kind m.0.now) ms) ≡ (not (not b) && list_all (λ m. is_member kind m.0.now) ms)
  same true = refl
  same false = refl

-- where each is a member of the call, there is no other
pub no_other_value : (kind : CallKind) (ms : List Named) → list_all (λ m. is_member kind m.0.now) ms ≡ true → first_other kind (names_of (values_of ms)) ≡ None
no_other_value kind ms all = none_with (λ name. not (is_member kind name)) ms no_members (sym (members_pass kind ms) ∙ all) refl

-- ---- texts put by name

by_match : (o : Ordering) (a b c : List (Bor (List ℕ) × Bor (List ℕ))) → texts_by (match_ordering o a b c) ≡ match_ordering o (texts_by a) (texts_by b) (texts_by c)
by_match Less a b c = refl
by_match Equal a b c = refl
by_match Greater a b c = refl

pub text_put : (es : List (Bor (List ℕ) × Bor (List ℕ))) (k : Bor (List ℕ)) (v : Bor (List ℕ)) → texts_by (insert_entry name_cmp es k v) ≡ put k.now (string v.now) (texts_by es)
text_put [] k v = refl
text_put (e ∷ es) k v = by_match (name_cmp k e.0) _ _ _ ∙ rw (text_put es k v) refl

-- ---- a show whose members stand in the usual order

shown_line : (user issue : List ℕ)
    → need (option_map object (of_members (json.member (codes "user") (json.string user) (json.member (codes "call") (json.string (codes "show")) (json.member (codes "issue") (json.string issue) json.no_members))) no_members)) (codes "line") call_of
    ≡ Ok (user, call.Show issue)
shown_line user issue = refl

is_string : (j : json.Json) (s : List ℕ) → json_find.as_str j ≡ Some s → j ≡ json.string s
is_string json.null s e = absurd (cc)
is_string (json.boolean b) s e = absurd (cc)
is_string (json.number n) s e = absurd (cc)
is_string (json.string t) s e = ap json.string (some_same t s e) where
  some_same : (x y : List ℕ) → Some x ≡ Some y → x ≡ y
  some_same x y same = cc
is_string (json.array js) s e = absurd (cc)
is_string (json.object ms) s e = absurd (cc)

named_text : (name text : List ℕ) (m : Named) (rest : json.Members) → IsTextOf name text m → json.member m.0.now (value_view m.1) rest ≡ json.member name (json.string text) rest
named_text name text m rest is =
    ap (λ (k : List ℕ). json.member k (value_view m.1) rest) (sym ((bytes_eq-Decides name m.0.now).0 is.0))
    ∙ ap (λ (j : json.Json). json.member name j rest) (is_string (value_view m.1) text is.1)

pub show_in_order : (a b c : Named) (user kind issue : List ℕ) → IsTextOf (codes "user") user a → IsTextOf (codes "call") kind b → IsTextOf (codes "issue") issue c → bytes_eq (codes "show") kind ≡ true
    → need (option_map object (of_members (members_view (a ∷ b ∷ c ∷ [])) no_members)) (codes "line") call_of ≡ Ok (user, call.Show issue)
show_in_order a b c user kind issue first second third same =
    let last : members_view (c ∷ []) ≡ json.member (codes "issue") (json.string issue) json.no_members = named_text (codes "issue") issue c json.no_members third in
    let shows : kind ≡ codes "show" = sym ((bytes_eq-Decides (codes "show") kind).0 same) in
    let members : members_view (a ∷ b ∷ c ∷ []) ≡ json.member (codes "user") (json.string user) (json.member (codes "call") (json.string (codes "show")) (json.member (codes "issue") (json.string issue) json.no_members)) =
    named_text (codes "user") user a (members_view (b ∷ c ∷ [])) first
    ∙ ap (json.member (codes "user") (json.string user)) (named_text (codes "call") kind b (members_view (c ∷ [])) second
    ∙ ap (λ (k : List ℕ). json.member (codes "call") (json.string k) (members_view (c ∷ []))) shows
    ∙ ap (json.member (codes "call") (json.string (codes "show"))) last) in
    ap (λ (ms : json.Members). need (option_map object (of_members ms no_members)) (codes "line") call_of) members ∙ shown_line user issue

-- a list of three
pub three : {X : Type 0} (xs : List X) (a b c : X) → 3 ≤ length xs → length xs < 4 → a ≡ get_or xs 0 a → b ≡ get_or xs 1 b → c ≡ get_or xs 2 c → xs ≡ a ∷ b ∷ c ∷ []
three [] a b c many few first second third = absurd (omega arith)
three (x ∷ []) a b c many few first second third = absurd (omega arith)
three (x ∷ y ∷ []) a b c many few first second third = absurd (omega arith)
three (x ∷ y ∷ z ∷ []) a b c many few first second third = cc (first, second, third)
three (x ∷ y ∷ z ∷ w ∷ more) a b c many few first second third = absurd (omega arith)
