-- Each part below a condition reads again as it is spelled.
use Rattle.std.proofs.Common.{◌≡◌, ℕ, true, not, List, [], ◌∷◌, ◌++◌, map, Option, Some, None, refl, ap, sym, ◌∙◌, append-nil, inl, inr}
use Rattle.std.specs.List.{list_all}
use Rattle.std.specs.Option.{is_some}
use Rattle.std.specs.Str.{IsUtf8}
use Rattle.jql_syntax.specs.Tokens.{keyword_of}
use Rattle.std.specs.Char.{is_ascii_alphabetic, is_ascii_alphanumeric}
use Rattle.jql_syntax.specs.Tree.{single}
use Rattle.jql_syntax.specs.Node.{Node, text, a_field, a_call, a_value, an_item, members, a_choice, a_predicate, an_aspect, a_test, condition, a_direction, a_key, made, named_field, called, call_value, empty_item, value_item, list_of_items, list_of_call, one_item, several_items, after, before, on_day, during, by_author, predicate_aspect, from_choice, to_choice, equals, not_equals, among, not_among, is_empty, is_not_empty, was, was_not, was_among, was_not_among, changed, compares, field_test, ascending, descending, sort_key}
use Rattle.jql_syntax.specs.Form.{Class, function_name, bare_word, any_text, IsOf, of_sign, of_word, of_quoted, of_date_word, of_date_quoted, of_name, of_bare_word, of_bare_name, of_any_word, of_any_name, of_any_quoted, of_number, Form, one, nothing, both, either, rule}
use Rattle.jql_syntax.specs.Grammar.{key, field, argument, call_of, call, value, date, item, author, call_as_list, list, some, listed as listed_form, on_dates, predicate, aspect, compared, comparison, is_test, past_among, past_item, was_test, changed_test, test, leaf, direction, sorting}
use Rattle.jql_syntax.specs.Reads.{Is, is_one, is_nothing, is_both, is_first, is_second, is_rule}
use Rattle.jql_syntax.specs.declared.token.Mark.TheVariants.{Equals, NotEquals, Open, Close, Comma, Not, Empty, In, Is as IsMark, Was, Changed, By, After, Before, On, During, From, To}
use Rattle.jql_syntax.specs.declared.token.Token.{Token}
use Rattle.jql_syntax.specs.declared.token.Token.TheVariants.{Marked, Name, Quoted}
use Rattle.jql_syntax.specs.declared.query.Field.{Field}
use Rattle.jql_syntax.specs.declared.query.Field.TheVariants.{Named, Custom as CustomField}
use Rattle.jql_syntax.specs.declared.query.Call.{Call}
use Rattle.jql_syntax.specs.declared.query.Value.TheVariants.{Text, Call as CallValue}
use Rattle.jql_syntax.specs.declared.query.Item.{Item}
use Rattle.jql_syntax.specs.declared.query.Item.TheVariants.{Value as ValueItem, Empty as EmptyItem}
use Rattle.jql_syntax.specs.declared.query.Members.{Members}
use Rattle.jql_syntax.specs.declared.query.Members.TheVariants.{Items, Call as CallMembers}
use Rattle.jql_syntax.specs.declared.query.Choice.TheVariants.{One, Several}
use Rattle.jql_syntax.specs.declared.query.Predicate.{Predicate}
use Rattle.jql_syntax.specs.declared.query.Predicate.TheVariants.{After as IsAfter, Before as IsBefore, On as IsOn, During as IsDuring, By as IsBy}
use Rattle.jql_syntax.specs.declared.query.Aspect.TheVariants.{Predicate as PredicateAspect, From as IsFrom, To as IsTo}
use Rattle.jql_syntax.specs.declared.query.Comparison.{Comparison}
use Rattle.jql_syntax.specs.declared.query.Comparison.TheVariants.{Greater as IsGreater, GreaterOrEqual as IsGreaterOrEqual, Less as IsLess, LessOrEqual as IsLessOrEqual, Contains as DoesContain, Lacks as DoesLack}
use Rattle.jql_syntax.specs.declared.query.Test.{Test}
use Rattle.jql_syntax.specs.declared.query.Test.TheVariants.{Equals as IsEqual, NotEquals as IsNotEqual, Compares, In as IsIn, NotIn as IsNotIn, IsEmpty, IsNotEmpty, Was as HasBeen, WasNot as HasNotBeen, WasIn as HasBeenIn, WasNotIn as HasNotBeenIn, Changed as HasChanged}
use Rattle.jql_syntax.specs.declared.query.Leaf.{Leaf}
use Rattle.jql_syntax.specs.declared.query.Direction.{Direction}
use Rattle.jql_syntax.specs.declared.query.Direction.TheVariants.{Ascending as IsAscending, Descending as IsDescending}
use Rattle.jql_syntax.specs.Reader.{argument_parts}
use Rattle.jql_syntax.proofs.Apart.{differ, true_or_false, and_cases}
use Rattle.jql_syntax.proofs.Reading.{items_back, predicates_back, aspects_back}
use Rattle.jql_print.specs.Print.{is_bare, name_token, field_text, argument_text, call_text, value_text, item_text, each, keyed, listed, members_text, choice_text, predicate_text, aspect_text, comparison_mark, test_text, leaf_text, direction_mark, key_text}
use Rattle.jql_print.proofs.Words.{scalars_from, words_from, bytes_from}
use Rattle.jql_print.proofs.Spells.{IsName, OpensNext, Spells, AreGood}
use Rattle.jql_print.proofs.Round.{Again, again_key, again_nothing, again_both, again_first, again_second, again_rule, again_as, good_after, both_parts, rule_parts, key_parts, Back, BackMany, Returns, keyed_back, many_back, separated_back}

-- ---- texts

pub name_utf8 : {w : List ℕ} → IsName w → IsUtf8 w
name_utf8 n = (n.first ∷ n.more, (n.are_scalars, n.spelled))

-- a text, and that it is UTF-8; a word, and that it is one
pub record SomeText (xs : List Node) : Type 0 where
  pub w : List ℕ
  pub parts : xs ≡ text w ∷ []
  pub utf8 : IsUtf8 w

pub record SomeName (xs : List Node) : Type 0 where
  pub w : List ℕ
  pub parts : xs ≡ text w ∷ []
  pub name : IsName w

any_text_back : {ts rest : List Token} {xs : List Node} → Is (one any_text) ts rest xs → AreGood ts → SomeText xs
any_text_back (is_one (of_any_word {w = w})) g = record { w = w; parts = refl; utf8 = name_utf8 g.0 }
any_text_back (is_one (of_any_name {w = w})) g = record { w = w; parts = refl; utf8 = name_utf8 g.0 }
any_text_back (is_one (of_any_quoted {w = w})) g = record { w = w; parts = refl; utf8 = g.0 }

quoted_any : (w : List ℕ) → IsUtf8 w → Again (one any_text) (λ rest. Quoted w ∷ rest) (text w ∷ [])
quoted_any w u = record { reads = λ rest. is_one of_any_quoted; spells = λ rest s. (u, s) }

-- ---- calls

pub record BackArgument (xs : List Node) : Type 0 where
  pub argument : Option (List ℕ)
  pub parts : xs ≡ argument_parts argument
  pub again : Again (either (one any_text) nothing) (argument_text argument) (argument_parts argument)

optional_back : {ts rest : List Token} {xs : List Node} → Is (either (one any_text) nothing) ts rest xs → AreGood ts → BackArgument xs
optional_back (is_first r) g = let t = any_text_back r g in record { argument = Some t.w; parts = t.parts; again = again_first nothing (quoted_any t.w t.utf8) }
optional_back (is_second is_nothing) g = record { argument = None; parts = refl; again = again_second (one any_text) again_nothing }

-- what a call is made of: its name, and its argument in parentheses
call_parts : (w : List ℕ) (a : Option (List ℕ)) → made called (text w ∷ argument_parts a ++ []) ≡ a_call (record { name = w; argument = a }) ∷ []
call_parts w None = refl
call_parts w (Some a) = refl

argument_reads : (a : Option (List ℕ)) → Again (either (one any_text) nothing) (argument_text a) (argument_parts a) → Again argument (λ rest. Marked Open ∷ argument_text a (Marked Close ∷ rest)) (argument_parts a ++ [])
argument_reads o a = again_both (again_key Open) (again_both a (again_key Close))

-- a name before its argument
name_again : {a : Option (List ℕ)} (c : Class) (w : List ℕ) → IsOf c (Name w) (text w ∷ []) → IsName w → Again (either (one any_text) nothing) (argument_text a) (argument_parts a) → Again (call_of c) (call_text (record { name = w; argument = a })) (a_call (record { name = w; argument = a }) ∷ [])
name_again {a = a} c w o n r =
    let i = argument_reads a r in
    record {
      reads = λ rest. is_rule (is_both (is_one o) (i.reads rest) refl) (sym (call_parts w a));
      spells = λ rest s. (n, tt, i.spells rest s);
    }

call_made : {zs ys xs : List Node} (w : List ℕ) (a : Option (List ℕ)) → zs ≡ made called ys → ys ≡ (text w ∷ []) ++ xs → xs ≡ argument_parts a ++ [] → zs ≡ a_call (record { name = w; argument = a }) ∷ []
call_made w a e d h = e ∙ ap (made called) (d ∙ ap (λ v. text w ∷ v) h) ∙ call_parts w a

argument_made : {zs ys xs us : List Node} (a : Option (List ℕ)) → zs ≡ us ++ ys → us ≡ [] → ys ≡ xs ++ [] → xs ≡ argument_parts a → zs ≡ argument_parts a ++ []
argument_made {ys = ys} a e k d h = e ∙ ap (λ v. v ++ ys) k ∙ d ∙ ap (λ v. v ++ []) h

call_back : {ts rest : List Token} {xs : List Node} → Is call ts rest xs → AreGood ts → Back call a_call call_text xs
call_back (is_rule (is_both (is_one (of_name {w = w})) (is_both (is_one of_sign) (is_both r (is_one of_sign) d) e) f) h) g =
    let a = optional_back r g.1.1 in
    record {
      part = record { name = w; argument = a.argument };
      parts = call_made w a.argument h f (argument_made a.argument e refl d a.parts);
      again = name_again function_name w of_name g.0 a.again;
    }

call_as_list_back : {ts rest : List Token} {xs : List Node} → Is call_as_list ts rest xs → AreGood ts → Back call_as_list a_call call_text xs
call_as_list_back (is_rule (is_both (is_one (of_bare_word {w = w})) (is_both (is_one of_sign) (is_both r (is_one of_sign) d) e) f) h) g =
    let a = optional_back r g.1.1 in
    record {
      part = record { name = w; argument = a.argument };
      parts = call_made w a.argument h f (argument_made a.argument e refl d a.parts);
      again = name_again bare_word w of_bare_name g.0 a.again;
    }
call_as_list_back (is_rule (is_both (is_one (of_bare_name {w = w})) (is_both (is_one of_sign) (is_both r (is_one of_sign) d) e) f) h) g =
    let a = optional_back r g.1.1 in
    record {
      part = record { name = w; argument = a.argument };
      parts = call_made w a.argument h f (argument_made a.argument e refl d a.parts);
      again = name_again bare_word w of_bare_name g.0 a.again;
    }

-- ---- values, dates and items

value_quoted : (w : List ℕ) → IsUtf8 w → Again value (value_text (Text w)) (a_value (Text w) ∷ [])
value_quoted w u = record { reads = λ rest. is_first (is_rule (is_one of_quoted) refl); spells = λ rest s. (u, s) }

value_called : {c : Call} → Again call (call_text c) (a_call c ∷ []) → Again value (value_text (CallValue c)) (a_value (CallValue c) ∷ [])
value_called a = again_second _ (again_rule call_value a refl)

pub value_back : (ts rest : List Token) (xs : List Node) → Is value ts rest xs → AreGood ts → Back value a_value value_text xs
value_back _ _ _ (is_first (is_rule (is_one (of_word {w = w})) e)) g = record { part = Text w; parts = e; again = value_quoted w (name_utf8 g.0) }
value_back _ _ _ (is_first (is_rule (is_one (of_quoted {w = w})) e)) g = record { part = Text w; parts = e; again = value_quoted w g.0 }
value_back _ _ _ (is_second (is_rule r e)) g = let c = call_back r g in record { part = CallValue c.part; parts = rule_parts call_value e c.parts; again = value_called c.again }

date_called : {c : Call} → Again call (call_text c) (a_call c ∷ []) → Again date (value_text (CallValue c)) (a_value (CallValue c) ∷ [])
date_called a = again_second _ (again_rule call_value a refl)

pub date_back : (ts rest : List Token) (xs : List Node) → Is date ts rest xs → AreGood ts → Back date a_value value_text xs
date_back _ _ _ (is_first (is_rule (is_one (of_date_word {w = w} h)) e)) g = let u = name_utf8 g.0 in record { part = Text w; parts = e; again = record { reads = λ rest. is_first (is_rule (is_one (of_date_quoted h)) refl); spells = λ rest s. (u, s) } }
date_back _ _ _ (is_first (is_rule (is_one (of_date_quoted {w = w} h)) e)) g = let u = g.0 in record { part = Text w; parts = e; again = record { reads = λ rest. is_first (is_rule (is_one (of_date_quoted h)) refl); spells = λ rest s. (u, s) } }
date_back _ _ _ (is_second (is_rule r e)) g = let c = call_back r g in record { part = CallValue c.part; parts = rule_parts call_value e c.parts; again = date_called c.again }

pub author_back : (ts rest : List Token) (xs : List Node) → Is author ts rest xs → AreGood ts → Back author an_item item_text xs
author_back _ _ _ (is_rule r e) g = let v = value_back _ _ _ r g in record { part = ValueItem v.part; parts = rule_parts value_item e v.parts; again = again_rule value_item v.again refl }

pub item_back : (ts rest : List Token) (xs : List Node) → Is item ts rest xs → AreGood ts → Back item an_item item_text xs
item_back _ _ _ (is_first (is_rule r e)) g = let v = value_back _ _ _ r g in record { part = ValueItem v.part; parts = rule_parts value_item e v.parts; again = again_first _ (again_rule value_item v.again refl) }
item_back _ _ _ (is_second (is_rule k e)) g = record { part = EmptyItem; parts = rule_parts empty_item e (key_parts k); again = again_second _ (again_rule empty_item (again_key Empty) refl) }

-- ---- lists

listed_back : {f : Form} {ts rest : List Token} {xs : List Node} → Returns f an_item item_text → Is (listed_form f) ts rest xs → AreGood ts → BackMany (listed_form f) an_item listed xs
listed_back back (is_both k (is_both r l d) e) g =
    let b = separated_back item_text back r (good_after k g) in
    record {
      items = b.items;
      parts = both_parts e (key_parts k) (both_parts d b.parts (key_parts l) ∙ append-nil (map an_item b.items));
      again = again_both (again_key Open) (again_as (again_both b.again (again_key Close)) (append-nil (map an_item b.items)));
    }

pub members_back : (ts rest : List Token) (xs : List Node) → Is list ts rest xs → AreGood ts → Back list members members_text xs
members_back _ _ _ (is_first (is_rule r e)) g =
    let b = listed_back item_back r g in
    let h = ap (λ v. members (Items v) ∷ []) (items_back b.items) in
    record { part = Items b.items; parts = rule_parts list_of_items e b.parts ∙ h; again = again_first _ (again_rule list_of_items b.again (sym h)) }
members_back _ _ _ (is_second (is_rule r e)) g =
    let c = call_as_list_back r g in
    record { part = CallMembers c.part; parts = rule_parts list_of_call e c.parts; again = again_second _ (again_rule list_of_call c.again refl) }

pub choice_back : {f : Form} {ts rest : List Token} {xs : List Node} → Returns f an_item item_text → Is (some f) ts rest xs → AreGood ts → Back (some f) a_choice choice_text xs
choice_back back (is_first (is_rule r e)) g =
    let b = listed_back back r g in
    let h = ap (λ v. a_choice (Several v) ∷ []) (items_back b.items) in
    record { part = Several b.items; parts = rule_parts several_items e b.parts ∙ h; again = again_first _ (again_rule several_items b.again (sym h)) }
choice_back back (is_second (is_rule r e)) g =
    let b = back _ _ _ r g in
    record { part = One b.part; parts = rule_parts one_item e b.parts; again = again_second _ (again_rule one_item b.again refl) }

-- ---- what is asked of changes

predicate_after : (ts rest : List Token) (xs : List Node) → Is (rule after (both (key After) date)) ts rest xs → AreGood ts → Back (rule after (both (key After) date)) a_predicate predicate_text xs
predicate_after _ _ _ (is_rule r e) g = let b = keyed_back After value_text date_back r g in record { part = IsAfter b.part; parts = rule_parts after e b.parts; again = again_rule after b.again refl }

predicate_before : (ts rest : List Token) (xs : List Node) → Is (rule before (both (key Before) date)) ts rest xs → AreGood ts → Back (rule before (both (key Before) date)) a_predicate predicate_text xs
predicate_before _ _ _ (is_rule r e) g = let b = keyed_back Before value_text date_back r g in record { part = IsBefore b.part; parts = rule_parts before e b.parts; again = again_rule before b.again refl }

predicate_on : (ts rest : List Token) (xs : List Node) → Is (rule on_day (both (key On) date)) ts rest xs → AreGood ts → Back (rule on_day (both (key On) date)) a_predicate predicate_text xs
predicate_on _ _ _ (is_rule r e) g = let b = keyed_back On value_text date_back r g in record { part = IsOn b.part; parts = rule_parts on_day e b.parts; again = again_rule on_day b.again refl }

predicate_by : (ts rest : List Token) (xs : List Node) → Is (rule by_author (both (key By) (some author))) ts rest xs → AreGood ts → Back (rule by_author (both (key By) (some author))) a_predicate predicate_text xs
predicate_by _ _ _ (is_rule r e) g = let b = keyed_back By choice_text (λ ts rest xs p h. choice_back author_back p h) r g in record { part = IsBy b.part; parts = rule_parts by_author e b.parts; again = again_rule by_author b.again refl }

predicate_during : (ts rest : List Token) (xs : List Node) → Is (rule during on_dates) ts rest xs → AreGood ts → Back (rule during on_dates) a_predicate predicate_text xs
predicate_during _ _ _ (is_rule (is_both j (is_both k (is_both r (is_both l (is_both s m a) b) c) d) e) f) g =
    let gr = good_after k (good_after j g) in
    let v = date_back _ _ _ r gr in
    let w = date_back _ _ _ s (good_after l (good_after r gr)) in
    let p = both_parts a w.parts (key_parts m) in
    let q = both_parts c v.parts (both_parts b (key_parts l) p) in
    record {
      part = IsDuring v.part w.part;
      parts = rule_parts during f (both_parts e (key_parts j) (both_parts d (key_parts k) q));
      again = again_rule during (again_both (again_key During) (again_both (again_key Open) (again_both v.again (again_both (again_key Comma) (again_both w.again (again_key Close)))))) refl;
    }

-- one form or the other
either_back : {A : Type 0} {f g : Form} {node : A → Node} {text : A → List Token → List Token} {ts rest : List Token} {xs : List Node} → Returns f node text → Returns g node text → Is (either f g) ts rest xs → AreGood ts → Back (either f g) node text xs
either_back back other (is_first r) g = let b = back _ _ _ r g in record { part = b.part; parts = b.parts; again = again_first _ b.again }
either_back back other (is_second r) g = let b = other _ _ _ r g in record { part = b.part; parts = b.parts; again = again_second _ b.again }

pub predicate_back : Returns predicate a_predicate predicate_text
predicate_back = λ ts rest xs p h. either_back predicate_after (λ ts rest xs p h. either_back predicate_before (λ ts rest xs p h. either_back predicate_on (λ ts rest xs p h. either_back predicate_during predicate_by p h) p h) p h) p h

aspect_predicate : (ts rest : List Token) (xs : List Node) → Is (rule predicate_aspect predicate) ts rest xs → AreGood ts → Back (rule predicate_aspect predicate) an_aspect aspect_text xs
aspect_predicate _ _ _ (is_rule r e) g = let b = predicate_back _ _ _ r g in record { part = PredicateAspect b.part; parts = rule_parts predicate_aspect e b.parts; again = again_rule predicate_aspect b.again refl }

aspect_from : (ts rest : List Token) (xs : List Node) → Is (rule from_choice (both (key From) (some item))) ts rest xs → AreGood ts → Back (rule from_choice (both (key From) (some item))) an_aspect aspect_text xs
aspect_from _ _ _ (is_rule r e) g = let b = keyed_back From choice_text (λ ts rest xs p h. choice_back item_back p h) r g in record { part = IsFrom b.part; parts = rule_parts from_choice e b.parts; again = again_rule from_choice b.again refl }

aspect_to : (ts rest : List Token) (xs : List Node) → Is (rule to_choice (both (key To) (some item))) ts rest xs → AreGood ts → Back (rule to_choice (both (key To) (some item))) an_aspect aspect_text xs
aspect_to _ _ _ (is_rule r e) g = let b = keyed_back To choice_text (λ ts rest xs p h. choice_back item_back p h) r g in record { part = IsTo b.part; parts = rule_parts to_choice e b.parts; again = again_rule to_choice b.again refl }

pub aspect_back : Returns aspect an_aspect aspect_text
aspect_back = λ ts rest xs p h. either_back aspect_predicate (λ ts rest xs p h. either_back aspect_from aspect_to p h) p h

-- ---- what is asked of a field

test_equals : (ts rest : List Token) (xs : List Node) → Is (rule equals (both (key Equals) item)) ts rest xs → AreGood ts → Back (rule equals (both (key Equals) item)) a_test test_text xs
test_equals _ _ _ (is_rule r e) g = let b = keyed_back Equals item_text item_back r g in record { part = IsEqual b.part; parts = rule_parts equals e b.parts; again = again_rule equals b.again refl }

test_not_equals : (ts rest : List Token) (xs : List Node) → Is (rule not_equals (both (key NotEquals) item)) ts rest xs → AreGood ts → Back (rule not_equals (both (key NotEquals) item)) a_test test_text xs
test_not_equals _ _ _ (is_rule r e) g = let b = keyed_back NotEquals item_text item_back r g in record { part = IsNotEqual b.part; parts = rule_parts not_equals e b.parts; again = again_rule not_equals b.again refl }

test_in : (ts rest : List Token) (xs : List Node) → Is (rule among (both (key In) list)) ts rest xs → AreGood ts → Back (rule among (both (key In) list)) a_test test_text xs
test_in _ _ _ (is_rule r e) g = let b = keyed_back In members_text members_back r g in record { part = IsIn b.part; parts = rule_parts among e b.parts; again = again_rule among b.again refl }

test_not_in : (ts rest : List Token) (xs : List Node) → Is (rule not_among (both (key Not) (both (key In) list))) ts rest xs → AreGood ts → Back (rule not_among (both (key Not) (both (key In) list))) a_test test_text xs
test_not_in _ _ _ (is_rule r e) g = let b = keyed_back Not (keyed In members_text) (λ ts rest xs p h. keyed_back In members_text members_back p h) r g in record { part = IsNotIn b.part; parts = rule_parts not_among e b.parts; again = again_rule not_among b.again refl }

test_compared : (c : Comparison) → (ts rest : List Token) (xs : List Node) → Is (compared c (comparison_mark c)) ts rest xs → AreGood ts → Back (compared c (comparison_mark c)) a_test test_text xs
test_compared c _ _ _ (is_rule r e) g = let b = keyed_back (comparison_mark c) value_text value_back r g in record { part = Compares c b.part; parts = rule_parts (compares c) e b.parts; again = again_rule (compares c) b.again refl }

test_comparison : Returns comparison a_test test_text
test_comparison = λ ts rest xs p h. either_back (test_compared IsGreater) (λ ts rest xs p h. either_back (test_compared IsGreaterOrEqual) (λ ts rest xs p h. either_back (test_compared IsLess) (λ ts rest xs p h. either_back (test_compared IsLessOrEqual) (λ ts rest xs p h. either_back (test_compared DoesContain) (test_compared DoesLack) p h) p h) p h) p h) p h

test_emptiness : (ts rest : List Token) (xs : List Node) → Is is_test ts rest xs → AreGood ts → Back is_test a_test test_text xs
test_emptiness _ _ _ (is_both k (is_first (is_rule (is_both l m d) f)) e) g = record {
  part = IsNotEmpty;
  parts = both_parts e (key_parts k) (rule_parts is_not_empty f (both_parts d (key_parts l) (key_parts m)));
  again = again_both (again_key IsMark) (again_first _ (again_rule is_not_empty (again_both (again_key Not) (again_key Empty)) refl));
}
test_emptiness _ _ _ (is_both k (is_second (is_rule l f)) e) g = record {
  part = IsEmpty;
  parts = both_parts e (key_parts k) (rule_parts is_empty f (key_parts l));
  again = again_both (again_key IsMark) (again_second _ (again_rule is_empty (again_key Empty) refl));
}

-- an item, or a list, and what is asked of the change
pub record BackItem (xs : List Node) : Type 0 where
  pub first : Item
  pub later : List Predicate
  pub parts : xs ≡ an_item first ∷ map a_predicate later
  pub again : Again past_item (λ rest. item_text first (each predicate_text later rest)) (an_item first ∷ map a_predicate later)

past_item_back : {ts rest : List Token} {xs : List Node} → Is past_item ts rest xs → AreGood ts → BackItem xs
past_item_back (is_both r s e) g =
    let b = item_back _ _ _ r g in
    let c = many_back predicate_text predicate_back s (good_after r g) in
    record { first = b.part; later = c.items; parts = both_parts e b.parts c.parts; again = again_both b.again c.again }

pub record BackAmong (xs : List Node) : Type 0 where
  pub first : Members
  pub later : List Predicate
  pub parts : xs ≡ members first ∷ map a_predicate later
  pub again : Again past_among (λ rest. Marked In ∷ members_text first (each predicate_text later rest)) (members first ∷ map a_predicate later)

past_among_back : {ts rest : List Token} {xs : List Node} → Is past_among ts rest xs → AreGood ts → BackAmong xs
past_among_back (is_both k (is_both r s d) e) g =
    let gr = good_after k g in
    let b = members_back _ _ _ r gr in
    let c = many_back predicate_text predicate_back s (good_after r gr) in
    record {
      first = b.part;
      later = c.items;
      parts = both_parts e (key_parts k) (both_parts d b.parts c.parts);
      again = again_both (again_key In) (again_both b.again c.again);
    }

test_was : (ts rest : List Token) (xs : List Node) → Is was_test ts rest xs → AreGood ts → Back was_test a_test test_text xs
test_was _ _ _ (is_both k (is_first (is_both j (is_first (is_rule r f)) d)) e) g =
    let b = past_among_back r (good_after j (good_after k g)) in
    let h = ap (λ v. a_test (HasNotBeenIn b.first v) ∷ []) (predicates_back b.later) in
    record {
      part = HasNotBeenIn b.first b.later;
      parts = both_parts e (key_parts k) (both_parts d (key_parts j) (rule_parts was_not_among f b.parts ∙ h));
      again = again_both (again_key Was) (again_first _ (again_both (again_key Not) (again_first _ (again_rule was_not_among b.again (sym h)))));
    }
test_was _ _ _ (is_both k (is_first (is_both j (is_second (is_rule r f)) d)) e) g =
    let b = past_item_back r (good_after j (good_after k g)) in
    let h = ap (λ v. a_test (HasNotBeen b.first v) ∷ []) (predicates_back b.later) in
    record {
      part = HasNotBeen b.first b.later;
      parts = both_parts e (key_parts k) (both_parts d (key_parts j) (rule_parts was_not f b.parts ∙ h));
      again = again_both (again_key Was) (again_first _ (again_both (again_key Not) (again_second _ (again_rule was_not b.again (sym h)))));
    }
test_was _ _ _ (is_both k (is_second (is_first (is_rule r f))) e) g =
    let b = past_among_back r (good_after k g) in
    let h = ap (λ v. a_test (HasBeenIn b.first v) ∷ []) (predicates_back b.later) in
    record {
      part = HasBeenIn b.first b.later;
      parts = both_parts e (key_parts k) (rule_parts was_among f b.parts ∙ h);
      again = again_both (again_key Was) (again_second _ (again_first _ (again_rule was_among b.again (sym h))));
    }
test_was _ _ _ (is_both k (is_second (is_second (is_rule r f))) e) g =
    let b = past_item_back r (good_after k g) in
    let h = ap (λ v. a_test (HasBeen b.first v) ∷ []) (predicates_back b.later) in
    record {
      part = HasBeen b.first b.later;
      parts = both_parts e (key_parts k) (rule_parts was f b.parts ∙ h);
      again = again_both (again_key Was) (again_second _ (again_second _ (again_rule was b.again (sym h))));
    }

test_changed : (ts rest : List Token) (xs : List Node) → Is changed_test ts rest xs → AreGood ts → Back changed_test a_test test_text xs
test_changed _ _ _ (is_rule (is_both k r d) e) g =
    let b = many_back aspect_text aspect_back r (good_after k g) in
    let h = ap (λ v. a_test (HasChanged v) ∷ []) (aspects_back b.items) in
    record {
      part = HasChanged b.items;
      parts = rule_parts changed e (both_parts d (key_parts k) b.parts) ∙ h;
      again = again_rule changed (again_both (again_key Changed) b.again) (sym h);
    }

pub test_back : Returns test a_test test_text
test_back = λ ts rest xs p h. either_back test_equals (λ ts rest xs p h. either_back test_not_equals (λ ts rest xs p h. either_back test_in (λ ts rest xs p h. either_back test_not_in (λ ts rest xs p h. either_back test_emptiness (λ ts rest xs p h. either_back test_was (λ ts rest xs p h. either_back test_changed test_comparison p h) p h) p h) p h) p h) p h) p h

-- no test begins with a parenthesis
compared_opens_not : (c : Comparison) (rest : List Token) → OpensNext (Marked (comparison_mark c) ∷ rest) → ⊥
compared_opens_not IsGreater rest h = h
compared_opens_not IsGreaterOrEqual rest h = h
compared_opens_not IsLess rest h = h
compared_opens_not IsLessOrEqual rest h = h
compared_opens_not DoesContain rest h = h
compared_opens_not DoesLack rest h = h

test_opens_not : (t : Test) (rest : List Token) → OpensNext (test_text t rest) → ⊥
test_opens_not (IsEqual x) rest h = h
test_opens_not (IsNotEqual x) rest h = h
test_opens_not (Compares c v) rest h = compared_opens_not c (value_text v rest) h
test_opens_not (IsIn m) rest h = h
test_opens_not (IsNotIn m) rest h = h
test_opens_not IsEmpty rest h = h
test_opens_not IsNotEmpty rest h = h
test_opens_not (HasBeen x ps) rest h = h
test_opens_not (HasNotBeen x ps) rest h = h
test_opens_not (HasBeenIn m ps) rest h = h
test_opens_not (HasNotBeenIn m ps) rest h = h
test_opens_not (HasChanged xs) rest h = h

-- ---- fields

-- no parenthesis stands behind it
pub record BackField (xs : List Node) : Type 0 where
  pub part : Field
  pub parts : xs ≡ a_field part ∷ []
  pub reads : (rest : List Token) → Is field (field_text part rest) rest (a_field part ∷ [])
  pub spells : (rest : List Token) → (OpensNext rest → ⊥) → Spells rest → Spells (field_text part rest)

none_from : {A : Type 0} (o : Option A) → not (is_some o) ≡ true → o ≡ None
none_from None h = refl
none_from (Some x) h = absurd (differ (sym h))

bare_name : (w : List ℕ) → is_bare w ≡ true → IsName w
bare_name [] h = absurd (differ (sym h))
bare_name (c ∷ cs) h =
    let a = and_cases (is_ascii_alphabetic c) _ h in
    let b = and_cases (list_all is_ascii_alphanumeric (c ∷ cs)) _ a.1 in
    record {
      first = c;
      more = cs;
      are_scalars = scalars_from (c ∷ cs) b.0;
      spelled = bytes_from (c ∷ cs) b.0;
      word_chars = words_from (c ∷ cs) b.0;
      no_keyword = none_from (keyword_of (c ∷ cs)) b.1;
    }

named_reads : (w : List ℕ) (rest : List Token) → Is field (name_token w ∷ rest) rest (a_field (Named w) ∷ [])
named_reads w rest = let P : Token → Type 0 = λ v. Is field (v ∷ rest) rest (a_field (Named w) ∷ []) in elim (true_or_false (is_bare w)) [
  | inl h ↦ rw h (is_first (is_rule (is_one of_any_word) refl))
  | inr h ↦ rw h (is_first (is_rule (is_one of_any_quoted) refl))
]

named_spells : (w : List ℕ) (rest : List Token) → IsUtf8 w → (OpensNext rest → ⊥) → Spells rest → Spells (name_token w ∷ rest)
named_spells w rest u n s = elim (true_or_false (is_bare w)) [
  | inl h ↦ rw h (bare_name w h, n, s)
  | inr h ↦ rw h (u, s)
]

pub field_back : {ts rest : List Token} {xs : List Node} → Is field ts rest xs → AreGood ts → BackField xs
field_back (is_first (is_rule r e)) g =
    let t = any_text_back r g in
    record { part = Named t.w; parts = rule_parts named_field e t.parts; reads = named_reads t.w; spells = λ rest. named_spells t.w rest t.utf8 }
field_back (is_second (is_rule (is_one (of_number {n = n})) e)) g =
    let h = g.0 in
    record { part = CustomField n; parts = e; reads = λ rest. is_second (is_rule (is_one of_number) refl); spells = λ rest o s. (h.0, h.1, s) }

-- ---- leaves and sort keys

pub record BackLeaf (xs : List Node) : Type 0 where
  pub part : Leaf
  pub parts : xs ≡ condition (single part) ∷ []
  pub again : Again leaf (leaf_text part) (condition (single part) ∷ [])

pub leaf_back : {ts rest : List Token} {xs : List Node} → Is leaf ts rest xs → AreGood ts → BackLeaf xs
leaf_back (is_rule (is_both r s d) e) g =
    let f = field_back r g in
    let t = test_back _ _ _ s (good_after r g) in
    record {
      part = record { field = f.part; test = t.part };
      parts = rule_parts field_test e (both_parts d f.parts t.parts);
      again = record {
        reads = λ rest. is_rule (is_both (f.reads (test_text t.part rest)) (t.again.reads rest) refl) refl;
        spells = λ rest s. f.spells (test_text t.part rest) (test_opens_not t.part rest) (t.again.spells rest s);
      };
    }

pub record BackDirection (f : Field) (xs : List Node) : Type 0 where
  pub part : Direction
  pub makes : made sort_key (a_field f ∷ xs) ≡ a_key (record { field = f; direction = part }) ∷ []
  pub reads : (rest : List Token) → Is direction (Marked (direction_mark part) ∷ rest) rest (a_direction part ∷ [])

direction_back : {ts rest : List Token} {xs : List Node} (f : Field) → Is direction ts rest xs → BackDirection f xs
direction_back f (is_first (is_rule k e)) = record {
  part = IsAscending;
  makes = ap (λ v. made sort_key (a_field f ∷ v)) (rule_parts ascending e (key_parts k));
  reads = λ rest. is_first (is_rule (is_one of_sign) refl);
}
direction_back f (is_second (is_first (is_rule k e))) = record {
  part = IsDescending;
  makes = ap (λ v. made sort_key (a_field f ∷ v)) (rule_parts descending e (key_parts k));
  reads = λ rest. is_second (is_first (is_rule (is_one of_sign) refl));
}
direction_back f (is_second (is_second is_nothing)) = record {
  part = IsAscending;
  makes = refl;
  reads = λ rest. is_first (is_rule (is_one of_sign) refl);
}

direction_opens_not : (d : Direction) (rest : List Token) → OpensNext (Marked (direction_mark d) ∷ rest) → ⊥
direction_opens_not IsAscending rest h = h
direction_opens_not IsDescending rest h = h

pub sorting_back : (ts rest : List Token) (xs : List Node) → Is sorting ts rest xs → AreGood ts → Back sorting a_key key_text xs
sorting_back _ _ _ (is_rule (is_both r s d) e) g =
    let f = field_back r g in
    let b = direction_back f.part s in
    record {
      part = record { field = f.part; direction = b.part };
      parts = rule_parts sort_key e (both_parts d f.parts refl) ∙ b.makes;
      again = record {
        reads = λ rest. is_rule (is_both (f.reads (Marked (direction_mark b.part) ∷ rest)) (b.reads rest) refl) refl;
        spells = λ rest s. f.spells (Marked (direction_mark b.part) ∷ rest) (direction_opens_not b.part rest) s;
      };
    }
