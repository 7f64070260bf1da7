-- The grammar's forms can be read by one token ahead.
use Rattle.std.proofs.Common.{◌≡◌, ℕ, zero, suc, Bool, true, false, not, ◌&&◌, refl}
use Rattle.jql_syntax.specs.Form.{Form, one, nothing, both, either, many, rule, unit}
use Rattle.jql_syntax.specs.Grammar.{unit_form, leaf, query}
use Rattle.jql_syntax.specs.Machine.{nullable, first, go_on, opens, are_apart, IsPlain, plain_one, plain_nothing, plain_both, plain_either, plain_many, plain_rule, plain_unit}
use Rattle.jql_syntax.proofs.Apart.{and_cases}

abbrev is_plain : Form → Bool
is_plain (one c) = true
is_plain nothing = true
is_plain (both f g) = (is_plain f && is_plain g) && are_apart (go_on f) (first g)
is_plain (either f g) = (is_plain f && is_plain g) && (are_apart (first f) (first g) && not (nullable f))
is_plain (many f) = is_plain f && (are_apart (go_on f) (first f) && not (nullable f))
is_plain (rule l f) = is_plain f
is_plain (unit n) = true

not_true : (b : Bool) → not b ≡ true → b ≡ false
not_true true h = cc
not_true false h = refl

plain : (f : Form) → is_plain f ≡ true → IsPlain f
plain (one c) h = plain_one
plain nothing h = plain_nothing
plain (both f g) h =
    let p = and_cases (is_plain f && is_plain g) (are_apart (go_on f) (first g)) h in
    let q = and_cases (is_plain f) (is_plain g) p.0 in
    plain_both (plain f q.0) (plain g q.1) p.1
plain (either f g) h =
    let p = and_cases (is_plain f && is_plain g) (are_apart (first f) (first g) && not (nullable f)) h in
    let q = and_cases (is_plain f) (is_plain g) p.0 in
    let r = and_cases (are_apart (first f) (first g)) (not (nullable f)) p.1 in
    plain_either (plain f q.0) (plain g q.1) r.0 (not_true (nullable f) r.1)
plain (many f) h =
    let p = and_cases (is_plain f) (are_apart (go_on f) (first f) && not (nullable f)) h in
    let r = and_cases (are_apart (go_on f) (first f)) (not (nullable f)) p.1 in
    plain_many (plain f p.0) r.0 (not_true (nullable f) r.1)
plain (rule l f) h = plain_rule (plain f h)
plain (unit n) h = plain_unit

leaf_is_plain : is_plain leaf ≡ true
unfolding are_apart
leaf_is_plain = refl

unit_is_plain : (n : ℕ) → is_plain (unit_form (suc n)) ≡ true
unfolding are_apart
unit_is_plain n = refl

query_is_plain : (n : ℕ) → is_plain (query n) ≡ true
unfolding are_apart
query_is_plain n = refl

pub leaf_plain : IsPlain leaf
leaf_plain = plain leaf leaf_is_plain

pub unit_plain : (n : ℕ) → IsPlain (unit_form n)
unit_plain zero = plain leaf leaf_is_plain
unit_plain (suc n) = plain (unit_form (suc n)) (unit_is_plain n)

pub query_plain : (n : ℕ) → IsPlain (query n)
query_plain n = plain (query n) (query_is_plain n)

-- a test doesn't begin with a NOT or a parenthesis
pub leaf_opens_not : are_apart (first leaf) opens ≡ true
unfolding are_apart
leaf_opens_not = refl
