-- What takes a token at least.
use Rattle.std.proofs.Common.{◌≡◌, ◌<◌, Bool, true, false, ◌&&◌, List, length, refl, ◌⊎◌, inl, inr, arith}
use Rattle.jql_syntax.specs.Node.{Node}
use Rattle.jql_syntax.specs.Form.{Form}
use Rattle.jql_syntax.specs.Grammar.{predicate, aspect}
use Rattle.jql_syntax.specs.Machine.{nullable}
use Rattle.jql_syntax.specs.Reads.{Is, is_one, is_nothing, is_both, is_first, is_second, is_none, is_more, is_rule, is_unit}
use Rattle.jql_syntax.specs.Reader.{Goes}
use Rattle.jql_syntax.specs.declared.token.Placed.{Placed}
use Rattle.jql_syntax.specs.declared.token.Token.{Token}
use Rattle.jql_syntax.proofs.Apart.{differ, not_left, not_right}
use Rattle.jql_syntax.proofs.Steps.{is_shorter, unit_not_nullable}
use Rattle.jql_syntax.proofs.Sure.{tells}
use Rattle.jql_syntax.proofs.Reading.{length_words}

and_none : (a b : Bool) → (a && b) ≡ false → (a ≡ false) ⊎ (b ≡ false)
and_none true b h = inr h
and_none false b h = inl refl

pub is_strict : {f : Form} {ts rest : List Token} {xs : List Node} → nullable f ≡ false → Is f ts rest xs → length rest < length ts
is_strict n (is_one h) = omega arith
is_strict n is_nothing = absurd (differ n)
is_strict n (is_both {f = f} {g = g} r s e) = elim (and_none (nullable f) (nullable g) n) [
  | inl h ↦ let a = is_strict h r in let b = is_shorter s in omega arith
  | inr h ↦ let a = is_shorter r in let b = is_strict h s in omega arith
]
is_strict n (is_first {f = f} {g = g} r) = is_strict (not_left (nullable f) (nullable g) n) r
is_strict n (is_second {f = f} {g = g} r) = is_strict (not_right (nullable f) (nullable g) n) r
is_strict n is_none = absurd (differ n)
is_strict n (is_more r s e) = absurd (differ n)
is_strict n (is_rule r e) = is_strict n r
is_strict n (is_unit {n = m} r) = is_strict (unit_not_nullable m) r

pub goes_strict : {f : Form} {ts rest : List Placed} {xs : List Node} → nullable f ≡ false → Goes f ts rest xs → length rest < length ts
goes_strict {ts = ts} {rest = rest} n r = let h = is_strict n (tells r.runs) in let a = length_words ts in let b = length_words rest in omega arith

pub predicate_shorter : {ts rest : List Placed} {xs : List Node} → Goes predicate ts rest xs → length rest < length ts
predicate_shorter r = goes_strict refl r

pub aspect_shorter : {ts rest : List Placed} {xs : List Node} → Goes aspect ts rest xs → length rest < length ts
aspect_shorter r = goes_strict refl r
