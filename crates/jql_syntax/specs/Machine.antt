-- How a reader that looks at one token goes. No public contract speaks of this.
use Rattle.std.specs.Prelude.{◌≡◌, ℕ, zero, suc, ◌+◌, ◌==◌, Bool, true, false, not, ◌&&◌, ◌||◌, List, [], ◌∷◌, ◌++◌}
use Rattle.std.specs.List.{list_all}
use Rattle.jql_syntax.specs.Node.{Node, Label, made}
use Rattle.jql_syntax.specs.Form.{Class, sign, plain_text, date_text, function_name, bare_word, any_text, field_number, IsOf, Form, one, nothing, both, either, many, rule, unit}
use Rattle.jql_syntax.specs.Grammar.{aspect, unit_form, leaf}
use Rattle.jql_syntax.specs.declared.token.Mark.{Mark}
use Rattle.jql_syntax.specs.declared.token.Mark.TheVariants.{Equals, NotEquals, Greater, GreaterOrEqual, Less, LessOrEqual, Contains, Lacks, Open, Close, Comma, And, Or, Not, Empty, In, Is, Was, Changed, Order, By, Ascending, Descending, After, Before, On, During, From, To}
use Rattle.jql_syntax.specs.declared.token.Kind.{Kind}
use Rattle.jql_syntax.specs.declared.token.Kind.TheVariants.{Expected, TooDeep, BadDate}
use Rattle.jql_syntax.specs.declared.token.Token.{Token}
use Rattle.jql_syntax.specs.declared.token.Token.TheVariants.{Marked, Word, Name, Quoted, Custom, Bad}

abbrev pub number_of : Mark → ℕ
number_of Equals = 0
number_of NotEquals = 1
number_of Greater = 2
number_of GreaterOrEqual = 3
number_of Less = 4
number_of LessOrEqual = 5
number_of Contains = 6
number_of Lacks = 7
number_of Open = 8
number_of Close = 9
number_of Comma = 10
number_of And = 11
number_of Or = 12
number_of Not = 13
number_of Empty = 14
number_of In = 15
number_of Is = 16
number_of Was = 17
number_of Changed = 18
number_of Order = 19
number_of By = 20
number_of Ascending = 21
number_of Descending = 22
number_of After = 23
number_of Before = 24
number_of On = 25
number_of During = 26
number_of From = 27
number_of To = 28

-- what a token looks like, as a number below 35
abbrev pub look_of : Token → ℕ
look_of (Bad k) = 1
look_of (Word w) = 2
look_of (Name w) = 3
look_of (Quoted w) = 4
look_of (Custom n) = 5
look_of (Marked m) = 6 + number_of m

abbrev pub look : List Token → ℕ
look [] = 0
look (t ∷ ts) = look_of t

-- a token of the kind looks so
abbrev pub looks : Class → ℕ → Bool
looks (sign m) k = k == 6 + number_of m
looks plain_text k = (k == 2) || (k == 4)
looks date_text k = (k == 2) || (k == 4)
looks function_name k = k == 3
looks bare_word k = (k == 2) || (k == 3)
looks any_text k = (k == 2) || ((k == 3) || (k == 4))
looks field_number k = k == 5

abbrev pub nullable : Form → Bool
nullable (one c) = false
nullable nothing = true
nullable (both f g) = nullable f && nullable g
nullable (either f g) = nullable f || nullable g
nullable (many f) = true
nullable (rule l f) = nullable f
nullable (unit n) = false

-- a token with which a unit may begin
abbrev pub unit_looks : ℕ → Bool
unit_looks k =
    (looks any_text k || looks field_number k) || (looks (sign Not) k || looks (sign Open) k)

-- the form may begin with a token of this look
abbrev pub first : Form → ℕ → Bool
first (one c) k = looks c k
first nothing k = false
first (both f g) k = first f k || (nullable f && first g k)
first (either f g) k = first f k || first g k
first (many f) k = first f k
first (rule l f) k = first f k
first (unit n) k = unit_looks k

-- the form may go on with a token of this look where it could end
abbrev pub go_on : Form → ℕ → Bool
go_on (one c) k = false
go_on nothing k = false
go_on (both f g) k = go_on g k || (nullable g && go_on f k)
go_on (either f g) k = (go_on f k || go_on g k) || (nullable g && first f k)
go_on (many f) k = first f k || go_on f k
go_on (rule l f) k = go_on f k
go_on (unit n) k = first aspect k

abbrev pub all_looks : List ℕ
all_looks =
    0 ∷ 1 ∷ 2 ∷ 3 ∷ 4 ∷ 5 ∷ 6 ∷ 7 ∷ 8 ∷ 9 ∷ 10 ∷ 11 ∷ 12 ∷ 13 ∷ 14 ∷ 15 ∷ 16 ∷ 17 ∷ 18 ∷ 19 ∷ 20
    ∷ 21 ∷ 22 ∷ 23 ∷ 24 ∷ 25 ∷ 26 ∷ 27 ∷ 28 ∷ 29 ∷ 30 ∷ 31 ∷ 32 ∷ 33 ∷ 34 ∷ []

-- no token looks both ways
unfoldable pub are_apart : (ℕ → Bool) → (ℕ → Bool) → Bool
are_apart p q = list_all (λ k. not (p k && q k)) all_looks

-- one token tells which way to go
pub data IsPlain : Form → Type 0 where
  plain_one : {c : Class} → IsPlain (one c)
  plain_nothing : IsPlain nothing
  plain_both : {f g : Form} → IsPlain f → IsPlain g → are_apart (go_on f) (first g) ≡ true
      → IsPlain (both f g)
  plain_either : {f g : Form} → IsPlain f → IsPlain g → are_apart (first f) (first g) ≡ true
      → nullable f ≡ false → IsPlain (either f g)
  plain_many : {f : Form} → IsPlain f → are_apart (go_on f) (first f) ≡ true → nullable f ≡ false
      → IsPlain (many f)
  plain_rule : {l : Label} {f : Form} → IsPlain f → IsPlain (rule l f)
  plain_unit : {n : ℕ} → IsPlain (unit n)

-- how reading ends: with what is left and the parts read, or at a fault
pub data Outcome : Type 0 where
  ended : List Token → List Node → Outcome
  halted : List Token → Kind → Outcome

abbrev pub left_at : Outcome → List Token
left_at (ended rest xs) = rest
left_at (halted rest k) = rest

-- with these parts before
abbrev pub behind : List Node → Outcome → Outcome
behind xs (ended rest ys) = ended rest (xs ++ ys)
behind xs (halted rest k) = halted rest k

abbrev pub turned : Label → Outcome → Outcome
turned l (ended rest xs) = ended rest (made l xs)
turned l (halted rest k) = halted rest k

-- the kind of a fault at the first token
abbrev pub plain_kind : List Token → Kind
plain_kind [] = Expected
plain_kind (Bad k ∷ ts) = k
plain_kind (_ ∷ ts) = Expected

abbrev pub kind_at : Class → List Token → Kind
kind_at date_text (Word w ∷ ts) = BadDate
kind_at date_text (Quoted w ∷ ts) = BadDate
kind_at _ ts = plain_kind ts

-- no token of the kind stands here
abbrev pub IsWithout : Class → List Token → Type 0
IsWithout c ts = (t : Token) (rest : List Token) (xs : List Node) → ts ≡ t ∷ rest → IsOf c t xs → ⊥

-- a NOT or a parenthesis stands here
abbrev pub opens : ℕ → Bool
opens k = looks (sign Not) k || looks (sign Open) k

pub data Runs : Form → List Token → Outcome → Type 0 where
  runs_one : {c : Class} {t : Token} {ts : List Token} {xs : List Node} → IsOf c t xs
      → Runs (one c) (t ∷ ts) (ended ts xs)
  runs_lacking : {c : Class} {ts : List Token} → IsWithout c ts
      → Runs (one c) ts (halted ts (kind_at c ts))
  runs_nothing : {ts : List Token} → Runs nothing ts (ended ts [])
  runs_halt : {f g : Form} {ts rest : List Token} {k : Kind} → Runs f ts (halted rest k)
      → Runs (both f g) ts (halted rest k)
  runs_both : {f g : Form} {ts mid : List Token} {xs : List Node} {o p : Outcome}
      → Runs f ts (ended mid xs) → Runs g mid o → p ≡ behind xs o → Runs (both f g) ts p
  runs_first : {f g : Form} {ts : List Token} {o : Outcome} → first f (look ts) ≡ true → Runs f ts o
      → Runs (either f g) ts o
  runs_second : {f g : Form} {ts : List Token} {o : Outcome} → first f (look ts) ≡ false
      → Runs g ts o → Runs (either f g) ts o
  runs_stop : {f : Form} {ts : List Token} → first f (look ts) ≡ false
      → Runs (many f) ts (ended ts [])
  runs_turn : {f : Form} {ts rest : List Token} {k : Kind} → first f (look ts) ≡ true
      → Runs f ts (halted rest k) → Runs (many f) ts (halted rest k)
  runs_more : {f : Form} {ts mid : List Token} {xs : List Node} {o p : Outcome}
      → first f (look ts) ≡ true → Runs f ts (ended mid xs) → Runs (many f) mid o → p ≡ behind xs o
      → Runs (many f) ts p
  runs_rule : {l : Label} {f : Form} {ts : List Token} {o p : Outcome} → Runs f ts o
      → p ≡ turned l o → Runs (rule l f) ts p
  runs_unit : {n : ℕ} {ts : List Token} {o : Outcome} → Runs (unit_form (suc n)) ts o
      → Runs (unit (suc n)) ts o
  runs_bottom : {ts : List Token} {o : Outcome} → opens (look ts) ≡ false → Runs leaf ts o
      → Runs (unit zero) ts o
  runs_deep : {ts : List Token} → opens (look ts) ≡ true → Runs (unit zero) ts (halted ts TooDeep)
