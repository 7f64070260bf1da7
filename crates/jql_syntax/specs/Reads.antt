-- What a list of tokens says of a form. The tokens from the first list up to the second, which is its end, are meant.
use Rattle.std.specs.Prelude.{◌≡◌, ℕ, List, [], ◌∷◌, ◌++◌, Option}
use Rattle.jql_syntax.specs.Tree.{Tree}
use Rattle.jql_syntax.specs.Node.{Node, a_query, Label, made}
use Rattle.jql_syntax.specs.Form.{Class, IsOf, Form, one, nothing, both, either, many, rule, unit}
use Rattle.jql_syntax.specs.Grammar.{limit, unit_form, query}
use Rattle.jql_syntax.specs.declared.token.Token.{Token}
use Rattle.jql_syntax.specs.declared.query.SortKey.{SortKey}

-- they have the form, and stand for these parts
pub data Is : Form → List Token → List Token → List Node → Type 0 where
  is_one : {c : Class} {t : Token} {ts : List Token} {xs : List Node} → IsOf c t xs
      → Is (one c) (t ∷ ts) ts xs
  is_nothing : {ts : List Token} → Is nothing ts ts []
  is_both : {f g : Form} {ts mid rest : List Token} {xs ys zs : List Node} → Is f ts mid xs
      → Is g mid rest ys → zs ≡ xs ++ ys → Is (both f g) ts rest zs
  is_first : {f g : Form} {ts rest : List Token} {xs : List Node} → Is f ts rest xs
      → Is (either f g) ts rest xs
  is_second : {f g : Form} {ts rest : List Token} {xs : List Node} → Is g ts rest xs
      → Is (either f g) ts rest xs
  is_none : {f : Form} {ts : List Token} → Is (many f) ts ts []
  is_more : {f : Form} {ts mid rest : List Token} {xs ys zs : List Node} → Is f ts mid xs
      → Is (many f) mid rest ys → zs ≡ xs ++ ys → Is (many f) ts rest zs
  is_rule : {l : Label} {f : Form} {ts rest : List Token} {xs ys : List Node} → Is f ts rest xs
      → ys ≡ made l xs → Is (rule l f) ts rest ys
  is_unit : {n : ℕ} {ts rest : List Token} {xs : List Node} → Is (unit_form n) ts rest xs
      → Is (unit n) ts rest xs

-- They begin the form: more tokens behind them may be missing.
pub data Begins : Form → List Token → List Token → Type 0 where
  begins_here : {f : Form} {ts : List Token} → Begins f ts ts
  begins_one : {c : Class} {t : Token} {ts : List Token} {xs : List Node} → IsOf c t xs
      → Begins (one c) (t ∷ ts) ts
  begins_former : {f g : Form} {ts rest : List Token} → Begins f ts rest → Begins (both f g) ts rest
  begins_latter : {f g : Form} {ts mid rest : List Token} {xs : List Node} → Is f ts mid xs
      → Begins g mid rest → Begins (both f g) ts rest
  begins_first : {f g : Form} {ts rest : List Token} → Begins f ts rest
      → Begins (either f g) ts rest
  begins_second : {f g : Form} {ts rest : List Token} → Begins g ts rest
      → Begins (either f g) ts rest
  begins_turn : {f : Form} {ts rest : List Token} → Begins f ts rest → Begins (many f) ts rest
  begins_more : {f : Form} {ts mid rest : List Token} {xs : List Node} → Is f ts mid xs
      → Begins (many f) mid rest → Begins (many f) ts rest
  begins_rule : {l : Label} {f : Form} {ts rest : List Token} → Begins f ts rest
      → Begins (rule l f) ts rest
  begins_unit : {n : ℕ} {ts rest : List Token} → Begins (unit_form n) ts rest
      → Begins (unit n) ts rest

-- Behind them the other form may stand next.
pub data Leads (goal : Form) : Form → List Token → List Token → Type 0 where
  leads_here : {ts : List Token} → Leads goal goal ts ts
  leads_former : {f g : Form} {ts rest : List Token} → Leads goal f ts rest
      → Leads goal (both f g) ts rest
  leads_latter : {f g : Form} {ts mid rest : List Token} {xs : List Node} → Is f ts mid xs
      → Leads goal g mid rest → Leads goal (both f g) ts rest
  leads_first : {f g : Form} {ts rest : List Token} → Leads goal f ts rest
      → Leads goal (either f g) ts rest
  leads_second : {f g : Form} {ts rest : List Token} → Leads goal g ts rest
      → Leads goal (either f g) ts rest
  leads_turn : {f : Form} {ts rest : List Token} → Leads goal f ts rest
      → Leads goal (many f) ts rest
  leads_more : {f : Form} {ts mid rest : List Token} {xs : List Node} → Is f ts mid xs
      → Leads goal (many f) mid rest → Leads goal (many f) ts rest
  leads_rule : {l : Label} {f : Form} {ts rest : List Token} → Leads goal f ts rest
      → Leads goal (rule l f) ts rest
  leads_unit : {n : ℕ} {ts rest : List Token} → Leads goal (unit_form n) ts rest
      → Leads goal (unit n) ts rest

-- the whole list is the query: its condition, where it has one, and its sort keys
abbrev pub Reads : List Token → Option Tree → List SortKey → Type 0
Reads ts q keys = Is (query limit) ts [] (a_query q keys ∷ [])
