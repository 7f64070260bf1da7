-- Forms of which each text has a spelling that reads again.
use Rattle.std.proofs.Common.{◌≡◌, List, [], ◌∷◌, ◌++◌, map, refl, ap, ◌∙◌, subst}
use Rattle.jql_syntax.specs.Node.{Node, Label, made}
use Rattle.jql_syntax.specs.Form.{of_sign, Form, nothing, both, either, many, rule}
use Rattle.jql_syntax.specs.Grammar.{key, separated as separated_form}
use Rattle.jql_syntax.specs.Reads.{Is, is_one, is_nothing, is_both, is_first, is_second, is_none, is_more, is_rule, is_unit}
use Rattle.jql_syntax.specs.declared.token.Mark.{Mark}
use Rattle.jql_syntax.specs.declared.token.Mark.TheVariants.{Comma}
use Rattle.jql_syntax.specs.declared.token.Token.{Token}
use Rattle.jql_syntax.specs.declared.token.Token.TheVariants.{Marked}
use Rattle.jql_print.specs.Print.{each, keyed, separated}
use Rattle.jql_print.proofs.Spells.{Spells, AreGood}

-- the text stands for these parts of the form, and is read as it is spelled
pub record Again (f : Form) (text : List Token → List Token) (xs : List Node) : Type 0 where
  pub reads : (rest : List Token) → Is f (text rest) rest xs
  pub spells : (rest : List Token) → Spells rest → Spells (text rest)

pub again_key : (m : Mark) → Again (key m) (λ rest. Marked m ∷ rest) []
again_key m = record { reads = λ rest. is_one of_sign; spells = λ rest s. s }

pub again_nothing : Again nothing (λ rest. rest) []
again_nothing = record { reads = λ rest. is_nothing; spells = λ rest s. s }

pub again_both : {f g : Form} {p q : List Token → List Token} {xs ys : List Node} → Again f p xs → Again g q ys → Again (both f g) (λ rest. p (q rest)) (xs ++ ys)
again_both {q = q} a b = record {
  reads = λ rest. is_both (a.reads (q rest)) (b.reads rest) refl;
  spells = λ rest s. a.spells (q rest) (b.spells rest s);
}

pub again_first : {f : Form} {p : List Token → List Token} {xs : List Node} (g : Form) → Again f p xs → Again (either f g) p xs
again_first g a = record { reads = λ rest. is_first (a.reads rest); spells = a.spells }

pub again_second : {g : Form} {p : List Token → List Token} {xs : List Node} (f : Form) → Again g p xs → Again (either f g) p xs
again_second f a = record { reads = λ rest. is_second (a.reads rest); spells = a.spells }

pub again_rule : {f : Form} {p : List Token → List Token} {xs ys : List Node} (l : Label) → Again f p xs → ys ≡ made l xs → Again (rule l f) p ys
again_rule l a e = record { reads = λ rest. is_rule (a.reads rest) e; spells = a.spells }

pub again_none : {f : Form} → Again (many f) (λ rest. rest) []
again_none = record { reads = λ rest. is_none; spells = λ rest s. s }

pub again_more : {f : Form} {p q : List Token → List Token} {xs ys : List Node} → Again f p xs → Again (many f) q ys → Again (many f) (λ rest. p (q rest)) (xs ++ ys)
again_more {q = q} a b = record {
  reads = λ rest. is_more (a.reads (q rest)) (b.reads rest) refl;
  spells = λ rest s. a.spells (q rest) (b.spells rest s);
}

-- the same parts
pub again_as : {f : Form} {p : List Token → List Token} {xs ys : List Node} → Again f p xs → xs ≡ ys → Again f p ys
again_as {f = f} {p = p} a e = let P : List Node → Type 0 = λ v. Again f p v in subst P e a

-- ---- what is behind good tokens is good

pub good_after : {f : Form} {ts rest : List Token} {xs : List Node} → Is f ts rest xs → AreGood ts → AreGood rest
good_after (is_one h) g = g.1
good_after is_nothing g = g
good_after (is_both r s e) g = good_after s (good_after r g)
good_after (is_first r) g = good_after r g
good_after (is_second r) g = good_after r g
good_after is_none g = g
good_after (is_more r s e) g = good_after s (good_after r g)
good_after (is_rule r e) g = good_after r g
good_after (is_unit r) g = good_after r g

-- ---- equal parts

pub both_parts : {zs xs ys us vs : List Node} → zs ≡ xs ++ ys → xs ≡ us → ys ≡ vs → zs ≡ us ++ vs
both_parts {ys = ys} {us = us} e h k = e ∙ ap (λ v. v ++ ys) h ∙ ap (λ v. us ++ v) k

pub rule_parts : {ys xs us : List Node} (l : Label) → ys ≡ made l xs → xs ≡ us → ys ≡ made l us
rule_parts l e h = e ∙ ap (made l) h

pub key_parts : {m : Mark} {ts rest : List Token} {xs : List Node} → Is (key m) ts rest xs → xs ≡ []
key_parts (is_one of_sign) = refl

-- ---- one part, and many

-- the parts are one of a kind, and its text reads again
pub record Back {A : Type 0} (f : Form) (node : A → Node) (text : A → List Token → List Token) (xs : List Node) : Type 0 where
  pub part : A
  pub parts : xs ≡ node part ∷ []
  pub again : Again f (text part) (node part ∷ [])

pub record BackMany {A : Type 0} (f : Form) (node : A → Node) (text : List A → List Token → List Token) (xs : List Node) : Type 0 where
  pub items : List A
  pub parts : xs ≡ map node items
  pub again : Again f (text items) (map node items)

-- whatever has the form reads again
abbrev pub Returns : {A : Type 0} → Form → (A → Node) → (A → List Token → List Token) → Type 0
Returns f node text = (ts rest : List Token) (xs : List Node) → Is f ts rest xs → AreGood ts → Back f node text xs

pub keyed_back : {A : Type 0} {f : Form} {node : A → Node} {ts rest : List Token} {xs : List Node} (m : Mark) (text : A → List Token → List Token) → Returns f node text → Is (both (key m) f) ts rest xs → AreGood ts → Back (both (key m) f) node (keyed m text) xs
keyed_back m text back (is_both k r e) g =
    let b = back _ _ _ r (good_after k g) in
    record { part = b.part; parts = both_parts e (key_parts k) b.parts; again = again_both (again_key m) b.again }

pub many_back : {A : Type 0} {f : Form} {node : A → Node} {ts rest : List Token} {xs : List Node} (text : A → List Token → List Token) → Returns f node text → Is (many f) ts rest xs → AreGood ts → BackMany (many f) node (each text) xs
many_back text back is_none g = record { items = []; parts = refl; again = again_none }
many_back text back (is_more r s e) g =
    let b = back _ _ _ r g in
    let c = many_back text back s (good_after r g) in
    record { items = b.part ∷ c.items; parts = both_parts e b.parts c.parts; again = again_more b.again c.again }

pub separated_back : {A : Type 0} {f : Form} {node : A → Node} {ts rest : List Token} {xs : List Node} (text : A → List Token → List Token) → Returns f node text → Is (separated_form f Comma) ts rest xs → AreGood ts → BackMany (separated_form f Comma) node (separated text) xs
separated_back text back (is_both r s e) g =
    let b = back _ _ _ r g in
    let c = many_back (keyed Comma text) (λ ts rest xs p h. keyed_back Comma text back p h) s (good_after r g) in
    record { items = b.part ∷ c.items; parts = both_parts e b.parts c.parts; again = again_both b.again c.again }
