-- The spelling of a query is that query.
use Rattle.std.proofs.Common.{◌≡◌, ℕ, ◌≤◌, List, [], ◌∷◌, length, Option, Result, Ok, Err, refl, sym, ◌∙◌, subst, IfOk}
use Rattle.std.specs.Str.{IsUtf8}
use Rattle.jql_syntax.specs.Tree.{Tree}
use Rattle.jql_syntax.specs.Node.{Node, a_key, a_query, whole}
use Rattle.jql_syntax.specs.Form.{nothing, either}
use Rattle.jql_syntax.specs.Grammar.{limit, order, query}
use Rattle.jql_syntax.specs.Reads.{Is, is_nothing, is_both, is_first, is_second, is_rule, Reads}
use Rattle.jql_syntax.specs.Tokens.{tokens, words}
use Rattle.jql_syntax.specs.Fault.{IsQuery, IsWritten, most_bytes}
use Rattle.jql_syntax.specs.declared.token.Mark.TheVariants.{Order, By, Comma}
use Rattle.jql_syntax.specs.declared.token.Token.{Token}
use Rattle.jql_syntax.specs.declared.query.SortKey.{SortKey}
use Rattle.jql_syntax.proofs.Reading.{query_parts}
use Rattle.jql_print.specs.Print.{condition_text, keyed, key_text, order_text, printed}
use Rattle.jql_print.specs.Nesting.{nesting}
use Rattle.jql_print.specs.Spelling.{query_text}
use Rattle.jql_print.proofs.Spells.{Spells, AreGood}
use Rattle.jql_print.proofs.Round.{Again, again_key, again_nothing, again_both, again_first, again_second, again_rule, good_after, both_parts, rule_parts, key_parts, BackMany, keyed_back, many_back}
use Rattle.jql_print.proofs.Parts.{sorting_back}
use Rattle.jql_print.proofs.Trees.{condition_back}
use Rattle.jql_print.proofs.Good.{tokens_good}
use Rattle.jql_print.proofs.Lexes.{tokens_back}

order_back : {ts rest : List Token} {xs : List Node} → Is (either order nothing) ts rest xs → AreGood ts → BackMany (either order nothing) a_key order_text xs
order_back (is_first (is_both k (is_both j (is_both r s d) e) f)) g =
    let gr = good_after j (good_after k g) in
    let b = sorting_back _ _ _ r gr in
    let c = many_back (keyed Comma key_text) (λ ts rest xs p h. keyed_back Comma key_text sorting_back p h) s (good_after r gr) in
    record {
      items = b.part ∷ c.items;
      parts = both_parts f (key_parts k) (both_parts e (key_parts j) (both_parts d b.parts c.parts));
      again = again_first _ (again_both (again_key Order) (again_both (again_key By) (again_both b.again c.again)));
    }
order_back (is_second is_nothing) g = record { items = []; parts = refl; again = again_second _ again_nothing }

record BackQuery (n : ℕ) (xs : List Node) : Type 0 where
  q : Option Tree
  keys : List SortKey
  parts : xs ≡ a_query q keys ∷ []
  nests : nesting q ≤ n
  again : Again (query n) (λ rest. condition_text q (order_text keys rest)) (a_query q keys ∷ [])

query_back : {n : ℕ} {ts rest : List Token} {xs : List Node} → Is (query n) ts rest xs → AreGood ts → BackQuery n xs
query_back (is_rule (is_both r s d) e) g =
    let b = condition_back r g in
    let c = order_back s (good_after r g) in
    let h = query_parts b.part c.items in
    record {
      q = b.part;
      keys = c.items;
      parts = rule_parts whole e (both_parts d b.parts c.parts) ∙ h;
      nests = b.nests;
      again = again_rule whole (again_both b.again c.again) (sym h);
    }

same_condition : {p q : Option Tree} {j k : List SortKey} → a_query p j ∷ [] ≡ a_query q k ∷ [] → q ≡ p
same_condition e = cc

same_keys : {p q : Option Tree} {j k : List SortKey} → a_query p j ∷ [] ≡ a_query q k ∷ [] → k ≡ j
same_keys e = cc

-- the tokens of the spelling are the query, and are read as they are spelled
record Printed (q : Option Tree) (keys : List SortKey) : Type 0 where
  nests : nesting q ≤ limit
  reads : Reads (printed q keys) q keys
  spells : Spells (printed q keys)

printed_again : {ts : List Token} {q : Option Tree} {keys : List SortKey} → Reads ts q keys → AreGood ts → Printed q keys
printed_again {q = q} {keys = keys} r g =
    let b = query_back r g in
    let p : Printed b.q b.keys = record { nests = b.nests; reads = b.again.reads []; spells = b.again.spells [] tt } in
    let P : List SortKey → Type 0 = λ v. Printed b.q v in
    let Q : Option Tree → Type 0 = λ v. Printed v keys in
    subst Q (same_condition b.parts) (subst P (same_keys b.parts) p)

pub text_reads : (text : List ℕ) (q : Option Tree) (keys : List SortKey) → IsUtf8 text → IsQuery text q keys → Reads (words (tokens (query_text q keys))) q keys
text_reads text q keys u i =
    let p = printed_again i.1 (tokens_good text u) in
    let P : List Token → Type 0 = λ v. Reads v q keys in
    subst P (sym (tokens_back (printed q keys) p.spells)) p.reads

-- the spelling of what a text says nests no deeper than a text may
pub query_nests : (q : Option Tree) (keys : List SortKey) → IsWritten q keys → nesting q ≤ limit
query_nests q keys w = let p = printed_again w.is_query.1 (tokens_good w.text w.utf8) in p.nests

pub written_again : {E : Type 0} (q : Option Tree) (keys : List SortKey) (r : Result (List ℕ) E) → IsWritten q keys → IfOk r (λ t. t ≡ query_text q keys) → IfOk r (λ t. length t ≤ most_bytes → IsQuery t q keys)
written_again q keys (Ok t) w e =
    let P : List ℕ → Type 0 = λ v. length v ≤ most_bytes → IsQuery v q keys in
    subst P (sym e) (λ l. (l, text_reads w.text q keys w.utf8 w.is_query))
written_again q keys (Err e) w h = h
