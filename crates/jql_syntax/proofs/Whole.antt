-- What a list of tokens is, from how it was read.
use Rattle.std.proofs.Common.{◌≡◌, ℕ, zero, suc, ◌+◌, ◌==◌, ◌-◌, ◌≤◌, true, false, ◌||◌, List, [], ◌∷◌, ◌++◌, length, drop, Option, refl, ap, sym, ◌∙◌, inl, inr, arith, subst, append_assoc, length-append}
use Rattle.std.specs.Option.{is_some}
use Rattle.std.proofs.lemmas.Bool.Decides.{nat_tests}
use Rattle.std.proofs.lemmas.List.{drop_at}
use Rattle.relative_dates.specs.Reading.{read_term}
use Rattle.jql_syntax.specs.Tree.{Tree}
use Rattle.jql_syntax.specs.Node.{Node, a_query}
use Rattle.jql_syntax.specs.Form.{date_text, of_date_word, of_date_quoted, Form, one, unit}
use Rattle.jql_syntax.specs.Grammar.{limit, query}
use Rattle.jql_syntax.specs.Reads.{Is, is_one, is_nothing, is_both, is_first, is_second, is_none, is_more, is_rule, is_unit, Begins, begins_here, begins_one, begins_former, begins_latter, begins_first, begins_second, begins_turn, begins_more, begins_rule, begins_unit, Leads, Reads}
use Rattle.jql_syntax.specs.Fault.{IsOpener, IsText, IsKind, kind_bad, kind_deep, kind_date, kind_other}
use Rattle.jql_syntax.specs.Machine.{number_of, look, looks, opens, unit_looks, Outcome, ended, halted, left_at, Runs, runs_lacking, runs_deep, plain_kind}
use Rattle.jql_syntax.specs.Reader.{words, Goes, Stops, Fails}
use Rattle.jql_syntax.specs.declared.token.Mark.TheVariants.{Not, Open}
use Rattle.jql_syntax.specs.declared.token.Kind.{Kind}
use Rattle.jql_syntax.specs.declared.token.Kind.TheVariants.{Expected, TooDeep, BadDate}
use Rattle.jql_syntax.specs.declared.token.Token.{Token}
use Rattle.jql_syntax.specs.declared.token.Token.TheVariants.{Marked, Word, Name, Quoted, Custom, Bad}
use Rattle.jql_syntax.specs.declared.token.Placed.{Placed}
use Rattle.jql_syntax.specs.declared.query.SortKey.{SortKey}
use Rattle.jql_syntax.specs.declared.take.Stop.{Stop}
use Rattle.jql_syntax.specs.declared.take.Stop.TheVariants.{Memory, At}
use Rattle.jql_syntax.proofs.Apart.{differ, true_or_false, or_right}
use Rattle.jql_syntax.proofs.Steps.{is_begins}
use Rattle.jql_syntax.proofs.Plain.{query_plain}
use Rattle.jql_syntax.proofs.Sure.{one_end, ended_or_halted, is_read, tells, reaches}
use Rattle.jql_syntax.proofs.Causes.{Cause, cause_plain, cause_deep, cause_date, caused, leads_halts, leads_begins}
use Rattle.jql_syntax.proofs.Reading.{no_word, no_quoted, length_words}

opener_opens : (ts : List Token) → IsOpener ts → opens (look ts) ≡ true
opener_opens (Marked Not ∷ ts) h = refl
opener_opens (Marked Open ∷ ts) h = refl
opener_opens [] h = absurd h
opener_opens (_ ∷ ts) h = absurd h

opens_opener : (ts : List Token) → opens (look ts) ≡ true → IsOpener ts
opens_opener (Marked Not ∷ ts) h = tt
opens_opener (Marked Open ∷ ts) h = tt
opens_opener [] h = absurd (differ (sym h))
opens_opener (_ ∷ ts) h = absurd (differ (sym h))

mark_no_text : (k : ℕ) → (((6 + k) == 2) || ((6 + k) == 4)) ≡ true → ⊥
mark_no_text k h = grind (arith, nat_tests)

looks_text : (ts : List Token) → looks date_text (look ts) ≡ true → IsText ts
looks_text (Word w ∷ ts) h = tt
looks_text (Quoted w ∷ ts) h = tt
looks_text (Marked m ∷ ts) h = absurd (mark_no_text (number_of m) h)
looks_text [] h = absurd (differ (sym h))
looks_text (_ ∷ ts) h = absurd (differ (sym h))

no_deep : (ts rest : List Token) (o : Outcome) → Runs (query limit) ts o → ((k : Kind) → o ≡ halted rest k → k ≡ Expected) → IsOpener rest → Leads (unit 0) (query limit) ts rest → ⊥
no_deep ts rest o r sure p l =
    let b = opener_opens rest p in
    let u : unit_looks (look rest) ≡ true = or_right _ _ b in
    let h : TooDeep ≡ Expected = sure TooDeep (one_end r (leads_halts (query_plain limit) l u (runs_deep b))) in
    cc

late : (ts after : List Token) (t : Token) (o : Outcome) → Runs (query limit) ts o → left_at o ≡ t ∷ after → Begins (query limit) ts after → ⊥
late ts after t o r e b = let h = reaches (query_plain limit) b r in let d = ap length e in absurd (omega arith)

no_date_word : (ts after : List Token) (w : List ℕ) (o : Outcome) → Runs (query limit) ts o → left_at o ≡ Word w ∷ after → ((k : Kind) → o ≡ halted (Word w ∷ after) k → k ≡ Expected) → Leads (one date_text) (query limit) ts (Word w ∷ after) → ⊥
no_date_word ts after w o r e sure l = elim (true_or_false (is_some (read_term w))) [
  | inl h ↦ late ts after (Word w) o r e (leads_begins l (begins_one (of_date_word h)))
  | inr h ↦
      let k : BadDate ≡ Expected = sure BadDate (one_end r (leads_halts (query_plain limit) l refl (runs_lacking (no_word after w h)))) in
      cc
]

no_date_quoted : (ts after : List Token) (w : List ℕ) (o : Outcome) → Runs (query limit) ts o → left_at o ≡ Quoted w ∷ after → ((k : Kind) → o ≡ halted (Quoted w ∷ after) k → k ≡ Expected) → Leads (one date_text) (query limit) ts (Quoted w ∷ after) → ⊥
no_date_quoted ts after w o r e sure l = elim (true_or_false (is_some (read_term w))) [
  | inl h ↦ late ts after (Quoted w) o r e (leads_begins l (begins_one (of_date_quoted h)))
  | inr h ↦
      let k : BadDate ≡ Expected = sure BadDate (one_end r (leads_halts (query_plain limit) l refl (runs_lacking (no_quoted after w h)))) in
      cc
]

plain_is_kind : (ts rest : List Token) (o : Outcome) → Runs (query limit) ts o → left_at o ≡ rest → ((k : Kind) → o ≡ halted rest k → k ≡ plain_kind rest) → IsKind ts rest (plain_kind rest)
plain_is_kind ts [] o r e sure = kind_other (λ b. b) (λ p l. p) (λ p l. p)
plain_is_kind ts (Bad k ∷ after) o r e sure = kind_bad refl
plain_is_kind ts (Marked m ∷ after) o r e sure = kind_other (λ b. b) (λ p l. no_deep ts (Marked m ∷ after) o r sure p l) (λ p l. p)
plain_is_kind ts (Word w ∷ after) o r e sure = kind_other (λ b. b) (λ p l. p) (λ p l. no_date_word ts after w o r e sure l)
plain_is_kind ts (Quoted w ∷ after) o r e sure = kind_other (λ b. b) (λ p l. p) (λ p l. no_date_quoted ts after w o r e sure l)
plain_is_kind ts (Name w ∷ after) o r e sure = kind_other (λ b. b) (λ p l. p) (λ p l. p)
plain_is_kind ts (Custom n ∷ after) o r e sure = kind_other (λ b. b) (λ p l. p) (λ p l. p)

same_kind : {rest : List Token} {k j : Kind} → halted rest k ≡ halted rest j → k ≡ j
same_kind e = cc

cause_is_kind : (ts rest : List Token) (k : Kind) → Runs (query limit) ts (halted rest k) → Cause (query limit) ts rest k → IsKind ts rest k
cause_is_kind ts rest k r (cause_plain e) =
    let P : Kind → Type 0 = λ v. IsKind ts rest v in
    subst P (sym e) (plain_is_kind ts rest (halted rest k) r refl (λ j d. sym (same_kind d) ∙ e))
cause_is_kind ts rest k r (cause_deep e o l) = let P : Kind → Type 0 = λ v. IsKind ts rest v in subst P (sym e) (kind_deep (opens_opener rest o) l)
cause_is_kind ts rest k r (cause_date e o l) = let P : Kind → Type 0 = λ v. IsKind ts rest v in subst P (sym e) (kind_date (looks_text rest o) l)

-- ---- what is left is an end of the tokens

pub record Cut (ts rest : List Token) : Type 0 where
  pub before : List Token
  pub splits : ts ≡ before ++ rest

cut_here : (ts : List Token) → Cut ts ts
cut_here ts = record { before = []; splits = refl }

cut_both : {ts mid rest : List Token} → Cut ts mid → Cut mid rest → Cut ts rest
cut_both {rest = rest} a b = record { before = a.before ++ b.before; splits = a.splits ∙ ap (λ v. a.before ++ v) b.splits ∙ sym (append_assoc a.before b.before rest) }

pub is_cut : {f : Form} {ts rest : List Token} {xs : List Node} → Is f ts rest xs → Cut ts rest
is_cut (is_one {t = t} h) = record { before = t ∷ []; splits = refl }
is_cut (is_nothing {ts = ts}) = cut_here ts
is_cut (is_both r s e) = cut_both (is_cut r) (is_cut s)
is_cut (is_first r) = is_cut r
is_cut (is_second r) = is_cut r
is_cut (is_none {ts = ts}) = cut_here ts
is_cut (is_more r s e) = cut_both (is_cut r) (is_cut s)
is_cut (is_rule r e) = is_cut r
is_cut (is_unit r) = is_cut r

begins_cut : {f : Form} {ts rest : List Token} → Begins f ts rest → Cut ts rest
begins_cut (begins_here {ts = ts}) = cut_here ts
begins_cut (begins_one {t = t} h) = record { before = t ∷ []; splits = refl }
begins_cut (begins_former r) = begins_cut r
begins_cut (begins_latter r s) = cut_both (is_cut r) (begins_cut s)
begins_cut (begins_first r) = begins_cut r
begins_cut (begins_second r) = begins_cut r
begins_cut (begins_turn r) = begins_cut r
begins_cut (begins_more r s) = cut_both (is_cut r) (begins_cut s)
begins_cut (begins_rule r) = begins_cut r
begins_cut (begins_unit r) = begins_cut r

pub words_drop : (n : ℕ) (ts : List Placed) → words (drop n ts) ≡ drop n (words ts)
words_drop zero ts = refl
words_drop (suc n) [] = refl
words_drop (suc n) (t ∷ ts) = words_drop n ts

left_words : (ts : List Placed) (rest : List Token) (left : ℕ) → Cut (words ts) rest → length rest ≡ left → (left ≤ length ts) × (words (drop (length ts - left) ts) ≡ rest)
left_words ts rest left c e =
    let n = ap length c.splits ∙ length-append c.before rest in
    let m = length_words ts in
    let i : length c.before ≡ length ts - left = omega arith in
    (omega arith, words_drop (length ts - left) ts ∙ ap (λ v. drop (length ts - left) v) c.splits ∙ drop_at c.before rest (length ts - left) i)

read_end : (ts : List Token) (q : Option Tree) (keys : List SortKey) → Reads ts q keys → Runs (query limit) ts (ended [] (a_query q keys ∷ []))
read_end ts q keys r = is_read (query_plain limit) r refl

fault_of : (ts : List Placed) (rest : List Token) (left : ℕ) (k : Kind) (o : Outcome) → Runs (query limit) (words ts) o → left_at o ≡ rest → length rest ≡ left → Begins (query limit) (words ts) rest → IsKind (words ts) rest k → ((q : Option Tree) (keys : List SortKey) → o ≡ ended [] (a_query q keys ∷ []) → ⊥) → Fails ts (At k left)
fault_of ts rest left k o r e n b i u =
    let w = left_words ts rest left (begins_cut b) n in (
      w.0,
      λ end. record {
        number = length ts - left;
        within = omega arith;
        unread = λ q keys d. u q keys (one_end r (read_end (words ts) q keys d));
        begins = rw w.1 b;
        stops = λ t after d x. late (words ts) after t o r (e ∙ sym w.1 ∙ d) x;
        place_is = refl;
        kind_is = rw w.1 i;
      },
    )

pub fails_halted : (ts : List Placed) (s : Stop) → Stops (query limit) ts s → Fails ts s
fails_halted ts Memory p = tt
fails_halted ts (At k left) p =
    let h = p.why in
    fault_of ts h.rest left k (halted h.rest k) h.runs refl h.left_over (tells h.runs) (cause_is_kind (words ts) h.rest k h.runs (caused h.runs)) (λ q keys d. ended_or_halted (sym d))

not_end : {rest : List Token} {xs ys : List Node} → ended rest xs ≡ ended [] ys → rest ≡ []
not_end e = cc

-- something stands behind the query
pub fails_left : {xs : List Node} (ts : List Placed) (rest : List Token) → Runs (query limit) (words ts) (ended rest xs) → (rest ≡ [] → ⊥) → Fails ts (At (plain_kind rest) (length rest))
fails_left {xs = xs} ts rest r h =
    fault_of ts rest (length rest) (plain_kind rest) (ended rest xs) r refl refl (is_begins (tells r))
    (plain_is_kind (words ts) rest (ended rest xs) r refl (λ k d. absurd (ended_or_halted d)))
    (λ q keys d. h (not_end d))

some_left : (rest : List Placed) → (length rest ≡ 0 → ⊥) → words rest ≡ [] → ⊥
some_left [] h e = h refl
some_left (t ∷ rest) h e = cc

pub fails_ended : {xs : List Node} (ts rest : List Placed) → Goes (query limit) ts rest xs → (length rest ≡ 0 → ⊥) → Fails ts (At (plain_kind (words rest)) (length rest))
fails_ended {xs = xs} ts rest g h =
    fault_of ts (words rest) (length rest) (plain_kind (words rest)) (ended (words rest) xs) g.runs refl (length_words rest) (is_begins (tells g.runs))
    (plain_is_kind (words ts) (words rest) (ended (words rest) xs) g.runs refl (λ k d. absurd (ended_or_halted d)))
    (λ q keys d. some_left rest h (not_end d))

none_left : (rest : List Placed) → length rest ≡ 0 → words rest ≡ []
none_left [] e = refl
none_left (t ∷ rest) e = absurd (omega arith)

pub reads_whole : (ts rest : List Placed) (q : Option Tree) (keys : List SortKey) → Goes (query limit) ts rest (a_query q keys ∷ []) → length rest ≡ 0 → Reads (words ts) q keys
reads_whole ts rest q keys g e = rw (none_left rest e) at (tells g.runs)

same_parts : {q r : Option Tree} {k j : List SortKey} → ended [] (a_query q k ∷ []) ≡ ended [] (a_query r j ∷ []) → (q ≡ r) × (k ≡ j)
same_parts e = (cc, cc)

-- no tokens are two queries
pub one_query : (ts : List Token) (q r : Option Tree) (keys other : List SortKey) → Reads ts q keys → Reads ts r other → (q ≡ r) × (keys ≡ other)
one_query ts q r keys other a b = same_parts (one_end (read_end ts q keys a) (read_end ts r other b))

pub filled : (ts : List Placed) → false ≡ (length ts == 0) → length ts ≡ 0 → ⊥
filled [] h e = cc
filled (t ∷ ts) h e = omega arith

positive : (n : ℕ) → true ≡ (suc n == 0) → ⊥
positive n h = grind (arith, nat_tests)

pub unfilled : (ts : List Placed) → true ≡ (length ts == 0) → length ts ≡ 0
unfilled [] h = refl
unfilled (t ∷ ts) h = absurd (positive (length ts) h)
