-- How forms are read, and where they are not.
use Rattle.std.proofs.Common.{◌≡◌, ℕ, zero, suc, ◌+◌, ◌==◌, ◌-◌, ◌<◌, ◌≤◌, Bool, true, false, ◌&&◌, ◌||◌, List, [], ◌∷◌, ◌++◌, length, map, refl, ap, sym, ◌∙◌, ◌⊎◌, inl, inr, arith, append_assoc, append-nil, subst, Option, Some, None, Result, Ok, Err, IfErr}
use Rattle.std.specs.Option.{is_some}
use Rattle.relative_dates.specs.Reading.{read_term}
use Rattle.std.proofs.lemmas.Bool.Decides.{nat_tests}
use Rattle.jql_syntax.specs.Node.{a_field, a_query, sort_key, whole, negated, items_of, predicates_of, aspects_of, keys_of, an_item, a_predicate, an_aspect, a_key, Node, text, a_call, called, Label, made}
use Rattle.jql_syntax.specs.Form.{Class, sign, plain_text, date_text, function_name, bare_word, any_text, field_number, IsOf, of_sign, of_word, of_quoted, of_date_word, of_date_quoted, Form, one, nothing, both, either, many, rule, unit}
use Rattle.jql_syntax.specs.Grammar.{unit_form, leaf, key, expression, separated}
use Rattle.jql_syntax.specs.Machine.{number_of, look, look_of, looks, nullable, first, opens, ended, halted, Runs, runs_one, runs_lacking, runs_nothing, runs_halt, runs_both, runs_first, runs_second, runs_stop, runs_turn, runs_more, runs_rule, runs_unit, runs_bottom, runs_deep, plain_kind, kind_at}
use Rattle.jql_syntax.specs.Reader.{condition_parts, direction_parts, or_ascending, argument_parts, words, Goes, Why, Stops}
use Rattle.jql_syntax.specs.declared.query.Item.{Item}
use Rattle.jql_syntax.specs.declared.query.Predicate.{Predicate}
use Rattle.jql_syntax.specs.declared.query.Aspect.{Aspect}
use Rattle.jql_syntax.specs.declared.query.SortKey.{SortKey}
use Rattle.jql_syntax.specs.declared.query.Field.{Field}
use Rattle.jql_syntax.specs.declared.query.Direction.{Direction}
use Rattle.jql_syntax.specs.Tree.{Tree}
use Rattle.jql_syntax.specs.declared.token.Mark.{Mark}
use Rattle.jql_syntax.specs.declared.token.Mark.TheVariants.{Not, Open, Close}
use Rattle.jql_syntax.specs.declared.token.Kind.{Kind}
use Rattle.jql_syntax.specs.declared.token.Kind.TheVariants.{BadDate, TooDeep}
use Rattle.jql_syntax.specs.declared.token.Token.{Token}
use Rattle.jql_syntax.specs.declared.token.Token.TheVariants.{Marked, Word, Name, Quoted, Custom, Bad}
use Rattle.jql_syntax.specs.declared.token.Placed.{Placed}
use Rattle.jql_syntax.specs.declared.take.Stop.{Stop}
use Rattle.jql_syntax.specs.declared.take.Stop.TheVariants.{Memory, At}
use Rattle.jql_syntax.proofs.Apart.{differ, not_left, not_right, or_left, same_mark}
use Rattle.jql_syntax.proofs.Steps.{of_looks, runs_shorter}

pub taken : {c : Class} {t : Token} {xs : List Node} (ts rest : List Placed) → words ts ≡ t ∷ words rest → IsOf c t xs → Goes (one c) ts rest xs
taken ts rest e h = record { runs = rw e (runs_one h) }

same_number : (m n : Mark) → ((6 + number_of n) == (6 + number_of m)) ≡ true → number_of n ≡ number_of m
same_number m n h = grind (arith, nat_tests)

small : (k : ℕ) (m : Mark) → k ≡ 1 ⊎ (k ≡ 2 ⊎ (k ≡ 3 ⊎ (k ≡ 4 ⊎ k ≡ 5))) → (k == (6 + number_of m)) ≡ true → ⊥
small k m h e = grind (arith, nat_tests)

pub is_sign : (m : Mark) (t : Token) → looks (sign m) (look_of t) ≡ true → IsOf (sign m) t []
is_sign m (Marked n) h = let P : Mark → Type 0 = λ v. IsOf (sign m) (Marked v) [] in subst P (sym (same_mark n m (same_number m n h))) of_sign
is_sign m (Bad k) h = absurd (small 1 m (inl refl) h)
is_sign m (Word w) h = absurd (small 2 m (inr (inl refl)) h)
is_sign m (Name w) h = absurd (small 3 m (inr (inr (inl refl))) h)
is_sign m (Quoted w) h = absurd (small 4 m (inr (inr (inr (inl refl)))) h)
is_sign m (Custom n) h = absurd (small 5 m (inr (inr (inr (inr refl)))) h)

-- ---- where nothing of a form stands

-- the form takes a token at least, and one test tells whether it may begin
abbrev pub firm : Form → Bool
firm (one c) = true
firm nothing = false
firm (both f g) = firm f
firm (either f g) = firm g
firm (many f) = false
firm (rule l f) = firm f
firm (unit n) = false

plain_at : (c : Class) (ts : List Token) → looks c (look ts) ≡ false → kind_at c ts ≡ plain_kind ts
plain_at (sign m) ts h = refl
plain_at plain_text ts h = refl
plain_at date_text [] h = refl
plain_at date_text (Word w ∷ ts) h = absurd (differ h)
plain_at date_text (Quoted w ∷ ts) h = absurd (differ h)
plain_at date_text (Bad k ∷ ts) h = refl
plain_at date_text (Name w ∷ ts) h = refl
plain_at date_text (Custom n ∷ ts) h = refl
plain_at date_text (Marked m ∷ ts) h = refl
plain_at function_name ts h = refl
plain_at bare_word ts h = refl
plain_at any_text ts h = refl
plain_at field_number ts h = refl

without : (c : Class) (ts : List Token) → looks c (look ts) ≡ false → (t : Token) (rest : List Token) (xs : List Node) → ts ≡ t ∷ rest → IsOf c t xs → ⊥
without c ts h t rest xs e i = differ (sym (of_looks rest i) ∙ ap (λ v. looks c (look v)) (sym e) ∙ h)

lacking : (c : Class) (ts : List Token) → looks c (look ts) ≡ false → Runs (one c) ts (halted ts (plain_kind ts))
lacking c ts h = let P : Kind → Type 0 = λ k. Runs (one c) ts (halted ts k) in subst P (plain_at c ts h) (runs_lacking (without c ts h))

pub none_begins : (f : Form) (ts : List Token) → firm f ≡ true → first f (look ts) ≡ false → Runs f ts (halted ts (plain_kind ts))
none_begins (one c) ts b h = lacking c ts h
none_begins nothing ts b h = absurd (differ (sym b))
none_begins (both f g) ts b h = runs_halt (none_begins f ts b (not_left (first f (look ts)) (nullable f && first g (look ts)) h))
none_begins (either f g) ts b h = runs_second (not_left (first f (look ts)) (first g (look ts)) h) (none_begins g ts b (not_right (first f (look ts)) (first g (look ts)) h))
none_begins (many f) ts b h = absurd (differ (sym b))
none_begins (rule l f) ts b h = runs_rule (none_begins f ts b h) refl
none_begins (unit n) ts b h = absurd (differ (sym b))

pub length_words : (ts : List Placed) → length (words ts) ≡ length ts
length_words [] = refl
length_words (t ∷ ts) = ap suc (length_words ts)

pub stuck : {f : Form} (ts : List Placed) → firm f ≡ true → first f (look (words ts)) ≡ false → Stops f ts (At (plain_kind (words ts)) (length ts))
stuck {f = f} ts b h = record { why = record { rest = words ts; left_over = length_words ts; runs = none_begins f (words ts) b h } }

-- ---- how a stop goes outward

outward : (f g : Form) (ts mid : List Placed) (s : Stop) → ((rest : List Token) (k : Kind) → Runs f (words mid) (halted rest k) → Runs g (words ts) (halted rest k)) → Why f mid s → Why g ts s
outward f g ts mid Memory h p = tt
outward f g ts mid (At k n) h p = record { rest = p.rest; left_over = p.left_over; runs = h p.rest k p.runs }

pub stop_former : {f g : Form} {ts : List Placed} {s : Stop} → Stops f ts s → Stops (both f g) ts s
stop_former {f = f} {g = g} {ts = ts} {s = s} p = record { why = outward f (both f g) ts ts s (λ rest k r. runs_halt r) p.why }

pub stop_latter : {f g : Form} {ts mid : List Placed} {xs : List Node} {s : Stop} → Goes f ts mid xs → Stops g mid s → Stops (both f g) ts s
stop_latter {f = f} {g = g} {ts = ts} {mid = mid} {s = s} q p = record { why = outward g (both f g) ts mid s (λ rest k r. runs_both q.runs r refl) p.why }

pub stop_rule : {l : Label} {f : Form} {ts : List Placed} {s : Stop} → Stops f ts s → Stops (rule l f) ts s
stop_rule {l = l} {f = f} {ts = ts} {s = s} p = record { why = outward f (rule l f) ts ts s (λ rest k r. runs_rule r refl) p.why }

pub stop_first : {f g : Form} {ts : List Placed} {s : Stop} → first f (look (words ts)) ≡ true → Stops f ts s → Stops (either f g) ts s
stop_first {f = f} {g = g} {ts = ts} {s = s} b p = record { why = outward f (either f g) ts ts s (λ rest k r. runs_first b r) p.why }

pub stop_second : {f g : Form} {ts : List Placed} {s : Stop} → first f (look (words ts)) ≡ false → Stops g ts s → Stops (either f g) ts s
stop_second {f = f} {g = g} {ts = ts} {s = s} b p = record { why = outward g (either f g) ts ts s (λ rest k r. runs_second b r) p.why }

-- ---- how what is read goes together

pub goes_both : {f g : Form} {ts mid rest : List Placed} {xs ys : List Node} → Goes f ts mid xs → Goes g mid rest ys → Goes (both f g) ts rest (xs ++ ys)
goes_both r s = record { runs = runs_both r.runs s.runs refl }

pub goes_rule : {f : Form} {ts rest : List Placed} {xs : List Node} (l : Label) → Goes f ts rest xs → Goes (rule l f) ts rest (made l xs)
goes_rule l r = record { runs = runs_rule r.runs refl }

pub goes_first : {f : Form} {ts rest : List Placed} {xs : List Node} (g : Form) → first f (look (words ts)) ≡ true → Goes f ts rest xs → Goes (either f g) ts rest xs
goes_first g b r = record { runs = runs_first b r.runs }

pub goes_second : {g : Form} {ts rest : List Placed} {xs : List Node} (f : Form) → first f (look (words ts)) ≡ false → Goes g ts rest xs → Goes (either f g) ts rest xs
goes_second f b r = record { runs = runs_second b r.runs }

pub goes_nothing : (ts : List Placed) → Goes nothing ts ts []
goes_nothing ts = record { runs = runs_nothing }

pub goes_as : {f : Form} {ts rest : List Placed} {xs ys : List Node} → Goes f ts rest xs → xs ≡ ys → Goes f ts rest ys
goes_as {f = f} {ts = ts} {rest = rest} r e = let P : List Node → Type 0 = λ v. Goes f ts rest v in subst P e r

-- the first token of what is read
one_looks : {c : Class} {ts rest : List Token} {xs : List Node} → Runs (one c) ts (ended rest xs) → looks c (look ts) ≡ true
one_looks (runs_one {ts = ts} h) = of_looks ts h

pub reads_one : {c : Class} {ts rest : List Placed} {xs : List Node} → Goes (one c) ts rest xs → looks c (look (words ts)) ≡ true
reads_one r = one_looks r.runs

pub neither : (a b : Bool) → a ≡ false → b ≡ false → (a || b) ≡ false
neither true b h k = h
neither false b h k = k

-- a form that begins with a sign, where the sign doesn't stand, and where it does
pub no_key : (m : Mark) (g : Form) (ts : List Placed) → looks (sign m) (look (words ts)) ≡ false → first (both (key m) g) (look (words ts)) ≡ false
no_key m g ts h = neither (looks (sign m) (look (words ts))) false h refl

pub with_key : (m : Mark) (g : Form) (ts : List Placed) → looks (sign m) (look (words ts)) ≡ true → first (both (key m) g) (look (words ts)) ≡ true
with_key m g ts h = or_left (looks (sign m) (look (words ts))) false h

pub call_parts : (name : List ℕ) (a : Option (List ℕ)) → a_call (record { name = name; argument = a }) ∷ [] ≡ made called (text name ∷ argument_parts a)
call_parts name None = refl
call_parts name (Some a) = refl

pub IfErr-weaker : {X Y : Type 0} (r : Result X Y) (P Q : Y → Type 0) → ((y : Y) → P y → Q y) → IfErr r P → IfErr r Q
IfErr-weaker (Ok x) P Q f h = h
IfErr-weaker (Err y) P Q f h = f y h

pub of_looks_text : {t : Token} {xs : List Node} (ts : List Token) → IsOf plain_text t xs → looks date_text (look (t ∷ ts)) ≡ true
of_looks_text ts of_word = refl
of_looks_text ts of_quoted = refl

same_text : {v w : List ℕ} → ◌≡◌ {A = List Node} (text v ∷ []) (text w ∷ []) → v ≡ w
same_text e = cc

date_from : {t : Token} {xs : List Node} {w : List ℕ} → IsOf plain_text t xs → xs ≡ text w ∷ [] → is_some (read_term w) ≡ true → IsOf date_text t (text w ∷ [])
date_from {w = w} (of_word {w = v}) e d = let P : List ℕ → Type 0 = λ z. IsOf date_text (Word z) (text w ∷ []) in subst P (sym (same_text e)) (of_date_word d)
date_from {w = w} (of_quoted {w = v}) e d = let P : List ℕ → Type 0 = λ z. IsOf date_text (Quoted z) (text w ∷ []) in subst P (sym (same_text e)) (of_date_quoted d)

pub no_word : (ts : List Token) (w : List ℕ) → is_some (read_term w) ≡ false → (t : Token) (rest : List Token) (xs : List Node) → Word w ∷ ts ≡ t ∷ rest → IsOf date_text t xs → ⊥
no_word ts w d t rest xs e (of_date_word {w = v} h) = let i : v ≡ w = cc in differ (sym h ∙ ap (λ z. is_some (read_term z)) i ∙ d)
no_word ts w d t rest xs e (of_date_quoted {w = v} h) = cc

pub no_quoted : (ts : List Token) (w : List ℕ) → is_some (read_term w) ≡ false → (t : Token) (rest : List Token) (xs : List Node) → Quoted w ∷ ts ≡ t ∷ rest → IsOf date_text t xs → ⊥
no_quoted ts w d t rest xs e (of_date_word {w = v} h) = cc
no_quoted ts w d t rest xs e (of_date_quoted {w = v} h) = let i : v ≡ w = cc in differ (sym h ∙ ap (λ z. is_some (read_term z)) i ∙ d)

halt_from : {t : Token} {ts : List Token} {xs : List Node} {w : List ℕ} → IsOf plain_text t xs → xs ≡ text w ∷ [] → is_some (read_term w) ≡ false → Runs (one date_text) (t ∷ ts) (halted (t ∷ ts) BadDate)
halt_from {ts = ts} (of_word {w = v}) e d = runs_lacking (no_word ts v (ap (λ z. is_some (read_term z)) (same_text e) ∙ d))
halt_from {ts = ts} (of_quoted {w = v}) e d = runs_lacking (no_quoted ts v (ap (λ z. is_some (read_term z)) (same_text e) ∙ d))

pub is_date : {t : Token} {w : List ℕ} → IsOf plain_text t (text w ∷ []) → is_some (read_term w) ≡ true → IsOf date_text t (text w ∷ [])
is_date h d = date_from h refl d

pub no_date : {t : Token} {w : List ℕ} (ts : List Placed) (rest : List Token) → words ts ≡ t ∷ rest → IsOf plain_text t (text w ∷ []) → is_some (read_term w) ≡ false → Stops (one date_text) ts (At BadDate (length ts))
no_date {t = t} ts rest e h d = record { why = record { rest = words ts; left_over = length_words ts; runs = rw e (halt_from h refl d) } }

-- ---- one form again and again

-- what was read of a form that may come any number of times, and what is left
pub record ManyRead (f : Form) (ts rest : List Placed) (xs : List Node) : Type 0 where
  pub reads : (end : List Placed) (ys : List Node) → Goes (many f) rest end ys → Goes (many f) ts end (xs ++ ys)
  pub halts : (s : Stop) → Stops (many f) rest s → Stops (many f) ts s

pub many_none : (f : Form) (ts : List Placed) → ManyRead f ts ts []
many_none f ts = record { reads = λ end ys r. r; halts = λ s p. p }

many_goes : {f : Form} {ts mid end : List Placed} {xs ys : List Node} → first f (look (words ts)) ≡ true → Goes f ts mid xs → Goes (many f) mid end ys → Goes (many f) ts end (xs ++ ys)
many_goes b r s = record { runs = runs_more b r.runs s.runs refl }

many_stops : {f : Form} {ts mid : List Placed} {xs : List Node} {s : Stop} → first f (look (words ts)) ≡ true → Goes f ts mid xs → Stops (many f) mid s → Stops (many f) ts s
many_stops {f = f} {ts = ts} {mid = mid} {s = s} b r p = record { why = outward (many f) (many f) ts mid s (λ rest k q. runs_more b r.runs q refl) p.why }

pub many_next : {f : Form} {ts rest after : List Placed} {xs ys : List Node} → ManyRead f ts rest xs → first f (look (words rest)) ≡ true → Goes f rest after ys → ManyRead f ts after (xs ++ ys)
many_next {xs = xs} {ys = ys} r b g = record {
  reads = λ end zs h. goes_as (r.reads end (ys ++ zs) (many_goes b g h)) (sym (append_assoc xs ys zs));
  halts = λ s p. r.halts s (many_stops b g p);
}

pub many_done : {f : Form} {ts rest : List Placed} {xs : List Node} → ManyRead f ts rest xs → first f (look (words rest)) ≡ false → Goes (many f) ts rest xs
many_done {rest = rest} {xs = xs} r b = goes_as (r.reads rest [] (record { runs = runs_stop b })) (append-nil xs)

pub many_fail : {f : Form} {ts rest : List Placed} {xs : List Node} {s : Stop} → ManyRead f ts rest xs → first f (look (words rest)) ≡ true → Stops f rest s → Stops (many f) ts s
many_fail {f = f} {rest = rest} {s = s} r b p = r.halts s (record { why = outward f (many f) rest rest s (λ end k q. runs_turn b q) p.why })

-- the same with a sign between
pub record SomeRead (f : Form) (m : Mark) (ts rest : List Placed) (xs : List Node) : Type 0 where
  pub reads : (end : List Placed) (ys : List Node) → Goes (many (both (key m) f)) rest end ys → Goes (separated f m) ts end (xs ++ ys)
  pub halts : (s : Stop) → Stops (many (both (key m) f)) rest s → Stops (separated f m) ts s

pub some_first : {f : Form} {ts rest : List Placed} {xs : List Node} (m : Mark) → Goes f ts rest xs → SomeRead f m ts rest xs
some_first m r = record { reads = λ end ys h. goes_both r h; halts = λ s p. stop_latter r p }

pub some_next : {f : Form} {m : Mark} {ts rest mid after : List Placed} {xs ys : List Node} → SomeRead f m ts rest xs → Goes (key m) rest mid [] → Goes f mid after ys → SomeRead f m ts after (xs ++ ys)
some_next {f = f} {m = m} {rest = rest} {xs = xs} {ys = ys} r k g = record {
  reads = λ end zs h. goes_as (r.reads end (ys ++ zs) (many_goes (with_key m f rest (reads_one k)) (goes_both k g) h)) (sym (append_assoc xs ys zs));
  halts = λ s p. r.halts s (many_stops (with_key m f rest (reads_one k)) (goes_both k g) p);
}

pub some_done : {f : Form} {m : Mark} {ts rest : List Placed} {xs : List Node} → SomeRead f m ts rest xs → looks (sign m) (look (words rest)) ≡ false → Goes (separated f m) ts rest xs
some_done {f = f} {m = m} {rest = rest} {xs = xs} r b = goes_as (r.reads rest [] (record { runs = runs_stop (no_key m f rest b) })) (append-nil xs)

pub some_fail : {f : Form} {m : Mark} {ts rest mid : List Placed} {xs : List Node} {s : Stop} → SomeRead f m ts rest xs → Goes (key m) rest mid [] → Stops f mid s → Stops (separated f m) ts s
some_fail {f = f} {m = m} {rest = rest} {s = s} r k p =
    let d : Stops (both (key m) f) rest s = stop_latter k p in
    r.halts s (record { why = outward (both (key m) f) (many (both (key m) f)) rest rest s (λ end j q. runs_turn (with_key m f rest (reads_one k)) q) d.why })

-- ---- parts of lists

pub items_back : (xs : List Item) → items_of (map an_item xs) ≡ xs
items_back [] = refl
items_back (x ∷ xs) = ap (λ v. x ∷ v) (items_back xs)

pub predicates_back : (xs : List Predicate) → predicates_of (map a_predicate xs) ≡ xs
predicates_back [] = refl
predicates_back (x ∷ xs) = ap (λ v. x ∷ v) (predicates_back xs)

pub aspects_back : (xs : List Aspect) → aspects_of (map an_aspect xs) ≡ xs
aspects_back [] = refl
aspects_back (x ∷ xs) = ap (λ v. x ∷ v) (aspects_back xs)

pub keys_back : (xs : List SortKey) → keys_of (map a_key xs) ≡ xs
keys_back [] = refl
keys_back (x ∷ xs) = ap (λ v. x ∷ v) (keys_back xs)

pub map_push : {A : Type 0} (f : A → Node) (xs : List A) (x : A) → map f (xs ++ x ∷ []) ≡ map f xs ++ f x ∷ []
map_push f [] x = refl
map_push f (y ∷ xs) x = ap (λ v. f y ∷ v) (map_push f xs x)

pub goes_shorter : {f : Form} {ts rest : List Placed} {xs : List Node} → Goes f ts rest xs → length rest ≤ length ts
goes_shorter {ts = ts} {rest = rest} r = let h = runs_shorter r.runs in let a = length_words ts in let b = length_words rest in omega arith

one_shorter : {c : Class} {ts rest : List Token} {xs : List Node} → Runs (one c) ts (ended rest xs) → length rest < length ts
one_shorter (runs_one h) = omega arith

pub key_shorter : {c : Class} {ts rest : List Placed} {xs : List Node} → Goes (one c) ts rest xs → length rest < length ts
key_shorter {ts = ts} {rest = rest} r = let h = one_shorter r.runs in let a = length_words ts in let b = length_words rest in omega arith

-- the first test of two, where the other is no test
pub off : {b : Bool} → b ≡ false → (b || false) ≡ false
off {b} h = neither b false h refl

pub on : {b : Bool} → b ≡ true → (b || false) ≡ true
on {b} h = or_left b false h

-- ---- units

pub unit_goes : {n m : ℕ} {ts rest : List Placed} {xs : List Node} → n ≡ suc m → Goes (unit_form (suc m)) ts rest xs → Goes (unit n) ts rest xs
unit_goes {m = m} {ts = ts} {rest = rest} {xs = xs} e r = let P : ℕ → Type 0 = λ v. Goes (unit v) ts rest xs in subst P (sym e) (record { runs = runs_unit r.runs })

pub unit_stops : {n m : ℕ} {ts : List Placed} {s : Stop} → n ≡ suc m → Stops (unit_form (suc m)) ts s → Stops (unit n) ts s
unit_stops {m = m} {ts = ts} {s = s} e p =
    let P : ℕ → Type 0 = λ v. Stops (unit v) ts s in
    subst P (sym e) (record { why = outward (unit_form (suc m)) (unit (suc m)) ts ts s (λ rest k q. runs_unit q) p.why })

pub deep_stops : {n : ℕ} (ts : List Placed) → n ≡ 0 → opens (look (words ts)) ≡ true → Stops (unit n) ts (At TooDeep (length ts))
deep_stops ts e h =
    let P : ℕ → Type 0 = λ v. Stops (unit v) ts (At TooDeep (length ts)) in
    subst P (sym e) (record { why = record { rest = words ts; left_over = length_words ts; runs = runs_deep h } })

pub leaf_goes : (n : ℕ) {ts rest : List Placed} {xs : List Node} → looks (sign Not) (look (words ts)) ≡ false → looks (sign Open) (look (words ts)) ≡ false → Goes leaf ts rest xs → Goes (unit n) ts rest xs
leaf_goes zero a b r = record { runs = runs_bottom (neither _ _ a b) r.runs }
leaf_goes (suc n) a b r = unit_goes refl (goes_second (rule negated (both (key Not) (unit n))) (off a) (goes_second (both (key Open) (both (expression n) (key Close))) (off b) r))

pub leaf_stops : (n : ℕ) {ts : List Placed} {s : Stop} → looks (sign Not) (look (words ts)) ≡ false → looks (sign Open) (look (words ts)) ≡ false → Stops leaf ts s → Stops (unit n) ts s
leaf_stops zero {ts = ts} {s = s} a b p = record { why = outward leaf (unit zero) ts ts s (λ rest k q. runs_bottom (neither _ _ a b) q) p.why }
leaf_stops (suc n) a b p = unit_stops refl (stop_second (off a) (stop_second (off b) p))

pub pred_suc : (n : ℕ) → (n ≡ 0 → ⊥) → n ≡ suc (n - 1)
pred_suc zero h = absurd (h refl)
pred_suc (suc n) h = omega arith

pub sort_parts : (f : Field) (d : Option Direction) → made sort_key (a_field f ∷ direction_parts d) ≡ a_key (record { field = f; direction = or_ascending d }) ∷ []
sort_parts f None = refl
sort_parts f (Some d) = refl

no_condition : (keys : List SortKey) → made whole (map a_key keys) ≡ a_query None (keys_of (map a_key keys)) ∷ []
no_condition [] = refl
no_condition (x ∷ xs) = refl

pub query_parts : (q : Option Tree) (keys : List SortKey) → made whole (condition_parts q ++ map a_key keys) ≡ a_query q keys ∷ []
query_parts None keys = no_condition keys ∙ ap (λ v. a_query None v ∷ []) (keys_back keys)
query_parts (Some x) keys = ap (λ v. a_query (Some x) v ∷ []) (keys_back keys)
