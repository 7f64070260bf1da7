-- What `clap` makes of the words of a command line.
use Rattle.std.proofs.Common.{◌≡◌, ◌≢◌, ◌<◌, ◌==◌, ◌&&◌, ℕ, List, [], ◌∷◌, ◌++◌, Bool, true, false, not, Option, Some, None, codes, decimal, get_or, refl, ◌∙◌, option_map, fold, sym, ap, ap₂, subst, inl, inr, append_assoc, append-nil, arith}
use Rattle.std.specs.Prelude.{IfSome}
use Rattle.std.specs.Str.{bytes_eq}
use Rattle.std.specs.List.{list_all}
use Rattle.std.proofs.lemmas.Bool.{cases_Bool}
use Rattle.std.proofs.lemmas.Fmt.{first_decimal}
use Rattle.std.proofs.lemmas.Option.{same_Some}
use Rattle.std.proofs.lemmas.Slice.Eq.{bytes_eq-Decides}
use Rattle.clap.specs.Words.{App, Row, Rule, Text, first_of, is_simple, subcommand_of}
use Rattle.clap.specs.Lexer.{strip_byte}
use Rattle.clap.specs.Walk.{Names, Walk, nothing_held, walk_from, walked}
use Rattle.clap.specs.Matches.{subcommand_name_of}
use Rattle.clap.specs.Simple.{built, names_of, HasMatchesOf, subcommand_rows_of}
use Rattle.clap.specs.Kinds.{Kinds, HasKind}
use Rattle.clap.specs.Values.{kind_of}
use Rattle.clap.specs.Faults.{fault_of, is_simple_and_free}
use Rattle.clap.specs.declared.error.Error.{Error}
use Rattle.clap.specs.declared.error.kind.ErrorKind.{ErrorKind}
use Rattle.clap.specs.declared.error.kind.ErrorKind.TheVariants as kind
use Rattle.clap.specs.declared.parser.matches.ArgMatches.{ArgMatches}
use Rattle.clap.proofs.FaultLemmas.{stopped_fault}
use Rattle.clap.proofs.OnLiterals.{clap_on_literals}
use Rattle.tracker_cli.specs.Numerals.{IsNumberOf}
use Rattle.tracker_cli.specs.Outcome.{IsCommand, is_plain}
use Rattle.tracker_cli.specs.Words.{grammar, words_of}

pub is_free : is_simple_and_free grammar ≡ true
unfolding clap_on_literals
is_free = refl

pub is_simple_grammar : is_simple grammar ≡ true
unfolding clap_on_literals
is_simple_grammar = refl

-- ---- a word without a hyphen at its front

not_false : (b : Bool) → not b ≡ true → b ≡ false
not_false true h = cc h
not_false false h = refl

no_strip : (w : Text) → is_plain w ≡ true → strip_byte 45 w ≡ None
no_strip [] h = refl
no_strip (x ∷ xs) h = rw (not_false (x == 45) h) refl

no_dashes : (w : Text) → is_plain w ≡ true → bytes_eq w (45 ∷ 45 ∷ []) ≡ false
no_dashes [] h = refl
no_dashes (x ∷ xs) h = rw (not_false (x == 45) h) refl

-- ---- words that follow a command's name

stays : (c : List Rule) (names : Names) (w : Walk) (n : Text) (vs more : List Text)
    → fold (walked c names) (record w { stopped = Some (n, vs) }) more ≡ record w { stopped = Some (n, vs ++ more) }
unfolding walked
stays c names w n vs [] = rw (append-nil vs) refl
stays c names w n vs (x ∷ xs) = stays c names w n (vs ++ x ∷ []) xs ∙ ap (λ (l : List Text). record w { stopped = Some (n, l) }) (append_assoc vs (x ∷ []) xs)

-- ---- lists of words

abbrev names : Names
names = names_of (built grammar)

-- the word is none of the names
record IsOther (w : Text) : Type 0 where
  exec : bytes_eq (codes "exec") w ≡ false
  check : bytes_eq (codes "check") w ≡ false
  init : bytes_eq (codes "init") w ≡ false
  import : bytes_eq (codes "import") w ≡ false
  export : bytes_eq (codes "export") w ≡ false
  generate : bytes_eq (codes "generate") w ≡ false

no_words : fault_of grammar [] ≢ []
unfolding clap_on_literals
no_words e = cc e

other : (w : Text) (rest : List Text) → is_plain w ≡ true → IsOther w → fault_of grammar (w ∷ rest) ≡ kind.UnknownArgument ∷ kind.InvalidSubcommand ∷ []
unfolding clap_on_literals
other w rest h o = simp (no_strip w h, no_dashes w h, o.exec, o.check, o.init, o.import, o.export, o.generate) refl

exec_alone : fault_of grammar (codes "exec" ∷ []) ≡ []
unfolding clap_on_literals
exec_alone = refl

check_alone : fault_of grammar (codes "check" ∷ []) ≡ []
unfolding clap_on_literals
check_alone = refl

init_alone : fault_of grammar (codes "init" ∷ []) ≡ []
unfolding clap_on_literals
init_alone = refl

export_alone : fault_of grammar (codes "export" ∷ []) ≡ []
unfolding clap_on_literals
export_alone = refl

import_alone : fault_of grammar (codes "import" ∷ []) ≡ kind.MissingRequiredArgument ∷ []
unfolding clap_on_literals
import_alone = refl

generate_alone : fault_of grammar (codes "generate" ∷ []) ≡ kind.MissingRequiredArgument ∷ []
unfolding clap_on_literals
generate_alone = refl

import_user : (u : Text) → is_plain u ≡ true → fault_of grammar (codes "import" ∷ u ∷ []) ≡ []
unfolding clap_on_literals
import_user u h = simp (no_strip u h, no_dashes u h) refl

generate_number : (u : Text) → is_plain u ≡ true → fault_of grammar (codes "generate" ∷ u ∷ []) ≡ []
unfolding clap_on_literals
generate_number u h = simp (no_strip u h, no_dashes u h) refl

exec_more : (v : Text) (more : List Text) → is_plain v ≡ true → fault_of grammar (codes "exec" ∷ v ∷ more) ≡ kind.UnknownArgument ∷ []
unfolding clap_on_literals
exec_more v more h =
    simp (stopped_fault (built grammar).top names (walk_from nothing_held) (codes "exec", v ∷ []) more, stays [] names (walk_from nothing_held) (codes "exec") (v ∷ []) more, no_strip v h, no_dashes v h) refl

check_more : (v : Text) (more : List Text) → is_plain v ≡ true → fault_of grammar (codes "check" ∷ v ∷ more) ≡ kind.UnknownArgument ∷ []
unfolding clap_on_literals
check_more v more h =
    simp (stopped_fault (built grammar).top names (walk_from nothing_held) (codes "check", v ∷ []) more, stays [] names (walk_from nothing_held) (codes "check") (v ∷ []) more, no_strip v h, no_dashes v h) refl

init_more : (v : Text) (more : List Text) → is_plain v ≡ true → fault_of grammar (codes "init" ∷ v ∷ more) ≡ kind.UnknownArgument ∷ []
unfolding clap_on_literals
init_more v more h =
    simp (stopped_fault (built grammar).top names (walk_from nothing_held) (codes "init", v ∷ []) more, stays [] names (walk_from nothing_held) (codes "init") (v ∷ []) more, no_strip v h, no_dashes v h) refl

export_more : (v : Text) (more : List Text) → is_plain v ≡ true → fault_of grammar (codes "export" ∷ v ∷ more) ≡ kind.UnknownArgument ∷ []
unfolding clap_on_literals
export_more v more h =
    simp (stopped_fault (built grammar).top names (walk_from nothing_held) (codes "export", v ∷ []) more, stays [] names (walk_from nothing_held) (codes "export") (v ∷ []) more, no_strip v h, no_dashes v h) refl

import_more : (u v : Text) (more : List Text) → is_plain u ≡ true → is_plain v ≡ true → fault_of grammar (codes "import" ∷ u ∷ v ∷ more) ≡ kind.UnknownArgument ∷ []
unfolding clap_on_literals
import_more u v more h k =
    simp (stopped_fault (built grammar).top names (walk_from nothing_held) (codes "import", u ∷ v ∷ []) more, stays [] names (walk_from nothing_held) (codes "import") (u ∷ v ∷ []) more, no_strip u h, no_dashes u h, no_strip v k, no_dashes v k) refl

generate_more : (u v : Text) (more : List Text) → is_plain u ≡ true → is_plain v ≡ true → fault_of grammar (codes "generate" ∷ u ∷ v ∷ more) ≡ kind.UnknownArgument ∷ []
unfolding clap_on_literals
generate_more u v more h k =
    simp (stopped_fault (built grammar).top names (walk_from nothing_held) (codes "generate", u ∷ v ∷ []) more, stays [] names (walk_from nothing_held) (codes "generate") (u ∷ v ∷ []) more, no_strip u h, no_dashes u h, no_strip v k, no_dashes v k) refl

-- ---- the name and the operand

abbrev pub operand_in : Option (Text × List Row) → Option (Text × Option Text)
operand_in = option_map (λ p. (p.0, first_of (codes "operand") p.1))

exec_operand : operand_in (subcommand_of grammar (codes "exec" ∷ [])) ≡ Some (codes "exec", None)
unfolding clap_on_literals
exec_operand = refl

check_operand : operand_in (subcommand_of grammar (codes "check" ∷ [])) ≡ Some (codes "check", None)
unfolding clap_on_literals
check_operand = refl

init_operand : operand_in (subcommand_of grammar (codes "init" ∷ [])) ≡ Some (codes "init", None)
unfolding clap_on_literals
init_operand = refl

export_operand : operand_in (subcommand_of grammar (codes "export" ∷ [])) ≡ Some (codes "export", None)
unfolding clap_on_literals
export_operand = refl

import_operand : (u : Text) → is_plain u ≡ true → operand_in (subcommand_of grammar (codes "import" ∷ u ∷ [])) ≡ Some (codes "import", Some u)
unfolding clap_on_literals
import_operand u h = simp (no_strip u h, no_dashes u h) refl

generate_operand : (u : Text) → is_plain u ≡ true → operand_in (subcommand_of grammar (codes "generate" ∷ u ∷ [])) ≡ Some (codes "generate", Some u)
unfolding clap_on_literals
generate_operand u h = simp (no_strip u h, no_dashes u h) refl

-- the words are a name and maybe one word behind it, as `clap` tells them
pub record AreShaped (ws : List Text) : Type 0 where
  pub name : Text
  pub operand : Option Text
  pub words_are : ws ≡ words_of name operand
  pub told : operand_in (subcommand_of grammar ws) ≡ Some (name, operand)

-- what is shown of each name, and of each other word, holds of every word
by_name : (P : Text → Type 0) (w : Text) → P (codes "exec") → P (codes "check") → P (codes "init") → P (codes "import") → P (codes "export") → P (codes "generate")
    → (IsOther w → P w) → P w
by_name P w exec check init import export generate others = elim (cases_Bool (bytes_eq (codes "exec") w)) [
  | inl is ↦ subst P ((bytes_eq-Decides (codes "exec") w).0 is) exec
  | inr e ↦ elim (cases_Bool (bytes_eq (codes "check") w)) [
    | inl is ↦ subst P ((bytes_eq-Decides (codes "check") w).0 is) check
    | inr c ↦ elim (cases_Bool (bytes_eq (codes "init") w)) [
      | inl is ↦ subst P ((bytes_eq-Decides (codes "init") w).0 is) init
      | inr i ↦ elim (cases_Bool (bytes_eq (codes "import") w)) [
        | inl is ↦ subst P ((bytes_eq-Decides (codes "import") w).0 is) import
        | inr m ↦ elim (cases_Bool (bytes_eq (codes "export") w)) [
          | inl is ↦ subst P ((bytes_eq-Decides (codes "export") w).0 is) export
          | inr x ↦ elim (cases_Bool (bytes_eq (codes "generate") w)) [
            | inl is ↦ subst P ((bytes_eq-Decides (codes "generate") w).0 is) generate
            | inr g ↦ others (record { exec = e; check = c; init = i; import = m; export = x; generate = g })
          ]
        ]
      ]
    ]
  ]
]

-- a fault that is told isn't none
refused_by : {A : Type 0} (ks : Kinds) (k : ErrorKind) (rest : Kinds) → ks ≡ k ∷ rest → ks ≡ [] → A
refused_by ks k rest e f = absurd (cc (sym e ∙ f))

abbrev Passing : List Text → Type 0
Passing ws = fault_of grammar ws ≡ [] → AreShaped ws

shaped_one : (w : Text) → is_plain w ≡ true → Passing (w ∷ [])
shaped_one w h = by_name (λ v. Passing (v ∷ [])) w
    (λ _. record { name = codes "exec"; operand = None; words_are = refl; told = exec_operand })
    (λ _. record { name = codes "check"; operand = None; words_are = refl; told = check_operand })
    (λ _. record { name = codes "init"; operand = None; words_are = refl; told = init_operand })
    (refused_by _ _ _ import_alone)
    (λ _. record { name = codes "export"; operand = None; words_are = refl; told = export_operand })
    (refused_by _ _ _ generate_alone)
    (λ o. refused_by _ _ _ (other w [] h o))

shaped_two : (w u : Text) → is_plain w ≡ true → is_plain u ≡ true → Passing (w ∷ u ∷ [])
shaped_two w u h k = by_name (λ v. Passing (v ∷ u ∷ [])) w
    (refused_by _ _ _ (exec_more u [] k))
    (refused_by _ _ _ (check_more u [] k))
    (refused_by _ _ _ (init_more u [] k))
    (λ _. record { name = codes "import"; operand = Some u; words_are = refl; told = import_operand u k })
    (refused_by _ _ _ (export_more u [] k))
    (λ _. record { name = codes "generate"; operand = Some u; words_are = refl; told = generate_operand u k })
    (λ o. refused_by _ _ _ (other w (u ∷ []) h o))

shaped_more : (w u v : Text) (more : List Text) → is_plain w ≡ true → is_plain u ≡ true → is_plain v ≡ true → Passing (w ∷ u ∷ v ∷ more)
shaped_more w u v more h k l = by_name (λ x. Passing (x ∷ u ∷ v ∷ more)) w
    (refused_by _ _ _ (exec_more u (v ∷ more) k))
    (refused_by _ _ _ (check_more u (v ∷ more) k))
    (refused_by _ _ _ (init_more u (v ∷ more) k))
    (refused_by _ _ _ (import_more u v more k l))
    (refused_by _ _ _ (export_more u (v ∷ more) k))
    (refused_by _ _ _ (generate_more u v more k l))
    (λ o. refused_by _ _ _ (other w (u ∷ v ∷ more) h o))

both : (a b : Bool) → (a && b) ≡ true → (a ≡ true) × (b ≡ true)
both true b h = (refl, h)
both false b h = cc h

-- words that `clap` takes have that shape
pub shaped : (ws : List Text) → list_all is_plain ws ≡ true → Passing ws
shaped [] h = λ none. absurd (no_words none)
shaped (w ∷ []) h = shaped_one w (both _ _ h).0
shaped (w ∷ u ∷ []) h =
    let a = both _ _ h in
    shaped_two w u a.0 (both _ _ a.1).0
shaped (w ∷ u ∷ v ∷ more) h =
    let a = both _ _ h in
    let b = both _ _ a.1 in
    shaped_more w u v more a.0 b.0 (both _ _ b.1).0

-- ---- a command's words

plain_first : (w : Text) → 45 < get_or w 0 0 → is_plain w ≡ true
plain_first [] h = refl
plain_first (x ∷ xs) h = grind arith

plain_number : (w : Text) (n : ℕ) → IsNumberOf 1 20_000 w n → is_plain w ≡ true
plain_number w n (is, least, most) = rw is (plain_first (decimal n) (omega (arith, first_decimal n (omega arith) (omega arith))))

-- are plain, and `clap` finds no fault in them
pub command_is_plain : (ws : List Text) → IsCommand ws → list_all is_plain ws ≡ true
command_is_plain ws (inl (inl is)) = rw is refl
command_is_plain ws (inl (inr is)) = rw is refl
command_is_plain ws (inr (inl is)) = rw is refl
command_is_plain ws (inr (inr (inl is))) = rw is refl
command_is_plain ws (inr (inr (inr (inl (user, (is, plain)))))) = rw (is, plain) refl
command_is_plain ws (inr (inr (inr (inr (n, (word, is, number)))))) = rw (is, plain_number word n number) refl

pub command_passes : (ws : List Text) → IsCommand ws → fault_of grammar ws ≡ []
command_passes ws (inl (inl is)) = rw is exec_alone
command_passes ws (inl (inr is)) = rw is check_alone
command_passes ws (inr (inl is)) = rw is init_alone
command_passes ws (inr (inr (inl is))) = rw is export_alone
command_passes ws (inr (inr (inr (inl (user, (is, plain)))))) = rw is (import_user user plain)
command_passes ws (inr (inr (inr (inr (n, (word, is, number)))))) = rw is (generate_number word (plain_number word n number))

-- ---- the clauses of a parse, at this grammar

pub kinds_err : (a : App) (e : Error) (ws : List Text) → a ≡ grammar → (is_simple_and_free a ≡ true → HasKind (fault_of a ws) e) → HasKind (fault_of grammar ws) e
kinds_err a e ws at h = subst (λ (x : App). is_simple_and_free x ≡ true → HasKind (fault_of x ws) e) at h is_free

pub kinds_ok : (a : App) (ws : List Text) → a ≡ grammar → (is_simple_and_free a ≡ true → fault_of a ws ≡ []) → fault_of grammar ws ≡ []
kinds_ok a ws at h = subst (λ (x : App). is_simple_and_free x ≡ true → fault_of x ws ≡ []) at h is_free

pub matches_at : (a : App) (ws : List Text) (m : ArgMatches) → a ≡ grammar → HasMatchesOf a ws m → subcommand_rows_of m ≡ subcommand_of grammar ws
matches_at a ws m at h = (subst (λ (x : App). HasMatchesOf x ws m) at h is_simple_grammar).1

pub refused_kind : (ws : List Text) (e : Error) → (kind_of e ≡ kind.OutOfMemory → ⊥) → HasKind (fault_of grammar ws) e → IsCommand ws → ⊥
refused_kind ws e not_memory (inl memory) is = not_memory memory
refused_kind ws e not_memory (inr among) is = rw (command_passes ws is) at among

-- what is read of the parts of an entry is the entry
abbrev entry : {B : Type 0} → (B → Text) → (B → List Row) → B → Text × List Row
entry f g b = (f b, g b)

entry_of : {B : Type 0} (f : B → Text) (g : B → List Row) (o : Option B) (name : Text) (rows : List Row) → Some name ≡ option_map f o
    → Some rows ≡ option_map (λ (p : Text × List Row). p.1) (option_map (entry f g) o) → option_map (entry f g) o ≡ Some (name, rows)
entry_of f g None name rows named at = absurd (cc named)
entry_of f g (Some b) name rows named at =
    ap₂ (λ n r. Some (entry (λ (_ : Unit {0}). n) (λ (_ : Unit {0}). r) tt)) (sym (same_Some _ _ named)) (sym (same_Some _ _ at))

-- words in which `clap` finds no fault are the name and the operand that it tells
pub words_told : (ws : List Text) (m : ArgMatches) (name : Text) (rows : List Row) (operand : Option Text) → list_all is_plain ws ≡ true → fault_of grammar ws ≡ []
    → subcommand_rows_of m ≡ subcommand_of grammar ws → Some name ≡ subcommand_name_of m → Some rows ≡ option_map (λ (p : Text × List Row). p.1) (subcommand_rows_of m)
    → operand ≡ first_of (codes "operand") rows → ws ≡ words_of name operand
words_told ws m name rows operand plain none has named at is =
    let s = shaped ws plain none in
    let entry : subcommand_rows_of m ≡ Some (name, rows) = entry_of _ _ _ name rows named at in
    let same = same_Some _ _ (ap operand_in (sym entry ∙ has) ∙ s.told) in
    s.words_are ∙ ap₂ words_of (sym (ap (λ (p : Text × Option Text). p.0) same)) (sym (is ∙ ap (λ (p : Text × Option Text). p.1) same))

none_told : {A : Type 0} (o : Option (Text × List Row)) (x : Text × Option Text) → None ≡ option_map (λ (p : Text × List Row). p.1) o → operand_in o ≡ Some x → A
none_told None x at told = absurd (cc told)
none_told (Some p) x at told = absurd (cc at)

pub not_entered : (ws : List Text) (m : ArgMatches) → list_all is_plain ws ≡ true → fault_of grammar ws ≡ [] → subcommand_rows_of m ≡ subcommand_of grammar ws
    → None ≡ option_map (λ (p : Text × List Row). p.1) (subcommand_rows_of m) → ⊥
not_entered ws m plain none has at =
    let s = shaped ws plain none in
    none_told (subcommand_rows_of m) _ at (ap operand_in has ∙ s.told)

-- the operand is plain where all words are
pub operand_is_plain : {B : Type 0} (text : B → Text) (ws : List Text) (name : Text) (o : Option B) → list_all is_plain ws ≡ true → ws ≡ words_of name (option_map text o)
    → IfSome o (λ b. is_plain (text b) ≡ true)
operand_is_plain text ws name None plain are = tt
operand_is_plain text ws name (Some b) plain are =
    let all : list_all is_plain (name ∷ text b ∷ []) ≡ true = sym (ap (list_all is_plain) are) ∙ plain in
    (both _ _ (both _ _ all).1).0
