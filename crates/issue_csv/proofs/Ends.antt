-- Each record takes at least one byte, so that all are read.
use Rattle.std.proofs.Common.{◌≡◌, ◌≤◌, ◌<◌, ◌+◌, ◌==◌, ◌||◌, ℕ, zero, suc, Bool, true, false, List, [], ◌∷◌, ◌++◌, length, Option, Some, None, refl, sym, arith, ◌∙◌}
use Rattle.std.specs.Prelude.{if◌then◌else◌}
use Rattle.std.proofs.lemmas.Bool.{false≢true}
use Rattle.std.proofs.lemmas.Option.{same_Some}
use Rattle.csv.specs.Machine.{Read, ends_at_end, field_after, fields_after, in_field, is_end, next_record, start_field, start_record, step}
use Rattle.csv.specs.Reading.{AreRecords, Reached, default_config, records_from, records_next, strip_bom}
use Rattle.csv.specs.declared.parser.Action.{Action}
use Rattle.csv.specs.declared.parser.Action.TheVariants as act
use Rattle.csv.specs.declared.parser.State.{State}
use Rattle.csv.specs.declared.parser.State.TheVariants as st
use Rattle.issue_csv.specs.Reading.{records_of}

-- behind a record no other has begun
abbrev Rests : State × Action → Type 0
Rests r = is_end r.1 ≡ true → ends_at_end r.0 ≡ false

abbrev plain : Bool → Bool → Bool → State × Action
plain comma ends cr =
    if comma then (st.StartField, act.EndField)
    else if ends then (if cr then st.AfterCr else st.StartRecord, act.EndRecord)
    else (st.InField, act.Copy)

plain_rests : (comma ends cr : Bool) → Rests (plain comma ends cr)
plain_rests true ends cr = λ h. absurd (false≢true h)
plain_rests false true true = λ h. refl
plain_rests false true false = λ h. refl
plain_rests false false cr = λ h. absurd (false≢true h)

guarded : (b : Bool) (s : State) (a : Action) (other : State × Action) → is_end a ≡ false → Rests other
    → Rests (if b then (s, a) else other)
guarded true s a other on rests = λ h. absurd (false≢true (sym on ∙ h))
guarded false s a other on rests = rests

goes_on : (s : State) (a : Action) → is_end a ≡ false → Rests (s, a)
goes_on s a on = λ h. absurd (false≢true (sym on ∙ h))

in_field_rests : (c : ℕ) → Rests (in_field default_config c)
in_field_rests c = plain_rests (c == 44) ((c == 13) || (c == 10)) (c == 13)

start_field_rests : (c : ℕ) → Rests (start_field default_config c)
start_field_rests c = guarded (c == 34) st.InQuoted act.Skip (in_field default_config c) refl (in_field_rests c)

start_record_rests : (c : ℕ) → Rests (start_record default_config c)
start_record_rests c =
    guarded ((c == 13) || (c == 10)) st.StartRecord act.Skip (start_field default_config c) refl (start_field_rests c)

step_rests : (s : State) (c : ℕ) → Rests (step default_config s c)
step_rests st.StartRecord c = start_record_rests c
step_rests st.StartField c = start_field_rests c
step_rests st.InField c = in_field_rests c
step_rests st.InQuoted c =
    guarded (c == 34) st.AfterQuote act.Skip (st.InQuoted, act.Copy) refl (goes_on st.InQuoted act.Copy refl)
step_rests st.InEscape c = goes_on st.InQuoted act.Copy refl
step_rests st.AfterQuote c = guarded (c == 34) st.InQuoted act.Copy (in_field default_config c) refl (in_field_rests c)
step_rests st.InComment c =
    guarded (c == 10) st.StartRecord act.Skip (st.InComment, act.Skip) refl (goes_on st.InComment act.Skip refl)
step_rests st.AfterCr c = guarded (c == 10) st.StartRecord act.Skip (start_record default_config c) refl (start_record_rests c)

-- no other has begun, and at most so many bytes are left
abbrev IsBehind : ℕ → Read → Type 0
IsBehind size q = (ends_at_end q.1 ≡ false) × (length q.2 ≤ size)

at_end : (b : Bool) (fields : List (List ℕ)) (q : Read) → (if b then Some (fields, st.StartRecord, []) else None) ≡ Some q → IsBehind 0 q
at_end true fields q e = rw (← same_Some _ _ e) (refl, omega arith)
at_end false fields q e = cc e

at_byte : (s : State) (c : ℕ) (fields : List (List ℕ)) (rest : List ℕ) (other : Option Read) (q : Read) (b : Bool)
    → is_end (step default_config s c).1 ≡ b → (other ≡ Some q → IsBehind (length rest) q)
    → (if b then Some (fields, (step default_config s c).0, rest) else other) ≡ Some q → IsBehind (length rest) q
at_byte s c fields rest other q true is later e = rw (← same_Some _ _ e) (step_rests s c is, omega arith)
at_byte s c fields rest other q false is later e = later e

one_less : (size : ℕ) (q : Read) → IsBehind size q → IsBehind (suc size) q
one_less size q h = (h.0, omega (arith, h.1))

taken : (s : State) (fields : List (List ℕ)) (field xs : List ℕ) (q : Read) → next_record default_config s fields field xs ≡ Some q
    → IsBehind (length xs) q
unfolding next_record
taken s fields field [] q e = at_end (ends_at_end s) (fields ++ field ∷ []) q e
taken s fields field (c ∷ rest) q e =
    one_less (length rest) q (at_byte s c (fields_after (step default_config s c).1 fields field) rest
    (next_record default_config (step default_config s c).0 (fields_after (step default_config s c).1 fields field)
    (field_after (step default_config s c).1 c field) rest)
    q (is_end (step default_config s c).1) refl
    (λ later. taken (step default_config s c).0 (fields_after (step default_config s c).1 fields field)
    (field_after (step default_config s c).1 c field) rest q later) e)

-- a record that begins takes at least one byte
shorter : (s : State) (xs : List ℕ) (q : Read) → ends_at_end s ≡ false → next_record default_config s [] [] xs ≡ Some q
    → length q.2 < length xs
unfolding next_record
shorter s [] q clean e = cc (rw clean at e)
shorter s (c ∷ rest) q clean e =
    let h = at_byte s c (fields_after (step default_config s c).1 [] []) rest
    (next_record default_config (step default_config s c).0 (fields_after (step default_config s c).1 [] [])
    (field_after (step default_config s c).1 c []) rest)
    q (is_end (step default_config s c).1) refl (λ later. taken _ _ _ rest q later) e in
    omega (arith, h.1)

-- ---- all records

one_by_one : (n : ℕ) (s : State) (xs : List ℕ) → ends_at_end s ≡ false → length xs < suc n
    → ((t : State) (ys : List ℕ) → ends_at_end t ≡ false → length ys < n → AreRecords default_config t ys (records_from default_config n t ys))
    → (o : Option Read) → next_record default_config s [] [] xs ≡ o → AreRecords default_config s xs (records_next (records_from default_config n) o)
unfolding Reached
one_by_one n s xs clean lt later None e = (s, xs, (refl, refl), e)
one_by_one n s xs clean lt later (Some p) e =
    let less = shorter s xs p clean e in
    let r = later p.1 p.2 (taken s [] [] xs p e).0 (omega (arith, less, lt)) in
    (r.0, r.1, (p, e, refl, r.2), r.3)

all_read : (n : ℕ) (s : State) (xs : List ℕ) → ends_at_end s ≡ false → length xs < n
    → AreRecords default_config s xs (records_from default_config n s xs)
unfolding records_from
all_read zero s xs clean lt = absurd (omega (arith, lt))
all_read (suc n) s xs clean lt =
    one_by_one n s xs clean lt (λ t ys c l. all_read n t ys c l) (next_record default_config s [] [] xs) refl

pub are_all : (bytes : List ℕ) → AreRecords default_config st.StartRecord (strip_bom bytes) (records_of bytes)
are_all bytes = all_read (length (strip_bom bytes) + 1) st.StartRecord (strip_bom bytes) refl (omega arith)
