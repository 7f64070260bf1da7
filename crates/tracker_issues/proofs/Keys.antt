-- How issues are found by key.
use Rattle.std.proofs.Common.{◌≡◌, ℕ, zero, suc, List, [], ◌∷◌, ◌++◌, length, slice_get, set, Bool, true, false, Option, Some, None, option_map, String, Global, string_bytes, string_eq, bytes_eq, IfSome, refl, sym, ap, ◌∙◌, cond, ◌<◌, arith}
use Rattle.std.specs.Prelude.{if◌then◌else◌}
use Rattle.std.specs.Option.{option_or, is_some}
use Rattle.std.specs.HashMap.{HashMap, get, get_by_text}
use Rattle.std.specs.Map.{lookup, update}
use Rattle.std.proofs.lemmas.Slice.Eq.{bytes_eq-Decides}
use Rattle.change_history.specs.History.{RoomyHistory, History, histories_of}
use Rattle.tracker_machine.specs.Known.{place_of_issue}

-- a key that is found stands in the table
found_at : (bytes : List ℕ) (x : String Global × ℕ) (rest : Option ℕ) (v : ℕ) (b : Bool) → bytes_eq bytes (string_bytes x.0) ≡ b → cond b (Some x.1) rest ≡ Some v
    → (rest ≡ Some v → (k : String Global) × (bytes ≡ string_bytes k)) → (k : String Global) × (bytes ≡ string_bytes k)
found_at bytes x rest v true is e later = (x.0, (bytes_eq-Decides bytes (string_bytes x.0)).0 is)
found_at bytes x rest v false is e later = later e

found_key : (bytes : List ℕ) (es : List (String Global × ℕ)) (v : ℕ) → lookup (λ k. bytes_eq bytes (string_bytes k)) es ≡ Some v → (k : String Global) × (bytes ≡ string_bytes k)
found_key bytes [] v e = cc
found_key bytes (x ∷ es) v e = found_at bytes x (lookup (λ k. bytes_eq bytes (string_bytes k)) es) v (bytes_eq bytes (string_bytes x.0)) refl e (found_key bytes es v)

agree : (o p : Option ℕ) → ((v : ℕ) → o ≡ Some v → p ≡ o) → ((v : ℕ) → p ≡ Some v → p ≡ o) → p ≡ o
agree (Some v) p f g = f v refl
agree None (Some v) f g = g v refl
agree None None f g = refl

module _ {S : Type 0} where
  at_key : (m : HashMap (String Global) ℕ S) (bytes : List ℕ) (k : String Global) → bytes ≡ string_bytes k → get_by_text m bytes ≡ get string_eq m k
  at_key m bytes k is = ap (λ b. get_by_text m b) is

  -- two tables that agree on keys agree on all bytes
  pub same_found : (m n : HashMap (String Global) ℕ S) → ((q : String Global) → get string_eq n q ≡ get string_eq m q) → (bytes : List ℕ) → get_by_text n bytes ≡ get_by_text m bytes
  same_found m n same bytes =
      let by = λ (k : (k : String Global) × (bytes ≡ string_bytes k)). at_key n bytes k.0 k.1 ∙ same k.0 ∙ sym (at_key m bytes k.0 k.1) in
      agree (get_by_text m bytes) (get_by_text n bytes) (λ v e. by (found_key bytes m.entries v e)) (λ v e. by (found_key bytes n.entries v e))

or_none : (o : Option ℕ) → o ≡ option_or o None
or_none None = refl
or_none (Some n) = refl

or_some : (o : Option ℕ) (n : ℕ) → is_some o ≡ true → o ≡ option_or o (Some n)
or_some None n some = cc
or_some (Some m) n some = refl

module _ {S : Type 0} where
  kept_at : (m : HashMap (String Global) ℕ S) (key name : List ℕ) (place : ℕ) (b : Bool) → bytes_eq key name ≡ b → is_some (get_by_text m key) ≡ true
      → get_by_text m name ≡ option_or (get_by_text m name) (if b then Some place else None)
  kept_at m key name place true is some = or_some (get_by_text m name) place (ap (λ b. is_some (get_by_text m b)) (sym ((bytes_eq-Decides key name).0 is)) ∙ some)
  kept_at m key name place false is some = or_none (get_by_text m name)

  -- a key that is there keeps its place
  pub kept_found : (m : HashMap (String Global) ℕ S) (key : List ℕ) (place : ℕ) → is_some (get_by_text m key) ≡ true → (name : List ℕ)
      → get_by_text m name ≡ option_or (get_by_text m name) (if bytes_eq key name then Some place else None)
  kept_found m key place some name = kept_at m key name place (bytes_eq key name) refl some

  put_at : (m : HashMap (String Global) ℕ S) (key name : List ℕ) (place : ℕ) (b : Bool) → bytes_eq key name ≡ b → is_some (get_by_text m key) ≡ false
      → cond b (Some place) (get_by_text m name) ≡ option_or (get_by_text m name) (if b then Some place else None)
  put_at m key name place true is none = at_none (get_by_text m name) (ap (λ b. is_some (get_by_text m b)) (sym ((bytes_eq-Decides key name).0 is)) ∙ none) where
    at_none : (o : Option ℕ) → is_some o ≡ false → Some place ≡ option_or o (Some place)
    at_none None e = refl
    at_none (Some n) e = cc
  put_at m key name place false is none = or_none (get_by_text m name)

  -- a new key has this place
  pub put_found : (m : HashMap (String Global) ℕ S) (key : List ℕ) (place : ℕ) → is_some (get_by_text m key) ≡ false → (name : List ℕ)
      → update bytes_eq (get_by_text m) key (Some place) name ≡ option_or (get_by_text m name) (if bytes_eq key name then Some place else None)
  put_found m key place none name = put_at m key name place (bytes_eq key name) refl none

shift : (o : Option ℕ) (b : Bool) (n : ℕ) → option_map suc (option_or o (if b then Some n else None)) ≡ option_or (option_map suc o) (if b then Some (suc n) else None)
shift None true n = refl
shift None false n = refl
shift (Some m) b n = refl

append_at : (b c : Bool) (o more : Option ℕ) (n : ℕ) → more ≡ option_or o (if c then Some n else None)
    → (if b then Some 0 else option_map suc more) ≡ option_or (if b then Some 0 else option_map suc o) (if c then Some (suc n) else None)
append_at true c o more n is = refl
append_at false c o more n is = ap (λ p. option_map suc p) is ∙ shift o c n

-- an issue at the end is found where no other has its key
pub place_of_issue-append : (name : List ℕ) (hs : List History) (h : History) → place_of_issue name (hs ++ h ∷ []) ≡ option_or (place_of_issue name hs) (if bytes_eq h.key name then Some (length hs) else None)
place_of_issue-append name [] h = refl
place_of_issue-append name (g ∷ hs) h = append_at (bytes_eq g.key name) (bytes_eq h.key name) (place_of_issue name hs) (place_of_issue name (hs ++ h ∷ [])) (length hs) (place_of_issue-append name hs h)

abbrev key_of : Option History → List ℕ
key_of None = []
key_of (Some h) = h.key

-- an issue in place of one of the same key
pub place_of_issue-set : (name : List ℕ) (hs : List History) (k : ℕ) (old new : History) → slice_get hs k ≡ Some old → new.key ≡ old.key → place_of_issue name (set hs k new) ≡ place_of_issue name hs
place_of_issue-set name [] k old new at same = cc
place_of_issue-set name (h ∷ hs) zero old new at same = ap (λ key. if bytes_eq key name then Some 0 else option_map suc (place_of_issue name hs)) (same ∙ sym (ap key_of at))
place_of_issue-set name (h ∷ hs) (suc k) old new at same = ap (λ o. if bytes_eq h.key name then Some 0 else option_map suc o) (place_of_issue-set name hs k old new at same)

within_at : (b : Bool) (o : Option ℕ) (n : ℕ) → IfSome o (λ place. place < n) → IfSome (if b then Some 0 else option_map suc o) (λ place. place < suc n)
within_at true o n more = omega arith
within_at false None n more = tt
within_at false (Some k) n more = omega (arith, more)

-- an issue that is found is there
pub place_within : (name : List ℕ) (is : List RoomyHistory) → IfSome (place_of_issue name (histories_of is)) (λ place. place < length is)
place_within name [] = tt
place_within name (i ∷ is) = within_at (bytes_eq i.history.key name) (place_of_issue name (histories_of is)) (length is) (place_within name is)
