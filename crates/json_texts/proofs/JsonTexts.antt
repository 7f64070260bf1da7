-- The bytes of the tokens of a value are its compact text.
use Rattle.std.proofs.Common.{◌≡◌, ℤ, pos, negsuc, List, [], ◌∷◌, ◌++◌, refl, ap, ◌∙◌, append_assoc}
use Rattle.std.specs.Fmt.{signed_decimal}
use Rattle.json.specs.Token.{Token}
use Rattle.json.specs.Print.{print}
use Rattle.json.specs.Tree.{json_tokens, items_tokens, members_tokens}
use Rattle.serde_json.specs.Data.{Data, null, boolean, number, string, array, object, Items, no_items, item, Members, no_members, member}
use Rattle.serde_json.specs.Find.{of_integer}
use Rattle.serde_json.specs.Written.{number_text, outline, items_outline, members_outline, compact_text}
use Rattle.serde_json.proofs.Texts.{print-outline}
use Rattle.json_texts.specs.JsonTokens.{after, after_items, after_members}

mutual
  after-appends : (d : Data) (ts : List Token) → after d ts ≡ ts ++ json_tokens (outline d)
  after-appends null ts = refl
  after-appends (boolean b) ts = refl
  after-appends (number n) ts = refl
  after-appends (string s) ts = refl
  after-appends (array ds) ts = after_items-appends ds (ts ++ Token.begin_array ∷ []) ∙ append_assoc ts _ _
  after-appends (object ms) ts = after_members-appends ms (ts ++ Token.begin_object ∷ []) ∙ append_assoc ts _ _

  after_items-appends : (ds : Items) (ts : List Token) → after_items ds ts ≡ ts ++ items_tokens (items_outline ds)
  after_items-appends no_items ts = refl
  after_items-appends (item d ds) ts =
      after_items-appends ds (after d ts) ∙ ap (λ us. us ++ items_tokens (items_outline ds)) (after-appends d ts) ∙ append_assoc ts _ _

  after_members-appends : (ms : Members) (ts : List Token) → after_members ms ts ≡ ts ++ members_tokens (members_outline ms)
  after_members-appends no_members ts = refl
  after_members-appends (member k d ms) ts =
      let begun = ts ++ Token.key k ∷ [] in
      after_members-appends ms (after d begun) ∙ ap (λ us. us ++ members_tokens (members_outline ms)) (after-appends d begun)
      ∙ append_assoc begun _ _ ∙ append_assoc ts _ _

-- the whole of what was written
pub whole : (d : Data) → print (after d []) ≡ compact_text d
whole d = ap print (after-appends d []) ∙ print-outline d

-- an integer has the same text whether or not it is below zero
pub integer_text : (z : ℤ) → number_text (of_integer z) ≡ signed_decimal z
integer_text (pos n) = refl
integer_text (negsuc n) = refl
