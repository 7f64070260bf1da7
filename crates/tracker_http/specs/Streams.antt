-- The requests of a whole stream of bytes, and what ends them.
use Rattle.std.specs.Prelude.{◌≡◌, ℕ, List, [], ◌∷◌, ◌++◌, Bool}
use Rattle.tracker_http.specs.Requests.{IsRequest, IsCut, IsRefused}
use Rattle.tracker_http.specs.declared.head_fault.HeadFault.{HeadFault}
use Rattle.tracker_http.specs.declared.request.Request.{Request}

-- the bytes end between requests, or inside one, or one is refused
pub data Ending : Type 0 where
  at_end : Ending
  inside : Ending
  refuses : HeadFault → Bool → Ending

abbrev pub EndsBy : List ℕ → Ending → Type 0
EndsBy bytes at_end = bytes ≡ []
EndsBy bytes inside = IsCut bytes
EndsBy bytes (refuses refusal is_head) =
    (text : List ℕ) × (rest : List ℕ) × (bytes ≡ text ++ rest) × IsRefused text refusal is_head

-- these requests stand in the bytes, one behind another, and that ends them
abbrev pub AreRequests : List ℕ → List Request → Ending → Type 0
AreRequests bytes [] ending = EndsBy bytes ending
AreRequests bytes (r ∷ rs) ending =
    (text : List ℕ) × (rest : List ℕ) × (bytes ≡ text ++ rest) × IsRequest text r
    × AreRequests rest rs ending
