-- A pass between two calls.
use Rattle.std.specs.Prelude.{◌<◌, ◌≤◌, ◌≡◌, ◌+◌, ℕ, false, [], length, None}
use Rattle.atomic_table.specs.Table.{Me}
use Rattle.desk_turn.specs.declared.view.View.{View}
use Rattle.desk_turn.specs.Views.{all_parts}

module _ {A T O : Type 0} where
  -- the view may make calls, and has no ticket
  pub record Rests (v : View A T O) : Type 0 where
    pub live : 0 < v.parts
    pub ticket : v.ticket ≡ None
    pub fresh : v.fresh ≡ 0
    pub holds : v.holds ≡ false

module _ {A T O S : Type 0} where
  -- The seat rests, and its numbers are these. The first pass has all parts but one for each pass that is out, and any other one has one part.
  -- All numbers together fit a word of 32 bits
  pub record IsPass (me : Me S (View A T O)) (caller left made out calls : ℕ) : Type 0 where
    pub carries : me.1 ≡ []
    pub rests : Rests me.0
    pub number : me.0.caller ≡ caller
    pub lefts : me.0.left ≡ left
    pub mades : me.0.made ≡ made
    pub owns : length me.0.mine ≡ calls
    pub first : caller ≡ 0 → me.0.parts + out ≡ all_parts
    pub other : 0 < caller → (me.0.parts ≡ 1) × (me.0.joined ≡ [])
    pub room : made + left + calls < 4294967296
    pub outs : out ≤ made
