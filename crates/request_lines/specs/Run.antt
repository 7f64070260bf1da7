-- Lines that are answered one after another, and how a run over them ends.
use Rattle.std.specs.Prelude.{◌≡◌, ◌⊎◌, ℕ, List, [], ◌∷◌, ◌++◌, Option, Some, Result, Ok, Err}
use Rattle.std.specs.Io.KnownBytes.{Appends, Consumes, IsAtEnd}
use Rattle.request_lines.specs.Bytes.{WritesAll}
use Rattle.request_lines.specs.Lines.{lines, whole_lines, AreWithinLimits, StopsAtLong, StopsAtMany}
use Rattle.request_lines.specs.Causes.{Rose}
use Rattle.request_lines.specs.declared.responder.Looked.{Looked}
use Rattle.request_lines.specs.declared.responder.Looked.TheVariants as looked
use Rattle.request_lines.specs.declared.run.Halt.{Halt}
use Rattle.request_lines.specs.declared.run.Halt.TheVariants as halt
use Rattle.request_lines.specs.declared.run.End.{End}
use Rattle.request_lines.specs.declared.run.End.TheVariants.{Done, ReadFault, WriteFault, Memory, LongLine, ManyLines}

-- from a state, these lines are answered by this text, and lead to another state
abbrev pub AreAnswered : {State : Type 0} → (State → List ℕ → List ℕ → State → Type 0) → State
    → List (List ℕ) → List ℕ → State → Type 0
AreAnswered Answers old [] text new = (text ≡ []) × (new ≡ old)
AreAnswered {State = State} Answers old (line ∷ more) text new =
    (next : State) × (first : List ℕ) × (rest : List ℕ) × Answers old line first next
    × (text ≡ first ++ rest) × AreAnswered Answers next more rest new

-- the sink has the answers to these lines
pub record HasServed {State : Type 0} (Answers : State → List ℕ → List ℕ → State → Type 0)
    (old : State) (all : List (List ℕ)) (taken_old taken_new : Option (List ℕ))
    (new : State) : Type 0 where
  pub text : List ℕ
  pub answered : AreAnswered Answers old all text new
  pub written : Appends taken_old taken_new text

-- a line was looked at: this is so where it is answered, and that of the change where it asks for one
abbrev pub IsLooked : {Change : Type 0} → Type 0 → (Change → Type 0) → Looked Change → Type 0
IsLooked IsAnswered Asks looked.Answered = IsAnswered
IsLooked IsAnswered Asks (looked.Asks change) = Asks change

-- in a state, which stays, these lines are answered by this text
abbrev pub AreRead : {State : Type 0} → (State → List ℕ → List ℕ → State → Type 0) → State
    → List (List ℕ) → List ℕ → Type 0
AreRead Answers state [] text = text ≡ []
AreRead Answers state (line ∷ more) text =
    (first : List ℕ) × (rest : List ℕ) × Answers state line first state
    × (text ≡ first ++ rest) × AreRead Answers state more rest

-- these lines are answered: the sink has the answers to the first ones, and the last ones, which changed nothing, have the text that
-- waits
pub record HasAnswered {State : Type 0} (Answers : State → List ℕ → List ℕ → State → Type 0)
    (old : State) (all : List (List ℕ)) (taken_old taken_new : Option (List ℕ)) (waiting : List ℕ)
    (new : State) : Type 0 where
  pub first : List (List ℕ)
  pub last : List (List ℕ)
  pub all_is : all ≡ first ++ last
  pub served : HasServed Answers old first taken_old taken_new new
  pub read : AreRead Answers new last waiting

-- one line is answered, and the sink has the answer or only a front of it
pub record Serves {State T E : Type 0} (Answers : State → List ℕ → List ℕ → State → Type 0)
    (old : State) (line : List ℕ) (taken_old taken_new : Option (List ℕ)) (result : Result T E)
    (new : State) : Type 0 where
  pub text : List ℕ
  pub answered : Answers old line text new
  pub written : WritesAll taken_old taken_new result text

-- no further line was answered, or the next one was, which is within the limits too, and this is a front of its answer
abbrev pub IsFrontOfNext : {State : Type 0} → (State → List ℕ → List ℕ → State → Type 0) → State
    → List (List ℕ) → List (List ℕ) → List ℕ → State → Type 0
IsFrontOfNext Answers middle done rest front new =
    ((front ≡ []) × (new ≡ middle))
    ⊎ ((line : List ℕ) × (more : List (List ℕ)) × (text : List ℕ) × (back : List ℕ)
    × (rest ≡ line ∷ more)
    × AreWithinLimits (done ++ line ∷ []) × Answers middle line text new × (text ≡ front ++ back))

-- the first lines have their whole answers, and at most the next one was answered too and has a front of its answer; this
-- is the state after them
pub record IsCutShort {State : Type 0} (Answers : State → List ℕ → List ℕ → State → Type 0)
    (old : State) (all : List (List ℕ)) (taken_old taken_new : Option (List ℕ))
    (new : State) : Type 0 where
  pub done : List (List ℕ)
  pub rest : List (List ℕ)
  pub all_is : all ≡ done ++ rest
  pub within : AreWithinLimits done
  pub text : List ℕ
  pub middle : State
  pub answered : AreAnswered Answers old done text middle
  pub front : List ℕ
  pub next : IsFrontOfNext Answers middle done rest front new
  pub written : Appends taken_old taken_new (text ++ front)

-- how a run over these bytes ends, by what it answers. Where a read fails, each line that has its line feed has its answer, and what was
-- read behind them is within the limits too
abbrev pub Ends : {State : Type 0} → (State → List ℕ → List ℕ → State → Type 0) → State → List ℕ
    → Option (List ℕ) → Option (List ℕ) → Option (List ℕ) → End → State → Type 0
Ends Answers old bytes left taken_old taken_new Done new =
    IsAtEnd left × AreWithinLimits (lines bytes)
    × HasServed Answers old (lines bytes) taken_old taken_new new
Ends Answers old bytes left taken_old taken_new ReadFault new =
    (read : List ℕ) × Consumes (Some bytes) left read × AreWithinLimits (lines read)
    × HasServed Answers old (whole_lines read) taken_old taken_new new
Ends Answers old bytes left taken_old taken_new WriteFault new =
    IsCutShort Answers old (lines bytes) taken_old taken_new new
Ends Answers old bytes left taken_old taken_new Memory new =
    IsCutShort Answers old (lines bytes) taken_old taken_new new
Ends Answers old bytes left taken_old taken_new LongLine new =
    (done : List (List ℕ)) × StopsAtLong (lines bytes) done
    × HasServed Answers old done taken_old taken_new new
Ends Answers old bytes left taken_old taken_new ManyLines new =
    (done : List (List ℕ)) × StopsAtMany (lines bytes) done
    × HasServed Answers old done taken_old taken_new new

-- what waited is written and the run ends in that way, or a front of it is where the sink fails
abbrev pub IsFinished : Option (List ℕ) → Option (List ℕ) → List ℕ → End → End → Type 0
IsFinished taken_old taken_new waiting end result =
    ((result ≡ end) × Appends taken_old taken_new waiting)
    ⊎ ((result ≡ WriteFault) × (front : List ℕ) × (back : List ℕ) × (waiting ≡ front ++ back)
    × Appends taken_old taken_new front)

-- a fault of writing is told only where the sink's count rose
abbrev pub IsWriteCause : {T : Type 0} → ℕ → ℕ → Result T Halt → Type 0
IsWriteCause before now (Ok x) = Unit {0}
IsWriteCause before now (Err halt.Write) = Rose before now
IsWriteCause before now (Err halt.Memory) = Unit {0}
