-- What the program takes for a standing.
use Rattle.std.specs.Prelude.{ℕ, List}
use Rattle.jql_eval.specs.declared.standing.Standing.{Standing as Held}
use Rattle.change_history.specs.Key.{project_of}
use Rattle.jql_meaning.specs.Order.{Standing, size, text, key, nothing, number_of}

-- where an issue of that key stands by it
abbrev pub key_standing : List ℕ → Standing
key_standing name = key (project_of name) (number_of name)

-- a key's number is read already, but where it is long
abbrev pub seen : Held → Standing
seen (Held.Size n) = size n
seen (Held.Text t) = text t.now
seen (Held.Key project number) = key project.now number
seen (Held.LongKey name) = key_standing name.now
seen Held.Nothing = nothing
