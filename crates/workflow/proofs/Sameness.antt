-- The test of two values tells whether they are the same.
use Rattle.std.proofs.Common.{◌≡◌, ◌==◌, ℕ, List, Bool, true, false, refl, sym, ap, ℤ}
use Rattle.std.specs.Prelude.{IsTrue, ◌↔◌}
use Rattle.std.specs.Bool.{Decides}
use Rattle.std.specs.Str.{bytes_eq}
use Rattle.std.specs.Cmp.Lexicographic.{pointwise}
use Rattle.std.specs.Ordering.{int_eq}
use Rattle.std.proofs.lemmas.Slice.Eq.{bytes_eq-Decides, slice_eq-Decides}
use Rattle.std.proofs.lemmas.Bool.Decides.{Decides-int_eq, Decides-eqb}
use Rattle.field_values.specs.declared.value.Value.{Value}
use Rattle.field_values.specs.declared.value.Value.TheVariants.{Empty, Text, Number, Choice, User, Date, Set, Labels, Sprint}
use Rattle.field_values.specs.declared.numbers.ChoiceNo.{ChoiceNo}
use Rattle.field_values.specs.declared.numbers.UserNo.{UserNo}
use Rattle.field_values.specs.declared.numbers.SprintNo.{SprintNo}
use Rattle.field_values.specs.declared.numbers.Day.{Day}
use Rattle.workflow.specs.Same.{same_value}

same_choice : (a b : ChoiceNo) → Decides (a.0 == b.0) (a ≡ b)
same_choice a b = let d = Decides-eqb a.0 b.0 in (λ t. ap (λ (n : ℕ). let c : ChoiceNo = record { 0 = n } in c) (d.0 t), λ e. d.1 (ap (λ (c : ChoiceNo). c.0) e))

same_user : (a b : UserNo) → Decides (a.0 == b.0) (a ≡ b)
same_user a b = let d = Decides-eqb a.0 b.0 in (λ t. ap (λ (n : ℕ). let c : UserNo = record { 0 = n } in c) (d.0 t), λ e. d.1 (ap (λ (c : UserNo). c.0) e))

same_sprint : (a b : SprintNo) → Decides (a.0 == b.0) (a ≡ b)
same_sprint a b = let d = Decides-eqb a.0 b.0 in (λ t. ap (λ (n : ℕ). let c : SprintNo = record { 0 = n } in c) (d.0 t), λ e. d.1 (ap (λ (c : SprintNo). c.0) e))

same_day : (a b : Day) → Decides (int_eq a.0 b.0) (a ≡ b)
same_day a b = let d = Decides-int_eq a.0 b.0 in (λ t. ap (λ (n : ℤ). let c : Day = record { 0 = n } in c) (d.0 t), λ e. d.1 (ap (λ (c : Day). c.0) e))

same_set : (a b : List ChoiceNo) → Decides (pointwise (λ a b. a.0 == b.0) a b) (a ≡ b)
same_set a b = slice_eq-Decides same_choice a b _ refl

same_labels : (a b : List (List ℕ)) → Decides (pointwise bytes_eq a b) (a ≡ b)
same_labels a b = slice_eq-Decides bytes_eq-Decides a b _ refl

pub same_value-Decides : (one other : Value) → Decides (same_value one other) (one ≡ other)
same_value-Decides Empty Empty = (λ t. refl, λ e. refl)
same_value-Decides (Text a) (Text b) = let d = bytes_eq-Decides a b in (λ t. ap Text (d.0 t), λ e. d.1 (cc))
same_value-Decides (Number a) (Number b) = let d = Decides-int_eq a b in (λ t. ap Number (d.0 t), λ e. d.1 (cc))
same_value-Decides (Choice a) (Choice b) = let d = same_choice a b in (λ t. ap Choice (d.0 t), λ e. d.1 (cc))
same_value-Decides (User a) (User b) = let d = same_user a b in (λ t. ap User (d.0 t), λ e. d.1 (cc))
same_value-Decides (Date a) (Date b) = let d = same_day a b in (λ t. ap Date (d.0 t), λ e. d.1 (cc))
same_value-Decides (Set a) (Set b) = let d = same_set a b in (λ t. ap Set (d.0 t), λ e. d.1 (cc))
same_value-Decides (Labels a) (Labels b) = let d = same_labels a b in (λ t. ap Labels (d.0 t), λ e. d.1 (cc))
same_value-Decides (Sprint a) (Sprint b) = let d = same_sprint a b in (λ t. ap Sprint (d.0 t), λ e. d.1 (cc))
same_value-Decides _ _ = (λ t. cc, λ e. cc)

same_bits : (a b : Bool) → (a ≡ true → b ≡ true) → (b ≡ true → a ≡ true) → a ≡ b
same_bits true b f g = sym (f refl)
same_bits false true f g = g refl
same_bits false false f g = refl

pub same_is : (r : Bool) (one other : Value) → (IsTrue r ↔ (one ≡ other)) → r ≡ same_value one other
same_is r one other h =
    let d = same_value-Decides one other in
    same_bits r (same_value one other) (λ t. d.1 (h.0 t)) (λ t. h.1 (d.0 t))
