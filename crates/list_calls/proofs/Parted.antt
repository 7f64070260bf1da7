-- The part of a list that a call asks for, beside what is told of its elements.
use Rattle.std.proofs.Common.{◌≡◌, ◌+◌, List, [], ◌∷◌, map, take, drop, refl, ap, sym, ◌∙◌}
use Rattle.std.proofs.lemmas.List.{take-map, drop-map, drop-take}
use Rattle.change_history.specs.History.{History}
use Rattle.tracker_calls.specs.Part.{part_of}
use Rattle.tracker_calls.specs.declared.call.Part.{Part}

pub part_of-map : {X Y : Type 0} (f : X → Y) (part : Part) (xs : List X) → part_of part (map f xs) ≡ map f (part_of part xs)
part_of-map f part xs = ap (take part.count) (drop-map f part.from xs) ∙ take-map f part.count (drop part.from xs)

pub map-map : {X Y Z : Type 0} (g : Y → Z) (f : X → Y) (xs : List X) → map g (map f xs) ≡ map (λ x. g (f x)) xs
map-map g f [] = refl
map-map g f (x ∷ xs) = ap (λ v. g (f x) ∷ v) (map-map g f xs)

pub keys_of_part : {X : Type 0} (f : X → History) (part : Part) (xs : List X) → map (λ x. (f x).key) (part_of part xs) ≡ map (λ (h : History). h.key) (part_of part (map f xs))
keys_of_part f part xs = sym (map-map (λ (h : History). h.key) f (part_of part xs)) ∙ ap (map (λ (h : History). h.key)) (sym (part_of-map f part xs))

-- lists of which the same stand first, as far as the part reaches
pub part_of_first : {X : Type 0} (part : Part) (xs ys : List X) → take (part.from + part.count) xs ≡ take (part.from + part.count) ys → part_of part xs ≡ part_of part ys
part_of_first part xs ys same = sym (drop-take part.from part.count xs) ∙ ap (drop part.from) same ∙ drop-take part.from part.count ys
