-- Lists of bytes, and what is asked of lists of plain values.
--
--   any_map       == some image passes a test where some element passes it behind the map
--   names_joined  == words put together, and then as bytes
use Rattle.std.proofs.Common.{◌≡◌, Bool, ◌||◌, List, [], ◌∷◌, ◌++◌, map, ap, refl, ◌∙◌}
use Rattle.std.specs.List.{flat_map, list_any}
use Rattle.std.proofs.lemmas.Grind.{flat_map-append}

pub any_map : {X Y : Type 0} → (f : Y → Bool) (g : X → Y) (xs : List X) → list_any f (map g xs) ≡ list_any (λ x. f (g x)) xs
any_map f g [] = refl
any_map f g (x ∷ xs) = ap (λ b. f (g x) || b) (any_map f g xs)

pub names_joined : {X Y Z W : Type 0} → (h : Z → List W) (f : Y → List Z) (g : X → Y) (xs : List X)
    → flat_map h (flat_map f (map g xs)) ≡ flat_map (λ x. flat_map h (f (g x))) xs
names_joined h f g [] = refl
names_joined h f g (x ∷ xs) =
    flat_map-append h (f (g x)) (flat_map f (map g xs)) ∙ ap (λ ys. flat_map h (f (g x)) ++ ys) (names_joined h f g xs)
