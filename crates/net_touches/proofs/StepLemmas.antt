-- Steps of loops over things.
use Rattle.std.proofs.Common.{◌≡◌, ◌+◌, ◌<◌, ◌≤◌, ℕ, List, [], ◌∷◌, ◌++◌, length, get_or, drop, map, refl, sym, ap, ap₂, ◌∙◌, arith, append_assoc, Option, Some, None, IfSome, is_some, nat_lt, slice_get}
use Rattle.std.specs.Option.{option_map}
use Rattle.std.specs.Borrow.{Bor}
use Rattle.std.proofs.lemmas.List.{drop_more, map-append}
use Rattle.std.proofs.lemmas.Option.{slice_get-get_or, slice_get-map, slice_get_past, slice_get_read}
use Rattle.design_model.specs.Views.{rectangle_of}
use Rattle.shape_pairs.specs.declared.pairs.Numbered.{Numbered}
use Rattle.net_touches.specs.declared.thing.Thing.{Thing}
use Rattle.net_touches.specs.Things as things
use Rattle.net_touches.specs.Things.{box_of}
use Rattle.net_touches.specs.ThingViews.{seen, seen_at, thing_view}

-- what is pushed goes from those left to those put in
pub pushed : {X Y Z : Type 0} (f : Y → Z) (g : X → Z) (ys : List Y) (y : Y) (xs : List X) (i : ℕ) (x : X) (all : List Z) → i < length xs → x ≡ get_or xs i x → f y ≡ g x
    → map f ys ++ map g (drop i xs) ≡ all → map f (ys ++ y ∷ []) ++ map g (drop (i + 1) xs) ≡ all
pushed {Z = Z} f g ys y xs i x all low at same so_far =
    let next : drop i xs ≡ x ∷ drop (i + 1) xs = drop_more xs i x low ∙ ap (λ e. e ∷ drop (i + 1) xs) (sym at) in
    ap (λ (zs : List Z). zs ++ map g (drop (i + 1) xs)) (map-append f ys (y ∷ []))
    ∙ append_assoc (map f ys) (f y ∷ []) (map g (drop (i + 1) xs))
    ∙ ap (λ (z : Z). map f ys ++ z ∷ map g (drop (i + 1) xs)) same
    ∙ ap (λ l. map f ys ++ map g l) (sym next)
    ∙ so_far

map_twice : {X Y Z : Type 0} (f : Y → Z) (g : X → Y) (xs : List X) → map (λ x. f (g x)) xs ≡ map f (map g xs)
map_twice f g [] = refl
map_twice f g (x ∷ xs) = ap (λ zs. f (g x) ∷ zs) (map_twice f g xs)

-- the rectangle of a thing, with its place
pub is_seen : (xs : List Thing) (i : ℕ) (x : Thing) (n : Numbered) → i < length xs → x ≡ get_or xs i x → n.id ≡ i → rectangle_of n.rect ≡ box_of (thing_view x) → seen_at (map thing_view xs) n ≡ seen (thing_view x)
is_seen xs i x n low at place box =
    let there : slice_get (map thing_view xs) i ≡ Some (thing_view x) = slice_get-map thing_view xs i ∙ ap (option_map thing_view) (slice_get-get_or xs i x low ∙ ap (λ e. Some e) (sym at)) in
    ap₂ (λ (a : Option things.Thing) b. (a, b)) (ap (λ k. slice_get (map thing_view xs) k) place ∙ there) box

pub all_seen : (xs : List Thing) → map (λ x. seen (thing_view x)) xs ≡ map seen (map thing_view xs)
all_seen xs = map_twice seen thing_view xs

-- what is found at a place
pub found : (xs : List Thing) (i : ℕ) (r : Option (Bor Thing)) → is_some r ≡ nat_lt i (length xs) → IfSome r (λ x. x.now ≡ get_or xs i x.now) → option_map (λ x. thing_view x.now) r ≡ slice_get (map thing_view xs) i
found xs i None there at =
    let past : length xs ≤ i = grind (arith, there) in
    sym (slice_get-map thing_view xs i ∙ ap (option_map thing_view) (slice_get_past xs i past))
found xs i (Some x) there at =
    let low : i < length xs = grind (arith, there) in
    sym (slice_get-map thing_view xs i ∙ ap (option_map thing_view) (slice_get_read xs (length xs) i x.now refl low at))
