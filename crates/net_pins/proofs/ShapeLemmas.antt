-- Shapes on layers of TYPE ROUTING or CUT.
use Rattle.std.proofs.Common.{◌≡◌, Bool, true, false, ◌||◌, List, [], ◌∷◌, ◌++◌, filter, refl, ap, ◌∙◌, if◌then◌else◌}
use Rattle.std.specs.Option.{option_map}
use Rattle.std.proofs.lemmas.List.Elements.{filter_map-append}
use Rattle.lef_grammar.specs.Definitions.{Layer}
use Rattle.lef_grammar.specs.Measures.{Shape, place_among}
use Rattle.wire_rules.specs.ViaShapes.{NamedShape}
use Rattle.connection_rules.specs.PinShapes.{checked, checked_named, is_checked, on_place, placed_among}
use Rattle.connection_rules.specs.Terminals.{is_some_shape}

filter_first : (b : Bool) (test : Shape → Bool) (x : Shape) (xs ys : List Shape) → (if b then x ∷ (filter test xs ++ filter test ys) else filter test xs ++ filter test ys) ≡ (if b then x ∷ filter test xs else filter test xs) ++ filter test ys
filter_first true test x xs ys = refl
filter_first false test x xs ys = refl

pub filter_both : (test : Shape → Bool) (xs ys : List Shape) → filter test (xs ++ ys) ≡ filter test xs ++ filter test ys
filter_both test [] ys = refl
filter_both test (x ∷ xs) ys = ap (λ (zs : List Shape). if test x then x ∷ zs else zs) (filter_both test xs ys) ∙ filter_first (test x) test x xs ys

pub checked_both : (layers : List Layer) (xs ys : List NamedShape) → checked_named layers (xs ++ ys) ≡ checked_named layers xs ++ checked_named layers ys
checked_both layers xs ys =
    ap (checked layers) (filter_map-append (λ (s : NamedShape). option_map (on_place s.box) (place_among layers s.layer)) xs ys)
    ∙ filter_both (λ s. is_checked layers s.layer) (placed_among layers xs) (placed_among layers ys)

pub some_in_both : (xs ys : List Shape) → is_some_shape (xs ++ ys) ≡ (is_some_shape xs || is_some_shape ys)
some_in_both [] ys = refl
some_in_both (x ∷ xs) ys = refl
