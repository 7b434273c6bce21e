-- What the statements that tell a net say of its measures.
use Rattle.std.proofs.Common.{◌≡◌, ◌∙◌, ◌<◌, ◌^◌, ℕ, List, [], ◌∷◌, map, Option, refl, sym, ap, arith}
use Rattle.design_model.specs.Geometry.{Rectangle}
use Rattle.def_grammar.specs.Records.{Record}
use Rattle.lef_grammar.specs.Library.{Library}
use Rattle.lef_grammar.specs.Measures.{Shape}
use Rattle.connection_rules.specs.NetLines.{NetShape, shapes_of_net}
use Rattle.connection_rules.specs.NetParts.{Net, net_named, net_names}
use Rattle.design_rules.specs.Boxes.{scale}
use Rattle.drawn_parts.specs.DrawnLengths.{capped}
use Rattle.measure_laws.specs.LengthLaws.{NoneIsLonger}
use Rattle.measure_rules.specs.Lengths.{length_of, total_length}
use Rattle.measure_rules.specs.NetBoxes.{box_round, rectangles_of}
use Rattle.measuring_laws.specs.Measuring.{LengthsAreTold}
use Rattle.net_laws.specs.OneNet.{IsNetTold, OneNetIsTold, TellNet}
use Rattle.reports.specs.NetMeasures.{AreOfNet}
use Rattle.followed_measures.specs.Told.{IsNetIn}

-- what one thing is made of is one thing
one_made : {A B : Type 0} (make : A → B) (xs : List A) (y : B) → map make xs ≡ y ∷ [] → (x : A) × (xs ≡ x ∷ []) × (make x ≡ y)
one_made make [] y h = absurd (cc)
one_made make (x ∷ []) y h = (x, refl, cc)
one_made make (x ∷ z ∷ xs) y h = absurd (cc)

not_capped : (n : ℕ) → n < 2 ^ 64 → capped n ≡ n
not_capped n h = omega (arith, h)

module _ (one : OneNetIsTold) (lengths : LengthsAreTold) (longer : NoneIsLonger) (library : Library) (some design : List Record) (name : List ℕ) (tell : TellNet some design name) where
  told : IsNetTold library some design name
  told = one library some design name tell

  only : (n : List ℕ) × (net_names library some (scale some) ≡ n ∷ []) × (net_named library some (scale some) n ≡ net_named library design (scale design) name)
  only = one_made (net_named library some (scale some)) (net_names library some (scale some)) (net_named library design (scale design) name) told.nets

  same_name : only.0 ≡ name
  same_name = ap (λ (n : Net). n.name) only.2

  -- it is the only net of the statements,
  names_are : net_names library some (scale some) ≡ name ∷ []
  names_are = only.1 ∙ ap (λ (n : List ℕ). n ∷ []) same_name

  -- and the same as in the design
  same_net : net_named library some (scale some) name ≡ net_named library design (scale design) name
  same_net = ap (net_named library some (scale some)) (sym same_name) ∙ only.2

  same_length : length_of library some (scale some) name ≡ length_of library design (scale design) name
  same_length = (lengths library some design (scale some) name tell.agree.common tell.agree.entries).length ∙ ap (λ (u : ℕ). length_of library design u name) told.same_scale

  is_short : total_length library design (scale design) < 2 ^ 64 → length_of library design (scale design) name < 2 ^ 64
  is_short fits = let l = longer library design (scale design) name in omega (arith, l, fits)

  pub told_so : (length : ℕ) (shapes : List Shape) (bounds : Option Rectangle) → total_length library design (scale design) < 2 ^ 64
      → ((n : List ℕ) → net_names library some (scale some) ≡ n ∷ [] → AreOfNet (net_named library some (scale some) n) (capped (length_of library some (scale some) n)) length shapes bounds)
      → IsNetIn library design (record { name = name; net_length = length; shapes = shapes; bounds = bounds })
  told_so length shapes bounds fits are =
      let mine = are name names_are in
      record {
        some = some;
        tell = tell;
        length_is = mine.length_is ∙ ap capped same_length ∙ not_capped (length_of library design (scale design) name) (is_short fits);
        shapes_are = mine.shapes_are ∙ ap (λ (n : Net). map (λ (s : NetShape). s.shape) (shapes_of_net n)) same_net;
        bounds_are = mine.bounds_are ∙ ap (λ (n : Net). box_round (rectangles_of n)) same_net;
      }
