-- The lines of shapes of nets that touch those of others.
use Rattle.std.proofs.Common.{◌≡◌, ◌∙◌, ℕ, List, [], ◌∷◌, ◌++◌, map, refl, sym, ap, ap₂}
use Rattle.std.specs.Prelude.{flat_map}
use Rattle.design_model.specs.Families.{cross_lines}
use Rattle.connection_rules.specs.NetLines.{NetShape, short_of}
use Rattle.line_laws.specs.Lines.{SameThings, times}
use Rattle.line_laws.specs.PairLaws.{IsSymmetric}
use Rattle.line_laws.proofs.PairSums.{sum_by-same, times-flat_map}
use Rattle.named_shapes.specs.Named.{by_name}
use Rattle.net_queries.specs.ShortLaws.{ShortIsSymmetric}

pub no_crosses : {A B : Type 0} (f : A → B → List (List ℕ)) (xs : List A) → cross_lines f xs [] ≡ []
no_crosses f [] = refl
no_crosses f (x ∷ xs) = no_crosses f xs

module _ (name_of : ℕ → List ℕ) where
  abbrev short : NetShape → NetShape → List (List ℕ)
  short = short_of name_of

  -- a line of two shapes tells their nets' names and nothing else of these
  one_by_name : (x : NetShape) (ys : List NetShape) → flat_map (short (by_name x)) (map by_name ys) ≡ flat_map (short x) ys
  one_by_name x [] = refl
  one_by_name x (y ∷ ys) = ap (λ (ls : List (List ℕ)). short x y ++ ls) (one_by_name x ys)

  pub by_names : (xs ys : List NetShape) → cross_lines short (map by_name xs) (map by_name ys) ≡ cross_lines short xs ys
  by_names [] ys = refl
  by_names (x ∷ xs) ys = ap₂ (λ (a b : List (List ℕ)). a ++ b) (one_by_name x ys) (by_names xs ys)

  -- the lines of shapes with others don't hang on the order of these
  pub in_any_order : (q : List ℕ) (xs ys zs : List NetShape) → SameThings ys zs → times q (cross_lines short xs ys) ≡ times q (cross_lines short xs zs)
  in_any_order q xs ys zs same =
      times-flat_map q (λ (x : NetShape). flat_map (short x) ys) xs
      ∙ sum_by-same (λ (x : NetShape). times q (flat_map (short x) ys)) (λ (x : NetShape). times q (flat_map (short x) zs))
      (λ x. times-flat_map q (short x) ys ∙ same.sums (λ (y : NetShape). times q (short x y)) ∙ sym (times-flat_map q (short x) zs)) xs
      ∙ sym (times-flat_map q (λ (x : NetShape). flat_map (short x) zs) xs)

pub same_shorts : ShortIsSymmetric → (name_of : ℕ → List ℕ) → IsSymmetric (short_of name_of)
same_shorts symmetric name_of x y = record { often = λ q. ap (times q) (symmetric name_of x y) }
