-- The shapes of the nets of a list, gathered net by net.
use Rattle.std.proofs.Common.{◌≡◌, ◌∙◌, ℕ, not, List, [], ◌∷◌, ◌++◌, length, map, Some, refl, sym, ap, ap₂, append_assoc, arith, sum_by, slice_get}
use Rattle.std.specs.Prelude.{flat_map}
use Rattle.std.proofs.lemmas.List.{append-nil, map-append}
use Rattle.std.proofs.lemmas.List.Elements.{filter_map-append}
use Rattle.std.proofs.lemmas.List.Sums.{sum_by-append}
use Rattle.lef_grammar.specs.Measures.{Shape}
use Rattle.line_laws.specs.Lines.{SameThings}
use Rattle.connection_rules.specs.NetLines as net_lines
use Rattle.connection_rules.specs.NetLines.{shapes_of_net, shapes_of_part}
use Rattle.connection_rules.specs.NetParts.{Net, Part}
use Rattle.net_lists.specs.Counts.{shape_count}
use Rattle.net_lists.specs.NetViews.{net_view}
use Rattle.net_lists.specs.PartCuts.{shape_view}
use Rattle.net_lists.specs.declared.net_view.NetView.{NetView}
use Rattle.net_lists.specs.declared.parts.NetShape.{NetShape}
use Rattle.net_lists.proofs.ShapeLemmas.{shapes_in, shapes_in_parts}
use Rattle.shape_index.specs.declared.shape.Shape.{Shape as Stored}
use Rattle.placed_shapes.specs.Placed.{placed_shape, stored}
use Rattle.named_shapes.specs.Named.{HaveNames, by_name, named, named_by, named_shapes, shapes_by_name}
use Rattle.named_shapes.proofs.NamedLists.{have_as, have_more, have_with_more, more_names, named_as, with_name}

-- two lists, whichever comes first
turned : {A : Type 0} (xs ys : List A) → SameThings (xs ++ ys) (ys ++ xs)
turned xs ys = record { sums = λ w. omega (arith, sum_by-append w xs ys, sum_by-append w ys xs) }

-- of some nets these are the shapes but for those of the nets that are left
pub record Gathered (names : List (List ℕ)) (shapes : List Stored) (left all : List Net) : Type 0 where
  pub gathered : named_shapes names (map placed_shape shapes) ++ shapes_by_name left ≡ shapes_by_name all
  pub have : HaveNames names (map placed_shape shapes)

pub none_gathered : (all : List Net) → Gathered [] [] all all
none_gathered all = record { gathered = refl; have = record { none_without = refl } }

placed_alike : (place : ℕ) (ss : List NetShape) → map placed_shape (map (stored place) ss) ≡ map (λ (s : Shape). (place, s)) (map shape_view ss)
placed_alike place [] = refl
placed_alike place (s ∷ ss) = ap (λ (ps : List (ℕ × Shape)). (place, shape_view s) ∷ ps) (placed_alike place ss)

module _ (n : Net) where
  of_part : (ss : List Shape) (p : Part) → map by_name (map (λ (s : Shape). record { net = n.name; is_power = n.is_power; is_drawn = not p.is_pin; shape = s }) ss) ≡ map (named n.name) ss
  of_part [] p = refl
  of_part (s ∷ ss) p = ap (λ (xs : List net_lines.NetShape). named n.name s ∷ xs) (of_part ss p)

  of_parts : (ps : List Part) → map by_name (flat_map (shapes_of_part n) ps) ≡ map (named n.name) (flat_map shapes_in ps)
  of_parts [] = refl
  of_parts (p ∷ ps) =
      map-append by_name (shapes_of_part n p) (flat_map (shapes_of_part n) ps)
      ∙ ap₂ (λ (a b : List net_lines.NetShape). a ++ b) (of_part p.shapes p) (of_parts ps)
      ∙ sym (map-append (named n.name) p.shapes (flat_map shapes_in ps))

own : (v : NetView) → sum_by shape_count v.parts.now ≡ length v.shapes.now → map by_name (shapes_of_net (net_view v)) ≡ map (named v.head.now.name.now) (map shape_view v.shapes.now)
own v whole = of_parts (net_view v) (net_view v).parts ∙ ap (map (named v.head.now.name.now)) (shapes_in_parts v.parts.now v.shapes.now whole)

module _ (names more : List (List ℕ)) (shapes : List Stored) (v : NetView) (left all : List Net) (place : ℕ) (at : slice_get (names ++ more) place ≡ Some v.head.now.name.now)
    (whole : sum_by shape_count v.parts.now ≡ length v.shapes.now) (h : Gathered names shapes (net_view v ∷ left) all) where
  abbrev put : List (ℕ × Shape)
  put = map (λ (s : Shape). (place, s)) (map shape_view v.shapes.now)

  abbrev there : List (ℕ × Shape)
  there = map placed_shape shapes

  both : map placed_shape (shapes ++ map (stored place) v.shapes.now) ≡ there ++ put
  both = map-append placed_shape shapes (map (stored place) v.shapes.now) ∙ ap (λ (ps : List (ℕ × Shape)). there ++ ps) (placed_alike place v.shapes.now)

  put_named : named_shapes (names ++ more) put ≡ map (named v.head.now.name.now) (map shape_view v.shapes.now)
  put_named =
      ap (named_shapes (names ++ more)) (sym (append-nil put))
      ∙ with_name (names ++ more) place v.head.now.name.now at (map shape_view v.shapes.now) []
      ∙ append-nil (map (named v.head.now.name.now) (map shape_view v.shapes.now))

  pub next_gathered : Gathered (names ++ more) (shapes ++ map (stored place) v.shapes.now) left all
  next_gathered = record {
    gathered =
        ap (λ (ss : List net_lines.NetShape). ss ++ shapes_by_name left)
        (ap (named_shapes (names ++ more)) both
        ∙ filter_map-append (named_by (names ++ more)) there put
        ∙ ap₂ (λ (a b : List net_lines.NetShape). a ++ b) (more_names names more there h.have) (put_named ∙ sym (own v whole)))
        ∙ append_assoc (named_shapes names there) (map by_name (shapes_of_net (net_view v))) (shapes_by_name left)
        ∙ ap (λ (ss : List net_lines.NetShape). named_shapes names there ++ ss) (sym (map-append by_name (shapes_of_net (net_view v)) (flat_map shapes_of_net left)))
        ∙ h.gathered;
    have = rw both (have_as (names ++ more) (there ++ put) (put ++ there) (turned there put) (have_more (names ++ more) place v.head.now.name.now (map shape_view v.shapes.now) there at (have_with_more names more there h.have)));
  }

pub all_gathered : (names : List (List ℕ)) (shapes : List Stored) (left all : List Net) (placed : List (ℕ × Shape)) → left ≡ [] → Gathered names shapes left all → SameThings placed (map placed_shape shapes)
    → SameThings (named_shapes names placed) (shapes_by_name all) × HaveNames names placed
all_gathered names shapes left all placed none h same =
    let these : named_shapes names (map placed_shape shapes) ≡ shapes_by_name all =
    sym (append-nil (named_shapes names (map placed_shape shapes))) ∙ ap (λ (ns : List Net). named_shapes names (map placed_shape shapes) ++ shapes_by_name ns) (sym none) ∙ h.gathered in
    (rw (← these) (named_as names placed (map placed_shape shapes) same), have_as names placed (map placed_shape shapes) same h.have)
