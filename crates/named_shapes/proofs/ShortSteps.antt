-- The lines of shapes with those of a set, shape by shape.
use Rattle.std.proofs.Common.{◌≡◌, ◌∙◌, ◌<◌, ◌≤◌, ◌+◌, ℕ, List, ◌∷◌, ◌++◌, sym, ap, arith, drop, get_or, length, map, subst}
use Rattle.std.specs.Prelude.{flat_map}
use Rattle.std.proofs.lemmas.List.{append-nil, drop_all, drop_more}
use Rattle.design_model.specs.Families.{cross_lines}
use Rattle.line_laws.specs.Lines.{SameLines}
use Rattle.line_laws.proofs.PairSums.{times-append}
use Rattle.connection_rules.specs.NetLines as net_lines
use Rattle.net_lists.specs.PartCuts.{shape_view}
use Rattle.net_lists.specs.declared.parts.NetShape.{NetShape}
use Rattle.named_shapes.specs.Named.{named}

abbrev Lines : Type 0
Lines = List (List ℕ)

module _ (compare : net_lines.NetShape → net_lines.NetShape → Lines) (net : List ℕ) (others : List net_lines.NetShape) where
  -- the lines of shapes of a net with others
  abbrev pub crossing : List NetShape → Lines
  crossing shapes = cross_lines compare (map (named net) (map shape_view shapes)) others

  one_crossed : (one : NetShape) (rest : List NetShape) (before now all : Lines) → SameLines now (before ++ flat_map (compare (named net (shape_view one))) others)
      → SameLines (before ++ crossing (one ∷ rest)) all → SameLines (now ++ crossing rest) all
  one_crossed one rest before now all put h = record {
    often = λ q.
        let mine = flat_map (compare (named net (shape_view one))) others in
        let a = put.often q in
        let b = h.often q in
        omega (arith, a, b, times-append q before mine, times-append q now (crossing rest), times-append q before (crossing (one ∷ rest)), times-append q mine (crossing rest));
  }

  pub next_crossed : (shapes : List NetShape) (i : ℕ) (x : NetShape) (before now all : Lines) → i < length shapes → x ≡ get_or shapes i x → SameLines now (before ++ flat_map (compare (named net (shape_view x))) others)
      → SameLines (before ++ crossing (drop i shapes)) all → SameLines (now ++ crossing (drop (i + 1) shapes)) all
  next_crossed shapes i x before now all below is put h =
      let left = drop_more shapes i x below ∙ ap (λ (y : NetShape). y ∷ drop (i + 1) shapes) (sym is) in
      one_crossed x (drop (i + 1) shapes) before now all put (subst (λ (l : List NetShape). SameLines (before ++ crossing l) all) left h)

  pub all_crossed : (shapes : List NetShape) (i : ℕ) (now all : Lines) → length shapes ≤ i → SameLines (now ++ crossing (drop i shapes)) all → SameLines now all
  all_crossed shapes i now all past h =
      subst (λ (ls : Lines). SameLines ls all) (ap (λ (l : List NetShape). now ++ crossing l) (drop_all i shapes past) ∙ append-nil now) h
