-- The net of a design that has entries of one net alone.
use Rattle.std.proofs.Common.{◌≡◌, ◌∙◌, ℕ, List, [], ◌∷◌, append-nil, length, map, flat_map, slice_get, Option, Some, sym, ap, arith}
use Rattle.std.proofs.lemmas.List.{length-map}
use Rattle.design_model.specs.Geometry.{Rectangle}
use Rattle.def_grammar.specs.Records.{Record}
use Rattle.lef_grammar.specs.Library.{Library}
use Rattle.lef_grammar.specs.Measures.{Shape}
use Rattle.connection_rules.specs.NetLines.{shapes_of_net}
use Rattle.connection_rules.specs.NetParts.{Net, all_nets, net_named, net_names}
use Rattle.drawn_parts.specs.DrawnLengths.{capped}
use Rattle.measure_rules.specs.Lengths.{length_of}
use Rattle.measure_rules.specs.NetBoxes.{box_round}
use Rattle.name_groups.specs.Groups.{Group}
use Rattle.net_lists.specs.PartCuts.{shape_view}
use Rattle.net_lists.specs.declared.parts.NetShape.{NetShape}
use Rattle.net_lists.proofs.ShapeLemmas.{bare}
use Rattle.net_entries.specs.NetEntries.{HasEntries, wired_group}
use Rattle.net_entries.specs.declared.lent_entry.LentEntry.{LentEntry}
use Rattle.design_nets.specs.NetGroups.{length_of_group, net_of_group}
use Rattle.design_nets.proofs.NetLemmas.{lengths_by_groups, nets_by_groups}
use Rattle.reports.specs.MeasuredNets.{shape_box}
use Rattle.reports.specs.NetMeasures.{AreOfNet}
use Rattle.reports.proofs.MeasuredSteps.{rectangles_are}

-- shapes of a net, and the box round them
pub are_measures : (n : Net) (ss : List NetShape) → map shape_view ss ≡ map bare (flat_map shapes_of_net (n ∷ [])) → (long net_length : ℕ) (bounds : Option Rectangle) → net_length ≡ long → bounds ≡ box_round (map shape_box ss) → AreOfNet n long net_length (map shape_view ss) bounds
are_measures n ss seen long net_length bounds length_is round = record {
  length_is = length_is;
  shapes_are = seen ∙ ap (map bare) (append-nil (shapes_of_net n));
  bounds_are = round ∙ ap box_round (rectangles_are n ss seen);
}

-- the first of one
one_only : {A : Type 0} (xs : List A) (x : A) → length xs ≡ 1 → slice_get xs 0 ≡ Some x → xs ≡ x ∷ []
one_only [] x one is = absurd (omega (arith, one))
one_only (y ∷ []) x one is = ap (λ (z : _). z ∷ []) (cc)
one_only (y ∷ z ∷ xs) x one is = absurd (omega (arith, one))

-- Groups of entries are as many as there are nets.
module _ (library : Library) (design : List Record) (u : ℕ) (groups : List (Group LentEntry)) (has : HasEntries groups design) where
  abbrev one_net : Group LentEntry → Net
  one_net g = net_of_group library design u (wired_group library design u g)

  nets_are : map (net_of_group library design u) (map (wired_group library design u) groups) ≡ all_nets library design u
  nets_are = ap (map (net_of_group library design u)) (has.wired library design u) ∙ nets_by_groups library design u

  pub as_many : length groups ≡ length (net_names library design u)
  as_many =
      let n = ap length nets_are in
      sym (length-map groups (wired_group library design u))
      ∙ sym (length-map (map (wired_group library design u) groups) (net_of_group library design u))
      ∙ n
      ∙ length-map (net_names library design u) (net_named library design u)

  -- where there is one, it is that of its entries
  module _ (g : Group LentEntry) (one : length groups ≡ 1) (first : slice_get groups 0 ≡ Some g) (name : List ℕ) (only : net_names library design u ≡ name ∷ []) where
    alone : groups ≡ g ∷ []
    alone = one_only groups g one first

    same_net : one_net g ≡ net_named library design u name
    same_net =
        let here : one_net g ∷ [] ≡ net_named library design u name ∷ [] =
        ap (λ (gs : List (Group LentEntry)). map (net_of_group library design u) (map (wired_group library design u) gs)) (sym alone) ∙ nets_are ∙ ap (map (net_named library design u)) only in
        cc

    same_length : length_of_group (wired_group library design u g) ≡ capped (length_of library design u name)
    same_length =
        let here : length_of_group (wired_group library design u g) ∷ [] ≡ capped (length_of library design u name) ∷ [] =
        ap (λ (gs : List (Group LentEntry)). map length_of_group (map (wired_group library design u) gs)) (sym alone)
        ∙ ap (map length_of_group) (has.wired library design u)
        ∙ lengths_by_groups library design u
        ∙ ap (map (λ (n : List ℕ). capped (length_of library design u n))) only in
        cc

    pub measures_are : (net_length : ℕ) (shapes : List Shape) (bounds : Option Rectangle) → AreOfNet (one_net g) (length_of_group (wired_group library design u g)) net_length shapes bounds
        → AreOfNet (net_named library design u name) (capped (length_of library design u name)) net_length shapes bounds
    measures_are net_length shapes bounds are = rw (same_net, same_length) at are
