-- The answers on a design where some nets and the box of a component were exchanged.
use Rattle.std.proofs.Common.{◌≡◌, ◌∙◌, ℕ, Bool, true, false, List, [], ◌∷◌, ◌++◌, map, Option, Some, refl, sym, ap, subst, arith, if◌then◌else◌}
use Rattle.std.specs.Prelude.{filter}
use Rattle.std.proofs.lemmas.List.{map-append}
use Rattle.design_model.specs.Geometry.{Rectangle}
use Rattle.def_grammar.specs.Records.{Record}
use Rattle.lef_grammar.specs.Library.{Library}
use Rattle.lef_grammar.specs.Measures.{Shape}
use Rattle.connection_rules.specs.NetParts.{all_nets, net_named}
use Rattle.design_rules.specs.Boxes.{Boxed, boxes, scale}
use Rattle.line_laws.specs.Lines.{SameThings}
use Rattle.line_laws.proofs.SameSums.{maps_are_same}
use Rattle.measure_rules.specs.GridCells.{columns, rows}
use Rattle.measure_rules.specs.Lengths as lengths
use Rattle.measure_rules.specs.NetBoxes as net_boxes
use Rattle.measure_rules.specs.Lengths.{length_of}
use Rattle.measure_rules.specs.NetBoxes.{box_round, rectangles_of}
use Rattle.measuring_laws.specs.Measuring.{CellsFollow, MeasuresFollow, ToldCellsFollow, ToldMeasuresFollow, is_of_cells, own_boxes}
use Rattle.net_laws.specs.NetChanges.{AgreeApart, AreToldIn, ToldExchange, ToldNetsAreExchanged, is_one_of}
use Rattle.cell_sums.specs.Tables.{CellTable}
use Rattle.reports.specs.Answers.{Answers, ReportsOn, box_in, length_in}
use Rattle.reports.specs.Densities.{HoldsDensities, box_shape, box_shapes}
use Rattle.reports.specs.Exchanges.{ComponentExchanged}
use Rattle.reports.specs.MeasuredNets.{MeasuredNet, name_of}
use Rattle.reports.proofs.CellAnswers.{reports_on}
use Rattle.reports.proofs.DensitySteps.{exchanged_from}
use Rattle.reports.proofs.ExchangeSteps.{nets_exchanged}
use Rattle.form_meanings.specs.Firsts.{find_named}
use Rattle.std.specs.Option.{option_map}
use Rattle.followed_nets.specs.Blocked.{AllTell}
use Rattle.followed_nets.specs.Listed.{AreApart}
use Rattle.followed_measures.specs.ExchangedNets.{NetsExchanged, nets_of, shapes_of}

-- names of which none stands twice, each of a net that is told
told_apart : (design : List Record) (names : List (List ℕ)) → AreApart names → AllTell design names → AreToldIn design names
told_apart design [] apart tell = tt
told_apart design (n ∷ names) apart tell = (apart.0, tell.0, told_apart design names apart.1 tell.1)

either : {B : Type 0} (mine others now : B) (t : Bool) → (t ≡ true → now ≡ mine) → (t ≡ false → now ≡ others) → (if t then mine else others) ≡ now
either mine others now true own other = sym (own refl)
either mine others now false own other = sym (other refl)

module _ (library : Library) (old new : List Record) (names : List (List ℕ)) (but : Option (List ℕ)) (a b c : Answers) (gone come : Option Rectangle) (follow : ToldMeasuresFollow) (exchanged : ToldNetsAreExchanged) (cells_follow : ToldCellsFollow)
    (apart : AgreeApart old new (is_one_of names)) (once : AreApart names) (same_cells : filter (is_of_cells but) old ≡ filter (is_of_cells but) new) (had : ReportsOn library old a) (made : NetsExchanged library old new names a b)
    (placed : ComponentExchanged gone come b c) (gone_is : box_shapes gone ≡ map box_shape (own_boxes library old but)) (come_is : box_shapes come ≡ map box_shape (own_boxes library new but)) where
  told : AreToldIn old names
  told = told_apart old names once made.tell

  then_told : AreToldIn new names
  then_told = told_apart new names once made.then_tell

  measures : MeasuresFollow library old new names
  measures = follow library old new names apart told then_told

  nets : ToldExchange library old new names
  nets = exchanged library old new names apart told then_told

  same : CellsFollow library old new but
  same = cells_follow library old new but same_cells nets.scales

  in_new_cells : (shapes : List Shape) (t : CellTable) → HoldsDensities (columns old) (rows old) shapes t → HoldsDensities (columns new) (rows new) shapes t
  in_new_cells shapes t held = rw (← same.columns, ← same.rows) held

  cells_then : HoldsDensities (columns new) (rows new) (shapes_of (all_nets library new (scale new))) b.cells
  cells_then =
      nets_exchanged (all_nets library old (scale old)) (all_nets library new (scale new)) (nets_of library old names) (nets_of library new names) _
      nets.exchange.old_is nets.exchange.new_is a.cells b.cells made.cells (columns new) (rows new) (in_new_cells (shapes_of (all_nets library old (scale old))) a.cells had.cells)

  beside : (all own : List Boxed) (o : Option Rectangle) → box_shapes o ≡ map box_shape own → SameThings all (own ++ same.stay) → SameThings (map box_shape all) (box_shapes o ++ map box_shape same.stay)
  beside all own o is parted =
      subst (SameThings (map box_shape all)) (map-append box_shape own same.stay ∙ ap (λ (ss : List Shape). ss ++ map box_shape same.stay) (sym is))
      (maps_are_same Boxed Shape box_shape all (own ++ same.stay) parted)

  places_then : HoldsDensities (columns new) (rows new) (map box_shape (boxes library new)) c.place_cells
  places_then =
      exchanged_from (box_shapes gone) (box_shapes come) b.place_cells c.place_cells placed.place_cells (columns new) (rows new) (map box_shape (boxes library old)) (map box_shape (boxes library new)) (map box_shape same.stay)
      (beside (boxes library old) (own_boxes library old but) gone gone_is same.boxes.old_is)
      (beside (boxes library new) (own_boxes library new but) come come_is same.boxes.new_is)
      (subst (λ (t : CellTable). HoldsDensities (columns new) (rows new) (map box_shape (boxes library old)) t) (sym made.place_cells) (in_new_cells (map box_shape (boxes library old)) a.place_cells had.place_cells))

  same_length : (n : List ℕ) → length_in c n ≡ length_in b n
  same_length n = ap (λ (ns : List MeasuredNet). option_map (λ (m : MeasuredNet). m.net_length) (find_named name_of ns n)) placed.nets

  same_box : (n : List ℕ) → box_in c n ≡ box_in b n
  same_box n = ap (λ (ns : List MeasuredNet). option_map (λ (m : MeasuredNet). m.net_box) (find_named name_of ns n)) placed.nets

  pub reports_then : ReportsOn library new c
  reports_then =
      reports_on library new c
      (λ n. same_length n
      ∙ made.net_length n
      ∙ either (Some (length_of library new (scale new) n)) (length_in a n) (lengths.net_length library new (scale new) n) (is_one_of names n)
      (λ own. measures.own_length n own)
      (λ other. measures.lengths n other ∙ sym (had.net_length n)))
      (λ n. same_box n
      ∙ made.net_box n
      ∙ either (Some (box_round (rectangles_of (net_named library new (scale new) n)))) (box_in a n) (net_boxes.net_box library new (scale new) n) (is_one_of names n)
      (λ own. measures.own_box n own)
      (λ other. measures.boxes n other ∙ sym (had.net_box n)))
      (omega (arith, placed.total_length, made.total_length, measures.total, had.total_length))
      (placed.layers ∙ made.layers ∙ had.layers)
      (subst (λ (t : CellTable). HoldsDensities (columns new) (rows new) (shapes_of (all_nets library new (scale new))) t) (sym placed.cells) cells_then)
      places_then
