-- What is told of an edit.
use Rattle.std.proofs.Common.{◌≡◌, ◌∙◌, ℕ, Bool, true, false, if◌then◌else◌, List, [], ◌∷◌, ◌++◌, filter, map, Option, Some, None, refl, sym, ap, ap₂, subst}
use Rattle.std.specs.List.{AllByRecursion, cons_option, filter_map}
use Rattle.std.specs.Option.{option_map, option_to_list}
use Rattle.form_meanings.specs.Words.{◌>>=◌}
use Rattle.design_model.specs.Geometry.{Rectangle}
use Rattle.design_model.specs.declared.mode.Section.TheVariants.{Components}
use Rattle.def_grammar.specs.Components.{Component}
use Rattle.def_grammar.specs.Located.{is_entry}
use Rattle.def_grammar.specs.Records.{Record, component_of, entry_of}
use Rattle.lef_grammar.specs.Library.{Library}
use Rattle.design_rules.specs.Boxes.{Boxed, box_of, component_box, scale}
use Rattle.measuring_laws.specs.Measuring.{own_boxes}
use Rattle.net_laws.specs.NetsTold.{is_common}
use Rattle.net_laws.specs.StarNets.{those_named}
use Rattle.net_laws.specs.Within.{NoOtherLists, a_component}
use Rattle.reports.specs.Densities.{box_shape, box_shapes}
use Rattle.followed_nets.specs.Listed.{AreApart}
use Rattle.followed_nets.specs.Noted.{tells_any}
use Rattle.followed_nets.specs.StarHeads.{AreAllListing, ArePinShapes, PinShapes, pin_names}
use Rattle.followed_nets.proofs.TellLemmas.{commons_in}
use Rattle.followed_nets.proofs.TellOneLemmas.{theirs}
use Rattle.followed_nets.proofs.ToldNets.{none_lists}
use Rattle.followed_measures.specs.Told.{IsNetIn, IsToldIn, ToldNet, told_names}
use Rattle.followed_measures.proofs.FollowLemmas.{same_scale}

module _ (library : Library) (design : List Record) where
  pub nothing_told : IsToldIn library design (record { nets = []; component = None; bounds = None; stars = [] })
  nothing_told = record { nets_are = tt; apart = tt; lists = none_lists design []; box_is = refl; pins_are = refl }

  pub net_told : (nets : List ToldNet) (net : List ℕ) → told_names nets ≡ net ∷ [] → AllByRecursion (IsNetIn library design) nets → IsToldIn library design (record { nets = nets; component = None; bounds = None; stars = [] })
  net_told nets net named are = record {
    nets_are = are;
    apart = subst (λ (ns : List (List ℕ)). AreApart (ns ++ [])) (sym named) (refl, tt);
    lists = none_lists design (told_names nets ++ []);
    box_is = refl;
    pins_are = refl;
  }

  pub component_told : (nets : List ToldNet) (component : List ℕ) (bounds : Option Rectangle) (stars : List PinShapes) (names heads : List (List ℕ)) → told_names nets ≡ names → pin_names stars ≡ heads → AreAllListing design component names heads
      → AllByRecursion (IsNetIn library design) nets → ArePinShapes library design component stars → box_shapes bounds ≡ map box_shape (own_boxes library design (Some component))
      → IsToldIn library design (record { nets = nets; component = Some component; bounds = bounds; stars = stars })
  component_told nets component bounds stars names heads named stars_named all are pins box_is =
      let same : names ++ heads ≡ told_names nets ++ pin_names stars = ap₂ (λ (a b : List (List ℕ)). a ++ b) (sym named) (sym stars_named) in
      record {
        nets_are = are;
        apart = subst AreApart same all.apart;
        lists = subst (λ (ns : List (List ℕ)). NoOtherLists design ns (a_component component)) same all.lists;
        box_is = box_is;
        pins_are = pins;
      }

  -- the box of the only component of a name, where it takes part
  boxes_by : (u : ℕ) (o : Option Component) → filter_map (component_box library u) (cons_option o []) ≡ option_to_list (o >>= component_box library u)
  boxes_by u None = refl
  boxes_by u (Some c) = one (component_box library u c)
    where
      one : (b : Option Boxed) → cons_option b [] ≡ option_to_list b
      one None = refl
      one (Some b) = refl

  its_boxes : (u : ℕ) (o : Option Record) → filter_map (component_box library u) (filter_map component_of (option_to_list o)) ≡ option_to_list (o >>= box_of library u)
  its_boxes u None = refl
  its_boxes u (Some r) = boxes_by u (component_of r)

  shapes_by : (b : Option Boxed) (r : Option Rectangle) → option_map (λ (x : Boxed). x.box) b ≡ r → box_shapes r ≡ map box_shape (option_to_list b)
  shapes_by None r is = ap box_shapes (sym is)
  shapes_by (Some b) r is = ap box_shapes (sym is)

  pub own_box : (component : List ℕ) (entry : Option Record) (u : ℕ) (r : Option Rectangle) → u ≡ scale design → option_to_list entry ≡ filter (λ r. is_entry Components component (entry_of r)) design
      → option_map (λ (x : Boxed). x.box) (entry >>= box_of library u) ≡ r → box_shapes r ≡ map box_shape (own_boxes library design (Some component))
  own_box component entry u r scaled found is =
      shapes_by (entry >>= box_of library u) r is
      ∙ ap (map box_shape) (
      sym (its_boxes u entry)
      ∙ ap (λ (rs : List Record). filter_map (component_box library u) (filter_map component_of rs)) found
      ∙ ap (filter_map (component_box library u)) (theirs component design)
      ∙ ap (λ (v : ℕ). filter_map (component_box library v) (those_named component design)) scaled)

-- what is read whichever net is told tells the scale
pub common_scale : (some design : List Record) → some ≡ filter tells_any design → scale some ≡ scale design
common_scale some design are = same_scale some design (ap (filter is_common) are ∙ commons_in design)
