-- What was measured follows an edit that left all but what was told before it.
use Rattle.std.proofs.Common.{◌≡◌, ◌∙◌, ℕ, Bool, true, false, ◌||◌, List, [], ◌∷◌, ◌++◌, append-nil, filter, map, Option, Some, None, refl, sym, ap, subst}
use Rattle.std.specs.Prelude.{IfSome}
use Rattle.std.specs.List.{AllByRecursion}
use Rattle.std.specs.Str.{bytes_eq}
use Rattle.std.proofs.lemmas.Slice.Eq.{bytes_eq-Decides}
use Rattle.design_model.specs.Geometry.{Rectangle}
use Rattle.form_meanings.specs.Words.{first}
use Rattle.def_grammar.specs.Records.{Record, top, units_of}
use Rattle.def_grammar.specs.Top.{units}
use Rattle.lef_grammar.specs.Library.{Library}
use Rattle.design_rules.specs.Boxes.{scale, units_or_1}
use Rattle.measuring_laws.specs.Measuring.{ToldCellsFollow, ToldMeasuresFollow, is_of_cells, own_boxes}
use Rattle.net_laws.specs.NetChanges.{AgreeApart, ToldNetsAreExchanged, is_one_of}
use Rattle.net_laws.specs.NetsTold.{is_common}
use Rattle.net_laws.specs.StarNets.{AgreeBut}
use Rattle.net_laws.specs.Within.{a_component, neither, pin_in}
use Rattle.net_laws.proofs.Selecting.{selected_alike}
use Rattle.reports.specs.Answers.{Answers, ReportsOn}
use Rattle.reports.specs.Densities.{box_shape, box_shapes}
use Rattle.reports.specs.Exchanges.{ComponentExchanged}
use Rattle.followed_nets.specs.Heads.{Head}
use Rattle.followed_nets.specs.Listed.{AreApart}
use Rattle.followed_nets.specs.StarHeads.{AreStarHeads, ArePinShapes, PinShapes, head_names, pin_names}
use Rattle.followed_nets.specs.Touched.{subject_by}
use Rattle.followed_nets.specs.Within.{Leaves}
use Rattle.followed_nets.proofs.StarHeadLemmas.{star_heads_stay}
use Rattle.followed_measures.specs.Exchanging.{AwaitsStars}
use Rattle.followed_measures.specs.ExchangedNets.{NetsExchanged}
use Rattle.followed_measures.specs.Told.{IsToldIn, ToldNet, told_names}
use Rattle.followed_measures.proofs.ExchangeLemmas.{exchange_of_more, exchange_of_none}
use Rattle.followed_measures.proofs.ReportLemmas.{reports_then}

-- no component is exchanged
none_placed : (a : Answers) → ComponentExchanged None None a a
none_placed a = record { layers = refl; nets = refl; total_length = refl; cells = refl; place_cells = record { holds = λ columns rows rest held. held } }

-- an edit of a component, or of none, is of no pin
pub of_no_pin : (component : Option (List ℕ)) → pin_in (subject_by component None) ≡ None
of_no_pin None = refl
of_no_pin (Some c) = refl

-- a net of which there is a head is none of those that no head is of
not_one : (names : List (List ℕ)) (hs : List Head) → AllByRecursion (λ (h : Head). is_one_of names h.name ≡ false) hs → (net : List ℕ) → is_one_of (head_names hs) net ≡ true → is_one_of names net ≡ false
not_one names [] others net there = absurd (cc)
not_one names (h ∷ hs) others net there = either (bytes_eq h.name net) refl there (λ later. not_one names hs others.1 net later)
  where
    either : (b : Bool) → bytes_eq h.name net ≡ b → (b || is_one_of (head_names hs) net) ≡ true → (is_one_of (head_names hs) net ≡ true → is_one_of names net ≡ false) → is_one_of names net ≡ false
    either true is g later = ap (is_one_of names) (sym ((bytes_eq-Decides h.name net).0 is)) ∙ others.0
    either false is g later = later g

-- designs that agree on what any net may be made of are of one scale
no_units : (r : Record) → is_common r ≡ false → units_of r ≡ None
no_units (top (units n)) h = absurd (cc)
no_units _ h = refl

pub same_scale : (a b : List Record) → filter is_common a ≡ filter is_common b → scale a ≡ scale b
same_scale a b common = ap (λ (ns : List (List ℕ)). units_or_1 (first ns)) (selected_alike is_common units_of no_units a b common)

-- names behind others
later : (xs ys : List (List ℕ)) → AreApart (xs ++ ys) → AreApart ys
later [] ys apart = apart
later (x ∷ xs) ys apart = later xs ys apart.1

-- heads of nets stay where a component is edited
pub heads_then : (old new : List Record) (component : List ℕ) → Leaves old new [] (a_component component) → (hs : List Head) → AreStarHeads old hs → AreStarHeads new hs
heads_then old new component leaves hs are = star_heads_stay old new hs (λ net there. (leaves.but component net refl refl).entries) leaves.no_stars are

module _ (library : Library) (old new : List Record) (follow : ToldMeasuresFollow) (exchanged : ToldNetsAreExchanged) (cells_follow : ToldCellsFollow) (nets : List ToldNet) where
  -- an edit of nets alone
  module _ (is_told : IsToldIn library old (record { nets = nets; component = None; bounds = None; stars = [] })) (names : List (List ℕ)) (named : names ≡ told_names nets) (leaves : Leaves old new names neither)
      (same_cells : filter (is_of_cells None) old ≡ filter (is_of_cells None) new) where
    nets_apart : AgreeApart old new (is_one_of (told_names nets))
    nets_apart =
        subst (λ (ns : List (List ℕ)). AgreeApart old new (is_one_of ns)) (append-nil (told_names nets))
        (leaves.apart (told_names nets ++ []) (λ net there. ap (λ (ns : List (List ℕ)). is_one_of ns net) (append-nil (told_names nets) ∙ sym named) ∙ there) is_told.lists).0

    pub nets_followed : (a b : Answers) → ReportsOn library old a → NetsExchanged library old new (told_names nets) a b → ReportsOn library new b
    nets_followed a b had made =
        reports_then library old new (told_names nets) None a b b None None follow exchanged cells_follow nets_apart
        (subst AreApart (append-nil (told_names nets)) is_told.apart) same_cells had made (none_placed b) refl refl

    pub heads_of_others : (hs : List Head) → AllByRecursion (λ (h : Head). is_one_of names h.name ≡ false) hs → AreStarHeads old hs → AreStarHeads new hs
    heads_of_others hs others are =
        star_heads_stay old new hs
        (λ net there. (nets_apart.agree net (ap (λ (ns : List (List ℕ)). is_one_of ns net) (sym named) ∙ not_one names hs others net there)).entries)
        leaves.no_stars are

    pub all_of_others : (noted : Option (List Head)) → IfSome noted (AllByRecursion (λ (h : Head). is_one_of names h.name ≡ false)) → IfSome noted (AreStarHeads old) → IfSome noted (AreStarHeads new)
    all_of_others None others are = tt
    all_of_others (Some hs) others are = heads_of_others hs others are

    -- where there are none
    pub nothing_exchanged : nets ≡ [] → (a : Answers) → NetsExchanged library old new (told_names nets) a a
    nothing_exchanged none a = subst (λ (ns : List ToldNet). NetsExchanged library old new (told_names ns) a a) (sym none) (exchange_of_none library old new a)

  -- an edit of a component
  module _ (component : List ℕ) (bounds : Option Rectangle) (stars : List PinShapes) (is_told : IsToldIn library old (record { nets = nets; component = Some component; bounds = bounds; stars = stars })) (leaves : Leaves old new [] (a_component component))
      (same_cells : filter (is_of_cells (Some component)) old ≡ filter (is_of_cells (Some component)) new) where
    agree : (net : List ℕ) → AgreeBut old new net component
    agree net = leaves.but component net refl refl

    pub awaits : (after : List PinShapes) (a : Answers) → ReportsOn library old a → ArePinShapes library new component after → AwaitsStars library old new component stars after a
    awaits after a had come = record {
      had = λ name. record { net_length = had.net_length name; net_box = had.net_box name };
      agree = agree;
      scales = same_scale old new (agree []).common;
      go = is_told.pins_are;
      come = come;
      apart = later (told_names nets) (pin_names stars) is_told.apart;
    }

    pub component_followed : (a b c d : Answers) (come : Option Rectangle) → ReportsOn library old a → NetsExchanged library old new (pin_names stars) a b → NetsExchanged library old new (told_names nets) b c → ComponentExchanged bounds come c d
        → box_shapes come ≡ map box_shape (own_boxes library new (Some component)) → ReportsOn library new d
    component_followed a b c d come had first next placed come_is =
        reports_then library old new (told_names nets ++ pin_names stars) (Some component) a c d bounds come follow exchanged cells_follow
        (leaves.apart (told_names nets ++ pin_names stars) (λ net there. absurd (cc)) is_told.lists).0
        is_told.apart same_cells had (exchange_of_more library old new (pin_names stars) (told_names nets) a b c first next) placed is_told.box_is come_is
