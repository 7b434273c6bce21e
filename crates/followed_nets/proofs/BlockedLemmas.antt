-- The lines of nets with rectangles where routing is blocked are those of the nets that have shapes there.
use Rattle.std.proofs.Common.{◌≡◌, ◌∙◌, ◌≤◌, ◌+◌, ℕ, Bool, true, false, not, ◌&&◌, ◌||◌, ◌==◌, cond, List, [], ◌∷◌, ◌++◌, filter, map, sum_by, Option, Some, None, refl, sym, ap, ap₂, arith, subst, if◌then◌else◌}
use Rattle.std.specs.Prelude.{IfSome, flat_map}
use Rattle.std.specs.List.{AllByRecursion, list_any}
use Rattle.std.specs.Str.{bytes_eq}
use Rattle.std.proofs.lemmas.List.{map-append}
use Rattle.std.proofs.lemmas.List.Folds.{list_any-append}
use Rattle.std.proofs.lemmas.List.Sums.{sum_by-append, sum_by-cons}
use Rattle.design_model.specs.Families.{cross_lines}
use Rattle.def_grammar.specs.Records.{Record}
use Rattle.lef_grammar.specs.Library.{Library}
use Rattle.lef_grammar.specs.Measures.{Shape}
use Rattle.shape_rules.specs.Meeting.{meets}
use Rattle.connection_rules.specs.NetLines.{Barrier, NetShape, layer_name, routeblock_of, shapes_of_net, shapes_of_part}
use Rattle.connection_rules.specs.NetParts.{Net, Part, all_nets, net_named, net_names}
use Rattle.connection_rules.specs.PartClasses.{touch}
use Rattle.design_rules.specs.Boxes.{scale}
use Rattle.line_laws.specs.Lines.{SameLines, SameThings, times}
use Rattle.line_laws.proofs.PairSums.{times-flat_map}
use Rattle.named_shapes.specs.Named.{by_name, shapes_by_name}
use Rattle.named_shapes.specs.Touching.{AreTouching, touches_one}
use Rattle.net_laws.specs.NetChanges.{ToldNetsAreExchanged, is_one_of}
use Rattle.net_laws.specs.NetExchanges.{nets_where}
use Rattle.net_touches.specs.Things.{barrier, shape_of_net}
use Rattle.net_touches.proofs.LineLemmas.{apart_none, layers_none}
use Rattle.followed_nets.specs.Blocked.{AllTell, barred_lines}
use Rattle.followed_nets.specs.Listed.{AreApart}
use Rattle.followed_nets.specs.Stars.{AreStars, IsStar}
use Rattle.followed_nets.specs.Tests.{bar_shape}
use Rattle.followed_nets.proofs.FollowLemmas.{apart_tell}
use Rattle.followed_nets.proofs.PieceLemmas.{sum_named}
use Rattle.followed_nets.proofs.WithinLemmas.{agrees}

none_of_both : (b c : Bool) → (b || c) ≡ false → (b ≡ false) × (c ≡ false)
none_of_both true c h = absurd (cc)
none_of_both false c h = (refl, h)

sum-flat : (w : NetShape → ℕ) (ns : List Net) → sum_by w (flat_map shapes_of_net ns) ≡ sum_by (λ (n : Net). sum_by w (shapes_of_net n)) ns
sum-flat w [] = refl
sum-flat w (n ∷ ns) =
    let r = sum-flat w ns in
    omega (arith, r, sum_by-append w (shapes_of_net n) (flat_map shapes_of_net ns), sum_by-cons (λ (m : Net). sum_by w (shapes_of_net m)) n ns)

-- a shape that doesn't touch a rectangle has no line with it
module _ (name_of : ℕ → List ℕ) (s : NetShape) where
  apart_by : (b : Barrier) (l : Bool) → (s.shape.layer == b.layer) ≡ l → (l && meets s.shape.box b.box) ≡ false → routeblock_of name_of s b ≡ []
  apart_by b true same h = apart_none name_of (shape_of_net s) (barrier b) h
  apart_by b false other h = layers_none name_of (shape_of_net s) (barrier b) other

  none_barred : (bars : List Barrier) → touches_one (map bar_shape bars) s.shape ≡ false → flat_map (routeblock_of name_of s) bars ≡ []
  none_barred [] h = refl
  none_barred (b ∷ bars) h =
      let both = none_of_both (touch s.shape (bar_shape b)) (touches_one (map bar_shape bars) s.shape) h in
      ap₂ (λ (x y : List (List ℕ)). x ++ y) (apart_by b (s.shape.layer == b.layer) refl both.0) (none_barred bars both.1)

-- Each shape that touches some rectangles is of a net with one of these names: those of other nets have no lines with them.
module _ (name_of : ℕ → List ℕ) (names : List (List ℕ)) (all bars : List Barrier) (among : (s : Shape) → touches_one (map bar_shape all) s ≡ false → touches_one (map bar_shape bars) s ≡ false) (q : List ℕ) where
  abbrev other : NetShape → ℕ
  other s = cond (touches_one (map bar_shape all) s.shape && not (is_one_of names s.net)) 1 0

  abbrev barred : NetShape → ℕ
  barred s = times q (flat_map (routeblock_of name_of s) bars)

  by_touch : (s : NetShape) (t : Bool) → touches_one (map bar_shape all) s.shape ≡ t → ◌≡◌ {A = ℕ} (cond (t && true) 1 0) 0 → barred s ≡ 0
  by_touch s true is none = absurd (cc)
  by_touch s false is none = ap (times q) (none_barred name_of s bars (among s.shape is))

  one_apart : (s : NetShape) → is_one_of names s.net ≡ false → other s ≡ 0 → barred s ≡ 0
  one_apart s out none = by_touch s (touches_one (map bar_shape all) s.shape) refl (ap (λ (b : Bool). cond (touches_one (map bar_shape all) s.shape && not b) 1 0) (sym out) ∙ none)

  in_part : (n : Net) (pin : Bool) (ss : List Shape) → is_one_of names n.name ≡ false → sum_by other (shapes_of_part n (record { is_pin = pin; shapes = ss })) ≡ 0
      → sum_by barred (shapes_of_part n (record { is_pin = pin; shapes = ss })) ≡ 0
  in_part n pin [] out none = refl
  in_part n pin (s ∷ ss) out none =
      let own : NetShape = record { net = n.name; is_power = n.is_power; is_drawn = not pin; shape = s } in
      let rest = shapes_of_part n (record { is_pin = pin; shapes = ss }) in
      let split = sum_by-cons other own rest in
      let here = one_apart own out (omega (arith, none, split)) in
      let later = in_part n pin ss out (omega (arith, none, split)) in
      omega (arith, here, later, sum_by-cons barred own rest)

  in_parts : (n : Net) (ps : List Part) → is_one_of names n.name ≡ false → sum_by other (flat_map (shapes_of_part n) ps) ≡ 0 → sum_by barred (flat_map (shapes_of_part n) ps) ≡ 0
  in_parts n [] out none = refl
  in_parts n (p ∷ ps) out none =
      let rest = flat_map (shapes_of_part n) ps in
      let split = sum_by-append other (shapes_of_part n p) rest in
      let here = in_part n p.is_pin p.shapes out (omega (arith, none, split)) in
      let later = in_parts n ps out (omega (arith, none, split)) in
      omega (arith, here, later, sum_by-append barred (shapes_of_part n p) rest)

  module _ (library : Library) (design : List Record) where
    abbrev net_of : List ℕ → Net
    net_of name = net_named library design (scale design) name

    abbrev weigh : (NetShape → ℕ) → Net → ℕ
    weigh w n = sum_by w (shapes_of_net n)

    one_other : (name : List ℕ) (b : Bool) (left : List (List ℕ)) → is_one_of names name ≡ b → sum_by (weigh other) (map net_of (if not b then name ∷ left else left)) ≡ 0
        → (sum_by (weigh other) (map net_of left) ≡ 0 → sum_by (weigh barred) (map net_of left) ≡ 0) → sum_by (weigh barred) (map net_of (if not b then name ∷ left else left)) ≡ 0
    one_other name true left is none later = later none
    one_other name false left is none later =
        let split = sum_by-cons (weigh other) (net_of name) (map net_of left) in
        let here = in_parts (net_of name) (net_of name).parts is (omega (arith, none, split)) in
        let rest = later (omega (arith, none, split)) in
        omega (arith, here, rest, sum_by-cons (weigh barred) (net_of name) (map net_of left))

    others_apart : (ns : List (List ℕ)) → sum_by (weigh other) (map net_of (filter (λ (n : List ℕ). not (is_one_of names n)) ns)) ≡ 0
        → sum_by (weigh barred) (map net_of (filter (λ (n : List ℕ). not (is_one_of names n)) ns)) ≡ 0
    others_apart [] none = refl
    others_apart (n ∷ ns) none = one_other n (is_one_of names n) (filter (λ (m : List ℕ). not (is_one_of names m)) ns) refl none (others_apart ns)

    sum_own : (ns : List (List ℕ)) → sum_by (weigh barred) (map net_of ns) ≡ times q (flat_map (barred_lines name_of library design bars) ns)
    sum_own [] = refl
    sum_own (n ∷ ns) =
        let later = sum_own ns in
        let here = times-flat_map q (λ (s : NetShape). flat_map (routeblock_of name_of s) bars) (shapes_of_net (net_of n)) in
        omega (
          arith,
          later,
          here,
          sum_by-cons (weigh barred) (net_of n) (map net_of ns),
          times-flat_map q (barred_lines name_of library design bars) (n ∷ ns),
          times-flat_map q (barred_lines name_of library design bars) ns,
          sum_by-cons (λ (m : List ℕ). times q (barred_lines name_of library design bars m)) n ns,
        )

    module _ (law : ToldNetsAreExchanged) (apart : AreApart names) (tell : AllTell design names) (shapes : List NetShape) (touching : AreTouching shapes (map bar_shape all) names)
        (kept : SameThings shapes (shapes_by_name (all_nets library design (scale design)))) where
      abbrev whole : List Net
      whole = all_nets library design (scale design)

      abbrev stay : List Net
      stay = nets_where library design (scale design) (λ (n : List ℕ). not (is_one_of names n))

      parts : SameThings whole (map net_of names ++ stay)
      parts = (law library design design names (agrees design (is_one_of names)) (apart_tell design names apart tell) (apart_tell design names apart tell)).exchange.old_is

      none_other : sum_by (weigh other) whole ≡ 0
      none_other = sym (sum-flat other whole) ∙ sym (sum_named other (flat_map shapes_of_net whole)) ∙ sym (kept.sums other) ∙ touching.no_other

      stay_apart : sum_by (weigh barred) stay ≡ 0
      stay_apart =
          let none = none_other in
          let split = parts.sums (weigh other) in
          let both = sum_by-append (weigh other) (map net_of names) stay in
          others_apart (net_names library design (scale design)) (omega (arith, none, split, both))

      pub often_near : times q (cross_lines (routeblock_of name_of) (flat_map shapes_of_net whole) bars) ≡ times q (flat_map (barred_lines name_of library design bars) names)
      often_near =
          let all_lines = times-flat_map q (λ (s : NetShape). flat_map (routeblock_of name_of s) bars) (flat_map shapes_of_net whole) in
          let by_nets = sum-flat barred whole in
          let split = parts.sums (weigh barred) in
          let none = stay_apart in
          let own = sum_own names in
          omega (arith, all_lines, by_nets, split, none, own, sum_by-append (weigh barred) (map net_of names) stay)

-- a shape that touches none of two lists of rectangles touches none of either
pub touches_neither : (gone come : List Barrier) (s : Shape) → touches_one (map bar_shape gone ++ map bar_shape come) s ≡ false → (touches_one (map bar_shape gone) s ≡ false) × (touches_one (map bar_shape come) s ≡ false)
touches_neither gone come s h =
    none_of_both (touches_one (map bar_shape gone) s) (touches_one (map bar_shape come) s) (sym (list_any-append (λ (o : Shape). touch s o) (map bar_shape gone) (map bar_shape come)) ∙ h)

-- the lines of all nets are those of the nets near
module _ (name_of : ℕ → List ℕ) (library : Library) (design : List Record) (law : ToldNetsAreExchanged) (names : List (List ℕ)) (gone come : List Barrier) (apart : AreApart names) (tell : AllTell design names)
    (shapes : List NetShape) (touching : AreTouching shapes (map bar_shape gone ++ map bar_shape come) names) (kept : SameThings shapes (shapes_by_name (all_nets library design (scale design)))) (lines : List (List ℕ)) where
  abbrev all_shapes : List NetShape
  all_shapes = flat_map shapes_of_net (all_nets library design (scale design))

  both : map bar_shape gone ++ map bar_shape come ≡ map bar_shape (gone ++ come)
  both = sym (map-append bar_shape gone come)

  touch_both : AreTouching shapes (map bar_shape (gone ++ come)) names
  touch_both = subst (λ (some : List Shape). AreTouching shapes some names) both touching

  neither : (s : Shape) → touches_one (map bar_shape (gone ++ come)) s ≡ false → (touches_one (map bar_shape gone) s ≡ false) × (touches_one (map bar_shape come) s ≡ false)
  neither s h = touches_neither gone come s (ap (λ (some : List Shape). touches_one some s) both ∙ h)

  pub lines_of_gone : SameLines lines (flat_map (barred_lines name_of library design gone) names) → SameLines lines (cross_lines (routeblock_of name_of) all_shapes gone)
  lines_of_gone are = record { often = λ q. are.often q ∙ sym (often_near name_of names (gone ++ come) gone (λ s h. (neither s h).0) q library design law apart tell shapes touch_both kept) }

  pub lines_of_come : SameLines lines (flat_map (barred_lines name_of library design come) names) → SameLines lines (cross_lines (routeblock_of name_of) all_shapes come)
  lines_of_come are = record { often = λ q. are.often q ∙ sym (often_near name_of names (gone ++ come) come (λ s h. (neither s h).1) q library design law apart tell shapes touch_both kept) }

-- nets that are kept with their parts
pub kept_stars : (library : Library) (design : List Record) (stars : Option (List Net)) → IfSome stars (AreStars library design) → IfSome stars (AllByRecursion (IsStar library design))
kept_stars library design None are = tt
kept_stars library design (Some stars) are = are.kept
