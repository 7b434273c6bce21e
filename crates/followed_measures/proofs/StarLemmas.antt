-- A net that lists a pin of all components, of which the pins by one are exchanged.
use Rattle.std.proofs.Common.{◌≡◌, ◌∙◌, ℕ, Bool, true, false, not, List, [], ◌∷◌, ◌++◌, append-nil, filter, map, Option, Some, None, refl, sym, ap, ap₂, subst, arith, sum_by, if◌then◌else◌}
use Rattle.std.specs.Prelude.{flat_map}
use Rattle.std.specs.Option.{option_map}
use Rattle.std.proofs.lemmas.List.{map-append}
use Rattle.std.proofs.lemmas.List.Sums.{sum_by-append, sum_by-cons}
use Rattle.design_model.specs.Geometry.{Rectangle}
use Rattle.def_grammar.specs.Records.{Record}
use Rattle.lef_grammar.specs.Library.{Library}
use Rattle.lef_grammar.specs.Measures.{Shape}
use Rattle.connection_rules.specs.NetLines.{NetShape, shapes_of_net, shapes_of_part}
use Rattle.connection_rules.specs.NetParts.{Net, Part, net_named}
use Rattle.design_rules.specs.Boxes.{scale}
use Rattle.kept_nets.specs.Parts.{shapes_in}
use Rattle.line_laws.specs.Lines.{SameThings}
use Rattle.line_laws.proofs.SameSums.{maps_are_same}
use Rattle.measure_rules.specs.Lengths.{is_net, length_of}
use Rattle.measure_rules.specs.NetBoxes.{box_round, rectangles_of}
use Rattle.measuring_laws.specs.Measuring.{LengthsAreTold}
use Rattle.measuring_laws.proofs.FoundNets.{net_is_found}
use Rattle.net_laws.specs.NetsTold.{is_of_net}
use Rattle.net_laws.specs.OneNet.{TellNet}
use Rattle.net_laws.specs.StarNets.{AgreeBut, OneComponentExchanged, EntriesTell, PinsAreExchanged, pins_by_one}
use Rattle.reports.specs.Answers.{Answers, box_in, length_in}
use Rattle.reports.specs.Exchanges.{NetExchanged}
use Rattle.followed_nets.specs.StarHeads.{PinShapes}
use Rattle.followed_measures.specs.Bounds.{BoxFollows, boxes_in}
use Rattle.followed_measures.specs.Exchanging.{AwaitsStar}
use Rattle.followed_measures.specs.ExchangedNets.{HasNet, NetsExchanged, nets_of, shapes_of}
use Rattle.followed_measures.proofs.BoxLemmas.{box_in_any_order}
use Rattle.followed_measures.proofs.ExchangeLemmas.{exchange_of_one}

abbrev box_of : Shape → Rectangle
box_of s = s.box

-- the shapes of a net are those of its parts
of_one_part : (n : Net) (p : Part) (ss : List Shape) → map (λ (s : NetShape). s.shape) (map (λ (s : Shape). record { net = n.name; is_power = n.is_power; is_drawn = not p.is_pin; shape = s }) ss) ≡ ss
of_one_part n p [] = refl
of_one_part n p (s ∷ ss) = ap (λ (l : List Shape). s ∷ l) (of_one_part n p ss)

of_parts : (n : Net) (ps : List Part) → map (λ (s : NetShape). s.shape) (flat_map (shapes_of_part n) ps) ≡ shapes_in ps
of_parts n [] = refl
of_parts n (p ∷ ps) =
    map-append (λ (s : NetShape). s.shape) (shapes_of_part n p) (flat_map (shapes_of_part n) ps)
    ∙ ap₂ (λ (a b : List Shape). a ++ b) (of_one_part n p p.shapes) (of_parts n ps)

pub net_shapes : (library : Library) (design : List Record) (name : List ℕ) → shapes_of (nets_of library design (name ∷ [])) ≡ shapes_in (net_named library design (scale design) name).parts
net_shapes library design name =
    let n = net_named library design (scale design) name in
    ap (map (λ (s : NetShape). s.shape)) (append-nil (shapes_of_net n)) ∙ of_parts n n.parts

-- parts in another order have the same shapes
module _ (w : Shape → ℕ) where
  abbrev part_sum : Part → ℕ
  part_sum p = sum_by w p.shapes

  by_parts : (ps : List Part) → sum_by w (shapes_in ps) ≡ sum_by part_sum ps
  by_parts [] = refl
  by_parts (p ∷ ps) = omega (arith, sum_by-append w p.shapes (shapes_in ps), by_parts ps, sum_by-cons part_sum p ps)

pub parted_shapes : (all some stay : List Part) → SameThings all (some ++ stay) → SameThings (shapes_in all) (shapes_in some ++ shapes_in stay)
parted_shapes all some stay same = record {
  sums = λ w.
      omega (arith, same.sums (part_sum w), by_parts w all, by_parts w some, by_parts w stay, sum_by-append (part_sum w) some stay, sum_by-append w (shapes_in some) (shapes_in stay));
}

boxed : (all some stay : List Shape) → SameThings all (some ++ stay) → box_round (boxes_in all) ≡ box_round (boxes_in some ++ boxes_in stay)
boxed all some stay same =
    box_in_any_order (boxes_in all) (boxes_in (some ++ stay)) (maps_are_same Shape Rectangle box_of all (some ++ stay) same)
    ∙ ap box_round (map-append box_of some stay)

-- what is found of a net, where there is one
long_if : (there : Bool) (long here : ℕ) → (if there then Some long else None) ≡ Some here → (there ≡ true) × (long ≡ here)
long_if true long here is = (refl, cc)
long_if false long here is = absurd (cc)

box_if : (there : Bool) (n : Net) (bounds : Option Rectangle) → option_map (λ (m : Net). box_round (rectangles_of m)) (if there then Some n else None) ≡ Some bounds → there ≡ true → box_round (rectangles_of n) ≡ bounds
box_if true n bounds is t = cc
box_if false n bounds is t = absurd (cc)

module _ (library : Library) (old new : List Record) (name component : List ℕ) (lengths_told : LengthsAreTold) (exchange : OneComponentExchanged) (tells : EntriesTell) (agree : AgreeBut old new name component) (scales : scale old ≡ scale new)
    (entry : Record) (others : List Record) (entries : filter (is_of_net name) old ≡ entry ∷ others) where
  pub tell : (some : List Record) × TellNet some old name
  tell = tells old name entry others entries

  pub then_tell : (some : List Record) × TellNet some new name
  then_tell = tells new name entry others (sym agree.entries ∙ entries)

  pub as_long : length_of library new (scale new) name ≡ length_of library old (scale old) name
  as_long = ap (λ (u : ℕ). length_of library new u name) (sym scales) ∙ sym (lengths_told library old new (scale old) name agree.common agree.entries).length

  pub pins : PinsAreExchanged library old new (scale old) name component
  pins = exchange library old new (scale old) name component agree

  abbrev gone : List Shape
  gone = shapes_in (pins_by_one library old (scale old) name component)

  abbrev come : List Shape
  come = shapes_in (pins_by_one library new (scale new) name component)

  abbrev stay : List Shape
  stay = shapes_in pins.stay

  old_parted : SameThings (shapes_in (net_named library old (scale old) name).parts) (gone ++ stay)
  old_parted = parted_shapes (net_named library old (scale old) name).parts (pins_by_one library old (scale old) name component) pins.stay pins.exchange.old_is

  new_parted : SameThings (shapes_in (net_named library new (scale new) name).parts) (come ++ stay)
  new_parted =
      subst (λ (u : ℕ). SameThings (shapes_in (net_named library new u name).parts) (shapes_in (pins_by_one library new u name component) ++ stay)) scales
      (parted_shapes (net_named library new (scale old) name).parts (pins_by_one library new (scale old) name component) pins.stay pins.exchange.new_is)

  -- the box that is found by that which was there
  module _ (a : Answers) (had : HasNet library old a name) (length : ℕ) (was : Option Rectangle) (length_is : length_in a name ≡ Some length) (box_is : box_in a name ≡ Some was) where
    there : (is_net library old (scale old) name ≡ true) × (length_of library old (scale old) name ≡ length)
    there = long_if (is_net library old (scale old) name) (length_of library old (scale old) name) length (sym had.net_length ∙ length_is)

    pub was_box : was ≡ box_round (boxes_in gone ++ boxes_in stay)
    was_box =
        sym (box_if (is_net library old (scale old) name) (net_named library old (scale old) name) was
        (ap (option_map (λ (m : Net). box_round (rectangles_of m))) (sym (net_is_found library old (scale old) name)) ∙ sym had.net_box ∙ box_is) there.0)
        ∙ boxed (shapes_in (net_named library old (scale old) name).parts) gone stay old_parted

    pub exchange_of_star : (bounds : Option Rectangle) → BoxFollows (boxes_in gone) (boxes_in come) was bounds → (b : Answers) → NetExchanged name length length gone come bounds a b
        → NetsExchanged library old new (name ∷ []) a b
    exchange_of_star bounds after b e =
        exchange_of_one library old new name length length gone come stay bounds a b e tell then_tell (sym there.1) (sym there.1 ∙ sym as_long)
        (after (boxes_in stay) was_box ∙ sym (boxed (shapes_in (net_named library new (scale new) name).parts) come stay new_parted))
        (subst (λ (ss : List Shape). SameThings ss (gone ++ stay)) (sym (net_shapes library old name)) old_parted)
        (subst (λ (ss : List Shape). SameThings ss (come ++ stay)) (sym (net_shapes library new name)) new_parted)

-- one that awaits its exchange
pub star_told : (library : Library) (old new : List Record) (component : List ℕ) (lengths_told : LengthsAreTold) (exchange : OneComponentExchanged) (tells : EntriesTell) (before after : PinShapes) (a : Answers)
    → AwaitsStar library old new component before after a → after.name ≡ before.name → (length : ℕ) (was bounds : Option Rectangle) → length_in a before.name ≡ Some length → box_in a before.name ≡ Some was
    → BoxFollows (boxes_in before.shapes) (boxes_in after.shapes) was bounds → (b : Answers) → NetExchanged before.name length length before.shapes after.shapes bounds a b → NetsExchanged library old new (before.name ∷ []) a b
star_told library old new component lengths_told exchange tells before after a awaits same length was bounds length_is box_is follows b e =
    let name = before.name in
    let goes : before.shapes ≡ shapes_in (pins_by_one library old (scale old) name component) = awaits.goes.shapes_are in
    let comes : after.shapes ≡ shapes_in (pins_by_one library new (scale new) name component) = awaits.comes.shapes_are ∙ ap (λ (n : List ℕ). shapes_in (pins_by_one library new (scale new) n component)) same in
    exchange_of_star library old new name component lengths_told exchange tells (awaits.agree name) awaits.scales awaits.goes.entry awaits.goes.others awaits.goes.entries a awaits.had length was length_is box_is bounds
    (subst (λ (ss : List Shape). BoxFollows (boxes_in ss) (boxes_in (shapes_in (pins_by_one library new (scale new) name component))) was bounds) goes (subst (λ (ss : List Shape). BoxFollows (boxes_in before.shapes) (boxes_in ss) was bounds) comes follows))
    b
    (subst (λ (ss : List Shape). NetExchanged name length length ss (shapes_in (pins_by_one library new (scale new) name component)) bounds a b) goes (subst (λ (ss : List Shape). NetExchanged name length length before.shapes ss bounds a b) comes e))
