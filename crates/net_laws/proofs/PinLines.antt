-- The lines on nets, of which one has some pins in the place of others.
use Rattle.std.proofs.Common.{◌≡◌, ◌∙◌, ℕ, Bool, true, false, ◌&&◌, not, List, [], ◌∷◌, ◌++◌, map, sum_by, refl, sym, ap, ap₂, arith, subst, if◌then◌else◌}
use Rattle.std.specs.Prelude.{flat_map}
use Rattle.std.specs.List.{list_any}
use Rattle.std.specs.Str.{bytes_eq}
use Rattle.std.proofs.lemmas.List.{append-nil}
use Rattle.std.proofs.lemmas.List.Concat.{flat_map-append}
use Rattle.std.proofs.lemmas.List.Sums.{sum_by-append, sum_by-cons}
use Rattle.std.proofs.lemmas.Slice.Eq.{bytes_eq-Decides}
use Rattle.design_model.specs.Families.{cross_lines, pair_lines}
use Rattle.lef_grammar.specs.Measures.{Shape}
use Rattle.shape_rules.specs.Meeting.{shared}
use Rattle.connection_rules.specs.NetLines.{Barrier, NetShape, class_lines, routeblock_of, shapes_of_net, short_line, short_of}
use Rattle.connection_rules.specs.PartClasses.{touch}
use Rattle.connection_rules.specs.NetParts.{Net, Part}
use Rattle.line_laws.specs.Lines.{SameLines, SameThings, times}
use Rattle.line_laws.proofs.PairSums.{times-append}
use Rattle.following_laws.specs.Following.{Exchange}
use Rattle.following_laws.proofs.FamilyLemmas.{crosses_follow, each_follows, pairs_follow, parts_follow, same_lines_follow}
use Rattle.net_laws.specs.PinLines.{ArePins, PinLinesFollow, lines_of_pins, shapes_of_parts}
use Rattle.net_laws.proofs.Selecting.{none_of_both}

-- the shapes of parts of a net of this name
abbrev shapes_at : List ℕ → Bool → List Part → List NetShape
shapes_at name power ps = flat_map (λ (p : Part). map (λ (s : Shape). record { net = name; is_power = power; is_drawn = not p.is_pin; shape = s }) p.shapes) ps

sum-flat : (name : List ℕ) (power : Bool) (w : NetShape → ℕ) (ps : List Part)
    → sum_by w (shapes_at name power ps) ≡ sum_by (λ (p : Part). sum_by w (map (λ (s : Shape). record { net = name; is_power = power; is_drawn = not p.is_pin; shape = s }) p.shapes)) ps
sum-flat name power w [] = refl
sum-flat name power w (p ∷ ps) =
    let own : List NetShape = map (λ (s : Shape). record { net = name; is_power = power; is_drawn = not p.is_pin; shape = s }) p.shapes in
    let r = sum-flat name power w ps in
    omega (arith, r, sum_by-append w own (shapes_at name power ps), sum_by-cons (λ (p : Part). sum_by w (map (λ (s : Shape). record { net = name; is_power = power; is_drawn = not p.is_pin; shape = s }) p.shapes)) p ps)

-- of parts some go out, and so do their shapes
parted : (name : List ℕ) (power : Bool) (all some stay : List Part) (rest : List NetShape) → SameThings all (some ++ stay)
    → SameThings (shapes_at name power all ++ rest) (shapes_at name power some ++ (shapes_at name power stay ++ rest))
parted name power all some stay rest s = record {
  sums = λ w.
      let v = λ (p : Part). sum_by w (map (λ (s : Shape). record { net = name; is_power = power; is_drawn = not p.is_pin; shape = s }) p.shapes) in
      let h = s.sums v in
      omega (
        arith,
        h,
        sum_by-append v some stay,
        sum_by-append w (shapes_at name power all) rest,
        sum_by-append w (shapes_at name power some) (shapes_at name power stay ++ rest),
        sum_by-append w (shapes_at name power stay) rest,
        sum-flat name power w all,
        sum-flat name power w some,
        sum-flat name power w stay,
      );
}

-- a name is itself
itself : (name : List ℕ) → bytes_eq name name ≡ true
itself name = (bytes_eq-Decides name name).1 refl

module _ (name_of : ℕ → List ℕ) (name : List ℕ) where
  -- all shapes are of the net
  abbrev AreOf : List NetShape → Type 0
  AreOf [] = Unit {0}
  AreOf (s ∷ ss) = (s.net ≡ name) × AreOf ss

  of-append : (xs ys : List NetShape) → AreOf xs → AreOf ys → AreOf (xs ++ ys)
  of-append [] ys f g = g
  of-append (x ∷ xs) ys f g = (f.0, of-append xs ys f.1 g)

  of_part : (power pin : Bool) (ss : List Shape) → AreOf (map (λ (s : Shape). record { net = name; is_power = power; is_drawn = not pin; shape = s }) ss)
  of_part power pin [] = tt
  of_part power pin (s ∷ ss) = (refl, of_part power pin ss)

  of_parts : (power : Bool) (ps : List Part) → AreOf (shapes_at name power ps)
  of_parts power [] = tt
  of_parts power (p ∷ ps) = of-append (map (λ (s : Shape). record { net = name; is_power = power; is_drawn = not p.is_pin; shape = s }) p.shapes) (shapes_at name power ps) (of_part power p.is_pin p.shapes) (of_parts power ps)

  no_short : (a b : NetShape) → a.net ≡ name → b.net ≡ name → short_of name_of a b ≡ []
  no_short a b f g =
      ap (λ (e : Bool). if not e && touch a.shape b.shape then short_line name_of a.net b.net a.shape.layer (shared a.shape.box b.shape.box) ∷ [] else []) (ap₂ bytes_eq f g ∙ itself name)

  no_shorts : (x : NetShape) (ys : List NetShape) → x.net ≡ name → AreOf ys → flat_map (short_of name_of x) ys ≡ []
  no_shorts x [] f g = refl
  no_shorts x (y ∷ ys) f g = ap₂ (λ (a b : List (List ℕ)). a ++ b) (no_short x y f g.0) (no_shorts x ys f g.1)

  no_pairs : (xs : List NetShape) → AreOf xs → pair_lines (short_of name_of) xs ≡ []
  no_pairs [] f = refl
  no_pairs (x ∷ xs) f = ap₂ (λ (a b : List (List ℕ)). a ++ b) (no_shorts x xs f.0 f.1) (no_pairs xs f.1)

  -- pins are no wires
  module _ (power : Bool) (bars : List Barrier) where
    not_barred : (s : Shape) (bs : List Barrier) → flat_map (routeblock_of name_of (record { net = name; is_power = power; is_drawn = false; shape = s })) bs ≡ []
    not_barred s [] = refl
    not_barred s (b ∷ bs) = not_barred s bs

    pin_shapes : (ss : List Shape) → cross_lines (routeblock_of name_of) (map (λ (s : Shape). record { net = name; is_power = power; is_drawn = false; shape = s }) ss) bars ≡ []
    pin_shapes [] = refl
    pin_shapes (s ∷ ss) = ap₂ (λ (a b : List (List ℕ)). a ++ b) (not_barred s bars) (pin_shapes ss)

    crosses-append : (xs ys : List NetShape) → cross_lines (routeblock_of name_of) (xs ++ ys) bars ≡ cross_lines (routeblock_of name_of) xs bars ++ cross_lines (routeblock_of name_of) ys bars
    crosses-append xs ys = flat_map-append (λ (x : NetShape). flat_map (routeblock_of name_of x) bars) xs ys

    part_shapes : (pin : Bool) (ss : List Shape) → not pin ≡ false → cross_lines (routeblock_of name_of) (map (λ (s : Shape). record { net = name; is_power = power; is_drawn = not pin; shape = s }) ss) bars ≡ []
    part_shapes true ss h = pin_shapes ss
    part_shapes false ss h = absurd (cc)

    no_barred : (ps : List Part) → ArePins ps → cross_lines (routeblock_of name_of) (shapes_at name power ps) bars ≡ []
    no_barred [] h = refl
    no_barred (p ∷ ps) h =
        let both = none_of_both (not p.is_pin) (list_any (λ (q : Part). not q.is_pin) ps) h in
        crosses-append (map (λ (s : Shape). record { net = name; is_power = power; is_drawn = not p.is_pin; shape = s }) p.shapes) (shapes_at name power ps)
        ∙ ap₂ (λ (a b : List (List ℕ)). a ++ b) (part_shapes p.is_pin p.shapes both.0) (no_barred ps both.1)

no_crosses : {A B : Type 0} (f : A → B → List (List ℕ)) (xs : List A) → cross_lines f xs [] ≡ []
no_crosses f [] = refl
no_crosses f (x ∷ xs) = no_crosses f xs

-- the lines of the shapes that go, or that come, are those that are told
module _ (name_of : ℕ → List ℕ) (net : Net) (others : List Net) (bars : List Barrier) (pins stay : List Part) (are_pins : ArePins pins) where
  abbrev some : List NetShape
  some = shapes_of_parts net pins

  abbrev rest : List NetShape
  rest = shapes_of_parts net stay ++ flat_map shapes_of_net others

  abbrev short : NetShape → NetShape → List (List ℕ)
  short = short_of name_of

  abbrev barred : NetShape → Barrier → List (List ℕ)
  barred = routeblock_of name_of

  these : SameLines ((pair_lines short some ++ cross_lines short some rest) ++ ((cross_lines barred some bars ++ cross_lines barred rest []) ++ flat_map class_lines (net ∷ []))) (lines_of_pins name_of net pins stay others)
  these = record {
    often = λ q.
        let pairs = ap (times q) (no_pairs name_of net.name some (of_parts name_of net.name net.is_power pins)) in
        let blocks = ap (times q) (no_barred name_of net.name net.is_power bars pins are_pins) in
        let none = ap (times q) (no_crosses barred rest) in
        let classes = ap (times q) (append-nil (class_lines net)) in
        omega (
          arith,
          pairs,
          blocks,
          none,
          classes,
          times-append q (pair_lines short some ++ cross_lines short some rest) ((cross_lines barred some bars ++ cross_lines barred rest []) ++ flat_map class_lines (net ∷ [])),
          times-append q (pair_lines short some) (cross_lines short some rest),
          times-append q (cross_lines barred some bars ++ cross_lines barred rest []) (flat_map class_lines (net ∷ [])),
          times-append q (cross_lines barred some bars) (cross_lines barred rest []),
          times-append q (cross_lines short some rest) (class_lines net),
        );
  }

pub pin_lines_follow : PinLinesFollow
pin_lines_follow name_of old new others bars out put stay symmetric names powers e out_pins put_pins =
    let r = flat_map shapes_of_net others in
    let so = shapes_of_parts old out in
    let sp = shapes_of_parts new put in
    let rest = shapes_of_parts old stay ++ r in
    let same : shapes_of_parts new stay ≡ shapes_of_parts old stay = ap₂ (λ (n : List ℕ) (p : Bool). shapes_at n p stay) (sym names) (sym powers) in
    let olds = flat_map shapes_of_net (old ∷ others) in
    let news = flat_map shapes_of_net (new ∷ others) in
    let shapes : Exchange olds news so sp rest = record {
      old_is = parted old.name old.is_power old.parts out stay r e.old_is;
      new_is = subst (λ (l : List NetShape). SameThings news (sp ++ (l ++ r))) same (parted new.name new.is_power new.parts put stay r e.new_is);
    } in
    let nets : Exchange (old ∷ others) (new ∷ others) (old ∷ []) (new ∷ []) others = record { old_is = record { sums = λ w. refl }; new_is = record { sums = λ w. refl } } in
    let walls : Exchange bars bars [] [] bars = record { old_is = record { sums = λ w. refl }; new_is = record { sums = λ w. refl } } in
    let pairs = pairs_follow NetShape (short_of name_of) olds news so sp rest symmetric shapes in
    let cross = crosses_follow NetShape Barrier (routeblock_of name_of) olds news so sp rest bars bars [] [] bars shapes walls in
    let each = each_follows Net class_lines (old ∷ others) (new ∷ others) (old ∷ []) (new ∷ []) others nets in
    let all = parts_follow _ _ _ _ _ _ _ _ pairs (parts_follow _ _ _ _ _ _ _ _ cross each) in
    let gone = these name_of old others bars out stay out_pins in
    let come = these name_of new others bars put stay put_pins in
    same_lines_follow _ _ _ _ _ _ _ _ (record { often = λ q. refl }) (record { often = λ q. refl }) gone
    (subst (λ (l : List NetShape). SameLines ((pair_lines (short_of name_of) sp ++ cross_lines (short_of name_of) sp (l ++ r)) ++ ((cross_lines (routeblock_of name_of) sp bars ++ cross_lines (routeblock_of name_of) (l ++ r) []) ++ flat_map class_lines (new ∷ []))) (lines_of_pins name_of new put stay others)) same come)
    all
