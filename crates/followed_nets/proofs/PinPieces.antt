-- Pins of nets as pieces.
use Rattle.std.proofs.Common.{◌≡◌, ◌∙◌, ◌+◌, ℕ, Bool, true, false, not, ◌||◌, List, [], ◌∷◌, ◌++◌, map, sum_by, refl, sym, ap, ap₂, arith, subst, if◌then◌else◌}
use Rattle.std.specs.Prelude.{flat_map}
use Rattle.std.proofs.lemmas.List.{append-nil, map-append}
use Rattle.std.proofs.lemmas.List.Sums.{sum_by-append, sum_by-cons}
use Rattle.def_grammar.specs.Records.{Record}
use Rattle.design_model.specs.Families.{cross_lines, pair_lines}
use Rattle.lef_grammar.specs.Library.{Library}
use Rattle.lef_grammar.specs.Measures.{Shape}
use Rattle.connection_rules.specs.NetLines.{Barrier, NetShape, class_lines, routeblock_of, shapes_of_net, shapes_of_part, short_of}
use Rattle.connection_rules.specs.NetParts.{Net, Part, net_named}
use Rattle.design_rules.specs.Boxes.{scale}
use Rattle.following_laws.specs.DesignLaws.{lines_on_nets}
use Rattle.following_laws.specs.Following.{Exchange}
use Rattle.kept_nets.specs.Parts.{shapes_in}
use Rattle.line_laws.specs.Lines.{SameLines, SameThings, times}
use Rattle.line_laws.specs.PairLaws.{IsSymmetric}
use Rattle.line_laws.proofs.PairSums.{times-append}
use Rattle.named_shapes.specs.Named.{by_name, named}
use Rattle.net_laws.specs.PinLines.{ArePins, PinLinesFollow, lines_of_pins, shapes_of_parts}
use Rattle.net_laws.specs.StarNets.{pins_by_one, pins_in}
use Rattle.followed_nets.specs.Exchanging.{name_of}
use Rattle.followed_nets.specs.Pieces.{ArePieces, IsPiece, Piece, classes_of, lines_on, piece_of, shapes_of}
use Rattle.followed_nets.specs.StarExchanges.{AreItsPins, ArePinsOfNet}
use Rattle.followed_nets.specs.Told.{Told}
use Rattle.followed_nets.proofs.PartedNets.{Splits}
use Rattle.followed_nets.proofs.ShortLines.{no_crosses}

-- the pins of parts are pins
pub they_are_pins : (ps : List Part) → ArePins (pins_in ps)
they_are_pins [] = refl
they_are_pins (p ∷ ps) = one p.is_pin refl (they_are_pins ps)
  where
    one : (b : Bool) → p.is_pin ≡ b → ArePins (pins_in ps) → ArePins (if b then p ∷ pins_in ps else pins_in ps)
    one true is later = ap₂ (λ (x y : Bool). not x || y) is later
    one false is later = later

-- the shapes of parts of a net under its name
named_part : (n : Net) (pin : Bool) (ss : List Shape) → map (named n.name) ss ≡ map by_name (shapes_of_part n (record { is_pin = pin; shapes = ss }))
named_part n pin [] = refl
named_part n pin (s ∷ ss) = ap (λ (l : List NetShape). named n.name s ∷ l) (named_part n pin ss)

pub named_parts : (n : Net) (ps : List Part) → map (named n.name) (shapes_in ps) ≡ map by_name (shapes_of_parts n ps)
named_parts n [] = refl
named_parts n (p ∷ ps) =
    map-append (named n.name) p.shapes (shapes_in ps)
    ∙ ap₂ (λ (a b : List NetShape). a ++ b) (named_part n p.is_pin p.shapes) (named_parts n ps)
    ∙ sym (map-append by_name (shapes_of_part n p) (shapes_of_parts n ps))

sum_parts : (n : Net) (w : NetShape → ℕ) (ps : List Part) → sum_by w (shapes_of_parts n ps) ≡ sum_by (λ (p : Part). sum_by w (shapes_of_part n p)) ps
sum_parts n w [] = refl
sum_parts n w (p ∷ ps) =
    let r = sum_parts n w ps in
    omega (arith, r, sum_by-append w (shapes_of_part n p) (shapes_of_parts n ps), sum_by-cons (λ (q : Part). sum_by w (shapes_of_part n q)) p ps)

-- some pins of a net with how it hangs together, and the other parts
abbrev pub pins_piece : Net → List Part → Piece
pins_piece n pins = record { shapes = shapes_of_parts n pins; lines = class_lines n }

abbrev pub left_piece : Net → List Part → Piece
left_piece n stay = record { shapes = shapes_of_parts n stay; lines = [] }

pub net_splits : (n : Net) (pins stay : List Part) → SameThings n.parts (pins ++ stay) → Splits (piece_of n) (pins_piece n pins) (left_piece n stay)
net_splits n pins stay same = record {
  shapes = record {
    sums = λ w.
        let v = λ (p : Part). sum_by w (shapes_of_part n p) in
        let h = same.sums v in
        omega (arith, h, sum_parts n w n.parts, sum_parts n w pins, sum_parts n w stay, sum_by-append v pins stay, sum_by-append w (shapes_of_parts n pins) (shapes_of_parts n stay));
  };
  lines = record { often = λ q. ap (times q) (sym (append-nil (class_lines n))) };
}

-- what is left of it hangs on the net's name alone, and on whether it is of power
pub same_left : (n m : Net) (stay : List Part) → n.name ≡ m.name → n.is_power ≡ m.is_power → left_piece n stay ≡ left_piece m stay
same_left n m stay name power =
    ap₂ (λ (a : List ℕ) (b : Bool). left_piece (record { name = a; is_power = b; parts = [] }) stay) name power

-- The lines on some pins of a net by themselves are those on how the net hangs together: pins are no wires, and shapes of one net have no
-- lines with one another.
module _ (law : PinLinesFollow) (name_of : ℕ → List ℕ) (symmetric : IsSymmetric (short_of name_of)) (bars : List Barrier) (n : Net) (pins : List Part) (are : ArePins pins) where
  abbrev alone : Net
  alone = record { name = n.name; is_power = n.is_power; parts = pins }

  abbrev bare : Net
  bare = record { name = n.name; is_power = n.is_power; parts = [] }

  abbrev own : List NetShape
  own = shapes_of_parts n pins

  none_of_both : (q : List ℕ) → times q (pair_lines (short_of name_of) (own ++ [])) + times q (cross_lines (routeblock_of name_of) (own ++ []) bars) ≡ 0
  none_of_both q =
      let f = law name_of alone bare [] bars pins [] [] symmetric refl refl
      (record { old_is = record { sums = λ w. ap (sum_by w) (sym (append-nil pins)) }; new_is = record { sums = λ w. refl } }) are refl in
      let a = f.old_is.often q in
      let b = f.new_is.often q in
      let z = ap (times q) (no_crosses (short_of name_of) own) in
      omega (
        arith,
        a,
        b,
        z,
        times-append q (pair_lines (short_of name_of) (own ++ [])) (cross_lines (routeblock_of name_of) (own ++ []) bars ++ (class_lines alone ++ [])),
        times-append q (cross_lines (routeblock_of name_of) (own ++ []) bars) (class_lines alone ++ []),
        times-append q (class_lines alone) [],
        times-append q (class_lines bare) [],
        times-append q (lines_of_pins name_of alone pins [] []) f.stay,
        times-append q (cross_lines (short_of name_of) own []) (class_lines alone),
        times-append q (lines_of_pins name_of bare [] [] []) f.stay,
      )

  pub pins_alone : SameLines (class_lines n) (lines_on name_of (pins_piece n pins ∷ []) bars)
  pins_alone = record {
    often = λ q.
        omega (
          arith,
          none_of_both q,
          times-append q (pair_lines (short_of name_of) (own ++ [])) (cross_lines (routeblock_of name_of) (own ++ []) bars ++ (class_lines n ++ [])),
          times-append q (cross_lines (routeblock_of name_of) (own ++ []) bars) (class_lines n ++ []),
          times-append q (class_lines n) [],
        );
  }

-- the pins of one component that are told are pieces
module _ (law : PinLinesFollow) (name : ℕ → List ℕ) (symmetric : IsSymmetric (short_of name)) (bars : List Barrier) (library : Library) (design : List Record) (component : List ℕ) where
  abbrev whole : List ℕ → Net
  whole n = net_named library design (scale design) n

  abbrev pins : List ℕ → List Part
  pins n = pins_by_one library design (scale design) n component

  pub pins_told : (are : (n : List ℕ) → ArePins (pins n)) (ts : List Told) → AreItsPins library design component ts → ArePieces name bars (map (λ (n : List ℕ). pins_piece (whole n) (pins n)) (map name_of ts)) ts
  pins_told are [] told = tt
  pins_told are (t ∷ ts) told = (
    record {
      lines_are = subst (λ (ls : List (List ℕ)). SameLines ls (lines_on name (pins_piece (whole t.name) (pins t.name) ∷ []) bars)) (sym told.0.lines_are) (pins_alone law name symmetric bars (whole t.name) (pins t.name) (are t.name));
      shapes_are = ap (map (named t.name)) told.0.shapes_are ∙ named_parts (whole t.name) (pins t.name);
    },
    pins_told are ts told.1,
  )
