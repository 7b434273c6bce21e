-- What is told of nets is compared with no more shapes than are near their shapes in the whole design.
use Rattle.std.proofs.Common.{◌≡◌, ◌∙◌, ◌+◌, ◌≤◌, ℕ, Bool, List, [], ◌∷◌, ◌++◌, map, sum_by, refl, sym, ap, ap₂, arith, subst}
use Rattle.std.specs.Prelude.{flat_map}
use Rattle.std.proofs.lemmas.List.{append-nil, map-append}
use Rattle.std.proofs.lemmas.List.Sums.{sum_by-append, sum_by-cons}
use Rattle.def_grammar.specs.Records.{Record}
use Rattle.lef_grammar.specs.Library.{Library}
use Rattle.lef_grammar.specs.Measures.{Shape}
use Rattle.connection_rules.specs.NetLines.{Barrier, NetShape, net_shapes, shapes_of_net, shapes_of_part}
use Rattle.connection_rules.specs.NetParts.{Net, Part, all_nets, net_named}
use Rattle.design_rules.specs.Boxes.{scale}
use Rattle.kept_nets.specs.Parts.{shapes_in}
use Rattle.line_laws.specs.Lines.{SameThings}
use Rattle.line_laws.proofs.PairSums.{sum_by-same}
use Rattle.named_shapes.specs.Named.{by_name, named, shapes_by_name}
use Rattle.net_laws.specs.StarNets.{pins_by_one}
use Rattle.shape_index.specs.Near.{near_shapes}
use Rattle.followed_nets.specs.Exchanging.{AreToldIn, name_of}
use Rattle.followed_nets.specs.StarExchanges.{AreItsPins}
use Rattle.followed_nets.specs.Tests.{bar_shape, near_barred, near_bars, near_each, near_pairs, near_told, plain}
use Rattle.followed_nets.specs.Told.{IsToldIn, Told}
use Rattle.followed_nets.proofs.NearLemmas.{near_one, sum_near}
use Rattle.followed_nets.proofs.PieceLemmas.{sum_named}

plain_again : (net : List ℕ) (ss : List Shape) → plain (map (named net) ss) ≡ ss
plain_again net [] = refl
plain_again net (s ∷ ss) = ap (λ (l : List Shape). s ∷ l) (plain_again net ss)

plain_by_name : (xs : List NetShape) → plain (map by_name xs) ≡ plain xs
plain_by_name [] = refl
plain_by_name (x ∷ xs) = ap (λ (l : List Shape). x.shape ∷ l) (plain_by_name xs)

plain_part : (n : Net) (pin : Bool) (ss : List Shape) → plain (shapes_of_part n (record { is_pin = pin; shapes = ss })) ≡ ss
plain_part n pin [] = refl
plain_part n pin (s ∷ ss) = ap (λ (l : List Shape). s ∷ l) (plain_part n pin ss)

pub plain_parts : (n : Net) (ps : List Part) → plain (flat_map (shapes_of_part n) ps) ≡ shapes_in ps
plain_parts n [] = refl
plain_parts n (p ∷ ps) =
    map-append (λ (s : NetShape). s.shape) (shapes_of_part n p) (flat_map (shapes_of_part n) ps)
    ∙ ap₂ (λ (a b : List Shape). a ++ b) (plain_part n p.is_pin p.shapes) (plain_parts n ps)

pub sum_in_parts : (w : Shape → ℕ) (ps : List Part) → sum_by w (shapes_in ps) ≡ sum_by (λ (p : Part). sum_by w p.shapes) ps
sum_in_parts w [] = refl
sum_in_parts w (p ∷ ps) =
    let r = sum_in_parts w ps in
    omega (arith, r, sum_by-append w p.shapes (shapes_in ps), sum_by-cons (λ (q : Part). sum_by w q.shapes) p ps)

-- what is told of a net are its shapes
pub shapes_told : (library : Library) (design : List Record) (bars : List Barrier) (t : Told) → IsToldIn library bars design t.name t → t.shapes ≡ plain (shapes_of_net (net_named library design (scale design) t.name))
shapes_told library design bars t told =
    let net = net_named library design (scale design) t.name in
    sym (plain_again net.name t.shapes)
    ∙ ap plain told.told.shapes_are
    ∙ plain_by_name (shapes_of_net net ++ [])
    ∙ ap plain (append-nil (shapes_of_net net))

module _ (library : Library) (design : List Record) (shapes : List NetShape) (all : SameThings shapes (shapes_by_name (all_nets library design (scale design)))) where
  abbrev whole : List ℕ → Net
  whole name = net_named library design (scale design) name

  -- how many shapes of the design are near one
  abbrev near : Shape → ℕ
  near s = near_shapes s (map (λ (n : NetShape). n.shape) (net_shapes library design (scale design)))

  near_all : (s : Shape) → near_shapes s (plain shapes) ≡ near s
  near_all s =
      let ns = net_shapes library design (scale design) in
      sum_near s shapes
      ∙ all.sums (near_one s)
      ∙ sum_named (near_one s) ns
      ∙ sym (sum_near s ns)

  near_own : (own : List Shape) → near_each own shapes ≡ sum_by near own
  near_own own = sum_by-same (λ (s : Shape). near_shapes s (plain shapes)) near near_all own

  -- how many shapes of the design are near rectangles
  pub near_walls : (bars : List Barrier) → near_barred bars shapes ≡ near_bars library design bars
  near_walls [] = refl
  near_walls (b ∷ bars) =
      let here = near_all (bar_shape b) in
      let later = near_walls bars in
      omega (
        arith,
        here,
        later,
        sum_by-cons (λ (s : Shape). near_shapes s (plain shapes)) (bar_shape b) (map bar_shape bars),
        sum_by-cons (λ (c : Barrier). near (bar_shape c)) b bars,
      )

  pub near_nets : (bars : List Barrier) (ts : List Told) → AreToldIn library bars design ts → near_told ts shapes ≡ near_pairs library design (map name_of ts)
  near_nets bars [] told = refl
  near_nets bars (t ∷ ts) told =
      let own = shapes_told library design bars t told.0 in
      let here = near_own t.shapes ∙ ap (sum_by near) own in
      let later = near_nets bars ts told.1 in
      omega (
        arith,
        here,
        later,
        sum_by-cons (λ (u : Told). near_each u.shapes shapes) t ts,
        sum_by-cons (λ (name : List ℕ). sum_by near (plain (shapes_of_net (whole name)))) t.name (map name_of ts),
      )

  module _ (component : List ℕ) (stay : List ℕ → List Part) (parted : (n : List ℕ) → SameThings (whole n).parts (pins_by_one library design (scale design) n component ++ stay n)) where
    pub near_pins : (ts : List Told) → AreItsPins library design component ts → near_told ts shapes ≤ near_pairs library design (map name_of ts)
    near_pins [] told = omega arith
    near_pins (t ∷ ts) told =
        let net = whole t.name in
        let pins = pins_by_one library design (scale design) t.name component in
        let v = λ (p : Part). sum_by near p.shapes in
        let here = near_own t.shapes ∙ ap (sum_by near) told.0.shapes_are in
        let parts = (parted t.name).sums v in
        let all_parts = ap (sum_by near) (plain_parts net net.parts) in
        let later = near_pins ts told.1 in
        omega (
          arith,
          here,
          parts,
          all_parts,
          later,
          sum_in_parts near pins,
          sum_in_parts near net.parts,
          sum_by-append v pins (stay t.name),
          sum_by-cons (λ (u : Told). near_each u.shapes shapes) t ts,
          sum_by-cons (λ (name : List ℕ). sum_by near (plain (shapes_of_net (whole name)))) t.name (map name_of ts),
        )
