-- The nets of a design as pieces, of which some are whole nets, some are pins of nets, and some are left.
use Rattle.std.proofs.Common.{◌≡◌, ◌∙◌, ◌+◌, ℕ, List, [], ◌∷◌, ◌++◌, map, sum_by, refl, sym, ap, ap₂, arith, subst}
use Rattle.std.specs.Prelude.{flat_map}
use Rattle.std.proofs.lemmas.List.{append-nil}
use Rattle.std.proofs.lemmas.List.Sums.{sum_by-append, sum_by-cons}
use Rattle.def_grammar.specs.Records.{Record}
use Rattle.design_model.specs.Order.{sorted_by_bytes}
use Rattle.lef_grammar.specs.Library.{Library}
use Rattle.connection_rules.specs.NetLines.{Barrier, NetShape, class_lines, layer_name, shapes_of_net, short_of}
use Rattle.connection_rules.specs.NetParts.{Net, net_named}
use Rattle.design_rules.specs.Boxes.{scale}
use Rattle.following_laws.specs.DesignLaws.{lines_on_nets}
use Rattle.line_laws.specs.Lines.{SameLines, SameThings, times}
use Rattle.line_laws.specs.PairLaws.{IsSymmetric}
use Rattle.line_laws.specs.SortingLaws.{SameLinesSortAlike}
use Rattle.line_laws.proofs.PairSums.{times-append, times-flat_map}
use Rattle.named_shapes.specs.Named.{by_name, named, shapes_by_name}
use Rattle.followed_nets.specs.Exchanging.{AreToldIn, nets_told}
use Rattle.followed_nets.specs.Pieces.{AreOnPieces, ArePieces, IsPiece, Piece, classes_of, lines_on, piece_of, shapes_of}
use Rattle.followed_nets.specs.StarExchanges.{nets_of}
use Rattle.followed_nets.specs.Told.{IsTold, Told}
use Rattle.followed_nets.proofs.PieceLemmas.{alike, sum_shapes}

pub whole_shapes : (nets : List Net) → shapes_of (map piece_of nets) ≡ flat_map shapes_of_net nets
whole_shapes [] = refl
whole_shapes (n ∷ nets) = ap (λ (ss : List NetShape). shapes_of_net n ++ ss) (whole_shapes nets)

whole_classes : (nets : List Net) → classes_of (map piece_of nets) ≡ flat_map class_lines nets
whole_classes [] = refl
whole_classes (n ∷ nets) = ap (λ (ls : List (List ℕ)). class_lines n ++ ls) (whole_classes nets)

-- whole nets as pieces
module _ (name_of : ℕ → List ℕ) (bars : List Barrier) where
  pub whole_lines : (nets : List Net) → lines_on name_of (map piece_of nets) bars ≡ lines_on_nets name_of nets bars
  whole_lines nets = rw (whole_shapes nets, whole_classes nets) refl

  pub as_pieces : (nets : List Net) (shapes : List NetShape) (lines : List (List ℕ)) → SameThings shapes (shapes_by_name nets) → lines ≡ sorted_by_bytes (lines_on_nets name_of nets bars)
      → AreOnPieces name_of bars (map piece_of nets) shapes lines
  as_pieces nets shapes lines shapes_are lines_are = record {
    shapes_are = subst (λ (ss : List NetShape). SameThings shapes (map by_name ss)) (sym (whole_shapes nets)) shapes_are;
    lines_are = lines_are ∙ ap sorted_by_bytes (sym (whole_lines nets));
  }

  pub shapes_as_nets : (nets : List Net) (shapes : List NetShape) (lines : List (List ℕ)) → AreOnPieces name_of bars (map piece_of nets) shapes lines → SameThings shapes (shapes_by_name nets)
  shapes_as_nets nets shapes lines had = subst (λ (ss : List NetShape). SameThings shapes (map by_name ss)) (whole_shapes nets) had.shapes_are

  pub lines_as_nets : (nets : List Net) (shapes : List NetShape) (lines : List (List ℕ)) → AreOnPieces name_of bars (map piece_of nets) shapes lines → lines ≡ sorted_by_bytes (lines_on_nets name_of nets bars)
  lines_as_nets nets shapes lines had = had.lines_are ∙ ap sorted_by_bytes (whole_lines nets)

  pub both_pieces : (ps qs : List Piece) (ts us : List Told) → ArePieces name_of bars ps ts → ArePieces name_of bars qs us → ArePieces name_of bars (ps ++ qs) (ts ++ us)
  both_pieces [] qs [] us told then = then
  both_pieces [] qs (t ∷ ts) us told then = absurd told
  both_pieces (p ∷ ps) qs [] us told then = absurd told
  both_pieces (p ∷ ps) qs (t ∷ ts) us told then = (told.0, both_pieces ps qs ts us told.1 then)

-- nets that are told are whole pieces
pub told_pieces : (library : Library) (bars : List Barrier) (design : List Record) (ts : List Told) → AreToldIn library bars design ts
    → ArePieces (layer_name library.layers) bars (map piece_of (nets_told library design ts)) ts
told_pieces library bars design [] told = tt
told_pieces library bars design (t ∷ ts) told =
    let net = net_named library design (scale design) t.name in
    let is = told.0.told in (
      record {
        lines_are = subst (λ (ls : List (List ℕ)). SameLines t.lines ls) (sym (whole_lines (layer_name library.layers) bars (net ∷ []))) is.lines_are;
        shapes_are = ap (λ (n : List ℕ). map (named n) t.shapes) is.name_is ∙ is.shapes_are ∙ ap (map by_name) (sym (whole_shapes (net ∷ [])) ∙ append-nil (shapes_of_net net));
      },
      told_pieces library bars design ts told.1,
    )

-- a piece is in two parts
pub record Splits (whole some rest : Piece) : Type 0 where
  pub shapes : SameThings whole.shapes (some.shapes ++ rest.shapes)
  pub lines : SameLines whole.lines (some.lines ++ rest.lines)

sum_by-map : {A B : Type 0} (w : B → ℕ) (f : A → B) (xs : List A) → sum_by w (map f xs) ≡ sum_by (λ x. w (f x)) xs
sum_by-map w f [] = refl
sum_by-map w f (x ∷ xs) = let r = sum_by-map w f xs in omega (arith, r, sum_by-cons w (f x) (map f xs), sum_by-cons (λ y. w (f y)) x xs)

-- Of the nets of a design some are whole pieces, of others there are two parts each, and the rest is left.
module _ (library : Library) (design : List Record) (some left : List ℕ → Piece) (split : (n : List ℕ) → Splits (piece_of (net_named library design (scale design) n)) (some n) (left n))
    (nets stars own : List (List ℕ)) (own_are : SameThings own stars) (stay all : List Net) (all_are : SameThings all (nets_of library design (nets ++ stars) ++ stay)) where
  abbrev whole : List ℕ → Net
  whole n = net_named library design (scale design) n

  abbrev pub parts : List Piece
  parts = (map piece_of (nets_of library design nets) ++ map some own) ++ (map left stars ++ map piece_of stay)

  in_two : (w : Piece → ℕ) → ((n : List ℕ) → w (piece_of (whole n)) ≡ w (some n) + w (left n)) → (ns : List (List ℕ))
      → sum_by (λ (n : List ℕ). w (piece_of (whole n))) ns ≡ sum_by (λ (n : List ℕ). w (some n)) ns + sum_by (λ (n : List ℕ). w (left n)) ns
  in_two w each [] = refl
  in_two w each (n ∷ ns) =
      let r = in_two w each ns in
      let h = each n in
      omega (arith, r, h, sum_by-cons (λ (n : List ℕ). w (piece_of (whole n))) n ns, sum_by-cons (λ (n : List ℕ). w (some n)) n ns, sum_by-cons (λ (n : List ℕ). w (left n)) n ns)

  weighed : (w : Piece → ℕ) → ((n : List ℕ) → w (piece_of (whole n)) ≡ w (some n) + w (left n)) → sum_by w (map piece_of all) ≡ sum_by w parts
  weighed w each =
      let v = λ (n : Net). w (piece_of n) in
      let u = λ (n : List ℕ). w (piece_of (whole n)) in
      let h = all_are.sums v in
      let o = own_are.sums (λ (n : List ℕ). w (some n)) in
      let two = in_two w each stars in
      omega (
        arith,
        h,
        o,
        two,
        sum_by-map w piece_of all,
        sum_by-append v (nets_of library design (nets ++ stars)) stay,
        sum_by-map v whole (nets ++ stars),
        sum_by-append u nets stars,
        sum_by-append w (map piece_of (nets_of library design nets) ++ map some own) (map left stars ++ map piece_of stay),
        sum_by-append w (map piece_of (nets_of library design nets)) (map some own),
        sum_by-append w (map left stars) (map piece_of stay),
        sum_by-map w piece_of (nets_of library design nets),
        sum_by-map v whole nets,
        sum_by-map w some own,
        sum_by-map w left stars,
        sum_by-map w piece_of stay,
      )

  pub parts_shapes : SameThings (shapes_of (map piece_of all)) (shapes_of parts)
  parts_shapes = record {
    sums = λ w.
        sum_shapes w (map piece_of all)
        ∙ weighed (λ (p : Piece). sum_by w p.shapes) (λ n. (split n).shapes.sums w ∙ sum_by-append w (some n).shapes (left n).shapes)
        ∙ sym (sum_shapes w parts);
  }

  pub parts_classes : SameLines (classes_of (map piece_of all)) (classes_of parts)
  parts_classes = record {
    often = λ q.
        times-flat_map q (λ (p : Piece). p.lines) (map piece_of all)
        ∙ weighed (λ (p : Piece). times q p.lines) (λ n. (split n).lines.often q ∙ times-append q (some n).lines (left n).lines)
        ∙ sym (times-flat_map q (λ (p : Piece). p.lines) parts);
  }

  module _ (name_of : ℕ → List ℕ) (bars : List Barrier) (sorted : SameLinesSortAlike) (symmetric : IsSymmetric (short_of name_of)) (shapes : List NetShape) (lines : List (List ℕ)) where
    pub in_parts : AreOnPieces name_of bars (map piece_of all) shapes lines → AreOnPieces name_of bars parts shapes lines
    in_parts had = alike name_of bars sorted symmetric (map piece_of all) parts parts_shapes parts_classes shapes lines had

    pub made_whole : AreOnPieces name_of bars parts shapes lines → AreOnPieces name_of bars (map piece_of all) shapes lines
    made_whole had =
        alike name_of bars sorted symmetric parts (map piece_of all) (record { sums = λ w. sym (parts_shapes.sums w) }) (record { often = λ q. sym (parts_classes.often q) }) shapes lines had
