-- Answers where nets are exchanged one after the other.
use Rattle.std.proofs.Common.{◌≡◌, ◌∙◌, ℕ, Bool, true, false, ◌||◌, List, [], ◌∷◌, ◌++◌, map, Option, Some, refl, sym, ap, arith, sum_by, if◌then◌else◌}
use Rattle.std.specs.Prelude.{flat_map}
use Rattle.std.specs.List.{AllByRecursion}
use Rattle.std.specs.Str.{bytes_eq}
use Rattle.std.proofs.lemmas.List.{map-append}
use Rattle.std.proofs.lemmas.List.Concat.{flat_map-append}
use Rattle.std.proofs.lemmas.List.Folds.{list_any-append}
use Rattle.std.proofs.lemmas.List.Sums.{sum_by-append, sum_by-cons}
use Rattle.std.proofs.lemmas.Slice.Eq.{bytes_eq-Decides}
use Rattle.design_model.specs.Geometry.{Rectangle}
use Rattle.def_grammar.specs.Records.{Record}
use Rattle.lef_grammar.specs.Library.{Library}
use Rattle.lef_grammar.specs.Measures.{Shape}
use Rattle.connection_rules.specs.NetLines.{NetShape, shapes_of_net}
use Rattle.connection_rules.specs.NetParts.{net_named}
use Rattle.design_rules.specs.Boxes.{scale}
use Rattle.line_laws.specs.Lines.{SameThings}
use Rattle.measure_rules.specs.Lengths.{length_of}
use Rattle.measure_rules.specs.NetBoxes.{box_round, rectangles_of}
use Rattle.net_laws.specs.NetChanges.{is_one_of}
use Rattle.net_laws.specs.OneNet.{TellNet}
use Rattle.reports.specs.Answers.{Answers, box_in, length_in}
use Rattle.reports.specs.Exchanges.{NetExchanged}
use Rattle.reports.proofs.DensitySteps.{exchanged_from}
use Rattle.followed_measures.specs.ExchangedNets.{NetsExchanged, nets_of, shapes_of}

-- what is answered on one net, and on the others
by_name : {B : Type 0} (name n : List ℕ) (mine : B) (of : List ℕ → B) (others : B) (t : Bool) → bytes_eq name n ≡ t → mine ≡ of name → (if t then mine else others) ≡ (if t || false then of n else others)
by_name name n mine of others true is own = own ∙ ap of ((bytes_eq-Decides name n).0 is)
by_name name n mine of others false is own = refl

-- on some nets, and before on others
in_turn : {B : Type 0} (mine others : B) (t u : Bool) → (if t then mine else (if u then mine else others)) ≡ (if t || u then mine else others)
in_turn mine others true u = refl
in_turn mine others false u = refl

both : {A : Type 0} (P : A → Type 0) (xs ys : List A) → AllByRecursion P xs → AllByRecursion P ys → AllByRecursion P (xs ++ ys)
both P [] ys h g = g
both P (x ∷ xs) ys h g = (h.0, both P xs ys h.1 g)

module _ (library : Library) (old new : List Record) where
  pub exchange_of_none : (a : Answers) → NetsExchanged library old new [] a a
  exchange_of_none a = record {
    tell = tt;
    then_tell = tt;
    layers = refl;
    net_length = λ n. refl;
    net_box = λ n. refl;
    total_length = refl;
    cells = record { holds = λ columns rows rest held. held };
    place_cells = refl;
  }

  abbrev old_shapes : List (List ℕ) → List Shape
  old_shapes names = shapes_of (nets_of library old names)

  abbrev new_shapes : List (List ℕ) → List Shape
  new_shapes names = shapes_of (nets_of library new names)

  shapes_together : (design : List Record) (xs ys : List (List ℕ)) → shapes_of (nets_of library design (xs ++ ys)) ≡ shapes_of (nets_of library design xs) ++ shapes_of (nets_of library design ys)
  shapes_together design xs ys =
      let shape = λ (s : NetShape). s.shape in
      ap shapes_of (map-append (net_named library design (scale design)) xs ys)
      ∙ ap (map shape) (flat_map-append shapes_of_net (nets_of library design xs) (nets_of library design ys))
      ∙ map-append shape (flat_map shapes_of_net (nets_of library design xs)) (flat_map shapes_of_net (nets_of library design ys))

  -- one net, some of whose shapes stay
  module _ (name : List ℕ) (old_length new_length : ℕ) (gone come stay : List Shape) (bounds : Option Rectangle) (a b : Answers) (e : NetExchanged name old_length new_length gone come bounds a b) where
    beside : (whole some : List Shape) → SameThings whole (some ++ stay) → (rest : List Shape) → SameThings (whole ++ rest) (some ++ (stay ++ rest))
    beside whole some is rest = record {
      sums = λ w. omega (arith, is.sums w, sum_by-append w whole rest, sum_by-append w some stay, sum_by-append w some (stay ++ rest), sum_by-append w stay rest);
    }

    pub exchange_of_one : ((some : List Record) × TellNet some old name) → ((some : List Record) × TellNet some new name) → old_length ≡ length_of library old (scale old) name → new_length ≡ length_of library new (scale new) name
        → bounds ≡ box_round (rectangles_of (net_named library new (scale new) name)) → SameThings (old_shapes (name ∷ [])) (gone ++ stay) → SameThings (new_shapes (name ∷ [])) (come ++ stay)
        → NetsExchanged library old new (name ∷ []) a b
    exchange_of_one tell then_tell was_long is_long bounds_are goes comes = record {
      tell = (tell, tt);
      then_tell = (then_tell, tt);
      layers = e.layers;
      net_length = λ n. e.net_length n ∙ by_name name n (Some new_length) (λ m. Some (length_of library new (scale new) m)) (length_in a n) (bytes_eq name n) refl (ap Some is_long);
      net_box = λ n. e.net_box n ∙ by_name name n (Some bounds) (λ m. Some (box_round (rectangles_of (net_named library new (scale new) m)))) (box_in a n) (bytes_eq name n) refl (ap Some bounds_are);
      total_length =
          omega (arith, e.total_length, was_long, is_long, sum_by-cons (length_of library old (scale old)) name [], sum_by-cons (length_of library new (scale new)) name []);
      cells = record {
        holds = λ columns rows rest held.
            exchanged_from gone come a.cells b.cells e.cells columns rows (old_shapes (name ∷ []) ++ rest) (new_shapes (name ∷ []) ++ rest) (stay ++ rest)
            (beside (old_shapes (name ∷ [])) gone goes rest) (beside (new_shapes (name ∷ [])) come comes rest) held;
      };
      place_cells = e.place_cells;
    }

  -- some nets, and then others
  module _ (xs ys : List (List ℕ)) (a b c : Answers) (first : NetsExchanged library old new xs a b) (next : NetsExchanged library old new ys b c) where
    in_all : {B : Type 0} (n : List ℕ) (mine others : B) → (if is_one_of ys n then mine else (if is_one_of xs n then mine else others)) ≡ (if is_one_of (ys ++ xs) n then mine else others)
    in_all n mine others = in_turn mine others (is_one_of ys n) (is_one_of xs n) ∙ ap (λ (t : Bool). if t then mine else others) (sym (list_any-append (λ m. bytes_eq m n) ys xs))

    gone_first : (rest : List Shape) → SameThings (old_shapes (ys ++ xs) ++ rest) (old_shapes xs ++ (old_shapes ys ++ rest))
    gone_first rest = record {
      sums = λ w.
          omega (arith, ap (sum_by w) (shapes_together old ys xs), sum_by-append w (old_shapes (ys ++ xs)) rest, sum_by-append w (old_shapes ys) (old_shapes xs), sum_by-append w (old_shapes xs) (old_shapes ys ++ rest), sum_by-append w (old_shapes ys) rest);
    }

    come_first : (rest : List Shape) → SameThings (old_shapes ys ++ (new_shapes xs ++ rest)) (new_shapes xs ++ (old_shapes ys ++ rest))
    come_first rest = record {
      sums = λ w.
          omega (arith, sum_by-append w (old_shapes ys) (new_shapes xs ++ rest), sum_by-append w (new_shapes xs) rest, sum_by-append w (new_shapes xs) (old_shapes ys ++ rest), sum_by-append w (old_shapes ys) rest);
    }

    itself : (shapes : List Shape) → SameThings shapes shapes
    itself shapes = record { sums = λ w. refl }

    come_then : (rest : List Shape) → SameThings (new_shapes (ys ++ xs) ++ rest) (new_shapes ys ++ (new_shapes xs ++ rest))
    come_then rest = record {
      sums = λ w.
          omega (arith, ap (sum_by w) (shapes_together new ys xs), sum_by-append w (new_shapes (ys ++ xs)) rest, sum_by-append w (new_shapes ys) (new_shapes xs), sum_by-append w (new_shapes ys) (new_shapes xs ++ rest), sum_by-append w (new_shapes xs) rest);
    }

    pub exchange_of_more : NetsExchanged library old new (ys ++ xs) a c
    exchange_of_more = record {
      tell = both (λ (n : List ℕ). (some : List Record) × TellNet some old n) ys xs next.tell first.tell;
      then_tell = both (λ (n : List ℕ). (some : List Record) × TellNet some new n) ys xs next.then_tell first.then_tell;
      layers = next.layers ∙ first.layers;
      net_length = λ n.
          let mine = Some (length_of library new (scale new) n) in
          next.net_length n ∙ ap (λ (o : Option ℕ). if is_one_of ys n then mine else o) (first.net_length n) ∙ in_all n mine (length_in a n);
      net_box = λ n.
          let mine = Some (box_round (rectangles_of (net_named library new (scale new) n))) in
          next.net_box n ∙ ap (λ (o : Option (Option Rectangle)). if is_one_of ys n then mine else o) (first.net_box n) ∙ in_all n mine (box_in a n);
      total_length =
          omega (arith, first.total_length, next.total_length, sum_by-append (length_of library old (scale old)) ys xs, sum_by-append (length_of library new (scale new)) ys xs);
      cells = record {
        holds = λ columns rows rest held.
            exchanged_from (old_shapes ys) (new_shapes ys) b.cells c.cells next.cells columns rows (old_shapes ys ++ (new_shapes xs ++ rest)) (new_shapes (ys ++ xs) ++ rest) (new_shapes xs ++ rest)
            (itself (old_shapes ys ++ (new_shapes xs ++ rest))) (come_then rest)
            (exchanged_from (old_shapes xs) (new_shapes xs) a.cells b.cells first.cells columns rows (old_shapes (ys ++ xs) ++ rest) (old_shapes ys ++ (new_shapes xs ++ rest)) (old_shapes ys ++ rest)
            (gone_first rest) (come_first rest) held);
      };
      place_cells = next.place_cells ∙ first.place_cells;
    }
