-- What is measured of a design of which some nets are exchanged.
use Rattle.std.proofs.Common.{◌≡◌, ◌∙◌, ℕ, Bool, true, false, not, ◌||◌, List, [], ◌∷◌, filter, map, sum_by, Option, Some, None, refl, sym, ap, ap₂, arith, if◌then◌else◌}
use Rattle.std.specs.List.{list_any}
use Rattle.std.specs.Option.{option_map}
use Rattle.std.specs.Str.{bytes_eq}
use Rattle.std.proofs.lemmas.List.Sums.{sum_by-append, sum_by-cons}
use Rattle.std.proofs.lemmas.Slice.Eq.{bytes_eq-Decides}
use Rattle.design_model.specs.Geometry.{Rectangle}
use Rattle.def_grammar.specs.Records.{Record}
use Rattle.lef_grammar.specs.Library.{Library}
use Rattle.connection_rules.specs.NetParts.{Net, is_named, net_named, net_names}
use Rattle.design_rules.specs.Boxes.{scale}
use Rattle.measure_rules.specs.Lengths.{is_net, length_of, wired_length}
use Rattle.measure_rules.specs.NetBoxes.{box_round, rectangles_of}
use Rattle.net_laws.specs.NetChanges.{AgreeApart, AreToldIn, ToldNetsAreExchanged, is_one_of}
use Rattle.net_laws.specs.NetsTold.{NetsAreTold}
use Rattle.net_laws.specs.OneNet.{OneNetIsTold, TellNet}
use Rattle.measuring_laws.specs.Measuring.{AreAsLong, LengthsAreTold, ToldMeasuresFollow}
use Rattle.measuring_laws.proofs.EntryLengths.{same_wired}
use Rattle.measuring_laws.proofs.FoundNets.{is_net_by_entries, net_is_found, only_net}

pub lengths_are_told : LengthsAreTold
lengths_are_told library a b u name common entries =
    let same = same_wired library a b u common name entries in
    record {
      length = ap (sum_by wired_length) same;
      is_net = is_net_by_entries library a u name ∙ ap (list_any (is_named library b u name)) same ∙ sym (is_net_by_entries library b u name);
    }

-- a measure of a net, where there is one
abbrev where_net : {A : Type 0} → Bool → A → Option A
where_net there a = if there then Some a else None

-- sums over nets by their names
module _ (library : Library) (design : List Record) (u : ℕ) (weight : List ℕ → ℕ) where
  abbrev by_name : Net → ℕ
  by_name n = weight n.name

  sum_by_names : (names : List (List ℕ)) → sum_by by_name (map (net_named library design u) names) ≡ sum_by weight names
  sum_by_names [] = refl
  sum_by_names (n ∷ names) =
      omega (arith, sum_by_names names, sum_by-cons weight n names, sum_by-cons by_name (net_named library design u n) (map (net_named library design u) names))

  -- two weights that are the same for the names that fail a test are so over these
  module _ (other : List ℕ → ℕ) (test : List ℕ → Bool) (same : (name : List ℕ) → test name ≡ false → other name ≡ weight name) where
    one_more : (b : Bool) (n : List ℕ) (names : List (List ℕ)) → test n ≡ b → sum_by other names ≡ sum_by weight names
        → sum_by other (if not b then n ∷ names else names) ≡ sum_by weight (if not b then n ∷ names else names)
    one_more true n names is later = later
    one_more false n names is later = omega (arith, later, same n is, sum_by-cons other n names, sum_by-cons weight n names)

    same_sums : (names : List (List ℕ)) → sum_by other (filter (λ (n : List ℕ). not (test n)) names) ≡ sum_by weight (filter (λ (n : List ℕ). not (test n)) names)
    same_sums [] = refl
    same_sums (n ∷ names) = one_more (test n) n (filter (λ (m : List ℕ). not (test m)) names) refl (same_sums names)

-- each of the nets that are told is one of the design
module _ (one_net_is_told : OneNetIsTold) (library : Library) (design : List Record) where
  told_is_net : (some : List Record) (name : List ℕ) → TellNet some design name → is_net library design (scale design) name ≡ true
  told_is_net some name tell =
      let told = one_net_is_told library some design name tell in
      let same = (lengths_are_told library some design (scale some) name tell.agree.common tell.agree.entries).is_net in
      ap (λ (u : ℕ). is_net library design u name) (sym told.same_scale)
      ∙ sym same
      ∙ only_net library some (scale some) name (net_named library design (scale design) name) refl told.nets

  first_or_later : (b : Bool) (n : List ℕ) (ns : List (List ℕ)) (name : List ℕ) → bytes_eq n name ≡ b → (b || is_one_of ns name) ≡ true
      → is_net library design (scale design) n ≡ true → (is_one_of ns name ≡ true → is_net library design (scale design) name ≡ true) → is_net library design (scale design) name ≡ true
  first_or_later true n ns name is one here later = ap (is_net library design (scale design)) (sym ((bytes_eq-Decides n name).0 is)) ∙ here
  first_or_later false n ns name is one here later = later one

  each_is_net : (nets : List (List ℕ)) → AreToldIn design nets → (name : List ℕ) → is_one_of nets name ≡ true → is_net library design (scale design) name ≡ true
  each_is_net [] told name one = absurd (cc)
  each_is_net (n ∷ ns) told name one =
      first_or_later (bytes_eq n name) n ns name refl one (told_is_net told.1.0 n told.1.1) (each_is_net ns told.2 name)

-- designs agree apart from some nets, and are of one scale: the others have the same measures
module _ (library : Library) (old new : List Record) (nets : List (List ℕ)) (apart : AgreeApart old new (is_one_of nets)) (scales : scale old ≡ scale new) where
  as_long : (name : List ℕ) → is_one_of nets name ≡ false → AreAsLong library old new (scale old) name
  as_long name other = lengths_are_told library old new (scale old) name (apart.agree name other).common (apart.agree name other).entries

  length_same : (name : List ℕ) → is_one_of nets name ≡ false → length_of library new (scale new) name ≡ length_of library old (scale old) name
  length_same name other = ap (λ (u : ℕ). length_of library new u name) (sym scales) ∙ sym (as_long name other).length

  is_net_same : (name : List ℕ) → is_one_of nets name ≡ false → is_net library new (scale new) name ≡ is_net library old (scale old) name
  is_net_same name other = ap (λ (u : ℕ). is_net library new u name) (sym scales) ∙ sym (as_long name other).is_net

  net_same : NetsAreTold → (name : List ℕ) → is_one_of nets name ≡ false → net_named library new (scale new) name ≡ net_named library old (scale old) name
  net_same nets_are_told name other = ap (λ (u : ℕ). net_named library new u name) (sym scales) ∙ sym (nets_are_told library old new (scale old) name (apart.agree name other))

abbrev box_of_net : Net → Option Rectangle
box_of_net n = box_round (rectangles_of n)

pub told_measures_follow : NetsAreTold → OneNetIsTold → ToldNetsAreExchanged → ToldMeasuresFollow
told_measures_follow nets_are_told one_net_is_told told_nets_are_exchanged library old new nets apart told then_told =
    let told_exchange = told_nets_are_exchanged library old new nets apart told then_told in
    let exchange = told_exchange.exchange in
    let scales = told_exchange.scales in
    let u : ℕ = scale old in
    let v : ℕ = scale new in
    let is_there = each_is_net one_net_is_told library new nets then_told in
    let lengths = length_same library old new nets apart scales in
    let are_nets = is_net_same library old new nets apart scales in
    let named = net_same library old new nets apart scales nets_are_told in
    let old_length : List ℕ → ℕ = length_of library old u in
    let new_length : List ℕ → ℕ = length_of library new v in
    let others : List (List ℕ) = filter (λ (n : List ℕ). not (is_one_of nets n)) (net_names library old u) in
    let stay : List Net = map (net_named library old u) others in
    record {
      lengths = λ name other. ap₂ (λ (there : Bool) (length : ℕ). where_net there length) (are_nets name other) (lengths name other);
      boxes = λ name other.
          ap (option_map box_of_net)
          (net_is_found library new v name
          ∙ ap₂ (λ (there : Bool) (n : Net). where_net there n) (are_nets name other) (named name other)
          ∙ sym (net_is_found library old u name));
      own_length = λ name one. ap (λ (there : Bool). where_net there (new_length name)) (is_there name one);
      own_box = λ name one.
          ap (option_map box_of_net)
          (net_is_found library new v name ∙ ap (λ (there : Bool). where_net there (net_named library new v name)) (is_there name one));
      total =
          omega (
            arith,
            sum_by_names library old u old_length (net_names library old u),
            sum_by_names library new v new_length (net_names library new v),
            exchange.old_is.sums (λ (n : Net). old_length n.name),
            exchange.new_is.sums (λ (n : Net). new_length n.name),
            sum_by-append (λ (n : Net). old_length n.name) (map (net_named library old u) nets) stay,
            sum_by-append (λ (n : Net). new_length n.name) (map (net_named library new v) nets) stay,
            sum_by_names library old u old_length nets,
            sum_by_names library new v new_length nets,
            sum_by_names library old u old_length others,
            sum_by_names library old u new_length others,
            same_sums library old u old_length new_length (is_one_of nets) lengths (net_names library old u),
          );
    }
