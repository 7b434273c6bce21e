-- The net of a name is found among measured nets as the definitions find it.
use Rattle.std.proofs.Common.{◌≡◌, ◌<◌, ◌^◌, ℕ, Bool, true, false, ◌||◌, List, [], ◌∷◌, map, length, refl, sym, ap, ◌∙◌, Option, Some, None, if◌then◌else◌, sum, arith}
use Rattle.std.specs.List.{list_any, sum_by}
use Rattle.std.specs.Option.{option_map}
use Rattle.std.specs.Str.{bytes_eq}
use Rattle.std.proofs.lemmas.List.{length-map}
use Rattle.std.proofs.lemmas.List.Sums.{sum-map, sum_by-cons}
use Rattle.design_model.specs.Geometry.{Rectangle}
use Rattle.form_meanings.specs.Firsts.{find_named}
use Rattle.def_grammar.specs.Records.{Record}
use Rattle.lef_grammar.specs.Library.{Library}
use Rattle.connection_rules.specs.NetParts.{Net, all_nets, net_named, net_names}
use Rattle.measure_rules.specs.Lengths as lengths
use Rattle.measure_rules.specs.Lengths.{length_of, total_length}
use Rattle.measure_rules.specs.NetBoxes as boxes
use Rattle.measure_rules.specs.NetBoxes.{box_round, rectangles_of}
use Rattle.measure_laws.specs.LengthLaws.{NoneIsLonger}
use Rattle.drawn_parts.specs.DrawnLengths.{capped}
use Rattle.reports.specs.MeasuredNets.{MeasuredNet, measured, name_of}
use Rattle.reports.proofs.TableLemmas.{bytes_eq_sym, same_bytes}

abbrev length_in : MeasuredNet → ℕ
length_in n = n.net_length

abbrev box_in : MeasuredNet → Option Rectangle
box_in n = n.net_box

-- nets of a design by their names, with lengths that are told by their names
module _ (library : Library) (design : List Record) (u : ℕ) where
  module _ (length_by : List ℕ → ℕ) where
    length_step : (b t : Bool) (m : MeasuredNet) (r : Option MeasuredNet) (n : ℕ) → (b ≡ true → m.net_length ≡ n) → option_map length_in r ≡ (if t then Some n else None)
        → option_map length_in (if b then Some m else r) ≡ (if b || t then Some n else None)
    length_step true t m r n same later = ap Some (same refl)
    length_step false t m r n same later = later

    length_found : (names : List (List ℕ)) (name : List ℕ)
        → option_map length_in (find_named name_of (measured (map (net_named library design u) names) (map length_by names)) name) ≡ (if list_any (bytes_eq name) names then Some (length_by name) else None)
    length_found [] name = refl
    length_found (n ∷ names) name =
        length_step (bytes_eq n name) (list_any (bytes_eq name) names)
        (record { name = n; net_length = length_by n; net_box = box_round (rectangles_of (net_named library design u n)) })
        (find_named name_of (measured (map (net_named library design u) names) (map length_by names)) name) (length_by name)
        (λ t. ap length_by (same_bytes n name t)) (length_found names name)
        ∙ ap (λ (b : Bool). if b || list_any (bytes_eq name) names then Some (length_by name) else None) (bytes_eq_sym n name)

  -- lengths that fit stand as they are
  module _ (no_longer : NoneIsLonger) (few : total_length library design u < 2 ^ 64) where
    abbrev capped_length : List ℕ → ℕ
    capped_length name = capped (length_of library design u name)

    is_whole : (name : List ℕ) → capped_length name ≡ length_of library design u name
    is_whole name = let less = no_longer library design u name in omega (arith, less, few)

    pub length_is : (name : List ℕ)
        → option_map length_in (find_named name_of (measured (all_nets library design u) (map capped_length (net_names library design u))) name) ≡ lengths.net_length library design u name
    length_is name =
        let names = net_names library design u in
        length_found capped_length names name
        ∙ ap (λ n. if list_any (bytes_eq name) names then Some n else None) (is_whole name)

    sum_same : (names : List (List ℕ)) → sum_by capped_length names ≡ sum_by (length_of library design u) names
    sum_same [] = refl
    sum_same (n ∷ names) =
        let later = sum_same names in
        let here = is_whole n in
        omega (arith, later, here, sum_by-cons capped_length n names, sum_by-cons (length_of library design u) n names)

    pub total_is : capped (sum (map capped_length (net_names library design u))) ≡ total_length library design u
    total_is = let same = sum-map capped_length (net_names library design u) ∙ sum_same (net_names library design u) in omega (arith, same, few)

  box_step : (b : Bool) (m : MeasuredNet) (n : Net) (r : Option MeasuredNet) (q : Option Net) → m.net_box ≡ box_round (rectangles_of n) → option_map box_in r ≡ option_map (λ k. box_round (rectangles_of k)) q
      → option_map box_in (if b then Some m else r) ≡ option_map (λ k. box_round (rectangles_of k)) (if b then Some n else q)
  box_step true m n r q is later = ap Some is
  box_step false m n r q is later = later

  box_found : (ns : List Net) (ls : List ℕ) (name : List ℕ) → length ls ≡ length ns
      → option_map box_in (find_named name_of (measured ns ls) name) ≡ option_map (λ n. box_round (rectangles_of n)) (find_named (λ (n : Net). n.name) ns name)
  box_found [] ls name same = refl
  box_found (n ∷ ns) [] name same = absurd (omega (arith, same))
  box_found (n ∷ ns) (l ∷ ls) name same =
      box_step (bytes_eq n.name name) (record { name = n.name; net_length = l; net_box = box_round (rectangles_of n) }) n
      (find_named name_of (measured ns ls) name) (find_named (λ (k : Net). k.name) ns name) refl (box_found ns ls name (omega (arith, same)))

  pub box_is : (length_by : List ℕ → ℕ) (name : List ℕ)
      → option_map box_in (find_named name_of (measured (all_nets library design u) (map length_by (net_names library design u))) name) ≡ boxes.net_box library design u name
  box_is length_by name =
      let names = net_names library design u in
      box_found (map (net_named library design u) names) (map length_by names) name (length-map names length_by ∙ sym (length-map names (net_named library design u)))
