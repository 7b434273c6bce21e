-- The parts of a net by one component, and its others.
use Rattle.std.proofs.Common.{◌≡◌, ◌∙◌, ℕ, ◌+◌, Bool, true, false, ◌||◌, not, List, [], ◌∷◌, ◌++◌, filter, map, sum_by, Option, Some, None, refl, sym, ap, ap₂, arith, subst, if◌then◌else◌}
use Rattle.std.specs.Prelude.{flat_map}
use Rattle.std.specs.List.{AllByRecursion, cons_option, filter_map, list_any}
use Rattle.std.specs.Option.{option_map, option_to_list}
use Rattle.std.specs.Str.{bytes_eq}
use Rattle.std.proofs.lemmas.List.{append-nil}
use Rattle.std.proofs.lemmas.List.Elements.{filter-append}
use Rattle.std.proofs.lemmas.List.Sums.{sum_by-append}
use Rattle.form_meanings.specs.Firsts.{find_named}
use Rattle.def_grammar.specs.Components.{Component}
use Rattle.def_grammar.specs.Pins.{Pin}
use Rattle.def_grammar.specs.Records as records
use Rattle.def_grammar.specs.Records.{Record, component_of, end_section, entry, in_properties, top}
use Rattle.def_grammar.specs.Terminals.{Terminal, is_of_all, is_of_design, is_virtual}
use Rattle.lef_grammar.specs.Definitions as lef
use Rattle.lef_grammar.specs.Library.{Library}
use Rattle.wire_rules.specs.ViaShapes.{NamedShape}
use Rattle.design_rules.specs.Boxes.{scale}
use Rattle.line_laws.specs.Lines.{SameThings}
use Rattle.connection_rules.specs.NetParts.{Part, Wired, all_wired, drawn, drawn_part, drawn_parts, has_shapes, is_named, net_named, pin_part}
use Rattle.connection_rules.specs.Terminals.{NetPin, PinsByName, design_pin, design_pins, each_once, names_net, pins_by_name, pins_of}
use Rattle.net_laws.specs.NetsTold.{FindsAlike, is_common, is_of_net, is_pin_of_net, pins_of_net, terminals_in}
use Rattle.net_laws.specs.OneNet.{TellNet}
use Rattle.net_laws.specs.StarNets.{OneComponentExchanged, OneComponentIsTold, pins_by_one, pins_in, tells_of, those_named}
use Rattle.net_laws.proofs.ComponentPins.{is_own, is_paired, its, named, not_own, others, others_of_all, others_of_named, own, own_of_all, own_of_named, paired_of_all, paired_of_one, pin_in, pin_of, unpaired}
use Rattle.net_laws.proofs.NetPins.{FindsPin, pins_within, same_naming_pins, terminals_find}
use Rattle.net_laws.proofs.OneNet.{same_scale, told}
use Rattle.net_laws.proofs.PinsOnce.{counted, counted_parts, parted}
use Rattle.net_laws.proofs.Selecting.{within}
use Rattle.net_laws.proofs.ToldNets.{by_kind, named_wired_same, same_design, same_naming, terminals_are}

-- lists of which elements are left out twice
module _ {A : Type 0} where
  kept_twice : (test : A → Bool) (all : List A) → filter test (filter test all) ≡ filter test all
  kept_twice test [] = refl
  kept_twice test (a ∷ all) = one (test a) refl (filter test all) (kept_twice test all)
    where
      one : (b : Bool) → test a ≡ b → (left : List A) → filter test left ≡ left → filter test (if b then a ∷ left else left) ≡ (if b then a ∷ left else left)
      one true is left later = ap (λ (b : Bool). if b then a ∷ filter test left else filter test left) is ∙ ap (λ (l : List A). a ∷ l) later
      one false is left later = later

  none_of_those : (test : A → Bool) (all : List A) → filter (λ a. not (test a)) (filter test all) ≡ []
  none_of_those test [] = refl
  none_of_those test (a ∷ all) = one (test a) refl (filter test all) (none_of_those test all)
    where
      one : (b : Bool) → test a ≡ b → (left : List A) → filter (λ a. not (test a)) left ≡ [] → filter (λ a. not (test a)) (if b then a ∷ left else left) ≡ []
      one true is left later = ap (λ (b : Bool). if not b then a ∷ filter (λ a. not (test a)) left else filter (λ a. not (test a)) left) is ∙ later
      one false is left later = later

  both_ways : (p q : A → Bool) (all : List A) → filter p (filter q all) ≡ filter q (filter p all)
  both_ways p q [] = refl
  both_ways p q (a ∷ all) = one (p a) (q a) refl refl (filter q all) (filter p all) (both_ways p q all)
    where
      one : (b c : Bool) → p a ≡ b → q a ≡ c → (xs ys : List A) → filter p xs ≡ filter q ys → filter p (if c then a ∷ xs else xs) ≡ filter q (if b then a ∷ ys else ys)
      one true true h g xs ys later =
          ap (λ (b : Bool). if b then a ∷ filter p xs else filter p xs) h ∙ ap (λ (l : List A). a ∷ l) later ∙ ap (λ (b : Bool). if b then a ∷ filter q ys else filter q ys) (sym g)
      one true false h g xs ys later = later ∙ ap (λ (b : Bool). if b then a ∷ filter q ys else filter q ys) (sym g)
      one false true h g xs ys later = ap (λ (b : Bool). if b then a ∷ filter p xs else filter p xs) h ∙ later
      one false false h g xs ys later = later

  flat_alike : {B : Type 0} (test : B → Bool) (f g : A → List B) → ((a : A) → filter test (f a) ≡ filter test (g a)) → (all : List A) → filter test (flat_map f all) ≡ filter test (flat_map g all)
  flat_alike test f g same [] = refl
  flat_alike {B = B} test f g same (a ∷ all) =
      filter-append test (f a) (flat_map f all)
      ∙ ap₂ (λ (xs ys : List B). xs ++ ys) (same a) (flat_alike test f g same all)
      ∙ sym (filter-append test (g a) (flat_map g all))

  none_flat : {B : Type 0} (test : B → Bool) (f : A → List B) → ((a : A) → filter test (f a) ≡ []) → (all : List A) → filter test (flat_map f all) ≡ []
  none_flat test f none [] = refl
  none_flat {B = B} test f none (a ∷ all) = filter-append test (f a) (flat_map f all) ∙ ap₂ (λ (xs ys : List B). xs ++ ys) (none a) (none_flat test f none all)

-- what a terminal stands for, by its kind
kinds_alike : {B : Type 0} (f : List NetPin → B) (v a d : Bool) (x x' y y' z z' : List NetPin) → f x ≡ f x' → f y ≡ f y' → f z ≡ f z'
    → f (if v then [] else (if a then x else (if d then y else z))) ≡ f (if v then [] else (if a then x' else (if d then y' else z')))
kinds_alike f true a d x x' y y' z z' g h i = refl
kinds_alike f false true d x x' y y' z z' g h i = g
kinds_alike f false false true x x' y y' z z' g h i = h
kinds_alike f false false false x x' y y' z z' g h i = i

module _ (library : Library) (design : List Record) (u : ℕ) (net name : List ℕ) (ts : List Terminal) where
  abbrev by_design : PinsByName
  by_design = pins_by_name library design u

  -- with other components
  abbrev among : List Component → PinsByName
  among cs = record {
    of_all = λ pin. filter_map (pin_in library u name pin) cs;
    of_component = λ owner pin. pin_of library u name (named library u name cs owner) pin;
    of_design = by_design.of_design;
    naming = by_design.naming;
  }

  abbrev listed : List Component → List NetPin
  listed cs = flat_map (pins_of (among cs)) ts ++ by_design.naming net

  abbrev ours : NetPin → Bool
  ours = own library u name

  abbrev theirs : NetPin → Bool
  theirs = not_own library u name

  abbrev single : NetPin → Bool
  single = unpaired library u name

  abbrev double : NetPin → Bool
  double p = is_paired p.words

  abbrev the_one : List Component → List Component
  the_one cs = filter (its library u name) cs

  abbrev rest : List Component → List Component
  rest cs = others library u name cs

  of_terminals : (test : NetPin → Bool) (cs ds : List Component) → ((t : Terminal) → filter test (pins_of (among cs) t) ≡ filter test (pins_of (among ds) t))
      → filter test (listed cs) ≡ filter test (listed ds)
  of_terminals test cs ds same =
      filter-append test (flat_map (pins_of (among cs)) ts) (by_design.naming net)
      ∙ ap (λ (l : List NetPin). l ++ filter test (by_design.naming net)) (flat_alike test (pins_of (among cs)) (pins_of (among ds)) same ts)
      ∙ sym (filter-append test (flat_map (pins_of (among ds)) ts) (by_design.naming net))

  pub ours_listed : (cs : List Component) → filter ours (listed cs) ≡ filter ours (listed (the_one cs))
  ours_listed cs = of_terminals ours cs (the_one cs) (λ t.
      kinds_alike (filter ours) (is_virtual t) (is_of_all t) (is_of_design t)
      (filter_map (pin_in library u name t.pin) cs) (filter_map (pin_in library u name t.pin) (the_one cs))
      (by_design.of_design t.pin) (by_design.of_design t.pin)
      (pin_of library u name (named library u name cs t.owner) t.pin) (pin_of library u name (named library u name (the_one cs) t.owner) t.pin)
      (own_of_all library u name t.pin cs ∙ ap (filter_map (pin_in library u name t.pin)) (sym (kept_twice (its library u name) cs)) ∙ sym (own_of_all library u name t.pin (the_one cs)))
      refl
      (own_of_named library u name t.owner t.pin cs))

  pub theirs_listed : (cs : List Component) → filter theirs (listed cs) ≡ filter theirs (listed (rest cs))
  theirs_listed cs = of_terminals theirs cs (rest cs) (λ t.
      kinds_alike (filter theirs) (is_virtual t) (is_of_all t) (is_of_design t)
      (filter_map (pin_in library u name t.pin) cs) (filter_map (pin_in library u name t.pin) (rest cs))
      (by_design.of_design t.pin) (by_design.of_design t.pin)
      (pin_of library u name (named library u name cs t.owner) t.pin) (pin_of library u name (named library u name (rest cs) t.owner) t.pin)
      (others_of_all library u name t.pin cs
      ∙ ap (filter_map (pin_in library u name t.pin)) (sym (kept_twice (λ (c : Component). not (its library u name c)) cs))
      ∙ sym (others_of_all library u name t.pin (rest cs)))
      refl
      (others_of_named library u name t.owner t.pin cs))

  pub single_listed : (cs : List Component) → filter single (listed cs) ≡ filter single (listed [])
  single_listed cs = of_terminals single cs [] (λ t.
      kinds_alike (filter single) (is_virtual t) (is_of_all t) (is_of_design t)
      (filter_map (pin_in library u name t.pin) cs) []
      (by_design.of_design t.pin) (by_design.of_design t.pin)
      (pin_of library u name (named library u name cs t.owner) t.pin) []
      (paired_of_all library u name t.pin cs)
      refl
      (paired_of_one library u name t.pin (named library u name cs t.owner)))

  no_double : (p : Option Pin) → filter double (option_to_list (option_map (design_pin library design u) p)) ≡ []
  no_double None = refl
  no_double (Some p) = refl

  no_doubles : (ps : List Pin) → filter double (map (design_pin library design u) ps) ≡ []
  no_doubles [] = refl
  no_doubles (p ∷ ps) = no_doubles ps

  pub double_listed : filter double (listed []) ≡ []
  double_listed =
      filter-append double (flat_map (pins_of (among [])) ts) (by_design.naming net)
      ∙ ap₂ (λ (xs ys : List NetPin). xs ++ ys)
      (none_flat double (pins_of (among [])) (λ t.
      kinds_alike (filter double) (is_virtual t) (is_of_all t) (is_of_design t) [] [] (by_design.of_design t.pin) [] [] []
      refl
      (no_double (find_named (λ (p : Pin). p.name) (design_pins library design u) t.pin))
      refl
      ∙ nothing (is_virtual t) (is_of_all t) (is_of_design t)) ts)
      (no_doubles (filter (names_net library design u net) (design_pins library design u)))
    where
      nothing : (v a d : Bool) → filter double (if v then [] else (if a then [] else (if d then [] else []))) ≡ []
      nothing true a d = refl
      nothing false true d = refl
      nothing false false true = refl
      nothing false false false = refl

  -- the pins of other components
  abbrev pub rest_pins : List Component → List NetPin
  rest_pins cs = each_once [] (filter double (filter theirs (listed cs)))

  module _ (w : NetPin → ℕ) where
    abbrev sum_of : List NetPin → ℕ
    sum_of ps = sum_by w (each_once [] ps)

    no_pins : sum_of [] ≡ 0
    unfolding Rattle.connection_rules.specs.Terminals.each_once
    no_pins = refl

    in_three : (cs : List Component) → sum_of (listed cs) ≡ sum_of (filter ours (listed cs)) + (sum_by w (rest_pins cs) + sum_of (filter theirs (filter single (listed []))))
    in_three cs =
        let halves = parted (is_own name) w [] (listed cs) in
        let quarters = parted is_paired w [] (filter theirs (listed cs)) in
        let alone = ap sum_of (both_ways single theirs (listed cs) ∙ ap (filter theirs) (single_listed cs)) in
        omega (arith, halves, quarters, alone)

    pub rest_beside : (cs : List Component) → sum_of (listed cs) ≡ sum_of (listed (the_one cs)) + sum_by w (rest_pins cs)
    rest_beside cs =
        let all = in_three cs in
        let few = in_three (the_one cs) in
        let same = ap sum_of (ours_listed cs) in
        let none = ap sum_of (
        ap (filter double) (theirs_listed (the_one cs) ∙ ap (λ (ds : List Component). filter theirs (listed ds)) (none_of_those (its library u name) cs))
        ∙ both_ways double theirs (listed [])
        ∙ ap (filter theirs) double_listed) in
        omega (arith, all, few, same, none, no_pins)

-- statements that tell what a component is to a net
module _ (net name : List ℕ) where
  or_true : (b : Bool) → (b || true) ≡ true
  or_true true = refl
  or_true false = refl

  common_tells : (r : Record) → is_common r ≡ true → tells_of net name r ≡ true
  common_tells (top t) h = ap (λ (b : Bool). b || is_of_net net (top t)) h
  common_tells (in_properties p) h = ap (λ (b : Bool). b || is_of_net net (in_properties p)) h
  common_tells (end_section s) h = ap (λ (b : Bool). b || is_of_net net (end_section s)) h
  common_tells (entry (records.component x)) h = absurd (cc)
  common_tells (entry (records.pin x)) h = refl
  common_tells (entry (records.region x)) h = absurd (cc)
  common_tells (entry (records.group x)) h = absurd (cc)
  common_tells (entry (records.blockage x)) h = absurd (cc)
  common_tells (entry (records.net x)) h = absurd (cc)
  common_tells (entry (records.special_net x)) h = absurd (cc)
  common_tells (entry (records.via x)) h = refl
  common_tells (entry (records.rule x)) h = refl
  common_tells (entry (records.skipped s x)) h = absurd (cc)

  net_tells : (r : Record) → is_of_net net r ≡ true → tells_of net name r ≡ true
  net_tells (top t) h = absurd (cc)
  net_tells (in_properties p) h = absurd (cc)
  net_tells (end_section s) h = absurd (cc)
  net_tells (entry (records.component x)) h = absurd (cc)
  net_tells (entry (records.pin x)) h = absurd (cc)
  net_tells (entry (records.region x)) h = absurd (cc)
  net_tells (entry (records.group x)) h = absurd (cc)
  net_tells (entry (records.blockage x)) h = absurd (cc)
  net_tells (entry (records.net x)) h = h
  net_tells (entry (records.special_net x)) h = h
  net_tells (entry (records.via x)) h = absurd (cc)
  net_tells (entry (records.rule x)) h = absurd (cc)
  net_tells (entry (records.skipped s x)) h = absurd (cc)

  pin_tells : (ts : List Terminal) (r : Record) → is_pin_of_net net ts r ≡ true → tells_of net name r ≡ true
  pin_tells ts (entry (records.pin p)) h = refl
  pin_tells ts _ h = absurd (cc)

  skipped_or_not : (b : Bool) (r : Record) (left : List Record) → component_of r ≡ None → filter_map component_of (if b then r ∷ left else left) ≡ filter_map component_of left
  skipped_or_not true r left none = ap (λ (c : Option Component). cons_option c (filter_map component_of left)) none
  skipped_or_not false r left none = refl

  -- they have the component alone
  components_told : (all : List Record) → filter_map component_of (filter (tells_of net name) all) ≡ filter (λ (c : Component). bytes_eq c.name name) (filter_map component_of all)
  components_told [] = refl
  components_told (top t ∷ all) = skipped_or_not (tells_of net name (top t)) (top t) (filter (tells_of net name) all) refl ∙ components_told all
  components_told (in_properties p ∷ all) = skipped_or_not (tells_of net name (in_properties p)) (in_properties p) (filter (tells_of net name) all) refl ∙ components_told all
  components_told (end_section s ∷ all) = skipped_or_not (tells_of net name (end_section s)) (end_section s) (filter (tells_of net name) all) refl ∙ components_told all
  components_told (entry (records.component c) ∷ all) = one (bytes_eq c.name name) (filter (tells_of net name) all) (components_told all)
    where
      one : (b : Bool) (left : List Record) → filter_map component_of left ≡ filter (λ (c : Component). bytes_eq c.name name) (filter_map component_of all)
          → filter_map component_of (if b then entry (records.component c) ∷ left else left)
          ≡ (if b then c ∷ filter (λ (c : Component). bytes_eq c.name name) (filter_map component_of all) else filter (λ (c : Component). bytes_eq c.name name) (filter_map component_of all))
      one true left later = ap (λ (l : List Component). c ∷ l) later
      one false left later = later
  components_told (entry (records.pin x) ∷ all) = components_told all
  components_told (entry (records.region x) ∷ all) = components_told all
  components_told (entry (records.group x) ∷ all) = components_told all
  components_told (entry (records.blockage x) ∷ all) = components_told all
  components_told (entry (records.net x) ∷ all) = skipped_or_not (tells_of net name (entry (records.net x))) (entry (records.net x)) (filter (tells_of net name) all) refl ∙ components_told all
  components_told (entry (records.special_net x) ∷ all) = skipped_or_not (tells_of net name (entry (records.special_net x))) (entry (records.special_net x)) (filter (tells_of net name) all) refl ∙ components_told all
  components_told (entry (records.via x) ∷ all) = components_told all
  components_told (entry (records.rule x) ∷ all) = components_told all
  components_told (entry (records.skipped s x) ∷ all) = components_told all

-- the net of a design that agrees with another on all but components
module _ (library : Library) (a : List Record) (u : ℕ) (net name : List ℕ) where
  abbrev wired : List Record → List Wired
  wired design = filter (is_named library design u net) (all_wired library design u)

  abbrev terminals : List Wired → List Terminal
  terminals ws = flat_map (λ (w : Wired). w.terminals) ws

  abbrev pins_with : List Component → List NetPin
  pins_with cs = listed library a u net name (terminals (wired a)) cs

  abbrev parts_by : List NetPin → List Wired → List Part
  parts_by ps ws = map pin_part (filter (λ (p : NetPin). p.counts) (each_once [] ps)) ++ drawn_parts library.layers ws

  -- the pins that count, as parts
  abbrev counting : List NetPin → List Part
  counting ps = map pin_part (filter (λ (p : NetPin). p.counts) (each_once [] ps))

  all_pins : (ps : List NetPin) → pins_in (map pin_part ps) ≡ map pin_part ps
  all_pins [] = refl
  all_pins (p ∷ ps) = ap (λ (l : List Part). pin_part p ∷ l) (all_pins ps)

  no_pins_drawn : (layers : List lef.Layer) (all : List (List NamedShape)) → pins_in (filter has_shapes (map (drawn_part layers) all)) ≡ []
  no_pins_drawn layers [] = refl
  no_pins_drawn layers (ss ∷ all) = one (has_shapes (drawn_part layers ss)) (filter has_shapes (map (drawn_part layers) all)) (no_pins_drawn layers all)
    where
      one : (b : Bool) (left : List Part) → pins_in left ≡ [] → pins_in (if b then drawn_part layers ss ∷ left else left) ≡ []
      one true left h = h
      one false left h = h

  pins_are : (ps : List NetPin) (ws : List Wired) → pins_in (parts_by ps ws) ≡ counting ps
  pins_are ps ws =
      filter-append (λ (p : Part). p.is_pin) (counting ps) (drawn_parts library.layers ws)
      ∙ ap₂ (λ (xs ys : List Part). xs ++ ys) (all_pins (filter (λ (p : NetPin). p.counts) (each_once [] ps))) (no_pins_drawn library.layers (flat_map (λ (w : Wired). drawn w.pieces) ws))
      ∙ append-nil (counting ps)

  abbrev others_with : List Component → List Part
  others_with cs = map pin_part (filter (λ (p : NetPin). p.counts) (rest_pins library a u net name (terminals (wired a)) cs))

  -- the pins of a design that agrees on what its entries list
  module _ (x : List Record) (cs : List Component) (common : filter is_common x ≡ filter is_common a) (lists : terminals (wired x) ≡ terminals (wired a)) (pins : pins_of_net x net ≡ pins_of_net a net)
      (components : filter_map component_of x ≡ cs) where
    abbrev pins_here : PinsByName
    pins_here = pins_by_name library x u

    abbrev pins_there : PinsByName
    pins_there = among library a u net name (terminals (wired a)) cs

    same_terminal : (t : Terminal) → FindsPin library u x a t → pins_of pins_here t ≡ pins_of pins_there t
    same_terminal t found =
        by_kind (is_virtual t) (is_of_all t) (is_of_design t)
        (filter_map (pin_in library u name t.pin) (filter_map component_of x)) (filter_map (pin_in library u name t.pin) cs)
        (pins_here.of_design t.pin) (pins_there.of_design t.pin)
        (pin_of library u name (named library u name (filter_map component_of x) t.owner) t.pin) (pin_of library u name (named library u name cs t.owner) t.pin)
        (λ star. ap (filter_map (pin_in library u name t.pin)) components)
        (same_design library x a u common t found)
        (ap (λ (ds : List Component). pin_of library u name (named library u name ds t.owner) t.pin) components)

    same_pins_of : (ts : List Terminal) → AllByRecursion (FindsPin library u x a) ts → flat_map (pins_of pins_here) ts ≡ flat_map (pins_of pins_there) ts
    same_pins_of [] found = refl
    same_pins_of (t ∷ ts) found = ap₂ (λ (ps qs : List NetPin). ps ++ qs) (same_terminal t found.0) (same_pins_of ts found.1)

    same_terminals : terminals_in x net ≡ terminals_in a net
    same_terminals = sym (terminals_are library x u net) ∙ lists ∙ terminals_are library a u net

    they_find : AllByRecursion (FindsPin library u x a) (terminals (wired x))
    they_find = subst (AllByRecursion (FindsPin library u x a)) (sym (terminals_are library x u net)) (terminals_find library u x a net same_terminals pins)

    same_listed : flat_map (pins_of pins_here) (terminals (wired x)) ++ pins_here.naming net ≡ pins_with cs
    same_listed =
        ap₂ (λ (xs ys : List NetPin). xs ++ ys)
        (same_pins_of (terminals (wired x)) they_find ∙ ap (flat_map (pins_of pins_there)) lists)
        (same_naming library x a u common net (same_naming_pins library u x a net same_terminals pins))

    pins_based : pins_in (net_named library x u net).parts ≡ counting (pins_with cs)
    pins_based = ap (λ (ps : List NetPin). pins_in (parts_by ps (wired x))) same_listed ∙ pins_are (pins_with cs) (wired x)

  module _ (x : List Record) (cs : List Component) (common : filter is_common x ≡ filter is_common a) (entries : filter (is_of_net net) x ≡ filter (is_of_net net) a)
      (pins : pins_of_net x net ≡ pins_of_net a net) (components : filter_map component_of x ≡ cs) where
    same_wired : wired x ≡ wired a
    same_wired = named_wired_same library x a u common net entries

    based : (net_named library x u net).parts ≡ parts_by (pins_with cs) (wired a)
    based = ap₂ parts_by (same_listed x cs common (ap terminals same_wired) pins components) same_wired

    power_based : (net_named library x u net).is_power ≡ list_any (λ (w : Wired). w.is_power) (wired a)
    power_based = ap (list_any (λ (w : Wired). w.is_power)) same_wired

  pins_sum : (w : Part → ℕ) (ps : List NetPin) → sum_by w (parts_by ps (wired a)) ≡ sum_by (counted w) (each_once [] ps) + sum_by w (drawn_parts library.layers (wired a))
  pins_sum w ps =
      sum_by-append w (counting ps) (drawn_parts library.layers (wired a))
      ∙ ap (λ (n : ℕ). n + sum_by w (drawn_parts library.layers (wired a))) (counted_parts w (each_once [] ps))

  abbrev those : List Component → List Component
  those cs = filter (λ (c : Component). bytes_eq c.name name) cs

  abbrev staying : List Component → List Part
  staying cs = others_with cs ++ drawn_parts library.layers (wired a)

  beside : (cs : List Component) → SameThings (parts_by (pins_with cs) (wired a)) (counting (pins_with (those cs)) ++ staying cs)
  beside cs = record {
    sums = λ w.
        let drawn = drawn_parts library.layers (wired a) in
        let all = pins_sum w (pins_with cs) in
        let few = counted_parts w (each_once [] (pins_with (those cs))) in
        let pins = rest_beside library a u net name (terminals (wired a)) (counted w) cs in
        let more = counted_parts w (rest_pins library a u net name (terminals (wired a)) cs) in
        omega (arith, all, few, pins, more, sum_by-append w (counting (pins_with (those cs))) (staying cs), sum_by-append w (others_with cs) drawn);
  }

  -- a design that agrees so has these parts
  module _ (x : List Record) (common : filter is_common x ≡ filter is_common a) (entries : filter (is_of_net net) x ≡ filter (is_of_net net) a) (pins : pins_of_net x net ≡ pins_of_net a net) where
    told_common : filter is_common (filter (tells_of net name) x) ≡ filter is_common a
    told_common = within is_common (tells_of net name) (common_tells net name) x ∙ common

    told_entries : filter (is_of_net net) (filter (tells_of net name) x) ≡ filter (is_of_net net) a
    told_entries = within (is_of_net net) (tells_of net name) (net_tells net name) x ∙ entries

    told_pins : pins_of_net (filter (tells_of net name) x) net ≡ pins_of_net a net
    told_pins = pins_within net (tells_of net name) x (net_tells net name) (pin_tells net name (terminals_in x net)) ∙ pins

    by_one : pins_by_one library x u net name ≡ counting (pins_with (those (filter_map component_of x)))
    by_one =
        ap pins_in (based (filter (tells_of net name) x) (those (filter_map component_of x)) told_common told_entries told_pins (components_told net name x))
        ∙ pins_are (pins_with (those (filter_map component_of x))) (wired a)

    parted_beside : SameThings (net_named library x u net).parts (pins_by_one library x u net name ++ staying (filter_map component_of x))
    parted_beside = record {
      sums = λ w.
          ap (sum_by w) (based x (filter_map component_of x) common entries pins refl)
          ∙ (beside (filter_map component_of x)).sums w
          ∙ ap (λ (ps : List Part). sum_by w (ps ++ staying (filter_map component_of x))) (sym by_one);
    }

pub one_component_exchanged : OneComponentExchanged
one_component_exchanged library a b u net name agree =
    let ts = terminals library a u net name (wired library a u net name a) in
    let cs = filter_map component_of a in
    let ds = filter_map component_of b in
    let drawn = drawn_parts library.layers (wired library a u net name a) in
    let same : staying library a u net name ds ≡ staying library a u net name cs = ap (λ (l : List NetPin). map pin_part (filter (λ (p : NetPin). p.counts) (each_once [] (filter (λ (p : NetPin). is_paired p.words) l))) ++ drawn)
    (theirs_listed library a u net name ts ds
    ∙ ap (λ (l : List Component). filter (not_own library u name) (listed library a u net name ts l)) (sym agree.components)
    ∙ sym (theirs_listed library a u net name ts cs)) in
    record {
      stay = staying library a u net name cs;
      exchange = record {
        old_is = parted_beside library a u net name a refl refl refl;
        new_is = subst (λ (l : List Part). SameThings (net_named library b u net).parts (pins_by_one library b u net name ++ l)) same (parted_beside library a u net name b (sym agree.common) (sym agree.entries) (sym agree.pins));
      };
      same_power = sym (power_based library a u net name b ds (sym agree.common) (sym agree.entries) (sym agree.pins) refl);
    }

-- few statements that tell of the component tell its pins
pub one_component_is_told : OneComponentIsTold
one_component_is_told library some design net name tell =
    let alone : TellNet some some net = record { agree = record { common = refl; entries = refl; pins = refl; components = found_alike some (terminals_in some net) }; only = tell.only } in
    let is = told library some some net alone in
    let scales = same_scale library some design tell.common in
    record {
      same_scale = scales;
      told = net_named library some (scale some) net;
      nets = is.nets;
      pins =
          pins_based library design (scale some) net name some (those_named name design) tell.common (terminals_are library some (scale some) net ∙ (tell.terminals ∙ sym (terminals_are library design (scale some) net))) tell.pins tell.components
          ∙ sym (by_one library design (scale some) net name design refl refl refl)
          ∙ ap (λ (u : ℕ). pins_by_one library design u net name) scales;
    }
  where
    found_alike : (ds : List Record) (ts : List Terminal) → AllByRecursion (FindsAlike ds ds) ts
    found_alike ds [] = tt
    found_alike ds (t ∷ ts) = (record { named = refl; all = λ star. refl }, found_alike ds ts)
