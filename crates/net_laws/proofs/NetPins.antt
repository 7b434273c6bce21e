-- The pins of the design that are of a net: where two designs have the same, so do its terminals find, and the same name it.
use Rattle.std.proofs.Common.{◌≡◌, ◌∙◌, ℕ, Bool, true, false, ◌||◌, ◌&&◌, List, [], ◌∷◌, ◌++◌, filter, Option, Some, refl, sym, ap, ap₂, if◌then◌else◌}
use Rattle.std.specs.Prelude.{flat_map}
use Rattle.std.specs.List.{AllByRecursion, filter_map, list_any}
use Rattle.std.specs.Str.{bytes_eq}
use Rattle.std.proofs.lemmas.Slice.Eq.{bytes_eq-Decides}
use Rattle.form_meanings.specs.Firsts.{find_named}
use Rattle.def_grammar.specs.Pins.{Pin}
use Rattle.def_grammar.specs.Records as records
use Rattle.def_grammar.specs.Records.{Record, entry}
use Rattle.def_grammar.specs.Terminals.{Terminal, is_of_design}
use Rattle.lef_grammar.specs.Library.{Library}
use Rattle.connection_rules.specs.Terminals.{design_pins, names_net, pin_of}
use Rattle.net_laws.specs.NetsTold.{is_named_or_listed, is_of_net, is_pin_of_net, lists_pin, pins_of_net, terminals_in, terminals_of}
use Rattle.net_laws.specs.OneNet.{AllPinsTell, OwnPinsTell, is_of_pins}
use Rattle.net_laws.proofs.Selecting.{exchanged_alike, within}

or_first : (b c : Bool) → b ≡ true → (b || c) ≡ true
or_first true c h = refl
or_first false c h = absurd (cc)

or_second : (b c : Bool) → c ≡ true → (b || c) ≡ true
or_second true c h = refl
or_second false c h = h

-- where two designs agree on a net's entries, so do they on its terminals
pub same_terminals : (a b : List Record) (net : List ℕ) → filter (is_of_net net) a ≡ filter (is_of_net net) b → terminals_in a net ≡ terminals_in b net
same_terminals a b net entries = ap (flat_map terminals_of) entries

-- pins are the same where what is filtered by the terminals of one design is
by_terminals : (a b : List Record) (net : List ℕ) → terminals_in a net ≡ terminals_in b net → filter (is_pin_of_net net (terminals_in a net)) a ≡ filter (is_pin_of_net net (terminals_in a net)) b
    → pins_of_net a net ≡ pins_of_net b net
by_terminals a b net same pins = pins ∙ ap (λ (ts : List Terminal). filter (is_pin_of_net net ts) b) same

-- statements that are no pins of the net are exchanged
pub pins_exchanged : (front out put behind : List Record) (net : List ℕ) → filter (is_of_net net) (front ++ (out ++ behind)) ≡ filter (is_of_net net) (front ++ (put ++ behind))
    → list_any (is_pin_of_net net (terminals_in (front ++ (out ++ behind)) net)) out ≡ false → list_any (is_pin_of_net net (terminals_in (front ++ (out ++ behind)) net)) put ≡ false
    → pins_of_net (front ++ (out ++ behind)) net ≡ pins_of_net (front ++ (put ++ behind)) net
pins_exchanged front out put behind net entries g h =
    by_terminals (front ++ (out ++ behind)) (front ++ (put ++ behind)) net (same_terminals (front ++ (out ++ behind)) (front ++ (put ++ behind)) net entries)
    (exchanged_alike (is_pin_of_net net (terminals_in (front ++ (out ++ behind)) net)) front out put behind g h)

-- among statements that have each pin of it a net has the same
pub pins_within : (net : List ℕ) (test : Record → Bool) (all : List Record) → ((r : Record) → is_of_net net r ≡ true → test r ≡ true)
    → ((r : Record) → is_pin_of_net net (terminals_in all net) r ≡ true → test r ≡ true) → pins_of_net (filter test all) net ≡ pins_of_net all net
pins_within net test all nets pins =
    ap (λ (ts : List Terminal). filter (is_pin_of_net net ts) (filter test all)) (ap (flat_map terminals_of) (within (is_of_net net) test nets all))
    ∙ within (is_pin_of_net net (terminals_in all net)) test pins all

-- a pin of a net is one of the design
of_design : (net : List ℕ) (ts : List Terminal) (r : Record) → is_pin_of_net net ts r ≡ true → is_of_pins r ≡ true
of_design net ts (entry (records.pin p)) h = refl
of_design net ts _ h = absurd (cc)

pub all_pins_tell : AllPinsTell
all_pins_tell some design net same all =
    let test = is_pin_of_net net (terminals_in some net) in
    by_terminals some design net same
    (sym (within test is_of_pins (of_design net (terminals_in some net)) some) ∙ ap (filter test) all ∙ within test is_of_pins (of_design net (terminals_in some net)) design)

pub own_pins_tell : OwnPinsTell
own_pins_tell some design net same own =
    let test = is_pin_of_net net (terminals_in some net) in
    let there = is_pin_of_net net (terminals_in design net) in
    sym (within test is_of_pins (of_design net (terminals_in some net)) some)
    ∙ ap (filter test) own
    ∙ ap (λ (ts : List Terminal). filter (is_pin_of_net net ts) (pins_of_net design net)) same
    ∙ within there there (λ r h. h) design

-- a terminal finds the same pin of the design in two designs
abbrev pub FindsPin : Library → ℕ → List Record → List Record → Terminal → Type 0
FindsPin library u a b t = is_of_design t ≡ true → find_named (λ (p : Pin). p.name) (design_pins library a u) t.pin ≡ find_named (λ (p : Pin). p.name) (design_pins library b u) t.pin

module _ (library : Library) (u : ℕ) (net : List ℕ) (listed : List Terminal) where
  abbrev test : Pin → Bool
  test p = is_named_or_listed net listed p

  abbrev found : List Pin → List ℕ → Option Pin
  found ps name = find_named (λ (p : Pin). p.name) ps name

  -- the pins among statements are those among all pins
  kept_or_not : (design : List Record) (b : Bool) (p : Pin) (left : List Record) (those : List Pin) → filter_map (pin_of library design u) left ≡ those
      → filter_map (pin_of library design u) (if b then entry (records.pin p) ∷ left else left) ≡ (if b then p ∷ those else those)
  kept_or_not design true p left those later = ap (λ (ps : List Pin). p ∷ ps) later
  kept_or_not design false p left those later = later

  pins_kept : (design all : List Record) → filter_map (pin_of library design u) (filter (is_pin_of_net net listed) all) ≡ filter test (filter_map (pin_of library design u) all)
  pins_kept design [] = refl
  pins_kept design (entry (records.pin p) ∷ all) = kept_or_not design (test p) p (filter (is_pin_of_net net listed) all) (filter test (filter_map (pin_of library design u) all)) (pins_kept design all)
  pins_kept design (_ ∷ all) = pins_kept design all

  -- a pin that is listed is found among them
  among : (name : List ℕ) → list_any (lists_pin name) listed ≡ true → (ps : List Pin) → found (filter test ps) name ≡ found ps name
  among name is [] = refl
  among name is (p ∷ ps) = one (bytes_eq p.name name) (test p) refl refl (among name is ps)
    where
      one : (b t : Bool) → bytes_eq p.name name ≡ b → test p ≡ t → found (filter test ps) name ≡ found ps name
          → found (if t then p ∷ filter test ps else filter test ps) name ≡ (if b then Some p else found ps name)
      one true true h g later = ap (λ (b : Bool). if b then Some p else found (filter test ps) name) h
      one false true h g later = ap (λ (b : Bool). if b then Some p else found (filter test ps) name) h ∙ later
      one false false h g later = later
      one true false h g later =
          absurd (
          let same : p.name ≡ name = (bytes_eq-Decides p.name name).0 h in
          let yes : test p ≡ true = or_second (names_net library [] u net p) (list_any (lists_pin p.name) listed) (ap (λ (n : List ℕ). list_any (lists_pin n) listed) same ∙ is) in
          cc)

  module _ (a b : List Record) (same : filter (is_pin_of_net net listed) a ≡ filter (is_pin_of_net net listed) b) where
    pins_alike : filter test (design_pins library a u) ≡ filter test (design_pins library b u)
    pins_alike = sym (pins_kept a a) ∙ ap (filter_map (pin_of library a u)) same ∙ pins_kept b b

    pub naming_alike : filter (names_net library a u net) (design_pins library a u) ≡ filter (names_net library b u net) (design_pins library b u)
    naming_alike =
        sym (within (names_net library a u net) test (λ p h. or_first (names_net library a u net p) (list_any (lists_pin p.name) listed) h) (design_pins library a u))
        ∙ ap (filter (names_net library a u net)) pins_alike
        ∙ within (names_net library b u net) test (λ p h. or_first (names_net library b u net p) (list_any (lists_pin p.name) listed) h) (design_pins library b u)

    found_alike : (name : List ℕ) → list_any (lists_pin name) listed ≡ true → found (design_pins library a u) name ≡ found (design_pins library b u) name
    found_alike name is = sym (among name is (design_pins library a u)) ∙ ap (λ (ps : List Pin). found ps name) pins_alike ∙ among name is (design_pins library b u)

    itself : (t : Terminal) → is_of_design t ≡ true → lists_pin t.pin t ≡ true
    itself t h = ap₂ (λ (b c : Bool). b && c) h ((bytes_eq-Decides t.pin t.pin).1 refl)

    all_find : (ts : List Terminal) → ((name : List ℕ) → list_any (lists_pin name) ts ≡ true → list_any (lists_pin name) listed ≡ true) → AllByRecursion (FindsPin library u a b) ts
    all_find [] follows = tt
    all_find (t ∷ ts) follows = (
      λ (is : is_of_design t ≡ true). found_alike t.pin (follows t.pin (or_first (lists_pin t.pin t) (list_any (lists_pin t.pin) ts) (itself t is))),
      all_find ts (λ name h. follows name (or_second (lists_pin name t) (list_any (lists_pin name) ts) h)),
    )

module _ (library : Library) (u : ℕ) (a b : List Record) (net : List ℕ) (terminals : terminals_in a net ≡ terminals_in b net) (pins : pins_of_net a net ≡ pins_of_net b net) where
  same_pins : filter (is_pin_of_net net (terminals_in a net)) a ≡ filter (is_pin_of_net net (terminals_in a net)) b
  same_pins = pins ∙ ap (λ (ts : List Terminal). filter (is_pin_of_net net ts) b) (sym terminals)

  pub terminals_find : AllByRecursion (FindsPin library u a b) (terminals_in a net)
  terminals_find = all_find library u net (terminals_in a net) a b same_pins (terminals_in a net) (λ name h. h)

  pub same_naming_pins : filter (names_net library a u net) (design_pins library a u) ≡ filter (names_net library b u net) (design_pins library b u)
  same_naming_pins = naming_alike library u net (terminals_in a net) a b same_pins
