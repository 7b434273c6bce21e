-- What is known by a design is known by what its named entries show, and without some components where these aren't asked for.
use Rattle.std.proofs.Common.{◌≡◌, ◌⊎◌, inl, inr, ℕ, Bool, true, false, not, ◌&&◌, ◌||◌, List, [], ◌∷◌, filter, map, Option, Some, None, is_some, refl, sym, ap, ap₂, ◌∙◌, if◌then◌else◌, ⊎_elim, arith}
use Rattle.std.specs.List.{AllByRecursion, cons_option, filter_map, list_any}
use Rattle.std.specs.Option.{option_map}
use Rattle.std.specs.Str.{bytes_eq}
use Rattle.std.proofs.lemmas.Slice.Eq.{bytes_eq-Decides}
use Rattle.form_meanings.specs.Words.{◌>>=◌}
use Rattle.form_meanings.specs.Firsts.{find_named}
use Rattle.design_model.specs.declared.mode.Section.{Section}
use Rattle.design_model.specs.declared.mode.Section.TheVariants.{Components, Nets, NonDefaultRules, Pins, Regions, SpecialNets, Vias}
use Rattle.design_model.specs.EnumWords.{section_word}
use Rattle.def_grammar.specs.Components.{Component}
use Rattle.def_grammar.specs.DefVias.{DefVia}
use Rattle.def_grammar.specs.Records as records
use Rattle.def_grammar.specs.Records.{Entry, Record, entry_of, name_of}
use Rattle.lef_grammar.specs.Library.{Library, Macro, macro_named, rule_named, via_named}
use Rattle.lef_grammar.specs.Definitions as lef
use Rattle.entry_rules.specs.References.{Reference, to_layer, to_macro, to_net, to_region, to_rule, to_site, to_terminal, to_via}
use Rattle.entry_rules.specs.Unknown.{component_named, is_lacking, is_same, known_by, stands_in}
use Rattle.entry_rules.specs.ViaLayers.{body_layers, def_rule_named, def_via_layers, def_via_named, layers_named, or_lef, routing_layers, via_layers}
use Rattle.agreement_laws.specs.Agreement.{AgreeOn, Shown, all_shown, is_named, names_component, shown, shown_but, shows_component}
use Rattle.agreement_laws.proofs.ShownLemmas.{cell_shown, cell_step, cells_shown, every_shown, is_shown_in, macro_of_cell, named_or_not, rules_by, rules_shown, stands_shown, vias_shown}

-- lists without what doesn't matter
module _ (keep : Shown → Bool) where
  any_step : (test : Shown → Bool) (x : Shown) (b : Bool) (xs ys : List Shown) → (b ≡ false → test x ≡ false) → list_any test xs ≡ list_any test ys
      → (test x || list_any test xs) ≡ list_any test (if b then x ∷ ys else ys)
  any_step test x true xs ys h r = ap (λ (t : Bool). test x || t) r
  any_step test x false xs ys h r = ap (λ (t : Bool). t || list_any test xs) (h refl) ∙ r

  any_kept : (test : Shown → Bool) → ((e : Entry) → keep (shown e) ≡ false → test (shown e) ≡ false) → (es : List Entry)
      → list_any test (map shown es) ≡ list_any test (filter keep (map shown es))
  any_kept test h [] = refl
  any_kept test h (e ∷ es) = any_step test (shown e) (keep (shown e)) (map shown es) (filter keep (map shown es)) (h e) (any_kept test h es)

  found_step : {B : Type 0} (f : Shown → Option B) (x : Shown) (b : Bool) (xs ys : List Shown) → (b ≡ false → f x ≡ None) → filter_map f xs ≡ filter_map f ys
      → cons_option (f x) (filter_map f xs) ≡ filter_map f (if b then x ∷ ys else ys)
  found_step f x true xs ys h r = ap (cons_option (f x)) r
  found_step {B} f x false xs ys h r = ap (λ (o : Option B). cons_option o (filter_map f xs)) (h refl) ∙ r

  found_kept : {B : Type 0} (f : Shown → Option B) → ((e : Entry) → keep (shown e) ≡ false → f (shown e) ≡ None) → (es : List Entry)
      → filter_map f (map shown es) ≡ filter_map f (filter keep (map shown es))
  found_kept f h [] = refl
  found_kept f h (e ∷ es) = found_step f (shown e) (keep (shown e)) (map shown es) (filter keep (map shown es)) (h e) (found_kept f h es)

  cell_kept_step : (name : List ℕ) (x : Shown) (b : Bool) (xs ys : List Shown) → (b ≡ false → (q : Option (List ℕ)) → cell_step name x.name x.cell q ≡ q)
      → cell_shown xs name ≡ cell_shown ys name → cell_step name x.name x.cell (cell_shown xs name) ≡ cell_shown (if b then x ∷ ys else ys) name
  cell_kept_step name x true xs ys h r = ap (cell_step name x.name x.cell) r
  cell_kept_step name x false xs ys h r = h refl (cell_shown xs name) ∙ r

  cells_kept : (name : List ℕ) → ((e : Entry) → keep (shown e) ≡ false → (q : Option (List ℕ)) → cell_step name (name_of e) (shown e).cell q ≡ q) → (es : List Entry)
      → cell_shown (map shown es) name ≡ cell_shown (filter keep (map shown es)) name
  cells_kept name h [] = refl
  cells_kept name h (e ∷ es) = cell_kept_step name (shown e) (keep (shown e)) (map shown es) (filter keep (map shown es)) (h e) (cells_kept name h es)

two_step : (p q : Shown → Bool) (a b : Bool) (x : Shown) (xs : List Shown) → filter p (filter q xs) ≡ filter (λ y. q y && p y) xs → p x ≡ b
    → filter p (if a then x ∷ filter q xs else filter q xs) ≡ (if a && b then x ∷ filter (λ y. q y && p y) xs else filter (λ y. q y && p y) xs)
two_step p q true b x xs r is = ap (λ (t : Bool). if t then x ∷ filter p (filter q xs) else filter p (filter q xs)) is ∙ ap (λ (l : List Shown). if b then x ∷ l else l) r
two_step p q false b x xs r is = r

two_filters : (p q : Shown → Bool) (xs : List Shown) → filter p (filter q xs) ≡ filter (λ y. q y && p y) xs
two_filters p q [] = refl
two_filters p q (x ∷ xs) = two_step p q (q x) (p x) x xs (two_filters p q xs) refl

unseen : (a b : Bool) → (a && not b) ≡ false → (a ≡ false) ⊎ (b ≡ true)
unseen true true h = inr refl
unseen true false h = absurd (cc)
unseen false b h = inl refl

not_both : (a b : Bool) → b ≡ false → (a && b) ≡ false
not_both true b h = h
not_both false b h = refl

no_name : (name : List ℕ) (o : Option (List ℕ)) → is_some o ≡ false → is_same name o ≡ false
no_name name None h = refl
no_name name (Some own) h = absurd (cc)

-- where some of what is shown is hidden, all of it of components
module _ (hidden : Shown → Bool) (are : (x : Shown) → hidden x ≡ true → section_word x.section ≡ section_word Components) where
  abbrev is_left : Shown → Bool
  is_left x = is_named x && not (hidden x)

  abbrev seen : List Record → List Shown
  seen design = filter (λ x. not (hidden x)) (all_shown design)

  all_left : (design : List Record) → filter is_left (every_shown design) ≡ seen design
  all_left design = sym (two_filters (λ x. not (hidden x)) is_named (every_shown design))

  -- entries of other sections than COMPONENTS
  other_section : (s : Section) (name : List ℕ) → bytes_eq (section_word Components) (section_word s) ≡ false → (x : Shown) → is_left x ≡ false → is_shown_in s name x ≡ false
  other_section s name apart x h = ⊎_elim
      (λ none. not_both (bytes_eq (section_word x.section) (section_word s)) (is_same name x.name) (no_name name x.name none))
      (λ is. ap (λ (w : List ℕ). bytes_eq w (section_word s) && is_same name x.name) (are x is) ∙ ap (λ (b : Bool). b && is_same name x.name) apart)
      (unseen (is_named x) (hidden x) h)

  -- components of other names than those that are hidden
  other_name : (name : List ℕ) → ((x : Shown) → hidden x ≡ true → is_same name x.name ≡ false) → (x : Shown) → is_left x ≡ false → is_same name x.name ≡ false
  other_name name apart x h = ⊎_elim (no_name name x.name) (apart x) (unseen (is_named x) (hidden x) h)

  vias_left : (e : Entry) → is_left (shown e) ≡ false → (shown e).via ≡ None
  unfolding section_word
  vias_left (records.via v) h = ⊎_elim
      (λ none. let n : true ≡ false = none in absurd (cc))
      (λ is. let n : true ≡ false = ap (bytes_eq (section_word Vias)) (are (shown (records.via v)) is) in absurd (cc))
      (unseen true (hidden (shown (records.via v))) h)
  vias_left (records.component x) h = refl
  vias_left (records.pin x) h = refl
  vias_left (records.region x) h = refl
  vias_left (records.group x) h = refl
  vias_left (records.blockage x) h = refl
  vias_left (records.net x) h = refl
  vias_left (records.special_net x) h = refl
  vias_left (records.rule x) h = refl
  vias_left (records.skipped s x) h = refl

  rules_left : (name : List ℕ) (e : Entry) → is_left (shown e) ≡ false → rules_by name (shown e) ≡ false
  unfolding section_word
  rules_left name (records.rule r) h = ⊎_elim
      (λ none. let n : true ≡ false = none in absurd (cc))
      (λ is. let n : true ≡ false = ap (bytes_eq (section_word NonDefaultRules)) (are (shown (records.rule r)) is) in absurd (cc))
      (unseen true (hidden (shown (records.rule r))) h)
  rules_left name (records.component x) h = refl
  rules_left name (records.pin x) h = refl
  rules_left name (records.region x) h = refl
  rules_left name (records.group x) h = refl
  rules_left name (records.blockage x) h = refl
  rules_left name (records.net x) h = refl
  rules_left name (records.special_net x) h = refl
  rules_left name (records.via x) h = refl
  rules_left name (records.skipped s x) h = refl

  cells_left : (name : List ℕ) → ((x : Shown) → hidden x ≡ true → is_same name x.name ≡ false) → (e : Entry) → is_left (shown e) ≡ false
      → (q : Option (List ℕ)) → cell_step name (name_of e) (shown e).cell q ≡ q
  cells_left name apart (records.component c) h q = ap (λ (b : Bool). if b then Some c.cell else q) (other_name name apart (shown (records.component c)) h)
  cells_left name apart (records.pin x) h q = refl
  cells_left name apart (records.region x) h q = refl
  cells_left name apart (records.group x) h q = refl
  cells_left name apart (records.blockage x) h q = refl
  cells_left name apart (records.net x) h q = sym (named_or_not name (name_of (records.net x)) q)
  cells_left name apart (records.special_net x) h q = refl
  cells_left name apart (records.via x) h q = refl
  cells_left name apart (records.rule x) h q = refl
  cells_left name apart (records.skipped s x) h q = refl

  -- what a reference names isn't hidden
  abbrev names_shown : Reference → Shown → Bool
  names_shown (to_terminal owner pin) x = is_same owner x.name
  names_shown _ x = false

  abbrev Asks : Reference → Type 0
  Asks r = (x : Shown) → hidden x ≡ true → names_shown r x ≡ false

  module _ (library : Library) (design other : List Record) (same : seen design ≡ seen other) where
    lefts : filter is_left (every_shown design) ≡ filter is_left (every_shown other)
    lefts = all_left design ∙ same ∙ sym (all_left other)

    any_of : (test : Shown → Bool) → ((e : Entry) → is_left (shown e) ≡ false → test (shown e) ≡ false) → list_any test (every_shown design) ≡ list_any test (every_shown other)
    any_of test h =
        any_kept is_left test h (filter_map entry_of design) ∙ ap (list_any test) lefts ∙ sym (any_kept is_left test h (filter_map entry_of other))

    stands : (s : Section) (name : List ℕ) → ((e : Entry) → is_left (shown e) ≡ false → is_shown_in s name (shown e) ≡ false) → stands_in design s name ≡ stands_in other s name
    stands s name h = stands_shown design s name ∙ any_of (is_shown_in s name) h ∙ sym (stands_shown other s name)

    stands_other : (s : Section) (name : List ℕ) → bytes_eq (section_word Components) (section_word s) ≡ false → stands_in design s name ≡ stands_in other s name
    stands_other s name apart = stands s name (λ e. other_section s name apart (shown e))

    via_of : (name : List ℕ) → def_via_named design name ≡ def_via_named other name
    via_of name =
        ap (λ (vs : List DefVia). find_named (λ (v : DefVia). v.name) vs name)
        (vias_shown design ∙ found_kept is_left (λ (x : Shown). x.via) vias_left (filter_map entry_of design) ∙ ap (filter_map (λ (x : Shown). x.via)) lefts
        ∙ sym (found_kept is_left (λ (x : Shown). x.via) vias_left (filter_map entry_of other)) ∙ sym (vias_shown other))

    layers_of : (name : List ℕ) → layers_named library design name ≡ layers_named library other name
    layers_of name = ap (λ (o : Option DefVia). or_lef (option_map def_via_layers o) (option_map (λ (v : lef.Via). body_layers v.body) (via_named library name))) (via_of name)

    rule_of : (name : List ℕ) → is_some (def_rule_named design name) ≡ is_some (def_rule_named other name)
    rule_of name = rules_shown design name ∙ any_of (rules_by name) (rules_left name) ∙ sym (rules_shown other name)

    cell_of : (name : List ℕ) → ((x : Shown) → hidden x ≡ true → is_same name x.name ≡ false)
        → (component_named design name >>= λ (c : Component). macro_named library c.cell) ≡ (component_named other name >>= λ (c : Component). macro_named library c.cell)
    cell_of name apart =
        macro_of_cell library (component_named design name)
        ∙ ap (λ (o : Option (List ℕ)). o >>= macro_named library)
        (cells_shown design name ∙ cells_kept is_left name (cells_left name apart) (filter_map entry_of design) ∙ ap (λ (xs : List Shown). cell_shown xs name) lefts
        ∙ sym (cells_kept is_left name (cells_left name apart) (filter_map entry_of other)) ∙ sym (cells_shown other name))
        ∙ sym (macro_of_cell library (component_named other name))

    agree : (r : Reference) → Asks r → AgreeOn (known_by library design) (known_by library other) r
    unfolding section_word
    agree (to_macro name) apart = refl
    agree (to_region name) apart = stands_other Regions name refl
    agree (to_site name) apart = refl
    agree (to_layer name) apart = refl
    agree (to_via name) apart = ap (λ (o : Option (List (List ℕ))). is_some o) (layers_of name)
    agree (to_rule name) apart = ap (λ (b : Bool). b || is_some (rule_named library name)) (rule_of name)
    agree (to_net name) apart = ap₂ (λ (a b : Bool). a || b) (stands_other Nets name refl) (stands_other SpecialNets name refl)
    agree (to_terminal owner pin) apart = (
      stands_other Pins pin refl,
      stands Components owner
          (λ e h. not_both (bytes_eq (section_word (shown e).section) (section_word Components)) (is_same owner (shown e).name) (other_name owner apart (shown e) h)),
      ap (λ (o : Option Macro). is_lacking pin o) (cell_of owner apart),
    )

    all_agree : (xs : List Reference) → AllByRecursion Asks xs → AllByRecursion (AgreeOn (known_by library design) (known_by library other)) xs
    all_agree [] h = tt
    all_agree (x ∷ xs) h = (agree x h.0, all_agree xs h.1)

    layers_agree : (xs : List (List ℕ)) → AllByRecursion (λ (via : List ℕ). via_layers library design via ≡ via_layers library other via) xs
    layers_agree [] = tt
    layers_agree (x ∷ xs) = (ap (option_map (routing_layers library)) (layers_of x), layers_agree xs)

-- nothing is hidden
abbrev none_hidden : Shown → Bool
none_hidden x = false

none_are : (x : Shown) → none_hidden x ≡ true → section_word x.section ≡ section_word Components
none_are x h = absurd (cc)

none_asked : (xs : List Reference) → AllByRecursion (Asks none_hidden none_are) xs
none_asked [] = tt
none_asked (r ∷ xs) = ((λ x h. absurd (cc)), none_asked xs)

module _ (library : Library) (design other : List Record) (same : all_shown design ≡ all_shown other) where
  pub names_agree : (xs : List Reference) → AllByRecursion (AgreeOn (known_by library design) (known_by library other)) xs
  names_agree xs = all_agree none_hidden none_are library design other (ap (filter (λ (x : Shown). true)) same) xs (none_asked xs)

  pub vias_agree : (xs : List (List ℕ)) → AllByRecursion (λ (via : List ℕ). via_layers library design via ≡ via_layers library other via) xs
  vias_agree xs = layers_agree none_hidden none_are library design other (ap (filter (λ (x : Shown). true)) same) xs

-- the components of one name are hidden
front_true : (a b : Bool) → (a && b) ≡ true → a ≡ true
front_true true b h = refl
front_true false b h = absurd (cc)

behind_true : (a b : Bool) → (a && b) ≡ true → b ≡ true
behind_true true b h = h
behind_true false b h = absurd (cc)

neither : (a b : Bool) → (a || b) ≡ false → (a ≡ false) × (b ≡ false)
neither true b h = absurd (cc)
neither false b h = (refl, h)

same_words : (a b : List ℕ) → bytes_eq a b ≡ true → a ≡ b
same_words a b t = (bytes_eq-Decides a b).0 t

turned : (a b : List ℕ) → bytes_eq a b ≡ bytes_eq b a
turned a b = grind (arith, bytes_eq-Decides)

module _ (component : List ℕ) where
  those_are : (x : Shown) → shows_component component x ≡ true → section_word x.section ≡ section_word Components
  those_are x h = same_words (section_word x.section) (section_word Components) (front_true (bytes_eq (section_word x.section) (section_word Components)) (is_same component x.name) h)

  other_owner : (owner : List ℕ) (o : Option (List ℕ)) → bytes_eq owner component ≡ false → is_same component o ≡ true → is_same owner o ≡ false
  other_owner owner None apart h = refl
  other_owner owner (Some own) apart h = ap (λ (n : List ℕ). bytes_eq n owner) (same_words own component h) ∙ turned component owner ∙ apart

  asked : (r : Reference) → names_component component r ≡ false → Asks (shows_component component) those_are r
  asked (to_terminal owner pin) apart x h =
      other_owner owner x.name apart (behind_true (bytes_eq (section_word x.section) (section_word Components)) (is_same component x.name) h)
  asked (to_macro name) apart x h = refl
  asked (to_region name) apart x h = refl
  asked (to_site name) apart x h = refl
  asked (to_layer name) apart x h = refl
  asked (to_via name) apart x h = refl
  asked (to_rule name) apart x h = refl
  asked (to_net name) apart x h = refl

  all_asked : (xs : List Reference) → list_any (names_component component) xs ≡ false → AllByRecursion (Asks (shows_component component) those_are) xs
  all_asked [] h = tt
  all_asked (r ∷ xs) h = let p = neither (names_component component r) (list_any (names_component component) xs) h in (asked r p.0, all_asked xs p.1)

  module _ (library : Library) (design other : List Record) (same : shown_but component design ≡ shown_but component other) where
    pub names_agree_but : (xs : List Reference) → list_any (names_component component) xs ≡ false → AllByRecursion (AgreeOn (known_by library design) (known_by library other)) xs
    names_agree_but xs h = all_agree (shows_component component) those_are library design other same xs (all_asked xs h)

    pub vias_agree_but : (xs : List (List ℕ)) → AllByRecursion (λ (via : List ℕ). via_layers library design via ≡ via_layers library other via) xs
    vias_agree_but xs = layers_agree (shows_component component) those_are library design other same xs
