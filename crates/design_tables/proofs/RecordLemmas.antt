-- What a statement's marks say of it.
use Rattle.std.proofs.Common.{◌≡◌, ℕ, Bool, true, false, if◌then◌else◌, not, ◌&&◌, ◌||◌, List, [], ◌∷◌, ◌++◌, refl, ap, ap₂, ◌∙◌, Option, Some, None, arith}
use Rattle.std.specs.Prelude.{codes, flat_map}
use Rattle.std.specs.List.{list_any}
use Rattle.std.specs.Option.{option_map, option_to_list}
use Rattle.std.specs.Str.{bytes_eq}
use Rattle.std.proofs.lemmas.List.Folds.{list_any-append}
use Rattle.design_model.specs.declared.mode.Section.{Section}
use Rattle.design_model.specs.declared.mode.Section.TheVariants.{Vias, NonDefaultRules, Regions, Components, Pins, Blockages, SpecialNets, Nets, Groups, ScanChains, PinProperties, Slots, Fills, Styles}
use Rattle.design_model.specs.EnumWords.{section_word}
use Rattle.def_grammar.specs.Located.{is_named}
use Rattle.def_grammar.specs.Records.{Entry, Record, end_section, entry, in_properties, name_of, section_of, top}
use Rattle.def_grammar.specs.Terminals.{Terminal, is_of_all, is_of_design, is_virtual}
use Rattle.def_grammar.specs.Top.{die_area, end_design, extension, gcell_grid, header, kept, properties, row, tracks, units}
use Rattle.design_tables.specs.Lookups.{is_design_pin, is_end, is_header, is_named_entry, is_of, is_star_pin, lists}
use Rattle.design_tables.specs.Marks.{marks_of, same_role, terminal_marks, terminals_of}
use Rattle.design_tables.specs.declared.role.Role.{Role}
use Rattle.design_tables.specs.declared.role.Role.TheVariants as roles
use Rattle.design_tables.proofs.ListingLemmas.{bytes_eq_sym}

abbrev pub has_role : List ℕ → Role → List ℕ × Role → Bool
has_role n role m = bytes_eq m.0 n && same_role m.1 role

-- a statement has a mark of this role under a name
abbrev pub is_marked : List ℕ → Role → Record → Bool
is_marked n role r = list_any (has_role n role) (marks_of r)

pub any_flat : {X Y : Type 0} (f : Y → Bool) (g : X → List Y) (xs : List X) → list_any f (flat_map g xs) ≡ list_any (λ x. list_any f (g x)) xs
any_flat f g [] = refl
any_flat f g (x ∷ xs) = list_any-append f (g x) (flat_map g xs) ∙ ap (λ b. list_any f (g x) || b) (any_flat f g xs)

pub any_agrees : {X : Type 0} (f g : X → Bool) → ((x : X) → f x ≡ g x) → (xs : List X) → list_any f xs ≡ list_any g xs
any_agrees f g same [] = refl
any_agrees f g same (x ∷ xs) = ap₂ (λ a b. a || b) (same x) (any_agrees f g same xs)

pub never_any : {X : Type 0} (xs : List X) → list_any (λ x. false) xs ≡ false
never_any [] = refl
never_any (x ∷ xs) = never_any xs

or_false : (b : Bool) → (b || false) ≡ b
or_false true = refl
or_false false = refl

and_no : (a b : Bool) → b ≡ false → (a && b) ≡ false
and_no true b e = e
and_no false b e = refl

and_yes : (b : Bool) → (b && true) ≡ b
and_yes true = refl
and_yes false = refl

-- one terminal
module _ (n : List ℕ) (role : Role) where
  abbrev marked_by : Bool → Bool → Bool → Terminal → Bool
  marked_by true design virtual t = bytes_eq t.pin n && same_role roles.StarPin role
  marked_by false true virtual t = bytes_eq t.pin n && same_role roles.DesignPin role
  marked_by false false true t = false
  marked_by false false false t = bytes_eq t.owner n && same_role roles.Component role

  by_terminal : (all design virtual : Bool) (t : Terminal)
      → list_any (has_role n role) (option_to_list (if all then Some (t.pin, roles.StarPin) else (if design then Some (t.pin, roles.DesignPin) else (if virtual then None else Some (t.owner, roles.Component)))))
      ≡ marked_by all design virtual t
  by_terminal true design virtual t = or_false _
  by_terminal false true virtual t = or_false _
  by_terminal false false true t = refl
  by_terminal false false false t = or_false _

  -- an entry
  by_entry : (o : Option (List ℕ)) (s : Section) (ms : List (List ℕ × Role))
      → list_any (has_role n role) (option_to_list (option_map (λ (name : List ℕ). (name, roles.Entry s)) o) ++ (section_word s, roles.Member) ∷ ms)
      ≡ ((is_named n o && same_role (roles.Entry s) role) || ((bytes_eq (section_word s) n && same_role roles.Member role) || list_any (has_role n role) ms))
  by_entry None s ms = refl
  by_entry (Some name) s ms = refl

  terminals_any : (ts : List Terminal) → list_any (has_role n role) (flat_map terminal_marks ts) ≡ list_any (λ t. marked_by (is_of_all t) (is_of_design t) (is_virtual t) t) ts
  terminals_any ts =
      any_flat (has_role n role) terminal_marks ts
      ∙ any_agrees (λ t. list_any (has_role n role) (terminal_marks t)) (λ t. marked_by (is_of_all t) (is_of_design t) (is_virtual t) t) (λ t. by_terminal (is_of_all t) (is_of_design t) (is_virtual t) t) ts

  entry_any : (e : Entry)
      → is_marked n role (entry e)
      ≡ ((is_named n (name_of e) && same_role (roles.Entry (section_of e)) role) || ((bytes_eq (section_word (section_of e)) n && same_role roles.Member role) || list_any (λ t. marked_by (is_of_all t) (is_of_design t) (is_virtual t) t) (terminals_of e)))
  entry_any e =
      by_entry (name_of e) (section_of e) (flat_map terminal_marks (terminals_of e))
      ∙ ap (λ b. (is_named n (name_of e) && same_role (roles.Entry (section_of e)) role) || ((bytes_eq (section_word (section_of e)) n && same_role roles.Member role) || b)) (terminals_any (terminals_of e))

-- where no terminal has the role
none_listed : (n : List ℕ) (role : Role) → same_role roles.StarPin role ≡ false → same_role roles.DesignPin role ≡ false → same_role roles.Component role ≡ false
    → (ts : List Terminal) → list_any (λ t. marked_by n role (is_of_all t) (is_of_design t) (is_virtual t) t) ts ≡ false
none_listed n role star design component ts =
    any_agrees (λ t. marked_by n role (is_of_all t) (is_of_design t) (is_virtual t) t) (λ t. false) (λ t. by (is_of_all t) (is_of_design t) (is_virtual t) t) ts ∙ never_any ts
  where
    by : (a b c : Bool) (t : Terminal) → marked_by n role a b c t ≡ false
    by true b c t = and_no _ _ star
    by false true c t = and_no _ _ design
    by false false true t = refl
    by false false false t = and_no _ _ component

both_ways : (a b c : Bool) → (a && b || (c && false || false)) ≡ (b && a)
both_ways a b c = grind arith

pub marked_entry : (s : Section) (n : List ℕ) (r : Record) → is_marked n (roles.Entry s) r ≡ is_named_entry s n r
marked_entry s n (top (header t k)) = grind arith
marked_entry s n (top (units k)) = grind arith
marked_entry s n (top end_design) = refl
marked_entry s n (top properties) = grind arith
marked_entry s n (top (extension ts)) = refl
marked_entry s n (top (die_area a)) = grind arith
marked_entry s n (top (row a)) = refl
marked_entry s n (top (tracks a)) = refl
marked_entry s n (top (gcell_grid a)) = refl
marked_entry s n (top (kept w ws)) = refl
marked_entry s n (in_properties p) = refl
marked_entry s n (end_section t) = grind arith
marked_entry s n (entry e) =
    entry_any n (roles.Entry s) e
    ∙ ap (λ b. (is_named n (name_of e) && bytes_eq (section_word (section_of e)) (section_word s)) || ((bytes_eq (section_word (section_of e)) n && false) || b)) (none_listed n (roles.Entry s) refl refl refl (terminals_of e))
    ∙ both_ways (is_named n (name_of e)) (bytes_eq (section_word (section_of e)) (section_word s)) (bytes_eq (section_word (section_of e)) n)

-- no word of a statement that a text has once is that of a section
units_apart : (s : Section) → bytes_eq (codes "UNITS") (section_word s) ≡ false
unfolding section_word
units_apart Vias = refl
units_apart NonDefaultRules = refl
units_apart Regions = refl
units_apart Components = refl
units_apart Pins = refl
units_apart Blockages = refl
units_apart SpecialNets = refl
units_apart Nets = refl
units_apart Groups = refl
units_apart ScanChains = refl
units_apart PinProperties = refl
units_apart Slots = refl
units_apart Fills = refl
units_apart Styles = refl

properties_apart : (s : Section) → bytes_eq (codes "PROPERTYDEFINITIONS") (section_word s) ≡ false
unfolding section_word
properties_apart Vias = refl
properties_apart NonDefaultRules = refl
properties_apart Regions = refl
properties_apart Components = refl
properties_apart Pins = refl
properties_apart Blockages = refl
properties_apart SpecialNets = refl
properties_apart Nets = refl
properties_apart Groups = refl
properties_apart ScanChains = refl
properties_apart PinProperties = refl
properties_apart Slots = refl
properties_apart Fills = refl
properties_apart Styles = refl

die_area_apart : (s : Section) → bytes_eq (codes "DIEAREA") (section_word s) ≡ false
unfolding section_word
die_area_apart Vias = refl
die_area_apart NonDefaultRules = refl
die_area_apart Regions = refl
die_area_apart Components = refl
die_area_apart Pins = refl
die_area_apart Blockages = refl
die_area_apart SpecialNets = refl
die_area_apart Nets = refl
die_area_apart Groups = refl
die_area_apart ScanChains = refl
die_area_apart PinProperties = refl
die_area_apart Slots = refl
die_area_apart Fills = refl
die_area_apart Styles = refl

own_only : (b : Bool) → ((b && true) || false) ≡ b
own_only true = refl
own_only false = refl

own_never : (b : Bool) → ((b && false) || false) ≡ false
own_never true = refl
own_never false = refl

apart_never : (b : Bool) → b ≡ false → ((b && true) || false) ≡ false
apart_never b e = own_only b ∙ e

nothing : (a b c : Bool) → c ≡ false → ((a && false) || ((b && false) || c)) ≡ false
nothing a b c e = grind arith

last_one : (a b c d e : Bool) → b ≡ false → d ≡ false → ((a && b) || ((c && d) || e)) ≡ e
last_one a b c d e x y = grind arith

pub marked_header : (s : Section) (r : Record) → is_marked (section_word s) roles.Statement r ≡ is_header s r
marked_header s (top (header t k)) = own_only _ ∙ bytes_eq_sym (section_word t) (section_word s)
marked_header s (top (units k)) = apart_never _ (units_apart s)
marked_header s (top end_design) = refl
marked_header s (top properties) = apart_never _ (properties_apart s)
marked_header s (top (extension ts)) = refl
marked_header s (top (die_area a)) = apart_never _ (die_area_apart s)
marked_header s (top (row a)) = refl
marked_header s (top (tracks a)) = refl
marked_header s (top (gcell_grid a)) = refl
marked_header s (top (kept w ws)) = refl
marked_header s (in_properties p) = refl
marked_header s (end_section t) = own_never _
marked_header s (entry e) = entry_any (section_word s) roles.Statement e ∙ nothing _ _ _ (none_listed (section_word s) roles.Statement refl refl refl (terminals_of e))

pub marked_end : (s : Section) (r : Record) → is_marked (section_word s) roles.SectionEnd r ≡ is_end s r
marked_end s (top (header t k)) = own_never _
marked_end s (top (units k)) = own_never _
marked_end s (top end_design) = refl
marked_end s (top properties) = own_never _
marked_end s (top (extension ts)) = refl
marked_end s (top (die_area a)) = own_never _
marked_end s (top (row a)) = refl
marked_end s (top (tracks a)) = refl
marked_end s (top (gcell_grid a)) = refl
marked_end s (top (kept w ws)) = refl
marked_end s (in_properties p) = refl
marked_end s (end_section t) = own_only _ ∙ bytes_eq_sym (section_word t) (section_word s)
marked_end s (entry e) = entry_any (section_word s) roles.SectionEnd e ∙ nothing _ _ _ (none_listed (section_word s) roles.SectionEnd refl refl refl (terminals_of e))

-- of an entry by its terminals
module _ (n : List ℕ) (role : Role) (test : Terminal → Bool) (own : (s : Section) → same_role (roles.Entry s) role ≡ false) (member : same_role roles.Member role ≡ false)
    (statement : same_role roles.Statement role ≡ false) (end : same_role roles.SectionEnd role ≡ false) (says : (t : Terminal) → marked_by n role (is_of_all t) (is_of_design t) (is_virtual t) t ≡ test t) where
  other : (w : List ℕ) (its : Role) → same_role its role ≡ false → list_any (has_role n role) ((w, its) ∷ []) ≡ false
  other w its e = or_false _ ∙ and_no (bytes_eq w n) (same_role its role) e

  listed_so : (e : Entry) → is_marked n role (entry e) ≡ list_any test (terminals_of e)
  listed_so e =
      entry_any n role e
      ∙ last_one _ _ _ _ _ (own (section_of e)) member
      ∙ any_agrees (λ t. marked_by n role (is_of_all t) (is_of_design t) (is_virtual t) t) test says (terminals_of e)

  pub marked_lists : (r : Record) → is_marked n role r ≡ lists test r
  marked_lists (top (header t k)) = other (section_word t) roles.Statement statement
  marked_lists (top (units k)) = other (codes "UNITS") roles.Statement statement
  marked_lists (top end_design) = refl
  marked_lists (top properties) = other (codes "PROPERTYDEFINITIONS") roles.Statement statement
  marked_lists (top (extension ts)) = refl
  marked_lists (top (die_area a)) = other (codes "DIEAREA") roles.Statement statement
  marked_lists (top (row a)) = refl
  marked_lists (top (tracks a)) = refl
  marked_lists (top (gcell_grid a)) = refl
  marked_lists (top (kept w ws)) = refl
  marked_lists (in_properties p) = refl
  marked_lists (end_section t) = other (section_word t) roles.SectionEnd end
  marked_lists (entry e) = listed_so e

by_owner : (n : List ℕ) (a b c : Bool) (t : Terminal) → marked_by n roles.Component a b c t ≡ (not (a || c || b) && bytes_eq t.owner n)
by_owner n true b c t = and_no _ false refl
by_owner n false true false t = and_no _ false refl
by_owner n false true true t = and_no _ false refl
by_owner n false false true t = refl
by_owner n false false false t = and_yes _

by_design : (n : List ℕ) (a b c : Bool) (t : Terminal) → marked_by n roles.DesignPin a b c t ≡ (not a && b && bytes_eq t.pin n)
by_design n true b c t = and_no _ false refl
by_design n false true c t = and_yes _
by_design n false false true t = refl
by_design n false false false t = and_no _ false refl

by_star : (n : List ℕ) (a b c : Bool) (t : Terminal) → marked_by n roles.StarPin a b c t ≡ (a && bytes_eq t.pin n)
by_star n true b c t = and_yes _
by_star n false true c t = and_no _ false refl
by_star n false false true t = refl
by_star n false false false t = and_no _ false refl

pub marked_component : (n : List ℕ) (r : Record) → is_marked n roles.Component r ≡ lists (is_of n) r
marked_component n r = marked_lists n roles.Component (is_of n) (λ s. refl) refl refl refl (λ t. by_owner n (is_of_all t) (is_of_design t) (is_virtual t) t) r

pub marked_design_pin : (n : List ℕ) (r : Record) → is_marked n roles.DesignPin r ≡ lists (is_design_pin n) r
marked_design_pin n r = marked_lists n roles.DesignPin (is_design_pin n) (λ s. refl) refl refl refl (λ t. by_design n (is_of_all t) (is_of_design t) (is_virtual t) t) r

pub marked_star_pin : (n : List ℕ) (r : Record) → is_marked n roles.StarPin r ≡ lists (is_star_pin n) r
marked_star_pin n r = marked_lists n roles.StarPin (is_star_pin n) (λ s. refl) refl refl refl (λ t. by_star n (is_of_all t) (is_of_design t) (is_virtual t) t) r
