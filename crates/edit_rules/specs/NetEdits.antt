-- Edits of one net of a design (own): what they make of its terminals and its wiring, and the plan of each for its entry, which is
-- that in NETS, or else that in SPECIALNETS.
use Rattle.std.specs.Prelude.{ℕ, suc, ◌+◌, Bool, true, false, not, ◌&&◌, ◌||◌, ◌==◌, List, [], ◌∷◌, ◌++◌, length, take_while, drop, Option, Some, None, unwrap_or, Result, Ok, Err, codes, if◌then◌else◌}
use Rattle.std.specs.List.{filter_map, list_all, list_any}
use Rattle.std.specs.Str.{bytes_eq}
use Rattle.edit_model.specs.declared.edit.EditCode.TheVariants.{UnknownName, Fixed, Connection, WiringText, WiringApart}
use Rattle.design_model.specs.declared.fault.Fault.{Fault}
use Rattle.design_model.specs.declared.mode.Section.{Section}
use Rattle.design_model.specs.declared.mode.Section.TheVariants.{Nets, Pins, SpecialNets}
use Rattle.form_meanings.specs.Words.{◌>>=◌, Rest, is_plus, is_word, start}
use Rattle.form_meanings.specs.Meaning.{spell_all}
use Rattle.statement_model.specs.Boundaries.{words}
use Rattle.statement_model.specs.Form.{Form, many, read, spell}
use Rattle.statement_model.specs.Tokens.{Open, Token, between, comment, next_open, tokens}
use Rattle.def_grammar.specs.Clauses.{KeptClause}
use Rattle.def_grammar.specs.Components.{Component}
use Rattle.def_grammar.specs.Located.{is_entry}
use Rattle.def_grammar.specs.Nets.{NetClause, is_net, net_clause, net_kept, net_subnet, net_wiring}
use Rattle.def_grammar.specs.Parts.{is_some}
use Rattle.def_grammar.specs.Records.{Entry, Record, entry, entry_of, net, special_net}
use Rattle.def_grammar.specs.SpecialNets.{SpecialClause, special_clause, special_has_wiring, special_kept, special_mask, special_polygon, special_rectangle, special_shape_word, special_subnet, special_vias}
use Rattle.def_grammar.specs.Terminals.{Terminal, is_of_all, is_virtual, terminal}
use Rattle.def_grammar.specs.Wiring.{SpecialWiringKind, WiringKind, WiringStatus, cover, fixed, noshield, routed, shields, special_wired, wired}
use Rattle.lef_grammar.specs.Library.{Library, Macro, macro_named, pin_named}
use Rattle.entry_rules.specs.Unknown.{component_named, stands_in}
use Rattle.edit_rules.specs.NameTexts.{is_name_text}
use Rattle.edit_rules.specs.Plans.{Plan, StatementChange, refused_plan}

-- what is made of a net
pub data NetChange : Type 0 where
  connect_to : List ℕ → List ℕ → NetChange
  disconnect_from : List ℕ → List ℕ → NetChange
  route_by : List ℕ → NetChange
  unroute_all : NetChange

-- the terminal ( c p ) by name: * stands for all components, and VPIN for nothing
abbrev pub is_terminal : List ℕ → List ℕ → Terminal → Bool
is_terminal c p t = not (is_of_all t || is_virtual t) && bytes_eq t.owner c && bytes_eq t.pin p

abbrev pub terminals_of : Entry → List Terminal
terminals_of (net (is_net n)) = n.terminals
terminals_of (special_net n) = n.terminals
terminals_of _ = []

abbrev pub lists : List ℕ → List ℕ → Entry → Bool
lists c p e = list_any (is_terminal c p) (terminals_of e)

-- the terminals before the first that is this one, and those behind it
abbrev pub before_terminal : List ℕ → List ℕ → List Terminal → List Terminal
before_terminal c p ts = take_while (λ t. not (is_terminal c p t)) ts

abbrev pub behind_terminal : List ℕ → List ℕ → List Terminal → List Terminal
behind_terminal c p ts = drop (suc (length (before_terminal c p ts))) ts

abbrev pub new_terminal : List ℕ → List ℕ → Terminal
new_terminal c p = record { owner = c; pin = p; is_synthesized = false }

-- ( c p ), with a space before it
abbrev pub terminal_text : List ℕ → List ℕ → List ℕ
terminal_text c p = (((codes " ( " ++ c) ++ 32 ∷ []) ++ p) ++ codes " )"

-- what a clause is to the wiring of its net: none of it; wiring, which may be held where it is; or one that bars from changing it,
-- as what it means isn't read
pub data Role : Type 0 where
  apart : Role
  wiring : Bool → Role
  barring : Role

abbrev pub is_wiring : Role → Bool
is_wiring (wiring held) = true
is_wiring _ = false

abbrev pub is_held : Role → Bool
is_held (wiring held) = held
is_held _ = false

abbrev pub is_barring : Role → Bool
is_barring barring = true
is_barring _ = false

-- FIXED and COVER hold wiring
abbrev pub holds : WiringStatus → Bool
holds routed = false
holds fixed = true
holds cover = true

abbrev pub net_holds : WiringKind → Bool
net_holds noshield = false
net_holds (wired status) = holds status

abbrev pub special_holds : SpecialWiringKind → Bool
special_holds (shields name) = false
special_holds (special_wired status) = holds status

-- a clause that is kept for want of its form bars where its word begins wiring
abbrev pub is_one_of : List (List ℕ) → List ℕ → Bool
is_one_of all w = list_any (λ word. is_word word w) all

abbrev pub kept_role : List (List ℕ) → KeptClause → Role
kept_role begins c = if is_one_of begins c.keyword then barring else apart

abbrev pub net_role : NetClause → Role
net_role (net_subnet tokens) = barring
net_role (net_wiring w) = wiring (net_holds w.kind)
net_role (net_kept c) = kept_role (codes "ROUTED" ∷ codes "FIXED" ∷ codes "COVER" ∷ codes "NOSHIELD" ∷ []) c
net_role _ = apart

-- in SPECIALNETS shapes by themselves are wiring too
abbrev pub special_role : SpecialClause → Role
special_role (special_subnet tokens) = barring
special_role (special_shape_word word) = wiring false
special_role (special_mask word) = wiring false
special_role (special_rectangle layer corners) = wiring false
special_role (special_vias v) = wiring false
special_role (special_polygon layer polygon) = wiring false
special_role (special_has_wiring w) = wiring (special_holds w.kind)
special_role (special_kept c) =
    kept_role (codes "ROUTED" ∷ codes "FIXED" ∷ codes "COVER" ∷ codes "SHIELD" ∷ codes "RECT" ∷ codes "VIA" ∷ codes "POLYGON" ∷ codes "SHAPE" ∷ codes "MASK" ∷ []) c
special_role _ = apart

-- a comment begins somewhere in these bytes
abbrev pub is_comment : Open → Bool
is_comment comment = true
is_comment _ = false

unfoldable pub opens_comment : Open → List ℕ → Bool
opens_comment state [] = is_comment state
opens_comment state (b ∷ bs) = is_comment state || opens_comment (next_open 0 state b) bs

-- clauses of a form, each with what it is to wiring
module _ {C : Type 0} (form : Form C) (role : C → Role) where
  abbrev pub is_of_wiring : C → Bool
  is_of_wiring c = is_wiring (role c)

  -- the clauses before the wiring, the wiring in one piece, and those behind it
  abbrev pub before_wiring : List C → List C
  before_wiring cs = take_while (λ c. not (is_of_wiring c)) cs

  abbrev pub from_wiring : List C → List C
  from_wiring cs = drop (length (before_wiring cs)) cs

  abbrev pub wiring_of : List C → List C
  wiring_of cs = take_while is_of_wiring (from_wiring cs)

  abbrev pub behind_wiring : List C → List C
  behind_wiring cs = drop (length (wiring_of cs)) (from_wiring cs)

  -- more wiring stands behind another clause, or a clause bars from changing it
  abbrev pub is_barred : List C → Bool
  is_barred cs = list_any is_of_wiring (behind_wiring cs) || list_any (λ c. is_barring (role c)) cs

  abbrev pub tokens_of : List C → ℕ
  tokens_of cs = length (spell_all (spell form) cs)

  -- what is read of the words of a text that a ; comes behind: clauses, and nothing else
  abbrev pub is_alone : List (List ℕ) → Option ℕ → Bool
  is_alone (w ∷ []) None = true
  is_alone _ _ = false

  abbrev pub whole_text : Option (List C × Rest) → Option (List C)
  whole_text None = None
  whole_text (Some (cs, rest)) = if is_alone rest.words rest.bad && list_all is_of_wiring cs && not (length cs == 0) then Some cs else None

  abbrev pub said_by : Result ℕ Fault → List Token → Option (List C)
  said_by (Err fault) ps = None
  said_by (Ok n) ps = whole_text (read (many is_plus form) (start (words ps ++ codes ";" ∷ [])))

  -- the clauses that a text says: one or more, all of them wiring, with no invalid number and no comment
  abbrev pub wiring_said : List ℕ → Option (List C)
  wiring_said text = if opens_comment between text then None else said_by (tokens text).end (tokens text).pieces

  abbrev pub routed_clauses : List ℕ → List C → List C
  routed_clauses text cs = before_wiring cs ++ (unwrap_or (wiring_said text) [] ++ behind_wiring cs)

  abbrev pub unrouted_clauses : List C → List C
  unrouted_clauses cs = before_wiring cs ++ behind_wiring cs

  -- what an edit makes of the clauses of an entry
  abbrev pub edited_clauses : NetChange → List C → List C
  edited_clauses (route_by text) cs = routed_clauses text cs
  edited_clauses unroute_all cs = unrouted_clauses cs
  edited_clauses _ cs = cs

  -- a text in the place of the wiring, which stands behind so many tokens; or at the entry's end, with a space before it
  abbrev pub route_change : ℕ → List ℕ → List C → List Record → StatementChange
  route_change front text cs said = record {
    before = front + tokens_of (before_wiring cs);
    taken = tokens_of (wiring_of cs);
    put = if length (wiring_of cs) == 0 then 32 ∷ text else text;
    said = said;
  }

  abbrev pub unroute_change : ℕ → List C → List Record → StatementChange
  unroute_change front cs said = record { before = front + tokens_of (before_wiring cs); taken = tokens_of (wiring_of cs); put = []; said = said }

  -- the plan of changing the wiring of an entry with these tokens, which then says this
  abbrev pub route_plan : List Token → ℕ → List ℕ → List C → List Record → Plan
  route_plan ps front text cs said = record {
    refusals =
        (list_any (λ c. is_held (role c)) cs, Fixed)
        ∷ (not (is_some (wiring_said text)), WiringText)
        ∷ (is_barred cs, WiringApart) ∷ [];
    changes = (ps, route_change front text cs said) ∷ [];
  }

  abbrev pub unroute_plan : List Token → ℕ → List C → List Record → Plan
  unroute_plan ps front cs said = record {
    refusals = (list_any (λ c. is_held (role c)) cs, Fixed) ∷ (is_barred cs, WiringApart) ∷ [];
    changes = if length (wiring_of cs) == 0 then [] else (ps, unroute_change front cs said) ∷ [];
  }

abbrev pub edited_terminals : NetChange → List Terminal → List Terminal
edited_terminals (connect_to c p) ts = ts ++ new_terminal c p ∷ []
edited_terminals (disconnect_from c p) ts = before_terminal c p ts ++ behind_terminal c p ts
edited_terminals _ ts = ts

-- what an edit makes of the entry of its net
abbrev pub edited_net : NetChange → Entry → Entry
edited_net change (net (is_net n)) = net (is_net (record { name = n.name; terminals = edited_terminals change n.terminals; clauses = edited_clauses net_clause net_role change n.clauses }))
edited_net change (special_net n) = special_net (record { name = n.name; terminals = edited_terminals change n.terminals; clauses = edited_clauses special_clause special_role change n.clauses })
edited_net change e = e

-- how many tokens stand before the terminals of an entry, and are some terminals
abbrev pub tokens_of_terminals : List Terminal → ℕ
tokens_of_terminals ts = length (spell_all (spell terminal) ts)

abbrev pub front_of : List Terminal → ℕ
front_of ts = 2 + tokens_of_terminals ts

abbrev pub tokens_of_first : List Terminal → ℕ
tokens_of_first [] = 0
tokens_of_first (t ∷ ts) = length (spell terminal t)

-- a terminal put behind the others, and the first that is this one taken out
abbrev pub connect_change : List ℕ → List ℕ → List Terminal → List Record → StatementChange
connect_change c p ts said = record { before = front_of ts; taken = 0; put = terminal_text c p; said = said }

abbrev pub disconnect_change : List ℕ → List ℕ → List Terminal → List Record → StatementChange
disconnect_change c p ts said = record {
  before = front_of (before_terminal c p ts);
  taken = tokens_of_first (drop (length (before_terminal c p ts)) ts);
  put = [];
  said = said;
}

-- ( c p ) may be connected: c is PIN and the design has a pin p, or c is a component whose macro is known and has a pin p
abbrev pub has_pin : List ℕ → Option Macro → Bool
has_pin p None = false
has_pin p (Some m) = is_some (pin_named m p)

abbrev pub is_pin : Library → List Record → List ℕ → List ℕ → Bool
is_pin library design c p =
    is_name_text c && is_name_text p
    && (if is_word (codes "PIN") c then stands_in design Pins p
    else not (is_word (codes "VPIN") c) && has_pin p (component_named design c >>= λ (d : Component). macro_named library d.cell))

-- the plans of an edit of the entry of its net, by its tokens
module _ (library : Library) (design : List Record) where
  abbrev pub wiring_plan : NetChange → List Token → Entry → List Record → Plan
  wiring_plan (route_by text) ps (net (is_net n)) said = route_plan net_clause net_role ps (front_of n.terminals) text n.clauses said
  wiring_plan (route_by text) ps (special_net n) said = route_plan special_clause special_role ps (front_of n.terminals) text n.clauses said
  wiring_plan unroute_all ps (net (is_net n)) said = unroute_plan net_clause net_role ps (front_of n.terminals) n.clauses said
  wiring_plan unroute_all ps (special_net n) said = unroute_plan special_clause special_role ps (front_of n.terminals) n.clauses said
  wiring_plan _ ps e said = refused_plan UnknownName

  abbrev pub plan_of_entry : NetChange → List Token → Entry → Plan
  plan_of_entry (connect_to c p) ps e = record {
    refusals = (not (is_pin library design c p), UnknownName) ∷ (list_any (lists c p) (filter_map entry_of design), Connection) ∷ [];
    changes = (ps, connect_change c p (terminals_of e) (entry (edited_net (connect_to c p) e) ∷ [])) ∷ [];
  }
  plan_of_entry (disconnect_from c p) ps e = record {
    refusals = (not (lists c p e), Connection) ∷ [];
    changes = (ps, disconnect_change c p (terminals_of e) (entry (edited_net (disconnect_from c p) e) ∷ [])) ∷ [];
  }
  plan_of_entry change ps e = wiring_plan change ps e (entry (edited_net change e) ∷ [])

  abbrev pub plan_of_record : NetChange → List Token → Option Entry → Plan
  plan_of_record change ps None = refused_plan UnknownName
  plan_of_record change ps (Some e) = plan_of_entry change ps e

  -- where no net has the name, it is unknown
  abbrev pub net_plan : NetChange → Option (List Token × Record) → Plan
  net_plan change None = refused_plan UnknownName
  net_plan change (Some x) = plan_of_record change x.0 (entry_of x.1)

-- the section of the entry that an edit is about: NETS where that has the net, but for a terminal that only the entry of
-- SPECIALNETS lists
abbrev pub lists_in : Section → List ℕ → List ℕ → List ℕ → Entry → Bool
lists_in s name c p e = is_entry s name (Some e) && lists c p e

abbrev pub section_of_net : NetChange → List ℕ → List Record → Section
section_of_net (disconnect_from c p) name design =
    if list_any (lists_in SpecialNets name c p) (filter_map entry_of design) && not (list_any (lists_in Nets name c p) (filter_map entry_of design)) then SpecialNets
    else (if stands_in design Nets name then Nets else SpecialNets)
section_of_net _ name design = if stands_in design Nets name then Nets else SpecialNets
