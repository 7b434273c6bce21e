-- Edits that put an entry into a section or take it out (own): the number in the section's header is set to that of its entries.
use Rattle.std.specs.Prelude.{ℕ, suc, ◌-◌, Bool, false, not, ◌&&◌, ◌||◌, List, [], ◌∷◌, ◌++◌, length, map, filter, flat_map, Option, Some, None, ℤ, codes, decimal, if◌then◌else◌}
use Rattle.std.specs.Fmt.{signed_decimal}
use Rattle.std.specs.List.{filter_map, list_any}
use Rattle.std.specs.Str.{bytes_eq}
use Rattle.edit_model.specs.declared.edit.EditCode.TheVariants.{UnknownName, Fixed, BadName, NameTaken, Number, NoSection, Connection}
use Rattle.design_model.specs.declared.mode.Section.{Section}
use Rattle.design_model.specs.declared.mode.Section.TheVariants.{Blockages, Components}
use Rattle.design_model.specs.EnumWords.{section_word}
use Rattle.statement_model.specs.Tokens.{Token}
use Rattle.def_grammar.specs.Blockages.{BlockageKind, blocked_rectangle, blocks, blocks_layer, blocks_placement}
use Rattle.def_grammar.specs.Components.{Component}
use Rattle.def_grammar.specs.Located.{is_entry}
use Rattle.def_grammar.specs.Parts.{is_some}
use Rattle.def_grammar.specs.Placing.{is_held, placing}
use Rattle.def_grammar.specs.Points.{Corners}
use Rattle.def_grammar.specs.Records.{Entry, Record, blockage, component, end_section, entry, entry_of, section_of, top}
use Rattle.def_grammar.specs.Terminals.{Terminal, is_of_all, is_of_design, is_virtual}
use Rattle.def_grammar.specs.Top.{header}
use Rattle.lef_grammar.specs.Library.{Library, layer_named}
use Rattle.edit_rules.specs.ComponentEdits.{is_known_macro, is_out}
use Rattle.edit_rules.specs.NameTexts.{is_component_name, is_name_text}
use Rattle.edit_rules.specs.NetEdits.{terminals_of}
use Rattle.edit_rules.specs.Plans.{Plan, StatementChange}

-- what is made of a section
pub data SectionChange : Type 0 where
  add_component : List ℕ → List ℕ → SectionChange
  remove_component : List ℕ → SectionChange
  add_blockage : Option (List ℕ) → ℤ → ℤ → ℤ → ℤ → SectionChange

abbrev pub is_section : Section → Section → Bool
is_section s t = bytes_eq (section_word s) (section_word t)

-- the section's header and its END, by their tokens
abbrev pub is_header : Section → Record → Bool
is_header s (top (header t n)) = is_section s t
is_header s _ = false

abbrev pub is_end : Section → Record → Bool
is_end s (end_section t) = is_section s t
is_end s _ = false

abbrev pub tokens_where : (Record → Bool) → List (List Token × Record) → Option (List Token)
tokens_where test [] = None
tokens_where test (x ∷ xs) = if test x.1 then Some x.0 else tokens_where test xs

-- how many entries a section has
abbrev pub entries_in : Section → List Record → List Entry
entries_in s design = filter (λ e. is_section s (section_of e)) (filter_map entry_of design)

-- the header with another number
abbrev pub counted : Section → ℕ → Record → Record
counted s n (top (header t old)) = top (header t (if is_section s t then decimal n else old))
counted s n r = r

abbrev pub recounted : Section → ℕ → List Record → List Record
recounted s n design = map (counted s n) design

-- an entry last in a section
abbrev pub last_before : Section → Entry → Record → List Record
last_before s e r = if is_end s r then entry e ∷ r ∷ [] else r ∷ []

abbrev pub with_last : Section → Entry → List Record → List Record
with_last s e design = flat_map (last_before s e) design

-- the entries of a section but for that of a name
abbrev pub is_other : Section → List ℕ → Record → Bool
is_other s name r = not (is_entry s name (entry_of r))

abbrev pub without : Section → List ℕ → List Record → List Record
without s name design = filter (is_other s name) design

-- `- c m ;`, and what it says
abbrev pub component_text : List ℕ → List ℕ → List ℕ
component_text c m = (((codes "- " ++ c) ++ 32 ∷ []) ++ m) ++ codes " ;\n"

abbrev pub new_component : List ℕ → List ℕ → Entry
new_component c m = component (record { name = c; cell = m; rest = []; clauses = [] })

-- `- LAYER l RECT ( x1 y1 ) ( x2 y2 ) ;`, or with PLACEMENT where there is no layer, and what it says
abbrev pub kind_text : Option (List ℕ) → List ℕ
kind_text None = codes "PLACEMENT"
kind_text (Some layer) = codes "LAYER " ++ layer

abbrev pub kind_of : Option (List ℕ) → BlockageKind
kind_of None = blocks_placement
kind_of (Some layer) = blocks_layer layer

abbrev pub corner_text : ℤ → ℤ → List ℕ
corner_text x y = (((codes " ( " ++ signed_decimal x) ++ 32 ∷ []) ++ signed_decimal y) ++ codes " )"

abbrev pub blockage_text : Option (List ℕ) → ℤ → ℤ → ℤ → ℤ → List ℕ
blockage_text layer x1 y1 x2 y2 = ((((codes "- " ++ kind_text layer) ++ codes " RECT") ++ corner_text x1 y1) ++ corner_text x2 y2) ++ codes " ;\n"

abbrev pub corners_at : ℤ → ℤ → ℤ → ℤ → Corners
corners_at x1 y1 x2 y2 = record { first = record { x = signed_decimal x1; y = signed_decimal y1 }; second = record { x = signed_decimal x2; y = signed_decimal y2 } }

abbrev pub new_blockage : Option (List ℕ) → ℤ → ℤ → ℤ → ℤ → Entry
new_blockage layer x1 y1 x2 y2 = blockage (blocks (record { kind = kind_of layer; clauses = []; first = blocked_rectangle (corners_at x1 y1 x2 y2); others = [] }))

-- the changes: the number in a header, an entry put before the END, and an entry taken out
abbrev pub count_change : Section → ℕ → StatementChange
count_change s n = record { before = 1; taken = 1; put = decimal n; said = top (header s (decimal n)) ∷ [] }

abbrev pub put_change : Section → List ℕ → Entry → StatementChange
put_change s text e = record { before = 0; taken = 0; put = text; said = entry e ∷ end_section s ∷ [] }

abbrev pub take_change : List Token → StatementChange
take_change ps = record { before = 0; taken = length ps; put = []; said = [] }

abbrev pub two_changes : Option (List Token) → StatementChange → Option (List Token) → StatementChange → List (List Token × StatementChange)
two_changes (Some first) a (Some second) b = (first, a) ∷ (second, b) ∷ []
two_changes _ a _ b = []

-- the changes that put an entry into a section
abbrev pub putting : Section → List ℕ → Entry → List (List Token × Record) → List Record → List (List Token × StatementChange)
putting s text e all design =
    two_changes (tokens_where (is_header s) all) (count_change s (suc (length (entries_in s design)))) (tokens_where (is_end s) all) (put_change s text e)

-- those that take out the entry of a name, which has these tokens
abbrev pub taking : Section → List Token → List (List Token × Record) → List Record → List (List Token × StatementChange)
taking s ps all design = two_changes (tokens_where (is_header s) all) (count_change s (length (entries_in s design) - 1)) (Some ps) (take_change ps)

-- an entry lists a terminal of a component by name
abbrev pub is_of : List ℕ → Terminal → Bool
is_of c t = not (is_of_all t || is_virtual t || is_of_design t) && bytes_eq t.owner c

abbrev pub lists_of : List ℕ → Entry → Bool
lists_of c e = list_any (is_of c) (terminals_of e)

-- a text that has no such section
abbrev pub lacks : Section → List Record → Bool
lacks s design = not (list_any (is_header s) design)

-- no layer of the name is known, where one is named
abbrev pub is_unknown_layer : Library → Option (List ℕ) → Bool
is_unknown_layer library None = false
is_unknown_layer library (Some name) = not (is_name_text name && is_some (layer_named library name))

abbrev pub is_held_component : Option (List Token × Component) → Bool
is_held_component None = false
is_held_component (Some x) = is_held (placing x.1.clauses)

abbrev pub tokens_of_found : Option (List Token × Component) → List Token
tokens_of_found None = []
tokens_of_found (Some x) = x.0

-- the plan of an edit, of a text with these statements; a component is found among them by a look-up
module _ (library : Library) (all : List (List Token × Record)) (design : List Record) (found : List ℕ → Option (List Token × Component)) where
  abbrev pub section_plan : SectionChange → Plan
  section_plan (add_component c m) = record {
    refusals =
        (not (is_known_macro library m), UnknownName)
        ∷ (not (is_component_name c), BadName)
        ∷ (is_some (found c), NameTaken)
        ∷ (lacks Components design, NoSection) ∷ [];
    changes = putting Components (component_text c m) (new_component c m) all design;
  }
  section_plan (remove_component c) = record {
    refusals =
        (not (is_some (found c)), UnknownName)
        ∷ (is_held_component (found c), Fixed)
        ∷ (list_any (lists_of c) (filter_map entry_of design), Connection) ∷ [];
    changes = taking Components (tokens_of_found (found c)) all design;
  }
  section_plan (add_blockage layer x1 y1 x2 y2) = record {
    refusals =
        (is_unknown_layer library layer, UnknownName)
        ∷ (is_out x1 || is_out y1 || is_out x2 || is_out y2, Number)
        ∷ (lacks Blockages design, NoSection) ∷ [];
    changes = putting Blockages (blockage_text layer x1 y1 x2 y2) (new_blockage layer x1 y1 x2 y2) all design;
  }

-- what an edit makes of the design
abbrev pub edited_sections : SectionChange → List Record → List Record
edited_sections (add_component c m) design = recounted Components (suc (length (entries_in Components design))) (with_last Components (new_component c m) design)
edited_sections (remove_component c) design = recounted Components (length (entries_in Components design) - 1) (without Components c design)
edited_sections (add_blockage layer x1 y1 x2 y2) design =
    recounted Blockages (suc (length (entries_in Blockages design))) (with_last Blockages (new_blockage layer x1 y1 x2 y2) design)
